-- The account of a run (section 6, last paragraph): kept from the path and the arguments of its slot calls alone, without run or words.
use Rattle.std.specs.Prelude.{ℕ, zero, suc, ◌+◌, ◌-◌, Bool, not, List, [], ◌∷◌, ◌++◌, Result, Ok, Err, length, ltb}
use Rattle.quantity.specs.Limits.{last_slot}
use Rattle.quantity.specs.Refusals.{Case, ◌⇒◌, first_of}
use Rattle.quantity.specs.declared.Units.{Units}
use Rattle.quantity.specs.declared.refusal.Refusal.{Refusal}
use Rattle.quantity.specs.declared.refusal.Refusal.TheVariants.{Unusable, InputBreaksDeclaration, ChoiceAboveGreatest}
use Rattle.operator.specs.Held.{Held, nothing}
use Rattle.operator.specs.Operators.{least_output, greatest_output, held_after}
use Rattle.flow.specs.Declarations.{class_of}
use Rattle.flow.specs.Keeping.{keeps_class}
use Rattle.sheet.specs.Paths.{Path}
use Rattle.figures.specs.Answers.{operator_at}
use Rattle.run.specs.Calls.{Call, choice_for, choices_miscounted, amount_too_large}

-- the next slot number; what entered, the inputs taken so far; what left, the last operator's outputs of the same slots;
-- and section 3's b, h and past of operator k
pub record Account : Type 0 where
  pub slot : ℕ
  pub entered : List ℕ
  pub left : List ℕ
  pub held : ℕ → Held

-- it starts at slot 0 with no inputs and all else 0
abbrev pub new_account : Account
new_account = record { slot = 0; entered = []; left = []; held = λ k. nothing }

-- operators go from left to right: r of operator k is the call's input, or what the operator before it sends, its least plus its choice
unfoldable pub arriving : Path → Account → Call → ℕ → ℕ
arriving path account call zero = call.input
arriving path account call (suc k) = least_output (operator_at path k) account.slot (account.held k) (arriving path account call k) + choice_for call k

-- s of operator k: what arrives at the next one, or leaves the last
abbrev pub sending : Path → Account → Call → ℕ → ℕ
sending path account call k = arriving path account call (suc k)

-- no slot number is left
unfoldable pub slots_used_up : Account → Bool
slots_used_up account = ltb last_slot account.slot

-- the inputs taken and this one do not keep the declaration
unfoldable pub breaks_declaration : Path → Account → Call → Bool
breaks_declaration path account call = not (keeps_class (class_of path.declaration) (account.entered ++ (call.input ∷ [])))

-- the choice is above operator k's greatest minus least
unfoldable pub choice_too_large : Path → Account → Call → ℕ → Bool
choice_too_large path account call k =
    ltb
    (greatest_output (operator_at path k) account.slot (account.held k) (arriving path account call k)
    - least_output (operator_at path k) account.slot (account.held k) (arriving path account call k))
    (choice_for call k)

-- so of the first n operators, left to right
unfoldable pub choices_too_large : Path → Account → Call → ℕ → List Case
choices_too_large path account call zero = []
choices_too_large path account call (suc n) = choices_too_large path account call n ++ ((choice_too_large path account call n ⇒ ChoiceAboveGreatest n) ∷ [])

-- why a call is refused; where none of these stands it is taken
abbrev pub account_cases : Path → Account → Call → List Case
account_cases path account call =
    (choices_miscounted (length path.operators) call ⇒ Unusable)
    ∷ (amount_too_large call ⇒ Unusable)
    ∷ (slots_used_up account ⇒ Unusable)
    ∷ (breaks_declaration path account call ⇒ InputBreaksDeclaration)
    ∷ choices_too_large path account call (length path.operators)

-- what leaves the last operator
abbrev pub leaving : Path → Account → Call → ℕ
leaving path account call = arriving path account call (length path.operators)

-- what is answered: the output, or the refusal by number and place
unfoldable pub account_answer : Path → Account → Call → Result Units Refusal
account_answer path account call = first_of (account_cases path account call) Err (Ok (record { 0 = leaving path account call }))

-- the account of a call that is taken: each operator keeps b + r − s, with h and a delayer's past slots as section 3 says
unfoldable pub account_next : Path → Account → Call → Account
account_next path account call =
    record {
      slot = account.slot + 1;
      entered = account.entered ++ (call.input ∷ []);
      left = account.left ++ (leaving path account call ∷ []);
      held = λ k. held_after (operator_at path k) (account.held k) (arriving path account call k) (sending path account call k);
    }

-- and any other call leaves it as it was
unfoldable pub account_after : Path → Account → Call → Account
account_after path account call = first_of (account_cases path account call) (λ why. account) (account_next path account call)
