-- A slot call: an input and a list of choices, any numbers, any length (sections 3 and 6).
use Rattle.std.specs.Prelude.{ℕ, Bool, not, List, length, get_or, leb, ltb, eqb}
use Rattle.quantity.specs.Choice.{either}
use Rattle.quantity.specs.Sums.{every}
use Rattle.quantity.specs.Limits.{largest_amount}
use Rattle.quantity.specs.declared.Units.{Units}

pub record Call : Type 0 where
  pub input : ℕ
  pub choices : List ℕ

-- the call of these arguments
abbrev pub call_of : Units → List ℕ → Call
call_of input choices = record { input = input.0; choices = choices }

-- the choice for operator k
abbrev pub choice_for : Call → ℕ → ℕ
choice_for call k = get_or call.choices k 0

-- 1: there are not as many choices as operators
unfoldable pub choices_miscounted : ℕ → Call → Bool
choices_miscounted operators call = not (eqb (length call.choices) operators)

-- 1: the input or a choice is above 1,073,741,823
unfoldable pub amount_too_large : Call → Bool
amount_too_large call = either (ltb largest_amount call.input) (not (every (λ k. leb (choice_for call k) largest_amount) (length call.choices)))
