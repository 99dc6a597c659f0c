-- Demand 3: what is promised of every list of slot calls from a newly opened run.
use Rattle.std.specs.Prelude.{ℕ, suc, ◌+◌, ◌≤◌, ◌<◌, ◌≡◌, true, false, List, [], ◌∷◌, ◌++◌, ◌⊎◌, ◌↔◌, Result, Ok, Err, length, get_or, take}
use Rattle.quantity.specs.Sums.{total}
use Rattle.quantity.specs.declared.Units.{Units}
use Rattle.quantity.specs.declared.refusal.Refusal.{Refusal}
use Rattle.quantity.specs.declared.refusal.Refusal.TheVariants.{Unusable}
use Rattle.flow.specs.Flows.{flow_of}
use Rattle.flow.specs.Classes.{Keeps}
use Rattle.flow.specs.Declarations.{class_of}
use Rattle.words.specs.Stored.{word_at}
use Rattle.sheet.specs.Paths.{Path}
use Rattle.sheet.specs.Sheets.{path_in}
use Rattle.figures.specs.declared.PathFigures.{PathFigures}
use Rattle.figures.specs.Answers.{figures_of, no_figure}
use Rattle.run.specs.Calls.{Call, choices_miscounted, amount_too_large}
use Rattle.run.specs.Account.{Account, new_account, arriving, slots_used_up, breaks_declaration, account_answer}
use Rattle.run.specs.Runs.{run_word_count}
use Rattle.run.specs.Slots.{slotted_of, output_of}
use Rattle.run.specs.Watching.{run_holds}
use Rattle.run.specs.Words.{run_word}
use Rattle.run.specs.Taking.{Took}
use Rattle.run.specs.Lists.{Running, opened, slotted_all, account_all, arrived_all}

-- the delay and the capacities that figures are answered with; 0 where they are refused
abbrev pub delay_told : Result PathFigures Refusal → ℕ
delay_told (Ok answer) = answer.delay.0
delay_told (Err why) = 0

abbrev pub capacity_told : Result PathFigures Refusal → ℕ → ℕ
capacity_told (Ok answer) k = (get_or answer.figures k no_figure).capacity.0
capacity_told (Err why) k = 0

-- call n of a list
abbrev pub call_at : List Call → ℕ → Call
call_at calls n = get_or calls n (record { input = 0; choices = [] })

module _ (sheet lent : List ℕ) (calls : List Call) where
  -- the path, and the delay and the capacities that `figures` answers for the sheet
  abbrev pub path : Path
  path = path_in sheet

  abbrev pub delay : ℕ
  delay = delay_told (figures_of sheet)

  abbrev pub capacity : ℕ → ℕ
  capacity = capacity_told (figures_of sheet)

  -- run and words after the first n calls, and the account of these
  abbrev pub running_after : ℕ → Running
  running_after n = slotted_all (opened sheet lent) (take n calls)

  abbrev pub account_after_calls : ℕ → Account
  account_after_calls n = account_all path new_account (take n calls)

  -- what arrived at each operator in the slots that these took
  abbrev pub arrived_after : ℕ → ℕ → List ℕ
  arrived_after n = arrived_all path new_account (take n calls)

  -- what call n answers
  abbrev pub answer_to : ℕ → Result Units Refusal
  answer_to n = output_of (slotted_of (running_after n).run (running_after n).words (call_at calls n))

  -- the account of the whole list
  abbrev pub final : Account
  final = account_all path new_account calls

  pub record NeverLate : Type 0 where
    -- each call took a slot exactly when the account takes it, with the same output; otherwise it answered the account's refusal by number and place
    pub answers : (n : ℕ) → n < length calls → answer_to n ≡ account_answer path (account_after_calls n) (call_at calls n)
    -- the account's test of the declaration is section 2: the inputs taken and this one keep it
    pub declared : (n : ℕ) → n < length calls
        → (breaks_declaration path (account_after_calls n) (call_at calls n) ≡ false) ↔ Keeps (class_of path.declaration) (flow_of ((account_after_calls n).entered ++ ((call_at calls n).input ∷ [])))
    -- before and after every call each operator has the account's b, h and past
    pub holds : (n : ℕ) → n ≤ length calls → (k : ℕ) → k < length path.operators → run_holds (running_after n).run (running_after n).words k ≡ (account_after_calls n).held k
    -- before and after every call the run has 2,048 words
    pub sized : (n : ℕ) → n ≤ length calls → length (running_after n).words ≡ run_word_count
    -- and word j is section 6's: under a uniform declaration the input of the latest slot whose number leaves j; of a delayer the total that arrived by the end of the latest slot whose number leaves j; other words are 0
    pub words : (n : ℕ) → n ≤ length calls → (j : ℕ) → j < run_word_count → word_at (running_after n).words j ≡ run_word path (account_after_calls n) (arrived_after n) j
    -- if the list took slot i + delay, all that entered by the end of slot i had left the last operator by the end of slot i + delay
    pub in_time : (i : ℕ) → i + delay < final.slot → total (flow_of final.entered) (suc i) ≤ total (flow_of final.left) (suc (i + delay))
    -- in each slot taken each operator's b + r, b as the slot before left it and r what the account says arrives, is at most its capacity
    pub within : (n : ℕ) → n < length calls → Took (answer_to n) → (k : ℕ) → k < length path.operators
        → ((account_after_calls n).held k).b + arriving path (account_after_calls n) (call_at calls n) k ≤ capacity k
    -- a refusal 1 comes only from a wrong argument or the last slot number
    pub unusable_only : (n : ℕ) → n < length calls → answer_to n ≡ Err Unusable
        → (choices_miscounted (length path.operators) (call_at calls n) ≡ true) ⊎ (amount_too_large (call_at calls n) ≡ true) ⊎ (slots_used_up (account_after_calls n) ≡ true)
