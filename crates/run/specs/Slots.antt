-- A slot of a run (sections 3, 6 and 7): 1, then 13, then 14 operator by operator, and 1 again; everything is decided before a word is written.
use Rattle.std.specs.Prelude.{ℕ, zero, suc, ◌+◌, ◌-◌, ◌/◌, ◌%◌, Bool, not, List, [], ◌∷◌, ◌++◌, Result, Ok, Err, ltb}
use Rattle.quantity.specs.Limits.{most_operators, largest_amount}
use Rattle.quantity.specs.Choice.{pick, either}
use Rattle.quantity.specs.Sums.{every, list_of}
use Rattle.quantity.specs.Refusals.{Case, ◌⇒◌, first_of}
use Rattle.quantity.specs.declared.Units.{Units}
use Rattle.quantity.specs.declared.refusal.Refusal.{Refusal}
use Rattle.quantity.specs.declared.refusal.Refusal.TheVariants.{Unusable, InputBreaksDeclaration, ChoiceAboveGreatest}
use Rattle.words.specs.Stored.{word_at}
use Rattle.operator.specs.Single.{word_count}
use Rattle.operator.specs.Ring.{path_sent, path_choice_above, path_holds_next, path_state_kept, ring_word_next}
use Rattle.meter.specs.Meter.{meter_word_count, input_breaks, meter_next, meter_word_next}
use Rattle.operator.specs.declared.ring.PathOperator.{PathOperator}
use Rattle.operator.specs.Held.{Held}
use Rattle.run.specs.Calls.{Call, choice_for, choices_miscounted, amount_too_large}
use Rattle.run.specs.Runs.{run_word_count, meter_words, operator_words, stage_at, meter_in, operator_in, run_unusable}
use Rattle.run.specs.declared.Stage.{Stage}
use Rattle.run.specs.declared.Run.{Run}
use Rattle.run.specs.declared.slot.Slotted.{Slotted}

-- what goes into operator k: the input, or what the operator before it sends in the same slot
unfoldable pub input_into : Run → List ℕ → Call → ℕ → ℕ
input_into run words call zero = call.input
input_into run words call (suc k) = path_sent (operator_in run k) (operator_words words k) (input_into run words call k) (choice_for call k)

-- 13: the input breaks the declaration
unfoldable pub slot_breaks : Run → List ℕ → Call → Bool
slot_breaks run words call = input_breaks (meter_in run) (meter_words words) call.input

-- 14: the choice for operator k is above its greatest minus least
unfoldable pub choice_above_at : Run → List ℕ → Call → ℕ → Bool
choice_above_at run words call k = path_choice_above (operator_in run k) (operator_words words k) (input_into run words call k) (choice_for call k)

-- so of the first n operators, left to right
unfoldable pub choice_cases : Run → List ℕ → Call → ℕ → List Case
choice_cases run words call zero = []
choice_cases run words call (suc n) = choice_cases run words call n ++ ((choice_above_at run words call n ⇒ ChoiceAboveGreatest n) ∷ [])

-- what operator k has once it has sent
unfoldable pub run_holds_next : Run → List ℕ → Call → ℕ → Held
run_holds_next run words call k = path_holds_next (operator_in run k) (operator_words words k) (input_into run words call k) (input_into run words call (suc k))

-- 1, tested last: operator k would hold too much, or a filter's h be too much
unfoldable pub leaves_too_much_at : Run → List ℕ → Call → ℕ → Bool
leaves_too_much_at run words call k = either (ltb largest_amount (run_holds_next run words call k).b) (ltb largest_amount (run_holds_next run words call k).h)

unfoldable pub slot_leaves_too_much : Run → List ℕ → Call → Bool
slot_leaves_too_much run words call = not (every (λ k. not (leaves_too_much_at run words call k)) run.count)

abbrev pub slot_cases : Run → List ℕ → Call → List Case
slot_cases run words call =
    (choices_miscounted run.count call ⇒ Unusable)
    ∷ (amount_too_large call ⇒ Unusable)
    ∷ (run_unusable run words ⇒ Unusable)
    ∷ (slot_breaks run words call ⇒ InputBreaksDeclaration)
    ∷ choice_cases run words call run.count
    ++ ((slot_leaves_too_much run words call ⇒ Unusable) ∷ [])

-- operator k once it has sent
unfoldable pub operator_next : Run → List ℕ → Call → ℕ → PathOperator
operator_next run words call k =
    path_state_kept (operator_in run k) (input_into run words call k) (input_into run words call (suc k)) (run_holds_next run words call k).b (run_holds_next run words call k).h

unfoldable pub stage_next : Run → List ℕ → Call → ℕ → Stage
stage_next run words call k =
    record {
      operator = (stage_at run k).operator;
      held = (operator_next run words call k).held;
      beside = (operator_next run words call k).beside;
      entered = (operator_next run words call k).entered;
      left = (operator_next run words call k).left;
    }

-- the run of the slot after
unfoldable pub run_next : Run → List ℕ → Call → Run
run_next run words call =
    record {
      declaration = run.declaration;
      slot = record { 0 = run.slot.0 + 1 };
      block = (meter_next (meter_in run) call.input).block;
      count = run.count;
      stages = list_of (λ k. pick (ltb k run.count) (stage_next run words call k) (stage_at run k)) most_operators;
    }

-- word a of operator k then
unfoldable pub operator_word_next : Run → List ℕ → Call → ℕ → ℕ → ℕ
operator_word_next run words call k a =
    pick (ltb k run.count)
    (ring_word_next (operator_in run k) (operator_words words k) (input_into run words call k) a)
    (word_at (operator_words words k) a)

-- and word j of all
unfoldable pub word_next : Run → List ℕ → Call → ℕ → ℕ
word_next run words call j =
    pick (ltb j meter_word_count)
    (meter_word_next (meter_in run) (meter_words words) call.input j)
    (operator_word_next run words call ((j - meter_word_count) / word_count) ((j - meter_word_count) % word_count))

-- what leaves the last operator
abbrev pub slot_output : Run → List ℕ → Call → ℕ
slot_output run words call = input_into run words call run.count

unfoldable pub taken_slot : Run → List ℕ → Call → Slotted
taken_slot run words call = record { output = record { 0 = slot_output run words call }; run = run_next run words call }

-- what a slot answers
unfoldable pub slotted_of : Run → List ℕ → Call → Result Slotted Refusal
slotted_of run words call = first_of (slot_cases run words call) Err (Ok (taken_slot run words call))

-- the output alone, or why the slot is refused
abbrev pub output_of : Result Slotted Refusal → Result Units Refusal
output_of (Ok slotted) = Ok slotted.output
output_of (Err why) = Err why

-- the run behind a slot: the next one, and where the slot was refused the one that was given
abbrev pub run_behind : Run → Result Slotted Refusal → Run
run_behind run (Ok slotted) = slotted.run
run_behind run (Err why) = run

-- and what the words hold then; a refused slot writes nothing
unfoldable pub words_slotted : Run → List ℕ → Call → List ℕ
words_slotted run words call = first_of (slot_cases run words call) (λ why. words) (list_of (word_next run words call) run_word_count)
