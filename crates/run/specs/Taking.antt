-- Demand 2: when a slot is taken, in any run that refusal 1 lets pass, opened or not.
use Rattle.std.specs.Prelude.{ℕ, suc, ◌+◌, ◌≤◌, ◌<◌, ◌≡◌, false, List, Result, Ok, Err}
use Rattle.quantity.specs.declared.refusal.Refusal.{Refusal}
use Rattle.operator.specs.Operators.{least_output, greatest_output}
use Rattle.flow.specs.Declarations.{row_count, row_at}
use Rattle.meter.specs.Meter.{counted_before}
use Rattle.run.specs.declared.Run.{Run}
use Rattle.run.specs.Calls.{Call, choices_miscounted, amount_too_large}
use Rattle.run.specs.Runs.{meter_words, stage_at, meter_in, run_unusable}
use Rattle.run.specs.Slots.{input_into, slot_leaves_too_much}
use Rattle.run.specs.Watching.{run_holds}

-- a slot call took a slot if its answer is no refusal
abbrev pub Took : {A : Type 0} → Result A Refusal → Type 0
Took (Ok answer) = Unit {0}
Took (Err why) = ⊥

module _ (run : Run) (words : List ℕ) (call : Call) where
  -- refusal 1 lets the call pass: for its arguments, for what is lent and stored, and for what it would leave stored
  pub record LetPass : Type 0 where
    pub counted : choices_miscounted run.count call ≡ false
    pub small : amount_too_large call ≡ false
    pub usable : run_unusable run words ≡ false
    pub stored : slot_leaves_too_much run words call ≡ false

  -- the input keeps the declaration as the run has it: in each row, with the units that count with it, it is within the quota
  abbrev pub KeepsDeclared : Type 0
  KeepsDeclared =
      (i : ℕ) → i < row_count run.declaration → counted_before (meter_in run) (meter_words words) i + call.input ≤ (row_at run.declaration i).quota

  -- operator k's output, its least plus its choice, lies in its interval
  abbrev pub InInterval : ℕ → Type 0
  InInterval k =
      (least_output (stage_at run k).operator run.slot.0 (run_holds run words k) (input_into run words call k) ≤ input_into run words call (suc k))
      × (input_into run words call (suc k) ≤ greatest_output (stage_at run k).operator run.slot.0 (run_holds run words k) (input_into run words call k))
