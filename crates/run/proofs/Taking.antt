-- Demand 2: in any run that refusal 1 lets pass, a slot is taken if and only if its input keeps the declaration as the run has it and every choice lies in its operator's interval.
use mathlib.Core.Path.{◌≡◌, ap}
use mathlib.Core.Bool.{true, false, not}
use mathlib.Core.List.{List}
use Rattle.std.specs.Prelude.{Result, Ok, Err}
use mathlib.Core.Logic.{◌↔◌, ⊎_elim}
use Prim.Native.Nat.{ℕ, zero, suc, ◌≤◌, ◌<◌}
use native.Mathlib.Nat.{not-suc-le-zero, le_of_suc-le-suc, eq-or-lt_of_le}
use native.Mathlib.Omega.{arith}
use borrow.Author.Tests.{leb-true, le-leb, not-false, ltb-false, le-ltb}
use Rattle.quantity.specs.declared.refusal.Refusal.{Refusal}
use Rattle.quantity.proofs.Sums.{every-at, every_holds}
use Rattle.flow.specs.Declarations.{row_count}
use Rattle.quantity.proofs.Refusals.{NoneStands, none-of-both, none-of-each, none-where-result}
use Rattle.operator.specs.Operators.{least_output, greatest_output, number_in_range}
use Rattle.operator.specs.Ring.{path_least, path_greatest, path_sent, path_choice_above}
use Rattle.meter.specs.Meter.{input_breaks}
use Rattle.operator.proofs.Laws.{ring-least}
use Rattle.operator.proofs.PathStands.{path-interval}
use Rattle.run.specs.declared.Run.{Run}
use Rattle.run.specs.declared.slot.Slotted.{Slotted}
use Rattle.run.specs.Calls.{Call, choice_for}
use Rattle.run.specs.Runs.{operator_words, stage_at, meter_in, operator_in}
use Rattle.run.specs.Slots.{input_into, slot_breaks, choice_above_at, choice_cases, slot_cases, taken_slot, slotted_of}
use Rattle.run.specs.Watching.{run_holds}
use Rattle.run.specs.Taking.{Took, LetPass, KeepsDeclared, InInterval}
use Rattle.run.proofs.SlotAnswers.{slot-taken}
use Rattle.run.proofs.UsableRun.{UsableRun, usable-run, stage-number, fits-at}

module _ (run : Run) (words : List ℕ) (call : Call) where
  -- no choice is above where no such case stands, and the other way round
  pub choices-below : (n : ℕ) → NoneStands (choice_cases run words call n) → (k : ℕ) → k < n → choice_above_at run words call k ≡ false
  unfolding choice_cases
  choices-below zero none k less = absurd (not-suc-le-zero less)
  choices-below (suc n) none k less =
      let (earlier, last) = none-of-each (choice_cases run words call n) _ none in
      ⊎_elim (λ same. rw same last.0) (choices-below n earlier k) (eq-or-lt_of_le (le_of_suc-le-suc less))

  pub below-choices : (n : ℕ) → ((k : ℕ) → k < n → choice_above_at run words call k ≡ false) → NoneStands (choice_cases run words call n)
  unfolding choice_cases
  below-choices zero each = tt
  below-choices (suc n) each = none-of-both (choice_cases run words call n) _ (below-choices n (λ k less. each k (omega arith))) (each n (omega arith), tt)

  module _ (passed : UsableRun run words) (k : ℕ) (less : k < run.count) where
    abbrev into : ℕ
    into = input_into run words call k

    number : number_in_range (operator_in run k).operator ≡ true
    number = let few = passed.few in stage-number run words k (fits-at run words passed k (omega arith)) less

    -- the interval is never empty, so the test of a choice is that of the output
    interval-some : least_output (stage_at run k).operator run.slot.0 (run_holds run words k) into ≤ greatest_output (stage_at run k).operator run.slot.0 (run_holds run words k) into
    unfolding run_holds operator_in
    interval-some = path-interval (operator_in run k) (operator_words words k) into number

    -- the least that run and words give is section 3's on what they hold
    least-held : path_least (operator_in run k) (operator_words words k) into ≡ least_output (stage_at run k).operator run.slot.0 (run_holds run words k) into
    unfolding run_holds operator_in
    least-held = ring-least (operator_in run k) (operator_words words k) into number

    pub within-interval : choice_above_at run words call k ≡ false → InInterval run words call k
    unfolding choice_above_at path_choice_above path_greatest run_holds operator_in input_into path_sent
    within-interval below = let some = interval-some in let least = least-held in (omega arith, omega (arith, ltb-false))

    interval-within : InInterval run words call k → choice_above_at run words call k ≡ false
    unfolding choice_above_at path_choice_above path_greatest run_holds operator_in input_into path_sent
    interval-within within = le-ltb _ (choice_for call k) (omega (arith, within.1))

  took-stands : Took (slotted_of run words call) → NoneStands (slot_cases run words call)
  unfolding slotted_of
  took-stands = none-where-result Err (Ok (taken_slot run words call)) (λ (answer : Result Slotted Refusal). Took answer) (λ why took. took) (slot_cases run words call)

  stands-took : NoneStands (slot_cases run words call) → Took (slotted_of run words call)
  stands-took none = rw (slot-taken run words call none) tt

  -- the input breaks the declaration where it is above the quota in some row
  rows-kept : slot_breaks run words call ≡ false → KeepsDeclared run words call
  unfolding slot_breaks input_breaks meter_in
  rows-kept kept i less = leb-true _ _ (every-at _ (row_count run.declaration) (not-false _ kept) i less)

  kept-rows : KeepsDeclared run words call → slot_breaks run words call ≡ false
  unfolding slot_breaks input_breaks meter_in
  kept-rows keeps = ap not (every_holds _ (row_count run.declaration) (λ i less. le-leb _ _ (keeps i less)))

  pub taken-iff : LetPass run words call → Took (slotted_of run words call) ↔ (KeepsDeclared run words call × ((k : ℕ) → k < run.count → InInterval run words call k))
  taken-iff passes =
      let passed = usable-run run words passes.usable in (
        λ took.
            let none = took-stands took in
            let fit = (none-of-each (choice_cases run words call run.count) _ none.1.1.1.1).0 in
            (rows-kept none.1.1.1.0, λ k less. within-interval passed k less (choices-below run.count fit k less)),
        λ (keeps, within).
            stands-took (
              passes.counted,
              (
                passes.small,
                (
                  passes.usable,
                  (
                    kept-rows keeps,
                    none-of-both (choice_cases run words call run.count) _ (below-choices run.count (λ k less. interval-within passed k less (within k less))) (passes.stored, tt),
                  ),
                ),
              ),
            ),
      )
