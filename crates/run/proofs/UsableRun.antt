-- What the test of a run shows: the words' length, the count, the declaration and the order of its rows, the meter, and each stage with its words; and that a run of which these hold passes it.
use mathlib.Core.Path.{◌≡◌, refl, ap, sym, ◌∙◌}
use mathlib.Core.Bool.{Bool, true, false, not}
use mathlib.Core.List.{List}
use Prim.Native.Nat.{ℕ, ◌≤◌, ◌<◌}
use lib.ListN.{length}
use lib.Dec.{leb, ltb, eqb}
use borrow.Author.Tests.{eqb-true, eq-eqb, leb-true, le-leb, ltb-false, lt-ltb, le-ltb, not-true, not-false}
use Rattle.quantity.specs.Limits.{most_operators, last_slot}
use Rattle.quantity.specs.Choice.{pick, both}
use Rattle.quantity.specs.Sums.{every}
use Rattle.quantity.proofs.Laws.{pick_true, pick-false, either-false, either-none}
use Rattle.quantity.proofs.Sums.{both_true, every-at}
use Rattle.flow.specs.Declarations.{declaration_in_range, rows_in_order}
use Rattle.operator.specs.Operators.{number_in_range}
use Rattle.meter.specs.Meter.{meter_word_count, meter_unusable}
use Rattle.operator.proofs.RingLaws.{PathUsable, path-usable}
use Rattle.run.specs.declared.Run.{Run}
use Rattle.run.specs.Steps.{meter_misfits}
use Rattle.run.specs.Runs.{run_word_count, meter_words, operator_words, no_operator, stage_at, meter_in, operator_in, stage_misplaced, stage_unusable, stage_fits, run_unusable}

pub record UsableRun (run : Run) (words : List ℕ) : Type 0 where
  pub sized : length words ≡ run_word_count
  pub some : 1 ≤ run.count
  pub few : run.count ≤ most_operators
  pub declared : declaration_in_range run.declaration ≡ true
  pub ordered : rows_in_order run.declaration ≡ true
  pub meter : meter_unusable (meter_in run) (meter_words words) ≡ false
  pub stages : every (stage_fits run words) most_operators ≡ true

pub usable-run : (run : Run) (words : List ℕ) → run_unusable run words ≡ false → UsableRun run words
unfolding run_unusable
usable-run run words passed =
    let (sized, rest) = either-false (not (eqb (length words) run_word_count)) _ passed in
    let (counted, rest) = either-false (not (both (leb 1 run.count) (leb run.count most_operators))) _ rest in
    let (declared, rest) = either-false (not (declaration_in_range run.declaration)) _ rest in
    let (ordered, rest) = either-false (not (rows_in_order run.declaration)) _ rest in
    let (meter, rest) = either-false (meter_unusable (meter_in run) (meter_words words)) _ rest in
    let (stages, rest) = either-false (not (every (stage_fits run words) most_operators)) _ rest in
    let (some, few) = both_true (leb 1 run.count) (leb run.count most_operators) (not-false _ counted) in
    record {
      sized = eqb-true (length words) run_word_count (not-false _ sized);
      some = leb-true 1 run.count some;
      few = leb-true run.count most_operators few;
      declared = not-false _ declared;
      ordered = not-false _ ordered;
      meter = meter;
      stages = not-false _ stages;
    }

pub run-usable : (run : Run) (words : List ℕ) → UsableRun run words → run_unusable run words ≡ false
unfolding run_unusable
run-usable run words passed =
    either-none (not (eqb (length words) run_word_count)) _ (ap not (eq-eqb (length words) run_word_count passed.sized))
    (either-none (not (both (leb 1 run.count) (leb run.count most_operators))) _
    (rw (le-leb 1 run.count passed.some, le-leb run.count most_operators passed.few))
    (either-none (not (declaration_in_range run.declaration)) _ (ap not passed.declared)
    (either-none (not (rows_in_order run.declaration)) _ (ap not passed.ordered)
    (either-none (meter_unusable (meter_in run) (meter_words words)) _ passed.meter
    (either-none (not (every (stage_fits run words) most_operators)) _ (ap not passed.stages) refl)))))

-- The same but for the stages: what is tested before the first operator.

pub record MeterFits (run : Run) (words : List ℕ) : Type 0 where
  pub sized : length words ≡ run_word_count
  pub some : 1 ≤ run.count
  pub few : run.count ≤ most_operators
  pub declared : declaration_in_range run.declaration ≡ true
  pub ordered : rows_in_order run.declaration ≡ true
  pub meter : meter_unusable (meter_in run) (meter_words words) ≡ false

pub usable-stages : (run : Run) (words : List ℕ) → MeterFits run words → every (stage_fits run words) most_operators ≡ true → UsableRun run words
usable-stages run words fits stages =
    record { sized = fits.sized; some = fits.some; few = fits.few; declared = fits.declared; ordered = fits.ordered; meter = fits.meter; stages = stages }

pub usable-fits : (run : Run) (words : List ℕ) → UsableRun run words → MeterFits run words
usable-fits run words passed =
    record { sized = passed.sized; some = passed.some; few = passed.few; declared = passed.declared; ordered = passed.ordered; meter = passed.meter }

pub fits-meter : (run : Run) (words : List ℕ) → MeterFits run words → meter_misfits run words ≡ false
unfolding meter_misfits
fits-meter run words fits =
    either-none (not (eqb (length words) run_word_count)) _ (ap not (eq-eqb (length words) run_word_count fits.sized))
    (either-none (not (both (leb 1 run.count) (leb run.count most_operators))) _
    (rw (le-leb 1 run.count fits.some, le-leb run.count most_operators fits.few))
    (either-none (not (declaration_in_range run.declaration)) _ (ap not fits.declared)
    (either-none (not (rows_in_order run.declaration)) _ (ap not fits.ordered)
    (either-none (meter_unusable (meter_in run) (meter_words words)) _ fits.meter refl))))

pub meter-fits : (run : Run) (words : List ℕ) → meter_misfits run words ≡ false → MeterFits run words
unfolding meter_misfits
meter-fits run words passed =
    let (sized, rest) = either-false (not (eqb (length words) run_word_count)) _ passed in
    let (counted, rest) = either-false (not (both (leb 1 run.count) (leb run.count most_operators))) _ rest in
    let (declared, rest) = either-false (not (declaration_in_range run.declaration)) _ rest in
    let (ordered, rest) = either-false (not (rows_in_order run.declaration)) _ rest in
    let (meter, rest) = either-false (meter_unusable (meter_in run) (meter_words words)) _ rest in
    let (some, few) = both_true (leb 1 run.count) (leb run.count most_operators) (not-false _ counted) in
    record {
      sized = eqb-true (length words) run_word_count (not-false _ sized);
      some = leb-true 1 run.count some;
      few = leb-true run.count most_operators few;
      declared = not-false _ declared;
      ordered = not-false _ ordered;
      meter = meter;
    }

pub meter-misfits : (run : Run) (words : List ℕ) → (MeterFits run words → ⊥) → meter_misfits run words ≡ true
meter-misfits run words fails = by-test (meter_misfits run words) refl
  where
    by-test : (t : Bool) → meter_misfits run words ≡ t → t ≡ true
    by-test true e = refl
    by-test false e = absurd (fails (meter-fits run words e))

-- any of these that fails makes a refusal
pub run-unusable : (run : Run) (words : List ℕ) → (UsableRun run words → ⊥) → run_unusable run words ≡ true
run-unusable run words fails = by-test (run_unusable run words) refl
  where
    by-test : (t : Bool) → run_unusable run words ≡ t → t ≡ true
    by-test true e = refl
    by-test false e = absurd (fails (usable-run run words e))

-- a stage that fits
module _ (run : Run) (words : List ℕ) (k : ℕ) (fits : stage_fits run words k ≡ true) where
  pub stage-usable : PathUsable (operator_in run k) (operator_words words k)
  unfolding stage_fits stage_unusable
  stage-usable = path-usable (operator_in run k) (operator_words words k) (not-true _ (both_true (not (stage_misplaced (stage_at run k) (ltb k run.count))) (not (stage_unusable run words k)) fits).1)

  placed : pick (ltb k run.count) (number_in_range (stage_at run k).operator) (both (no_operator (stage_at run k).operator) (eqb (stage_at run k).held.0 0)) ≡ true
  unfolding stage_fits stage_misplaced
  placed = not-not _ (both_true (not (stage_misplaced (stage_at run k) (ltb k run.count))) (not (stage_unusable run words k)) fits).0
    where
      not-not : (t : Bool) → not (not t) ≡ true → t ≡ true
      not-not true e = refl
      not-not false e = e

  -- one of the path has its number in its range
  pub stage-number : k < run.count → number_in_range (operator_in run k).operator ≡ true
  unfolding operator_in
  stage-number less = sym (pick_true _ _ _ (lt-ltb k run.count less)) ∙ placed

  -- one behind the path's is no operator, and holds nothing
  pub stage-none : run.count ≤ k → (no_operator (stage_at run k).operator ≡ true) × ((stage_at run k).held.0 ≡ 0)
  stage-none behind =
      let (none, nothing) = both_true (no_operator (stage_at run k).operator) (eqb (stage_at run k).held.0 0) (sym (pick-false _ _ _ (le-ltb k run.count behind)) ∙ placed) in
      (none, eqb-true (stage_at run k).held.0 0 nothing)

module _ (run : Run) (words : List ℕ) (passed : UsableRun run words) (k : ℕ) (less : k < most_operators) where
  pub fits-at : stage_fits run words k ≡ true
  fits-at = every-at (stage_fits run words) most_operators passed.stages k less

-- a slot number is left
pub slot-left : (run : Run) (words : List ℕ) → MeterFits run words → run.slot.0 ≤ last_slot
unfolding meter_unusable meter_in
slot-left run words passed =
    let (sized, rest) = either-false (not (eqb (length (meter_words words)) meter_word_count)) _ passed.meter in
    let (left, rest) = either-false (ltb last_slot run.slot.0) _ rest in
    ltb-false last_slot run.slot.0 left
