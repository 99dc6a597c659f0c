-- What the figures promise of a path that they accept, and of its sheet.
use mathlib.Core.Path.{◌≡◌, refl}
use mathlib.Core.Bool.{true, false}
use mathlib.Core.List.{List}
use Prim.Native.Nat.{ℕ, ◌*◌, ◌≤◌, ◌<◌}
use native.Mathlib.Nat.{le_refl, le_of_lt}
use lib.ListN.{length}
use Rattle.std.specs.Prelude.{Ok}
use Rattle.quantity.specs.Limits.{largest_amount, most_operators}
use Rattle.quantity.specs.Sums.{list_of}
use Rattle.quantity.proofs.Refusals.{NoneStands, none-of-each}
use Rattle.flow.specs.Flows.{Flow}
use Rattle.flow.specs.Classes.{Positive, Keeps}
use Rattle.flow.specs.Declarations.{class_of}
use Rattle.operator.specs.Operators.{number_in_range}
use Rattle.sheet.specs.Paths.{Path}
use Rattle.sheet.specs.Sheets.{sheet_cases, value_in, path_in, path_in_range}
use Rattle.sheet.proofs.Accepted.{sheet-path}
use Rattle.sheet.proofs.AnswerLaws.{none-of-ok, ok-is}
use Rattle.figures.specs.declared.PathFigures.{PathFigures}
use Rattle.figures.specs.Answers.{operator_at, before, held_at, capacity_at, path_delay, operators_cases, path_cases, figure_in, figures_cases, accepted_figures, figures_of}
use Rattle.figures.specs.Figures.{figure_too_large}
use Rattle.figures.specs.Along.{AllFit, Promised}
use Rattle.figures.proofs.Capacities.{held-passed, capacity-le}
use Rattle.figures.proofs.Capacities as Capacities
use Rattle.figures.proofs.EachOperator.{before-operator}
use Rattle.figures.proofs.Reached.{none-at, none_before, reached-end, reached, passed-at, sound-at, stepped}
use Rattle.figures.proofs.Reached as Reached

-- a path of numbers in their ranges that refusals 6 to 9 let pass
pub promised : (path : Path) → path_in_range path ≡ true → NoneStands (path_cases path)
    → (r : Flow) (choices : ℕ → Flow) → Keeps (class_of path.declaration) r → AllFit path r choices → Promised path r choices
unfolding held_at capacity_at
promised path inside none r choices kept fits =
    record {
      class_kept = λ k h. (reached path inside none r choices kept fits k h).known.kept;
      held_within = λ k less. (stepped path inside none r choices kept fits k less).held;
      beside_within = λ k less. (stepped path inside none r choices kept fits k less).beside;
      arrives_within = λ k less. (stepped path inside none r choices kept fits k less).arrives;
      fullest_within = λ k less. (stepped path inside none r choices kept fits k less).fullest;
      entering_within = λ k less. (stepped path inside none r choices kept fits k less).entering;
      in_time = reached-end path r choices (reached path inside none r choices kept fits (length path.operators) (le_refl _));
    }

-- a sheet whose figures are answered
module _ (sheet : List ℕ) {answer : PathFigures} (accepted : figures_of sheet ≡ Ok answer) where
  -- no refusal stands against it or its path
  accepted-stands : NoneStands (figures_cases sheet)
  unfolding figures_of
  accepted-stands = none-of-ok (accepted_figures (value_in sheet) (path_in sheet)) (figures_cases sheet) accepted

  -- no refusal stands against its fields, nor against its path
  pub accepted-none : NoneStands (sheet_cases sheet) × NoneStands (path_cases (path_in sheet))
  accepted-none = none-of-each (sheet_cases sheet) (path_cases (path_in sheet)) accepted-stands

  -- the theorem of the figures: of every accepted sheet, every flow that keeps the declaration and all choices that fit
  pub figures-promised : (r : Flow) (choices : ℕ → Flow) → Keeps (class_of (path_in sheet).declaration) r → AllFit (path_in sheet) r choices → Promised (path_in sheet) r choices
  figures-promised = promised (path_in sheet) (sheet-path sheet accepted-none.0).inside accepted-none.1

  -- the path and the delay that the figures answer are those of the theorem
  pub accepted-figures : (answer.path ≡ value_in sheet) × (answer.delay.0 ≡ path_delay (path_in sheet)) × (answer.figures ≡ list_of (figure_in (path_in sheet)) 16)
  unfolding figures_of accepted_figures
  accepted-figures = rw (ok-is (accepted_figures (value_in sheet) (path_in sheet)) (figures_cases sheet) accepted) (refl, refl, refl)

-- a declaration in range has rows, and counts over at least one slot in each
pub declared-positive : (path : Path) → path_in_range path ≡ true → Positive (class_of path.declaration)
declared-positive = Reached.declared-positive

-- a path of numbers in their ranges that refusals 6 to 9 let pass: each operator's number is in its range, and its held figure at most the largest amount
module _ (path : Path) (inside : path_in_range path ≡ true) (none : NoneStands (path_cases path)) (k : ℕ) (less : k < length path.operators) where
  pub operator-inside : number_in_range (operator_at path k) ≡ true
  operator-inside = (passed-at path inside none k less).inside

  none-of-operators : NoneStands (operators_cases path (length path.operators))
  none-of-operators = (none-of-each (operators_cases path (length path.operators)) _ none).0

  sized : figure_too_large (before path k) (operator_at path k) ≡ false
  sized = (none-at path (length path.operators) none-of-operators k less).1.0

  pub operator-held-le : held_at path k ≤ largest_amount
  unfolding held_at
  operator-held-le = held-passed (before path k) (operator_at path k) sized

  -- with what arrives, its capacity is at most twice the largest amount
  pub operator-capacity-le : length path.operators ≤ most_operators → capacity_at path k ≤ 2 * largest_amount
  unfolding capacity_at
  operator-capacity-le few =
      let short = le_of_lt less in
      let within = before-operator path few inside k less (none_before path (length path.operators) none-of-operators k short) in
      capacity-le (before path k) (operator_at path k) within (sound-at path inside none k short) (passed-at path inside none k less) sized

-- an operator's capacity covers its held figure
pub held-le-capacity : (path : Path) (k : ℕ) → held_at path k ≤ capacity_at path k
unfolding held_at capacity_at
held-le-capacity path k = Capacities.held-le-capacity (before path k) (operator_at path k)
