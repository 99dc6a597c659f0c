-- The page while it is written: the lines of the first k operators are stored, and their capacities added.
use mathlib.Core.Path.{◌≡◌, refl, sym, ap, ◌∙◌}
use mathlib.Core.List.{List, ◌++◌}
use Prim.Native.Nat.{ℕ, ◌+◌, ◌*◌, ◌≤◌, ◌<◌}
use native.Mathlib.Omega.{arith}
use lib.ListN.{length}
use lib.Seq.{sets, length-sets}
use Rattle.quantity.specs.Sums.{total, list_of}
use Rattle.quantity.specs.Quantities.{units_sum}
use Rattle.quantity.specs.declared.Units.{Units}
use Rattle.quantity.proofs.Quantities.{units-sum}
use Rattle.quantity.proofs.Sums.{total-zero, total-next, length-list_of}
use Rattle.operator.specs.declared.Operator.{Operator}
use Rattle.sheet.specs.Paths.{Path, link_at}
use Rattle.sheet.specs.Sheets.{path_in}
use Rattle.sheet.proofs.Runs.{run-behind}
use Rattle.figures.specs.declared.Figure.{Figure}
use Rattle.figures.specs.declared.PathFigures.{PathFigures}
use Rattle.std.specs.Prelude.{Ok}
use Rattle.figures.specs.Answers.{operator_at, capacity_at, path_delay, figure_at, figures_of}
use Rattle.page.specs.Pages.{line_of, lines_of, operator_cells, path_cells, cells_at, sum_cells, rows_of, page_of}
use Rattle.page.proofs.Accepted.{capacity-le, capacities-le}
use Rattle.page.proofs.Pages.{sound-list, length-lines, lines_more, lines_next}
use Rattle.page.proofs.Promise.{cells-sound, page-length}

pub record Written (path : Path) (lent₀ : List ℕ) (k : ℕ) (lent : List ℕ) (capacity : Units) : Type 0 where
  pub summed : capacity.0 ≡ total (capacity_at path) k
  pub stored : lent ≡ sets lent₀ 0 (lines_of (list_of (cells_at path) k))

pub written_none : (path : Path) (lent₀ : List ℕ) → Written path lent₀ 0 lent₀ (record { 0 = 0 })
unfolding lines_of list_of
written_none path lent₀ = record { summed = sym (total-zero (capacity_at path)); stored = refl }

module _ (sheet : List ℕ) {answer : PathFigures} (accepted : figures_of sheet ≡ Ok answer) {lent₀ lent : List ℕ} {k : ℕ} {capacity : Units} (written : Written (path_in sheet) lent₀ k lent capacity) where
  abbrev path : Path
  path = path_in sheet

  abbrev operators : ℕ
  operators = length path.operators

  pub written-full : length lent ≡ length lent₀
  written-full = ap length written.stored ∙ simp length-sets

  -- the next line begins where those that are stored end
  lines_end : k ≤ operators → k * 61 ≡ 0 + length (lines_of (list_of (cells_at path) k))
  lines_end inside =
      let size = length-lines (list_of (cells_at path) k) (sound-list (cells_at path) k (λ j less. cells-sound sheet accepted j (omega arith))) in
      omega (arith, size, length-list_of (cells_at path) k)

  pub written_next : k < operators → {operator : Operator} {link : ℕ} {figure : Figure} {sum : Units} {after : List ℕ} → operator ≡ operator_at path k → link ≡ link_at path k → figure ≡ figure_at path k
      → after ≡ sets lent (k * 61) (line_of (operator_cells k operator link figure)) → sum ≡ units_sum capacity figure.capacity → Written path lent₀ (k + 1) after sum
  unfolding cells_at figure_at
  written_next less {operator} {link} {figure} placed linked figured put added =
      let fits : capacity.0 + figure.capacity.0 ≤ 18_446_744_073_709_551_615 =
      omega (arith, written.summed, ap (λ (f : Figure). f.capacity.0) figured, capacity-le sheet accepted k less, capacities-le sheet accepted k (omega arith)) in
      let here : operator_cells k operator link figure ≡ cells_at path k = rw (placed, linked, figured) in
      record {
        summed = ap (λ (units : Units). units.0) added ∙ units-sum capacity figure.capacity fits ∙ omega (arith, written.summed, ap (λ (f : Figure). f.capacity.0) figured, total-next (capacity_at path) k);
        stored =
            run-behind lent₀ 0 (k * 61) (lines_of (list_of (cells_at path) k)) (line_of (cells_at path k)) written.stored (rw here at put) (lines_end (omega arith))
            ∙ ap (sets lent₀ 0) (lines_next (cells_at path) k);
      }

  -- behind the last operator the path's line makes the page
  pub written_all : k ≡ operators → {delay : ℕ} {after : List ℕ} → delay ≡ path_delay path → after ≡ sets lent (k * 61) (line_of (path_cells capacity.0 delay))
      → (k * 61 + 61 ≡ length (page_of path)) × (after ≡ sets lent₀ 0 (page_of path))
  unfolding page_of rows_of sum_cells
  written_all all {delay} delayed put =
      let sums : path_cells capacity.0 delay ≡ path_cells (total (capacity_at path) operators) (path_delay path) = rw (written.summed, all, delayed) in
      let here = rw sums at put in (
        omega (arith, page-length sheet accepted),
        run-behind lent₀ 0 (k * 61) (lines_of (list_of (cells_at path) k)) (line_of (sum_cells path)) written.stored here (lines_end (omega arith))
            ∙ ap (sets lent₀ 0) (ap (λ (n : ℕ). lines_of (list_of (cells_at path) n) ++ line_of (sum_cells path)) all ∙ lines_more (list_of (cells_at path) operators) (sum_cells path)),
      )
