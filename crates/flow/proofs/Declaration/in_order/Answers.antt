-- By the kind; where there are more than four rows, the fourth has none behind it.
use mathlib.Core.Path.{◌≡◌, sym, ◌∙◌, ap}
use mathlib.Core.Bool.{true, false, ◌&&◌, ◌||◌}
use mathlib.Core.List.{List}
use Prim.Native.Nat.{ℕ, suc, ◌+◌, ◌-◌, ◌≤◌}
use native.Mathlib.Omega.{arith}
use lib.Dec.{leb}
use lib.ListN.{get_or, length, get_or-eq_default, drop}
use borrow.Author.Tests.{le-ltb, lt-leb}
use Rattle.std.specs.List.{fold, zip, enumerate_from}
use Rattle.std.proofs.lemmas.List.{length-drop, get_or-drop}
use Rattle.quantity.specs.Choice.{either}
use Rattle.quantity.specs.Sums.{every}
use Rattle.std.proofs.lemmas.Slice.Zip.{get_or-zip, length-zip}
use Rattle.quantity.proofs.Sums.{every-same, every-fails}
use Rattle.flow.specs.declared.DeclaredRow.{DeclaredRow}
use Rattle.flow.specs.Declarations.{empty_row, row_of, rises}
use Rattle.flow.proofs.Folds.{fold-places, or-either, every-until}
use Rattle.flow.proofs.Declarations.{rows-order, one-order}
use Rattle.flow.proofs.Declaration.in_order.Goals as goal

no-fifth : (rows : List DeclaredRow) → length rows ≡ 4 → rises (row_of (get_or rows 3 empty_row)) (row_of (get_or rows 4 empty_row)) ≡ false
unfolding rises
no-fifth rows size = let none : get_or rows 4 empty_row ≡ empty_row = get_or-eq_default rows empty_row (omega arith) in rw none (rw (le-ltb (get_or rows 3 empty_row).interval.0 0 (omega arith)))

-- the pairs of neighbours below the count
rise-of : (rows : List DeclaredRow) (count : ℕ) → length rows ≡ 4 → count ≤ 4
    → fold (λ rise pair. rise && (leb (count - 1) pair.0 || rises (row_of pair.1.0) (row_of pair.1.1))) true (enumerate_from 0 (zip rows (drop 1 rows)))
    ≡ every (λ i. rises (row_of (get_or rows i empty_row)) (row_of (get_or rows (suc i) empty_row))) (count - 1)
rise-of rows count size few =
    let next-size : length (drop 1 rows) ≡ 3 = length-drop 1 rows ∙ omega arith in
    let pairs : length (zip rows (drop 1 rows)) ≡ 3 = length-zip rows (drop 1 rows) ∙ omega arith in
    let all : count - 1 + (3 - (count - 1)) ≡ 3 = omega arith in
    fold-places (λ pair. leb (count - 1) pair.0 || rises (row_of pair.1.0) (row_of pair.1.1)) (empty_row, empty_row) (zip rows (drop 1 rows))
    ∙ ap (every (λ i. leb (count - 1) i || rises (row_of (get_or (zip rows (drop 1 rows)) i (empty_row, empty_row)).0) (row_of (get_or (zip rows (drop 1 rows)) i (empty_row, empty_row)).1))) pairs
    ∙ every-same _ (λ i. either (leb (count - 1) i) (rises (row_of (get_or rows i empty_row)) (row_of (get_or rows (suc i) empty_row)))) 3 (λ i less.
    let here = get_or-zip rows (drop 1 rows) i (empty_row, empty_row) (omega arith) (omega arith) in
    let next = get_or-drop 1 rows i empty_row in
    let place : 1 + i ≡ suc i = omega arith in
    or-either (leb (count - 1) i) _
    ∙ ap (λ (pair : DeclaredRow × DeclaredRow). either (leb (count - 1) i) (rises (row_of pair.0) (row_of pair.1))) here
    ∙ ap (λ (then : DeclaredRow). either (leb (count - 1) i) (rises (row_of (get_or rows i empty_row)) (row_of then))) (next ∙ ap (λ (k : ℕ). get_or rows k empty_row) place))
    ∙ ap (every (λ i. either (leb (count - 1) i) (rises (row_of (get_or rows i empty_row)) (row_of (get_or rows (suc i) empty_row))))) (sym all)
    ∙ every-until (λ i. rises (row_of (get_or rows i empty_row)) (row_of (get_or rows (suc i) empty_row))) (count - 1) (3 - (count - 1))

pub returns-then-self-le4 : goal.returns-then-self-le4
returns-then-self-le4 c =
    let self = c.args.self in
    rw c.saturating_sub.ensures at c.rows_rise.ensures ∙ rise-of self.rows self.count (omega arith) (omega arith) ∙ sym (rows-order self (sym c.has_rows.ensures ∙ c.if-has_rows.true))

pub returns-else-self-le4 : goal.returns-else-self-le4
returns-else-self-le4 c =
    let self = c.args.self in
    lt-leb _ _ c.if-self-le4.false ∙ sym (every-fails (λ i. rises (row_of (get_or self.rows i empty_row)) (row_of (get_or self.rows (suc i) empty_row))) (self.count - 1) 3 (omega arith) (no-fifth self.rows (omega arith))) ∙ sym (rows-order self (sym c.has_rows.ensures ∙ c.if-has_rows.true))

pub returns-else-has_rows : goal.returns-else-has_rows
returns-else-has_rows c = sym (one-order c.args.self (sym c.has_rows.ensures ∙ c.if-has_rows.false))
