-- By the kind.
use mathlib.Core.Path.{◌≡◌, sym, ◌∙◌, ap, ap₂}
use native.Mathlib.Omega.{arith}
use mathlib.Core.Bool.{true, ◌&&◌, ◌||◌}
use mathlib.Core.List.{List}
use Prim.Native.Nat.{ℕ}
use lib.Dec.{eqb, ltb}
use lib.ListN.{length, get_or}
use Rattle.std.specs.List.{fold, enumerate_from}
use Rattle.quantity.specs.Choice.{both, either}
use Rattle.quantity.specs.Sums.{every}
use Rattle.quantity.proofs.Sums.{every-same}
use Rattle.flow.specs.declared.DeclaredRow.{DeclaredRow}
use Rattle.flow.specs.Declarations.{most_rows, row_of, empty_row, row_clear, rows_clear_from}
use Rattle.flow.proofs.Folds.{fold-places, and-both, or-either}
use Rattle.flow.proofs.Declarations.{rows-unused, one-unused}
use Rattle.flow.proofs.Declaration.unused_clear.Goals as goal

unused-from : (rows : List DeclaredRow) (from : ℕ) → length rows ≡ most_rows → fold (λ clear at. clear && (ltb at.0 from || row_clear (row_of at.1))) true (enumerate_from 0 rows) ≡ rows_clear_from from rows
unfolding rows_clear_from
unused-from rows from size =
    fold-places (λ at. ltb at.0 from || row_clear (row_of at.1)) empty_row rows
    ∙ ap (every (λ i. ltb i from || row_clear (row_of (get_or rows i empty_row)))) size
    ∙ every-same _ (λ i. either (ltb i from) (row_clear (row_of (get_or rows i empty_row)))) most_rows (λ i less. or-either (ltb i from) (row_clear (row_of (get_or rows i empty_row))))

pub returns-then-has_rows : goal.returns-then-has_rows
returns-then-has_rows c =
    let self = c.args.self in
    let behind = unused-from self.rows self.count (omega arith) in
    and-both c.is_clear.result c.rows_clear.result
    ∙ ap₂ both (c.is_clear.ensures ∙ ap row_clear c.only_row.ensures) (c.rows_clear.ensures ∙ behind)
    ∙ sym (rows-unused self (sym c.has_rows.ensures ∙ c.if-has_rows.true))

pub returns-else-has_rows : goal.returns-else-has_rows
returns-else-has_rows c =
    let self = c.args.self in
    let all = unused-from self.rows 0 (omega arith) in
    let clear = c.rows_clear-else-has_rows in
    and-both (eqb self.count 0) clear.result ∙ ap (both (eqb self.count 0)) (clear.ensures ∙ all) ∙ sym (one-unused self (sym c.has_rows.ensures ∙ c.if-has_rows.false))
