-- Behind nothing in no slots the table of one row is that of the first row alone.
use mathlib.Core.Path.{◌≡◌, ◌∙◌, ap}
use mathlib.Core.List.{List}
use Prim.Native.Nat.{ℕ}
use native.Mathlib.Omega.{arith}
use lib.ListN.{length, set, length-set}
use Rattle.quantity.specs.Sums.{list_of}
use Rattle.flow.specs.Rows.{Row, rows_most}
use Rattle.flow.specs.Bounds.{pair_at, RowInside}
use Rattle.flow.proofs.BoundTable.{first-table}
use Rattle.flow.proofs.bound.first_row.Goals as goal
use Rattle.flow.proofs.bound.first_row.Goals.{Start}

module _ (start : Start) where
  abbrev rows : ℕ → Row
  rows = pair_at start.args.rows

  abbrev given : List ℕ
  given = start.args.table.now

  same : length (set given 0 0) ≡ length given
  same = length-set given 0 0

  inside : RowInside (rows 0)
  inside = start.requires.1 0 (omega arith)

pub returns : goal.returns
returns c =
    let made = c.row_alone in
    first-table (rows (goal.at.returns c).Start) made.new.table made.ensures (inside (goal.at.returns c).Start).large ∙ ap (list_of (rows_most (rows (goal.at.returns c).Start) 1)) (made.auto.table ∙ same (goal.at.returns c).Start)
