-- One row more over the table of one row less.
use mathlib.Core.Path.{◌∙◌}
use mathlib.Core.List.{List}
use Prim.Native.Nat.{ℕ}
use native.Mathlib.Omega.{arith}
use lib.ListN.{length}
use Rattle.flow.specs.Rows.{Row}
use Rattle.flow.specs.Bounds.{pair_at, RowInside, Table}
use Rattle.flow.proofs.BoundTable.{rows-table, next-table}
use Rattle.flow.proofs.bound.next_row.Goals as goal
use Rattle.flow.proofs.bound.next_row.Goals.{Start}

module _ (start : Start) where
  abbrev rows : ℕ → Row
  rows = pair_at start.args.rows

  abbrev last : ℕ
  last = start.args.last

  abbrev given : List ℕ
  given = start.args.table.now

  inside : RowInside (rows last)
  inside = start.requires.3 last (omega arith)

  table : Table given
  table = rows-table rows last start.requires.1 (length given) given start.requires.4 start.requires.0 (λ i less. start.requires.3 i (omega arith))

pub with_row-requires : goal.with_row-requires
with_row-requires c =
    (table (goal.at.with_row-requires c).Start, ((inside (goal.at.with_row-requires c).Start).large, (inside (goal.at.with_row-requires c).Start).short, (inside (goal.at.with_row-requires c).Start).few))

pub returns : goal.returns
returns c =
    c.with_row.ensures ∙ next-table (rows (goal.at.returns c).Start) (last (goal.at.returns c).Start) c.requires.1 (length (given (goal.at.returns c).Start)) (given (goal.at.returns c).Start) c.requires.4 (table (goal.at.returns c).Start) c.requires.3
