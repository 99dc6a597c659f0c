-- The invariant: the first k rows are in range and stored, and those behind them are empty.
use mathlib.Core.Path.{◌≡◌}
use mathlib.Core.Bool.{true}
use Rattle.quantity.specs.Sums.{every}
use Rattle.flow.specs.Declarations.{row_of, row_in_range}
use Rattle.sheet.specs.Bodies.{row_in}
use Rattle.sheet.proofs.RowsRead.{stored}
use Rattle.sheet.proofs.read.read_rows.Given as goal

abbrev pub invariant-loop-k : goal.invariant-loop-k
invariant-loop-k l = (l.rows ≡ stored (row_in l.body) l.k) × (every (λ i. row_in_range (row_of (row_in l.body i))) l.k ≡ true)
