-- The invariant: the numbers before the index are stored, and the row from `at` on is the rest. A row without a fault has a number wherever one is due.
use Prim.Native.Nat.{◌-◌}
use lib.ListN.{length}
use Rattle.text.specs.DecimalRows.{row_from}
use Rattle.text.proofs.RowLaws.{Storing}
use Rattle.text.proofs.decimal.store.Given as goal

abbrev pub invariant-loop-place : goal.invariant-loop-place
invariant-loop-place l = Storing l.initial.numbers (row_from (length l.initial.numbers) l.text l.from) l.numbers l.place-index (row_from (length l.initial.numbers - l.place-index) l.text l.at)
