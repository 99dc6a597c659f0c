-- The invariant: `count` numbers are read, and the row from `at` on, with the places that are left, is the rest.
use Prim.Native.Nat.{◌-◌}
use Rattle.text.specs.DecimalRows.{row_from}
use Rattle.text.proofs.RowLaws.{Reached}
use Rattle.text.proofs.decimal.judge.Given as goal

abbrev pub invariant-loop-count : goal.invariant-loop-count
invariant-loop-count l = Reached (row_from l.places l.text l.from) l.count (row_from (l.places - l.count) l.text l.at)
