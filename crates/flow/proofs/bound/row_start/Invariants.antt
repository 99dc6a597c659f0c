-- From 1 to before n the entries are cut down to the quota, and the others are as they were.
use mathlib.Core.Path.{◌≡◌}
use Prim.Native.Nat.{min}
use lib.ListN.{length}
use Rattle.flow.specs.Bounds.{Remade}
use Rattle.flow.proofs.BoundTable.{entry}
use Rattle.flow.proofs.bound.row_start.Given as goal

abbrev pub invariant-loop-n : goal.invariant-loop-n
invariant-loop-n l = (length l.table ≡ length l.initial.table) × Remade l.initial.table l.table 1 l.n (λ j. min (entry l.initial.table j) l.quota)
