-- From the interval's start to before its entry k the row is used or not, and the last entries up to k are those; the others are as they were.
use mathlib.Core.Path.{◌≡◌}
use Prim.Native.Nat.{ℕ, ◌+◌, ◌-◌, ◌≤◌, ◌<◌, min}
use lib.ListN.{length}
use Rattle.flow.specs.Bounds.{Remade}
use Rattle.flow.proofs.BoundTable.{entry}
use Rattle.flow.proofs.bound.row_interval.Given as goal

abbrev pub invariant-loop-k : goal.invariant-loop-k
invariant-loop-k l =
    (length l.table ≡ length l.initial.table) × Remade l.initial.table l.table l.from (l.from + l.k) (λ j. min (entry l.initial.table j) (l.quota + entry l.initial.last (j - l.from)))
    × ((i : ℕ) → i < l.k → entry l.last i ≡ entry l.table (l.from + i)) × ((i : ℕ) → l.k ≤ i → entry l.last i ≡ entry l.initial.last i) × (length l.last ≡ 15)
