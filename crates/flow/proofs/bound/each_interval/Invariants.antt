-- Below the interval's start the entries are those of the row, and the quota more than any of the interval before is the most.
use mathlib.Core.Path.{◌≡◌}
use Prim.Native.Nat.{ℕ, ◌+◌, ◌-◌, ◌*◌, ◌≤◌, ◌<◌}
use lib.ListN.{length}
use Rattle.flow.specs.Bounds.{Stepped}
use Rattle.flow.proofs.BoundTable.{entry}
use Rattle.flow.proofs.bound.each_interval.Given as goal

abbrev pub invariant-loop-from : goal.invariant-loop-from
invariant-loop-from l =
    (1 ≤ l.from) × (l.from ≤ l.length) × (length l.table ≡ l.length) × (l.most ≤ l.from * 65_535) × Stepped l.interval l.quota l.table l.from
    × ((k : ℕ) → k < l.interval → l.quota + entry l.table (l.from + k - l.interval) ≡ l.most)

abbrev pub decreases-loop-from : goal.decreases-loop-from
decreases-loop-from l = l.length - l.from
