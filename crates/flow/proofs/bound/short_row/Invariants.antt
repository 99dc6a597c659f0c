-- Below the interval's start the entries follow the step, and those of the interval before are kept beside the table.
use mathlib.Core.Path.{◌≡◌}
use Prim.Native.Nat.{ℕ, ◌+◌, ◌-◌, ◌<◌}
use lib.ListN.{length}
use Rattle.flow.proofs.BoundTable.{entry, Follows}
use Rattle.flow.proofs.bound.short_row.Given as goal

abbrev pub invariant-loop-from : goal.invariant-loop-from
invariant-loop-from l =
    Follows l.interval l.quota l.initial.table l.table l.from × ((k : ℕ) → k < l.interval → entry l.last k ≡ entry l.table (l.from + k - l.interval)) × (length l.last ≡ 15)

abbrev pub decreases-loop-from : goal.decreases-loop-from
decreases-loop-from l = l.length - l.from
