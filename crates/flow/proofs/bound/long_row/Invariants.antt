-- Below the block's start the entries follow the step, and from it on they are as they came.
use mathlib.Core.List.{List}
use Prim.Native.Nat.{ℕ, ◌-◌, ◌<◌}
use Rattle.flow.specs.Bounds.{Table}
use Rattle.flow.proofs.BoundTable.{Follows}
use Rattle.flow.proofs.bound.long_row.Given as goal

-- the loop begins with a table whose first entries are made already: it goes on with the step over any table that they follow it over
abbrev pub invariant-loop-from : goal.invariant-loop-from
invariant-loop-from l =
    (l.interval < l.from) × ((before : List ℕ) → Table before → Follows l.interval l.quota before l.initial.table l.initial.from → Follows l.interval l.quota before l.table l.from)

abbrev pub decreases-loop-from : goal.decreases-loop-from
decreases-loop-from l = l.length - l.from
