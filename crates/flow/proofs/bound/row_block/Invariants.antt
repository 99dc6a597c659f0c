-- From the block's start to before n the row is used or not, and the others are as they were: so are the entries that are read.
use mathlib.Core.Path.{◌≡◌}
use lib.ListN.{length}
use Rattle.flow.specs.Bounds.{Remade, lowered}
use Rattle.flow.proofs.bound.row_block.Given as goal

abbrev pub invariant-loop-n : goal.invariant-loop-n
invariant-loop-n l = (length l.table ≡ length l.initial.table) × Remade l.initial.table l.table l.from l.n (lowered l.initial.table l.interval l.quota)
