-- The stages passed are unused, and the first ones are not looked at.
use mathlib.Core.Path.{◌≡◌}
use mathlib.Core.Bool.{true}
use Rattle.quantity.specs.Sums.{every}
use Rattle.run.specs.Steps.{unused_behind}
use Rattle.run.proofs.test.behind_unused.Given as goal

abbrev pub invariant-loop-k : goal.invariant-loop-k
invariant-loop-k l = every (unused_behind l.run.count l.run.stages l.words) l.k ≡ true
