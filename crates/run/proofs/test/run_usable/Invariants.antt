-- The stages of the path that are passed fit.
use mathlib.Core.Path.{◌≡◌}
use mathlib.Core.Bool.{true}
use Rattle.quantity.specs.Sums.{every}
use Rattle.run.specs.Runs.{stage_fits}
use Rattle.run.proofs.test.run_usable.Given as goal

abbrev pub invariant-loop-k : goal.invariant-loop-k
invariant-loop-k l = every (stage_fits l.run l.words) l.k ≡ true
