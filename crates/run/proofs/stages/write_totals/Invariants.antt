-- The totals of the operators so far are written.
use Rattle.std.specs.Prelude.{◌≡◌}
use Rattle.run.specs.Steps.{totals_written}
use Rattle.run.proofs.stages.write_totals.Given as goal

abbrev pub invariant-loop-k : goal.invariant-loop-k
invariant-loop-k l = l.words ≡ totals_written l.places l.stages l.k l.initial.words
