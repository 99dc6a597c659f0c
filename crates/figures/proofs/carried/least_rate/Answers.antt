-- Burst is at most 134,217,726.
use mathlib.Core.Path.{refl}
use native.Mathlib.Omega.{arith}
use Rattle.flow.proofs.ClassBounds.{burst-bound}
use Rattle.figures.specs.Carried.{class_in}
use Rattle.figures.proofs.carried.least_rate.Goals as goal

pub sent_in-requires : goal.sent_in-requires
sent_in-requires c =
    (c.requires.2, omega (arith, c.burst_at-burst.ensures, burst-bound (class_in c.args.source.now.declared.now c.args.class) c.args.rate.0 c.requires.0))

pub returns : goal.returns
returns c = (refl, (c.burst_at-burst.ensures, c.sent_in.ensures))
