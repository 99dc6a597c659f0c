use mathlib.Core.Path.{ap, sym, ◌∙◌}
use native.Mathlib.Nat.{mod-lt}
use native.Mathlib.Omega.{arith}
use Rattle.quantity.specs.Divisors.{gcd}
use Rattle.quantity.proofs.Divisors.{gcd-step, gcd-done}
use Rattle.quantity.proofs.divisor.gcd.Goals as goal

pub loop-b-smaller : goal.loop-b-smaller
loop-b-smaller c = mod-lt c.loop-b.a (omega arith)

pub loop-b-preserved : goal.loop-b-preserved
loop-b-preserved c = sym (gcd-step c.loop-b.a c.loop-b.b (omega arith)) ∙ c.loop-b.invariant

pub returns : goal.returns
returns c = let a = c.loop-b.a in sym (gcd-done a) ∙ ap (gcd a) (omega arith) ∙ c.loop-b.invariant
