-- Each step keeps the greatest common divisor, and b falls.
use mathlib.Core.Path.{◌≡◌}
use Rattle.quantity.specs.Divisors.{gcd}
use Rattle.quantity.proofs.divisor.gcd.Given as goal

abbrev pub invariant-loop-b : goal.invariant-loop-b
invariant-loop-b l = gcd l.a l.b ≡ gcd l.m l.n

abbrev pub decreases-loop-b : goal.decreases-loop-b
decreases-loop-b l = l.b
