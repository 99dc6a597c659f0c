-- The divisor is at most m, and a quotient at most what is divided.
use mathlib.Core.Path.{ap, ◌∙◌}
use Prim.Native.Nat.{ℕ, ◌+◌, ◌-◌, ◌/◌}
use native.Mathlib.Nat.{div-le_self}
use native.Mathlib.Omega.{arith}
use Rattle.quantity.proofs.Divisors.{gcd-le}
use Rattle.flow.specs.Classes.{blocks_met}
use Rattle.figures.proofs.class.blocks_met.Goals as goal

pub returns : goal.returns
unfolding blocks_met
returns c =
    let m = c.args.m.0 in
    let n = c.args.n.0 in
    let g = c.gcd-g in
    (c.from.ensures ∙ ap (λ (d : ℕ). (m - d + n - 1) / m + 1) g.ensures, omega (arith, c.from.ensures, div-le_self (m - g.result + n - 1) m, c.requires))

pub overflow_sub-m : goal.overflow_sub-m
overflow_sub-m c = omega (arith, c.gcd-g.ensures, gcd-le c.args.m.0 c.args.n.0 c.requires.0)

pub overflow_add-m-2 : goal.overflow_add-m-2
overflow_add-m-2 c =
    let m = c.args.m.0 in
    let n = c.args.n.0 in
    omega (arith, div-le_self (m - c.gcd-g.result + n - 1) m, c.requires)
