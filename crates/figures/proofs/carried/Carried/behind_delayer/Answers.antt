-- The class stays, and the delay is counted in: fifteen delays and one more fit their width.
use Prim.Native.Nat.{ℕ, ◌+◌, ◌≤◌}
use mathlib.Core.Path.{ap, ◌∙◌}
use mathlib.Core.Bool.{true}
use native.Mathlib.Omega.{arith}
use Rattle.quantity.specs.Limits.{largest32}
use Rattle.quantity.specs.Ranges.{delay_range}
use Rattle.quantity.specs.declared.Slots.{Slots}
use Rattle.quantity.proofs.Quantities.{slots-sum}
use Rattle.figures.specs.declared.carried.Carried.{Carried}
use Rattle.figures.proofs.Bounds.{in-range}
use Rattle.figures.proofs.carried.Carried.behind_delayer.Goals as goal

-- what is carried behind it, with so many slots
abbrev after : Carried → ℕ → Carried
after carried e = record { class = carried.class; filtering = true; e = record { 0 = e }; slowest = carried.slowest }

pub returns : goal.returns
returns c =
    let fits : c.args.self.e.0 + c.args.delay.0 ≤ largest32 = omega (arith, c.requires.0, in-range delay_range c.args.delay.0 c.requires.1) in
    ap (after c.args.self) (ap (λ (e : Slots). e.0) c.plus.ensures ∙ slots-sum c.args.self.e (record { 0 = c.args.delay.0 }) fits)
