-- Burst is at most 134,217,726 and e·P at most 1,024 times 65,535; with and without a filter the definition has its case.
use Prim.Native.Nat.{ℕ, ◌≤◌}
use mathlib.Core.Path.{subst⁻¹}
use Rattle.figures.specs.Figures.{part_held}
use Rattle.figures.specs.Carried.{class_in}
use Rattle.flow.proofs.ClassBounds.{burst-bound}
use Rattle.figures.proofs.Bounds.{rate-within, burst-kept, part-units}
use Rattle.figures.proofs.carried.Carried.part_held.Goals as goal

pub returns-in-None : goal.returns-in-None
unfolding part_held
returns-in-None c = rw (c.in-None.is, c.most_delayed.ensures)

pub returns-in-Some : goal.returns-in-Some
unfolding part_held
returns-in-Some c =
    let slowest = c.in-Some.is in
    let class = class_in c.args.source.now.declared.now c.args.self.class in
    let (positive, slow) = rate-within slowest c.requires.within.slowest in
    let same = (burst-kept class slowest c.requires.burst).0 in
    let small = subst⁻¹ (λ (burst : ℕ). burst ≤ 134_217_726) same (burst-bound class _ c.requires.within.class) in
    let sum = part-units _ c.over.result _ c.args.self.e c.over.ensures small c.requires.within.e slow in
    rw (slowest, c.plus.ensures, sum, same)
