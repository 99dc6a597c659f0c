-- The delay of the part is what is kept of it: the slots in which the least rate sends the burst, and e.
use native.Mathlib.Omega.{arith}
use mathlib.Core.Path.{◌≡◌, ap, ◌∙◌}
use Prim.Native.Nat.{ℕ, suc, ◌+◌}
use Rattle.quantity.specs.declared.Slots.{Slots}
use Rattle.quantity.proofs.Quantities.{slots-sum}
use Rattle.flow.specs.Classes.{most_in}
use Rattle.figures.specs.Figures.{most_arriving}
use Rattle.figures.specs.Carried.{class_in, slots_kept}
use Rattle.figures.proofs.Bounds.{delay-kept, late-small, late-reaches}
use Rattle.figures.proofs.carried.Carried.most_arriving.Goals as goal
use Rattle.figures.proofs.carried.Carried.most_arriving.Goals.{After-plus-late}

-- the slots are added as they are
late-slots : (c : After-plus-late) → c.plus-late.result.0 ≡ slots_kept c.args.self.slowest + c.args.self.e.0
late-slots c =
    let sent = c.sending.ensures in
    ap (λ (slots : Slots). slots.0) c.plus-late.ensures
    ∙ slots-sum c.sending.result c.args.self.e (let small = late-small c.requires.0 in omega (arith, sent))
    ∙ ap (λ (slots : ℕ). slots + c.args.self.e.0) sent

pub most_late-requires : goal.most_late-requires
most_late-requires c =
    (c.requires.0.within.class, c.requires.0.lent, rw (late-slots (goal.at.most_late-requires c).After-plus-late) (late-reaches c.requires.0 c.requires.1), rw (late-slots (goal.at.most_late-requires c).After-plus-late) (late-small c.requires.0))

pub returns : goal.returns
unfolding most_arriving
returns c =
    let class = class_in c.args.source.now.declared.now c.args.self.class in
    (c.most_late.ensures.0 ∙ ap (λ (slots : ℕ). most_in class (suc slots)) (late-slots (goal.at.returns c).After-plus-late ∙ delay-kept c.requires.0), c.most_late.ensures.1)
