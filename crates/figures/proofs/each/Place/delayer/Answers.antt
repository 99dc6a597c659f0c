-- A delayer may follow anything and has no rate; else its figure is the definition's, and it adds its own slots to the delay.
use borrow.Author.Tests.{lt-ltb, le-ltb}
use mathlib.Core.Path.{◌≡◌, refl, ap, ◌∙◌}
use mathlib.Core.Bool.{false}
use Rattle.quantity.specs.declared.Delay.{Delay}
use Rattle.operator.specs.Operators.{number_in_range}
use Rattle.operator.specs.declared.Operator.TheVariants.{Delayer}
use Rattle.figures.specs.declared.carried.Carried.{Carried}
use Rattle.figures.specs.Progress.{Progress, behind}
use Rattle.figures.specs.Figures.{held_of_part, held_figure, capacity, own_delay, is_framed, quota_behind, figure_too_large, rate_too_low}
use Rattle.figures.specs.Carried.{progress_in, progress_here, planned_of}
use Rattle.figures.proofs.Bounds.{delayer-ready, delayer-delay, full-units}
use Rattle.figures.proofs.Tests.{placed}
use Rattle.figures.proofs.each.Place.delayer.Goals as goal
use Rattle.figures.proofs.each.Place.delayer.Goals.{After-part_held-most}

-- its held figure is that of the part with it
delayer-held : (c : After-part_held-most) → c.part_held-most.result.0 ≡ held_figure (progress_here c.args.self.now) (Delayer c.args.delay)
unfolding held_figure behind
delayer-held c =
    let declared = c.args.self.now.source.declared.now in
    c.part_held-most.ensures ∙ ap (λ (after : Carried). held_of_part (progress_in declared after)) c.behind_delayer-after.ensures

own-slots : (p : Progress) (d : Delay) → own_delay p (Delayer d) false ≡ d.0
unfolding own_delay
own-slots p d = delayer-delay p d

pub behind_delayer-after-requires : goal.behind_delayer-after-requires
unfolding number_in_range
behind_delayer-after-requires c = (c.requires.0.ready.within.e, c.requires.1)

pub part_held-most-requires : goal.part_held-most-requires
part_held-most-requires c =
    rw c.behind_delayer-after.ensures (delayer-ready c.args.self.now.carried c.args.delay c.requires.0.ready c.requires.1)

pub returns-then-most-gt-LARGEST : goal.returns-then-most-gt-LARGEST
unfolding planned_of is_framed figure_too_large quota_behind
returns-then-most-gt-LARGEST c = record { answered = rw (placed _ (Delayer _) refl, ← delayer-held (goal.at.returns-then-most-gt-LARGEST c).After-part_held-most, lt-ltb _ _ c.if-most-gt-LARGEST.true); carried = tt }

pub returns : goal.returns
unfolding planned_of is_framed figure_too_large quota_behind rate_too_low capacity behind
returns c =
    let ready = c.requires.0.ready in
    record {
      answered = rw (
        placed _ (Delayer _) refl,
        ← delayer-held (goal.at.returns c).After-part_held-most,
        le-ltb _ _ c.if-most-gt-LARGEST.false,
        own-slots,
        ← c.requires.0.arriving.0,
        ← full-units _ _ c.plus.ensures c.if-most-gt-LARGEST.false c.requires.0.arriving.1,
      );
      carried = rw c.behind_delayer-after.ensures (refl, ready.lent, ready.burst);
    }
