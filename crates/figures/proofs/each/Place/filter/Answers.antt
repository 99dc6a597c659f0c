-- A filter may follow anything; the first of the two tests left that holds gives the refusal, and else the figure is the definition's.
use borrow.Author.Tests.{lt-ltb, le-ltb}
use mathlib.Core.Path.{◌≡◌, refl, ap, sym, ◌∙◌}
use mathlib.Core.Bool.{false, not}
use Rattle.operator.specs.declared.Operator.TheVariants.{Filter}
use Rattle.figures.specs.Figures.{held_of_part, held_figure, capacity, own_delay, is_framed, quota_behind, figure_too_large, rate_too_low}
use Rattle.figures.specs.Carried.{progress_here, planned_of}
use Rattle.figures.proofs.Bounds.{filter-own, filter-adds, full-units}
use Rattle.figures.proofs.Tests.{placed}
use Rattle.figures.proofs.each.Place.filter.Goals as goal
use Rattle.figures.proofs.each.Place.filter.Goals.{After-added, After-part_held-most}

-- its held figure is that of the part with it
filter-held : (c : After-part_held-most) → c.part_held-most.result.0 ≡ held_figure (progress_here c.args.self.now) (Filter c.args.rate)
unfolding held_figure
filter-held c = c.part_held-most.ensures ∙ ap held_of_part c.behind_filter-after.ensures.0

-- its delay is what it adds to that of the part
filter-delay : (c : After-added) → c.added.result.0 ≡ own_delay (progress_here c.args.self.now) (Filter c.args.rate) false
unfolding own_delay
filter-delay c =
    let (same, ready) = c.behind_filter-after.ensures in
    c.added.ensures ∙ filter-own c.args.self.now.carried c.behind_filter-after.result c.args.rate c.requires.0.ready ready same

pub part_held-most-requires : goal.part_held-most-requires
part_held-most-requires c = c.behind_filter-after.ensures.1

pub returns-then-most-gt-LARGEST : goal.returns-then-most-gt-LARGEST
unfolding planned_of is_framed figure_too_large quota_behind
returns-then-most-gt-LARGEST c = record { answered = rw (placed _ (Filter _) refl, ← filter-held (goal.at.returns-then-most-gt-LARGEST c).After-part_held-most, lt-ltb _ _ c.if-most-gt-LARGEST.true); carried = tt }

pub returns-then-not-carried_by : goal.returns-then-not-carried_by
unfolding planned_of is_framed figure_too_large quota_behind rate_too_low
returns-then-not-carried_by c =
    record {
      answered = rw (
        placed _ (Filter _) refl,
        ← filter-held (goal.at.returns-then-not-carried_by c).After-part_held-most,
        le-ltb _ _ c.if-most-gt-LARGEST.false,
        ap not (sym c.carried_by.ensures ∙ c.if-not-carried_by.true),
      );
      carried = tt;
    }

pub added-requires : goal.added-requires
added-requires c =
    let (same, ready) = c.behind_filter-after.ensures in
    let enough = sym c.carried_by.ensures ∙ c.if-not-carried_by.false in
    filter-adds c.args.self.now.carried c.behind_filter-after.result c.args.rate c.requires.0.ready ready same c.requires.1 enough

pub returns : goal.returns
unfolding planned_of is_framed figure_too_large quota_behind rate_too_low capacity
returns c =
    let (same, ready) = c.behind_filter-after.ensures in
    record {
      answered = rw (
        placed _ (Filter _) refl,
        ← filter-held (goal.at.returns c).After-part_held-most,
        le-ltb _ _ c.if-most-gt-LARGEST.false,
        ap not (sym c.carried_by.ensures ∙ c.if-not-carried_by.false),
        ← filter-delay (goal.at.returns c).After-added,
        ← c.requires.0.arriving.0,
        ← full-units _ _ c.plus.ensures c.if-most-gt-LARGEST.false c.requires.0.arriving.1,
      );
      carried = (same, ready.lent, ready.burst);
    }
