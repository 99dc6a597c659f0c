-- The first of the three tests that holds gives the refusal, and else the figure is the definition's, and its output is uniform (1, R).
use borrow.Author.Tests.{lt-ltb, le-ltb}
use native.Mathlib.Omega.{arith}
use mathlib.Core.Path.{refl, sym, ap, ◌∙◌}
use mathlib.Core.Bool.{not}
use Prim.Native.Nat.{◌≤◌}
use Rattle.quantity.specs.Ranges.{rate_range}
use Rattle.operator.specs.Operators.{number_in_range}
use Rattle.figures.specs.Progress.{behind}
use Rattle.figures.specs.Figures.{held_figure, capacity, own_delay, is_framed, framed_after_filter, quota_behind, figure_too_large, rate_too_low}
use Rattle.figures.specs.Carried.{planned_of}
use Rattle.figures.proofs.Bounds.{in-range, full-units}
use Rattle.figures.proofs.each.Place.limiter.Goals as goal
use Rattle.figures.proofs.each.Place.limiter.Goals.{Start}

rate-inside : (s : Start) → (1 ≤ s.args.rate.0) × (s.args.rate.0 ≤ 65_535)
unfolding number_in_range
rate-inside s = in-range rate_range s.args.rate.0 s.requires.1

pub returns-then-carried : goal.returns-then-carried
unfolding planned_of framed_after_filter is_framed
returns-then-carried c = record { answered = rw c.if-carried.true; carried = tt }

pub burst_at-most-requires : goal.burst_at-most-requires
burst_at-most-requires c = (c.requires.0.ready.within.class, c.requires.0.ready.lent, (rate-inside (goal.at.burst_at-most-requires c).Start).1)

pub returns-then-most-gt-LARGEST : goal.returns-then-most-gt-LARGEST
unfolding planned_of framed_after_filter is_framed figure_too_large quota_behind held_figure
returns-then-most-gt-LARGEST c =
    record { answered = rw (c.if-carried.false, ← c.burst_at-most.ensures, lt-ltb _ _ c.if-most-gt-LARGEST.true); carried = tt }

pub returns-then-not-carried_by : goal.returns-then-not-carried_by
unfolding planned_of framed_after_filter is_framed figure_too_large quota_behind held_figure rate_too_low
returns-then-not-carried_by c =
    record {
      answered = rw (
        c.if-carried.false,
        ← c.burst_at-most.ensures,
        le-ltb _ _ c.if-most-gt-LARGEST.false,
        ap not (sym c.carried_by.ensures ∙ c.if-not-carried_by.true),
      );
      carried = tt;
    }

pub returns : goal.returns
unfolding planned_of framed_after_filter is_framed figure_too_large quota_behind held_figure rate_too_low own_delay capacity behind
returns c =
    record {
      answered = rw (
        ← c.requires.0.arriving.0,
        c.if-carried.false,
        ← c.burst_at-most.ensures,
        le-ltb _ _ c.if-most-gt-LARGEST.false,
        ap not (sym c.carried_by.ensures ∙ c.if-not-carried_by.false),
        ← c.sent_in.ensures,
        ← full-units _ _ c.plus.ensures c.if-most-gt-LARGEST.false c.requires.0.arriving.1,
      );
      carried = rw (c.framed.ensures, c.from.ensures) (refl, tt, tt);
    }

pub sent_in-requires : goal.sent_in-requires
sent_in-requires c = ((rate-inside (goal.at.sent_in-requires c).Start).0, omega (arith, c.if-most-gt-LARGEST.false))
