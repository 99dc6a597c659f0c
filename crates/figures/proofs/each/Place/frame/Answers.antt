-- The first test that holds gives the refusal, and else the figure is the definition's: a quota that 7 lets pass is below the largest amount, and 8 asks nothing. Its output has the changed quota.
use mathlib.Core.Path.{refl}
use borrow.Author.Tests.{lt-ltb, le-ltb}
use native.Mathlib.Omega.{arith}
use Prim.Native.Nat.{◌≤◌}
use Rattle.quantity.specs.Limits.{largest_amount}
use Rattle.quantity.specs.Ranges.{interval_range}
use Rattle.operator.specs.Operators.{number_in_range}
use Rattle.figures.specs.Figures.{held_figure, own_delay, is_framed, framed_after_filter, quota_behind, figure_too_large, rate_too_low}
use Rattle.figures.proofs.Bounds.{in-range, full-units}
use Rattle.figures.proofs.each.Place.frame.Goals as goal

pub returns-then-carried : goal.returns-then-carried
unfolding framed_after_filter is_framed
returns-then-carried c = (rw c.if-carried.true, tt)

pub changed_quota-most-requires : goal.changed_quota-most-requires
unfolding number_in_range
changed_quota-most-requires c =
    let (least, most) = in-range interval_range c.args.n.0 c.requires.1 in
    (c.requires.0.ready.within.class, c.requires.0.ready.lent, least, most)

pub returns-then-most-gt-LARGEST_CHANGED_QUOTA : goal.returns-then-most-gt-LARGEST_CHANGED_QUOTA
unfolding framed_after_filter is_framed figure_too_large quota_behind held_figure
returns-then-most-gt-LARGEST_CHANGED_QUOTA c =
    (rw (c.if-carried.false, ← c.changed_quota-most.ensures, lt-ltb _ _ c.if-most-gt-LARGEST_CHANGED_QUOTA.true), tt)

pub returns : goal.returns
unfolding framed_after_filter is_framed figure_too_large quota_behind held_figure rate_too_low own_delay
returns c =
    let small : c.changed_quota-most.result.0 ≤ largest_amount = omega (arith, c.if-most-gt-LARGEST_CHANGED_QUOTA.false) in (
      rw (
        c.if-carried.false,
        ← c.changed_quota-most.ensures,
        le-ltb _ _ c.if-most-gt-LARGEST_CHANGED_QUOTA.false,
        le-ltb _ _ small,
        ← c.expander_delay.ensures,
        ← full-units _ _ c.plus.ensures small c.requires.3,
      ),
      rw (c.framed.ensures, c.changed_quota-most.ensures) (refl, c.requires.2, tt),
    )
