-- Refusal 7 never stands while the class is of rows: declared rows allow at most 65,535 a slot, and no change of interval or delay looks further than 1,024 slots.
use Prim.Native.Nat.{ℕ, ◌≤◌}
use mathlib.Core.Path.{◌≡◌, subst}
use mathlib.Core.Bool.{true, false}
use native.Mathlib.Nat.{mul-le-mul}
use native.Mathlib.Omega.{arith}
use borrow.Author.Tests.{le-ltb}
use Rattle.quantity.specs.Limits.{largest_amount}
use Rattle.quantity.specs.Ranges.{interval_range}
use Rattle.quantity.specs.declared.Interval.{Interval}
use Rattle.flow.specs.Rows.{Row}
use Rattle.flow.specs.Classes.{rows, most_delayed, changed_quota}
use Rattle.operator.specs.FilterPart.{Slowest, unfiltered, filtered}
use Rattle.operator.specs.Operators.{number_in_range}
use Rattle.operator.specs.declared.Operator.{Operator}
use Rattle.operator.specs.declared.Operator.TheVariants.{Limiter, Compactor, Expander, Filter, Delayer}
use Rattle.figures.specs.Progress.{Progress, behind}
use Rattle.figures.specs.Figures.{part_held, held_of_part, held_figure, quota_behind, figure_too_large, largest_changed_quota}
use Rattle.flow.specs.Bounds.{ClassWithin}
use Rattle.figures.specs.Carried.{RateWithin, Within, most_before, most_with}
use Rattle.flow.proofs.ClassBounds.{rows-most-bound, burst-bound}
use Rattle.figures.proofs.Bounds.{in-range, filter-within, delayer-within}

module _ (given : ℕ → Row) (k : ℕ) (inside : ClassWithin (rows given k)) where
  -- the quota of a change of interval
  changed-small : (n : ℕ) → n ≤ 1_024 → changed_quota n (rows given k) ≤ largest_changed_quota
  unfolding changed_quota
  changed-small n short = omega (arith, rows-most-bound given k n inside.0 inside.2 short)

  -- the held figure of a filter part
  part_small : (e : ℕ) (P : Slowest) → e ≤ most_with → RateWithin P → part_held (rows given k) e P ≤ largest_amount
  unfolding part_held most_delayed
  part_small e unfiltered short rate = omega (arith, rows-most-bound given k e inside.0 inside.2 short)
  part_small e (filtered P) short (positive, slow) = omega (arith, burst-bound (rows given k) P inside, mul-le-mul short slow)

module _ (given : ℕ → Row) (k : ℕ) (p : Progress) (several : p.class ≡ rows given k) where
  part-of-rows : Within most_with p → held_of_part p ≤ largest_amount
  part-of-rows within = rw several (part_small given k (subst ClassWithin several within.class) p.e p.slowest within.e within.slowest)

  changed-of-rows : (n : Interval) → Within most_before p → number_in_range (Compactor n) ≡ true → changed_quota n.0 p.class ≤ largest_changed_quota
  unfolding number_in_range
  changed-of-rows n within inside = rw several (changed-small given k (subst ClassWithin several within.class) n.0 (in-range interval_range n.0 inside).1)

module _ (given : ℕ → Row) (k : ℕ) (p : Progress) (several : p.class ≡ rows given k) (within : Within most_before p) where
  quota-small : (op : Operator) → number_in_range op ≡ true → quota_behind p op ≤ largest_changed_quota
  unfolding quota_behind number_in_range
  quota-small (Limiter R) inside = omega arith
  quota-small (Compactor n) inside = changed-of-rows given k p several n within inside
  quota-small (Expander n) inside = changed-of-rows given k p several n within inside
  quota-small (Filter R) inside = omega arith
  quota-small (Delayer d) inside = omega arith

  held_small : (op : Operator) → number_in_range op ≡ true → held_figure p op ≤ largest_amount
  unfolding held_figure behind number_in_range
  held_small (Limiter R) inside = omega (arith, burst-bound p.class R.0 within.class)
  held_small (Compactor n) inside = omega (arith, changed-of-rows given k p several n within inside)
  held_small (Expander n) inside = omega (arith, changed-of-rows given k p several n within inside)
  held_small (Filter R) inside = part-of-rows given k (behind p (Filter R)) several (filter-within p R within inside)
  held_small (Delayer d) inside = part-of-rows given k (behind p (Delayer d)) several (delayer-within p d within inside)

  pub rows-never-too-large : (op : Operator) → number_in_range op ≡ true → figure_too_large p op ≡ false
  unfolding figure_too_large
  rows-never-too-large op inside = rw (le-ltb _ _ (quota-small op inside), le-ltb _ _ (held_small op inside))
