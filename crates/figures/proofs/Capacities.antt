-- The capacity of document 02, item 9, of an operator that refusals 5 to 8 let pass is at most twice the largest amount: its held figure is within refusal 7's limit, and so is what arrives in one slot.
-- Behind a filter, and before a limiter or a filter, a rate that carries the class bounds what arrives; a delayer's held figure covers it; and before the filter part it is the most in one slot.
use mathlib.Core.Path.{◌≡◌, refl}
use mathlib.Core.Bool.{Bool, true, false, true≢false}
use Prim.Native.Nat.{ℕ, suc, ◌+◌, ◌*◌, ◌≤◌}
use native.Mathlib.Nat.{le_refl, add-mul, suc-mul, mul-le-mul, mul-le-mul_right}
use native.Mathlib.Omega.{arith}
use lib.Dec.{ltb}
use borrow.Author.Tests.{ltb-false, not-false}
use Rattle.quantity.specs.Limits.{largest_amount}
use Rattle.quantity.specs.Ranges.{rate_range, delay_range}
use Rattle.quantity.specs.Rounding.{round_up}
use Rattle.quantity.proofs.Laws.{either-false}
use Rattle.quantity.proofs.Rounding.{round-up-least}
use Rattle.flow.specs.Bounds.{ClassWithin}
use Rattle.flow.specs.Classes.{Class, smooth, uniform, rows, most_in, carries, burst_at}
use Rattle.flow.proofs.ClassBounds.{rows-most-bound, burst-bound, within-positive}
use Rattle.flow.proofs.Laws.{most-mono, most-le-delayed, most-le-burst}
use Rattle.operator.specs.FilterPart.{Slowest, unfiltered, filtered}
use Rattle.operator.specs.Operators.{number_in_range}
use Rattle.operator.specs.declared.Operator.{Operator}
use Rattle.operator.specs.declared.Operator.TheVariants.{Limiter, Compactor, Expander, Filter, Delayer}
use Rattle.figures.specs.Progress.{Progress, start, behind}
use Rattle.figures.specs.Figures.{part_held, part_delay, held_figure, most_arriving, capacity, is_framed, framed_after_filter, quota_behind, largest_changed_quota, figure_too_large, rate_too_low}
use Rattle.figures.specs.Carried.{Within, most_before}
use Rattle.figures.proofs.Part.{Carries, slower-carries}
use Rattle.figures.proofs.Steps.{Passed, not-in-part}
use Rattle.figures.proofs.Bounds.{in-range, round-up-times}

-- the capacity covers what is held, and no more than what is held and what arrives
pub held-le-capacity : (p : Progress) (op : Operator) → held_figure p op ≤ capacity p op
unfolding capacity
held-le-capacity p (Limiter R) = omega arith
held-le-capacity p (Compactor n) = omega arith
held-le-capacity p (Expander n) = le_refl _
held-le-capacity p (Filter R) = omega arith
held-le-capacity p (Delayer d) = omega arith

pub capacity-le-sum : (p : Progress) (op : Operator) → capacity p op ≤ held_figure p op + most_arriving p
unfolding capacity
capacity-le-sum p (Limiter R) = le_refl _
capacity-le-sum p (Compactor n) = le_refl _
capacity-le-sum p (Expander n) = omega arith
capacity-le-sum p (Filter R) = le_refl _
capacity-le-sum p (Delayer d) = le_refl _

-- a progress that operators which refusals 6 and 8 let pass have made: its slowest filter carries the class, and no delayer comes before the filter part
pub record Sound (p : Progress) : Type 0 where
  pub carries : Carries p.slowest p.class
  pub plain : p.in_filter_part ≡ false → p.e ≡ 0

pub sound-start : (c : Class) → Sound (start c)
sound-start c = record { carries = tt; plain = λ h. refl }

pub sound-behind : (p : Progress) (op : Operator) → Sound p → Passed p op → Sound (behind p op)
unfolding behind rate_too_low number_in_range
sound-behind p (Limiter R) sound passed = record { carries = tt; plain = λ h. refl }
sound-behind p (Compactor n) sound passed = record { carries = tt; plain = λ h. refl }
sound-behind p (Expander n) sound passed = record { carries = tt; plain = λ h. refl }
sound-behind p (Filter R) sound passed =
    record {
      carries = slower-carries p.slowest R.0 p.class sound.carries (in-range rate_range R.0 passed.inside).0 (not-false (carries p.class R.0) passed.rated);
      plain = λ h. absurd (true≢false h);
    }
sound-behind p (Delayer d) sound passed = record { carries = sound.carries; plain = λ h. absurd (true≢false h) }

-- What arrives in one slot.

-- in one slot there is one quota
most-in-one : (c : Class) → ClassWithin c → most_in c 1 ≤ largest_amount
unfolding most_in
most-in-one (smooth m Q) within =
    let quota = within.quota in
    let blocks : round_up 0 m + 1 ≤ 1 = omega (arith, round-up-least 0 m 0 within.least (omega arith)) in
    omega (arith, mul-le-mul_right Q blocks)
most-in-one (uniform m Q) within =
    let quota = within.quota in
    let least = within.least in
    let blocks : round_up 1 m ≤ 1 = round-up-least 1 m 1 least (omega arith) in
    omega (arith, mul-le-mul_right Q blocks)
most-in-one (rows given k) within = omega (arith, rows-most-bound given k 1 within.0 within.2 (omega arith))

-- behind delayers alone, at a rate that carries the class
carried-most : (c : Class) (e R : ℕ) → ClassWithin c → e ≤ most_before → R ≤ 65_535 → carries c R ≡ true → most_in c (suc e) ≤ largest_amount
carried-most c e R within short small enough =
    omega (arith, most-le-burst c R (within-positive c within) enough (suc e), burst-bound c R within, mul-le-mul {n₁ = suc e} {m₁ = R} {n₂ = 961} {m₂ = 65_535} (omega arith) small)

-- behind a filter: the part is late by ⌈burst/P⌉ + e, in which the rate has less than burst + P and e·P
filtered-most : (c : Class) (e P : ℕ) → ClassWithin c → e ≤ most_before → P ≤ 65_535 → carries c P ≡ true → most_in c (suc (round_up (burst_at c P) P + e)) ≤ largest_amount
filtered-most c e P within short small enough =
    let D = round_up (burst_at c P) P + e in
    omega (
      arith,
      most-le-burst c P (within-positive c within) enough (suc D),
      burst-bound c P within,
      suc-mul D P,
      add-mul (round_up (burst_at c P) P) e P,
      round-up-times (burst_at c P) P,
      mul-le-mul short small,
    )

arriving-made : (c : Class) (part : Bool) (e : ℕ) (P : Slowest) (op : Operator)
    → let p : Progress = record { class = c; in_filter_part = part; e = e; slowest = P } in Within most_before p → Sound p → Passed p op → held_figure p op ≤ largest_amount → most_arriving p ≤ largest_amount
unfolding most_arriving part_delay held_figure part_held behind number_in_range is_framed framed_after_filter rate_too_low
arriving-made c part e (filtered P) op within sound passed small = filtered-most c e P within.class within.e within.slowest.1 sound.carries.1
arriving-made c part e unfiltered (Limiter R) within sound passed small =
    carried-most c e R.0 within.class within.e (in-range rate_range R.0 passed.inside).1 (not-false (carries c R.0) passed.rated)
arriving-made c part e unfiltered (Compactor n) within sound passed small = rw (sound.plain (not-in-part part passed.placed)) (most-in-one c within.class)
arriving-made c part e unfiltered (Expander n) within sound passed small = rw (sound.plain (not-in-part part passed.placed)) (most-in-one c within.class)
arriving-made c part e unfiltered (Filter R) within sound passed small =
    carried-most c e R.0 within.class within.e (in-range rate_range R.0 passed.inside).1 (not-false (carries c R.0) passed.rated)
arriving-made c part e unfiltered (Delayer d) within sound passed small =
    let positive = within-positive c within.class in
    let some = (in-range delay_range d.0 passed.inside).0 in
    omega (arith, most-mono c positive (suc e) (e + d.0) (omega arith), most-le-delayed c positive (e + d.0))

module _ (p : Progress) (op : Operator) where
  -- what refusal 7 lets pass
  pub held-passed : figure_too_large p op ≡ false → held_figure p op ≤ largest_amount
  unfolding figure_too_large
  held-passed e = ltb-false largest_amount (held_figure p op) (either-false (ltb largest_changed_quota (quota_behind p op)) (ltb largest_amount (held_figure p op)) e).1

  module _ (within : Within most_before p) (sound : Sound p) (passed : Passed p op) (sized : figure_too_large p op ≡ false) where
    pub arriving-le : most_arriving p ≤ largest_amount
    arriving-le = arriving-made p.class p.in_filter_part p.e p.slowest op within sound passed (held-passed sized)

    pub capacity-le : capacity p op ≤ 2 * largest_amount
    capacity-le = omega (arith, capacity-le-sum p op, held-passed sized, arriving-le)
