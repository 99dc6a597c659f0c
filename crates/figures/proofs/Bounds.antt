-- Section 4's numbers fit their words: what is carried stays within its bounds behind every operator that is not refused, and no delay is above its class's burst and its slots.
use Prim.Native.Nat.{ℕ, suc, ◌+◌, ◌*◌, ◌≤◌, ◌<◌, ◌-◌}
use mathlib.Core.Path.{◌≡◌, sym, ap, subst, ◌∙◌}
use mathlib.Core.List.{List}
use Rattle.std.specs.Prelude.{Option, None, Some}
use lib.ListN.{length}
use mathlib.Core.Bool.{Bool, true, false}
use native.Mathlib.Nat.{le_trans, le-mul_of_pos_right, mul-le-mul, mul_comm, div-mul-le_self, le-min, min-le_left}
use native.Mathlib.Omega.{arith}
use borrow.Author.Tests.{leb-true}
use Rattle.quantity.specs.Ranges.{Range, in_range, interval_range, rate_range, delay_range}
use Rattle.quantity.specs.Rounding.{round_up}
use Rattle.quantity.specs.Choice.{pick}
use Rattle.quantity.specs.Limits.{largest_amount}
use Rattle.quantity.specs.Quantities.{units_sum, units_over}
use Rattle.quantity.specs.declared.Slots.{Slots}
use Rattle.quantity.specs.declared.Units.{Units}
use Rattle.quantity.specs.declared.Rate.{Rate}
use Rattle.quantity.specs.declared.Delay.{Delay}
use Rattle.quantity.proofs.Quantities.{units-sum, units-over}
use Rattle.quantity.proofs.Rounding.{round-up-least}
use Rattle.quantity.proofs.Sums.{both_true}
use Rattle.flow.specs.Rows.{Row, rows_burst}
use Rattle.flow.specs.Bounds.{ClassWithin}
use Rattle.flow.specs.Declarations.{several_at}
use Rattle.flow.specs.declared.Kind.{Kind}
use Rattle.quantity.specs.declared.Interval.{Interval}
use Rattle.flow.proofs.Laws.{rows-burst-slots}
use Rattle.flow.specs.Classes.{Class, rows, carries, burst_at}
use Rattle.flow.proofs.ClassBounds.{burst-bound, within-positive}
use Rattle.operator.specs.FilterPart.{Slowest, unfiltered, filtered, slower}
use Rattle.operator.specs.Operators.{number_in_range}
use Rattle.operator.specs.declared.Operator.{Operator}
use Rattle.operator.specs.declared.Operator.TheVariants.{Limiter, Compactor, Expander, Filter, Delayer}
use Rattle.figures.specs.declared.carried.Least.{Least}
use Rattle.figures.specs.declared.class.Source.{Source}
use Rattle.figures.specs.Progress.{Progress, behind}
use Rattle.figures.specs.Figures.{part_delay, delay_of_part, own_delay, quota_behind, largest_changed_quota}
use Rattle.figures.specs.declared.class.FlowClass.{FlowClass}
use Rattle.figures.specs.declared.carried.Carried.{Carried}
use Rattle.flow.specs.declared.Declaration.{Declaration}
use Rattle.figures.specs.Carried.{class_in, slowest_in, progress_in, RateWithin, Within, Reaches, ReachesPast, BurstKept, slots_kept, Ready, most_before, most_with}
use Rattle.figures.proofs.Part.{delay-le-slower}

pub in-range : (range : Range) (value : ℕ) → in_range range value ≡ true → (range.least ≤ value) × (value ≤ range.largest)
unfolding in_range
in-range range value e = let (low, high) = both_true _ _ e in (leb-true _ _ low, leb-true _ _ high)

-- the number of an operator that is known by its kind
pub inside_of : {op known : Operator} → op ≡ known → number_in_range op ≡ true → number_in_range known ≡ true
inside_of e inside = sym (ap number_in_range e) ∙ inside

pub round-up-at-most : (x y : ℕ) → 1 ≤ y → round_up x y ≤ x
round-up-at-most x y positive = round-up-least x y x positive (le-mul_of_pos_right x positive)

-- ⌈x/y⌉·y is less than x + y
pub round-up-times : (x y : ℕ) → round_up x y * y ≤ x + (y - 1)
unfolding round_up
round-up-times x y = div-mul-le_self (x + (y - 1)) y

pub rate-within : {slowest : Option Least} {least : Least} → slowest ≡ Some least → RateWithin (slowest_in slowest) → (1 ≤ least.rate.0) × (least.rate.0 ≤ 65_535)
rate-within e within = subst (λ (slowest : Option Least). RateWithin (slowest_in slowest)) e within

pub burst-kept : {slowest : Option Least} {least : Least} (c : Class) → slowest ≡ Some least → BurstKept c slowest → (least.burst.0 ≡ burst_at c least.rate.0) × (least.slots.0 ≡ round_up least.burst.0 least.rate.0)
burst-kept c e kept = subst (BurstKept c) e kept

-- burst + e·P, as units added to units
pub part-units : (burst over : Units) (rate : Rate) (e : Slots) → over ≡ units_over rate e → burst.0 ≤ 134_217_726 → e.0 ≤ most_with → rate.0 ≤ 65_535 → (units_sum burst over).0 ≡ burst.0 + e.0 * rate.0
part-units burst over rate e made small short slow =
    let product : over.0 ≡ e.0 * rate.0 = ap (λ (units : Units). units.0) made ∙ units-over rate e ∙ mul_comm rate.0 e.0 in
    units-sum burst over (omega (arith, mul-le-mul short slow)) ∙ ap (λ (n : ℕ). burst.0 + n) product

-- what is held and what arrives, as units added to units
pub full-units : {full : Units} (held arriving : Units) → full ≡ units_sum held arriving → held.0 ≤ largest_amount → arriving.0 ≤ 134_218_751 * 67_108_863 → full.0 ≡ held.0 + arriving.0
full-units held arriving made few small = ap (λ (units : Units). units.0) made ∙ units-sum held arriving (omega (arith, few, small))

slower-within : (P : Slowest) (R : ℕ) → RateWithin P → in_range rate_range R ≡ true → RateWithin (slower P R)
unfolding slower
slower-within unfiltered R within inside = in-range rate_range R inside
slower-within (filtered P) R within inside =
    let (least, largest) = in-range rate_range R inside in
    (le-min within.0 least, le_trans (min-le_left P R) within.1)

-- behind an operator that refusal 7 lets pass
pub behind-within : (longest : ℕ) (p : Progress) (op : Operator) → Within longest p → number_in_range op ≡ true → quota_behind p op ≤ largest_changed_quota → Within (longest + 64) (behind p op)
unfolding number_in_range quota_behind behind
behind-within longest p (Limiter R) within inside small =
    let (least, largest) = in-range rate_range R.0 inside in
    record { class = record { least = omega arith; most = omega arith; quota = omega arith }; e = omega arith; slowest = tt }
behind-within longest p (Compactor n) within inside small =
    let (least, largest) = in-range interval_range n.0 inside in
    record { class = record { least = least; most = largest; quota = small }; e = omega arith; slowest = tt }
behind-within longest p (Expander n) within inside small =
    let (least, largest) = in-range interval_range n.0 inside in
    record { class = record { least = least; most = largest; quota = small }; e = omega arith; slowest = tt }
behind-within longest p (Filter R) within inside small =
    let shorter = within.e in
    record { class = within.class; e = omega arith; slowest = slower-within p.slowest R.0 within.slowest inside }
behind-within longest p (Delayer d) within inside small =
    let shorter = within.e in
    let (least, largest) = in-range delay_range d.0 inside in
    record { class = within.class; e = omega arith; slowest = within.slowest }

-- with the sixteenth of sixteen operators
pub with-within : (p : Progress) (op : Operator) → Within most_before p → number_in_range op ≡ true → quota_behind p op ≤ largest_changed_quota → Within most_with (behind p op)
with-within p op = behind-within most_before p op

-- so behind a filter and behind a delayer, which change no quota
pub filter-within : (p : Progress) (R : Rate) → Within most_before p → number_in_range (Filter R) ≡ true → Within most_with (behind p (Filter R))
unfolding quota_behind
filter-within p R within inside = with-within p (Filter R) within inside (omega arith)

pub delayer-within : (p : Progress) (d : Delay) → Within most_before p → number_in_range (Delayer d) ≡ true → Within most_with (behind p (Delayer d))
unfolding quota_behind
delayer-within p d within inside = with-within p (Delayer d) within inside (omega arith)

pub within-le : {p : Progress} {shorter longer : ℕ} → shorter ≤ longer → Within shorter p → Within longer p
within-le h within = record { class = within.class; e = le_trans within.e h; slowest = within.slowest }

part-delay-of : (c : Class) (e longest : ℕ) (P : Slowest) → ClassWithin c → e ≤ longest → RateWithin P → part_delay c e P ≤ 134_217_726 + longest
unfolding part_delay
part-delay-of c e longest unfiltered within short rate = omega arith
part-delay-of c e longest (filtered P) within short rate = omega (arith, round-up-at-most (burst_at c P) P rate.0, burst-bound c P within)

pub part-delay-bound : (longest : ℕ) (p : Progress) → Within longest p → delay_of_part p ≤ 134_217_726 + longest
part-delay-bound longest p within = part-delay-of p.class p.e longest p.slowest within.class within.e within.slowest

delayer-adds-of : (c : Class) (e d : ℕ) (P : Slowest) → part_delay c (e + d) P - part_delay c e P ≡ d
unfolding part_delay
delayer-adds-of c e d unfiltered = omega arith
delayer-adds-of c e d (filtered P) = omega arith

-- a delayer adds its own slots
pub delayer-delay : (p : Progress) (d : Delay) → delay_of_part (behind p (Delayer d)) - delay_of_part p ≡ d.0
unfolding behind
delayer-delay p d = delayer-adds-of p.class p.e d.0 p.slowest

-- no filter whose rate carries the class takes from the delay of its part
pub filter-delays : (longest : ℕ) (p : Progress) (R : Rate) → Within longest p → number_in_range (Filter R) ≡ true → carries p.class R.0 ≡ true → delay_of_part p ≤ delay_of_part (behind p (Filter R))
unfolding number_in_range behind
filter-delays longest p R within inside enough =
    delay-le-slower p.class p.e p.slowest R.0 (within-positive p.class within.class) (in-range rate_range R.0 inside).0 enough

paired-delay : (paired : Bool) (n : ℕ) → n ≤ 1024 → pick paired 0 n ≤ 1024
paired-delay true n small = omega arith
paired-delay false n small = small

pub own-delay-bound : (p : Progress) (op : Operator) (paired : Bool) → Within most_before p → number_in_range op ≡ true → own_delay p op paired ≤ 134_218_750
unfolding number_in_range own_delay
own-delay-bound p (Limiter R) paired within inside =
    omega (arith, round-up-at-most (burst_at p.class R.0) R.0 (in-range rate_range R.0 inside).0, burst-bound p.class R.0 within.class)
own-delay-bound p (Compactor n) paired within inside = omega (arith, (in-range interval_range n.0 inside).1)
own-delay-bound p (Expander n) paired within inside = omega (arith, paired-delay paired n.0 (in-range interval_range n.0 inside).1)
own-delay-bound p (Filter R) paired within inside = omega (arith, part-delay-bound 1024 (behind p (Filter R)) (with-within p (Filter R) within inside (unfold quota_behind in omega arith)))
own-delay-bound p (Delayer d) paired within inside = omega (arith, part-delay-bound 1024 (behind p (Delayer d)) (with-within p (Delayer d) within inside (unfold quota_behind in omega arith)))

-- What the code keeps of a part is what the definitions say.

kept-delay : (c : Class) (e : ℕ) (slowest : Option Least) → BurstKept c slowest → slots_kept slowest + e ≡ part_delay c e (slowest_in slowest)
unfolding part_delay
kept-delay c e None kept = omega arith
kept-delay c e (Some least) (same, counted) = rw (counted, same)

module _ {longest : ℕ} {source : Source} {carried : Carried} (ready : Ready longest source carried) where
  pub delay-kept : slots_kept carried.slowest + carried.e.0 ≡ delay_of_part (progress_in source.declared.now carried)
  delay-kept = kept-delay (class_in source.declared.now carried.class) carried.e.0 carried.slowest ready.burst

-- How late a part is: a table of its rows reaches one slot beyond.

-- of rows, the least rate sends the burst in fewer slots than the longest interval has
rows-slots : (given : ℕ → Row) (k m R : ℕ) → ClassWithin (rows given k) → 1 ≤ R → 1 ≤ m → ((i : ℕ) → i < k → (given i).interval ≤ m) → round_up (rows_burst given k R) R ≤ m - 1
rows-slots given k m R within positive some short =
    round-up-least (rows_burst given k R) R (m - 1) positive (rows-burst-slots given k within.0 (λ i less. (within.2 i less).large) R m some short)

rows-late : (declared : Declaration) (bound : List ℕ) → ClassWithin (rows (several_at declared) declared.count) → (e : ℕ) → ReachesPast Kind.Rows declared bound e
    → (slowest : Option Least) → RateWithin (slowest_in slowest) → BurstKept (rows (several_at declared) declared.count) slowest → suc (slots_kept slowest + e) ≤ length bound
unfolding burst_at
rows-late declared bound within e far None rate kept = omega (arith, far 0 within.0, (within.2 0 within.0).large)
rows-late declared bound within e far (Some least) rate (same, counted) =
    let R = least.rate in
    let some : suc e ≤ length bound = omega (arith, far 0 within.0, (within.2 0 within.0).large) in
    let sent = rows-slots (several_at declared) declared.count (length bound - e) R.0 within rate.0 (omega arith) (λ i less. omega (arith, far i less)) in
    let slots-are : least.slots.0 ≡ round_up (rows_burst (several_at declared) declared.count R.0) R.0 = counted ∙ ap (λ (units : ℕ). round_up units R.0) same in
    omega (arith, sent, slots-are)

reaches-by : (kind : Kind) (declared : Declaration) (bound : List ℕ) (interval : Interval) (quota : Units) → let class : FlowClass = record { kind = kind; interval = interval; quota = quota } in
    ClassWithin (class_in declared class) → (e : ℕ) → ReachesPast kind declared bound e → (slowest : Option Least) → RateWithin (slowest_in slowest) → BurstKept (class_in declared class) slowest
    → Reaches kind bound (suc (slots_kept slowest + e))
reaches-by Kind.Smooth declared bound interval quota within e far slowest rate kept = tt
reaches-by Kind.Uniform declared bound interval quota within e far slowest rate kept = tt
reaches-by Kind.Rows declared bound interval quota within e far slowest rate kept = rows-late declared bound within e far slowest rate kept

module _ {source : Source} {carried : Carried} (ready : Ready most_before source carried) where
  pub late-small : slots_kept carried.slowest + carried.e.0 ≤ 134_218_750
  late-small = omega (arith, delay-kept ready, part-delay-bound most_before (progress_in source.declared.now carried) ready.within)

  pub late-reaches : ReachesPast carried.class.kind source.declared.now source.bound.now carried.e.0 → Reaches carried.class.kind source.bound.now (suc (slots_kept carried.slowest + carried.e.0))
  late-reaches far =
      reaches-by carried.class.kind source.declared.now source.bound.now carried.class.interval carried.class.quota ready.within.class carried.e.0 far carried.slowest ready.within.slowest ready.burst

-- behind a delayer
pub delayer-ready : {source : Source} (carried : Carried) (d : Delay) → Ready most_before source carried → number_in_range (Delayer d) ≡ true
    → Ready most_with source (record { class = carried.class; filtering = true; e = record { 0 = carried.e.0 + d.0 }; slowest = carried.slowest })
unfolding behind
delayer-ready {source} carried d ready inside =
    record { within = delayer-within (progress_in source.declared.now carried) d ready.within inside; lent = ready.lent; burst = ready.burst }

-- behind a filter, what the slots that are kept come to more is what it adds to the delay of its part; it takes nothing where its rate carries the class
module _ {source : Source} (before after : Carried) (R : Rate) (ready : Ready most_before source before) (later : Ready most_with source after)
    (same : progress_in source.declared.now after ≡ behind (progress_in source.declared.now before) (Filter R)) where
  same-slots : after.e.0 ≡ before.e.0
  unfolding behind
  same-slots = ap (λ (p : Progress). p.e) same

  pub filter-own : slots_kept after.slowest - slots_kept before.slowest ≡ delay_of_part (behind (progress_in source.declared.now before) (Filter R)) - delay_of_part (progress_in source.declared.now before)
  filter-own = omega (arith, same-slots, delay-kept ready, delay-kept later, ap delay_of_part same)

  pub filter-adds : number_in_range (Filter R) ≡ true → carries (class_in source.declared.now before.class) R.0 ≡ true → slots_kept before.slowest ≤ slots_kept after.slowest
  filter-adds inside enough =
      omega (arith, same-slots, delay-kept ready, delay-kept later, ap delay_of_part same, filter-delays most_before (progress_in source.declared.now before) R ready.within inside enough)
