-- What holds before an operator holds behind it, and it keeps its figures: one lemma for each kind of operator, from the operators' laws.
use mathlib.Core.Path.{◌≡◌, refl, sym, ap, ◌∙◌}
use mathlib.Core.Bool.{Bool, true, false, true≢false}
use Prim.Native.Nat.{ℕ, ◌+◌, ◌-◌, ◌≤◌}
use native.Mathlib.Nat.{add-zero, le_refl, le_trans}
use native.Mathlib.Omega.{arith}
use lib.Dec.{leb}
use borrow.Author.Tests.{leb-true, not-false, eqb-true}
use Rattle.quantity.specs.Choice.{pick}
use Rattle.quantity.specs.Ranges.{Range, in_range, interval_range, rate_range}
use Rattle.quantity.specs.Sums.{total}
use Rattle.quantity.specs.declared.Interval.{Interval}
use Rattle.quantity.specs.declared.Rate.{Rate}
use Rattle.quantity.specs.declared.Delay.{Delay}
use Rattle.quantity.proofs.Sums.{both_true}
use Rattle.operator.specs.Operators.{number_in_range, expander, delayer}
use Rattle.flow.specs.Flows.{Flow, Smooth, InTime, Behind, Envelope}
use Rattle.operator.specs.OnFlows.{held_on, output_on, Fitting}
use Rattle.flow.specs.Classes.{Class, smooth, uniform, Positive, Keeps, changed_quota, carries, burst_at}
use Rattle.operator.specs.FilterPart.{Slowest, Served}
use Rattle.operator.specs.declared.Operator.{Operator}
use Rattle.operator.specs.declared.Operator.TheVariants.{Limiter, Compactor, Expander, Filter, Delayer}
use Rattle.flow.proofs.Laws as Flows
use Rattle.operator.proofs.Laws as Laws
use Rattle.figures.specs.Progress.{Progress, start, behind}
use Rattle.figures.specs.Figures.{part_delay, delay_of_part, held_figure, most_arriving, capacity, own_delay, pairs, is_framed, framed_after_filter, rate_too_low}
use Rattle.figures.proofs.Part.{Carries, slower-carries, delay-le-slower, delay-le-longer, part-arrives, part-held, part-beside, part-entering}

-- what is known before an operator, of the flow g that the class is of and the flow f into the operator
pub record Known (p : Progress) (g f : Flow) : Type 0 where
  pub kept : Keeps p.class g
  pub large : Positive p.class
  pub carries : Carries p.slowest p.class
  pub served : Served p.slowest p.e g f
  pub entered : Behind g f
  -- before the filter part
  pub plain : p.in_filter_part ≡ false → (p ≡ start p.class) × (g ≡ f)

-- how late the flow into an operator is behind r, on a path whose delays up to here are D: g is late by what D has beyond the part's delay;
-- or D leaves out the expander before this operator, since the two make a pair, and then it is the flow into the expander that is late by D
pub data Timed (r : Flow) (p : Progress) (op : Operator) (g f : Flow) (D : ℕ) : Type 0 where
  counted : (E : ℕ) → E + delay_of_part p ≡ D → InTime E r g → Timed r p op g f D
  paired : (n : ℕ) (s c : Flow) → pairs (expander n) op ≡ true → output_on (expander n) s c ≡ f → Fitting (expander n) s c → InTime D r s → Timed r p op g f D

-- what the refusals 5, 6 and 8 let pass
pub record Passed (p : Progress) (op : Operator) : Type 0 where
  pub inside : number_in_range op ≡ true
  pub placed : framed_after_filter p op ≡ false
  pub rated : rate_too_low p op ≡ false

-- what an operator does with choices c
pub record Step (p : Progress) (op : Operator) (g f c : Flow) : Type 0 where
  pub known : Known (behind p op) (pick (is_framed op) (output_on op f c) g) (output_on op f c)
  pub held : (n : ℕ) → (held_on op f c n).b ≤ held_figure p op
  pub beside : (n : ℕ) → (held_on op f c n).h ≤ held_figure p op
  pub arrives : (n : ℕ) → f n ≤ most_arriving p
  pub fullest : (n : ℕ) → (held_on op f c n).b + f n ≤ capacity p op
  pub entering : (d : ℕ) → op ≡ delayer d → (n : ℕ) → total f n ≤ total f (n - d) + held_figure p op
  pub timed : (r : Flow) (D : ℕ) (next : Operator) (pair : Bool) → (pair ≡ true → pairs op next ≡ true) → Timed r p op g f D
      → Timed r (behind p op) next (pick (is_framed op) (output_on op f c) g) (output_on op f c) (D + own_delay p op pair)

pub known_start : (c : Class) (r : Flow) → Positive c → Keeps c r → Known (start c) r r
known_start c r large kept =
    record { kept = kept; large = large; carries = tt; served = Laws.served-start r; entered = λ n. le_refl _; plain = λ h. (refl, refl) }

pub above-least : (range : Range) (value : ℕ) → in_range range value ≡ true → range.least ≤ value
unfolding in_range
above-least range value e = leb-true range.least value (both_true (leb range.least value) (leb value range.largest) e).0

pub not-in-part : (t : Bool) → pick t true false ≡ false → t ≡ false
not-in-part true e = e
not-in-part false e = refl

-- a flow behind a framed operator, or into the path
pub timed-start : (r : Flow) (c : Class) (op : Operator) (s : Flow) (D : ℕ) → InTime D r s → Timed r (start c) op s s D
unfolding part_delay
timed-start r c op s D late = counted D (add-zero D) late

-- before an operator that makes no pair the delays of all operators are counted
pub timed-counted : (r : Flow) (p : Progress) (op : Operator) (g f : Flow) (D : ℕ) → ((n : ℕ) → pairs (expander n) op ≡ false) → Timed r p op g f D
    → (E : ℕ) × (E + delay_of_part p ≡ D) × InTime E r g
timed-counted r p op g f D other (counted E sum late) = (E, sum, late)
timed-counted r p op g f D other (paired n s c makes flow fits late) = absurd (true≢false (sym makes ∙ other n))

module _ (p : Progress) (g f c : Flow) (known : Known p g f) where
  -- into every operator, since the flow into it is that behind its part so far
  arrives-into : (n : ℕ) → f n ≤ most_arriving p
  unfolding most_arriving
  arrives-into = part-arrives p.class g known.large known.kept p.slowest p.e f known.carries known.entered known.served

  -- Framed operators, before the filter part.

  module _ (before : p.in_filter_part ≡ false) where
    kept-into : Keeps p.class f
    kept-into = rw (known.plain before).1 at known.kept

    smooth-into : (n : ℕ) → Smooth n (changed_quota n p.class) f
    smooth-into n = Flows.smooth-of-changed n p.class f (Flows.keeps-changed n p.class f known.large kept-into)

    late-into : (r : Flow) (D : ℕ) → (E : ℕ) × (E + delay_of_part p ≡ D) × InTime E r g → InTime D r f
    unfolding part_delay
    late-into r D (E, sum, late) =
        let none : delay_of_part p ≡ 0 = ap (λ (q : Progress). delay_of_part q) (known.plain before).0 in
        let all : E ≡ D = omega arith in
        rw (← all, ← (known.plain before).1) late

  step-limiter : (R : Rate) → Passed p (Limiter R) → Fitting (Limiter R) f c → Step p (Limiter R) g f c
  unfolding behind held_figure capacity own_delay pairs is_framed framed_after_filter rate_too_low number_in_range
  step-limiter R passed fits =
      let output = output_on (Limiter R) f c in
      let before = not-in-part p.in_filter_part passed.placed in
      let bound : Envelope (burst_at p.class R.0) R.0 f = Flows.envelope p.class f R.0 known.large (not-false (carries p.class R.0) passed.rated) (kept-into before) in
      let held = Laws.limiter-held R.0 (burst_at p.class R.0) f c fits bound in
      let late = Laws.limiter-in-time R.0 (burst_at p.class R.0) f c (above-least rate_range R.0 passed.inside) fits bound in
      record {
        known = known_start (uniform 1 R.0) output (le_refl 1) (Laws.limiter-uniform R.0 f c fits);
        held = held;
        beside = λ n. omega (arith, Laws.beside_none (Limiter R) (λ R same. let z : ◌≡◌ {A = ℕ} 0 1 = cc in omega arith) f c n);
        arrives = arrives-into;
        fullest = λ n. omega (arith, held n, arrives-into n);
        entering = λ d same. absurd (let z : ◌≡◌ {A = ℕ} 0 1 = cc in omega arith);
        timed = λ r D next pair makes timed. timed-start r (uniform 1 R.0) next output _
            (Flows.in-time-add D _ r f output (late-into before r D (timed-counted r p (Limiter R) g f D (λ n. refl) timed)) late);
      }

  -- an expander's delay, which is left out where it makes a pair
  timed-expander : (n : Interval) (q : Class) → 1 ≤ n.0 → Fitting (Expander n) f c → (r : Flow) (D : ℕ) (next : Operator) → InTime D r f
      → (pair : Bool) → (pair ≡ true → pairs (Expander n) next ≡ true)
      → Timed r (start q) next (output_on (Expander n) f c) (output_on (Expander n) f c) (D + pick pair 0 n.0)
  timed-expander n q large fits r D next late true makes = paired n.0 f c (makes refl) refl fits (rw add-zero late)
  timed-expander n q large fits r D next late false makes =
      timed-start r q next _ _ (Flows.in-time-add D n.0 r f (output_on (Expander n) f c) late (Laws.expander-in-time n.0 f c large fits))

  step-expander : (n : Interval) → Passed p (Expander n) → Fitting (Expander n) f c → Step p (Expander n) g f c
  unfolding behind held_figure capacity own_delay pairs is_framed framed_after_filter number_in_range
  step-expander n passed fits =
      let output = output_on (Expander n) f c in
      let Q = changed_quota n.0 p.class in
      let before = not-in-part p.in_filter_part passed.placed in
      let large = above-least interval_range n.0 passed.inside in
      let kept = smooth-into before n.0 in
      record {
        known = known_start (smooth n.0 Q) output large (Laws.expander-smooth n.0 Q f c large fits kept);
        held = Laws.expander-held n.0 Q f c large fits kept;
        beside = λ k. omega (arith, Laws.beside_none (Expander n) (λ R same. let z : ◌≡◌ {A = ℕ} 0 1 = cc in omega arith) f c k);
        arrives = arrives-into;
        fullest = Laws.expander-fullest n.0 Q f c large fits kept;
        entering = λ d same. absurd (let z : ◌≡◌ {A = ℕ} 0 1 = cc in omega arith);
        timed = λ r D next pair makes timed. timed-expander n _ large fits r D next (late-into before r D (timed-counted r p (Expander n) g f D (λ n. refl) timed)) pair makes;
      }

  -- a compactor's output, which is late by n in all where it makes a pair with the expander before it
  late-compactor : (n : Interval) → p.in_filter_part ≡ false → 1 ≤ n.0 → Fitting (Compactor n) f c → (r : Flow) (D : ℕ) → Timed r p (Compactor n) g f D
      → InTime (D + n.0) r (output_on (Compactor n) f c)
  unfolding pairs
  late-compactor n before large fits r D (counted E sum late) =
      Flows.in-time-add D n.0 r f (output_on (Compactor n) f c) (late-into before r D (E, sum, late)) (Laws.compactor-in-time n.0 f c large fits)
  late-compactor n before large fits r D (paired m s e makes flow first late) =
      let interval : m ≡ n.0 = sym (eqb-true n.0 m makes) in
      let into : output_on (expander n.0) s e ≡ f = rw interval at flow in
      Flows.in-time-add D n.0 r s (output_on (Compactor n) f c) late
      (rw (← into) (Laws.pair-in-time n.0 s e c large (rw interval at first) (rw into fits)))

  step-compactor : (n : Interval) → Passed p (Compactor n) → Fitting (Compactor n) f c → Step p (Compactor n) g f c
  unfolding behind held_figure capacity own_delay is_framed framed_after_filter number_in_range
  step-compactor n passed fits =
      let output = output_on (Compactor n) f c in
      let Q = changed_quota n.0 p.class in
      let before = not-in-part p.in_filter_part passed.placed in
      let large = above-least interval_range n.0 passed.inside in
      let kept = smooth-into before n.0 in
      let held = Laws.compactor-held n.0 Q f c large fits kept in
      record {
        known = known_start (uniform n.0 Q) output large (Laws.compactor-uniform n.0 Q f c large fits kept);
        held = held;
        beside = λ k. omega (arith, Laws.beside_none (Compactor n) (λ R same. let z : ◌≡◌ {A = ℕ} 0 1 = cc in omega arith) f c k);
        arrives = arrives-into;
        fullest = λ n. omega (arith, held n, arrives-into n);
        entering = λ d same. absurd (let z : ◌≡◌ {A = ℕ} 0 1 = cc in omega arith);
        timed = λ r D next pair makes timed. timed-start r (uniform n.0 Q) next output _ (late-compactor n before large fits r D timed);
      }

  -- The filter part.

  known-in-part : (op : Operator) (e : ℕ) (P : Slowest) → Carries P p.class → Fitting op f c → Served P e g (output_on op f c)
      → Known (record { class = p.class; in_filter_part = true; e = e; slowest = P }) g (output_on op f c)
  known-in-part op e P carries fits served =
      record {
        kept = known.kept;
        large = known.large;
        carries = carries;
        served = served;
        entered = λ n. le_trans (Laws.output-behind op f c fits n) (known.entered n);
        plain = λ h. absurd (true≢false h);
      }

  step-filter : (R : Rate) → Passed p (Filter R) → Fitting (Filter R) f c → Step p (Filter R) g f c
  unfolding behind held_figure capacity own_delay pairs is_framed rate_too_low number_in_range
  step-filter R passed fits =
      let output = output_on (Filter R) f c in
      let enough = slower-carries p.slowest R.0 p.class known.carries (above-least rate_range R.0 passed.inside) (not-false (carries p.class R.0) passed.rated) in
      let served = Laws.served-filter p.slowest p.e R.0 g f c known.served fits in
      let held = part-held p.class g known.large known.kept f c known.entered (Filter R) _ p.e enough fits served in
      record {
        known = known-in-part (Filter R) p.e _ enough fits served;
        held = held;
        beside = part-beside p.class g known.large known.kept f c known.entered R.0 p.slowest p.e enough known.served;
        arrives = arrives-into;
        fullest = λ n. omega (arith, held n, arrives-into n);
        entering = λ d same. absurd (let z : ◌≡◌ {A = ℕ} 0 1 = cc in omega arith);
        timed = λ r D next pair makes timed.
            let (E, sum, late) = timed-counted r p (Filter R) g f D (λ n. refl) timed in
            counted E (omega (arith, delay-le-slower p.class p.e p.slowest R.0 known.large (above-least rate_range R.0 passed.inside) (not-false (carries p.class R.0) passed.rated))) late;
      }

  step-delayer : (d : Delay) → Passed p (Delayer d) → Fitting (Delayer d) f c → Step p (Delayer d) g f c
  unfolding behind held_figure capacity own_delay pairs is_framed
  step-delayer d passed fits =
      let output = output_on (Delayer d) f c in
      let served = Laws.served-delayer p.slowest p.e d.0 g f c known.served fits in
      let held = part-held p.class g known.large known.kept f c known.entered (Delayer d) p.slowest _ known.carries fits served in
      record {
        known = known-in-part (Delayer d) (p.e + d.0) p.slowest known.carries fits served;
        held = held;
        beside = λ n. omega (arith, Laws.beside_none (Delayer d) (λ R same. let z : ◌≡◌ {A = ℕ} 0 1 = cc in omega arith) f c n);
        arrives = arrives-into;
        fullest = λ n. omega (arith, held n, arrives-into n);
        entering = λ slots same.
            let own : slots ≡ d.0 = cc in
            rw own (part-entering p.class g known.large known.kept f known.entered p.slowest p.e d.0 known.carries known.served);
        timed = λ r D next pair makes timed.
            let (E, sum, late) = timed-counted r p (Delayer d) g f D (λ n. refl) timed in
            counted E (omega (arith, delay-le-longer p.class p.e d.0 p.slowest)) late;
      }

  pub step : (op : Operator) → Passed p op → Fitting op f c → Step p op g f c
  step (Limiter R) = step-limiter R
  step (Compactor n) = step-compactor n
  step (Expander n) = step-expander n
  step (Filter R) = step-filter R
  step (Delayer d) = step-delayer d
