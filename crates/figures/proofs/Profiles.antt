-- Document 02, item 2: the figures of the paths that house profiles stand for. Hop by hop the progress before each operator is known, so its own delay and its tests of 6 to 8 are; by induction over the hops.
use Prim.Native.Nat.{ℕ, zero, suc, ◌+◌, ◌-◌, ◌*◌, ◌%◌, ◌≤◌, ◌<◌}
use mathlib.Core.Path.{◌≡◌, refl, sym, ap, ◌∙◌}
use mathlib.Core.Bool.{Bool, true, false, not}
use mathlib.Core.Logic.{◌⊎◌, inl, inr, ⊎_elim}
use native.Mathlib.Nat.{add-mul, le_refl, le_of_lt, le_of_suc-le-suc, not-suc-le-zero, eq-or-lt_of_le, zero-mul, suc-mul, mul-le-mul, mul-le-mul_right, mul-add-mod_self_right, mul-mod_left, mod-eq_of_lt, div-eq_of_lt-le, div_self, min-eq_left}
use native.Mathlib.Numerals.{add-one, add-two, add-three}
use native.Mathlib.Omega.{arith}
use lib.ListN.{length}
use lib.Dec.{leb, ltb, eqb}
use borrow.Author.Tests.{leb-true, le-leb, not-false, lt-ltb, le-ltb, eq-eqb, ne_eqb}
use Rattle.quantity.specs.Choice.{pick}
use Rattle.quantity.specs.Limits.{largest_amount}
use Rattle.quantity.specs.Rounding.{round_up}
use Rattle.quantity.specs.Sums.{total}
use Rattle.quantity.proofs.Laws.{either-none}
use Rattle.quantity.proofs.Refusals.{NoneStands, none-of-both}
use Rattle.quantity.proofs.Sums.{get_d-list_of, total-zero, total-suc}
use Rattle.flow.specs.Classes.{Class, smooth, uniform, most_in, changed_quota, carries, burst_at}
use Rattle.operator.specs.FilterPart.{filtered, slower}
use Rattle.flow.specs.Declarations.{class_of}
use Rattle.operator.specs.Operators.{limiter, compactor, expander, filter, delayer}
use Rattle.operator.specs.declared.Operator.{Operator}
use Rattle.flow.proofs.Laws.{blocks-met-whole}
use Rattle.sheet.specs.declared.LinkedOperator.{LinkedOperator}
use Rattle.sheet.specs.declared.House.{House}
use Rattle.sheet.specs.House.{delayer_slots, house_in_range, hop_length, hop_operator, house_operator, house_path}
use Rattle.sheet.specs.Paths.{Path, no_linked_operator}
use Rattle.sheet.proofs.HouseLaws.{HouseWithin, house-within, which-profile, length-house_operators, house-some}
use Rattle.figures.specs.Progress.{Progress, start, behind, progress_at}
use Rattle.figures.specs.Figures.{part_held, part_delay, held_figure, most_arriving, capacity, own_delay, pairs, is_framed, framed_after_filter, largest_changed_quota, quota_behind, figure_too_large, rate_too_low}
use Rattle.figures.specs.Answers.{operator_at, before, paired_at, capacity_at, delay_at, path_delay, operator_cases, operators_cases}
use Rattle.figures.proofs.Reached.{none-at}
use Rattle.figures.proofs.Tests.{neither}

-- One operator.

-- its tests: 6 and 7 do not stand, and 8 does where its rate is low
pub record Stands (p : Progress) (op : Operator) (low : Bool) : Type 0 where
  pub placed : framed_after_filter p op ≡ false
  pub sized : figure_too_large p op ≡ false
  pub rated : rate_too_low p op ≡ low

-- the progress behind it, its own delay, and what its tests go by
record Makes (p : Progress) (op : Operator) (paired : Bool) (q : Progress) (delay : ℕ) (low : Bool) : Type 0 where
  next : behind p op ≡ q
  own : own_delay p op paired ≡ delay
  placed : framed_after_filter p op ≡ false
  quota : quota_behind p op ≤ largest_changed_quota
  most : held_figure p op ≤ largest_amount
  rated : rate_too_low p op ≡ low

stands : {p q : Progress} {op : Operator} {paired low : Bool} {delay : ℕ} → Makes p op paired q delay low → Stands p op low
unfolding figure_too_large
stands {p} {op = op} made =
    let sized = either-none (ltb largest_changed_quota (quota_behind p op)) (ltb largest_amount (held_figure p op)) (le-ltb _ _ made.quota) (le-ltb _ _ made.most) in
    record { placed = made.placed; sized = sized; rated = made.rated }

-- ⌈k·y/y⌉ is k
round-up-multiple : (x k y : ℕ) → 1 ≤ y → x ≡ k * y → round_up x y ≡ k
unfolding round_up
round-up-multiple x k y large e = div-eq_of_lt-le y (omega arith) (omega arith)

-- a change to the interval that a class has keeps its quota; uniform (1, R) carries m·R in m slots
module _ (m Q : ℕ) (large : 1 ≤ m) where
  smooth-same : changed_quota m (smooth m Q) ≡ Q
  unfolding changed_quota
  smooth-same = rw (blocks-met-whole m m large large (1, omega arith), div_self large) (omega arith)

  uniform-same : changed_quota m (uniform m Q) ≡ Q
  unfolding changed_quota
  uniform-same = rw (round-up-multiple m 1 m large (omega arith)) (omega arith)

uniform-one : (m R : ℕ) → changed_quota m (uniform 1 R) ≡ m * R
unfolding changed_quota
uniform-one m R = rw (round-up-multiple m m 1 (le_refl 1) (omega arith))

makes-limiter : (m Q R : ℕ) (paired : Bool) → Q ≤ largest_changed_quota → Makes (start (smooth m Q)) (limiter R) paired (start (uniform 1 R)) (round_up (2 * Q) R) (not (leb Q (m * R)))
unfolding behind own_delay framed_after_filter rate_too_low quota_behind held_figure carries burst_at
makes-limiter m Q R paired small = record { next = refl; own = refl; placed = refl; quota = omega arith; most = omega arith; rated = refl }

module _ (c : Class) (m q : ℕ) (paired : Bool) (change : changed_quota m c ≡ q) (small : q ≤ largest_changed_quota) where
  makes-compactor : Makes (start c) (compactor m) paired (start (uniform m q)) m false
  unfolding behind own_delay framed_after_filter rate_too_low quota_behind held_figure
  makes-compactor = record { next = rw change; own = refl; placed = refl; quota = omega arith; most = omega arith; rated = refl }

  makes-expander : Makes (start c) (expander m) paired (start (smooth m q)) (pick paired 0 m) false
  unfolding behind own_delay framed_after_filter rate_too_low quota_behind held_figure
  makes-expander = record { next = rw change; own = refl; placed = refl; quota = omega arith; most = omega arith; rated = refl }

-- in the filter part, behind a filter R
abbrev in_part : ℕ → ℕ → ℕ → ℕ → Progress
in_part m Q R e = record { class = smooth m Q; in_filter_part = true; e = e; slowest = filtered R }

module _ (m Q R e : ℕ) (small : Q ≤ 65535) (slow : R ≤ 65535) (paired : Bool) where
  burst-fits : (d : ℕ) → d ≤ 320 → burst_at (smooth m Q) R + d * R ≤ largest_amount
  unfolding burst_at
  burst-fits d short = omega (arith, mul-le-mul {n₁ = d} {m₁ = R} {n₂ = 320} {m₂ = 65535} short slow)

  first-filter : e ≡ 0 → Makes (start (smooth m Q)) (filter R) paired (in_part m Q R e) (round_up (2 * Q) R) (not (leb Q (m * R)))
  unfolding behind slower own_delay part_delay framed_after_filter is_framed rate_too_low quota_behind held_figure part_held carries burst_at
  first-filter none = record { next = rw none; own = omega arith; placed = refl; quota = omega arith; most = burst-fits 0 (omega arith); rated = refl }

  later-filter : e ≤ 320 → Makes (in_part m Q R e) (filter R) paired (in_part m Q R e) 0 (not (leb Q (m * R)))
  unfolding behind slower own_delay part_delay framed_after_filter is_framed rate_too_low quota_behind held_figure part_held carries
  later-filter short =
      let same = min-eq_left (le_refl R) in
      record { next = rw same; own = rw same (omega arith); placed = refl; quota = omega arith; most = rw same (burst-fits e short); rated = refl }

  makes-delayer : (d : ℕ) → e + d ≤ 320 → Makes (in_part m Q R e) (delayer d) paired (in_part m Q R (e + d)) d false
  unfolding behind own_delay part_delay framed_after_filter is_framed rate_too_low quota_behind held_figure part_held
  makes-delayer d short = record { next = refl; own = omega arith; placed = refl; quota = omega arith; most = burst-fits (e + d) short; rated = refl }

-- Along a path.

-- before operator k: the progress, the sum of the delays so far, and the tests of the operators before it, with `low` for 8
record Reached (path : Path) (low : ℕ → Bool) (k : ℕ) (p : Progress) (delay : ℕ) : Type 0 where
  here : before path k ≡ p
  delays : total (delay_at path) k ≡ delay
  tested : (i : ℕ) → i < k → Stands (before path i) (operator_at path i) (low i)

reached-start : (path : Path) (low : ℕ → Bool) → Reached path low 0 (start (class_of path.declaration)) 0
unfolding before progress_at total
reached-start path low = record { here = refl; delays = refl; tested = λ i less. absurd (not-suc-le-zero less) }

reached-next : {path : Path} {low : ℕ → Bool} {k delay own sum : ℕ} {p q : Progress} {op : Operator} {eight : Bool}
    → Reached path low k p delay → operator_at path k ≡ op → Makes p op (paired_at path k) q own eight → low k ≡ eight → delay + own ≡ sum → Reached path low (suc k) q sum
unfolding before progress_at total delay_at
reached-next reached known made flag sums =
    let here = reached.here in
    let tests = rw (← known, ← here, ← flag) at (stands made) in
    record {
      here = rw (here, known) made.next;
      delays = rw (here, known, reached.delays, made.own) sums;
      tested = λ i less. ⊎_elim (λ same. rw same tests) (reached.tested i) (eq-or-lt_of_le (le_of_suc-le-suc less));
    }

-- The hops.

-- operator i of hop j
operator-at : (h : House) (len : ℕ) → hop_length h ≡ len → (k j i : ℕ) → k ≡ j * len + i → j < h.hops.0 → i < len → operator_at (house_path h) k ≡ hop_operator h i
unfolding operator_at house_path house_operator
operator-at h len long k j i e hop less =
    let rest : k % hop_length h ≡ i = rw (long, e, mul-add-mod_self_right) (mod-eq_of_lt less) in
    ap (λ (linked : LinkedOperator). linked.operator) (get_d-list_of no_linked_operator (house_operator h) (h.hops.0 * hop_length h) k (rw long (omega (arith, suc-mul j len, mul-le-mul_right len hop))))
    ∙ ap (hop_operator h) rest

-- the whole path, from what is reached behind its last hop
module _ (h : House) {low : ℕ → Bool} {len delay : ℕ} {p : Progress} (long : hop_length h ≡ len) (reached : Reached (house_path h) low (h.hops.0 * len) p delay) where
  whole-delay : path_delay (house_path h) ≡ delay
  unfolding path_delay
  whole-delay = rw (length-house_operators h, long) reached.delays

  whole-tests : (k : ℕ) → k < length (house_path h).operators → Stands (before (house_path h) k) (operator_at (house_path h) k) (low k)
  whole-tests k less = reached.tested k (rw (length-house_operators h, long) at less)

-- hop hops − 1 is the last
some-hop : (h : House) → HouseWithin h → suc (h.hops.0 - 1) ≡ h.hops.0
some-hop h within = omega arith

-- Q is above m·R: the rate is too low for the declared class
abbrev pub rate_low : House → Bool
rate_low h = not (leb h.quota.0 (h.interval.0 * h.rate.0))

-- one hop more of three quotas
three-more : (j Q : ℕ) → 3 * suc j * Q ≡ 3 * j * Q + 3 * Q
three-more j Q = let threes : 3 * suc j ≡ 3 * j + 3 = omega arith in rw threes (add-mul (3 * j) 3 Q)

-- Profile 0: a compactor and an expander of m.

-- smooth (m, Q) before operator k, and 8 nowhere
abbrev Framed : House → ℕ → ℕ → Type 0
Framed h k delay = Reached (house_path h) (λ i. false) k (start (smooth h.interval.0 h.quota.0)) delay

module _ (h : House) (within : HouseWithin h) (first : h.profile ≡ 0) where
  framed-length : hop_length h ≡ 2
  unfolding hop_length
  framed-length = rw (eq-eqb h.profile 0 first)

  framed_at : (k j i : ℕ) → k ≡ j * 2 + i → j < h.hops.0 → i < 2 → operator_at (house_path h) k ≡ pick (eqb i 0) (compactor h.interval.0) (expander h.interval.0)
  unfolding hop_operator
  framed_at k j i e hop less = rw (operator-at h 2 framed-length k j i e hop less, eq-eqb h.profile 0 first)

  -- every expander but the last makes a pair
  paired : (j : ℕ) → suc j < h.hops.0 → paired_at (house_path h) (suc (j * 2)) ≡ true
  unfolding paired_at pairs
  paired j more =
      let here = framed_at (suc (j * 2)) j 1 (omega arith) (le_of_lt more) (omega arith) in
      let next = framed_at (suc (j * 2) + 1) (suc j) 0 (omega arith) more (omega arith) in
      rw (length-house_operators h, framed-length, lt-ltb (suc (j * 2) + 1) (h.hops.0 * 2) (omega arith), here, next) (eq-eqb h.interval.0 h.interval.0 refl)

  unpaired : (j : ℕ) → suc j ≡ h.hops.0 → paired_at (house_path h) (suc (j * 2)) ≡ false
  unfolding paired_at
  unpaired j last = rw (length-house_operators h, framed-length, le-ltb (suc (j * 2) + 1) (h.hops.0 * 2) (omega arith))

  framed-hop : (j : ℕ) {delay sum : ℕ} → j < h.hops.0 → Framed h (j * 2) delay
      → delay + h.interval.0 + pick (paired_at (house_path h) (suc (j * 2))) 0 h.interval.0 ≡ sum → Framed h (suc j * 2) sum
  framed-hop j hop reached sums =
      let m = h.interval.0 in
      let Q = h.quota.0 in
      let large = within.interval.0 in
      let small : Q ≤ largest_changed_quota = omega arith in
      let compacted = reached-next reached (framed_at (j * 2) j 0 (omega arith) hop (omega arith)) (makes-compactor (smooth m Q) m Q _ (smooth-same m Q large) small) refl refl in
      rw (suc-mul j 2, add-two)
      (reached-next compacted (framed_at (suc (j * 2)) j 1 (omega arith) hop (omega arith)) (makes-expander (uniform m Q) m Q _ (uniform-same m Q large) small) refl sums)

  framed-hops : (j : ℕ) → j < h.hops.0 → Framed h (j * 2) (j * h.interval.0)
  unfolding house_path class_of
  framed-hops zero hop = rw (zero-mul h.interval.0) (reached-start (house_path h) (λ i. false))
  framed-hops (suc j) hop = framed-hop j (le_of_lt hop) (framed-hops j (le_of_lt hop)) (rw (paired j hop) (omega arith))

  framed-path : Framed h (h.hops.0 * 2) ((h.hops.0 + 1) * h.interval.0)
  framed-path =
      let last = some-hop h within in
      let j = h.hops.0 - 1 in
      rw last at (framed-hop j {sum = (suc j + 1) * h.interval.0} (omega arith) (framed-hops j (omega arith)) (rw (unpaired j last) (omega arith)))

  -- a compactor on smooth (m, Q) has Q twice, for what it holds and for what arrives; an expander of the same interval has Q
  compactor-full : capacity (start (smooth h.interval.0 h.quota.0)) (compactor h.interval.0) ≡ 2 * h.quota.0
  unfolding capacity held_figure most_arriving part_delay most_in
  compactor-full =
      let large = within.interval.0 in
      rw (smooth-same h.interval.0 h.quota.0 large, round-up-multiple 0 0 h.interval.0 large (omega arith)) (omega arith)

  expander-full : capacity (start (uniform h.interval.0 h.quota.0)) (expander h.interval.0) ≡ h.quota.0
  unfolding capacity held_figure
  expander-full = uniform-same h.interval.0 h.quota.0 within.interval.0

  hop-full : (j : ℕ) → j < h.hops.0 → (capacity_at (house_path h) (j * 2) ≡ 2 * h.quota.0) × (capacity_at (house_path h) (suc (j * 2)) ≡ h.quota.0)
  unfolding capacity_at
  hop-full j hop =
      let m = h.interval.0 in
      let Q = h.quota.0 in
      let small : Q ≤ largest_changed_quota = omega arith in
      let reached = framed-hops j hop in
      let compacted = reached-next reached (framed_at (j * 2) j 0 (omega arith) hop (omega arith)) (makes-compactor (smooth m Q) m Q _ (smooth-same m Q within.interval.0) small) refl refl in (
        rw (reached.here, framed_at (j * 2) j 0 (omega arith) hop (omega arith)) compactor-full,
        rw (compacted.here, framed_at (suc (j * 2)) j 1 (omega arith) hop (omega arith)) expander-full,
      )

  hops-full : (j : ℕ) → j ≤ h.hops.0 → total (capacity_at (house_path h)) (j * 2) ≡ 3 * j * h.quota.0
  hops-full zero inside = rw (zero-mul 2, zero-mul h.quota.0) (total-zero (capacity_at (house_path h)))
  hops-full (suc j) inside =
      let (compactor-has, expander-has) = hop-full j inside in
      rw (suc-mul j 2, add-two)
      (omega (arith, total-suc (capacity_at (house_path h)) (suc (j * 2)), total-suc (capacity_at (house_path h)) (j * 2), hops-full j (le_of_lt inside), compactor-has, expander-has, three-more j h.quota.0))

-- Profile 1: a limiter R, a compactor and an expander of m.

-- smooth (m, q) before operator k, and 8 at the first operator where Q is above m·R
abbrev Limited : House → ℕ → ℕ → ℕ → Type 0
Limited h k q delay = Reached (house_path h) (λ i. pick (eqb i 0) (rate_low h) false) k (start (smooth h.interval.0 q)) delay

module _ (h : House) (within : HouseWithin h) (second : h.profile ≡ 1) where
  limited-length : hop_length h ≡ 3
  unfolding hop_length
  limited-length = rw (ne_eqb h.profile 0 (λ e. omega arith), eq-eqb h.profile 1 second)

  limited-at : (k j i : ℕ) → k ≡ j * 3 + i → j < h.hops.0 → i < 3
      → operator_at (house_path h) k ≡ pick (eqb i 0) (limiter h.rate.0) (pick (eqb i 1) (compactor h.interval.0) (expander h.interval.0))
  unfolding hop_operator
  limited-at k j i e hop less = rw (operator-at h 3 limited-length k j i e hop less, ne_eqb h.profile 0 (λ e. omega arith), eq-eqb h.profile 1 second)

  -- no expander makes a pair: a limiter follows, or nothing
  limiter-next : (j : ℕ) → suc j < h.hops.0 → pairs (operator_at (house_path h) (suc (suc (j * 3)))) (operator_at (house_path h) (suc (suc (j * 3)) + 1)) ≡ false
  unfolding pairs
  limiter-next j more = rw (limited-at (suc (suc (j * 3))) j 2 (omega arith) (le_of_lt more) (omega arith), limited-at (suc (suc (j * 3)) + 1) (suc j) 0 (omega arith) more (omega arith))

  never-paired : (j : ℕ) → j < h.hops.0 → paired_at (house_path h) (suc (suc (j * 3))) ≡ false
  unfolding paired_at
  never-paired j hop =
      ⊎_elim
      (λ last. rw (length-house_operators h, limited-length, le-ltb (suc (suc (j * 3)) + 1) (h.hops.0 * 3) (omega arith)))
      (λ more. neither (ltb (suc (suc (j * 3)) + 1) (length (house_path h).operators)) (limiter-next j more))
      (eq-or-lt_of_le hop)

  few : h.interval.0 * h.rate.0 ≤ largest_changed_quota
  few = omega (arith, mul-le-mul {n₁ = h.interval.0} {m₁ = h.rate.0} {n₂ = 1024} {m₂ = 65535} within.interval.1 (within.rate (λ first. omega arith)).1)

  later-passes : (k : ℕ) → pick (eqb (suc k) 0) (rate_low h) false ≡ false
  later-passes k = rw (ne_eqb (suc k) 0 (λ e. omega arith))

  limited-hop : (j q : ℕ) {delay sum : ℕ} → j < h.hops.0 → Limited h (j * 3) q delay
      → q ≤ largest_changed_quota → pick (eqb (j * 3) 0) (rate_low h) false ≡ not (leb q (h.interval.0 * h.rate.0))
      → delay + round_up (2 * q) h.rate.0 + h.interval.0 + h.interval.0 ≡ sum → Limited h (suc j * 3) (h.interval.0 * h.rate.0) sum
  limited-hop j q hop reached small low sums =
      let m = h.interval.0 in
      let R = h.rate.0 in
      let large = within.interval.0 in
      let limited = reached-next reached (limited-at (j * 3) j 0 (omega arith) hop (omega arith)) (makes-limiter m q R _ small) low refl in
      let compacted = reached-next limited (limited-at (suc (j * 3)) j 1 (omega arith) hop (omega arith)) (makes-compactor (uniform 1 R) m (m * R) _ (uniform-one m R) few) (later-passes (j * 3)) refl in
      rw (suc-mul j 3, add-three)
      (reached-next compacted (limited-at (suc (suc (j * 3))) j 2 (omega arith) hop (omega arith)) (makes-expander (uniform m (m * R)) m (m * R) _ (uniform-same m (m * R) large) few) (later-passes (suc (j * 3))) (rw (never-paired j hop) sums))

  limited-hops : (j : ℕ) → j < h.hops.0 → Limited h (suc j * 3) (h.interval.0 * h.rate.0) (round_up (2 * h.quota.0) h.rate.0 + (4 * j + 2) * h.interval.0)
  unfolding house_path class_of
  limited-hops zero hop = limited-hop 0 h.quota.0 hop (reached-start (house_path h) _) (omega arith) refl (omega arith)
  limited-hops (suc j) hop =
      let m = h.interval.0 in
      let R = h.rate.0 in
      let large = (within.rate (λ first. omega arith)).0 in
      limited-hop (suc j) (m * R) hop (limited-hops j (le_of_lt hop)) few
      (rw (ne_eqb (suc j * 3) 0 (λ e. omega arith), le-leb (m * R) (m * R) (le_refl (m * R))))
      (rw (round-up-multiple (2 * (m * R)) (2 * m) R large (omega arith)) (omega arith))

  limited-path : Limited h (h.hops.0 * 3) (h.interval.0 * h.rate.0) (round_up (2 * h.quota.0) h.rate.0 + (4 * h.hops.0 - 2) * h.interval.0)
  limited-path =
      let last = some-hop h within in
      let j = h.hops.0 - 1 in
      let slots : 4 * j + 2 ≡ 4 * h.hops.0 - 2 = omega arith in
      rw (slots, last) at (limited-hops j (omega arith))

-- Profile 2: a filter R and a delayer.

-- 8 at every filter where Q is above m·R
abbrev Filtered : House → ℕ → Progress → ℕ → Type 0
Filtered h k p delay = Reached (house_path h) (λ i. pick (eqb (i % 2) 0) (rate_low h) false) k p delay

module _ (h : House) (within : HouseWithin h) (third : h.profile ≡ 2) where
  filtered-length : hop_length h ≡ 2
  unfolding hop_length
  filtered-length = rw (ne_eqb h.profile 0 (λ e. omega arith), ne_eqb h.profile 1 (λ e. omega arith))

  slow : h.rate.0 ≤ 65535
  slow = (within.rate (λ first. omega arith)).1

  filtered-at : (k j i : ℕ) → k ≡ j * 2 + i → j < h.hops.0 → i < 2 → operator_at (house_path h) k ≡ pick (eqb i 0) (filter h.rate.0) (delayer (delayer_slots h))
  unfolding hop_operator
  filtered-at k j i e hop less = rw (operator-at h 2 filtered-length k j i e hop less, ne_eqb h.profile 0 (λ e. omega arith), ne_eqb h.profile 1 (λ e. omega arith))

  short : (j : ℕ) → j ≤ h.hops.0 → j * delayer_slots h ≤ 320
  short j hop = omega (arith, mul-le-mul {n₁ = j} {m₁ = delayer_slots h} {n₂ = 5} {m₂ = 64} (omega arith) (within.packets third).slots.1)

  filtered-hop : (j : ℕ) {p : Progress} {delay own sum : ℕ} → j < h.hops.0 → Filtered h (j * 2) p delay
      → Makes p (filter h.rate.0) (paired_at (house_path h) (j * 2)) (in_part h.interval.0 h.quota.0 h.rate.0 (j * delayer_slots h)) own (rate_low h)
      → delay + own + delayer_slots h ≡ sum → Filtered h (suc j * 2) (in_part h.interval.0 h.quota.0 h.rate.0 (suc j * delayer_slots h)) sum
  filtered-hop j hop reached made sums =
      let m = h.interval.0 in
      let Q = h.quota.0 in
      let R = h.rate.0 in
      let d = delayer_slots h in
      let filtered = reached-next reached (filtered-at (j * 2) j 0 (omega arith) hop (omega arith)) made (rw (mul-mod_left j 2)) refl in
      let behind-filter : suc (j * 2) % 2 ≡ 1 = rw (← add-one (j * 2)) (mul-add-mod_self_right j 2 1) in
      rw (suc-mul j 2, add-two, suc-mul j d)
      (reached-next filtered (filtered-at (suc (j * 2)) j 1 (omega arith) hop (omega arith)) (makes-delayer m Q R (j * d) within.quota.1 slow _ d (omega (arith, suc-mul j d, short (suc j) hop))) (rw behind-filter) sums)

  filtered-hops : (j : ℕ) → j < h.hops.0
      → Filtered h (suc j * 2) (in_part h.interval.0 h.quota.0 h.rate.0 (suc j * delayer_slots h)) (round_up (2 * h.quota.0) h.rate.0 + suc j * delayer_slots h)
  unfolding house_path class_of
  filtered-hops zero hop =
      filtered-hop 0 hop (reached-start (house_path h) _)
      (first-filter h.interval.0 h.quota.0 h.rate.0 (0 * delayer_slots h) within.quota.1 slow _ (zero-mul (delayer_slots h)))
      (omega arith)
  filtered-hops (suc j) hop =
      filtered-hop (suc j) hop (filtered-hops j (le_of_lt hop))
      (later-filter h.interval.0 h.quota.0 h.rate.0 (suc j * delayer_slots h) within.quota.1 slow _ (short (suc j) (le_of_lt hop)))
      (omega arith)

  filtered-path : Filtered h (h.hops.0 * 2) (in_part h.interval.0 h.quota.0 h.rate.0 (h.hops.0 * delayer_slots h)) (round_up (2 * h.quota.0) h.rate.0 + h.hops.0 * delayer_slots h)
  filtered-path = let last = some-hop h within in rw last at (filtered-hops (h.hops.0 - 1) (omega arith))

-- The laws of the profiles.

-- the first n operators pass, where each does
none-of-all : (path : Path) (n : ℕ) → ((k : ℕ) → k < n → Stands (before path k) (operator_at path k) false) → NoneStands (operators_cases path n)
unfolding operators_cases
none-of-all path zero each = tt
none-of-all path (suc n) each =
    let here = each n (le_refl (suc n)) in
    none-of-both (operators_cases path n) (operator_cases path n) (none-of-all path n (λ k less. each k (omega arith))) (here.placed, (here.sized, (here.rated, tt)))

module _ (h : House) (inside : house_in_range h ≡ true) where
  within : HouseWithin h
  within = house-within h inside

  pub profile-0-delay : h.profile ≡ 0 → path_delay (house_path h) ≡ (h.hops.0 + 1) * h.interval.0
  profile-0-delay first = whole-delay h (framed-length h within first) (framed-path h within first)

  -- its capacities are 3 · hops · Q in all
  pub profile-0-capacities : h.profile ≡ 0 → total (capacity_at (house_path h)) (length (house_path h).operators) ≡ 3 * h.hops.0 * h.quota.0
  profile-0-capacities first = rw (length-house_operators h, framed-length h within first) (hops-full h within first h.hops.0 (le_refl _))

  pub profile-1-delay : h.profile ≡ 1 → path_delay (house_path h) ≡ round_up (2 * h.quota.0) h.rate.0 + (4 * h.hops.0 - 2) * h.interval.0
  profile-1-delay second = whole-delay h (limited-length h within second) (limited-path h within second)

  pub profile-2-delay : h.profile ≡ 2 → path_delay (house_path h) ≡ round_up (2 * h.quota.0) h.rate.0 + h.hops.0 * delayer_slots h
  profile-2-delay third = whole-delay h (filtered-length h within third) (filtered-path h within third)

  -- profile 0 goes through 6 to 8 whatever its numbers are
  pub profile-0-refusals : h.profile ≡ 0 → (k : ℕ) → k < length (house_path h).operators → Stands (before (house_path h) k) (operator_at (house_path h) k) false
  profile-0-refusals first = whole-tests h (framed-length h within first) (framed-path h within first)

  -- in profile 1 the first limiter alone can have too low a rate
  pub profile-1-refusals : h.profile ≡ 1 → (k : ℕ) → k < length (house_path h).operators
      → Stands (before (house_path h) k) (operator_at (house_path h) k) (pick (eqb k 0) (rate_low h) false)
  profile-1-refusals second = whole-tests h (limited-length h within second) (limited-path h within second)

  -- in profile 2 every filter has, or none
  pub profile-2-refusals : h.profile ≡ 2 → (k : ℕ) → k < length (house_path h).operators
      → Stands (before (house_path h) k) (operator_at (house_path h) k) (pick (eqb (k % 2) 0) (rate_low h) false)
  profile-2-refusals third = whole-tests h (filtered-length h within third) (filtered-path h within third)

  -- so none of 6 to 8 stands exactly where the profile is 0, or Q at most m·R
  passes : {low : ℕ → Bool} → ((k : ℕ) → k < length (house_path h).operators → Stands (before (house_path h) k) (operator_at (house_path h) k) (low k)) → ((k : ℕ) → low k ≡ false)
      → NoneStands (operators_cases (house_path h) (length (house_path h).operators))
  passes each never = none-of-all (house_path h) (length (house_path h).operators) (λ k less. rw (never k) at (each k less))

  pub profile-passes : (h.profile ≡ 0) ⊎ (h.quota.0 ≤ h.interval.0 * h.rate.0) → NoneStands (operators_cases (house_path h) (length (house_path h).operators))
  profile-passes (inl first) = passes (profile-0-refusals first) (λ k. refl)
  profile-passes (inr enough) =
      let rated = ap not (le-leb h.quota.0 (h.interval.0 * h.rate.0) enough) in
      ⊎_elim (λ first. passes (profile-0-refusals first) (λ k. refl))
      (⊎_elim (λ second. passes (profile-1-refusals second) (λ k. neither (eqb k 0) rated)) (λ third. passes (profile-2-refusals third) (λ k. neither (eqb (k % 2) 0) rated)))
      (which-profile h within.profile)

  pub passing-profile : NoneStands (operators_cases (house_path h) (length (house_path h).operators)) → (h.profile ≡ 0) ⊎ (h.quota.0 ≤ h.interval.0 * h.rate.0)
  passing-profile none =
      let some = house-some h inside in
      let rated = (none-at (house_path h) (length (house_path h).operators) none 0 some).1.1.0 in
      let enough : rate_too_low (before (house_path h) 0) (operator_at (house_path h) 0) ≡ rate_low h → h.quota.0 ≤ h.interval.0 * h.rate.0 = λ e. leb-true _ _ (not-false _ (sym e ∙ rated)) in
      ⊎_elim inl
      (⊎_elim (λ second. inr (enough (profile-1-refusals second 0 some).rated)) (λ third. inr (enough (profile-2-refusals third 0 some).rated)))
      (which-profile h within.profile)
