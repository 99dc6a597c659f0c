-- Source document 000, Theorems 8 to 10: each operator of the filter part keeps the invariant that a limiter P's total on the part's input has left e slots later.
-- A delayer has sent what entered d slots ago. A filter sends at least what the limiter beside it sends, and a limiter keeps the invariant by the moment it was last empty.
use Rattle.std.proofs.Common.{◌≡◌, ℕ, zero, suc, ◌+◌, ◌-◌, ◌*◌, ◌<◌, ◌≤◌, min, refl, le_trans, le_refl, add-zero, le_of_lt, add_assoc, mul-le-mul_right, add_comm, mul-le-mul_left, lt_of_not-le, zero-add, arith}
use native.Mathlib.Nat.{le_dest, min-le_left, min-le_right}
use native.Mathlib.Decide.{dec_le}
use Rattle.quantity.specs.Sums.{total}
use Rattle.quantity.specs.Rounding.{round_up}
use Rattle.quantity.proofs.Sums.{total-zero, total-le}
use Rattle.operator.specs.Held.{keeps}
use Rattle.operator.specs.Limiter.{limiter_least, limiter_after}
use Rattle.operator.specs.Filter.{beside_after, filter_least, filter_after}
use Rattle.operator.specs.Operators.{least_output, held_after, limiter, filter, delayer}
use Rattle.flow.specs.Flows.{Flow, InTime, Behind, Envelope}
use Rattle.operator.specs.OnFlows.{held_on, output_on, Fitting, none}
use Rattle.operator.specs.FilterPart.{Slowest, unfiltered, filtered, slower, limited, Served}
use Rattle.operator.specs.declared.Operator.{Operator}
use Rattle.operator.proofs.Conservation.{none-fits, conserved, output-behind}
use Rattle.operator.proofs.Delayer.{delayer-in-time}
use Rattle.operator.proofs.Limiter.{limiter-last-empty, limiter-held, limiter-in-time, limiter-uniform, total-rises}

pub served-start : (r : Flow) → Served unfiltered 0 r r
unfolding limited
served-start r n = rw add-zero (le_refl _)

-- Delayer d.

pub served-delayer : (P : Slowest) (e d : ℕ) (r s c : Flow) → Served P e r s → Fitting (delayer d) s c → Served P (e + d) r (output_on (delayer d) s c)
served-delayer P e d r s c served fits n = rw (← add_assoc) (le_trans (served n) (delayer-in-time d s c fits (n + e)))

-- Limiter P on the part's input, with choice 0.

limiter-rises : (P : ℕ) (r : Flow) (a k : ℕ) → total (output_on (limiter P) r none) (a + k) ≤ total (output_on (limiter P) r none) a + k * P
limiter-rises P r = total-rises P (output_on (limiter P) r none) (limiter-uniform P r none (none-fits (limiter P) r))

-- it sends no more than a faster one
limiter-le-faster : (P Q : ℕ) (r : Flow) → P ≤ Q → (n : ℕ) → total (output_on (limiter P) r none) n ≤ total (output_on (limiter Q) r none) n
limiter-le-faster P Q r slow n =
    let (a, k, slots, sent) = limiter-last-empty Q r none (none-fits (limiter Q) r) n in
    let rises : total (output_on (limiter P) r none) n ≤ total (output_on (limiter P) r none) a + k * P = rw slots at (limiter-rises P r a k) in
    omega (arith, output-behind (limiter P) r none (none-fits (limiter P) r) a, mul-le-mul_left k slow)

limited-slower-le : (P : Slowest) (R : ℕ) (r : Flow) (n : ℕ) → limited (slower P R) r n ≤ limited P r n
unfolding limited slower
limited-slower-le unfiltered R r n = output-behind (limiter R) r none (none-fits (limiter R) r) n
limited-slower-le (filtered P) R r n = limiter-le-faster (min P R) P r (min-le_left P R) n

limited-slower-rises : (P : Slowest) (R : ℕ) (r : Flow) (a k : ℕ) → limited (slower P R) r (a + k) ≤ limited (slower P R) r a + k * R
unfolding limited slower
limited-slower-rises unfiltered R r a k = limiter-rises R r a k
limited-slower-rises (filtered P) R r a k = omega (arith, limiter-rises (min P R) r a k, mul-le-mul_left k (min-le_right P R))

limited-zero : (P : Slowest) (r : Flow) → limited P r 0 ≡ 0
unfolding limited
limited-zero unfiltered r = total-zero r
limited-zero (filtered P) r = total-zero (output_on (limiter P) r none)

-- a limiter keeps the invariant: from the moment it was last empty it sent R in each slot, and a limiter of the least rate no more
served-limiter : (P : Slowest) (e R : ℕ) (r s : Flow) → Served P e r s → Served (slower P R) e r (output_on (limiter R) s none)
served-limiter P e R r s served n =
    let (a, k, slots, sent) = limiter-last-empty R s none (none-fits (limiter R) s) (n + e) in
    rw sent (elim (dec_le e a) [ yes later ↦ after a k slots later | no earlier ↦ before a k slots (lt_of_not-le earlier) ])
  where
    after : (a k : ℕ) → a + k ≡ n + e → e ≤ a → limited (slower P R) r n ≤ total s a + k * R
    after a k slots later =
        let (j, f) = le_dest later in
        let span : j + k ≡ n = omega arith in
        let left : limited P r j ≤ total s a = rw (add_comm, f) at (served j) in
        rw (← span) (omega (arith, limited-slower-rises P R r j k, limited-slower-le P R r j))

    before : (a k : ℕ) → a + k ≡ n + e → a < e → limited (slower P R) r n ≤ total s a + k * R
    before a k slots earlier =
        let long : n ≤ k = omega arith in
        let rises : limited (slower P R) r n ≤ limited (slower P R) r 0 + n * R = rw zero-add at (limited-slower-rises P R r 0 n) in
        omega (arith, limited-zero (slower P R) r, mul-le-mul_right R long)

-- Filter R.

-- its h is what a limiter R holds on the same input
h-is-limiter-b : (R : ℕ) (s c : Flow) (n : ℕ) → (held_on (filter R) s c n).h ≡ (held_on (limiter R) s none n).b
unfolding held_on held_after least_output beside_after filter_after limiter_least limiter_after keeps
h-is-limiter-b R s c zero = refl
h-is-limiter-b R s c (suc n) = rw (h-is-limiter-b R s c n, add-zero)

b-le-h : (R : ℕ) (s c : Flow) (n : ℕ) → (held_on (filter R) s c n).b ≤ (held_on (filter R) s c n).h
unfolding held_on held_after least_output filter_least filter_after
b-le-h R s c zero = le_refl 0
b-le-h R s c (suc n) = omega arith

-- so it has sent at least what the limiter has
limiter-le-filter : (R : ℕ) (s c : Flow) → Fitting (filter R) s c → (n : ℕ) → total (output_on (limiter R) s none) n ≤ total (output_on (filter R) s c) n
limiter-le-filter R s c fits n =
    omega (
      arith,
      conserved (filter R) s c fits n,
      conserved (limiter R) s none (none-fits (limiter R) s) n,
      h-is-limiter-b R s c n,
      b-le-h R s c n,
    )

pub served-filter : (P : Slowest) (e R : ℕ) (r s c : Flow) → Served P e r s → Fitting (filter R) s c → Served (slower P R) e r (output_on (filter R) s c)
served-filter P e R r s c served fits n = le_trans (served-limiter P e R r s served n) (limiter-le-filter R s c fits (n + e))

-- Delays, and what is held.

pub filtered-in-time : (P e B : ℕ) (r s : Flow) → 1 ≤ P → Envelope B P r → Served (filtered P) e r s → InTime (round_up B P + e) r s
unfolding limited
filtered-in-time P e B r s large bound served n =
    rw (← add_assoc) (le_trans (limiter-in-time P B r none large (none-fits (limiter P) r) bound n) (served (n + round_up B P)))

pub unfiltered-in-time : (e : ℕ) (r s : Flow) → Served unfiltered e r s → InTime e r s
unfolding limited
unfiltered-in-time e r s served = served

limited-le : (P : Slowest) (r : Flow) (n m : ℕ) → n ≤ m → limited P r n ≤ limited P r m
unfolding limited
limited-le unfiltered r n m h = total-le r h
limited-le (filtered P) r n m h = total-le (output_on (limiter P) r none) h

-- where no e slots have more than M of what a limiter P sends, and all that it sent is there e slots later, at most M of it is not there yet
limited-le-sent : (P : Slowest) (e M : ℕ) (r : Flow) (sent : ℕ → ℕ) → ((n : ℕ) → limited P r n ≤ sent (n + e)) → ((a : ℕ) → limited P r (a + e) ≤ limited P r a + M)
    → (n : ℕ) → limited P r n ≤ sent n + M
limited-le-sent P e M r sent served window n = elim (dec_le e n) [ yes later ↦ after later | no earlier ↦ before (lt_of_not-le earlier) ]
  where
    after : e ≤ n → limited P r n ≤ sent n + M
    after later =
        let (a, f) = le_dest later in
        let slots : a + e ≡ n = omega arith in
        let came : limited P r n ≤ limited P r a + M = rw slots at (window a) in
        let left : limited P r a ≤ sent n = rw slots at (served a) in
        omega arith

    before : n < e → limited P r n ≤ sent n + M
    before earlier =
        let first : limited P r e ≤ limited P r 0 + M = rw zero-add at (window 0) in
        omega (arith, limited-le P r n e (le_of_lt earlier), limited-zero P r)

pub filtered-held : (op : Operator) (P e B : ℕ) (r s c : Flow) → Fitting op s c → Behind r s → Envelope B P r → Served (filtered P) e r (output_on op s c)
    → (n : ℕ) → (held_on op s c n).b ≤ B + e * P
unfolding limited
filtered-held op P e B r s c fits entered bound served n =
    omega (
      arith,
      entered n,
      conserved op s c fits n,
      conserved (limiter P) r none (none-fits (limiter P) r) n,
      limiter-held P B r none (none-fits (limiter P) r) bound n,
      limited-le-sent (filtered P) e (e * P) r (total (output_on op s c)) served (λ a. limiter-rises P r a e) n,
    )

pub unfiltered-held : (op : Operator) (e M : ℕ) (r s c : Flow) → Fitting op s c → Behind r s → ((a : ℕ) → total r (a + e) ≤ total r a + M) → Served unfiltered e r (output_on op s c)
    → (n : ℕ) → (held_on op s c n).b ≤ M
unfolding limited
unfiltered-held op e M r s c fits entered window served n =
    omega (arith, entered n, conserved op s c fits n, limited-le-sent unfiltered e M r (total (output_on op s c)) served window n)

pub filter-beside : (R P e B : ℕ) (Q : Slowest) (r s c : Flow) → slower Q R ≡ filtered P → Behind r s → Envelope B P r → Served Q e r s
    → (n : ℕ) → (held_on (filter R) s c n).h ≤ B + e * P
filter-beside R P e B Q r s c rate entered bound served n =
    rw h-is-limiter-b
    (filtered-held (limiter R) P e B r s none (none-fits (limiter R) s) entered bound (rw rate at (served-limiter Q e R r s served)) n)

-- What enters a delayer d in d slots: what a limiter P would have sent e + d slots ago had entered it before them, so what they add has the bound of what it holds.

served-before : (P : Slowest) (e d : ℕ) (r s : Flow) → Served P e r s → (n : ℕ) → limited P r n ≤ total s (n + (e + d) - d)
served-before P e d r s served n = let slots : n + (e + d) - d ≡ n + e = omega arith in rw slots (served n)

pub filtered-entering : (P e d B : ℕ) (r s : Flow) → Behind r s → Envelope B P r → Served (filtered P) e r s → (n : ℕ) → total s n ≤ total s (n - d) + (B + (e + d) * P)
unfolding limited
filtered-entering P e d B r s entered bound served n =
    omega (
      arith,
      entered n,
      conserved (limiter P) r none (none-fits (limiter P) r) n,
      limiter-held P B r none (none-fits (limiter P) r) bound n,
      limited-le-sent (filtered P) (e + d) ((e + d) * P) r (λ n. total s (n - d)) (served-before (filtered P) e d r s served) (λ a. limiter-rises P r a (e + d)) n,
    )

pub unfiltered-entering : (e d M : ℕ) (r s : Flow) → Behind r s → ((a : ℕ) → total r (a + (e + d)) ≤ total r a + M) → Served unfiltered e r s
    → (n : ℕ) → total s n ≤ total s (n - d) + M
unfolding limited
unfiltered-entering e d M r s entered window served n =
    omega (arith, entered n, limited-le-sent unfiltered (e + d) M r (λ n. total s (n - d)) (served-before unfiltered e d r s served) window n)
