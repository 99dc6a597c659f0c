-- The filter part's figures hold of its flows: each law by whether a filter has come, from the operators' laws of the part.
use mathlib.Core.Path.{◌≡◌, refl}
use mathlib.Core.Bool.{true}
use Prim.Native.Nat.{ℕ, suc, ◌+◌, ◌≤◌, min, ◌-◌}
use native.Mathlib.Nat.{le_refl, le_trans, le_of_lt, lt_of_not-le, min-eq_left, min-eq_right, mul-le-mul_left}
use native.Mathlib.Decide.{dec_le}
use native.Mathlib.Omega.{arith}
use Rattle.quantity.specs.Rounding.{round_up}
use Rattle.quantity.specs.Sums.{total}
use Rattle.quantity.proofs.Rounding.{round-up-enough, round-up-least}
use Rattle.quantity.proofs.Sums.{total-next}
use Rattle.flow.specs.Flows.{Flow, InTime, Behind}
use Rattle.operator.specs.OnFlows.{held_on, output_on, Fitting}
use Rattle.flow.specs.Classes.{Class, Positive, Keeps, most_in, carries, burst_at}
use Rattle.operator.specs.FilterPart.{Slowest, unfiltered, filtered, slower, Served}
use Rattle.operator.specs.Operators.{filter}
use Rattle.operator.specs.declared.Operator.{Operator}
use Rattle.flow.proofs.Laws.{window, most-mono, delayed-window, late-window, envelope, burst-falls}
use Rattle.operator.proofs.Laws.{filtered-in-time, unfiltered-in-time, filtered-held, unfiltered-held, filter-beside, filtered-entering, unfiltered-entering}
use Rattle.figures.specs.Figures.{part_held, part_delay}

-- the slowest filter carries the class, as refusal 8 asks of each
abbrev pub Carries : Slowest → Class → Type 0
Carries unfiltered c = Unit {0}
Carries (filtered P) c = (1 ≤ P) × (carries c P ≡ true)

pub slower-carries : (P : Slowest) (R : ℕ) (c : Class) → Carries P c → 1 ≤ R → carries c R ≡ true → Carries (slower P R) c
unfolding slower
slower-carries unfiltered R c carries large enough = (large, enough)
slower-carries (filtered P) R c carries large enough =
    elim (dec_le P R) [ yes less ↦ rw (min-eq_left less) carries | no more ↦ rw (min-eq_right (le_of_lt (lt_of_not-le more))) (large, enough) ]

-- ⌈x/y⌉ grows as y falls and x grows
round-up-le-slower : (x x' y z : ℕ) → x' ≤ x → 1 ≤ y → y ≤ z → round_up x' z ≤ round_up x y
round-up-le-slower x x' y z fewer large less =
    round-up-least x' z (round_up x y) (omega arith) (le_trans fewer (le_trans (round-up-enough x y large) (mul-le-mul_left (round_up x y) less)))

-- so no operator of the part makes its delay less: where a filter is the slowest, its rate carries the class, and the burst does not fall as the rate falls
pub delay-le-slower : (c : Class) (e : ℕ) (P : Slowest) (R : ℕ) → Positive c → 1 ≤ R → carries c R ≡ true → part_delay c e P ≤ part_delay c e (slower P R)
unfolding part_delay slower
delay-le-slower c e unfiltered R positive large enough = omega arith
delay-le-slower c e (filtered P) R positive large enough =
    elim (dec_le P R) [
      | yes less ↦ rw (min-eq_left less) (le_refl _)
      | no more ↦
          let less = le_of_lt (lt_of_not-le more) in
          rw (min-eq_right less) (omega (arith, round-up-le-slower (burst_at c R) (burst_at c P) R P (burst-falls c R P positive less enough) large less))
    ]

pub delay-le-longer : (c : Class) (e d : ℕ) (P : Slowest) → part_delay c e P ≤ part_delay c (e + d) P
unfolding part_delay
delay-le-longer c e d unfiltered = omega arith
delay-le-longer c e d (filtered P) = omega arith

module _ (c : Class) (g : Flow) (large : Positive c) (keeps : Keeps c g) where
  pub part-in-time : (P : Slowest) (e : ℕ) (s : Flow) → Carries P c → Served P e g s → InTime (part_delay c e P) g s
  unfolding part_delay
  part-in-time unfiltered e s carries served = unfiltered-in-time e g s served
  part-in-time (filtered P) e s carries served = filtered-in-time P e (burst_at c P) g s carries.0 (envelope c g P large carries.1 keeps) served

  -- so what leaves the part in one slot came in that one and in as many before it as the part has delay
  pub part-arrives : (P : Slowest) (e : ℕ) (f : Flow) → Carries P c → Behind g f → Served P e g f → (n : ℕ) → f n ≤ most_in c (suc (part_delay c e P))
  part-arrives P e f carries entered served n =
      let D = part_delay c e P in
      let one : 1 + D ≡ suc D = omega arith in
      let window-of-one = late-window D (most_in c) g f entered (part-in-time P e f carries served) (most-mono c large) (window c g large keeps) n 1 in
      omega (arith, rw one at window-of-one, total-next f n)

  module _ (f choices : Flow) (entered : Behind g f) where
    pub part-held : (op : Operator) (P : Slowest) (e : ℕ) → Carries P c → Fitting op f choices → Served P e g (output_on op f choices)
        → (n : ℕ) → (held_on op f choices n).b ≤ part_held c e P
    unfolding part_held
    part-held op unfiltered e carries fits served = unfiltered-held op e _ g f choices fits entered (λ a. delayed-window c g large keeps a e) served
    part-held op (filtered P) e carries fits served =
        filtered-held op P e (burst_at c P) g f choices fits entered (envelope c g P large carries.1 keeps) served

    pub part-beside : (R : ℕ) (P : Slowest) (e : ℕ) → Carries (slower P R) c → Served P e g f
        → (n : ℕ) → (held_on (filter R) f choices n).h ≤ part_held c e (slower P R)
    unfolding part_held slower
    part-beside R unfiltered e carries served = filter-beside R R e (burst_at c R) unfiltered g f choices refl entered (envelope c g R large carries.1 keeps) served
    part-beside R (filtered P) e carries served =
        filter-beside R (min P R) e (burst_at c (min P R)) (filtered P) g f choices refl entered (envelope c g (min P R) large carries.1 keeps) served

  -- what enters a delayer d in d slots, with e slots of delayers before it
  pub part-entering : (f : Flow) → Behind g f → (P : Slowest) (e d : ℕ) → Carries P c → Served P e g f → (n : ℕ) → total f n ≤ total f (n - d) + part_held c (e + d) P
  unfolding part_held
  part-entering f entered unfiltered e d carries served = unfiltered-entering e d _ g f entered (λ a. delayed-window c g large keeps a (e + d)) served
  part-entering f entered (filtered P) e d carries served = filtered-entering P e d (burst_at c P) g f entered (envelope c g P large carries.1 keeps) served
