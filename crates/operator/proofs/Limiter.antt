-- Source document 000, Theorem 3: a limiter's totals are those of the moment it was last empty and R in each slot since, by induction on the slot number.
-- An envelope at that moment then bounds what is held and how late it leaves.
use Rattle.std.proofs.Common.{◌≡◌, ℕ, zero, suc, ◌+◌, ◌*◌, ◌<◌, ◌≤◌, min, le_trans, le_refl, le-add_right, add-zero, le_of_lt, add-suc, suc-mul, add-mul, lt_of_not-le, zero-mul, add-one, arith}
use native.Mathlib.Nat.{le_dest}
use native.Mathlib.Decide.{dec_le}
use Rattle.quantity.specs.Sums.{total}
use Rattle.quantity.specs.Rounding.{round_up}
use Rattle.quantity.proofs.Sums.{total-zero, total-suc, total-next, total-le}
use Rattle.quantity.proofs.Rounding.{round-up-enough}
use Rattle.operator.specs.Limiter.{limiter_least, limiter_greatest}
use Rattle.operator.specs.Operators.{least_output, greatest_output, limiter}
use Rattle.flow.specs.Flows.{Flow, Uniform, InTime, Envelope}
use Rattle.operator.specs.OnFlows.{held_on, output_on, Fitting}
use Rattle.operator.proofs.Conservation.{conserved}

module _ (R : ℕ) (r c : Flow) (fits : Fitting (limiter R) r c) where
  -- its interval is one number, so every choice that fits is 0
  sends : (n : ℕ) → output_on (limiter R) r c n ≡ min ((held_on (limiter R) r c n).b + r n) R
  unfolding output_on least_output greatest_output limiter_least limiter_greatest
  sends n = let fit = fits n in omega arith

  -- the slot's output empties it, or is R
  last-empty-step : (n : ℕ) → (a : ℕ) × (k : ℕ) × (a + k ≡ n) × (total (output_on (limiter R) r c) n ≡ total r a + k * R) → Dec ((held_on (limiter R) r c n).b + r n ≤ R)
      → (a : ℕ) × (k : ℕ) × (a + k ≡ suc n) × (total (output_on (limiter R) r c) (suc n) ≡ total r a + k * R)
  last-empty-step n before (yes all) = (
    suc n,
    0,
    add-zero (suc n),
    omega (arith, total-suc (output_on (limiter R) r c) n, total-suc r n, conserved (limiter R) r c fits n, sends n, zero-mul R),
  )
  last-empty-step n before (no more) =
      let (a, k, slots, sent) = before in
      (a, suc k, omega arith, omega (arith, total-suc (output_on (limiter R) r c) n, sends n, suc-mul k R))

  pub limiter-last-empty : (n : ℕ) → (a : ℕ) × (k : ℕ) × (a + k ≡ n) × (total (output_on (limiter R) r c) n ≡ total r a + k * R)
  limiter-last-empty zero = (0, 0, add-zero 0, omega (arith, total-zero (output_on (limiter R) r c), total-zero r, zero-mul R))
  limiter-last-empty (suc n) = last-empty-step n (limiter-last-empty n) (dec_le ((held_on (limiter R) r c n).b + r n) R)

  pub limiter-uniform : Uniform 1 R (output_on (limiter R) r c)
  limiter-uniform a zero h = rw add-zero (le-add_right _ R)
  limiter-uniform a (suc k) h =
      let one : suc k ≡ 1 = omega arith in
      rw (one, total-next) (omega (arith, sends a))

pub limiter-held : (R B : ℕ) (r c : Flow) → Fitting (limiter R) r c → Envelope B R r → (n : ℕ) → (held_on (limiter R) r c n).b ≤ B
limiter-held R B r c fits bound n =
    let (a, k, slots, sent) = limiter-last-empty R r c fits n in
    let came : total r n ≤ total r a + B + k * R = rw slots at (bound a k) in
    omega (arith, conserved (limiter R) r c fits n)

-- the limiter was last empty at n or later, or the envelope closes the gap from then to n
pub limiter-in-time : (R B : ℕ) (r c : Flow) → 1 ≤ R → Fitting (limiter R) r c → Envelope B R r → InTime (round_up B R) r (output_on (limiter R) r c)
limiter-in-time R B r c large fits bound n =
    let (a, k, slots, sent) = limiter-last-empty R r c fits (n + round_up B R) in
    rw sent (elim (dec_le n a) [ yes later ↦ le_trans (total-le r later) (le-add_right _ _) | no earlier ↦ gap a k slots (lt_of_not-le earlier) ])
  where
    gap : (a k : ℕ) → a + k ≡ n + round_up B R → a < n → total r n ≤ total r a + k * R
    gap a k slots earlier =
        let (j, e) = le_dest (le_of_lt earlier) in
        let all : k ≡ j + round_up B R = omega arith in
        rw (all, add-mul) (let came : total r n ≤ total r a + B + j * R = rw e at (bound a j) in omega (arith, round-up-enough B R large))

-- a flow of at most R a slot has at most k·R in k slots
pub total-rises : (R : ℕ) (s : Flow) → Uniform 1 R s → (a k : ℕ) → total s (a + k) ≤ total s a + k * R
total-rises R s each a zero = rw add-zero (le-add_right _ _)
total-rises R s each a (suc k) =
    let last : total s (suc (a + k)) ≤ total s (a + k) + R = rw (← add-one) (each (a + k) 1 (le_refl 1)) in
    rw add-suc (omega (arith, total-rises R s each a k, suc-mul k R))
