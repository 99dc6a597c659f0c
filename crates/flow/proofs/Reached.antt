-- The blocks met are reached, so no smaller change of interval holds of all smooth flows: some block of n slots begins as late as it can within its block of m, and a flow sends Q in it for each block of m that it meets.
use mathlib.Core.Path.{◌≡◌, refl, ap, ap₂, sym, ◌∙◌}
use mathlib.Core.Bool.{Bool, true, false}
use Prim.Native.Nat.{ℕ, zero, suc, ◌+◌, ◌-◌, ◌*◌, ◌/◌, ◌≤◌, ◌<◌}
use native.Mathlib.Nat.{le_refl, zero-mul, add-mul, mul-le-mul_right, div-mul-le_self, le-div_iff_mul-le, div-lt_iff_lt-mul, div-eq_of_lt-le, div-eq_of_eq-mul_left, mul-add-div_right, add-div_right, zero-div}
use native.Mathlib.Omega.{arith}
use lib.Dec.{leb}
use borrow.Author.Tests.{leb-false, le-leb, lt-leb}
use Rattle.quantity.specs.Choice.{pick}
use Rattle.quantity.specs.Sums.{total}
use Rattle.quantity.specs.Divisors.{Divides, gcd}
use Rattle.quantity.proofs.Laws.{pick_true, pick-false}
use Rattle.quantity.proofs.Sums.{total-zero, total-suc}
use Rattle.quantity.proofs.Divisors.{gcd-large, gcd-le, gcd-combined, gcd-of-divisor}
use Rattle.flow.specs.Flows.{Flow, Smooth}
use Rattle.flow.specs.Classes.{blocks_met}

-- the flow that has the totals T
pub with-totals : (ℕ → ℕ) → Flow
with-totals T t = T (suc t) - T t

pub total-with-totals : (T : ℕ → ℕ) → T 0 ≡ 0 → ((t : ℕ) → T t ≤ T (suc t)) → (n : ℕ) → total (with-totals T) n ≡ T n
unfolding with-totals
total-with-totals T none rises zero = total-zero (with-totals T) ∙ sym none
total-with-totals T none rises (suc n) = omega (arith, total-suc (with-totals T) n, total-with-totals T none rises n, rises n)

-- a block of n slots that begins as late as it can, g before the end of a block of m: block (m − 1)·x, where x·n is g modulo m
late-block : (m n g x y : ℕ) → 1 ≤ m → 1 ≤ g → g ≤ m → x * n ≡ y * m + g → (j : ℕ) × (z : ℕ) × (j * n ≡ z * m + (m - g))
late-block (suc m) n (suc g) x y _ _ fits e = (m * x, m * y + g, omega (arith, ap (◌*◌ m) e))
late-block zero n g x y x6 _ fits e = elim x6 [ ]
late-block (suc m) n zero x y _ x13 fits e = elim x13 [ ]

latest-block : (m n : ℕ) → 1 ≤ m → 1 ≤ n → (j : ℕ) × (z : ℕ) × (j * n ≡ z * m + (m - gcd m n))
latest-block m n large-m large-n =
    let (x, y, e) = gcd-combined m n large-m large-n in
    late-block m n (gcd m n) x y large-m (gcd-large m n large-m) (gcd-le m n large-m) e

-- the blocks counted before slot x: up to slot a a block is counted as it ends, and from then on as it begins, m − 1 slots early
early : ℕ → ℕ → ℕ → ℕ
early m a x = pick (leb x a) 0 (m - 1)

counted : ℕ → ℕ → ℕ → ℕ
counted m a x = (x + early m a x) / m

-- Q for each block, in the slot in which it is counted
sends : ℕ → ℕ → ℕ → Flow
sends m a Q = with-totals (λ x. counted m a x * Q)

module _ (m a : ℕ) where
  early-before : (x : ℕ) → x ≤ a → early m a x ≡ 0
  unfolding early
  early-before x h = pick_true (leb x a) 0 (m - 1) (le-leb x a h)

  early-behind : (x : ℕ) → a < x → early m a x ≡ m - 1
  unfolding early
  early-behind x h = pick-false (leb x a) 0 (m - 1) (lt-leb x a h)

  early-most : (x : ℕ) → early m a x ≤ m - 1
  unfolding early
  early-most x = by-test (leb x a)
    where
      by-test : (t : Bool) → pick t 0 (m - 1) ≤ m - 1
      by-test true = omega arith
      by-test false = le_refl (m - 1)

  early-rises : (x : ℕ) → early m a x ≤ early m a (suc x)
  unfolding early
  early-rises x = by-test (leb x a) refl
    where
      by-test : (t : Bool) → leb x a ≡ t → pick t 0 (m - 1) ≤ early m a (suc x)
      by-test true e = omega arith
      by-test false e = omega (arith, early-behind (suc x) (omega (arith, leb-false x a e)))

module _ (m a : ℕ) (large : 1 ≤ m) where
  counted_none : counted m a 0 ≡ 0
  unfolding counted
  counted_none = rw (early-before m a 0 (omega arith)) (zero-div m)

  counted-rises : (x : ℕ) → counted m a x ≤ counted m a (suc x)
  unfolding counted
  counted-rises x = (le-div_iff_mul-le large).1 (omega (arith, div-mul-le_self (x + early m a x) m, early-rises m a x))

  -- no block is counted twice
  counted-block : (j k : ℕ) → k ≤ m → counted m a (j * m + k) ≤ counted m a (j * m) + 1
  unfolding counted
  counted-block j k h =
      let begun : j ≤ counted m a (j * m) = (le-div_iff_mul-le large).1 (omega arith) in
      let ended : counted m a (j * m + k) < j + 2 = (div-lt_iff_lt-mul large).1 (omega (arith, early-most m a (j * m + k))) in
      omega arith

  -- the blocks of the n slots from slot a on
  counted-from : (n g z : ℕ) → 1 ≤ n → 1 ≤ g → g ≤ m → a ≡ z * m + (m - g) → counted m a (a + n) ≡ counted m a a + ((m - g + n - 1) / m + 1)
  unfolding counted
  counted-from n g z some large-g fits e =
      let before : counted m a a ≡ z = div-eq_of_lt-le m (omega (arith, early-before m a a (le_refl a))) (omega (arith, early-before m a a (le_refl a))) in
      let behind : a + n + early m a (a + n) ≡ z * m + (m - g + n - 1 + m) = omega (arith, early-behind m a (a + n) (omega arith)) in
      ap (λ (x : ℕ). x / m) behind ∙ mul-add-div_right large z (m - g + n - 1 + m) ∙ ap₂ ◌+◌ (sym before) (add-div_right (m - g + n - 1) large)

  total-sends : (Q x : ℕ) → total (sends m a Q) x ≡ counted m a x * Q
  unfolding sends
  total-sends Q = total-with-totals (λ x. counted m a x * Q) (rw counted_none (zero-mul Q)) (λ x. mul-le-mul_right Q (counted-rises x))

  sends-smooth : (Q : ℕ) → Smooth m Q (sends m a Q)
  sends-smooth Q j k h = omega (arith, total-sends Q (j * m + k), total-sends Q (j * m), mul-le-mul_right Q (counted-block j k h))

pub blocks-met-reached : (m n Q : ℕ) → 1 ≤ m → 1 ≤ n → (r : Flow) × (Smooth m Q r) × ((j : ℕ) × (total r (j * n + n) ≡ total r (j * n) + blocks_met m n * Q))
unfolding blocks_met
blocks-met-reached m n Q large-m large-n =
    let (j, z, e) = latest-block m n large-m large-n in
    let a = j * n in
    let met = counted-from m a large-m n (gcd m n) z large-n (gcd-large m n large-m) (gcd-le m n large-m) e in (
      sends m a Q,
      sends-smooth m a large-m Q,
      (j, total-sends m a large-m Q (a + n) ∙ ap (λ (c : ℕ). c * Q) met ∙ add-mul (counted m a a) (blocks_met m n) Q ∙ ap (λ (t : ℕ). t + blocks_met m n * Q) (sym (total-sends m a large-m Q a))),
    )

pub blocks-met-least : (m n Q q : ℕ) → 1 ≤ m → 1 ≤ n → ((r : Flow) → Smooth m Q r → Smooth n q r) → blocks_met m n * Q ≤ q
blocks-met-least m n Q q large-m large-n all =
    let (r, keeps, (j, reached)) = blocks-met-reached m n Q large-m large-n in
    omega (arith, reached, all r keeps j n (le_refl n))

-- where m divides n a block of n is whole blocks of m
pub blocks-met-whole : (m n : ℕ) → 1 ≤ m → 1 ≤ n → Divides m n → blocks_met m n ≡ n / m
unfolding blocks_met
blocks-met-whole m n large-m large-n (k, e) =
    let same = gcd-of-divisor m n large-m (k, e) in
    sym (add-div_right (m - gcd m n + n - 1) large-m) ∙ div-eq_of_lt-le m (omega arith) (omega arith) ∙ sym (div-eq_of_eq-mul_left large-m (sym e))
