-- The least of several numbers: what is below it is below each; and it may be found from any of them on.
use Rattle.std.proofs.Common.{◌≡◌, ℕ, zero, suc, ◌+◌, ◌-◌, ◌<◌, ◌≤◌, min, Bool, true, false, ltb, leb, sym, refl, ap, ◌∙◌, ap₂, le_refl, lt_of_not-le, add-one, arith, ltb-false, ltb-true, le-ltb, lt-ltb, le-leb}
use native.Mathlib.Decide.{dec_le}
use borrow.Author.Tests.{lt-leb}
use Rattle.quantity.specs.Choice.{both}
use Rattle.quantity.specs.Sums.{every}
use Rattle.meter.specs.Meter.{least_below}
use Rattle.meter.specs.Counting.{least_from}

pub least-from-none : (first : ℕ) (f : ℕ → ℕ) → least_from first f 0 ≡ first
unfolding least_from
least-from-none first f = refl

pub least-from-next : (first : ℕ) (f : ℕ → ℕ) (n : ℕ) → least_from first f (n + 1) ≡ min (least_from first f n) (f n)
unfolding least_from
least-from-next first f n = rw add-one

pub least-from-same : (first : ℕ) (f g : ℕ → ℕ) (n : ℕ) → ((i : ℕ) → i < n → f i ≡ g i) → least_from first f n ≡ least_from first g n
unfolding least_from
least-from-same first f g zero same = refl
least-from-same first f g (suc n) same = ap₂ min (least-from-same first f g n (λ i less. same i (omega arith))) (same n (omega arith))

-- none is below 0
pub least-from-zero : (f : ℕ → ℕ) (n : ℕ) → least_from 0 f n ≡ 0
unfolding least_from
least-from-zero f zero = refl
least-from-zero f (suc n) = omega (arith, least-from-zero f n)

least-from-first : (first : ℕ) (f : ℕ → ℕ) (n : ℕ) → least_from first f (suc n) ≡ min first (least_below f (suc n))
unfolding least_from least_below
least-from-first first f zero = refl
least-from-first first f (suc n) = let shorter = least-from-first first f n in omega arith

-- from a number that the first of them is not above
least-le-first : (f : ℕ → ℕ) (n : ℕ) → least_below f (suc n) ≤ f 0
unfolding least_below
least-le-first f zero = le_refl (f 0)
least-le-first f (suc n) = let shorter = least-le-first f n in omega arith

pub least-from-limit : (limit : ℕ) (f : ℕ → ℕ) (n : ℕ) → f 0 ≤ limit → least_from limit f (suc n) ≡ least_below f (suc n)
least-from-limit limit f n within = omega (arith, least-from-first limit f n, least-le-first f n)

-- from the last number on
pub least-from-last : (f : ℕ → ℕ) (n : ℕ) → least_from (f n) f n ≡ least_below f (suc n)
unfolding least_from least_below
least-from-last f zero = refl
least-from-last f (suc n) = least-from-first (f (suc n)) f n ∙ omega arith

-- the least of numbers that are each 1 less is 1 less
pub least-less-one : (f g : ℕ → ℕ) → ((i : ℕ) → g i ≡ f i - 1) → (n : ℕ) → least_below g n ≡ least_below f n - 1
unfolding least_below
least-less-one f g less zero = omega arith
least-less-one f g less (suc zero) = less 0
least-less-one f g less (suc (suc n)) = omega (arith, least-less-one f g less (suc n), less (suc n))

below-smaller : (x a b : ℕ) → ltb x (min a b) ≡ both (ltb x a) (ltb x b)
below-smaller x a b = by-test (ltb x a) (ltb x b) refl refl
  where
    by-test : (s t : Bool) → ltb x a ≡ s → ltb x b ≡ t → ltb x (min a b) ≡ both s t
    by-test true true e f = lt-ltb x (min a b) (omega (arith, ltb-true x a e, ltb-true x b f))
    by-test true false e f = le-ltb x (min a b) (omega (arith, ltb-false x b f))
    by-test false t e f = le-ltb x (min a b) (omega (arith, ltb-false x a e))

pub below-least : (x : ℕ) (f : ℕ → ℕ) (n : ℕ) → ltb x (least_below f (suc n)) ≡ every (λ i. ltb x (f i)) (suc n)
unfolding least_below every
below-least x f zero = refl
below-least x f (suc n) = below-smaller x (least_below f (suc n)) (f (suc n)) ∙ ap (λ (t : Bool). both t (ltb x (f (suc n)))) (below-least x f n)

-- a sum is within a quota where its second term is below what the first leaves
pub within-below : (counted input quota : ℕ) → leb (counted + input) quota ≡ ltb input (quota + 1 - counted)
within-below counted input quota =
    elim (dec_le (counted + input) quota) [
      | yes within ↦ le-leb _ _ within ∙ sym (lt-ltb input (quota + 1 - counted) (omega arith))
      | no above ↦ lt-leb _ _ (lt_of_not-le above) ∙ sym (le-ltb input (quota + 1 - counted) (omega (arith, lt_of_not-le above)))
    ]
