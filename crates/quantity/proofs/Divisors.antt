-- The greatest common divisor divides both, every common divisor divides it, and some multiple of n is that much above one of m: each of Euclid's steps keeps all three.
use mathlib.Core.Path.{◌≡◌, refl, ap, sym, ◌∙◌}
use Prim.Native.Nat.{ℕ, zero, suc, ◌+◌, ◌-◌, ◌*◌, ◌/◌, ◌%◌, ◌≤◌, ◌<◌}
use native.Mathlib.Nat.{le_refl, le_trans, le_antisymm, not-suc-le-zero, zero-mul, one-mul, mul_assoc, mul-sub, mul-le-mul_right, lt_of_mul-lt-mul_right, mod-lt, div-add-mod'}
use native.Mathlib.Omega.{arith}
use borrow.Author.Tests.{ne_eqb}
use Rattle.quantity.specs.Divisors.{Divides, euclid, gcd}

-- Divisors of multiples, sums and remainders.

divides-self : (d : ℕ) → Divides d d
divides-self d = (1, one-mul d)

divides-zero : (d : ℕ) → Divides d 0
divides-zero d = (0, zero-mul d)

pub divides-multiple : (d n j : ℕ) → Divides d n → Divides d (j * n)
divides-multiple d n j (k, e) = (j * k, rw (mul_assoc, e))

divides-sum : (d a b : ℕ) → Divides d a → Divides d b → Divides d (a + b)
divides-sum d a b (j, e) (k, f) = (j + k, omega arith)

divides-rest : (d a b : ℕ) → Divides d a → Divides d (a + b) → Divides d b
divides-rest d a b (j, e) (k, f) = (k - j, omega (arith, mul-sub d k j))

pub divides-mod : (d a b : ℕ) → Divides d a → Divides d b → Divides d (a % b)
divides-mod d a b in-a in_b = divides-rest d (a / b * b) (a % b) (divides-multiple d b (a / b) in_b) (rw div-add-mod' in-a)

divides-of-mod : (d a b : ℕ) → Divides d b → Divides d (a % b) → Divides d a
divides-of-mod d a b in_b in_rest = rw div-add-mod' at (divides-sum d (a / b * b) (a % b) (divides-multiple d b (a / b) in_b) in_rest)

-- two multiples of d are d apart, or more
pub multiples-apart : (d a b : ℕ) → Divides d a → Divides d b → a < b → a + d ≤ b
multiples-apart d a b (j, e) (k, f) less =
    let fewer : j < k = lt_of_mul-lt-mul_right d (omega arith) in
    omega (arith, mul-le-mul_right d fewer)

divisor-le : (d m : ℕ) → 1 ≤ m → Divides d m → d ≤ m
divisor-le d m large divides = omega (arith, multiples-apart d 0 m (divides-zero d) divides large)

divisor-large : (d m : ℕ) → 1 ≤ m → Divides d m → 1 ≤ d
divisor-large zero m large (k, e) = omega arith
divisor-large (suc d) m large (k, e) = omega arith

-- Euclid's steps.

euclid-done : (steps a : ℕ) → euclid steps a 0 ≡ a
unfolding euclid
euclid-done zero a = refl
euclid-done (suc steps) a = refl

euclid-step : (steps a b : ℕ) → 1 ≤ b → euclid (suc steps) a b ≡ euclid steps b (a % b)
unfolding euclid
euclid-step steps a b large = rw (ne_eqb b 0 (λ none. omega arith))

-- what holds of a where b is 0, and is kept by a step, holds of the number found
module _ (Found : ℕ → ℕ → ℕ → Type 0) (done : (a : ℕ) → Found a 0 a) (step : (a b g : ℕ) → 1 ≤ b → Found b (a % b) g → Found a b g) where
  euclid-found : (steps a b : ℕ) → b ≤ steps → Found a b (euclid steps a b)
  euclid-found zero a zero enough = rw euclid-done (done a)
  euclid-found zero a (suc b) enough = absurd (not-suc-le-zero enough)
  euclid-found (suc steps) a zero enough = rw euclid-done (done a)
  euclid-found (suc steps) a (suc b) enough =
      let large : 1 ≤ suc b = omega arith in
      let less = mod-lt a large in
      rw (euclid-step steps a (suc b) large) (step a (suc b) (euclid steps (suc b) (a % suc b)) large (euclid-found steps (suc b) (a % suc b) (omega arith)))

  gcd-found : (m n : ℕ) → Found m n (gcd m n)
  unfolding gcd
  gcd-found m n = euclid-found n m n (le_refl n)

-- more steps change nothing
gcd-of-enough : (m n steps : ℕ) → n ≤ steps → gcd m n ≡ euclid steps m n
gcd-of-enough =
    gcd-found
    (λ a b g. (steps : ℕ) → b ≤ steps → g ≡ euclid steps a b)
    (λ a steps enough. sym (euclid-done steps a))
    step
  where
    step : (a b g : ℕ) → 1 ≤ b → ((steps : ℕ) → a % b ≤ steps → g ≡ euclid steps b (a % b)) → (steps : ℕ) → b ≤ steps → g ≡ euclid steps a b
    step a b g large rest zero enough = absurd (not-suc-le-zero (le_trans large enough))
    step a b g large rest (suc steps) enough = rest steps (omega (arith, mod-lt a large)) ∙ sym (euclid-step steps a b large)

-- the greatest common divisor is kept by a step
pub gcd-step : (a b : ℕ) → 1 ≤ b → gcd a b ≡ gcd b (a % b)
gcd-step a b large = gcd-of-enough a b (suc b) (omega arith) ∙ euclid-step b a b large ∙ sym (gcd-of-enough b (a % b) b (omega (arith, mod-lt a large)))

pub gcd-done : (a : ℕ) → gcd a 0 ≡ a
unfolding gcd
gcd-done a = euclid-done 0 a

-- The greatest common divisor.

gcd-divides : (m n : ℕ) → Divides (gcd m n) m × Divides (gcd m n) n
gcd-divides = gcd-found (λ a b g. Divides g a × Divides g b) (λ a. (divides-self a, divides-zero a)) (λ a b g large (in_b, in_rest). (divides-of-mod g a b in_b in_rest, in_b))

pub gcd-divides-left : (m n : ℕ) → Divides (gcd m n) m
gcd-divides-left m n = (gcd-divides m n).0

pub gcd-divides-right : (m n : ℕ) → Divides (gcd m n) n
gcd-divides-right m n = (gcd-divides m n).1

pub gcd-greatest : (m n d : ℕ) → Divides d m → Divides d n → Divides d (gcd m n)
gcd-greatest m n d = gcd-found (λ a b g. Divides d a → Divides d b → Divides d g) (λ a in-a in-zero. in-a) (λ a b g large rest in-a in_b. rest in_b (divides-mod d a b in-a in_b)) m n

pub gcd-large : (m n : ℕ) → 1 ≤ m → 1 ≤ gcd m n
gcd-large m n large = divisor-large (gcd m n) m large (gcd-divides-left m n)

pub gcd-le : (m n : ℕ) → 1 ≤ m → gcd m n ≤ m
gcd-le m n large = divisor-le (gcd m n) m large (gcd-divides-left m n)

pub gcd-of-divisor : (m n : ℕ) → 1 ≤ m → Divides m n → gcd m n ≡ m
gcd-of-divisor m n large divides = le_antisymm (gcd-le m n large) (divisor-le m (gcd m n) (gcd-large m n large) (gcd-greatest m n m (divides-self m) divides))

-- a multiple of a that is g above one of b makes a multiple of b that is g above one of a
combined-other : (a b g x y : ℕ) → 1 ≤ a → 1 ≤ b → x * a ≡ y * b + g → (x : ℕ) × (y : ℕ) × (x * b ≡ y * a + g)
combined-other (suc a) (suc b) g x y _ _ e = (x * suc a + y * a, x * b + y * suc b, omega arith)
combined-other zero b g x y x5 _ e = elim x5 [ ]
combined-other (suc a) zero g x y _ x11 e = elim x11 [ ]

-- x·n is g modulo m, for n of 1 or more
pub gcd-combined : (m n : ℕ) → 1 ≤ m → 1 ≤ n → (x : ℕ) × (y : ℕ) × (x * n ≡ y * m + gcd m n)
gcd-combined m n large-m large-n =
    let (x, y, e) = gcd-found Combined (λ a large. (1, 0, omega arith)) step m n large-m in
    combined-other m n (gcd m n) x y large-m large-n e
  where
    Combined : ℕ → ℕ → ℕ → Type 0
    Combined a b g = 1 ≤ a → (x : ℕ) × (y : ℕ) × (x * a ≡ y * b + g)

    step : (a b g : ℕ) → 1 ≤ b → Combined b (a % b) g → Combined a b g
    step a b g large-b rest large-a =
        let (x, y, e) = rest large-b in
        combined-other b a g (x + y * (a / b)) y large-b large-a (omega (arith, ap (◌*◌ y) (div-add-mod' a b)))
