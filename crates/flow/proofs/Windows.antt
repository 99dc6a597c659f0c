-- Windows, change of interval and envelope (source document 000, Theorem 1; for the smooth window document 02, item 9): whole intervals add up, and whole intervals cover a window.
use mathlib.Core.Path.{◌≡◌, refl}
use mathlib.Core.Bool.{true}
use Prim.Native.Nat.{ℕ, zero, suc, ◌+◌, ◌-◌, ◌*◌, ◌/◌, ◌%◌, ◌≤◌, ◌<◌}
use native.Mathlib.Nat.{add-zero, zero-add, add_assoc, add-mul, zero-mul, suc-mul, mul_assoc, le_refl, le_dest, lt_of_not-le, mul-le-mul_left, mul-le-mul_right, mod-lt, div-add-mod', div-mul-le_self, lt-div-mul-add}
use native.Mathlib.Decide.{dec_le}
use native.Mathlib.Omega.{arith}
use borrow.Author.Tests.{leb-true}
use Rattle.quantity.specs.Sums.{total}
use Rattle.quantity.specs.Rounding.{round_up}
use Rattle.quantity.specs.Divisors.{gcd}
use Rattle.quantity.proofs.Sums.{total-zero, total-le}
use Rattle.quantity.proofs.Rounding.{round-up-enough, round-up-least}
use Rattle.quantity.proofs.Divisors.{divides-multiple, divides-mod, multiples-apart, gcd-divides-left, gcd-divides-right}
use Rattle.flow.specs.Flows.{Flow, Smooth, Uniform, InTime, Behind, Envelope}
use Rattle.flow.specs.Classes.{Class, smooth, uniform, rows, Positive, Keeps, most_in, most_delayed, blocks_met, changed_quota, changed_to, carries, burst_at}
use Rattle.flow.proofs.RowsWindows.{rows-window, rows-mono}
use Rattle.flow.proofs.RowsBurst.{rows-burst-enough, rows-burst-falls}

-- what rises by at most Q an interval rises by at most k·Q in k intervals
intervals-le : (m Q : ℕ) (r : Flow) (a : ℕ) → ((k : ℕ) → total r (a + k * m + m) ≤ total r (a + k * m) + Q) → (k : ℕ) → total r (a + k * m) ≤ total r a + k * Q
intervals-le m Q r a each zero = simp (zero-mul, add-zero) (le_refl _)
intervals-le m Q r a each (suc k) = simp (suc-mul, ← add_assoc) (let before = intervals-le m Q r a each k in let last = each k in omega arith)

module _ (m Q : ℕ) (r : Flow) where
  uniform-intervals-le : Uniform m Q r → (a k : ℕ) → total r (a + k * m) ≤ total r a + k * Q
  uniform-intervals-le keeps a = intervals-le m Q r a (λ k. keeps (a + k * m) m (le_refl m))

  smooth-blocks-le : Smooth m Q r → (j k : ℕ) → total r (j * m + k * m) ≤ total r (j * m) + k * Q
  smooth-blocks-le keeps j = intervals-le m Q r (j * m) (λ k. rw (← add-mul) (keeps (j + k) m (le_refl m)))

  module _ (large : 1 ≤ m) where
    uniform-window-le : Uniform m Q r → (a n : ℕ) → total r (a + n) ≤ total r a + round_up n m * Q
    uniform-window-le keeps a n =
        let enough = round-up-enough n m large in
        omega (arith, uniform-intervals-le keeps a (round_up n m), total-le r {n = a + n} {m = a + round_up n m * m} (omega arith))

    -- the n slots behind slot a end within ⌈n/m⌉ blocks behind that of slot a
    smooth-window-le : Smooth m Q r → (a n : ℕ) → total r (a + suc n) ≤ total r a + (round_up n m + 1) * Q
    smooth-window-le keeps a n =
        let blocks = smooth-blocks-le keeps (a / m) (round_up n m + 1) in
        let ends : a + suc n ≤ a / m * m + (round_up n m + 1) * m = omega (arith, lt-div-mul-add {a = a} large, round-up-enough n m large, add-mul (round_up n m) 1 m) in
        omega (arith, total-le r (div-mul-le_self a m), total-le r ends)

-- a block of n slots begins at least the greatest common divisor before the end of its block of m
block-begins : (m n j : ℕ) → 1 ≤ m → j * n % m + gcd m n ≤ m
block-begins m n j large =
    let divisor = gcd-divides-left m n in
    multiples-apart (gcd m n) (j * n % m) m (divides-mod (gcd m n) (j * n) m (divides-multiple (gcd m n) n j (gcd-divides-right m n)) divisor) divisor (mod-lt (j * n) large)

-- and so ends within the blocks met
pub smooth-changed : (m n Q : ℕ) (r : Flow) → 1 ≤ m → Smooth m Q r → Smooth n (blocks_met m n * Q) r
unfolding blocks_met
smooth-changed m n Q r large keeps j k h =
    let a = j * n in
    let blocks = smooth-blocks-le m Q r keeps (a / m) (blocks_met m n) in
    let ends : a + k ≤ a / m * m + blocks_met m n * m = omega (arith, block-begins m n j large, div-add-mod' a m, lt-div-mul-add {a = m - gcd m n + n - 1} large) in
    omega (arith, total-le r (div-mul-le_self a m), total-le r ends)

pub uniform-is-smooth : (m Q : ℕ) (r : Flow) → Uniform m Q r → Smooth m Q r
uniform-is-smooth m Q r keeps j = keeps (j * m)

-- shorter windows have no more
uniform-of-window : (r : Flow) (n M : ℕ) → ((a : ℕ) → total r (a + n) ≤ total r a + M) → Uniform n M r
uniform-of-window r n M most a k h = omega (arith, most a, total-le r {n = a + k} {m = a + n} (omega arith))

rounded-le : (m Q R n : ℕ) → 1 ≤ m → Q ≤ m * R → round_up n m * Q ≤ Q + n * R
rounded-le m Q R n large slow =
    let least : round_up n m ≤ n / m + 1 = round-up-least n m (n / m + 1) large (omega (arith, lt-div-mul-add {a = n} large, add-mul (n / m) 1 m)) in
    omega (arith, mul-le-mul_right Q least, add-mul (n / m) 1 Q, mul-le-mul_left (n / m) slow, mul_assoc (n / m) m R, mul-le-mul_right R (div-mul-le_self n m))

-- Each law by the class.

pub window : (c : Class) (r : Flow) → Positive c → Keeps c r → (a n : ℕ) → total r (a + n) ≤ total r a + most_in c n
unfolding most_in
window (smooth m Q) r large keeps a zero = simp add-zero (le_refl _)
window (smooth m Q) r large keeps a (suc n) = smooth-window-le m Q r large keeps a n
window (uniform m Q) r large keeps a n = uniform-window-le m Q r large keeps a n
window (rows given k) r large keeps a n = rows-window given k large.0 large.1 r keeps a n

rounded-mono : (m Q : ℕ) → 1 ≤ m → (n n' : ℕ) → n ≤ n' → round_up n m * Q ≤ round_up n' m * Q
rounded-mono m Q large n n' h = mul-le-mul_right Q (round-up-least n m (round_up n' m) large (omega (arith, round-up-enough n' m large)))

-- a longer window has no less
pub most-mono : (c : Class) → Positive c → (n n' : ℕ) → n ≤ n' → most_in c n ≤ most_in c n'
unfolding most_in
most-mono (smooth m Q) large zero n' h = omega arith
most-mono (smooth m Q) large (suc n) (suc n') h = omega (arith, rounded-mono m Q large n n' (omega arith), add-mul (round_up n m) 1 Q, add-mul (round_up n' m) 1 Q)
most-mono (uniform m Q) large n n' h = rounded-mono m Q large n n' h
most-mono (rows given k) large n n' h = rows-mono given k large.0 large.1 n n' h
most-mono (smooth m Q) large (suc n) zero h = elim h [ ]

-- for a smooth class section 4's figure for delayers is the most in one slot more
pub most-le-delayed : (c : Class) → Positive c → (n : ℕ) → most_in c n ≤ most_delayed c n
unfolding most_in most_delayed
most-le-delayed (smooth m Q) large n = most-mono (smooth m Q) large n (suc n) (omega arith)
most-le-delayed (uniform m Q) large n = le_refl _
most-le-delayed (rows given k) large n = le_refl _

pub delayed-window : (c : Class) (r : Flow) → Positive c → Keeps c r → (a n : ℕ) → total r (a + n) ≤ total r a + most_delayed c n
delayed-window c r large keeps a n = omega (arith, window c r large keeps a n, most-le-delayed c large n)

pub keeps-changed : (n : ℕ) (c : Class) (r : Flow) → Positive c → Keeps c r → Keeps (changed_to n c) r
unfolding changed_to changed_quota
keeps-changed n (smooth m Q) r large keeps = smooth-changed m n Q r large keeps
keeps-changed n (uniform m Q) r large keeps = uniform-of-window r n (round_up n m * Q) (λ a. uniform-window-le m Q r large keeps a n)
keeps-changed n (rows given k) r large keeps = uniform-of-window r n _ (λ a. rows-window given k large.0 large.1 r keeps a n)

pub smooth-of-changed : (n : ℕ) (c : Class) (r : Flow) → Keeps (changed_to n c) r → Smooth n (changed_quota n c) r
unfolding changed_to
smooth-of-changed n (smooth m Q) r keeps = keeps
smooth-of-changed n (uniform m Q) r keeps = uniform-is-smooth n _ r keeps
smooth-of-changed n (rows given k) r keeps = uniform-is-smooth n _ r keeps

-- at a rate that carries the class, the burst and the rate's units are enough for every number of slots
pub most-le-burst : (c : Class) (R : ℕ) → Positive c → carries c R ≡ true → (n : ℕ) → most_in c n ≤ burst_at c R + n * R
unfolding most_in carries burst_at
most-le-burst (smooth m Q) R large slow zero = omega arith
most-le-burst (smooth m Q) R large slow (suc n) = omega (arith, rounded-le m Q R n large (leb-true _ _ slow), add-mul (round_up n m) 1 Q, suc-mul n R)
most-le-burst (uniform m Q) R large slow n = rounded-le m Q R n large (leb-true _ _ slow)
most-le-burst (rows given k) R large slow n = rows-burst-enough given k large.0 large.1 R slow n

pub envelope : (c : Class) (r : Flow) (R : ℕ) → Positive c → carries c R ≡ true → Keeps c r → Envelope (burst_at c R) R r
envelope c r R large slow keeps a k = omega (arith, window c r large keeps a k, most-le-burst c R large slow k)

-- the burst does not fall as the rate falls
pub burst-falls : (c : Class) (P R : ℕ) → Positive c → P ≤ R → carries c P ≡ true → burst_at c R ≤ burst_at c P
unfolding carries burst_at
burst-falls (smooth m Q) P R large slower slow = le_refl _
burst-falls (uniform m Q) P R large slower slow = le_refl _
burst-falls (rows given k) P R large slower slow = rows-burst-falls given k large.0 large.1 P R slower slow

-- what entered as r by slot a − D has left as s by slot a, so n slots of s from slot a on carry what came in those and in the D before
pub late-window : (D : ℕ) (most : ℕ → ℕ) (r s : Flow) → Behind r s → InTime D r s → ((n n' : ℕ) → n ≤ n' → most n ≤ most n') → ((a n : ℕ) → total r (a + n) ≤ total r a + most n)
    → (a n : ℕ) → total s (a + n) ≤ total s a + most (n + D)
late-window D most r s entered late rises window a n = elim (dec_le D a) [ yes later ↦ after later | no earlier ↦ before (lt_of_not-le earlier) ]
  where
    after : D ≤ a → total s (a + n) ≤ total s a + most (n + D)
    after later =
        let (j, e) = le_dest later in
        let slots : j + D ≡ a = omega arith in
        let span : j + (n + D) ≡ a + n = omega arith in
        let came : total r (a + n) ≤ total r j + most (n + D) = rw span at (window j (n + D)) in
        let left : total r j ≤ total s a = rw slots at (late j) in
        omega (arith, entered (a + n))

    before : a < D → total s (a + n) ≤ total s a + most (n + D)
    before earlier =
        let first : total r (a + n) ≤ total r 0 + most (a + n) = rw zero-add at (window 0 (a + n)) in
        omega (arith, entered (a + n), total-zero r, rises (a + n) (n + D) (omega arith))

-- smooth (10, 30): 30 in one slot, 60 in 2 to 11, 90 in 12, and 0 in none
pub most-example : (most_in (smooth 10 30) 0 ≡ 0) × (most_in (smooth 10 30) 1 ≡ 30) × (most_in (smooth 10 30) 2 ≡ 60) × (most_in (smooth 10 30) 11 ≡ 60) × (most_in (smooth 10 30) 12 ≡ 90)
unfolding most_in round_up
most-example = (refl, refl, refl, refl, refl)
