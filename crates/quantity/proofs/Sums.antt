-- Laws of sums, tests and lists over the numbers below n: one step, each index, and equality by elements.
use mathlib.Core.Path.{◌≡◌, refl, ap, ap₂, sym, ◌∙◌}
use mathlib.Core.Bool.{Bool, true, false}
use mathlib.Core.List.{List, [], ◌∷◌}
use mathlib.Core.Logic.{⊎_elim}
use Prim.Native.Nat.{ℕ, zero, suc, ◌+◌, ◌≤◌, ◌<◌}
use native.Mathlib.Nat.{le_refl, le_dest, add-suc, add-zero, not-suc-le-zero, le_of_suc-le-suc, eq-or-lt_of_le}
use native.Mathlib.Numerals.{add-one}
use native.Mathlib.Omega.{arith}
use lib.ListN.{length, get_or, length-append, get_or-append}
use lib.Seq.{ext_get_or, get_or_at}
use Rattle.quantity.specs.Choice.{both}
use Rattle.quantity.specs.Sums.{total, every, list_of}

pub total-zero : (f : ℕ → ℕ) → total f 0 ≡ 0
unfolding total
total-zero f = refl

pub total-suc : (f : ℕ → ℕ) (n : ℕ) → total f (suc n) ≡ total f n + f n
unfolding total
total-suc f n = refl

-- the same at the code's n + 1
pub total-next : (f : ℕ → ℕ) (n : ℕ) → total f (n + 1) ≡ total f n + f n
total-next f n = rw add-one (total-suc f n)

pub total_mono : (f : ℕ → ℕ) (n k : ℕ) → total f n ≤ total f (n + k)
total_mono f n zero = rw add-zero (le_refl _)
total_mono f n (suc k) = rw (add-suc, total-suc) (let ih = total_mono f n k in omega arith)

pub total-le : (f : ℕ → ℕ) {n m : ℕ} → n ≤ m → total f n ≤ total f m
total-le f {n} h = let (k, e) = le_dest h in rw (← e) (total_mono f n k)

-- the first term apart
pub total_first : (f : ℕ → ℕ) (n : ℕ) → total f (suc n) ≡ f 0 + total (λ k. f (suc k)) n
total_first f zero = omega (arith, total-suc f 0, total-zero f, total-zero (λ k. f (suc k)))
total_first f (suc n) = omega (arith, total-suc f (suc n), total-suc (λ k. f (suc k)) n, total_first f n)

pub total-none : (n : ℕ) → total (λ k. 0) n ≡ 0
total-none zero = total-zero (λ k. 0)
total-none (suc n) = omega (arith, total-suc (λ k. 0) n, total-none n)

-- nothing comes from where the function is 0
pub total-rest : (f : ℕ → ℕ) (n k : ℕ) → ((j : ℕ) → n ≤ j → f j ≡ 0) → total f (n + k) ≡ total f n
total-rest f n zero none = rw add-zero
total-rest f n (suc k) none = rw (add-suc, total-suc) (omega (arith, total-rest f n k none, none (n + k) (omega arith)))

-- so no sum is above the one up to there
pub total-le-end : (f : ℕ → ℕ) (n : ℕ) → ((j : ℕ) → n ≤ j → f j ≡ 0) → (k : ℕ) → total f k ≤ total f n
total-le-end f n none k = omega (arith, total-rest f n k none, total-le f {n = k} {m = n + k} (omega arith))

-- no term is above the sum
pub term-le-total : (f : ℕ → ℕ) (n k : ℕ) → k < n → f k ≤ total f n
term-le-total f n k h = omega (arith, total-le f h, total-suc f k)

-- sums of functions that agree below n
pub total-same : (f g : ℕ → ℕ) (n : ℕ) → ((k : ℕ) → k < n → f k ≡ g k) → total f n ≡ total g n
unfolding total
total-same f g zero h = refl
total-same f g (suc n) h = ap₂ ◌+◌ (total-same f g n (λ k q. h k (omega arith))) (h n (omega arith))

-- sums of functions that agree but at one index
pub total-changed : (f g : ℕ → ℕ) (i : ℕ) → ((k : ℕ) → (k ≡ i → ⊥) → f k ≡ g k) → (n : ℕ) → i < n → total f n + g i ≡ total g n + f i
total-changed f g i same zero h = absurd (not-suc-le-zero h)
total-changed f g i same (suc n) h =
    ⊎_elim
    (λ last. rw last (omega (arith, total-suc f n, total-suc g n, total-same f g n (λ k less. same k (omega arith)))))
    (λ less. omega (arith, total-suc f n, total-suc g n, same n (omega arith), total-changed f g i same n less))
    (eq-or-lt_of_le (le_of_suc-le-suc h))

pub every-next : (test : ℕ → Bool) (n : ℕ) → every test (n + 1) ≡ both (every test n) (test n)
unfolding every
every-next test n = rw add-one

pub both_true : (a b : Bool) → both a b ≡ true → (a ≡ true) × (b ≡ true)
both_true true b e = (refl, e)
both_true false b e = (e, let z : ◌≡◌ {A = Bool} true false = sym e in (cc))

-- a test of all is one of each
pub every-at : (test : ℕ → Bool) (n : ℕ) → every test n ≡ true → (k : ℕ) → k < n → test k ≡ true
unfolding every
every-at test zero e k h = absurd (not-suc-le-zero h)
every-at test (suc n) e k h =
    let (before, here) = both_true (every test n) (test n) e in
    ⊎_elim (λ same. ap test same ∙ here) (λ less. every-at test n before k less) (eq-or-lt_of_le (le_of_suc-le-suc h))

-- and a test of each is one of all
pub every_holds : (test : ℕ → Bool) (n : ℕ) → ((k : ℕ) → k < n → test k ≡ true) → every test n ≡ true
unfolding every
every_holds test zero each = refl
every_holds test (suc n) each = rw (every_holds test n (λ k less. each k (omega arith))) (each n (omega arith))

-- a test that fails at one index fails over all
pub every-fails : (test : ℕ → Bool) (n k : ℕ) → k < n → test k ≡ false → every test n ≡ false
every-fails test n k less fails = by-test (every test n) refl
  where
    by-test : (t : Bool) → every test n ≡ t → t ≡ false
    by-test true e = sym (every-at test n e k less) ∙ fails
    by-test false e = refl

-- tests that agree below n agree over all of it
pub every-same : (f g : ℕ → Bool) (n : ℕ) → ((k : ℕ) → k < n → f k ≡ g k) → every f n ≡ every g n
unfolding every
every-same f g zero same = refl
every-same f g (suc n) same = ap₂ both (every-same f g n (λ k less. same k (omega arith))) (same n (omega arith))

-- a test that holds below k and at k holds below k + 1
pub every-on : (test : ℕ → Bool) (k : ℕ) → every test k ≡ true → test k ≡ true → every test (k + 1) ≡ true
every-on test k before here = every-next test k ∙ ap₂ both before here

-- the first test apart
pub both-assoc : (a b c : Bool) → both (both a b) c ≡ both a (both b c)
both-assoc true b c = refl
both-assoc false b c = refl

both_end : (a : Bool) → a ≡ both a true
both_end true = refl
both_end false = refl

pub every_first : (test : ℕ → Bool) (n : ℕ) → every test (suc n) ≡ both (test 0) (every (λ k. test (suc k)) n)
unfolding every
every_first test zero = both_end (test 0)
every_first test (suc n) = ap (λ (t : Bool). both t (test (suc n))) (every_first test n) ∙ both-assoc (test 0) (every (λ k. test (suc k)) n) (test (suc n))

module _ {A : Type 0} where
  pub length-list_of : (f : ℕ → A) (n : ℕ) → length (list_of f n) ≡ n
  unfolding list_of
  length-list_of f zero = refl
  length-list_of f (suc n) = let ih = length-list_of f n in rw (length-append, ih, add-one)

  pub get_d-list_of : (d : A) (f : ℕ → A) (n k : ℕ) → k < n → get_or (list_of f n) k d ≡ f k
  unfolding list_of
  get_d-list_of d f zero k h = absurd (not-suc-le-zero h)
  get_d-list_of d f (suc n) k h =
      let size = length-list_of f n in
      ⊎_elim
      (λ same. rw same (get_or_at (list_of f n) (f n) [] d n size))
      (λ less. get_or-append (list_of f n) (f n ∷ []) d k (rw size less) ∙ get_d-list_of d f n k less)
      (eq-or-lt_of_le (le_of_suc-le-suc h))

  -- a list of n elements, each the f of its place, is the list of f
  pub list_of-ext : (d : A) (f : ℕ → A) (n : ℕ) (xs : List A) → length xs ≡ n → ((k : ℕ) → k < n → get_or xs k d ≡ f k) → xs ≡ list_of f n
  list_of-ext d f n xs size each =
      ext_get_or d xs (list_of f n) (size ∙ sym (length-list_of f n))
      (λ k h. let less : k < n = rw size at h in each k less ∙ sym (get_d-list_of d f n k less))
