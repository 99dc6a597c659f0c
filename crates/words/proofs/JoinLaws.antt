-- Words joined by "or": the join is at most 2^k − 1 if and only if each word is, and 0 if and only if each is 0.
-- So the join tells when the low 32 bits of the words' sum are all of it.
use Rattle.std.proofs.Common.{◌≡◌, ℕ, zero, suc, ◌+◌, ◌*◌, ◌/◌, ◌%◌, ◌^◌, ◌<◌, ◌≤◌, max, Bool, eqb, leb, List, [], ◌∷◌, length, sym, refl, ap, ◌∙◌, ap₂, mod-eq_of_lt, lt_of_not-le, add-one, arith, ne_eqb, le-leb, leb-true}
use native.Mathlib.Decide.{dec_le}
use lib.Arith.{bin_ind}
use lib.Bits.{bit_or, or_step, or_zero_r, or_lt, or_add_and, and_le_l, and_le_r}
use borrow.Author.Tests.{lt-leb}
use Rattle.std.specs.List.{fold}
use Rattle.quantity.specs.Choice.{both}
use Rattle.quantity.specs.Sums.{total, every}
use Rattle.quantity.proofs.Sums.{total-zero, total-suc, every-at, every-same}
use Rattle.words.specs.Stored.{word_at}
use Rattle.words.specs.Gathering.{joined, most_exact, gathered_of}

pub joined-zero : (f : ℕ → ℕ) → joined f 0 ≡ 0
unfolding joined
joined-zero f = refl

-- one more, at the code's n + 1
pub joined-next : (f : ℕ → ℕ) (n : ℕ) → joined f (n + 1) ≡ bit_or (joined f n) (f n)
unfolding joined
joined-next f n = rw add-one

-- the last binary digits are joined apart from those before them
or-half : (a b : ℕ) → bit_or a b / 2 ≡ bit_or (a / 2) (b / 2)
or-half a b = omega (arith, or_step a b)

or-last : (a b : ℕ) → bit_or a b % 2 ≡ max (a % 2) (b % 2)
or-last a b = omega (arith, or_step a b)

pub or_assoc : (a b c : ℕ) → bit_or (bit_or a b) c ≡ bit_or a (bit_or b c)
or_assoc a =
    bin_ind (λ (n : ℕ). (b c : ℕ) → bit_or (bit_or n b) c ≡ bit_or n (bit_or b c)) (λ b c. refl)
    (λ n halves b c.
    let before : bit_or (bit_or n b / 2) (c / 2) ≡ bit_or (n / 2) (bit_or b c / 2) = rw (or-half n b, or-half b c) (halves (b / 2) (c / 2)) in
    omega (arith, or_step (bit_or n b) c, or_step n (bit_or b c), or-last n b, or-last b c))
    a

-- the first apart
joined_first : (f : ℕ → ℕ) (n : ℕ) → joined f (suc n) ≡ bit_or (f 0) (joined (λ k. f (suc k)) n)
unfolding joined
joined_first f zero = sym (or_zero_r (f 0))
joined_first f (suc n) = ap (λ (t : ℕ). bit_or t (f (suc n))) (joined_first f n) ∙ or_assoc (f 0) (joined (λ k. f (suc k)) n) (f (suc n))

-- words joined one after the other
pub joined_on : (words : List ℕ) (a : ℕ) → fold bit_or a words ≡ bit_or a (joined (word_at words) (length words))
unfolding joined
joined_on [] a = sym (or_zero_r a)
joined_on (word ∷ words) a = joined_on words (bit_or a word) ∙ or_assoc a word _ ∙ ap (bit_or a) (sym (joined_first (word_at (word ∷ words)) (length words)))

pub fold-joined : (words : List ℕ) → fold bit_or 0 words ≡ joined (word_at words) (length words)
fold-joined words = joined_on words 0

-- the join of two is at least each of them
pub le_or_l : (a b : ℕ) → a ≤ bit_or a b
le_or_l a b = omega (arith, or_add_and a b, and_le_r a b)

pub le_or_r : (a b : ℕ) → b ≤ bit_or a b
le_or_r a b = omega (arith, or_add_and a b, and_le_l a b)

-- `most` is 2^k − 1: k binary digits, each of them 1
module _ (k most : ℕ) (ones : suc most ≡ 2 ^ k) where
  or-within : (a b : ℕ) → leb (bit_or a b) most ≡ both (leb a most) (leb b most)
  or-within a b = elim (dec_le a most) [
    | yes a-within ↦ elim (dec_le b most) [
      | yes b-within ↦ le-leb (bit_or a b) most (omega (arith, or_lt k a b (omega arith) (omega arith))) ∙ sym (ap₂ both (le-leb a most a-within) (le-leb b most b-within))
      | no b-above ↦ lt-leb (bit_or a b) most (omega (arith, le_or_r a b, lt_of_not-le b-above)) ∙ sym (ap₂ both (le-leb a most a-within) (lt-leb b most (lt_of_not-le b-above)))
    ]
    | no a-above ↦ lt-leb (bit_or a b) most (omega (arith, le_or_l a b, lt_of_not-le a-above)) ∙ sym (ap (λ (t : Bool). both t (leb b most)) (lt-leb a most (lt_of_not-le a-above)))
  ]

  pub joined-within : (f : ℕ → ℕ) (n : ℕ) → leb (joined f n) most ≡ every (λ j. leb (f j) most) n
  unfolding joined every
  joined-within f zero = le-leb 0 most (omega arith)
  joined-within f (suc n) = or-within (joined f n) (f n) ∙ ap (λ (t : Bool). both t (leb (f n) most)) (joined-within f n)

pub eqb-zero : (n : ℕ) → eqb n 0 ≡ leb n 0
eqb-zero zero = refl
eqb-zero (suc n) = ne_eqb (suc n) 0 (λ e. omega arith) ∙ sym (lt-leb (suc n) 0 (omega arith))

pub or-clear : (a b : ℕ) → eqb (bit_or a b) 0 ≡ both (eqb a 0) (eqb b 0)
or-clear a b = eqb-zero (bit_or a b) ∙ or-within 0 0 refl a b ∙ ap₂ both (sym (eqb-zero a)) (sym (eqb-zero b))

pub joined-clear : (f : ℕ → ℕ) (n : ℕ) → eqb (joined f n) 0 ≡ every (λ j. eqb (f j) 0) n
joined-clear f n =
    eqb-zero (joined f n) ∙ joined-within 0 0 refl f n ∙ every-same (λ j. leb (f j) 0) (λ j. eqb (f j) 0) n (λ j less. sym (eqb-zero (f j)))

-- a sum of n that are each at most m
total_at_most : (f : ℕ → ℕ) (m n : ℕ) → ((k : ℕ) → k < n → f k ≤ m) → total f n ≤ n * m
total_at_most f m zero each = omega (arith, total-zero f)
total_at_most f m (suc n) each = omega (arith, total-suc f n, each n (omega arith), total_at_most f m n (λ k less. each k (omega arith)))

-- where the join is at most 2^22 − 1, so is each
pub joined_small : (f : ℕ → ℕ) (n : ℕ) → joined f n ≤ most_exact → (k : ℕ) → k < n → f k ≤ most_exact
joined_small f n within k less =
    let each = sym (joined-within 22 most_exact refl f n) ∙ le-leb _ most_exact within in
    leb-true (f k) most_exact (every-at (λ k. leb (f k) most_exact) n each k less)

-- and at most 1,024 of them sum to less than 2^32
pub small-total : (f : ℕ → ℕ) (n : ℕ) → n ≤ 1_024 → ((k : ℕ) → k < n → f k ≤ most_exact) → total f n < 2 ^ 32
small-total f n few small = omega (arith, total_at_most f most_exact n small)

-- so the low 32 bits of the words' sum are all of it
pub low-exact : (words : List ℕ) → length words ≤ 1_024 → (gathered_of words).join ≤ most_exact → (gathered_of words).low ≡ total (word_at words) (length words)
unfolding gathered_of
low-exact words few within = mod-eq_of_lt (small-total (word_at words) (length words) few (joined_small (word_at words) (length words) within))
