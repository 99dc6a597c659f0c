-- The words of a ring by age: they lie behind the slot's own word, and from the ring's end on; all of them together are the ring's words, so all but the oldest are those that no input replaces.
use Rattle.std.proofs.Common.{◌≡◌, ℕ, zero, suc, ◌+◌, ◌-◌, ◌*◌, ◌/◌, ◌%◌, ◌<◌, ◌≤◌, List, ap, ◌∙◌, le_refl, add-zero, add-suc, mod-eq_of_lt, div-add-mod', arith}
use native.Mathlib.Nat.{sub-zero, add-mod_left, mul-add-mod_self_right, le_dest}
use Rattle.quantity.specs.Sums.{total}
use Rattle.quantity.proofs.Sums.{total-zero, total-suc, total-same}
use Rattle.words.specs.Stored.{word_at}
use Rattle.meter.specs.Meter.{word_before}

-- the age of a word does not depend on how often the ring was gone round
pub age-place : (ring t a : ℕ) → a < ring → (t + ring - suc a) % ring ≡ (t % ring + ring - suc a) % ring
age-place ring t a young =
    let whole : t + ring - suc a ≡ t / ring * ring + (t % ring + ring - suc a) = omega (arith, div-add-mod' t ring) in
    rw whole (mul-add-mod_self_right (t / ring) ring (t % ring + ring - suc a))

module _ (ring : ℕ) (words : List ℕ) where
  pub age-total : (t n : ℕ) → n ≤ ring → total (word_before ring t words) n ≡ total (word_before ring (t % ring) words) n
  unfolding word_before
  age-total t n few = total-same _ _ n (λ a less. ap (word_at words) (age-place ring t a (omega arith)))

  module _ (at : ℕ) (inside : at < ring) where
    pub word-near : (a : ℕ) → a < at → word_before ring at words a ≡ word_at words (at - suc a)
    unfolding word_before
    word-near a young =
        let round : at + ring - suc a ≡ ring + (at - suc a) = omega arith in
        ap (word_at words) (ap (λ (n : ℕ). n % ring) round ∙ add-mod_left ring (at - suc a) ∙ mod-eq_of_lt {n = at - suc a} {m = ring} (omega arith))

    pub word-far : (a : ℕ) → at ≤ a → a < ring → word_before ring at words a ≡ word_at words (at + ring - suc a)
    unfolding word_before
    word-far a old young = ap (word_at words) (mod-eq_of_lt {n = at + ring - suc a} {m = ring} (omega arith))

    -- the younger ones lie just behind the slot's own word
    near-total : (n : ℕ) → n ≤ at → total (word_before ring at words) n + total (word_at words) (at - n) ≡ total (word_at words) at
    near-total zero few = rw sub-zero (omega (arith, total-zero (word_before ring at words)))
    near-total (suc n) few =
        let next : at - n ≡ suc (at - suc n) = omega arith in
        omega (
          arith,
          total-suc (word_before ring at words) n,
          word-near n (omega arith),
          total-suc (word_at words) (at - suc n),
          ap (total (word_at words)) next,
          near-total n (omega arith),
        )

    -- the older ones from the ring's end on
    far-step : (k : ℕ) → at + k ≤ ring → total (word_before ring at words) (at + k) + total (word_at words) (ring - k) ≡ total (word_at words) at + total (word_at words) ring
    far-step zero few =
        let none : at - at ≡ 0 = omega arith in
        rw (add-zero, sub-zero) (omega (arith, near-total at (le_refl at), ap (total (word_at words)) none, total-zero (word_at words)))
    far-step (suc k) few =
        let next : ring - k ≡ suc (ring - suc k) = omega arith in
        let place : at + ring - suc (at + k) ≡ ring - suc k = omega arith in
        rw add-suc
        (omega (
          arith,
          total-suc (word_before ring at words) (at + k),
          word-far (at + k) (omega arith) (omega arith),
          ap (word_at words) place,
          total-suc (word_at words) (ring - suc k),
          ap (total (word_at words)) next,
          far-step k (omega arith),
        ))

    far-total : (n : ℕ) → at ≤ n → n ≤ ring → total (word_before ring at words) n + total (word_at words) (at + ring - n) ≡ total (word_at words) at + total (word_at words) ring
    far-total n old few =
        let (k, e) = le_dest old in
        let place : at + ring - n ≡ ring - k = omega arith in
        rw place (rw e at (far-step k (omega arith)))

    -- so the words from one age on to before another are one part of the words, or two
    module _ (from to : ℕ) (ages : from ≤ to) (few : to ≤ ring) where
      pub part-near : to ≤ at → total (word_before ring at words) to + total (word_at words) (at - to) ≡ total (word_before ring at words) from + total (word_at words) (at - from)
      part-near young = omega (arith, near-total to young, near-total from (omega arith))

      pub part-far : at ≤ from → total (word_before ring at words) to + total (word_at words) (at + ring - to) ≡ total (word_before ring at words) from + total (word_at words) (at + ring - from)
      part-far old = omega (arith, far-total to (omega arith) few, far-total from old (omega arith))

      pub parts-both : from ≤ at → at ≤ to
          → total (word_before ring at words) to + total (word_at words) (at + ring - to) ≡ total (word_before ring at words) from + total (word_at words) (at - from) + total (word_at words) ring
      parts-both young old = omega (arith, near-total from young, far-total to old few)

    -- all of them are the ring's words
    ring-total : total (word_before ring at words) ring ≡ total (word_at words) ring
    ring-total =
        let end : at + ring - ring ≡ at = omega arith in
        omega (arith, far-total ring (omega arith) (le_refl ring), ap (total (word_at words)) end)

    -- and all but the oldest are those but the slot's own
    pub ring-last : total (word_before ring at words) (ring - 1) + word_at words at ≡ total (word_at words) ring
    ring-last =
        let next : ring ≡ suc (ring - 1) = omega arith in
        let place : at + ring - suc (ring - 1) ≡ at = omega arith in
        omega (
          arith,
          ring-total,
          ap (total (word_before ring at words)) next,
          total-suc (word_before ring at words) (ring - 1),
          word-oldest,
          ap (word_at words) place,
        )
      where
        word-oldest : word_before ring at words (ring - 1) ≡ word_at words (at + ring - suc (ring - 1))
        word-oldest = word-far (ring - 1) (omega arith) (omega arith)
