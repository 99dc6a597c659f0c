-- A part of the words, from one on to before another: its words are theirs, so its sum goes on that of the words before it, and its join is small only where each is.
use Rattle.std.proofs.Common.{◌≡◌, ℕ, zero, suc, ◌+◌, ◌-◌, ◌%◌, ◌^◌, ◌<◌, ◌≤◌, true, List, length, take, drop, sym, ap, ◌∙◌, add-zero, add-suc, arith, length-drop, length-take-le, get_or-drop, get_or-take, eqb-true}
use Rattle.quantity.specs.Sums.{total, every}
use Rattle.quantity.proofs.Sums.{total-zero, total-suc, total-same, every-at}
use Rattle.words.specs.Stored.{word_at, clear_at}
use Rattle.words.specs.Gathering.{joined, most_exact, gathered_of}
use Rattle.words.specs.declared.Gathered.{Gathered}
use Rattle.words.proofs.JoinLaws.{joined_small}

-- a sum in two parts
total-parts : (f : ℕ → ℕ) (n k : ℕ) → total f (n + k) ≡ total f n + total (λ j. f (n + j)) k
total-parts f n zero = omega (arith, ap (total f) (add-zero n), total-zero (λ j. f (n + j)))
total-parts f n (suc k) = omega (arith, ap (total f) (add-suc n k), total-suc f (n + k), total-suc (λ j. f (n + j)) k, total-parts f n k)

abbrev pub part_of : List ℕ → ℕ → ℕ → List ℕ
part_of words from end = take (end - from) (drop from words)

-- a sum of the words from one on to before another, modulo 2^32, and a join of them that is small only where each is
pub record PartGathered (words : List ℕ) (from end : ℕ) (part : Gathered) : Type 0 where
  pub summed : (total (word_at words) from + part.low) % 2 ^ 32 ≡ total (word_at words) end % 2 ^ 32
  pub small : part.join ≤ most_exact → (j : ℕ) → from ≤ j → j < end → word_at words j ≤ most_exact

module _ (words : List ℕ) (from end : ℕ) (behind : from ≤ end) (inside : end ≤ length words) where
  pub part_length : length (part_of words from end) ≡ end - from
  part_length = length-take-le (end - from) (drop from words) (omega (arith, length-drop from words))

  pub part-word : (j : ℕ) → j < end - from → word_at (part_of words from end) j ≡ word_at words (from + j)
  part-word j less = get_or-take (end - from) (drop from words) j 0 less ∙ get_or-drop from words j 0

  whole : from + (end - from) ≡ end
  whole = omega arith

  pub part-total : total (word_at words) from + total (word_at (part_of words from end)) (length (part_of words from end)) ≡ total (word_at words) end
  part-total =
      ap (λ (n : ℕ). total (word_at words) from + n) (ap (total (word_at (part_of words from end))) part_length ∙ total-same _ _ (end - from) part-word)
      ∙ sym (total-parts (word_at words) from (end - from))
      ∙ ap (total (word_at words)) whole

  part_small : joined (word_at (part_of words from end)) (length (part_of words from end)) ≤ most_exact → (j : ℕ) → from ≤ j → j < end → word_at words j ≤ most_exact
  part_small within j past less =
      let place : from + (j - from) ≡ j = omega arith in
      let small = joined_small (word_at (part_of words from end)) (length (part_of words from end)) within (j - from) (omega (arith, part_length)) in
      omega (arith, small, part-word (j - from) (omega arith), ap (word_at words) place)

  pub part-clear : every (clear_at (part_of words from end)) (length (part_of words from end)) ≡ true → (j : ℕ) → from ≤ j → j < end → word_at words j ≡ 0
  part-clear clear j past less =
      let place : from + (j - from) ≡ j = omega arith in
      let none = eqb-true (word_at (part_of words from end) (j - from)) 0 (every-at (clear_at (part_of words from end)) (length (part_of words from end)) clear (j - from) (omega (arith, part_length))) in
      omega (arith, none, part-word (j - from) (omega arith), ap (word_at words) place)

  -- what is gathered of the part, told of the words
  pub part-gathered : {part : Gathered} → part ≡ gathered_of (part_of words from end) → PartGathered words from end part
  unfolding gathered_of
  part-gathered {part} same =
      let join = ap (λ (g : Gathered). g.join) same in
      let low = ap (λ (g : Gathered). g.low) same in
      record { summed = omega (arith, low, part-total); small = λ within. part_small (rw join at within) }
