-- What is gathered of the words by age: one part of the words gathers the ages that lie in it, and so do two; and where the words of all ages are small, every word of the ring is.
use Rattle.std.proofs.Common.{◌≡◌, ℕ, suc, ◌+◌, ◌-◌, ◌%◌, ◌^◌, ◌<◌, ◌≤◌, List, ap, ◌∙◌, le_trans, arith}
use native.Mathlib.Decide.{dec_lt}
use Rattle.quantity.specs.Sums.{total}
use Rattle.quantity.proofs.Sums.{total-zero}
use Rattle.words.specs.Stored.{word_at}
use Rattle.words.specs.Gathering.{most_exact, gathered_with}
use Rattle.words.specs.declared.Gathered.{Gathered}
use Rattle.words.proofs.JoinLaws.{le_or_l, le_or_r}
use Rattle.words.proofs.PartLaws.{PartGathered}
use Rattle.meter.specs.Meter.{word_before}
use Rattle.meter.specs.Counting.{AgesGathered}
use Rattle.meter.proofs.RingLaws.{word-near, word-far, part-near, part-far, parts-both}

-- sums modulo 2^32: of two parts at once, and each part for what it sums to
low-of-both : (s a b : ℕ) → (s + (a + b) % 2 ^ 32) % 2 ^ 32 ≡ (s + a + b) % 2 ^ 32
low-of-both s a b = omega arith

low-of-first : (s a t b : ℕ) → a % 2 ^ 32 ≡ t % 2 ^ 32 → (s + a + b) % 2 ^ 32 ≡ (s + t + b) % 2 ^ 32
low-of-first s a t b same = omega arith

low-of-rest : (s b t u g : ℕ) → (t + b) % 2 ^ 32 ≡ u % 2 ^ 32 → g + t ≡ s + u → (s + b) % 2 ^ 32 ≡ g % 2 ^ 32
low-of-rest s b t u g same whole = omega arith

module _ (words : List ℕ) (ring at : ℕ) (inside : at < ring) where
  module _ (from to : ℕ) (ages : from ≤ to) (few : to ≤ ring) where
    pub ages-near : to ≤ at → {part : Gathered} → PartGathered words (at - to) (at - from) part → AgesGathered words ring at from to part
    ages-near young gathered =
        record {
          summed = omega (arith, gathered.summed, part-near ring words at inside from to ages few young);
          small = λ within a past less. rw (word-near ring words at inside a (omega arith)) (gathered.small within (at - suc a) (omega arith) (omega arith));
        }

    pub ages-far : at ≤ from → {part : Gathered} → PartGathered words (at + ring - to) (at + ring - from) part → AgesGathered words ring at from to part
    ages-far old gathered =
        record {
          summed = omega (arith, gathered.summed, part-far ring words at inside from to ages few old);
          small = λ within a past less. rw (word-far ring words at inside a (omega arith) (omega arith)) (gathered.small within (at + ring - suc a) (omega arith) (omega arith));
        }

    abbrev aged : ℕ
    aged = total (word_before ring at words) from

    pub ages-both : from ≤ at → at ≤ to → {near far : Gathered} → PartGathered words 0 (at - from) near → PartGathered words (at + ring - to) ring far → AgesGathered words ring at from to (gathered_with near far)
    ages-both young old {near} {far} first rest =
        record {
          summed =
              low-of-both aged near.low far.low
              ∙ low-of-first aged near.low (total (word_at words) (at - from)) far.low (omega (arith, first.summed, total-zero (word_at words)))
              ∙ low-of-rest (aged + total (word_at words) (at - from)) far.low (total (word_at words) (at + ring - to)) (total (word_at words) ring) _ rest.summed
              (parts-both ring words at inside from to ages few young old);
          small =
              λ within a past less.
              elim (dec_lt a at) [
                | yes before ↦
                    rw (word-near ring words at inside a before)
                    (first.small (le_trans (le_or_l near.join far.join) within) (at - suc a) (omega arith) (omega arith))
                | no behind ↦
                    rw (word-far ring words at inside a (omega arith) (omega arith))
                    (rest.small (le_trans (le_or_r near.join far.join) within) (at + ring - suc a) (omega arith) (omega arith))
              ];
        }

  -- every word of the ring is of some age but the slot's own
  module _ (own : word_at words at ≤ most_exact) (small : (a : ℕ) → a + 1 < ring → word_before ring at words a ≤ most_exact) where
    before-own : (j : ℕ) → j < at → word_at words j ≤ most_exact
    before-own j less =
        let place : at - suc (at - suc j) ≡ j = omega arith in
        omega (arith, small (at - suc j) (omega arith), word-near ring words at inside (at - suc j) (omega arith), ap (word_at words) place)

    behind-own : (j : ℕ) → at < j → j < ring → word_at words j ≤ most_exact
    behind-own j past less =
        let place : at + ring - suc (at + ring - suc j) ≡ j = omega arith in
        omega (arith, small (at + ring - suc j) (omega arith), word-far ring words at inside (at + ring - suc j) (omega arith) (omega arith), ap (word_at words) place)

    pub ring-small : (j : ℕ) → j < ring → word_at words j ≤ most_exact
    ring-small j less =
        elim (dec_lt j at) [
          | yes before ↦ before-own j before
          | no late ↦
              elim (dec_lt at j) [
                | yes behind ↦ behind-own j behind less
                | no same ↦ let here : j ≡ at = omega arith in rw here own
              ]
        ]
