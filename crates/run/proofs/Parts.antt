-- The parts of a run's words: where a word of the meter or of an operator stands among all, and what a part of a list given by its elements is.
use mathlib.Core.Path.{◌≡◌, ◌∙◌}
use mathlib.Core.List.{List}
use Prim.Native.Nat.{ℕ, ◌+◌, ◌-◌, ◌*◌, ◌/◌, ◌%◌, ◌≤◌, ◌<◌}
use native.Mathlib.Nat.{mul-add-div, mul-add-mod_self_left, div-eq_of_lt, mod-eq_of_lt, add-zero}
use native.Mathlib.Omega.{arith}
use lib.ListN.{length, length-take, length-drop}
use lib.Seq.{get_or-take, get_or-drop}
use Rattle.quantity.specs.Limits.{most_operators}
use Rattle.quantity.specs.Sums.{list_of}
use Rattle.quantity.proofs.Sums.{list_of-ext}
use Rattle.operator.specs.Single.{word_count}
use Rattle.words.specs.Stored.{word_at}
use Rattle.meter.specs.Meter.{meter_word_count}
use Rattle.sheet.specs.Bodies.{part}
use Rattle.run.specs.Runs.{run_word_count, operator_at_word, operator_words}

-- a part's length and its elements
module _ (at width : ℕ) (words : List ℕ) (within : at + width ≤ length words) where
  pub length_part : length (part at width words) ≡ width
  unfolding part
  length_part = simp (length-take, length-drop) (omega arith)

  pub part_at : (a : ℕ) → a < width → word_at (part at width words) a ≡ word_at words (at + a)
  unfolding part
  part_at a less = rw (get_or-take, get_or-drop)

  -- the part of a list whose elements there are f's
  pub part-is : (f : ℕ → ℕ) → ((a : ℕ) → a < width → word_at words (at + a) ≡ f a) → part at width words ≡ list_of f width
  part-is f each = list_of-ext 0 f width (part at width words) length_part (λ a less. part_at a less ∙ each a less)

-- operator k's words are within the run's
pub operator-within : (k : ℕ) → k < most_operators → operator_at_word k + word_count ≤ run_word_count
operator-within k less = omega arith

-- the words of operator k
module _ (words : List ℕ) (sized : length words ≡ run_word_count) (k : ℕ) (less : k < most_operators) where
  pub operator-fits : operator_at_word k + word_count ≤ length words
  operator-fits = omega (arith, operator-within k less)

  pub length-operator_words : length (operator_words words k) ≡ word_count
  unfolding operator_words
  length-operator_words = length_part (operator_at_word k) word_count words operator-fits

  pub operator-word : (a : ℕ) → a < word_count → word_at (operator_words words k) a ≡ word_at words (operator_at_word k + a)
  unfolding operator_words
  operator-word a = part_at (operator_at_word k) word_count words operator-fits a

-- word a of operator k is that of k and a again
module _ (k a : ℕ) (less : a < word_count) where
  behind-meter : operator_at_word k + a - meter_word_count ≡ word_count * k + a
  behind-meter = omega arith

  pub operator-of-word : (operator_at_word k + a - meter_word_count) / word_count ≡ k
  operator-of-word = rw behind-meter (mul-add-div {m = word_count} (omega arith) k a ∙ rw (div-eq_of_lt {n = a} {m = word_count} less) (add-zero k))

  pub age-of-word : (operator_at_word k + a - meter_word_count) % word_count ≡ a
  age-of-word = rw behind-meter (mul-add-mod_self_left word_count k a ∙ mod-eq_of_lt less)
