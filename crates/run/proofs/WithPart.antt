-- Words with a part of them replaced: they are as many, the part is the new one, and every part beside it is as it was; so of a run's words and those of its meter or of an operator.
use mathlib.Core.Path.{◌≡◌, refl, ap, sym, ◌∙◌}
use mathlib.Core.List.{List, ◌++◌}
use Prim.Native.Nat.{ℕ, ◌+◌, ◌-◌, ◌≤◌, ◌<◌}
use native.Mathlib.Omega.{arith}
use lib.ListN.{length, take, drop, length-append, length-take, length-drop, get_or-append}
use lib.Seq.{length-take-le, take_at, drop_at, get_or-take, get_or-drop, get_or-append-add, drop-drop, ext_get_or}
use Rattle.quantity.specs.Limits.{most_operators}
use Rattle.operator.specs.Single.{word_count}
use Rattle.meter.specs.Meter.{meter_word_count}
use Rattle.words.specs.Stored.{word_at}
use Rattle.sheet.specs.Bodies.{part}
use Rattle.run.specs.Runs.{run_word_count, meter_words, operator_at_word, operator_words}
use Rattle.run.specs.Steps.{with_part}
use Rattle.run.proofs.Parts.{length_part, part_at, operator-within}

-- a part that was lent and is back with as many words
pub put_back : (at width : ℕ) (new words : List ℕ) → length new ≡ width → take at words ++ (new ++ drop width (drop at words)) ≡ with_part at new words
unfolding with_part
put_back at width new words size = ap (λ (rest : List ℕ). take at words ++ (new ++ rest)) (drop-drop width at words ∙ ap (λ (n : ℕ). drop (at + n) words) (sym size))

module _ (at : ℕ) (new words : List ℕ) (within : at + length new ≤ length words) where
  before-size : length (take at words) ≡ at
  before-size = length-take-le at words (omega arith)

  pub length-with_part : length (with_part at new words) ≡ length words
  unfolding with_part
  length-with_part = simp (length-append, length-take, length-drop) (omega arith)

  word-before : (j : ℕ) → j < at → word_at (with_part at new words) j ≡ word_at words j
  unfolding with_part
  word-before j less = get_or-append (take at words) (new ++ drop (at + length new) words) 0 j (rw before-size less) ∙ get_or-take at words j 0 less

  word-behind : (j : ℕ) → at + length new ≤ j → word_at (with_part at new words) j ≡ word_at words j
  unfolding with_part
  word-behind j behind =
      let rest = j - (at + length new) in
      let linked : j ≡ length (take at words) + (length new + rest) = omega (arith, before-size) in
      let same : at + length new + rest ≡ j = omega arith in
      ap (word_at (take at words ++ (new ++ drop (at + length new) words))) linked
      ∙ get_or-append-add (take at words) (new ++ drop (at + length new) words) (length new + rest) 0
      ∙ get_or-append-add new (drop (at + length new) words) rest 0
      ∙ get_or-drop (at + length new) words rest 0
      ∙ ap (word_at words) same

  pub part-replaced : part at (length new) (with_part at new words) ≡ new
  unfolding part with_part
  part-replaced =
      ap (λ (rest : List ℕ). take (length new) rest) (drop_at (take at words) (new ++ drop (at + length new) words) at before-size)
      ∙ take_at new (drop (at + length new) words) (length new) refl

  part-beside : (other width : ℕ) → other + width ≤ length words → ((a : ℕ) → a < width → word_at (with_part at new words) (other + a) ≡ word_at words (other + a))
      → part other width (with_part at new words) ≡ part other width words
  part-beside other width fits same =
      let fits_after : other + width ≤ length (with_part at new words) = rw length-with_part fits in
      let sized = length_part other width (with_part at new words) fits_after in
      ext_get_or 0 (part other width (with_part at new words)) (part other width words) (sized ∙ sym (length_part other width words fits))
      (λ a inside. let less : a < width = rw sized at inside in part_at other width (with_part at new words) fits_after a less ∙ same a less ∙ sym (part_at other width words fits a less))

  pub part-before : (other width : ℕ) → other + width ≤ at → part other width (with_part at new words) ≡ part other width words
  part-before other width ends = part-beside other width (omega arith) (λ a less. word-before (other + a) (omega arith))

  pub part-behind : (other width : ℕ) → at + length new ≤ other → other + width ≤ length words → part other width (with_part at new words) ≡ part other width words
  part-behind other width starts fits = part-beside other width fits (λ a less. word-behind (other + a) (omega arith))

-- the meter's words replaced
module _ (words new : List ℕ) (sized : length words ≡ run_word_count) (size : length new ≡ meter_word_count) where
  meter-fits : 0 + length new ≤ length words
  meter-fits = omega arith

  pub meter-sized : length (with_part 0 new words) ≡ run_word_count
  meter-sized = length-with_part 0 new words meter-fits ∙ sized

  pub meter-replaced : meter_words (with_part 0 new words) ≡ new
  unfolding meter_words
  meter-replaced = ap (λ (n : ℕ). part 0 n (with_part 0 new words)) (sym size) ∙ part-replaced 0 new words meter-fits

  pub meter-beside : (i : ℕ) → i < most_operators → operator_words (with_part 0 new words) i ≡ operator_words words i
  unfolding operator_words
  meter-beside i less = part-behind 0 new words meter-fits (operator_at_word i) word_count (omega arith) (omega (arith, operator-within i less))

-- operator k's words replaced
module _ (words new : List ℕ) (sized : length words ≡ run_word_count) (size : length new ≡ word_count) (k : ℕ) (below : k < most_operators) where
  operator-fits : operator_at_word k + length new ≤ length words
  operator-fits = omega (arith, operator-within k below)

  pub operator-sized : length (with_part (operator_at_word k) new words) ≡ run_word_count
  operator-sized = length-with_part (operator_at_word k) new words operator-fits ∙ sized

  pub operator-replaced : operator_words (with_part (operator_at_word k) new words) k ≡ new
  unfolding operator_words
  operator-replaced = ap (λ (n : ℕ). part (operator_at_word k) n (with_part (operator_at_word k) new words)) (sym size) ∙ part-replaced (operator_at_word k) new words operator-fits

  pub meter-before : meter_words (with_part (operator_at_word k) new words) ≡ meter_words words
  unfolding meter_words
  meter-before = part-before (operator_at_word k) new words operator-fits 0 meter_word_count (omega arith)

  pub operator-before : (i : ℕ) → i < k → operator_words (with_part (operator_at_word k) new words) i ≡ operator_words words i
  unfolding operator_words
  operator-before i less = part-before (operator_at_word k) new words operator-fits (operator_at_word i) word_count (omega arith)

  pub operator-behind : (i : ℕ) → k < i → i < most_operators → operator_words (with_part (operator_at_word k) new words) i ≡ operator_words words i
  unfolding operator_words
  operator-behind i more less = part-behind (operator_at_word k) new words operator-fits (operator_at_word i) word_count (omega arith) (omega (arith, operator-within i less))
