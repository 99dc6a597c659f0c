-- Where run and words are joined to the account and to what arrived, each word is section 6's, with a delayer's ring: the meter is sound for what entered, and an operator's words stand for what arrived.
use mathlib.Core.Path.{◌≡◌, refl, ap, sym, ◌∙◌}
use mathlib.Core.Bool.{Bool, true, false}
use mathlib.Core.List.{List}
use mathlib.Core.Logic.{⊎_elim}
use Prim.Native.Nat.{ℕ, ◌+◌, ◌-◌, ◌/◌, ◌%◌, ◌≤◌, ◌<◌}
use native.Mathlib.Nat.{mod-lt, div-add-mod', div-lt_iff_lt-mul, lt_of_not-le, zero-add}
use native.Mathlib.Decide.{dec_le}
use native.Mathlib.Omega.{arith}
use lib.ListN.{length}
use lib.Dec.{ltb}
use borrow.Author.Tests.{lt-ltb, le-ltb, ltb-true, ltb-false}
use Rattle.quantity.specs.Limits.{most_operators}
use Rattle.quantity.specs.Choice.{pick}
use Rattle.flow.specs.Flows.{flow_of}
use Rattle.operator.specs.Single.{word_count, words_used}
use Rattle.operator.proofs.PathStands.{field-or-ring}
use Rattle.words.specs.Stored.{word_at}
use Rattle.meter.specs.Meter.{meter_word_count}
use Rattle.meter.specs.Words.{word_taken}
use Rattle.meter.proofs.Metering.{sound-word}
use Rattle.sheet.specs.Paths.{Path}
use Rattle.figures.specs.Answers.{operator_at}
use Rattle.run.specs.declared.Run.{Run}
use Rattle.run.specs.Account.{Account}
use Rattle.run.specs.Runs.{run_word_count, meter_words, operator_at_word, operator_words, meter_in, operator_in}
use Rattle.run.specs.Words.{latest_total, ring_word, run_word}
use Rattle.run.proofs.Parts.{part_at, operator-word}
use Rattle.run.proofs.Joined.{Joined, meter_fed}

module _ (path : Path) (run : Run) (words : List ℕ) (account : Account) (arrived : ℕ → List ℕ) (joined : Joined path run words account arrived)
    (counted : (k : ℕ) → length (arrived k) ≡ account.slot) where
  -- a word of the meter
  meter-word : (j : ℕ) → j < meter_word_count → word_at words j ≡ word_taken path.declaration account.entered j
  unfolding meter_in meter_words
  meter-word j less =
      let size = joined.sized in
      rw zero-add at (sym (part_at 0 meter_word_count words (omega arith) j less)) ∙ rw joined.declared at (sound-word (meter_fed run words account.entered) joined.meter j less)

  -- word a of an operator of the path: of a delayer's ring the total of the latest slot that wrote it, and 0 where the operator does not use it
  unused-word : (k a : ℕ) → k < length path.operators → words_used (operator_at path k) ≤ a → word_at (operator_words words k) a ≡ 0
  unfolding operator_in words_used
  unused-word k a less above =
      let stands = joined.stands k less in
      let named = joined.operator k less in
      ⊎_elim
      (λ apart. (stands.fields (rw named apart)).clear a)
      (λ (d, delays). (stands.ring d (named ∙ delays)).unused a (rw delays at above))
      (field-or-ring (operator_at path k))

  used-word : (k a : ℕ) → k < length path.operators
      → word_at (operator_words words k) a ≡ pick (ltb a (words_used (operator_at path k))) (latest_total (words_used (operator_at path k)) (flow_of (arrived k)) (length (arrived k)) a) 0
  used-word k a less = rw (counted k) (by-use (ltb a (words_used (operator_at path k))) refl)
    where
      by-use : (used : Bool) → ltb a (words_used (operator_at path k)) ≡ used
          → word_at (operator_words words k) a ≡ pick used (latest_total (words_used (operator_at path k)) (flow_of (arrived k)) account.slot a) 0
      by-use true e = joined.latest k less a (ltb-true a (words_used (operator_at path k)) e)
      by-use false e = unused-word k a less (ltb-false a (words_used (operator_at path k)) e)

  ring-word : (k a : ℕ) → k < most_operators → word_at (operator_words words k) a ≡ ring_word path arrived k a
  unfolding ring_word
  ring-word k a less =
      elim (dec_le (length path.operators) k) [
        | yes behind ↦ rw (le-ltb k (length path.operators) behind) (joined.clear k behind less a)
        | no inside ↦ rw (lt-ltb k (length path.operators) (lt_of_not-le inside)) (used-word k a (lt_of_not-le inside))
      ]

  -- a word behind the meter's is one of an operator's
  operator-word-at : (j : ℕ) → meter_word_count ≤ j → j < run_word_count
      → word_at words j ≡ ring_word path arrived ((j - meter_word_count) / word_count) ((j - meter_word_count) % word_count)
  operator-word-at j behind less =
      let k = (j - meter_word_count) / word_count in
      let a = (j - meter_word_count) % word_count in
      let among : k < most_operators = (div-lt_iff_lt-mul {k = word_count} {x = j - meter_word_count} {y = most_operators} (omega arith)).1 (omega arith) in
      let young : a < word_count = mod-lt (j - meter_word_count) (omega arith) in
      let place : operator_at_word k + a ≡ j = omega (arith, div-add-mod' (j - meter_word_count) word_count) in
      ap (word_at words) (sym place) ∙ sym (operator-word words joined.sized k among a young) ∙ ring-word k a among

  pub joined_word : (j : ℕ) → j < run_word_count → word_at words j ≡ run_word path account arrived j
  unfolding run_word
  joined_word j less =
      elim (dec_le meter_word_count j) [
        | yes behind ↦ rw (le-ltb j meter_word_count behind) (operator-word-at j behind less)
        | no inside ↦ rw (lt-ltb j meter_word_count (lt_of_not-le inside)) (meter-word j (lt_of_not-le inside))
      ]
