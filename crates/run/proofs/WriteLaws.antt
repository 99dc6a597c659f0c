-- Writing operator by operator: before stage k the words of the meter and of the stages before it are written, and every other is as it was. Behind the last stage that is what a slot writes.
use mathlib.Core.Path.{◌≡◌, refl, ap, sym, ◌∙◌}
use mathlib.Core.Bool.{Bool, true, false}
use mathlib.Core.List.{List, ◌++◌}
use mathlib.Core.Logic.{◌⊎◌, inl, inr}
use Prim.Native.Nat.{ℕ, zero, suc, ◌+◌, ◌-◌, ◌/◌, ◌%◌, ◌≤◌, ◌<◌}
use native.Mathlib.Numerals.{add-one}
use native.Mathlib.Nat.{zero-add, div-add-mod', mod-lt}
use native.Mathlib.Omega.{arith}
use lib.Dec.{ltb}
use lib.ListN.{length, get_or, take, drop}
use borrow.Author.Tests.{ltb-true, ltb-false}
use Rattle.std.specs.Prelude.{Option, Some, None}
use Rattle.std.proofs.lemmas.List.{take-append-drop}
use Rattle.quantity.specs.Limits.{most_operators}
use Rattle.quantity.specs.Choice.{pick}
use Rattle.quantity.specs.Sums.{list_of}
use Rattle.quantity.specs.declared.Units.{Units}
use Rattle.quantity.proofs.Sums.{list_of-ext}
use Rattle.words.specs.Stored.{word_at, word_noted}
use Rattle.operator.specs.Single.{word_count}
use Rattle.operator.specs.Ring.{ring_noted}
use Rattle.words.proofs.StoredLaws.{length-noted}
use Rattle.meter.specs.Meter.{meter_word_count}
use Rattle.meter.specs.Parts.{input_place, input_noted, awaited_of, block_behind}
use Rattle.meter.specs.declared.parts.Awaited.{Awaited}
use Rattle.operator.specs.declared.ring.PathOperator.{PathOperator}
use Rattle.sheet.specs.Bodies.{part}
use Rattle.run.specs.declared.Run.{Run}
use Rattle.run.specs.Runs.{run_word_count, meter_words, operator_at_word, operator_words, no_stage, stage_at, meter_in, operator_of, operator_in}
use Rattle.run.specs.Steps.{awaited_in, block_written, meter_noted, with_part, totals_written, stage_word, word_written}
use Rattle.run.proofs.UpTo.{UpTo, up-to-none, up-to-here, up-to-next}
use Rattle.run.proofs.Parts.{length_part, part_at, length-operator_words, operator-word}
use Rattle.run.proofs.WithPart.{put_back, meter-sized, meter-replaced, meter-beside, operator-sized, operator-replaced, meter-before, operator-before, operator-behind}

-- Whether written or not, as many words are left as were lent.

length-ring : (x : PathOperator) (words : List ℕ) → length words ≡ word_count → length (ring_noted x words) ≡ word_count
length-ring x words size = length-noted words _ _ ∙ size

length-meter_words : (words : List ℕ) → length words ≡ run_word_count → length (meter_words words) ≡ meter_word_count
unfolding meter_words
length-meter_words words sized = length_part 0 meter_word_count words (omega arith)

meter-word : (words : List ℕ) → length words ≡ run_word_count → (j : ℕ) → j < meter_word_count → word_at (meter_words words) j ≡ word_at words j
unfolding meter_words
meter-word words sized j less = part_at 0 meter_word_count words (omega arith) j less ∙ ap (word_at words) (zero-add j)

-- The meter.

input-sized : (at : Option ℕ) (input : ℕ) (words : List ℕ) → length (input_noted at words input) ≡ length words
input-sized None input words = refl
input-sized (Some at) input words = length-noted words at input

module _ (at : Option ℕ) (input : ℕ) (words : List ℕ) (sized : length words ≡ run_word_count) where
  abbrev noted : List ℕ
  noted = input_noted at (meter_words words) input

  noted-sized : length noted ≡ meter_word_count
  noted-sized = input-sized at input (meter_words words) ∙ length-meter_words words sized

  pub meter-written : {new : List ℕ} → new ≡ noted → take 0 words ++ (new ++ drop meter_word_count (drop 0 words)) ≡ with_part 0 noted words
  meter-written left = rw left (put_back 0 meter_word_count noted words noted-sized)

  pub metered-size : {after : List ℕ} → after ≡ with_part 0 noted words → length after ≡ run_word_count
  metered-size same = rw same (meter-sized words noted sized noted-sized)

-- the meter's words as they were are all words as they were
pub meter-unwritten : (words : List ℕ) → length words ≡ run_word_count → words ≡ with_part 0 (meter_words words) words
unfolding meter_words part
meter-unwritten words sized =
    sym (take-append-drop 0 words)
    ∙ ap (λ (rest : List ℕ). take 0 words ++ rest) (sym (take-append-drop meter_word_count (drop 0 words)))
    ∙ put_back 0 meter_word_count (meter_words words) words (length-meter_words words sized)

-- what is known of the input of a run has its place
pub metered-same : (run : Run) (words : List ℕ) (input : Units) {awaited : Awaited} → awaited ≡ awaited_in run words → {block : Units} → block ≡ block_behind awaited input
    → {after : List ℕ} → after ≡ with_part 0 (input_noted awaited.at (meter_words words) input.0) words
    → (block ≡ block_written run words input.0) × (after ≡ with_part 0 (meter_noted run words input.0) words)
unfolding block_written awaited_in awaited_of
metered-same run words input known blocks noted =
    (blocks ∙ ap (λ (a : Awaited). block_behind a input) known, noted ∙ ap (λ (a : Awaited). with_part 0 (input_noted a.at (meter_words words) input.0) words) known)

-- A stage.

module _ (at total : ℕ) (words : List ℕ) (k : ℕ) where
  abbrev lent : ℕ
  lent = operator_at_word k + word_count - operator_at_word k

  abbrev with_total : List ℕ
  with_total = word_noted (operator_words words k) at total

  pub total-written : length words ≡ run_word_count → k < most_operators → {new : List ℕ} → new ≡ word_noted (take lent (drop (operator_at_word k) words)) at total
      → take (operator_at_word k) words ++ (new ++ drop lent (drop (operator_at_word k) words)) ≡ with_part (operator_at_word k) with_total words
  unfolding operator_words part
  total-written sized less left =
      let wide : lent ≡ word_count = omega arith in
      let sizes = length-noted (operator_words words k) at total ∙ length-operator_words words sized k less in
      rw (left, wide) (put_back (operator_at_word k) word_count with_total words sizes)

-- what a stage's words are once written, over the words behind the meter's
abbrev words_done : Run → List ℕ → ℕ → List ℕ
words_done run words i = ring_noted (operator_in run i) (operator_words words i)

-- before stage k, where `words` are those with the meter's written
pub record Written (run : Run) (words : List ℕ) (k : ℕ) (after : List ℕ) : Type 0 where
  pub sized : length after ≡ run_word_count
  pub meter : meter_words after ≡ meter_words words
  pub operator : UpTo most_operators (words_done run words) (operator_words words) k (operator_words after)

pub written_start : (run : Run) (words : List ℕ) → length words ≡ run_word_count → Written run words 0 words
written_start run words sized =
    record {
      sized = sized;
      meter = refl;
      operator = up-to-none most_operators (words_done run words) (operator_words words) (operator_words words) (λ i less. refl);
    }

module _ {run : Run} {words : List ℕ} {k : ℕ} {after : List ℕ} (written : Written run words k after) (less : k < most_operators) where
  words-here : operator_words after k ≡ operator_words words k
  words-here = up-to-here most_operators (words_done run words) (operator_words words) k (operator_words after) written.operator less

  abbrev new : List ℕ
  new = ring_noted (operator_in run k) (operator_words after k)

  new-size : length new ≡ word_count
  new-size = length-ring (operator_in run k) (operator_words after k) (length-operator_words after written.sized k less)

  abbrev renewed : List ℕ
  renewed = with_part (operator_at_word k) new after

  words-beside : (i : ℕ) → i < most_operators → (i < k) ⊎ (k < i) → operator_words renewed i ≡ operator_words after i
  words-beside i inside (inl under) = operator-before after new written.sized new-size k less i under
  words-beside i inside (inr over) = operator-behind after new written.sized new-size k less i over inside

  pub written_next : {later : List ℕ} → later ≡ with_part (operator_at_word k) (ring_noted (operator_of (get_or run.stages k no_stage) run.slot) (operator_words after k)) after
      → Written run words (k + 1) later
  unfolding operator_in stage_at
  written_next same =
      rw same
      (record {
        sized = operator-sized after new written.sized new-size k less;
        meter = meter-before after new written.sized new-size k less ∙ written.meter;
        operator =
            up-to-next most_operators (words_done run words) (operator_words words) k (operator_words after) (operator_words renewed) written.operator
            (operator-replaced after new written.sized new-size k less ∙ rw words-here) words-beside;
      })

-- the first k stages, where each has its place
module _ (run : Run) (words : List ℕ) (sized : length words ≡ run_word_count) (places : List ℕ) where
  abbrev Placed : ℕ → Type 0
  Placed k = (ws : List ℕ) → word_noted ws (get_or places k 0) (get_or run.stages k no_stage).entered ≡ ring_noted (operator_of (get_or run.stages k no_stage) run.slot) ws

  pub all-written : (k : ℕ) → k ≤ most_operators → ((i : ℕ) → i < k → Placed i) → Written run words k (totals_written places run.stages k words)
  unfolding totals_written
  all-written zero few placed = written_start run words sized
  all-written (suc k) few placed =
      let so-far = totals_written places run.stages k words in
      let before = all-written k (omega arith) (λ i less. placed i (omega arith)) in
      let next = written_next before (omega arith) (ap (λ (ws : List ℕ). with_part (operator_at_word k) ws so-far) (placed k (omega arith) (operator_words so-far k))) in
      rw add-one at next

-- Behind the last stage.

module _ (run : Run) (first : List ℕ) (input : ℕ) (sized : length first ≡ run_word_count)
    {metered : List ℕ} (after-meter : metered ≡ with_part 0 (meter_noted run first input) first) {k : ℕ} (ends : k ≡ run.count)
    {after : List ℕ} (before-k : Written run metered k after) where
  written : Written run metered run.count after
  written = rw ends at before-k

  noted-size : length (meter_noted run first input) ≡ meter_word_count
  noted-size = noted-sized (input_place (meter_in run)) input first sized

  same-operator : (i : ℕ) → i < most_operators → operator_words metered i ≡ operator_words first i
  same-operator i less = rw after-meter (meter-beside first (meter_noted run first input) sized noted-size i less)

  same-meter : meter_words metered ≡ meter_noted run first input
  same-meter = rw after-meter (meter-replaced first (meter_noted run first input) sized noted-size)

  pick_word : (t : Bool) (a b : List ℕ) (j : ℕ) → word_at (pick t a b) j ≡ pick t (word_at a j) (word_at b j)
  pick_word true a b j = refl
  pick_word false a b j = refl

  operator-end : (i a : ℕ) → i < most_operators → a < word_count → word_at after (operator_at_word i + a) ≡ stage_word run first i a
  unfolding stage_word
  operator-end i a less inside =
      sym (operator-word after written.sized i less a inside)
      ∙ ap (λ (xs : List ℕ). word_at xs a) (written.operator i less)
      ∙ pick_word (ltb i run.count) _ _ a
      ∙ rw (same-operator i less)

  meter-end : (j : ℕ) → j < meter_word_count → word_at after j ≡ word_at (meter_noted run first input) j
  meter-end j less =
      sym (meter-word after written.sized j less) ∙ ap (λ (xs : List ℕ). word_at xs j) (written.meter ∙ same-meter)

  word_end : (j : ℕ) → j < run_word_count → word_at after j ≡ word_written run first input j
  unfolding word_written
  word_end j less = by_part (ltb j meter_word_count) refl
    where
      by_part : (t : Bool) → ltb j meter_word_count ≡ t
          → word_at after j ≡ pick t (word_at (meter_noted run first input) j) (stage_word run first ((j - meter_word_count) / word_count) ((j - meter_word_count) % word_count))
      by_part true e = meter-end j (ltb-true j meter_word_count e)
      by_part false e =
          let behind = ltb-false j meter_word_count e in
          let i = (j - meter_word_count) / word_count in
          let a = (j - meter_word_count) % word_count in
          let whole = div-add-mod' (j - meter_word_count) word_count in
          let inside : a < word_count = mod-lt (j - meter_word_count) {m = word_count} (omega arith) in
          let linked : j ≡ operator_at_word i + a = omega arith in
          ap (word_at after) linked ∙ operator-end i a (omega arith) inside

  -- and its words
  pub words-end : after ≡ list_of (word_written run first input) run_word_count
  words-end = list_of-ext 0 (word_written run first input) run_word_count after written.sized word_end
