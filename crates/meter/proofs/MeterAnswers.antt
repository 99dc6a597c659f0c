-- What a meter answers, from what its parts answer: the room that it finds, and what it answers to an input and leaves in its words.
use Rattle.std.proofs.Common.{◌≡◌, ℕ, ◌+◌, ◌-◌, ◌<◌, ◌≤◌, true, false, Result, Ok, Err, not, ltb, List, ◌∷◌, sym, refl, ap, ◌∙◌, arith, le-ltb, lt-ltb}
use borrow.Author.Tests.{not-false}
use Rattle.quantity.specs.Choice.{either}
use Rattle.quantity.specs.Limits.{largest_amount, last_slot}
use Rattle.quantity.specs.Refusals.{Case, ◌⇒◌, first_of}
use Rattle.quantity.specs.declared.Units.{Units}
use Rattle.quantity.specs.declared.refusal.Refusal.{Refusal}
use Rattle.quantity.specs.declared.refusal.Refusal.TheVariants.{Unusable, InputBreaksDeclaration}
use Rattle.quantity.proofs.Laws.{pick_true, pick-false, picked-false, pick-map, either_first}
use Rattle.flow.specs.Declarations.{declaration_in_range, rows_in_order}
use Rattle.meter.specs.Meter.{meter_unusable, input_breaks, declaration_cases, room_of, meter_next, meter_of, meter_words_after}
use Rattle.meter.specs.Parts.{inputs_below, input_noted, awaited_of, counted_of, block_behind, uncounted_refusal}
use Rattle.meter.specs.declared.SourceMeter.{SourceMeter}
use Rattle.meter.specs.declared.parts.Awaited.{Awaited}
use Rattle.meter.specs.declared.parts.Uncounted.{Uncounted}
use Rattle.meter.proofs.UsableMeter.{usable-meter}
use Rattle.meter.proofs.PartsLaws.{within-breaks, room-below, noted-next, block-behind-next}

abbrev count_cases : SourceMeter → List ℕ → List Case
count_cases x words = (meter_unusable x words ⇒ Unusable) ∷ declaration_cases x.declaration

-- what a count that a test stands against leads to, and any other
abbrev counted_then : {A : Type 0} → (Refusal → A) → A → Result Awaited Uncounted → A
counted_then refused rest (Ok awaited) = rest
counted_then refused rest (Err why) = refused (uncounted_refusal why)

-- what is known of a meter that answered its count
pub record Counting (x : SourceMeter) (words : List ℕ) (awaited : Awaited) : Type 0 where
  pub tested : meter_unusable x words ≡ false
  pub in_range : declaration_in_range x.declaration ≡ true
  pub in_order : rows_in_order x.declaration ≡ true
  pub same : awaited ≡ awaited_of x words
  pub least : awaited.below.0 ≡ inputs_below x words

module _ (x : SourceMeter) (words : List ℕ) where
  after-count : {A : Type 0} (refused : Refusal → A) (rest : A) {answer : Result Awaited Uncounted} → answer ≡ counted_of x words → counted_then refused rest answer ≡ first_of (count_cases x words) refused rest
  unfolding counted_of
  after-count refused rest answered =
      let then = counted_then refused rest in
      ap then answered
      ∙ pick-map then (meter_unusable x words) (Err Uncounted.Unusable) _
      (pick-map then (not (declaration_in_range x.declaration)) (Err Uncounted.OutOfRange) _
      (pick-map then (not (rows_in_order x.declaration)) (Err Uncounted.OutOfOrder) (Ok (awaited_of x words)) refl))

  counting : {awaited : Awaited} → Ok awaited ≡ counted_of x words → Counting x words awaited
  unfolding counted_of awaited_of
  counting {awaited} answered =
      let tested = picked-false (meter_unusable x words) _ _ answered (λ e. cc) in
      let rest = answered ∙ pick-false _ _ _ tested in
      let inside = picked-false (not (declaration_in_range x.declaration)) _ _ rest (λ e. cc) in
      let rest = rest ∙ pick-false _ _ _ inside in
      let rising = picked-false (not (rows_in_order x.declaration)) _ _ rest (λ e. cc) in
      let same : awaited ≡ awaited_of x words = cc (rest ∙ pick-false _ _ _ rising) in
      record {
        tested = tested;
        in_range = not-false (declaration_in_range x.declaration) inside;
        in_order = not-false (rows_in_order x.declaration) rising;
        same = same;
        least = ap (λ (a : Awaited). a.below.0) same;
      }

  -- past the first three tests, the fourth decides
  passed-count : {A : Type 0} (refused : Refusal → A) (rest : A) {awaited : Awaited} → Counting x words awaited → first_of (count_cases x words) refused rest ≡ rest
  passed-count refused rest known = pick-false _ _ _ known.tested ∙ pick-false _ _ _ (ap not known.in_range) ∙ pick-false _ _ _ (ap not known.in_order)

  -- the fourth, of an input and what it has to be below
  breaks-of : (input : ℕ) {awaited : Awaited} → Counting x words awaited → not (ltb input awaited.below.0) ≡ input_breaks x words input
  breaks-of input known = ap (λ (n : ℕ). not (ltb input n)) known.least ∙ within-breaks x words input known.in_range

  -- the room
  pub room-refused : (why : Uncounted) → Err why ≡ counted_of x words → Err (uncounted_refusal why) ≡ room_of x words
  unfolding room_of
  room-refused why answered = after-count Err _ answered

  module _ {awaited : Awaited} (answered : Ok awaited ≡ counted_of x words) where
    pub room-none : awaited.below.0 ≡ 0 → Err InputBreaksDeclaration ≡ room_of x words
    unfolding room_of
    room-none none =
        let known = counting answered in
        let breaks = sym (breaks-of 0 known) ∙ ap not (le-ltb 0 awaited.below.0 (omega arith)) in
        sym (passed-count Err _ known ∙ pick_true _ _ _ breaks)

    pub room-some : (awaited.below.0 ≡ 0 → ⊥) → Ok record { 0 = awaited.below.0 - 1 } ≡ room_of x words
    unfolding room_of
    room-some some =
        let known = counting answered in
        let keeps = sym (breaks-of 0 known) ∙ ap not (lt-ltb 0 awaited.below.0 (omega arith)) in
        ap (λ (n : ℕ). Ok record { 0 = n }) (ap (λ (n : ℕ). n - 1) known.least ∙ sym (room-below x words))
        ∙ sym (passed-count Err _ known ∙ pick-false _ _ _ keeps)

module _ (x : SourceMeter) (words : List ℕ) (input : ℕ) where
  -- what is answered to an input, with the words after it
  abbrev pub Answers : Result SourceMeter Refusal → List ℕ → Type 0
  Answers answer after = (answer ≡ meter_of x words input) × (after ≡ meter_words_after x words input)

  pub take-above : largest_amount < input → Answers (Err Unusable) words
  unfolding meter_of meter_words_after
  take-above above =
      let test = either_first (ltb largest_amount input) (meter_unusable x words) (lt-ltb largest_amount input above) in
      (sym (pick_true _ _ _ test), sym (pick_true _ _ _ test))

  module _ (small : input ≤ largest_amount) where
    first-test : either (ltb largest_amount input) (meter_unusable x words) ≡ meter_unusable x words
    first-test = rw (le-ltb largest_amount input small)

    -- a test of the count stands
    pub take-refused : (why : Uncounted) → Err why ≡ counted_of x words → Answers (Err (uncounted_refusal why)) words
    unfolding meter_of meter_words_after
    take-refused why answered = rw first-test (after-count x words Err _ answered, after-count x words (λ why. words) _ answered)

    module _ {awaited : Awaited} (answered : Ok awaited ≡ counted_of x words) where
      -- the slot's number is within the last
      pub slot-left : x.slot.0 ≤ last_slot
      slot-left = (usable-meter x words (counting x words answered).tested).slot_left

      pub take-breaks : awaited.below.0 ≤ input → Answers (Err InputBreaksDeclaration) words
      unfolding meter_of meter_words_after
      take-breaks above =
          let known = counting x words answered in
          let breaks = sym (breaks-of x words input known) ∙ ap not (le-ltb input awaited.below.0 above) in
          rw first-test (sym (passed-count x words Err _ known ∙ pick_true _ _ _ breaks), sym (passed-count x words (λ why. words) _ known ∙ pick_true _ _ _ breaks))

      pub take-noted : input < awaited.below.0 → {block : Units} → block ≡ block_behind awaited (record { 0 = input }) → {after : List ℕ} → after ≡ input_noted awaited.at words input
          → Answers (Ok (record x { slot = record { 0 = x.slot.0 + 1 }; block = block })) after
      unfolding meter_of meter_words_after meter_next awaited_of
      take-noted within {block} noted {after} written =
          let known = counting x words answered in
          let keeps = sym (breaks-of x words input known) ∙ ap not (lt-ltb input awaited.below.0 within) in
          let block-next = noted ∙ ap (λ (a : Awaited). block_behind a (record { 0 = input })) known.same ∙ block-behind-next x words input known.tested known.in_range small in
          let words-next = written ∙ ap (λ (a : Awaited). input_noted a.at words input) known.same ∙ noted-next x words input known.tested known.in_range in
          rw first-test (
            ap (λ (block : Units). Ok (record x { slot = record { 0 = x.slot.0 + 1 }; block = block })) block-next ∙ sym (passed-count x words Err _ known ∙ pick-false _ _ _ keeps),
            words-next ∙ sym (passed-count x words (λ why. words) _ known ∙ pick-false _ _ _ keeps),
          )
