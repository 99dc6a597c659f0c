-- A meter's input in its parts: what each answers, from its tests in plain facts, and what it answers where the meter can be used.
use Rattle.std.proofs.Common.{◌≡◌, ℕ, suc, ◌+◌, ◌-◌, ◌%◌, ◌<◌, ◌≤◌, Bool, true, false, Some, None, Ok, Err, not, eqb, ltb, leb, List, length, set, sym, refl, ap, ◌∙◌, mod-lt, arith, length-set, get_or-set_other, get_or-set_same, lt-ltb, eqb-true}
use native.Mathlib.Nat.{le_dest}
use borrow.Author.Tests.{eqb-false}
use Rattle.quantity.specs.Choice.{pick}
use Rattle.quantity.specs.Limits.{largest_amount, largest64}
use Rattle.quantity.specs.Sums.{every, list_of}
use Rattle.quantity.proofs.Laws.{pick_true}
use Rattle.quantity.proofs.Quantities.{units-sum}
use Rattle.quantity.proofs.Sums.{every-same, list_of-ext}
use Rattle.flow.specs.Declarations.{row_count, row_at, declaration_in_range, rows_in_order}
use Rattle.words.specs.Stored.{word_at, word_noted}
use Rattle.meter.specs.Meter.{meter_word_count, uses_block, ring_length, meter_unusable, block_before, counted_before, input_breaks, room_in, least_below, block_next, meter_word_next}
use Rattle.meter.specs.Parts.{inputs_below, input_place, input_noted, awaited_of, counted_of, block_behind}
use Rattle.meter.specs.declared.SourceMeter.{SourceMeter}
use Rattle.meter.specs.declared.parts.Uncounted.{Uncounted}
use Rattle.flow.proofs.Declarations.{one-count, one_at}
use Rattle.words.proofs.StoredLaws.{stored-le}
use Rattle.meter.specs.Counting.{least_from}
use Rattle.meter.proofs.Least.{least-from-last, least-less-one, below-least, within-below}
use Rattle.meter.proofs.UsableMeter.{UsableMeter, Ranged, usable-meter, declaration-ranged, smooth-one, counted-block, ring-large, ring-fits, block-before-le}

-- What the count answers.

module _ (x : SourceMeter) (words : List ℕ) where
  pub counted-unusable : meter_unusable x words ≡ true → Err Uncounted.Unusable ≡ counted_of x words
  unfolding counted_of
  counted-unusable unusable = rw unusable

  module _ (usable : meter_unusable x words ≡ false) where
    pub counted-outside : declaration_in_range x.declaration ≡ false → Err Uncounted.OutOfRange ≡ counted_of x words
    unfolding counted_of
    counted-outside outside = rw (usable, outside)

    module _ (ranged : declaration_in_range x.declaration ≡ true) where
      pub counted-unordered : rows_in_order x.declaration ≡ false → Err Uncounted.OutOfOrder ≡ counted_of x words
      unfolding counted_of
      counted-unordered unordered = rw (usable, ranged, unordered)

      pub counted_next : rows_in_order x.declaration ≡ true → counted_of x words ≡ Ok (awaited_of x words)
      unfolding counted_of
      counted_next ordered = rw (usable, ranged, ordered)

-- What an input has to be below.

module _ (x : SourceMeter) (words : List ℕ) where
  -- what a row leaves
  abbrev pub leaves : ℕ → ℕ
  leaves i = (row_at x.declaration i).quota + 1 - counted_before x words i

  -- by the block
  pub below-block : uses_block x.declaration.kind ≡ true → x.declaration.quota.0 + 1 - block_before x ≡ inputs_below x words
  unfolding inputs_below least_below
  below-block smooth =
      let one = smooth-one x.declaration.kind smooth in
      rw (one-count x.declaration one, one_at x.declaration one 0, counted-block x words smooth 0)

  module _ (some : 1 ≤ row_count x.declaration) where
    -- found from the last row on
    pub below-from-last : least_from (leaves (row_count x.declaration - 1)) leaves (row_count x.declaration - 1) ≡ inputs_below x words
    unfolding inputs_below
    below-from-last =
        let whole : suc (row_count x.declaration - 1) ≡ row_count x.declaration = omega arith in
        least-from-last leaves (row_count x.declaration - 1) ∙ ap (least_below leaves) whole

    below-keeps : (input : ℕ) → ltb input (inputs_below x words) ≡ every (λ i. leb (counted_before x words i + input) (row_at x.declaration i).quota) (row_count x.declaration)
    unfolding inputs_below
    below-keeps input =
        let (n, e) = le_dest some in
        let whole : row_count x.declaration ≡ suc n = omega arith in
        rw whole
        (below-least input leaves n
        ∙ every-same _ _ (suc n) (λ i less. sym (within-below (counted_before x words i) input (row_at x.declaration i).quota)))

  -- an input that is not below it breaks the declaration
  pub within-breaks : (input : ℕ) → declaration_in_range x.declaration ≡ true → not (ltb input (inputs_below x words)) ≡ input_breaks x words input
  unfolding input_breaks
  within-breaks input ranged = ap not (below-keeps (declaration-ranged x.declaration ranged).some input)

  -- the most that it may be is 1 less
  pub room-below : room_in x words ≡ inputs_below x words - 1
  unfolding room_in inputs_below
  room-below = least-less-one leaves _ (λ i. omega arith) (row_count x.declaration)

-- What is known of an input.

module _ (x : SourceMeter) (words : List ℕ) {below : ℕ} (least : below ≡ inputs_below x words) where
  -- with a block
  pub awaited-block : uses_block x.declaration.kind ≡ true → {block : ℕ} → block ≡ block_before x
      → record { below = record { 0 = below }; block = record { 0 = block }; at = None } ≡ awaited_of x words
  unfolding awaited_of input_place
  awaited-block smooth so_far = rw (smooth, least, so_far)

  -- with a ring
  pub awaited-ring : uses_block x.declaration.kind ≡ false → {at : ℕ} → at ≡ x.slot.0 % ring_length x.declaration
      → record { below = record { 0 = below }; block = record { 0 = 0 }; at = Some at } ≡ awaited_of x words
  unfolding awaited_of input_place
  awaited-ring ring place = rw (ring, least, place)

-- What is written where the meter can be used.

module _ (x : SourceMeter) (words : List ℕ) (input : ℕ) (usable : meter_unusable x words ≡ false) (in-range : declaration_in_range x.declaration ≡ true) where
  stored : UsableMeter x words
  stored = usable-meter x words usable

  ranged : Ranged x.declaration
  ranged = declaration-ranged x.declaration in-range

  abbrev place : ℕ
  place = x.slot.0 % ring_length x.declaration

  place-within : uses_block x.declaration.kind ≡ false → place < meter_word_count
  place-within ring = omega (arith, mod-lt x.slot.0 (ring-large x.declaration ring ranged), ring-fits x.declaration ring ranged)

  word_set : place < length words → (j : ℕ) (test : Bool) → eqb j place ≡ test → word_at (set words place input) j ≡ pick test input (word_at words j)
  word_set inside j true e = rw (eqb-true j _ e) (get_or-set_same words place input 0 inside)
  word_set inside j false e = get_or-set_other words place j input 0 (eqb-false j _ e)

  -- with a block the words stay, and with a ring the input replaces the word of its slot
  pub noted-next : input_noted (input_place x) words input ≡ list_of (meter_word_next x words input) meter_word_count
  unfolding word_noted input_place meter_word_next
  noted-next = by-kind (uses_block x.declaration.kind) refl
    where
      by-kind : (smooth : Bool) → uses_block x.declaration.kind ≡ smooth → input_noted (input_place x) words input ≡ list_of (meter_word_next x words input) meter_word_count
      by-kind true smooth =
          rw smooth (list_of-ext 0 (meter_word_next x words input) meter_word_count words stored.sized (λ j less. rw smooth))
      by-kind false ring =
          let inside : place < length words = omega (arith, place-within ring, stored.sized) in
          rw ring
          (pick_true _ _ _ (lt-ltb place (length words) inside)
          ∙ list_of-ext 0 (meter_word_next x words input) meter_word_count (set words place input) (length-set words place input ∙ stored.sized) (λ j less. rw ring (word_set inside j (eqb j place) refl)))

  -- and the block's total is the next one's
  pub block-behind-next : input ≤ largest_amount → block_behind (awaited_of x words) (record { 0 = input }) ≡ record { 0 = block_next x input }
  unfolding block_behind awaited_of input_place block_next
  block-behind-next small = by-kind (uses_block x.declaration.kind) refl
    where
      by-kind : (smooth : Bool) → uses_block x.declaration.kind ≡ smooth → block_behind (awaited_of x words) (record { 0 = input }) ≡ record { 0 = block_next x input }
      by-kind true smooth =
          let fits : block_before x + input ≤ largest64 = omega (arith, block-before-le x, stored-le (uses_block x.declaration.kind) x.block.0 stored.block_fits, small) in
          rw smooth (ap (λ (n : ℕ). record { 0 = n }) (units-sum (record { 0 = block_before x }) (record { 0 = input }) fits))
      by-kind false ring = rw ring
