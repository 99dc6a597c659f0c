-- A meter that can be used, and a declaration in range and in order, in plain facts; the ring that its last row makes; and the units that count with an input from the sum of all words.
use Rattle.std.proofs.Common.{◌≡◌, ℕ, zero, suc, ◌+◌, ◌-◌, ◌%◌, ◌<◌, ◌≤◌, Bool, true, false, not, eqb, ltb, leb, List, length, sym, refl, ap, ◌∙◌, ap₂, true≢false, le_refl, add-zero, add-suc, mod-lt, arith, ltb-false, ltb-true, le-ltb, lt-ltb, eq-eqb, ne_eqb, eqb-true, le-leb}
use native.Mathlib.Nat.{le_dest}
use borrow.Author.Tests.{not-false, lt-leb}
use Rattle.quantity.specs.Choice.{pick}
use Rattle.quantity.specs.Limits.{largest_amount, last_slot}
use Rattle.quantity.specs.Ranges.{in_range, interval_range, quota_range}
use Rattle.quantity.specs.Sums.{total, every}
use Rattle.quantity.proofs.Laws.{least-le, le-largest, either-false, either-none, either_first, either_second, pick_true, pick-false}
use Rattle.quantity.proofs.Sums.{both_true, every-at}
use Rattle.flow.specs.Rows.{Row}
use Rattle.flow.specs.Declarations.{by_kind, has_rows, most_rows, several_range, row_count, row_at, last_row, row_in_range, declaration_in_range, rises, rows_in_order, rows_clear_from, unused_clear}
use Rattle.words.specs.Stored.{word_at, clear_at, stored_fits, word_fits}
use Rattle.meter.specs.Meter.{meter_word_count, uses_block, ring_length, meter_unusable, block_before, word_before, counted_before}
use Rattle.flow.specs.declared.Kind.{Kind}
use Rattle.flow.specs.declared.Declaration.{Declaration}
use Rattle.meter.specs.declared.SourceMeter.{SourceMeter}
use Rattle.flow.proofs.Declarations.{rows-count, rows-range, one-count, one_at, one_last, one-unused}
use Rattle.words.proofs.StoredLaws.{total-used, either-last}
use Rattle.words.proofs.ScanLaws.{unused-fits}
use Rattle.meter.proofs.RingLaws.{age-total, ring-last}

-- one to four rows, each with its interval and quota in range
pub record Ranged (declared : Declaration) : Type 0 where
  pub some : 1 ≤ row_count declared
  pub few : row_count declared ≤ most_rows
  pub large : (i : ℕ) → i < row_count declared → 1 ≤ (row_at declared i).interval
  pub fits : (i : ℕ) → i < row_count declared → (row_at declared i).interval ≤ meter_word_count
  pub small : (i : ℕ) → i < row_count declared → (row_at declared i).quota ≤ largest_amount

module _ (declared : Declaration) (inside : declaration_in_range declared ≡ true) where
  count-ranged : (several : Bool) → has_rows declared.kind ≡ several → (1 ≤ row_count declared) × (row_count declared ≤ most_rows)
  count-ranged true rows =
      let (count, each) = both_true (in_range several_range declared.count) _ (sym (rows-range declared rows) ∙ inside) in
      let same = rows-count declared rows in
      (omega (arith, least-le several_range declared.count count), omega (arith, le-largest several_range declared.count count))
  count-ranged false one = let same = one-count declared one in (omega arith, omega arith)

  row-ranged : (i : ℕ) → i < row_count declared → (in_range interval_range (row_at declared i).interval ≡ true) × (in_range quota_range (row_at declared i).quota ≡ true)
  unfolding declaration_in_range row_in_range
  row-ranged i less = both_true _ _ (every-at (λ i. row_in_range (row_at declared i)) (row_count declared) (both_true (by_kind declared.kind true true (in_range several_range declared.count)) _ inside).1 i less)

  pub declaration-ranged : Ranged declared
  declaration-ranged =
      let (some, few) = count-ranged (has_rows declared.kind) refl in
      record {
        some = some;
        few = few;
        large = λ i less. least-le interval_range (row_at declared i).interval (row-ranged i less).0;
        fits = λ i less. le-largest interval_range (row_at declared i).interval (row-ranged i less).0;
        small = λ i less. omega (arith, le-largest quota_range (row_at declared i).quota (row-ranged i less).1);
      }

-- from row to row the interval rises
module _ (declared : Declaration) (ordered : rows_in_order declared ≡ true) where
  pub interval-rises : (i : ℕ) → i + 1 < row_count declared → (row_at declared i).interval < (row_at declared (suc i)).interval
  unfolding rows_in_order rises
  interval-rises i less =
      ltb-true _ _ (both_true _ _ (every-at (λ i. rises (row_at declared i) (row_at declared (suc i))) (row_count declared - 1) ordered i (omega arith))).0

  intervals-rise : (i k : ℕ) → i + k < row_count declared → (row_at declared i).interval ≤ (row_at declared (i + k)).interval
  intervals-rise i zero less = rw add-zero (le_refl _)
  intervals-rise i (suc k) less = rw add-suc (omega (arith, intervals-rise i k (omega arith), interval-rises (i + k) (omega arith)))

  pub interval-le-last : (i : ℕ) → i < row_count declared → (row_at declared i).interval ≤ (last_row declared).interval
  unfolding last_row
  interval-le-last i less =
      let (k, e) = le_dest {n = i} {m = row_count declared - 1} (omega arith) in
      rw (← e) (intervals-rise i k (omega arith))

-- what a declaration's kind says of its rows
pub smooth-one : (kind : Kind) → uses_block kind ≡ true → has_rows kind ≡ false
unfolding uses_block
smooth-one Kind.Smooth e = refl
smooth-one Kind.Uniform e = absurd (true≢false (sym e))
smooth-one Kind.Rows e = absurd (true≢false (sym e))

pub several-ring : (kind : Kind) → has_rows kind ≡ true → uses_block kind ≡ false
unfolding uses_block
several-ring Kind.Smooth e = absurd (true≢false (sym e))
several-ring Kind.Uniform e = refl
several-ring Kind.Rows e = refl

-- so a block has a slot
pub block-interval : (declared : Declaration) → uses_block declared.kind ≡ true → Ranged declared → 1 ≤ declared.interval.0
block-interval declared smooth ranged =
    let row = one_at declared (smooth-one declared.kind smooth) 0 in
    omega (arith, ap (λ (row : Row). row.interval) row, ranged.large 0 ranged.some)

module _ (declared : Declaration) (clear : unused_clear declared ≡ true) where
  one_none : has_rows declared.kind ≡ false → declared.count ≡ 0
  one_none one = eqb-true declared.count 0 (both_true (eqb declared.count 0) (rows_clear_from 0 declared.rows) (sym (one-unused declared one) ∙ clear)).0

  -- a count is one of several rows
  pub rows-of-count : 1 ≤ declared.count → has_rows declared.kind ≡ true
  rows-of-count some = by-kind (has_rows declared.kind) refl
    where
      by-kind : (several : Bool) → has_rows declared.kind ≡ several → several ≡ true
      by-kind true rows = refl
      by-kind false one = absurd (omega (arith, one_none one))

  -- so many rows stand before the last as the count says, and none where it is 0
  pub rows-before-last : row_count declared - 1 ≡ declared.count - 1
  rows-before-last = by-kind (has_rows declared.kind) refl
    where
      by-kind : (several : Bool) → has_rows declared.kind ≡ several → row_count declared - 1 ≡ declared.count - 1
      by-kind true rows = ap (λ (n : ℕ). n - 1) (rows-count declared rows)
      by-kind false one = omega (arith, one-count declared one, one_none one)

-- the ring
pub ring-none : (declared : Declaration) → uses_block declared.kind ≡ true → ring_length declared ≡ 0
unfolding ring_length
ring-none declared smooth = pick_true _ _ _ smooth

module _ (declared : Declaration) (ring : uses_block declared.kind ≡ false) where
  -- it has as many words as the last row's interval has slots
  ring-of-last : 1 ≤ row_count declared → row_count declared ≤ most_rows → ring_length declared ≡ (last_row declared).interval
  unfolding ring_length
  ring-of-last some few = rw (ring, le-leb 1 (row_count declared) some, le-leb (row_count declared) most_rows few)

  -- and none without a row, or with too many
  ring-without : row_count declared < 1 → ring_length declared ≡ 0
  unfolding ring_length
  ring-without none = rw (ring, lt-leb 1 (row_count declared) none)

  ring-beyond : most_rows < row_count declared → ring_length declared ≡ 0
  unfolding ring_length
  ring-beyond many = rw (ring, le-leb 1 (row_count declared) (omega arith), lt-leb (row_count declared) most_rows many)

-- by the kind
pub ring-smooth : (declared : Declaration) → declared.kind ≡ Kind.Smooth → ring_length declared ≡ 0
unfolding uses_block
ring-smooth declared smooth = ring-none declared (ap uses_block smooth)

pub ring-uniform : (declared : Declaration) → declared.kind ≡ Kind.Uniform → ring_length declared ≡ declared.interval.0
unfolding uses_block
ring-uniform declared uniform =
    let one = ap has_rows uniform in
    let count = one-count declared one in
    ring-of-last declared (ap uses_block uniform) (omega arith) (omega arith) ∙ ap (λ (row : Row). row.interval) (one_last declared one)

module _ (declared : Declaration) (several : declared.kind ≡ Kind.Rows) where
  rows-ring : uses_block declared.kind ≡ false
  unfolding uses_block
  rows-ring = ap uses_block several

  several-count : row_count declared ≡ declared.count
  several-count = rows-count declared (ap has_rows several)

  pub ring-several : 1 ≤ declared.count → declared.count ≤ most_rows → ring_length declared ≡ (last_row declared).interval
  ring-several some few = ring-of-last declared rows-ring (omega (arith, several-count)) (omega (arith, several-count))

  pub ring-several-none : declared.count ≡ 0 → ring_length declared ≡ 0
  ring-several-none none = ring-without declared rows-ring (omega (arith, several-count))

  pub ring-several-beyond : most_rows < declared.count → ring_length declared ≡ 0
  ring-several-beyond many = ring-beyond declared rows-ring (omega (arith, several-count))

module _ (declared : Declaration) (ring : uses_block declared.kind ≡ false) (ranged : Ranged declared) where
  pub ring-interval : ring_length declared ≡ (last_row declared).interval
  ring-interval = ring-of-last declared ring ranged.some ranged.few

  pub ring-large : 1 ≤ ring_length declared
  unfolding last_row
  ring-large = rw ring-interval (ranged.large (row_count declared - 1) (omega (arith, ranged.some)))

  pub ring-fits : ring_length declared ≤ meter_word_count
  unfolding last_row
  ring-fits = rw ring-interval (ranged.fits (row_count declared - 1) (omega (arith, ranged.some)))

  -- and every row is within it
  pub row-within-ring : rows_in_order declared ≡ true → (i : ℕ) → i < row_count declared → (row_at declared i).interval ≤ ring_length declared
  row-within-ring ordered i less = rw ring-interval (interval-le-last declared ordered i less)

pub record UsableMeter (x : SourceMeter) (words : List ℕ) : Type 0 where
  pub sized : length words ≡ meter_word_count
  pub slot_left : x.slot.0 ≤ last_slot
  pub clear : unused_clear x.declaration ≡ true
  pub block_fits : stored_fits (uses_block x.declaration.kind) x.block.0 ≡ true
  pub words_fit : every (word_fits (ring_length x.declaration) words) meter_word_count ≡ true

-- each test, and what makes a meter unusable, one at a time
module _ (x : SourceMeter) (words : List ℕ) where
  abbrev length_test : Bool
  length_test = not (eqb (length words) meter_word_count)

  abbrev slot_test : Bool
  slot_test = ltb last_slot x.slot.0

  abbrev clear_test : Bool
  clear_test = not (unused_clear x.declaration)

  abbrev block_test : Bool
  block_test = not (stored_fits (uses_block x.declaration.kind) x.block.0)

  abbrev words_test : Bool
  words_test = not (every (word_fits (ring_length x.declaration) words) meter_word_count)

  pub usable-meter : meter_unusable x words ≡ false → UsableMeter x words
  unfolding meter_unusable
  usable-meter passed =
      let (length-test, rest) = either-false length_test _ passed in
      let (slot-test, rest) = either-false slot_test _ rest in
      let (clear-test, rest) = either-false clear_test _ rest in
      let (block-test, rest) = either-false block_test _ rest in
      let (words-test, rest) = either-false words_test _ rest in
      record {
        sized = eqb-true (length words) meter_word_count (not-false _ length-test);
        slot_left = ltb-false last_slot x.slot.0 slot-test;
        clear = not-false _ clear-test;
        block_fits = not-false _ block-test;
        words_fit = not-false _ words-test;
      }

  pub meter-usable : UsableMeter x words → meter_unusable x words ≡ false
  unfolding meter_unusable
  meter-usable usable =
      either-none length_test _ (ap not (eq-eqb (length words) meter_word_count usable.sized))
      (either-none slot_test _ (le-ltb last_slot x.slot.0 usable.slot_left)
      (either-none clear_test _ (ap not usable.clear)
      (either-none block_test _ (ap not usable.block_fits)
      (either-none words_test _ (ap not usable.words_fit) refl))))

  -- where all that is not a word fits, the words decide
  pub words-decide : length words ≡ meter_word_count → x.slot.0 ≤ last_slot → unused_clear x.declaration ≡ true → stored_fits (uses_block x.declaration.kind) x.block.0 ≡ true
      → meter_unusable x words ≡ words_test
  unfolding meter_unusable
  words-decide sized slot-left clear block-fits =
      rw (eq-eqb (length words) meter_word_count sized, le-ltb last_slot x.slot.0 slot-left, clear, block-fits) (either-last words_test)

  pub wrong-length : (length words ≡ meter_word_count → ⊥) → meter_unusable x words ≡ true
  unfolding meter_unusable
  wrong-length other = either_first length_test _ (ap not (ne_eqb (length words) meter_word_count other))

  pub no-slot-left : last_slot < x.slot.0 → meter_unusable x words ≡ true
  unfolding meter_unusable
  no-slot-left past = either_second length_test _ (either_first slot_test _ (lt-ltb last_slot x.slot.0 past))

  pub unused-set : unused_clear x.declaration ≡ false → meter_unusable x words ≡ true
  unfolding meter_unusable
  unused-set set = either_second length_test _ (either_second slot_test _ (either_first clear_test _ (ap not set)))

  pub block-misfit : stored_fits (uses_block x.declaration.kind) x.block.0 ≡ false → meter_unusable x words ≡ true
  unfolding meter_unusable
  block-misfit misfit = either_second length_test _ (either_second slot_test _ (either_second clear_test _ (either_first block_test _ (ap not misfit))))

  pub word-misfit : every (word_fits (ring_length x.declaration) words) meter_word_count ≡ false → meter_unusable x words ≡ true
  unfolding meter_unusable
  word-misfit misfit =
      either_second length_test _ (either_second slot_test _ (either_second clear_test _ (either_second block_test _ (either_first words_test _ (ap not misfit)))))

-- with a block its total is within the limit, and no word is used; with a ring the total is 0
pub block-limited : (kind : Kind) → uses_block kind ≡ true → (block : ℕ) → stored_fits (uses_block kind) block ≡ leb block largest_amount
unfolding stored_fits
block-limited kind smooth block = pick_true _ _ _ smooth

pub words-unused : (declared : Declaration) → uses_block declared.kind ≡ true → (words : List ℕ) → length words ≡ meter_word_count
    → every (word_fits (ring_length declared) words) meter_word_count ≡ every (clear_at words) (length words)
words-unused declared smooth words sized =
    ap₂ (λ (used count : ℕ). every (word_fits used words) count) (ring-none declared smooth) (sym sized) ∙ sym (unused-fits words)

pub block-unused : (kind : Kind) → uses_block kind ≡ false → (block : ℕ) → stored_fits (uses_block kind) block ≡ eqb block 0
unfolding stored_fits
block-unused kind ring block = pick-false _ _ _ ring

-- the block's units so far
module _ (x : SourceMeter) where
  pub block-first : x.slot.0 % x.declaration.interval.0 ≡ 0 → 0 ≡ block_before x
  unfolding block_before
  block-first starts = sym (pick_true _ _ _ (eq-eqb _ _ starts))

  pub block-later : (x.slot.0 % x.declaration.interval.0 ≡ 0 → ⊥) → x.block.0 ≡ block_before x
  unfolding block_before
  block-later goes_on = sym (pick-false _ _ _ (ne_eqb _ _ goes_on))

  pub block-before-le : block_before x ≤ x.block.0
  unfolding block_before
  block-before-le = by-test (eqb (x.slot.0 % x.declaration.interval.0) 0)
    where
      by-test : (starts : Bool) → pick starts 0 x.block.0 ≤ x.block.0
      by-test true = omega arith
      by-test false = le_refl x.block.0

-- the units that count with the next input in a row
module _ (x : SourceMeter) (words : List ℕ) where
  pub counted-block : uses_block x.declaration.kind ≡ true → (i : ℕ) → counted_before x words i ≡ block_before x
  unfolding counted_before
  counted-block smooth i = pick_true _ _ _ smooth

  module _ (ring : uses_block x.declaration.kind ≡ false) where
    -- by age from the slot's own place in the ring
    abbrev place : ℕ
    place = x.slot.0 % ring_length x.declaration

    -- a row counts the words of the m − 1 slots before
    pub counted_words : (i : ℕ) → counted_before x words i ≡ total (word_before (ring_length x.declaration) x.slot.0 words) ((row_at x.declaration i).interval - 1)
    unfolding counted_before
    counted_words i = pick-false _ _ _ ring

    module _ (ranged : Ranged x.declaration) (ordered : rows_in_order x.declaration ≡ true) where
      pub place_inside : place < ring_length x.declaration
      place_inside = mod-lt x.slot.0 (ring-large x.declaration ring ranged)

      pub counted-ring : (i : ℕ) → i < row_count x.declaration
          → counted_before x words i ≡ total (word_before (ring_length x.declaration) place words) ((row_at x.declaration i).interval - 1)
      counted-ring i less =
          counted_words i
          ∙ age-total (ring_length x.declaration) words x.slot.0 ((row_at x.declaration i).interval - 1)
          (omega (arith, row-within-ring x.declaration ring ranged ordered i less))

      module _ (usable : UsableMeter x words) where
        -- the words behind the ring are 0
        pub words-total : total (word_at words) meter_word_count ≡ total (word_at words) (ring_length x.declaration)
        words-total =
            let fit : every (word_fits (ring_length x.declaration) words) (length words) ≡ true = rw usable.sized usable.words_fit in
            let same = total-used (ring_length x.declaration) words fit (rw usable.sized (ring-fits x.declaration ring ranged)) in
            rw usable.sized at same

        -- the last row counts all but the one that the input replaces
        pub counted-last : total (word_at words) meter_word_count - word_at words place ≡ counted_before x words (row_count x.declaration - 1)
        unfolding last_row
        counted-last =
            let last = row_count x.declaration - 1 in
            let whole = ring-interval x.declaration ring ranged in
            omega (
              arith,
              words-total,
              counted-ring last (omega (arith, ranged.some)),
              ap (λ (m : ℕ). total (word_before (ring_length x.declaration) place words) (m - 1)) whole,
              ring-last (ring_length x.declaration) words place place_inside,
            )
