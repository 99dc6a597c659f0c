-- Sections 2, 6 and 7, and document 02, item 6: the calls on a meter and its 1,024 words.
use Rattle.std.specs.Prelude.{ℕ, zero, suc, ◌+◌, ◌-◌, ◌%◌, min, Bool, true, false, Result, Ok, Err, not, leb, List, [], ◌∷◌, ◌++◌, length, ◌==◌, nat_le, nat_lt}
use Rattle.quantity.specs.Choice.{pick, both, either, any_of}
use Rattle.quantity.specs.Sums.{total, every, list_of}
use Rattle.quantity.specs.Limits.{largest_amount, last_slot}
use Rattle.quantity.specs.Refusals.{Case, ◌⇒◌, first_of}
use Rattle.quantity.specs.declared.Units.{Units}
use Rattle.quantity.specs.declared.refusal.Refusal.{Refusal}
use Rattle.quantity.specs.declared.refusal.Refusal.TheVariants.{Unusable, OutOfRange, InputBreaksDeclaration, RowsOutOfOrder}
use Rattle.flow.specs.Declarations.{by_kind, most_rows, row_count, row_at, last_row, declaration_in_range, rows_in_order, unused_clear}
use Rattle.words.specs.Stored.{word_at, stored_fits, word_fits}
use Rattle.flow.specs.declared.Kind.{Kind}
use Rattle.flow.specs.declared.Declaration.{Declaration}
use Rattle.meter.specs.declared.SourceMeter.{SourceMeter}

-- a meter's words
abbrev pub meter_word_count : ℕ
meter_word_count = 1_024

-- the meter keeps the block's total under a smooth declaration only
unfoldable pub uses_block : Kind → Bool
uses_block kind = by_kind kind true false false

-- and else a ring of words, m of them, m being the last row's: word j is the input of the latest slot whose number leaves j on division by m;
-- where there are not one to four rows it has none
unfoldable pub ring_length : Declaration → ℕ
ring_length declared = pick (uses_block declared.kind) 0 (pick (both (nat_le 1 (row_count declared)) (nat_le (row_count declared) most_rows)) (last_row declared).interval 0)

-- 1, of what is lent and stored: the words have a wrong length, no slot number is left, a stored amount is above the limit or should be 0 and is not
unfoldable pub meter_unusable : SourceMeter → List ℕ → Bool
meter_unusable x words =
    any_of
    (not (length words == meter_word_count)
    ∷ nat_lt last_slot x.slot.0
    ∷ not (unused_clear x.declaration)
    ∷ not (stored_fits (uses_block x.declaration.kind) x.block.0)
    ∷ not (every (word_fits (ring_length x.declaration) words) meter_word_count)
    ∷ [])

-- the units of a smooth declaration's block so far, none where a block begins
unfoldable pub block_before : SourceMeter → ℕ
block_before x = pick (x.slot.0 % x.declaration.interval.0 == 0) 0 x.block.0

-- the word of the slot a + 1 slots before slot t, in a ring of so many words
unfoldable pub word_before : ℕ → ℕ → List ℕ → ℕ → ℕ
word_before ring t words a = word_at words ((t + ring - suc a) % ring)

-- the units that count with this slot's input in a row: the block's so far, or the words of the row's m − 1 slots before
unfoldable pub counted_before : SourceMeter → List ℕ → ℕ → ℕ
counted_before x words i =
    pick (uses_block x.declaration.kind)
    (block_before x)
    (total (word_before (ring_length x.declaration) x.slot.0 words) ((row_at x.declaration i).interval - 1))

-- 13: in some row, with the units that count with it, the input is above the quota
unfoldable pub input_breaks : SourceMeter → List ℕ → ℕ → Bool
input_breaks x words input = not (every (λ i. leb (counted_before x words i + input) (row_at x.declaration i).quota) (row_count x.declaration))

-- the least of f 0 to f (n − 1), 0 where there is none
unfoldable pub least_below : (ℕ → ℕ) → ℕ → ℕ
least_below f zero = 0
least_below f (suc zero) = f 0
least_below f (suc (suc n)) = min (least_below f (suc n)) (f (suc n))

-- the most that this slot's input may be: the least over the rows of what the quota leaves
unfoldable pub room_in : SourceMeter → List ℕ → ℕ
room_in x words = least_below (λ i. (row_at x.declaration i).quota - counted_before x words i) (row_count x.declaration)

-- 5 and 15 of a meter's declaration
abbrev pub declaration_cases : Declaration → List Case
declaration_cases declared = (not (declaration_in_range declared) ⇒ OutOfRange 0) ∷ (not (rows_in_order declared) ⇒ RowsOutOfOrder 0) ∷ []

-- the room, or the refusal: 1, 5, 15, and 13 where not even 0 keeps the declaration
unfoldable pub room_of : SourceMeter → List ℕ → Result Units Refusal
room_of x words =
    first_of
    ((meter_unusable x words ⇒ Unusable) ∷ declaration_cases x.declaration ++ ((input_breaks x words 0 ⇒ InputBreaksDeclaration) ∷ []))
    Err
    (Ok (record { 0 = room_in x words }))

-- a meter goes through 1, 5, 15 and 13; what it then stores is at most the quota or the input, so no amount above the limit
abbrev pub meter_cases : SourceMeter → List ℕ → ℕ → List Case
meter_cases x words input =
    (either (nat_lt largest_amount input) (meter_unusable x words) ⇒ Unusable) ∷ declaration_cases x.declaration ++ ((input_breaks x words input ⇒ InputBreaksDeclaration) ∷ [])

-- the block's total once the input is taken, and the state
unfoldable pub block_next : SourceMeter → ℕ → ℕ
block_next x input = pick (uses_block x.declaration.kind) (block_before x + input) 0

unfoldable pub meter_next : SourceMeter → ℕ → SourceMeter
meter_next x input = record { declaration = x.declaration; slot = record { 0 = x.slot.0 + 1 }; block = record { 0 = block_next x input } }

-- word j once the input is taken
unfoldable pub meter_word_next : SourceMeter → List ℕ → ℕ → ℕ → ℕ
meter_word_next x words input j =
    pick (uses_block x.declaration.kind) (word_at words j)
    (pick (j == x.slot.0 % ring_length x.declaration) input (word_at words j))

-- what a meter answers: the state once the input is taken, or the refusal
unfoldable pub meter_of : SourceMeter → List ℕ → ℕ → Result SourceMeter Refusal
meter_of x words input = first_of (meter_cases x words input) Err (Ok (meter_next x input))

-- what its words hold then; a refused input writes nothing
unfoldable pub meter_words_after : SourceMeter → List ℕ → ℕ → List ℕ
meter_words_after x words input = first_of (meter_cases x words input) (λ why. words) (list_of (meter_word_next x words input) meter_word_count)
