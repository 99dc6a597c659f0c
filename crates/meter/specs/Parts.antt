-- The parts of a slot: what is lent and stored is tested and counted, which tells where the input goes; then it is written. Each is defined on all inputs, and answers the first of its tests that stands.
use Rattle.std.specs.Prelude.{ℕ, ◌+◌, ◌-◌, ◌%◌, Option, Some, None, is_some, Result, Ok, Err, not, List}
use Rattle.quantity.specs.Choice.{pick}
use Rattle.quantity.specs.Quantities.{units_sum}
use Rattle.quantity.specs.declared.Units.{Units}
use Rattle.words.specs.Stored.{word_noted}
use Rattle.flow.specs.Declarations.{row_count, row_at, declaration_in_range, rows_in_order}
use Rattle.meter.specs.Meter.{uses_block, ring_length, least_below, meter_unusable, block_before, counted_before}
use Rattle.meter.specs.declared.SourceMeter.{SourceMeter}
use Rattle.meter.specs.declared.parts.Awaited.{Awaited}
use Rattle.meter.specs.declared.parts.Uncounted.{Uncounted}
use Rattle.quantity.specs.declared.refusal.Refusal.{Refusal}

-- the inputs that keep every row are those below this: the least over the rows of the quota and 1 less what counts
unfoldable pub inputs_below : SourceMeter → List ℕ → ℕ
inputs_below x words = least_below (λ i. (row_at x.declaration i).quota + 1 - counted_before x words i) (row_count x.declaration)

-- the word that an input is noted in, its slot's in the ring; where there is a block there is none
unfoldable pub input_place : SourceMeter → Option ℕ
input_place x = pick (uses_block x.declaration.kind) None (Some (x.slot.0 % ring_length x.declaration))

-- what is known of the next input: what it has to be below, the block's total before it, 0 where there is a ring, and its word
unfoldable pub awaited_of : SourceMeter → List ℕ → Awaited
awaited_of x words =
    record { below = record { 0 = inputs_below x words }; block = record { 0 = pick (uses_block x.declaration.kind) (block_before x) 0 }; at = input_place x }

-- Test: that, or the first test that stands
unfoldable pub counted_of : SourceMeter → List ℕ → Result Awaited Uncounted
counted_of x words =
    pick (meter_unusable x words) (Err Uncounted.Unusable)
    (pick (not (declaration_in_range x.declaration)) (Err Uncounted.OutOfRange)
    (pick (not (rows_in_order x.declaration)) (Err Uncounted.OutOfOrder) (Ok (awaited_of x words))))

-- the call's refusal: 1, 5 or 15
abbrev pub uncounted_refusal : Uncounted → Refusal
uncounted_refusal Uncounted.Unusable = Refusal.Unusable
uncounted_refusal Uncounted.OutOfRange = Refusal.OutOfRange 0
uncounted_refusal Uncounted.OutOfOrder = Refusal.RowsOutOfOrder 0

-- Write: its word is noted, if it has one
abbrev pub input_noted : Option ℕ → List ℕ → ℕ → List ℕ
input_noted None words input = words
input_noted (Some at) words input = word_noted words at input

-- the block's total behind it is 0 where it has
unfoldable pub block_behind : Awaited → Units → Units
block_behind awaited input = pick (is_some awaited.at) (record { 0 = 0 }) (units_sum awaited.block input)
