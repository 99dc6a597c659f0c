-- Inputs that the programs do not say, as tables that are computed from the definitions: a meter's words of a wrong length; inputs taken and refused at each row of
-- document 02, item 6; declarations of several rows that are refused; and where an input goes.
use Rattle.std.proofs.Common.{◌≡◌, ℕ, ◌+◌, ◌<◌, ◌≤◌, Bool, true, false, Option, Some, None, Result, Ok, Err, ltb, List, [], ◌∷◌, ◌++◌, length, replicate, sym, refl, ap, ◌∙◌, arith, length-append, get_or-append-add}
use native.Mathlib.Nat.{le_dest}
use native.Mathlib.Decide.{dec_lt}
use lib.ListN.{length-replicate, get_or-replicate, get_or-append}
use Rattle.quantity.specs.Limits.{last_slot}
use Rattle.quantity.specs.Quantities.{units_sum}
use Rattle.quantity.specs.Ranges.{in_range}
use Rattle.quantity.specs.Sums.{total, every}
use Rattle.quantity.specs.Refusals.{refusal_number, refusal_place}
use Rattle.quantity.proofs.Sums.{every-at, every_holds}
use Rattle.flow.specs.Declarations.{empty_row, of_one_row, row_count, row_at, last_row, row_in_range, declaration_in_range, rises, rows_in_order, row_clear, rows_clear_from, unused_clear}
use Rattle.flow.specs.declared.Kind.{Kind}
use Rattle.flow.specs.declared.DeclaredRow.{DeclaredRow}
use Rattle.flow.specs.declared.Declaration.{Declaration}
use Rattle.words.specs.Stored.{word_at, stored_fits, word_fits}
use Rattle.meter.specs.Meter
use Rattle.meter.specs.Parts
use Rattle.meter.specs.declared.SourceMeter.{SourceMeter}
use Rattle.quantity.specs.declared.Units.{Units}
use Rattle.quantity.specs.declared.refusal.Refusal.{Refusal}
use Rattle.meter.proofs.UsableMeter.{meter-usable, wrong-length, unused-set}

-- a meter at a slot, with nothing in its block
abbrev pub meter_at : Declaration → ℕ → SourceMeter
meter_at declared t = record { declaration = declared; slot = record { 0 = t }; block = record { 0 = 0 } }

-- what is answered: a refusal's number and place; or the next block's total and slot; or the room
pub data Outcome : Type 0 where
  refused : ℕ → ℕ → Outcome
  taken : ℕ → ℕ → Outcome
  room : ℕ → Outcome

abbrev pub meter_outcome : Result SourceMeter Refusal → Outcome
meter_outcome (Ok next) = taken next.block.0 next.slot.0
meter_outcome (Err why) = refused (refusal_number why) (refusal_place why)

abbrev pub room_outcome : Result Units Refusal → Outcome
room_outcome (Ok most) = room most.0
room_outcome (Err why) = refused (refusal_number why) (refusal_place why)

-- Words with nothing behind the first ones are tested by these alone.
none-fits : (used : Bool) → stored_fits used 0 ≡ true
unfolding stored_fits
none-fits true = refl
none-fits false = refl

module _ (x : SourceMeter) (first : List ℕ) (rest : ℕ) (whole : length first + rest ≡ Meter.meter_word_count) where
  abbrev padded : List ℕ
  padded = first ++ replicate rest 0

  rest-none : (k : ℕ) → k < rest → word_at padded (length first + k) ≡ 0
  rest-none k less = get_or-append-add first (replicate rest 0) k 0 ∙ get_or-replicate rest k 0 0 less

  padded-fits : (ring : ℕ) → every (word_fits ring first) (length first) ≡ true → (j : ℕ) → j < Meter.meter_word_count → word_fits ring padded j ≡ true
  unfolding word_fits
  padded-fits ring fit j less = by_place (dec_lt j (length first))
    where
      by_place : Dec (j < length first) → stored_fits (ltb j ring) (word_at padded j) ≡ true
      by_place (yes used) = rw (get_or-append first (replicate rest 0) 0 j used) (every-at (word_fits ring first) (length first) fit j used)
      by_place (no behind) =
          let (k, e) = le_dest {n = length first} {m = j} (omega arith) in
          rw (← e, rest-none k (omega arith)) (none-fits (ltb (length first + k) ring))

  padded-usable : x.slot.0 ≤ last_slot → unused_clear x.declaration ≡ true → stored_fits (Meter.uses_block x.declaration.kind) x.block.0 ≡ true
      → every (word_fits (Meter.ring_length x.declaration) first) (length first) ≡ true → Meter.meter_unusable x padded ≡ false
  padded-usable left clear block fit =
      meter-usable x padded
      record {
        sized = length-append first (replicate rest 0) ∙ ap (λ (n : ℕ). length first + n) (length-replicate rest 0) ∙ whole;
        slot_left = left;
        clear = clear;
        block_fits = block;
        words_fit = every_holds (word_fits (Meter.ring_length x.declaration) padded) Meter.meter_word_count (padded-fits (Meter.ring_length x.declaration) fit);
      }

-- A new meter of smooth (3, 5), with 1,023, 1,024 and 1,025 words.

abbrev pub source : SourceMeter
source = meter_at (of_one_row Kind.Smooth 3 5) 0

pub computed : List Outcome
computed =
    meter_outcome (Meter.meter_of source (replicate 1_023 0) 0)
    ∷ meter_outcome (Meter.meter_of source (replicate 1_024 0) 0)
    ∷ meter_outcome (Meter.meter_of source (replicate 1_025 0) 0)
    ∷ []

pub expected : List Outcome
expected = refused 1 0 ∷ taken 0 1 ∷ refused 1 0 ∷ []

misfit : (n : ℕ) → (n ≡ Meter.meter_word_count → ⊥) → Meter.meter_unusable source (replicate n 0) ≡ true
misfit n other = wrong-length source (replicate n 0) (λ e. other (sym (length-replicate n 0) ∙ e))

pub reference-meters : computed ≡ expected
unfolding computed expected every in_range row_count row_at row_in_range declaration_in_range rows_in_order row_clear rows_clear_from unused_clear stored_fits Meter.meter_of Meter.meter_next Meter.block_next Meter.block_before Meter.counted_before Meter.input_breaks Meter.uses_block
reference-meters = rw (misfit 1_023 (λ e. omega arith), padded-usable source [] 1_024 refl (omega arith) refl refl refl, misfit 1_025 (λ e. omega arith))

-- Several rows, and the numbers that they do not use.

abbrev pub row : ℕ → ℕ → DeclaredRow
row m Q = record { interval = record { 0 = m }; quota = record { 0 = Q } }

abbrev pub rows_beside : ℕ → ℕ → List DeclaredRow → Declaration
rows_beside quota count given = record { kind = Kind.Rows; interval = record { 0 = 0 }; quota = record { 0 = quota }; count = count; rows = given }

-- Rows (1, 9), (3, 15), (12, 48). Before slot 13 word 0 is slot 12's, words 2 to 11 are those of slots 2 to 11, and word 1 is slot 1's, which no row counts with slot 13.
-- Row (3, 15) counts words 0 and 11.
abbrev pub camera : SourceMeter
camera = meter_at (rows_beside 0 3 (row 1 9 ∷ row 3 15 ∷ row 12 48 ∷ empty_row ∷ [])) 13

abbrev ring_at : ℕ → ℕ → ℕ → List ℕ
ring_at w0 w2 w11 = w0 ∷ 7 ∷ w2 ∷ 3 ∷ 2 ∷ 1 ∷ 3 ∷ 2 ∷ 1 ∷ 3 ∷ 4 ∷ w11 ∷ []

abbrev pub words_at : ℕ → ℕ → ℕ → List ℕ
words_at w0 w2 w11 = ring_at w0 w2 w11 ++ replicate 1_012 0

pub rows-computed : List Outcome
rows-computed =
    -- 2 and 3 in two slots, 25 in eleven: the first row leaves 9, the second 10, the third 23
    meter_outcome (Meter.meter_of camera (words_at 2 1 3) 9)
    ∷ meter_outcome (Meter.meter_of camera (words_at 2 1 3) 10)
    ∷ room_outcome (Meter.room_of camera (words_at 2 1 3))
    -- 5 and 4 in two slots, 29 in eleven: the second row leaves 6, the third 19
    ∷ meter_outcome (Meter.meter_of camera (words_at 5 1 4) 6)
    ∷ meter_outcome (Meter.meter_of camera (words_at 5 1 4) 7)
    ∷ room_outcome (Meter.room_of camera (words_at 5 1 4))
    -- 1 and 8 in two slots, 45 in eleven: the second row leaves 6, the third 3
    ∷ meter_outcome (Meter.meter_of camera (words_at 1 17 8) 3)
    ∷ meter_outcome (Meter.meter_of camera (words_at 1 17 8) 4)
    ∷ room_outcome (Meter.room_of camera (words_at 1 17 8))
    -- 49 in eleven: the third row leaves nothing, not even 0
    ∷ room_outcome (Meter.room_of camera (words_at 1 21 8))
    ∷ []

pub rows-expected : List Outcome
rows-expected =
    taken 0 14
    ∷ refused 13 0
    ∷ room 9
    ∷ taken 0 14
    ∷ refused 13 0
    ∷ room 6
    ∷ taken 0 14
    ∷ refused 13 0
    ∷ room 3
    ∷ refused 13 0
    ∷ []

camera-usable : (w0 w2 w11 : ℕ) → every (word_fits 12 (ring_at w0 w2 w11)) 12 ≡ true → Meter.meter_unusable camera (words_at w0 w2 w11) ≡ false
unfolding every row_count row_at last_row row_clear rows_clear_from unused_clear stored_fits word_fits Meter.uses_block Meter.ring_length
camera-usable w0 w2 w11 fit = padded-usable camera (ring_at w0 w2 w11) 1_012 refl (omega arith) refl refl fit

pub reference-rows : rows-computed ≡ rows-expected
unfolding rows-computed rows-expected total every in_range row_count row_at last_row row_in_range declaration_in_range rises rows_in_order stored_fits word_fits Meter.meter_of Meter.room_of Meter.room_in Meter.least_below Meter.meter_next Meter.block_next Meter.word_before Meter.counted_before Meter.input_breaks Meter.uses_block Meter.ring_length
reference-rows = rw (camera-usable 2 1 3 refl, camera-usable 5 1 4 refl, camera-usable 1 17 8 refl, camera-usable 1 21 8 refl)

-- New meters of declarations that are refused.

abbrev pub new_words : List ℕ
new_words = replicate 1_024 0

abbrev pub one_row : SourceMeter
one_row = meter_at (rows_beside 0 1 (row 1 9 ∷ empty_row ∷ empty_row ∷ empty_row ∷ [])) 0

abbrev pub five_rows : SourceMeter
five_rows = meter_at (rows_beside 0 5 (row 1 9 ∷ row 3 15 ∷ row 12 48 ∷ row 24 60 ∷ [])) 0

abbrev pub equal_intervals : SourceMeter
equal_intervals = meter_at (rows_beside 0 2 (row 3 9 ∷ row 3 15 ∷ empty_row ∷ empty_row ∷ [])) 0

abbrev pub falling_quota : SourceMeter
falling_quota = meter_at (rows_beside 0 2 (row 1 9 ∷ row 3 8 ∷ empty_row ∷ empty_row ∷ [])) 0

abbrev pub quota_beside : SourceMeter
quota_beside = meter_at (rows_beside 1 2 (row 1 9 ∷ row 3 15 ∷ empty_row ∷ empty_row ∷ [])) 0

abbrev pub row_behind : SourceMeter
row_behind = meter_at (rows_beside 0 2 (row 1 9 ∷ row 3 15 ∷ row 12 48 ∷ empty_row ∷ [])) 0

pub declared-computed : List Outcome
declared-computed =
    meter_outcome (Meter.meter_of one_row new_words 0)
    ∷ meter_outcome (Meter.meter_of five_rows new_words 0)
    ∷ meter_outcome (Meter.meter_of equal_intervals new_words 0)
    ∷ meter_outcome (Meter.meter_of falling_quota new_words 0)
    ∷ meter_outcome (Meter.meter_of quota_beside new_words 0)
    ∷ meter_outcome (Meter.meter_of row_behind new_words 0)
    ∷ []

pub declared-expected : List Outcome
declared-expected = refused 5 0 ∷ refused 5 0 ∷ refused 15 0 ∷ refused 15 0 ∷ refused 1 0 ∷ refused 1 0 ∷ []

pub reference-declared : declared-computed ≡ declared-expected
unfolding declared-computed declared-expected every in_range row_count row_at last_row row_in_range declaration_in_range rises rows_in_order row_clear rows_clear_from unused_clear stored_fits Meter.meter_of Meter.uses_block
reference-declared =
    rw (
      padded-usable one_row [] 1_024 refl (omega arith) refl refl refl,
      padded-usable five_rows [] 1_024 refl (omega arith) refl refl refl,
      padded-usable equal_intervals [] 1_024 refl (omega arith) refl refl refl,
      padded-usable falling_quota [] 1_024 refl (omega arith) refl refl refl,
      unused-set quota_beside new_words refl,
      unused-set row_behind new_words refl,
    )

-- Where an input goes: that of slot 13, under rows of which the last has 12 slots, into word 1, with no block behind it. Under smooth (3, 5) with 4 units in the block that of slot 4
-- makes 5 of them with 1 more, and slot 6 begins a block; neither has a word.

abbrev pub in_block : ℕ → SourceMeter
in_block t = record { declaration = of_one_row Kind.Smooth 3 5; slot = record { 0 = t }; block = record { 0 = 4 } }

pub places-computed : List (Option ℕ × ℕ)
places-computed =
    (Parts.input_place camera, (Parts.block_behind (Parts.awaited_of camera []) (record { 0 = 5 })).0)
    ∷ (Parts.input_place (in_block 4), (Parts.block_behind (Parts.awaited_of (in_block 4) []) (record { 0 = 1 })).0)
    ∷ (Parts.input_place (in_block 6), (Parts.block_behind (Parts.awaited_of (in_block 6) []) (record { 0 = 1 })).0)
    ∷ []

pub places-expected : List (Option ℕ × ℕ)
places-expected = (Some 1, 0) ∷ (None, 5) ∷ (None, 1) ∷ []

pub reference-places : places-computed ≡ places-expected
unfolding places-computed places-expected row_count row_at last_row units_sum Meter.uses_block Meter.ring_length Meter.block_before Parts.input_place Parts.awaited_of Parts.block_behind
reference-places = refl
