-- Serves the private contracts of the meter, and need not be believed: no call and no part cites it.
-- Several rows counted in one pass over the words.
use Rattle.std.specs.Prelude.{◌≡◌, ℕ, suc, zero, ◌+◌, ◌-◌, ◌%◌, ◌^◌, ◌<◌, ◌≤◌, min, true, List, length, get_or}
use Rattle.quantity.specs.Sums.{total}
use Rattle.quantity.specs.Limits.{last_slot}
use Rattle.flow.specs.Rows.{Row}
use Rattle.flow.specs.declared.DeclaredRow.{DeclaredRow}
use Rattle.flow.specs.Declarations.{empty_row, row_of, has_rows, declaration_in_range, rows_in_order, unused_clear}
use Rattle.words.specs.Stored.{word_at}
use Rattle.words.specs.Gathering.{most_exact}
use Rattle.words.specs.declared.Gathered.{Gathered}
use Rattle.meter.specs.Meter.{meter_word_count, ring_length, word_before}
use Rattle.meter.specs.declared.SourceMeter.{SourceMeter}

-- there are several rows, and no test stands but those of the words in the ring
pub record RowsTested (x : SourceMeter) (words : List ℕ) : Type 0 where
  pub several : has_rows x.declaration.kind ≡ true
  pub clear : unused_clear x.declaration ≡ true
  pub in_range : declaration_in_range x.declaration ≡ true
  pub in_order : rows_in_order x.declaration ≡ true
  pub sized : length words ≡ meter_word_count
  pub slot_left : x.slot.0 ≤ last_slot
  pub block_none : x.block.0 ≡ 0
  pub unused : (j : ℕ) → ring_length x.declaration ≤ j → j < meter_word_count → word_at words j ≡ 0

-- a sum of the words from one age on to before another, modulo 2^32, and a join of them that is small only where each is
pub record AgesGathered (words : List ℕ) (ring at from to : ℕ) (part : Gathered) : Type 0 where
  pub summed : (total (word_before ring at words) from + part.low) % 2 ^ 32 ≡ total (word_before ring at words) to % 2 ^ 32
  pub small : part.join ≤ most_exact → (a : ℕ) → from ≤ a → a < to → word_before ring at words a ≤ most_exact

-- the least of a first number and of f 0 to f (n − 1)
unfoldable pub least_from : ℕ → (ℕ → ℕ) → ℕ → ℕ
least_from first f zero = first
least_from first f (suc n) = min (least_from first f n) (f n)

abbrev pub given_row : List DeclaredRow → ℕ → Row
given_row rows i = row_of (get_or rows i empty_row)

-- what row i leaves, by the low 32 bits of what it counts
abbrev pub low_leaves : List ℕ → ℕ → ℕ → List DeclaredRow → ℕ → ℕ
low_leaves words ring at rows i = (given_row rows i).quota + 1 - total (word_before ring at words) ((given_row rows i).interval - 1) % 2 ^ 32

-- rows that are counted one after the other: their intervals rise within the ring
pub record RowsRise (words : List ℕ) (ring at : ℕ) (rows : List DeclaredRow) : Type 0 where
  pub sized : length words ≡ meter_word_count
  pub ring_le : ring ≤ meter_word_count
  pub inside : at < ring
  pub large : (i : ℕ) → i < length rows → 1 ≤ (given_row rows i).interval
  pub within : (i : ℕ) → i < length rows → (given_row rows i).interval ≤ ring
  pub rises : (i : ℕ) → i + 1 < length rows → (given_row rows i).interval ≤ (given_row rows (i + 1)).interval

-- what they leave, and a join of the words that the last one counts that is small only where each is
pub record RowsVisited (words : List ℕ) (ring at : ℕ) (rows : List DeclaredRow) (first join least : ℕ) : Type 0 where
  pub kept : least ≡ least_from first (low_leaves words ring at rows) (length rows)
  pub small : join ≤ most_exact → (a : ℕ) → a + 1 < (given_row rows (length rows - 1)).interval → word_before ring at words a ≤ most_exact
