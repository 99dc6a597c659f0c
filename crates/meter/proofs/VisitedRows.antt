-- Several rows counted in one pass: each row goes on the words of the row before. Where no word is large, the low 32 bits of a row's sum are all of it, so the least of what the rows leave is what an input has to be below.
use Rattle.std.proofs.Common.{◌≡◌, ℕ, suc, ◌+◌, ◌-◌, ◌%◌, ◌^◌, ◌<◌, ◌≤◌, min, true, false, Some, Ok, List, length, take, get_or, length-take-le, get_or-take, sym, refl, ap, ◌∙◌, le_trans, mod-eq_of_lt, add-one, arith, le-ltb, lt-ltb, eq-eqb, le-leb}
use native.Mathlib.Nat.{le_dest}
use native.Mathlib.Decide.{dec_lt}
use lib.ListN.{get_or-eq_default}
use lib.Bits.{bit_or}
use Rattle.quantity.specs.Limits.{largest_amount}
use Rattle.quantity.specs.Sums.{total, every}
use Rattle.quantity.proofs.Sums.{total-zero, every_holds}
use Rattle.flow.specs.Rows.{Row}
use Rattle.flow.specs.Declarations.{empty_row, row_of, most_rows, row_count, row_at, last_row}
use Rattle.flow.proofs.Declarations.{rows-count, rows_at}
use Rattle.words.specs.Stored.{word_at, stored_fits, word_fits}
use Rattle.words.specs.Gathering.{most_exact}
use Rattle.words.specs.declared.Gathered.{Gathered}
use Rattle.words.proofs.JoinLaws.{le_or_l, le_or_r, small-total}
use Rattle.flow.specs.declared.DeclaredRow.{DeclaredRow}
use Rattle.flow.specs.declared.Declaration.{Declaration}
use Rattle.meter.specs.declared.SourceMeter.{SourceMeter}
use Rattle.meter.specs.Meter.{meter_word_count, uses_block, ring_length, word_before, least_below}
use Rattle.meter.specs.Parts.{inputs_below, counted_of}
use Rattle.words.specs.Gathering.{gathered_with}
use Rattle.meter.specs.Counting.{RowsTested, AgesGathered, RowsRise, RowsVisited, least_from, given_row, low_leaves}
use Rattle.meter.proofs.Least.{least-from-none, least-from-next, least-from-same, least-from-limit}
use Rattle.meter.proofs.UsableMeter.{Ranged, UsableMeter, meter-usable, declaration-ranged, several-ring, interval-rises, ring-interval, ring-fits, row-within-ring, place_inside, block-unused, counted-ring}
use Rattle.meter.proofs.PartsLaws.{leaves, counted_next, awaited-ring}
use Rattle.meter.proofs.AgeLaws.{ring-small}

-- what the first i rows have found: the words within reach are joined and added
pub record Visited (words : List ℕ) (ring at : ℕ) (rows : List DeclaredRow) (first : ℕ) (gathered : Gathered) (reach least i : ℕ) : Type 0 where
  pub next : i < length rows → reach + 1 ≤ (given_row rows i).interval
  pub reached : i ≡ length rows → (given_row rows (length rows - 1)).interval ≤ reach + 1
  pub summed : gathered.low ≡ total (word_before ring at words) reach % 2 ^ 32
  pub small : gathered.join ≤ most_exact → (a : ℕ) → a < reach → word_before ring at words a ≤ most_exact
  pub kept : least ≡ least_from first (low_leaves words ring at rows) i

module _ (words : List ℕ) (ring at : ℕ) (rows : List DeclaredRow) (known : RowsRise words ring at rows) (first : ℕ) where
  pub visited-none : Visited words ring at rows first (record { join = 0; low = 0 }) 0 first 0
  visited-none =
      record {
        next = λ less. known.large 0 less;
        reached = λ none. omega (arith, ap (λ (row : DeclaredRow). row.interval.0) (get_or-eq_default rows empty_row {n = length rows - 1} (omega arith)));
        summed = sym (ap (λ (n : ℕ). n % 2 ^ 32) (total-zero _));
        small = λ within a less. absurd (omega arith);
        kept = sym (least-from-none _ _);
      }

  module _ {gathered : Gathered} {reach least i : ℕ} (before : Visited words ring at rows first gathered reach least i) (less : i < length rows) where
    abbrev end : ℕ
    end = (given_row rows i).interval - 1

    pub visited-next : {part : Gathered} → AgesGathered words ring at reach end part → {sum : Gathered} → sum ≡ gathered_with gathered part
        → {left : ℕ} → left ≡ min least ((given_row rows i).quota + 1 - sum.low)
        → Visited words ring at rows first sum end left (i + 1)
    visited-next {part} ages {sum} added left =
        let some = known.large i less in
        let joined = ap (λ (g : Gathered). g.join) added in
        let summed : sum.low ≡ total (word_before ring at words) end % 2 ^ 32 = omega (arith, ap (λ (g : Gathered). g.low) added, before.summed, ages.summed) in
        record {
          next = λ more. omega (arith, known.rises i more);
          reached = λ all. let last : length rows - 1 ≡ i = omega arith in omega (arith, ap (λ (n : ℕ). (given_row rows n).interval) last);
          summed = summed;
          small =
              λ within a young.
              elim (dec_lt a reach) [
                | yes passed ↦ before.small (le_trans (le_or_l gathered.join part.join) (rw joined at within)) a passed
                | no new ↦ ages.small (le_trans (le_or_r gathered.join part.join) (rw joined at within)) a (omega arith) young
              ];
          kept =
              left
              ∙ ap (λ (n : ℕ). min least ((given_row rows i).quota + 1 - n)) summed
              ∙ ap (λ (n : ℕ). min n (low_leaves words ring at rows i)) before.kept
              ∙ sym (least-from-next first (low_leaves words ring at rows) i);
        }

  pub visited-all : {gathered : Gathered} {reach least : ℕ} → Visited words ring at rows first gathered reach least (length rows) → RowsVisited words ring at rows first gathered.join least
  visited-all all = record { kept = all.kept; small = λ within a young. all.small within a (omega (arith, all.reached refl)) }

module _ (x : SourceMeter) (words : List ℕ) (tested : RowsTested x words) where
  abbrev declared : Declaration
  declared = x.declaration

  abbrev ring : ℕ
  ring = ring_length declared

  abbrev at : ℕ
  at = x.slot.0 % ring

  pub rows-ringed : uses_block declared.kind ≡ false
  rows-ringed = several-ring declared.kind tested.several

  ranged : Ranged declared
  ranged = declaration-ranged declared tested.in_range

  counted : row_count declared ≡ declared.count
  counted = rows-count declared tested.several

  -- so many of the four rows as the count says
  module _ (long : length declared.rows ≡ most_rows) where
    abbrev rows : List DeclaredRow
    rows = take declared.count declared.rows

    pub count-few : declared.count ≤ most_rows
    count-few = omega (arith, counted, ranged.few)

    pub size : length rows ≡ declared.count
    size = length-take-le declared.count declared.rows (omega (arith, count-few, long))

    given : (i : ℕ) → i < declared.count → get_or rows i empty_row ≡ get_or declared.rows i empty_row
    given i less = get_or-take declared.count declared.rows i empty_row less

    row-given : (i : ℕ) → i < declared.count → row_at declared i ≡ given_row rows i
    row-given i less = rows_at declared tested.several i ∙ sym (ap row_of (given i less))

    interval-given : (i : ℕ) → i < declared.count → (row_at declared i).interval ≡ (given_row rows i).interval
    interval-given i less = ap (λ (row : Row). row.interval) (row-given i less)

    pub rows-rise : RowsRise words ring at rows
    rows-rise =
        record {
          sized = tested.sized;
          ring_le = ring-fits declared rows-ringed ranged;
          inside = place_inside x words rows-ringed ranged tested.in_order;
          large = λ i less. omega (arith, size, interval-given i (omega (arith, size)), ranged.large i (omega (arith, counted, size)));
          within = λ i less. omega (arith, interval-given i (omega (arith, size)), row-within-ring declared rows-ringed ranged tested.in_order i (omega (arith, counted, size)));
          rises = λ i less.
              omega (
                arith,
                interval-given i (omega (arith, size)),
                interval-given (i + 1) (omega (arith, size)),
                ap (λ (n : ℕ). (row_at declared n).interval) (add-one i),
                interval-rises declared tested.in_order i (omega (arith, counted, size)),
              );
        }

    -- past the last row, where no word is large
    module _ {join least : ℕ} (all : RowsVisited words ring at rows (largest_amount + 1) join least) (within : bit_or join (word_at words at) ≤ most_exact) where
      last-whole : (given_row rows (length rows - 1)).interval ≡ ring
      unfolding last_row
      last-whole =
          let same : row_count declared - 1 ≡ length rows - 1 = omega (arith, counted, size) in
          omega (
            arith,
            interval-given (length rows - 1) (omega (arith, size, counted, ranged.some)),
            ring-interval declared rows-ringed ranged,
            ap (λ (n : ℕ). (row_at declared n).interval) same,
          )

      age-small : (a : ℕ) → a + 1 < ring → word_before ring at words a ≤ most_exact
      age-small a young = all.small (le_trans (le_or_l join (word_at words at)) within) a (omega (arith, last-whole))

      word_small : (j : ℕ) → j < ring → word_at words j ≤ most_exact
      word_small = ring-small words ring at rows-rise.inside (le_trans (le_or_r join (word_at words at)) within) age-small

      visited-fits : every (word_fits ring words) meter_word_count ≡ true
      unfolding word_fits stored_fits
      visited-fits = every_holds (word_fits ring words) meter_word_count word-fits
        where
          word-fits : (j : ℕ) → j < meter_word_count → word_fits ring words j ≡ true
          word-fits j less =
              elim (dec_lt j ring) [
                | yes used ↦ rw (lt-ltb j ring used) (le-leb (word_at words j) largest_amount (omega (arith, word_small j used)))
                | no unused ↦ rw (le-ltb j ring (omega arith)) (eq-eqb (word_at words j) 0 (tested.unused j (omega arith) less))
              ]

      row-exact : (i : ℕ) → i < declared.count → low_leaves words ring at rows i ≡ leaves x words i
      row-exact i less =
          let reaches = rows-rise.within i (omega (arith, size)) in
          let some = rows-rise.large i (omega (arith, size)) in
          let end = (given_row rows i).interval - 1 in
          let exact = mod-eq_of_lt (small-total (word_before ring at words) end (omega (arith, rows-rise.ring_le)) (λ a young. age-small a (omega arith))) in
          let summed = counted-ring x words rows-ringed ranged tested.in_order i (omega (arith, counted)) in
          let same = ap (λ (m : ℕ). total (word_before ring at words) (m - 1)) (interval-given i less) in
          omega (arith, exact, summed, same, ap (λ (row : Row). row.quota) (row-given i less))

      visited-least : least ≡ inputs_below x words
      unfolding inputs_below
      visited-least =
          let (n, e) = le_dest ranged.some in
          let count : declared.count ≡ suc n = omega (arith, counted) in
          all.kept
          ∙ ap (least_from (largest_amount + 1) (low_leaves words ring at rows)) size
          ∙ least-from-same _ _ (leaves x words) declared.count row-exact
          ∙ ap (least_from (largest_amount + 1) (leaves x words)) count
          ∙ least-from-limit (largest_amount + 1) (leaves x words) n (omega (arith, ranged.small 0 ranged.some))
          ∙ ap (least_below (leaves x words)) (sym (counted ∙ count))

      -- no test stands
      pub counted-rows : {at : ℕ} → at ≡ x.slot.0 % ring → Ok (record { below = record { 0 = least }; block = record { 0 = 0 }; at = Some at }) ≡ counted_of x words
      counted-rows place =
          let usable : UsableMeter x words = record {
            sized = tested.sized;
            slot_left = tested.slot_left;
            clear = tested.clear;
            block_fits = block-unused declared.kind rows-ringed x.block.0 ∙ eq-eqb x.block.0 0 tested.block_none;
            words_fit = visited-fits;
          } in
          ap Ok (awaited-ring x words visited-least rows-ringed place) ∙ sym (counted_next x words (meter-usable x words usable) tested.in_range tested.in_order)
