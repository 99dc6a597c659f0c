-- The rows before the last, as the loop over them has them: what each leaves, and that with the last row they leave what an input has to be below.
use Rattle.std.proofs.Common.{◌≡◌, ℕ, ◌+◌, ◌-◌, ◌%◌, ◌^◌, ◌<◌, ◌≤◌, true, false, List, length, take, get_or, length-take-le, get_or-take, sym, ap, ◌∙◌, ap₂, mod-eq_of_lt, add-one, arith}
use Rattle.quantity.specs.Limits.{largest_amount}
use Rattle.quantity.specs.Sums.{total}
use Rattle.quantity.proofs.Sums.{total-le}
use Rattle.flow.specs.Rows.{Row}
use Rattle.flow.specs.Declarations.{has_rows, most_rows, empty_row, row_of, row_count, row_at, last_row, rows_in_order}
use Rattle.words.specs.Stored.{word_at}
use Rattle.flow.specs.declared.DeclaredRow.{DeclaredRow}
use Rattle.flow.specs.declared.Declaration.{Declaration}
use Rattle.meter.specs.declared.SourceMeter.{SourceMeter}
use Rattle.meter.specs.Meter.{meter_word_count, uses_block, ring_length, word_before}
use Rattle.meter.specs.Parts.{inputs_below}
use Rattle.flow.proofs.Declarations.{rows-count, rows_at}
use Rattle.meter.specs.Counting.{RowsRise, RowsVisited, least_from, given_row, low_leaves}
use Rattle.meter.proofs.Least.{least-from-none, least-from-same, least-from-zero}
use Rattle.meter.proofs.RingLaws.{ring-last}
use Rattle.meter.proofs.UsableMeter.{Ranged, UsableMeter, interval-rises, rows-of-count, rows-before-last, ring-fits, row-within-ring, place_inside, words-total, counted-ring, counted-last}
use Rattle.meter.proofs.PartsLaws.{leaves, below-from-last}

-- what is known where the rows before the last are counted: the meter can be used, its declaration is in range and in order, and the last row has so many words and such a quota
pub record LastKnown (x : SourceMeter) (words : List ℕ) (ring quota : ℕ) : Type 0 where
  pub usable : UsableMeter x words
  pub ranged : Ranged x.declaration
  pub ordered : rows_in_order x.declaration ≡ true
  pub ringed : uses_block x.declaration.kind ≡ false
  pub all : ring ≡ ring_length x.declaration
  pub last : quota ≡ (last_row x.declaration).quota
  pub long : length x.declaration.rows ≡ most_rows

module _ (x : SourceMeter) (words : List ℕ) (ring quota : ℕ) (known : LastKnown x words ring quota) where
  abbrev declared : Declaration
  declared = x.declaration

  abbrev at : ℕ
  at = x.slot.0 % ring

  abbrev rows : List DeclaredRow
  rows = take (declared.count - 1) declared.rows

  pub earlier-few : declared.count - 1 ≤ most_rows
  earlier-few = omega (arith, rows-before-last declared known.usable.clear, known.ranged.few)

  pub size : length rows ≡ declared.count - 1
  size = length-take-le (declared.count - 1) declared.rows (omega (arith, earlier-few, known.long))

  given : (i : ℕ) → i < declared.count - 1 → get_or rows i empty_row ≡ get_or declared.rows i empty_row
  given i less = get_or-take (declared.count - 1) declared.rows i empty_row less

  -- what the last row counts
  abbrev rest : ℕ
  rest = total (word_at words) meter_word_count - word_at words at

  place : at < ring
  place = rw known.all (place_inside x words known.ringed known.ranged known.ordered)

  -- a row before the last is one of several
  module _ (i : ℕ) (before : i < declared.count - 1) where
    several : has_rows declared.kind ≡ true
    several = rows-of-count declared known.usable.clear (omega arith)

    row-counted : i + 1 < row_count declared
    row-counted = omega (arith, rows-count declared several)

    row-given : row_at declared i ≡ given_row rows i
    row-given = rows_at declared several i ∙ sym (ap row_of (given i before))

    interval-given : (row_at declared i).interval ≡ (given_row rows i).interval
    interval-given = ap (λ (row : Row). row.interval) row-given

  pub earlier-rise : RowsRise words ring at rows
  earlier-rise =
      record {
        sized = known.usable.sized;
        ring_le = rw known.all (ring-fits declared known.ringed known.ranged);
        inside = place;
        large = λ i before. omega (arith, interval-given i (rw size at before), known.ranged.large i (omega (arith, row-counted i (rw size at before))));
        within = λ i before. omega (arith, known.all, interval-given i (rw size at before), row-within-ring declared known.ringed known.ranged known.ordered i (omega (arith, row-counted i (rw size at before))));
        rises =
            λ i before.
            omega (
              arith,
              interval-given i (omega (arith, size)),
              interval-given (i + 1) (rw size at before),
              ap (λ (n : ℕ). (row_at declared n).interval) (add-one i),
              interval-rises declared known.ordered i (row-counted i (omega (arith, size))),
            );
      }

  -- no row before the last counts more than it
  age-le : (n : ℕ) → n < ring → total (word_before ring at words) n ≤ rest
  age-le n young =
      rw known.all
      (omega (
        arith,
        total-le (word_before (ring_length declared) (x.slot.0 % ring_length declared) words) {n = n} {m = ring_length declared - 1} (omega (arith, known.all)),
        words-total x words known.ringed known.ranged known.ordered known.usable,
        ring-last (ring_length declared) words (x.slot.0 % ring_length declared) (place_inside x words known.ringed known.ranged known.ordered),
      ))

  last-leaves : quota + 1 - rest ≡ leaves x words (row_count declared - 1)
  unfolding last_row
  last-leaves =
      rw (known.all, known.last) (ap (λ (n : ℕ). (row_at declared (row_count declared - 1)).quota + 1 - n) (counted-last x words known.ringed known.ranged known.ordered known.usable))

  -- with what the rows before the last leave, what an input has to be below
  found : least_from (quota + 1 - rest) (leaves x words) (declared.count - 1) ≡ inputs_below x words
  found =
      ap₂ (λ (first n : ℕ). least_from first (leaves x words) n) last-leaves (sym (rows-before-last declared known.usable.clear)) ∙ below-from-last x words known.ranged.some

  -- where the last row leaves nothing, no input is below
  pub below_none : quota + 1 - rest ≡ 0 → 0 ≡ inputs_below x words
  below_none none = sym (least-from-zero _ (declared.count - 1)) ∙ ap (λ (first : ℕ). least_from first (leaves x words) (declared.count - 1)) (sym none) ∙ found

  -- where there is no row before it, it decides alone
  pub below-last : declared.count ≤ 1 → quota + 1 - rest ≡ inputs_below x words
  below-last one =
      let none : declared.count - 1 ≡ 0 = omega arith in
      sym (least-from-none (quota + 1 - rest) (leaves x words)) ∙ ap (least_from (quota + 1 - rest) (leaves x words)) (sym none) ∙ found

  module _ (some : quota + 1 - rest ≡ 0 → ⊥) where
    -- where it leaves something, it counts no more than its quota, and so does each row before it
    rest-small : rest ≤ largest_amount
    unfolding last_row
    rest-small = omega (arith, known.last, some, known.ranged.small (row_count declared - 1) (omega (arith, known.ranged.some)))

    row-leaves : (i : ℕ) → i < declared.count - 1 → low_leaves words ring at rows i ≡ leaves x words i
    row-leaves i before =
        let end = (given_row rows i).interval - 1 in
        let young : end < ring = omega (arith, earlier-rise.within i (rw size before), earlier-rise.large i (rw size before)) in
        let exact = mod-eq_of_lt {n = total (word_before ring at words) end} {m = 2 ^ 32} (omega (arith, age-le end young, rest-small)) in
        rw (exact, ← row-given i before, known.all)
        (ap (λ (n : ℕ). (row_at declared i).quota + 1 - n) (sym (counted-ring x words known.ringed known.ranged known.ordered i (omega (arith, row-counted i before)))))

    pub below-found : {join least : ℕ} → RowsVisited words ring at rows (quota + 1 - rest) join least → least ≡ inputs_below x words
    below-found visited =
        visited.kept ∙ ap (least_from (quota + 1 - rest) (low_leaves words ring at rows)) size ∙ least-from-same _ _ (leaves x words) (declared.count - 1) row-leaves ∙ found
