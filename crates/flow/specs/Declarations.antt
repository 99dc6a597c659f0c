-- Sections 1 and 2, and document 02, item 6: what a source declares, its numbers in their ranges and its rows in their order, and the class that it names.
use Rattle.std.specs.Prelude.{ℕ, suc, ◌-◌, Bool, true, false, List, get_or, replicate, leb, ltb, eqb}
use Rattle.quantity.specs.Choice.{pick, both, either}
use Rattle.quantity.specs.Sums.{every, list_of}
use Rattle.quantity.specs.Ranges.{Range, in_range, interval_range, quota_range}
use Rattle.flow.specs.Rows.{Row}
use Rattle.flow.specs.Classes.{Class, smooth, uniform, rows}
use Rattle.flow.specs.declared.Kind.{Kind}
use Rattle.flow.specs.declared.DeclaredRow.{DeclaredRow}
use Rattle.flow.specs.declared.Declaration.{Declaration}

-- by the kind: smooth, uniform, rows
abbrev pub by_kind : {A : Type 0} → Kind → A → A → A → A
by_kind Kind.Smooth a b c = a
by_kind Kind.Uniform a b c = b
by_kind Kind.Rows a b c = c

-- the kind of several rows
abbrev pub has_rows : Kind → Bool
has_rows kind = by_kind kind false false true

-- a declaration has room for four rows, and with several there are two at least
abbrev pub most_rows : ℕ
most_rows = 4

abbrev pub several_range : Range
several_range = record { least = 2; largest = most_rows }

-- what stands in a row that is not used
abbrev pub empty_row : DeclaredRow
empty_row = record { interval = record { 0 = 0 }; quota = record { 0 = 0 } }

abbrev pub row_of : DeclaredRow → Row
row_of row = record { interval = row.interval.0; quota = row.quota.0 }

-- row i of several
abbrev pub several_at : Declaration → ℕ → Row
several_at declared i = row_of (get_or declared.rows i empty_row)

-- (m, Q), the one row of a smooth or uniform declaration
abbrev pub only_row : Declaration → Row
only_row declared = record { interval = declared.interval.0; quota = declared.quota.0 }

-- how many rows a declaration has, and row i
unfoldable pub row_count : Declaration → ℕ
row_count declared = by_kind declared.kind 1 1 declared.count

unfoldable pub row_at : Declaration → ℕ → Row
row_at declared i = by_kind declared.kind (only_row declared) (only_row declared) (several_at declared i)

-- the last row
unfoldable pub last_row : Declaration → Row
last_row declared = row_at declared (row_count declared - 1)

unfoldable pub row_in_range : Row → Bool
row_in_range row = both (in_range interval_range row.interval) (in_range quota_range row.quota)

-- 5: several are two to four, and every number is in its range
unfoldable pub declaration_in_range : Declaration → Bool
declaration_in_range declared =
    both (by_kind declared.kind true true (in_range several_range declared.count)) (every (λ i. row_in_range (row_at declared i)) (row_count declared))

-- 15: from one row to the next the interval rises and the quota does not fall
unfoldable pub rises : Row → Row → Bool
rises row next = both (ltb row.interval next.interval) (leb row.quota next.quota)

unfoldable pub rows_in_order : Declaration → Bool
rows_in_order declared = every (λ i. rises (row_at declared i) (row_at declared (suc i))) (row_count declared - 1)

-- what the kind does not use is 0, and so are the rows behind the count
unfoldable pub row_clear : Row → Bool
row_clear row = both (eqb row.interval 0) (eqb row.quota 0)

-- the rows from one on
unfoldable pub rows_clear_from : ℕ → List DeclaredRow → Bool
rows_clear_from from given = every (λ i. either (ltb i from) (row_clear (row_of (get_or given i empty_row)))) most_rows

unfoldable pub unused_clear : Declaration → Bool
unused_clear declared =
    by_kind declared.kind
    (both (eqb declared.count 0) (rows_clear_from 0 declared.rows))
    (both (eqb declared.count 0) (rows_clear_from 0 declared.rows))
    (both (row_clear (only_row declared)) (rows_clear_from declared.count declared.rows))

-- smooth or uniform (m, Q), and several rows, with 0 in all else
abbrev pub of_one_row : Kind → ℕ → ℕ → Declaration
of_one_row kind m Q = record { kind = kind; interval = record { 0 = m }; quota = record { 0 = Q }; count = 0; rows = replicate most_rows empty_row }

abbrev pub of_several : ℕ → (ℕ → DeclaredRow) → Declaration
of_several count given =
    record {
      kind = Kind.Rows;
      interval = record { 0 = 0 };
      quota = record { 0 = 0 };
      count = count;
      rows = list_of (λ i. pick (ltb i count) (given i) empty_row) most_rows;
    }

-- the declaration with 0 in all that it does not use
unfoldable pub cleared : Declaration → Declaration
cleared declared =
    by_kind declared.kind
    (of_one_row Kind.Smooth declared.interval.0 declared.quota.0)
    (of_one_row Kind.Uniform declared.interval.0 declared.quota.0)
    (of_several declared.count (λ i. get_or declared.rows i empty_row))

-- the class that a declaration names
unfoldable pub class_of : Declaration → Class
class_of declared =
    by_kind declared.kind
    (smooth declared.interval.0 declared.quota.0)
    (uniform declared.interval.0 declared.quota.0)
    (rows (several_at declared) declared.count)
