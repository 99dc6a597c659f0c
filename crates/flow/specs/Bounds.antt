-- Document 02, item 6: the most that several rows allow, as a table.
use Rattle.std.specs.Prelude.{◌≡◌, ℕ, ◌+◌, ◌-◌, ◌≤◌, ◌<◌, min, Bool, List, [], length, get_or, leb}
use Rattle.quantity.specs.Choice.{pick, both}
use Rattle.quantity.specs.Sums.{list_of}
use Rattle.flow.specs.Rows.{Row, units, behind_rows, units_in, rows_most}
use Rattle.flow.specs.Classes.{Class, smooth, uniform, rows}
use Rattle.flow.specs.Declarations.{has_rows, several_at, declaration_in_range}
use Rattle.flow.specs.declared.Declaration.{Declaration}

-- the most in 0 to 1,024 slots at least, an interval's, and in 0 to 1,984 at the most: an operator of a filter part is at most 960 slots of delayers
-- and less than a row's interval behind the part's input
abbrev pub shortest_bound : ℕ
shortest_bound = 1_025

abbrev pub longest_bound : ℕ
longest_bound = 1_985

-- entry n is the most in n slots
abbrev pub bound_of : Declaration → ℕ → List ℕ
bound_of declared size = list_of (rows_most (several_at declared) declared.count) size

-- there are rows in their ranges, and the table that is lent is neither too short nor too long
unfoldable pub boundable : Declaration → List ℕ → Bool
boundable declared lent = both (leb shortest_bound (length lent)) (both (leb (length lent) longest_bound) (both (has_rows declared.kind) (declaration_in_range declared)))

-- what the table holds then, and else what it held
unfoldable pub bound_filled : Declaration → List ℕ → List ℕ
bound_filled declared lent = pick (boundable declared lent) (bound_of declared (length lent)) lent

-- What follows serves the private contracts of the table and the figures, and need not be believed: no part cites it.

-- row i of an array of pairs: the interval and the quota
abbrev pub pair_at : List (List ℕ) → ℕ → Row
pair_at pairs i = record { interval = get_or (get_or pairs i []) 0 0; quota = get_or (get_or pairs i []) 1 0 }

-- a row in its ranges
pub record RowInside (row : Row) : Type 0 where
  pub large : 1 ≤ row.interval
  pub short : row.interval ≤ 1_024
  pub some : 1 ≤ row.quota
  pub few : row.quota ≤ 65_535

-- so the first k rows
abbrev pub RowsInside : (ℕ → Row) → ℕ → Type 0
RowsInside given k = (i : ℕ) → i < k → RowInside (given i)

-- the two numbers of a row, as large as in their ranges
abbrev pub RowWithin : ℕ → ℕ → Type 0
RowWithin m Q = (1 ≤ m) × (m ≤ 1_024) × (Q ≤ 65_535)

-- the largest signed number of 32 bits
abbrev pub largest_signed : ℕ
largest_signed = 2_147_483_647

-- a table of such a length
pub record Sized (table : List ℕ) : Type 0 where
  pub long : shortest_bound ≤ length table
  pub short : length table ≤ longest_bound

-- and with nothing in no slots, and in the others what fits a signed number
pub record Table (table : List ℕ) : Type 0 where
  pub sized : Sized table
  pub none : get_or table 0 0 ≡ 0
  pub fits : (j : ℕ) → j < length table → get_or table j 0 ≤ largest_signed

-- a table with one row more
unfoldable pub with_row : ℕ → ℕ → List ℕ → List ℕ
with_row m Q table = list_of (λ n. units_in (behind_rows (λ j. units (get_or table j 0)) (record { interval = m; quota = Q }) n)) (length table)

-- below a place the entries are those of one row: nothing in no slots, and its quota more than in the slots that its interval leaves
pub record Stepped (m Q : ℕ) (table : List ℕ) (n : ℕ) : Type 0 where
  pub none : get_or table 0 0 ≡ 0
  pub steps : (j : ℕ) → 1 ≤ j → j < n → get_or table j 0 ≡ Q + get_or table (j - m) 0

-- the entries from one place to before another are made anew, each by its place, and the others are as they were
pub record Remade (before after : List ℕ) (from end : ℕ) (made : ℕ → ℕ) : Type 0 where
  pub anew : (j : ℕ) → from ≤ j → j < end → get_or after j 0 ≡ made j
  pub below : (j : ℕ) → j < from → get_or after j 0 ≡ get_or before j 0
  pub rest : (j : ℕ) → end ≤ j → get_or after j 0 ≡ get_or before j 0

-- an entry with one row more: it is not used, or once more than in the slots that its interval leaves
abbrev pub lowered : List ℕ → ℕ → ℕ → ℕ → ℕ
lowered table m Q j = min (get_or table j 0) (Q + get_or table (j - m) 0)

-- so many entries stand behind an interval's, and what is worked out of them fits
pub record Lowers (table : List ℕ) (from end m Q : ℕ) : Type 0 where
  pub behind : m ≤ from
  pub onward : from ≤ end
  pub inside : end ≤ length table
  pub fits : (j : ℕ) → from ≤ j → j < end → (get_or table j 0 ≤ largest_signed) × (Q + get_or table (j - m) 0 ≤ largest_signed)

-- a class whose numbers fit what is worked out of it: an interval and a quota that refusal 7 lets pass
pub record PairWithin (m Q : ℕ) : Type 0 where
  pub least : 1 ≤ m
  pub most : m ≤ 1024
  pub quota : Q ≤ 67_108_863

-- and rows that are declared ones
abbrev pub ClassWithin : Class → Type 0
ClassWithin (smooth m Q) = PairWithin m Q
ClassWithin (uniform m Q) = PairWithin m Q
ClassWithin (rows given k) = (1 ≤ k) × (k ≤ 4) × RowsInside given k
