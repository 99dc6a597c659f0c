-- Document 02, item 6, after source document 003: a source with several rates. Each row is an interval and a quota, and a flow keeps all of them;
-- the most that the rows allow in n slots.
use Rattle.std.specs.Prelude.{ℕ, zero, suc, ◌+◌, ◌-◌, ◌*◌, ◌<◌, min, max, Bool, false, leb}
use Rattle.quantity.specs.Choice.{pick, either}
use Rattle.quantity.specs.Rounding.{round_up}
use Rattle.flow.specs.Flows.{Flow, Uniform}

-- a row: at most so many units in any so many neighbouring slots
pub record Row : Type 0 where
  pub interval : ℕ
  pub quota : ℕ

-- a flow keeps the first k rows, all of them binding
abbrev pub KeepsRows : (ℕ → Row) → ℕ → Flow → Type 0
KeepsRows rows k r = (i : ℕ) → i < k → Uniform (rows i).interval (rows i).quota r

-- so many units at the most, or no bound
pub data Most : Type 0 where
  unbounded : Most
  units : ℕ → Most

-- the smaller of two bounds
unfoldable pub smaller : Most → Most → Most
smaller unbounded b = b
smaller (units a) unbounded = units a
smaller (units a) (units b) = units (min a b)

-- a bound and so many units more
unfoldable pub with_units : ℕ → Most → Most
with_units q unbounded = unbounded
with_units q (units a) = units (q + a)

-- the least of f 0 to f n
unfoldable pub least_of : (ℕ → Most) → ℕ → Most
least_of f zero = f 0
least_of f (suc n) = smaller (least_of f n) (f (suc n))

-- in no slots there is nothing; in some, with no rows left, there is no bound
unfoldable pub no_rows : ℕ → Most
no_rows zero = units 0
no_rows (suc n) = unbounded

-- one row behind others, of which the most in each number of slots is known: the least, over l from 0 to ⌈n/m⌉, of l·Q plus the most that the
-- earlier rows allow in n − l·m slots; for n at or below 0 it is 0
unfoldable pub behind_rows : (ℕ → Most) → Row → ℕ → Most
behind_rows earlier row zero = units 0
behind_rows earlier row (suc n) = least_of (λ l. with_units (l * row.quota) (earlier (suc n - l * row.interval))) (round_up (suc n) row.interval)

-- the most that the first k rows allow in n slots, worked out row by row from the last
unfoldable pub most_of_rows : (ℕ → Row) → ℕ → ℕ → Most
most_of_rows rows zero = no_rows
most_of_rows rows (suc k) = behind_rows (most_of_rows rows k) (rows k)

-- the units of a bound; where there is none 0, which is no case of any rows at all
unfoldable pub units_in : Most → ℕ
units_in unbounded = 0
units_in (units a) = a

-- the bound of one row or more as a number
unfoldable pub rows_most : (ℕ → Row) → ℕ → ℕ → ℕ
rows_most rows k n = units_in (most_of_rows rows k n)

-- a row with Q ≤ m·R
unfoldable pub row_carried : Row → ℕ → Bool
row_carried row R = leb row.quota (row.interval * R)

-- there is one among the first k rows
unfoldable pub rows_carried : (ℕ → Row) → ℕ → ℕ → Bool
rows_carried rows zero R = false
rows_carried rows (suc k) R = either (rows_carried rows k R) (row_carried (rows k) R)

-- the interval of the first such row, 0 where there is none
unfoldable pub reach : (ℕ → Row) → ℕ → ℕ → ℕ
reach rows zero R = 0
reach rows (suc k) R = pick (rows_carried rows k R) (reach rows k R) (pick (row_carried (rows k) R) (rows k).interval 0)

-- the greatest of f 1 to f n, never below 0
unfoldable pub greatest_of : (ℕ → ℕ) → ℕ → ℕ
greatest_of f zero = 0
greatest_of f (suc n) = max (greatest_of f n) (f (suc n))

-- the burst at a rate: the greatest of the most in n slots less n·R, over n from 1 to that row's m and never below 0
unfoldable pub rows_burst : (ℕ → Row) → ℕ → ℕ → ℕ
rows_burst rows k R = greatest_of (λ n. rows_most rows k n - n * R) (reach rows k R)
