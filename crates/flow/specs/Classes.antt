-- Section 4's classes of flows, and the rows of document 02, item 6: what keeps one, the most in a window, the change of interval, the burst at a rate
-- and whether a rate carries it, after source documents 000, Theorem 1, and 003. What is above goes by these definitions and their laws.
use Rattle.std.specs.Prelude.{ℕ, zero, suc, ◌+◌, ◌-◌, ◌*◌, ◌/◌, ◌≤◌, ◌<◌, Bool, leb}
use Rattle.quantity.specs.Rounding.{round_up}
use Rattle.quantity.specs.Divisors.{gcd}
use Rattle.flow.specs.Flows.{Flow, Smooth, Uniform}
use Rattle.flow.specs.Rows.{Row, KeepsRows, rows_most, rows_carried, rows_burst}

-- smooth (m, Q), uniform (m, Q), or the first k of rows
pub data Class : Type 0 where
  smooth : ℕ → ℕ → Class
  uniform : ℕ → ℕ → Class
  rows : (ℕ → Row) → ℕ → Class

-- every interval has a slot, and there is a row
abbrev pub Positive : Class → Type 0
Positive (smooth m Q) = 1 ≤ m
Positive (uniform m Q) = 1 ≤ m
Positive (rows given k) = (1 ≤ k) × ((i : ℕ) → i < k → 1 ≤ (given i).interval)

-- a flow of the class
abbrev pub Keeps : Class → Flow → Type 0
Keeps (smooth m Q) r = Smooth m Q r
Keeps (uniform m Q) r = Uniform m Q r
Keeps (rows given k) r = KeepsRows given k r

-- the most that the class carries in n neighbouring slots (document 02, item 9): 0 in none; (⌈(n − 1)/m⌉+1)·Q for smooth, ⌈n/m⌉·Q for uniform, the bound for rows
unfoldable pub most_in : Class → ℕ → ℕ
most_in (smooth m Q) zero = 0
most_in (smooth m Q) (suc n) = (round_up n m + 1) * Q
most_in (uniform m Q) n = round_up n m * Q
most_in (rows given k) n = rows_most given k n

-- the most that delayers of e slots in all hold before any filter (section 4): (⌈e/m⌉+1)·Q for smooth, which may be more than the most in e slots; ⌈e/m⌉·Q for uniform, the bound for rows
unfoldable pub most_delayed : Class → ℕ → ℕ
most_delayed (smooth m Q) e = (round_up e m + 1) * Q
most_delayed (uniform m Q) e = round_up e m * Q
most_delayed (rows given k) e = rows_most given k e

-- how many blocks of m slots a block of n slots meets at the most: it begins at a multiple of the greatest common divisor within its block of m, so at m less that at the most
unfoldable pub blocks_met : ℕ → ℕ → ℕ
blocks_met m n = (m - gcd m n + n - 1) / m + 1

-- the quota behind a change of interval to n: c·Q, c the blocks met, for smooth; ⌈n/m⌉·Q for uniform; the bound at n for rows
unfoldable pub changed_quota : ℕ → Class → ℕ
changed_quota n (smooth m Q) = blocks_met m n * Q
changed_quota n (uniform m Q) = round_up n m * Q
changed_quota n (rows given k) = rows_most given k n

-- change of interval to n: smooth stays smooth; uniform stays uniform, and rows become it
unfoldable pub changed_to : ℕ → Class → Class
changed_to n (smooth m Q) = smooth n (changed_quota n (smooth m Q))
changed_to n (uniform m Q) = uniform n (changed_quota n (uniform m Q))
changed_to n (rows given k) = uniform n (changed_quota n (rows given k))

-- a rate carries the class: Q ≤ m·R, of one row at least
unfoldable pub carries : Class → ℕ → Bool
carries (smooth m Q) R = leb Q (m * R)
carries (uniform m Q) R = leb Q (m * R)
carries (rows given k) R = rows_carried given k R

-- the burst at a rate: 2·Q for smooth and Q for uniform, at any rate
unfoldable pub burst_at : Class → ℕ → ℕ
burst_at (smooth m Q) R = 2 * Q
burst_at (uniform m Q) R = Q
burst_at (rows given k) R = rows_burst given k R
