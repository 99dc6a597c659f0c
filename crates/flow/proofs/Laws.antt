-- The laws of flows and their classes, as a list; no operator is in them. Theorems are those of source document 000.
use mathlib.Core.Path.{◌≡◌}
use mathlib.Core.Bool.{true}
use mathlib.Core.List.{List}
use mathlib.Core.Logic.{◌↔◌}
use Prim.Native.Nat.{ℕ, suc, ◌+◌, ◌-◌, ◌*◌, ◌/◌, ◌≤◌, ◌<◌, min}
use lib.Dec.{ltb}
use native.Mathlib.Nat.{add_assoc, le_trans}
use Rattle.quantity.specs.Sums.{total}
use Rattle.quantity.specs.Rounding.{round_up}
use Rattle.quantity.specs.Divisors.{Divides}
use Rattle.flow.specs.Flows.{Flow, flow_of, Smooth, Uniform, InTime, Behind, Envelope}
use Rattle.flow.specs.Classes.{Class, smooth, Positive, Keeps, most_in, most_delayed, blocks_met, changed_quota, changed_to, carries, burst_at}
use Rattle.flow.specs.Keeping.{keeps_class}
use Rattle.flow.specs.Rows.{Row, KeepsRows, units, most_of_rows, rows_most, row_carried, rows_carried, reach, greatest_of, rows_burst}
use Rattle.flow.proofs.Windows as Windows
use Rattle.flow.proofs.Reached as Reached
use Rattle.flow.proofs.Keeping as Keeping
use Rattle.flow.proofs.Rows as Rows
use Rattle.flow.proofs.RowsWindows as RowsWindows
use Rattle.flow.proofs.RowsBurst as RowsBurst
use Rattle.flow.proofs.RowsExample.{example_rows}
use Rattle.flow.proofs.RowsExample as RowsExample

-- Delays add (Theorem 6).
pub in-time-add : (D E : ℕ) (r s u : Flow) → InTime D r s → InTime E s u → InTime (D + E) r u
in-time-add D E r s u first second n = rw (← add_assoc) (le_trans (first n) (second (n + D)))

-- Windows, change of interval and envelope (Theorem 1).

pub uniform-is-smooth : (m Q : ℕ) (r : Flow) → Uniform m Q r → Smooth m Q r
uniform-is-smooth = Windows.uniform-is-smooth

-- no window of n slots has more than the most that the class carries in n slots
pub window : (c : Class) (r : Flow) → Positive c → Keeps c r → (a n : ℕ) → total r (a + n) ≤ total r a + most_in c n
window = Windows.window

-- the most never falls as the window grows
pub most-mono : (c : Class) → Positive c → (n n' : ℕ) → n ≤ n' → most_in c n ≤ most_in c n'
most-mono = Windows.most-mono

-- section 4's figure for delayers is no less than the most in as many slots
pub most-le-delayed : (c : Class) → Positive c → (n : ℕ) → most_in c n ≤ most_delayed c n
most-le-delayed = Windows.most-le-delayed

-- so no window of n slots has more than that figure
pub delayed-window : (c : Class) (r : Flow) → Positive c → Keeps c r → (a n : ℕ) → total r (a + n) ≤ total r a + most_delayed c n
delayed-window = Windows.delayed-window

-- A flow that is late by at most D has in n slots what the flow before it may have in n + D.
pub late-window : (D : ℕ) (most : ℕ → ℕ) (r s : Flow) → Behind r s → InTime D r s → ((n n' : ℕ) → n ≤ n' → most n ≤ most n') → ((a n : ℕ) → total r (a + n) ≤ total r a + most n)
    → (a n : ℕ) → total s (a + n) ≤ total s a + most (n + D)
late-window = Windows.late-window

-- smooth (10, 30): 30 in one slot, 60 in 2 to 11, 90 in 12, and 0 in none
pub most-example : (most_in (smooth 10 30) 0 ≡ 0) × (most_in (smooth 10 30) 1 ≡ 30) × (most_in (smooth 10 30) 2 ≡ 60) × (most_in (smooth 10 30) 11 ≡ 60) × (most_in (smooth 10 30) 12 ≡ 90)
most-example = Windows.most-example

-- the flow keeps the changed class
pub keeps-changed : (n : ℕ) (c : Class) (r : Flow) → Positive c → Keeps c r → Keeps (changed_to n c) r
keeps-changed = Windows.keeps-changed

pub smooth-of-changed : (n : ℕ) (c : Class) (r : Flow) → Keeps (changed_to n c) r → Smooth n (changed_quota n c) r
smooth-of-changed = Windows.smooth-of-changed

-- a smooth flow is smooth over blocks of n slots too, with Q for each block of m that such a block meets
pub smooth-changed : (m n Q : ℕ) (r : Flow) → 1 ≤ m → Smooth m Q r → Smooth n (blocks_met m n * Q) r
smooth-changed = Windows.smooth-changed

-- some flow has so much in one of its blocks of n slots
pub blocks-met-reached : (m n Q : ℕ) → 1 ≤ m → 1 ≤ n → (r : Flow) × (Smooth m Q r) × ((j : ℕ) × (total r (j * n + n) ≡ total r (j * n) + blocks_met m n * Q))
blocks-met-reached = Reached.blocks-met-reached

-- so no smaller quota holds of all smooth flows
pub blocks-met-least : (m n Q q : ℕ) → 1 ≤ m → 1 ≤ n → ((r : Flow) → Smooth m Q r → Smooth n q r) → blocks_met m n * Q ≤ q
blocks-met-least = Reached.blocks-met-least

-- where m divides n the blocks met are the whole blocks
pub blocks-met-whole : (m n : ℕ) → 1 ≤ m → 1 ≤ n → Divides m n → blocks_met m n ≡ n / m
blocks-met-whole = Reached.blocks-met-whole

-- at a rate that carries the class, the burst and the rate's units are enough for every number of slots
pub most-le-burst : (c : Class) (R : ℕ) → Positive c → carries c R ≡ true → (n : ℕ) → most_in c n ≤ burst_at c R + n * R
most-le-burst = Windows.most-le-burst

-- so in every window
pub envelope : (c : Class) (r : Flow) (R : ℕ) → Positive c → carries c R ≡ true → Keeps c r → Envelope (burst_at c R) R r
envelope = Windows.envelope

-- the burst does not fall as the rate falls
pub burst-falls : (c : Class) (P R : ℕ) → Positive c → P ≤ R → carries c P ≡ true → burst_at c R ≤ burst_at c P
burst-falls = Windows.burst-falls

-- The test of a list of slots decides section 2.

pub keeps-decided : (c : Class) (units : List ℕ) → Positive c → (keeps_class c units ≡ true) ↔ Keeps c (flow_of units)
keeps-decided c list = Keeping.keeps-decided list c

-- Several rows (source document 003).

-- nothing in no slots
pub rows_none : (rows : ℕ → Row) (k : ℕ) → rows_most rows k 0 ≡ 0
rows_none = Rows.rows_none

-- one row is a uniform class
pub rows-one : (rows : ℕ → Row) → 1 ≤ (rows 0).interval → (n : ℕ) → rows_most rows 1 n ≡ round_up n (rows 0).interval * (rows 0).quota
rows-one = Rows.rows-one

module _ (rows : ℕ → Row) (k : ℕ) (some : 1 ≤ k) (large : (i : ℕ) → i < k → 1 ≤ (rows i).interval) where
  -- with a row there is always a bound
  pub rows-bounded : (n : ℕ) → most_of_rows rows k n ≡ units (rows_most rows k n)
  rows-bounded = Rows.rows-bounded rows k some large

  -- one row more: it is not used, or once more
  pub rows_step : 1 ≤ (rows k).interval → (n : ℕ) → 1 ≤ n → rows_most rows (suc k) n ≡ min (rows_most rows k n) ((rows k).quota + rows_most rows (suc k) (n - (rows k).interval))
  rows_step = Rows.rows_step rows k some large

  -- for each row, at most its quota and the most in the slots that its interval leaves
  pub rows-any : (i : ℕ) → i < k → (n : ℕ) → rows_most rows k n ≤ (rows i).quota + rows_most rows k (n - (rows i).interval)
  rows-any = RowsWindows.rows-any rows k large

  -- for some row, just that
  pub rows-some : (n : ℕ) → 1 ≤ n → (i : ℕ) × (i < k) × (rows_most rows k n ≡ (rows i).quota + rows_most rows k (n - (rows i).interval))
  rows-some = RowsWindows.rows-some rows k some large

  pub rows-mono : (n n' : ℕ) → n ≤ n' → rows_most rows k n ≤ rows_most rows k n'
  rows-mono = RowsWindows.rows-mono rows k some large

  pub rows-subadditive : (a b : ℕ) → rows_most rows k (a + b) ≤ rows_most rows k a + rows_most rows k b
  rows-subadditive = RowsWindows.rows-subadditive rows k some large

  -- no window of n slots has more than the rows allow in n slots
  pub rows-window : (r : Flow) → KeepsRows rows k r → (a n : ℕ) → total r (a + n) ≤ total r a + rows_most rows k n
  rows-window = RowsWindows.rows-window rows k some large

  -- within a row's interval no more than its quota
  pub rows-within-quota : (i : ℕ) → i < k → (n : ℕ) → n ≤ (rows i).interval → rows_most rows k n ≤ (rows i).quota
  rows-within-quota = RowsWindows.rows-within-quota rows k some large

  -- one flow that keeps the rows has all of it, in the first n slots for every n
  pub rows-reached : (r : Flow) × (KeepsRows rows k r) × ((n : ℕ) → total r n ≡ rows_most rows k n)
  rows-reached = RowsWindows.rows-reached rows k some large

  -- so no smaller bound holds of all flows that keep the rows
  pub rows-least : (n q : ℕ) → ((r : Flow) → KeepsRows rows k r → (a : ℕ) → total r (a + n) ≤ total r a + q) → rows_most rows k n ≤ q
  rows-least = RowsWindows.rows-least rows k some large

  -- a burst that is enough within the interval of a row with Q ≤ m·P is enough in every window
  pub rows-envelope : (j P B : ℕ) → j < k → (rows j).quota ≤ (rows j).interval * P → ((n : ℕ) → 1 ≤ n → n ≤ (rows j).interval → rows_most rows k n ≤ B + n * P)
      → (n : ℕ) → rows_most rows k n ≤ B + n * P
  rows-envelope = RowsWindows.rows-envelope rows k some large

  -- the burst at a rate is the same whichever row with Q ≤ m·R is taken
  pub rows-burst-any : (R i : ℕ) → i < k → row_carried (rows i) R ≡ true → rows_burst rows k R ≡ greatest_of (λ n. rows_most rows k n - n * R) (rows i).interval
  rows-burst-any = RowsBurst.rows-burst-any rows k some large

  -- with the rate's units it is enough for every number of slots
  pub rows-burst-enough : (R : ℕ) → rows_carried rows k R ≡ true → (n : ℕ) → rows_most rows k n ≤ rows_burst rows k R + n * R
  rows-burst-enough = RowsBurst.rows-burst-enough rows k some large

  -- and no more than such a row's quota
  pub rows-burst-le : (R i : ℕ) → i < k → row_carried (rows i) R ≡ true → rows_burst rows k R ≤ (rows i).quota
  rows-burst-le = RowsBurst.rows-burst-le rows k some large

-- where no row has an interval above m, a rate sends the burst in fewer than m slots
pub rows-burst-slots : (rows : ℕ → Row) (k : ℕ) → 1 ≤ k → ((i : ℕ) → i < k → 1 ≤ (rows i).interval) → (R m : ℕ) → 1 ≤ m → ((i : ℕ) → i < k → (rows i).interval ≤ m) → rows_burst rows k R ≤ (m - 1) * R
rows-burst-slots = RowsBurst.rows-burst-slots

-- no more than so many units a slot
pub rows-at-most : (rows : ℕ → Row) (k q : ℕ) → 1 ≤ k → ((i : ℕ) → i < k → (1 ≤ (rows i).interval) × ((rows i).quota ≤ q)) → (n : ℕ) → rows_most rows k n ≤ n * q
rows-at-most = RowsWindows.rows-at-most

-- a rate carries the rows where it reaches over a row's interval
pub reach-carried : (rows : ℕ → Row) (k R : ℕ) → ((i : ℕ) → i < k → 1 ≤ (rows i).interval) → rows_carried rows k R ≡ ltb 0 (reach rows k R)
reach-carried = RowsBurst.reach-carried

pub reach-le : (rows : ℕ → Row) (k R m : ℕ) → ((i : ℕ) → i < k → (rows i).interval ≤ m) → reach rows k R ≤ m
reach-le = RowsBurst.reach-le

pub burst-at-most : (rows : ℕ → Row) (k R b : ℕ) → ((n : ℕ) → n ≤ reach rows k R → rows_most rows k n ≤ b) → rows_burst rows k R ≤ b
burst-at-most = RowsBurst.burst-at-most

-- rows (1, 9), (3, 15), (12, 48): one slot by the first row, 8 by the second, 12 by the last, 16 by all three
pub rows-example : (rows_most example_rows 3 1 ≡ 9) × (rows_most example_rows 3 8 ≡ 45) × (rows_most example_rows 3 12 ≡ 48) × (rows_most example_rows 3 16 ≡ 72)
rows-example = RowsExample.rows-example
