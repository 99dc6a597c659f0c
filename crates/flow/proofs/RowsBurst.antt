-- The burst of several rows at a rate: with the rate's units it is enough for every number of slots, the same whichever row with Q ≤ m·R is taken, and does not fall as the rate falls.
use mathlib.Core.Path.{◌≡◌, refl, ap, sym, ◌∙◌}
use mathlib.Core.Bool.{Bool, true, false, true≢false}
use mathlib.Core.Logic.{⊎_elim}
use Prim.Native.Nat.{ℕ, zero, suc, ◌+◌, ◌-◌, ◌*◌, ◌≤◌, ◌<◌}
use native.Mathlib.Nat.{not-suc-le-zero, le_of_suc-le-suc, eq-or-lt_of_le, mul-le-mul_left, mul-le-mul_right, suc-mul}
use native.Mathlib.Omega.{arith}
use borrow.Author.Tests.{leb-true, lt-ltb, le-ltb}
use lib.Dec.{ltb}
use Rattle.quantity.proofs.Laws.{either_first, either_second, either-false}
use Rattle.flow.specs.Rows.{Row, rows_most, row_carried, rows_carried, reach, greatest_of, rows_burst}
use Rattle.flow.proofs.RowsWindows.{rows-within-quota, rows-envelope}

-- the greatest is at least each, and at most what each is at most
pub greatest-each : (f : ℕ → ℕ) (n i : ℕ) → 1 ≤ i → i ≤ n → f i ≤ greatest_of f n
unfolding greatest_of
greatest-each f zero i positive less = absurd (omega arith)
greatest-each f (suc n) i positive less = ⊎_elim (λ same. rw same (omega arith)) (λ below. omega (arith, greatest-each f n i positive (le_of_suc-le-suc below))) (eq-or-lt_of_le less)

pub greatest-le : (f : ℕ → ℕ) (n b : ℕ) → ((i : ℕ) → 1 ≤ i → i ≤ n → f i ≤ b) → greatest_of f n ≤ b
unfolding greatest_of
greatest-le f zero b each = omega arith
greatest-le f (suc n) b each = omega (arith, greatest-le f n b (λ i positive less. each i positive (omega arith)), each (suc n) (omega arith) (omega arith))

-- a row that the rate carries is among the first k, and its interval is the reach
pub carried_row : (rows : ℕ → Row) (k R : ℕ) → rows_carried rows k R ≡ true → (i : ℕ) × (i < k) × (row_carried (rows i) R ≡ true) × (reach rows k R ≡ (rows i).interval)
unfolding rows_carried reach
carried_row rows zero R e = absurd (true≢false (sym e))
carried_row rows (suc k) R e = by-earlier (rows_carried rows k R) refl (carried_row rows k R)
  where
    Carrying : ℕ → Type 0
    Carrying n = (i : ℕ) × (i < n) × (row_carried (rows i) R ≡ true) × (reach rows n R ≡ (rows i).interval)

    by-earlier : (earlier : Bool) → rows_carried rows k R ≡ earlier → (rows_carried rows k R ≡ true → Carrying k) → Carrying (suc k)
    by-earlier true some before = let (i, less, carried, interval) = before some in (i, omega arith, carried, rw some interval)
    by-earlier false none before = let last : row_carried (rows k) R ≡ true = rw none at e in (k, omega arith, last, rw (none, last))

pub any-carried : (rows : ℕ → Row) (k R i : ℕ) → i < k → row_carried (rows i) R ≡ true → rows_carried rows k R ≡ true
unfolding rows_carried
any-carried rows zero R i less carried = absurd (not-suc-le-zero less)
any-carried rows (suc k) R i less carried =
    ⊎_elim
    (λ same. either_second (rows_carried rows k R) (row_carried (rows k) R) (ap (λ (j : ℕ). row_carried (rows j) R) (sym same) ∙ carried))
    (λ below. either_first (rows_carried rows k R) (row_carried (rows k) R) (any-carried rows k R i below carried))
    (eq-or-lt_of_le (le_of_suc-le-suc less))

-- where there is none the reach is 0
reach-none : (rows : ℕ → Row) (k R : ℕ) → rows_carried rows k R ≡ false → reach rows k R ≡ 0
unfolding rows_carried reach
reach-none rows zero R e = refl
reach-none rows (suc k) R e = let (earlier, last) = either-false (rows_carried rows k R) (row_carried (rows k) R) e in rw (earlier, last)

pub reach-carried : (rows : ℕ → Row) (k R : ℕ) → ((i : ℕ) → i < k → 1 ≤ (rows i).interval) → rows_carried rows k R ≡ ltb 0 (reach rows k R)
reach-carried rows k R large = by-test (rows_carried rows k R) refl
  where
    by-test : (t : Bool) → rows_carried rows k R ≡ t → t ≡ ltb 0 (reach rows k R)
    by-test true e = let (i, less, own, reached) = carried_row rows k R e in sym (lt-ltb 0 (reach rows k R) (omega (arith, reached, large i less)))
    by-test false e = sym (le-ltb 0 (reach rows k R) (omega (arith, reach-none rows k R e)))

pub reach-le : (rows : ℕ → Row) (k R m : ℕ) → ((i : ℕ) → i < k → (rows i).interval ≤ m) → reach rows k R ≤ m
reach-le rows k R m short = by-test (rows_carried rows k R) refl
  where
    by-test : (t : Bool) → rows_carried rows k R ≡ t → reach rows k R ≤ m
    by-test true e = let (i, less, own, reached) = carried_row rows k R e in omega (arith, reached, short i less)
    by-test false e = omega (arith, reach-none rows k R e)

pub burst-at-most : (rows : ℕ → Row) (k R b : ℕ) → ((n : ℕ) → n ≤ reach rows k R → rows_most rows k n ≤ b) → rows_burst rows k R ≤ b
unfolding rows_burst
burst-at-most rows k R b each = greatest-le (λ n. rows_most rows k n - n * R) (reach rows k R) b (λ n positive within. omega (arith, each n within))

module _ (rows : ℕ → Row) (k : ℕ) (some : 1 ≤ k) (large : (i : ℕ) → i < k → 1 ≤ (rows i).interval) where
  -- what the bound has above the rate
  abbrev above : ℕ → ℕ → ℕ
  above R n = rows_most rows k n - n * R

  -- a greatest over the interval of a row that the rate carries is enough in every window
  enough : (R i : ℕ) → i < k → row_carried (rows i) R ≡ true → (n : ℕ) → rows_most rows k n ≤ greatest_of (above R) (rows i).interval + n * R
  unfolding row_carried
  enough R i less carried =
      rows-envelope rows k some large i R (greatest_of (above R) (rows i).interval) less (leb-true _ _ carried)
      (λ n positive within. omega (arith, greatest-each (above R) (rows i).interval n positive within))

  -- so it is the burst, whichever such row is taken
  pub rows-burst-any : (R i : ℕ) → i < k → row_carried (rows i) R ≡ true → rows_burst rows k R ≡ greatest_of (above R) (rows i).interval
  unfolding rows_burst
  rows-burst-any R i less carried =
      let (j, first, own, reached) = carried_row rows k R (any-carried rows k R i less carried) in
      let least = greatest-le (above R) (rows j).interval (greatest_of (above R) (rows i).interval) (λ n positive within. omega (arith, enough R i less carried n)) in
      let most = greatest-le (above R) (rows i).interval (greatest_of (above R) (rows j).interval) (λ n positive within. omega (arith, enough R j first own n)) in
      rw reached (omega arith)

  pub rows-burst-enough : (R : ℕ) → rows_carried rows k R ≡ true → (n : ℕ) → rows_most rows k n ≤ rows_burst rows k R + n * R
  rows-burst-enough R carried n =
      let (i, less, own, reached) = carried_row rows k R carried in
      omega (arith, rows-burst-any R i less own, enough R i less own n)

  pub rows-burst-falls : (P R : ℕ) → P ≤ R → rows_carried rows k P ≡ true → rows_burst rows k R ≤ rows_burst rows k P
  unfolding rows_burst
  rows-burst-falls P R slower carried =
      greatest-le (above R) (reach rows k R) (rows_burst rows k P) (λ n positive within. omega (arith, rows-burst-enough P carried n, mul-le-mul_left n slower))

  -- no more than the quota of a row that the rate carries
  pub rows-burst-le : (R i : ℕ) → i < k → row_carried (rows i) R ≡ true → rows_burst rows k R ≤ (rows i).quota
  rows-burst-le R i less carried =
      rw (rows-burst-any R i less carried)
      (greatest-le (above R) (rows i).interval (rows i).quota (λ n positive within. omega (arith, rows-within-quota rows k some large i less n within)))

  -- the burst is sent in fewer slots than the interval of such a row has: within it no more comes than its quota, and a slot is over
  pub rows-burst-slots : (R m : ℕ) → 1 ≤ m → ((i : ℕ) → i < k → (rows i).interval ≤ m) → rows_burst rows k R ≤ (m - 1) * R
  unfolding rows_burst
  rows-burst-slots R m positive short = by-test (rows_carried rows k R) refl
    where
      one_less : (m : ℕ) → 1 ≤ m → m * R ≡ (m - 1) * R + R
      one_less zero positive = absurd (not-suc-le-zero positive)
      one_less (suc m) positive = let before : suc m - 1 ≡ m = omega arith in rw before (suc-mul m R)

      by-test : (t : Bool) → rows_carried rows k R ≡ t → greatest_of (above R) (reach rows k R) ≤ (m - 1) * R
      by-test true e =
          let (i, less, own, reached) = carried_row rows k R e in
          let carried : (rows i).quota ≤ (rows i).interval * R = unfold row_carried in leb-true _ _ own in
          rw reached
          (greatest-le (above R) (rows i).interval ((m - 1) * R)
          (λ n some-slot within. omega (arith, rows-within-quota rows k some large i less n within, mul-le-mul_right R (short i less), one_less m positive, mul-le-mul_right R some-slot)))
      by-test false e = rw (reach-none rows k R e) (unfold greatest_of in omega arith)
