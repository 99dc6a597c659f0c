-- The most that several rows allow in n slots is, for each row, at most its quota and the most in the slots that its interval leaves, and for some
-- row just that. From this: it never falls, two windows have no less than one as long, every flow that keeps the rows keeps it, and one flow has it.
use mathlib.Core.Path.{◌≡◌, ap}
use mathlib.Core.Logic.{⊎_elim}
use Prim.Native.Nat.{ℕ, zero, suc, ◌+◌, ◌-◌, ◌*◌, ◌≤◌, ◌<◌}
use native.Mathlib.Nat.{not-suc-le-zero, le_of_suc-le-suc, eq-or-lt_of_le, add-mul, suc-mul, mul-le-mul_right}
use native.Mathlib.Decide.{dec_le}
use native.Mathlib.Omega.{arith}
use Rattle.quantity.specs.Sums.{total}
use Rattle.quantity.proofs.Sums.{total-zero}
use Rattle.flow.specs.Flows.{Flow}
use Rattle.flow.specs.Rows.{Row, KeepsRows, rows_most}
use Rattle.flow.proofs.Reached.{with-totals, total-with-totals}
use Rattle.flow.proofs.Rows.{from-below, rows_none, one-step, rows_step, last-le}

-- a row more allows no more
fewer-le : (rows : ℕ → Row) (k : ℕ) → 1 ≤ k → ((i : ℕ) → i < suc k → 1 ≤ (rows i).interval) → (n : ℕ) → rows_most rows (suc k) n ≤ rows_most rows k n
fewer-le rows k some large zero = omega (arith, rows_none rows (suc k))
fewer-le rows k some large (suc n) = omega (arith, rows_step rows k some (λ i less. large i (omega arith)) (large k (omega arith)) (suc n) (omega arith))

-- of the earlier rows: the last row's use in n − m_i slots, if there is one, is its use in n slots
earlier-le : (rows : ℕ → Row) (k : ℕ) → ((i : ℕ) → i < suc k → 1 ≤ (rows i).interval) → (i : ℕ) → i < k
    → ((n : ℕ) → rows_most rows k n ≤ (rows i).quota + rows_most rows k (n - (rows i).interval))
    → (n : ℕ) → rows_most rows (suc k) n ≤ (rows i).quota + rows_most rows (suc k) (n - (rows i).interval)
earlier-le rows k large i less before = from-below by_slots
  where
    by_slots : (n : ℕ) → ((j : ℕ) → j < n → rows_most rows (suc k) j ≤ (rows i).quota + rows_most rows (suc k) (j - (rows i).interval))
        → rows_most rows (suc k) n ≤ (rows i).quota + rows_most rows (suc k) (n - (rows i).interval)
    by_slots zero below = omega (arith, rows_none rows (suc k))
    by_slots (suc n) below =
        let m = (rows i).interval in
        let last = (rows k).interval in
        let fewer = fewer-le rows k (omega arith) large (suc n) in
        let early = before (suc n) in
        elim (dec_le (suc n) m) [
          | yes within ↦ let none : suc n - m ≡ 0 = omega arith in omega (arith, ap (rows_most rows k) none, rows_none rows k)
          | no beyond ↦
              let step = rows_step rows k (omega arith) (λ i less. large i (omega arith)) (large k (omega arith)) (suc n - m) (omega arith) in
              let order : suc n - m - last ≡ suc n - last - m = omega arith in
              omega (arith, ap (rows_most rows (suc k)) order, last-le rows k (large k (omega arith)) (suc n), below (suc n - last) (omega (arith, large k (omega arith))))
        ]

pub rows-any : (rows : ℕ → Row) (k : ℕ) → ((i : ℕ) → i < k → 1 ≤ (rows i).interval) → (i : ℕ) → i < k
    → (n : ℕ) → rows_most rows k n ≤ (rows i).quota + rows_most rows k (n - (rows i).interval)
rows-any rows zero large i less = absurd (not-suc-le-zero less)
rows-any rows (suc k) large i less =
    let before = rows-any rows k (λ j h. large j (omega arith)) i in
    ⊎_elim
    (λ same. rw same (last-le rows k (large k (omega arith))))
    (λ earlier. earlier-le rows k large i earlier (before earlier))
    (eq-or-lt_of_le (le_of_suc-le-suc less))

pub rows-some : (rows : ℕ → Row) (k : ℕ) → 1 ≤ k → ((i : ℕ) → i < k → 1 ≤ (rows i).interval)
    → (n : ℕ) → 1 ≤ n → (i : ℕ) × (i < k) × (rows_most rows k n ≡ (rows i).quota + rows_most rows k (n - (rows i).interval))
rows-some rows zero some large n positive = absurd (not-suc-le-zero some)
rows-some rows (suc zero) some large n positive = (0, some, one-step rows (large 0 some) n positive)
rows-some rows (suc (suc k)) some large n positive =
    let all = suc (suc k) in
    let step = rows_step rows (suc k) (omega arith) (λ i less. large i (omega arith)) (large (suc k) (omega arith)) n positive in
    let (i, less, reached) = rows-some rows (suc k) (omega arith) (λ i less. large i (omega arith)) n positive in
    elim (dec_le (rows_most rows (suc k) n) ((rows (suc k)).quota + rows_most rows all (n - (rows (suc k)).interval))) [
      | yes unused ↦ (i, omega arith, omega (arith, fewer-le rows (suc k) (omega arith) large (n - (rows i).interval), rows-any rows all large i (omega arith) n))
      | no used ↦ (suc k, omega arith, omega arith)
    ]

module _ (rows : ℕ → Row) (k : ℕ) (some : 1 ≤ k) (large : (i : ℕ) → i < k → 1 ≤ (rows i).interval) where
  pub rows-mono : (n n' : ℕ) → n ≤ n' → rows_most rows k n ≤ rows_most rows k n'
  rows-mono n n' = from-below by_slots n' n
    where
      by_slots : (n' : ℕ) → ((j : ℕ) → j < n' → (n : ℕ) → n ≤ j → rows_most rows k n ≤ rows_most rows k j) → (n : ℕ) → n ≤ n' → rows_most rows k n ≤ rows_most rows k n'
      by_slots zero below n h = let none : n ≡ 0 = omega arith in omega (arith, ap (rows_most rows k) none)
      by_slots (suc n') below n h =
          let (i, less, reached) = rows-some rows k some large (suc n') (omega arith) in
          let m = (rows i).interval in
          omega (arith, rows-any rows k large i less n, below (suc n' - m) (omega (arith, large i less)) (n - m) (omega arith))

  pub rows-subadditive : (a b : ℕ) → rows_most rows k (a + b) ≤ rows_most rows k a + rows_most rows k b
  rows-subadditive a b = from-below by_slots a
    where
      by_slots : (a : ℕ) → ((j : ℕ) → j < a → rows_most rows k (j + b) ≤ rows_most rows k j + rows_most rows k b) → rows_most rows k (a + b) ≤ rows_most rows k a + rows_most rows k b
      by_slots zero below = let same : 0 + b ≡ b = omega arith in omega (arith, ap (rows_most rows k) same)
      by_slots (suc a) below =
          let (i, less, reached) = rows-some rows k some large (suc a) (omega arith) in
          let m = (rows i).interval in
          omega
          (arith, rows-any rows k large i less (suc a + b), rows-mono (suc a + b - m) (suc a - m + b) (omega arith), below (suc a - m) (omega (arith, large i less)))

  pub rows-window : (r : Flow) → KeepsRows rows k r → (a n : ℕ) → total r (a + n) ≤ total r a + rows_most rows k n
  rows-window r keeps a = from-below by_slots
    where
      by_slots : (n : ℕ) → ((j : ℕ) → j < n → total r (a + j) ≤ total r a + rows_most rows k j) → total r (a + n) ≤ total r a + rows_most rows k n
      by_slots zero below = let same : a + 0 ≡ a = omega arith in omega (arith, ap (total r) same)
      by_slots (suc n) below =
          let (i, less, reached) = rows-some rows k some large (suc n) (omega arith) in
          let left = suc n - (rows i).interval in
          let ends : a + left + (suc n - left) ≡ a + suc n = omega arith in
          omega (arith, ap (total r) ends, keeps i less (a + left) (suc n - left) (omega arith), below left (omega (arith, large i less)))

  pub rows-within-quota : (i : ℕ) → i < k → (n : ℕ) → n ≤ (rows i).interval → rows_most rows k n ≤ (rows i).quota
  rows-within-quota i less n h =
      let none : n - (rows i).interval ≡ 0 = omega arith in
      omega (arith, rows-any rows k large i less n, ap (rows_most rows k) none, rows_none rows k)

  pub rows-reached : (r : Flow) × (KeepsRows rows k r) × ((n : ℕ) → total r n ≡ rows_most rows k n)
  rows-reached =
      let r = with-totals (rows_most rows k) in
      let totals = total-with-totals (rows_most rows k) (rows_none rows k) (λ t. rows-mono t (suc t) (omega arith)) in (
        r,
        λ i less a n h. omega (arith, totals (a + n), totals a, rows-subadditive a n, rows-within-quota i less n h),
        totals,
      )

  pub rows-least : (n q : ℕ) → ((r : Flow) → KeepsRows rows k r → (a : ℕ) → total r (a + n) ≤ total r a + q) → rows_most rows k n ≤ q
  rows-least n q all =
      let (r, keeps, totals) = rows-reached in
      let same : 0 + n ≡ n = omega arith in
      omega (arith, all r keeps 0, ap (total r) same, totals n, total-zero r)

  pub rows-envelope : (j P B : ℕ) → j < k → (rows j).quota ≤ (rows j).interval * P
      → ((n : ℕ) → 1 ≤ n → n ≤ (rows j).interval → rows_most rows k n ≤ B + n * P)
      → (n : ℕ) → rows_most rows k n ≤ B + n * P
  rows-envelope j P B less slow within = from-below by_slots
    where
      by_slots : (n : ℕ) → ((i : ℕ) → i < n → rows_most rows k i ≤ B + i * P) → rows_most rows k n ≤ B + n * P
      by_slots zero below = omega (arith, rows_none rows k)
      by_slots (suc n) below =
          let m = (rows j).interval in
          elim (dec_le (suc n) m) [
            | yes inside ↦ within (suc n) (omega arith) inside
            | no beyond ↦
                let whole : suc n - m + m ≡ suc n = omega arith in
                omega (arith, rows-any rows k large j less (suc n), below (suc n - m) (omega (arith, large j less)), add-mul (suc n - m) m P, ap (λ (x : ℕ). x * P) whole)
          ]

-- no more than so many a slot
pub rows-at-most : (rows : ℕ → Row) (k q : ℕ) → 1 ≤ k → ((i : ℕ) → i < k → (1 ≤ (rows i).interval) × ((rows i).quota ≤ q)) → (n : ℕ) → rows_most rows k n ≤ n * q
rows-at-most rows k q some each = from-below by_slots
  where
    by_slots : (n : ℕ) → ((j : ℕ) → j < n → rows_most rows k j ≤ j * q) → rows_most rows k n ≤ n * q
    by_slots zero below = omega (arith, rows_none rows k)
    by_slots (suc n) below =
        let (large, few) = each 0 some in
        let rest = suc n - (rows 0).interval in
        let fewer : suc rest ≤ suc n = omega arith in
        omega (arith, rows-any rows k (λ i less. (each i less).0) 0 some (suc n), below rest (omega arith), mul-le-mul_right q fewer, suc-mul rest q)
