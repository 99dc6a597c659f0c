-- The most that several rows allow (document 02, item 6), by one step: of the uses of the last row there is none, or one and then the others. So
-- with one row or more there is a bound, and it is a number worked out by a minimum.
use mathlib.Core.Path.{◌≡◌, refl, ap, ap₂, sym, ◌∙◌}
use Prim.Native.Nat.{ℕ, zero, suc, ◌+◌, ◌-◌, ◌*◌, ◌≤◌, ◌<◌, min}
use native.Mathlib.Nat.{le_refl, not-suc-le-zero, zero-mul, suc-mul}
use native.Mathlib.Omega.{arith}
use Rattle.quantity.specs.Rounding.{round_up}
use Rattle.quantity.proofs.Rounding.{round-up-enough, round-up-least}
use Rattle.flow.specs.Rows.{Row, Most, unbounded, units, smaller, with_units, least_of, no_rows, behind_rows, most_of_rows, units_in, rows_most}

-- what follows from all below holds of every number
pub from-below : {P : ℕ → Type 0} → ((n : ℕ) → ((j : ℕ) → j < n → P j) → P n) → (n : ℕ) → P n
from-below {P} step n = below (suc n) n (le_refl (suc n))
  where
    below : (n j : ℕ) → j < n → P j
    below zero j h = absurd (not-suc-le-zero h)
    below (suc n) j h = step j (λ i less. below n i (omega arith))

round-up-none : (m : ℕ) → 1 ≤ m → round_up 0 m ≡ 0
round-up-none m large = omega (arith, round-up-least 0 m 0 large (omega arith))

-- one interval more is one more
round-up-next : (n m : ℕ) → 1 ≤ m → 1 ≤ n → round_up n m ≡ suc (round_up (n - m) m)
round-up-next n m large some = by-rounded (round_up n m) (round-up-enough n m large) (round-up-least n m)
  where
    by-rounded : (l : ℕ) → n ≤ l * m → ((j : ℕ) → 1 ≤ m → n ≤ j * m → l ≤ j) → l ≡ suc (round_up (n - m) m)
    by-rounded zero enough least = absurd (omega (arith, zero-mul m))
    by-rounded (suc l) enough least =
        let rest = round_up (n - m) m in
        let most : rest ≤ l = round-up-least (n - m) m l large (omega (arith, suc-mul l m)) in
        omega (arith, least (suc rest) large (omega (arith, suc-mul rest m, round-up-enough (n - m) m large)))

-- Bounds.

smaller-assoc : (a b c : Most) → smaller (smaller a b) c ≡ smaller a (smaller b c)
unfolding smaller
smaller-assoc unbounded b c = refl
smaller-assoc (units a) unbounded c = refl
smaller-assoc (units a) (units b) unbounded = refl
smaller-assoc (units a) (units b) (units c) = ap units (omega arith)

with-smaller : (q : ℕ) (a b : Most) → with_units q (smaller a b) ≡ smaller (with_units q a) (with_units q b)
unfolding smaller with_units
with-smaller q unbounded b = refl
with-smaller q (units a) unbounded = refl
with-smaller q (units a) (units b) = ap units (omega arith)

with_none : (a : Most) → with_units 0 a ≡ a
unfolding with_units
with_none unbounded = refl
with_none (units a) = ap units (omega arith)

with-both : (q p : ℕ) (a : Most) → with_units (q + p) a ≡ with_units q (with_units p a)
unfolding with_units
with-both q p unbounded = refl
with-both q p (units a) = ap units (omega arith)

-- the first apart
least_first : (f : ℕ → Most) (n : ℕ) → least_of f (suc n) ≡ smaller (f 0) (least_of (λ l. f (suc l)) n)
unfolding least_of
least_first f zero = refl
least_first f (suc n) = ap (λ (a : Most). smaller a (f (suc (suc n)))) (least_first f n) ∙ smaller-assoc (f 0) (least_of (λ l. f (suc l)) n) (f (suc (suc n)))

-- so many units more in each are so many more in the least
least-with : (q : ℕ) (f g : ℕ → Most) → ((l : ℕ) → f l ≡ with_units q (g l)) → (n : ℕ) → least_of f n ≡ with_units q (least_of g n)
unfolding least_of
least-with q f g more zero = more 0
least-with q f g more (suc n) = ap₂ smaller (least-with q f g more n) (more (suc n)) ∙ sym (with-smaller q (least_of g n) (g (suc n)))

-- whatever the earlier rows allow, the last is a bound
smaller-bounded : (q : ℕ) (a b : Most) {c : Most} → c ≡ smaller a (with_units q b) → b ≡ units (units_in b) → c ≡ units (units_in c)
unfolding smaller with_units units_in
smaller-bounded q a unbounded e bounded = let z : ◌≡◌ {A = ℕ} 0 1 = cc in absurd (omega arith)
smaller-bounded q unbounded (units b) e bounded = e ∙ ap (λ (c : Most). units (units_in c)) (sym e)
smaller-bounded q (units a) (units b) e bounded = e ∙ ap (λ (c : Most). units (units_in c)) (sym e)

-- l uses of a row, and the earlier rows in what is left
uses : (ℕ → Most) → Row → ℕ → ℕ → Most
uses earlier row n l = with_units (l * row.quota) (earlier (n - l * row.interval))

module _ (earlier : ℕ → Most) (row : Row) (nothing : earlier 0 ≡ units 0) (large : 1 ≤ row.interval) where
  abbrev m : ℕ
  m = row.interval

  no-use : (n : ℕ) → uses earlier row n 0 ≡ earlier n
  unfolding uses
  no-use n = rw (zero-mul row.quota, with_none) (ap earlier (omega (arith, zero-mul m)))

  one-use : (n l : ℕ) → uses earlier row n (suc l) ≡ with_units row.quota (uses earlier row (n - m) l)
  unfolding uses
  one-use n l =
      ap₂ (λ (q : ℕ) (j : ℕ). with_units q (earlier j)) (omega (arith, suc-mul l row.quota)) (omega (arith, suc-mul l m))
      ∙ with-both row.quota (l * row.quota) (earlier (n - m - l * m))

  behind-least : (n : ℕ) → behind_rows earlier row n ≡ least_of (uses earlier row n) (round_up n m)
  unfolding behind_rows uses least_of
  behind-least zero = rw (round-up-none m large) (sym (no-use 0 ∙ nothing))
  behind-least (suc n) = refl

  behind-step : (n : ℕ) → 1 ≤ n → behind_rows earlier row n ≡ smaller (earlier n) (with_units row.quota (behind_rows earlier row (n - m)))
  behind-step n some =
      behind-least n
      ∙ ap (least_of (uses earlier row n)) (round-up-next n m large some)
      ∙ least_first (uses earlier row n) (round_up (n - m) m)
      ∙ ap₂ smaller (no-use n) (least-with row.quota (λ l. uses earlier row n (suc l)) (uses earlier row (n - m)) (one-use n) (round_up (n - m) m))
      ∙ ap (λ (a : Most). smaller (earlier n) (with_units row.quota a)) (sym (behind-least (n - m)))

  behind-nothing : behind_rows earlier row 0 ≡ units (units_in (behind_rows earlier row 0))
  unfolding behind_rows units_in
  behind-nothing = refl

  behind-bounded : (n : ℕ) → behind_rows earlier row n ≡ units (units_in (behind_rows earlier row n))
  behind-bounded = from-below by_slots
    where
      by_slots : (n : ℕ) → ((j : ℕ) → j < n → behind_rows earlier row j ≡ units (units_in (behind_rows earlier row j))) → behind_rows earlier row n ≡ units (units_in (behind_rows earlier row n))
      by_slots zero below = behind-nothing
      by_slots (suc n) below = smaller-bounded row.quota (earlier (suc n)) (behind_rows earlier row (suc n - m)) (behind-step (suc n) (omega arith)) (below (suc n - m) (omega arith))

  -- as numbers, where the earlier rows have a bound
  pub behind-number : (n a : ℕ) → 1 ≤ n → earlier n ≡ units a → units_in (behind_rows earlier row n) ≡ min a (row.quota + units_in (behind_rows earlier row (n - m)))
  unfolding smaller with_units units_in
  behind-number n a some here = ap units_in (behind-step n some ∙ ap₂ (λ (x y : Most). smaller x (with_units row.quota y)) here (behind-bounded (n - m)))

-- Rows.

rows-nothing : (rows : ℕ → Row) (k : ℕ) → most_of_rows rows k 0 ≡ units 0
unfolding most_of_rows no_rows behind_rows
rows-nothing rows zero = refl
rows-nothing rows (suc k) = refl

pub rows_none : (rows : ℕ → Row) (k : ℕ) → rows_most rows k 0 ≡ 0
unfolding rows_most units_in
rows_none rows k = ap units_in (rows-nothing rows k)

module _ (rows : ℕ → Row) (k : ℕ) (large : 1 ≤ (rows k).interval) where
  most_step : (n : ℕ) → 1 ≤ n → most_of_rows rows (suc k) n ≡ smaller (most_of_rows rows k n) (with_units (rows k).quota (most_of_rows rows (suc k) (n - (rows k).interval)))
  unfolding most_of_rows
  most_step = behind-step (most_of_rows rows k) (rows k) (rows-nothing rows k) large

  last-bounded : (n : ℕ) → most_of_rows rows (suc k) n ≡ units (rows_most rows (suc k) n)
  unfolding rows_most most_of_rows
  last-bounded = behind-bounded (most_of_rows rows k) (rows k) (rows-nothing rows k) large

  last_step : (n : ℕ) → 1 ≤ n → most_of_rows rows (suc k) n ≡ smaller (most_of_rows rows k n) (units ((rows k).quota + rows_most rows (suc k) (n - (rows k).interval)))
  unfolding with_units
  last_step n some = most_step n some ∙ ap (λ (a : Most). smaller (most_of_rows rows k n) (with_units (rows k).quota a)) (last-bounded (n - (rows k).interval))

  pub last-le : (n : ℕ) → rows_most rows (suc k) n ≤ (rows k).quota + rows_most rows (suc k) (n - (rows k).interval)
  unfolding smaller
  last-le zero = omega (arith, rows_none rows (suc k))
  last-le (suc n) = smaller-le (most_of_rows rows k (suc n)) (last_step (suc n) (omega arith)) (last-bounded (suc n))
    where
      smaller-le : (a : Most) {c : Most} {b w : ℕ} → c ≡ smaller a (units b) → c ≡ units w → w ≤ b
      smaller-le unbounded {b = b} {w = w} e f = let same : w ≡ b = cc in omega arith
      smaller-le (units a) {b = b} {w = w} e f = let same : w ≡ min a b = cc in omega arith

pub rows-bounded : (rows : ℕ → Row) (k : ℕ) → 1 ≤ k → ((i : ℕ) → i < k → 1 ≤ (rows i).interval) → (n : ℕ) → most_of_rows rows k n ≡ units (rows_most rows k n)
rows-bounded rows zero some large = absurd (omega arith)
rows-bounded rows (suc k) some large = last-bounded rows k (large k (le_refl (suc k)))

-- one row, once more
pub one-step : (rows : ℕ → Row) → 1 ≤ (rows 0).interval → (n : ℕ) → 1 ≤ n → rows_most rows 1 n ≡ (rows 0).quota + rows_most rows 1 (n - (rows 0).interval)
unfolding rows_most most_of_rows no_rows smaller units_in
one-step rows large zero some = absurd (omega arith)
one-step rows large (suc n) some = ap units_in (last_step rows 0 large (suc n) some)

pub rows-one : (rows : ℕ → Row) → 1 ≤ (rows 0).interval → (n : ℕ) → rows_most rows 1 n ≡ round_up n (rows 0).interval * (rows 0).quota
rows-one rows large = from-below by_slots
  where
    by_slots : (n : ℕ) → ((j : ℕ) → j < n → rows_most rows 1 j ≡ round_up j (rows 0).interval * (rows 0).quota) → rows_most rows 1 n ≡ round_up n (rows 0).interval * (rows 0).quota
    by_slots zero below = rows_none rows 1 ∙ sym (rw (round-up-none (rows 0).interval large) (zero-mul (rows 0).quota))
    by_slots (suc n) below =
        let m = (rows 0).interval in
        rw (round-up-next (suc n) m large (omega arith))
        (omega (arith, one-step rows large (suc n) (omega arith), below (suc n - m) (omega arith), suc-mul (round_up (suc n - m) m) (rows 0).quota))

-- one row more than k: it is not used, or once more
pub rows_step : (rows : ℕ → Row) (k : ℕ) → 1 ≤ k → ((i : ℕ) → i < k → 1 ≤ (rows i).interval) → 1 ≤ (rows k).interval
    → (n : ℕ) → 1 ≤ n → rows_most rows (suc k) n ≡ min (rows_most rows k n) ((rows k).quota + rows_most rows (suc k) (n - (rows k).interval))
unfolding rows_most smaller units_in
rows_step rows k some large last n positive =
    let more = (rows k).quota + rows_most rows (suc k) (n - (rows k).interval) in
    ap units_in (last_step rows k last n positive ∙ ap (λ (a : Most). smaller a (units more)) (rows-bounded rows k some large n))
