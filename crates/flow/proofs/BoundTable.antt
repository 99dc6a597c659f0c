-- A table whose entries follow the step of the bound is the table of the bound.
use mathlib.Core.Path.{◌≡◌, refl, sym, ◌∙◌, ap, ap₂}
use mathlib.Core.List.{List}
use mathlib.Core.Bool.{Bool, true, false}
use mathlib.Core.Logic.{◌⊎◌, inl, inr, ⊎_elim}
use Prim.Native.Nat.{ℕ, zero, suc, ◌+◌, ◌-◌, ◌*◌, ◌≤◌, ◌<◌, min}
use native.Mathlib.Nat.{suc-mul, mul-le-mul_right, eq-or-lt_of_le}
use native.Mathlib.Omega.{arith}
use lib.Dec.{ltb}
use lib.ListN.{length, get_or, set}
use lib.Seq.{get_or-set_same, get_or-set_other}
use borrow.Author.Tests.{ltb-true, ltb-false}
use Rattle.quantity.specs.Sums.{list_of}
use Rattle.quantity.proofs.Sums.{length-list_of, get_d-list_of, list_of-ext}
use Rattle.flow.specs.Rows.{Row, Most, units, behind_rows, units_in, rows_most}
use Rattle.flow.specs.Bounds.{largest_signed, RowsInside, Sized, Table, with_row, Stepped, Remade, lowered, Lowers}
use Rattle.flow.proofs.RowsWindows.{rows-at-most}
use Rattle.flow.proofs.Rows.{from-below, behind-number, rows_none, one-step, rows_step}

-- entry n of a table
abbrev pub entry : List ℕ → ℕ → ℕ
entry table n = get_or table n 0

-- an entry is below a place, or from it on
below-or-from : (j n : ℕ) → (j < n) ⊎ (n ≤ j)
below-or-from j n = by-test (ltb j n) refl
  where
    by-test : (t : Bool) → ltb j n ≡ t → (j < n) ⊎ (n ≤ j)
    by-test true e = inl (ltb-true j n e)
    by-test false e = inr (ltb-false j n e)

-- no entry of a block is made yet
pub remade-start : (table : List ℕ) (from : ℕ) (made : ℕ → ℕ) → Remade table table from from made
remade-start table from made = record { anew = λ j late early. absurd (omega arith); below = λ j early. refl; rest = λ j late. refl }

-- one entry of a block more
pub remade-next : (before table : List ℕ) (from n v : ℕ) (made : ℕ → ℕ) → Remade before table from n made → from ≤ n → n < length table → v ≡ made n
    → Remade before (set table n v) from (n + 1) made
remade-next before table from n v made remade begun inside here =
    let other : (j : ℕ) → (j ≡ n → ⊥) → entry (set table n v) j ≡ entry table j = λ j apart. get_or-set_other table n j v 0 apart in
    record {
      anew =
          λ j late early.
          ⊎_elim (λ same. rw same (get_or-set_same table n v 0 inside ∙ here)) (λ less. other j (λ e. absurd (omega arith)) ∙ remade.anew j late less) (eq-or-lt_of_le {n = j} {m = n} (omega arith));
      below = λ j early. other j (λ e. absurd (omega arith)) ∙ remade.below j early;
      rest = λ j late. other j (λ e. absurd (omega arith)) ∙ remade.rest j (omega arith);
    }

-- a quota and the entry that the interval leaves is no more than so many a slot
pub used-small : (m q n x : ℕ) → 1 ≤ m → 1 ≤ n → q ≤ 65_535 → x ≤ (n - m) * 65_535 → q + x ≤ n * 65_535
used-small m q n x positive begun few small =
    let next : (n - m) * 65_535 + 65_535 ≡ suc (n - m) * 65_535 = omega (arith, suc-mul (n - m) 65_535) in
    omega (arith, mul-le-mul_right 65_535 (le-of-lt-suc m n positive begun))
  where
    le-of-lt-suc : (m n : ℕ) → 1 ≤ m → 1 ≤ n → suc (n - m) ≤ n
    le-of-lt-suc m n positive begun = omega arith

-- A table with one row more.

module _ (m Q : ℕ) (before : List ℕ) (large : 1 ≤ m) (nothing : entry before 0 ≡ 0) where
  abbrev earlier : ℕ → Most
  earlier j = units (entry before j)

  abbrev row : Row
  row = record { interval = m; quota = Q }

  abbrev most : ℕ → ℕ
  most n = units_in (behind_rows earlier row n)

  most-none : most 0 ≡ 0
  unfolding behind_rows units_in
  most-none = refl

  most_step : (n : ℕ) → 1 ≤ n → most n ≡ min (entry before n) (Q + most (n - m))
  most_step n some = behind-number earlier row (ap units nothing) large n (entry before n) some refl

  pub with-row-size : length (with_row m Q before) ≡ length before
  unfolding with_row
  with-row-size = length-list_of most (length before)

  with-row-at : (n : ℕ) → n < length before → entry (with_row m Q before) n ≡ most n
  unfolding with_row
  with-row-at = get_d-list_of 0 most (length before)

  pub with-row-none : 1 ≤ length before → entry (with_row m Q before) 0 ≡ 0
  with-row-none some = with-row-at 0 some ∙ most-none

  pub with-row-step : (n : ℕ) → 1 ≤ n → n < length before → entry (with_row m Q before) n ≡ min (entry before n) (Q + entry (with_row m Q before) (n - m))
  with-row-step n some inside =
      with-row-at n inside ∙ most_step n some ∙ ap (λ (x : ℕ). min (entry before n) (Q + x)) (sym (with-row-at (n - m) (omega arith)))

  -- a table whose entries follow the step is that one
  pub with-row-of : (table : List ℕ) → length table ≡ length before → entry table 0 ≡ 0
      → ((n : ℕ) → 1 ≤ n → n < length before → entry table n ≡ min (entry before n) (Q + entry table (n - m))) → table ≡ with_row m Q before
  unfolding with_row
  with-row-of table size none steps = list_of-ext 0 most (length before) table size (from-below by_slots)
    where
      by_slots : (n : ℕ) → ((j : ℕ) → j < n → j < length before → entry table j ≡ most j) → n < length before → entry table n ≡ most n
      by_slots zero below inside = none ∙ sym most-none
      by_slots (suc n) below inside =
          steps (suc n) (omega arith) inside
          ∙ ap (λ (x : ℕ). min (entry before (suc n)) (Q + x)) (below (suc n - m) (omega arith) (omega arith))
          ∙ sym (most_step (suc n) (omega arith))

-- Below n the entries follow the step of one row more, and from n on they are as before.
pub record Follows (m Q : ℕ) (before table : List ℕ) (n : ℕ) : Type 0 where
  pub size : length table ≡ length before
  pub begun : 1 ≤ n
  pub short : n ≤ length before
  pub none : entry table 0 ≡ 0
  pub steps : (j : ℕ) → 1 ≤ j → j < n → entry table j ≡ min (entry before j) (Q + entry table (j - m))
  pub rest : (j : ℕ) → n ≤ j → entry table j ≡ entry before j
  pub small : (j : ℕ) → j < n → entry table j ≤ j * 65_535

pub follows-start : (m Q : ℕ) (table : List ℕ) → Table table → Follows m Q table table 1
follows-start m Q table given =
    let long = given.sized.long in
    record { size = refl; begun = omega arith; short = omega arith; none = given.none; steps = λ j positive less. absurd (omega arith); rest = λ j less. refl; small = λ j less. first j less }
  where
    first : (j : ℕ) → j < 1 → entry table j ≤ j * 65_535
    first zero less = omega (arith, given.none)
    first (suc j) less = absurd (omega arith)

module _ (m Q : ℕ) (before : List ℕ) (given : Table before) (large : 1 ≤ m) (few : Q ≤ 65_535) where
  -- one block more, whose entries go by entries before it alone
  pub follows-block : (table after : List ℕ) (from end : ℕ) (made : ℕ → ℕ) → Follows m Q before table from → from ≤ end → end ≤ from + m → end ≤ length before
      → length after ≡ length table → Remade table after from end made → ((j : ℕ) → from ≤ j → j < end → made j ≡ min (entry before j) (Q + entry table (j - m)))
      → Follows m Q before after end
  follows-block table after from end made follows onward short inside same remade step =
      let begun = follows.begun in
      let new : (j : ℕ) → from ≤ j → j < end → entry after j ≡ min (entry before j) (Q + entry table (j - m)) = λ j late early. remade.anew j late early ∙ step j late early in
      let read : (j : ℕ) → 1 ≤ j → j < end → entry table (j - m) ≡ entry after (j - m) = λ j some early. sym (remade.below (j - m) (omega arith)) in
      record {
        size = same ∙ follows.size;
        begun = omega arith;
        short = inside;
        none = remade.below 0 begun ∙ follows.none;
        steps =
            λ j some early.
            ⊎_elim
            (λ less. remade.below j less ∙ follows.steps j some less)
            (λ late. new j late early)
            (below-or-from j from)
            ∙ ap (λ (x : ℕ). min (entry before j) (Q + x)) (read j some early);
        rest = λ j late. remade.rest j late ∙ follows.rest j (omega arith);
        small =
            λ j early.
            ⊎_elim
            (λ less. omega (arith, remade.below j less, follows.small j less))
            (λ late. omega (arith, new j late early, used-small m Q j (entry table (j - m)) large (omega arith) few (follows.small (j - m) (omega arith))))
            (below-or-from j from);
      }

  -- what is worked out of the entries of a table that is on the way fits
  pub follows-fits : (table : List ℕ) (from : ℕ) → Follows m Q before table from → (j : ℕ) → from ≤ j → j < from + m → j < length before
      → (entry table j ≤ largest_signed) × (Q + entry table (j - m) ≤ largest_signed)
  follows-fits table from follows j late early inside =
      let short = given.sized.short in
      let begun = follows.begun in
      (omega (arith, follows.rest j late, given.fits j inside), omega (arith, follows.small (j - m) (omega arith)))

  pub follows-lowers : (table : List ℕ) (from end : ℕ) → Follows m Q before table from → m ≤ from → from ≤ end → end ≤ from + m → end ≤ length before → Lowers table from end m Q
  follows-lowers table from end follows behind onward short inside =
      record { behind = behind; onward = onward; inside = omega (arith, follows.size); fits = λ j late early. follows-fits table from follows j late (omega arith) (omega arith) }

  pub follows-lowered : (table after : List ℕ) (from end : ℕ) → Follows m Q before table from → from ≤ end → end ≤ from + m → end ≤ length before
      → length after ≡ length table → Remade table after from end (lowered table m Q) → Follows m Q before after end
  follows-lowered table after from end follows onward short inside same remade =
      follows-block table after from end (lowered table m Q) follows onward short inside same remade
      (λ j late early. ap (λ (x : ℕ). min x (Q + entry table (j - m))) (follows.rest j late))

  -- all entries are made
  pub follows-all : (table : List ℕ) → Follows m Q before table (length before) → table ≡ with_row m Q before
  follows-all table follows = with-row-of m Q before large given.none table follows.size follows.none follows.steps

-- A table of one row.

pub stepped_start : (m Q : ℕ) (table : List ℕ) → entry table 0 ≡ 0 → Stepped m Q table 1
stepped_start m Q table none = record { none = none; steps = λ j positive less. absurd (omega arith) }

-- one block more, in which the most is the quota more than any entry of the interval before
pub stepped-block : (m Q : ℕ) (table after : List ℕ) (from end most : ℕ) → Stepped m Q table from → 1 ≤ from → end ≤ from + m
    → ((k : ℕ) → k < m → Q + entry table (from + k - m) ≡ most) → Remade table after from end (λ j. most) → Stepped m Q after end
stepped-block m Q table after from end most stepped begun short level remade =
    let read : (j : ℕ) → j - m < from → entry table (j - m) ≡ entry after (j - m) = λ j earlier. sym (remade.below (j - m) earlier) in
    record {
      none = remade.below 0 begun ∙ stepped.none;
      steps =
          λ j some early.
          ⊎_elim
          (λ less. remade.below j less ∙ stepped.steps j some less ∙ ap (λ (x : ℕ). Q + x) (read j (omega arith)))
          (λ late.
          let place : from + (j - from) - m ≡ j - m = omega arith in
          remade.anew j late early ∙ sym (level (j - from) (omega arith)) ∙ ap (λ (x : ℕ). Q + entry table x) place ∙ ap (λ (x : ℕ). Q + x) (read j (omega arith)))
          (below-or-from j from);
    }

-- The tables of rows.

pub sized_same : (before after : List ℕ) → length after ≡ length before → Sized before → Sized after
sized_same before after same sized =
    let long = sized.long in
    let short = sized.short in
    record { long = omega arith; short = omega arith }

module _ (rows : ℕ → Row) where
  -- a table of the first row alone
  pub first-table : (table : List ℕ) → Stepped (rows 0).interval (rows 0).quota table (length table) → 1 ≤ (rows 0).interval → table ≡ list_of (rows_most rows 1) (length table)
  first-table table stepped large = list_of-ext 0 (rows_most rows 1) (length table) table refl (from-below by_slots)
    where
      by_slots : (n : ℕ) → ((j : ℕ) → j < n → j < length table → entry table j ≡ rows_most rows 1 j) → n < length table → entry table n ≡ rows_most rows 1 n
      by_slots zero below less = stepped.none ∙ sym (rows_none rows 1)
      by_slots (suc n) below less =
          stepped.steps (suc n) (omega arith) less
          ∙ ap (λ (t : ℕ). (rows 0).quota + t) (below (suc n - (rows 0).interval) (omega arith) (omega arith))
          ∙ sym (one-step rows large (suc n) (omega arith))

  module _ (k : ℕ) (some : 1 ≤ k) (size : ℕ) (table : List ℕ) (filled : table ≡ list_of (rows_most rows k) size) where
    rows-size : length table ≡ size
    rows-size = ap length filled ∙ length-list_of (rows_most rows k) size

    rows-entry : (n : ℕ) → n < size → entry table n ≡ rows_most rows k n
    rows-entry n less = ap (λ (l : List ℕ). entry l n) filled ∙ get_d-list_of 0 (rows_most rows k) size n less

    pub rows-table : Sized table → RowsInside rows k → Table table
    rows-table sized inside =
        let same = rows-size in
        let long = sized.long in
        let short = sized.short in
        record {
          sized = sized;
          none = rows-entry 0 (omega arith) ∙ rows_none rows k;
          fits = λ j less. omega (arith, rows-entry j (omega arith), rows-at-most rows k 65_535 some (λ i h. ((inside i h).large, (inside i h).few)) j, mul-le-mul_right 65_535 less);
        }

    -- one row more
    pub next-table : Table table → RowsInside rows (suc k) → with_row (rows k).interval (rows k).quota table ≡ list_of (rows_most rows (suc k)) size
    next-table given inside = list_of-ext 0 (rows_most rows (suc k)) size after (with-row-size (rows k).interval (rows k).quota table large given.none ∙ rows-size) (from-below by_slots)
      where
        large : 1 ≤ (rows k).interval
        large = (inside k (omega arith)).large

        after : List ℕ
        after = with_row (rows k).interval (rows k).quota table

        by_slots : (n : ℕ) → ((j : ℕ) → j < n → j < size → entry after j ≡ rows_most rows (suc k) j) → n < size → entry after n ≡ rows_most rows (suc k) n
        by_slots zero below less = with-row-none (rows k).interval (rows k).quota table large given.none (omega (arith, rows-size)) ∙ sym (rows_none rows (suc k))
        by_slots (suc n) below less =
            with-row-step (rows k).interval (rows k).quota table large given.none (suc n) (omega arith) (omega (arith, rows-size))
            ∙ ap₂ min (rows-entry (suc n) less) (ap (λ (t : ℕ). (rows k).quota + t) (below (suc n - (rows k).interval) (omega (arith, large)) (omega arith)))
            ∙ sym (rows_step rows k some (λ i h. (inside i (omega arith)).large) large (suc n) (omega arith))
