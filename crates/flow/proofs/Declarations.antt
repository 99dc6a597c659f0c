-- What is said of a declaration by its kind: of several rows, and of one, which is smooth or uniform.
use mathlib.Core.Path.{◌≡◌, refl, sym, ◌∙◌, ap₂}
use mathlib.Core.Bool.{Bool, true, false, true≢false}
use Prim.Native.Nat.{ℕ, zero, suc, ◌-◌, ◌≤◌, ◌<◌}
use native.Mathlib.Omega.{arith}
use lib.Dec.{eqb}
use Rattle.quantity.specs.Choice.{both}
use Rattle.quantity.specs.Sums.{every}
use Rattle.quantity.specs.Ranges.{in_range, interval_range, quota_range}
use Rattle.quantity.proofs.Laws.{least-le, le-largest}
use Rattle.quantity.proofs.Sums.{both_true, every-at}
use Rattle.flow.specs.Rows.{Row, most_of_rows, behind_rows, units_in, rows_most}
use Rattle.flow.specs.Classes.{Positive}
use Rattle.flow.specs.declared.Kind.{Kind}
use Rattle.flow.specs.declared.Declaration.{Declaration}
use Rattle.flow.specs.Bounds.{RowInside}
use Rattle.flow.specs.Declarations.{by_kind, has_rows, several_range, several_at, only_row, row_count, row_at, last_row, row_in_range, declaration_in_range, rises, rows_in_order, row_clear, rows_clear_from, unused_clear, class_of}

pub kind-of-rows : (kind : Kind) → has_rows kind ≡ true → kind ≡ Kind.Rows
kind-of-rows Kind.Smooth e = absurd (true≢false (sym e))
kind-of-rows Kind.Uniform e = absurd (true≢false (sym e))
kind-of-rows Kind.Rows e = refl

pub kind-of-one : {A : Type 0} (kind : Kind) → has_rows kind ≡ false → (a b : A) → by_kind kind a a b ≡ a
kind-of-one Kind.Smooth e a b = refl
kind-of-one Kind.Uniform e a b = refl
kind-of-one Kind.Rows e a b = absurd (true≢false e)

module _ (declared : Declaration) where
  module _ (several : has_rows declared.kind ≡ true) where
    pub rows-count : row_count declared ≡ declared.count
    unfolding row_count
    rows-count = rw (kind-of-rows declared.kind several)

    pub rows_at : (i : ℕ) → row_at declared i ≡ several_at declared i
    unfolding row_at
    rows_at i = rw (kind-of-rows declared.kind several)

    pub rows_last : last_row declared ≡ several_at declared (declared.count - 1)
    unfolding last_row
    rows_last = rw rows-count (rows_at (declared.count - 1))

    pub rows-range : declaration_in_range declared ≡ both (in_range several_range declared.count) (every (λ i. row_in_range (several_at declared i)) declared.count)
    unfolding declaration_in_range row_at row_count
    rows-range = rw (kind-of-rows declared.kind several)

    pub rows-order : rows_in_order declared ≡ every (λ i. rises (several_at declared i) (several_at declared (suc i))) (declared.count - 1)
    unfolding rows_in_order row_at row_count
    rows-order = rw (kind-of-rows declared.kind several)

    pub rows-unused : unused_clear declared ≡ both (row_clear (only_row declared)) (rows_clear_from declared.count declared.rows)
    unfolding unused_clear
    rows-unused = rw (kind-of-rows declared.kind several)

  module _ (one : has_rows declared.kind ≡ false) where
    pub one-count : row_count declared ≡ 1
    unfolding row_count
    one-count = kind-of-one declared.kind one 1 declared.count

    pub one_at : (i : ℕ) → row_at declared i ≡ only_row declared
    unfolding row_at
    one_at i = kind-of-one declared.kind one (only_row declared) (several_at declared i)

    pub one_last : last_row declared ≡ only_row declared
    unfolding last_row
    one_last = one_at (row_count declared - 1)

    pub one-range : declaration_in_range declared ≡ row_in_range (only_row declared)
    unfolding declaration_in_range every
    one-range = rw (kind-of-one declared.kind one true (in_range several_range declared.count), one-count, one_at 0)

    pub one-order : rows_in_order declared ≡ true
    unfolding rows_in_order every
    one-order = rw one-count

    pub one-unused : unused_clear declared ≡ both (eqb declared.count 0) (rows_clear_from 0 declared.rows)
    unfolding unused_clear
    one-unused = kind-of-one declared.kind one _ _

-- A declaration in its ranges.

pub row_inside : (row : Row) → row_in_range row ≡ true → RowInside row
unfolding row_in_range
row_inside row inside =
    let (interval, quota) = both_true (in_range interval_range row.interval) (in_range quota_range row.quota) inside in
    record {
      large = least-le interval_range row.interval interval;
      short = le-largest interval_range row.interval interval;
      some = least-le quota_range row.quota quota;
      few = le-largest quota_range row.quota quota;
    }

module _ (declared : Declaration) (inside : declaration_in_range declared ≡ true) where
  pub rows_inside : (i : ℕ) → i < row_count declared → RowInside (row_at declared i)
  unfolding declaration_in_range
  rows_inside i less =
      let each = (both_true (by_kind declared.kind true true (in_range several_range declared.count)) (every (λ i. row_in_range (row_at declared i)) (row_count declared)) inside).1 in
      row_inside (row_at declared i) (every-at (λ i. row_in_range (row_at declared i)) (row_count declared) each i less)

  pub several-inside : has_rows declared.kind ≡ true → (2 ≤ declared.count) × (declared.count ≤ 4)
  several-inside several =
      let counted = (both_true (in_range several_range declared.count) (every (λ i. row_in_range (several_at declared i)) declared.count) (sym (rows-range declared several) ∙ inside)).0 in
      (least-le several_range declared.count counted, le-largest several_range declared.count counted)

  pub rows-some : 1 ≤ row_count declared
  rows-some = by-kind (has_rows declared.kind) refl
    where
      by-kind : (several : Bool) → has_rows declared.kind ≡ several → 1 ≤ row_count declared
      by-kind true e = rw (rows-count declared e) (omega (arith, (several-inside e).0))
      by-kind false e = rw (one-count declared e) (omega arith)

  pub last-inside : RowInside (last_row declared)
  unfolding last_row
  last-inside = rows_inside (row_count declared - 1) (omega (arith, rows-some))

-- its class has rows, and slots in every interval
positive_of : (kind : Kind) (declared : Declaration) → declared.kind ≡ kind → declaration_in_range declared ≡ true → Positive (class_of declared)
unfolding class_of
positive_of Kind.Smooth declared e inside = rw e (rw (one_at declared (rw e) 0) at (rows_inside declared inside 0 (rows-some declared inside))).large
positive_of Kind.Uniform declared e inside = rw e (rw (one_at declared (rw e) 0) at (rows_inside declared inside 0 (rows-some declared inside))).large
positive_of Kind.Rows declared e inside =
    rw e (
      rw (rows-count declared (rw e)) at (rows-some declared inside),
      λ i less. (rw (rows_at declared (rw e) i) at (rows_inside declared inside i (rw (rows-count declared (rw e)) less))).large,
    )

pub class-positive : (declared : Declaration) → declaration_in_range declared ≡ true → Positive (class_of declared)
class-positive declared inside = positive_of declared.kind declared refl inside

-- the bound goes by the rows below the count alone
bounds-same : (f g : ℕ → Row) (k : ℕ) → ((i : ℕ) → i < k → f i ≡ g i) → most_of_rows f k ≡ most_of_rows g k
unfolding most_of_rows
bounds-same f g zero same = refl
bounds-same f g (suc k) same = ap₂ behind_rows (bounds-same f g k (λ i less. same i (omega arith))) (same k (omega arith))

pub most-same : (f g : ℕ → Row) (k : ℕ) → ((i : ℕ) → i < k → f i ≡ g i) → rows_most f k ≡ rows_most g k
unfolding rows_most
most-same f g k same = λ i n. units_in (bounds-same f g k same i n)
