-- A class by its kind, and the lent table: what the code reads there is what section 4 and document 02, item 6 say of the class.
use Prim.Native.Nat.{ℕ, zero, suc, ◌+◌, ◌-◌, ◌*◌, ◌≤◌, ◌<◌, max}
use mathlib.Core.Path.{◌≡◌, refl, sym, ap, ap₂, subst, subst⁻¹}
use mathlib.Core.Bool.{true, false}
use mathlib.Core.List.{List, ◌∷◌}
use mathlib.Core.Logic.{◌⊎◌, ⊎_elim}
use Rattle.std.specs.Prelude.{Option, None, Some, is_some}
use native.Mathlib.Nat.{not-suc-le-zero, le_of_suc-le-suc, eq-or-lt_of_le, le_trans}
use native.Mathlib.Numerals.{add-one}
use native.Mathlib.Omega.{arith}
use lib.Dec.{leb}
use lib.ListN.{length, get_or}
use Rattle.flow.specs.Rows.{Row, rows_most, row_carried, rows_carried, reach, greatest_of, rows_burst}
use Rattle.flow.specs.Classes.{rows, carries}
use Rattle.flow.specs.Declarations.{has_rows, several_at}
use Rattle.flow.specs.Bounds.{PairWithin, ClassWithin}
use Rattle.flow.specs.declared.Kind.{Kind}
use Rattle.flow.specs.declared.Declaration.{Declaration}
use Rattle.flow.proofs.Laws.{rows_none, reach-le}
use Rattle.flow.proofs.Declarations.{kind-of-rows}
use Rattle.flow.proofs.ClassBounds.{rows-most-bound}
use Rattle.figures.specs.declared.class.FlowClass.{FlowClass}
use Rattle.figures.specs.Carried.{class_in, HasBound, Lent, Reaches, ReachesPast, Reached}
use Rattle.quantity.specs.declared.Interval.{Interval}

-- The row that a rate reaches over.

-- of rows that the rate does not carry none is reached
pub none-carried : (given : ℕ → Row) (k R : ℕ) → ((i : ℕ) → i < k → row_carried (given i) R ≡ false) → (rows_carried given k R ≡ false) × (reach given k R ≡ 0)
unfolding rows_carried reach
none-carried given zero R none = (refl, refl)
none-carried given (suc k) R none = let (before, reached) = none-carried given k R (λ i less. none i (omega arith)) in rw (before, none k (omega arith)) (refl, refl)

-- the first that it carries, with more behind it
pub reach-first : (given : ℕ → Row) (i R : ℕ) → rows_carried given i R ≡ false → row_carried (given i) R ≡ true → (k : ℕ) → i < k → (rows_carried given k R ≡ true) × (reach given k R ≡ (given i).interval)
unfolding rows_carried reach
reach-first given i R before here zero less = absurd (not-suc-le-zero less)
reach-first given i R before here (suc k) less =
    ⊎_elim
    (λ same. rw (← same, before, here) (refl, refl))
    (λ below. let (some, reached) = reach-first given i R before here k below in rw some (refl, reached))
    (eq-or-lt_of_le (le_of_suc-le-suc less))

-- where there is such a row, the rows are carried
pub reached-carried : (given : ℕ → Row) (k R : ℕ) (found : Option Interval) → Reached given k R found → is_some found ≡ rows_carried given k R
reached-carried given k R None (none, reached) = sym none
reached-carried given k R (Some interval) (some, reached) = sym some

-- of one row, the rate makes its quota in its interval
pub one-carried : (declared : Declaration) (class : FlowClass) (R : ℕ) → (class.kind ≡ Kind.Smooth) ⊎ (class.kind ≡ Kind.Uniform) → carries (class_in declared class) R ≡ leb class.quota.0 (class.interval.0 * R)
unfolding carries
one-carried declared class R = ⊎_elim (λ e. rw e) (λ e. rw e)

-- The lent table.

module _ (declared : Declaration) (bound : List ℕ) (lent : HasBound declared bound) where
  pub lent_at : (n : ℕ) → n ≤ 1_024 → get_or (0 ∷ bound) n 0 ≡ rows_most (several_at declared) declared.count n
  lent_at n short = lent.entries n (omega (arith, lent.long))

  pub lent-small : ClassWithin (rows (several_at declared) declared.count) → (i : ℕ) → i < 1_024 → get_or bound i 0 ≤ 67_107_840
  lent-small within i less =
      subst⁻¹ (λ (most : ℕ). most ≤ 67_107_840) (lent_at (suc i) less) (rows-most-bound (several_at declared) declared.count (suc i) within.0 within.2 less)

-- a table that begins with the most in one slot
pub has-bound : (declared : Declaration) (bound : List ℕ) → has_rows declared.kind ≡ true → 1_024 ≤ length bound
    → ((k : ℕ) → k < length bound → get_or bound k 0 ≡ rows_most (several_at declared) declared.count (suc k)) → HasBound declared bound
has-bound declared bound several long entries = record { several = several; entries = by_place; long = long }
  where
    by_place : (n : ℕ) → n ≤ length bound → get_or (0 ∷ bound) n 0 ≡ rows_most (several_at declared) declared.count n
    by_place zero within = sym (rows_none (several_at declared) declared.count)
    by_place (suc k) within = entries k within

-- a class of rows is one of a declaration of rows, whose table reaches as far
pub reaches_here : (kind : Kind) (declared : Declaration) (bound : List ℕ) {e slots : ℕ} → Lent kind declared bound → ReachesPast declared.kind declared bound slots → e ≤ slots
    → ReachesPast kind declared bound e
reaches_here Kind.Smooth declared bound lent far short = tt
reaches_here Kind.Uniform declared bound lent far short = tt
reaches_here Kind.Rows declared bound {slots = slots} lent far short =
    λ i less. let past = subst (λ (k : Kind). ReachesPast k declared bound slots) (kind-of-rows declared.kind lent.several) far i less in omega arith

pub greatest-next : (f : ℕ → ℕ) (n : ℕ) → greatest_of f (n + 1) ≡ max (greatest_of f n) (f (n + 1))
unfolding greatest_of
greatest-next f n = rw add-one

greatest-same : (f g : ℕ → ℕ) (n : ℕ) → ((i : ℕ) → i ≤ n → f i ≡ g i) → greatest_of f n ≡ greatest_of g n
unfolding greatest_of
greatest-same f g zero same = refl
greatest-same f g (suc n) same = ap₂ max (greatest-same f g n (λ i less. same i (omega arith))) (same (suc n) (omega arith))

-- A class of one kind.

module _ (declared : Declaration) (class : FlowClass) where
  pub smooth-within : class.kind ≡ Kind.Smooth → ClassWithin (class_in declared class) → PairWithin class.interval.0 class.quota.0
  smooth-within e within = rw e at within

  pub uniform-within : class.kind ≡ Kind.Uniform → ClassWithin (class_in declared class) → PairWithin class.interval.0 class.quota.0
  uniform-within e within = rw e at within

  pub rows-within : class.kind ≡ Kind.Rows → ClassWithin (class_in declared class) → ClassWithin (rows (several_at declared) declared.count)
  rows-within e within = rw e at within

  pub reaches-rows : (bound : List ℕ) (n : ℕ) → class.kind ≡ Kind.Rows → Reaches class.kind bound n → n ≤ length bound
  reaches-rows bound n e reaches = rw e at reaches

  pub lent_rows : (bound : List ℕ) → class.kind ≡ Kind.Rows → Lent class.kind declared bound → HasBound declared bound
  lent_rows bound e lent = rw e at lent

-- the greatest that the table has beyond a rate is the burst
pub burst-of-table : (declared : Declaration) (bound : List ℕ) (R : ℕ) → ClassWithin (rows (several_at declared) declared.count) → HasBound declared bound
    → greatest_of (λ n. get_or (0 ∷ bound) n 0 - n * R) (reach (several_at declared) declared.count R) ≡ rows_burst (several_at declared) declared.count R
unfolding rows_burst
burst-of-table declared bound R within lent =
    let reached = reach-le (several_at declared) declared.count R 1_024 (λ i less. (within.2 i less).short) in
    greatest-same (λ n. get_or (0 ∷ bound) n 0 - n * R) (λ n. rows_most (several_at declared) declared.count n - n * R) (reach (several_at declared) declared.count R)
    (λ n inside. ap (λ (most : ℕ). most - n * R) (lent_at declared bound lent n (le_trans inside reached)))
