-- What the readers of a declaration's body rest on: the body fits where its numbers are in range, row by row; and the array of rows is filled from the front.
use Prim.Native.Nat.{ℕ, zero, suc, ◌+◌, ◌≤◌, ◌<◌}
use mathlib.Core.Path.{◌≡◌, refl, ap, ap₂, ◌∙◌}
use mathlib.Core.Bool.{true}
use mathlib.Core.List.{List}
use native.Mathlib.Omega.{arith}
use lib.ListN.{get_or, set, replicate}
use lib.Dec.{leb, ltb}
use borrow.Author.Tests.{le-leb}
use Rattle.quantity.specs.Choice.{pick, both}
use Rattle.quantity.specs.Sums.{every, list_of}
use Rattle.quantity.specs.Ranges.{in_range, interval_range, quota_range}
use Rattle.quantity.proofs.Sums.{every-same}
use Rattle.flow.specs.Declarations.{empty_row, row_of, row_in_range, rows_in_order}
use Rattle.flow.specs.declared.DeclaredRow.{DeclaredRow}
use Rattle.flow.proofs.Declarations.{rows-range, one-range, one-order}
use Rattle.sheet.specs.Numbers.{value_of_bytes}
use Rattle.sheet.specs.Bodies.{part, declaration_in, declaration_fits, row_in, rows_in, rows_fit}
use Rattle.sheet.proofs.Cleared.{several-used}
use Rattle.sheet.proofs.Bodies.{one-of-declaration, rows-of-several}

-- 01: the kind, the interval and the quota are in their ranges, and one row is in order
module _ (body : List ℕ) where
  pub one-fits : declaration_fits body ≡ both (leb (get_or body 0 0) 1) (both (in_range interval_range (value_of_bytes (part 1 2 body))) (in_range quota_range (value_of_bytes (part 3 4 body))))
  unfolding declaration_fits declaration_in row_in_range
  one-fits = ap (both (leb (get_or body 0 0) 1)) (one-range (declaration_in body) (one-of-declaration body))

  pub one-in-order : rows_in_order (declaration_in body) ≡ true
  one-in-order = one-order (declaration_in body) (one-of-declaration body)

-- 05: so many rows are in their ranges
pub rows-fit-each : (count : ℕ) (body : List ℕ) → 2 ≤ count → count ≤ 4 → rows_fit count body ≡ every (λ i. row_in_range (row_of (row_in body i))) count
unfolding rows_fit rows_in in_range
rows-fit-each count body some few =
    rows-range (rows_in count body) (rows-of-several count body)
    ∙ ap₂ both (ap₂ both (le-leb 2 count some) (le-leb count 4 few)) (every-same _ _ count (λ i used. ap row_in_range (several-used count (row_in body) i used (omega arith))))

-- the first k rows are stored, and those behind them are empty
module _ (given : ℕ → DeclaredRow) where
  abbrev pub stored : ℕ → List DeclaredRow
  stored k = list_of (λ i. pick (ltb i k) (given i) empty_row) 4

  pub stored-none : stored 0 ≡ replicate 4 empty_row
  unfolding list_of
  stored-none = refl

  pub stored_next : (k : ℕ) → k < 4 → set (stored k) k (given k) ≡ stored (k + 1)
  unfolding list_of
  stored_next zero room = refl
  stored_next (suc zero) room = refl
  stored_next (suc (suc zero)) room = refl
  stored_next (suc (suc (suc zero))) room = refl
  stored_next (suc (suc (suc (suc k)))) room = absurd (omega arith)

-- for the reader of the body
pub ruleset one_row = one-fits
