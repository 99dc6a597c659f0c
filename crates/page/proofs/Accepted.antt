-- What holds of the figures of an accepted sheet: they are those of its path, and every number on its page is small.
use mathlib.Core.Path.{◌≡◌, ap, ◌∙◌}
use mathlib.Core.List.{List}
use Rattle.std.specs.Prelude.{Ok}
use Prim.Native.Nat.{ℕ, zero, suc, ◌*◌, ◌≤◌, ◌<◌}
use native.Mathlib.Decide.{dec_lt}
use native.Mathlib.Nat.{le_trans}
use native.Mathlib.Omega.{arith}
use lib.ListN.{length, get_or, take, get_or-eq_default}
use lib.Dec.{ltb}
use borrow.Author.Tests.{lt-ltb, ltb-false}
use Rattle.quantity.specs.Limits.{largest_amount}
use Rattle.quantity.specs.Sums.{total}
use Rattle.quantity.proofs.Laws.{pick_true}
use Rattle.quantity.proofs.Sums.{get_d-list_of, total-zero, total-suc, term-le-total}
use Rattle.quantity.proofs.Refusals.{none-of-each}
use Rattle.sheet.specs.declared.LinkedOperator.{LinkedOperator}
use Rattle.sheet.specs.declared.PathValue.{PathValue}
use Rattle.sheet.specs.Paths.{Path, no_linked_operator, link_at}
use Rattle.sheet.specs.Forms.{in_full, value_of_path}
use Rattle.sheet.specs.Sheets.{value_in, path_in}
use Rattle.sheet.proofs.Accepted.{SheetPath, sheet-path, sheet-full}
use Rattle.sheet.proofs.InRange.{link-of-path, wanted-of-path}
use Rattle.figures.specs.declared.Figure.{Figure}
use Rattle.figures.specs.declared.PathFigures.{PathFigures}
use Rattle.figures.specs.Answers.{capacity_at, delay_at, path_delay, operators_cases, figure_at, no_figure, figure_in, figures_of}
use Rattle.figures.proofs.Promise.{accepted-figures, accepted-none, operator-capacity-le}

-- a sum of numbers that are at most b
total-bound : (f : ℕ → ℕ) (b n : ℕ) → ((k : ℕ) → k < n → f k ≤ b) → total f n ≤ n * b
total-bound f b zero small = omega (arith, total-zero f)
total-bound f b (suc n) small = omega (arith, total-suc f n, total-bound f b n (λ k less. small k (omega arith)), small n (omega arith))

module _ (sheet : List ℕ) {answer : PathFigures} (accepted : figures_of sheet ≡ Ok answer) where
  abbrev path : Path
  path = path_in sheet

  abbrev operators : ℕ
  operators = length path.operators

  in-sheet : SheetPath sheet
  in-sheet = sheet-path sheet (accepted-none sheet accepted).0

  pub few-operators : operators ≤ 16
  few-operators = in-sheet.few

  -- what the figures answered
  path-same : answer.path ≡ value_in sheet
  path-same = (accepted-figures sheet accepted).0

  pub count_same : answer.path.count ≡ operators
  unfolding value_of_path
  count_same = ap (λ (path : PathValue). path.count) (path-same ∙ in-sheet.value)

  pub operators-same : take answer.path.count answer.path.operators ≡ path.operators
  unfolding in_full
  operators-same = ap (λ (l : Path). l.operators) (ap in_full path-same ∙ sheet-full sheet (accepted-none sheet accepted).0)

  pub figure-same : (k : ℕ) (d : Figure) → k < operators → get_or answer.figures k d ≡ figure_at path k
  unfolding figure_in
  figure-same k d less =
      ap (λ (figures : List Figure). get_or figures k d) (accepted-figures sheet accepted).2
      ∙ get_d-list_of d (figure_in path) 16 k (omega (arith, few-operators))
      ∙ pick_true (ltb k operators) (figure_at path k) no_figure (lt-ltb k operators less)

  pub delay-same : answer.delay.0 ≡ path_delay path
  delay-same = (accepted-figures sheet accepted).1

  -- section 1: a link is at most 15
  pub link-le : (k : ℕ) → link_at path k ≤ 15
  link-le k =
      elim (dec_lt k operators) [
        | yes less ↦ link-of-path path in-sheet.inside k no_linked_operator less
        | no behind ↦ let none : link_at path k ≡ 0 = ap (λ (linked : LinkedOperator). linked.link.0) (get_or-eq_default path.operators no_linked_operator {n = k} (omega arith)) in omega arith
      ]

  -- a capacity is at most twice the largest amount
  pub capacity-le : (k : ℕ) → k < operators → capacity_at path k ≤ 2 * largest_amount
  capacity-le k less = operator-capacity-le path in-sheet.inside (accepted-none sheet accepted).1 k less few-operators

  pub capacities-le : (k : ℕ) → k ≤ operators → total (capacity_at path) k ≤ 32 * largest_amount
  capacities-le k inside = let few = few-operators in omega (arith, total-bound (capacity_at path) (2 * largest_amount) k (λ j less. capacity-le j (omega arith)))

  -- refusal 9: the delay is at most the delay wanted
  pub path-delay-le : path_delay path ≤ 65_535
  path-delay-le =
      let (_, timely) = none-of-each (operators_cases path operators) _ (accepted-none sheet accepted).1 in
      le_trans (ltb-false _ _ timely.0) (wanted-of-path path in-sheet.inside)

  pub delay-le : (k : ℕ) → k < operators → delay_at path k ≤ 65_535
  unfolding path_delay
  delay-le k less = le_trans (term-le-total (delay_at path) operators k less) path-delay-le
