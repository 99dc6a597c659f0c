-- A path whose numbers are in their ranges: so is each of its operators, a link is at most 15, and the delay wanted at most 65,535.
use mathlib.Core.Path.{◌≡◌}
use mathlib.Core.Bool.{true}
use mathlib.Core.List.{List, [], ◌∷◌}
use Prim.Native.Nat.{ℕ, zero, suc, ◌≤◌, ◌<◌}
use native.Mathlib.Nat.{not-suc-le-zero, le_of_suc-le-suc}
use lib.ListN.{length, get_or}
use Rattle.quantity.specs.Ranges.{in_range, link_range, wanted_delay_range}
use Rattle.quantity.proofs.Laws.{le-largest}
use Rattle.quantity.proofs.Sums.{both_true}
use Rattle.operator.specs.Operators.{number_in_range}
use Rattle.flow.specs.Declarations.{declaration_in_range}
use Rattle.sheet.specs.declared.LinkedOperator.{LinkedOperator}
use Rattle.sheet.specs.Paths.{Path}
use Rattle.sheet.specs.Bodies.{operator_in_range}
use Rattle.sheet.specs.Sheets.{operators_in_range, rest_in_range, path_in_range}

-- section 1: a link in its range is one byte
pub link-small : (linked : LinkedOperator) → operator_in_range linked ≡ true → linked.link.0 ≤ 15
unfolding operator_in_range
link-small linked h = le-largest link_range linked.link.0 (both_true (number_in_range linked.operator) (in_range link_range linked.link.0) h).1

-- each of some operators that are in range is
pub operators-at : (operators : List LinkedOperator) (k : ℕ) (d : LinkedOperator) → operators_in_range operators ≡ true → k < length operators → operator_in_range (get_or operators k d) ≡ true
unfolding operators_in_range
operators-at [] k d h inside = absurd (not-suc-le-zero inside)
operators-at (linked ∷ operators) zero d h inside = (both_true (operator_in_range linked) (operators_in_range operators) h).0
operators-at (linked ∷ operators) (suc k) d h inside = operators-at operators k d (both_true (operator_in_range linked) (operators_in_range operators) h).1 (le_of_suc-le-suc inside)

module _ (path : Path) (inside : path_in_range path ≡ true) where
  inside_both : (declaration_in_range path.declaration ≡ true) × (rest_in_range path ≡ true)
  unfolding path_in_range
  inside_both = both_true (declaration_in_range path.declaration) (rest_in_range path) inside

  pub declaration-of-path : declaration_in_range path.declaration ≡ true
  declaration-of-path = inside_both.0

  pub rest-of-path : rest_in_range path ≡ true
  rest-of-path = inside_both.1

  rest_both : (in_range wanted_delay_range path.wanted ≡ true) × (operators_in_range path.operators ≡ true)
  unfolding rest_in_range
  rest_both = both_true (in_range wanted_delay_range path.wanted) (operators_in_range path.operators) rest-of-path

  pub operators-of-path : operators_in_range path.operators ≡ true
  operators-of-path = rest_both.1

  -- the delay wanted
  pub wanted-of-path : path.wanted ≤ 65_535
  wanted-of-path = le-largest wanted_delay_range path.wanted rest_both.0

  -- the link of each operator
  pub link-of-path : (k : ℕ) (d : LinkedOperator) → k < length path.operators → (get_or path.operators k d).link.0 ≤ 15
  link-of-path k d less = link-small (get_or path.operators k d) (operators-at path.operators k d operators-of-path less)
