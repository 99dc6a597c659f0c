-- The rate of an accepted sheet's path is in its range: ⌈Q/m⌉ is at least 1 and at most Q.
use Rattle.std.proofs.Common.{◌≡◌, ℕ, zero, suc, ◌*◌, ◌≤◌, true, List, le-mul_of_pos_right, arith, le-leb}
use Rattle.quantity.specs.Ranges.{in_range, rate_range}
use Rattle.quantity.specs.Rounding.{round_up}
use Rattle.quantity.proofs.Sums.{both_true}
use Rattle.quantity.proofs.Rounding.{round-up-enough, round-up-least}
use Rattle.quantity.proofs.Refusals.{NoneStands}
use Rattle.flow.specs.Declarations.{last_row, declaration_in_range}
use Rattle.flow.proofs.Declarations.{last-inside}
use Rattle.sheet.specs.Sheets.{sheet_cases, path_in, rest_in_range, path_in_range}
use Rattle.sheet.proofs.Accepted.{sheet-path}
use Rattle.ledger.specs.Holding.{rate_of}

-- rounded up, a quotient of 1 or more is 1 or more, and no larger than what was divided
round-up-some : (x y : ℕ) → 1 ≤ y → 1 ≤ x → 1 ≤ round_up x y
round-up-some x y large some = from (round_up x y) (round-up-enough x y large)
  where
    from : (k : ℕ) → x ≤ k * y → 1 ≤ k
    from zero enough = absurd (omega (arith, enough, some))
    from (suc k) enough = omega arith

round-up-le : (x y : ℕ) → 1 ≤ y → round_up x y ≤ x
round-up-le x y large = round-up-least x y x large (le-mul_of_pos_right x large)

pub rate-inside : (sheet : List ℕ) → NoneStands (sheet_cases sheet) → in_range rate_range (rate_of (path_in sheet)) ≡ true
unfolding in_range rate_of path_in_range
rate-inside sheet none =
    let declaration = (path_in sheet).declaration in
    let (declared, others) = both_true (declaration_in_range declaration) (rest_in_range (path_in sheet)) (sheet-path sheet none).inside in
    let row = last-inside declaration declared in
    let few = row.few in
    rw (le-leb 1 (rate_of (path_in sheet)) (round-up-some (last_row declaration).quota (last_row declaration).interval row.large row.some))
    (le-leb (rate_of (path_in sheet)) 65535 (omega (arith, few, round-up-le (last_row declaration).quota (last_row declaration).interval row.large)))
