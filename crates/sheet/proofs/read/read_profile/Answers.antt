use Prim.Native.Nat.{ℕ, ◌*◌, ◌≤◌}
use mathlib.Core.Path.{◌≡◌, refl, sym, ap, ◌∙◌}
use mathlib.Core.Bool.{true}
use native.Mathlib.Numerals.{add-one}
use native.Mathlib.Omega.{arith}
use lib.ListN.{length}
use Rattle.std.proofs.lemmas.Result.{err_from_is_err_and}
use Rattle.quantity.specs.Sums.{list_of}
use Rattle.quantity.specs.declared.refusal.Refusal.TheVariants.{OutOfRange}
use Rattle.quantity.proofs.Sums.{length-list_of}
use Rattle.sheet.specs.Paths.{no_linked_operator}
use Rattle.sheet.specs.House.{house_in, house_fits, house_in_range, hop_length, house_operator, house_path}
use Rattle.sheet.specs.Forms.{house_value}
use Rattle.sheet.specs.Fields.{body_at}
use Rattle.sheet.specs.declared.Form.{Form}
use Rattle.sheet.specs.declared.PathValue.{PathValue}
use Rattle.sheet.proofs.AnswerLaws.{ToldOr, told-or}
use Rattle.sheet.proofs.Filling.{filled_next}
use Rattle.sheet.proofs.HouseLaws.{house-few, length-house_operators}
use Rattle.sheet.proofs.ReadLaws.{field-inside}
use Rattle.sheet.proofs.HouseRead.{house-header-refuses, house-body-refuses, house-end-refuses, house-accepted}
use Rattle.sheet.proofs.read.read_profile.Goals as goal
use Rattle.sheet.proofs.read.read_profile.Goals.{After-hop_length, After-ok_or, After-of_one_row, In_ok-house}

pub returns-in_err-body : goal.returns-in_err-body
returns-in_err-body c =
    let p = err_from_is_err_and c.from_residual.result c.from_residual.ensures.1 in
    rw (p.1, p.2) (sym (house-header-refuses c.args.sheet.now c.in_err-body.ensures))

-- what the reader answers of the body
answered : (c : After-ok_or) → let body = body_at c.args.sheet.now 0 22 in ToldOr (house_fits body) (house_in body) (OutOfRange 0) c.ok_or.result
answered c = told-or _ _ _ (rw c.in_ok-body.ensures.is at c.read_house.ensures) c.ok_or.ensures.value

pub returns-in_err-house : goal.returns-in_err-house
returns-in_err-house c =
    let (out, why) = (answered (goal.at.returns-in_err-house c).After-ok_or).outside c.in_err-house.was in
    let p = err_from_is_err_and c.from_residual-in_err-house.result c.from_residual-in_err-house.ensures.1 in
    rw (p.1, p.2, why) (sym (house-body-refuses c.args.sheet.now c.in_ok-body.ensures.judged out))

-- behind a body that fits
fits : (c : In_ok-house) → let body = body_at c.args.sheet.now 0 22 in (house_fits body ≡ true) × (c.in_ok-house.house ≡ house_in body)
fits c = (told-or _ _ _ (rw c.in_ok-body.ensures.is at c.read_house.ensures) c.ok_or.ensures.value).within c.in_ok-house.was

-- its numbers are in their ranges
in-range : (c : In_ok-house) → house_in_range c.in_ok-house.house ≡ true
unfolding house_fits
in-range c = let (inside, same) = fits c in rw same inside

pub ended-requires : goal.ended-requires
ended-requires c = rw c.end.ensures (field-inside c.args.sheet.now 0 4 22 c.in_ok-body.ensures.judged)

pub returns-in_err-ended : goal.returns-in_err-ended
returns-in_err-ended c =
    let p = err_from_is_err_and c.from_residual-in_err-ended.result c.from_residual-in_err-ended.ensures.1 in
    let ended = rw c.end.ensures at c.ended.ensures in
    rw (p.1, p.2) (sym (house-end-refuses c.args.sheet.now c.in_ok-body.ensures.judged (fits (goal.at.returns-in_err-ended c).In_ok-house).0 ended c.in_err-ended.was))

-- how many operators there are
counted : (c : After-hop_length) → let house = c.in_ok-house.house in length (house_path house).operators ≡ house.hops.0 * c.hop_length.result
counted c =
    let house = c.in_ok-house.house in
    length-house_operators house ∙ ap (λ (n : ℕ). house.hops.0 * n) (sym c.hop_length.ensures)

few : (c : After-hop_length) → house_in_range c.in_ok-house.house ≡ true → c.in_ok-house.house.hops.0 * c.hop_length.result ≤ 15
few c ranged = rw (counted c) at (house-few c.in_ok-house.house ranged)

pub overflow_mul-count : goal.overflow_mul-count
overflow_mul-count c = omega (arith, few (goal.at.overflow_mul-count c).After-hop_length (in-range (goal.at.overflow_mul-count c).In_ok-house))

pub loop-k-init : goal.loop-k-init
unfolding list_of
loop-k-init c = (few (goal.at.loop-k-init c).After-hop_length (in-range (goal.at.loop-k-init c).In_ok-house), refl)

pub house_operator-requires : goal.house_operator-requires
house_operator-requires c = (in-range (goal.at.house_operator-requires c).In_ok-house, omega arith)

pub loop-k-preserved : goal.loop-k-preserved
unfolding list_of
loop-k-preserved c =
    let house = c.in_ok-house.house in
    let k = c.loop-k.k in
    let stored = filled_next no_linked_operator 16 (list_of (house_operator house) k) (house_operator house k) k (length-list_of (house_operator house) k) (omega arith) in
    (omega arith, rw (c.house_operator.ensures, c.loop-k.invariant.1, add-one) stored)

-- what is filled is the path of the nine numbers
filled-path : (c : After-of_one_row)
    → let house = c.in_ok-house.house in ◌≡◌ {A = PathValue} (record { form = Form.House house; declaration = c.of_one_row.result; wanted = house.wanted; count = house.hops.0 * c.hop_length.result; operators = c.loop-k.operators }) (house_value house)
unfolding house_value house_path
filled-path c =
    let house = c.in_ok-house.house in
    let done : c.loop-k.k ≡ house.hops.0 * hop_length house = rw (← c.hop_length.ensures) (omega arith) in
    let operators = rw done at c.loop-k.invariant.1 in
    rw (
      c.of_one_row.ensures,
      ← (let house = c.in_ok-house.house in
          length-house_operators house ∙ ap (λ (n : ℕ). house.hops.0 * n) (sym c.hop_length.ensures)),
      operators,
    )

pub returns : goal.returns
returns c =
    let (inside, same) = fits (goal.at.returns c).In_ok-house in
    let ended = rw c.end.ensures at c.ended.ensures in
    rw (filled-path (goal.at.returns c).After-of_one_row, same) (sym (house-accepted c.args.sheet.now c.in_ok-body.ensures.judged inside ended c.in_ok-ended.was))
