use mathlib.Core.Path.{◌≡◌, sym, ap, ◌∙◌}
use mathlib.Core.Bool.{true, false}
use Prim.Native.Nat.{◌+◌, ◌-◌, ◌*◌, ◌<◌}
use native.Mathlib.Omega.{arith}
use lib.ListN.{length, get_or}
use lib.Dec.{leb}
use borrow.Author.Tests.{leb-true, leb-false}
use Rattle.std.specs.Prelude.{ok_or}
use Rattle.std.proofs.lemmas.Result.{err_from_is_err_and}
use Rattle.quantity.specs.Limits.{largest64}
use Rattle.text.specs.declared.decimal.NumberFault.TheVariants.{TooLarge}
use Rattle.text.specs.Decimals.{is_digit, with_digit}
use Rattle.text.proofs.Picked.{picked-some, picked-none, picked-is_some}
use Rattle.text.proofs.DecimalLaws.{digit-within, read_none, read_first, read_next, read-end, read-large}
use Rattle.text.proofs.decimal.decimal_at.Goals as goal
use Rattle.text.proofs.decimal.decimal_at.Goals.{At-loop-digit, In-Some}

pub returns-then-is_none : goal.returns-then-is_none
returns-then-is_none c = read_none _ _ (picked-is_some _ _ _ c.digit_at.ensures c.if-is_none.ensures)

first : (c : At-loop-digit) → is_digit (get_or c.args.text.now c.args.from 0) ≡ true
first c = picked-is_some _ _ _ c.digit_at.ensures c.if-is_none.ensures

digit : (c : In-Some) → (is_digit (get_or c.args.text.now c.loop-digit.next 0) ≡ true) × (c.in-Some.digit ≡ get_or c.args.text.now c.loop-digit.next 0 - 48)
digit c = picked-some _ _ _ c.in-Some.ensures

inside : (c : In-Some) → c.loop-digit.next < length c.args.text.now
inside c = digit-within c.args.text.now c.loop-digit.next (digit c).0

pub loop-digit-init : goal.loop-digit-init
loop-digit-init c = read_first _ _

pub returns-in_err-value : goal.returns-in_err-value
unfolding with_digit
returns-in_err-value c =
    let k = (goal.at.returns-in_err-value c).In-Some in
    let (stands, value) = digit k in
    let fails : leb (10 * c.loop-digit.value + c.in-Some.digit) largest64 ≡ false = picked-none _ _ (sym c.in_err-value.ensures.ok_part ∙ c.extend.ensures) in
    let wrong = read-large _ _ _ _ c.loop-digit.invariant (first (goal.at.returns-in_err-value c).At-loop-digit) stands (rw value at (leb-false _ _ fails)) in
    let (why, is-why, from) = err_from_is_err_and c.from_residual.result c.from_residual.ensures.1 in
    let large : c.in_err-value.field-0.0 ≡ TooLarge = cc (c.in_err-value.ensures.value, ap (λ o. ok_or o TooLarge) c.in_err-value.ensures.ok_part) in
    rw (is-why, from, large) wrong

pub overflow_add-next : goal.overflow_add-next
overflow_add-next c = omega (arith, inside (goal.at.overflow_add-next c).In-Some)

pub loop-digit-smaller : goal.loop-digit-smaller
loop-digit-smaller c = omega (arith, inside (goal.at.loop-digit-smaller c).In-Some)

pub loop-digit-preserved : goal.loop-digit-preserved
unfolding with_digit
loop-digit-preserved c =
    let k = (goal.at.loop-digit-preserved c).In-Some in
    let (stands, value) = digit k in
    let (fits, same) = picked-some _ _ _ (sym c.in_ok-value.ensures.ok_part ∙ c.extend.ensures) in
    rw (same, value) (read_next _ _ _ _ c.loop-digit.invariant stands (rw value at (leb-true _ _ fits)))

pub returns : goal.returns
returns c = read-end _ _ _ _ c.loop-digit.invariant (first (goal.at.returns c).At-loop-digit) (picked-none _ _ c.in_default.ensures)
