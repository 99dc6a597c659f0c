use mathlib.Core.Path.{sym, ◌∙◌}
use Prim.Native.Nat.{◌+◌, ◌-◌}
use borrow.Author.Tests.{ltb-false}
use Rattle.std.proofs.lemmas.Result.{err_from_is_err_and}
use Rattle.text.specs.DecimalRows.{behind_number, row_from, decimals_from}
use Rattle.text.proofs.RowLaws.{Reached, reached-next, answer-fault, answer-count}
use Rattle.text.proofs.DecimalRowLaws.{due-fault, due-many, due-number, behind-end, behind-other, behind-space}
use Rattle.text.proofs.decimal.judge.Goals as goal
use Rattle.text.proofs.decimal.judge.Goals.{In_ok-number}

pub returns-in_err-number : goal.returns-in_err-number
unfolding decimals_from
returns-in_err-number c =
    let (why, is-why, from) = err_from_is_err_and c.from_residual.result c.from_residual.ensures.1 in
    rw (is-why, from) (answer-fault _ _ _ (rw (due-fault _ _ _ _ c.in_err-number.ensures) at c.loop-count.invariant))

-- one number more is read; what stands behind it decides
passed : (c : In_ok-number)
    → let a = c.args in
    let next = c.in_ok-number.number.next in
    Reached (row_from a.places a.text.now a.from) (c.loop-count.count + 1) (behind_number a.text.now next (row_from (a.places - (c.loop-count.count + 1)) a.text.now (next + 1)))
passed c = reached-next _ _ _ _ (rw (due-number _ _ _ c.in_ok-number.ensures _ _ c.loop-count-test.true) at c.loop-count.invariant)

pub returns-in-None : goal.returns-in-None
unfolding decimals_from
returns-in-None c = answer-count _ _ (rw (behind-end _ _ _ (ltb-false _ _ (sym c.in-None.ensures.lookup.0))) at (passed (goal.at.returns-in-None c).In_ok-number))

pub returns-in-Some : goal.returns-in-Some
unfolding decimals_from
returns-in-Some c =
    let (inside, byte) = c.in-Some.ensures.lookup.3 in
    answer-fault _ _ _ (rw (behind-other _ _ _ inside (λ e. c.in-Some.field-0-test.1 (byte 0 ∙ e))) at (passed (goal.at.returns-in-Some c).In_ok-number))

pub loop-count-preserved : goal.loop-count-preserved
loop-count-preserved c =
    let (inside, byte) = c.in-Some-eq32.ensures.lookup.3 in
    rw (behind-space _ _ _ inside (sym (byte 0) ∙ c.in-Some-eq32.field-0-test)) at (passed (goal.at.loop-count-preserved c).In_ok-number)

pub returns-in_err-decimal_at : goal.returns-in_err-decimal_at
unfolding decimals_from
returns-in_err-decimal_at c =
    let (why, is-why, from) = err_from_is_err_and c.from_residual-in_err-decimal_at.result c.from_residual-in_err-decimal_at.ensures.1 in
    rw (is-why, from) (answer-fault _ _ _ (rw (due-fault _ _ _ _ c.in_err-decimal_at.ensures) at c.loop-count.invariant))

pub returns : goal.returns
unfolding decimals_from
returns c = answer-fault _ _ _ (rw (due-many _ _ _ c.in_ok-decimal_at.ensures _ _ c.loop-count-test.false) at c.loop-count.invariant)
