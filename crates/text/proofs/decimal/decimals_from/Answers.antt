-- A count is answered where the row has no fault, and then it is stored; else there is a fault, and nothing changes.
use Rattle.std.proofs.lemmas.Result.{err_from_is_err_and}
use Rattle.text.specs.DecimalRows.{decimals_from, numbers_after}
use Rattle.text.proofs.RowLaws.{fault-keeps, counted-no-fault, refused-fault}
use Rattle.text.proofs.decimal.decimals_from.Goals as goal

pub store-requires : goal.store-requires
unfolding decimals_from
store-requires c = counted-no-fault _ _ c.in_ok-count.ensures

pub returns-in_err-count : goal.returns-in_err-count
unfolding decimals_from numbers_after
returns-in_err-count c =
    let (why, is-why, from) = err_from_is_err_and c.from_residual.result c.from_residual.ensures.1 in
    (rw (is-why, from) c.in_err-count.ensures, fault-keeps _ _ (refused-fault _ _ c.in_err-count.ensures) _)
