-- The second test is made where the total is at most the largest capacity; else the first has decided.
use Rattle.std.proofs.Common.{◌∙◌}
use borrow.Author.Tests.{lt-leb}
use Rattle.ledger.proofs.Sparing.{sum_fits, sum-above}
use Rattle.ledger.proofs.spare.fits.Goals as goal

pub returns-then-total-le-LARGEST : goal.returns-then-total-le-LARGEST
returns-then-total-le-LARGEST c =
    let args = c.args in
    sum_fits args.total.0 args.rate.0 c.if-total-le-LARGEST.true

pub returns-else-total-le-LARGEST : goal.returns-else-total-le-LARGEST
returns-else-total-le-LARGEST c =
    let args = c.args in
    lt-leb _ _ c.if-total-le-LARGEST.false ∙ sum-above args.total.0 args.rate.0 c.if-total-le-LARGEST.false
