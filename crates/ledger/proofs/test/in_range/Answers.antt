-- Each field by its range, which for the links and the mark begins with 0.
use Rattle.std.proofs.Common.{leb, ◌∙◌, ap₂}
use Rattle.quantity.specs.Choice.{both}
use Rattle.ledger.specs.Ledgers.{record_in_range}
use Rattle.ledger.proofs.Fitting.{four-joined, from_zero}
use Rattle.ledger.proofs.test.in_range.Goals as goal

pub returns : goal.returns
unfolding record_in_range
returns c =
    let r = c.args.entry in
    four-joined c.in_range.result c.in_range-2.result (leb r.links 65535) (leb r.mark 1)
    ∙ ap₂ both c.in_range.ensures (ap₂ both c.in_range-2.ensures (ap₂ both (from_zero 65535 r.links) (from_zero 1 r.mark)))
