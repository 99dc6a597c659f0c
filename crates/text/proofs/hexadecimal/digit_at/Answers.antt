-- Past the end the element is 0, which is no digit.
use Rattle.std.proofs.Common.{sym}
use borrow.Author.Tests.{ltb-false}
use Rattle.text.proofs.HexadecimalLaws.{no-digit-past}
use Rattle.text.proofs.hexadecimal.digit_at.Goals as goal

pub returns-in_err-get : goal.returns-in_err-get
returns-in_err-get c = rw (no-digit-past c.args.text.now c.args.at (ltb-false _ _ (sym c.in_err-get.ensures.lookup.0))) c.from_residual.ensures
