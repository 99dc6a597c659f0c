-- Either way the test on the lent length is the definition's.
use borrow.Author.Tests.{lt-ltb, le-ltb}
use Rattle.text.specs.Lines.{gathered_of, line_after}
use Rattle.text.proofs.line.gather.Goals as goal

pub returns-then-length-line : goal.returns-then-length-line
unfolding gathered_of line_after
returns-then-length-line c = let place = lt-ltb _ _ c.if-length-line.true in (rw place, rw place)

pub returns-else-length-line : goal.returns-else-length-line
unfolding gathered_of line_after
returns-else-length-line c = let full = le-ltb _ _ c.if-length-line.false in (rw full, rw full)
