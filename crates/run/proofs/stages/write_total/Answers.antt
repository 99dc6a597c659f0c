-- The operator's words are lent, and are back as many.
use Rattle.run.proofs.WriteLaws.{total-written}
use Rattle.run.proofs.stages.write_total.Goals as goal

pub returns : goal.returns
returns c = total-written _ _ _ _ c.requires.0 c.requires.1 c.note.ensures
