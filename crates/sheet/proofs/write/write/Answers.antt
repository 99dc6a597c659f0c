-- Each form has its writer.
use Rattle.sheet.proofs.SheetWritten.{wrong-length}
use Rattle.sheet.proofs.write.write.Goals as goal

pub returns-in_default : goal.returns-in_default
returns-in_default c = wrong-length _ _ c.in_default.ensures.cases
