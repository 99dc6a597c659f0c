use Rattle.text.proofs.LineLaws.{starts-begins}
use Rattle.text.proofs.line.starts_with.Goals as goal

pub returns : goal.returns
returns c = starts-begins _ _ _ c.starts_with.ensures.value
