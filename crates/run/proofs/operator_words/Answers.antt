-- The part that is lent is as wide as an operator's words.
use Rattle.run.proofs.MovingLaws.{lent-words}
use Rattle.run.proofs.operator_words.Goals as goal

pub returns : goal.returns
returns c = lent-words _ _
