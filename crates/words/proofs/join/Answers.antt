use Rattle.std.proofs.Common.{rules}
use Rattle.words.proofs.JoinLaws.{fold-joined}
use Rattle.words.proofs.join.Goals as goal

pub returns : goal.returns
returns c = rw (← fold-joined c.args.words.now) (search rules)
