use Rattle.std.proofs.Common.{rules}
use Rattle.words.proofs.StoredLaws.{sum-total}
use Rattle.words.proofs.sum.Goals as goal

pub returns : goal.returns
returns c = rw (← sum-total c.args.words.now) (search rules)
