-- Units above 32 bits wrap into the total.
use Rattle.operator.proofs.RingLaws.{more-wrapped}
use Rattle.operator.proofs.ring.total_more.Goals as goal

pub returns : goal.returns
returns c = more-wrapped c.args.total c.args.units
