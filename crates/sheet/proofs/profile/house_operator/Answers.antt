-- The hop's operator, and the hop's number as the link.
use native.Mathlib.Omega.{arith}
use Rattle.sheet.specs.House.{house_operator}
use Rattle.sheet.proofs.HouseLaws.{hop-length}
use Rattle.sheet.proofs.profile.house_operator.Goals as goal

pub nonzero_rem-k : goal.nonzero_rem-k
nonzero_rem-k c = omega (arith, (hop-length c.args.house).0, c.hop_length-length.ensures)

pub nonzero_div-link : goal.nonzero_div-link
nonzero_div-link c = omega (arith, (hop-length c.args.house).0, c.hop_length-length.ensures)

pub returns : goal.returns
unfolding house_operator
returns c = rw (c.hop_operator-operator.ensures, c.hop_length-length.ensures)
