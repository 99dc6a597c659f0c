use Rattle.std.proofs.Common.{◌≡◌, not, refl, ap, ◌∙◌, arith}
use Rattle.quantity.specs.Sums.{every}
use Rattle.ledger.specs.Records.{has_link}
use Rattle.ledger.specs.Ledgers.{link_count}
use Rattle.ledger.proofs.Naming.{room_at, short-next, room-all}
use Rattle.ledger.proofs.holding.link_short.Goals as goal

pub loop-link-init : goal.loop-link-init
unfolding every
loop-link-init c = refl

pub loop-link-preserved : goal.loop-link-preserved
loop-link-preserved c =
    let a = c.args in
    short-next a.capacities a.totals (has_link a.links) a.rate c.loop-link.link c.loop-link.invariant c.has_link.ensures c.plus-raised.ensures

pub returns : goal.returns
returns c =
    let a = c.args in
    let all : c.loop-link.link ≡ link_count = omega arith in
    c.loop-link.invariant ∙ ap not (ap (every (room_at a.capacities a.totals (has_link a.links) a.rate)) all) ∙ room-all a.capacities a.totals (has_link a.links) a.rate
