-- The invariant: whether every link passed has room.
use Rattle.std.proofs.Common.{◌≡◌, not}
use Rattle.quantity.specs.Sums.{every}
use Rattle.ledger.specs.Records.{has_link}
use Rattle.ledger.proofs.Naming.{room_at}
use Rattle.ledger.proofs.holding.link_short.Given as goal

abbrev pub invariant-loop-link : goal.invariant-loop-link
invariant-loop-link l = l.short ≡ not (every (room_at l.capacities l.totals (has_link l.links) l.rate) l.link)
