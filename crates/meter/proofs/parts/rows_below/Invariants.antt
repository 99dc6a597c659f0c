-- The loop: the rows passed have visited the words within reach.
use Rattle.meter.proofs.VisitedRows.{Visited}
use Rattle.meter.proofs.parts.rows_below.Given as goal

abbrev pub invariant-loop-row : goal.invariant-loop-row
invariant-loop-row l = Visited l.words l.ring l.at l.rows l.first l.gathered l.reach l.least l.row-index
