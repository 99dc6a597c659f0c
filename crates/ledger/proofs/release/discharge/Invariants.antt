-- The totals of the links passed are without the record's share.
use Rattle.std.proofs.Common.{◌-◌}
use Rattle.quantity.specs.declared.Rate.{Rate}
use Rattle.ledger.proofs.Reserving.{Charging}
use Rattle.ledger.proofs.release.discharge.Given as goal

-- one rate less another
abbrev pub lessened : Rate → Rate → Rate
lessened a b = record { 0 = a.0 - b.0 }

abbrev pub invariant-loop-link : goal.invariant-loop-link
invariant-loop-link l = Charging lessened l.initial.total-items l.gone l.total-items l.link
