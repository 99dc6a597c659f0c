-- The difference that wraps is the one of the definition.
use Rattle.std.proofs.Common.{ℕ, ap, arith}
use Rattle.quantity.specs.declared.Rate.{Rate}
use Rattle.ledger.proofs.Sparing.{left-wraps}
use Rattle.ledger.proofs.spare.left.Goals as goal

pub returns : goal.returns
returns c = ap {B = Rate} (λ (n : ℕ). record { 0 = n }) (left-wraps c.args.capacity.0 c.args.total.0 (omega arith) (omega arith))
