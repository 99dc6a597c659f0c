use Rattle.std.proofs.Common.{ℕ, sym, ap, ◌∙◌}
use Rattle.quantity.proofs.Laws.{pick_true, pick-false}
use Rattle.ledger.specs.Records.{share}
use Rattle.ledger.proofs.test.share_on.Goals as goal

pub returns-then-has_link : goal.returns-then-has_link
unfolding share
returns-then-has_link c = ap (λ (n : ℕ). record { 0 = n }) (sym (pick_true _ c.args.entry.rate.0 0 (sym c.has_link.ensures ∙ c.if-has_link.true)))

pub returns-else-has_link : goal.returns-else-has_link
unfolding share
returns-else-has_link c = ap (λ (n : ℕ). record { 0 = n }) (sym (pick-false _ c.args.entry.rate.0 0 (sym c.has_link.ensures ∙ c.if-has_link.false)))
