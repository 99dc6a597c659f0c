use Rattle.std.proofs.Common.{sym, ap, ◌∙◌, arith}
use Rattle.quantity.specs.Choice.{both}
use Rattle.quantity.specs.Ranges.{link_range}
use Rattle.quantity.proofs.Laws.{le-largest}
use Rattle.ledger.specs.Records.{has_link, is_on}
use Rattle.ledger.proofs.Record.is_on.Goals as goal

pub has_link-requires : goal.has_link-requires
has_link-requires c = omega (arith, le-largest link_range _ (sym c.in_range.ensures ∙ c.if-in_range.true))

pub returns-then-in_range : goal.returns-then-in_range
unfolding is_on
returns-then-in_range c = c.has_link.ensures ∙ ap (λ t. both t (has_link c.args.self.links c.args.link.0)) (sym c.if-in_range.true ∙ c.in_range.ensures)

pub returns-else-in_range : goal.returns-else-in_range
unfolding is_on
returns-else-in_range c = c.if-in_range.false ∙ ap (λ t. both t (has_link c.args.self.links c.args.link.0)) (sym c.if-in_range.false ∙ c.in_range.ensures)
