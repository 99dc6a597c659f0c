-- By whether the input has a word.
use Rattle.std.proofs.Common.{sym, ◌∙◌, ap}
use Rattle.std.specs.Option.{is_some}
use Rattle.quantity.proofs.Laws.{pick_true, pick-false}
use Rattle.meter.specs.Parts.{block_behind}
use Rattle.meter.proofs.parts.block_behind.Goals as goal

pub returns-in-Some : goal.returns-in-Some
unfolding block_behind
returns-in-Some c = sym (pick_true _ _ _ (ap is_some c.in-Some.is))

pub returns-in-None : goal.returns-in-None
unfolding block_behind
returns-in-None c = c.plus.ensures ∙ sym (pick-false _ _ _ (ap is_some c.in-None.is))
