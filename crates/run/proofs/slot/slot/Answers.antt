-- By what taking the slot answers.
use Rattle.run.proofs.SlotAnswers.{output-taken}
use Rattle.run.proofs.slot.slot.Goals as goal

pub returns : goal.returns
returns c = let taken = c.in_ok-slotted.ensures in (output-taken _ _ _ taken.answered taken.next, taken.written)
