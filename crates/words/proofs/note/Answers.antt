-- By the test.
use Rattle.std.proofs.Common.{sym, le-ltb, lt-ltb}
use Rattle.quantity.proofs.Laws.{pick_true, pick-false}
use Rattle.words.specs.Stored.{word_noted}
use Rattle.words.proofs.note.Goals as goal

pub returns-then-at-words : goal.returns-then-at-words
unfolding word_noted
returns-then-at-words c = sym (pick_true _ _ _ (lt-ltb _ _ c.if-at-words.true))

pub returns-else-at-words : goal.returns-else-at-words
unfolding word_noted
returns-else-at-words c = sym (pick-false _ _ _ (le-ltb _ _ c.if-at-words.false))
