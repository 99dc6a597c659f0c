-- By the test's answer.
use mathlib.Core.Path.{sym, ◌∙◌}
use borrow.Author.Tests.{not-true, not-false}
use Rattle.run.proofs.WatchLaws.{watched-usable, watched-unusable}
use Rattle.run.proofs.watch.held.Goals as goal

pub returns-then-run_usable : goal.returns-then-run_usable
returns-then-run_usable c = watched-usable _ _ (not-true _ (sym c.run_usable.ensures ∙ c.if-run_usable.true)) (c.units_held.ensures _)

pub returns-else-run_usable : goal.returns-else-run_usable
returns-else-run_usable c = watched-unusable _ _ (not-false _ (sym c.run_usable.ensures ∙ c.if-run_usable.false))
