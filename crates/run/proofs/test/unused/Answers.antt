-- What the stage stores, and its words.
use mathlib.Core.Path.{ap₂, ◌∙◌}
use lib.Dec.{eqb}
use Rattle.quantity.specs.Choice.{both}
use Rattle.run.specs.Steps.{stage_unused}
use Rattle.flow.proofs.Folds.{and-both}
use Rattle.run.proofs.Parts.{length-operator_words}
use Rattle.run.proofs.test.unused.Goals as goal

pub returns : goal.returns
unfolding stage_unused
returns c =
    let a = c.args in
    let clear = rw (c.operator_words.ensures, length-operator_words a.words.now c.requires.0 a.k c.requires.1) at c.row_clear.ensures in
    and-both (eqb c.join.result 0) c.row_clear.result ∙ ap₂ both c.join.ensures clear
