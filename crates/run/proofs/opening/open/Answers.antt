-- Each way out by the words' length and by the figures.
use mathlib.Core.Path.{ap, ◌∙◌}
use Rattle.std.specs.Prelude.{Ok}
use Rattle.std.proofs.Common.{length}
use Rattle.quantity.proofs.Sums.{list_of-ext}
use Rattle.std.proofs.lemmas.Result.{err_from_is_err_and}
use Rattle.sheet.specs.Sheets.{path_in}
use Rattle.run.proofs.OpeningLaws.{opening-unsized, opening-refused, opening-accepted, accepted-few, accepted-path}
use Rattle.run.proofs.opening.open.Goals as goal

pub returns-then-words-ne-WORDS : goal.returns-then-words-ne-WORDS
returns-then-words-ne-WORDS c = opening-unsized _ _ c.if-words-ne-WORDS.true

pub returns-in_err-planned : goal.returns-in_err-planned
returns-in_err-planned c =
    let p = err_from_is_err_and c.from_residual.result c.from_residual.ensures.1 in
    rw (p.1, p.2) (opening-refused _ _ c.if-words-ne-WORDS.false c.in_err-planned.ensures)

pub returns : goal.returns
returns c =
    let sheet = c.args.sheet.now in
    let accepted = c.in_ok-planned.ensures in
    let cleared = list_of-ext 0 (λ j. 0) (length c.args.words.now) c.clear.new.words c.clear.ensures.len c.clear.ensures.zero in
    let new = c.new_run.ensures (path_in sheet) (accepted-few sheet accepted) (accepted-path sheet accepted) in
    let (answer, after) = opening-accepted sheet c.args.words.now c.if-words-ne-WORDS.false accepted cleared in
    (ap Ok new ∙ answer, after)
