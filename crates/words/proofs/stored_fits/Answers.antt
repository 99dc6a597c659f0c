-- An amount that is not used is at most 0 just where it is 0.
use Rattle.std.proofs.Common.{leb, sym, ap, ◌∙◌}
use Rattle.quantity.proofs.Laws.{pick_true, pick-false}
use Rattle.words.specs.Stored.{stored_fits}
use Rattle.words.proofs.JoinLaws.{eqb-zero}
use Rattle.words.proofs.stored_fits.Goals as goal
use Rattle.words.proofs.stored_fits.Goals.{then-used, else-used}

pub returns : goal.returns
unfolding stored_fits
returns c =
    let amount = c.args.amount in
    elim c.if-used.branch [
      | then-used w ↦ ap (leb amount) w.most-is ∙ sym (pick_true _ _ _ w.if-used.true)
      | else-used w ↦ ap (leb amount) w.most-is ∙ sym (pick-false _ _ _ w.if-used.false ∙ eqb-zero amount)
    ]
