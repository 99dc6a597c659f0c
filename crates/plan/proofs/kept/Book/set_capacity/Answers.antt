-- Where opening is refused the records are as they were.
use Rattle.std.proofs.Common.{refl, sym, ◌∙◌}
use Rattle.plan.proofs.Opened.{refused-left, on-err}
use Rattle.plan.proofs.kept.Book.set_capacity.Goals as goal

pub returns-in_err-self-clause-err : goal.returns-in_err-self-clause-err
returns-in_err-self-clause-err c =
    on-err c.from_residual.result (refl, c.open.ensures.1 ∙ refused-left _ _ (sym c.open.ensures.0 ∙ c.in_err-self.was))
