-- Each way out is what the parts answered in turn.
use Rattle.std.proofs.Common.{◌≡◌, sym, ◌∙◌, Result}
use Rattle.std.proofs.lemmas.Result.{err_from_is_err_and}
use Rattle.operator.specs.declared.SingleOperator.{SingleOperator}
use Rattle.operator.specs.declared.parts.Sending.{Sending}
use Rattle.operator.specs.declared.parts.Unsent.{Unsent}
use Rattle.operator.proofs.StepAnswers.{Answered, step_decided, words_decided, step_kept, step-above, step-unusable, step-decided, step-kept}
use Rattle.operator.proofs.single.step_alone.Goals as goal
use Rattle.operator.proofs.single.step_alone.Goals.{After-decide, After-keep}

decided : (c : After-decide) {answer : Result Sending Unsent} → c.decide.result ≡ answer →
    let start = c.args in
    let state = start.state in
    let words = start.words.now in
    Answered state words start.input.0 start.choice.0 (step_decided state words answer) (words_decided state words start.input.0 answer)
decided c told =
    step-decided _ _ _ _ c.if-input-gt-LARGEST.false (sym c.in-Some.is ∙ c.stored_in.ensures) (sym told ∙ c.decide.ensures)

kept : (c : After-keep) {answer : Result SingleOperator Unsent} → c.keep.result ≡ answer →
    let start = c.args in
    Answered start.state start.words.now start.input.0 start.choice.0 (step_kept c.in_ok-sending.sending.output answer) c.keep.new.words
kept c told =
    step-kept _ _ _ _ c.if-input-gt-LARGEST.false (sym c.in-Some.is ∙ c.stored_in.ensures)
    (sym c.in_ok-sending.was ∙ c.decide.ensures) (sym told ∙ c.keep.ensures.0) c.keep.ensures.1

pub returns-then-input-gt-LARGEST : goal.returns-then-input-gt-LARGEST
returns-then-input-gt-LARGEST c = step-above _ _ _ _ c.if-input-gt-LARGEST.true

pub returns-in_default : goal.returns-in_default
returns-in_default c = step-unusable _ _ _ _ c.stored_in.ensures c.in_default.not-Some

pub returns-in_err-sending : goal.returns-in_err-sending
returns-in_err-sending c =
    let p = err_from_is_err_and c.from_residual.result c.from_residual.ensures.1 in
    rw (p.1, p.2) (decided (goal.at.returns-in_err-sending c).After-decide c.in_err-sending.was)

pub returns-in_err-next : goal.returns-in_err-next
returns-in_err-next c =
    let p = err_from_is_err_and c.from_residual-in_err-next.result c.from_residual-in_err-next.ensures.1 in
    rw (p.1, p.2) (kept (goal.at.returns-in_err-next c).After-keep c.in_err-next.was)

pub returns : goal.returns
returns c = kept (goal.at.returns c).After-keep c.in_ok-next.was
