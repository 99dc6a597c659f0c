-- The reader's refusal is the answer, or else what planning the path comes to.
use mathlib.Core.Path.{refl, ◌≡◌, sym, ap, ◌∙◌}
use Rattle.std.proofs.lemmas.Result.{err_from_is_err_and}
use Rattle.figures.specs.Answers.{no_figure, figures_of}
use Rattle.figures.specs.Carried.{planned_by}
use Rattle.quantity.specs.declared.Slots.{Slots}
use Rattle.quantity.specs.declared.refusal.Refusal.{Refusal}
use Rattle.std.specs.Prelude.{Result}
use Rattle.sheet.proofs.AnswerLaws.{behind}
use Rattle.figures.proofs.SheetAnswer.{with_path, refused-read, path-within, planned-figures}
use Rattle.figures.proofs.figures.Goals as goal
use Rattle.figures.proofs.figures.Goals.{After-plan_path}

pub returns-in_err-path : goal.returns-in_err-path
returns-in_err-path c =
    let p = err_from_is_err_and c.from_residual.result c.from_residual.ensures.1 in
    rw (p.1, p.2) (refused-read c.args.sheet.now c.read.ensures c.in_err-path.was)

pub plan_path-requires : goal.plan_path-requires
unfolding no_figure
plan_path-requires c = (path-within c.args.sheet.now c.read.ensures c.in_ok-path.was, refl)

-- the figures by what was planned
planned : (c : After-plan_path) → behind (with_path c.in_ok-path.path) (planned_by c.plan_path.new.figures c.plan_path.result) ≡ figures_of c.args.sheet.now
planned c = ap (behind (with_path c.in_ok-path.path)) c.plan_path.ensures ∙ sym (planned-figures c.args.sheet.now c.read.ensures c.in_ok-path.was)

pub returns-in_err-delay : goal.returns-in_err-delay
returns-in_err-delay c =
    let p = err_from_is_err_and c.from_residual-in_err-delay.result c.from_residual-in_err-delay.ensures.1 in
    let refused = ap (λ (answer : Result Slots Refusal). behind (with_path c.in_ok-path.path) (planned_by c.plan_path.new.figures answer)) (sym c.in_err-delay.was) in
    rw (p.1, p.2) (refused ∙ planned (goal.at.returns-in_err-delay c).After-plan_path)

pub returns : goal.returns
returns c =
    let answered = ap (λ (answer : Result Slots Refusal). behind (with_path c.in_ok-path.path) (planned_by c.plan_path.new.figures answer)) (sym c.in_ok-delay.was) in
    answered ∙ planned (goal.at.returns c).After-plan_path
