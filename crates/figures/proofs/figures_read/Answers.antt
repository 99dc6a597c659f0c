use Prim.Native.Nat.{◌<◌}
use mathlib.Core.Path.{◌≡◌, refl, sym, ap, subst, ◌∙◌}
use native.Mathlib.Omega.{arith}
use lib.ListN.{length, take}
use lib.Seq.{length-take-le}
use Rattle.flow.specs.Declarations.{class_of}
use Rattle.flow.specs.declared.Kind.{Kind}
use Rattle.flow.specs.declared.Declaration.{Declaration}
use Rattle.sheet.specs.Forms.{in_full}
use Rattle.figures.specs.Progress.{start}
use Rattle.figures.specs.Answers.{operator_at, no_figure}
use Rattle.figures.specs.Carried.{Lent, progress_in, planned_of, pairs_with, follower_in, figure_of}
use Rattle.std.proofs.lemmas.Result.{err_from_is_err_and}
use Rattle.figures.proofs.ClassLaws.{reaches_here}
use Rattle.figures.proofs.EachOperator.{planned_at, walked_start, walked-planned, walked_next, slots-here, operator-ready, paired-here, delay-counted, refused-path, late-path, accepted-path}
use Rattle.figures.proofs.figures_read.Goals as goal
use Rattle.figures.proofs.figures_read.Goals.{At-loop-k, In-loop-k, After-loop-k, After-plan}

-- all operators are passed
size : (c : At-loop-k) → length (take c.args.path.now.count c.args.path.now.operators) ≡ c.args.path.now.count
size c = length-take-le c.args.path.now.count c.args.path.now.operators (omega (arith, c.requires.0.within.few, c.requires.0.within.full))

here : (c : In-loop-k) → c.loop-k.k < c.args.path.now.count
here c = omega (arith, size (goal.at.In-loop-k c).At-loop-k)

pub loop-k-init : goal.loop-k-init
unfolding in_full no_figure
loop-k-init c =
    let value = c.args.path.now in
    let (carries, kind, unfiltered) = c.start-carried.ensures in
    let walked = walked_start _ (in_full value) c.start-carried.result no_figure (carries ∙ ap (λ (declared : Declaration). start (class_of declared)) (sym c.requires.0.within.clear))
    (subst (λ (k : Kind). Lent k value.declaration c.args.bound.now) (sym kind) c.requires.0.lent) unfiltered refl in
    rw c.requires.1 walked

pub most_arriving-requires : goal.most_arriving-requires
most_arriving-requires c =
    let walked = c.loop-k.invariant in
    let less = here (goal.at.most_arriving-requires c).In-loop-k in
    let far = reaches_here c.loop-k.carried.class.kind c.args.path.now.declaration c.args.bound.now walked.lent c.requires.0.reaches (slots-here c.requires.0.within walked less) in
    ((operator-ready c.requires.0.within walked less).0, far)

pub plan-requires : goal.plan-requires
unfolding in_full operator_at
plan-requires c =
    let (ready, number) = operator-ready c.requires.0.within c.loop-k.invariant (here (goal.at.plan-requires c).In-loop-k) in
    (record { ready = ready; arriving = c.most_arriving.ensures }, number)

-- the operator at hand, with the one that follows it
asked : (c : After-plan) → let value = c.args.path.now in
    figure_of c.plan.result ≡ planned_of (progress_in value.declaration c.loop-k.carried) (operator_at (in_full value) c.loop-k.k) (pairs_with (operator_at (in_full value) c.loop-k.k) (follower_in (in_full value).operators c.loop-k.k)) c.loop-k.k
unfolding in_full operator_at
asked c = rw (← c.follower.ensures) c.plan.ensures.answered

-- what was planned of operator k
planned-at : (c : After-plan) → figure_of c.plan.result ≡ planned_at (in_full c.args.path.now) c.loop-k.k
planned-at c =
    let paired = paired-here c.requires.0.within c.loop-k.invariant (here (goal.at.After-plan c).In-loop-k) in
    walked-planned c.loop-k.invariant refl paired (asked c)

pub returns-in_err-planned : goal.returns-in_err-planned
returns-in_err-planned c =
    let p = err_from_is_err_and c.from_residual.result c.from_residual.ensures.1 in
    let refused = sym (ap figure_of c.in_err-planned.was) ∙ planned-at (goal.at.returns-in_err-planned c).After-plan in
    rw (p.1, p.2) (refused-path c.requires.0.within c.loop-k.invariant (here (goal.at.returns-in_err-planned c).In-loop-k) refused)

pub loop-k-preserved : goal.loop-k-preserved
unfolding in_full operator_at
loop-k-preserved c =
    let walked = c.loop-k.invariant in
    let less = here (goal.at.loop-k-preserved c).In-loop-k in
    let planned = sym (ap figure_of c.in_ok-planned.was) ∙ planned-at (goal.at.loop-k-preserved c).After-plan in
    let (carries, lent, burst) = c.in_ok-planned.ensures.carried in
    let few = c.requires.0.within.few in
    walked_next walked (omega (arith, less, few)) refl planned carries lent burst (delay-counted c.requires.0.within walked less planned c.plus-delay.ensures)

-- behind the last operator
ends : (c : After-loop-k) → c.loop-k.k ≡ c.args.path.now.count
ends c = omega (arith, size (goal.at.After-loop-k c).At-loop-k)

pub returns-then-path-delay : goal.returns-then-path-delay
returns-then-path-delay c =
    let walked = rw (ends (goal.at.returns-then-path-delay c).After-loop-k) at c.loop-k.invariant in
    late-path c.requires.0.within walked c.if-path-delay.true

pub returns : goal.returns
returns c =
    let walked = rw (ends (goal.at.returns c).After-loop-k) at c.loop-k.invariant in
    accepted-path c.requires.0.within walked c.if-path-delay.false
