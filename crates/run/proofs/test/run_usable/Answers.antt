use mathlib.Core.Path.{◌≡◌, refl, ap, ap₂, sym, ◌∙◌}
use mathlib.Core.Bool.{Bool, true, false, not}
use mathlib.Core.Logic.{⊎_elim}
use Rattle.std.specs.Option.{is_some}
use Prim.Native.Nat.{ℕ}
use native.Mathlib.Omega.{arith}
use Rattle.quantity.specs.Choice.{both}
use Rattle.quantity.specs.Sums.{every}
use Rattle.quantity.proofs.Sums.{every-at, every-on}
use Rattle.run.specs.Runs.{stage_fits}
use Rattle.run.proofs.UsableRun.{MeterFits, usable-fits, run-unusable}
use Rattle.run.proofs.TestLaws.{Behind, named-fits, begun-told, behind-unused, stages-told, usable-told}
use Rattle.run.proofs.test.run_usable.Goals as goal
use Rattle.run.proofs.test.run_usable.Goals.{After-stage_fits, Else-is_none}

never : {t : Bool} → t ≡ true → t ≡ false → ⊥
never e f = let z : ◌≡◌ {A = ℕ} 0 1 = cc in omega arith

-- where the run is begun the meter fits, and what is behind is unused
found : (c : Else-is_none) → MeterFits c.args.run.now c.args.words.now × Behind c.args.run.now c.args.words.now
found c =
    ⊎_elim (λ none. absurd (never (c.is_none.ensures ∙ ap not c.if-is_none.false) (ap is_some none.0)))
    (λ some. (some.0, some.1.0))
    (begun-told _ _ c.begin_run.ensures)

-- what the test of stage k tells
fits_told : (c : After-stage_fits) → c.stage_fits.result ≡ stage_fits c.args.run.now c.args.words.now c.loop-k.k
fits_told c = c.stage_fits.ensures ∙ named-fits _ _ _ (omega arith)

pub returns-then-is_none : goal.returns-then-is_none
returns-then-is_none c =
    sym
    (ap not
    (run-unusable _ _
    (λ usable. ⊎_elim (λ none. none.1 (usable-fits _ _ usable) (behind-unused _ _ (usable-fits _ _ usable) usable.stages)) (λ some. never (ap is_some some.1.1) (c.is_none.ensures ∙ ap not c.if-is_none.true)) (begun-told _ _ c.begin_run.ensures))))

pub loop-k-init : goal.loop-k-init
unfolding every
loop-k-init c = refl

pub offset_bounds-run-k : goal.offset_bounds-run-k
offset_bounds-run-k c = let few = (found (goal.at.offset_bounds-run-k c).Else-is_none).0.few in omega arith

pub bounds-run-k : goal.bounds-run-k
bounds-run-k c = let few = (found (goal.at.bounds-run-k c).Else-is_none).0.few in omega arith

pub stage_fits-requires : goal.stage_fits-requires
stage_fits-requires c = let fits = (found (goal.at.stage_fits-requires c).Else-is_none).0 in let few = fits.few in (fits.sized, omega arith)

pub returns-then-not-stage_fits : goal.returns-then-not-stage_fits
returns-then-not-stage_fits c =
    let few = (found (goal.at.returns-then-not-stage_fits c).Else-is_none).0.few in
    sym
    (ap not
    (run-unusable _ _
    (λ usable. never (every-at _ _ usable.stages c.loop-k.k (omega arith)) (sym (fits_told (goal.at.returns-then-not-stage_fits c).After-stage_fits) ∙ c.if-not-stage_fits.true))))

pub loop-k-preserved : goal.loop-k-preserved
loop-k-preserved c = every-on _ _ c.loop-k.invariant (sym (fits_told (goal.at.loop-k-preserved c).After-stage_fits) ∙ c.if-not-stage_fits.false)

pub returns : goal.returns
returns c =
    let (fits, behind) = found (goal.at.returns c).Else-is_none in
    let run = c.args.run.now in
    let words = c.args.words.now in
    let ends : c.loop-k.k ≡ run.count = omega arith in
    let named : every (stage_fits run words) run.count ≡ true = rw ends at c.loop-k.invariant in
    sym (ap₂ both named behind) ∙ stages-told run words fits ∙ usable-told run words fits
