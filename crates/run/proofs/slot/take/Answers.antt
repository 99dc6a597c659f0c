use mathlib.Core.Path.{◌≡◌, refl, ap, sym, ◌∙◌}
use mathlib.Core.List.{List}
use Prim.Native.Nat.{ℕ, ◌+◌}
use native.Mathlib.Omega.{arith}
use lib.ListN.{length, length-replicate}
use Rattle.std.proofs.lemmas.Result.{err_from_is_err_and}
use Rattle.quantity.specs.Limits.{most_operators}
use Rattle.quantity.specs.declared.Units.{Units}
use Rattle.run.specs.declared.Run.{Run}
use Rattle.run.specs.declared.Stage.{Stage}
use Rattle.run.specs.Calls.{Call, call_of}
use Rattle.run.specs.Runs.{meter_in, meter_words}
use Rattle.sheet.specs.Bodies.{part}
use Rattle.run.specs.Steps.{awaited_in, run_advanced, block_written, run_written}
use Rattle.run.proofs.MovingLaws.{Ready, none-begun, some-begun, moving-start, moving-sent, moving-above, unusable-refused}
use Rattle.run.proofs.WriteLaws.{meter-written, metered-size, metered-same, all-written, words-end}
use Rattle.quantity.specs.declared.refusal.Refusal.{Refusal}
use Rattle.quantity.proofs.Refusals.{FirstIs}
use Rattle.std.specs.Prelude.{Err}
use Rattle.operator.specs.Single.{word_count}
use Rattle.run.specs.Slots.{slot_cases, output_of, slotted_of, words_slotted}
use Rattle.run.proofs.Writing.{run-written}
use Rattle.run.proofs.SlotLaws.{Taking, judged-refused, judged-taken, answer-refused, answer-taken}
use Rattle.run.proofs.slot.take.Goals as goal
use Rattle.run.proofs.slot.take.Invariants.{with_stages}
use Rattle.run.proofs.slot.take.Goals.{In-Some, In_ok-judge, in-Ok, in-Err-ChoiceAbove}

-- all before the operators fits, and of the input it is known what the run tells
ready : (c : In-Some) → let a = c.args in Ready a.run.now a.words.now a.input a.choices.now × (c.in-Some.awaited ≡ awaited_in a.run.now a.words.now)
ready c = some-begun _ _ _ _ c.in-Some.ensures.begun

refused : (run : Run) (words : List ℕ) (call : Call) {why : Refusal} → FirstIs (slot_cases run words call) why → (Err why ≡ output_of (slotted_of run words call)) × (words ≡ words_slotted run words call)
refused run words call first = let (answer, after) = answer-refused run words call _ first in (ap output_of answer, after)

pub returns-in_default : goal.returns-in_default
returns-in_default c = let (answer, after) = refused _ _ _ (none-begun _ _ _ _ (sym c.in_default.is ∙ c.begin.ensures.begun)) in record { answered = answer; written = after; next = tt }

pub loop-k-init : goal.loop-k-init
loop-k-init c =
    let full : length c.args.run.now.stages ≡ most_operators = omega arith in
    (refl, moving-start (ready (goal.at.loop-k-init c).In-Some).0 full c.new-progress.ensures _ (length-replicate most_operators word_count))

pub returns-in-Err-Unusable : goal.returns-in-Err-Unusable
returns-in-Err-Unusable c =
    let told = rw c.in-Err-Unusable.field-0-is at c.in-Err-Unusable.ensures in
    let (answer, after) = refused _ _ _ (unusable-refused (ready (goal.at.returns-in-Err-Unusable c).In-Some).0 c.loop-k.invariant.1 c.loop-k-test.true told) in
    record { answered = answer; written = after; next = tt }

-- the other fields stay
stages-alone : (run now : Run) (stages : List Stage) → now ≡ with_stages run now.stages → with_stages now stages ≡ with_stages run stages
stages-alone run now stages same = ap (λ (r : Run). with_stages r stages) same

pub loop-k-preserved : goal.loop-k-preserved
loop-k-preserved c =
    let known = (ready (goal.at.loop-k-preserved c).In-Some).0 in
    elim c.match-advance_stage.branch [
      | in-Ok w ↦
          rw (w.run-is, w.places-is, w.progress-is)
          (stages-alone c.args.run.now c.loop-k.run _ c.loop-k.invariant.0, moving-sent known c.loop-k.invariant.1 c.loop-k-test.true w.in-Ok.ensures w.stage_of.ensures w.sent-progress.ensures)
      | in-Err-ChoiceAbove w ↦
          let told = rw w.in-Err-ChoiceAbove.field-0-is at w.in-Err-ChoiceAbove.ensures in
          rw (w.run-is, w.places-is, w.progress-is) (c.loop-k.invariant.0, moving-above known c.loop-k.invariant.1 c.loop-k-test.true told w.above-progress.ensures)
    ]

pub returns-in_err-judge : goal.returns-in_err-judge
returns-in_err-judge c =
    let known = ready (goal.at.returns-in_err-judge c).In-Some in
    let p = err_from_is_err_and c.from_residual.result c.from_residual.ensures.1 in
    let ends : c.loop-k.k ≡ c.args.run.now.count = omega arith in
    let (answer, after) = refused _ _ _ (judged-refused known.0 (rw ends at c.loop-k.invariant.1) (rw known.1 at c.in_err-judge.ensures)) in
    rw (p.1, p.2) (record { answered = answer; written = after; next = tt })

-- the slot is taken
taking : (c : In_ok-judge) → let a = c.args in Ready a.run.now a.words.now a.input a.choices.now × (c.in-Some.awaited ≡ awaited_in a.run.now a.words.now)
    → Taking a.run.now a.words.now (call_of a.input a.choices.now) c.loop-k.progress c.loop-k.run.stages c.loop-k.places
taking c known =
    let ends : c.loop-k.k ≡ c.args.run.now.count = omega arith in
    judged-taken known.0 (rw ends at c.loop-k.invariant.1) (rw known.1 at c.in_ok-judge.ensures)

-- the run that is answered
run-next : (run : Run) (words : List ℕ) (call : Call) {block : Units} {stages : List Stage} → block ≡ block_written run words call.input → stages ≡ (run_advanced run words call).stages
    → record { declaration = run.declaration; slot = record { 0 = run.slot.0 + 1 }; block = block; count = run.count; stages = stages } ≡ run_written (run_advanced run words call) words call.input
unfolding run_written run_advanced block_written awaited_in meter_in
run-next run words call blocks same = rw (blocks, same)

advanced-same : (run : Run) (words : List ℕ) (call : Call) {stages : List Stage} → stages ≡ (run_advanced run words call).stages → with_stages run stages ≡ run_advanced run words call
unfolding run_advanced
advanced-same run words call same = ap (with_stages run) same

pub returns : goal.returns
unfolding meter_in meter_words part
returns c =
    let a = c.args in
    let run = a.run.now in
    let call = call_of a.input a.choices.now in
    let known = ready (goal.at.returns c).In-Some in
    let taken = taking (goal.at.returns c).In_ok-judge known in
    let sized = known.0.fits.sized in
    let lent = meter-written c.in-Some.awaited.at a.input.0 a.words.now sized c.note_input.ensures in
    let metered = metered-same run a.words.now a.input known.1 c.block_behind-run.ensures lent in
    let then = with_stages run c.loop-k.run.stages in
    let written = all-written then _ (metered-size _ _ _ sized lent) c.loop-k.places run.count known.0.fits.few taken.noted in
    let words-then = c.write_totals.ensures ∙ words-end then a.words.now a.input.0 sized metered.1 refl written in
    let next =
    ap (λ (r : Run). record { declaration = r.declaration; slot = record { 0 = run.slot.0 + 1 }; block = c.block_behind-run.result; count = r.count; stages = r.stages }) c.loop-k.invariant.0
    ∙ run-next run a.words.now call metered.0 taken.stages_next
    in
    let (answer, after) = answer-taken _ _ _ taken next (rw (advanced-same run a.words.now call taken.stages_next) at words-then) in
    record { answered = ap output_of answer; written = after; next = next ∙ run-written run a.words.now call taken.none }
