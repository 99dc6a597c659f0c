-- Any test that fails begins nothing.
use mathlib.Core.Path.{◌≡◌, sym, ◌∙◌}
use Prim.Native.Nat.{◌≤◌}
use native.Mathlib.Omega.{arith}
use Rattle.meter.specs.Parts.{counted_of}
use Rattle.sheet.specs.Bodies.{part}
use Rattle.run.specs.Runs.{meter_in, meter_words}
use Rattle.run.proofs.TestLaws.{meter-uncounted, meter-counted, begun-not, begun-used, begun-fits}
use Rattle.run.proofs.test.begin_run.Goals as goal
use Rattle.run.proofs.test.begin_run.Goals.{After-counted_before, then-words-ne-WORDS-via-then-words-ne-WORDS, then-words-ne-WORDS-via-else-words-ne-WORDS+then-run-eq0, then-words-ne-WORDS-via-else-words-ne-WORDS+else-run-eq0+then-run-gt-OPERATORS}

-- the count is that of the run's meter and its words
answered : (c : After-counted_before) →
    let start = c.args in
    c.counted_before.result ≡ counted_of (meter_in start.run.now) (meter_words start.words.now)
unfolding meter_words part
answered c = rw c.meter_of.ensures at c.counted_before.ensures

pub returns-then-words-ne-WORDS : goal.returns-then-words-ne-WORDS
returns-then-words-ne-WORDS c =
    begun-not _ _
    (λ fits. elim c.then-words-ne-WORDS.branch [
      | then-words-ne-WORDS-via-then-words-ne-WORDS w ↦ w.if-words-ne-WORDS.true fits.sized
      | then-words-ne-WORDS-via-else-words-ne-WORDS+then-run-eq0 w ↦ omega (arith, w.if-run-eq0.true, fits.some)
      | then-words-ne-WORDS-via-else-words-ne-WORDS+else-run-eq0+then-run-gt-OPERATORS w ↦ omega (arith, w.if-run-gt-OPERATORS.true, fits.few)
    ])

pub returns-in_default : goal.returns-in_default
returns-in_default c = begun-not _ _ (meter-uncounted _ _ (sym c.in_default.is ∙ answered (goal.at.returns-in_default c).After-counted_before))

pub returns-then-behind_unused : goal.returns-then-behind_unused
returns-then-behind_unused c =
    let found = meter-counted _ _ (sym c.in-Ok.is ∙ answered (goal.at.returns-then-behind_unused c).After-counted_before) in
    let some : 1 ≤ c.args.run.now.count = omega (arith, c.if-run-eq0.false) in
    begun-fits _ _
    (record {
      sized = c.if-words-ne-WORDS.false;
      some = some;
      few = c.if-run-gt-OPERATORS.false;
      declared = found.declared;
      ordered = found.ordered;
      meter = found.meter;
    })
    (sym c.behind_unused.ensures ∙ c.if-behind_unused.true)
    found.counted

pub returns-else-behind_unused : goal.returns-else-behind_unused
returns-else-behind_unused c = begun-used _ _ (sym c.behind_unused.ensures ∙ c.if-behind_unused.false)
