-- The tests in turn; then the words are the newest of each age, and the state is that of the slot after.
use Rattle.std.proofs.Common.{◌≡◌, ℕ, ◌+◌, true, false, length, sym, refl, ◌∙◌, arith, Ok}
use Rattle.quantity.specs.Choice.{pick, any_of}
use Rattle.quantity.proofs.Laws.{pick_true, pick-false}
use Rattle.operator.specs.Operators.{number_in_range}
use Rattle.operator.specs.Single.{word_count, uses_held, holds}
use Rattle.words.proofs.StoredLaws.{Fit, fit, unfit_tests}
use Rattle.operator.proofs.SingleLaws.{used-within}
use Rattle.operator.proofs.PartsLaws.{Keeping, kept-unfit, kept-outside, kept-newest}
use Rattle.operator.proofs.parts.keep.Goals as goal
use Rattle.operator.proofs.parts.keep.Goals.{After-keep_newest, Else-not-number_in_range, Else-unfit}

passed : (c : Else-unfit) →
    let start = c.args in
    any_of (unfit_tests (length start.words.now) word_count start.state.slot.0 start.kept.0 start.beside.0) ≡ false
passed c = sym c.unfit.ensures ∙ c.if-unfit.false

tested : (c : Else-unfit) →
    let start = c.args in
    Fit (length start.words.now) word_count start.state.slot.0 start.kept.0 start.beside.0
tested c = fit _ _ _ _ _ (passed c)

inside : (c : Else-not-number_in_range) → number_in_range c.args.state.operator ≡ true
inside c = sym c.number_in_range.ensures ∙ c.if-not-number_in_range.false

pub returns-then-unfit : goal.returns-then-unfit
returns-then-unfit c = kept-unfit _ _ _ _ _ (sym c.unfit.ensures ∙ c.if-unfit.true)

pub returns-then-not-number_in_range : goal.returns-then-not-number_in_range
returns-then-not-number_in_range c = kept-outside _ _ _ _ _ (passed (goal.at.returns-then-not-number_in_range c).Else-unfit) (sym c.number_in_range.ensures ∙ c.if-not-number_in_range.true)

pub keep_newest-requires : goal.keep_newest-requires
keep_newest-requires c =
    let known = tested (goal.at.keep_newest-requires c).Else-unfit in
    (omega (arith, c.words_used.ensures, used-within _ (inside (goal.at.keep_newest-requires c).Else-not-number_in_range), known.sized), known.first_le)

-- with what the state's field has of the units kept
next : (c : After-keep_newest) (inside : number_in_range c.args.state.operator ≡ true) (field : ℕ) → field ≡ pick (uses_held c.args.state.operator) c.args.kept.0 0 →
    let a = c.args in
    Keeping a.state a.words.now a.input.0 a.kept.0 a.beside.0 (Ok (record { operator = a.state.operator; slot = record { 0 = a.state.slot.0 + 1 }; held = record { 0 = field }; beside = a.beside })) c.keep_newest.new.words
unfolding holds
next c within field same =
    let written = c.keep_newest in
    let used = c.words_used.ensures in
    let a = c.args in
    let first = sym c.unfit.ensures ∙ c.if-unfit.false in
    let sized = (fit (length a.words.now) word_count a.state.slot.0 a.kept.0 a.beside.0 first).sized in
    kept-newest _ _ _ _ _ first within written.new.words (written.auto.words ∙ sized)
    (λ a less. written.ensures.kept_below _ refl a (rw used less)) (λ a more. written.ensures.same_behind a (rw used more)) field same

pub returns-then-uses_held : goal.returns-then-uses_held
returns-then-uses_held c =
    let at = goal.at.returns-then-uses_held c in
    next at.After-keep_newest (inside at.Else-not-number_in_range) _ (sym (pick_true _ _ _ (sym c.uses_held.ensures ∙ c.if-uses_held.true)))

pub returns-else-uses_held : goal.returns-else-uses_held
returns-else-uses_held c =
    let at = goal.at.returns-else-uses_held c in
    next at.After-keep_newest (inside at.Else-not-number_in_range) _ (sym (pick-false _ _ _ (sym c.uses_held.ensures ∙ c.if-uses_held.false)))
