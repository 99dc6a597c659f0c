-- The tests in turn; what passed them is what the least output asks, and its laws give the greatest, what is sent and what stays.
use Rattle.std.proofs.Common.{◌≡◌, true, false, sym, refl, ◌∙◌, arith}
use Rattle.operator.specs.Operators.{number_in_range}
use Rattle.operator.specs.Parts.{undecidable}
use Rattle.operator.proofs.PartsLaws.{Decidable, decidable, decided-undecidable, decided-outside, decided-above, decided-sends}
use Rattle.operator.proofs.parts.decide.Goals as goal
use Rattle.operator.proofs.parts.decide.Goals.{Else-not-number_in_range, Else-undecidable}

passed : (c : Else-undecidable) →
    let start = c.args in
    undecidable start.state start.words.now start.held.0 start.input.0 start.choice.0 ≡ false
passed c = sym c.undecidable.ensures ∙ c.if-undecidable.false

tested : (c : Else-undecidable) →
    let start = c.args in
    Decidable start.state start.words.now start.held.0 start.input.0 start.choice.0
tested c = decidable _ _ _ _ _ (passed c)

inside : (c : Else-not-number_in_range) → number_in_range c.args.state.operator ≡ true
inside c = sym c.number_in_range.ensures ∙ c.if-not-number_in_range.false

pub returns-then-undecidable : goal.returns-then-undecidable
returns-then-undecidable c = decided-undecidable _ _ _ _ _ (sym c.undecidable.ensures ∙ c.if-undecidable.true)

pub returns-then-not-number_in_range : goal.returns-then-not-number_in_range
returns-then-not-number_in_range c = decided-outside _ _ _ _ _ (passed (goal.at.returns-then-not-number_in_range c).Else-undecidable) (sym c.number_in_range.ensures ∙ c.if-not-number_in_range.true)

pub overflow_add-there : goal.overflow_add-there
overflow_add-there c = let known = tested (goal.at.overflow_add-there c).Else-undecidable in omega (arith, known.fits)

pub least-low-requires : goal.least-low-requires
least-low-requires c =
    let known = tested (goal.at.least-low-requires c).Else-undecidable in record { operates = (inside (goal.at.least-low-requires c).Else-not-number_in_range, known.fits.sized, known.fits.slot_left); amounts_within = (known.fits.first_le, known.fits.second_le, known.input_le) }

pub returns-then-saturating_sub-choice : goal.returns-then-saturating_sub-choice
returns-then-saturating_sub-choice c =
    let low = c.least-low.ensures.value in
    decided-above _ _ _ _ _ (passed (goal.at.returns-then-saturating_sub-choice c).Else-undecidable) (inside (goal.at.returns-then-saturating_sub-choice c).Else-not-number_in_range) _ _ low (c.greatest.ensures _ _ _ low refl) (omega (arith, c.saturating_sub.ensures))

pub beside_after-requires : goal.beside_after-requires
beside_after-requires c = let known = tested (goal.at.beside_after-requires c).Else-undecidable in (known.fits.second_le, known.input_le)

pub returns : goal.returns
returns c =
    let low = c.least-low.ensures.value in
    decided-sends _ _ _ _ _ (passed (goal.at.returns c).Else-undecidable) (inside (goal.at.returns c).Else-not-number_in_range) _ _ low (c.greatest.ensures _ _ _ low refl)
    (omega (arith, c.saturating_sub.ensures, c.if-saturating_sub-choice.false)) _ _ c.saturating_sub-2.ensures (c.beside_after.ensures _ refl)
