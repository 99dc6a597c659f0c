-- The tests in turn; what passed them is what the least output asks.
use Rattle.std.proofs.Common.{◌≡◌, ℕ, ◌+◌, true, false, sym, ap, ◌∙◌, arith}
use Rattle.operator.specs.Operators.{number_in_range}
use Rattle.operator.specs.Single.{holds, unusable}
use Rattle.operator.proofs.SingleLaws.{Usable, stored-holds, stored-none, unusable-above, unusable-stored, none-unusable, bounds-unusable, bounds-outside, bounds-outputs, least-held, b-le, beside-le}
use Rattle.operator.proofs.single.bounds_alone.Goals as goal
use Rattle.operator.proofs.single.bounds_alone.Goals.{Else-not-number_in_range, In-Some}

found : (c : In-Some) →
    let start = c.args in
    Usable start.state start.words.now × (c.in-Some.held.0 ≡ (holds start.state start.words.now).b)
found c = stored-holds _ _ (sym c.in-Some.is ∙ c.stored_in.ensures)

passed : (c : In-Some) →
    let start = c.args in
    unusable start.state start.words.now start.input.0 ≡ false
passed c = none-unusable _ _ _ c.if-input-gt-LARGEST.false (found c).0

inside : (c : Else-not-number_in_range) → number_in_range c.args.state.operator ≡ true
inside c = sym c.number_in_range.ensures ∙ c.if-not-number_in_range.false

pub returns-then-input-gt-LARGEST : goal.returns-then-input-gt-LARGEST
returns-then-input-gt-LARGEST c = bounds-unusable _ _ _ (unusable-above _ _ _ c.if-input-gt-LARGEST.true)

pub returns-then-not-number_in_range : goal.returns-then-not-number_in_range
returns-then-not-number_in_range c = bounds-outside _ _ _ (none-unusable _ _ _ c.if-input-gt-LARGEST.false (stored-holds _ _ (sym c.in-Some.is ∙ c.stored_in.ensures)).0) (sym c.number_in_range.ensures ∙ c.if-not-number_in_range.true)

pub least-low-requires : goal.least-low-requires
least-low-requires c =
    let (stored, same) = found (goal.at.least-low-requires c).In-Some in record { operates = (inside (goal.at.least-low-requires c).Else-not-number_in_range, stored.sized, stored.slot_left); amounts_within = (omega (arith, b-le _ _ stored), beside-le _ _ stored, omega (arith, c.if-input-gt-LARGEST.false)) }

pub overflow_add-held : goal.overflow_add-held
overflow_add-held c =
    let (stored, same) = found (goal.at.overflow_add-held c).In-Some in
    omega (arith, b-le _ _ stored, c.if-input-gt-LARGEST.false)

pub returns-in_default : goal.returns-in_default
returns-in_default c = bounds-unusable _ _ _ (unusable-stored _ _ _ (stored-none _ _ c.stored_in.ensures c.in_default.not-Some))

pub returns : goal.returns
returns c =
    let same = (found (goal.at.returns c).In-Some).1 in
    let low = c.least-low.ensures.value ∙ least-held _ _ _ _ same in
    bounds-outputs _ _ _ (passed (goal.at.returns c).In-Some) (inside (goal.at.returns c).Else-not-number_in_range) _ _ low
    (c.greatest-high.ensures _ _ _ low (ap (λ (b : ℕ). b + c.args.input.0) same))
