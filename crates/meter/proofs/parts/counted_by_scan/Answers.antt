-- Each way out by what the tests before it told: the stored words, then the declaration's ranges and its order.
use Rattle.std.proofs.Common.{◌≡◌, true, false, Ok, sym, ap, ◌∙◌}
use Rattle.quantity.specs.Sums.{total}
use Rattle.quantity.proofs.Laws.{picked-true, picked-false, pick-false}
use Rattle.words.specs.Stored.{word_at}
use Rattle.flow.specs.Declarations.{declaration_in_range, rows_in_order}
use Rattle.meter.specs.Meter.{meter_word_count, meter_unusable}
use Rattle.meter.proofs.PartsLaws.{counted-unusable, counted-outside, counted-unordered, counted_next}
use Rattle.meter.proofs.parts.counted_by_scan.Goals as goal
use Rattle.meter.proofs.parts.counted_by_scan.Goals.{Else-not-in_order, Else-not-in_range, In-Some}

-- where words were found, the meter can be used, and their sum was found
usable : (c : In-Some) → meter_unusable c.args.state c.args.words.now ≡ false
usable c = picked-false _ _ _ (sym c.in-Some.is ∙ c.stored_in.ensures) (λ e. cc)

summed : (c : In-Some) → c.in-Some.units ≡ total (word_at c.args.words.now) meter_word_count
summed c = let found = sym c.in-Some.is ∙ c.stored_in.ensures ∙ pick-false _ _ _ (usable c) in cc

-- past the second test the declaration is in range, and past the third in order
ranged : (c : Else-not-in_range) → declaration_in_range c.args.state.declaration ≡ true
ranged c = sym c.in_range.ensures ∙ c.if-not-in_range.false

ordered : (c : Else-not-in_order) → rows_in_order c.args.state.declaration ≡ true
ordered c = sym c.in_order.ensures ∙ c.if-not-in_order.false

pub returns-in_default : goal.returns-in_default
returns-in_default c = counted-unusable _ _ (picked-true _ _ _ c.in_default.ensures (λ e. cc))

pub returns-then-not-in_range : goal.returns-then-not-in_range
returns-then-not-in_range c = let at = goal.at.returns-then-not-in_range c in counted-outside _ _ (usable at.In-Some) (sym c.in_range.ensures ∙ c.if-not-in_range.true)

pub returns-then-not-in_order : goal.returns-then-not-in_order
returns-then-not-in_order c =
    let at = goal.at.returns-then-not-in_order c in
    counted-unordered _ _ (usable at.In-Some) (ranged at.Else-not-in_range) (sym c.in_order.ensures ∙ c.if-not-in_order.true)

pub awaited_in_ring-requires : goal.awaited_in_ring-requires
awaited_in_ring-requires c =
    let at = goal.at.awaited_in_ring-requires c in
    (c.requires, usable at.In-Some, ranged at.Else-not-in_range, ordered at.Else-not-in_order, summed at.In-Some)

pub returns : goal.returns
returns c =
    let at = goal.at.returns c in
    ap Ok c.awaited_in_ring.ensures ∙ sym (counted_next _ _ (usable at.In-Some) (ranged at.Else-not-in_range) (ordered at.Else-not-in_order))
