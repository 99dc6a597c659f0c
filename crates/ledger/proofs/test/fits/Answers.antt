-- The record at a place before the count, or behind it.
use Rattle.std.proofs.Common.{◌<◌, ◌≤◌, sym, ap, ◌∙◌, arith, le-ltb, lt-ltb}
use Rattle.quantity.proofs.Laws.{pick_true, pick-false}
use Rattle.ledger.specs.Ledgers.{record_in_range, record_clear, record_fits}
use Rattle.ledger.proofs.test.fits.Goals as goal

pub returns-then-place-end : goal.returns-then-place-end
unfolding record_fits
returns-then-place-end c records is less =
    let before : c.args.place < c.args.count = omega arith in
    c.in_range-standing.ensures ∙ ap record_in_range is ∙ sym (pick_true _ _ _ (lt-ltb c.args.place c.args.count before))

pub returns-else-place-end : goal.returns-else-place-end
unfolding record_fits
returns-else-place-end c records is less =
    let behind : c.args.count ≤ c.args.place = omega arith in
    c.clear-clear.ensures ∙ ap record_clear is ∙ sym (pick-false _ _ _ (le-ltb c.args.place c.args.count behind))
