-- The words behind the ring are a part of the words.
use Rattle.std.proofs.Common.{◌≤◌, length, sym, ◌∙◌, le_refl, arith}
use Rattle.words.proofs.PartLaws.{part-clear}
use Rattle.meter.proofs.UsableMeter.{declaration-ranged, several-ring, ring-fits}
use Rattle.meter.proofs.parts.rows_tested.Goals as goal
use Rattle.meter.proofs.parts.rows_tested.Goals.{After-ring_length}

-- the ring is within the words
within : (c : After-ring_length) → c.ring_length.result ≤ length c.args.words.now
within c =
    let declared = c.args.state.declaration in
    let ring = several-ring declared.kind (sym c.has_rows.ensures ∙ c.if-not-has_rows.false) in
    let in-range = sym c.in_range.ensures ∙ c.if-not-in_range.false in
    omega (arith, c.ring_length.ensures, ring-fits declared ring (declaration-ranged declared in-range), c.if-words-ne-WORDS.false)

pub offset_bounds-words-ring_length : goal.offset_bounds-words-ring_length
offset_bounds-words-ring_length c = omega (arith, within (goal.at.offset_bounds-words-ring_length c).After-ring_length)

pub slice_bounds-all_clear-count : goal.slice_bounds-all_clear-count
slice_bounds-all_clear-count c = within (goal.at.slice_bounds-all_clear-count c).After-ring_length

pub slice_bounds-all_clear-start : goal.slice_bounds-all_clear-start
slice_bounds-all_clear-start c = within (goal.at.slice_bounds-all_clear-start c).After-ring_length

pub returns : goal.returns
returns c clear =
    record {
      several = sym c.has_rows.ensures ∙ c.if-not-has_rows.false;
      clear = sym c.unused_clear.ensures ∙ c.if-not-unused_clear.false;
      in_range = sym c.in_range.ensures ∙ c.if-not-in_range.false;
      in_order = sym c.in_order.ensures ∙ c.if-not-in_order.false;
      sized = c.if-words-ne-WORDS.false;
      slot_left = c.if-state-gt-LAST.false;
      block_none = c.if-state-ne0.false;
      unused = λ j past less. part-clear _ _ _ (within (goal.at.returns c).After-ring_length) (le_refl _) (sym c.all_clear.ensures ∙ clear) j (omega (arith, c.ring_length.ensures)) (omega (arith, c.if-words-ne-WORDS.false));
    }
