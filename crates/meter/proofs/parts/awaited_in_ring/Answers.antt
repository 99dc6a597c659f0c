use Rattle.std.proofs.Common.{◌≡◌, ℕ, ◌+◌, ◌-◌, ◌%◌, ◌<◌, ◌≤◌, sym, ap, ◌∙◌, mod-lt, arith}
use Rattle.quantity.specs.Sums.{total}
use Rattle.quantity.proofs.Sums.{term-le-total}
use Rattle.flow.specs.Rows.{Row}
use Rattle.words.specs.Stored.{word_at}
use Rattle.meter.specs.Meter.{meter_word_count}
use Rattle.meter.specs.Parts.{inputs_below}
use Rattle.meter.proofs.UsableMeter.{usable-meter, declaration-ranged, ring-interval, ring-large, ring-fits}
use Rattle.meter.proofs.PartsLaws.{awaited-ring}
use Rattle.meter.proofs.EarlierRows.{LastKnown, earlier-few, size, earlier-rise, below-found, below-last, below_none}
use Rattle.meter.proofs.parts.awaited_in_ring.Goals as goal
use Rattle.meter.proofs.parts.awaited_in_ring.Goals.{After-last_row-last, After-left_below-least, else-least-ne0-via-then-least-ne0+else-declaration-gt1, else-least-ne0-via-else-least-ne0}

known : (c : After-last_row-last) → LastKnown c.args.state c.args.words.now c.last_row-last.result.interval.0 c.last_row-last.result.quota.0
known c =
    let ranged = declaration-ranged _ c.requires.2 in
    record {
      usable = usable-meter _ _ c.requires.1;
      ranged = ranged;
      ordered = c.requires.3;
      ringed = c.requires.0;
      all = ap (λ (row : Row). row.interval) c.last_row-last.ensures ∙ sym (ring-interval _ c.requires.0 ranged);
      last = ap (λ (row : Row). row.quota) c.last_row-last.ensures;
      long = omega arith;
    }

ring-some : (c : After-last_row-last) → 1 ≤ c.last_row-last.result.interval.0
ring-some c = rw (known c).all (ring-large _ c.requires.0 (known c).ranged)

-- the word that the input replaces is among the words
replaced : (c : After-last_row-last) → c.args.state.slot.0 % c.last_row-last.result.interval.0 < meter_word_count
replaced c = omega (arith, mod-lt c.args.state.slot.0 (ring-some c), (known c).all, ring-fits _ c.requires.0 (known c).ranged)

-- what the last row leaves
leaves_last : (c : After-left_below-least) →
    let given = c.args in
    let last = c.last_row-last.result in
    c.left_below-least.result ≡ last.quota.0 + 1 - (total (word_at given.words.now) meter_word_count - word_at given.words.now (given.state.slot.0 % last.interval.0))
leaves_last c = c.left_below-least.ensures ∙ omega (arith, c.from.ensures, c.requires.4)

pub nonzero_rem-at : goal.nonzero_rem-at
nonzero_rem-at c = ring-some (goal.at.nonzero_rem-at c).After-last_row-last

pub bounds-words-at : goal.bounds-words-at
bounds-words-at c = let last = (goal.at.bounds-words-at c).After-last_row-last in omega (arith, replaced last, (known last).usable.sized)

pub overflow_sub-units : goal.overflow_sub-units
overflow_sub-units c =
    omega (arith, c.from.ensures, c.requires.4, term-le-total (word_at c.args.words.now) meter_word_count (c.args.state.slot.0 % c.last_row-last.result.interval.0) (replaced (goal.at.overflow_sub-units c).After-last_row-last))

pub slice_bounds-rows-end : goal.slice_bounds-rows-end
slice_bounds-rows-end c = omega (arith, earlier-few _ _ _ _ (known (goal.at.slice_bounds-rows-end c).After-last_row-last))

pub slice_bounds-rows_below-length : goal.slice_bounds-rows_below-length
slice_bounds-rows_below-length c = sym (size _ _ _ _ (known (goal.at.slice_bounds-rows_below-length c).After-last_row-last))

pub rows_below-least-requires : goal.rows_below-least-requires
rows_below-least-requires c = earlier-rise _ _ _ _ (known (goal.at.rows_below-least-requires c).After-last_row-last)

pub returns-then-declaration-gt1 : goal.returns-then-declaration-gt1
returns-then-declaration-gt1 c =
    let at = goal.at.returns-then-declaration-gt1 c in
    let last = at.After-last_row-last in
    let leaves = leaves_last at.After-left_below-least in
    awaited-ring _ _ (below-found _ _ _ _ (known last) (λ none. c.if-least-ne0.true (leaves ∙ none)) (rw leaves at c.rows_below-least.ensures)) c.requires.0
    (ap (λ (ring : ℕ). c.args.state.slot.0 % ring) (known last).all)

pub returns-else-least-ne0 : goal.returns-else-least-ne0
returns-else-least-ne0 c =
    let at = goal.at.returns-else-least-ne0 c in
    let last = at.After-last_row-last in
    let leaves = leaves_last at.After-left_below-least in
    let least : c.left_below-least.result ≡ inputs_below c.args.state c.args.words.now = elim c.else-least-ne0.branch [
      | else-least-ne0-via-then-least-ne0+else-declaration-gt1 w ↦ leaves ∙ below-last _ _ _ _ (known last) w.if-declaration-gt1.false
      | else-least-ne0-via-else-least-ne0 w ↦ w.if-least-ne0.false ∙ below_none _ _ _ _ (known last) (sym leaves ∙ w.if-least-ne0.false)
    ] in
    awaited-ring _ _ least c.requires.0 (ap (λ (ring : ℕ). c.args.state.slot.0 % ring) (known last).all)
