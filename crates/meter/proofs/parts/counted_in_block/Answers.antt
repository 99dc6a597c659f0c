-- The tests in turn, then what the block's total leaves of the quota.
use Rattle.std.proofs.Common.{◌≡◌, ℕ, ◌+◌, ◌-◌, true, false, Ok, sym, ap, ◌∙◌, le-leb}
use borrow.Author.Tests.{lt-leb}
use Rattle.flow.specs.Declarations.{declaration_in_range}
use Rattle.flow.proofs.Declarations.{one-order}
use Rattle.meter.specs.Meter.{meter_unusable}
use Rattle.meter.proofs.UsableMeter.{declaration-ranged, smooth-one, block-interval, meter-usable, wrong-length, no-slot-left, unused-set, block-misfit, word-misfit, block-limited, words-unused}
use Rattle.meter.proofs.PartsLaws.{counted-unusable, counted-outside, counted_next, below-block, awaited-block}
use Rattle.meter.proofs.parts.counted_in_block.Goals as goal
use Rattle.meter.proofs.parts.counted_in_block.Goals.{Else-not-all_clear, Else-not-in_range, then-words-ne-WORDS-via-then-words-ne-WORDS, then-words-ne-WORDS-via-else-words-ne-WORDS+then-state-gt-LAST, then-words-ne-WORDS-via-else-words-ne-WORDS+else-state-gt-LAST+then-not-unused_clear, then-words-ne-WORDS-via-else-words-ne-WORDS+else-state-gt-LAST+else-not-unused_clear+then-state-gt-LARGEST, then-words-ne-WORDS-via-else-words-ne-WORDS+else-state-gt-LAST+else-not-unused_clear+else-state-gt-LARGEST+then-not-all_clear}

-- past the words' test the meter can be used, and past the next the declaration is in range
usable : (c : Else-not-all_clear) → meter_unusable c.args.state c.args.words.now ≡ false
usable c =
    let smooth = c.requires in
    meter-usable _ _
    record {
      sized = c.if-words-ne-WORDS.false;
      slot_left = c.if-state-gt-LAST.false;
      clear = sym c.unused_clear.ensures ∙ c.if-not-unused_clear.false;
      block_fits = block-limited _ smooth _ ∙ le-leb _ _ c.if-state-gt-LARGEST.false;
      words_fit = words-unused _ smooth _ c.if-words-ne-WORDS.false ∙ sym c.all_clear.ensures ∙ c.if-not-all_clear.false;
    }

ranged : (c : Else-not-in_range) → declaration_in_range c.args.state.declaration ≡ true
ranged c = sym c.in_range.ensures ∙ c.if-not-in_range.false

pub returns-then-words-ne-WORDS : goal.returns-then-words-ne-WORDS
returns-then-words-ne-WORDS c =
    elim c.then-words-ne-WORDS.branch [
      | then-words-ne-WORDS-via-then-words-ne-WORDS w ↦ counted-unusable _ _ (wrong-length _ _ w.if-words-ne-WORDS.true)
      | then-words-ne-WORDS-via-else-words-ne-WORDS+then-state-gt-LAST w ↦ counted-unusable _ _ (no-slot-left _ _ w.if-state-gt-LAST.true)
      | then-words-ne-WORDS-via-else-words-ne-WORDS+else-state-gt-LAST+then-not-unused_clear w ↦
          counted-unusable _ _ (unused-set _ _ (sym w.unused_clear.ensures ∙ w.if-not-unused_clear.true))
      | then-words-ne-WORDS-via-else-words-ne-WORDS+else-state-gt-LAST+else-not-unused_clear+then-state-gt-LARGEST w ↦
          counted-unusable _ _ (block-misfit _ _ (block-limited _ c.requires _ ∙ lt-leb _ _ w.if-state-gt-LARGEST.true))
      | then-words-ne-WORDS-via-else-words-ne-WORDS+else-state-gt-LAST+else-not-unused_clear+else-state-gt-LARGEST+then-not-all_clear w ↦
          counted-unusable _ _ (word-misfit _ _ (words-unused _ c.requires _ w.if-words-ne-WORDS.false ∙ sym w.all_clear.ensures ∙ w.if-not-all_clear.true))
    ]

pub returns-then-not-in_range : goal.returns-then-not-in_range
returns-then-not-in_range c = counted-outside _ _ (usable (goal.at.returns-then-not-in_range c).Else-not-all_clear) (sym c.in_range.ensures ∙ c.if-not-in_range.true)

pub block_before-block-requires : goal.block_before-block-requires
block_before-block-requires c = block-interval _ c.requires (declaration-ranged _ (ranged (goal.at.block_before-block-requires c).Else-not-in_range))

pub returns : goal.returns
returns c =
    let state = c.args.state in
    let smooth = c.requires in
    let least = c.left_below.ensures ∙ ap (λ (n : ℕ). state.declaration.quota.0 + 1 - n) c.block_before-block.ensures ∙ below-block state _ smooth in
    ap Ok (awaited-block state _ least smooth c.block_before-block.ensures)
    ∙ sym (counted_next _ _ (usable (goal.at.returns c).Else-not-all_clear) (ranged (goal.at.returns c).Else-not-in_range) (one-order _ (smooth-one _ smooth)))
