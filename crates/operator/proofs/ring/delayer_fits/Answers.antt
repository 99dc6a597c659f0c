-- The tests in turn, and then the words behind the ring.
use Rattle.std.proofs.Common.{◌∙◌, arith}
use Rattle.operator.specs.Ring.{ring_held}
use Rattle.operator.proofs.RingLaws.{all-used, behind-clear, fields-stand, ring-above, ring-told}
use Rattle.operator.proofs.ring.delayer_fits.Goals as goal

pub returns-then-state-ne0 : goal.returns-then-state-ne0
returns-then-state-ne0 c = fields-stand _ _ c.told-words c.requires.0 c.requires.1 c.if-state-ne0.true

pub returns-then-from-gt-LARGEST : goal.returns-then-from-gt-LARGEST
unfolding ring_held
returns-then-from-gt-LARGEST c = ring-above _ _ c.told-words c.requires.0 c.requires.1 (omega (arith, c.if-from-gt-LARGEST.true, c.from.ensures, c.total_less.ensures))

pub returns-then-used-ge-WORDS : goal.returns-then-used-ge-WORDS
unfolding ring_held
returns-then-used-ge-WORDS c =
    ring-told _ _ c.told-words c.requires.0 c.requires.1 c.if-state-ne0.false (omega (arith, c.if-from-gt-LARGEST.false, c.from.ensures, c.total_less.ensures)) (all-used _ _ (omega (arith, c.if-used-ge-WORDS.true, c.requires.2)))

pub returns : goal.returns
unfolding ring_held
returns c =
    ring-told _ _ c.told-words c.requires.0 c.requires.1 c.if-state-ne0.false (omega (arith, c.if-from-gt-LARGEST.false, c.from.ensures, c.total_less.ensures))
    (c.row_clear.ensures ∙ (rw c.told-words at (behind-clear c.args.state.operator c.args.words.now c.told-words _ c.requires.2 (omega (arith, c.if-used-ge-WORDS.false)))))
