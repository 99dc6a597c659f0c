-- Each test that fails makes the meter unusable; where all pass, the words decide, and the sum is the scan's.
use Rattle.std.proofs.Common.{◌≡◌, ℕ, Bool, true, false, Some, None, not, refl, sym, ap, ◌∙◌, arith, eq-eqb, ne_eqb}
use Rattle.quantity.specs.Choice.{pick}
use Rattle.quantity.specs.Sums.{total, every}
use Rattle.quantity.proofs.Laws.{pick_true}
use Rattle.words.specs.Stored.{word_at, word_fits}
use Rattle.words.specs.Scanning.{scanned_of}
use Rattle.words.proofs.ScanLaws.{scan_few}
use Rattle.meter.specs.Meter.{meter_word_count, ring_length}
use Rattle.meter.proofs.UsableMeter.{wrong-length, no-slot-left, unused-set, block-misfit, block-unused, words-decide}
use Rattle.meter.proofs.parts.stored_in.Goals as goal
use Rattle.meter.proofs.parts.stored_in.Goals.{then-words-ne-WORDS-via-then-words-ne-WORDS, then-words-ne-WORDS-via-else-words-ne-WORDS+then-state-gt-LAST, then-words-ne-WORDS-via-else-words-ne-WORDS+else-state-gt-LAST+then-not-unused_clear, then-words-ne-WORDS-via-else-words-ne-WORDS+else-state-gt-LAST+else-not-unused_clear+then-state-ne0}

pick-not : {A : Type 0} (t : Bool) (a b : A) → pick t a b ≡ pick (not t) b a
pick-not true a b = refl
pick-not false a b = refl

pub returns-then-words-ne-WORDS : goal.returns-then-words-ne-WORDS
returns-then-words-ne-WORDS c =
    elim c.then-words-ne-WORDS.branch [
      | then-words-ne-WORDS-via-then-words-ne-WORDS w ↦ sym (pick_true _ _ _ (wrong-length _ _ w.if-words-ne-WORDS.true))
      | then-words-ne-WORDS-via-else-words-ne-WORDS+then-state-gt-LAST w ↦ sym (pick_true _ _ _ (no-slot-left _ _ w.if-state-gt-LAST.true))
      | then-words-ne-WORDS-via-else-words-ne-WORDS+else-state-gt-LAST+then-not-unused_clear w ↦
          sym (pick_true _ _ _ (unused-set _ _ (sym w.unused_clear.ensures ∙ w.if-not-unused_clear.true)))
      | then-words-ne-WORDS-via-else-words-ne-WORDS+else-state-gt-LAST+else-not-unused_clear+then-state-ne0 w ↦
          sym (pick_true _ _ _ (block-misfit _ _ (block-unused _ c.requires _ ∙ ne_eqb _ _ w.if-state-ne0.true)))
    ]

-- the scan's answer, of so many words
pub returns : goal.returns
returns c =
    let state = c.args.state in
    let words = c.args.words.now in
    let sized = c.if-words-ne-WORDS.false in
    let ring = ring_length state.declaration in
    let decide = words-decide state words sized c.if-state-gt-LAST.false (sym c.unused_clear.ensures ∙ c.if-not-unused_clear.false) (block-unused _ c.requires _ ∙ eq-eqb _ _ c.if-state-ne0.false) in
    c.scan.ensures
    ∙ ap (λ (used : ℕ). scanned_of used words) c.ring_length.ensures
    ∙ scan_few ring words (omega (arith, sized))
    ∙ ap (λ (n : ℕ). pick (every (word_fits ring words) n) (Some (total (word_at words) n)) None) sized
    ∙ pick-not (every (word_fits ring words) meter_word_count) (Some (total (word_at words) meter_word_count)) None
    ∙ ap (λ (t : Bool). pick t None (Some (total (word_at words) meter_word_count))) (sym decide)
