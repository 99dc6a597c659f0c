-- By where the ages lie: before the slot's word, from the ring's end on, or both.
use Rattle.std.proofs.Common.{ℕ, ◌-◌, take, sym, ap, ◌∙◌, arith}
use native.Mathlib.Nat.{sub-zero}
use Rattle.words.specs.Gathering.{gathered_of}
use Rattle.words.proofs.PartLaws.{part-gathered}
use Rattle.meter.proofs.AgeLaws.{ages-near, ages-far, ages-both}
use Rattle.meter.proofs.parts.ring_gather.Goals as goal

pub returns-then-at-from : goal.returns-then-at-from
returns-then-at-from c =
    let given = c.args in
    ages-far given.words.now given.ring given.at (omega arith) given.from given.to (omega arith) (omega arith) (omega arith)
    (part-gathered _ _ _ (omega arith) (omega arith) c.gather.ensures)

pub returns-then-to-at : goal.returns-then-to-at
returns-then-to-at c =
    let given = c.args in
    ages-near given.words.now given.ring given.at (omega arith) given.from given.to (omega arith) (omega arith) (omega arith)
    (part-gathered _ _ _ (omega arith) (omega arith) c.gather-then-to-at.ensures)

pub returns-else-to-at : goal.returns-else-to-at
returns-else-to-at c =
    let given = c.args in
    rw c.with.ensures
    (ages-both given.words.now given.ring given.at (omega arith) given.from given.to (omega arith) (omega arith) (omega arith) (omega arith)
    (part-gathered given.words.now 0 _ (omega arith) (omega arith) (c.gather-else-to-at.ensures ∙ ap (λ (n : ℕ). gathered_of (take n given.words.now)) (sym (sub-zero (given.at - given.from)))))
    (part-gathered _ _ _ (omega arith) (omega arith) c.gather-else-to-at-2.ensures))
