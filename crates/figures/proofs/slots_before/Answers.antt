use mathlib.Core.Path.{◌≡◌, sym, ap, ◌∙◌}
use Prim.Native.Nat.{◌-◌, ◌≤◌}
use native.Mathlib.Omega.{arith}
use lib.ListN.{length, take}
use lib.Seq.{length-take-le, get_or-take}
use Rattle.quantity.specs.Sums.{total}
use Rattle.quantity.proofs.Sums.{total-zero, total-next}
use Rattle.sheet.specs.Paths.{no_linked_operator}
use Rattle.sheet.specs.declared.LinkedOperator.{LinkedOperator}
use Rattle.operator.specs.Single.{words_used}
use Rattle.figures.specs.Carried.{slots_before}
use Rattle.figures.proofs.EachOperator.{operator-slots}
use Rattle.figures.proofs.slots_before.Goals as goal
use Rattle.figures.proofs.slots_before.Goals.{At-loop-linked, After-words_used-slots}
use Rattle.figures.proofs.slots_before.Invariants.{slots_at}

pub loop-linked-init : goal.loop-linked-init
loop-linked-init c = (sym (total-zero _), omega arith)

-- as many operators are passed as there are before the last
size : (c : At-loop-linked) → length (take c.saturating_sub.result c.args.path.now.operators) ≡ c.saturating_sub.result
size c = length-take-le c.saturating_sub.result c.args.path.now.operators (omega (arith, c.saturating_sub.ensures, c.requires.few, c.requires.full))

-- and the operator at hand is the path's, and has 64 slots at the most
at-hand : (c : After-words_used-slots) → c.words_used-slots.result ≡ slots_at c.args.path.now c.loop-linked.linked-index
at-hand c =
    c.words_used-slots.ensures
    ∙ ap (λ (linked : LinkedOperator). words_used linked.operator) (get_or-take c.saturating_sub.result c.args.path.now.operators c.loop-linked.linked-index no_linked_operator (omega (arith, size (goal.at.After-words_used-slots c).At-loop-linked)))

few : (c : After-words_used-slots) → c.words_used-slots.result ≤ 64
few c = rw (at-hand c) (operator-slots c.requires c.loop-linked.linked-index (omega (arith, size (goal.at.After-words_used-slots c).At-loop-linked, c.saturating_sub.ensures)))

pub loop-linked-preserved : goal.loop-linked-preserved
loop-linked-preserved c =
    let inside = (goal.at.loop-linked-preserved c).After-words_used-slots in
    (omega (arith, at-hand inside, total-next (slots_at c.args.path.now) c.loop-linked.linked-index), omega (arith, few inside))

pub returns : goal.returns
unfolding slots_before
returns c =
    let all : c.loop-linked.linked-index ≡ c.args.path.now.count - 1 = omega (arith, size (goal.at.returns c).At-loop-linked, c.saturating_sub.ensures) in
    (c.loop-linked.invariant.0 ∙ ap (total (slots_at c.args.path.now)) all, omega (arith, all, c.requires.few))

pub overflow_add-slots : goal.overflow_add-slots
overflow_add-slots c =
    let inside = (goal.at.overflow_add-slots c).After-words_used-slots in
    omega (arith, few inside, c.loop-linked.invariant.1, size (goal.at.After-words_used-slots inside).At-loop-linked, c.saturating_sub.ensures, c.requires.few)
