use mathlib.Core.Path.{◌≡◌}
use mathlib.Core.Bool.{true}
use Prim.Native.Nat.{◌+◌, ◌<◌}
use native.Mathlib.Omega.{arith}
use lib.ListN.{length, get_or}
use Rattle.quantity.specs.Choice.{both}
use Rattle.text.specs.Hexadecimals.{is_hexadecimal_digit}
use Rattle.text.proofs.Picked.{picked-is_some}
use Rattle.text.proofs.RowLaws.{reached-first, reached-next, answer-fault, answer-count}
use Rattle.text.proofs.HexadecimalRowLaws.{in-text, in_end, due-missing, byte-within, due-last, due-next, next-least, next-most}
use Rattle.text.proofs.hexadecimal.judge.Goals as goal
use Rattle.text.proofs.hexadecimal.judge.Goals.{Else-is_none}

pub returns-then-text-from : goal.returns-then-text-from
returns-then-text-from c = answer-count _ _ (rw (in_end _ _ c.if-text-from.true) (reached-first _))

pub loop-from-init : goal.loop-from-init
loop-from-init c =
    let a = c.args in
    (omega arith, omega arith, rw (in-text a.text.now a.from c.if-text-from.false) (reached-first _))

pub returns-then-is_none : goal.returns-then-is_none
returns-then-is_none c =
    answer-fault _ _ _ (rw (due-missing _ _ (picked-is_some _ _ _ c.byte_at.ensures c.if-is_none.ensures)) at c.loop-from.invariant.2)

stands : (c : Else-is_none)
    → let text = c.args.text.now in
    let at = c.loop-from.at in
    both (is_hexadecimal_digit (get_or text at 0)) (is_hexadecimal_digit (get_or text (at + 1) 0)) ≡ true
stands c = picked-is_some _ _ _ c.byte_at.ensures c.if-is_none.ensures

inside : (c : Else-is_none) → c.loop-from.at + 1 < length c.args.text.now
inside c = byte-within c.args.text.now c.loop-from.at (stands c)

pub overflow_add-count : goal.overflow_add-count
overflow_add-count c = omega (arith, inside (goal.at.overflow_add-count c).Else-is_none)

pub overflow_add-at : goal.overflow_add-at
overflow_add-at c = omega (arith, inside (goal.at.overflow_add-at c).Else-is_none)

pub returns-then-text-at : goal.returns-then-text-at
returns-then-text-at c =
    answer-count _ _ (reached-next _ _ _ _ (rw (due-last _ _ (stands (goal.at.returns-then-text-at c).Else-is_none) c.if-text-at.true) at c.loop-from.invariant.2))

pub overflow_add-at-in-loop-from : goal.overflow_add-at-in-loop-from
overflow_add-at-in-loop-from c = omega (arith, inside (goal.at.overflow_add-at-in-loop-from c).Else-is_none)

pub loop-from-smaller : goal.loop-from-smaller
loop-from-smaller c =
    let text = c.args.text.now in
    omega (arith, next-least text c.loop-from.at, inside (goal.at.loop-from-smaller c).Else-is_none)

pub loop-from-preserved : goal.loop-from-preserved
loop-from-preserved c =
    let text = c.args.text.now in (
      omega (arith, next-least text c.loop-from.at),
      omega (arith, next-most text c.loop-from.at),
      rw c.behind_space-at.ensures (reached-next _ _ _ _ (rw (due-next text c.loop-from.at (stands (goal.at.loop-from-preserved c).Else-is_none) c.if-text-at.false) at c.loop-from.invariant.2)),
    )
