use mathlib.Core.Path.{refl}
use Prim.Native.Nat.{◌+◌, ◌-◌, ◌<◌}
use native.Mathlib.Nat.{sub-zero}
use native.Mathlib.Omega.{arith}
use lib.ListN.{length, set}
use Rattle.text.specs.DecimalRows.{behind_number, row_from, numbers_after}
use Rattle.text.proofs.RowLaws.{Storing, storing-first, storing-next, storing-no-fault, storing-end}
use Rattle.text.proofs.DecimalRowLaws.{due-number, number-stands, place-left, behind-end, behind-goes-on}
use Rattle.text.proofs.decimal.store.Goals as goal
use Rattle.text.proofs.decimal.store.Goals.{In-Ok}

pub loop-place-init : goal.loop-place-init
loop-place-init c = rw sub-zero (storing-first _ _ _ refl)

pub returns-in_default : goal.returns-in_default
returns-in_default c = absurd (number-stands _ _ _ _ c.in_default.ensures (storing-no-fault _ _ _ _ _ c.requires c.loop-place.invariant))

-- one number more is stored; what stands behind it decides
stored : (c : In-Ok)
    → let a = c.args in
    let lent = a.numbers.now in
    let text = a.text.now in
    let number = c.in-Ok.number in
    Storing lent (row_from (length lent) text a.from) (set c.loop-place.numbers c.loop-place.place-index number.value) (c.loop-place.place-index + 1) (behind_number text number.next (row_from (length lent - (c.loop-place.place-index + 1)) text (number.next + 1)))
stored c =
    let room : c.loop-place.place-index < length c.args.numbers.now = omega arith in
    storing-next _ _ _ _ _ _ room (rw (due-number _ _ _ c.in-Ok.ensures _ _ room) at c.loop-place.invariant)

pub returns-then-text-number : goal.returns-then-text-number
unfolding numbers_after
returns-then-text-number c = storing-end _ _ _ _ (rw (behind-end _ _ _ c.if-text-number.true) at (stored (goal.at.returns-then-text-number c).In-Ok))

pub loop-place-preserved : goal.loop-place-preserved
loop-place-preserved c =
    let after = stored (goal.at.loop-place-preserved c).In-Ok in
    rw (behind-goes-on _ _ _ c.if-text-number.false (storing-no-fault _ _ _ _ _ c.requires after)) at after

pub returns : goal.returns
returns c = absurd (place-left _ _ _ _ (storing-no-fault _ _ _ _ _ c.requires c.loop-place.invariant) (omega (arith, c.loop-place.auto.numbers)))
