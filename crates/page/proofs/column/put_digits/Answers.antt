use Prim.Native.Nat.{◌<◌}
use mathlib.Core.Path.{◌≡◌, ap, ◌∙◌}
use native.Mathlib.Omega.{arith}
use lib.ListN.{length, length-set}
use lib.Seq.{length-sets}
use Rattle.page.proofs.Decimals.{decimal-some}
use Rattle.page.proofs.Putting.{no-digits, before-left, digit-more, digit-first}
use Rattle.page.proofs.column.put_digits.Goals as goal
use Rattle.page.proofs.column.put_digits.Goals.{At-loop-left}

pub overflow_sub-at : goal.overflow_sub-at
overflow_sub-at c = omega (arith, decimal-some c.args.value)

pub loop-left-init : goal.loop-left-init
loop-left-init c = no-digits c.args.lent.now c.args.end c.args.value c.requires.0

full : (c : At-loop-left) → length c.loop-left.lent ≡ length c.args.lent.now
full c = ap length c.loop-left.invariant.stored ∙ simp length-sets

-- the next digit's place is one of the lent
inside : (c : At-loop-left) → c.loop-left.at < length c.loop-left.lent
inside c = rw (full c) (omega (arith, c.loop-left.invariant.placed, c.requires.1))

pub bounds-lent-at : goal.bounds-lent-at
bounds-lent-at c = inside (goal.at.bounds-lent-at c).At-loop-left

pub overflow_sub-at-in-loop-left : goal.overflow_sub-at-in-loop-left
overflow_sub-at-in-loop-left c = omega (arith, before-left c.loop-left.invariant c.loop-left-test.true)

pub loop-left-smaller : goal.loop-left-smaller
loop-left-smaller c = omega (arith, before-left c.loop-left.invariant c.loop-left-test.true)

pub loop-left-preserved : goal.loop-left-preserved
loop-left-preserved c = rw c.digit_of.ensures (digit-more c.loop-left.invariant c.loop-left-test.true)

pub bounds-lent-at-2 : goal.bounds-lent-at-2
bounds-lent-at-2 c = inside (goal.at.bounds-lent-at-2 c).At-loop-left

pub shape_of-lent : goal.shape_of-lent
shape_of-lent c = simp length-set (full (goal.at.shape_of-lent c).At-loop-left)

pub returns : goal.returns
returns c = rw c.digit_of-2.ensures (digit-first c.loop-left.invariant c.loop-left-test.false)
