use mathlib.Core.Path.{◌≡◌, ◌∙◌, ap}
use Prim.Native.Nat.{◌+◌, ◌-◌}
use native.Mathlib.Omega.{arith}
use Rattle.flow.proofs.BoundTable.{entry, stepped-block}
use Rattle.flow.proofs.bound.each_interval.Goals as goal

pub loop-from-preserved : goal.loop-from-preserved
loop-from-preserved c =
    let at = c.loop-from in
    let m = c.args.interval in
    let made = c.level in (
      omega arith,
      omega arith,
      made.auto.table ∙ at.invariant.2,
      omega (arith, at.invariant.3, c.requires.2.2),
      stepped-block m _ at.table made.new.table at.from (at.from + m) at.most at.invariant.4 at.invariant.0 (omega arith) at.invariant.5 made.ensures,
      λ k less.
          let place : at.from + m + k - m ≡ at.from + k = omega arith in
          omega (arith, ap (entry made.new.table) place, made.ensures.anew (at.from + k) (omega arith) (omega arith)),
    )

pub returns : goal.returns
returns c =
    let at = c.loop-from in
    let made = c.level-2 in
    let size = made.auto.table ∙ at.invariant.2 in
    rw size (stepped-block _ _ at.table made.new.table at.from _ at.most at.invariant.4 at.invariant.0 (omega arith) at.invariant.5 made.ensures)
