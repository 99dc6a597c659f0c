use mathlib.Core.Path.{sym, ◌∙◌}
use native.Mathlib.Omega.{arith}
use Rattle.quantity.proofs.Sums.{every-on}
use Rattle.run.proofs.TestLaws.{unused-first, unused-told, unused-all, used-at}
use Rattle.run.proofs.test.behind_unused.Goals as goal

pub loop-k-init : goal.loop-k-init
loop-k-init c = unused-first _ _ _

pub returns-then-not-unused : goal.returns-then-not-unused
returns-then-not-unused c = used-at _ _ _ c.loop-k.k (omega arith) (omega arith) (sym c.unused.ensures ∙ c.if-not-unused.true)

pub loop-k-preserved : goal.loop-k-preserved
loop-k-preserved c = every-on _ _ c.loop-k.invariant (unused-told _ _ _ c.loop-k.k (omega arith) ∙ sym c.unused.ensures ∙ c.if-not-unused.false)

pub returns : goal.returns
returns c = unused-all _ _ _ c.loop-k.k (omega arith) c.loop-k.invariant
