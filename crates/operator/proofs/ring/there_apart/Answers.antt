-- The number, then what is lent and stored.
use Rattle.std.proofs.Common.{sym, refl, ◌∙◌, arith}
use borrow.Author.Tests.{not-true, not-false}
use Rattle.operator.proofs.RingLaws.{held-le, unready-unusable, unready-outside, is-ready}
use Rattle.operator.proofs.ring.there_apart.Goals as goal
use Rattle.operator.proofs.ring.there_apart.Goals.{then-not-inside-via-then-not-inside, then-not-inside-via-else-not-inside+then-not-apart_fits}

pub returns-then-not-inside : goal.returns-then-not-inside
returns-then-not-inside c = (
  elim c.then-not-inside.branch [
    | then-not-inside-via-then-not-inside w ↦ unready-outside _ _ _ (sym c.requires.3 ∙ w.if-not-inside.true)
    | then-not-inside-via-else-not-inside+then-not-apart_fits w ↦ unready-unusable _ _ _ (not-false _ (sym w.apart_fits.ensures ∙ w.if-not-apart_fits.true))
  ],
  refl,
)

pub overflow_add-result : goal.overflow_add-result
overflow_add-result c = omega (arith, held-le _ _ (not-true _ (sym c.apart_fits.ensures ∙ c.if-not-apart_fits.false)), c.requires.1)

pub returns : goal.returns
returns c = (is-ready _ _ _ (not-true _ (sym c.apart_fits.ensures ∙ c.if-not-apart_fits.false)) (sym c.requires.3 ∙ c.if-not-inside.false) c.requires.1, refl)
