-- The tests in turn, and then by the kind.
use Rattle.std.proofs.Common.{ap, ◌∙◌, inl, inr, List, ℕ}
use Rattle.operator.specs.Ring.{advanced_of}
use Rattle.operator.proofs.RingLaws.{unsized-unusable, last-unusable, unready-unusable, unready-input, advanced-unready}
use Rattle.operator.proofs.ring.advance.Goals as goal

pub returns-in_default : goal.returns-in_default
returns-in_default c = advanced-unready _ _ _ _ (unready-unusable _ _ _ (unsized-unusable _ _ c.in_default.ensures.1))

pub returns-then-state-gt-LAST : goal.returns-then-state-gt-LAST
returns-then-state-gt-LAST c =
    advanced-unready _ _ _ _
    (elim c.then-state-gt-LAST.either [
      | inl last ↦ unready-unusable _ _ _ (last-unusable _ _ last)
      | inr above ↦ unready-input _ _ _ above.1
    ])

pub returns : goal.returns
returns c = c.advance_kind.ensures ∙ ap (λ (words : List ℕ). advanced_of c.args.state words c.args.input.0 c.args.choice.0) c.in-Ok.ensures.1.same
