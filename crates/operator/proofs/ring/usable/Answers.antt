-- The tests in turn, and then by the kind.
use Rattle.std.proofs.Common.{not, sym, ap, ◌∙◌, List, ℕ}
use Rattle.operator.specs.Ring.{path_unusable}
use Rattle.operator.proofs.RingLaws.{unsized-unusable, last-unusable}
use Rattle.operator.proofs.ring.usable.Goals as goal

pub returns-in_default : goal.returns-in_default
returns-in_default c = sym (ap not (unsized-unusable _ _ c.in_default.ensures.1))

pub returns-then-state-gt-LAST : goal.returns-then-state-gt-LAST
returns-then-state-gt-LAST c = sym (ap not (last-unusable _ _ c.if-state-gt-LAST.true))

pub returns-then-uses_held : goal.returns-then-uses_held
returns-then-uses_held c = c.apart_fits.ensures ∙ ap (λ (words : List ℕ). not (path_unusable c.args.state words)) c.in-Ok.ensures.1.same

pub returns-else-uses_held : goal.returns-else-uses_held
returns-else-uses_held c = c.delayer_fits.ensures ∙ ap (λ (words : List ℕ). not (path_unusable c.args.state words)) c.in-Ok.ensures.1.same
