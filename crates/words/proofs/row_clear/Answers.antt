-- The join is 0 just where each word is.
use Rattle.std.proofs.Common.{ℕ, eqb, ap, ◌∙◌}
use Rattle.words.proofs.JoinLaws.{joined-clear}
use Rattle.words.proofs.row_clear.Goals as goal

pub returns : goal.returns
returns c = ap (λ (joined : ℕ). eqb joined 0) c.join.ensures ∙ joined-clear _ _
