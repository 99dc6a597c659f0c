-- By the three kinds.
use Rattle.std.proofs.Common.{sym, ap, inl, inr}
use Rattle.meter.specs.Meter.{uses_block}
use Rattle.meter.proofs.parts.uses_block.Goals as goal

pub returns-in-Smooth : goal.returns-in-Smooth
unfolding uses_block
returns-in-Smooth c = sym (ap uses_block c.in-Smooth.is)

pub returns-in-Uniform : goal.returns-in-Uniform
unfolding uses_block
returns-in-Uniform c = elim c.in-Uniform.is [ inl e ↦ sym (ap uses_block e) | inr e ↦ sym (ap uses_block e) ]
