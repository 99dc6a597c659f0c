-- None where a block begins.
use Rattle.meter.proofs.UsableMeter.{block-first, block-later}
use Rattle.meter.proofs.parts.block_before.Goals as goal

pub returns-then-state-eq0 : goal.returns-then-state-eq0
returns-then-state-eq0 c = block-first _ c.if-state-eq0.true

pub returns-else-state-eq0 : goal.returns-else-state-eq0
returns-else-state-eq0 c = block-later _ c.if-state-eq0.false
