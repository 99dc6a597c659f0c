use Rattle.std.proofs.Common.{arith}
use Rattle.text.proofs.Answers.{gathered-within}
use Rattle.console.proofs.input.gather_bytes.Goals as goal

pub loop-byte-preserved : goal.loop-byte-preserved
loop-byte-preserved c = omega (arith, gathered-within _ _ _ c.in_ok-longer-2.ensures.0)
