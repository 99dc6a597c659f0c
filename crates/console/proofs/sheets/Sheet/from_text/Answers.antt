-- The bytes that were read are within the 512.
use Rattle.std.proofs.Common.{arith}
use Rattle.text.proofs.Answers.{hexadecimal-within}
use Rattle.console.proofs.sheets.Sheet.from_text.Goals as goal

pub invariant_of-result : goal.invariant_of-result
invariant_of-result c = record { within = omega (arith, hexadecimal-within _ _ _ _ c.in_ok-length.ensures.0) }
