-- There is at least one number, and they are within the 512.
use Rattle.std.proofs.Common.{arith}
use Rattle.text.proofs.Answers.{decimals-some, decimals-within}
use Rattle.replay.proofs.numbers_in.Goals as goal

pub returns : goal.returns
returns c =
    let counted = c.in_ok-decimals_from.ensures.0 in
    (decimals-some _ _ _ _ counted, omega (arith, decimals-within _ _ _ _ counted))
