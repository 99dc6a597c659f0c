-- All that the stage stores, joined, is 0 just where the stage is empty.
use native.Mathlib.Omega.{arith}
use Rattle.run.proofs.TestLaws.{join-empty}
use Rattle.run.proofs.test.join.Goals as goal

pub returns : goal.returns
returns c =
    let named = c.kind_and_number-kind.ensures in
    rw (c.from.ensures, c.from-2.ensures, c.from-3.ensures, c.from-4.ensures) (join-empty c.args.stage named.0 named.1 (omega arith) (omega arith))
