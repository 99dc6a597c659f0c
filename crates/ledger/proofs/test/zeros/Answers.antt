use Rattle.std.proofs.Common.{Bool, true, false, ◌≡◌, ◌≤◌, eqb, get_or, refl, ap, ◌∙◌, arith}
use mir.Val.{bool_byte}
use Rattle.ledger.specs.Ledgers.{record_count}
use Rattle.ledger.specs.Steps.{one_if, zeros_in}
use Rattle.ledger.proofs.Differing.{zeros-first, zeros-next}
use Rattle.ledger.proofs.test.zeros.Goals as goal

-- a test as a number
one : (t : Bool) → (bool_byte t ≡ one_if t) × (bool_byte t ≤ 1)
one true = (refl, omega arith)
one false = (refl, omega arith)

pub loop-number-init : goal.loop-number-init
loop-number-init c = (omega arith, zeros-first _)

pub loop-number-preserved : goal.loop-number-preserved
loop-number-preserved c =
    let numbers = c.args.numbers.now in
    let k = c.loop-number.number-index in
    let (same, few) = one (eqb (get_or numbers k 0) 0) in
    (omega (arith, few, c.from-met.ensures), omega (arith, zeros-next (λ j. get_or numbers j 0) k, c.loop-number.invariant.1, same, c.from-met.ensures))

pub returns : goal.returns
returns c =
    let all : c.loop-number.number-index ≡ record_count = omega arith in
    c.loop-number.invariant.1 ∙ ap (zeros_in (λ k. get_or c.args.numbers.now k 0)) all
