use Rattle.std.proofs.Common.{◌≡◌, ℕ, Bool, true, false, ◌&&◌, eqb, leb, sym, refl, ap, ◌∙◌, ap₂}
use Rattle.quantity.specs.Choice.{both}
use Rattle.quantity.specs.Sums.{every}
use Rattle.quantity.proofs.Sums.{every-next}
use Rattle.ledger.specs.Ledgers.{capacity_of, total_of}
use Rattle.ledger.specs.Steps.{link_holds}
use Rattle.ledger.proofs.test.links_fit.Goals as goal

-- the tests as the code joins them
joined : (a b c d : Bool) → (a && ((b && c) && d)) ≡ both a (both b (both c d))
joined true true true d = refl
joined true true false d = refl
joined true false c d = refl
joined false b c d = refl

pub loop-link-init : goal.loop-link-init
unfolding every
loop-link-init c = refl

pub loop-link-preserved : goal.loop-link-preserved
unfolding link_holds
loop-link-preserved c =
    let args = c.args in
    let link = c.loop-link.link in
    joined c.loop-link.fit c.in_range.result _ _
    ∙ ap₂ both c.loop-link.invariant (ap₂ both c.in_range.ensures (ap (λ (sum : ℕ). both (leb sum (capacity_of args.ledger link)) (eqb (total_of args.ledger link) sum)) c.reserved_on-sum.ensures))
    ∙ sym (every-next (link_holds args.ledger args.rates.now args.links.now) link)
