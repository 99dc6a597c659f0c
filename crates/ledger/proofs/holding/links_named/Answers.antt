use Rattle.std.proofs.Common.{◌≡◌, ℕ, ◌*◌, ◌%◌, ◌^◌, ◌<◌, get_or, take, length, sym, ap, ◌∙◌, ap₂, mod-eq_of_lt, arith, length-take-le, get_or-take}
use lib.Bits.{bit_or}
use lib.Pow.{pow-lt}
use Rattle.sheet.specs.Paths.{no_linked_operator}
use Rattle.sheet.specs.declared.LinkedOperator.{LinkedOperator}
use Rattle.ledger.specs.Ledgers.{link_count}
use Rattle.ledger.proofs.Naming.{bits_before, named-first, named-next, named-all}
use Rattle.ledger.proofs.holding.links_named.Goals as goal

-- the bit of a link
bit : (link : ℕ) → link < link_count → 1 * 2 ^ link % 2 ^ 32 ≡ 2 ^ link
bit link less = let small = pow-lt {i = link} {j = 32} (omega (arith, less)) in mod-eq_of_lt (omega (arith, small)) ∙ omega arith

pub loop-linked-init : goal.loop-linked-init
loop-linked-init c = sym (named-first c.args.path.operators)

pub loop-linked-preserved : goal.loop-linked-preserved
loop-linked-preserved c =
    let value = c.args.path in
    let k = c.loop-linked.linked-index in
    let sized : length (take value.count value.operators) ≡ value.count = length-take-le value.count value.operators (omega arith) in
    let here : get_or (take value.count value.operators) k no_linked_operator ≡ get_or value.operators k no_linked_operator = get_or-take value.count value.operators k no_linked_operator (omega arith) in
    let inside = c.requires.1 k (omega arith) in
    ap₂ bit_or c.loop-linked.invariant (ap (λ (linked : LinkedOperator). 1 * 2 ^ linked.link.0 % 2 ^ 32) here ∙ bit _ inside) ∙ named-next value.operators k inside

pub returns : goal.returns
returns c =
    let value = c.args.path in
    let whole = length-take-le value.count value.operators (omega arith) in
    let ends : c.loop-linked.linked-index ≡ value.count = omega arith in
    c.loop-linked.invariant ∙ ap (bits_before value.operators) ends ∙ named-all value (omega arith)
