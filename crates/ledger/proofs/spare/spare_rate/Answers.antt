-- Each way out by the test of the links, and by that of the one asked about.
use Rattle.std.proofs.Common.{◌≡◌, true, refl, ap, ◌∙◌, arith}
use Rattle.quantity.specs.Ranges.{in_range, link_range}
use Rattle.quantity.specs.declared.Link.{Link}
use Rattle.quantity.proofs.Laws.{checked-told, le-largest}
use Rattle.ledger.specs.Spare.{spare_of}
use Rattle.ledger.proofs.Sparing.{spares-none, spares-some, spare-unusable, spare-outside, spare-found}
use Rattle.ledger.proofs.spare.spare_rate.Goals as goal
use Rattle.ledger.proofs.spare.spare_rate.Goals.{In-Some-checked}

-- the link that was checked
checked : (c : In-Some-checked) → (in_range link_range c.in-Some-checked.link.0 ≡ true) × (c.in-Some-checked.link.0 ≡ c.args.link)
checked c =
    let (inside, same) = (checked-told link_range _ refl c.checked.ensures).within c.in-Some-checked.is in
    let link = ap (λ (l : Link). l.0) same in
    (ap (in_range link_range) link ∙ inside, link)

pub returns-in_default : goal.returns-in_default
returns-in_default c = spare-unusable c.args.ledger c.args.link (spares-none c.args.ledger c.spare_rates.ensures c.in_default.is)

pub returns-in_default-checked : goal.returns-in_default-checked
returns-in_default-checked c =
    let (usable, same) = spares-some c.args.ledger c.spare_rates.ensures c.in-Some.is in
    spare-outside c.args.ledger c.args.link usable ((checked-told link_range _ refl c.checked.ensures).outside c.in_default-checked.is)

pub bounds-spares-link : goal.bounds-spares-link
bounds-spares-link c = omega (arith, le-largest link_range _ (checked (goal.at.bounds-spares-link c).In-Some-checked).0)

pub returns : goal.returns
returns c =
    let (inside, link) = checked (goal.at.returns c).In-Some-checked in
    let (usable, same) = spares-some c.args.ledger c.spare_rates.ensures c.in-Some.is in
    spare-found c.args.ledger _ usable inside same ∙ ap (spare_of c.args.ledger) link
