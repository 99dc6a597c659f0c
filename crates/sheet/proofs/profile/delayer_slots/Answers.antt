-- The products are small, and R-as-C is not 0.
use Rattle.std.proofs.Common.{◌≡◌, ◌≤◌, ◌+◌, ◌*◌, arith}
use Rattle.sheet.specs.House.{delayer_slots}
use Rattle.quantity.proofs.Rounding.{div-ceil}
use Rattle.sheet.proofs.ProfileLaws.{product-some}
use Rattle.sheet.proofs.profile.delayer_slots.Goals as goal
use Rattle.sheet.proofs.profile.delayer_slots.Goals.{After-div_ceil, After-product-2}

some : (c : After-product-2) → 1 ≤ c.product-whole.result
some c =
    let pre = c.requires in
    omega (arith, product-some pre.2 pre.4, c.product-whole.ensures)

-- they are the definition's
slots : (c : After-div_ceil) → c.div_ceil.result ≡ delayer_slots c.args.house
unfolding delayer_slots
slots c =
    let h = c.args.house in
    let pre = c.requires in
    rw (c.div_ceil.ensures, c.product-whole.ensures, c.product.ensures, c.product-2.ensures)
    (div-ceil (h.own_packet.0 * h.link_rate.0 + h.longest_packet.0 * h.rate.0) (h.rate.0 * h.link_rate.0) (product-some pre.2 pre.4))

pub returns : goal.returns
returns c = slots (goal.at.returns c).After-div_ceil
