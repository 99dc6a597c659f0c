-- In profile 2 the numbers of the delayer's slots are in their ranges.
use native.Mathlib.Omega.{arith}
use Rattle.sheet.proofs.HouseLaws.{house-within}
use Rattle.sheet.proofs.profile.hop_operator.Goals as goal

pub delayer_slots-requires : goal.delayer_slots-requires
delayer_slots-requires c =
    let within = house-within c.args.house c.requires in
    let rate = within.rate (omega arith) in
    let packets = within.packets (omega arith) in
    (packets.own.1, packets.longest.1, rate.0, rate.1, packets.carrying.0, packets.carrying.1)
