-- The four numbers, one behind the other.
use mathlib.Core.Path.{refl}
use mathlib.Core.List.{◌++◌}
use Rattle.sheet.specs.Numbers.{bytes_of}
use Rattle.sheet.proofs.Runs.{run-behind}
use Rattle.sheet.proofs.profile.write_rates_and_packets.Goals as goal

pub returns : goal.returns
unfolding bytes_of
returns c =
    let a = c.args in
    let sheet = a.sheet.now in
    let rate = bytes_of 4 a.house.rate.0 in
    let own = bytes_of 2 a.house.own_packet.0 in
    let longest = bytes_of 2 a.house.longest_packet.0 in
    let carrying = bytes_of 2 a.house.link_rate.0 in
    let to-own = run-behind sheet 15 19 rate own c.write_number.ensures c.write_number-2.ensures refl in
    let to-longest = run-behind sheet 15 21 (rate ++ own) longest to-own c.write_number-3.ensures refl in
    run-behind sheet 15 23 (rate ++ own ++ longest) carrying to-longest c.write_number-4.ensures refl
