-- The header, the two bytes and the numbers, one behind the other.
use Prim.Native.Nat.{ℕ}
use mathlib.Core.Path.{◌≡◌, refl, ◌∙◌}
use mathlib.Core.List.{List, [], ◌∷◌, ◌++◌}
use native.Mathlib.Omega.{arith}
use lib.ListN.{length, length-set}
use Rattle.sheet.specs.Numbers.{bytes_of}
use Rattle.sheet.specs.House.{house_body}
use Rattle.sheet.specs.Fields.{field_of}
use Rattle.sheet.proofs.HouseLaws.{house-within}
use Rattle.sheet.proofs.Runs.{run-behind}
use Rattle.sheet.proofs.profile.write_house.Goals as goal
use Rattle.sheet.proofs.profile.write_house.Goals.{After-write_number, After-write_number-2, After-write_number-3}

pub overflow_cast-sheet : goal.overflow_cast-sheet
overflow_cast-sheet c =
    omega (arith, (house-within c.args.house c.requires.0).hops.1)

-- the sheet keeps its length from number to number
kept-to-wanted : (c : After-write_number) → length c.write_number.new.sheet ≡ length c.args.sheet.now
kept-to-wanted c = c.write_number.auto.sheet ∙ simp length-set c.write_header.auto.sheet

kept-to-interval : (c : After-write_number-2) → length c.write_number-2.new.sheet ≡ length c.args.sheet.now
kept-to-interval c = c.write_number-2.auto.sheet ∙ (c.write_number.auto.sheet ∙ simp length-set c.write_header.auto.sheet)

kept-to-quota : (c : After-write_number-3) → length c.write_number-3.new.sheet ≡ length c.args.sheet.now
kept-to-quota c = c.write_number-3.auto.sheet ∙ (c.write_number-2.auto.sheet ∙ (c.write_number.auto.sheet ∙ simp length-set c.write_header.auto.sheet))

pub returns : goal.returns
unfolding bytes_of house_body field_of
returns c =
    let a = c.args in
    let sheet = a.sheet.now in
    let header : List ℕ = 0x04 ∷ bytes_of 2 22 in
    let profile = header ++ (a.house.profile ∷ []) in
    let hops = profile ++ (a.house.hops.0 ∷ []) in
    let wanted = bytes_of 4 a.house.wanted.0 in
    let interval = bytes_of 2 a.house.interval.0 in
    let quota = bytes_of 4 a.house.quota.0 in
    let rates = bytes_of 4 a.house.rate.0 ++ bytes_of 2 a.house.own_packet.0 ++ bytes_of 2 a.house.longest_packet.0 ++ bytes_of 2 a.house.link_rate.0 in
    let to-profile = run-behind sheet 0 3 header (a.house.profile ∷ []) c.write_header.ensures refl refl in
    let to-hops = run-behind sheet 0 4 profile (a.house.hops.0 ∷ []) to-profile refl refl in
    let to-wanted = run-behind sheet 0 5 hops wanted to-hops c.write_number.ensures refl in
    let to-interval = run-behind sheet 0 9 (hops ++ wanted) interval to-wanted c.write_number-2.ensures refl in
    let to-quota = run-behind sheet 0 11 (hops ++ wanted ++ interval) quota to-interval c.write_number-3.ensures refl in
    run-behind sheet 0 15 (hops ++ wanted ++ interval ++ quota) rates to-quota c.write_rates_and_packets.ensures refl
