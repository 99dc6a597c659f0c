-- The header and the three numbers, one behind the other.
use Prim.Native.Nat.{ℕ}
use mathlib.Core.Path.{refl}
use mathlib.Core.List.{List, [], ◌∷◌, ◌++◌}
use Rattle.sheet.specs.Numbers.{bytes_of}
use Rattle.sheet.specs.Bodies.{pair_body}
use Rattle.sheet.specs.Fields.{field_of}
use Rattle.sheet.proofs.Runs.{run-behind}
use Rattle.sheet.proofs.write.write_one_row.Goals as goal

-- The header and the three numbers, one behind the other.

pub returns : goal.returns
unfolding bytes_of pair_body field_of
returns c =
    let a = c.args in
    let sheet = a.sheet.now in
    let header : List ℕ = 0x01 ∷ bytes_of 2 7 in
    let kind = header ++ (a.kind ∷ []) in
    let interval = bytes_of 2 a.declaration.interval.0 in
    let to-kind = run-behind sheet 0 3 header (a.kind ∷ []) c.write_header.ensures refl refl in
    let to-interval = run-behind sheet 0 4 kind interval to-kind c.write_number.ensures refl in
    run-behind sheet 0 6 (kind ++ interval) (bytes_of 4 a.declaration.quota.0) to-interval c.write_number-2.ensures refl
