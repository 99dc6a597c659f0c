-- The header and the two bytes, one behind the other, before the number.
use Rattle.std.proofs.Common.{ℕ, ◌+◌, List, [], ◌∷◌, ◌++◌, refl, arith}
use Rattle.sheet.specs.Numbers.{bytes_of}
use Rattle.sheet.specs.Bodies.{operator_body}
use Rattle.sheet.specs.Fields.{field_of}
use Rattle.sheet.proofs.InRange.{link-small}
use Rattle.sheet.proofs.Runs.{run-behind, run-before}
use Rattle.sheet.proofs.write.write_linked.Goals as goal

pub overflow_cast-sheet : goal.overflow_cast-sheet
overflow_cast-sheet c = omega (arith, link-small c.args.linked c.requires.0)

pub returns : goal.returns
unfolding bytes_of operator_body field_of
returns c =
    let a = c.args in
    let numbered = c.write_number in
    let told = c.kind_and_number-kind in
    let header : List ℕ = 0x03 ∷ bytes_of 2 6 in
    let kind = header ++ (told.result.0 ∷ []) in
    let to-kind = run-behind numbered.new.sheet a.at (a.at + 3) header (told.result.0 ∷ []) c.write_header.ensures refl refl in
    let to-link = run-behind numbered.new.sheet a.at (a.at + 4) kind (a.linked.link.0 ∷ []) to-kind refl refl in
    rw (← told.ensures.0, ← told.ensures.1) (run-before a.sheet.now a.at (a.at + 5) (kind ++ (a.linked.link.0 ∷ [])) (bytes_of 4 told.result.1) numbered.ensures to-link refl)
