-- The fields of the operators so far are written, 9 bytes each.
use Rattle.std.proofs.Common.{◌≡◌, ◌+◌, ◌*◌, take}
use Rattle.std.proofs.lemmas.List.Edits.{sets}
use Rattle.sheet.specs.Sheets.{operator_fields}
use Rattle.sheet.proofs.write.write_operators.Given as goal

abbrev pub invariant-loop-linked : goal.invariant-loop-linked
invariant-loop-linked l = (l.at ≡ l.from + 9 * l.linked-index) × (l.sheet ≡ sets l.initial.sheet l.from (operator_fields (take l.linked-index l.operators)))
