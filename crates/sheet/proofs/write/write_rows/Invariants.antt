-- The header, and the rows behind it, 6 bytes each. The invariant: the rows so far are written.
use Rattle.std.proofs.Common.{◌≡◌, ◌+◌, ◌*◌}
use Rattle.std.proofs.lemmas.List.Edits.{sets}
use Rattle.sheet.specs.Bodies.{row_bodies}
use Rattle.sheet.proofs.write.write_rows.Given as goal

abbrev pub invariant-loop-row : goal.invariant-loop-row
invariant-loop-row l = (l.at ≡ 3 + l.row-index * 6) × (l.sheet ≡ sets l.initial.sheet 3 (row_bodies l.fn.declaration l.row-index))
