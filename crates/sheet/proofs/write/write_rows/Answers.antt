use Rattle.std.proofs.Common.{◌≡◌, ◌*◌, ◌<◌, ℕ, List, ◌∷◌, length, take, refl, add-one, arith}
use lib.Seq.{get_or-take, length-take-le}
use Rattle.flow.specs.Declarations.{several_at}
use Rattle.sheet.specs.Numbers.{bytes_of}
use Rattle.sheet.specs.Bodies.{row_bodies}
use Rattle.sheet.specs.Fields.{field_of}
use Rattle.sheet.proofs.Bodies.{row_body, rows_next, length-row_bodies}
use Rattle.sheet.proofs.Runs.{run-behind}
use Rattle.sheet.proofs.write.write_rows.Goals as goal
use Rattle.sheet.proofs.write.write_rows.Goals.{At-loop-row, Start}

pub loop-row-init : goal.loop-row-init
unfolding row_bodies
loop-row-init c = (omega arith, refl)

-- so many rows are written
counted : (c : Start) → length (take c.args.declaration.count c.args.declaration.rows) ≡ c.args.declaration.count
counted c = length-take-le c.args.declaration.count c.args.declaration.rows (omega arith)

pub loop-row-preserved : goal.loop-row-preserved
loop-row-preserved c =
    let declared = c.args.declaration in
    let k = c.loop-row.row-index in
    let used : k < declared.count = omega (arith, counted (goal.at.loop-row-preserved c).Start) in
    let row = rw get_or-take at c.write_row.ensures in
    (omega arith, rw (add-one, rows_next declared k) (run-behind _ 3 c.loop-row.at (row_bodies declared k) (row_body (several_at declared k)) c.loop-row.invariant.1 row (omega (arith, length-row_bodies declared k))))

pub returns : goal.returns
unfolding field_of bytes_of
returns c =
    let declared = c.args.declaration in
    let all : c.loop-row.row-index ≡ declared.count = omega (arith, counted (goal.at.returns c).Start) in
    let body = row_bodies declared declared.count in
    let header : List ℕ = 0x05 ∷ bytes_of 2 (declared.count * 6) in
    rw (length-row_bodies declared declared.count) (run-behind c.args.sheet.now 0 3 header body (rw c.of_rows.ensures at c.write_header.ensures) (rw all at c.loop-row.invariant.1) refl)
