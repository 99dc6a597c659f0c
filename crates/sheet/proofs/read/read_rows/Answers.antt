use mathlib.Core.Path.{◌≡◌, refl, sym, ◌∙◌}
use native.Mathlib.Omega.{arith}
use Rattle.std.specs.Prelude.{Some, None}
use Rattle.quantity.specs.Sums.{every}
use Rattle.quantity.proofs.Laws.{Told, option-told}
use Rattle.quantity.proofs.Sums.{every-fails, every-on}
use Rattle.flow.specs.Declarations.{row_of, row_in_range}
use Rattle.sheet.specs.Bodies.{row_in, rows_in}
use Rattle.sheet.proofs.RowsRead.{rows-fit-each, stored-none, stored_next}
use Rattle.sheet.proofs.read.read_rows.Goals as goal
use Rattle.sheet.proofs.read.read_rows.Goals.{After-read_row}

pub loop-k-init : goal.loop-k-init
unfolding every
loop-k-init c = (sym (stored-none (row_in c.args.body.now)), refl)

-- what the reader answers of the row
answered : (c : After-read_row)
    → let row = row_in c.args.body.now c.loop-k.k in Told (row_in_range (row_of row)) row Some None c.read_row.result
answered c = option-told c.read_row.ensures

pub returns-in_err-rows : goal.returns-in_err-rows
returns-in_err-rows c =
    let a = c.args in
    let body = a.body.now in
    let outside = (answered (goal.at.returns-in_err-rows c).After-read_row).outside c.in_err-rows.was in
    let fails = rows-fit-each a.count body (omega arith) (omega arith) ∙ every-fails (λ i. row_in_range (row_of (row_in body i))) a.count c.loop-k.k c.loop-k-test.true outside in
    rw fails c.from_residual.ensures

pub loop-k-preserved : goal.loop-k-preserved
loop-k-preserved c =
    let body = c.args.body.now in
    let k = c.loop-k.k in
    let (fits, row) = (answered (goal.at.loop-k-preserved c).After-read_row).within c.in_ok-rows.was in
    (rw (row, c.loop-k.invariant.0) (stored_next (row_in body) k (omega arith)), every-on _ k c.loop-k.invariant.1 fits)

pub returns : goal.returns
unfolding rows_in
returns c =
    let a = c.args in
    let body = a.body.now in
    let all : c.loop-k.k ≡ a.count = omega arith in
    let fits = rows-fit-each a.count body (omega arith) (omega arith) ∙ rw all at c.loop-k.invariant.1 in
    rw (fits, c.of_rows.ensures, c.loop-k.invariant.0, all)
