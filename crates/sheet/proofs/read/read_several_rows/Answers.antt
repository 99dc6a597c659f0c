-- The field is judged by its header, then by its body, then by the order of its rows.
use Prim.Native.Nat.{ℕ, ◌*◌, ◌≤◌}
use mathlib.Core.Path.{◌≡◌, sym, ap, ◌∙◌}
use mathlib.Core.Bool.{true, false}
use native.Mathlib.Omega.{arith}
use Rattle.std.proofs.lemmas.Result.{err_from_is_err_and}
use Rattle.quantity.specs.declared.refusal.Refusal.TheVariants.{OutOfRange}
use Rattle.flow.specs.Declarations.{rows_in_order}
use Rattle.sheet.specs.Bodies.{rows_in, rows_fit}
use Rattle.sheet.specs.Fields.{rows_format, body_at, IsHanded}
use Rattle.sheet.specs.Sheets.{first_format, declared_in}
use Rattle.sheet.proofs.AnswerLaws.{ToldOr, told-or}
use Rattle.sheet.proofs.DeclarationField.{given-several, first-of-rows, declared-of-rows}
use Rattle.sheet.proofs.FirstRead.{tag-some, first-cut-off, first-header-refuses, first-body-refuses, first-order-refuses, first_passes}
use Rattle.sheet.proofs.read.read_several_rows.Goals as goal
use Rattle.sheet.proofs.read.read_several_rows.Goals.{After-ok_or, After-rows_given-count, In_ok-body}

pub returns-then-sheet-lt-HEADER : goal.returns-then-sheet-lt-HEADER
returns-then-sheet-lt-HEADER c =
    let sheet = c.args.sheet.now in
    sym (first-cut-off sheet (tag-some sheet c.requires) c.if-sheet-lt-HEADER.true)

-- two to four rows
few : (c : After-rows_given-count) → (2 ≤ c.rows_given-count.result) × (c.rows_given-count.result ≤ 4)
few c = rw c.rows_given-count.ensures (given-several c.args.sheet.now)

-- the field that is due, and what it declares
format : (c : After-rows_given-count) → first_format c.args.sheet.now ≡ rows_format c.rows_given-count.result
format c = first-of-rows c.args.sheet.now c.requires ∙ ap rows_format (sym c.rows_given-count.ensures)

declared_rows : (c : After-rows_given-count) → let sheet = c.args.sheet.now in declared_in sheet ≡ rows_in c.rows_given-count.result (body_at sheet 0 (c.rows_given-count.result * 6))
declared_rows c =
    let sheet = c.args.sheet.now in
    declared-of-rows sheet c.requires ∙ ap (λ (k : ℕ). rows_in k (body_at sheet 0 (k * 6))) (sym c.rows_given-count.ensures)

pub of_rows-format-requires : goal.of_rows-format-requires
of_rows-format-requires c = (few (goal.at.of_rows-format-requires c).After-rows_given-count).1

pub body-requires : goal.body-requires
body-requires c = rw c.of_rows-format.ensures (omega (arith, few (goal.at.body-requires c).After-rows_given-count))

pub end-requires : goal.end-requires
end-requires c = rw c.of_rows-format.ensures (omega (arith, few (goal.at.end-requires c).After-rows_given-count))

pub returns-in_err-body : goal.returns-in_err-body
returns-in_err-body c =
    let sheet = c.args.sheet.now in
    let count = c.rows_given-count.result in
    let refused = rw c.of_rows-format.ensures at c.in_err-body.ensures in
    let p = err_from_is_err_and c.from_residual.result c.from_residual.ensures.1 in
    rw (p.1, p.2) (sym (first-header-refuses sheet (rows_format count) (format (goal.at.returns-in_err-body c).After-rows_given-count) (rows_in count (body_at sheet 0 (count * 6))) (declared_rows (goal.at.returns-in_err-body c).After-rows_given-count) refused))

-- the body that is handed to the reader
handed : (c : In_ok-body) → IsHanded c.args.sheet.now 0 0x05 (c.rows_given-count.result * 6) c.in_ok-body.body.now
handed c = rw c.of_rows-format.ensures at c.in_ok-body.ensures

pub read_rows-requires : goal.read_rows-requires
read_rows-requires c =
    let (some, most) = few (goal.at.read_rows-requires c).After-rows_given-count in
    (some, most, (handed (goal.at.read_rows-requires c).In_ok-body).size)

-- what the reader answers of the body
answered : (c : After-ok_or)
    → let count = c.rows_given-count.result in let body = body_at c.args.sheet.now 0 (count * 6) in ToldOr (rows_fit count body) (rows_in count body) (OutOfRange 0) c.ok_or.result
answered c = let body = rw c.of_rows-format.ensures at c.in_ok-body.ensures in told-or _ _ _ (rw body.is at c.read_rows.ensures) c.ok_or.ensures.value

pub returns-in_err-declaration : goal.returns-in_err-declaration
returns-in_err-declaration c =
    let sheet = c.args.sheet.now in
    let count = c.rows_given-count.result in
    let judged = (handed (goal.at.returns-in_err-declaration c).In_ok-body).judged in
    let (out, why) = (answered (goal.at.returns-in_err-declaration c).After-ok_or).outside c.in_err-declaration.was in
    let p = err_from_is_err_and c.from_residual-in_err-declaration.result c.from_residual-in_err-declaration.ensures.1 in
    rw (p.1, p.2, why) (sym (first-body-refuses sheet (rows_format count) (format (goal.at.returns-in_err-declaration c).After-rows_given-count) (rows_in count (body_at sheet 0 (count * 6))) (declared_rows (goal.at.returns-in_err-declaration c).After-rows_given-count) judged out))

pub returns-then-not-in_order : goal.returns-then-not-in_order
returns-then-not-in_order c =
    let sheet = c.args.sheet.now in
    let count = c.rows_given-count.result in
    let judged = (handed (goal.at.returns-then-not-in_order c).In_ok-body).judged in
    let (within, same) = (answered (goal.at.returns-then-not-in_order c).After-ok_or).within c.in_ok-declaration.was in
    let falls : rows_in_order (rows_in count (body_at sheet 0 (count * 6))) ≡ false = ap rows_in_order (sym same) ∙ sym c.in_order.ensures ∙ c.if-not-in_order.true in
    sym (first-order-refuses sheet (rows_format count) (format (goal.at.returns-then-not-in_order c).After-rows_given-count) (rows_in count (body_at sheet 0 (count * 6))) (declared_rows (goal.at.returns-then-not-in_order c).After-rows_given-count) judged within falls)

pub returns : goal.returns
returns c =
    let sheet = c.args.sheet.now in
    let count = c.rows_given-count.result in
    let judged = (handed (goal.at.returns c).In_ok-body).judged in
    let (within, same) = (answered (goal.at.returns c).After-ok_or).within c.in_ok-declaration.was in
    let rises : rows_in_order (rows_in count (body_at sheet 0 (count * 6))) ≡ true = ap rows_in_order (sym same) ∙ sym c.in_order.ensures ∙ c.if-not-in_order.false in
    rw (c.end.ensures, c.of_rows-format.ensures, same) (sym (first_passes sheet (rows_format count) (format (goal.at.returns c).After-rows_given-count) (rows_in count (body_at sheet 0 (count * 6))) (declared_rows (goal.at.returns c).After-rows_given-count) judged within rises))
