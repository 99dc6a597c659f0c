-- Where no condition of the header stands, the body lies in the sheet.
use Rattle.std.proofs.Common.{◌≡◌, ◌+◌, length, not, Ok, sym, ap, ◌∙◌, arith}
use borrow.Author.Tests.{lt-leb, le-ltb}
use Rattle.sheet.specs.Fields.{field_missing, header_cut_off, body_cut_off, body_out_of_range, header_judged}
use Rattle.sheet.proofs.ReadLaws.{handed-body, handed-length}
use Rattle.sheet.proofs.Format.body.Goals as goal
use Rattle.sheet.proofs.Format.body.Goals.{Else-not-is_due}

judged : (c : Else-not-is_due) → header_judged c.args.sheet.now c.args.at c.args.self.tag c.args.self.width ≡ Ok tt
unfolding field_missing header_cut_off body_cut_off body_out_of_range
judged c =
    let a = c.args in
    let size = length a.sheet.now in
    simp (
      lt-leb size a.at (omega arith),
      le-ltb size (a.at + 3) (omega arith),
      sym c.is_due.ensures ∙ ap not c.if-not-is_due.false,
      le-ltb size (a.at + 3 + a.self.width) (omega arith),
    )

pub returns : goal.returns
returns c =
    let a = c.args in
    rw c.end-end.ensures
    (record {
      judged = judged (goal.at.returns c).Else-not-is_due;
      is = handed-body a.sheet.now a.at a.self.width;
      size = handed-length a.sheet.now (a.at + 3) a.self.width (omega arith);
    })
