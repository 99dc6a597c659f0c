-- What is answered of a sheet's first field, in either form: it is judged by its header, then by its body, and then by the order of its rows.
use Prim.Native.Nat.{ℕ, ◌+◌, ◌<◌}
use mathlib.Core.Path.{◌≡◌, ◌∙◌}
use mathlib.Core.Bool.{true, false, not, false≢true}
use mathlib.Core.List.{List, [], ◌∷◌, ◌++◌}
use native.Mathlib.Omega.{arith}
use lib.ListN.{length}
use Rattle.std.specs.Prelude.{Result, Ok, Err}
use Rattle.quantity.specs.Refusals.{Case, ◌⇒◌, first_of}
use Rattle.quantity.specs.declared.refusal.Refusal.{Refusal}
use Rattle.quantity.specs.declared.refusal.Refusal.TheVariants.{HeaderCutOff, OutOfRange, RowsOutOfOrder}
use Rattle.flow.specs.Declarations.{rows_in_order}
use Rattle.flow.specs.declared.Declaration.{Declaration}
use Rattle.sheet.specs.Fields.{Format, body_at, field_cases, header_judged}
use Rattle.sheet.specs.Sheets.{in_rows_form, first_format, declared_in, declaration_cases, wanted_at, first_answer}
use Rattle.sheet.specs.declared.read.First.{First}
use Rattle.sheet.proofs.ReadLaws.{begun, header-cut, field-refused, field-outside, field-passed}

-- a sheet that begins with the tag 05 has a byte
pub tag-some : (sheet : List ℕ) → in_rows_form sheet ≡ true → 0 < length sheet
unfolding in_rows_form
tag-some [] tagged = absurd (false≢true tagged)
tag-some (byte ∷ sheet) tagged = omega arith

module _ (sheet : List ℕ) where
  -- a field of one or two bytes, of whatever format
  pub first-cut-off : 0 < length sheet → length sheet < 3 → first_answer sheet ≡ Err (HeaderCutOff 0)
  unfolding declaration_cases
  first-cut-off some few = simp (begun sheet 0 some, header-cut sheet 0 few)

  module _ (due : Format) (first : first_format sheet ≡ due) (declared : Declaration) (read : declared_in sheet ≡ declared) where
    abbrev passed : Result First Refusal
    passed = Ok (record { declaration = declared; end = 3 + due.width })

    abbrev order : List Case
    order = (not (rows_in_order declared) ⇒ RowsOutOfOrder 0) ∷ []

    in-format : first_answer sheet ≡ first_of (field_cases sheet 0 due ++ order) Err passed
    unfolding declaration_cases wanted_at
    in-format = rw (first, read)

    pub first-header-refuses : {why : Refusal} → header_judged sheet 0 due.tag due.width ≡ Err why → first_answer sheet ≡ Err why
    first-header-refuses e = in-format ∙ field-refused passed sheet 0 due order e

    module _ (judged : header_judged sheet 0 due.tag due.width ≡ Ok tt) where
      pub first-body-refuses : due.fits (body_at sheet 0 due.width) ≡ false → first_answer sheet ≡ Err (OutOfRange 0)
      first-body-refuses out = in-format ∙ field-outside passed sheet 0 due order judged out

      module _ (fits : due.fits (body_at sheet 0 due.width) ≡ true) where
        body-passes : first_answer sheet ≡ first_of order Err passed
        body-passes = in-format ∙ field-passed passed sheet 0 due order judged fits

        pub first-order-refuses : rows_in_order declared ≡ false → first_answer sheet ≡ Err (RowsOutOfOrder 0)
        first-order-refuses falls = body-passes ∙ rw falls

        pub first_passes : rows_in_order declared ≡ true → first_answer sheet ≡ passed
        first_passes rises = body-passes ∙ rw rises
