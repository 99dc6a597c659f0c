-- A whole sheet, in either form: what is written of a path in range and in order is accepted and read as that path; an accepted sheet is what is written of the path in it; and what the writer answers where it does not refuse.
use Prim.Native.Nat.{ℕ, ◌+◌, ◌≤◌, ◌<◌}
use mathlib.Core.Path.{◌≡◌, refl, sym, ap, subst, ◌∙◌}
use mathlib.Core.Bool.{Bool, true, false}
use mathlib.Core.List.{List, [], ◌++◌, append_assoc, append-nil}
use mathlib.Core.Logic.{◌≢◌, ⊎_elim}
use native.Mathlib.Omega.{arith}
use lib.ListN.{length, take, drop}
use lib.Seq.{length-take-le, take-append_seam}
use lib.Dec.{ltb, eqb}
use borrow.Author.Tests.{eqb-false, ltb-false, not-false, eq-eqb, ne_eqb, le-ltb}
use Rattle.std.specs.Prelude.{Ok, Err}
use Rattle.quantity.specs.Ranges.{in_range, wanted_delay_range}
use Rattle.quantity.specs.declared.refusal.Refusal.{Refusal}
use Rattle.quantity.proofs.Laws.{either-false}
use Rattle.quantity.proofs.Sums.{both_true}
use Rattle.quantity.proofs.Refusals.{NoneStands, none-of-both, none-of-each, first_of-none}
use Rattle.flow.specs.Declarations.{by_kind, declaration_in_range, rows_in_order, cleared}
use Rattle.flow.specs.declared.Kind.{Kind}
use Rattle.sheet.specs.declared.House.{House}
use Rattle.sheet.specs.declared.Form.{Form}
use Rattle.sheet.specs.declared.PathValue.{PathValue}
use Rattle.sheet.specs.Paths.{Path}
use Rattle.sheet.specs.Bodies.{wanted_in, declaration_tag, declaration_body, wanted_body}
use Rattle.sheet.specs.House.{house_in, house_body, house_in_range}
use Rattle.sheet.specs.Forms.{in_full, stands_for, value_of_path, house_value}
use Rattle.sheet.specs.Fields.{wanted_format, house_format, field_of, body_at, field_cases}
use Rattle.sheet.specs.Sheets.{declaration_cases, wanted_at, operators_at, fields_cases, house_cases, in_house_form, sheet_cases, further_cases, operators_from, fields_path, value_in, read_sheet, operator_fields, operators_in_range, sheet_of, rest_in_range, sheet_of_value, write_cases, write_answer, bytes_written}
use Rattle.sheet.proofs.AnswerLaws.{none-of-ok, ok-is}
use Rattle.sheet.proofs.Numbers.{AreBytes}
use Rattle.sheet.proofs.Bodies.{length-wanted_body, wanted_read, wanted-fits, wanted-written}
use Rattle.sheet.proofs.Cleared.{cleared-twice}
use Rattle.sheet.proofs.Forms.{value-full, either-form, stands-in-fields, sheet-in-fields, refusals-in-fields, stands-in-house, sheet-in-house, refusals-in-house, cases-in-house, value-in-house, cases-in-fields, value-in-fields}
use Rattle.sheet.proofs.HouseLaws.{length-house_body, house-read, house-fits, house-written, house-stands}
use Rattle.sheet.proofs.Fields.{field-read, field-accepted, field-written}
use Rattle.sheet.proofs.DeclarationField.{declared-read, declared-written}
use Rattle.sheet.proofs.OperatorRows.{length-operator_fields, further-begun, further-ended, operators-read, operators-written}
use Rattle.sheet.proofs.Accepted.{fields-stand, fields-path, profile-inside, fields-clear}
use Rattle.sheet.proofs.InRange.{declaration-of-path, rest-of-path}

-- a path written out in fields

-- their cases where the first operator has begun
begun-cases : (sheet : List ℕ) → operators_at sheet < length sheet
    → declaration_cases sheet ++ (field_cases sheet (wanted_at sheet) wanted_format ++ further_cases 16 (operators_at sheet) sheet) ≡ fields_cases sheet
unfolding declaration_cases
begun-cases sheet begun = rw (further-begun sheet 15 (operators_at sheet) begun)

-- the first operator stands behind the field 02
behind-wanted : (sheet : List ℕ) → wanted_at sheet + 3 + 4 ≡ operators_at sheet
behind-wanted sheet = omega arith

-- a path as it is written is accepted, and read as it is
fields_read : (path : Path) → cleared path.declaration ≡ path.declaration → 1 ≤ length path.operators → length path.operators ≤ 16
    → declaration_in_range path.declaration ≡ true → rows_in_order path.declaration ≡ true → rest_in_range path ≡ true
    → NoneStands (fields_cases (sheet_of path)) × (fields_path (sheet_of path) ≡ path)
unfolding rest_in_range sheet_of fields_path
fields_read path clear some few inside order rest =
    let sheet = sheet_of path in
    let declared = path.declaration in
    let wanted = path.wanted in
    let operators = path.operators in
    let fields = operator_fields operators in
    let (wanted-in, operators-in) = both_true (in_range wanted_delay_range wanted) (operators_in_range operators) rest in
    let first =
    declared-read sheet declared (field_of 2 (wanted_body wanted) ++ fields) (append_assoc (field_of (declaration_tag declared) (declaration_body declared)) (field_of 2 (wanted_body wanted)) fields) inside order in
    let second = field-read sheet (wanted_at sheet) wanted_format (wanted_body wanted) fields (omega arith) (length-wanted_body wanted) first.behind (wanted-fits wanted wanted-in) in
    let long = second.long in
    let third = operators-read sheet 16 (operators_at sheet) operators few (omega arith) (sym (rw (behind-wanted sheet) at second.behind), operators-in) in
    let declared-back = first.read ∙ clear in
    let wanted-back = ap wanted_in second.read ∙ wanted_read wanted wanted-in in (
      subst NoneStands (begun-cases sheet (omega (arith, length-operator_fields operators)))
          (none-of-both (declaration_cases sheet) (field_cases sheet (wanted_at sheet) wanted_format ++ further_cases 16 (operators_at sheet) sheet) first.stands
          (none-of-both (field_cases sheet (wanted_at sheet) wanted_format) (further_cases 16 (operators_at sheet) sheet) second.stands third.0)),
      λ i. record { declaration = declared-back i; wanted = wanted-back i; operators = third.1 i },
    )

-- and accepted fields are what is written of the path that they are read as
fields-written : (sheet : List ℕ) → AreBytes sheet → NoneStands (fields_cases sheet) → sheet_of (fields_path sheet) ≡ sheet
unfolding sheet_of fields_path
fields-written sheet each stands =
    let record { declared = declared-stands; wanted = wanted-stands; begun = begun; operators = operators-stand } = fields-stand sheet stands in
    let second = field-accepted sheet (wanted_at sheet) wanted_format wanted-stands in
    let second-bytes = field-written sheet (wanted_at sheet) wanted_format each wanted-stands in
    let written = operators-written sheet 16 (operators_at sheet) each (omega arith) operators-stand in
    let wanted = wanted-written (body_at sheet (wanted_at sheet) 4) second-bytes.bytes second.size in
    rw (wanted, written, append_assoc, ← behind-wanted sheet, second-bytes.written) (declared-written sheet declared-stands each)

-- a field 04

profile-read : (h : House) → house_in_range h ≡ true → let sheet = field_of 0x04 (house_body h) in NoneStands (house_cases sheet) × (house_in (body_at sheet 0 22) ≡ h)
profile-read h inside =
    let sheet = field_of 0x04 (house_body h) in
    let field = field-read sheet 0 house_format (house_body h) [] (omega arith) (length-house_body h) (sym (append-nil sheet)) (house-fits h inside) in
    let long = field.long in (
      none-of-both (field_cases sheet 0 house_format) (further_cases 0 25 sheet) field.stands (rw (further-ended sheet 0 25 (omega arith)) tt),
      ap house_in field.read ∙ house-read h inside,
    )

profile-written : (sheet : List ℕ) → AreBytes sheet → NoneStands (house_cases sheet) → field_of 0x04 (house_body (house_in (body_at sheet 0 22))) ≡ sheet
unfolding operator_fields operators_from
profile-written sheet each stands =
    let (here, behind) = none-of-each (field_cases sheet 0 house_format) (further_cases 0 25 sheet) stands in
    let field = field-accepted sheet 0 house_format here in
    let bytes = field-written sheet 0 house_format each here in
    let ended : [] ≡ drop 25 sheet = operators-written sheet 0 25 each field.ends behind in
    rw (house-written (body_at sheet 0 22) bytes.bytes field.size) (sym (append-nil (field_of 0x04 (body_at sheet 0 22))) ∙ rw ended bytes.written)

-- either form

-- the sheet of a path written out does not begin with the tag 04, that of a profile does
path-form : (path : Path) → in_house_form (sheet_of path) ≡ false
unfolding in_house_form sheet_of field_of declaration_tag
path-form path = by-kind path.declaration.kind
  where
    by-kind : (kind : Kind) → eqb (by_kind kind 0x01 0x01 0x05) 0x04 ≡ false
    by-kind Kind.Smooth = refl
    by-kind Kind.Uniform = refl
    by-kind Kind.Rows = refl

profile-form : (h : House) → in_house_form (field_of 0x04 (house_body h)) ≡ true
unfolding in_house_form field_of
profile-form h = refl

-- the sheet of a value is accepted, and read as a value of its form that stands for its path
pub record PathRead (value : PathValue) (sheet : List ℕ) : Type 0 where
  pub stands : NoneStands (sheet_cases sheet)
  pub form : (value_in sheet).form ≡ value.form
  pub path : stands_for (value_in sheet) ≡ stands_for value

module _ (value : PathValue) (lent : List ℕ) (stands : NoneStands (write_cases value lent)) where
  read-in-fields : length value.operators ≡ 16 → value.form ≡ Form.Fields → PathRead value (sheet_of_value value)
  unfolding in_full value_of_path
  read-in-fields whole fields =
      let path = in_full value in
      let sheet = sheet_of path in
      let stood = stands-in-fields value fields in
      let tests = rw (refusals-in-fields value fields lent) at stands in
      let (full, fits) = either-false (eqb value.count 0) (ltb 16 value.count) tests.1.0 in
      let few : value.count ≤ 16 = ltb-false 16 value.count fits in
      let some : value.count ≢ 0 = eqb-false value.count 0 full in
      let size = length-take-le value.count value.operators (omega arith) in
      let inside : declaration_in_range path.declaration ≡ true = rw stood at (not-false (declaration_in_range (stands_for value).declaration) tests.1.1.0) in
      let order : rows_in_order path.declaration ≡ true = rw stood at (not-false (rows_in_order (stands_for value).declaration) tests.1.1.1.0) in
      let rest : rest_in_range path ≡ true = rw stood at (not-false (rest_in_range (stands_for value)) tests.1.1.1.1.0) in
      let clear : cleared path.declaration ≡ path.declaration = cleared-twice value.declaration in
      let (accepted, same) = fields_read path clear (omega arith) (omega arith) inside order rest in
      let read : value_in sheet ≡ value_of_path Form.Fields path = value-in-fields sheet (path-form path) ∙ ap (value_of_path Form.Fields) same in
      rw (sheet-in-fields value fields, stood)
      (record {
        stands = rw (cases-in-fields sheet (path-form path)) accepted;
        form = ap (λ (back : PathValue). back.form) read ∙ sym fields;
        path = ap stands_for read ∙ stands-in-fields (value_of_path Form.Fields path) refl ∙ value-full Form.Fields path clear (omega arith) ∙ sym stood;
      })

  read-in-house : (h : House) → value.form ≡ Form.House h → PathRead value (sheet_of_value value)
  unfolding house_value
  read-in-house h house =
      let sheet = field_of 0x04 (house_body h) in
      let tests = rw (refusals-in-house value h house lent) at stands in
      let (accepted, same) = profile-read h (not-false (house_in_range h) tests.1.0) in
      let read : value_in sheet ≡ house_value h = value-in-house sheet (profile-form h) ∙ ap house_value same in
      rw (sheet-in-house value h house)
      (record {
        stands = rw (cases-in-house sheet (profile-form h)) accepted;
        form = ap (λ (back : PathValue). back.form) read ∙ sym house;
        path = ap stands_for read ∙ house-stands h ∙ sym (stands-in-house value h house);
      })

  pub value_read : length value.operators ≡ 16 → PathRead value (sheet_of_value value)
  value_read whole = ⊎_elim (read-in-fields whole) (λ (h, house). read-in-house h house) (either-form value.form)

-- an accepted sheet is what is written of the value that it is read as, which the writer does not refuse
pub record SheetWritten (sheet : List ℕ) (value : PathValue) : Type 0 where
  pub stands : (lent : List ℕ) → length lent ≡ 256 → NoneStands (write_cases value lent)
  pub written : AreBytes sheet → sheet_of_value value ≡ sheet

module _ (sheet : List ℕ) (stands : NoneStands (sheet_cases sheet)) where
  written-in-fields : in_house_form sheet ≡ false → SheetWritten sheet (value_in sheet)
  unfolding value_of_path
  written-in-fields fields =
      let path = fields_path sheet in
      let value = value_of_path Form.Fields path in
      let accepted = rw (cases-in-fields sheet fields) at stands in
      let record { some = some; few = few; inside = inside; order = order } = fields-path sheet accepted in
      let stood : stands_for value ≡ path = stands-in-fields value refl ∙ value-full Form.Fields path (fields-clear sheet) few in
      let full : eqb value.count 0 ≡ false = ne_eqb value.count 0 (omega arith) in
      let fits : ltb 16 value.count ≡ false = le-ltb 16 value.count few in
      rw (value-in-fields sheet fields)
      (record {
        stands = λ lent size.
            rw (refusals-in-fields value refl lent)
            (rw (eq-eqb _ _ size), (rw (full, fits), (rw (stood, declaration-of-path path inside), (rw (stood, order), (rw (stood, rest-of-path path inside), tt)))));
        written = λ each. sheet-in-fields value refl ∙ ap sheet_of stood ∙ fields-written sheet each accepted;
      })

  written-in-house : in_house_form sheet ≡ true → SheetWritten sheet (value_in sheet)
  unfolding house_value
  written-in-house house =
      let h = house_in (body_at sheet 0 22) in
      let accepted = rw (cases-in-house sheet house) at stands in
      rw (value-in-house sheet house)
      (record {
        stands = λ lent size. rw (refusals-in-house (house_value h) h refl lent) (rw (eq-eqb _ _ size), (rw (profile-inside sheet accepted), tt));
        written = λ each. sheet-in-house (house_value h) h refl ∙ profile-written sheet each accepted;
      })

  pub sheet-written : SheetWritten sheet (value_in sheet)
  sheet-written = by_form (in_house_form sheet) refl
    where
      by_form : (t : Bool) → in_house_form sheet ≡ t → SheetWritten sheet (value_in sheet)
      by_form true house = written-in-house house
      by_form false fields = written-in-fields fields

-- the answers

module _ (sheet : List ℕ) where
  -- an accepted sheet is one in which no refusal stands
  pub accepted-stands : {value : PathValue} → read_sheet sheet ≡ Ok value → NoneStands (sheet_cases sheet)
  unfolding read_sheet
  accepted-stands = none-of-ok (value_in sheet) (sheet_cases sheet)

  -- and that is read as the value of the path in it
  pub accepted-is : {value : PathValue} → read_sheet sheet ≡ Ok value → value ≡ value_in sheet
  unfolding read_sheet
  accepted-is = ok-is (value_in sheet) (sheet_cases sheet)

  pub standing-read : NoneStands (sheet_cases sheet) → read_sheet sheet ≡ Ok (value_in sheet)
  unfolding read_sheet
  standing-read = first_of-none Err (Ok (value_in sheet)) (sheet_cases sheet)

module _ (value : PathValue) (lent : List ℕ) where
  -- a path of which a length is answered is one in which no refusal stands
  pub written_stands : {n : ℕ} → write_answer value lent ≡ Ok n → NoneStands (write_cases value lent)
  unfolding write_answer
  written_stands = none-of-ok (length (sheet_of_value value)) (write_cases value lent)

  -- and the length is its sheet's
  pub written-is : {n : ℕ} → write_answer value lent ≡ Ok n → n ≡ length (sheet_of_value value)
  unfolding write_answer
  written-is = ok-is (length (sheet_of_value value)) (write_cases value lent)

  -- the writer's answer, and the lent bytes after it, where no refusal stands
  module _ (stands : NoneStands (write_cases value lent)) where
    pub standing-answer : write_answer value lent ≡ Ok (length (sheet_of_value value))
    unfolding write_answer
    standing-answer = first_of-none Err (Ok (length (sheet_of_value value))) (write_cases value lent) stands

    pub standing-bytes : take (length (sheet_of_value value)) (bytes_written value lent) ≡ sheet_of_value value
    unfolding bytes_written
    standing-bytes =
        let sheet = sheet_of_value value in
        let after = sheet ++ drop (length sheet) lent in
        ap (take (length sheet)) (first_of-none (λ (why : Refusal). lent) after (write_cases value lent) stands) ∙ take-append_seam sheet (drop (length sheet) lent)
