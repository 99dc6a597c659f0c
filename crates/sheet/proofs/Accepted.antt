-- What holds of every accepted sheet, be it of bytes or of other numbers, in either form: the path in it has 1 to 16 operators, its numbers are in their ranges, its declaration's rows in order, and the value has it written out.
use Prim.Native.Nat.{ℕ, ◌+◌, ◌≤◌, ◌<◌}
use mathlib.Core.Path.{◌≡◌, refl, sym, ap, ◌∙◌}
use mathlib.Core.Bool.{Bool, true, false}
use mathlib.Core.List.{List, ◌++◌}
use native.Mathlib.Omega.{arith}
use lib.ListN.{length}
use Rattle.quantity.proofs.Refusals.{NoneStands, none-of-each}
use Rattle.flow.specs.Declarations.{rows_in_order, unused_clear, cleared}
use Rattle.flow.specs.declared.Declaration.{Declaration}
use Rattle.sheet.specs.declared.Form.{Form}
use Rattle.sheet.specs.House.{house_in, house_in_range, house_fits, house_path}
use Rattle.sheet.specs.Forms.{in_full, stands_for, value_of_path, house_value}
use Rattle.sheet.specs.Fields.{wanted_format, operator_format, house_format, body_at, field_cases}
use Rattle.sheet.specs.Sheets.{declaration_cases, wanted_at, operators_at, operator_length, fields_cases, house_cases, in_house_form, sheet_cases, further_cases, fields_path, value_in, path_in, path_in_range}
use Rattle.sheet.proofs.Bodies.{wanted-inside}
use Rattle.sheet.proofs.Cleared.{cleared-unused, cleared-length}
use Rattle.sheet.proofs.Forms.{value-full, stands-in-fields, cases-in-house, value-in-house, cases-in-fields, value-in-fields}
use Rattle.sheet.proofs.HouseLaws.{house-clear, house-order, house-some, house-few, house-inside, house-stands}
use Rattle.sheet.proofs.Fields.{field-accepted}
use Rattle.sheet.proofs.DeclarationField.{declared-clear, declared-inside, declared-order}
use Rattle.sheet.proofs.OperatorRows.{further-begun, operators-begun, length-operators_from, operators-inside}

-- the fields of a path written out, in which no refusal stands
pub record FieldsPath (sheet : List ℕ) : Type 0 where
  pub some : 1 ≤ length (fields_path sheet).operators
  pub few : length (fields_path sheet).operators ≤ 16
  pub inside : path_in_range (fields_path sheet) ≡ true
  pub order : rows_in_order (fields_path sheet).declaration ≡ true

-- the three parts of the refusals: the declaration's, those of the delay wanted, and those of the operators, of which the first has begun
pub record FieldsStand (sheet : List ℕ) : Type 0 where
  pub declared : NoneStands (declaration_cases sheet)
  pub wanted : NoneStands (field_cases sheet (wanted_at sheet) wanted_format)
  pub begun : operators_at sheet < length sheet
  pub operators : NoneStands (further_cases 16 (operators_at sheet) sheet)

pub fields-stand : (sheet : List ℕ) → NoneStands (fields_cases sheet) → FieldsStand sheet
unfolding declaration_cases
fields-stand sheet stands =
    let operators = operators_at sheet in
    let first = field_cases sheet operators operator_format in
    let further = further_cases 15 (operators + operator_length) sheet in
    let (declared, others) = none-of-each (declaration_cases sheet) (field_cases sheet (wanted_at sheet) wanted_format ++ (first ++ further)) stands in
    let (wanted, behind) = none-of-each (field_cases sheet (wanted_at sheet) wanted_format) (first ++ further) others in
    let begun : operators < length sheet = let ends = (field-accepted sheet operators operator_format (none-of-each first further behind).0).ends in omega arith in
    record { declared = declared; wanted = wanted; begun = begun; operators = rw (further-begun sheet 15 operators begun) behind }

pub fields-path : (sheet : List ℕ) → NoneStands (fields_cases sheet) → FieldsPath sheet
unfolding path_in_range fields_path
fields-path sheet stands =
    let record { declared = declared; wanted = wanted; begun = begun; operators = operators } = fields-stand sheet stands in
    let second = field-accepted sheet (wanted_at sheet) wanted_format wanted in
    record {
      some = rw (operators-begun sheet 15 (operators_at sheet) begun) (omega arith);
      few = length-operators_from sheet 16 (operators_at sheet);
      inside = rw (declared-inside sheet declared, wanted-inside (body_at sheet (wanted_at sheet) 4) second.fits) (operators-inside sheet 16 (operators_at sheet) (omega arith) operators);
      order = declared-order sheet declared;
    }

-- and a field 04
pub profile-inside : (sheet : List ℕ) → NoneStands (house_cases sheet) → house_in_range (house_in (body_at sheet 0 22)) ≡ true
unfolding house_fits
profile-inside sheet stands = (field-accepted sheet 0 house_format (none-of-each (field_cases sheet 0 house_format) (further_cases 0 25 sheet) stands).0).fits

-- nothing is cleared in the declaration of a path written out
pub fields-clear : (sheet : List ℕ) → cleared (fields_path sheet).declaration ≡ (fields_path sheet).declaration
unfolding fields_path
fields-clear sheet = declared-clear sheet

-- the path that a sheet counts as, by its form
pub path-in-house : (sheet : List ℕ) → in_house_form sheet ≡ true → path_in sheet ≡ house_path (house_in (body_at sheet 0 22))
unfolding path_in
path-in-house sheet house = ap stands_for (value-in-house sheet house) ∙ house-stands (house_in (body_at sheet 0 22))

pub path-in-fields : (sheet : List ℕ) → in_house_form sheet ≡ false → length (fields_path sheet).operators ≤ 16 → path_in sheet ≡ fields_path sheet
unfolding path_in value_of_path
path-in-fields sheet fields few =
    let value = value_of_path Form.Fields (fields_path sheet) in
    ap stands_for (value-in-fields sheet fields) ∙ stands-in-fields value refl ∙ value-full Form.Fields (fields_path sheet) (fields-clear sheet) few

pub record SheetPath (sheet : List ℕ) : Type 0 where
  pub some : 1 ≤ length (path_in sheet).operators
  pub few : length (path_in sheet).operators ≤ 16
  pub inside : path_in_range (path_in sheet) ≡ true
  pub order : rows_in_order (path_in sheet).declaration ≡ true
  pub clear : cleared (path_in sheet).declaration ≡ (path_in sheet).declaration
  pub value : value_in sheet ≡ value_of_path (value_in sheet).form (path_in sheet)

module _ (sheet : List ℕ) (stands : NoneStands (sheet_cases sheet)) where
  in-house : in_house_form sheet ≡ true → SheetPath sheet
  unfolding house_value value_of_path
  in-house house =
      let h = house_in (body_at sheet 0 22) in
      let inside = profile-inside sheet (rw (cases-in-house sheet house) at stands) in
      let path = path-in-house sheet house in
      record {
        some = rw path (house-some h inside);
        few = rw path (let few = house-few h inside in omega arith);
        inside = rw path (house-inside h inside);
        order = rw path (house-order h);
        clear = rw path (house-clear h);
        value = rw (value-in-house sheet house, path);
      }

  in-fields : in_house_form sheet ≡ false → SheetPath sheet
  unfolding value_of_path
  in-fields fields =
      let record { some = some; few = few; inside = inside; order = order } = fields-path sheet (rw (cases-in-fields sheet fields) at stands) in
      let path = path-in-fields sheet fields few in
      record {
        some = rw path some;
        few = rw path few;
        inside = rw path inside;
        order = rw path order;
        clear = rw path (fields-clear sheet);
        value = rw (value-in-fields sheet fields, path);
      }

  pub sheet-path : SheetPath sheet
  sheet-path = by_form (in_house_form sheet) refl
    where
      by_form : (t : Bool) → in_house_form sheet ≡ t → SheetPath sheet
      by_form true house = in-house house
      by_form false fields = in-fields fields

  -- what the value has written out is that path
  pub sheet-full : in_full (value_in sheet) ≡ path_in sheet
  sheet-full = let path = sheet-path in ap in_full path.value ∙ value-full (value_in sheet).form (path_in sheet) path.clear path.few

  -- its declaration's rows are in order, and all that the declaration does not use is 0; it has room for four rows
  pub order-of-sheet : rows_in_order (path_in sheet).declaration ≡ true
  order-of-sheet = sheet-path.order

  pub unused-of-sheet : unused_clear (path_in sheet).declaration ≡ true
  unused-of-sheet = ap unused_clear (sym sheet-path.clear) ∙ cleared-unused (path_in sheet).declaration

  pub rows-of-sheet : length (path_in sheet).declaration.rows ≡ 4
  rows-of-sheet = ap (λ (declared : Declaration). length declared.rows) (sym sheet-path.clear) ∙ cleared-length (path_in sheet).declaration
