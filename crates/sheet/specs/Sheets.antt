-- Section 5: one field 01, or 05 in its place (document 02, item 6), one 02, then 1 to 16 of 03, or one 04 (item 2); what reading and writing a sheet answer (section 7).
use Rattle.std.specs.Prelude.{ℕ, zero, suc, ◌+◌, ◌-◌, Bool, true, not, Result, Ok, Err, List, [], ◌∷◌, ◌++◌, length, get_or, leb, ltb, eqb}
use Rattle.quantity.specs.Choice.{pick, both, either}
use Rattle.quantity.specs.Lent.{written_over}
use Rattle.quantity.specs.Limits.{most_operators}
use Rattle.quantity.specs.Ranges.{in_range, wanted_delay_range}
use Rattle.quantity.specs.Refusals.{Case, ◌⇒◌, first_of}
use Rattle.quantity.specs.declared.refusal.Refusal.{Refusal}
use Rattle.quantity.specs.declared.refusal.Refusal.TheVariants.{Unusable, HeaderCutOff, FieldUnexpected, OutOfRange, RowsOutOfOrder}
use Rattle.flow.specs.Declarations.{declaration_in_range, rows_in_order}
use Rattle.flow.specs.declared.Declaration.{Declaration}
use Rattle.sheet.specs.declared.LinkedOperator.{LinkedOperator}
use Rattle.sheet.specs.declared.PathValue.{PathValue}
use Rattle.sheet.specs.declared.Form.{Form}
use Rattle.sheet.specs.declared.read.First.{First}
use Rattle.sheet.specs.declared.read.Head.{Head}
use Rattle.sheet.specs.Numbers.{value_of_bytes}
use Rattle.sheet.specs.Paths.{Path}
use Rattle.sheet.specs.House.{house_in, house_body, house_in_range}
use Rattle.sheet.specs.Forms.{stands_for, value_of_path, house_value}
use Rattle.sheet.specs.Bodies.{part, declaration_in, rows_in, wanted_in, operator_in, operator_in_range, declaration_tag, declaration_body, wanted_body, operator_body}
use Rattle.sheet.specs.Fields.{Format, declaration_format, rows_format, wanted_format, operator_format, house_format, field_of, body_at, header_cut_off, field_cases}

-- the declaration begins at the sheet's start
abbrev pub declaration_at : ℕ
declaration_at = 0

-- with the tag 05 it has rows: by the length of its body four, three or two; a body of another length is refused
unfoldable pub in_rows_form : List ℕ → Bool
in_rows_form sheet = eqb (get_or sheet declaration_at 0) 0x05

unfoldable pub rows_given : List ℕ → ℕ
rows_given sheet = let width = value_of_bytes (part (declaration_at + 1) 2 sheet) in pick (eqb width (rows_format 4).width) 4 (pick (eqb width (rows_format 3).width) 3 2)

unfoldable pub first_format : List ℕ → Format
first_format sheet = pick (in_rows_form sheet) (rows_format (rows_given sheet)) declaration_format

unfoldable pub declared_in : List ℕ → Declaration
declared_in sheet =
    pick (in_rows_form sheet)
    (rows_in (rows_given sheet) (body_at sheet declaration_at (rows_format (rows_given sheet)).width))
    (declaration_in (body_at sheet declaration_at declaration_format.width))

-- it goes through 2, 3, 4 and 5, then 15
unfoldable pub declaration_cases : List ℕ → List Case
declaration_cases sheet = field_cases sheet declaration_at (first_format sheet) ++ ((not (rows_in_order (declared_in sheet)) ⇒ RowsOutOfOrder declaration_at) ∷ [])

-- the field 02 stands behind it, the first 03 behind the 7 bytes of that, and each next one 9 bytes on
unfoldable pub wanted_at : List ℕ → ℕ
wanted_at sheet = declaration_at + 3 + (first_format sheet).width

abbrev pub wanted_length : ℕ
wanted_length = 7

abbrev pub operators_at : List ℕ → ℕ
operators_at sheet = wanted_at sheet + wanted_length

abbrev pub operator_length : ℕ
operator_length = 9

-- the operators behind the first, so many more at the most: either the sheet ends, or one more field begins
unfoldable pub further_cases : ℕ → ℕ → List ℕ → List Case
further_cases zero at sheet = pick (eqb at (length sheet)) [] ((header_cut_off sheet at ⇒ HeaderCutOff at) ∷ (true ⇒ FieldUnexpected at) ∷ [])
further_cases (suc more) at sheet = pick (eqb at (length sheet)) [] (field_cases sheet at operator_format ++ further_cases more (at + operator_length) sheet)

-- the declaration, the field 02, and the operators
abbrev pub fields_cases : List ℕ → List Case
fields_cases sheet =
    declaration_cases sheet
    ++ field_cases sheet (wanted_at sheet) wanted_format
    ++ field_cases sheet (operators_at sheet) operator_format
    ++ further_cases (most_operators - 1) (operators_at sheet + operator_length) sheet

-- one field 04 begins at the sheet's start and is 25 bytes long; what begins behind it is refused as behind the sixteenth operator
abbrev pub house_at : ℕ
house_at = 0

abbrev pub house_length : ℕ
house_length = 25

abbrev pub house_cases : List ℕ → List Case
house_cases sheet = field_cases sheet house_at house_format ++ further_cases 0 (house_at + house_length) sheet

-- the sheet begins with the tag 04
unfoldable pub in_house_form : List ℕ → Bool
in_house_form sheet = eqb (get_or sheet house_at 0) house_format.tag

-- all that a sheet is refused for, in checking order
unfoldable pub sheet_cases : List ℕ → List Case
sheet_cases sheet = pick (in_house_form sheet) (house_cases sheet) (fields_cases sheet)

-- the operators of a sheet from a byte on, so many at the most
unfoldable pub operators_from : ℕ → ℕ → List ℕ → List LinkedOperator
operators_from zero at sheet = []
operators_from (suc more) at sheet = pick (leb (length sheet) at) [] (operator_in (body_at sheet at operator_format.width) ∷ operators_from more (at + operator_length) sheet)

-- the path of a sheet written out in fields that is not refused
unfoldable pub fields_path : List ℕ → Path
fields_path sheet =
    record {
      declaration = declared_in sheet;
      wanted = wanted_in (body_at sheet (wanted_at sheet) wanted_format.width);
      operators = operators_from most_operators (operators_at sheet) sheet;
    }

-- the value of the path of a sheet that is not refused
unfoldable pub value_in : List ℕ → PathValue
value_in sheet = pick (in_house_form sheet) (house_value (house_in (body_at sheet house_at house_format.width))) (value_of_path Form.Fields (fields_path sheet))

-- the path that a sheet counts as: all that is above the sheet goes by it, and asks for no form
unfoldable pub path_in : List ℕ → Path
path_in sheet = stands_for (value_in sheet)

-- what reading the declaration answers: what it says, and where the field 02 begins
abbrev pub first_answer : List ℕ → Result First Refusal
first_answer sheet = first_of (declaration_cases sheet) Err (Ok (record { declaration = declared_in sheet; end = wanted_at sheet }))

-- and with the field 02: what both say, and where the operators begin
abbrev pub head_answer : List ℕ → Result Head Refusal
head_answer sheet =
    first_of (declaration_cases sheet ++ field_cases sheet (wanted_at sheet) wanted_format) Err
    (Ok (record { declaration = (fields_path sheet).declaration; wanted = record { 0 = (fields_path sheet).wanted }; end = operators_at sheet }))

-- what reading a sheet written out in fields answers, and one of a field 04
unfoldable pub read_fields : List ℕ → Result PathValue Refusal
read_fields sheet = first_of (fields_cases sheet) Err (Ok (value_of_path Form.Fields (fields_path sheet)))

unfoldable pub read_house : List ℕ → Result PathValue Refusal
read_house sheet = first_of (house_cases sheet) Err (Ok (house_value (house_in (body_at sheet house_at house_format.width))))

-- what reading answers
unfoldable pub read_sheet : List ℕ → Result PathValue Refusal
read_sheet sheet = first_of (sheet_cases sheet) Err (Ok (value_in sheet))

unfoldable pub operator_fields : List LinkedOperator → List ℕ
operator_fields [] = []
operator_fields (linked ∷ operators) = field_of operator_format.tag (operator_body linked) ++ operator_fields operators

-- the sheet of a path
unfoldable pub sheet_of : Path → List ℕ
unfolding operator_fields
sheet_of path =
    field_of (declaration_tag path.declaration) (declaration_body path.declaration)
    ++ field_of wanted_format.tag (wanted_body path.wanted)
    ++ operator_fields path.operators

unfoldable pub operators_in_range : List LinkedOperator → Bool
operators_in_range [] = true
operators_in_range (linked ∷ operators) = both (operator_in_range linked) (operators_in_range operators)

-- every number of the path behind its declaration is in its range, and with it every number
unfoldable pub rest_in_range : Path → Bool
unfolding operators_in_range
rest_in_range path = both (in_range wanted_delay_range path.wanted) (operators_in_range path.operators)

unfoldable pub path_in_range : Path → Bool
unfolding rest_in_range
path_in_range path = both (declaration_in_range path.declaration) (rest_in_range path)

-- the sheet of a path value: in the house form the field of its nine numbers
sheet_in : Form → Path → List ℕ
sheet_in Form.Fields path = sheet_of path
sheet_in (Form.House h) path = field_of house_format.tag (house_body h)

unfoldable pub sheet_of_value : PathValue → List ℕ
unfolding sheet_in
sheet_of_value value = sheet_in value.form (stands_for value)

-- 3: a path written out has 0 or over 16 operators; then field by field: 5, a number of the declaration is out of its range, and 15, its rows do not rise;
-- 5 of what is behind it
form_cases : Form → PathValue → List Case
form_cases Form.Fields value =
    (either (eqb value.count 0) (ltb most_operators value.count) ⇒ FieldUnexpected 0)
    ∷ (not (declaration_in_range (stands_for value).declaration) ⇒ OutOfRange 0)
    ∷ (not (rows_in_order (stands_for value).declaration) ⇒ RowsOutOfOrder 0)
    ∷ (not (rest_in_range (stands_for value)) ⇒ OutOfRange 0)
    ∷ []
form_cases (Form.House h) value = (not (house_in_range h) ⇒ OutOfRange 0) ∷ []

-- 1: the writer is not lent 256 bytes; then what its form is refused for
unfoldable pub write_cases : PathValue → List ℕ → List Case
unfolding form_cases
write_cases value lent = (not (eqb (length lent) 256) ⇒ Unusable) ∷ form_cases value.form value

-- what writing answers: the sheet's length
unfoldable pub write_answer : PathValue → List ℕ → Result ℕ Refusal
write_answer value lent = first_of (write_cases value lent) Err (Ok (length (sheet_of_value value)))

-- what the lent bytes hold then: the sheet, and behind it what they held; all that they held where it is refused
unfoldable pub bytes_written : PathValue → List ℕ → List ℕ
bytes_written value lent = first_of (write_cases value lent) (λ why. lent) (written_over (sheet_of_value value) lent)
