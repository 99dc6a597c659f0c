-- Path values that no sheet has, lent bytes of a wrong length, house profiles and several rows, as tables that are computed from the definitions: what writing answers, and the bytes around a sheet's end; a house profile and three rows written and read, and what such sheets are refused for.
use mathlib.Core.Path.{◌≡◌, refl}
use mathlib.Core.List.{List, [], ◌∷◌, ◌++◌, map}
use Prim.Native.Nat.{ℕ}
use lib.ListN.{get_or, take, replicate}
use Rattle.std.specs.Prelude.{Result, Ok, Err}
use Rattle.quantity.specs.Ranges.{in_range}
use Rattle.quantity.specs.declared.refusal.Refusal.{Refusal}
use Rattle.quantity.specs.Refusals.{refusal_number, refusal_place}
use Rattle.quantity.specs.Rounding.{round_up}
use Rattle.quantity.specs.Sums.{every, list_of}
use Rattle.operator.specs.Operators.{number_in_range, limiter, compactor, filter, delayer}
use Rattle.flow.specs.Declarations.{empty_row, row_count, row_at, row_in_range, declaration_in_range, rises, rows_in_order, of_one_row, cleared}
use Rattle.flow.specs.declared.Kind.{Kind}
use Rattle.flow.specs.declared.DeclaredRow.{DeclaredRow}
use Rattle.flow.specs.declared.Declaration.{Declaration}
use Rattle.operator.specs.declared.Operator.{Operator}
use Rattle.sheet.specs.declared.LinkedOperator.{LinkedOperator}
use Rattle.sheet.specs.declared.House.{House}
use Rattle.sheet.specs.declared.Form.{Form}
use Rattle.sheet.specs.declared.PathValue.{PathValue}
use Rattle.sheet.specs.Numbers as number
use Rattle.sheet.specs.Numbers.{bytes_of}
use Rattle.sheet.specs.Paths.{no_linked_operator}
use Rattle.sheet.specs.Bodies.{part, declaration_in, declaration_fits, row_in, rows_in, rows_fit, row_bodies, pair_body, declaration_tag, declaration_body, wanted_in, wanted_fits, operator_of, operator_in, operator_fits, wanted_body, operator_byte, operator_number, operator_body, operator_in_range}
use Rattle.sheet.specs.House.{house_in, house_body, delayer_slots, house_in_range, house_fits, house_path}
use Rattle.sheet.specs.Forms.{in_full, stands_for, value_of_path, house_value, no_path}
use Rattle.sheet.specs.Fields.{field_of, body_at, field_missing, header_cut_off, field_unexpected, body_cut_off, body_out_of_range}
use Rattle.sheet.specs.Sheets.{in_rows_form, rows_given, first_format, declared_in, declaration_cases, wanted_at, further_cases, in_house_form, sheet_cases, operators_from, fields_path, value_in, path_in, read_sheet, operator_fields, sheet_of, operators_in_range, rest_in_range, sheet_of_value, write_cases, write_answer, bytes_written}

-- a path of smooth (m, 30), its delay wanted, its count and an operator on link 0
abbrev pub path : ℕ → ℕ → ℕ → Operator → PathValue
path m wanted count operator =
    record {
      form = Form.Fields;
      declaration = of_one_row Kind.Smooth m 30;
      wanted = record { 0 = wanted };
      count = count;
      operators = record { operator = operator; link = record { 0 = 0 } } ∷ replicate 15 no_linked_operator;
    }

-- document 02, item 2: a profile of so many hops, smooth (10, 30), delay wanted 60, R 2, L 1, X 2 and C 100
abbrev pub profile : ℕ → ℕ → House
profile which hops =
    record {
      profile = which;
      hops = record { 0 = hops };
      wanted = record { 0 = 60 };
      interval = record { 0 = 10 };
      quota = record { 0 = 30 };
      rate = record { 0 = 2 };
      own_packet = record { 0 = 1 };
      longest_packet = record { 0 = 2 };
      link_rate = record { 0 = 100 };
    }

-- the profile's value with an empty path beside it, which does not count
abbrev pub in_house : House → PathValue
in_house h = record { form = Form.House h; declaration = no_path.declaration; wanted = no_path.wanted; count = no_path.count; operators = no_path.operators }

-- what writing into so many bytes of 7 answers, and bytes 25 and 26 then
pub data Outcome : Type 0 where
  written : ℕ → List ℕ → Outcome
  refused : ℕ → ℕ → List ℕ → Outcome

abbrev pub outcome : Result ℕ Refusal → List ℕ → Outcome
outcome (Ok n) around = written n around
outcome (Err why) around = refused (refusal_number why) (refusal_place why) around

abbrev pub into : ℕ → PathValue → Outcome
into size p = outcome (write_answer p (replicate size 7)) (get_or (bytes_written p (replicate size 7)) 25 0 ∷ get_or (bytes_written p (replicate size 7)) 26 0 ∷ [])

pub computed : List Outcome
computed =
    -- section 8's path of 26 bytes: the byte behind its sheet keeps its value
    into 256 (path 10 30 1 (compactor 10))
    -- 255 bytes, and 257
    ∷ into 255 (path 10 30 1 (compactor 10))
    ∷ into 257 (path 10 30 1 (compactor 10))
    -- no operator, and seventeen
    ∷ into 256 (path 10 30 0 (compactor 10))
    ∷ into 256 (path 10 30 17 (compactor 10))
    -- numbers out of their ranges
    ∷ into 256 (path 0 30 1 (compactor 10))
    ∷ into 256 (path 10 65_536 1 (compactor 10))
    ∷ into 256 (path 10 30 1 (delayer 65))
    -- 3 before 5
    ∷ into 256 (path 0 30 17 (compactor 10))
    -- a house profile of 25 bytes, and 255 lent
    ∷ into 256 (in_house (profile 2 3))
    ∷ into 255 (in_house (profile 2 3))
    -- six hops, an unknown profile, and numbers that a profile does not use
    ∷ into 256 (in_house (profile 2 6))
    ∷ into 256 (in_house (profile 3 3))
    ∷ into 256 (in_house (profile 1 3))
    ∷ []

pub expected : List Outcome
expected =
    written 26 (10 ∷ 7 ∷ [])
    ∷ refused 1 0 (7 ∷ 7 ∷ [])
    ∷ refused 1 0 (7 ∷ 7 ∷ [])
    ∷ refused 3 0 (7 ∷ 7 ∷ [])
    ∷ refused 3 0 (7 ∷ 7 ∷ [])
    ∷ refused 5 0 (7 ∷ 7 ∷ [])
    ∷ refused 5 0 (7 ∷ 7 ∷ [])
    ∷ refused 5 0 (7 ∷ 7 ∷ [])
    ∷ refused 3 0 (7 ∷ 7 ∷ [])
    ∷ written 25 (7 ∷ 7 ∷ [])
    ∷ refused 1 0 (7 ∷ 7 ∷ [])
    ∷ refused 5 0 (7 ∷ 7 ∷ [])
    ∷ refused 5 0 (7 ∷ 7 ∷ [])
    ∷ refused 5 0 (7 ∷ 7 ∷ [])
    ∷ []

pub reference-sheets : computed ≡ expected
unfolding computed expected in_range round_up every list_of number_in_range row_count row_at row_in_range declaration_in_range rises rows_in_order cleared bytes_of in_full stands_for row_bodies pair_body declaration_tag declaration_body wanted_body operator_byte operator_number operator_body operator_in_range house_body delayer_slots house_in_range field_of operator_fields sheet_of operators_in_range rest_in_range sheet_of_value write_cases write_answer bytes_written
reference-sheets = refl

-- profile 2 of three hops, written and read
abbrev pub house : House
house = profile 2 3

abbrev pub house_sheet : List ℕ
house_sheet = 4 ∷ 0 ∷ 22 ∷ 2 ∷ 3 ∷ 0 ∷ 0 ∷ 0 ∷ 60 ∷ 0 ∷ 10 ∷ 0 ∷ 0 ∷ 0 ∷ 30 ∷ 0 ∷ 0 ∷ 0 ∷ 2 ∷ 0 ∷ 1 ∷ 0 ∷ 2 ∷ 0 ∷ 100 ∷ []

pub house-sheet : take 27 (bytes_written (house_value house) (replicate 256 7)) ≡ house_sheet ++ (7 ∷ 7 ∷ [])
unfolding in_range round_up bytes_of house_body delayer_slots house_in_range house_value field_of sheet_of_value write_cases bytes_written
house-sheet = refl

pub house-read : read_sheet house_sheet ≡ Ok (house_value house)
unfolding in_range round_up number.value_of_bytes part house_in delayer_slots house_in_range house_fits body_at field_missing header_cut_off field_unexpected body_cut_off body_out_of_range further_cases in_house_form sheet_cases value_in read_sheet
house-read = refl

-- a filter and a delayer of ⌈104/200⌉ slots at each hop: with L and X exchanged it would be ⌈202/200⌉
abbrev pub placed : Operator → ℕ → LinkedOperator
placed operator link = record { operator = operator; link = record { 0 = link } }

pub house-path : path_in house_sheet ≡ record {
  declaration = of_one_row Kind.Smooth 10 30;
  wanted = 60;
  operators = placed (filter 2) 0 ∷ placed (delayer 1) 0 ∷ placed (filter 2) 1 ∷ placed (delayer 1) 1 ∷ placed (filter 2) 2 ∷ placed (delayer 1) 2 ∷ [];
}
unfolding round_up list_of number.value_of_bytes part house_in delayer_slots house_path body_at in_house_form value_in stands_for house_value path_in
house-path = refl

-- the number and place of what stands against a sheet
abbrev pub against : Result PathValue Refusal → List ℕ
against (Ok value) = []
against (Err why) = refusal_number why ∷ refusal_place why ∷ []

-- behind the field a byte, and a field; its body and its first bytes cut off; a length of 7
pub house-refusals : map (λ sheet. against (read_sheet sheet)) ((house_sheet ++ (3 ∷ [])) ∷ (house_sheet ++ (3 ∷ 0 ∷ 6 ∷ [])) ∷ take 24 house_sheet ∷ take 2 house_sheet ∷ (4 ∷ 0 ∷ 7 ∷ []) ∷ [])
    ≡ (2 ∷ 25 ∷ []) ∷ (3 ∷ 25 ∷ []) ∷ (4 ∷ 0 ∷ []) ∷ (2 ∷ 0 ∷ []) ∷ (3 ∷ 0 ∷ []) ∷ []
unfolding in_range round_up number.value_of_bytes part house_in delayer_slots house_in_range house_fits body_at field_missing header_cut_off field_unexpected body_cut_off body_out_of_range further_cases in_house_form sheet_cases read_sheet
house-refusals = refl

-- document 02, item 6: rows (1, 9), (3, 15), (12, 48), delay wanted 30, limiter 4 on link 5
abbrev pub row : ℕ → ℕ → DeclaredRow
row m Q = record { interval = record { 0 = m }; quota = record { 0 = Q } }

abbrev pub camera : List DeclaredRow
camera = row 1 9 ∷ row 3 15 ∷ row 12 48 ∷ empty_row ∷ []

abbrev pub several_rows : ℕ → List DeclaredRow → Declaration
several_rows count rows = record { kind = Kind.Rows; interval = record { 0 = 0 }; quota = record { 0 = 0 }; count = count; rows = rows }

-- the delay wanted and the operator as they are written
abbrev pub wanted_field : List ℕ
wanted_field = 2 ∷ 0 ∷ 4 ∷ 0 ∷ 0 ∷ 0 ∷ 30 ∷ []

abbrev pub limiter_field : List ℕ
limiter_field = 3 ∷ 0 ∷ 6 ∷ 0 ∷ 5 ∷ 0 ∷ 0 ∷ 0 ∷ 4 ∷ []

-- a row's six bytes where the interval is below 256 and the quota too
abbrev pub row_bytes : ℕ → ℕ → List ℕ
row_bytes m Q = 0 ∷ m ∷ 0 ∷ 0 ∷ 0 ∷ Q ∷ []

-- a sheet that begins with a field 05 of so many bytes
abbrev pub begun_by : ℕ → List ℕ → List ℕ
begun_by width body = 5 ∷ 0 ∷ width ∷ body ++ wanted_field ++ limiter_field

abbrev pub camera_sheet : List ℕ
camera_sheet = begun_by 18 (row_bytes 1 9 ++ row_bytes 3 15 ++ row_bytes 12 48)

pub rows-path : path_in camera_sheet ≡ record { declaration = several_rows 3 camera; wanted = 30; operators = placed (limiter 4) 5 ∷ [] }
unfolding list_of number.value_of_bytes cleared part row_in rows_in wanted_in operator_of operator_in body_at in_rows_form rows_given first_format declared_in wanted_at in_house_form operators_from fields_path in_full stands_for value_of_path value_in path_in
rows-path = refl

-- sheets with the tag 05
pub rows_sheets : List (List ℕ)
rows_sheets =
    -- three rows, two of one quota, and four of which the last has the largest numbers
    camera_sheet
    ∷ begun_by 12 (row_bytes 1 9 ++ row_bytes 3 9)
    ∷ begun_by 24 (row_bytes 1 9 ++ row_bytes 3 15 ++ row_bytes 12 48 ++ (4 ∷ 0 ∷ 0 ∷ 0 ∷ 255 ∷ 255 ∷ []))
    -- one row, two and a byte, and five
    ∷ begun_by 6 (row_bytes 1 9)
    ∷ begun_by 13 (row_bytes 1 9 ++ row_bytes 3 15 ++ (0 ∷ []))
    ∷ begun_by 30 (row_bytes 1 9 ++ row_bytes 3 15 ++ row_bytes 12 48 ++ row_bytes 13 48 ++ row_bytes 14 48)
    -- the first three bytes and the body cut off
    ∷ take 2 camera_sheet
    ∷ take 20 camera_sheet
    -- intervals 0 and 1,025, quotas 0 and 65,536
    ∷ begun_by 12 (row_bytes 0 9 ++ row_bytes 3 15)
    ∷ begun_by 12 (row_bytes 1 9 ++ (4 ∷ 1 ∷ 0 ∷ 0 ∷ 0 ∷ 15 ∷ []))
    ∷ begun_by 12 (row_bytes 1 0 ++ row_bytes 3 15)
    ∷ begun_by 12 (row_bytes 1 9 ++ (0 ∷ 3 ∷ 0 ∷ 1 ∷ 0 ∷ 0 ∷ []))
    -- equal intervals; a quota that falls, and one that falls from the third row to the fourth
    ∷ begun_by 12 (row_bytes 3 9 ++ row_bytes 3 15)
    ∷ begun_by 12 (row_bytes 1 9 ++ row_bytes 3 8)
    ∷ begun_by 24 (row_bytes 1 9 ++ row_bytes 3 15 ++ row_bytes 12 48 ++ row_bytes 13 47)
    -- 5 before 15, and 15 before the 3 of what is missing behind it
    ∷ begun_by 12 (row_bytes 3 9 ++ row_bytes 3 0)
    ∷ take 15 (begun_by 12 (row_bytes 3 9 ++ row_bytes 3 15))
    -- behind three rows the field 02 begins at byte 21 and the first 03 at byte 28: nothing, a body cut off, another 05; limiter 0
    ∷ take 21 camera_sheet
    ∷ take 27 camera_sheet
    ∷ (take 21 camera_sheet ++ camera_sheet)
    ∷ (take 36 camera_sheet ++ (0 ∷ []))
    -- 05 behind 01
    ∷ (1 ∷ 0 ∷ 7 ∷ 0 ∷ 0 ∷ 10 ∷ 0 ∷ 0 ∷ 0 ∷ 30 ∷ camera_sheet)
    ∷ []

pub rows-refusals : map (λ sheet. against (read_sheet sheet)) rows_sheets
    ≡ []
    ∷ []
    ∷ []
    ∷ (3 ∷ 0 ∷ [])
    ∷ (3 ∷ 0 ∷ [])
    ∷ (3 ∷ 0 ∷ [])
    ∷ (2 ∷ 0 ∷ [])
    ∷ (4 ∷ 0 ∷ [])
    ∷ (5 ∷ 0 ∷ [])
    ∷ (5 ∷ 0 ∷ [])
    ∷ (5 ∷ 0 ∷ [])
    ∷ (5 ∷ 0 ∷ [])
    ∷ (15 ∷ 0 ∷ [])
    ∷ (15 ∷ 0 ∷ [])
    ∷ (15 ∷ 0 ∷ [])
    ∷ (5 ∷ 0 ∷ [])
    ∷ (15 ∷ 0 ∷ [])
    ∷ (3 ∷ 21 ∷ [])
    ∷ (4 ∷ 21 ∷ [])
    ∷ (3 ∷ 21 ∷ [])
    ∷ (5 ∷ 28 ∷ [])
    ∷ (3 ∷ 10 ∷ [])
    ∷ []
unfolding rows_sheets in_range every list_of number_in_range row_count row_at row_in_range declaration_in_range rises rows_in_order number.value_of_bytes part declaration_in declaration_fits row_in rows_in rows_fit wanted_in wanted_fits operator_of operator_in operator_in_range operator_fits body_at field_missing header_cut_off field_unexpected body_cut_off body_out_of_range in_rows_form rows_given first_format declared_in declaration_cases wanted_at further_cases in_house_form sheet_cases read_sheet
rows-refusals = refl

-- a path of a declaration, its delay wanted and its count, with the limiter
abbrev pub declared_path : Declaration → ℕ → ℕ → PathValue
declared_path declared wanted count =
    record {
      form = Form.Fields;
      declaration = declared;
      wanted = record { 0 = wanted };
      count = count;
      operators = placed (limiter 4) 5 ∷ replicate 15 no_linked_operator;
    }

-- two rows
abbrev pub pair_of_rows : DeclaredRow → DeclaredRow → Declaration
pair_of_rows first second = several_rows 2 (first ∷ second ∷ empty_row ∷ empty_row ∷ [])

-- the three rows with other numbers in what is not used, and a smooth declaration with rows
abbrev pub cluttered : Declaration
cluttered = record { kind = Kind.Rows; interval = record { 0 = 7 }; quota = record { 0 = 7 }; count = 3; rows = row 1 9 ∷ row 3 15 ∷ row 12 48 ∷ row 2 0 ∷ [] }

abbrev pub smooth_cluttered : Declaration
smooth_cluttered = record { kind = Kind.Smooth; interval = record { 0 = 10 }; quota = record { 0 = 30 }; count = 9; rows = row 12 48 ∷ row 3 15 ∷ row 1 0 ∷ empty_row ∷ [] }

pub rows_computed : List Outcome
rows_computed =
    into 256 (declared_path (several_rows 3 camera) 30 1)
    -- one row and five
    ∷ into 256 (declared_path (several_rows 1 camera) 30 1)
    ∷ into 256 (declared_path (several_rows 5 (row 1 9 ∷ row 3 15 ∷ row 12 48 ∷ row 13 48 ∷ [])) 30 1)
    -- numbers out of their ranges
    ∷ into 256 (declared_path (pair_of_rows (row 1 9) (row 1025 15)) 30 1)
    ∷ into 256 (declared_path (pair_of_rows (row 1 9) (row 3 65_536)) 30 1)
    -- equal intervals, a quota that falls, equal quotas
    ∷ into 256 (declared_path (pair_of_rows (row 3 9) (row 3 15)) 30 1)
    ∷ into 256 (declared_path (pair_of_rows (row 1 9) (row 3 8)) 30 1)
    ∷ into 256 (declared_path (pair_of_rows (row 1 9) (row 3 9)) 30 1)
    -- 5 of the declaration before 15, 15 before the 5 of the delay wanted, 3 before them
    ∷ into 256 (declared_path (pair_of_rows (row 3 9) (row 3 0)) 30 1)
    ∷ into 256 (declared_path (pair_of_rows (row 3 9) (row 3 15)) 65_536 1)
    ∷ into 256 (declared_path (pair_of_rows (row 1 9) (row 3 15)) 65_536 1)
    ∷ into 256 (declared_path (pair_of_rows (row 3 9) (row 3 15)) 65_536 17)
    -- what the kind does not use is not looked at
    ∷ into 256 (declared_path cluttered 30 1)
    ∷ into 256 (declared_path smooth_cluttered 30 1)
    ∷ []

pub rows_expected : List Outcome
rows_expected =
    written 37 (0 ∷ 0 ∷ [])
    ∷ refused 5 0 (7 ∷ 7 ∷ [])
    ∷ refused 5 0 (7 ∷ 7 ∷ [])
    ∷ refused 5 0 (7 ∷ 7 ∷ [])
    ∷ refused 5 0 (7 ∷ 7 ∷ [])
    ∷ refused 15 0 (7 ∷ 7 ∷ [])
    ∷ refused 15 0 (7 ∷ 7 ∷ [])
    ∷ written 31 (0 ∷ 5 ∷ [])
    ∷ refused 5 0 (7 ∷ 7 ∷ [])
    ∷ refused 15 0 (7 ∷ 7 ∷ [])
    ∷ refused 5 0 (7 ∷ 7 ∷ [])
    ∷ refused 3 0 (7 ∷ 7 ∷ [])
    ∷ written 37 (0 ∷ 0 ∷ [])
    ∷ written 26 (4 ∷ 7 ∷ [])
    ∷ []

pub reference-rows : rows_computed ≡ rows_expected
unfolding rows_computed rows_expected in_range every list_of number_in_range row_count row_at row_in_range declaration_in_range rises rows_in_order cleared bytes_of in_full stands_for row_bodies pair_body declaration_tag declaration_body wanted_body operator_byte operator_number operator_body operator_in_range field_of operator_fields sheet_of operators_in_range rest_in_range sheet_of_value write_cases write_answer bytes_written
reference-rows = refl

-- the three rows are written as their sheet, whatever stands in what is not used
pub rows-sheet : take 38 (bytes_written (declared_path cluttered 30 1) (replicate 256 7)) ≡ camera_sheet ++ (7 ∷ [])
unfolding in_range every list_of number_in_range row_count row_at row_in_range declaration_in_range rises rows_in_order cleared bytes_of in_full stands_for row_bodies declaration_tag declaration_body wanted_body operator_byte operator_number operator_body operator_in_range field_of operator_fields sheet_of operators_in_range rest_in_range sheet_of_value write_cases bytes_written
rows-sheet = refl
