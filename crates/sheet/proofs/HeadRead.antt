-- What is answered of a sheet once its first field is read, and once its first two are: a refusal of theirs, or what the fields behind them decide.
use Prim.Native.Nat.{ℕ, ◌+◌, ◌≤◌}
use mathlib.Core.Path.{◌≡◌, sym, ap, ◌∙◌}
use mathlib.Core.Bool.{Bool, true, false}
use mathlib.Core.List.{List, ◌++◌}
use native.Mathlib.Omega.{arith}
use lib.ListN.{length}
use Rattle.std.specs.Prelude.{Result, Ok, Err}
use Rattle.quantity.specs.Choice.{pick}
use Rattle.quantity.specs.Refusals.{Case, first_of}
use Rattle.quantity.specs.declared.refusal.Refusal.{Refusal}
use Rattle.quantity.proofs.Refusals.{NoneStands, none-of-each, first_of-append}
use Rattle.sheet.specs.Bodies.{wanted_in}
use Rattle.sheet.specs.Forms.{value_of_path}
use Rattle.sheet.specs.Fields.{declaration_format, rows_format, wanted_format, operator_format, body_at, field_cases}
use Rattle.sheet.specs.Sheets.{in_rows_form, rows_given, first_format, declared_in, declaration_cases, wanted_at, operators_at, operator_length, further_cases, fields_path, first_answer, head_answer, read_fields}
use Rattle.sheet.specs.declared.Form.{Form}
use Rattle.sheet.specs.declared.PathValue.{PathValue}
use Rattle.sheet.specs.declared.read.First.{First}
use Rattle.sheet.specs.declared.read.Head.{Head}
use Rattle.sheet.proofs.Fields.{field-accepted}
use Rattle.sheet.proofs.DeclarationField.{given-several}
use Rattle.sheet.proofs.AnswerLaws.{none-of-ok, ok-is, behind, behind-first}
use Rattle.sheet.proofs.OperatorsRead.{due_at}

-- the field 02 begins within the first 28 bytes
wanted-near : (sheet : List ℕ) → wanted_at sheet ≤ 27
unfolding wanted_at first_format
wanted-near sheet = by-test (in_rows_form sheet)
  where
    by-test : (t : Bool) → 3 + (pick t (rows_format (rows_given sheet)) declaration_format).width ≤ 27
    by-test true = omega (arith, (given-several sheet).1)
    by-test false = omega arith

-- what the two fields say, by what the first one does
abbrev pub head_behind : List ℕ → First → Head
head_behind sheet first = record { declaration = first.declaration; wanted = record { 0 = wanted_in (body_at sheet first.end 4) }; end = first.end + 3 + 4 }

module _ (sheet : List ℕ) where
  -- the conditions of the first two fields, and what they say where none stands
  abbrev head_cases : List Case
  head_cases = declaration_cases sheet ++ field_cases sheet (wanted_at sheet) wanted_format

  abbrev head_in : Head
  head_in = record { declaration = (fields_path sheet).declaration; wanted = record { 0 = (fields_path sheet).wanted }; end = operators_at sheet }

  -- what the first field says where it is not refused, and what is answered behind it
  abbrev first_in : First
  first_in = record { declaration = declared_in sheet; end = wanted_at sheet }

  abbrev pub head_from : First → Result Head Refusal
  head_from first = first_of (field_cases sheet first.end wanted_format) Err (Ok (head_behind sheet first))

  head-split : head_answer sheet ≡ first_of (declaration_cases sheet) Err (head_from first_in)
  unfolding fields_path
  head-split =
      let ends : operators_at sheet ≡ wanted_at sheet + 3 + 4 = omega arith in
      first_of-append Err (Ok head_in) (declaration_cases sheet) (field_cases sheet (wanted_at sheet) wanted_format)
      ∙ ap (λ (end : ℕ). first_of (declaration_cases sheet) Err (first_of (field_cases sheet (wanted_at sheet) wanted_format) Err (Ok (record { declaration = declared_in sheet; wanted = record { 0 = wanted_in (body_at sheet (wanted_at sheet) 4) }; end = end })))) ends

  module _ {answer : Result First Refusal} (read : answer ≡ first_answer sheet) where
    behind_first : head_answer sheet ≡ behind head_from answer
    behind_first = head-split ∙ behind-first head_from first_in (declaration_cases sheet) read

    pub first-refuses : {why : Refusal} → answer ≡ Err why → head_answer sheet ≡ Err why
    first-refuses e = behind_first ∙ ap (behind head_from) e

    module _ {first : First} (passes : answer ≡ Ok first) where
      pub first-near : first.end ≤ 27
      first-near = rw (ok-is first_in (declaration_cases sheet) (sym read ∙ passes)) (wanted-near sheet)

      pub first-passed : head_answer sheet ≡ head_from first
      first-passed = behind_first ∙ ap (behind head_from) passes

  -- behind the first two
  abbrev decided : Head → Result PathValue Refusal
  decided head = due_at sheet head.end head.declaration head.wanted 15 head.end

  module _ {answer : Result Head Refusal} (read : answer ≡ head_answer sheet) where
    behind_head : read_fields sheet ≡ behind decided answer
    unfolding read_fields fields_path declaration_cases
    behind_head =
        first_of-append Err (Ok (value_of_path Form.Fields (fields_path sheet))) head_cases (field_cases sheet (operators_at sheet) operator_format ++ further_cases 15 (operators_at sheet + operator_length) sheet)
        ∙ behind-first decided head_in head_cases read

    pub head-refuses : {why : Refusal} → answer ≡ Err why → read_fields sheet ≡ Err why
    head-refuses e = behind_head ∙ ap (behind decided) e

    module _ {head : Head} (passes : answer ≡ Ok head) where
      -- the operators begin within the sheet, and near
      pub head-inside : (head.end ≤ 34) × (head.end ≤ length sheet)
      head-inside =
          let stands : NoneStands head_cases = none-of-ok head_in head_cases (sym read ∙ passes) in
          let near = wanted-near sheet in
          let ends = (field-accepted sheet (wanted_at sheet) wanted_format (none-of-each (declaration_cases sheet) (field_cases sheet (wanted_at sheet) wanted_format) stands).1).ends in
          rw (ok-is head_in head_cases (sym read ∙ passes)) (omega arith, omega arith)

      pub head_passed : read_fields sheet ≡ due_at sheet head.end head.declaration head.wanted 15 head.end
      head_passed = behind_head ∙ ap (behind decided) passes
