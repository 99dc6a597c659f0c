-- What is read of a sheet of one field 04, and which of the two readers answers.
use Prim.Native.Nat.{ℕ, ◌+◌}
use mathlib.Core.Path.{◌≡◌, sym, ap₂, ◌∙◌}
use mathlib.Core.Bool.{true, false}
use mathlib.Core.List.{List}
use Rattle.std.specs.Prelude.{Result, Ok, Err}
use Rattle.quantity.specs.Refusals.{Case, first_of}
use Rattle.quantity.specs.declared.refusal.Refusal.{Refusal}
use Rattle.quantity.specs.declared.refusal.Refusal.TheVariants.{OutOfRange}
use Rattle.sheet.specs.declared.PathValue.{PathValue}
use Rattle.sheet.specs.House.{house_in, house_fits}
use Rattle.sheet.specs.Forms.{house_value}
use Rattle.sheet.specs.Fields.{house_format, body_at, header_judged}
use Rattle.sheet.specs.Sheets.{house_at, house_length, further_cases, in_house_form, read_fields, read_house, read_sheet}
use Rattle.sheet.proofs.Forms.{cases-in-house, value-in-house, cases-in-fields, value-in-fields}
use Rattle.sheet.proofs.ReadLaws.{Judged, judged-answer, field-refused, field-outside, field-passed}

module _ (sheet : List ℕ) where
  abbrev answered : List Case → PathValue → Result PathValue Refusal
  answered cases value = first_of cases Err (Ok value)

  pub read-in-house : in_house_form sheet ≡ true → read_house sheet ≡ read_sheet sheet
  unfolding read_house read_sheet
  read-in-house house = ap₂ answered (sym (cases-in-house sheet house)) (sym (value-in-house sheet house))

  pub read-in-fields : in_house_form sheet ≡ false → read_fields sheet ≡ read_sheet sheet
  unfolding read_fields read_sheet
  read-in-fields fields = ap₂ answered (sym (cases-in-fields sheet fields)) (sym (value-in-fields sheet fields))

  abbrev body : List ℕ
  body = body_at sheet house_at 22

  abbrev accepted : Result PathValue Refusal
  accepted = Ok (house_value (house_in body))

  abbrev behind : List Case
  behind = further_cases 0 (house_at + house_length) sheet

  pub house-header-refuses : {why : Refusal} → header_judged sheet house_at 4 22 ≡ Err why → read_house sheet ≡ Err why
  unfolding read_house
  house-header-refuses e = field-refused accepted sheet house_at house_format behind e

  module _ (judged : header_judged sheet house_at 4 22 ≡ Ok tt) where
    pub house-body-refuses : house_fits body ≡ false → read_house sheet ≡ Err (OutOfRange house_at)
    unfolding read_house
    house-body-refuses out = field-outside accepted sheet house_at house_format behind judged out

    module _ (fits : house_fits body ≡ true) {rest : Judged} (ended : rest ≡ first_of behind Err (Ok tt)) where
      house-passed : read_house sheet ≡ first_of behind Err accepted
      unfolding read_house
      house-passed = field-passed accepted sheet house_at house_format behind judged fits

      pub house-end-refuses : {why : Refusal} → rest ≡ Err why → read_house sheet ≡ Err why
      house-end-refuses e = house-passed ∙ judged-answer accepted behind ended e

      pub house-accepted : {left : Unit {0}} → rest ≡ Ok left → read_house sheet ≡ accepted
      house-accepted e = house-passed ∙ judged-answer accepted behind ended e
