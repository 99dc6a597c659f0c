-- Sections 5 and 7: a field is a tag (1 byte), the body's length (2 bytes) and the body; and why one is refused where it is expected.
use Rattle.std.specs.Prelude.{◌≡◌, ℕ, ◌+◌, ◌*◌, Bool, true, not, Result, Ok, Err, List, [], ◌∷◌, ◌++◌, length, get_or, leb, ltb, eqb}
use Rattle.quantity.specs.Choice.{both}
use Rattle.quantity.specs.Refusals.{Case, ◌⇒◌, first_of}
use Rattle.quantity.specs.declared.refusal.Refusal.{Refusal}
use Rattle.quantity.specs.declared.refusal.Refusal.TheVariants.{HeaderCutOff, FieldUnexpected, BodyCutOff, OutOfRange}
use Rattle.sheet.specs.Numbers.{value_of_bytes, bytes_of}
use Rattle.sheet.specs.Bodies.{part, declaration_fits, row_length, rows_fit, wanted_fits, operator_fits}
use Rattle.sheet.specs.House.{house_fits}

-- a field's tag, its body's length, and whether a body's kind and numbers are in their ranges
pub record Format : Type 0 where
  pub tag : ℕ
  pub width : ℕ
  pub fits : List ℕ → Bool

abbrev pub declaration_format : Format
declaration_format = record { tag = 0x01; width = 7; fits = declaration_fits }

-- 05 with so many rows
abbrev pub rows_format : ℕ → Format
rows_format count = record { tag = 0x05; width = count * row_length; fits = rows_fit count }

abbrev pub wanted_format : Format
wanted_format = record { tag = 0x02; width = 4; fits = wanted_fits }

abbrev pub operator_format : Format
operator_format = record { tag = 0x03; width = 6; fits = operator_fits }

abbrev pub house_format : Format
house_format = record { tag = 0x04; width = 22; fits = house_fits }

-- a field as it is written
unfoldable pub field_of : ℕ → List ℕ → List ℕ
field_of tag body = tag ∷ bytes_of 2 (length body) ++ body

-- the body of the field that begins at a byte
unfoldable pub body_at : List ℕ → ℕ → ℕ → List ℕ
body_at sheet at width = part (at + 3) width sheet

-- 3: the sheet ends where a field is due
unfoldable pub field_missing : List ℕ → ℕ → Bool
field_missing sheet at = leb (length sheet) at

-- 2: a field has begun and its first three bytes are cut off
unfoldable pub header_cut_off : List ℕ → ℕ → Bool
header_cut_off sheet at = ltb (length sheet) (at + 3)

-- 3: the field is not the one that is due here, or of another length
unfoldable pub field_unexpected : List ℕ → ℕ → Format → Bool
field_unexpected sheet at due = not (both (eqb (get_or sheet at 0) due.tag) (eqb (value_of_bytes (part (at + 1) 2 sheet)) due.width))

-- 4: the body is cut off
unfoldable pub body_cut_off : List ℕ → ℕ → Format → Bool
body_cut_off sheet at due = ltb (length sheet) (at + 3 + due.width)

-- 5: a kind or number of the body is out of its range
unfoldable pub body_out_of_range : List ℕ → ℕ → Format → Bool
body_out_of_range sheet at due = not (due.fits (body_at sheet at due.width))

-- a field goes through 2, 3, 4 and 5; its first byte is their place
abbrev pub field_cases : List ℕ → ℕ → Format → List Case
field_cases sheet at due =
    (field_missing sheet at ⇒ FieldUnexpected at)
    ∷ (header_cut_off sheet at ⇒ HeaderCutOff at)
    ∷ (field_unexpected sheet at due ⇒ FieldUnexpected at)
    ∷ (body_cut_off sheet at due ⇒ BodyCutOff at)
    ∷ (body_out_of_range sheet at due ⇒ OutOfRange at)
    ∷ []

-- what 2, 3 and 4 say of the field that is due at a byte, whatever its body
abbrev pub header_judged : List ℕ → ℕ → ℕ → ℕ → Result (Unit {0}) Refusal
header_judged sheet at tag width = first_of (field_cases sheet at (record { tag = tag; width = width; fits = λ body. true })) Err (Ok tt)

-- the bytes that are handed of the field where 2, 3 and 4 do not stand: its body
pub record IsHanded (sheet : List ℕ) (at tag width : ℕ) (body : List ℕ) : Type 0 where
  pub judged : header_judged sheet at tag width ≡ Ok tt
  pub is : body ≡ body_at sheet at width
  pub size : length body ≡ width
