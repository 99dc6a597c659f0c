-- A field of any format: where it is written, none of its refusals stands and its body is read; where none stands, the sheet goes on with the field of the body that is read.
use Prim.Native.Nat.{ℕ, ◌+◌, ◌≤◌, ◌<◌}
use mathlib.Core.Path.{◌≡◌, sym, ap, ◌∙◌}
use mathlib.Core.Bool.{true}
use mathlib.Core.List.{List, ◌++◌, append_assoc}
use native.Mathlib.Nat.{add-zero}
use native.Mathlib.Numerals.{add-one}
use native.Mathlib.Omega.{arith}
use lib.ListN.{length, get_or, take, drop, length-append, length-drop}
use lib.Seq.{get_or-drop, drop-cons, drop-drop, take_at, drop_at}
use lib.Dec.{eqb}
use borrow.Author.Tests.{ltb-false, eqb-true, not-false, lt-leb, le-ltb, eq-eqb}
use Rattle.quantity.proofs.Sums.{both_true}
use Rattle.sheet.specs.Numbers.{value_of_bytes, bytes_of}
use Rattle.sheet.specs.Bodies.{part}
use Rattle.sheet.specs.Fields.{Format, field_of, body_at, field_missing, header_cut_off, field_unexpected, body_cut_off, body_out_of_range, field_cases}
use Rattle.sheet.proofs.Numbers.{AreBytes, length_part, part_bytes, drop-part, value_of_bytes-bytes_of, bytes_of-part}
use Rattle.quantity.proofs.Refusals.{NoneStands}

-- a part of what follows a byte
part-behind : (at k width : ℕ) (sheet : List ℕ) → part (at + k) width sheet ≡ part k width (drop at sheet)
unfolding part
part-behind at k width sheet = ap (take width) (sym (drop-drop k at sheet))

-- a field that is written at a byte is accepted there, and read as its body and the rest behind it
pub record FieldRead (sheet : List ℕ) (at : ℕ) (due : Format) (body rest : List ℕ) : Type 0 where
  pub stands : NoneStands (field_cases sheet at due)
  pub read : body_at sheet at due.width ≡ body
  pub behind : drop (at + 3 + due.width) sheet ≡ rest
  pub long : length sheet ≡ at + 3 + due.width + length rest

module _ (sheet : List ℕ) (at : ℕ) (due : Format) (body rest : List ℕ) (narrow : due.width < 65536) (size : length body ≡ due.width) (written : drop at sheet ≡ field_of due.tag body ++ rest) where
  pub tag_read : get_or sheet at 0 ≡ due.tag
  unfolding field_of
  tag_read = ap (λ (k : ℕ). get_or sheet k 0) (sym (add-zero at)) ∙ sym (get_or-drop at sheet 0 0) ∙ ap (λ (bytes : List ℕ). get_or bytes 0 0) written

  pub width_read : value_of_bytes (part (at + 1) 2 sheet) ≡ due.width
  unfolding part field_of bytes_of
  width_read = ap value_of_bytes (part-behind at 1 2 sheet ∙ ap (part 1 2) written) ∙ value_of_bytes-bytes_of 2 (length body) (omega arith) ∙ size

  body-read : body_at sheet at due.width ≡ body
  unfolding body_at part field_of bytes_of
  body-read = part-behind at 3 due.width sheet ∙ ap (part 3 due.width) written ∙ take_at body rest due.width size

  rest_read : drop (at + 3 + due.width) sheet ≡ rest
  unfolding field_of bytes_of
  rest_read =
      sym (drop-drop due.width (at + 3) sheet)
      ∙ ap (drop due.width) (sym (drop-drop 3 at sheet) ∙ ap (drop 3) written)
      ∙ drop_at body rest due.width size

  length-read : length sheet ≡ at + 3 + due.width + length rest
  unfolding field_of bytes_of
  length-read = omega (arith, length-drop at sheet, ap length written, length-append body rest)

  pub field-read : due.fits body ≡ true → FieldRead sheet at due body rest
  unfolding field_missing header_cut_off field_unexpected body_cut_off body_out_of_range
  field-read fits =
      let long = length-read in
      let present = lt-leb (length sheet) at (omega arith) in
      let headed = le-ltb (length sheet) (at + 3) (omega arith) in
      let whole = le-ltb (length sheet) (at + 3 + due.width) (omega arith) in
      record {
        stands = (present, (headed, (rw (eq-eqb _ _ tag_read, eq-eqb _ _ width_read), (whole, (rw (body-read, fits), tt)))));
        read = body-read;
        behind = rest_read;
        long = long;
      }

-- a field that is accepted at a byte ends within the sheet, and its body has its length and fits
pub record FieldAccepted (sheet : List ℕ) (at : ℕ) (due : Format) : Type 0 where
  pub ends : at + 3 + due.width ≤ length sheet
  pub size : length (body_at sheet at due.width) ≡ due.width
  pub fits : due.fits (body_at sheet at due.width) ≡ true

pub field-accepted : (sheet : List ℕ) (at : ℕ) (due : Format) → NoneStands (field_cases sheet at due) → FieldAccepted sheet at due
unfolding body_cut_off body_out_of_range body_at
field-accepted sheet at due stands =
    let ends = ltb-false (length sheet) (at + 3 + due.width) stands.1.1.1.0 in
    record {
      ends = ends;
      size = length_part (at + 3) due.width sheet ends;
      fits = not-false (due.fits (body_at sheet at due.width)) stands.1.1.1.1.0;
    }

-- where the sheet is of bytes, the field is that of its body, which is of bytes too
pub record FieldWritten (sheet : List ℕ) (at : ℕ) (due : Format) : Type 0 where
  pub written : field_of due.tag (body_at sheet at due.width) ++ drop (at + 3 + due.width) sheet ≡ drop at sheet
  pub bytes : AreBytes (body_at sheet at due.width)

pub field-written : (sheet : List ℕ) (at : ℕ) (due : Format) → AreBytes sheet → NoneStands (field_cases sheet at due) → FieldWritten sheet at due
unfolding field_unexpected field_of body_at
field-written sheet at due each stands =
    let body = body_at sheet at due.width in
    let record { ends = ends; size = size; fits = fits } = field-accepted sheet at due stands in
    let (tagged, sized) = both_true (eqb (get_or sheet at 0) due.tag) (eqb (value_of_bytes (part (at + 1) 2 sheet)) due.width) (not-false _ stands.1.1.0) in
    let tag = eqb-true (get_or sheet at 0) due.tag tagged in
    let width : bytes_of 2 (length body) ≡ part (at + 1) 2 sheet = ap (bytes_of 2) (size ∙ sym (eqb-true _ _ sized)) ∙ bytes_of-part (at + 1) 2 sheet each (omega arith) in
    let next : at + 1 + 2 ≡ at + 3 = omega arith in
    let behind : drop (at + 1) sheet ≡ bytes_of 2 (length body) ++ body ++ drop (at + 3 + due.width) sheet =
    rw (width, append_assoc, ← drop-part (at + 3) due.width sheet, ← next) (drop-part (at + 1) 2 sheet) in
    record {
      written = rw (← tag, ← behind, add-one) (sym (drop-cons sheet at 0 (omega arith)));
      bytes = part_bytes (at + 3) due.width sheet each;
    }
