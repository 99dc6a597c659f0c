-- What the reader's functions rest on: a number grows by a byte at its end, and a field is refused by its header, then by its body.
use mathlib.Core.Path.{◌≡◌, refl, sym, ap, ◌∙◌}
use mathlib.Core.Bool.{Bool, true, false, not}
use mathlib.Core.List.{List, [], ◌∷◌, ◌++◌}
use Prim.Native.Nat.{ℕ, ◌+◌, ◌-◌, ◌*◌, ◌^◌, ◌≤◌, ◌<◌}
use native.Mathlib.Nat.{pow-suc, pow-le-pow_right, mul_assoc, add-sub_cancel_left}
use native.Mathlib.Numerals.{add-one}
use native.Mathlib.Omega.{arith}
use borrow.Author.Tests.{lt-leb, lt-ltb, ltb-false}
use lib.ListN.{length, get_or, take, drop, length-append, length-drop}
use lib.Seq.{take-suc, get_or-take, get_or-drop, length-take-le}
use Rattle.quantity.specs.Choice.{pick}
use Rattle.quantity.specs.Refusals.{Case, ◌⇒◌, first_of}
use Rattle.quantity.specs.declared.refusal.Refusal.{Refusal}
use Rattle.quantity.specs.declared.refusal.Refusal.TheVariants.{HeaderCutOff, FieldUnexpected, BodyCutOff, OutOfRange}
use Rattle.quantity.proofs.Laws.{pick_true, pick-false}
use Rattle.std.specs.Prelude.{Result, Ok, Err}
use Rattle.sheet.specs.Numbers.{value_of_bytes}
use Rattle.sheet.specs.Bodies.{part}
use Rattle.sheet.proofs.AnswerLaws.{behind, behind-first}
use Rattle.sheet.specs.Fields.{Format, body_at, field_missing, header_cut_off, field_unexpected, body_cut_off, body_out_of_range, field_cases, header_judged}

-- one byte more on the right: all before it goes up a place
pub value_of_bytes-snoc : (bytes : List ℕ) (byte : ℕ) → value_of_bytes (bytes ++ (byte ∷ [])) ≡ value_of_bytes bytes * 256 + byte
unfolding value_of_bytes
value_of_bytes-snoc [] byte = omega arith
value_of_bytes-snoc (high ∷ bytes) byte =
    let ih = value_of_bytes-snoc bytes byte in
    let wider : 256 ^ length (bytes ++ (byte ∷ [])) ≡ 256 ^ length bytes * 256 = rw (length-append, add-one) (pow-suc 256 (length bytes)) in
    let raised : high * 256 ^ length (bytes ++ (byte ∷ [])) ≡ high * 256 ^ length bytes * 256 = rw wider (sym (mul_assoc high (256 ^ length bytes) 256)) in
    omega arith

pub power_small : (k : ℕ) → k < 4 → 256 ^ k ≤ 16777216
power_small k h = pow-le-pow_right {n = 256} (omega arith) {i = k} {j = 3} (omega arith)

pub power-next : (k : ℕ) → 256 ^ (k + 1) ≡ 256 ^ k * 256
power-next k = rw add-one (pow-suc 256 k)

-- the number in the first bytes, with one byte more
pub number-next : (bytes : List ℕ) (k : ℕ) → k < length bytes → value_of_bytes (take (k + 1) bytes) ≡ value_of_bytes (take k bytes) * 256 + get_or bytes k 0
number-next bytes k inside = rw (add-one, take-suc bytes k 0, value_of_bytes-snoc)

-- the first two conditions of a field, from what a reader's tests showed
module _ (sheet : List ℕ) (at : ℕ) where
  pub begun : at < length sheet → field_missing sheet at ≡ false
  unfolding field_missing
  begun h = lt-leb _ _ h

  pub header-cut : length sheet < at + 3 → header_cut_off sheet at ≡ true
  unfolding header_cut_off
  header-cut h = lt-ltb _ _ h

-- what is judged of a field's header
abbrev pub Judged : Type 0
Judged = Result (Unit {0}) Refusal

-- what is answered of any conditions that were judged
pub judged-answer : {A : Type 0} (result : Result A Refusal) (cases : List Case) {judged found : Judged} → judged ≡ first_of cases Err (Ok tt) → judged ≡ found → first_of cases Err result ≡ behind (λ whole. result) found
judged-answer result cases e found = behind-first (λ whole. result) tt cases e ∙ ap (behind (λ whole. result)) found

-- the conditions of the field that begins at a byte, with what stands of them left open
abbrev conditions : ℕ → Bool → Bool → Bool → Bool → Bool → List Case
conditions at missing cut unexpected short outside =
    (missing ⇒ FieldUnexpected at) ∷ (cut ⇒ HeaderCutOff at) ∷ (unexpected ⇒ FieldUnexpected at) ∷ (short ⇒ BodyCutOff at) ∷ (outside ⇒ OutOfRange at) ∷ []

-- what is judged of them but for those of its body
abbrev judged_of : ℕ → Bool → Bool → Bool → Bool → Judged
judged_of at a b c d = first_of (conditions at a b c d false) Err (Ok tt)

module _ {A : Type 0} (result : Result A Refusal) where
  header-first : (at : ℕ) (a b c d fits : Bool) (rest : List Case)
      → first_of (conditions at a b c d (not fits) ++ rest) Err result
      ≡ behind (λ whole. pick fits (first_of rest Err result) (Err (OutOfRange at))) (judged_of at a b c d)
  header-first at true b c d fits rest = refl
  header-first at false true c d fits rest = refl
  header-first at false false true d fits rest = refl
  header-first at false false false true fits rest = refl
  header-first at false false false false true rest = refl
  header-first at false false false false false rest = refl

  module _ (sheet : List ℕ) (at : ℕ) (due : Format) (rest : List Case) where
    field-answer : first_of (field_cases sheet at due ++ rest) Err result
        ≡ behind (λ whole. pick (due.fits (body_at sheet at due.width)) (first_of rest Err result) (Err (OutOfRange at))) (header_judged sheet at due.tag due.width)
    unfolding field_unexpected body_cut_off body_out_of_range
    field-answer =
        header-first at (field_missing sheet at) (header_cut_off sheet at) (field_unexpected sheet at due) (body_cut_off sheet at due) (due.fits (body_at sheet at due.width)) rest

    pub field-refused : {why : Refusal} → header_judged sheet at due.tag due.width ≡ Err why → first_of (field_cases sheet at due ++ rest) Err result ≡ Err why
    field-refused e = field-answer ∙ ap (behind _) e

    module _ (judged : header_judged sheet at due.tag due.width ≡ Ok tt) where
      field-judged : first_of (field_cases sheet at due ++ rest) Err result ≡ pick (due.fits (body_at sheet at due.width)) (first_of rest Err result) (Err (OutOfRange at))
      field-judged = field-answer ∙ ap (behind _) judged

      pub field-outside : due.fits (body_at sheet at due.width) ≡ false → first_of (field_cases sheet at due ++ rest) Err result ≡ Err (OutOfRange at)
      field-outside out = field-judged ∙ pick-false _ _ _ out

      pub field-passed : due.fits (body_at sheet at due.width) ≡ true → first_of (field_cases sheet at due ++ rest) Err result ≡ first_of rest Err result
      field-passed in-range = field-judged ∙ pick_true _ _ _ in-range

-- a field that is judged whole lies in the sheet
whole-passed : (at : ℕ) (a b c d : Bool) → judged_of at a b c d ≡ Ok tt → d ≡ false
whole-passed at true b c d e = cc
whole-passed at false true c d e = cc
whole-passed at false false true d e = cc
whole-passed at false false false true e = cc
whole-passed at false false false false e = refl

pub field-inside : (sheet : List ℕ) (at tag width : ℕ) → header_judged sheet at tag width ≡ Ok tt → at + 3 + width ≤ length sheet
unfolding body_cut_off body_out_of_range
field-inside sheet at tag width judged =
    let due : Format = record { tag = tag; width = width; fits = λ body. true } in
    ltb-false _ _ (whole-passed at (field_missing sheet at) (header_cut_off sheet at) (field_unexpected sheet at due) (body_cut_off sheet at due) judged)

-- the part of some bytes that is handed to a reader
module _ (bytes : List ℕ) (at width : ℕ) where
  pub handed : take (at + width - at) (drop at bytes) ≡ part at width bytes
  unfolding part
  handed = rw (add-sub_cancel_left at width)

  pub handed-length : at + width ≤ length bytes → length (take (at + width - at) (drop at bytes)) ≡ width
  handed-length inside = rw (add-sub_cancel_left at width) (length-take-le width (drop at bytes) (rw length-drop (omega arith)))

  pub handed-byte : (k : ℕ) → k < width → get_or (take (at + width - at) (drop at bytes)) k 0 ≡ get_or bytes (at + k) 0
  handed-byte k inside = rw (add-sub_cancel_left at width, get_or-take, get_or-drop)

-- a field's body that is handed to its reader
pub handed-body : (sheet : List ℕ) (at width : ℕ) → take (at + 3 + width - (at + 3)) (drop (at + 3) sheet) ≡ body_at sheet at width
unfolding body_at
handed-body sheet at width = handed sheet (at + 3) width
