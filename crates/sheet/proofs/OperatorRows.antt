-- The operators of a sheet, by induction on how many more there may be: what is written of them is read, and what no refusal stands in is written again.
use Prim.Native.Nat.{ℕ, zero, suc, ◌+◌, ◌*◌, ◌≤◌, ◌<◌}
use mathlib.Core.Path.{◌≡◌, refl, sym, ap}
use mathlib.Core.Bool.{Bool, true, false, true≢false}
use mathlib.Core.List.{List, [], ◌∷◌, ◌++◌}
use mathlib.Core.Logic.{⊎_elim}
use native.Mathlib.Nat.{not-suc-le-zero, le_refl, eq-or-lt_of_le, ne_of_lt}
use native.Mathlib.Omega.{arith}
use lib.ListN.{length, drop, length-drop, drop_of_length-le}
use lib.Dec.{leb, eqb}
use borrow.Author.Tests.{le-leb, lt-leb, eq-eqb, ne_eqb}
use Rattle.quantity.specs.Choice.{pick}
use Rattle.quantity.proofs.Sums.{both_true}
use Rattle.sheet.specs.declared.LinkedOperator.{LinkedOperator}
use Rattle.sheet.specs.Bodies.{operator_in, operator_in_range, operator_body}
use Rattle.sheet.specs.Fields.{operator_format, field_of, body_at, field_cases}
use Rattle.sheet.specs.Sheets.{operator_length, further_cases, operators_from, operator_fields, operators_in_range}
use Rattle.sheet.specs.Numbers.{bytes_of}
use Rattle.sheet.proofs.Numbers.{AreBytes}
use Rattle.quantity.proofs.Refusals.{NoneStands, none-of-both, none-of-each}
use Rattle.sheet.proofs.Bodies.{length-operator_body, linked-read, linked-fits, linked-inside, linked-written}
use Rattle.sheet.proofs.Fields.{field-read, field-accepted, field-written}

-- the operators are in range, and these bytes are what is written of them
abbrev pub AreWritten : List LinkedOperator → List ℕ → Type 0
AreWritten operators bytes = (operator_fields operators ≡ bytes) × (operators_in_range operators ≡ true)

pub length-operator_fields : (operators : List LinkedOperator) → length (operator_fields operators) ≡ 9 * length operators
unfolding operator_fields field_of operator_body bytes_of
length-operator_fields [] = refl
length-operator_fields (linked ∷ operators) = let ih = length-operator_fields operators in omega arith

module _ (sheet : List ℕ) where
  not-at-end : (at : ℕ) → at < length sheet → eqb at (length sheet) ≡ false
  not-at-end at h = ne_eqb at (length sheet) (ne_of_lt h)

  -- where one more field has begun, its refusals come first, and then those of the others
  pub further-begun : (more at : ℕ) → at < length sheet → further_cases (suc more) at sheet ≡ field_cases sheet at operator_format ++ further_cases more (at + operator_length) sheet
  unfolding further_cases
  further-begun more at h = rw (not-at-end at h)

  pub operators-begun : (more at : ℕ) → at < length sheet → operators_from (suc more) at sheet ≡ operator_in (body_at sheet at 6) ∷ operators_from more (at + operator_length) sheet
  unfolding operators_from
  operators-begun more at h = rw (lt-leb (length sheet) at h)

  pub further-ended : (more at : ℕ) → at ≡ length sheet → further_cases more at sheet ≡ []
  unfolding further_cases
  further-ended zero at e = rw (eq-eqb at (length sheet) e)
  further-ended (suc more) at e = rw (eq-eqb at (length sheet) e)

  operators-ended : (more at : ℕ) → at ≡ length sheet → operators_from more at sheet ≡ []
  unfolding operators_from
  operators-ended zero at e = refl
  operators-ended (suc more) at e = rw (le-leb (length sheet) at (omega arith))

  pub length-operators_from : (more at : ℕ) → length (operators_from more at sheet) ≤ more
  unfolding operators_from
  length-operators_from zero at = le_refl 0
  length-operators_from (suc more) at = by-test (leb (length sheet) at) (length-operators_from more (at + operator_length))
    where
      by-test : (t : Bool) → length (operators_from more (at + operator_length) sheet) ≤ more
          → length (pick t [] (operator_in (body_at sheet at 6) ∷ operators_from more (at + operator_length) sheet)) ≤ suc more
      by-test true h = omega arith
      by-test false h = omega arith

  pub operators-read : (more at : ℕ) (operators : List LinkedOperator) → length operators ≤ more → at ≤ length sheet → AreWritten operators (drop at sheet)
      → NoneStands (further_cases more at sheet) × (operators_from more at sheet ≡ operators)
  unfolding operator_fields operators_in_range
  operators-read more at [] few h are =
      let ended : at ≡ length sheet = omega (arith, length-drop at sheet, ap length are.0) in
      (rw (further-ended more at ended) tt, operators-ended more at ended)
  operators-read zero at (linked ∷ operators) few h are = absurd (not-suc-le-zero few)
  operators-read (suc more) at (linked ∷ operators) few h are =
      let (here, others) = both_true (operator_in_range linked) (operators_in_range operators) are.1 in
      let field = field-read sheet at operator_format (operator_body linked) (operator_fields operators) (omega arith) (length-operator_body linked) (sym are.0) (linked-fits linked here) in
      let next : at + 3 + 6 ≡ at + operator_length = omega arith in
      let ih = operators-read more (at + operator_length) operators (omega arith) (let long = field.long in omega arith) (sym (rw next at field.behind), others) in (
        rw (further-begun more at (omega arith)) (none-of-both (field_cases sheet at operator_format) (further_cases more (at + operator_length) sheet) field.stands ih.0),
        rw (operators-begun more at (omega arith), field.read, linked-read linked here, ih.1),
      )

  -- the operators of which no refusal stands are in range, whatever the sheet is made of
  pub operators-inside : (more at : ℕ) → at ≤ length sheet → NoneStands (further_cases more at sheet) → operators_in_range (operators_from more at sheet) ≡ true
  unfolding operators_from operators_in_range
  operators-inside zero at h stands = refl
  operators-inside (suc more) at h stands =
      ⊎_elim
      (λ ended. rw (operators-ended (suc more) at ended))
      (λ begun.
      let (here, others) = none-of-each (field_cases sheet at operator_format) (further_cases more (at + operator_length) sheet) (rw (further-begun more at begun) at stands) in
      let field = field-accepted sheet at operator_format here in
      rw (operators-begun more at begun, linked-inside (body_at sheet at 6) field.fits) (operators-inside more (at + operator_length) (let ends = field.ends in omega arith) others))
      (eq-or-lt_of_le h)

  none_written : (more at : ℕ) → at ≡ length sheet → operator_fields (operators_from more at sheet) ≡ drop at sheet
  unfolding operator_fields
  none_written more at ended = rw (operators-ended more at ended) (sym (drop_of_length-le sheet {i = at} (omega arith)))

  -- and where it is of bytes, they are what is written of them
  pub operators-written : (more at : ℕ) → AreBytes sheet → at ≤ length sheet → NoneStands (further_cases more at sheet) → operator_fields (operators_from more at sheet) ≡ drop at sheet
  unfolding further_cases operator_fields
  operators-written zero at each h stands =
      ⊎_elim
      (none_written zero at)
      (λ begun. absurd (true≢false (rw (not-at-end at begun) at stands).1.0))
      (eq-or-lt_of_le h)
  operators-written (suc more) at each h stands =
      ⊎_elim
      (none_written (suc more) at)
      (λ begun.
      let (here, others) = none-of-each (field_cases sheet at operator_format) (further_cases more (at + operator_length) sheet) (rw (further-begun more at begun) at stands) in
      let field = field-accepted sheet at operator_format here in
      let bytes = field-written sheet at operator_format each here in
      let written = operators-written more (at + operator_length) each (let ends = field.ends in omega arith) others in
      let next : at + operator_length ≡ at + 3 + 6 = omega arith in
      let body = linked-written (body_at sheet at 6) field.fits bytes.bytes field.size in
      rw (operators-begun more at begun, body, written, next) bytes.written)
      (eq-or-lt_of_le h)
