-- What writing answers and leaves, by the writer's tests: the first that fails refuses, and behind all of them stands the sheet.
use mathlib.Core.Path.{◌≡◌, refl, sym, ap, ◌∙◌}
use mathlib.Core.Bool.{Bool, true, false, not}
use mathlib.Core.List.{List, [], ◌∷◌, ◌++◌}
use mathlib.Core.Logic.{◌⊎◌, inl, inr}
use Prim.Native.Nat.{ℕ, ◌+◌, ◌≤◌, ◌<◌}
use native.Mathlib.Omega.{arith}
use borrow.Author.Tests.{eq-eqb, ne_eqb, lt-ltb, le-ltb}
use lib.ListN.{length, take, length-append}
use lib.Seq.{sets}
use lib.Dec.{eqb, ltb}
use Rattle.std.specs.Prelude.{Result, Ok, Err}
use Rattle.quantity.specs.Lent.{written_over}
use Rattle.quantity.specs.Choice.{both, either}
use Rattle.quantity.specs.Ranges.{in_range, wanted_delay_range}
use Rattle.quantity.specs.Refusals.{◌⇒◌}
use Rattle.quantity.specs.declared.refusal.Refusal.{Refusal}
use Rattle.quantity.specs.declared.refusal.Refusal.TheVariants.{Unusable, FieldUnexpected, OutOfRange, RowsOutOfOrder}
use Rattle.quantity.proofs.Refusals.{NoneStands, FirstIs, first_of-none, first-answered}
use Rattle.flow.specs.Declarations.{declaration_in_range, rows_in_order}
use Rattle.sheet.specs.declared.House.{House}
use Rattle.sheet.specs.declared.Form.{Form}
use Rattle.sheet.specs.declared.PathValue.{PathValue}
use Rattle.sheet.specs.Numbers.{bytes_of}
use Rattle.sheet.specs.Bodies.{wanted_body}
use Rattle.sheet.specs.House.{house_body, house_in_range}
use Rattle.sheet.specs.Forms.{in_full, stands_for}
use Rattle.sheet.specs.Fields.{field_of}
use Rattle.sheet.specs.Sheets.{operator_fields, operators_in_range, sheet_of, rest_in_range, sheet_of_value, write_cases, write_answer, bytes_written}
use Rattle.sheet.proofs.Cleared.{cleared-tag, cleared-inside, cleared-order, cleared-body}
use Rattle.sheet.proofs.Forms.{stands-in-fields, sheet-in-fields, refusals-in-fields, sheet-in-house, refusals-in-house}
use Rattle.sheet.proofs.HouseLaws.{length-house_body}
use Rattle.sheet.proofs.Runs.{run-behind, run-before, stored-first}
use Rattle.sheet.proofs.WriteLaws.{declaration_field, length-field, declaration-short, length-operator_fields-most}

-- a field 02 has 7 bytes, and a field 04 has 25
length-wanted_field : (wanted : ℕ) → length (field_of 0x02 (wanted_body wanted)) ≡ 7
unfolding wanted_body bytes_of
length-wanted_field wanted = length-field 0x02 (bytes_of 4 wanted)

length-house_field : (h : House) → length (field_of 0x04 (house_body h)) ≡ 25
length-house_field h = length-field 0x04 (house_body h) ∙ ap (λ (n : ℕ). 3 + n) (length-house_body h)

-- what is tested of a value in fields, and what is written of it, goes by the value itself: what its declaration does not use does not count
module _ (value : PathValue) where
  abbrev pub rest_of : Bool
  rest_of = both (in_range wanted_delay_range value.wanted.0) (operators_in_range (take value.count value.operators))

  abbrev declaration : List ℕ
  declaration = declaration_field value.declaration

  abbrev wanted : List ℕ
  wanted = field_of 0x02 (wanted_body value.wanted.0)

  abbrev operators : List ℕ
  operators = operator_fields (take value.count value.operators)

  -- the operators' fields, and before them those of the declaration and the delay wanted, are one run
  stored-fields : (lent : List ℕ) (at : ℕ) → at ≡ length declaration → {operated declared left : List ℕ} → operated ≡ sets lent (at + 3 + 4) operators → declared ≡ sets operated 0 declaration
      → left ≡ sets declared at wanted → left ≡ sets lent 0 (declaration ++ wanted ++ operators)
  stored-fields lent at begins {operated} third first second =
      let size : length (declaration ++ wanted) ≡ length declaration + 7 = length-append declaration wanted ∙ ap (λ (n : ℕ). length declaration + n) (length-wanted_field value.wanted.0) in
      run-before lent 0 (at + 3 + 4) (declaration ++ wanted) operators third (run-behind operated 0 at declaration wanted first second (omega arith)) (omega arith)

  length_fields : length (declaration ++ wanted ++ operators) ≡ length declaration + 7 + length operators
  length_fields = rw (length-append, length-append) (omega (arith, length-wanted_field value.wanted.0))

  module _ (fields : value.form ≡ Form.Fields) where
    declaration-tested : declaration_in_range (stands_for value).declaration ≡ declaration_in_range value.declaration
    unfolding in_full
    declaration-tested = rw (stands-in-fields value fields) (cleared-inside value.declaration)

    rest-tested : rest_in_range (stands_for value) ≡ rest_of
    unfolding rest_in_range in_full
    rest-tested = rw (stands-in-fields value fields)

    module _ (inside : declaration_in_range value.declaration ≡ true) where
      order-tested : rows_in_order (stands_for value).declaration ≡ rows_in_order value.declaration
      unfolding in_full
      order-tested = rw (stands-in-fields value fields) (cleared-order value.declaration inside)

      sheet-written : sheet_of (stands_for value) ≡ declaration ++ wanted ++ operators
      unfolding sheet_of in_full
      sheet-written = rw (stands-in-fields value fields) (rw (cleared-tag value.declaration, cleared-body value.declaration inside))

-- the answer and the bytes that are left are the definition's
abbrev pub Answers : PathValue → List ℕ → Result ℕ Refusal → List ℕ → Type 0
Answers value lent answer left = (answer ≡ write_answer value lent) × (left ≡ bytes_written value lent)

-- the tests of the memory and of the number of operators are passed
pub record Counted (value : PathValue) (lent : List ℕ) : Type 0 where
  pub full : length lent ≡ 256
  pub fields : value.form ≡ Form.Fields
  pub some : value.count ≡ 0 → ⊥
  pub few : value.count ≤ 16

-- and those of the declaration
pub record Declared (value : PathValue) (lent : List ℕ) : Type 0 where
  pub counted : Counted value lent
  pub inside : declaration_in_range value.declaration ≡ true
  pub rises : rows_in_order value.declaration ≡ true

wrong-either : (count : ℕ) → (count ≡ 0) ⊎ (16 < count) → either (eqb count 0) (ltb 16 count) ≡ true
wrong-either count (inl none) = rw (eq-eqb count 0 none)
wrong-either count (inr many) = rw (ne_eqb count 0 (λ none. omega arith), lt-ltb 16 count many)

right-either : (count : ℕ) → (count ≡ 0 → ⊥) → count ≤ 16 → either (eqb count 0) (ltb 16 count) ≡ false
right-either count some few = rw (ne_eqb count 0 some, le-ltb 16 count few)

module _ (value : PathValue) (lent : List ℕ) where
  abbrev kept : Refusal → List ℕ
  kept why = lent

  -- where a refusal stands first, the bytes keep their values
  refused-by : (why : Refusal) → FirstIs (write_cases value lent) why → Answers value lent (Err why) lent
  unfolding write_answer bytes_written
  refused-by why first = (
    sym (first-answered Err (Ok (length (sheet_of_value value))) why (write_cases value lent) first),
    sym (first-answered kept (written_over (sheet_of_value value) lent) why (write_cases value lent) first),
  )

  -- behind all tests
  all-passed : length lent ≡ 256 → NoneStands (write_cases value lent) → {stored left : List ℕ} → sheet_of_value value ≡ stored → left ≡ sets lent 0 stored → length stored ≤ 256
      → Answers value lent (Ok (length stored)) left
  unfolding write_answer bytes_written
  all-passed full stands {stored} same held room =
      rw same (
        sym (first_of-none Err (Ok (length stored)) (write_cases value lent) stands),
        held ∙ stored-first stored lent (rw full room) ∙ sym (first_of-none kept (written_over stored lent) (write_cases value lent) stands),
      )

  pub wrong-length : (length lent ≡ 256 → ⊥) → Answers value lent (Err Unusable) lent
  unfolding write_cases
  wrong-length other = refused-by Unusable (inl (rw (ne_eqb (length lent) 256 other), refl))

  pub wrong-count : length lent ≡ 256 → value.form ≡ Form.Fields → (value.count ≡ 0) ⊎ (16 < value.count) → Answers value lent (Err (FieldUnexpected 0)) lent
  wrong-count full fields wrong =
      refused-by (FieldUnexpected 0) (rw (refusals-in-fields value fields lent) (inr (rw (eq-eqb (length lent) 256 full), inl (wrong-either value.count wrong, refl))))

  module _ (c : Counted value lent) where
    -- the refusals of what is tested behind the number of operators
    behind-count : {why : Refusal}
        → FirstIs ((not (declaration_in_range (stands_for value).declaration) ⇒ OutOfRange 0) ∷ (not (rows_in_order (stands_for value).declaration) ⇒ RowsOutOfOrder 0) ∷ (not (rest_in_range (stands_for value)) ⇒ OutOfRange 0) ∷ []) why
        → FirstIs (write_cases value lent) why
    behind-count first = rw (refusals-in-fields value c.fields lent) (inr (rw (eq-eqb (length lent) 256 c.full), inr (right-either value.count c.some c.few, first)))

    pub wrong-declaration : declaration_in_range value.declaration ≡ false → Answers value lent (Err (OutOfRange 0)) lent
    wrong-declaration out = refused-by (OutOfRange 0) (behind-count (inl (rw (declaration-tested value c.fields, out), refl)))

    pub wrong-order : declaration_in_range value.declaration ≡ true → rows_in_order value.declaration ≡ false → Answers value lent (Err (RowsOutOfOrder 0)) lent
    wrong-order inside falls =
        refused-by (RowsOutOfOrder 0) (behind-count (inr (rw (declaration-tested value c.fields, inside), inl (rw (order-tested value c.fields inside, falls), refl))))

  module _ (d : Declared value lent) where
    abbrev c : Counted value lent
    c = d.counted

    tested : not (declaration_in_range (stands_for value).declaration) ≡ false
    tested = rw (declaration-tested value c.fields, d.inside)

    ordered : not (rows_in_order (stands_for value).declaration) ≡ false
    ordered = rw (order-tested value c.fields d.inside, d.rises)

    pub wrong-rest : rest_of value ≡ false → Answers value lent (Err (OutOfRange 0)) lent
    wrong-rest out = refused-by (OutOfRange 0) (behind-count c (inr (tested, inr (ordered, inl (rw (rest-tested value c.fields, out), refl)))))

    -- all fields are stored, the operators' first
    pub all_right : rest_of value ≡ true → (at : ℕ) → at ≡ length (declaration value) → {operated declared left : List ℕ} → operated ≡ sets lent (at + 3 + 4) (operators value) → declared ≡ sets operated 0 (declaration value)
        → left ≡ sets declared at (wanted value) → Answers value lent (Ok (at + 3 + 4 + length (operators value))) left
    all_right rest at begins third first second =
        let stands : NoneStands (write_cases value lent) =
        rw (refusals-in-fields value c.fields lent) (rw (eq-eqb (length lent) 256 c.full), (right-either value.count c.some c.few, (tested, (ordered, (rw (rest-tested value c.fields, rest), tt))))) in
        let most = length-operator_fields-most value.operators value.count in
        let short = declaration-short value.declaration d.inside in
        let size = length_fields value in
        let ends : at + 3 + 4 + length (operators value) ≡ length (declaration value ++ wanted value ++ operators value) = omega arith in
        rw ends (all-passed c.full stands (sheet-in-fields value c.fields ∙ sheet-written value c.fields d.inside) (stored-fields value lent at begins third first second) (omega (arith, c.few)))

  module _ (full : length lent ≡ 256) (h : House) (house : value.form ≡ Form.House h) where
    pub wrong-house : house_in_range h ≡ false → Answers value lent (Err (OutOfRange 0)) lent
    wrong-house out = refused-by (OutOfRange 0) (rw (refusals-in-house value h house lent) (inr (rw (eq-eqb (length lent) 256 full), inl (rw out, refl))))

    pub house-right : house_in_range h ≡ true → {left : List ℕ} → left ≡ sets lent 0 (field_of 0x04 (house_body h)) → Answers value lent (Ok 25) left
    house-right in-range stored =
        let passed =
        all-passed full (rw (refusals-in-house value h house lent) (rw (eq-eqb (length lent) 256 full), (rw in-range, tt))) (sheet-in-house value h house) stored (rw (length-house_field h) (omega arith)) in
        rw (length-house_field h) at passed
