-- What the writer's functions rest on: a number's bytes, and the fields of the operators, each where the definition puts it.
use mathlib.Core.Path.{◌≡◌, refl, sym, ap, ◌∙◌}
use mathlib.Core.Bool.{Bool, true, false}
use mathlib.Core.List.{List, [], ◌∷◌, ◌++◌, append-nil, append_assoc}
use Prim.Native.Nat.{ℕ, zero, suc, ◌+◌, ◌-◌, ◌*◌, ◌/◌, ◌%◌, ◌^◌, ◌≤◌, ◌<◌}
use native.Mathlib.Nat.{div-one, min-le_left}
use native.Mathlib.Numerals.{add-one}
use native.Mathlib.Omega.{arith}
use lib.ListN.{length, get_or, take, drop, length-take}
use lib.Seq.{take-suc, length-take-le}
use Rattle.std.specs.Prelude.{◌&&◌}
use Rattle.std.specs.List.{list_all}
use Rattle.std.specs.Int.{w32, bytes_high_first, to_be_bytes}
use Rattle.quantity.specs.Choice.{both}
use Rattle.quantity.proofs.Laws.{le-largest}
use Rattle.quantity.proofs.Sums.{both_true}
use Rattle.flow.specs.Declarations.{has_rows, several_range, declaration_in_range}
use Rattle.flow.specs.declared.Kind.{Kind}
use Rattle.flow.specs.declared.Declaration.{Declaration}
use Rattle.flow.proofs.Declarations.{rows-range}
use Rattle.sheet.specs.declared.LinkedOperator.{LinkedOperator}
use Rattle.sheet.specs.Numbers.{bytes_of}
use Rattle.sheet.specs.Bodies.{row_bodies, pair_body, declaration_tag, declaration_body, operator_body, operator_in_range}
use Rattle.sheet.specs.Fields.{field_of}
use Rattle.sheet.specs.Sheets.{operator_fields, operators_in_range}
use Rattle.sheet.proofs.OperatorRows.{length-operator_fields}
use Rattle.sheet.proofs.Cleared.{by_rows}
use Rattle.sheet.proofs.Bodies.{length-pair_body, length-of-one, length-row_bodies, length-of-rows}

-- the last bytes of a number of four
high-bytes : (width n : ℕ) → bytes_high_first width n ≡ bytes_of width n
unfolding bytes_of
high-bytes zero n = refl
high-bytes (suc zero) n = rw div-one
high-bytes (suc (suc width)) n = ap (λ (rest : List ℕ). n / 256 ^ suc width % 256 ∷ rest) (high-bytes (suc width) n)

pub last-bytes : (width n : ℕ) → width ≤ 4 → drop (4 - width) (to_be_bytes w32 n) ≡ bytes_of width n
last-bytes zero n few = high-bytes zero n
last-bytes (suc zero) n few = high-bytes 1 n
last-bytes (suc (suc zero)) n few = high-bytes 2 n
last-bytes (suc (suc (suc zero))) n few = high-bytes 3 n
last-bytes (suc (suc (suc (suc zero)))) n few = high-bytes 4 n
last-bytes (suc (suc (suc (suc (suc width))))) n few = absurd (omega arith)

-- a declaration's field by its kind, and how many rows there are of several
module _ (declared : Declaration) where
  abbrev pub declaration_field : List ℕ
  declaration_field = field_of (declaration_tag declared) (declaration_body declared)

  pub field-of-smooth : declared.kind ≡ Kind.Smooth → declaration_field ≡ field_of 0x01 (pair_body 0 declared)
  unfolding declaration_tag declaration_body
  field-of-smooth e = rw e

  pub field-of-uniform : declared.kind ≡ Kind.Uniform → declaration_field ≡ field_of 0x01 (pair_body 1 declared)
  unfolding declaration_tag declaration_body
  field-of-uniform e = rw e

  pub field-of-several : declared.kind ≡ Kind.Rows → declaration_field ≡ field_of 0x05 (row_bodies declared declared.count)
  unfolding declaration_tag declaration_body
  field-of-several e = rw e

  pub several-few : has_rows declared.kind ≡ true → declaration_in_range declared ≡ true → declared.count ≤ 4
  several-few several inside = le-largest several_range declared.count (both_true _ _ (sym (rows-range declared several) ∙ inside)).0

-- the rows of one declaration are written as those of another with the same rows
pub rows-written-alike : (declared other : Declaration) → declared.rows ≡ other.rows → (k : ℕ) → row_bodies declared k ≡ row_bodies other k
unfolding row_bodies
rows-written-alike declared other same zero = refl
rows-written-alike declared other same (suc k) = rw (rows-written-alike declared other same k, same)

-- a field has its body behind three bytes
pub length-field : (tag : ℕ) (body : List ℕ) → length (field_of tag body) ≡ 3 + length body
unfolding field_of bytes_of
length-field tag body = omega arith

pub length-field-of-one : (kind : ℕ) (declared : Declaration) → length (field_of 0x01 (pair_body kind declared)) ≡ 10
length-field-of-one kind declared = length-field 0x01 (pair_body kind declared) ∙ ap (λ (n : ℕ). 3 + n) (length-pair_body kind declared)

pub length-field-of-rows : (declared : Declaration) → length (field_of 0x05 (row_bodies declared declared.count)) ≡ 3 + declared.count * 6
length-field-of-rows declared = length-field 0x05 (row_bodies declared declared.count) ∙ ap (λ (n : ℕ). 3 + n) (length-row_bodies declared declared.count)

-- four rows have the longest
pub declaration-short : (declared : Declaration) → declaration_in_range declared ≡ true → length (declaration_field declared) ≤ 27
declaration-short declared inside =
    let size = length-field (declaration_tag declared) (declaration_body declared) in
    by_rows declared (λ several. omega (arith, length-of-rows declared several, several-few declared several inside)) (λ one. omega (arith, length-of-one declared one))

-- each of the operators is tested
both-is : (a b : Bool) → (a && b) ≡ both a b
both-is true b = refl
both-is false b = refl

pub each-tested : (operators : List LinkedOperator) → list_all operator_in_range operators ≡ operators_in_range operators
unfolding operators_in_range
each-tested [] = refl
each-tested (linked ∷ operators) = rw (each-tested operators) (both-is (operator_in_range linked) (operators_in_range operators))

operator_fields-snoc : (operators : List LinkedOperator) (linked : LinkedOperator) → operator_fields (operators ++ (linked ∷ [])) ≡ operator_fields operators ++ field_of 0x03 (operator_body linked)
unfolding operator_fields
operator_fields-snoc [] linked = append-nil (field_of 0x03 (operator_body linked))
operator_fields-snoc (first ∷ operators) linked = rw (operator_fields-snoc operators linked) (sym (append_assoc (field_of 0x03 (operator_body first)) (operator_fields operators) (field_of 0x03 (operator_body linked))))

-- the field of the operator at k, behind those of the first k
pub operator_fields-next : (operators : List LinkedOperator) (k : ℕ) (d : LinkedOperator) → k < length operators
    → operator_fields (take (k + 1) operators) ≡ operator_fields (take k operators) ++ field_of 0x03 (operator_body (get_or operators k d))
operator_fields-next operators k d inside = rw (add-one, take-suc operators k d) (operator_fields-snoc (take k operators) (get_or operators k d))

pub length-operator_fields-take : (operators : List LinkedOperator) (k : ℕ) → k ≤ length operators → length (operator_fields (take k operators)) ≡ 9 * k
length-operator_fields-take operators k inside = length-operator_fields (take k operators) ∙ ap (λ (n : ℕ). 9 * n) (length-take-le k operators inside)

pub length-operator_fields-most : (operators : List LinkedOperator) (k : ℕ) → length (operator_fields (take k operators)) ≤ 9 * k
length-operator_fields-most operators k =
    let few : length (take k operators) ≤ k = rw length-take (min-le_left k (length operators)) in
    omega (arith, length-operator_fields (take k operators))
