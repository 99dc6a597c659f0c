-- The declaration's field at the sheet's start, 01 or 05: what is written of a declaration in range and in order is accepted and read as that declaration; an accepted field is what is written of the declaration in it.
use Prim.Native.Nat.{ℕ, zero, suc, ◌+◌, ◌*◌, ◌≤◌}
use mathlib.Core.Path.{◌≡◌, sym, ap, ◌∙◌}
use mathlib.Core.Bool.{Bool, true, false, not}
use mathlib.Core.List.{List, [], ◌∷◌, ◌++◌}
use native.Mathlib.Nat.{not-suc-le-zero}
use native.Mathlib.Omega.{arith}
use lib.ListN.{length, drop}
use lib.Dec.{eqb}
use borrow.Author.Tests.{not-false}
use Rattle.quantity.specs.Choice.{pick}
use Rattle.quantity.specs.Refusals.{◌⇒◌}
use Rattle.quantity.specs.Ranges.{in_range}
use Rattle.quantity.specs.Sums.{every}
use Rattle.quantity.specs.declared.refusal.Refusal.TheVariants.{RowsOutOfOrder}
use Rattle.quantity.proofs.Laws.{pick_true, pick-false, least-le, le-largest}
use Rattle.quantity.proofs.Sums.{both_true}
use Rattle.quantity.proofs.Refusals.{NoneStands, none-of-both, none-of-each}
use Rattle.flow.specs.Declarations.{has_rows, several_range, several_at, row_in_range, declaration_in_range, rows_in_order, cleared}
use Rattle.flow.specs.declared.Declaration.{Declaration}
use Rattle.flow.proofs.Declarations.{kind-of-rows, kind-of-one, rows-range}
use Rattle.sheet.specs.Numbers.{value_of_bytes}
use Rattle.sheet.specs.Bodies.{part, declaration_in, rows_in, declaration_tag, declaration_body}
use Rattle.sheet.specs.Fields.{Format, declaration_format, rows_format, field_of, body_at, field_cases}
use Rattle.sheet.specs.Sheets.{in_rows_form, rows_given, first_format, declared_in, declaration_cases, wanted_at}
use Rattle.sheet.proofs.Numbers.{AreBytes}
use Rattle.sheet.proofs.Cleared.{by_rows, cleared-order}
use Rattle.sheet.proofs.Bodies.{length-of-one, declaration-read, declaration-fits, one-of-declaration, declaration-cleared, declaration-inside, declaration-written, length-of-rows, rows-read, rows-fit, rows-of-several, rows-cleared, rows_inside, rows_written}
use Rattle.sheet.proofs.Fields.{FieldRead, tag_read, width_read, field-read, field-accepted, field-written}

-- the tag of several rows, and of one
tag-of-rows : (declared : Declaration) → has_rows declared.kind ≡ true → declaration_tag declared ≡ 0x05
unfolding declaration_tag
tag-of-rows declared several = rw (kind-of-rows declared.kind several)

tag-of-one : (declared : Declaration) → has_rows declared.kind ≡ false → declaration_tag declared ≡ 0x01
unfolding declaration_tag
tag-of-one declared one = kind-of-one declared.kind one 0x01 0x05

module _ (sheet : List ℕ) where
  -- two to four rows
  pub given-several : (2 ≤ rows_given sheet) × (rows_given sheet ≤ 4)
  unfolding rows_given
  given-several = by_tests (eqb (value_of_bytes (part 1 2 sheet)) 24) (eqb (value_of_bytes (part 1 2 sheet)) 18)
    where
      by_tests : (four three : Bool) → (2 ≤ pick four 4 (pick three 3 2)) × (pick four 4 (pick three 3 2) ≤ 4)
      by_tests true three = (omega arith, omega arith)
      by_tests false true = (omega arith, omega arith)
      by_tests false false = (omega arith, omega arith)

  -- so many as the body's length says
  pub given-of-width : (count : ℕ) → 2 ≤ count → count ≤ 4 → value_of_bytes (part 1 2 sheet) ≡ count * 6 → rows_given sheet ≡ count
  unfolding rows_given
  given-of-width zero some few width = let never : 1 ≤ 0 = omega arith in absurd (not-suc-le-zero never)
  given-of-width (suc zero) some few width = let never : 1 ≤ 0 = omega arith in absurd (not-suc-le-zero never)
  given-of-width (suc (suc zero)) some few width = rw width
  given-of-width (suc (suc (suc zero))) some few width = rw width
  given-of-width (suc (suc (suc (suc zero)))) some few width = rw width
  given-of-width (suc (suc (suc (suc (suc count))))) some few width = let never : 1 ≤ 0 = omega arith in absurd (not-suc-le-zero never)

  abbrev rows_declared : Declaration
  rows_declared = rows_in (rows_given sheet) (body_at sheet 0 (rows_given sheet * 6))

  abbrev one_declared : Declaration
  one_declared = declaration_in (body_at sheet 0 7)

  pub first-of-rows : in_rows_form sheet ≡ true → first_format sheet ≡ rows_format (rows_given sheet)
  unfolding first_format
  first-of-rows = pick_true (in_rows_form sheet) (rows_format (rows_given sheet)) declaration_format

  pub first-of-one : in_rows_form sheet ≡ false → first_format sheet ≡ declaration_format
  unfolding first_format
  first-of-one = pick-false (in_rows_form sheet) (rows_format (rows_given sheet)) declaration_format

  pub declared-of-rows : in_rows_form sheet ≡ true → declared_in sheet ≡ rows_in (rows_given sheet) (body_at sheet 0 (rows_given sheet * 6))
  unfolding declared_in
  declared-of-rows = pick_true (in_rows_form sheet) rows_declared one_declared

  pub declared-of-one : in_rows_form sheet ≡ false → declared_in sheet ≡ declaration_in (body_at sheet 0 7)
  unfolding declared_in
  declared-of-one = pick-false (in_rows_form sheet) rows_declared one_declared

  -- what holds of the field and what is read from it with the tag 05, and with the tag 01, holds
  in-either-form : (P : Format → Declaration → Type 0) → P (rows_format (rows_given sheet)) rows_declared → P declaration_format one_declared → P (first_format sheet) (declared_in sheet)
  unfolding first_format declared_in
  in-either-form P rows one = by-test (in_rows_form sheet)
    where
      by-test : (t : Bool) → P (pick t (rows_format (rows_given sheet)) declaration_format) (pick t rows_declared one_declared)
      by-test true = rows
      by-test false = one

  -- nothing is cleared in what is read
  pub declared-clear : cleared (declared_in sheet) ≡ declared_in sheet
  declared-clear =
      in-either-form (λ due declared. cleared declared ≡ declared)
      (rows-cleared (rows_given sheet) (body_at sheet 0 (rows_given sheet * 6)))
      (declaration-cleared (body_at sheet 0 7))

  module _ (stands : NoneStands (declaration_cases sheet)) where
    stands-both : NoneStands (field_cases sheet 0 (first_format sheet)) × (rows_in_order (declared_in sheet) ≡ true)
    unfolding declaration_cases
    stands-both =
        let (field, order) = none-of-each (field_cases sheet 0 (first_format sheet)) ((not (rows_in_order (declared_in sheet)) ⇒ RowsOutOfOrder 0) ∷ []) stands in
        (field, not-false (rows_in_order (declared_in sheet)) order.0)

    -- an accepted field's numbers are in range, and its rows in order
    pub declared-inside : declaration_in_range (declared_in sheet) ≡ true
    declared-inside =
        in-either-form (λ due declared. NoneStands (field_cases sheet 0 due) → declaration_in_range declared ≡ true)
        (λ here. rows_inside (rows_given sheet) (body_at sheet 0 (rows_given sheet * 6)) (field-accepted sheet 0 (rows_format (rows_given sheet)) here).fits)
        (λ here. declaration-inside (body_at sheet 0 7) (field-accepted sheet 0 declaration_format here).fits)
        stands-both.0

    pub declared-order : rows_in_order (declared_in sheet) ≡ true
    declared-order = stands-both.1

    -- it is what is written of the declaration in it
    pub declared-written : AreBytes sheet → field_of (declaration_tag (declared_in sheet)) (declaration_body (declared_in sheet)) ++ drop (wanted_at sheet) sheet ≡ sheet
    unfolding wanted_at
    declared-written each =
        in-either-form
        (λ due declared. NoneStands (field_cases sheet 0 due) → field_of (declaration_tag declared) (declaration_body declared) ++ drop (0 + 3 + due.width) sheet ≡ sheet)
        (λ here.
        let due = rows_format (rows_given sheet) in
        let body = body_at sheet 0 (rows_given sheet * 6) in
        let bytes = field-written sheet 0 due each here in
        let size = (field-accepted sheet 0 due here).size in
        rw (tag-of-rows rows_declared (rows-of-several (rows_given sheet) body), rows_written (rows_given sheet) body bytes.bytes size given-several.1) bytes.written)
        (λ here.
        let bytes = field-written sheet 0 declaration_format each here in
        let record { ends = ends; size = size; fits = fits } = field-accepted sheet 0 declaration_format here in
        rw (tag-of-one one_declared (one-of-declaration (body_at sheet 0 7)), declaration-written (body_at sheet 0 7) fits bytes.bytes size) bytes.written)
        stands-both.0

-- a declaration that is written at the sheet's start is accepted there, and read with the rest behind it
pub record DeclarationRead (sheet : List ℕ) (declared : Declaration) (rest : List ℕ) : Type 0 where
  pub stands : NoneStands (declaration_cases sheet)
  pub read : declared_in sheet ≡ cleared declared
  pub behind : drop (wanted_at sheet) sheet ≡ rest
  pub long : length sheet ≡ wanted_at sheet + length rest

module _ (sheet : List ℕ) (declared : Declaration) (rest : List ℕ) (written : sheet ≡ field_of (declaration_tag declared) (declaration_body declared) ++ rest)
    (inside : declaration_in_range declared ≡ true) (order : rows_in_order declared ≡ true) where
  in-format : (due : Format) → first_format sheet ≡ due → FieldRead sheet 0 due (declaration_body declared) rest → declared_in sheet ≡ cleared declared → DeclarationRead sheet declared rest
  unfolding declaration_cases wanted_at
  in-format due first field read =
      record {
        stands = rw first (none-of-both (field_cases sheet 0 due) ((not (rows_in_order (declared_in sheet)) ⇒ RowsOutOfOrder 0) ∷ []) field.stands (rw (read, cleared-order declared inside, order), tt));
        read = read;
        behind = rw first field.behind;
        long = rw first field.long;
      }

  read-rows : has_rows declared.kind ≡ true → DeclarationRead sheet declared rest
  unfolding in_rows_form
  read-rows several =
      let count = declared.count in
      let body = declaration_body declared in
      let due = rows_format count in
      let counted = (both_true (in_range several_range count) (every (λ i. row_in_range (several_at declared i)) count) (sym (rows-range declared several) ∙ inside)).0 in
      let some = least-le several_range count counted in
      let few = le-largest several_range count counted in
      let size = length-of-rows declared several in
      let here : sheet ≡ field_of 0x05 body ++ rest = rw (tag-of-rows declared several) at written in
      let field = field-read sheet 0 due body rest (omega arith) size here (rows-fit declared several inside) in
      let tagged : in_rows_form sheet ≡ true = rw (tag_read sheet 0 due body rest (omega arith) size here) in
      let given = given-of-width sheet count some few (width_read sheet 0 due body rest (omega arith) size here) in
      in-format due (first-of-rows sheet tagged ∙ ap rows_format given) field
      (declared-of-rows sheet tagged ∙ ap (λ (k : ℕ). rows_in k (body_at sheet 0 (k * 6))) given ∙ ap (rows_in count) field.read ∙ rows-read declared several inside)

  read_one : has_rows declared.kind ≡ false → DeclarationRead sheet declared rest
  unfolding in_rows_form
  read_one one =
      let body = declaration_body declared in
      let size = length-of-one declared one in
      let here : sheet ≡ field_of 0x01 body ++ rest = rw (tag-of-one declared one) at written in
      let field = field-read sheet 0 declaration_format body rest (omega arith) size here (declaration-fits declared one inside) in
      let tagged : in_rows_form sheet ≡ false = rw (tag_read sheet 0 declaration_format body rest (omega arith) size here) in
      in-format declaration_format (first-of-one sheet tagged) field (declared-of-one sheet tagged ∙ ap declaration_in field.read ∙ declaration-read declared one inside)

  pub declared-read : DeclarationRead sheet declared rest
  declared-read = by_rows declared read-rows read_one
