-- Which form a path value or a sheet has, and what follows for the path that it stands for, its refusals and its sheet.
use Prim.Native.Nat.{ℕ, ◌≤◌}
use mathlib.Core.Path.{◌≡◌, refl}
use mathlib.Core.Bool.{true, false, not}
use mathlib.Core.List.{List, [], ◌∷◌, ◌++◌}
use mathlib.Core.Logic.{◌⊎◌, inl, inr}
use lib.ListN.{length, take, replicate}
use lib.Seq.{take-take, take-append_seam}
use lib.Dec.{ltb, eqb}
use Rattle.quantity.specs.Choice.{either}
use Rattle.quantity.specs.Refusals.{◌⇒◌}
use Rattle.quantity.specs.declared.refusal.Refusal.TheVariants.{Unusable, FieldUnexpected, OutOfRange, RowsOutOfOrder}
use Rattle.quantity.proofs.Laws.{pick_true, pick-false}
use Rattle.flow.specs.Declarations.{declaration_in_range, rows_in_order, cleared}
use Rattle.sheet.specs.declared.House.{House}
use Rattle.sheet.specs.declared.Form.{Form}
use Rattle.sheet.specs.declared.PathValue.{PathValue}
use Rattle.sheet.specs.Paths.{Path, no_linked_operator}
use Rattle.sheet.specs.House.{house_in, house_body, house_in_range, house_path}
use Rattle.sheet.specs.Forms.{in_full, stands_for, value_of_path, house_value}
use Rattle.sheet.specs.Fields.{field_of, body_at}
use Rattle.sheet.specs.Sheets.{fields_cases, house_cases, in_house_form, sheet_cases, fields_path, value_in, sheet_of, rest_in_range, sheet_of_value, write_cases}

-- the value of a path whose declaration is cleared has it written out
pub value-full : (form : Form) (path : Path) → cleared path.declaration ≡ path.declaration → length path.operators ≤ 16 → in_full (value_of_path form path) ≡ path
unfolding in_full value_of_path
value-full form path clear few =
    let operators : take (length path.operators) (take 16 (path.operators ++ replicate 16 no_linked_operator)) ≡ path.operators = rw take-take (take-append_seam path.operators (replicate 16 no_linked_operator)) in
    λ i. record { declaration = clear i; wanted = path.wanted; operators = operators i }

pub either-form : (form : Form) → (form ≡ Form.Fields) ⊎ ((h : House) × (form ≡ Form.House h))
either-form Form.Fields = inl refl
either-form (Form.House h) = inr (h, refl)

module _ (value : PathValue) (fields : value.form ≡ Form.Fields) where
  pub stands-in-fields : stands_for value ≡ in_full value
  unfolding stands_for
  stands-in-fields = rw fields

  pub sheet-in-fields : sheet_of_value value ≡ sheet_of (stands_for value)
  unfolding sheet_of_value
  sheet-in-fields = rw fields

  pub refusals-in-fields : (lent : List ℕ)
      → write_cases value lent
      ≡ (not (eqb (length lent) 256) ⇒ Unusable)
      ∷ (either (eqb value.count 0) (ltb 16 value.count) ⇒ FieldUnexpected 0)
      ∷ (not (declaration_in_range (stands_for value).declaration) ⇒ OutOfRange 0)
      ∷ (not (rows_in_order (stands_for value).declaration) ⇒ RowsOutOfOrder 0)
      ∷ (not (rest_in_range (stands_for value)) ⇒ OutOfRange 0)
      ∷ []
  unfolding write_cases
  refusals-in-fields lent = rw fields

module _ (value : PathValue) (h : House) (house : value.form ≡ Form.House h) where
  pub stands-in-house : stands_for value ≡ house_path h
  unfolding stands_for
  stands-in-house = rw house

  pub sheet-in-house : sheet_of_value value ≡ field_of 0x04 (house_body h)
  unfolding sheet_of_value
  sheet-in-house = rw house

  pub refusals-in-house : (lent : List ℕ) → write_cases value lent ≡ (not (eqb (length lent) 256) ⇒ Unusable) ∷ (not (house_in_range h) ⇒ OutOfRange 0) ∷ []
  unfolding write_cases
  refusals-in-house lent = rw house

-- two values of one form that stand for one path have one sheet
pub same-sheet : (first second : PathValue) → first.form ≡ second.form → stands_for first ≡ stands_for second → sheet_of_value first ≡ sheet_of_value second
unfolding sheet_of_value
same-sheet first second form path = rw (path, form)

module _ (sheet : List ℕ) (house : in_house_form sheet ≡ true) where
  pub cases-in-house : sheet_cases sheet ≡ house_cases sheet
  unfolding sheet_cases
  cases-in-house = pick_true (in_house_form sheet) (house_cases sheet) (fields_cases sheet) house

  pub value-in-house : value_in sheet ≡ house_value (house_in (body_at sheet 0 22))
  unfolding value_in
  value-in-house = pick_true (in_house_form sheet) (house_value (house_in (body_at sheet 0 22))) (value_of_path Form.Fields (fields_path sheet)) house

module _ (sheet : List ℕ) (fields : in_house_form sheet ≡ false) where
  pub cases-in-fields : sheet_cases sheet ≡ fields_cases sheet
  unfolding sheet_cases
  cases-in-fields = pick-false (in_house_form sheet) (house_cases sheet) (fields_cases sheet) fields

  pub value-in-fields : value_in sheet ≡ value_of_path Form.Fields (fields_path sheet)
  unfolding value_in
  value-in-fields = pick-false (in_house_form sheet) (house_value (house_in (body_at sheet 0 22))) (value_of_path Form.Fields (fields_path sheet)) fields
