-- A sheet and its path are refused by 2 to 9 and 15 alone.
use Rattle.std.proofs.Common.{ℕ, zero, suc, ◌+◌, ◌≤◌, Bool, true, false, not, eqb, ◌⊎◌, List, [], ◌∷◌, ◌++◌, length, subst, inl, inr, lit≤}
use Rattle.quantity.specs.Choice.{pick}
use Rattle.quantity.specs.Refusals.{Case, ◌⇒◌, refusal_number}
use Rattle.quantity.specs.declared.refusal.Refusal.{Refusal}
use Rattle.quantity.specs.declared.refusal.Refusal.TheVariants.{RowsOutOfOrder}
use Rattle.quantity.proofs.Refusals.{FirstIs}
use Rattle.flow.specs.Declarations.{rows_in_order}
use Rattle.sheet.specs.Fields.{Format, wanted_format, operator_format, house_format, field_cases}
use Rattle.sheet.specs.Paths.{Path}
use Rattle.sheet.specs.Sheets.{declaration_at, first_format, declared_in, declaration_cases, wanted_at, operators_at, further_cases, fields_cases, house_cases, in_house_form, sheet_cases, path_in, operator_length}
use Rattle.figures.specs.Answers.{operator_cases, operators_cases, path_cases}

-- the numbers that go with a sheet: neither 1 nor 10 to 14
abbrev pub OfSheet : Refusal → Type 0
OfSheet why = (2 ≤ refusal_number why) × ((refusal_number why ≤ 9) ⊎ (15 ≤ refusal_number why))

abbrev Each : List Case → Type 0
Each [] = Unit {0}
Each (c ∷ cs) = OfSheet c.refusal × Each cs

each-of-both : (cs ds : List Case) → Each cs → Each ds → Each (cs ++ ds)
each-of-both [] ds es fs = fs
each-of-both (c ∷ cs) ds es fs = (es.0, each-of-both cs ds es.1 fs)

first_of : (cs : List Case) (why : Refusal) → Each cs → FirstIs cs why → OfSheet why
first_of (c ∷ cs) why each (inl (stands, same)) = subst OfSheet same each.0
first_of (c ∷ cs) why each (inr (stands, first)) = first_of cs why each.1 first
first_of [] why each x'' = elim x'' [ ]

of_field : (sheet : List ℕ) (at : ℕ) (due : Format) → Each (field_cases sheet at due)
of_field sheet at due = ((lit≤ tt, inl (lit≤ tt)), ((lit≤ tt, inl (lit≤ tt)), ((lit≤ tt, inl (lit≤ tt)), ((lit≤ tt, inl (lit≤ tt)), ((lit≤ tt, inl (lit≤ tt)), tt)))))

picked : (t : Bool) (cs : List Case) → Each cs → Each (pick t [] cs)
picked true cs each = tt
picked false cs each = each

of-further : (more at : ℕ) (sheet : List ℕ) → Each (further_cases more at sheet)
unfolding further_cases
of-further zero at sheet = picked (eqb at (length sheet)) _ ((lit≤ tt, inl (lit≤ tt)), ((lit≤ tt, inl (lit≤ tt)), tt))
of-further (suc more) at sheet =
    picked (eqb at (length sheet)) _ (each-of-both (field_cases sheet at operator_format) (further_cases more (at + operator_length) sheet) (of_field sheet at operator_format) (of-further more (at + operator_length) sheet))

of-operators : (path : Path) (n : ℕ) → Each (operators_cases path n)
unfolding operators_cases
of-operators path zero = tt
of-operators path (suc n) = each-of-both (operators_cases path n) (operator_cases path n) (of-operators path n) ((lit≤ tt, inl (lit≤ tt)), ((lit≤ tt, inl (lit≤ tt)), ((lit≤ tt, inl (lit≤ tt)), tt)))

-- the declaration's field, which goes through 15 too
of-declaration : (sheet : List ℕ) → Each (declaration_cases sheet)
unfolding declaration_cases
of-declaration sheet =
    each-of-both (field_cases sheet 0 (first_format sheet)) ((not (rows_in_order (declared_in sheet)) ⇒ RowsOutOfOrder declaration_at) ∷ []) (of_field sheet 0 (first_format sheet)) ((lit≤ tt, inr (lit≤ tt)), tt)

-- a sheet in either form
of-sheet : (sheet : List ℕ) → Each (sheet_cases sheet)
unfolding sheet_cases declaration_cases further_cases
of-sheet sheet = by_form (in_house_form sheet)
  where
    by_form : (house : Bool) → Each (pick house (house_cases sheet) (fields_cases sheet))
    by_form true = each-of-both (field_cases sheet 0 house_format) (further_cases 0 25 sheet) (of_field sheet 0 house_format) (of-further 0 25 sheet)
    by_form false =
        each-of-both (declaration_cases sheet) (field_cases sheet (wanted_at sheet) wanted_format ++ (field_cases sheet (operators_at sheet) operator_format ++ further_cases 15 (operators_at sheet + operator_length) sheet)) (of-declaration sheet)
        (each-of-both (field_cases sheet (wanted_at sheet) wanted_format) (field_cases sheet (operators_at sheet) operator_format ++ further_cases 15 (operators_at sheet + operator_length) sheet) (of_field sheet (wanted_at sheet) wanted_format)
        (each-of-both (field_cases sheet (operators_at sheet) operator_format) (further_cases 15 (operators_at sheet + operator_length) sheet) (of_field sheet (operators_at sheet) operator_format) (of-further 15 (operators_at sheet + operator_length) sheet)))

pub sheet-refusal : (sheet : List ℕ) (why : Refusal) → FirstIs (sheet_cases sheet ++ path_cases (path_in sheet)) why → OfSheet why
sheet-refusal sheet why =
    first_of (sheet_cases sheet ++ path_cases (path_in sheet)) why
    (each-of-both (sheet_cases sheet) (path_cases (path_in sheet)) (of-sheet sheet)
    (each-of-both (operators_cases (path_in sheet) (length (path_in sheet).operators)) _ (of-operators (path_in sheet) (length (path_in sheet).operators)) ((lit≤ tt, inl (lit≤ tt)), tt)))
