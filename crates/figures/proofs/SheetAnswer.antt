-- The figures of a sheet from what reading it answered: a refusal of the reader is theirs, and an accepted sheet's path has its numbers in their ranges.
use Prim.Native.Nat.{ℕ, suc, ◌+◌, ◌-◌, ◌≤◌, ◌<◌}
use mathlib.Core.Path.{◌≡◌, sym, ap, subst, ◌∙◌}
use mathlib.Core.Bool.{true, false, true≢false}
use mathlib.Core.List.{List, ◌++◌}
use native.Mathlib.Omega.{arith}
use lib.ListN.{length, get_or, take, drop, replicate, length-append, length-drop, length-replicate, get_or-append}
use lib.Seq.{length-take-le, get_or-take, get_or-drop}
use Rattle.quantity.specs.Sums.{list_of}
use Rattle.quantity.specs.Refusals.{first_of}
use Rattle.quantity.specs.declared.refusal.Refusal.{Refusal}
use Rattle.quantity.proofs.Sums.{get_d-list_of}
use Rattle.quantity.proofs.Refusals.{NoneStands, first_of-append, first_of-map}
use borrow.Author.Tests.{le-leb}
use Rattle.flow.specs.Declarations.{has_rows, declaration_in_range, several_at, class_of}
use Rattle.flow.specs.Rows.{rows_most}
use Rattle.flow.specs.Bounds.{shortest_bound, longest_bound, boundable, bound_filled, RowsInside, ClassWithin}
use Rattle.flow.specs.declared.Kind.{Kind}
use Rattle.flow.proofs.Declarations.{kind-of-rows}
use Rattle.flow.proofs.ClassBounds.{class-within}
use Rattle.flow.specs.declared.Declaration.{Declaration}
use Rattle.sheet.specs.Paths.{Path, no_linked_operator}
use Rattle.sheet.specs.Forms.{in_full, value_of_path}
use Rattle.sheet.specs.Sheets.{sheet_cases, value_in, path_in, read_sheet}
use Rattle.sheet.specs.declared.Form.{Form}
use Rattle.sheet.specs.declared.PathValue.{PathValue}
use Rattle.sheet.proofs.Accepted.{sheet-path, sheet-full}
use Rattle.sheet.proofs.InRange.{declaration-of-path}
use Rattle.sheet.proofs.AnswerLaws.{none-of-ok, ok-is, behind, behind-first}
use Rattle.std.specs.Prelude.{Result, Ok, Err}
use Rattle.figures.specs.declared.PathFigures.{PathFigures}
use Rattle.figures.specs.Answers.{path_cases, figure_in, path_delay, accepted_figures, figures_of}
use Rattle.figures.specs.Cameras.{is_camera}
use Rattle.figures.specs.Carried.{HasBound, Lent, ReachesPast, most_before, slots_before, Readable, PathWithin, PlannedPath, planned_of_value}
use Rattle.figures.proofs.ClassLaws.{has-bound}
use Rattle.figures.proofs.CameraTable.{table, camera-bound, camera-reaches}

-- the value of a path has sixteen places
value-operators : (form : Form) (path : Path) → length (value_of_path form path).operators ≡ 16
unfolding value_of_path
value-operators form path = length-take-le 16 (path.operators ++ replicate 16 no_linked_operator) (simp (length-append, length-replicate) (omega arith))

-- what the figures of a sheet are behind what reading it answers
abbrev figures_behind : List ℕ → PathValue → Result PathFigures Refusal
figures_behind sheet value = first_of (path_cases (path_in sheet)) Err (Ok (accepted_figures value (path_in sheet)))

-- what was planned, beside its path
abbrev pub with_path : PathValue → PlannedPath → Result PathFigures Refusal
with_path value planned = Ok (record { path = value; figures = planned.figures; delay = planned.delay })

module _ {read : Result PathValue Refusal} (sheet : List ℕ) (answered : read ≡ read_sheet sheet) where
  read-figures : figures_of sheet ≡ behind (figures_behind sheet) read
  unfolding read_sheet figures_of
  read-figures =
      first_of-append Err (Ok (accepted_figures (value_in sheet) (path_in sheet))) (sheet_cases sheet) (path_cases (path_in sheet))
      ∙ behind-first (figures_behind sheet) (value_in sheet) (sheet_cases sheet) answered

  -- the reader's refusal is theirs
  pub refused-read : {why : Refusal} → read ≡ Err why → Err why ≡ figures_of sheet
  refused-read e = rw read-figures (rw e)

  module _ {value : PathValue} (accepted : read ≡ Ok value) where
    sheet-stands : NoneStands (sheet_cases sheet)
    unfolding read_sheet
    sheet-stands = none-of-ok (value_in sheet) (sheet_cases sheet) (sym answered ∙ accepted)

    value_read : value ≡ value_in sheet
    unfolding read_sheet
    value_read = ok-is (value_in sheet) (sheet_cases sheet) (sym answered ∙ accepted)

    full-read : in_full value ≡ path_in sheet
    full-read = ap in_full value_read ∙ sheet-full sheet sheet-stands

    -- the path that was read is within its ranges
    pub path-within : PathWithin value
    unfolding value_of_path
    path-within =
        let path = sheet-path sheet sheet-stands in
        rw (value_read, path.value)
        (record {
          few = path.few;
          full = value-operators (value_in sheet).form (path_in sheet);
          inside = rw (← path.value, sheet-full sheet sheet-stands) path.inside;
          clear = path.clear;
        })

    -- and planning it says what the figures are
    pub planned-figures : figures_of sheet ≡ behind (with_path value) (planned_of_value value)
    unfolding planned_of_value accepted_figures
    planned-figures =
        rw full-read
        (read-figures
        ∙ ap (behind (figures_behind sheet)) accepted
        ∙ sym (first_of-map (behind (with_path value)) Err (Ok (record { figures = list_of (figure_in (path_in sheet)) 16; delay = record { 0 = path_delay (path_in sheet) } })) (path_cases (path_in sheet))))

-- a path value with a table of its bound
pub readable : (value : PathValue) (bound : List ℕ) → PathWithin value
    → (declaration_in_range value.declaration ≡ true → Lent value.declaration.kind value.declaration bound × ReachesPast value.declaration.kind value.declaration bound (slots_before value))
    → Readable value bound
unfolding in_full
readable value bound within lent =
    let (has, far) = lent (subst (λ (d : Declaration). declaration_in_range d ≡ true) within.clear (declaration-of-path (in_full value) within.inside)) in
    record { within = within; lent = has; reaches = far }

-- the rows of a declaration in its ranges
several-within : (declared : Declaration) → declared.kind ≡ Kind.Rows → ClassWithin (class_of declared) → RowsInside (several_at declared) declared.count
unfolding class_of
several-within declared rows within = let known = rw rows at within in known.2

-- a table of rows, by its kind
lent_rows : (declared : Declaration) (bound : List ℕ) (slots : ℕ) → has_rows declared.kind ≡ true → HasBound declared bound → ReachesPast Kind.Rows declared bound slots
    → Lent declared.kind declared bound × ReachesPast declared.kind declared bound slots
lent_rows declared bound slots several has far =
    subst (λ (kind : Kind). Lent kind declared bound × ReachesPast kind declared bound slots) (sym (kind-of-rows declared.kind several)) (has, far)

-- the table that is filled is, but for its first entry, the bound of the declaration's rows; the standard camera's is that too; of one row none is read
filled-bound : (declared : Declaration) (lent bound : List ℕ) {slots before : ℕ} → slots ≡ before → slots ≤ most_before → length lent ≡ shortest_bound + slots → has_rows declared.kind ≡ true
    → length bound ≡ 1_024 + slots → ((k : ℕ) → k < length bound → get_or bound k 0 ≡ get_or (bound_filled declared lent) (suc k) 0)
    → declaration_in_range declared ≡ true → Lent declared.kind declared bound × ReachesPast declared.kind declared bound before
unfolding bound_filled boundable
filled-bound declared lent bound {before = before} same few sized several rest entries inside =
    let within = several-within declared (kind-of-rows declared.kind several) (class-within declared inside) in
    let most = rows_most (several_at declared) declared.count in
    let filled : bound_filled declared lent ≡ list_of most (length lent) = rw (le-leb shortest_bound (length lent) (omega arith), le-leb (length lent) longest_bound (omega arith), several, inside) in
    lent_rows declared bound before several
    (has-bound declared bound several (omega arith)
    (λ k less. entries k less ∙ ap (λ (l : List ℕ). get_or l (suc k) 0) filled ∙ get_d-list_of 0 most (length lent) (suc k) (omega arith)))
    (λ i less. omega (arith, (within i less).short))

-- lent without its first entry, in front of what is not filled
pub filled-part : (declared : Declaration) (lent filled rest : List ℕ) {slots before : ℕ} → slots ≡ before → slots ≤ most_before → length lent ≡ shortest_bound + slots → has_rows declared.kind ≡ true
    → length filled ≡ length lent → filled ≡ bound_filled declared lent → declaration_in_range declared ≡ true
    → let bound = take (shortest_bound + slots - 1) (drop 1 (filled ++ rest)) in Lent declared.kind declared bound × ReachesPast declared.kind declared bound before
filled-part declared lent filled rest {slots} counted few sized several same made inside =
    let whole = filled ++ rest in
    let size = length-append filled rest in
    let long = length-take-le (shortest_bound + slots - 1) (drop 1 whole) (omega (arith, length-drop 1 whole)) in
    filled-bound declared lent (take (shortest_bound + slots - 1) (drop 1 whole)) counted few sized several (omega arith)
    (λ k less.
    let place : 1 + k ≡ suc k = omega arith in
    get_or-take (shortest_bound + slots - 1) (drop 1 whole) k 0 (omega arith)
    ∙ get_or-drop 1 whole k 0
    ∙ ap (λ (j : ℕ). get_or whole j 0) place
    ∙ get_or-append filled rest 0 (suc k) (omega arith)
    ∙ ap (λ (l : List ℕ). get_or l (suc k) 0) made)
    inside

pub camera-lent : (declared : Declaration) (slots : ℕ) → slots ≤ most_before → has_rows declared.kind ≡ true → is_camera declared ≡ true
    → Lent declared.kind declared table × ReachesPast declared.kind declared table slots
camera-lent declared slots few several camera = lent_rows declared table slots several (camera-bound declared several camera) (camera-reaches declared camera slots few)

pub unread-bound : (kind : Kind) (declared : Declaration) (bound : List ℕ) (slots : ℕ) → has_rows kind ≡ false → Lent kind declared bound × ReachesPast kind declared bound slots
unread-bound Kind.Smooth declared bound slots one = (tt, tt)
unread-bound Kind.Uniform declared bound slots one = (tt, tt)
unread-bound Kind.Rows declared bound slots one = absurd (true≢false one)
