-- What making a page answers and leaves: by the length of the lent bytes, then by what the sheet's figures are.
use mathlib.Core.Path.{◌≡◌, sym, ap, ◌∙◌}
use mathlib.Core.Bool.{false, not}
use mathlib.Core.List.{List}
use Prim.Native.Nat.{ℕ, ◌≤◌}
use Rattle.std.specs.Prelude.{Result, Ok, Err}
use lib.ListN.{length}
use lib.Seq.{sets}
use lib.Dec.{eqb}
use borrow.Author.Tests.{eq-eqb, ne_eqb}
use Rattle.quantity.specs.Lent.{written_over}
use Rattle.quantity.specs.declared.refusal.Refusal.{Refusal}
use Rattle.quantity.specs.declared.refusal.Refusal.TheVariants.{Unusable}
use Rattle.quantity.proofs.Laws.{pick_true, pick-false}
use Rattle.quantity.proofs.Refusals.{first_of-map}
use Rattle.sheet.specs.Sheets.{value_in, path_in}
use Rattle.sheet.proofs.Runs.{stored-first}
use Rattle.figures.specs.declared.PathFigures.{PathFigures}
use Rattle.figures.specs.Answers.{figures_cases, accepted_figures, figures_of}
use Rattle.page.specs.Pages.{page_of}
use Rattle.page.specs.Answers.{page_cases, page_answer, bytes_paged}

abbrev answered_by : List ℕ → Result PathFigures Refusal → Result ℕ Refusal
answered_by page (Ok figures) = Ok (length page)
answered_by page (Err why) = Err why

abbrev left_by : List ℕ → List ℕ → Result PathFigures Refusal → List ℕ
left_by page lent (Ok figures) = written_over page lent
left_by page lent (Err why) = lent

module _ (sheet lent : List ℕ) where
  abbrev page : List ℕ
  page = page_of (path_in sheet)

  -- what is answered, and what the bytes hold then
  abbrev pub Paging : Result ℕ Refusal → List ℕ → Type 0
  Paging answer after = (answer ≡ page_answer sheet lent) × (after ≡ bytes_paged sheet lent)

  -- 1: the bytes have a wrong length
  pub paging-unsized : (length lent ≡ 1037 → ⊥) → Paging (Err Unusable) lent
  unfolding page_answer bytes_paged page_cases
  paging-unsized wrong = let stands = ap not (ne_eqb (length lent) 1037 wrong) in (sym (pick_true _ _ _ stands), sym (pick_true _ _ _ stands))

  module _ (sized : length lent ≡ 1037) where
    passed : not (eqb (length lent) 1037) ≡ false
    passed = ap not (eq-eqb (length lent) 1037 sized)

    -- what the figures answered decides
    answered-by : answered_by page (figures_of sheet) ≡ page_answer sheet lent
    unfolding page_answer page_cases figures_of
    answered-by = first_of-map (answered_by page) Err (Ok (accepted_figures (value_in sheet) (path_in sheet))) (figures_cases sheet) ∙ sym (pick-false _ _ _ passed)

    left-by : left_by page lent (figures_of sheet) ≡ bytes_paged sheet lent
    unfolding bytes_paged page_cases figures_of
    left-by = first_of-map (left_by page lent) Err (Ok (accepted_figures (value_in sheet) (path_in sheet))) (figures_cases sheet) ∙ sym (pick-false _ _ _ passed)

    pub paging-refused : {why : Refusal} → figures_of sheet ≡ Err why → Paging (Err why) lent
    paging-refused refused = (sym (ap (answered_by page) refused) ∙ answered-by, sym (ap (left_by page lent) refused) ∙ left-by)

    pub paging-accepted : {answer : PathFigures} → figures_of sheet ≡ Ok answer → length page ≤ 1037 → {after : List ℕ} → after ≡ sets lent 0 page → Paging (Ok (length page)) after
    paging-accepted accepted room stored = (
      sym (ap (answered_by page) accepted) ∙ answered-by,
      stored ∙ stored-first page lent (rw sized room) ∙ sym (ap (left_by page lent) accepted) ∙ left-by,
    )
