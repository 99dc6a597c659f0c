-- What opening answers, from the words' length and from the verdict on the sheet's figures; and a new run's stages from the places of a path.
use mathlib.Core.Path.{◌≡◌, refl, ap, sym, ◌∙◌}
use mathlib.Core.Bool.{false, not}
use mathlib.Core.List.{List, ◌++◌}
use mathlib.Core.Logic.{inl, inr, ⊎_elim}
use Rattle.std.specs.Prelude.{Result, Ok, Err}
use Prim.Native.Nat.{ℕ, ◌+◌, ◌-◌, ◌≤◌, ◌<◌}
use native.Mathlib.Decide.{dec_le}
use native.Mathlib.Nat.{lt_of_not-le}
use native.Mathlib.Omega.{arith}
use lib.ListN.{length, get_or, replicate, get_or-replicate, get_or-eq_default, get_or-append}
use lib.Seq.{get_or-take, get_or-append-add}
use lib.Dec.{eqb}
use borrow.Author.Tests.{eq-eqb, ne_eqb}
use Rattle.quantity.specs.Limits.{most_operators}
use Rattle.quantity.specs.Sums.{list_of}
use Rattle.quantity.specs.declared.refusal.Refusal.{Refusal}
use Rattle.quantity.specs.declared.refusal.Refusal.TheVariants.{Unusable}
use Rattle.quantity.proofs.Sums.{list_of-ext}
use Rattle.quantity.specs.Refusals.{Case, first_of}
use Rattle.quantity.proofs.Refusals.{first_of-none, FirstIs, none-or-first, first-answered}
use Rattle.sheet.specs.declared.LinkedOperator.{LinkedOperator}
use Rattle.sheet.specs.declared.PathValue.{PathValue}
use Rattle.sheet.specs.declared.Form.{Form}
use Rattle.sheet.specs.Paths.{Path, no_linked_operator}
use Rattle.sheet.specs.Forms.{value_of_path}
use Rattle.sheet.specs.Sheets.{path_in}
use Rattle.sheet.proofs.Accepted.{sheet-path}
use Rattle.sheet.proofs.AnswerLaws.{never-ok, none-of-ok}
use Rattle.figures.specs.declared.PathFigures.{PathFigures}
use Rattle.figures.specs.Answers.{operator_at, figures_cases, figures_of}
use Rattle.figures.proofs.Promise.{accepted-figures, accepted-none}
use Rattle.run.specs.declared.Stage.{Stage}
use Rattle.run.specs.declared.Run.{Run}
use Rattle.run.specs.Runs.{run_word_count, no_stage}
use Rattle.run.specs.Opening.{stage_of, new_stage, new_run, open_cases, opened_of, words_opened}

-- the places of a path's value: those of the path, and empty ones behind them
module _ (path : Path) where
  filled : (k : ℕ) → k < most_operators → get_or (path.operators ++ replicate most_operators no_linked_operator) k no_linked_operator ≡ get_or path.operators k no_linked_operator
  filled k less =
      elim (dec_le (length path.operators) k) [
        | yes behind ↦
            let rest : length path.operators + (k - length path.operators) ≡ k = omega arith in
            ap (λ (n : ℕ). get_or (path.operators ++ replicate most_operators no_linked_operator) n no_linked_operator) (sym rest)
            ∙ get_or-append-add path.operators (replicate most_operators no_linked_operator) (k - length path.operators) no_linked_operator
            ∙ get_or-replicate most_operators (k - length path.operators) no_linked_operator no_linked_operator (omega arith)
            ∙ sym (get_or-eq_default path.operators no_linked_operator behind)
        | no inside ↦ get_or-append path.operators (replicate most_operators no_linked_operator) no_linked_operator k (lt_of_not-le inside)
      ]

  value-linked : (form : Form) (k : ℕ) → k < most_operators → get_or (value_of_path form path).operators k no_linked_operator ≡ get_or path.operators k no_linked_operator
  unfolding value_of_path
  value-linked form k less = get_or-take most_operators (path.operators ++ replicate most_operators no_linked_operator) k no_linked_operator less ∙ filled k less

  module _ (value : PathValue) (same : value ≡ value_of_path value.form path) where
    declaration-same : value.declaration ≡ path.declaration
    unfolding value_of_path
    declaration-same = ap (λ (p : PathValue). p.declaration) same

    count_same : value.count ≡ length path.operators
    unfolding value_of_path
    count_same = ap (λ (p : PathValue). p.count) same

    linked-same : (k : ℕ) → k < most_operators → get_or value.operators k no_linked_operator ≡ get_or path.operators k no_linked_operator
    linked-same k less = ap (λ (p : PathValue). get_or p.operators k no_linked_operator) same ∙ value-linked value.form k less

    abbrev Staged : List Stage → Type 0
    Staged stages = (length stages ≡ most_operators) × ((k : ℕ) → k < most_operators → get_or stages k no_stage ≡ stage_of (get_or value.operators k no_linked_operator).operator)

    stages-same : {stages : List Stage} → Staged stages → stages ≡ list_of (new_stage path) most_operators
    unfolding new_stage operator_at
    stages-same {stages} staged = list_of-ext no_stage (new_stage path) most_operators stages staged.0 (λ k less. staged.1 k less ∙ ap (λ (linked : LinkedOperator). stage_of linked.operator) (linked-same k less))

    pub staged-run : {stages : List Stage} → Staged stages
        → record { declaration = value.declaration; slot = record { 0 = 0 }; block = record { 0 = 0 }; count = value.count; stages = stages } ≡ new_run path
    unfolding new_run
    staged-run staged = rw (declaration-same, count_same, stages-same staged)

-- What opening answers.

-- a refusal that was answered is the first that stands
first-of-err : {A : Type 0} (result : A) (cases : List Case) {why : Refusal} → Err why ≡ first_of cases Err (Ok result) → FirstIs cases why
first-of-err {A} result cases {why} refused =
    ⊎_elim
    (λ none. absurd (never-ok result why (refused ∙ first_of-none Err (Ok result) cases none)))
    (λ (other, first). (let told : ◌≡◌ {A = Result A Refusal} (Err why) (Err other) = refused ∙ first-answered Err (Ok result) other cases first in let same : why ≡ other = cc in rw same first))
    (none-or-first cases)

module _ (sheet : List ℕ) (words : List ℕ) where
  -- what is answered, and what the words hold then
  abbrev Opening : Result Run Refusal → List ℕ → Type 0
  Opening answer after = (answer ≡ opened_of sheet words) × (after ≡ words_opened sheet words)

  opened-first : {why : Refusal} → FirstIs (open_cases sheet words) why → Opening (Err why) words
  unfolding opened_of words_opened
  opened-first {why} first = (sym (first-answered Err _ why (open_cases sheet words) first), sym (first-answered (λ why. words) _ why (open_cases sheet words) first))

  -- 1: the words have a wrong length
  pub opening-unsized : (length words ≡ run_word_count → ⊥) → Opening (Err Unusable) words
  opening-unsized wrong = opened-first {why = Unusable} (inl (ap not (ne_eqb (length words) run_word_count wrong), refl))

  module _ (sized : length words ≡ run_word_count) where
    passed : not (eqb (length words) run_word_count) ≡ false
    passed = ap not (eq-eqb (length words) run_word_count sized)

    -- the figures' refusal
    pub opening-refused : {why : Refusal} → Err why ≡ figures_of sheet → Opening (Err why) words
    unfolding figures_of
    opening-refused refused = opened-first (inr (passed, first-of-err _ _ refused))

    pub opening-accepted : {planned : PathFigures} → Ok planned ≡ figures_of sheet → {after : List ℕ} → after ≡ list_of (λ j. 0) (length words) → Opening (Ok (new_run (path_in sheet))) after
    unfolding opened_of words_opened figures_of
    opening-accepted accepted cleared = let none = none-of-ok _ (figures_cases sheet) (sym accepted) in (
      sym (first_of-none Err _ (open_cases sheet words) (passed, none)),
      cleared ∙ ap (list_of (λ j. 0)) sized ∙ sym (first_of-none (λ why. words) _ (open_cases sheet words) (passed, none)),
    )

-- the path of accepted figures has at most sixteen operators, and is the sheet's
pub accepted-few : (sheet : List ℕ) {planned : PathFigures} → Ok planned ≡ figures_of sheet → length (path_in sheet).operators ≤ most_operators
accepted-few sheet accepted = (sheet-path sheet (accepted-none sheet (sym accepted)).0).few

pub accepted-path : (sheet : List ℕ) {planned : PathFigures} → Ok planned ≡ figures_of sheet → planned.path ≡ value_of_path planned.path.form (path_in sheet)
accepted-path sheet accepted = rw (accepted-figures sheet (sym accepted)).0 (sheet-path sheet (accepted-none sheet (sym accepted)).0).value
