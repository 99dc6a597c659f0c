-- Opening a run (sections 6 and 7): 1, then 2 to 9 of the sheet; accepted, it clears all words and does not test what they held.
use Rattle.std.specs.Prelude.{ℕ, not, List, ◌∷◌, Result, Ok, Err, length, replicate, eqb}
use Rattle.quantity.specs.Limits.{most_operators}
use Rattle.quantity.specs.Sums.{list_of}
use Rattle.quantity.specs.Refusals.{Case, ◌⇒◌, first_of}
use Rattle.quantity.specs.declared.refusal.Refusal.{Refusal}
use Rattle.quantity.specs.declared.refusal.Refusal.TheVariants.{Unusable}
use Rattle.flow.specs.Declarations.{of_one_row}
use Rattle.flow.specs.declared.Kind.{Kind}
use Rattle.operator.specs.declared.Operator.{Operator}
use Rattle.sheet.specs.Paths.{Path}
use Rattle.sheet.specs.Sheets.{path_in}
use Rattle.figures.specs.Answers.{operator_at, figures_cases}
use Rattle.run.specs.Runs.{run_word_count, no_stage}
use Rattle.run.specs.declared.Stage.{Stage}
use Rattle.run.specs.declared.Run.{Run}

-- an operator with nothing held
abbrev pub stage_of : Operator → Stage
stage_of operator = record { operator = operator; held = record { 0 = 0 }; beside = record { 0 = 0 }; entered = 0; left = 0 }

-- operator k so; behind the path's operators the empty stage
unfoldable pub new_stage : Path → ℕ → Stage
new_stage path k = stage_of (operator_at path k)

-- a path's run before its first slot
unfoldable pub new_run : Path → Run
new_run path =
    record { declaration = path.declaration; slot = record { 0 = 0 }; block = record { 0 = 0 }; count = length path.operators; stages = list_of (new_stage path) most_operators }

-- the run of who has none yet
abbrev pub no_run : Run
no_run =
    record {
      declaration = of_one_row Kind.Smooth 0 0;
      slot = record { 0 = 0 };
      block = record { 0 = 0 };
      count = 0;
      stages = replicate most_operators no_stage;
    }

abbrev pub open_cases : List ℕ → List ℕ → List Case
open_cases sheet words = (not (eqb (length words) run_word_count) ⇒ Unusable) ∷ figures_cases sheet

-- what opening answers
unfoldable pub opened_of : List ℕ → List ℕ → Result Run Refusal
opened_of sheet words = first_of (open_cases sheet words) Err (Ok (new_run (path_in sheet)))

-- and what the words hold then; refused, it leaves them
unfoldable pub words_opened : List ℕ → List ℕ → List ℕ
words_opened sheet words = first_of (open_cases sheet words) (λ why. words) (list_of (λ j. 0) run_word_count)
