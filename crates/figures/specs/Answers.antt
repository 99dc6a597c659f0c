-- Sections 4 and 7: the figures of a path and of a sheet, or the first refusal of 2 to 9.
use Rattle.std.specs.Prelude.{ℕ, zero, suc, ◌+◌, Bool, false, List, [], ◌∷◌, ◌++◌, length, get_or, ltb, Result, Ok, Err}
use Rattle.quantity.specs.Choice.{pick}
use Rattle.quantity.specs.Limits.{most_operators}
use Rattle.quantity.specs.Sums.{total, list_of}
use Rattle.quantity.specs.Refusals.{Case, ◌⇒◌, first_of}
use Rattle.quantity.specs.declared.refusal.Refusal.{Refusal}
use Rattle.quantity.specs.declared.refusal.Refusal.TheVariants.{FramedAfterFilter, FigureTooLarge, RateTooLow, DelayAboveWanted}
use Rattle.flow.specs.Declarations.{class_of}
use Rattle.operator.specs.declared.Operator.{Operator}
use Rattle.sheet.specs.Paths.{Path, no_linked_operator}
use Rattle.sheet.specs.Sheets.{sheet_cases, value_in, path_in}
use Rattle.sheet.specs.declared.PathValue.{PathValue}
use Rattle.figures.specs.declared.Figure.{Figure}
use Rattle.figures.specs.declared.PathFigures.{PathFigures}
use Rattle.figures.specs.Progress.{Progress, progress_at}
use Rattle.figures.specs.Figures.{held_figure, capacity, own_delay, pairs, framed_after_filter, figure_too_large, rate_too_low}

-- operator k of a path
unfoldable pub operator_at : Path → ℕ → Operator
operator_at path k = (get_or path.operators k no_linked_operator).operator

-- the progress before operator k
unfoldable pub before : Path → ℕ → Progress
before path k = progress_at (class_of path.declaration) (operator_at path) k

-- operator k is an expander whose next operator, if there is one, is a compactor of its interval
unfoldable pub paired_at : Path → ℕ → Bool
paired_at path k = pick (ltb (k + 1) (length path.operators)) (pairs (operator_at path k) (operator_at path (k + 1))) false

-- the held figure of operator k
unfoldable pub held_at : Path → ℕ → ℕ
held_at path k = held_figure (before path k) (operator_at path k)

-- its capacity
unfoldable pub capacity_at : Path → ℕ → ℕ
capacity_at path k = capacity (before path k) (operator_at path k)

-- its own delay
unfoldable pub delay_at : Path → ℕ → ℕ
delay_at path k = own_delay (before path k) (operator_at path k) (paired_at path k)

-- the path's delay is the sum
unfoldable pub path_delay : Path → ℕ
path_delay path = total (delay_at path) (length path.operators)

-- operator k goes through 6, 7 and 8
abbrev pub operator_cases : Path → ℕ → List Case
operator_cases path k =
    (framed_after_filter (before path k) (operator_at path k) ⇒ FramedAfterFilter k)
    ∷ (figure_too_large (before path k) (operator_at path k) ⇒ FigureTooLarge k)
    ∷ (rate_too_low (before path k) (operator_at path k) ⇒ RateTooLow k)
    ∷ []

-- the first n operators, left to right
unfoldable pub operators_cases : Path → ℕ → List Case
operators_cases path zero = []
operators_cases path (suc n) = operators_cases path n ++ operator_cases path n

-- then 9: the path's delay is above the delay wanted
abbrev pub path_cases : Path → List Case
path_cases path = operators_cases path (length path.operators) ++ ((ltb path.wanted (path_delay path) ⇒ DelayAboveWanted) ∷ [])

-- 2 to 9 of a sheet: of its fields, then of the path that it counts as
abbrev pub figures_cases : List ℕ → List Case
figures_cases sheet = sheet_cases sheet ++ path_cases (path_in sheet)

unfoldable pub figure_at : Path → ℕ → Figure
figure_at path k = record { capacity = record { 0 = capacity_at path k }; delay = record { 0 = delay_at path k } }

unfoldable pub no_figure : Figure
no_figure = record { capacity = record { 0 = 0 }; delay = record { 0 = 0 } }

-- the figure at each of the sixteen places: none behind the path's operators
unfoldable pub figure_in : Path → ℕ → Figure
unfolding figure_at no_figure
figure_in path k = pick (ltb k (length path.operators)) (figure_at path k) no_figure

-- the path that was read, and the figures of the path that it stands for
unfoldable pub accepted_figures : PathValue → Path → PathFigures
accepted_figures value path = record { path = value; figures = list_of (figure_in path) most_operators; delay = record { 0 = path_delay path } }

-- what the figures of a sheet are, or the first of 2 to 9 that stands
unfoldable pub figures_of : List ℕ → Result PathFigures Refusal
unfolding accepted_figures
figures_of sheet = first_of (figures_cases sheet) Err (Ok (accepted_figures (value_in sheet) (path_in sheet)))
