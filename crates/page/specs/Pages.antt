-- Document 02, item 4: the page of a path, a line for each operator and a last one for the path.
use Rattle.std.specs.Prelude.{ℕ, List, [], ◌∷◌, ◌++◌, length, get_or}
use Rattle.quantity.specs.Sums.{total, list_of}
use Rattle.operator.specs.declared.Operator.{Operator}
use Rattle.sheet.specs.Paths.{Path, link_at}
use Rattle.sheet.specs.Bodies.{operator_byte}
use Rattle.figures.specs.declared.Figure.{Figure}
use Rattle.figures.specs.Answers.{operator_at, capacity_at, path_delay, figure_at}
use Rattle.page.specs.Columns.{Cell, text, number, columns}

-- index in 4 columns, kind in 12, link in 4, capacity in 20, delay in 20
unfoldable pub widths : List ℕ
widths = 4 ∷ 12 ∷ 4 ∷ 20 ∷ 20 ∷ []

abbrev pub line_feed : ℕ
line_feed = 10

-- a line: its columns and a line feed
unfoldable pub line_of : List Cell → List ℕ
line_of cells = columns widths cells ++ (line_feed ∷ [])

-- limiter, compactor, expander, filter, delayer: the names of the kinds, by section 5's numbers
unfoldable pub kind_names : List (List ℕ)
kind_names =
    (108 ∷ 105 ∷ 109 ∷ 105 ∷ 116 ∷ 101 ∷ 114 ∷ [])
    ∷ (99 ∷ 111 ∷ 109 ∷ 112 ∷ 97 ∷ 99 ∷ 116 ∷ 111 ∷ 114 ∷ [])
    ∷ (101 ∷ 120 ∷ 112 ∷ 97 ∷ 110 ∷ 100 ∷ 101 ∷ 114 ∷ [])
    ∷ (102 ∷ 105 ∷ 108 ∷ 116 ∷ 101 ∷ 114 ∷ [])
    ∷ (100 ∷ 101 ∷ 108 ∷ 97 ∷ 121 ∷ 101 ∷ 114 ∷ [])
    ∷ []

-- path
unfoldable pub path_name : List ℕ
path_name = 112 ∷ 97 ∷ 116 ∷ 104 ∷ []

-- a blank column
abbrev pub blank : Cell
blank = text []

-- what the line of an operator has: its index, kind, link, capacity and delay
unfoldable pub operator_cells : ℕ → Operator → ℕ → Figure → List Cell
operator_cells index operator link figure =
    number index
    ∷ text (get_or kind_names (operator_byte operator) [])
    ∷ number link
    ∷ number figure.capacity.0
    ∷ number figure.delay.0
    ∷ []

-- what the last line has: the sums
unfoldable pub path_cells : ℕ → ℕ → List Cell
path_cells capacity delay = blank ∷ text path_name ∷ blank ∷ number capacity ∷ number delay ∷ []

-- the line of operator k
unfoldable pub cells_at : Path → ℕ → List Cell
cells_at path k = operator_cells k (operator_at path k) (link_at path k) (figure_at path k)

-- the path's line: the capacities of all operators, and the path's delay
unfoldable pub sum_cells : Path → List Cell
sum_cells path = path_cells (total (capacity_at path) (length path.operators)) (path_delay path)

-- all lines of a path
unfoldable pub rows_of : Path → List (List Cell)
unfolding cells_at sum_cells
rows_of path = list_of (cells_at path) (length path.operators) ++ (sum_cells path ∷ [])

-- lines one behind the other
unfoldable pub lines_of : List (List Cell) → List ℕ
lines_of [] = []
lines_of (cells ∷ rows) = line_of cells ++ lines_of rows

-- the page of a path
unfoldable pub page_of : Path → List ℕ
unfolding rows_of
page_of path = lines_of (rows_of path)
