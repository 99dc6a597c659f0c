-- Worked examples, computed from the definitions: columns and the lines of each kind as they stand on paper, and all that is read off the page of section 8's path.
use mathlib.Core.Path.{◌≡◌, refl}
use mathlib.Core.List.{[], ◌∷◌}
use Prim.Native.Nat.{ℕ}
use Rattle.quantity.specs.Rounding.{round_up}
use Rattle.quantity.specs.Divisors.{euclid, gcd}
use Rattle.quantity.specs.Sums.{total, list_of}
use Rattle.flow.specs.Classes.{most_in, most_delayed, blocks_met, changed_quota, carries, burst_at}
use Rattle.flow.specs.Declarations.{of_one_row, class_of}
use Rattle.operator.specs.FilterPart.{slower}
use Rattle.operator.specs.Operators.{limiter, compactor, expander, filter, delayer}
use Rattle.flow.specs.declared.Kind.{Kind}
use Rattle.operator.specs.declared.Operator.{Operator}
use Rattle.text.specs.Decimals.{with_digit, with_digits, value_of}
use Rattle.sheet.specs.declared.LinkedOperator.{LinkedOperator}
use Rattle.sheet.specs.Paths.{Path}
use Rattle.sheet.specs.Bodies.{operator_byte}
use Rattle.figures.specs.declared.Figure.{Figure}
use Rattle.figures.specs.Progress.{behind, progress_at}
use Rattle.figures.specs.Figures.{part_held, part_delay, held_figure, most_arriving, capacity, own_delay, pairs, is_framed}
use Rattle.figures.specs.Answers.{operator_at, before, paired_at, capacity_at, delay_at, path_delay, figure_at}
use Rattle.page.specs.Columns.{text, number, digits_of, decimal, column, columns}
use Rattle.page.specs.Pages.{widths, line_of, kind_names, path_name, operator_cells, path_cells, cells_at, sum_cells, rows_of, lines_of, page_of}
use Rattle.page.specs.Reading.{width_of, line_length, line_at, cut, column_at, behind_spaces, number_in, before_spaces, same, which_of, kind_in, entry_at, read_lines, read_page}

-- 0, 15 and 307 to the right, path to the left
columns-computed : columns (4 ∷ 4 ∷ 6 ∷ 6 ∷ []) (number 0 ∷ number 15 ∷ number 307 ∷ text path_name ∷ []) ≡ 32 ∷ 32 ∷ 32 ∷ 48 ∷ 32 ∷ 32 ∷ 49 ∷ 53 ∷ 32 ∷ 32 ∷ 32 ∷ 51 ∷ 48 ∷ 55 ∷ 112 ∷ 97 ∷ 116 ∷ 104 ∷ 32 ∷ 32 ∷ []
unfolding columns column decimal digits_of path_name
columns-computed = refl

-- smooth (10, 30), wanted 30; compactor and expander 10 on link 0, and again on link 1
abbrev on : ℕ → Operator → LinkedOperator
on link operator = record { operator = operator; link = record { 0 = link } }

abbrev frames : Path
frames =
    record {
      declaration = of_one_row Kind.Smooth 10 30;
      wanted = 30;
      operators = on 0 (compactor 10) ∷ on 0 (expander 10) ∷ on 1 (compactor 10) ∷ on 1 (expander 10) ∷ [];
    }

-- index, kind (1 compactor, 2 expander), link, capacity and delay of each operator, and the sums
page-computed : read_page (page_of frames) ≡ record {
  entries =
      record { index = 0; kind = 1; link = 0; capacity = 60; delay = 10 }
      ∷ record { index = 1; kind = 2; link = 0; capacity = 30; delay = 0 }
      ∷ record { index = 2; kind = 1; link = 1; capacity = 60; delay = 10 }
      ∷ record { index = 3; kind = 2; link = 1; capacity = 30; delay = 10 }
      ∷ [];
  capacity = 180;
  delay = 30;
}
unfolding round_up euclid gcd total list_of carries burst_at most_in most_delayed blocks_met changed_quota class_of slower with_digit with_digits value_of operator_byte behind progress_at part_held part_delay held_figure most_arriving capacity own_delay pairs is_framed operator_at before paired_at capacity_at delay_at path_delay figure_at digits_of decimal column columns widths line_of kind_names path_name operator_cells path_cells cells_at sum_cells rows_of lines_of page_of width_of line_length line_at cut column_at behind_spaces number_in before_spaces same which_of kind_in entry_at read_lines read_page
page-computed = refl

-- the line of an operator of each kind, character by character
abbrev figure : ℕ → ℕ → Figure
figure capacity delay = record { capacity = record { 0 = capacity }; delay = record { 0 = delay } }

lines-computed : (line_of (operator_cells 0 (limiter 3) 3 (figure 60 20))
    ∷ line_of (operator_cells 1 (compactor 10) 4 (figure 30 10))
    ∷ line_of (operator_cells 2 (expander 10) 5 (figure 31 0))
    ∷ line_of (operator_cells 3 (filter 3) 6 (figure 75 7))
    ∷ line_of (operator_cells 15 (delayer 4) 15 (figure 87 4))
    ∷ [])
    ≡ (32 ∷ 32 ∷ 32 ∷ 48 ∷ 108 ∷ 105 ∷ 109 ∷ 105 ∷ 116 ∷ 101 ∷ 114 ∷ 32 ∷ 32 ∷ 32 ∷ 32 ∷ 32 ∷ 32 ∷ 32 ∷ 32 ∷ 51 ∷ 32 ∷ 32 ∷ 32 ∷ 32 ∷ 32 ∷ 32 ∷ 32 ∷ 32 ∷ 32 ∷ 32 ∷ 32 ∷ 32 ∷ 32 ∷ 32 ∷ 32 ∷ 32 ∷ 32 ∷ 32 ∷ 54 ∷ 48 ∷ 32 ∷ 32 ∷ 32 ∷ 32 ∷ 32 ∷ 32 ∷ 32 ∷ 32 ∷ 32 ∷ 32 ∷ 32 ∷ 32 ∷ 32 ∷ 32 ∷ 32 ∷ 32 ∷ 32 ∷ 32 ∷ 50 ∷ 48 ∷ 10 ∷ [])
    ∷ (32 ∷ 32 ∷ 32 ∷ 49 ∷ 99 ∷ 111 ∷ 109 ∷ 112 ∷ 97 ∷ 99 ∷ 116 ∷ 111 ∷ 114 ∷ 32 ∷ 32 ∷ 32 ∷ 32 ∷ 32 ∷ 32 ∷ 52 ∷ 32 ∷ 32 ∷ 32 ∷ 32 ∷ 32 ∷ 32 ∷ 32 ∷ 32 ∷ 32 ∷ 32 ∷ 32 ∷ 32 ∷ 32 ∷ 32 ∷ 32 ∷ 32 ∷ 32 ∷ 32 ∷ 51 ∷ 48 ∷ 32 ∷ 32 ∷ 32 ∷ 32 ∷ 32 ∷ 32 ∷ 32 ∷ 32 ∷ 32 ∷ 32 ∷ 32 ∷ 32 ∷ 32 ∷ 32 ∷ 32 ∷ 32 ∷ 32 ∷ 32 ∷ 49 ∷ 48 ∷ 10 ∷ [])
    ∷ (32 ∷ 32 ∷ 32 ∷ 50 ∷ 101 ∷ 120 ∷ 112 ∷ 97 ∷ 110 ∷ 100 ∷ 101 ∷ 114 ∷ 32 ∷ 32 ∷ 32 ∷ 32 ∷ 32 ∷ 32 ∷ 32 ∷ 53 ∷ 32 ∷ 32 ∷ 32 ∷ 32 ∷ 32 ∷ 32 ∷ 32 ∷ 32 ∷ 32 ∷ 32 ∷ 32 ∷ 32 ∷ 32 ∷ 32 ∷ 32 ∷ 32 ∷ 32 ∷ 32 ∷ 51 ∷ 49 ∷ 32 ∷ 32 ∷ 32 ∷ 32 ∷ 32 ∷ 32 ∷ 32 ∷ 32 ∷ 32 ∷ 32 ∷ 32 ∷ 32 ∷ 32 ∷ 32 ∷ 32 ∷ 32 ∷ 32 ∷ 32 ∷ 32 ∷ 48 ∷ 10 ∷ [])
    ∷ (32 ∷ 32 ∷ 32 ∷ 51 ∷ 102 ∷ 105 ∷ 108 ∷ 116 ∷ 101 ∷ 114 ∷ 32 ∷ 32 ∷ 32 ∷ 32 ∷ 32 ∷ 32 ∷ 32 ∷ 32 ∷ 32 ∷ 54 ∷ 32 ∷ 32 ∷ 32 ∷ 32 ∷ 32 ∷ 32 ∷ 32 ∷ 32 ∷ 32 ∷ 32 ∷ 32 ∷ 32 ∷ 32 ∷ 32 ∷ 32 ∷ 32 ∷ 32 ∷ 32 ∷ 55 ∷ 53 ∷ 32 ∷ 32 ∷ 32 ∷ 32 ∷ 32 ∷ 32 ∷ 32 ∷ 32 ∷ 32 ∷ 32 ∷ 32 ∷ 32 ∷ 32 ∷ 32 ∷ 32 ∷ 32 ∷ 32 ∷ 32 ∷ 32 ∷ 55 ∷ 10 ∷ [])
    ∷ (32 ∷ 32 ∷ 49 ∷ 53 ∷ 100 ∷ 101 ∷ 108 ∷ 97 ∷ 121 ∷ 101 ∷ 114 ∷ 32 ∷ 32 ∷ 32 ∷ 32 ∷ 32 ∷ 32 ∷ 32 ∷ 49 ∷ 53 ∷ 32 ∷ 32 ∷ 32 ∷ 32 ∷ 32 ∷ 32 ∷ 32 ∷ 32 ∷ 32 ∷ 32 ∷ 32 ∷ 32 ∷ 32 ∷ 32 ∷ 32 ∷ 32 ∷ 32 ∷ 32 ∷ 56 ∷ 55 ∷ 32 ∷ 32 ∷ 32 ∷ 32 ∷ 32 ∷ 32 ∷ 32 ∷ 32 ∷ 32 ∷ 32 ∷ 32 ∷ 32 ∷ 32 ∷ 32 ∷ 32 ∷ 32 ∷ 32 ∷ 32 ∷ 32 ∷ 52 ∷ 10 ∷ [])
    ∷ []
unfolding operator_byte digits_of decimal column columns widths line_of kind_names operator_cells
lines-computed = refl
