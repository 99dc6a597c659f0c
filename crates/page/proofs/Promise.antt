-- The page of every accepted sheet: each figure fits its column, each line has 60 characters and its line feed, and the figures are read off the page again.
use mathlib.Core.Path.{◌≡◌, refl, sym, ap, ◌∙◌}
use mathlib.Core.List.{List, [], ◌∷◌}
use Prim.Native.Nat.{ℕ, ◌+◌, ◌-◌, ◌*◌, ◌/◌, ◌≤◌, ◌<◌}
use native.Mathlib.Omega.{arith}
use lib.ListN.{length, get_or, take, length-append, get_or-append}
use lib.Seq.{get_or_at, take_at}
use lib.Dec.{eqb}
use borrow.Author.Tests.{eqb-true, not-false}
use Rattle.quantity.specs.Lent.{written_over}
use Rattle.quantity.specs.Sums.{total, list_of}
use Rattle.quantity.proofs.Sums.{length-list_of, get_d-list_of, list_of-ext}
use Rattle.quantity.proofs.Refusals.{NoneStands, first_of-none}
use Rattle.sheet.proofs.AnswerLaws.{none-of-ok, ok-is}
use Rattle.std.specs.Prelude.{Ok, Err}
use Rattle.operator.specs.declared.Operator.{Operator}
use Rattle.sheet.specs.Bodies.{operator_byte}
use Rattle.sheet.specs.Paths.{Path, link_at}
use Rattle.sheet.specs.Sheets.{value_in, path_in}
use Rattle.figures.specs.declared.Figure.{Figure}
use Rattle.figures.specs.declared.PathFigures.{PathFigures}
use Rattle.figures.specs.Answers.{operator_at, capacity_at, path_delay, figure_at, figures_cases, accepted_figures, figures_of}
use Rattle.page.specs.Columns.{Cell, characters_of}
use Rattle.page.specs.Pages.{widths, line_feed, line_of, path_name, operator_cells, path_cells, cells_at, sum_cells, rows_of, page_of}
use Rattle.page.specs.Answers.{page_cases, page_answer, bytes_paged}
use Rattle.page.specs.Reading.{line_length, line_at, cut, column_at, number_in, kind_in, Entry, entry_at, read_lines, read_page, entry_of, figures_in}
use Rattle.page.specs.Shape.{Fits, Shaped}
use Rattle.page.proofs.Bytes.{lacks}
use Rattle.page.proofs.Decimals.{length-decimal, decimal-lacks}
use Rattle.page.proofs.Columns.{each, cut-columns, number_read, kind-read, name-fits, name-unbroken}
use Rattle.page.proofs.Accepted.{few-operators, link-le, capacity-le, capacities-le, path-delay-le, delay-le}
use Rattle.page.proofs.Pages.{Sound, AllSound, sound-append, sound-list, sound-at, length-lines, line-length, line-at, lines-shaped}

-- an operator's line, of small numbers
operator-sound : (index : ℕ) (operator : Operator) (link : ℕ) (figure : Figure) → index ≤ 15 → link ≤ 15 → figure.capacity.0 ≤ 2_147_483_646 → figure.delay.0 ≤ 65_535 → Sound (operator_cells index operator link figure)
unfolding operator_cells characters_of widths
operator-sound index operator link figure few near small soon =
    let plain = decimal-lacks line_feed (omega arith) in (
      (length-decimal index 3 (omega arith), (name-fits operator, (length-decimal link 3 (omega arith), (length-decimal figure.capacity.0 19 (omega arith), (length-decimal figure.delay.0 19 (omega arith), tt))))),
      (plain index, (name-unbroken operator, (plain link, (plain figure.capacity.0, (plain figure.delay.0, tt))))),
    )

path-sound : (capacity delay : ℕ) → capacity ≤ 34_359_738_336 → delay ≤ 65_535 → Sound (path_cells capacity delay)
unfolding path_cells path_name characters_of widths lacks
path-sound capacity delay small soon =
    let plain = decimal-lacks line_feed (omega arith) in (
      (omega arith, (omega arith, (omega arith, (length-decimal capacity 19 (omega arith), (length-decimal delay 19 (omega arith), tt))))),
      (refl, (refl, (refl, (plain capacity, (plain delay, tt))))),
    )

-- what is read off an operator's columns, and off the sums'
entry_read : (index : ℕ) (operator : Operator) (link : ℕ) (figure : Figure) {columns : List (List ℕ)} → columns ≡ each widths (operator_cells index operator link figure)
    → ◌≡◌ {A = Entry} (record { index = number_in (get_or columns 0 []); kind = kind_in (get_or columns 1 []); link = number_in (get_or columns 2 []); capacity = number_in (get_or columns 3 []); delay = number_in (get_or columns 4 []) })
    (record { index = index; kind = operator_byte operator; link = link; capacity = figure.capacity.0; delay = figure.delay.0 })
unfolding each widths operator_cells
entry_read index operator link figure cut =
    rw (cut, number_read 4 index, kind-read operator, number_read 4 link, number_read 20 figure.capacity.0, number_read 20 figure.delay.0)

sums-read : (capacity delay : ℕ) {columns : List (List ℕ)} → columns ≡ each widths (path_cells capacity delay) → (number_in (get_or columns 3 []) ≡ capacity) × (number_in (get_or columns 4 []) ≡ delay)
unfolding each widths path_cells
sums-read capacity delay cut = rw cut (number_read 20 capacity, number_read 20 delay)

module _ (path : Path) where
  rows-count : length (rows_of path) ≡ length path.operators + 1
  unfolding rows_of
  rows-count = rw (length-append, length-list_of)

  row_at : (k : ℕ) → k < length path.operators → get_or (rows_of path) k [] ≡ cells_at path k
  unfolding rows_of
  row_at k less = get_or-append (list_of (cells_at path) (length path.operators)) (sum_cells path ∷ []) [] k (rw length-list_of less) ∙ get_d-list_of [] (cells_at path) (length path.operators) k less

  last_row : get_or (rows_of path) (length path.operators) [] ≡ sum_cells path
  unfolding rows_of
  last_row = get_or_at (list_of (cells_at path) (length path.operators)) (sum_cells path) [] [] (length path.operators) (length-list_of (cells_at path) (length path.operators))

module _ (sheet : List ℕ) {answer : PathFigures} (accepted : figures_of sheet ≡ Ok answer) where
  abbrev path : Path
  path = path_in sheet

  abbrev operators : ℕ
  operators = length path.operators

  abbrev page : List ℕ
  page = page_of path

  pub cells-sound : (k : ℕ) → k < operators → Sound (cells_at path k)
  unfolding cells_at figure_at
  cells-sound k less =
      let few = few-operators sheet accepted in
      operator-sound k (operator_at path k) _ (figure_at path k) (omega arith) (link-le sheet accepted _) (capacity-le sheet accepted k less) (delay-le sheet accepted k less)

  rows-sound : AllSound (rows_of path)
  unfolding rows_of sum_cells
  rows-sound =
      sound-append (list_of (cells_at path) operators) (sum_cells path ∷ [])
      (sound-list (cells_at path) operators cells-sound)
      (path-sound (total (capacity_at path) operators) (path_delay path) (omega (arith, capacities-le sheet accepted operators (omega arith))) (path-delay-le sheet accepted), tt)

  -- every figure fits its column, the sums too
  pub figures-fit : (j : ℕ) → j < length (rows_of path) → Fits widths (get_or (rows_of path) j [])
  figures-fit j less = (sound-at (rows_of path) rows-sound j less).0

  pub page-length : length page ≡ 61 * (operators + 1)
  unfolding page_of
  page-length = length-lines (rows_of path) rows-sound ∙ ap (λ (n : ℕ). 61 * n) (rows-count path)

  -- the page's length is 61 times the number of lines, and every line has 60 characters and its line feed, and no other
  pub page-shaped : Shaped (operators + 1) page
  unfolding page_of
  page-shaped = rw (rows-count path) at (lines-shaped (rows_of path) rows-sound)

  columns-cut : (j : ℕ) → j < operators + 1 → {cells : List Cell} → get_or (rows_of path) j [] ≡ cells → cut widths (line_at page j) ≡ each widths cells
  unfolding page_of line_of
  columns-cut j less {cells} row =
      let inside : j < length (rows_of path) = rw (rows-count path) less in
      ap (cut widths) (line-at (rows_of path) rows-sound j inside)
      ∙ cut-columns widths (get_or (rows_of path) j []) (line_feed ∷ []) (figures-fit j inside)
      ∙ ap (each widths) row

  entries-read : (k : ℕ) → k < operators → entry_at page k ≡ entry_of path k
  unfolding entry_at entry_of column_at cells_at figure_at
  entries-read k less = entry_read k (operator_at path k) (link_at path k) (figure_at path k) (columns-cut k (omega arith) (row_at path k less))

  path-read : (number_in (column_at page operators 3) ≡ total (capacity_at path) operators) × (number_in (column_at page operators 4) ≡ path_delay path)
  unfolding column_at sum_cells
  path-read = sums-read (total (capacity_at path) operators) (path_delay path) (columns-cut operators (omega arith) (last_row path))

  lines-counted : length page / line_length ≡ operators + 1
  lines-counted = rw (line-length, page-length) (omega arith)

  -- the figures are read off the page again
  pub figures-read : read_page page ≡ figures_in path
  unfolding read_page read_lines figures_in
  figures-read =
      let last : operators + 1 - 1 ≡ operators = omega arith in
      let same : list_of (entry_at page) operators ≡ list_of (entry_of path) operators =
      list_of-ext (entry_of path 0) (entry_of path) operators (list_of (entry_at page) operators) (length-list_of (entry_at page) operators)
      (λ k less. get_d-list_of (entry_of path 0) (entry_at page) operators k less ∙ entries-read k less) in
      rw (lines-counted, last, same, path-read.0, path-read.1)

-- a call that answers a length: it was lent enough, and it left the page, off which the figures are read
module _ (sheet lent : List ℕ) (n : ℕ) (answered : page_answer sheet lent ≡ Ok n) where
  none-stands : NoneStands (page_cases sheet lent)
  unfolding page_answer
  none-stands = none-of-ok (length (page_of (path_in sheet))) (page_cases sheet lent) answered

  length-lent : length lent ≡ 1037
  unfolding page_cases
  length-lent = eqb-true (length lent) 1037 (not-false (eqb (length lent) 1037) none-stands.0)

  pub answered-accepted : figures_of sheet ≡ Ok (accepted_figures (value_in sheet) (path_in sheet))
  unfolding page_cases figures_of
  answered-accepted = first_of-none Err (Ok (accepted_figures (value_in sheet) (path_in sheet))) (figures_cases sheet) none-stands.1

  pub length-answered : n ≡ length (page_of (path_in sheet))
  unfolding page_answer
  length-answered = ok-is (length (page_of (path_in sheet))) (page_cases sheet lent) answered

  pub page-room : n ≤ length lent
  page-room = omega (arith, length-answered, length-lent, page-length sheet answered-accepted, few-operators sheet answered-accepted)

  pub page-left : take n (bytes_paged sheet lent) ≡ page_of (path_in sheet)
  unfolding bytes_paged
  page-left =
      ap (take n) (first_of-none (λ why. lent) (written_over (page_of (path_in sheet)) lent) (page_cases sheet lent) none-stands)
      ∙ take_at (page_of (path_in sheet)) _ n (sym length-answered)

  pub read_back : read_page (take n (bytes_paged sheet lent)) ≡ figures_in (path_in sheet)
  read_back = ap read_page page-left ∙ figures-read sheet answered-accepted
