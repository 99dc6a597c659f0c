-- Document 02, item 4: the figures are read off a page by position: its lines, their columns, and of each column a number or a kind. Nothing is known of the path.
use Rattle.std.specs.Prelude.{ℕ, suc, ◌+◌, ◌-◌, ◌*◌, ◌/◌, Bool, true, false, List, [], ◌∷◌, length, get_or, take, drop, eqb}
use Rattle.quantity.specs.Choice.{pick, both}
use Rattle.quantity.specs.Sums.{total, list_of}
use Rattle.text.specs.Rows.{space}
use Rattle.text.specs.Decimals.{value_of}
use Rattle.sheet.specs.Paths.{Path, link_at}
use Rattle.sheet.specs.Bodies.{operator_byte}
use Rattle.figures.specs.Answers.{operator_at, capacity_at, delay_at, path_delay}
use Rattle.page.specs.Pages.{widths, kind_names}

-- so many characters have columns of such widths
unfoldable pub width_of : List ℕ → ℕ
width_of [] = 0
width_of (width ∷ widths) = width + width_of widths

-- a line has its columns and a line feed
unfoldable pub line_length : ℕ
unfolding width_of
line_length = width_of widths + 1

-- line j of a page
unfoldable pub line_at : List ℕ → ℕ → List ℕ
line_at page j = take line_length (drop (line_length * j) page)

-- what stands in the columns of a line, from the left
unfoldable pub cut : List ℕ → List ℕ → List (List ℕ)
cut [] line = []
cut (width ∷ widths) line = take width line ∷ cut widths (drop width line)

-- column i of line j
unfoldable pub column_at : List ℕ → ℕ → ℕ → List ℕ
column_at page j i = get_or (cut widths (line_at page j)) i []

-- a number is what its digits stand for, behind the spaces
unfoldable pub behind_spaces : List ℕ → List ℕ
behind_spaces [] = []
behind_spaces (byte ∷ bytes) = pick (eqb byte space) (behind_spaces bytes) (byte ∷ bytes)

unfoldable pub number_in : List ℕ → ℕ
number_in column = value_of (behind_spaces column)

-- a text goes up to the first space
unfoldable pub before_spaces : List ℕ → List ℕ
before_spaces [] = []
before_spaces (byte ∷ bytes) = pick (eqb byte space) [] (byte ∷ before_spaces bytes)

-- two texts are the same
unfoldable pub same : List ℕ → List ℕ → Bool
same [] [] = true
same [] (b ∷ others) = false
same (a ∷ more) [] = false
same (a ∷ more) (b ∷ others) = both (eqb a b) (same more others)

-- which of some names a text is; behind the last where it is none
unfoldable pub which_of : List (List ℕ) → List ℕ → ℕ
which_of [] name = 0
which_of (first ∷ others) name = pick (same first name) 0 (suc (which_of others name))

-- section 5's number of the kind
unfoldable pub kind_in : List ℕ → ℕ
kind_in column = which_of kind_names (before_spaces column)

-- what is read off the line of an operator
pub record Entry : Type 0 where
  pub index : ℕ
  pub kind : ℕ
  pub link : ℕ
  pub capacity : ℕ
  pub delay : ℕ

-- and off a page: each operator's line, and the sums
pub record Reading : Type 0 where
  pub entries : List Entry
  pub capacity : ℕ
  pub delay : ℕ

unfoldable pub entry_at : List ℕ → ℕ → Entry
entry_at page j =
    record {
      index = number_in (column_at page j 0);
      kind = kind_in (column_at page j 1);
      link = number_in (column_at page j 2);
      capacity = number_in (column_at page j 3);
      delay = number_in (column_at page j 4);
    }

-- the last of some lines has the sums
unfoldable pub read_lines : List ℕ → ℕ → Reading
read_lines page lines =
    record {
      entries = list_of (entry_at page) (lines - 1);
      capacity = number_in (column_at page (lines - 1) 3);
      delay = number_in (column_at page (lines - 1) 4);
    }

-- a page has as many lines as its length says
unfoldable pub read_page : List ℕ → Reading
read_page page = read_lines page (length page / line_length)

-- what a page of a path is to say: section 4's figures
unfoldable pub entry_of : Path → ℕ → Entry
entry_of path k =
    record {
      index = k;
      kind = operator_byte (operator_at path k);
      link = link_at path k;
      capacity = capacity_at path k;
      delay = delay_at path k;
    }

unfoldable pub figures_in : Path → Reading
figures_in path =
    record {
      entries = list_of (entry_of path) (length path.operators);
      capacity = total (capacity_at path) (length path.operators);
      delay = path_delay path;
    }
