-- Document 02, item 4: a column has so many characters: a text to the left or a number to the right, and spaces elsewhere.
use Rattle.std.specs.Prelude.{ℕ, zero, suc, ◌+◌, ◌-◌, ◌/◌, ◌%◌, List, [], ◌∷◌, ◌++◌, length, replicate, ltb}
use Rattle.quantity.specs.Choice.{pick}
use Rattle.text.specs.Rows.{space}

-- '0' to '9'
abbrev pub digit : ℕ → ℕ
digit value = 48 + value

-- the digits of a number of at most so many: those of a tenth of it and the last
unfoldable pub digits_of : ℕ → ℕ → List ℕ
digits_of zero n = []
digits_of (suc more) n = pick (ltb n 10) (digit n ∷ []) (digits_of more (n / 10) ++ (digit (n % 10) ∷ []))

-- a number in decimal: n has at most n + 1 digits
unfoldable pub decimal : ℕ → List ℕ
decimal n = digits_of (suc n) n

-- what stands in a column
pub data Cell : Type 0 where
  text : List ℕ → Cell
  number : ℕ → Cell

-- its characters without the spaces
unfoldable pub characters_of : Cell → List ℕ
characters_of (text characters) = characters
characters_of (number n) = decimal n

-- the column: a text to the left, a number to the right
unfoldable pub column : ℕ → Cell → List ℕ
column width (text characters) = characters ++ replicate (width - length characters) space
column width (number n) = replicate (width - length (decimal n)) space ++ decimal n

-- columns side by side, by their widths and what stands in them
unfoldable pub columns : List ℕ → List Cell → List ℕ
columns [] cells = []
columns (width ∷ widths) [] = []
columns (width ∷ widths) (cell ∷ cells) = column width cell ++ columns widths cells
