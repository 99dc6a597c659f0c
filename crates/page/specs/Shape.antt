-- Document 02, item 4: every figure fits its column, and every line of a page has 60 characters and its line feed, and no other.
use Rattle.std.specs.Prelude.{ℕ, ◌+◌, ◌*◌, ◌≤◌, ◌<◌, ◌≡◌, List, [], ◌∷◌, length, get_or}
use Rattle.page.specs.Columns.{Cell, characters_of}
use Rattle.page.specs.Pages.{line_feed}

-- there is a column for each, and it has room
abbrev pub Fits : List ℕ → List Cell → Type 0
Fits [] [] = Unit {0}
Fits [] (cell ∷ cells) = ⊥
Fits (width ∷ widths) [] = ⊥
Fits (width ∷ widths) (cell ∷ cells) = (length (characters_of cell) ≤ width) × Fits widths cells

-- a page of so many lines
pub record Shaped (lines : ℕ) (page : List ℕ) : Type 0 where
  pub long : length page ≡ 61 * lines
  pub ended : (j : ℕ) → j < lines → get_or page (61 * j + 60) 0 ≡ line_feed
  pub unbroken : (j i : ℕ) → j < lines → i < 60 → get_or page (61 * j + i) 0 ≡ line_feed → ⊥
