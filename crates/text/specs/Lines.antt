-- A line that is gathered byte by byte, and how a text begins.
use Rattle.std.specs.Prelude.{ℕ, ◌+◌, Bool, Option, Some, None, List, length, get_or, set, leb, ltb, eqb}
use Rattle.quantity.specs.Choice.{pick, both}
use Rattle.quantity.specs.Sums.{every}

-- a line that has so many bytes gets one more where the lent memory has a place for it
unfoldable pub gathered_of : List ℕ → ℕ → Option ℕ
gathered_of line count = pick (ltb count (length line)) (Some (count + 1)) None

-- what the lent memory holds then: the byte behind the line's others, or all that it held
unfoldable pub line_after : List ℕ → ℕ → ℕ → List ℕ
line_after line count byte = pick (ltb count (length line)) (set line count byte) line

-- the text has at least as many bytes as the word, and the word's first
unfoldable pub begins_with : List ℕ → List ℕ → Bool
begins_with text word = both (leb (length word) (length text)) (every (λ k. eqb (get_or text k 0) (get_or word k 0)) (length word))
