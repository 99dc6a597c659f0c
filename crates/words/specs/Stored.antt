-- Sections 6 and 7: amounts stored in a state's fields and in lent words.
use Rattle.std.specs.Prelude.{ℕ, Bool, List, length, ◌==◌, nat_le, nat_lt, slice_index, slice_set}
use Rattle.quantity.specs.Choice.{pick}
use Rattle.quantity.specs.Limits.{largest_amount}

abbrev pub word_at : List ℕ → ℕ → ℕ
word_at words j = slice_index words j

-- word j is 0
abbrev pub clear_at : List ℕ → ℕ → Bool
clear_at words j = word_at words j == 0

-- a stored amount is at most the limit; where it is not used it is 0
unfoldable pub stored_fits : Bool → ℕ → Bool
stored_fits used amount = pick used (nat_le amount largest_amount) (amount == 0)

-- so a word, of which the first so many are used
unfoldable pub word_fits : ℕ → List ℕ → ℕ → Bool
word_fits used words j = stored_fits (nat_lt j used) (word_at words j)

-- a word noted at a place; where there is no such word, nothing is written
unfoldable pub word_noted : List ℕ → ℕ → ℕ → List ℕ
word_noted words at word = pick (nat_lt at (length words)) (slice_set words at word) words
