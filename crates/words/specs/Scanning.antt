-- Lent words tested and added in one call (sections 6 and 7).
use Rattle.std.specs.Prelude.{ℕ, Bool, List, Option, Some, None, length, nat_le}
use Rattle.quantity.specs.Choice.{pick, both}
use Rattle.quantity.specs.Sums.{total, every}
use Rattle.words.specs.Stored.{word_at, word_fits}

-- the most words that are scanned at once
abbrev pub most_scanned : ℕ
most_scanned = 1_024

-- there are at most so many words, and each fits, of which the first `used` are used
unfoldable pub all_fit : ℕ → List ℕ → Bool
all_fit used words = both (nat_le (length words) most_scanned) (every (word_fits used words) (length words))

-- and then their sum
unfoldable pub scanned_of : ℕ → List ℕ → Option ℕ
scanned_of used words = pick (all_fit used words) (Some (total (word_at words) (length words))) None
