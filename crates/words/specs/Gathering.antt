-- Serves the private contracts of the words and of the meter, and need not be believed: no call that they are parts of cites it.
-- Lent words passed once: joined by "or", and added modulo 2^32.
use Rattle.std.specs.Prelude.{ℕ, zero, suc, ◌%◌, ◌^◌, ◌+◌, List, length, bit_or}
use Rattle.quantity.specs.Sums.{total}
use Rattle.words.specs.Stored.{word_at}
use Rattle.words.specs.declared.Gathered.{Gathered}

-- f 0 or … or f (n − 1), binary digit by binary digit
unfoldable pub joined : (ℕ → ℕ) → ℕ → ℕ
joined f zero = 0
joined f (suc n) = bit_or (joined f n) (f n)

-- the largest word of which 1,024 sum to less than 2^32
abbrev pub most_exact : ℕ
most_exact = 4_194_303

unfoldable pub gathered_of : List ℕ → Gathered
gathered_of words = record { join = joined (word_at words) (length words); low = total (word_at words) (length words) % 2 ^ 32 }

-- and of two parts, one behind the other
abbrev pub gathered_with : Gathered → Gathered → Gathered
gathered_with a b = record { join = bit_or a.join b.join; low = (a.low + b.low) % 2 ^ 32 }
