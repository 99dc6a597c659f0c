-- Decimal numbers with single spaces between them, and nothing else.
use Rattle.std.specs.Prelude.{ℕ, zero, suc, ◌+◌, Result, Ok, Err, List, [], length, get_or, leb, eqb}
use Rattle.quantity.specs.Choice.{pick}
use Rattle.text.specs.declared.decimal.Number.{Number}
use Rattle.text.specs.declared.decimal.NumberFault.{NumberFault}
use Rattle.text.specs.declared.decimal.NumbersFault.{NumbersFault}
use Rattle.text.specs.Rows.{space, Row, ahead, answer_of, stored_in}
use Rattle.text.specs.Decimals.{decimal_at}

-- what is no number, and what is too large a one, is so in a row of them too
abbrev pub fault_of : NumberFault → NumbersFault
fault_of NumberFault.NoDigit = NumbersFault.NotANumber
fault_of NumberFault.TooLarge = NumbersFault.TooLarge

-- where a number is due: what is read of it and the index behind it, or that there is none, or that it is too large
unfoldable pub due : Result Number NumberFault → (ℕ → ℕ → Row NumbersFault) → Row NumbersFault
due (Ok number) read = read number.value number.next
due (Err why) read = Err (fault_of why)

-- behind a number: the text's end, or one space and the rest; anything else is no number
unfoldable pub behind_number : List ℕ → ℕ → Row NumbersFault → Row NumbersFault
behind_number text next rest = pick (leb (length text) next) (Ok []) (pick (eqb (get_or text next 0) space) rest (Err NumbersFault.NotANumber))

-- the numbers from an index on where one is due, with so many places left for them, or the first fault from left to right
unfoldable pub row_from : ℕ → List ℕ → ℕ → Row NumbersFault
row_from zero text at = due (decimal_at text at) (λ value next. Err NumbersFault.TooMany)
row_from (suc places) text at = due (decimal_at text at) (λ value next. ahead value (behind_number text next (row_from places text (next + 1))))

-- what is answered
unfoldable pub decimals_from : List ℕ → ℕ → ℕ → Result ℕ NumbersFault
decimals_from text from places = answer_of (row_from places text from)

-- what the lent numbers are then; a refused call keeps them all
unfoldable pub numbers_after : List ℕ → ℕ → List ℕ → List ℕ
numbers_after text from lent = stored_in lent (row_from (length lent) text from)
