-- A decimal number in a text: its digits, their value, and what reading it answers.
use Rattle.std.specs.Prelude.{ℕ, ◌+◌, ◌-◌, ◌*◌, Bool, Result, Ok, Err, List, [], ◌∷◌, length, drop, leb, eqb}
use Rattle.quantity.specs.Choice.{pick, both}
use Rattle.quantity.specs.Limits.{largest64}
use Rattle.text.specs.declared.decimal.Number.{Number}
use Rattle.text.specs.declared.decimal.NumberFault.{NumberFault}
use Rattle.text.specs.declared.decimal.NumberFault.TheVariants.{NoDigit, TooLarge}

-- '0' to '9'
unfoldable pub is_digit : ℕ → Bool
is_digit byte = both (leb 48 byte) (leb byte 57)

-- the digits that a text begins with, as many as stand in a row
unfoldable pub leading_digits : List ℕ → List ℕ
leading_digits [] = []
leading_digits (byte ∷ text) = pick (is_digit byte) (byte ∷ leading_digits text) []

-- ten times the number before a digit, and the digit
unfoldable pub with_digit : ℕ → ℕ → ℕ
with_digit number digit = 10 * number + (digit - 48)

-- a number and the digits behind it
unfoldable pub with_digits : ℕ → List ℕ → ℕ
with_digits number [] = number
with_digits number (digit ∷ digits) = with_digits (with_digit number digit) digits

-- the number that digits stand for
unfoldable pub value_of : List ℕ → ℕ
value_of digits = with_digits 0 digits

-- what is answered for the digits that stand from an index on
unfoldable pub decimal_of : List ℕ → ℕ → Result Number NumberFault
decimal_of digits from =
    pick (eqb (length digits) 0) (Err NoDigit)
    (pick (leb (value_of digits) largest64) (Ok (record { value = value_of digits; next = from + length digits })) (Err TooLarge))

-- the number in a text from an index on
unfoldable pub decimal_at : List ℕ → ℕ → Result Number NumberFault
decimal_at text from = decimal_of (leading_digits (drop from text)) from
