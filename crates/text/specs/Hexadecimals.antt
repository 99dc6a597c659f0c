-- Bytes in hexadecimal: two digits each, a single space allowed between two bytes, and nothing else.
use Rattle.std.specs.Prelude.{ℕ, ◌+◌, ◌-◌, ◌*◌, Bool, Result, Ok, Err, List, [], ◌∷◌, length, drop, leb, eqb}
use Rattle.quantity.specs.Choice.{pick, both, either}
use Rattle.text.specs.declared.hexadecimal.HexadecimalFault.{HexadecimalFault}
use Rattle.text.specs.declared.hexadecimal.HexadecimalFault.TheVariants.{NotHexadecimal, TooLong}
use Rattle.text.specs.Rows.{space, Row, ahead, answer_of, stored_in}
use Rattle.text.specs.Decimals.{is_digit}

-- 'a' to 'f'
unfoldable pub is_lower_case_digit : ℕ → Bool
is_lower_case_digit byte = both (leb 97 byte) (leb byte 102)

-- 'A' to 'F'
unfoldable pub is_upper_case_digit : ℕ → Bool
is_upper_case_digit byte = both (leb 65 byte) (leb byte 70)

-- '0' to '9', 'a' to 'f', 'A' to 'F'
unfoldable pub is_hexadecimal_digit : ℕ → Bool
is_hexadecimal_digit byte = either (is_digit byte) (either (is_lower_case_digit byte) (is_upper_case_digit byte))

-- 0 to 9, then 10 to 15 for 'a' to 'f' and for 'A' to 'F'
unfoldable pub digit_value : ℕ → ℕ
digit_value byte = pick (is_digit byte) (byte - 48) (pick (is_lower_case_digit byte) (10 + (byte - 97)) (10 + (byte - 65)))

-- the byte of two digits, the high one first
unfoldable pub byte_of : ℕ → ℕ → ℕ
byte_of high low = 16 * digit_value high + digit_value low

-- a byte's two digits and the rest; what is no digit is a fault
unfoldable pub with_byte : ℕ → ℕ → Row HexadecimalFault → Row HexadecimalFault
with_byte high low rest = pick (both (is_hexadecimal_digit high) (is_hexadecimal_digit low)) (ahead (byte_of high low) rest) (Err NotHexadecimal)

-- a byte is due: two digits, and behind them the text's end, or a byte is due, or a space stands and then a byte is due
unfoldable pub bytes_due : List ℕ → Row HexadecimalFault
bytes_due [] = Err NotHexadecimal
bytes_due (high ∷ []) = Err NotHexadecimal
bytes_due (high ∷ low ∷ []) = with_byte high low (Ok [])
bytes_due (high ∷ low ∷ next ∷ text) = with_byte high low (pick (eqb next space) (bytes_due text) (bytes_due (next ∷ text)))

-- the bytes of a text; no text at all is no bytes
unfoldable pub bytes_in : List ℕ → Row HexadecimalFault
bytes_in [] = Ok []
bytes_in (byte ∷ text) = bytes_due (byte ∷ text)

-- a row of more bytes than there are places is too long
unfoldable pub fitted : ℕ → Row HexadecimalFault → Row HexadecimalFault
fitted places (Ok ns) = pick (leb (length ns) places) (Ok ns) (Err TooLong)
fitted places (Err why) = Err why

-- what is answered
unfoldable pub hexadecimal_from : List ℕ → ℕ → ℕ → Result ℕ HexadecimalFault
hexadecimal_from text from places = answer_of (fitted places (bytes_in (drop from text)))

-- what the lent bytes hold then; a refused call keeps them all
unfoldable pub bytes_stored : List ℕ → ℕ → List ℕ → List ℕ
bytes_stored text from lent = stored_in lent (fitted (length lent) (bytes_in (drop from text)))
