-- Section 5: numbers have the high byte first. One definition over the width.
use Rattle.std.specs.Prelude.{ℕ, zero, suc, ◌+◌, ◌*◌, ◌/◌, ◌%◌, ◌^◌, List, [], ◌∷◌, length}

-- the number that a list of bytes stands for
unfoldable pub value_of_bytes : List ℕ → ℕ
value_of_bytes [] = 0
value_of_bytes (byte ∷ bytes) = byte * 256 ^ length bytes + value_of_bytes bytes

-- a number in so many bytes
unfoldable pub bytes_of : ℕ → ℕ → List ℕ
bytes_of zero n = []
bytes_of (suc width) n = n / 256 ^ width % 256 ∷ bytes_of width n
