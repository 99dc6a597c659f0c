-- Sections 1 and 7: the largest amount that is given or stored, the last slot's number, the most operators of a path; and the largest numbers of 32 and 64 bits.
use Rattle.std.specs.Prelude.{ℕ, Bool, nat_lt}

abbrev pub largest_amount : ℕ
largest_amount = 1_073_741_823

abbrev pub last_slot : ℕ
last_slot = 1_073_741_822

-- section 7, 1: no slot number is left
unfoldable pub no_slot_left : ℕ → Bool
no_slot_left t = nat_lt last_slot t

abbrev pub most_operators : ℕ
most_operators = 16

abbrev pub largest32 : ℕ
largest32 = 4_294_967_295

abbrev pub largest64 : ℕ
largest64 = 18_446_744_073_709_551_615
