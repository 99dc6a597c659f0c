-- The text that stands for a value.
use Rattle.std.specs.Prelude.{ℕ, ◌+◌, ◌/◌, ◌%◌, List, [], ◌∷◌, ◌++◌, codes, decimal, ltb}
use Rattle.quantity.specs.Choice.{pick}
use Rattle.quantity.specs.Refusals.{refusal_text}
use Rattle.quantity.specs.declared.refusal.Refusal.{Refusal}
use Rattle.std.specs.Prelude.{Result, Ok, Err}
use Rattle.console.specs.declared.fault.Failure.{Failure}
use Rattle.console.specs.declared.fault.Failure.TheVariants.{Wrong, Refused, Io}
use Rattle.console.specs.Faults.{fault_text}

-- '0' to '9', then 'a' to 'f'
abbrev pub digit_of : ℕ → ℕ
digit_of value = pick (ltb value 10) (value + 48) (value + 87)

-- a byte's two digits, the high one first
abbrev pub hexadecimal_of : ℕ → List ℕ
hexadecimal_of byte = digit_of (byte / 16) ∷ digit_of (byte % 16) ∷ []

-- the refusal, and the line's end
abbrev pub refused_text : Refusal → List ℕ
refused_text why = refusal_text why ++ codes "\n"

-- the number of a line and what is wrong with it
abbrev pub error_text : ℕ → List ℕ → List ℕ
error_text line what = codes "error " ++ decimal line ++ codes " " ++ what ++ codes "\n"

-- what is said of a line: its answer is printed by itself
abbrev pub said : ℕ → Result (Unit {0}) Failure → List ℕ
said line (Ok done) = []
said line (Err (Wrong why)) = error_text line (fault_text why)
said line (Err (Refused why)) = refused_text why
said line (Err (Io failed)) = []
