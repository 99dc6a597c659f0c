-- A row: numbers that stand in a text one behind the other, or the text's fault.
use Rattle.std.specs.Prelude.{ℕ, Result, Ok, Err, List, ◌∷◌, length}
use Rattle.quantity.specs.Lent.{written_over}

-- what stands between two
abbrev pub space : ℕ
space = 32

-- all the numbers, or the fault
abbrev pub Row : Type 0 → Type 0
Row Fault = Result (List ℕ) Fault

-- a number and the row behind it
unfoldable pub ahead : {Fault : Type 0} → ℕ → Row Fault → Row Fault
ahead n (Ok ns) = Ok (n ∷ ns)
ahead n (Err why) = Err why

-- what is answered: how many there are, or the fault
unfoldable pub answer_of : {Fault : Type 0} → Row Fault → Result ℕ Fault
answer_of (Ok ns) = Ok (length ns)
answer_of (Err why) = Err why

-- what lent memory holds then: the numbers from index 0 on, and behind them what it held; where there is a fault, all that it held
unfoldable pub stored_in : {Fault : Type 0} → List ℕ → Row Fault → List ℕ
stored_in lent (Ok ns) = written_over ns lent
stored_in lent (Err why) = lent
