-- Serves the private contracts of an operator within a path, and need not be believed: no public call or part cites it.
use Rattle.std.specs.Prelude.{◌≡◌, ℕ, ◌+◌, true, false, List}
use Rattle.operator.specs.Operators.{held_after}
use Rattle.operator.specs.Single.{uses_held}
use Rattle.operator.specs.Ring.{path_holds, path_least, path_greatest, path_unready}
use Rattle.operator.specs.declared.ring.PathOperator.{PathOperator}

-- an operator that is no delayer may send from so much to so much of what is there, and so much stands beside it then
pub record SendsWithin (x : PathOperator) (words : List ℕ) (input low high there beside : ℕ) : Type 0 where
  pub apart : uses_held x.operator ≡ true
  pub ready : path_unready x words input ≡ false
  pub least : low ≡ path_least x words input
  pub greatest : high ≡ path_greatest x words input
  pub all : there ≡ (path_holds x words).b + input
  pub holds : (s : ℕ) → beside ≡ (held_after x.operator (path_holds x words) input s).h
