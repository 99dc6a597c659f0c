-- The filter part of a path: the filters and delayers behind its framed operators (section 4; source document 000, Theorems 8 to 10).
use Rattle.std.specs.Prelude.{ℕ, ◌+◌, ◌≤◌, min}
use Rattle.quantity.specs.Sums.{total}
use Rattle.flow.specs.Flows.{Flow}
use Rattle.operator.specs.OnFlows.{none, output_on}
use Rattle.operator.specs.Operators.{limiter}

-- P, the least filter rate so far, if there is a filter so far
pub data Slowest : Type 0 where
  unfiltered : Slowest
  filtered : ℕ → Slowest

-- P with one more filter of rate R
unfoldable pub slower : Slowest → ℕ → Slowest
slower unfiltered R = filtered R
slower (filtered P) R = filtered (min P R)

-- what a limiter P sends of r in n slots; all of r before any filter
unfoldable pub limited : Slowest → Flow → ℕ → ℕ
limited unfiltered r n = total r n
limited (filtered P) r n = total (output_on (limiter P) r none) n

-- what a limiter P would have sent of r by slot n has left as s by slot n + e
abbrev pub Served : Slowest → ℕ → Flow → Flow → Type 0
Served P e r s = (n : ℕ) → limited P r n ≤ total s (n + e)
