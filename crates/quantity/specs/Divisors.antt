-- The greatest common divisor, which the change of interval of section 4 goes by.
use Rattle.std.specs.Prelude.{◌≡◌, ℕ, zero, suc, ◌*◌, ◌%◌, eqb}
use Rattle.quantity.specs.Choice.{pick}

-- d divides n: n is a multiple of d
abbrev pub Divides : ℕ → ℕ → Type 0
Divides d n = (k : ℕ) × (k * d ≡ n)

-- so many of Euclid's steps at the most, each from (a, b) to (b, a mod b) until b is 0
unfoldable pub euclid : ℕ → ℕ → ℕ → ℕ
euclid zero a b = a
euclid (suc steps) a b = pick (eqb b 0) a (euclid steps b (a % b))

-- the greatest common divisor: b falls with each step, so that n steps are enough
unfoldable pub gcd : ℕ → ℕ → ℕ
gcd m n = euclid n m n
