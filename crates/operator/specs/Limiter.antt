-- Section 3. Limiter R: s is the smaller of b + r and R.
use Rattle.std.specs.Prelude.{ℕ, ◌+◌, min}
use Rattle.operator.specs.Held.{Held, keeps}

unfoldable pub limiter_least : ℕ → Held → ℕ → ℕ
limiter_least R x r = min (x.b + r) R

unfoldable pub limiter_greatest : ℕ → Held → ℕ → ℕ
limiter_greatest R x r = min (x.b + r) R

unfoldable pub limiter_after : Held → ℕ → ℕ → Held
limiter_after x r s = keeps x r s
