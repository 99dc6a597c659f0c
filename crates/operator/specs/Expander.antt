-- Section 3. Expander m: s is b + r in the last slot of each block, else anything from 0 to b + r.
use Rattle.std.specs.Prelude.{ℕ, ◌+◌, ◌%◌, ◌==◌}
use Rattle.quantity.specs.Choice.{pick}
use Rattle.operator.specs.Held.{Held, keeps}

-- the last slot of a block: the next slot is divisible by m
unfoldable pub expander_least : ℕ → ℕ → Held → ℕ → ℕ
expander_least m t x r = pick ((t + 1) % m == 0) (x.b + r) 0

unfoldable pub expander_greatest : Held → ℕ → ℕ
expander_greatest x r = x.b + r

unfoldable pub expander_after : Held → ℕ → ℕ → Held
expander_after x r s = keeps x r s
