-- Section 3. Compactor m: s is the old b in slots divisible by m, else 0.
use Rattle.std.specs.Prelude.{ℕ, ◌%◌, ◌==◌}
use Rattle.quantity.specs.Choice.{pick}
use Rattle.operator.specs.Held.{Held, keeps}

unfoldable pub compactor_least : ℕ → ℕ → Held → ℕ → ℕ
compactor_least m t x r = pick (t % m == 0) x.b 0

unfoldable pub compactor_greatest : ℕ → ℕ → Held → ℕ → ℕ
compactor_greatest m t x r = pick (t % m == 0) x.b 0

unfoldable pub compactor_after : Held → ℕ → ℕ → Held
compactor_after x r s = keeps x r s
