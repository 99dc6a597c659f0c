-- Section 3. Filter R: beside it runs a limiter R on the same input, holding h after this slot.
-- s is from b + r − h (0 if negative) to b + r: document 003's formula (10), not its formula (9).
use Rattle.std.specs.Prelude.{ℕ, ◌+◌, ◌-◌, min}
use Rattle.operator.specs.Held.{Held}

-- h after this slot: the limiter's own b + r − s
unfoldable pub beside_after : ℕ → Held → ℕ → ℕ
beside_after R x r = x.h + r - min (x.h + r) R

unfoldable pub filter_least : ℕ → Held → ℕ → ℕ
filter_least R x r = x.b + r - beside_after R x r

unfoldable pub filter_greatest : Held → ℕ → ℕ
filter_greatest x r = x.b + r

unfoldable pub filter_after : ℕ → Held → ℕ → ℕ → Held
filter_after R x r s = record { b = x.b + r - s; h = beside_after R x r; past = λ a. 0 }
