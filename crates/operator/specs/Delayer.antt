-- Section 3. Delayer d: s is from the units still held that entered d slots ago to b + r; oldest leave first.
use Rattle.std.specs.Prelude.{ℕ, zero, suc, ◌+◌, ◌-◌, nat_lt}
use Rattle.quantity.specs.Choice.{pick}
use Rattle.quantity.specs.Sums.{total}
use Rattle.operator.specs.Held.{Held}

-- in a slot, its input not yet sent, the units that entered a slots ago: the input itself is 0 slots old
unfoldable pub of_age : Held → ℕ → ℕ → ℕ
of_age x r zero = r
of_age x r (suc a) = x.past a

-- the units of ages above a, up to d
unfoldable pub older_than : ℕ → Held → ℕ → ℕ → ℕ
older_than d x r a = total (of_age x r) (suc d) - total (of_age x r) (suc a)

unfoldable pub delayer_least : ℕ → Held → ℕ → ℕ
delayer_least d x r = of_age x r d

unfoldable pub delayer_greatest : Held → ℕ → ℕ
delayer_greatest x r = x.b + r

-- what stays of age a: the older ones take their part of s first, and only what s leaves over is taken here
unfoldable pub stays_of : ℕ → Held → ℕ → ℕ → ℕ → ℕ
stays_of d x r s a = of_age x r a - (s - older_than d x r a)

unfoldable pub delayer_after : ℕ → Held → ℕ → ℕ → Held
delayer_after d x r s = record { b = x.b + r - s; h = 0; past = λ a. pick (nat_lt a d) (stays_of d x r s a) 0 }
