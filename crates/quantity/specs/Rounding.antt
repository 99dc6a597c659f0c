-- ⌈x/y⌉, by which section 4 rounds up.
use Rattle.std.specs.Prelude.{ℕ, ◌+◌, ◌-◌, ◌/◌}

-- the least k with x ≤ k·y, for y of 1 or more
unfoldable pub round_up : ℕ → ℕ → ℕ
round_up x y = (x + (y - 1)) / y
