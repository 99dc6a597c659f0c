-- ⌈x/y⌉ is enough, and it is the least that is: both from x / y · y ≤ x < x / y · y + y.
use Prim.Native.Nat.{ℕ, suc, ◌+◌, ◌-◌, ◌*◌, ◌<◌, ◌≤◌}
use native.Mathlib.Nat.{lt-div-mul-add, div-lt_iff_lt-mul, le_of_suc-le-suc, suc-mul, lt_of_mul-lt-mul_right}
use mathlib.Core.Path.{◌≡◌}
use Rattle.std.proofs.Common.{le_antisymm}
use Rattle.std.specs.Int.{div_ceil}
use Rattle.std.proofs.lemmas.Grind.{div_ceil_times}
use native.Mathlib.Omega.{arith}
use Rattle.quantity.specs.Rounding.{round_up}

pub round-up-enough : (x y : ℕ) → 1 ≤ y → x ≤ round_up x y * y
unfolding round_up
round-up-enough x y large = omega (arith, lt-div-mul-add {a = x + (y - 1)} {b = y} large)

pub round-up-least : (x y k : ℕ) → 1 ≤ y → x ≤ k * y → round_up x y ≤ k
unfolding round_up
round-up-least x y k large h = le_of_suc-le-suc ((div-lt_iff_lt-mul {k = y} {x = x + (y - 1)} {y = suc k} large).1 (omega (arith, suc-mul k y)))

-- so the library's quotient is it too
pub div-ceil : (x y : ℕ) → 1 ≤ y → div_ceil x y ≡ round_up x y
div-ceil x y large =
    let (enough, least) = div_ceil_times x y large in
    let below : div_ceil x y * y < suc (round_up x y) * y = omega (arith, least, round-up-enough x y large, suc-mul (round_up x y) y) in
    le_antisymm (le_of_suc-le-suc (lt_of_mul-lt-mul_right y below)) (round-up-least x y (div_ceil x y) large enough)
