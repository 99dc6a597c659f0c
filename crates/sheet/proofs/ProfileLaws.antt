-- What the functions of the house profiles rest on: the delayer's slots fit their widths.
use Prim.Native.Nat.{ℕ, ◌+◌, ◌*◌, ◌≤◌}
use native.Mathlib.Nat.{add-mul, mul-le-mul, mul-le-mul_left, mul-le-mul_right}
use native.Mathlib.Omega.{arith}
use Rattle.quantity.specs.Rounding.{round_up}
use Rattle.quantity.proofs.Rounding.{round-up-least}

pub product_le : {a b : ℕ} → a ≤ 65535 → b ≤ 65535 → a * b ≤ 4294836225
product_le p q = mul-le-mul p q

pub product-some : {a b : ℕ} → 1 ≤ a → 1 ≤ b → 1 ≤ a * b
product-some p q = mul-le-mul p q

-- ⌈(L-as-C + X-as-R)/(R-as-C)⌉ is at most L + X
pub slots-le : (L X R C : ℕ) → 1 ≤ R → 1 ≤ C → round_up (L * C + X * R) (R * C) ≤ L + X
slots-le L X R C some-R some-C =
    let less-C : C ≤ R * C = omega (arith, mul-le-mul_right {m = 1} {n = R} C some-R) in
    let less-R : R ≤ R * C = omega (arith, mul-le-mul_left R some-C) in
    round-up-least (L * C + X * R) (R * C) (L + X) (product-some some-R some-C)
    (omega (arith, add-mul L X (R * C), mul-le-mul_left L less-C, mul-le-mul_left X less-R))
