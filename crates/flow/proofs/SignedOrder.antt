-- Numbers below 2 ^ 31 are in the same order as the signed numbers of their bits.
use mathlib.Core.Path.{◌≡◌, ap₂}
use Prim.Native.Nat.{ℕ, ◌≤◌}
use native.Mathlib.Omega.{arith}
use lib.Dec.{leb}
use lib.IntN.{pos}
use lib.Signed.{le_z}
use mir.Syntax.{w32}
use mir.Val.{to_z}
use mir.Facts.{to_z-of_z}
use Rattle.flow.specs.Bounds.{largest_signed}

pub signed-order : (a b : ℕ) → a ≤ largest_signed → b ≤ largest_signed → le_z (to_z w32 a) (to_z w32 b) ≡ leb a b
signed-order a b small few = ap₂ le_z (to_z-of_z {w = w32} {z = pos a} (record { sfits = omega arith })) (to_z-of_z {w = w32} {z = pos b} (record { sfits = omega arith }))
