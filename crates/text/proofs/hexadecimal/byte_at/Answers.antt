-- Two digits, each below 16, make a byte.
use mathlib.Core.Path.{◌≡◌}
use mathlib.Core.Bool.{true}
use Prim.Native.Nat.{◌+◌}
use native.Mathlib.Omega.{arith}
use lib.ListN.{get_or}
use Rattle.text.specs.Hexadecimals.{is_hexadecimal_digit, digit_value, byte_of}
use Rattle.text.proofs.Picked.{picked-some}
use Rattle.text.proofs.HexadecimalLaws.{digit-within, value-small}
use Rattle.text.proofs.hexadecimal.byte_at.Goals as goal
use Rattle.text.proofs.hexadecimal.byte_at.Goals.{In_ok-high, In_ok-low}

high : (c : In_ok-high)
    → let a = c.args in
    (is_hexadecimal_digit (get_or a.text.now a.at 0) ≡ true) × (c.in_ok-high.high ≡ digit_value (get_or a.text.now a.at 0))
high c = picked-some _ _ _ c.in_ok-high.ensures

low : (c : In_ok-low)
    → let a = c.args in
    (is_hexadecimal_digit (get_or a.text.now (a.at + 1) 0) ≡ true) × (c.in_ok-low.low ≡ digit_value (get_or a.text.now (a.at + 1) 0))
low c = picked-some _ _ _ c.in_ok-low.ensures

pub overflow_add-at : goal.overflow_add-at
overflow_add-at c =
    let a = c.args in
    omega (arith, digit-within a.text.now a.at (high (goal.at.overflow_add-at c).In_ok-high).0)

pub overflow_mul-result : goal.overflow_mul-result
overflow_mul-result c =
    let (is-digit, value) = high (goal.at.overflow_mul-result c).In_ok-high in
    omega (arith, value-small _ is-digit)

pub overflow_add-result : goal.overflow_add-result
overflow_add-result c =
    let (is-digit, value) = high (goal.at.overflow_add-result c).In_ok-high in
    let (is-digit-2, value-2) = low (goal.at.overflow_add-result c).In_ok-low in
    omega (arith, value-small _ is-digit, value-small _ is-digit-2)

pub returns : goal.returns
unfolding byte_of
returns c =
    let (is-digit, value) = high (goal.at.returns c).In_ok-high in
    let (is-digit-2, value-2) = low (goal.at.returns c).In_ok-low in
    rw (is-digit, is-digit-2, value, value-2)
