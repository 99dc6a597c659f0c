-- What callers use of sums of quantities: a sum that fits its width is the plain sum, and units over slots are the plain product.
use mathlib.Core.Path.{◌≡◌, refl}
use Prim.Native.Nat.{◌+◌, ◌*◌, ◌≤◌}
use native.Mathlib.Nat.{min-eq_left}
use Rattle.quantity.specs.Limits.{largest32, largest64}
use Rattle.quantity.specs.declared.Slots.{Slots}
use Rattle.quantity.specs.declared.Units.{Units}
use Rattle.quantity.specs.declared.Rate.{Rate}
use Rattle.quantity.specs.Quantities.{slots_sum, rates_sum, units_sum, units_over}

pub slots-sum : (a b : Slots) → a.0 + b.0 ≤ largest32 → (slots_sum a b).0 ≡ a.0 + b.0
unfolding slots_sum
slots-sum a b fits = min-eq_left fits

pub rates-sum : (a b : Rate) → a.0 + b.0 ≤ largest32 → (rates_sum a b).0 ≡ a.0 + b.0
unfolding rates_sum
rates-sum a b fits = min-eq_left fits

pub units-sum : (a b : Units) → a.0 + b.0 ≤ largest64 → (units_sum a b).0 ≡ a.0 + b.0
unfolding units_sum
units-sum a b fits = min-eq_left fits

pub units-over : (rate : Rate) (slots : Slots) → (units_over rate slots).0 ≡ rate.0 * slots.0
unfolding units_over
units-over rate slots = refl
