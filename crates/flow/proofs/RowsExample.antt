-- Document 02, item 6: its own rows, computed by the definition.
use mathlib.Core.Path.{◌≡◌, refl}
use Prim.Native.Nat.{ℕ, zero, suc}
use Rattle.quantity.specs.Rounding.{round_up}
use Rattle.flow.specs.Rows.{Row, smaller, with_units, least_of, no_rows, behind_rows, most_of_rows, units_in, rows_most}

-- rows (1, 9), (3, 15), (12, 48)
abbrev pub example_rows : ℕ → Row
example_rows zero = record { interval = 1; quota = 9 }
example_rows (suc zero) = record { interval = 3; quota = 15 }
example_rows (suc (suc i)) = record { interval = 12; quota = 48 }

pub rows-example : (rows_most example_rows 3 1 ≡ 9) × (rows_most example_rows 3 8 ≡ 45) × (rows_most example_rows 3 12 ≡ 48) × (rows_most example_rows 3 16 ≡ 72)
unfolding round_up smaller with_units least_of no_rows behind_rows most_of_rows units_in rows_most
rows-example = (refl, refl, refl, refl)
