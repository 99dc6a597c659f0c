-- Section 1: quantities of one kind are added to one another, and a rate over slots makes units. A sum stops at the largest number of its width.
use Rattle.std.specs.Prelude.{◌+◌, ◌*◌, min}
use Rattle.quantity.specs.Limits.{largest32, largest64}
use Rattle.quantity.specs.declared.Slots.{Slots}
use Rattle.quantity.specs.declared.Units.{Units}
use Rattle.quantity.specs.declared.Rate.{Rate}

-- slots and rates are 32 bits wide
unfoldable pub slots_sum : Slots → Slots → Slots
slots_sum a b = record { 0 = min (a.0 + b.0) largest32 }

unfoldable pub rates_sum : Rate → Rate → Rate
rates_sum a b = record { 0 = min (a.0 + b.0) largest32 }

-- units are 64 bits wide
unfoldable pub units_sum : Units → Units → Units
units_sum a b = record { 0 = min (a.0 + b.0) largest64 }

-- 32 bits by 32 always fit 64
unfoldable pub units_over : Rate → Slots → Units
units_over rate slots = record { 0 = rate.0 * slots.0 }
