-- A delayer's b is the sum of what it holds of each past slot (section 6).
use Rattle.std.specs.Prelude.{◌≡◌}
use Rattle.quantity.specs.Sums.{total}
use Rattle.operator.specs.Held.{Held}
use Rattle.operator.specs.declared.Operator.{Operator}
use Rattle.operator.specs.declared.Operator.TheVariants.{Limiter, Compactor, Expander, Filter, Delayer}

abbrev pub Whole : Operator → Held → Type 0
Whole (Limiter R) x = Unit
Whole (Compactor m) x = Unit
Whole (Expander m) x = Unit
Whole (Filter R) x = Unit
Whole (Delayer d) x = x.b ≡ total x.past d.0
