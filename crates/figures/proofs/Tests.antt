-- A test under another: where the inner one does not hold, neither do both. So no operator of the filter part is out of place.
use mathlib.Core.Path.{◌≡◌, refl}
use mathlib.Core.Bool.{Bool, true, false}
use Rattle.quantity.specs.Choice.{pick}
use Rattle.operator.specs.declared.Operator.{Operator}
use Rattle.figures.specs.Progress.{Progress}
use Rattle.figures.specs.Figures.{is_framed, framed_after_filter}

pub neither : (t : Bool) {inner : Bool} → inner ≡ false → pick t inner false ≡ false
neither true e = e
neither false e = refl

pub placed : (p : Progress) (op : Operator) → is_framed op ≡ false → framed_after_filter p op ≡ false
unfolding framed_after_filter
placed p op e = neither p.in_filter_part e
