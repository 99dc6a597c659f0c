-- The library's quotient is ⌈x/y⌉ as it is defined.
use mathlib.Core.Path.{◌∙◌}
use Rattle.quantity.proofs.Rounding.{div-ceil}
use Rattle.figures.proofs.class.sent_in.Goals as goal

pub returns : goal.returns
returns c = c.div_ceil.ensures ∙ div-ceil c.args.units.0 c.args.rate.0 c.requires.0
