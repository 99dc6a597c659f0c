-- The library's quotient is ⌈x/y⌉ as it is defined.
use mathlib.Core.Path.{◌∙◌}
use Rattle.quantity.proofs.Rounding.{div-ceil}
use Rattle.figures.proofs.class.blocks_begun.Goals as goal

pub returns : goal.returns
returns c = c.from.ensures ∙ c.div_ceil.ensures ∙ div-ceil c.args.slots c.args.interval.0 c.requires
