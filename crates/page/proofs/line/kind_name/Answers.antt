-- The operator's name is its kind's.
use mathlib.Core.Path.{◌≡◌, refl, ◌∙◌}
use mathlib.Core.List.{[]}
use lib.ListN.{get_or}
use Rattle.operator.specs.declared.Operator.{Operator}
use Rattle.operator.specs.declared.Operator.TheVariants.{Limiter, Compactor, Expander, Filter, Delayer}
use Rattle.operator.specs.Operators.{name_of}
use Rattle.sheet.specs.Bodies.{operator_byte}
use Rattle.page.specs.Pages.{kind_names}
use Rattle.page.proofs.line.kind_name.Goals as goal

named : (operator : Operator) → name_of operator ≡ get_or kind_names (operator_byte operator) []
unfolding name_of operator_byte kind_names
named (Limiter x) = refl
named (Compactor x) = refl
named (Expander x) = refl
named (Filter x) = refl
named (Delayer x) = refl

pub returns : goal.returns
returns c = c.as_bytes.ensures.value ∙ c.name.ensures ∙ named c.args.operator
