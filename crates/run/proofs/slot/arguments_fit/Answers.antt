-- The count, the input, and the choices joined.
use mathlib.Core.Path.{ap, ◌∙◌}
use Prim.Native.Nat.{ℕ}
use lib.Dec.{leb}
use Rattle.quantity.specs.Limits.{largest_amount}
use Rattle.run.specs.Calls.{call_of}
use Rattle.run.proofs.SlotLaws.{choices-within, arguments-tested}
use Rattle.run.proofs.slot.arguments_fit.Goals as goal

pub returns : goal.returns
returns c =
    let a = c.args in
    arguments-tested a.operators (call_of a.input a.choices.now) (ap (λ (n : ℕ). leb n largest_amount) c.joined.ensures ∙ choices-within a.choices.now)
