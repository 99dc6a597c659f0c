-- Before operator k the sum is that of the operators before it, at most 64 slots each.
use mathlib.Core.Path.{◌≡◌}
use Prim.Native.Nat.{ℕ, ◌*◌, ◌≤◌}
use lib.ListN.{get_or}
use Rattle.quantity.specs.Sums.{total}
use Rattle.sheet.specs.Paths.{no_linked_operator}
use Rattle.sheet.specs.declared.PathValue.{PathValue}
use Rattle.operator.specs.Single.{words_used}
use Rattle.figures.proofs.slots_before.Given as goal

abbrev pub slots_at : PathValue → ℕ → ℕ
slots_at path k = words_used (get_or path.operators k no_linked_operator).operator

abbrev pub invariant-loop-linked : goal.invariant-loop-linked
invariant-loop-linked l = (l.slots ≡ total (slots_at l.path) l.linked-index) × (l.slots ≤ 64 * l.linked-index)
