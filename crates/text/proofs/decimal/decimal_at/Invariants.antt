-- The invariant: `value` is the number of the digits before `next`, and the digits from there on are those that are left.
use Prim.Native.Nat.{◌-◌}
use lib.ListN.{length}
use Rattle.text.proofs.DecimalLaws.{ReadDigits}
use Rattle.text.proofs.decimal.decimal_at.Given as goal

abbrev pub invariant-loop-digit : goal.invariant-loop-digit
invariant-loop-digit l = ReadDigits l.text l.from l.value l.next

abbrev pub decreases-loop-digit : goal.decreases-loop-digit
decreases-loop-digit l = length l.text - l.next
