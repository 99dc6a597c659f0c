-- The invariant: `count` bytes are read, and a byte is due at `at`, with which the rest begins.
use Prim.Native.Nat.{◌-◌, ◌≤◌}
use lib.ListN.{length, drop}
use Rattle.text.specs.Hexadecimals.{bytes_due, bytes_in}
use Rattle.text.proofs.RowLaws.{Reached}
use Rattle.text.proofs.hexadecimal.judge.Given as goal

abbrev pub invariant-loop-from : goal.invariant-loop-from
invariant-loop-from l = (l.count ≤ l.at) × (l.at ≤ length l.text) × Reached (bytes_in (drop l.from l.text)) l.count (bytes_due (drop l.at l.text))

abbrev pub decreases-loop-from : goal.decreases-loop-from
decreases-loop-from l = length l.text - l.at
