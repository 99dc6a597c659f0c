-- The line never has more bytes than its memory.
use Rattle.std.proofs.Common.{◌≤◌}
use Rattle.console.proofs.input.gather_bytes.Given as goal

abbrev pub invariant-loop-byte : goal.invariant-loop-byte
invariant-loop-byte l = l.longer ≤ 1023
