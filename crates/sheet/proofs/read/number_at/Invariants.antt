-- The invariant: `value` is the number in the bytes so far, which is below 256 ^ k and so never wraps.
use Rattle.std.proofs.Common.{◌≡◌, ◌<◌, ◌^◌, take}
use Rattle.sheet.specs.Numbers.{value_of_bytes}
use Rattle.sheet.proofs.read.number_at.Given as goal

abbrev pub invariant-loop-byte : goal.invariant-loop-byte
invariant-loop-byte l = (l.value < 256 ^ l.byte-index) × (l.value ≡ value_of_bytes (take l.byte-index l.byte-items))
