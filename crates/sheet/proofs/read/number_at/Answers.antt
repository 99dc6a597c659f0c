use Rattle.std.proofs.Common.{◌<◌, ◌≤◌, ◌+◌, ◌-◌, take, drop, refl, arith}
use lib.Seq.{take_all}
use Rattle.sheet.specs.Numbers.{value_of_bytes}
use Rattle.sheet.proofs.ReadLaws.{number-next, power_small, power-next, handed, handed-length, handed-byte}
use Rattle.sheet.proofs.read.number_at.Goals as goal
use Rattle.sheet.proofs.read.number_at.Goals.{In-loop-byte, After-from}

pub loop-byte-init : goal.loop-byte-init
unfolding value_of_bytes
loop-byte-init c = (omega arith, refl)

inside : (c : In-loop-byte) → c.loop-byte.byte-index < c.args.width
inside c = omega (arith, handed-length c.args.bytes.now c.args.at c.args.width c.requires.1)

pub overflow_mul-value : goal.overflow_mul-value
overflow_mul-value c = let less = inside (goal.at.overflow_mul-value c).In-loop-byte in omega (arith, power_small c.loop-byte.byte-index (omega arith))

byte : (c : After-from) → c.from.result ≤ 255
byte c =
    let k = c.loop-byte.byte-index in
    let less : k < c.args.width = omega (arith, handed-length c.args.bytes.now c.args.at c.args.width c.requires.1) in
    omega (arith, c.from.ensures, handed-byte c.args.bytes.now c.args.at c.args.width k less, c.type_inv.bytes (c.args.at + k))

pub loop-byte-preserved : goal.loop-byte-preserved
loop-byte-preserved c =
    let k = c.loop-byte.byte-index in
    let digits = take (c.args.at + c.args.width - c.args.at) (drop c.args.at c.args.bytes.now) in
    let next = number-next digits k c.loop-byte-test.true in
    (omega (arith, byte (goal.at.loop-byte-preserved c).After-from, power-next k), rw (next, ← c.loop-byte.invariant.1, ← c.from.ensures))

pub returns : goal.returns
returns c =
    let digits = take (c.args.at + c.args.width - c.args.at) (drop c.args.at c.args.bytes.now) in
    rw (take_all c.loop-byte.byte-index digits c.loop-byte-test.false, handed c.args.bytes.now c.args.at c.args.width) at c.loop-byte.invariant.1
