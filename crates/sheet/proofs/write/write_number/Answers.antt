-- The number's last bytes are written as one run.
use Rattle.std.proofs.Common.{◌≡◌, ◌-◌, take, arith}
use lib.Seq.{take_all}
use Rattle.sheet.specs.Numbers.{bytes_of}
use Rattle.sheet.proofs.Numbers.{length-bytes_of}
use Rattle.sheet.proofs.Runs.{run-put}
use Rattle.sheet.proofs.WriteLaws.{last-bytes}
use Rattle.sheet.proofs.write.write_number.Goals as goal

pub returns : goal.returns
returns c =
    let a = c.args in
    let size = length-bytes_of a.width a.value in
    let all : take (4 - (4 - a.width)) (bytes_of a.width a.value) ≡ bytes_of a.width a.value = take_all (4 - (4 - a.width)) (bytes_of a.width a.value) (omega (arith, c.requires.0)) in
    rw (c.copy_from_slice.ensures.after, c.to_be_bytes-bytes.ensures, last-bytes a.width a.value c.requires.0, all) (run-put a.sheet.now (bytes_of a.width a.value) a.at a.width size c.requires.1)
