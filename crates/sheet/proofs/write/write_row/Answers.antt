-- The interval, and the quota behind it.
use Prim.Native.Nat.{◌+◌}
use mathlib.Core.Path.{refl}
use Rattle.sheet.specs.Numbers.{bytes_of}
use Rattle.sheet.proofs.Runs.{run-behind}
use Rattle.sheet.proofs.write.write_row.Goals as goal

pub returns : goal.returns
unfolding bytes_of
returns c = let a = c.args in run-behind a.sheet.now a.at (a.at + 2) (bytes_of 2 a.row.interval.0) (bytes_of 4 a.row.quota.0) c.write_number.ensures c.write_number-2.ensures refl
