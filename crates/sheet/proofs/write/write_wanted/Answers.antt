-- The header, and the number behind it.
use Prim.Native.Nat.{◌+◌}
use mathlib.Core.Path.{refl}
use mathlib.Core.List.{◌∷◌}
use Rattle.sheet.specs.Numbers.{bytes_of}
use Rattle.sheet.specs.Bodies.{wanted_body}
use Rattle.sheet.specs.Fields.{field_of}
use Rattle.sheet.proofs.Runs.{run-behind}
use Rattle.sheet.proofs.write.write_wanted.Goals as goal

pub returns : goal.returns
unfolding bytes_of wanted_body field_of
returns c = let a = c.args in run-behind a.sheet.now a.at (a.at + 3) (0x02 ∷ bytes_of 2 4) (bytes_of 4 a.wanted.0) c.write_header.ensures c.write_number.ensures refl
