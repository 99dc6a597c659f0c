-- The field is judged by its header, then by its body; then what lies behind it decides. The invariant: the first k operators are stored, and the operators behind them are empty.
use Prim.Native.Nat.{◌≤◌}
use mathlib.Core.Path.{◌≡◌}
use mathlib.Core.List.{◌++◌}
use lib.ListN.{take, replicate}
use Rattle.quantity.specs.Sums.{list_of}
use Rattle.sheet.specs.Paths.{no_linked_operator}
use Rattle.sheet.specs.House.{house_operator}
use Rattle.sheet.proofs.read.read_profile.Given as goal

abbrev pub invariant-loop-k : goal.invariant-loop-k
invariant-loop-k l = (l.count ≤ 15) × (l.operators ≡ take 16 (list_of (house_operator l.house) l.k ++ replicate 16 no_linked_operator))
