use mathlib.Core.Path.{sym, ◌∙◌}
use Prim.Native.Nat.{ℕ, ◌+◌}
use native.Mathlib.Omega.{arith}
use lib.ListN.{take, replicate, length-replicate}
use lib.Seq.{length-take-le}
use Rattle.flow.specs.Bounds.{shortest_bound}
use Rattle.figures.proofs.SheetAnswer.{readable, filled-part}
use Rattle.figures.proofs.figures_of_rows.Goals as goal

pub figures_of_camera-requires : goal.figures_of_camera-requires
figures_of_camera-requires c = (c.requires.0, c.requires.1, sym c.is_camera.ensures ∙ c.if-is_camera.true, c.requires.2)

pub figures_read-requires : goal.figures_read-requires
figures_read-requires c =
    let declared = c.args.path.now.declaration in
    let (same, few) = c.slots_before-asked.ensures in
    let filled = c.fill in
    let asked = shortest_bound + c.slots_before-asked.result in (
      readable c.args.path.now _ c.requires.0
          (λ inside.
          filled-part declared (take asked (replicate 1985 0)) filled.new.table _ same few (length-take-le asked (replicate 1985 0) (omega (arith, length-replicate {A = ℕ} 1985 0))) c.requires.1
          filled.auto.table filled.ensures.1 inside),
      c.requires.2,
    )
