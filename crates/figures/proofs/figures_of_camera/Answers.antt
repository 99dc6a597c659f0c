-- The constant table is the bound of the declaration's rows.
use Rattle.figures.proofs.CameraTable.{table}
use Rattle.figures.proofs.EachOperator.{slots-few}
use Rattle.figures.proofs.SheetAnswer.{readable, camera-lent}
use Rattle.figures.proofs.figures_of_camera.Goals as goal

pub figures_read-requires : goal.figures_read-requires
unfolding table
figures_read-requires c =
    let value = c.args.path.now in
    (readable value _ c.requires.0 (λ inside. camera-lent value.declaration _ (slots-few c.requires.0) c.requires.1 c.requires.2), c.requires.3)
