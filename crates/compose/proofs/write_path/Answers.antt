use Rattle.std.proofs.lemmas.List.{length-take-le}
use Rattle.std.proofs.Common.{sym}
use Rattle.compose.proofs.Written.{written_within}
use Rattle.compose.proofs.write_path.Goals as goal

pub slice_bounds-write_bytes-end : goal.slice_bounds-write_bytes-end
slice_bounds-write_bytes-end g c = sym (length-take-le _ _ (rw c.write.ensures.1 (written_within _ _ _ c.in-Ok.ensures.0)))
