-- The characters as one run.
use mathlib.Core.Path.{refl}
use lib.ListN.{length}
use Rattle.sheet.proofs.Runs.{run-put}
use Rattle.page.proofs.column.put_characters.Goals as goal

pub returns : goal.returns
returns c = let a = c.args in rw c.copy_from_slice.ensures.after (run-put a.lent.now a.characters.now a.at (length a.characters.now) refl c.requires)
