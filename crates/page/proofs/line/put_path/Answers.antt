-- The spaces first, and what stands in the columns over them, from the left; a blank column keeps its spaces.
use mathlib.Core.Path.{refl, ◌∙◌}
use native.Mathlib.Nat.{le_trans}
use native.Mathlib.Omega.{arith}
use lib.ListN.{length-set}
use Rattle.page.specs.Columns.{text, number, characters_of}
use Rattle.page.specs.Pages.{path_name, blank, path_cells}
use Rattle.page.proofs.Decimals.{length-decimal}
use Rattle.page.proofs.Lines.{begins_at, line-put}
use Rattle.page.proofs.line.put_path.Goals as goal

pub put_digits-requires : goal.put_digits-requires
put_digits-requires c = (le_trans (length-decimal _ 19 (omega (arith, c.well_formed))) (omega arith), omega arith)

pub put_digits-requires-2 : goal.put_digits-requires-2
put_digits-requires-2 c = (le_trans (length-decimal _ 19 (omega arith)) (omega arith), omega (arith, c.requires, c.put_digits.auto.lent, c.put_characters.auto.lent, c.put_spaces.auto.lent))

pub shape_of-lent : goal.shape_of-lent
shape_of-lent c = simp length-set (c.put_digits-2.auto.lent ∙ c.put_digits.auto.lent ∙ c.put_characters.auto.lent ∙ c.put_spaces.auto.lent)

pub returns : goal.returns
unfolding path_cells path_name characters_of begins_at
returns c =
    let capacity = c.args.capacity.0 in
    let delay = c.args.delay.0 in
    line-put c.args.lent.now c.args.at blank (text path_name) blank (number capacity) (number delay)
    (omega arith) (omega arith) (omega arith) (length-decimal capacity 19 (omega (arith, c.well_formed))) (length-decimal delay 19 (omega (arith, c.well_formed)))
    c.put_spaces.ensures refl c.put_characters.ensures refl c.put_digits.ensures (rw c.from.ensures at c.put_digits-2.ensures)
