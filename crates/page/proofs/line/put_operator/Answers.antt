-- The spaces first, and what stands in the columns over them, from the left.
use mathlib.Core.Path.{◌∙◌}
use mathlib.Core.List.{[]}
use native.Mathlib.Nat.{le_trans}
use native.Mathlib.Omega.{arith}
use lib.ListN.{get_or, length-set}
use Rattle.sheet.specs.Bodies.{operator_byte}
use Rattle.page.specs.Columns.{text, number, characters_of}
use Rattle.page.specs.Pages.{kind_names, operator_cells}
use Rattle.page.proofs.Decimals.{length-decimal}
use Rattle.page.proofs.Columns.{name-fits}
use Rattle.page.proofs.Lines.{begins_at, line-put}
use Rattle.page.proofs.line.put_operator.Goals as goal

pub put_digits-requires : goal.put_digits-requires
put_digits-requires c = (le_trans (length-decimal _ 3 (omega arith)) (omega arith), omega arith)

pub put_characters-requires : goal.put_characters-requires
put_characters-requires c = rw c.kind_name.ensures (let fits = name-fits c.args.linked.operator in omega (arith, c.requires, c.put_digits.auto.lent, c.put_spaces.auto.lent))

pub put_digits-requires-2 : goal.put_digits-requires-2
put_digits-requires-2 c = (le_trans (length-decimal _ 3 (omega (arith, c.requires))) (omega arith), omega (arith, c.requires, c.put_characters.auto.lent, c.put_digits.auto.lent, c.put_spaces.auto.lent))

pub put_digits-requires-3 : goal.put_digits-requires-3
put_digits-requires-3 c = (le_trans (length-decimal _ 19 (omega (arith, c.well_formed))) (omega arith), omega (arith, c.requires, c.put_digits-2.auto.lent, c.put_characters.auto.lent, c.put_digits.auto.lent, c.put_spaces.auto.lent))

pub put_digits-requires-4 : goal.put_digits-requires-4
put_digits-requires-4 c = (le_trans (length-decimal _ 19 (omega arith)) (omega arith), omega (arith, c.requires, c.put_digits-3.auto.lent, c.put_digits-2.auto.lent, c.put_characters.auto.lent, c.put_digits.auto.lent, c.put_spaces.auto.lent))

pub shape_of-lent : goal.shape_of-lent
shape_of-lent c = simp length-set (c.put_digits-4.auto.lent ∙ c.put_digits-3.auto.lent ∙ c.put_digits-2.auto.lent ∙ c.put_characters.auto.lent ∙ c.put_digits.auto.lent ∙ c.put_spaces.auto.lent)

pub returns : goal.returns
unfolding operator_cells characters_of begins_at
returns c =
    let index = c.args.index in
    let operator = c.args.linked.operator in
    let link = c.args.linked.link.0 in
    let capacity = c.args.figure.capacity.0 in
    let delay = c.args.figure.delay.0 in
    line-put c.args.lent.now c.args.at (number index) (text (get_or kind_names (operator_byte operator) [])) (number link) (number capacity) (number delay)
    (length-decimal index 3 (omega (arith, c.requires))) (name-fits operator) (length-decimal link 3 (omega (arith, c.requires))) (length-decimal capacity 19 (omega (arith, c.well_formed))) (length-decimal delay 19 (omega (arith, c.well_formed)))
    c.put_spaces.ensures c.put_digits.ensures (rw c.kind_name.ensures at c.put_characters.ensures) (rw c.from.ensures at c.put_digits-2.ensures) c.put_digits-3.ensures (rw c.from-2.ensures at c.put_digits-4.ensures)
