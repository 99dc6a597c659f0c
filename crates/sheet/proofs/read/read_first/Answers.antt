-- By the first tag.
use Rattle.std.proofs.Common.{sym, ◌∙◌}
use Rattle.sheet.specs.Sheets.{in_rows_form}
use Rattle.sheet.proofs.read.read_first.Goals as goal

pub read_several_rows-requires : goal.read_several_rows-requires
unfolding in_rows_form
read_several_rows-requires c = sym c.begins_with.ensures ∙ c.if-begins_with.true

pub read_one_row-requires : goal.read_one_row-requires
unfolding in_rows_form
read_one_row-requires c = sym c.begins_with.ensures ∙ c.if-begins_with.false
