-- The numbers are tested, and then the field is written.
use mathlib.Core.Path.{sym, ◌∙◌}
use native.Mathlib.Omega.{arith}
use Rattle.sheet.proofs.SheetWritten.{wrong-house, house-right}
use Rattle.sheet.proofs.write.write_profile.Goals as goal

pub returns-then-not-in_range : goal.returns-then-not-in_range
returns-then-not-in_range c value house = wrong-house value c.args.sheet.now (omega arith) c.args.house house (sym c.in_range.ensures ∙ c.if-not-in_range.true)

pub write_house-requires : goal.write_house-requires
write_house-requires c = (sym c.in_range.ensures ∙ c.if-not-in_range.false, omega arith)

pub returns : goal.returns
returns c value house = rw c.end.ensures (house-right value c.args.sheet.now (omega arith) c.args.house house (sym c.in_range.ensures ∙ c.if-not-in_range.false) c.write_house.ensures)
