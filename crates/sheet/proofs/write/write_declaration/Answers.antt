-- By the arm that the kind took.
use mathlib.Core.Path.{ap}
use native.Mathlib.Omega.{arith}
use Rattle.flow.specs.Declarations.{has_rows}
use Rattle.sheet.proofs.WriteLaws.{field-of-smooth, field-of-uniform, field-of-several, several-few}
use Rattle.sheet.proofs.write.write_declaration.Goals as goal

pub write_rows-requires : goal.write_rows-requires
write_rows-requires c = (several-few c.args.declaration (ap has_rows c.in-Rows.is) c.requires.0, omega (arith, c.requires.1))

pub returns-in-Smooth : goal.returns-in-Smooth
returns-in-Smooth c = rw (field-of-smooth c.args.declaration c.in-Smooth.is) c.write_one_row.ensures

pub returns-in-Uniform : goal.returns-in-Uniform
returns-in-Uniform c = rw (field-of-uniform c.args.declaration c.in-Uniform.is) c.write_one_row-in-Uniform.ensures

pub returns-in-Rows : goal.returns-in-Rows
returns-in-Rows c = rw (field-of-several c.args.declaration c.in-Rows.is) c.write_rows.ensures
