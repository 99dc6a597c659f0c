-- The field has 10 bytes, or 3 and 6 for each row.
use Rattle.std.proofs.Common.{◌≡◌, ◌⊎◌, inl, inr, length, sym, ap, ◌∙◌, arith}
use Rattle.flow.specs.Declarations.{has_rows}
use Rattle.flow.specs.declared.Declaration.{Declaration}
use Rattle.flow.specs.declared.Kind.{Kind}
use Rattle.sheet.proofs.WriteLaws.{declaration_field, field-of-smooth, field-of-uniform, field-of-several, several-few, length-field-of-one, length-field-of-rows}
use Rattle.sheet.proofs.write.wanted_at.Goals as goal

one-row : (declared : Declaration) → (declared.kind ≡ Kind.Smooth) ⊎ (declared.kind ≡ Kind.Uniform) → length (declaration_field declared) ≡ 10
one-row declared (inl smooth) = ap length (field-of-smooth declared smooth) ∙ length-field-of-one 0 declared
one-row declared (inr uniform) = ap length (field-of-uniform declared uniform) ∙ length-field-of-one 1 declared

pub returns-in-Smooth : goal.returns-in-Smooth
returns-in-Smooth c = c.end.ensures ∙ sym (one-row c.args.declaration c.in-Smooth.is)

pub of_rows-requires : goal.of_rows-requires
of_rows-requires c = several-few c.args.declaration (ap has_rows c.in-Rows.is) c.requires

pub end-requires-in-Rows : goal.end-requires-in-Rows
end-requires-in-Rows c = rw c.of_rows.ensures (omega (arith, several-few c.args.declaration (ap has_rows c.in-Rows.is) c.requires))

pub returns-in-Rows : goal.returns-in-Rows
returns-in-Rows c = let declared = c.args.declaration in rw (c.end-in-Rows.ensures, c.of_rows.ensures) (sym (ap length (field-of-several declared c.in-Rows.is) ∙ length-field-of-rows declared))
