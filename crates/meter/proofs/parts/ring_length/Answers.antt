-- By the three kinds; of several rows by their count.
use Rattle.std.proofs.Common.{sym, ap, ◌∙◌, inl, inr, arith}
use Rattle.flow.specs.Rows.{Row}
use Rattle.meter.proofs.UsableMeter.{ring-smooth, ring-uniform, ring-several, ring-several-none, ring-several-beyond}
use Rattle.meter.proofs.parts.ring_length.Goals as goal

pub returns-in-Smooth : goal.returns-in-Smooth
returns-in-Smooth c = sym (ring-smooth _ c.in-Smooth.is)

pub returns-in-Uniform : goal.returns-in-Uniform
returns-in-Uniform c = sym (ring-uniform _ c.in-Uniform.is)

pub returns-in-Rows : goal.returns-in-Rows
returns-in-Rows c = elim c.if-declaration-gt4.either [
  | inl none ↦ sym (ring-several-none _ c.in-Rows.is none)
  | inr many ↦ sym (ring-several-beyond _ c.in-Rows.is many.1)
]

pub returns-in-Rows-2 : goal.returns-in-Rows-2
returns-in-Rows-2 c =
    let (some, few) = c.if-declaration-gt4.false in
    ap (λ (row : Row). row.interval) c.last_row.ensures ∙ sym (ring-several _ c.in-Rows.is (omega (arith, some)) few)
