-- The quotient is ⌈Q/m⌉ as it is defined, of an interval of 1 or more.
use Rattle.std.proofs.Common.{sym, ap, ◌∙◌, subst, arith}
use Rattle.quantity.specs.Rounding.{round_up}
use Rattle.quantity.proofs.Rounding.{div-ceil}
use Rattle.flow.specs.Rows.{Row}
use Rattle.flow.specs.Bounds.{RowInside}
use Rattle.flow.specs.Declarations.{row_of}
use Rattle.flow.proofs.Declarations.{last-inside}
use Rattle.ledger.proofs.holding.reserved_by.Goals as goal
use Rattle.ledger.proofs.holding.reserved_by.Goals.{After-last_row-row}

-- the last row is in its ranges
inside : (c : After-last_row-row) → RowInside (row_of c.last_row-row.result)
inside c = subst RowInside (sym c.last_row-row.ensures) (last-inside _ c.requires)

pub div_ceil-requires : goal.div_ceil-requires
div_ceil-requires c = let row = inside (goal.at.div_ceil-requires c).After-last_row-row in omega (arith, row.large)

pub returns : goal.returns
returns c =
    let row = c.last_row-row.result in
    let known = inside (goal.at.returns c).After-last_row-row in
    c.div_ceil.ensures ∙ div-ceil row.quota.0 row.interval.0 known.large ∙ ap (λ (r : Row). round_up r.quota r.interval) c.last_row-row.ensures
