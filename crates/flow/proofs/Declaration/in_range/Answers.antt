-- By the kind; of several rows the count, then every row below it.
use mathlib.Core.Path.{◌≡◌, sym, ◌∙◌, ap}
use mathlib.Core.Bool.{Bool, true, ◌&&◌}
use native.Mathlib.Omega.{arith}
use borrow.Author.Tests.{leb-true}
use lib.Dec.{leb}
use Rattle.quantity.specs.Sums.{every}
use Rattle.quantity.proofs.Sums.{both_true}
use Rattle.flow.specs.declared.Declaration.{Declaration}
use Rattle.quantity.specs.Choice.{both}
use Rattle.quantity.specs.Ranges.{in_range}
use Rattle.flow.specs.Declarations.{has_rows, several_at, empty_row, row_of, row_in_range, declaration_in_range}
use Rattle.flow.proofs.Folds.{fold-taken, and-both}
use Rattle.flow.proofs.Declarations.{rows-range, one-range}
use Rattle.flow.proofs.Declaration.in_range.Goals as goal

module _ (declared : Declaration) where
  counted : Bool
  counted = leb 2 declared.count && leb declared.count 4

  several-range : has_rows declared.kind ≡ true → declaration_in_range declared ≡ both counted (every (λ i. row_in_range (several_at declared i)) declared.count)
  unfolding in_range counted
  several-range several = rows-range declared several ∙ ap (λ (t : Bool). both t (every (λ i. row_in_range (several_at declared i)) declared.count)) (sym (and-both (leb 2 declared.count) (leb declared.count 4)))

pub returns-then-several : goal.returns-then-several
unfolding counted
returns-then-several c =
    let self = c.args.self in
    let (two, four) = both_true (leb 2 self.count) (leb self.count 4) (sym (and-both (leb 2 self.count) (leb self.count 4)) ∙ c.if-several.true) in
    let each = fold-taken (λ row. row_in_range (row_of row)) empty_row self.rows self.count (omega (arith, leb-true self.count 4 four)) in
    let whole = several-range self (sym c.has_rows.ensures ∙ c.if-has_rows.true) in
    c.rows_in_range.ensures ∙ each ∙ sym (rw c.if-several.true at whole)

pub returns-else-several : goal.returns-else-several
unfolding counted
returns-else-several c =
    let whole = several-range c.args.self (sym c.has_rows.ensures ∙ c.if-has_rows.true) in
    c.if-several.false ∙ sym (rw c.if-several.false at whole)

pub returns-else-has_rows : goal.returns-else-has_rows
returns-else-has_rows c =
    let self = c.args.self in
    c.in_range.ensures ∙ ap row_in_range c.only_row.ensures ∙ sym (one-range self (sym c.has_rows.ensures ∙ c.if-has_rows.false))
