-- The tests in turn; then the table of the rows, handed over as pairs.
use Rattle.std.proofs.Common.{rules}
use mathlib.Core.Path.{◌≡◌, refl, sym, ◌∙◌, ap, subst}
use mathlib.Core.Bool.{Bool, true, false}
use mathlib.Core.List.{List}
use Prim.Native.Nat.{ℕ, ◌<◌}
use native.Mathlib.Omega.{arith}
use lib.ListN.{length}
use lib.Dec.{leb}
use borrow.Author.Tests.{leb-true}
use Rattle.quantity.specs.Choice.{both}
use Rattle.quantity.specs.Sums.{list_of}
use Rattle.quantity.proofs.Sums.{both_true}
use Rattle.flow.specs.Bounds.{shortest_bound, longest_bound, boundable, bound_filled, pair_at, RowInside, Sized}
use Rattle.flow.specs.Declarations.{has_rows, several_at, declaration_in_range}
use Rattle.flow.specs.declared.Declaration.{Declaration}
use Rattle.flow.proofs.Declarations.{several-inside, rows_inside, rows_at, rows-count, most-same}
use Rattle.flow.proofs.bound.fill.Goals as goal
use Rattle.flow.proofs.bound.fill.Goals.{Else-not-in_range, then-not-contains-via-then-not-contains, then-not-contains-via-else-not-contains+then-not-has_rows, then-not-contains-via-else-not-contains+else-not-has_rows+then-not-in_range}

-- a length between the two
between : ℕ → Bool
between n = both (leb shortest_bound n) (leb n longest_bound)

boundable-of : (declared : Declaration) (lent : List ℕ) → boundable declared lent ≡ both (between (length lent)) (both (has_rows declared.kind) (declaration_in_range declared))
unfolding boundable between
boundable-of declared lent = joined (leb shortest_bound (length lent)) (leb (length lent) longest_bound) _
  where
    joined : (a b c : Bool) → both a (both b c) ≡ both (both a b) c
    joined true b c = refl
    joined false b c = refl

pub returns-then-not-contains : goal.returns-then-not-contains
unfolding between bound_filled
returns-then-not-contains c =
    let inside : between (length c.args.table.now) ≡ c.contains.result = search rules in
    let whole = boundable-of c.args.declaration c.args.table.now in
    let fails : boundable c.args.declaration c.args.table.now ≡ false = elim c.then-not-contains.branch [
      | then-not-contains-via-then-not-contains w ↦ whole ∙ rw (inside ∙ w.if-not-contains.true) refl
      | then-not-contains-via-else-not-contains+then-not-has_rows w ↦ whole ∙ rw (inside ∙ w.if-not-contains.false, sym w.has_rows.ensures ∙ w.if-not-has_rows.true) refl
      | then-not-contains-via-else-not-contains+else-not-has_rows+then-not-in_range w ↦
          whole ∙ rw (inside ∙ w.if-not-contains.false, sym w.has_rows.ensures ∙ w.if-not-has_rows.false, sym w.in_range.ensures ∙ w.if-not-in_range.true) refl
    ] in
    rw fails (refl, refl)

-- what the tests leave
module _ (c : Else-not-in_range) where
  inside : between (length c.args.table.now) ≡ true
  unfolding between
  inside = let same : between (length c.args.table.now) ≡ c.contains.result = search rules in same ∙ c.if-not-contains.false

  several : has_rows c.args.declaration.kind ≡ true
  several = sym c.has_rows.ensures ∙ c.if-not-has_rows.false

  ranged : declaration_in_range c.args.declaration ≡ true
  ranged = sym c.in_range.ensures ∙ c.if-not-in_range.false

  sized : Sized c.args.table.now
  unfolding between
  sized = let (long, short) = both_true (leb shortest_bound (length c.args.table.now)) (leb (length c.args.table.now) longest_bound) inside in record { long = leb-true _ _ long; short = leb-true _ _ short }

row_at : (declared : Declaration) → has_rows declared.kind ≡ true → declaration_in_range declared ≡ true → (i : ℕ) → i < declared.count → RowInside (several_at declared i)
row_at declared several inside i less = rw (rows_at declared several i) at (rows_inside declared inside i (rw (rows-count declared several) less))

pub fill_rows-requires : goal.fill_rows-requires
fill_rows-requires c =
    let left = (goal.at.fill_rows-requires c).Else-not-in_range in
    let declared = c.args.declaration in
    let counted = several-inside declared (ranged left) (several left) in (
      sized left,
      omega (arith, counted.0),
      counted.1,
      λ i less. subst RowInside (sym (c.pairs.ensures i (omega (arith, counted.1)))) (row_at declared (several left) (ranged left) i less),
    )

pub returns : goal.returns
unfolding bound_filled
returns c =
    let left = (goal.at.returns c).Else-not-in_range in
    let declared = c.args.declaration in
    let counted = several-inside declared (ranged left) (several left) in
    let pairs = c.pairs in
    let same = most-same (pair_at pairs.result) (several_at declared) declared.count (λ i less. pairs.ensures i (omega (arith, counted.1))) in
    let stands : boundable declared c.args.table.now ≡ true = boundable-of declared c.args.table.now ∙ rw (inside left, several left, ranged left) refl in
    rw stands (refl, c.fill_rows.ensures ∙ ap (λ (most : ℕ → ℕ). list_of most (length c.args.table.now)) same)
