-- The first row that is found is the first that the rate carries.
use Rattle.std.proofs.Common.{rules, tests, ◌≡◌, ℕ, ◌<◌, length, get_or, true, false, List, Bor, sym, ap, ◌∙◌, arith, take, get_or-take, Option, None, Some}
use Rattle.std.specs.Option.{MatchOption, IsSomeAnd}
use Rattle.std.specs.List.{AllWithin, HoldsAt}
use Rattle.std.proofs.lemmas.Iterator.{YieldsList-from_slice, first_from_find}
use Rattle.flow.specs.Rows.{Row, row_carried}
use Rattle.flow.specs.Declarations.{empty_row, row_of, several_at}
use Rattle.flow.specs.declared.DeclaredRow.{DeclaredRow}
use Rattle.quantity.specs.declared.Interval.{Interval}
use Rattle.figures.specs.Carried.{Reached}
use Rattle.figures.proofs.ClassLaws.{none-carried, reach-first}
use Rattle.figures.proofs.class.Source.reach.Goals as goal

module _ (rows : List DeclaredRow) (R : ℕ) (given : ℕ → Row) (same : (i : ℕ) → i < length rows → row_of (get_or rows i empty_row) ≡ given i) where
  abbrev Carried : DeclaredRow → Type 0
  Carried row = row_carried (row_of row) R ≡ true

  abbrev Left : DeclaredRow → Type 0
  Left row = row_carried (row_of row) R ≡ false

  left : (i : ℕ) → i < length rows → Left (get_or rows i empty_row) → row_carried (given i) R ≡ false
  left i less none = ap (λ (y : Row). row_carried y R) (sym (same i less)) ∙ none

  reached : (row : DeclaredRow) → Carried row × (i : ℕ) × (i < length rows) × HoldsAt (λ y. y ≡ row) rows i × AllWithin Left rows 0 i → Reached given (length rows) R (Some row.interval)
  reached row (carried, i, less, here, before) =
      let known : given i ≡ row_of row = sym (same i less) ∙ ap row_of (here empty_row) in
      let (none, zero) = none-carried given i R (λ j below. left j (omega arith) (before j empty_row (omega arith) below)) in
      let (some, reaches) = reach-first given i R none (ap (λ (y : Row). row_carried y R) known ∙ carried) (length rows) less in
      (some, reaches ∙ ap (λ (y : Row). y.interval) known)

  by_found : (Post : Bor DeclaredRow → Interval → Type 0) → ((x : Bor DeclaredRow) (interval : Interval) → Post x interval → interval ≡ x.now.interval)
      → (found : Option (Bor DeclaredRow)) (answer : Option Interval)
      → MatchOption found (AllWithin Left rows 0 (length rows)) (λ x. Carried x.now × (i : ℕ) × (i < length rows) × HoldsAt (λ y. y ≡ x.now) rows i × AllWithin Left rows 0 i)
      → MatchOption found (answer ≡ None) (λ x. IsSomeAnd answer (Post x)) → Reached given (length rows) R answer
  by_found Post says None None none is = none-carried given (length rows) R (λ j below. left j below (none j empty_row (omega arith) below))
  by_found Post says None (Some interval) none is = cc
  by_found Post says (Some x) None first none = absurd none
  by_found Post says (Some x) (Some interval) first post = rw (says x interval post) (reached x.now first)

pub returns : goal.returns
returns c =
    let declared = c.args.self.now.declared.now in
    let rows = take declared.count declared.rows in
    let all : length rows ≡ declared.count = omega arith in
    let same = λ (i : ℕ) (less : i < length rows). ap row_of (get_or-take declared.count declared.rows i empty_row (omega (arith, all))) in
    let R = c.args.rate.0 in
    let found = first_from_find _ _ c.find.result (Carried rows R (several_at declared) same) (Left rows R (several_at declared) same) c.find.ensures.ran (YieldsList-from_slice rows cc) (λ x q k. search (rules, tests)) (λ x q k. search (rules, tests)) in
    rw all at (by_found rows R (several_at declared) same _ (λ x interval post. search rules) c.find.result c.map.result found c.map.ensures.cases)
