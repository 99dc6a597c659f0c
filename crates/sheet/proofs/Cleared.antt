-- A declaration with 0 in all that its kind does not use: it has the rows, the range, the order and the field of the one given, and is itself cleared; nothing is cleared in one that is read from a sheet.
use mathlib.Core.Path.{◌≡◌, refl, sym, ap, ap₂, ◌∙◌}
use mathlib.Core.Bool.{Bool, true, false, true≢false}
use mathlib.Core.List.{List, ◌++◌}
use Prim.Native.Nat.{ℕ, zero, suc, ◌-◌, ◌≤◌, ◌<◌}
use native.Mathlib.Omega.{arith}
use lib.ListN.{length, get_or}
use lib.Dec.{ltb}
use borrow.Author.Tests.{ltb-true, lt-ltb}
use Rattle.quantity.specs.Choice.{pick, both, either}
use Rattle.quantity.specs.Sums.{every, list_of}
use Rattle.quantity.proofs.Laws.{pick_true, le-largest}
use Rattle.quantity.proofs.Sums.{both_true, every-same, every_holds, length-list_of, get_d-list_of, list_of-ext}
use Rattle.flow.specs.Rows.{Row}
use Rattle.flow.specs.Declarations.{by_kind, has_rows, several_range, empty_row, row_of, several_at, row_in_range, declaration_in_range, rises, rows_in_order, row_clear, rows_clear_from, unused_clear, of_one_row, of_several, cleared}
use Rattle.flow.specs.declared.Kind.{Kind}
use Rattle.flow.specs.declared.DeclaredRow.{DeclaredRow}
use Rattle.flow.specs.declared.Declaration.{Declaration}
use Rattle.flow.proofs.Declarations.{kind-of-rows, rows-range, rows-order, one-range, one-order}
use Rattle.sheet.specs.Numbers.{bytes_of}
use Rattle.sheet.specs.Bodies.{row_bodies, pair_body, declaration_tag, declaration_body}

-- what is picked twice by one test is picked once
pick-twice : {A : Type 0} (t : Bool) (a b : A) → pick t (pick t a b) b ≡ pick t a b
pick-twice true a b = refl
pick-twice false a b = refl

-- two picks of what is one where the test holds
pick_same : {A : Type 0} (t : Bool) (a b d : A) → (t ≡ true → a ≡ b) → pick t a d ≡ pick t b d
pick_same true a b d same = same refl
pick_same false a b d same = refl

-- two tests that agree wherever a first one holds
both-same : (a b c : Bool) → (a ≡ true → b ≡ c) → both a b ≡ both a c
both-same true b c same = same refl
both-same false b c same = refl

-- lists of functions that agree below n
list_of-same : (f g : ℕ → DeclaredRow) (n : ℕ) → ((k : ℕ) → k < n → f k ≡ g k) → list_of f n ≡ list_of g n
list_of-same f g n same = list_of-ext empty_row g n (list_of f n) (length-list_of f n) (λ k less. get_d-list_of empty_row f n k less ∙ same k less)

module _ (count : ℕ) (given : ℕ → DeclaredRow) where
  -- row i of several, and of those that are not used
  pub several-row : (i : ℕ) → i < 4 → get_or (of_several count given).rows i empty_row ≡ pick (ltb i count) (given i) empty_row
  several-row i room = get_d-list_of empty_row (λ k. pick (ltb k count) (given k) empty_row) 4 i room

  pub several-used : (i : ℕ) → i < count → i < 4 → several_at (of_several count given) i ≡ row_of (given i)
  several-used i used room = ap row_of (several-row i room ∙ pick_true (ltb i count) (given i) empty_row (lt-ltb i count used))

  -- several rows, as they are read, are cleared already
  pub cleared-several : cleared (of_several count given) ≡ of_several count given
  unfolding cleared
  cleared-several =
      let row : DeclaredRow → ℕ → DeclaredRow = λ here i. pick (ltb i count) here empty_row in
      let rows : list_of (λ i. row (get_or (of_several count given).rows i empty_row) i) 4 ≡ list_of (λ i. row (given i) i) 4 =
      list_of-same _ _ 4 (λ i room. ap (λ (here : DeclaredRow). row here i) (several-row i room) ∙ pick-twice (ltb i count) (given i) empty_row) in
      λ i. record { kind = Kind.Rows; interval = record { 0 = 0 }; quota = record { 0 = 0 }; count = count; rows = rows i }

-- rows that agree below the count are the same several
pub several-same : (count : ℕ) (f g : ℕ → DeclaredRow) → ((i : ℕ) → i < count → f i ≡ g i) → of_several count f ≡ of_several count g
several-same count f g same =
    let rows = list_of-same _ _ 4 (λ i room. pick_same (ltb i count) (f i) (g i) empty_row (λ used. same i (ltb-true i count used))) in
    λ i. record { kind = Kind.Rows; interval = record { 0 = 0 }; quota = record { 0 = 0 }; count = count; rows = rows i }

-- one row is cleared already
pub cleared-one : (kind : Kind) (m Q : ℕ) → has_rows kind ≡ false → cleared (of_one_row kind m Q) ≡ of_one_row kind m Q
unfolding cleared
cleared-one Kind.Smooth m Q one = refl
cleared-one Kind.Uniform m Q one = refl
cleared-one Kind.Rows m Q one = absurd (true≢false one)

-- in both all that is not used is 0
pub unused-several : (count : ℕ) (given : ℕ → DeclaredRow) → unused_clear (of_several count given) ≡ true
unfolding unused_clear row_clear rows_clear_from
unused-several count given = every_holds _ 4 (λ i room. rw (several-row count given i room) (by-test i (ltb i count)))
  where
    by-test : (i : ℕ) (t : Bool) → either t (row_clear (row_of (pick t (given i) empty_row))) ≡ true
    by-test i true = refl
    by-test i false = refl

pub unused-one : (kind : Kind) (m Q : ℕ) → has_rows kind ≡ false → unused_clear (of_one_row kind m Q) ≡ true
unfolding unused_clear row_clear rows_clear_from every
unused-one Kind.Smooth m Q one = refl
unused-one Kind.Uniform m Q one = refl
unused-one Kind.Rows m Q one = absurd (true≢false one)

-- the body of several rows, and of one
pub body-of-rows : (declared : Declaration) → has_rows declared.kind ≡ true → declaration_body declared ≡ row_bodies declared declared.count
unfolding declaration_body
body-of-rows declared several = ap (λ (kind : Kind). by_kind kind (pair_body 0 declared) (pair_body 1 declared) (row_bodies declared declared.count)) (kind-of-rows declared.kind several)

pub body-of-one : (declared : Declaration) → has_rows declared.kind ≡ false → declaration_body declared ≡ pair_body (by_kind declared.kind 0 1 0) declared
unfolding declaration_body
body-of-one declared = by-kind declared.kind
  where
    by-kind : (kind : Kind) → has_rows kind ≡ false → by_kind kind (pair_body 0 declared) (pair_body 1 declared) (row_bodies declared declared.count) ≡ pair_body (by_kind kind 0 1 0) declared
    by-kind Kind.Smooth one = refl
    by-kind Kind.Uniform one = refl
    by-kind Kind.Rows one = absurd (true≢false one)

-- what is left of several rows, and of one
module _ (declared : Declaration) where
  -- the rows as they are given
  abbrev given : ℕ → DeclaredRow
  given i = get_or declared.rows i empty_row

  pub cleared-of-rows : has_rows declared.kind ≡ true → cleared declared ≡ of_several declared.count given
  unfolding cleared
  cleared-of-rows several = rw (kind-of-rows declared.kind several)

  pub cleared-of-one : has_rows declared.kind ≡ false → cleared declared ≡ of_one_row declared.kind declared.interval.0 declared.quota.0
  unfolding cleared
  cleared-of-one = by-kind declared.kind
    where
      by-kind : (kind : Kind) → has_rows kind ≡ false
          → by_kind kind (of_one_row Kind.Smooth declared.interval.0 declared.quota.0) (of_one_row Kind.Uniform declared.interval.0 declared.quota.0) (of_several declared.count given)
          ≡ of_one_row kind declared.interval.0 declared.quota.0
      by-kind Kind.Smooth one = refl
      by-kind Kind.Uniform one = refl
      by-kind Kind.Rows one = absurd (true≢false one)

  pub by_rows : {P : Type 0} → (has_rows declared.kind ≡ true → P) → (has_rows declared.kind ≡ false → P) → P
  by_rows {P} several one = by-test (has_rows declared.kind) refl
    where
      by-test : (t : Bool) → has_rows declared.kind ≡ t → P
      by-test true e = several e
      by-test false e = one e

  -- it is itself cleared
  pub cleared-twice : cleared (cleared declared) ≡ cleared declared
  cleared-twice =
      by_rows
      (λ several. rw (cleared-of-rows several) (cleared-several declared.count given))
      (λ one. rw (cleared-of-one one) (cleared-one declared.kind declared.interval.0 declared.quota.0 one))

  pub cleared-unused : unused_clear (cleared declared) ≡ true
  cleared-unused =
      by_rows
      (λ several. rw (cleared-of-rows several) (unused-several declared.count given))
      (λ one. rw (cleared-of-one one) (unused-one declared.kind declared.interval.0 declared.quota.0 one))

  -- it has room for four rows and the kind of the one given
  pub cleared-length : length (cleared declared).rows ≡ 4
  cleared-length = by_rows (λ several. rw (cleared-of-rows several) (length-list_of _ 4)) (λ one. rw (cleared-of-one one))

  pub cleared-kind : (cleared declared).kind ≡ declared.kind
  cleared-kind = by_rows (λ several. rw (cleared-of-rows several) (sym (kind-of-rows declared.kind several))) (λ one. rw (cleared-of-one one))

  pub cleared-tag : declaration_tag (cleared declared) ≡ declaration_tag declared
  unfolding declaration_tag
  cleared-tag = rw cleared-kind

  -- a row that is used
  row_kept : (i : ℕ) → i < declared.count → declared.count ≤ 4 → several_at (of_several declared.count given) i ≡ several_at declared i
  row_kept i used few = several-used declared.count given i used (omega arith)

  -- and its numbers are in range where those of the one given are
  pub cleared-inside : declaration_in_range (cleared declared) ≡ declaration_in_range declared
  cleared-inside =
      by_rows
      (λ several.
      let rows = of_several declared.count given in
      rw (cleared-of-rows several)
      (rows-range rows refl
      ∙ both-same _ _ _ (λ inside. every-same _ _ declared.count (λ i used. ap row_in_range (row_kept i used (le-largest several_range declared.count inside))))
      ∙ sym (rows-range declared several)))
      (λ one. rw (cleared-of-one one) (one-range (of_one_row declared.kind declared.interval.0 declared.quota.0) one ∙ sym (one-range declared one)))

  -- where they are, the rows stand in the same order and the body is the same
  module _ (inside : declaration_in_range declared ≡ true) where
    rows_few : has_rows declared.kind ≡ true → declared.count ≤ 4
    rows_few several = le-largest several_range declared.count (both_true _ _ (sym (rows-range declared several) ∙ inside)).0

    pub cleared-order : rows_in_order (cleared declared) ≡ rows_in_order declared
    cleared-order =
        by_rows
        (λ several.
        let rows = of_several declared.count given in
        let few = rows_few several in
        rw (cleared-of-rows several)
        (rows-order rows refl
        ∙ every-same _ _ (declared.count - 1) (λ i used. ap₂ rises (row_kept i (omega arith) few) (row_kept (suc i) (omega arith) few))
        ∙ sym (rows-order declared several)))
        (λ one. rw (cleared-of-one one) (one-order (of_one_row declared.kind declared.interval.0 declared.quota.0) one ∙ sym (one-order declared one)))

    bodies_kept : (k : ℕ) → k ≤ declared.count → declared.count ≤ 4 → row_bodies (of_several declared.count given) k ≡ row_bodies declared k
    unfolding row_bodies
    bodies_kept zero used few = refl
    bodies_kept (suc k) used few =
        ap₂ {B = Row} {C = List ℕ} (λ (before : List ℕ) (row : Row). before ++ bytes_of 2 row.interval ++ bytes_of 4 row.quota) (bodies_kept k (omega arith) few) (row_kept k used few)

    pub cleared-body : declaration_body (cleared declared) ≡ declaration_body declared
    unfolding pair_body
    cleared-body =
        by_rows
        (λ several.
        let rows = of_several declared.count given in
        rw (cleared-of-rows several) (body-of-rows rows refl ∙ bodies_kept declared.count (omega arith) (rows_few several) ∙ sym (body-of-rows declared several)))
        (λ one. rw (cleared-of-one one) (body-of-one (of_one_row declared.kind declared.interval.0 declared.quota.0) one ∙ sym (body-of-one declared one)))
