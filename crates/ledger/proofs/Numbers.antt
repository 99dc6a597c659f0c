-- Tests and lists that a loop goes through one by one; and a number among the first n with its first place there: below the place it is not met,
-- and at a place below n it is. Functions that agree below n answer alike.
use Rattle.std.proofs.Common.{◌≡◌, ℕ, zero, suc, ◌+◌, ◌<◌, ◌≤◌, Bool, true, false, not, ◌&&◌, ◌||◌, eqb, ltb, List, length, get_or, take, set, sym, refl, ap, ◌∙◌, not-suc-le-zero, le_antisymm, lt_of_not-le, add-one, arith, length-set, length-take-le, get_or-set_other, get_or-take, get_or-set_same, below_none, below_more, ltb-false, ltb-true, le-ltb, lt-ltb, eq-eqb, ne_eqb, eqb-true}
use native.Mathlib.Decide.{dec_le, dec_lt}
use borrow.Author.Tests.{eqb-false}
use Rattle.quantity.specs.Choice.{pick, both, either}
use Rattle.quantity.specs.Sums.{every, list_of}
use Rattle.quantity.proofs.Sums.{every_holds, every-fails, every-same, list_of-ext}
use Rattle.ledger.specs.Records.{among, place_among, all_differ}

-- a list of n elements, the first k of which are each the f of its place
module _ {A : Type 0} (d : A) (f : ℕ → A) (n : ℕ) where
  pub record Written (xs : List A) (k : ℕ) : Type 0 where
    pub few : k ≤ n
    pub sized : length xs ≡ n
    pub each : (j : ℕ) → j < k → get_or xs j d ≡ f j

  pub written-first : {xs : List A} → length xs ≡ n → Written xs 0
  written-first sized = record { few = omega arith; sized = sized; each = below_none _ }

  pub written_next : {xs : List A} {k : ℕ} {x : A} → Written xs k → k < n → x ≡ f k → Written (set xs k x) (k + 1)
  written_next {xs} {k} {x} written less here =
      record {
        few = omega arith;
        sized = length-set xs k x ∙ written.sized;
        each =
            below_more (λ (j : ℕ). get_or (set xs k x) j d ≡ f j) k
            (λ j before. get_or-set_other xs k j x d (λ same. omega arith) ∙ written.each j before)
            (get_or-set_same xs k x d (rw written.sized less) ∙ here);
      }

  pub written_all : {xs : List A} {k : ℕ} → Written xs k → n ≤ k → xs ≡ list_of f n
  written_all {xs} written all = list_of-ext d f n xs written.sized (λ j less. written.each j (omega arith))

module _ (numbers : ℕ → ℕ) (number : ℕ) where
  pub place-among-zero : place_among numbers 0 number ≡ 0
  unfolding place_among
  place-among-zero = refl

  pub place-among-suc : (n : ℕ) →
      place_among numbers (suc n) number
      ≡ pick (ltb (place_among numbers n number) n) (place_among numbers n number) (pick (eqb (numbers n) number) n (suc n))
  unfolding place_among
  place-among-suc n = refl

  -- what a place below n, or n itself, shows
  pub record LinkedOperator (n at : ℕ) : Type 0 where
    pub at_most : at ≤ n
    pub before : (k : ℕ) → k < at → numbers k ≡ number → ⊥
    pub here : at < n → numbers at ≡ number

  pub place_is : (n : ℕ) → LinkedOperator n (place_among numbers n number)
  place_is zero = rw place-among-zero (record { at_most = omega arith; before = λ k less. absurd (not-suc-le-zero less); here = λ less. absurd (not-suc-le-zero less) })
  place_is (suc n) = rw (place-among-suc n) (by_tests (ltb (place_among numbers n number) n) refl (eqb (numbers n) number) refl (place_is n))
    where
      by_tests : (sooner : Bool) → ltb (place_among numbers n number) n ≡ sooner → (met : Bool) → eqb (numbers n) number ≡ met
          → LinkedOperator n (place_among numbers n number) → LinkedOperator (suc n) (pick sooner (place_among numbers n number) (pick met n (suc n)))
      by_tests true e met f was =
          record { at_most = omega (arith, was.at_most); before = was.before; here = λ less. was.here (ltb-true _ _ e) }
      by_tests false e true f was =
          let last : place_among numbers n number ≡ n = omega (arith, was.at_most, ltb-false (place_among numbers n number) n e) in
          record { at_most = omega arith; before = rw last at was.before; here = λ less. eqb-true _ _ f }
      by_tests false e false f was =
          let last : place_among numbers n number ≡ n = omega (arith, was.at_most, ltb-false (place_among numbers n number) n e) in
          record {
            at_most = omega arith;
            before = rw add-one at (below_more (λ (k : ℕ). numbers k ≡ number → ⊥) n (rw last at was.before) (eqb-false _ _ f));
            here = λ less. absurd (omega arith);
          }

  pub place-at-most : (n : ℕ) → place_among numbers n number ≤ n
  place-at-most n = (place_is n).at_most

  -- below the place no number is this one
  pub before-place : (n k : ℕ) → k < place_among numbers n number → numbers k ≡ number → ⊥
  before-place n = (place_is n).before

  -- and at it, it is
  pub at_place : (n : ℕ) → place_among numbers n number < n → numbers (place_among numbers n number) ≡ number
  at_place n = (place_is n).here

  -- only one place shows that
  pub place_of : (n at : ℕ) → LinkedOperator n at → place_among numbers n number ≡ at
  place_of n at found =
      le_antisymm
      (elim (dec_le (place_among numbers n number) at) [
        | yes before ↦ before
        | no behind ↦ absurd (before-place n at (lt_of_not-le behind) (found.here (omega (arith, place-at-most n, lt_of_not-le behind))))
      ])
      (elim (dec_le at (place_among numbers n number)) [
        | yes before ↦ before
        | no behind ↦ absurd (found.before (place_among numbers n number) (lt_of_not-le behind) (at_place n (omega (arith, found.at_most, lt_of_not-le behind))))
      ])

  -- the first n have it not, or it is met at a place of them
  pub not-among : (n : ℕ) → ((k : ℕ) → k < n → numbers k ≡ number → ⊥) → among numbers n number ≡ false
  unfolding among
  not-among n none = ap not (every_holds (λ j. not (eqb (numbers j) number)) n (λ k less. ap not (ne_eqb (numbers k) number (none k less))))

  pub among-at : (n k : ℕ) → k < n → numbers k ≡ number → among numbers n number ≡ true
  unfolding among
  among-at n k less met = ap not (every-fails (λ j. not (eqb (numbers j) number)) n k less (ap not (eq-eqb (numbers k) number met)))

  -- it is among the first n where its place is below n
  pub place-among : (n : ℕ) → ltb (place_among numbers n number) n ≡ among numbers n number
  place-among n =
      elim (dec_lt (place_among numbers n number) n) [
        | yes less ↦ lt-ltb (place_among numbers n number) n less ∙ sym (among-at n (place_among numbers n number) less (at_place n less))
        | no past ↦
            let last : n ≤ place_among numbers n number = omega arith in
            le-ltb (place_among numbers n number) n last ∙ sym (not-among n (λ k less. before-place n k (omega arith)))
      ]

-- tests as the code joins them, where both are asked
pub and-both : (a b : Bool) → (a && b) ≡ both a b
and-both true b = refl
and-both false b = refl

pub or-either : (a b : Bool) → (a || b) ≡ either a b
or-either true b = refl
or-either false b = refl

pub not-both : (a b : Bool) → not (both a (not b)) ≡ either (not a) b
not-both true true = refl
not-both true false = refl
not-both false b = refl

-- one number more
pub among-suc : (numbers : ℕ → ℕ) (number n : ℕ) → among numbers (suc n) number ≡ either (among numbers n number) (eqb (numbers n) number)
unfolding among every
among-suc numbers number n = not-both (every (λ j. not (eqb (numbers j) number)) n) (eqb (numbers n) number)

-- numbers that agree below n
module _ (f g : ℕ → ℕ) (n : ℕ) (same : (k : ℕ) → k < n → f k ≡ g k) where
  pub place-among-same : (number : ℕ) → place_among f n number ≡ place_among g n number
  place-among-same number =
      let found = place_is g number n in
      place_of f number n (place_among g n number)
      (record {
        at_most = found.at_most;
        before = λ k less met. found.before k less (sym (same k (omega (arith, found.at_most))) ∙ met);
        here = λ less. same (place_among g n number) less ∙ found.here less;
      })

  pub among_same : (number : ℕ) → among f n number ≡ among g n number
  unfolding among
  among_same number = ap not (every-same (λ j. not (eqb (f j) number)) (λ j. not (eqb (g j) number)) n (λ k less. ap (λ (x : ℕ). not (eqb x number)) (same k less)))

-- and so do the tests that all differ
pub all-differ-same : (f g : ℕ → ℕ) (n : ℕ) → ((k : ℕ) → k < n → f k ≡ g k) → all_differ f n ≡ all_differ g n
unfolding all_differ
all-differ-same f g n same =
    every-same (λ j. not (among f j (f j))) (λ j. not (among g j (g j))) n
    (λ j less. ap not (among_same f g j (λ k before. same k (omega arith)) (f j) ∙ ap (among g j) (same j less)))

-- the first n of a list, which are lent as a part of it, and stand for numbers
module _ (xs : List ℕ) (numbers : ℕ → ℕ) (n : ℕ) (fits : n ≤ length xs) (each : (k : ℕ) → k < n → get_or xs k 0 ≡ numbers k) where
  front_at : (k : ℕ) → k < n → get_or (take n xs) k 0 ≡ numbers k
  front_at k less = get_or-take n xs k 0 less ∙ each k less

  pub place-in-front : (number : ℕ) → place_among (λ k. get_or (take n xs) k 0) (length (take n xs)) number ≡ place_among numbers n number
  place-in-front number = rw (length-take-le n xs fits) (place-among-same (λ k. get_or (take n xs) k 0) numbers n front_at number)
