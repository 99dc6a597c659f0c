-- Tests, numbers and places with the first one apart: what the records' definitions say of the first n, an account's say of its list.
use Rattle.std.proofs.Common.{◌≡◌, ℕ, zero, suc, Bool, true, false, cond, not, eqb, ltb, ◌+◌, ◌<◌, ◌≤◌, List, ◌∷◌, length, get_or, take, position, Some, None, sym, refl, ap, ◌∙◌, ap₂, arith, length-take-le, lt-ltb}
use Rattle.std.specs.List.{position_or_len}
use Rattle.std.proofs.lemmas.List.Recursion.{is_position_or_len}
use lib.Dec.{leb-suc-suc}
use Rattle.quantity.specs.Choice.{pick, both, either}
use Rattle.quantity.specs.Sums.{every}
use Rattle.quantity.proofs.Sums.{every_first}
use Rattle.ledger.specs.Records.{among, place_among}
use Rattle.ledger.proofs.Numbers.{place-in-front}

not-both : (a b : Bool) → not (both (not a) b) ≡ either a (not b)
not-both true b = refl
not-both false b = refl

module _ (numbers : ℕ → ℕ) (number : ℕ) where
  pub among_none : among numbers 0 number ≡ false
  unfolding among every
  among_none = refl

  pub among_first : (n : ℕ) → among numbers (suc n) number ≡ either (eqb (numbers 0) number) (among (λ k. numbers (suc k)) n number)
  unfolding among
  among_first n = ap not (every_first (λ j. not (eqb (numbers j) number)) n) ∙ not-both (eqb (numbers 0) number) (every (λ k. not (eqb (numbers (suc k)) number)) n)

  -- the next place is the place behind the first, one on
  later : (first here below : Bool) (place n : ℕ) → ltb (suc place) (suc n) ≡ below
      → pick (ltb (pick first 0 (suc place)) (suc n)) (pick first 0 (suc place)) (pick here (suc n) (suc (suc n))) ≡ pick first 0 (suc (pick below place (pick here n (suc n))))
  later true here below place n e = rw (lt-ltb 0 (suc n) (omega arith))
  later false here true place n e = rw e
  later false true false place n e = rw e
  later false false false place n e = rw e

  pub place-first : (n : ℕ) → place_among numbers (suc n) number ≡ pick (eqb (numbers 0) number) 0 (suc (place_among (λ k. numbers (suc k)) n number))
  unfolding place_among
  place-first zero = refl
  place-first (suc n) =
      ap (λ (p : ℕ). pick (ltb p (suc n)) p (pick (eqb (numbers (suc n)) number) (suc n) (suc (suc n)))) (place-first n)
      ∙ later (eqb (numbers 0) number) (eqb (numbers (suc n)) number) (ltb (place_among (λ k. numbers (suc k)) n number) n) (place_among (λ k. numbers (suc k)) n number) n (leb-suc-suc (suc (place_among (λ k. numbers (suc k)) n number)) n)

-- the first place of a number in a list is the library's position
place-listed : (xs : List ℕ) (number : ℕ) → place_among (λ k. get_or xs k 0) (length xs) number ≡ position_or_len (λ other. eqb other number) xs
unfolding place_among
place-listed xs number =
    is_position_or_len (λ xs. place_among (λ k. get_or xs k 0) (length xs) number) (λ other. eqb other number) refl
    (λ x xs. place-first (λ k. get_or (x ∷ xs) k 0) number (length xs) ∙ next (eqb x number) (place_among (λ k. get_or xs k 0) (length xs) number)) xs
  where
    next : (t : Bool) (n : ℕ) → pick t 0 (suc n) ≡ cond t 0 (1 + n)
    next true n = refl
    next false n = omega arith

pick-cond : {A : Type 0} (t : Bool) (a b : A) → cond t a b ≡ pick t a b
pick-cond true a b = refl
pick-cond false a b = refl

-- and of the numbers in the front of a list it is their place
pub position-placed : (xs : List ℕ) (numbers : ℕ → ℕ) (n number : ℕ) → n ≤ length xs → ((k : ℕ) → k < n → get_or xs k 0 ≡ numbers k)
    → position (λ other. eqb other number) (take n xs) ≡ pick (ltb (place_among numbers n number) n) (Some (place_among numbers n number)) None
position-placed xs numbers n number fits each =
    let place : position_or_len (λ other. eqb other number) (take n xs) ≡ place_among numbers n number = sym (place-listed (take n xs) number) ∙ place-in-front xs numbers n fits each number in
    ap₂ (λ (k m : ℕ). cond (ltb k m) (Some k) None) place (length-take-le n xs fits) ∙ pick-cond (ltb (place_among numbers n number) n) (Some (place_among numbers n number)) None
