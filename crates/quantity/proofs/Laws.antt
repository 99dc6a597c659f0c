-- How a test that was taken picks: the one law behind every checking constructor and every list of refusals.
use mathlib.Core.Path.{◌≡◌, refl, ap, sym, ◌∙◌}
use mathlib.Core.Bool.{Bool, true, false, false≢true}
use Prim.Native.Nat.{ℕ, ◌≤◌, ◌<◌}
use lib.Dec.{leb}
use borrow.Author.Tests.{leb-true, ltb-false, lt-ltb, le-ltb}
use Rattle.quantity.specs.Limits.{last_slot, no_slot_left}
use Rattle.quantity.specs.Choice.{pick, either}
use Rattle.quantity.specs.Ranges.{Range, in_range, checked_in}
use Rattle.std.specs.Prelude.{Option, Some, None}
use Rattle.quantity.proofs.Sums.{both_true}

pub pick_true : {A : Type 0} (t : Bool) (a b : A) → t ≡ true → pick t a b ≡ a
pick_true t a b e = ap (λ (x : Bool). pick x a b) e

pub pick-false : {A : Type 0} (t : Bool) (a b : A) → t ≡ false → pick t a b ≡ b
pick-false t a b e = ap (λ (x : Bool). pick x a b) e

-- what is made of a pick is made of both; `rest` goes on to the picks inside the second
pub pick-map : {A B : Type 0} (f : A → B) (t : Bool) (a b : A) {c : B} → f b ≡ c → f (pick t a b) ≡ pick t (f a) c
pick-map f true a b rest = refl
pick-map f false a b rest = rest

-- which way a test went, from what it did not pick
pub picked-true : {A : Type 0} (t : Bool) (a b : A) {r : A} → r ≡ pick t a b → (r ≡ b → ⊥) → t ≡ true
picked-true true a b e other = refl
picked-true false a b e other = absurd (other e)

pub picked-false : {A : Type 0} (t : Bool) (a b : A) {r : A} → r ≡ pick t a b → (r ≡ a → ⊥) → t ≡ false
picked-false true a b e other = absurd (other e)
picked-false false a b e other = refl

-- what an answer tells of the test that picked it: one that holds a value, that the test holds and which value it is; the other, that it fails
pub record Told {K A : Type 0} (t : Bool) (value : K) (found : K → A) (none : A) (answer : A) : Type 0 where
  pub within : {k : K} → answer ≡ found k → (t ≡ true) × (k ≡ value)
  pub outside : answer ≡ none → t ≡ false

-- so it is of every pair of answers that differ, the first by the value that it holds
pub told : {K A : Type 0} (t : Bool) (value : K) (found : K → A) (none : A) → ((k : K) → found k ≡ none → ◌≡◌ {A = Bool} false true) → ((j k : K) → found j ≡ found k → j ≡ k) → {answer : A}
    → answer ≡ pick t (found value) none → Told t value found none answer
told true value found none differ holds picked = record { within = λ e. (refl, holds _ _ (sym e ∙ picked)); outside = λ e. sym (differ _ (sym picked ∙ e)) }
told false value found none differ holds picked = record { within = λ e. absurd (false≢true (differ _ (sym e ∙ picked))); outside = λ e. refl }

-- an option tells whether its test held
pub option-told : {K : Type 0} {t : Bool} {value : K} {answer : Option K} → answer ≡ pick t (Some value) None → Told t value Some None answer
option-told = told _ _ _ _ (λ k e. cc) (λ j k e. cc)

-- what a checking constructor tells of its number, which is n: for every kind of number
pub checked-told : {A : Type 0} (range : Range) (of : ℕ → A) {number n : ℕ} → number ≡ n → {answer : Option A} → answer ≡ checked_in range of number → Told (in_range range n) (of n) Some None answer
unfolding checked_in
checked-told range of same answered = option-told (answered ∙ ap (checked_in range of) same)

-- a value in range lies from the least to the largest
module _ (range : Range) (value : ℕ) (inside : in_range range value ≡ true) where
  pub least-le : range.least ≤ value
  unfolding in_range
  least-le = leb-true range.least value (both_true (leb range.least value) (leb value range.largest) inside).0

  pub le-largest : value ≤ range.largest
  unfolding in_range
  le-largest = leb-true value range.largest (both_true (leb range.least value) (leb value range.largest) inside).1

-- whether a slot number is left, in plain facts
module _ (t : ℕ) where
  pub slot-left : no_slot_left t ≡ false → t ≤ last_slot
  unfolding no_slot_left
  slot-left left = ltb-false last_slot t left

  pub left-of-le : t ≤ last_slot → no_slot_left t ≡ false
  unfolding no_slot_left
  left-of-le within = le-ltb last_slot t within

  pub none-left-of-lt : last_slot < t → no_slot_left t ≡ true
  unfolding no_slot_left
  none-left-of-lt past = lt-ltb last_slot t past

-- the test of either, from the two
pub either_first : (a b : Bool) → a ≡ true → either a b ≡ true
either_first a b e = ap (λ (x : Bool). either x b) e

pub either_second : (a b : Bool) → b ≡ true → either a b ≡ true
either_second true b e = refl
either_second false b e = e

pub either-none : (a b : Bool) → a ≡ false → b ≡ false → either a b ≡ false
either-none a b e f = ap (λ (x : Bool). either x b) e ∙ f

pub either-false : (a b : Bool) → either a b ≡ false → (a ≡ false) × (b ≡ false)
either-false true b e = (e, let z : ◌≡◌ {A = Bool} true false = e in (cc))
either-false false b e = (refl, e)
