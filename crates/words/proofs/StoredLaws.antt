-- Stored amounts that fit are at most the limit, and 0 where they are not used; so the sum of words is that of the used ones.
-- And refusal 1 of numbers, in plain facts; and as many words are left where one is noted.
use Rattle.std.proofs.Common.{◌≡◌, ℕ, ◌+◌, ◌≤◌, Bool, true, false, not, eqb, ltb, List, [], ◌∷◌, ◌++◌, length, set, sym, refl, ap, ◌∙◌, lt_of_not-le, arith, length-set, ltb-false, le-ltb, eq-eqb, eqb-true, leb-true}
use native.Mathlib.Nat.{le_dest}
use native.Mathlib.Decide.{dec_le}
use lib.ListN.{get_or-eq_default}
use borrow.Author.Tests.{not-false}
use Rattle.quantity.specs.Choice.{pick, either, any_of}
use Rattle.quantity.specs.Limits.{largest_amount, last_slot}
use Rattle.quantity.specs.Sums.{total, every}
use Rattle.quantity.proofs.Laws.{either-false}
use Rattle.std.specs.List.{fold, sum}
use Rattle.quantity.proofs.Sums.{total-zero, total_first, every-at, total-rest}
use Rattle.words.specs.Stored.{word_at, stored_fits, word_fits, word_noted}

-- words added one after the other
total_on : (words : List ℕ) (a : ℕ) → fold (λ a w. a + w) a words ≡ a + total (word_at words) (length words)
total_on [] a = omega (arith, total-zero (word_at []))
total_on (word ∷ words) a = omega (arith, total_on words (a + word), total_first (word_at (word ∷ words)) (length words))

pub sum-total : (words : List ℕ) → sum words ≡ total (word_at words) (length words)
sum-total words = omega (arith, total_on words 0)

pub stored-le : (used : Bool) (amount : ℕ) → stored_fits used amount ≡ true → amount ≤ largest_amount
unfolding stored_fits
stored-le true amount fits = leb-true amount largest_amount fits
stored-le false amount fits = let none = eqb-true amount 0 fits in omega arith

pub stored-none : (used : Bool) (amount : ℕ) → used ≡ false → stored_fits used amount ≡ true → amount ≡ 0
unfolding stored_fits
stored-none true amount unused fits = let never : ◌≡◌ {A = ℕ} 0 1 = cc in omega arith
stored-none false amount unused fits = eqb-true amount 0 fits

module _ (used : ℕ) (words : List ℕ) (fit : every (word_fits used words) (length words) ≡ true) where
  -- a word that is not used is 0, and so is what is read past the end
  pub word_none : (j : ℕ) → used ≤ j → word_at words j ≡ 0
  unfolding word_fits
  word_none j unused =
      elim (dec_le (length words) j) [
        | yes past ↦ get_or-eq_default words 0 past
        | no less ↦ stored-none (ltb j used) (word_at words j) (le-ltb j used unused) (every-at (word_fits used words) (length words) fit j (lt_of_not-le less))
      ]

  pub total-used : used ≤ length words → total (word_at words) (length words) ≡ total (word_at words) used
  total-used within = let (k, e) = le_dest within in ap (total (word_at words)) (sym e) ∙ total-rest (word_at words) used k word_none

pub either-last : (t : Bool) → either t false ≡ t
either-last true = refl
either-last false = refl

pub any_of-append : (tests more : List Bool) → any_of (tests ++ more) ≡ either (any_of tests) (any_of more)
any_of-append [] more = refl
any_of-append (true ∷ tests) more = refl
any_of-append (false ∷ tests) more = any_of-append tests more

-- so many words are lent as there should be, a slot number is left, and two amounts are within the limit
pub record Fit (lent count slot first second : ℕ) : Type 0 where
  pub sized : lent ≡ count
  pub slot_left : slot ≤ last_slot
  pub first_le : first ≤ largest_amount
  pub second_le : second ≤ largest_amount

abbrev pub unfit_tests : ℕ → ℕ → ℕ → ℕ → ℕ → List Bool
unfit_tests lent count slot first second = not (eqb lent count) ∷ ltb last_slot slot ∷ ltb largest_amount first ∷ ltb largest_amount second ∷ []

module _ (lent count slot first second : ℕ) where
  pub fit : any_of (unfit_tests lent count slot first second) ≡ false → Fit lent count slot first second
  fit passed =
      let (length-test, rest) = either-false (not (eqb lent count)) _ passed in
      let (slot-test, rest) = either-false (ltb last_slot slot) _ rest in
      let (first-test, rest) = either-false (ltb largest_amount first) _ rest in
      let (second-test, rest) = either-false (ltb largest_amount second) _ rest in
      record {
        sized = eqb-true lent count (not-false _ length-test);
        slot_left = ltb-false last_slot slot slot-test;
        first_le = ltb-false largest_amount first first-test;
        second_le = ltb-false largest_amount second second-test;
      }

  -- where the words and the slot fit, the amounts alone are tested
  pub amounts-tested : lent ≡ count → slot ≤ last_slot → any_of (unfit_tests lent count slot first second) ≡ either (ltb largest_amount first) (ltb largest_amount second)
  amounts-tested sized slot-left = rw (eq-eqb lent count sized, le-ltb last_slot slot slot-left) (ap (either (ltb largest_amount first)) (either-last (ltb largest_amount second)))

  pub unfit-second : lent ≡ count → slot ≤ last_slot → first ≤ largest_amount → ltb largest_amount second ≡ any_of (unfit_tests lent count slot first second)
  unfit-second sized slot-left first-le =
      sym (amounts-tested sized slot-left ∙ ap (λ (t : Bool). either t (ltb largest_amount second)) (le-ltb largest_amount first first-le))

  pub none-unfit : Fit lent count slot first second → any_of (unfit_tests lent count slot first second) ≡ false
  none-unfit all =
      sym (unfit-second all.sized all.slot_left all.first_le) ∙ le-ltb largest_amount second all.second_le

pub length-noted : (words : List ℕ) (at word : ℕ) → length (word_noted words at word) ≡ length words
unfolding word_noted
length-noted words at word = by-test (ltb at (length words))
  where
    by-test : (t : Bool) → length (pick t (set words at word) words) ≡ length words
    by-test true = length-set words at word
    by-test false = refl
