-- A fold that joins tests by "and" is the test of each.
use mathlib.Core.Path.{◌≡◌, refl, sym, ◌∙◌, ap}
use mathlib.Core.Bool.{Bool, true, false, ◌&&◌, ◌||◌}
use mathlib.Core.List.{List}
use Prim.Native.Nat.{ℕ, zero, suc, ◌+◌, ◌≤◌}
use native.Mathlib.Nat.{add-zero, add-suc}
use native.Mathlib.Numerals.{add-one}
use native.Mathlib.Omega.{arith}
use lib.Dec.{leb}
use lib.ListN.{length, get_or, take}
use lib.Seq.{take-length}
use borrow.Author.Tests.{lt-leb, le-leb}
use Rattle.std.specs.List.{fold, enumerate_from}
use Rattle.std.proofs.lemmas.List.FromFn.{length-enumerate_from, get_or-enumerate_from}
use Rattle.std.proofs.lemmas.List.Sums.{fold_more}
use Rattle.quantity.specs.Choice.{both, either}
use Rattle.quantity.specs.Sums.{every}
use Rattle.quantity.proofs.Sums.{every-same}

pub and-both : (a b : Bool) → a && b ≡ both a b
and-both true b = refl
and-both false b = refl

module _ {A : Type 0} (test : A → Bool) (d : A) where
  pub fold-taken : (xs : List A) (n : ℕ) → n ≤ length xs → fold (λ fit x. fit && test x) true (take n xs) ≡ every (λ i. test (get_or xs i d)) n
  unfolding every
  fold-taken xs zero inside = refl
  fold-taken xs (suc n) inside =
      let more = fold_more (λ fit x. fit && test x) true xs n d (omega arith) in
      rw (add-one n) at more ∙ and-both (fold (λ fit x. fit && test x) true (take n xs)) (test (get_or xs n d)) ∙ ap (λ (t : Bool). both t (test (get_or xs n d))) (fold-taken xs n (omega arith))

  pub fold-all : (xs : List A) → fold (λ fit x. fit && test x) true xs ≡ every (λ i. test (get_or xs i d)) (length xs)
  fold-all xs = ap (fold (λ fit x. fit && test x) true) (sym (take-length xs)) ∙ fold-taken xs (length xs) (omega arith)

pub or-either : (a b : Bool) → a || b ≡ either a b
or-either true b = refl
or-either false b = refl

-- a fold over the places with what stands there
module _ {A : Type 0} (test : ℕ × A → Bool) (d : A) where
  pub fold-places : (xs : List A) → fold (λ fit at. fit && test at) true (enumerate_from 0 xs) ≡ every (λ i. test (i, get_or xs i d)) (length xs)
  fold-places xs =
      fold-all test (0, d) (enumerate_from 0 xs)
      ∙ ap (every (λ i. test (get_or (enumerate_from 0 xs) i (0, d)))) (length-enumerate_from 0 xs)
      ∙ every-same _ _ (length xs) (λ i less.
      let here = get_or-enumerate_from 0 xs i (0, d) less in
      let place : 0 + i ≡ i = omega arith in
      ap test (here ∙ ap (λ (k : ℕ). (k, get_or xs i d)) place))

-- the tests below one place, the others not looked at
pub every-until : (test : ℕ → Bool) (n k : ℕ) → every (λ i. either (leb n i) (test i)) (n + k) ≡ every test n
unfolding every
every-until test n zero = rw add-zero (every-same _ _ n (λ i less. rw (lt-leb n i less)))
every-until test n (suc k) = rw (add-suc, le-leb n (n + k) (omega arith)) (both_end _ ∙ every-until test n k)
  where
    both_end : (a : Bool) → both a true ≡ a
    both_end true = refl
    both_end false = refl
