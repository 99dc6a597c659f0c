-- A number in decimal: how many digits it has, that none of them is a space or a line feed, and that they stand for the number. What holds of one digit, and of a number's digits where it holds of those of a tenth of it, holds of every number's.
use mathlib.Core.Path.{◌≡◌, refl, ap, ◌∙◌}
use mathlib.Core.Bool.{true}
use mathlib.Core.List.{List, [], ◌∷◌, ◌++◌}
use Prim.Native.Nat.{ℕ, zero, suc, ◌/◌, ◌%◌, ◌^◌, ◌≤◌, ◌<◌}
use native.Mathlib.Nat.{pow-suc, not-suc-le-zero}
use native.Mathlib.Decide.{dec_lt}
use native.Mathlib.Omega.{arith}
use lib.ListN.{length, length-append}
use borrow.Author.Tests.{lt-ltb, le-ltb, ne_eqb}
use Rattle.text.specs.Decimals.{with_digit, with_digits, value_of}
use Rattle.page.specs.Columns.{digit, digits_of, decimal}
use Rattle.page.proofs.Bytes.{lacks, lacks-append}

module _ (P : ℕ → List ℕ → Type 0)
    (one : (n : ℕ) → n < 10 → P n (digit n ∷ []))
    (tenth : (n : ℕ) → 10 ≤ n → (digits : List ℕ) → P (n / 10) digits → P n (digits ++ (digit (n % 10) ∷ []))) where
  by_size : (steps n : ℕ) → Dec (n < 10) → (10 ≤ n → P (n / 10) (digits_of steps (n / 10))) → P n (digits_of (suc steps) n)
  unfolding digits_of
  by_size steps n (yes small) before = rw (lt-ltb n 10 small) (one n small)
  by_size steps n (no large) before = let more : 10 ≤ n = omega arith in rw (le-ltb n 10 more) (tenth n more (digits_of steps (n / 10)) (before more))

  by-steps : (steps n : ℕ) → n < steps → P n (digits_of steps n)
  by-steps zero n few = absurd (not-suc-le-zero few)
  by-steps (suc steps) n few = by_size steps n (dec_lt n 10) (λ large. by-steps steps (n / 10) (omega arith))

  by-tenths : (n : ℕ) → P n (decimal n)
  unfolding decimal
  by-tenths n = by-steps (suc n) n (omega arith)

-- steps beyond those that a number needs make no difference
digits-enough : (n steps more : ℕ) → n < steps → n < more → digits_of more n ≡ digits_of steps n
unfolding digits_of
digits-enough n steps more enough = by-steps (λ n digits. (more : ℕ) → n < more → digits_of more n ≡ digits) ended further steps n enough more
  where
    ended : (n : ℕ) → n < 10 → (more : ℕ) → n < more → digits_of more n ≡ digit n ∷ []
    ended n small zero few = absurd (not-suc-le-zero few)
    ended n small (suc more) few = rw (lt-ltb n 10 small)

    further : (n : ℕ) → 10 ≤ n → (digits : List ℕ) → ((more : ℕ) → n / 10 < more → digits_of more (n / 10) ≡ digits) → (more : ℕ) → n < more → digits_of more n ≡ digits ++ (digit (n % 10) ∷ [])
    further n large digits same zero few = absurd (not-suc-le-zero few)
    further n large digits same (suc more) few = rw (le-ltb n 10 large, same more (omega arith))

pub decimal-one : (n : ℕ) → n < 10 → decimal n ≡ digit n ∷ []
unfolding decimal digits_of
decimal-one n small = rw (lt-ltb n 10 small)

pub decimal-tenth : (n : ℕ) → 10 ≤ n → decimal n ≡ decimal (n / 10) ++ (digit (n % 10) ∷ [])
unfolding decimal digits_of
decimal-tenth n large = rw (le-ltb n 10 large) (ap (λ (digits : List ℕ). digits ++ (digit (n % 10) ∷ [])) (digits-enough (n / 10) (suc (n / 10)) n (omega arith) (omega arith)))

-- a number below 10 ^ w has at most w digits
pub length-decimal : (n more : ℕ) → n < 10 ^ suc more → length (decimal n) ≤ suc more
length-decimal = by-tenths (λ n digits. (more : ℕ) → n < 10 ^ suc more → length digits ≤ suc more) (λ n small more below. omega arith) longer
  where
    longer : (n : ℕ) → 10 ≤ n → (digits : List ℕ) → ((more : ℕ) → n / 10 < 10 ^ suc more → length digits ≤ suc more) → (more : ℕ) → n < 10 ^ suc more → length (digits ++ (digit (n % 10) ∷ [])) ≤ suc more
    longer n large digits before zero below = absurd-of (omega arith)
      where
        absurd-of : ⊥ → length (digits ++ (digit (n % 10) ∷ [])) ≤ 1
        absurd-of never = absurd never
    longer n large digits before (suc more) below =
        let power = pow-suc 10 (suc more) in
        let fewer = before more (omega arith) in
        rw length-append (omega arith)

pub decimal-some : (n : ℕ) → 1 ≤ length (decimal n)
decimal-some = by-tenths (λ n digits. 1 ≤ length digits) (λ n small. omega arith) (λ n large digits before. rw length-append (omega arith))

-- its digits are no other characters
pub decimal-lacks : (byte : ℕ) → byte < 48 → (n : ℕ) → lacks byte (decimal n) ≡ true
unfolding lacks
decimal-lacks byte low = by-tenths (λ n digits. lacks byte digits ≡ true) (λ n small. lone n) (λ n large digits before. lacks-append byte digits (digit (n % 10) ∷ []) before (lone (n % 10)))
  where
    lone : (value : ℕ) → lacks byte (digit value ∷ []) ≡ true
    lone value = rw (ne_eqb (digit value) byte (λ same. omega arith))

with_digits-append : (value : ℕ) (xs ys : List ℕ) → with_digits value (xs ++ ys) ≡ with_digits (with_digits value xs) ys
unfolding with_digits
with_digits-append value [] ys = refl
with_digits-append value (x ∷ xs) ys = with_digits-append (with_digit value x) xs ys

-- they stand for the number
pub decimal-valued : (n : ℕ) → value_of (decimal n) ≡ n
unfolding value_of with_digits with_digit
decimal-valued = by-tenths (λ n digits. value_of digits ≡ n) lone behind
  where
    lone : (n : ℕ) → n < 10 → value_of (digit n ∷ []) ≡ n
    lone n small = omega arith

    behind : (n : ℕ) → 10 ≤ n → (digits : List ℕ) → value_of digits ≡ n / 10 → value_of (digits ++ (digit (n % 10) ∷ [])) ≡ n
    behind n large digits before = with_digits-append 0 digits (digit (n % 10) ∷ []) ∙ omega (arith, before)
