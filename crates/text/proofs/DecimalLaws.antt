-- A number is read digit by digit: the digits that are left go behind the value of those that are read.
use mathlib.Core.Path.{◌≡◌, refl, sym, ap, ◌∙◌}
use mathlib.Core.Bool.{true, false}
use mathlib.Core.List.{List, [], ◌∷◌}
use Prim.Native.Nat.{ℕ, ◌+◌, ◌-◌, ◌*◌, ◌≤◌, ◌<◌}
use native.Mathlib.Decide.{dec_lt}
use native.Mathlib.Numerals.{add-one}
use native.Mathlib.Omega.{arith}
use lib.ListN.{length, get_or, drop, drop_of_length-le}
use lib.Seq.{drop-cons}
use lib.Dec.{eqb}
use borrow.Author.Tests.{le-leb, lt-leb, ne_eqb}
use Rattle.quantity.specs.Limits.{largest64}
use Rattle.std.specs.Prelude.{Ok, Err}
use Rattle.text.specs.declared.decimal.NumberFault.TheVariants.{NoDigit, TooLarge}
use Rattle.text.specs.Decimals.{is_digit, leading_digits, with_digit, with_digits, value_of, decimal_of, decimal_at}
use Rattle.text.proofs.Elements.{fails-past, stands-within}

zero-no-digit : is_digit 0 ≡ false
unfolding is_digit
zero-no-digit = refl

-- past the end no digit stands
pub no-digit-past : (text : List ℕ) (at : ℕ) → length text ≤ at → is_digit (get_or text at 0) ≡ false
no-digit-past = fails-past is_digit zero-no-digit

module _ (text : List ℕ) (at : ℕ) where
  pub digit-within : is_digit (get_or text at 0) ≡ true → at < length text
  digit-within = stands-within is_digit zero-no-digit text at

  pub leading-more : is_digit (get_or text at 0) ≡ true → leading_digits (drop at text) ≡ get_or text at 0 ∷ leading_digits (drop (at + 1) text)
  unfolding leading_digits
  leading-more e = let inside = digit-within e in rw (add-one, drop-cons text at 0, e)

  pub leading-none : is_digit (get_or text at 0) ≡ false → leading_digits (drop at text) ≡ []
  unfolding leading_digits
  leading-none e = of (dec_lt at (length text))
    where
      of : Dec (at < length text) → leading_digits (drop at text) ≡ []
      of (yes inside) = rw (drop-cons text at 0, e)
      of (no past) = rw (drop_of_length-le text {i = at} (omega arith))

-- digits behind a number make it no smaller
value_grows : (number : ℕ) (digits : List ℕ) → number ≤ with_digits number digits
unfolding with_digits with_digit
value_grows number [] = omega arith
value_grows number (digit ∷ digits) = omega (arith, value_grows (10 * number + (digit - 48)) digits)

-- the digits before an index are read: their value, and that no digit is passed over
pub record ReadDigits (text : List ℕ) (from value at : ℕ) : Type 0 where
  pub small : value ≤ largest64
  pub valued : with_digits value (leading_digits (drop at text)) ≡ value_of (leading_digits (drop from text))
  pub placed : at + length (leading_digits (drop at text)) ≡ from + length (leading_digits (drop from text))

pub read_first : (text : List ℕ) (from : ℕ) → ReadDigits text from 0 from
unfolding value_of
read_first text from = record { small = omega arith; valued = refl; placed = refl }

module _ (text : List ℕ) (from value at : ℕ) (so_far : ReadDigits text from value at) where
  pub read_next : is_digit (get_or text at 0) ≡ true → with_digit value (get_or text at 0) ≤ largest64 → ReadDigits text from (with_digit value (get_or text at 0)) (at + 1)
  unfolding with_digits
  read_next digit small =
      let more = leading-more text at digit in
      record {
        small = small;
        valued = sym (ap (with_digits value) more) ∙ so_far.valued;
        placed = omega (arith, ap length more, so_far.placed);
      }

  module _ (first : is_digit (get_or text from 0) ≡ true) where
    some-digits : eqb (length (leading_digits (drop from text))) 0 ≡ false
    some-digits =
        let more = ap length (leading-more text from first) in
        ne_eqb (length (leading_digits (drop from text))) 0 (λ e. omega arith)

    -- no digit is left: the value is the number's
    pub read-end : is_digit (get_or text at 0) ≡ false → Ok (record { value = value; next = at }) ≡ decimal_at text from
    unfolding with_digits decimal_at decimal_of
    read-end other =
        let none = leading-none text at other in
        let number : value ≡ value_of (leading_digits (drop from text)) = sym (ap (with_digits value) none) ∙ so_far.valued in
        let end : at ≡ from + length (leading_digits (drop from text)) = omega (arith, ap length none, so_far.placed) in
        rw (some-digits, ← number, le-leb value largest64 so_far.small, ← end)

    -- one digit more makes it too large, and so do all
    pub read-large : is_digit (get_or text at 0) ≡ true → largest64 < with_digit value (get_or text at 0) → Err TooLarge ≡ decimal_at text from
    unfolding with_digits decimal_at decimal_of
    read-large digit large =
        let all : with_digits (with_digit value (get_or text at 0)) (leading_digits (drop (at + 1) text)) ≡ value_of (leading_digits (drop from text)) = sym (ap (with_digits value) (leading-more text at digit)) ∙ so_far.valued in
        let above : largest64 < value_of (leading_digits (drop from text)) = omega (arith, value_grows (with_digit value (get_or text at 0)) (leading_digits (drop (at + 1) text))) in
        rw (some-digits, lt-leb _ _ above)

pub read_none : (text : List ℕ) (from : ℕ) → is_digit (get_or text from 0) ≡ false → Err NoDigit ≡ decimal_at text from
unfolding decimal_at decimal_of
read_none text from other = rw (leading-none text from other)
