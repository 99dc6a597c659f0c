-- Hexadecimal digits, their values, and the byte of two.
use mathlib.Core.Path.{◌≡◌, refl}
use mathlib.Core.Bool.{Bool, true, false}
use mathlib.Core.List.{List}
use Prim.Native.Nat.{ℕ, ◌+◌, ◌-◌, ◌≤◌, ◌<◌}
use native.Mathlib.Omega.{arith}
use lib.ListN.{length, get_or}
use lib.Dec.{leb}
use borrow.Author.Tests.{leb-true}
use Rattle.quantity.specs.Choice.{pick, both, either}
use Rattle.quantity.proofs.Sums.{both_true}
use Rattle.text.specs.Decimals.{is_digit}
use Rattle.text.specs.Hexadecimals.{is_lower_case_digit, is_upper_case_digit, is_hexadecimal_digit, digit_value}
use Rattle.text.proofs.Elements.{fails-past, stands-within}

zero-no-digit : is_hexadecimal_digit 0 ≡ false
unfolding is_hexadecimal_digit is_digit is_lower_case_digit is_upper_case_digit
zero-no-digit = refl

-- past the end no digit stands
pub no-digit-past : (text : List ℕ) (at : ℕ) → length text ≤ at → is_hexadecimal_digit (get_or text at 0) ≡ false
no-digit-past = fails-past is_hexadecimal_digit zero-no-digit

pub digit-within : (text : List ℕ) (at : ℕ) → is_hexadecimal_digit (get_or text at 0) ≡ true → at < length text
digit-within = stands-within is_hexadecimal_digit zero-no-digit

-- a digit stands for less than 16
pub value-small : (byte : ℕ) → is_hexadecimal_digit byte ≡ true → digit_value byte < 16
unfolding is_hexadecimal_digit digit_value is_digit is_lower_case_digit is_upper_case_digit
value-small byte = of (both (leb 48 byte) (leb byte 57)) refl (both (leb 97 byte) (leb byte 102)) refl (both (leb 65 byte) (leb byte 70)) refl
  where
    at_most : (least most : ℕ) → both (leb least byte) (leb byte most) ≡ true → byte ≤ most
    at_most least most e = leb-true byte most (both_true (leb least byte) (leb byte most) e).1

    of : (d : Bool) → both (leb 48 byte) (leb byte 57) ≡ d
        → (s : Bool) → both (leb 97 byte) (leb byte 102) ≡ s
        → (l : Bool) → both (leb 65 byte) (leb byte 70) ≡ l
        → either d (either s l) ≡ true → pick d (byte - 48) (pick s (10 + (byte - 97)) (10 + (byte - 65))) < 16
    of true d s e l f h = omega (arith, at_most 48 57 d)
    of false d true s l f h = omega (arith, at_most 97 102 s)
    of false d false s true l h = omega (arith, at_most 65 70 l)
    of false d false s false l h = let z : ◌≡◌ {A = ℕ} 0 1 = cc in absurd (omega arith)
