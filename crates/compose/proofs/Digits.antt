-- A number's digits stand in its text.
use Rattle.std.proofs.Common.{◌≡◌, ℕ, ◌+◌, ◌≤◌, Bool, true, false, List, [], ◌∷◌, length, ap, arith}
use Rattle.std.specs.Prelude.{Ok, Err}
use Rattle.quantity.specs.Choice.{pick}
use Rattle.text.specs.declared.decimal.Number.{Number}
use Rattle.text.specs.declared.decimal.NumberFault.{NumberFault}
use Rattle.text.specs.Decimals.{is_digit, leading_digits, decimal_of, decimal_at}

picked-longer : (test : Bool) (byte : ℕ) (digits : List ℕ) → length (pick test (byte ∷ digits) []) ≤ length (byte ∷ digits)
picked-longer true byte digits = omega arith
picked-longer false byte digits = omega arith

leading_digits-shorter : (text : List ℕ) → length (leading_digits text) ≤ length text
unfolding leading_digits
leading_digits-shorter [] = omega arith
leading_digits-shorter (byte ∷ text) = omega (arith, picked-longer (is_digit byte) byte (leading_digits text), leading_digits-shorter text)

picked-number : (none fits : Bool) (number other : Number) (why other_why : NumberFault) → Ok number ≡ pick none (Err why) (pick fits (Ok other) (Err other_why)) → number ≡ other
picked-number true fits number other why other_why e = cc
picked-number false true number other why other_why e = cc
picked-number false false number other why other_why e = cc

pub next_within : (text : List ℕ) (number : Number) → Ok number ≡ decimal_at text 0 → number.next ≤ length text
unfolding decimal_at decimal_of
next_within text number e = let at : number.next ≡ 0 + length (leading_digits text) = ap (λ (n : Number). n.next) (picked-number _ _ _ _ _ _ e) in omega (arith, at, leading_digits-shorter text)
