-- What the loop over a number's digits rests on: a digit more before those that are stored.
use mathlib.Core.Path.{◌≡◌, refl, sym, ap, ◌∙◌}
use mathlib.Core.List.{List, [], ◌∷◌, ◌++◌, append-nil, append_assoc}
use Prim.Native.Nat.{ℕ, suc, ◌+◌, ◌-◌, ◌/◌, ◌%◌, ◌≤◌, ◌<◌}
use native.Mathlib.Numerals.{add-one}
use native.Mathlib.Omega.{arith}
use lib.ListN.{length, set, length-append}
use lib.Seq.{sets}
use Rattle.sheet.proofs.Runs.{set_before}
use Rattle.page.specs.Columns.{digit, decimal}
use Rattle.page.proofs.Decimals.{decimal-one, decimal-tenth, decimal-some}

-- the digits behind `at` are stored, and those of `left` are to come before them
pub record LastDigits (lent₀ : List ℕ) (end value : ℕ) (lent : List ℕ) (left at : ℕ) : Type 0 where
  pub behind : List ℕ
  pub whole : decimal value ≡ decimal left ++ behind
  pub stored : lent ≡ sets lent₀ (at + 1) behind
  pub placed : at + 1 + length behind ≡ end
  pub room : length (decimal left) ≤ at + 1

pub no-digits : (lent₀ : List ℕ) (end value : ℕ) → length (decimal value) ≤ end → LastDigits lent₀ end value lent₀ value (end - 1)
no-digits lent₀ end value fits =
    let some = decimal-some value in
    record { behind = []; whole = sym (append-nil (decimal value)); stored = refl; placed = omega arith; room = omega arith }

module _ {lent₀ : List ℕ} {end value : ℕ} {lent : List ℕ} {left at : ℕ} (so_far : LastDigits lent₀ end value lent left at) where
  -- one more digit before those that are stored
  digit-before : (character : ℕ) → set lent at character ≡ sets lent₀ at (character ∷ so_far.behind)
  digit-before character = rw (so_far.stored, add-one) (set_before lent₀ at (suc at) so_far.behind character (omega arith))

  -- a digit that others come before has a place before it
  pub before-left : 10 ≤ left → 1 ≤ at
  before-left large =
      let room = so_far.room in
      let tenth = decimal-some (left / 10) in
      let longer : length (decimal left) ≡ length (decimal (left / 10)) + 1 = ap length (decimal-tenth left large) ∙ length-append (decimal (left / 10)) (digit (left % 10) ∷ []) in
      omega arith

  pub digit-more : 10 ≤ left → LastDigits lent₀ end value (set lent at (digit (left % 10))) (left / 10) (at - 1)
  digit-more large =
      let placed = so_far.placed in
      let room = so_far.room in
      let some = before-left large in
      let here : at - 1 + 1 ≡ at = omega arith in
      let longer : length (decimal left) ≡ length (decimal (left / 10)) + 1 = ap length (decimal-tenth left large) ∙ length-append (decimal (left / 10)) (digit (left % 10) ∷ []) in
      record {
        behind = digit (left % 10) ∷ so_far.behind;
        whole = so_far.whole ∙ ap (λ (digits : List ℕ). digits ++ so_far.behind) (decimal-tenth left large) ∙ append_assoc (decimal (left / 10)) (digit (left % 10) ∷ []) so_far.behind;
        stored = rw here (digit-before (digit (left % 10)));
        placed = omega arith;
        room = omega arith;
      }

  -- the first digit
  pub digit-first : left < 10 → set lent at (digit left) ≡ sets lent₀ (end - length (decimal value)) (decimal value)
  digit-first small =
      let placed = so_far.placed in
      let whole : decimal value ≡ digit left ∷ so_far.behind = so_far.whole ∙ ap (λ (digits : List ℕ). digits ++ so_far.behind) (decimal-one left small) in
      let begun : end - length (decimal value) ≡ at = omega (arith, ap length whole) in
      rw (begun, whole) (digit-before (digit left))
