-- A text that lacks a byte, by a test that computes: so do two of them in a row, and it stands at no index.
use mathlib.Core.Path.{◌≡◌, refl, ap₂}
use mathlib.Core.Bool.{Bool, true, false, not}
use mathlib.Core.List.{List, [], ◌∷◌, ◌++◌}
use Prim.Native.Nat.{ℕ, zero, suc, ◌<◌}
use native.Mathlib.Nat.{not-suc-le-zero, le_of_suc-le-suc}
use native.Mathlib.Omega.{arith}
use lib.ListN.{length, get_or, replicate}
use lib.Dec.{eqb}
use borrow.Author.Tests.{eq-eqb}
use Rattle.quantity.specs.Choice.{both}
use Rattle.quantity.proofs.Sums.{both_true}

unfoldable pub lacks : ℕ → List ℕ → Bool
lacks byte [] = true
lacks byte (first ∷ bytes) = both (not (eqb first byte)) (lacks byte bytes)

pub lacks-append : (byte : ℕ) (xs ys : List ℕ) → lacks byte xs ≡ true → lacks byte ys ≡ true → lacks byte (xs ++ ys) ≡ true
unfolding lacks
lacks-append byte [] ys first second = second
lacks-append byte (x ∷ xs) ys first second =
    let (here, rest) = both_true (not (eqb x byte)) (lacks byte xs) first in
    ap₂ both here (lacks-append byte xs ys rest second)

pub lacks-replicate : (byte n other : ℕ) → eqb other byte ≡ false → lacks byte (replicate n other) ≡ true
unfolding lacks
lacks-replicate byte zero other differ = refl
lacks-replicate byte (suc n) other differ = rw differ (lacks-replicate byte n other differ)

pub lacks-at : (byte : ℕ) (xs : List ℕ) → lacks byte xs ≡ true → (k : ℕ) → k < length xs → get_or xs k 0 ≡ byte → ⊥
unfolding lacks
lacks-at byte [] e k less same = absurd (not-suc-le-zero less)
lacks-at byte (x ∷ xs) e zero less same =
    let here = (both_true (not (eqb x byte)) (lacks byte xs) e).0 in
    let found : eqb x byte ≡ true = eq-eqb x byte same in
    let never : ◌≡◌ {A = Bool} false true = rw found at here in
    let z : ◌≡◌ {A = ℕ} 0 1 = cc in omega arith
lacks-at byte (x ∷ xs) e (suc k) less same = lacks-at byte xs (both_true (not (eqb x byte)) (lacks byte xs) e).1 k (le_of_suc-le-suc less) same
