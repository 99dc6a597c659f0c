-- Blocks of n slots, which start at the multiples of n.
use mathlib.Core.Path.{◌≡◌, sym, ◌∙◌}
use Prim.Native.Nat.{ℕ, suc, ◌+◌, ◌/◌, ◌%◌, ◌<◌, ◌≤◌}
use native.Mathlib.Nat.{add-mul, mod-lt, mod_self, mod-eq_of_lt, mod-add-mod, div-add-mod', div-eq_of_lt-le, lt-div-mul-add}
use native.Mathlib.Omega.{arith}

-- a slot that does not start a block is of the block of the slot before
pub same_block : (n k : ℕ) → 1 ≤ n → (suc k % n ≡ 0 → ⊥) → suc k / n ≡ k / n
same_block n k large inside =
    sym
    (div-eq_of_lt-le n (omega (arith, div-add-mod' (suc k) n, inside)) (omega (arith, lt-div-mul-add {a = suc k} large, add-mul (suc k / n) 1 n)))

-- a slot starts a block just where the slot before stands last in its own
module _ (n k : ℕ) (large : 0 < n) where
  pub starts-behind-last : k % n + 1 ≡ n → (k + 1) % n ≡ 0
  starts-behind-last last = sym (mod-add-mod k n 1) ∙ rw last (mod_self n)

  pub inside-behind-other : (k % n + 1 ≡ n → ⊥) → (k + 1) % n ≡ 0 → ⊥
  inside-behind-other other starts =
      let inside : k % n + 1 < n = omega (arith, mod-lt k large) in
      omega (arith, mod-add-mod k n 1, mod-eq_of_lt inside)
