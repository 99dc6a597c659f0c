-- An array that is filled from the front: what is stored in it so far, and empty elements behind.
use Prim.Native.Nat.{ℕ, suc, ◌+◌, ◌-◌, ◌<◌}
use mathlib.Core.Path.{◌≡◌, sym, ap, ◌∙◌}
use mathlib.Core.List.{List, [], ◌∷◌, ◌++◌}
use native.Mathlib.Nat.{add_comm}
use native.Mathlib.Omega.{arith}
use lib.ListN.{length, set, take, replicate, length-append, length-replicate, replicate-append-replicate}
use lib.Seq.{set_at, append_snoc, take_at, take-append-add}

module _ {A : Type 0} (empty : A) (size : ℕ) where
  pub filled : (done : List A) (more : ℕ) → length done + more ≡ size → take size (done ++ replicate size empty) ≡ done ++ replicate more empty
  filled done more room =
      ap (λ (n : ℕ). take n (done ++ replicate size empty)) (sym room)
      ∙ take-append-add done (replicate size empty) more
      ∙ ap (λ (rest : List A). done ++ rest) (
      ap (λ (n : ℕ). take more (replicate n empty)) (sym room ∙ add_comm (length done) more)
      ∙ ap (take more) (sym (replicate-append-replicate more (length done) empty))
      ∙ take_at (replicate more empty) (replicate (length done) empty) more (length-replicate more empty))

  -- one element more is stored
  pub filled_next : (done : List A) (a : A) (k : ℕ) → length done ≡ k → k < size → set (take size (done ++ replicate size empty)) k a ≡ take size ((done ++ (a ∷ [])) ++ replicate size empty)
  filled_next done a k counted room =
      let more = size - suc k in
      let longer : length (done ++ (a ∷ [])) ≡ k + 1 = length-append done (a ∷ []) ∙ ap (λ (n : ℕ). n + 1) counted in
      ap (λ (stored : List A). set stored k a) (filled done (suc more) (omega arith))
      ∙ set_at done empty (replicate more empty) a k counted
      ∙ sym (append_snoc done a (replicate more empty))
      ∙ sym (filled (done ++ (a ∷ [])) more (omega arith))
