-- What is done of each place below k, and of no other.
use mathlib.Core.Path.{◌≡◌, sym, ◌∙◌}
use mathlib.Core.Logic.{◌⊎◌, inl, inr, ⊎_elim}
use Prim.Native.Nat.{ℕ, ◌+◌, ◌<◌}
use native.Mathlib.Nat.{eq-or-lt_of_le, lt_of_not-le}
use native.Mathlib.Decide.{dec_le}
use native.Mathlib.Omega.{arith}
use lib.Dec.{ltb}
use borrow.Author.Tests.{lt-ltb, le-ltb}
use Rattle.quantity.specs.Choice.{pick}
use Rattle.quantity.proofs.Laws.{pick_true, pick-false}

module _ {A : Type 0} (n : ℕ) (done was : ℕ → A) where
  abbrev pub UpTo : ℕ → (ℕ → A) → Type 0
  UpTo k here = (i : ℕ) → i < n → here i ≡ pick (ltb i k) (done i) (was i)

  pub up-to-none : (here : ℕ → A) → ((i : ℕ) → i < n → here i ≡ was i) → UpTo 0 here
  up-to-none here same i less = same i less ∙ sym (pick-false _ _ _ (le-ltb i 0 (omega arith)))

  -- at k it is not done yet
  pub up-to-here : (k : ℕ) (here : ℕ → A) → UpTo k here → k < n → here k ≡ was k
  up-to-here k here upto less = upto k less ∙ pick-false _ _ _ (le-ltb k k (omega arith))

  pub up-to-next : (k : ℕ) (here next : ℕ → A) → UpTo k here → next k ≡ done k → ((i : ℕ) → i < n → (i < k) ⊎ (k < i) → next i ≡ here i) → UpTo (k + 1) next
  up-to-next k here next upto new other i less =
      elim (dec_le i k) [
        | yes below ↦
            ⊎_elim
            (λ same. rw same (new ∙ sym (pick_true _ _ _ (lt-ltb k (k + 1) (omega arith)))))
            (λ under. other i less (inl under) ∙ upto i less ∙ pick_true _ _ _ (lt-ltb i k under) ∙ sym (pick_true _ _ _ (lt-ltb i (k + 1) (omega arith))))
            (eq-or-lt_of_le below)
        | no above ↦
            let over = lt_of_not-le above in
            other i less (inr over) ∙ upto i less ∙ pick-false _ _ _ (le-ltb i k (omega arith)) ∙ sym (pick-false _ _ _ (le-ltb i (k + 1) (omega arith)))
      ]
