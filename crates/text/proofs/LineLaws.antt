-- A word stands at a text's front where it agrees with it at each index, and that is where it is the text's first bytes.
use mathlib.Core.Path.{◌≡◌, refl, sym, ap, ◌∙◌}
use mathlib.Core.Bool.{Bool, true, false}
use mathlib.Core.List.{List}
use Prim.Native.Nat.{ℕ, ◌≤◌, ◌<◌}
use native.Mathlib.Omega.{arith}
use lib.ListN.{length, get_or, take, length-take}
use Rattle.std.proofs.lemmas.List.{get_or-take, length-take-le}
use lib.Dec.{leb, eqb}
use borrow.Author.Tests.{leb-true, le-leb, eqb-true, eq-eqb}
use Rattle.std.specs.Str.{bytes_eq}
use Rattle.std.proofs.lemmas.Slice.Eq.{bytes_eq-Decides}
use Rattle.std.proofs.lemmas.Grind.{same_number_lists}
use Rattle.quantity.specs.Sums.{every}
use Rattle.quantity.proofs.Sums.{both_true, every_holds, every-at}
use Rattle.text.specs.Lines.{begins_with}

module _ (text word : List ℕ) where
  agree : ℕ → Bool
  agree k = eqb (get_or text k 0) (get_or word k 0)

  pub begins : length word ≤ length text → ((k : ℕ) → k < length word → get_or text k 0 ≡ get_or word k 0) → begins_with text word ≡ true
  unfolding begins_with agree
  begins enough same = rw (le-leb (length word) (length text) enough) (every_holds agree (length word) (λ k inside. eq-eqb _ _ (same k inside)))

  first-begins : word ≡ take (length word) text → begins_with text word ≡ true
  first-begins same =
      begins (omega (arith, ap length same, length-take (length word) text))
      (λ k inside. sym (get_or-take (length word) text k 0 inside) ∙ ap (λ (l : List ℕ). get_or l k 0) (sym same))

  first : begins_with text word ≡ true → word ≡ take (length word) text
  unfolding begins_with agree
  first e =
      let (enough, each) = both_true (leb (length word) (length text)) (every agree (length word)) e in
      let size : length (take (length word) text) ≡ length word = length-take-le (length word) text (leb-true _ _ enough) in
      same_number_lists word (take (length word) text) (sym size)
      (λ k inside. sym (eqb-true _ _ (every-at agree (length word) each k inside)) ∙ sym (get_or-take (length word) text k 0 inside))

  -- what the library's test answers
  pub starts-begins : (r : Bool) → r ≡ bytes_eq word (take (length word) text) → r ≡ begins_with text word
  starts-begins r answered = of r (begins_with text word) refl answered
    where
      of : (r b : Bool) → begins_with text word ≡ b → r ≡ bytes_eq word (take (length word) text) → r ≡ b
      of true b e answered = sym (first-begins ((bytes_eq-Decides word (take (length word) text)).0 (sym answered))) ∙ e
      of false true e answered = answered ∙ (bytes_eq-Decides word (take (length word) text)).1 (first e)
      of false false e answered = refl
