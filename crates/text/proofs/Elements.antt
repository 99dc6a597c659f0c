-- Past a list's end the element counts as 0: what passes a test that 0 fails stands within the list.
use mathlib.Core.Path.{◌≡◌, sym, ap, ◌∙◌}
use mathlib.Core.Bool.{Bool, true, false}
use mathlib.Core.List.{List}
use Prim.Native.Nat.{ℕ, ◌≤◌, ◌<◌}
use native.Mathlib.Decide.{dec_lt}
use native.Mathlib.Omega.{arith}
use lib.ListN.{length, get_or, get_or-eq_default}

module _ (test : ℕ → Bool) (none : test 0 ≡ false) (text : List ℕ) (at : ℕ) where
  pub fails-past : length text ≤ at → test (get_or text at 0) ≡ false
  fails-past past = ap test (get_or-eq_default text 0 past) ∙ none

  pub stands-within : test (get_or text at 0) ≡ true → at < length text
  stands-within e = of (dec_lt at (length text))
    where
      of : Dec (at < length text) → at < length text
      of (yes inside) = inside
      of (no past) =
          let wrong : ◌≡◌ {A = Bool} true false = sym e ∙ fails-past (omega arith) in
          let z : ◌≡◌ {A = ℕ} 0 1 = cc in
          absurd (omega arith)
