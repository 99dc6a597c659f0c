-- The test of a list of slots decides section 2's classes: behind the list nothing comes, so a block or window that ends there has no more than one that ended before.
use mathlib.Core.Path.{◌≡◌, ◌∙◌}
use mathlib.Core.Bool.{true}
use mathlib.Core.List.{List}
use mathlib.Core.Logic.{◌↔◌}
use Prim.Native.Nat.{ℕ, zero, suc, ◌+◌, ◌-◌, ◌*◌, ◌/◌, ◌%◌, ◌≤◌, ◌<◌}
use native.Mathlib.Nat.{add-zero, add-suc, mod-lt, div-add-mod', lt_of_not-le, le-div_iff_mul-le, div-mul-le_self, mul-le-mul_right, mul-add-div_right, div-eq_of_lt}
use native.Mathlib.Decide.{dec_le}
use native.Mathlib.Omega.{arith}
use lib.ListN.{length, get_or-eq_default}
use borrow.Author.Tests.{leb-true, le-leb}
use Rattle.quantity.specs.Sums.{total}
use Rattle.quantity.proofs.Sums.{total-suc, total-zero, total-le, every-at, every_holds}
use Rattle.flow.specs.Flows.{Flow, flow_of, Smooth, Uniform}
use Rattle.flow.specs.Classes.{Class, smooth, uniform, rows, Positive, Keeps}
use Rattle.flow.specs.Keeping.{totals_to, keeps_to, keeps_class}

-- the first slot of the block that slot t is in, or of the m neighbouring slots that end with it
abbrev block_start : ℕ → ℕ → ℕ
block_start m t = t / m * m

abbrev window_start : ℕ → ℕ → ℕ
window_start m t = suc t - m

-- a flow of the class has at most Q in the block or window that ends with a slot
smooth-last : (m Q t : ℕ) (r : Flow) → 1 ≤ m → Smooth m Q r → total r (suc t) ≤ total r (block_start m t) + Q
smooth-last m Q t r large keeps = rw (add-suc, div-add-mod') at (keeps (t / m) (suc (t % m)) (mod-lt t large))

pub uniform-last : (m Q t : ℕ) (r : Flow) → Uniform m Q r → total r (suc t) ≤ total r (window_start m t) + Q
uniform-last m Q t r keeps =
    let ends : suc t - m + (suc t - (suc t - m)) ≡ suc t = omega arith in
    rw ends at (keeps (suc t - m) (suc t - (suc t - m)) (omega arith))

-- every block or window keeps the class where those that end with a slot do
smooth-ends : (m Q : ℕ) (r : Flow) → 1 ≤ m → ((t : ℕ) → total r (suc t) ≤ total r (block_start m t) + Q) → Smooth m Q r
smooth-ends m Q r large ends j zero h = rw add-zero (omega arith)
smooth-ends m Q r large ends j (suc k) h =
    let block : (j * m + k) / m ≡ j = mul-add-div_right large j k ∙ rw (div-eq_of_lt {n = k} {m = m} h) (add-zero j) in
    rw add-suc (rw block at (ends (j * m + k)))

uniform-ends : (m Q : ℕ) (r : Flow) → ((t : ℕ) → total r (suc t) ≤ total r (window_start m t) + Q) → Uniform m Q r
uniform-ends m Q r ends a zero h = rw add-zero (omega arith)
uniform-ends m Q r ends a (suc k) h = rw add-suc (omega (arith, ends (a + k), total-le r {n = suc (a + k) - m} {m = a} (omega arith)))

module _ (units : List ℕ) where
  abbrev flow : Flow
  flow = flow_of units

  nothing-behind : (t : ℕ) → length units ≤ t → flow t ≡ 0
  nothing-behind t behind = get_or-eq_default units 0 behind

  -- behind the list nothing comes, and a later slot's block or window starts no earlier
  ends-within : (Q : ℕ) (start : ℕ → ℕ) → ((t : ℕ) → start t ≤ start (suc t))
      → ((t : ℕ) → t < length units → total flow (suc t) ≤ total flow (start t) + Q)
      → (t : ℕ) → total flow (suc t) ≤ total flow (start t) + Q
  ends-within Q start mono inside zero =
      elim (dec_le (length units) 0) [
        | yes behind ↦ omega (arith, total-suc flow 0, total-zero flow, nothing-behind 0 behind)
        | no less ↦ inside 0 (lt_of_not-le less)
      ]
  ends-within Q start mono inside (suc t) =
      let before = ends-within Q start mono inside t in
      elim (dec_le (length units) (suc t)) [
        | yes behind ↦ omega (arith, total-suc flow (suc t), nothing-behind (suc t) behind, total-le flow (mono t))
        | no less ↦ inside (suc t) (lt_of_not-le less)
      ]

  uniform-within : (m Q : ℕ) → ((t : ℕ) → t < length units → totals_to (window_start m t) Q flow t ≡ true) → Uniform m Q flow
  unfolding totals_to
  uniform-within m Q tested = uniform-ends m Q flow (ends-within Q (window_start m) (λ t. omega arith) (λ t less. leb-true _ _ (tested t less)))

  kept_of : (c : Class) → Positive c → ((t : ℕ) → t < length units → keeps_to c flow t ≡ true) → Keeps c flow
  unfolding keeps_to totals_to
  kept_of (smooth m Q) large tested =
      smooth-ends m Q flow large
      (ends-within Q (block_start m) (λ t. mul-le-mul_right m ((le-div_iff_mul-le {x = t / m} {y = suc t} large).1 (omega (arith, div-mul-le_self t m)))) (λ t less. leb-true _ _ (tested t less)))
  kept_of (uniform m Q) large tested = uniform-within m Q tested
  kept_of (rows given k) large tested = λ i row. uniform-within (given i).interval (given i).quota (λ t less. every-at _ k (tested t less) i row)

  kept-to : (c : Class) → Positive c → Keeps c flow → (t : ℕ) → keeps_to c flow t ≡ true
  unfolding keeps_to totals_to
  kept-to (smooth m Q) large keeps t = le-leb _ _ (smooth-last m Q t flow large keeps)
  kept-to (uniform m Q) large keeps t = le-leb _ _ (uniform-last m Q t flow keeps)
  kept-to (rows given k) large keeps t = every_holds _ k (λ i row. le-leb _ _ (uniform-last (given i).interval (given i).quota t flow (keeps i row)))

  pub keeps-decided : (c : Class) → Positive c → (keeps_class c units ≡ true) ↔ Keeps c flow
  unfolding keeps_class
  keeps-decided c large = (
    λ tested. kept_of c large (λ t less. every-at (keeps_to c flow) (length units) tested t less),
    λ keeps. every_holds (keeps_to c flow) (length units) (λ t less. kept-to c large keeps t),
  )
