-- Compactor n (source document 000, Theorem 4): in a block's first slot it sends all it held and in the others nothing, so its totals are known
-- exactly; what it holds, its delay and its class follow from them.
use Rattle.std.proofs.Common.{◌≡◌, ℕ, zero, suc, ◌+◌, ◌*◌, ◌/◌, ◌%◌, ◌<◌, ◌≤◌, eqb, ◌∙◌, le_refl, add-suc, mul-le-mul_right, mod-lt, div-lt_iff_lt-mul, add-mul, suc-add, div-add-mod', zero-mul, arith, eq-eqb, ne_eqb}
use native.Mathlib.Nat.{zero-mod, le_dest, lt-div-mul-add}
use native.Mathlib.Decide.{ℕ_discrete}
use Rattle.quantity.specs.Choice.{pick}
use Rattle.quantity.specs.Sums.{total}
use Rattle.quantity.proofs.Sums.{total-zero, total-suc, total-le}
use Rattle.operator.specs.Compactor.{compactor_least, compactor_greatest}
use Rattle.operator.specs.Operators.{least_output, greatest_output, compactor}
use Rattle.flow.specs.Flows.{Flow, Smooth, Uniform, InTime}
use Rattle.operator.specs.OnFlows.{held_on, output_on, Fitting}
use Rattle.flow.proofs.Blocks.{same_block}
use Rattle.operator.proofs.Conservation.{conserved}

module _ (n : ℕ) (r c : Flow) (large : 1 ≤ n) (fits : Fitting (compactor n) r c) where
  -- the only output that fits
  compactor-sends : (k : ℕ) → output_on (compactor n) r c k ≡ pick (eqb (k % n) 0) (held_on (compactor n) r c k).b 0
  unfolding output_on least_output greatest_output compactor_least compactor_greatest
  compactor-sends k = let fit = fits k in omega arith

  all-sent-at-start : (k : ℕ) → k % n ≡ 0 → total (output_on (compactor n) r c) (suc k) ≡ total r (k / n * n)
  all-sent-at-start k starts =
      let here : k / n * n ≡ k = omega (arith, div-add-mod' k n) in
      let sends : output_on (compactor n) r c k ≡ (held_on (compactor n) r c k).b = rw (eq-eqb (k % n) 0 starts) at (compactor-sends k) in
      rw here (omega (arith, total-suc (output_on (compactor n) r c) k, conserved (compactor n) r c fits k))

  none-sent-inside : (k : ℕ) → (k % n ≡ 0 → ⊥) → total (output_on (compactor n) r c) (suc k) ≡ total (output_on (compactor n) r c) k
  none-sent-inside k inside =
      let sends : output_on (compactor n) r c k ≡ 0 = rw (ne_eqb (k % n) 0 inside) at (compactor-sends k) in
      omega (arith, total-suc (output_on (compactor n) r c) k)

  pub compactor-totals : (k : ℕ) → total (output_on (compactor n) r c) (suc k) ≡ total r (k / n * n)
  compactor-totals zero = all-sent-at-start 0 (zero-mod n)
  compactor-totals (suc k) = by_place (ℕ_discrete (suc k % n) 0) (compactor-totals k)
    where
      by_place : Dec (suc k % n ≡ 0) → total (output_on (compactor n) r c) (suc k) ≡ total r (k / n * n)
          → total (output_on (compactor n) r c) (suc (suc k)) ≡ total r (suc k / n * n)
      by_place (yes starts) before = all-sent-at-start (suc k) starts
      by_place (no inside) before = none-sent-inside (suc k) inside ∙ rw (same_block n k large inside) before

  pub compactor-in-time : InTime n r (output_on (compactor n) r c)
  compactor-in-time k =
      let (d, e) = le_dest large in
      let last : k + n ≡ suc (k + d) = omega arith in
      rw (last, compactor-totals (k + d)) (total-le r (omega (arith, lt-div-mul-add {a = k + d} large)))

module _ (n Q : ℕ) (r c : Flow) (large : 1 ≤ n) (fits : Fitting (compactor n) r c) (keeps : Smooth n Q r) where
  pub compactor-held : (k : ℕ) → (held_on (compactor n) r c k).b ≤ Q
  compactor-held zero = omega (arith, conserved (compactor n) r c fits 0, total-zero r)
  compactor-held (suc k) =
      let came : total r (suc k) ≤ total r (k / n * n) + Q = rw (add-suc, div-add-mod') at (keeps (k / n) (suc (k % n)) (mod-lt k large)) in
      omega (arith, conserved (compactor n) r c fits (suc k), compactor-totals n r c large fits k)

  -- up to the end of block j + 1 it sends at most a quota more than came before block j
  sent-le : (j k : ℕ) → k < (j + 2) * n → total (output_on (compactor n) r c) (suc k) ≤ total r (j * n) + Q
  sent-le j k h =
      let early : k / n ≤ j + 1 = omega (arith, (div-lt_iff_lt-mul {x = k} {y = j + 2} large).1 h) in
      let ends : k / n * n ≤ j * n + n = omega (arith, mul-le-mul_right n early, add-mul j 1 n) in
      omega (arith, compactor-totals n r c large fits k, total-le r ends, keeps j n (le_refl n))

  pub compactor-uniform : Uniform n Q (output_on (compactor n) r c)
  compactor-uniform zero k h =
      let sent : total (output_on (compactor n) r c) (suc k) ≤ total r 0 + Q = rw zero-mul at (sent-le 0 k (omega arith)) in
      omega (arith, total-zero r, total-le (output_on (compactor n) r c) {n = 0 + k} {m = suc k} (omega arith))
  compactor-uniform (suc a) k h =
      rw (suc-add, compactor-totals n r c large fits a) (sent-le (a / n) (a + k) (omega (arith, lt-div-mul-add {a = a} large, add-mul (a / n) 2 n)))
