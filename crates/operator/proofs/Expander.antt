-- Expander n (source document 000, Theorem 5): in a block's last slot it sends all that is there, so at each block's end the totals agree;
-- a compactor behind it sees no difference (Theorem 7).
use Rattle.std.proofs.Common.{◌≡◌, ℕ, zero, suc, ◌+◌, ◌*◌, ◌/◌, ◌%◌, ◌≤◌, eqb, sym, ◌∙◌, add-suc, mod-lt, div-add-mod', div-mul-le_self, add-one, arith, eq-eqb}
use native.Mathlib.Nat.{mul-mod_left, lt-div-mul-add}
use Rattle.quantity.specs.Choice.{pick}
use Rattle.quantity.specs.Sums.{total}
use Rattle.quantity.proofs.Sums.{total-zero, total-suc, total-le}
use Rattle.operator.specs.Expander.{expander_least}
use Rattle.operator.specs.Operators.{least_output, compactor, expander}
use Rattle.flow.specs.Flows.{Flow, Smooth, InTime}
use Rattle.operator.specs.OnFlows.{held_on, output_on, Fitting, none}
use Rattle.operator.proofs.Conservation.{conserved, output-behind, none-fits}
use Rattle.operator.proofs.Compactor.{compactor-totals, compactor-in-time}

-- what it sends is at least its least
expander-sends : (n : ℕ) (r c : Flow) (k : ℕ) → pick (eqb (suc k % n) 0) ((held_on (expander n) r c k).b + r k) 0 ≤ output_on (expander n) r c k
unfolding output_on least_output expander_least
expander-sends n r c k = rw add-one (omega arith)

module _ (n : ℕ) (r c : Flow) (large : 1 ≤ n) (fits : Fitting (expander n) r c) where
  all-sent-at-end : (k : ℕ) → k % n ≡ 0 → total (output_on (expander n) r c) k ≡ total r k
  all-sent-at-end zero ends = omega (arith, total-zero r, total-zero (output_on (expander n) r c))
  all-sent-at-end (suc k) ends =
      let sends : (held_on (expander n) r c k).b + r k ≤ output_on (expander n) r c k = rw (eq-eqb (suc k % n) 0 ends) at (expander-sends n r c k) in
      omega (arith, output-behind (expander n) r c fits (suc k), conserved (expander n) r c fits k, total-suc r k, total-suc (output_on (expander n) r c) k)

  pub expander-totals : (j : ℕ) → total (output_on (expander n) r c) (j * n) ≡ total r (j * n)
  expander-totals j = all-sent-at-end (j * n) (mul-mod_left j n)

  -- by the block's end behind slot k
  pub expander-in-time : InTime n r (output_on (expander n) r c)
  expander-in-time k =
      let ended = expander-totals ((k + n) / n) in
      let late : k ≤ (k + n) / n * n = omega (arith, lt-div-mul-add {a = k + n} large) in
      omega (arith, total-le r late, total-le (output_on (expander n) r c) (div-mul-le_self (k + n) n))

module _ (n Q : ℕ) (r c : Flow) (large : 1 ≤ n) (fits : Fitting (expander n) r c) (keeps : Smooth n Q r) where
  -- what it holds before slot k and what arrives in it came in the block of slot k
  pub expander-fullest : (k : ℕ) → (held_on (expander n) r c k).b + r k ≤ Q
  expander-fullest k =
      let came : total r (suc k) ≤ total r (k / n * n) + Q = rw (add-suc, div-add-mod') at (keeps (k / n) (suc (k % n)) (mod-lt k large)) in
      omega
      (arith, total-suc r k, conserved (expander n) r c fits k, expander-totals n r c large fits (k / n), total-le (output_on (expander n) r c) (div-mul-le_self k n))

  pub expander-held : (k : ℕ) → (held_on (expander n) r c k).b ≤ Q
  expander-held k = omega (arith, expander-fullest k)

  pub expander-smooth : Smooth n Q (output_on (expander n) r c)
  expander-smooth j k h = omega (arith, output-behind (expander n) r c fits (j * n + k), keeps j k h, expander-totals n r c large fits j)

module _ (n : ℕ) (r c e : Flow) (large : 1 ≤ n) (first : Fitting (expander n) r c) (second : Fitting (compactor n) (output_on (expander n) r c) e) where
  pub pair-totals : (k : ℕ) → total (output_on (compactor n) (output_on (expander n) r c) e) k ≡ total (output_on (compactor n) r none) k
  pair-totals zero = omega (arith, total-zero (output_on (compactor n) (output_on (expander n) r c) e), total-zero (output_on (compactor n) r none))
  pair-totals (suc k) =
      compactor-totals n (output_on (expander n) r c) e large second k ∙ expander-totals n r c large first (k / n)
      ∙ sym (compactor-totals n r none large (none-fits (compactor n) r) k)

  pub pair-in-time : InTime n r (output_on (compactor n) (output_on (expander n) r c) e)
  pair-in-time k = rw pair-totals (compactor-in-time n r none large (none-fits (compactor n) r) k)
