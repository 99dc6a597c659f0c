-- Source document 003: a row of d one-slot stages sends what a delayer d does, any flow at most d slots late: nothing leaves before it entered, and all has left d slots later.
-- Forth, stage by stage: what has left a stage by a slot's end lies between what had entered it before the slot and what has by its end.
-- Back, by the totals behind stage i: the larger of what has left the row and what had entered it i slots ago.
use Rattle.std.proofs.Common.{◌≡◌, ℕ, zero, suc, ◌+◌, ◌-◌, ◌≤◌, max, ◌↔◌, refl, le_trans, le_refl, add-zero, add-suc, arith}
use native.Mathlib.Nat.{sub-zero, zero-sub, suc-sub-suc}
use Rattle.quantity.specs.Sums.{total}
use Rattle.quantity.proofs.Sums.{total-zero, total-suc, total-le}
use Rattle.flow.specs.Flows.{Flow, InTime, Behind}
use Rattle.operator.specs.Delayer.{of_age, older_than, stays_of, delayer_least, delayer_greatest, delayer_after}
use Rattle.operator.specs.Operators.{least_output, greatest_output, held_after, delayer}
use Rattle.operator.specs.OnFlows.{held_on, output_on, Fitting}
use Rattle.operator.specs.Stages.{stage_least, stage_greatest, stage_held, stage_output, StageFits, behind_stages, row_output, RowFits}
use Rattle.operator.proofs.Conservation.{output-behind}
use Rattle.operator.proofs.Delayer.{delayer-in-time, delayer-sends, in-time-before}

-- One stage.

module _ (q c : Flow) (fits : StageFits q c) where
  stage-conserved : (n : ℕ) → total q n ≡ total (stage_output q c) n + stage_held q c n
  unfolding stage_held stage_output stage_greatest
  stage-conserved zero = omega (arith, total-zero q, total-zero (stage_output q c))
  stage-conserved (suc n) = omega (arith, fits n, stage-conserved n, total-suc q n, total-suc (stage_output q c) n)

  stage-behind : Behind q (stage_output q c)
  stage-behind n = omega (arith, stage-conserved n)

  -- it sends all that it held
  stage-in-time : (n : ℕ) → total q n ≤ total (stage_output q c) (suc n)
  unfolding stage_output stage_least
  stage-in-time n = omega (arith, stage-conserved n, total-suc (stage_output q c) n)

-- a stage can send any totals that lie so: its choice is what has left it by the slot's end less what had entered it before
module _ (q c : Flow) (came left : ℕ → ℕ) (enters : (n : ℕ) → total q n ≡ came n) (start : left 0 ≡ 0)
    (low : (n : ℕ) → came n ≤ left (suc n)) (high : (n : ℕ) → left (suc n) ≤ came (suc n)) (choose : (n : ℕ) → c n ≡ left (suc n) - came n) where
  stage-holds : (n : ℕ) → came n ≡ left n + stage_held q c n
  unfolding stage_held stage_least
  stage-holds zero = omega (arith, enters 0, total-zero q)
  stage-holds (suc n) = omega (arith, stage-holds n, low n, high n, choose n, enters n, enters (suc n), total-suc q n)

  stage-leaves : (n : ℕ) → left n + stage_output q c n ≡ left (suc n)
  unfolding stage_output stage_least
  stage-leaves n = omega (arith, stage-holds n, low n, choose n)

  stage-total : (n : ℕ) → total (stage_output q c) n ≡ left n
  stage-total zero = omega (arith, total-zero (stage_output q c))
  stage-total (suc n) = omega (arith, total-suc (stage_output q c) n, stage-total n, stage-leaves n)

  stage-fits : StageFits q c
  unfolding stage_greatest
  stage-fits n = omega (arith, stage-holds n, stage-leaves n, high n, enters n, enters (suc n), total-suc q n)

-- A stage is a delayer 1.

module _ (r c : Flow) where
  stage-past : (n : ℕ) → ((held_on (delayer 1) r c n).b ≡ stage_held r c n) × ((held_on (delayer 1) r c n).past 0 ≡ stage_held r c n)
  unfolding held_on least_output held_after delayer_least delayer_after stays_of older_than of_age total stage_held stage_least
  stage-past zero = (refl, refl)
  stage-past (suc n) = let (b, past) = stage-past n in (omega arith, omega arith)

  pub stage-is-delayer : (n : ℕ) → output_on (delayer 1) r c n ≡ stage_output r c n
  unfolding output_on least_output delayer_least of_age stage_output stage_least
  stage-is-delayer n = omega (arith, (stage-past n).1)

  pub stage-fits-as-delayer : Fitting (delayer 1) r c ↔ StageFits r c
  unfolding greatest_output delayer_greatest stage_greatest
  stage-fits-as-delayer = (
    λ fits n. omega (arith, fits n, stage-is-delayer n, (stage-past n).0),
    λ fits n. omega (arith, fits n, stage-is-delayer n, (stage-past n).0),
  )

-- Every flow at most d slots late comes from some choices in the row.

-- what has left stage i after n slots, where s is to leave the row
unfoldable pub stage_total : Flow → Flow → ℕ → ℕ → ℕ
stage_total r s i n = max (total s n) (total r (n - i))

-- the choices with which the stages send so
unfoldable pub stage_choice : Flow → Flow → ℕ → Flow
stage_choice r s i n = stage_total r s (suc i) (suc n) - stage_total r s i n

module _ (r s : Flow) (entered : Behind r s) where
  none-at-first : (i : ℕ) → stage_total r s i 0 ≡ 0
  unfolding stage_total
  none-at-first i = rw zero-sub (omega (arith, total-zero s, total-zero r))

  all-before-first : (n : ℕ) → total r n ≡ stage_total r s 0 n
  unfolding stage_total
  all-before-first n = rw sub-zero (omega (arith, entered n))

  sends-held : (i n : ℕ) → stage_total r s i n ≤ stage_total r s (suc i) (suc n)
  unfolding stage_total
  sends-held i n = rw suc-sub-suc (omega (arith, total-suc s n))

  sends-there : (i n : ℕ) → stage_total r s (suc i) (suc n) ≤ stage_total r s i (suc n)
  unfolding stage_total
  sends-there i n = rw suc-sub-suc (omega (arith, total-le r {n = n - i} {m = suc n - i} (omega arith)))

  behind-total : (i n : ℕ) → total (behind_stages i r (stage_choice r s)) n ≡ stage_total r s i n
  unfolding behind_stages stage_choice
  behind-total zero = all-before-first
  behind-total (suc i) =
      stage-total (behind_stages i r (stage_choice r s)) (stage_choice r s i) (stage_total r s i) (stage_total r s (suc i))
      (behind-total i) (none-at-first (suc i)) (sends-held i) (sends-there i) (λ n. refl)

  behind-fits : (i : ℕ) → StageFits (behind_stages i r (stage_choice r s)) (stage_choice r s i)
  unfolding stage_choice
  behind-fits i =
      stage-fits (behind_stages i r (stage_choice r s)) (stage_choice r s i) (stage_total r s i) (stage_total r s (suc i))
      (behind-total i) (none-at-first (suc i)) (sends-held i) (sends-there i) (λ n. refl)

  module _ (d : ℕ) (intime : InTime d r s) where
    row-total : (n : ℕ) → total (row_output d r (stage_choice r s)) n ≡ total s n
    unfolding row_output stage_total
    row-total n = omega (arith, behind-total d n, in-time-before d r s intime n)

    pub row-sends : (c : ℕ → Flow) × RowFits d r c × ((n : ℕ) → row_output d r c n ≡ s n)
    row-sends = (
      stage_choice r s,
      λ i less. behind-fits i,
      λ n. omega (arith, row-total n, row-total (suc n), total-suc (row_output d r (stage_choice r s)) n, total-suc s n),
    )

-- Every output of a row is at most d slots late.

behind-entered : (r : Flow) (c : ℕ → Flow) (i : ℕ) → RowFits i r c → Behind r (behind_stages i r c)
unfolding behind_stages
behind-entered r c zero fits n = le_refl _
behind-entered r c (suc i) fits n =
    le_trans (stage-behind (behind_stages i r c) (c i) (fits i (le_refl _)) n) (behind-entered r c i (λ j less. fits j (omega arith)) n)

behind-in-time : (r : Flow) (c : ℕ → Flow) (i : ℕ) → RowFits i r c → InTime i r (behind_stages i r c)
unfolding behind_stages
behind-in-time r c zero fits n = rw add-zero (le_refl _)
behind-in-time r c (suc i) fits n =
    rw add-suc (le_trans (behind-in-time r c i (λ j less. fits j (omega arith)) n) (stage-in-time (behind_stages i r c) (c i) (fits i (le_refl _)) (n + i)))

-- The two forms.

pub delayer-of-row : (d : ℕ) (r : Flow) (stages : ℕ → Flow) → RowFits d r stages
    → (c : Flow) × Fitting (delayer d) r c × ((n : ℕ) → output_on (delayer d) r c n ≡ row_output d r stages n)
unfolding row_output
delayer-of-row d r stages fits = delayer-sends d r (row_output d r stages) (behind-entered r stages d fits) (behind-in-time r stages d fits)

pub row-of-delayer : (d : ℕ) (r c : Flow) → Fitting (delayer d) r c
    → (stages : ℕ → Flow) × RowFits d r stages × ((n : ℕ) → row_output d r stages n ≡ output_on (delayer d) r c n)
row-of-delayer d r c fits = row-sends r (output_on (delayer d) r c) (output-behind (delayer d) r c fits) d (delayer-in-time d r c fits)
