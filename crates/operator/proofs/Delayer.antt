-- Source documents 000 and 003: what a delayer holds by age, in totals. Oldest leave first, so of the units that entered before some slot it holds what entered by then less all that left.
-- Every output of the interval keeps this, by induction on the slot number; so a delayer's outputs are just the flows at most d slots late.
use Rattle.std.proofs.Common.{◌≡◌, ℕ, zero, suc, ◌+◌, ◌-◌, ◌≤◌, sym, le_refl, le_of_lt, lt_of_not-le, add-sub_cancel, sub-eq-zero_of_le, arith}
use native.Mathlib.Nat.{le_dest, zero-sub, sub-zero, suc-sub-suc}
use native.Mathlib.Decide.{dec_le}
use Rattle.quantity.specs.Sums.{total}
use Rattle.quantity.proofs.Sums.{total-zero, total-suc, total-none, total_first}
use Rattle.operator.specs.Held.{Held, nothing}
use Rattle.operator.specs.Delayer.{of_age, stays_of, delayer_least, delayer_greatest, delayer_after}
use Rattle.operator.specs.Operators.{least_output, greatest_output, held_after, delayer}
use Rattle.flow.specs.Flows.{Flow, InTime, Behind}
use Rattle.operator.specs.OnFlows.{held_on, output_on, Fitting}
use Rattle.operator.proofs.Conservation.{total-ages, total-stays, total-past-after, delayer-whole-after}

-- after n slots of r, with so much left: what is held of the ages below a, and what entered before them less what left, is all that is held
pub record ByAge (d : ℕ) (r : Flow) (left n : ℕ) (x : Held) : Type 0 where
  pub whole : x.b ≡ total x.past d
  pub entered : left ≤ total r n
  pub ages : (a : ℕ) → a ≤ d → total x.past a + (total r (n - a) - left) ≡ x.b

by-age-nothing : (d : ℕ) (r : Flow) → ByAge d r 0 0 nothing
by-age-nothing d r = record {
  whole = sym (total-none d);
  entered = omega arith;
  ages = λ a within. rw zero-sub (omega (arith, total-none a, total-zero r));
}

module _ (d : ℕ) (r : Flow) (left n : ℕ) (x : Held) (before : ByAge d r left n x) where
  pub held_all : x.b ≡ total r n - left
  held_all =
      let all : total x.past 0 + (total r n - left) ≡ x.b = rw sub-zero at (before.ages 0 (omega arith)) in
      omega (arith, total-zero x.past)

  by-age-after : (s : ℕ) → of_age x (r n) d ≤ s → s ≤ x.b + r n → ByAge d r (left + s) (suc n) (delayer_after d x (r n) s)
  unfolding delayer_after
  by-age-after s low high = record {
    whole = delayer-whole-after d x (r n) s before.whole low high;
    entered = omega (arith, total-suc r n, held_all, before.entered);
    ages = ages-after;
  }
    where
      ages-after : (a : ℕ) → a ≤ d → total (delayer_after d x (r n) s).past a + (total r (suc n - a) - (left + s)) ≡ x.b + r n - s
      ages-after zero within = rw (sub-zero, total-zero) (omega (arith, total-suc r n, held_all, before.entered))
      ages-after (suc a) within =
          let older : total x.past a + (total r (n - a) - left) ≡ x.b = before.ages a (omega arith) in
          let there : total (of_age x (r n)) (suc d) ≡ x.b + r n = total-ages d x (r n) before.whole in
          let younger : total (of_age x (r n)) (suc a) ≡ r n + total x.past a = unfold of_age in total_first (of_age x (r n)) a in
          let stays : total (stays_of d x (r n) s) (suc a) ≡ total (of_age x (r n)) (suc a) - (s - (total r (n - a) - left)) = total-stays d x (r n) s (suc a) (total r (n - a) - left) (omega arith) in
          rw (suc-sub-suc, total-past-after d x (r n) s (suc a) within, stays, younger) (omega arith)

-- its least, in totals
least-by-age : (d : ℕ) (r : Flow) (left n : ℕ) (x : Held) → ByAge d r left n x → of_age x (r n) d ≡ total r (suc n - d) - left
unfolding of_age
least-by-age zero r left n x before = rw sub-zero (omega (arith, total-suc r n, held_all 0 r left n x before, before.whole, before.entered, total-zero x.past))
least-by-age (suc e) r left n x before = rw suc-sub-suc (omega (arith, before.whole, before.ages e (omega arith), total-suc x.past e))

module _ (d : ℕ) (r c : Flow) where
  -- the output is the least, in totals, and the choice
  output-by-age : (left n : ℕ) → ByAge d r left n (held_on (delayer d) r c n) → output_on (delayer d) r c n ≡ total r (suc n - d) - left + c n
  unfolding output_on least_output delayer_least
  output-by-age left n before = omega (arith, least-by-age d r left n (held_on (delayer d) r c n) before)

  by-age-next : (left n : ℕ) → ByAge d r left n (held_on (delayer d) r c n) → output_on (delayer d) r c n ≤ (held_on (delayer d) r c n).b + r n
      → ByAge d r (left + output_on (delayer d) r c n) (suc n) (held_on (delayer d) r c (suc n))
  unfolding held_on output_on least_output held_after delayer_least
  by-age-next left n before high = by-age-after d r left n (held_on (delayer d) r c n) before (output_on (delayer d) r c n) (omega arith) high

  module _ (fits : Fitting (delayer d) r c) where
    pub by-age-on : (n : ℕ) → ByAge d r (total (output_on (delayer d) r c) n) n (held_on (delayer d) r c n)
    unfolding held_on total greatest_output delayer_greatest
    by-age-on zero = by-age-nothing d r
    by-age-on (suc n) = by-age-next (total (output_on (delayer d) r c) n) n (by-age-on n) (fits n)

    pub delayer-by-age : (n a : ℕ) → a ≤ d
        → total (held_on (delayer d) r c n).past d - total (held_on (delayer d) r c n).past a ≡ total r (n - a) - total (output_on (delayer d) r c) n
    delayer-by-age n a within = omega (arith, (by-age-on n).whole, (by-age-on n).ages a within)

    pub delayer-least : (n : ℕ) → least_output (delayer d) n (held_on (delayer d) r c n) (r n) ≡ total r (suc n - d) - total (output_on (delayer d) r c) n
    unfolding least_output delayer_least
    delayer-least n = least-by-age d r (total (output_on (delayer d) r c) n) n (held_on (delayer d) r c n) (by-age-on n)

    pub delayer-in-time : InTime d r (output_on (delayer d) r c)
    delayer-in-time n =
        let none-older = delayer-by-age (n + d) d (le_refl d) in
        omega (arith, rw add-sub_cancel at none-older)

-- what entered d slots ago has left, and before d slots nothing has to
pub in-time-before : (d : ℕ) (r s : Flow) → InTime d r s → (n : ℕ) → total r (n - d) ≤ total s n
in-time-before d r s intime n = elim (dec_le d n) [ yes later ↦ after later | no earlier ↦ rw (sub-eq-zero_of_le (le_of_lt (lt_of_not-le earlier)), total-zero) (omega arith) ]
  where
    after : d ≤ n → total r (n - d) ≤ total s n
    after later =
        let (k, e) = le_dest later in
        let slots : k + d ≡ n = omega arith in
        rw (← slots, add-sub_cancel) (intime k)

-- the choice with which a delayer sends s in slot n, where it has sent s so far: s less the least
unfoldable pub delayer_choice : ℕ → Flow → Flow → Flow
delayer_choice d r s n = s n - (total r (suc n - d) - total s n)

module _ (d : ℕ) (r s : Flow) (entered : Behind r s) (intime : InTime d r s) where
  sends-at : (n : ℕ) → ByAge d r (total s n) n (held_on (delayer d) r (delayer_choice d r s) n) → output_on (delayer d) r (delayer_choice d r s) n ≡ s n
  unfolding delayer_choice
  sends-at n before = omega (arith, output-by-age d r (delayer_choice d r s) (total s n) n before, in-time-before d r s intime (suc n), total-suc s n)

  fits-at : (n : ℕ) → ByAge d r (total s n) n (held_on (delayer d) r (delayer_choice d r s) n)
      → output_on (delayer d) r (delayer_choice d r s) n ≤ (held_on (delayer d) r (delayer_choice d r s) n).b + r n
  fits-at n before =
      omega (
        arith,
        sends-at n before,
        held_all d r (total s n) n (held_on (delayer d) r (delayer_choice d r s) n) before,
        entered n,
        entered (suc n),
        total-suc s n,
        total-suc r n,
      )

  by-age-sent : (n : ℕ) → ByAge d r (total s n) n (held_on (delayer d) r (delayer_choice d r s) n)
  unfolding held_on total
  by-age-sent zero = by-age-nothing d r
  by-age-sent (suc n) =
      let before = by-age-sent n in
      rw (sends-at n before) at (by-age-next d r (delayer_choice d r s) (total s n) n before (fits-at n before))

  pub delayer-sends : (c : Flow) × Fitting (delayer d) r c × ((n : ℕ) → output_on (delayer d) r c n ≡ s n)
  unfolding greatest_output delayer_greatest
  delayer-sends = (delayer_choice d r s, λ n. fits-at n (by-age-sent n), λ n. sends-at n (by-age-sent n))
