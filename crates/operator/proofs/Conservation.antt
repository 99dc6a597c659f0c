-- What came is what left and what is held, for every operator, and its interval is never empty.
-- For a delayer both rest on b being the sum of what is held of each past slot, and the sum of what stays of the ages below k is found by induction on k.
use Rattle.std.proofs.Common.{◌≡◌, ℕ, zero, suc, ◌+◌, ◌-◌, ◌%◌, ◌≤◌, Bool, true, false, eqb, ltb, sym, le_refl, arith, lt-ltb}
use native.Mathlib.Nat.{min-le_left}
use Rattle.quantity.specs.Choice.{pick}
use Rattle.quantity.specs.Sums.{total}
use Rattle.quantity.proofs.Laws.{pick_true}
use Rattle.quantity.proofs.Sums.{total-zero, total-suc, total-same, total-none, total_first}
use Rattle.operator.specs.Held.{Held, nothing}
use Rattle.operator.specs.Limiter.{limiter_least, limiter_greatest}
use Rattle.operator.specs.Compactor.{compactor_least, compactor_greatest}
use Rattle.operator.specs.Expander.{expander_least, expander_greatest}
use Rattle.operator.specs.Filter.{filter_least, filter_greatest}
use Rattle.operator.specs.Delayer.{of_age, older_than, stays_of, delayer_least, delayer_greatest, delayer_after}
use Rattle.operator.specs.Operators.{least_output, greatest_output, held_after}
use Rattle.operator.specs.Whole.{Whole}
use Rattle.flow.specs.Flows.{Flow, Behind}
use Rattle.operator.specs.OnFlows.{held_on, output_on, Fitting, none}
use Rattle.operator.specs.declared.Operator.{Operator}
use Rattle.operator.specs.declared.Operator.TheVariants.{Limiter, Compactor, Expander, Filter, Delayer}
use Rattle.operator.proofs.Steps.{held-b-zero, held-b-suc}

pick-or-none-le : (t : Bool) (a : ℕ) → pick t a 0 ≤ a
pick-or-none-le true a = le_refl a
pick-or-none-le false a = omega arith

pub greatest-le-there : (op : Operator) (t : ℕ) (x : Held) (r : ℕ) → greatest_output op t x r ≤ x.b + r
unfolding greatest_output limiter_greatest compactor_greatest expander_greatest filter_greatest delayer_greatest
greatest-le-there (Limiter R) t x r = min-le_left (x.b + r) R.0
greatest-le-there (Compactor m) t x r = omega (arith, pick-or-none-le (eqb (t % m.0) 0) x.b)
greatest-le-there (Expander m) t x r = le_refl _
greatest-le-there (Filter R) t x r = le_refl _
greatest-le-there (Delayer d) t x r = le_refl _

-- all that a delayer can send: its ages from 0 to d
pub total-ages : (d : ℕ) (x : Held) (r : ℕ) → x.b ≡ total x.past d → total (of_age x r) (suc d) ≡ x.b + r
unfolding of_age
total-ages d x r whole = omega (arith, total_first (of_age x r) d)

pub least-le-greatest : (op : Operator) (t : ℕ) (x : Held) (r : ℕ) → Whole op x → least_output op t x r ≤ greatest_output op t x r
unfolding least_output greatest_output limiter_least limiter_greatest compactor_least compactor_greatest expander_least expander_greatest filter_least filter_greatest delayer_least delayer_greatest
least-le-greatest (Limiter R) t x r whole = le_refl _
least-le-greatest (Compactor m) t x r whole = le_refl _
least-le-greatest (Expander m) t x r whole = pick-or-none-le (eqb ((t + 1) % m.0) 0) (x.b + r)
least-le-greatest (Filter R) t x r whole = omega arith
least-le-greatest (Delayer d) t x r whole = omega (arith, total-ages d.0 x r whole, total-suc (of_age x r) d.0)

-- s takes the older units u first, then the next o, then the younger t: what it leaves of t and o together
left-of-both : (t o u s : ℕ) → t + o - (s - u) ≡ t - (s - (o + u)) + (o - (s - u))
left-of-both t o u s = omega arith

stays_at : (d : ℕ) (x : Held) (r s k u : ℕ) → total (of_age x r) (suc k) + u ≡ total (of_age x r) (suc d) → stays_of d x r s k ≡ of_age x r k - (s - u)
unfolding stays_of older_than
stays_at d x r s k u e =
    let older : total (of_age x r) (suc d) - total (of_age x r) (suc k) ≡ u = omega arith in
    rw older

-- what stays of the ages below k, where the older ones are u in all
pub total-stays : (d : ℕ) (x : Held) (r s k u : ℕ) → total (of_age x r) k + u ≡ total (of_age x r) (suc d) → total (stays_of d x r s) k ≡ total (of_age x r) k - (s - u)
total-stays d x r s zero u e = omega (arith, total-zero (stays_of d x r s), total-zero (of_age x r))
total-stays d x r s (suc k) u e =
    let next : total (of_age x r) (suc k) ≡ total (of_age x r) k + of_age x r k = total-suc (of_age x r) k in
    let before : total (stays_of d x r s) k ≡ total (of_age x r) k - (s - (of_age x r k + u)) = total-stays d x r s k (of_age x r k + u) (omega arith) in
    rw (next, total-suc, before, stays_at d x r s k u e) (sym (left-of-both (total (of_age x r) k) (of_age x r k) u s))

pub total-past-after : (d : ℕ) (x : Held) (r s k : ℕ) → k ≤ d → total (delayer_after d x r s).past k ≡ total (stays_of d x r s) k
unfolding delayer_after
total-past-after d x r s k within =
    total-same (delayer_after d x r s).past (stays_of d x r s) k (λ a less. pick_true (ltb a d) (stays_of d x r s a) 0 (lt-ltb a d (omega arith)))

pub delayer-whole-after : (d : ℕ) (x : Held) (r s : ℕ) → x.b ≡ total x.past d → of_age x r d ≤ s → s ≤ x.b + r
    → x.b + r - s ≡ total (delayer_after d x r s).past d
delayer-whole-after d x r s whole low high =
    let last : total (of_age x r) (suc d) ≡ total (of_age x r) d + of_age x r d = total-suc (of_age x r) d in
    omega (arith, total-past-after d x r s d (le_refl d), total-stays d x r s d (of_age x r d) (sym last), total-ages d x r whole)

pub whole-nothing : (op : Operator) → Whole op nothing
whole-nothing (Limiter R) = tt
whole-nothing (Compactor m) = tt
whole-nothing (Expander m) = tt
whole-nothing (Filter R) = tt
whole-nothing (Delayer d) = sym (total-none d.0)

pub whole-after : (op : Operator) (t : ℕ) (x : Held) (r s : ℕ) → Whole op x → least_output op t x r ≤ s → s ≤ greatest_output op t x r → Whole op (held_after op x r s)
unfolding least_output greatest_output held_after delayer_least delayer_greatest delayer_after
whole-after (Limiter R) t x r s whole low high = tt
whole-after (Compactor m) t x r s whole low high = tt
whole-after (Expander m) t x r s whole low high = tt
whole-after (Filter R) t x r s whole low high = tt
whole-after (Delayer d) t x r s whole low high = delayer-whole-after d.0 x r s whole low high

pub whole-on : (op : Operator) (r c : Flow) → Fitting op r c → (n : ℕ) → Whole op (held_on op r c n)
unfolding held_on output_on
whole-on op r c fits zero = whole-nothing op
whole-on op r c fits (suc n) =
    whole-after op n (held_on op r c n) (r n) (output_on op r c n) (whole-on op r c fits n) (omega arith) (fits n)

-- in a slot before which what is held is whole, the choice 0 fits
none-fits-at : (op : Operator) (r : Flow) (n : ℕ) → Whole op (held_on op r none n) → output_on op r none n ≤ greatest_output op n (held_on op r none n) (r n)
unfolding output_on
none-fits-at op r n whole = omega (arith, least-le-greatest op n (held_on op r none n) (r n) whole)

whole-on-none : (op : Operator) (r : Flow) (n : ℕ) → Whole op (held_on op r none n)
unfolding held_on output_on
whole-on-none op r zero = whole-nothing op
whole-on-none op r (suc n) =
    let whole = whole-on-none op r n in
    whole-after op n (held_on op r none n) (r n) (output_on op r none n) whole (omega arith) (none-fits-at op r n whole)

pub none-fits : (op : Operator) (r : Flow) → Fitting op r none
none-fits op r n = none-fits-at op r n (whole-on-none op r n)

pub conserved : (op : Operator) (r c : Flow) → Fitting op r c → (n : ℕ) → total r n ≡ total (output_on op r c) n + (held_on op r c n).b
conserved op r c fits zero = omega (arith, total-zero r, total-zero (output_on op r c), held-b-zero op r c)
conserved op r c fits (suc n) =
    let ih = conserved op r c fits n in
    let fit = fits n in
    omega (
      arith,
      total-suc r n,
      total-suc (output_on op r c) n,
      held-b-suc op r c n,
      greatest-le-there op n (held_on op r c n) (r n),
    )

pub output-behind : (op : Operator) (r c : Flow) → Fitting op r c → Behind r (output_on op r c)
output-behind op r c fits n = omega (arith, conserved op r c fits n)
