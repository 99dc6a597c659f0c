-- One slot of an operator on a flow: what is held before the first and after each, by the definitions.
use Rattle.std.proofs.Common.{◌≡◌, ℕ, zero, suc, ◌+◌, ◌-◌, refl}
use Rattle.quantity.specs.declared.Rate.{Rate}
use Rattle.operator.specs.Held.{Held, keeps}
use Rattle.operator.specs.Limiter.{limiter_after}
use Rattle.operator.specs.Compactor.{compactor_after}
use Rattle.operator.specs.Expander.{expander_after}
use Rattle.operator.specs.Filter.{filter_after}
use Rattle.operator.specs.Delayer.{delayer_after}
use Rattle.operator.specs.Operators.{held_after}
use Rattle.flow.specs.Flows.{Flow}
use Rattle.operator.specs.OnFlows.{held_on, output_on}
use Rattle.operator.specs.declared.Operator.{Operator}
use Rattle.operator.specs.declared.Operator.TheVariants.{Limiter, Compactor, Expander, Filter, Delayer}

-- b becomes b + r − s, whatever the operator
pub after-b : (op : Operator) (x : Held) (r s : ℕ) → (held_after op x r s).b ≡ x.b + r - s
unfolding held_after limiter_after compactor_after expander_after filter_after delayer_after keeps
after-b (Limiter R) x r s = refl
after-b (Compactor m) x r s = refl
after-b (Expander m) x r s = refl
after-b (Filter R) x r s = refl
after-b (Delayer d) x r s = refl

pub held-suc : (op : Operator) (r c : Flow) (n : ℕ) → held_on op r c (suc n) ≡ held_after op (held_on op r c n) (r n) (output_on op r c n)
unfolding held_on output_on
held-suc op r c n = refl

pub held-b-zero : (op : Operator) (r c : Flow) → (held_on op r c 0).b ≡ 0
unfolding held_on
held-b-zero op r c = refl

pub held-b-suc : (op : Operator) (r c : Flow) (n : ℕ) → (held_on op r c (suc n)).b ≡ (held_on op r c n).b + r n - output_on op r c n
held-b-suc op r c n = rw held-suc (after-b op (held_on op r c n) (r n) (output_on op r c n))

-- h of an operator that is no filter
after-h : (op : Operator) → ((R : Rate) → op ≡ Filter R → ⊥) → (x : Held) (r s : ℕ) → (held_after op x r s).h ≡ 0
unfolding held_after limiter_after compactor_after expander_after delayer_after keeps
after-h (Limiter R) other x r s = refl
after-h (Compactor m) other x r s = refl
after-h (Expander m) other x r s = refl
after-h (Filter R) other x r s = absurd (other R refl)
after-h (Delayer d) other x r s = refl

pub beside_none : (op : Operator) → ((R : Rate) → op ≡ Filter R → ⊥) → (r c : Flow) (n : ℕ) → (held_on op r c n).h ≡ 0
unfolding held_on
beside_none op other r c zero = refl
beside_none op other r c (suc n) = after-h op other _ _ _
