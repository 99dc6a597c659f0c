-- The layout by age: the field and the 64 words that a single operator has of what it holds have section 3's b, h and past again; and what an operator does not use is 0 once it has sent.
use Rattle.std.proofs.Common.{◌≡◌, ℕ, ◌≤◌, Bool, true, false, List, sym, refl, ap, ◌∙◌, arith, le-ltb}
use mathlib.Core.Path.{fun_ext}
use native.Mathlib.Nat.{le_dest}
use Rattle.quantity.specs.Choice.{pick}
use Rattle.quantity.specs.Sums.{total, list_of}
use Rattle.quantity.specs.declared.Slots.{Slots}
use Rattle.quantity.proofs.Laws.{pick-false}
use Rattle.quantity.proofs.Sums.{total-rest}
use Rattle.words.specs.Stored.{word_at}
use Rattle.operator.specs.Held.{Held, keeps}
use Rattle.operator.specs.Limiter.{limiter_after}
use Rattle.operator.specs.Compactor.{compactor_after}
use Rattle.operator.specs.Expander.{expander_after}
use Rattle.operator.specs.Filter.{filter_after}
use Rattle.operator.specs.Delayer.{delayer_after}
use Rattle.operator.specs.Operators.{held_after, number_in_range}
use Rattle.operator.specs.Whole.{Whole}
use Rattle.operator.specs.Single.{word_count, words_used, uses_held, uses_beside, holds}
use Rattle.operator.specs.declared.Operator.{Operator}
use Rattle.operator.specs.declared.Operator.TheVariants.{Limiter, Compactor, Expander, Filter, Delayer}
use Rattle.operator.specs.declared.SingleOperator.{SingleOperator}
use Rattle.operator.proofs.SingleLaws.{used-within}
use Rattle.operator.proofs.DelayerRing.{word-listed}

pub past-none : (op : Operator) (y : Held) (r s a : ℕ) → words_used op ≤ a → (held_after op y r s).past a ≡ 0
unfolding held_after limiter_after compactor_after expander_after filter_after delayer_after keeps words_used
past-none (Limiter R) y r s a h = refl
past-none (Compactor m) y r s a h = refl
past-none (Expander m) y r s a h = refl
past-none (Filter R) y r s a h = refl
past-none (Delayer d) y r s a h = pick-false _ _ _ (le-ltb a d.0 h)

pub beside_none : (op : Operator) (y : Held) (r s : ℕ) → uses_beside op ≡ false → (held_after op y r s).h ≡ 0
unfolding held_after limiter_after compactor_after expander_after filter_after delayer_after keeps uses_beside
beside_none (Limiter R) y r s e = refl
beside_none (Compactor m) y r s e = refl
beside_none (Expander m) y r s e = refl
beside_none (Filter R) y r s e = let z : ◌≡◌ {A = Bool} true false = e in (cc)
beside_none (Delayer d) y r s e = refl

-- what an operator holds, as a single operator's state and its words: b in the field unless it is a delayer's, and of a delayer what is held of each past slot
abbrev pub state_by_age : Operator → Slots → Held → SingleOperator
state_by_age op slot y = record { operator = op; slot = slot; held = record { 0 = pick (uses_held op) y.b 0 }; beside = record { 0 = y.h } }

abbrev pub words_by_age : Held → List ℕ
words_by_age y = list_of y.past word_count

-- b of these: the state's field, or the sum of what is past
units-kept : (op : Operator) (y : Held) → words_used op ≤ word_count → Whole op y → ((a : ℕ) → words_used op ≤ a → y.past a ≡ 0)
    → pick (uses_held op) (pick (uses_held op) y.b 0) (total y.past word_count) ≡ y.b
unfolding uses_held words_used
units-kept (Limiter R) y within whole none = refl
units-kept (Compactor m) y within whole none = refl
units-kept (Expander m) y within whole none = refl
units-kept (Filter R) y within whole none = refl
units-kept (Delayer d) y within whole none =
    let (k, e) = le_dest within in
    ap (total y.past) (sym e) ∙ total-rest y.past d.0 k none ∙ sym whole

pub holds-by-age : (op : Operator) (slot : Slots) (y : Held) → number_in_range op ≡ true → Whole op y → ((a : ℕ) → words_used op ≤ a → y.past a ≡ 0)
    → holds (state_by_age op slot y) (words_by_age y) ≡ y
unfolding holds
holds-by-age op slot y inside whole none =
    let within = used-within op inside in
    let each : (a : ℕ) → word_at (words_by_age y) a ≡ y.past a = word-listed y.past (λ a behind. none a (omega arith)) in
    ap (λ (past : ℕ → ℕ). record { b = pick (uses_held op) (pick (uses_held op) y.b 0) (total past word_count); h = y.h; past = past }) (fun_ext each)
    ∙ ap (λ (b : ℕ). record { b = b; h = y.h; past = y.past }) (units-kept op y within whole none)
