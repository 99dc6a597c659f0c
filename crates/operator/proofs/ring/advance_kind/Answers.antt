-- Each kind by section 3's interval, a delayer by its ring.
use Rattle.std.proofs.Common.{◌≡◌, ℕ, Bool, true, ◌+◌, ◌%◌, eqb, min, sym, refl, ap, ◌∙◌, ap₂, arith, List, Result, Err}
use Rattle.std.proofs.lemmas.Result.{err_from_is_err_and}
use Rattle.std.specs.Result.{IsErrAnd}
use Rattle.operator.specs.Ring.{path_unready, advanced_of}
use Rattle.operator.specs.declared.ring.PathOperator.{PathOperator}
use Rattle.operator.specs.declared.ring.Advanced.{Advanced}
use Rattle.operator.specs.declared.ring.Halted.{Halted}
use Rattle.quantity.specs.Choice.{pick}
use Rattle.quantity.specs.Limits.{largest_amount}
use Rattle.quantity.specs.Ranges.{interval_range}
use Rattle.quantity.proofs.Laws.{least-le}
use Rattle.operator.specs.Held.{keeps}
use Rattle.operator.specs.Limiter.{limiter_least, limiter_greatest, limiter_after}
use Rattle.operator.specs.Compactor.{compactor_least, compactor_greatest, compactor_after}
use Rattle.operator.specs.Expander.{expander_least, expander_greatest, expander_after}
use Rattle.operator.specs.Filter.{beside_after, filter_least, filter_greatest, filter_after}
use Rattle.operator.specs.Operators.{least_output, greatest_output, held_after, number_in_range}
use Rattle.operator.specs.Single.{uses_held, uses_beside}
use Rattle.operator.specs.declared.Operator.{Operator}
use Rattle.operator.proofs.RingLaws.{beside-le, ready-usable, ready-inside, advanced-unready, sends-within}
use Rattle.operator.proofs.ring.advance_kind.Goals as goal

-- what is handed on of an operator that is not ready
halted : (x : PathOperator) (words : List ℕ) (input choice : ℕ) {given : Result Advanced Halted} {why : Halted} → (path_unready x words input ≡ true) × (why ≡ Halted.Unusable)
    → IsErrAnd given (λ made. made ≡ why) → given ≡ advanced_of x words input choice
halted x words input choice told given =
    let (made, is, same) = err_from_is_err_and _ given in
    is ∙ ap Err (same ∙ told.1) ∙ advanced-unready x words input choice told.0

-- what is asked of an operator whose kind is no delayer
asked : {op kind : Operator} → op ≡ kind → uses_held kind ≡ true → {inside : Bool} → inside ≡ number_in_range kind
    → (uses_held op ≡ true) × (inside ≡ number_in_range op) × (pick (uses_beside kind) largest_amount 0 ≡ pick (uses_beside op) largest_amount 0)
asked is apart inside = rw is (apart, inside, refl)

pub there_apart-requires : goal.there_apart-requires
unfolding uses_held uses_beside number_in_range
there_apart-requires c = let kind = asked c.in-Limiter.is refl c.in_range.ensures in (c.requires.0, c.requires.1, kind.0, kind.1, kind.2)

pub there_apart-requires-in-Compactor : goal.there_apart-requires-in-Compactor
unfolding uses_held uses_beside number_in_range
there_apart-requires-in-Compactor c = let kind = asked c.in-Compactor.is refl c.in_range-in-Compactor.ensures in (c.requires.0, c.requires.1, kind.0, kind.1, kind.2)

pub there_apart-requires-in-Expander : goal.there_apart-requires-in-Expander
unfolding uses_held uses_beside number_in_range
there_apart-requires-in-Expander c = let kind = asked c.in-Expander.is refl c.in_range-in-Expander.ensures in (c.requires.0, c.requires.1, kind.0, kind.1, kind.2)

pub there_apart-requires-in-Filter : goal.there_apart-requires-in-Filter
unfolding uses_held uses_beside number_in_range
there_apart-requires-in-Filter c = let kind = asked c.in-Filter.is refl c.in_range-in-Filter.ensures in (c.requires.0, c.requires.1, kind.0, kind.1, kind.2)

pub compactor_sends-sent-requires : goal.compactor_sends-sent-requires
unfolding number_in_range
compactor_sends-sent-requires c =
    omega (arith, least-le interval_range _ (sym (ap number_in_range c.in-Compactor.is) ∙ ready-inside _ _ _ c.in_ok-there-in-Compactor.ensures.0))

pub expander_least-low-requires : goal.expander_least-low-requires
unfolding number_in_range
expander_least-low-requires c =
    (omega (arith, least-le interval_range _ (sym (ap number_in_range c.in-Expander.is) ∙ ready-inside _ _ _ c.in_ok-there-in-Expander.ensures.0)), omega arith)

pub limited-beside-requires : goal.limited-beside-requires
limited-beside-requires c = (beside-le _ _ (ready-usable _ _ _ c.in_ok-there-in-Filter.ensures.0), c.requires.1)

pub returns-in_err-there-in-Limiter : goal.returns-in_err-there-in-Limiter
returns-in_err-there-in-Limiter c = halted _ _ _ _ c.in_err-there-in-Limiter.ensures c.from_residual.ensures.1

pub returns-in_err-there-in-Compactor : goal.returns-in_err-there-in-Compactor
returns-in_err-there-in-Compactor c = halted _ _ _ _ c.in_err-there-in-Compactor.ensures c.from_residual-in_err-there-in-Compactor.ensures.1

pub returns-in_err-there-in-Expander : goal.returns-in_err-there-in-Expander
returns-in_err-there-in-Expander c = halted _ _ _ _ c.in_err-there-in-Expander.ensures c.from_residual-in_err-there-in-Expander.ensures.1

pub returns-in_err-there-in-Filter : goal.returns-in_err-there-in-Filter
returns-in_err-there-in-Filter c = halted _ _ _ _ c.in_err-there-in-Filter.ensures c.from_residual-in_err-there-in-Filter.ensures.1

pub returns-in_ok-there-in-Limiter : goal.returns-in_ok-there-in-Limiter
unfolding least_output limiter_least greatest_output limiter_greatest held_after limiter_after keeps uses_held
returns-in_ok-there-in-Limiter c =
    let (ready, same) = c.in_ok-there-in-Limiter.ensures in
    let sent = c.min-sent.ensures ∙ ap₂ min same c.from.ensures in
    c.sends.ensures _ _ (sends-within _ _ _ (Operator.Limiter c.in-Limiter.rate) c.in-Limiter.is refl ready sent sent same (λ s. refl))

pub returns-in_ok-there-in-Compactor : goal.returns-in_ok-there-in-Compactor
unfolding least_output compactor_least greatest_output compactor_greatest held_after compactor_after keeps uses_held
returns-in_ok-there-in-Compactor c =
    let (ready, same) = c.in_ok-there-in-Compactor.ensures in
    let sent = c.compactor_sends-sent.ensures.0 in
    c.sends-in-Compactor.ensures _ _ (sends-within _ _ _ (Operator.Compactor c.in-Compactor.interval) c.in-Compactor.is refl ready sent sent same (λ s. refl))

pub returns-in_ok-there-in-Expander : goal.returns-in_ok-there-in-Expander
unfolding least_output expander_least greatest_output expander_greatest held_after expander_after keeps uses_held
returns-in_ok-there-in-Expander c =
    let (ready, same) = c.in_ok-there-in-Expander.ensures in
    let low = c.expander_least-low.ensures.0 ∙ ap (λ (n : ℕ). pick (eqb ((c.args.state.slot.0 + 1) % c.in-Expander.interval.0) 0) n 0) same in
    c.sends-in-Expander.ensures _ _ (sends-within _ _ _ (Operator.Expander c.in-Expander.interval) c.in-Expander.is refl ready low same same (λ s. refl))

pub returns-in_ok-there-in-Filter : goal.returns-in_ok-there-in-Filter
unfolding least_output filter_least greatest_output filter_greatest held_after filter_after beside_after uses_held
returns-in_ok-there-in-Filter c =
    let (ready, same) = c.in_ok-there-in-Filter.ensures in
    c.sends-in-Filter.ensures _ _
    (sends-within _ _ _ (Operator.Filter c.in-Filter.rate) c.in-Filter.is refl ready (omega (arith, same, c.saturating_sub-low.ensures, c.limited-beside.ensures)) same same (λ s. c.limited-beside.ensures))
