-- The tests in turn, and then section 3's interval of a delayer, by its totals.
use Rattle.std.proofs.Common.{◌≡◌, ℕ, ◌+◌, ◌-◌, ◌%◌, ◌≤◌, Bool, true, false, List, sym, ap, ◌∙◌, ap₂, mod-lt, arith, Ok}
use borrow.Author.Tests.{not-true, not-false}
use Rattle.quantity.specs.Limits.{largest_amount}
use Rattle.quantity.specs.Ranges.{in_range, delay_range}
use Rattle.quantity.specs.declared.Delay.{Delay}
use Rattle.quantity.proofs.Laws.{least-le, le-largest}
use Rattle.operator.specs.Delayer.{delayer_greatest, delayer_after}
use Rattle.operator.specs.Operators.{greatest_output, held_after, number_in_range}
use Rattle.operator.specs.Single.{words_used, uses_held}
use Rattle.operator.specs.Ring.{ring_held, ring_recent, path_holds, path_least, path_greatest, path_unusable, storable, path_advanced, path_unready}
use Rattle.operator.specs.declared.Operator.{Operator}
use Rattle.operator.specs.declared.ring.PathOperator.{PathOperator}
use Rattle.operator.proofs.RingLaws.{place-ring, ring-held-le, unready-unusable, unready-outside, is-ready, advanced-unready, least-ring, there-ring, advanced-above, advanced-sends, advanced-ring}
use Rattle.operator.proofs.ring.advance_delayer.Goals as goal
use Rattle.operator.proofs.ring.advance_delayer.Goals.{After-from-held, After-saturating_sub-low, Else-not-delayer_fits, Else-not-in_range}

-- of an operator that is a delayer
ring : {op : Operator} {delay : Delay} → op ≡ Operator.Delayer delay → uses_held op ≡ false
unfolding uses_held
ring named = ap uses_held named

used : {op : Operator} {delay : Delay} → op ≡ Operator.Delayer delay → delay.0 ≡ words_used op
unfolding words_used
used named = sym (ap words_used named)

module _ (x : PathOperator) (words : List ℕ) (input : ℕ) {delay : Delay} (named : x.operator ≡ Operator.Delayer delay) where
  high_same : ring_held x + input ≡ path_greatest x words input
  unfolding path_greatest greatest_output delayer_greatest
  high_same = there-ring x words input (ring named) ∙ sym (ap (λ (op : Operator). greatest_output op x.slot.0 (path_holds x words) input) named)

  none_beside : (s : ℕ) → 0 ≡ (held_after x.operator (path_holds x words) input s).h
  unfolding held_after delayer_after
  none_beside s = sym (ap (λ (op : Operator). (held_after op (path_holds x words) input s).h) named)

inside : (c : Else-not-in_range) → in_range delay_range c.args.delay.0 ≡ true
inside c = sym c.in_range.ensures ∙ c.if-not-in_range.false

usable : (c : Else-not-delayer_fits) → let a = c.args in path_unusable a.state a.words.now ≡ false
usable c = not-true _ (sym c.delayer_fits.ensures ∙ c.if-not-delayer_fits.false)

ready : (c : Else-not-delayer_fits) → let a = c.args in path_unready a.state a.words.now a.input ≡ false
unfolding number_in_range
ready c =
    is-ready _ _ _ (usable c) (ap number_in_range c.requires.2 ∙ (sym c.in_range.ensures ∙ c.if-not-in_range.false)) c.requires.1

-- what it holds, by its totals
held_same : (c : After-from-held) → c.from-held.result ≡ ring_held c.args.state
unfolding ring_held
held_same c = c.from-held.ensures ∙ c.total_less.ensures

held-le : (c : After-from-held) → c.from-held.result ≤ largest_amount
held-le c = omega (arith, held_same c, ring-held-le _ _ (ring c.requires.2) ((not-true _ (sym c.delayer_fits.ensures ∙ c.if-not-delayer_fits.false))))

low_same : (c : After-saturating_sub-low) → let a = c.args in c.saturating_sub-low.result ≡ path_least a.state a.words.now a.input
unfolding ring_recent ring_held
low_same c =
    let named = c.requires.2 in
    c.saturating_sub-low.ensures
    ∙ ap₂ (λ (b n : ℕ). b - n) (c.from-held.ensures ∙ c.total_less.ensures) (c.from-recent.ensures ∙ c.total_less-2.ensures)
    ∙ least-ring _ _ _ (ring named) _ (used named)

there-same : (c : After-from-held) → let a = c.args in c.from-held.result + a.input ≡ ring_held a.state + a.input
there-same c = ap (λ (b : ℕ). b + c.args.input) (held_same c)

pub returns-then-not-in_range : goal.returns-then-not-in_range
unfolding number_in_range
returns-then-not-in_range c =
    advanced-unready _ _ _ _ (unready-outside _ _ _ (ap number_in_range c.requires.2 ∙ sym c.in_range.ensures ∙ c.if-not-in_range.true))

pub delayer_fits-requires : goal.delayer_fits-requires
delayer_fits-requires c =
    (c.requires.0, ring c.requires.2, used c.requires.2)

pub returns-then-not-delayer_fits : goal.returns-then-not-delayer_fits
returns-then-not-delayer_fits c = advanced-unready _ _ _ _ (unready-unusable _ _ _ (not-false _ (sym c.delayer_fits.ensures ∙ c.if-not-delayer_fits.true)))

pub nonzero_rem-at : goal.nonzero_rem-at
nonzero_rem-at c = omega (arith, least-le delay_range _ (inside (goal.at.nonzero_rem-at c).Else-not-in_range))

pub bounds-words-at : goal.bounds-words-at
bounds-words-at c =
    let within = inside (goal.at.bounds-words-at c).Else-not-in_range in
    omega (arith, mod-lt c.args.state.slot.0 (least-le delay_range _ within), le-largest delay_range _ within, c.told-words)

pub returns-then-there-low : goal.returns-then-there-low
returns-then-there-low c =
    advanced-above _ _ _ _ (ready (goal.at.returns-then-there-low c).Else-not-delayer_fits) _ _ (low_same (goal.at.returns-then-there-low c).After-saturating_sub-low) (there-same (goal.at.returns-then-there-low c).After-from-held ∙ high_same _ _ _ c.requires.2) c.if-there-low.true

pub returns : goal.returns
returns c =
    let a = c.args in
    let there = c.from-held.result + a.input in
    let output = c.saturating_sub-low.result + a.choice in
    let named = c.requires.2 in
    let at = a.state.slot.0 % a.delay.0 in
    let next : ◌≡◌ {A = PathOperator} (record { operator = a.state.operator; slot = a.state.slot; held = record { 0 = 0 }; beside = record { 0 = 0 }; entered = c.total_more.result; left = c.total_more-2.result }) (path_advanced a.state a.input output (there - output) 0) =
    rw (c.total_more.ensures, c.total_more-2.ensures) (advanced-ring a.state a.input output (there - output) 0 (ring named))
    in
    ap₂ (λ (fits : Bool) (next : PathOperator). Ok (record { output = record { 0 = output }; fits = fits; next = next; at = at })) c.within.ensures next
    ∙ ap (λ (at : ℕ). Ok (record { output = record { 0 = output }; fits = storable (there - output) 0; next = path_advanced a.state a.input output (there - output) 0; at = at })) (place-ring a.state (ring named) a.delay.0 (used named))
    ∙ advanced-sends _ _ _ _ (ready (goal.at.returns c).Else-not-delayer_fits) _ _ (low_same (goal.at.returns c).After-saturating_sub-low) (there-same (goal.at.returns c).After-from-held ∙ high_same _ _ _ named) c.if-there-low.false _ _
    (ap (λ (n : ℕ). n - output) (there-same (goal.at.returns c).After-from-held ∙ there-ring _ _ _ (ring named))) (none_beside _ _ _ named)
