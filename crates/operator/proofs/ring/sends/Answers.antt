-- By the test of the choice; the state then is that of an operator that is no delayer.
use Rattle.std.proofs.Common.{ℕ, ◌+◌, ◌-◌, Bool, ap, ◌∙◌, ap₂, Ok}
use Rattle.operator.specs.Single.{word_count}
use Rattle.operator.specs.Ring.{storable, path_advanced}
use Rattle.operator.specs.declared.ring.PathOperator.{PathOperator}
use Rattle.operator.proofs.RingLaws.{place-apart, advanced-above, advanced-sends, advanced-apart}
use Rattle.operator.proofs.ring.sends.Goals as goal

pub returns-then-high-low : goal.returns-then-high-low
returns-then-high-low c words input known = advanced-above _ words input _ known.ready _ _ known.least known.greatest c.if-high-low.true

pub returns : goal.returns
returns c words input known =
    let a = c.args in
    let output = a.low + a.choice in
    ap₂ (λ (fits : Bool) (next : PathOperator). Ok (record { output = record { 0 = output }; fits = fits; next = next; at = word_count })) c.within.ensures (advanced-apart a.state input output (a.there - output) a.beside known.apart)
    ∙ ap (λ (at : ℕ). Ok (record { output = record { 0 = output }; fits = storable (a.there - output) a.beside; next = path_advanced a.state input output (a.there - output) a.beside; at = at })) (place-apart a.state known.apart)
    ∙ advanced-sends _ words input _ known.ready _ _ known.least known.greatest c.if-high-low.false _ _ (ap (λ (n : ℕ). n - output) known.all) known.holds
