-- The smaller of the two rates; the burst is kept, or taken anew at the rate that takes its place.
use mathlib.Core.Path.{◌≡◌, ◌∙◌, ap}
use native.Mathlib.Nat.{min-eq_left, min-eq_right, le_of_lt}
use Rattle.quantity.specs.declared.Rate.{Rate}
use Rattle.operator.specs.FilterPart.{filtered, slower}
use Rattle.figures.specs.Carried.{class_in, slowest_in}
use Rattle.figures.proofs.Bounds.{burst-kept}
use Rattle.figures.proofs.carried.Carried.slower.Goals as goal
use Rattle.figures.proofs.carried.Carried.slower.Goals.{In_default, in_default-via-in-Some+else-least-rate, in_default-via-in_default}

pub returns-in-Some : goal.returns-in-Some
unfolding slower
returns-in-Some c =
    let slowest = c.in-Some.is in
    (rw (slowest, min-eq_left c.if-least-rate.true), burst-kept (class_in c.args.source.now.declared.now c.args.self.class) slowest c.requires.0.burst)

-- no filter has come, or it has a larger rate
least-here : (c : In_default) → filtered c.args.rate.0 ≡ slower (slowest_in c.args.self.slowest) c.args.rate.0
unfolding slower
least-here c =
    elim c.in_default.branch [
      | in_default-via-in-Some+else-least-rate w ↦ rw (w.in-Some.is, min-eq_right (le_of_lt w.if-least-rate.false))
      | in_default-via-in_default w ↦ rw w.in_default.is
    ]

pub returns-in_default : goal.returns-in_default
returns-in_default c =
    let (same, kept) = c.least_rate.ensures in
    (ap (λ (rate : Rate). filtered rate.0) same ∙ least-here (goal.at.returns-in_default c).In_default, kept)
