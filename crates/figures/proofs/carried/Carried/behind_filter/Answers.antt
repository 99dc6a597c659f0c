-- The class stays, and the rate is counted in with the burst at it.
use mathlib.Core.Path.{◌≡◌, subst, sym}
use mathlib.Core.Bool.{true}
use Rattle.std.specs.Prelude.{Some}
use Rattle.quantity.specs.Ranges.{rate_range}
use Rattle.operator.specs.Operators.{number_in_range}
use Rattle.operator.specs.declared.Operator.TheVariants.{Filter}
use Rattle.figures.specs.declared.carried.Carried.{Carried}
use Rattle.figures.specs.Progress.{behind}
use Rattle.figures.specs.Carried.{progress_in, Within, most_with}
use Rattle.figures.proofs.Bounds.{in-range, filter-within}
use Rattle.figures.proofs.carried.Carried.behind_filter.Goals as goal
use Rattle.figures.proofs.carried.Carried.behind_filter.Goals.{After-slower}

pub slower-requires : goal.slower-requires
unfolding number_in_range
slower-requires c =
    let (least, largest) = in-range rate_range c.args.rate.0 c.requires.1 in
    (c.requires.0, least, largest)

-- what is carried behind it
abbrev after : (c : After-slower) → Carried
after c = let carried = c.args.self in record { class = carried.class; filtering = true; e = carried.e; slowest = Some c.slower.result }

same-progress : (c : After-slower) → progress_in c.args.source.now.declared.now (after c) ≡ behind (progress_in c.args.source.now.declared.now c.args.self) (Filter c.args.rate)
unfolding behind
same-progress c = rw c.slower.ensures.0

pub returns : goal.returns
returns c =
    let before = progress_in c.args.source.now.declared.now c.args.self in
    let within = subst (Within most_with) (sym (same-progress (goal.at.returns c).After-slower)) (filter-within before c.args.rate c.requires.0.within c.requires.1) in
    (same-progress (goal.at.returns c).After-slower, record { within = within; lent = c.requires.0.lent; burst = c.slower.ensures.1 })
