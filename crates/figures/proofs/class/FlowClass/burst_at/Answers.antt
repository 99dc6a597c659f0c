-- Twice the quota fits; of rows the greatest that the table has beyond the rate is the burst. Each kind has its case of the definition.
use native.Mathlib.Omega.{arith}
use mathlib.Core.Path.{◌≡◌, sym, ap, ◌∙◌}
use Prim.Native.Nat.{ℕ, ◌-◌, ◌*◌, ◌≤◌}
use mathlib.Core.List.{◌∷◌}
use lib.ListN.{get_or}
use Rattle.flow.specs.Rows.{reach, greatest_of, rows_burst}
use Rattle.flow.specs.Classes.{rows, burst_at}
use Rattle.flow.specs.Declarations.{several_at}
use Rattle.flow.specs.Bounds.{ClassWithin}
use Rattle.figures.specs.Carried.{HasBound}
use Rattle.flow.proofs.Laws.{reach-le}
use Rattle.figures.proofs.ClassLaws.{smooth-within, rows-within, lent_rows, lent-small, burst-of-table}
use Rattle.figures.proofs.class.FlowClass.burst_at.Goals as goal
use Rattle.figures.proofs.class.FlowClass.burst_at.Goals.{In-Rows}

pub overflow_mul-result : goal.overflow_mul-result
overflow_mul-result c =
    omega (arith, (smooth-within c.args.source.now.declared.now c.args.self c.in-Smooth.is c.requires.0).quota)

-- the declared rows, and their table
rows_inside : (c : In-Rows) → let declared = c.args.source.now.declared.now in ClassWithin (rows (several_at declared) declared.count)
rows_inside c = rows-within c.args.source.now.declared.now c.args.self c.in-Rows.is c.requires.0

rows-lent : (c : In-Rows) → HasBound c.args.source.now.declared.now c.args.source.now.bound.now
rows-lent c = lent_rows c.args.source.now.declared.now c.args.self c.args.source.now.bound.now c.in-Rows.is c.requires.1

pub reach-requires : goal.reach-requires
reach-requires c = (rows_inside (goal.at.reach-requires c).In-Rows).1

pub greatest_beyond-requires : goal.greatest_beyond-requires
greatest_beyond-requires c =
    let inside = rows_inside (goal.at.greatest_beyond-requires c).In-Rows in
    let reached = reach-le (several_at c.args.source.now.declared.now) c.args.source.now.declared.now.count c.args.rate.0 1_024 (λ i less. (inside.2 i less).short) in
    let short : c.in-Some.interval.0 ≤ 1_024 = omega (arith, c.in-Some.ensures.1, reached) in
    let lent = rows-lent (goal.at.greatest_beyond-requires c).In-Rows in
    (omega (arith, short, lent.long), short, c.requires.2, λ i less. lent-small c.args.source.now.declared.now c.args.source.now.bound.now lent inside i (omega (arith, short)))

pub returns-in-Smooth : goal.returns-in-Smooth
unfolding burst_at
returns-in-Smooth c = rw c.in-Smooth.is

pub returns-in-Uniform : goal.returns-in-Uniform
unfolding burst_at
returns-in-Uniform c = rw c.in-Uniform.is

-- the greatest that the table has beyond the rate, up to the interval that it reaches over
of-table : (c : In-Rows) → let declared = c.args.source.now.declared.now in
    greatest_of (λ n. get_or (0 ∷ c.args.source.now.bound.now) n 0 - n * c.args.rate.0) (reach (several_at declared) declared.count c.args.rate.0) ≡ rows_burst (several_at declared) declared.count c.args.rate.0
of-table c = burst-of-table c.args.source.now.declared.now c.args.source.now.bound.now c.args.rate.0 (rows_inside c) (rows-lent c)

pub returns-in-Some : goal.returns-in-Some
unfolding burst_at
returns-in-Some c =
    let above : ℕ → ℕ = λ n. get_or (0 ∷ c.args.source.now.bound.now) n 0 - n * c.args.rate.0 in
    rw c.in-Rows.is (c.from.ensures ∙ c.greatest_beyond.ensures ∙ ap (greatest_of above) (sym c.in-Some.ensures.1) ∙ of-table (goal.at.returns-in-Some c).In-Rows)

pub returns-in-None : goal.returns-in-None
unfolding burst_at greatest_of
returns-in-None c =
    let above : ℕ → ℕ = λ n. get_or (0 ∷ c.args.source.now.bound.now) n 0 - n * c.args.rate.0 in
    rw c.in-Rows.is (ap (greatest_of above) (sym c.in-None.ensures.1) ∙ of-table (goal.at.returns-in-None c).In-Rows)
