use mathlib.Core.Path.{◌≡◌, refl, sym, ap, ap₂, ◌∙◌}
use mathlib.Core.List.{◌∷◌}
use Prim.Native.Nat.{ℕ, ◌+◌, ◌-◌, ◌*◌, ◌≤◌, max}
use native.Mathlib.Nat.{mul-le-mul}
use native.Mathlib.Numerals.{add-one}
use native.Mathlib.Omega.{arith}
use lib.ListN.{length, take, get_or}
use lib.Seq.{length-take-le, get_or-take}
use Rattle.flow.specs.Rows.{greatest_of}
use Rattle.figures.proofs.ClassLaws.{greatest-next}
use Rattle.figures.proofs.class.greatest_beyond.Goals as goal
use Rattle.figures.proofs.class.greatest_beyond.Goals.{At-loop-most, In-loop-most}
use Rattle.figures.proofs.class.greatest_beyond.Invariants.{above}

-- the larger of two numbers, each so far over the most that a rate sends, or under it by what it sent
over : (greatest most left sent : ℕ) → left + sent ≡ 67_107_840 → max (67_107_840 + greatest) (most + left) ≡ 67_107_840 + max greatest (most - sent)
over greatest most left sent all = omega (arith, all)

-- as many entries are passed as there are slots
size : (c : At-loop-most) → length (take c.args.slots c.args.bound.now) ≡ c.args.slots
size c = length-take-le c.args.slots c.args.bound.now c.requires.0

-- the entry at hand is the table's
at-hand : (c : In-loop-most) → get_or (take c.args.slots c.args.bound.now) c.loop-most.most-index 0 ≡ get_or c.args.bound.now c.loop-most.most-index 0
at-hand c = get_or-take c.args.slots c.args.bound.now c.loop-most.most-index 0 (omega (arith, size (goal.at.In-loop-most c).At-loop-most))

small : (c : In-loop-most) → get_or (take c.args.slots c.args.bound.now) c.loop-most.most-index 0 ≤ 67_107_840
small c = rw (at-hand c) (c.requires.3 c.loop-most.most-index (omega (arith, size (goal.at.In-loop-most c).At-loop-most)))

-- so long as there is a slot more, the rate has not sent all
sent : (c : In-loop-most) → c.args.rate + c.loop-most.most-index * c.args.rate ≤ 67_107_840
sent c =
    let next : c.loop-most.most-index + 1 ≤ 1_024 = omega (arith, size (goal.at.In-loop-most c).At-loop-most) in
    omega (arith, mul-le-mul next c.requires.2)

pub loop-most-init : goal.loop-most-init
unfolding greatest_of
loop-most-init c = (omega arith, refl, omega arith)

pub overflow_sub-left : goal.overflow_sub-left
overflow_sub-left c = omega (arith, sent c)

pub overflow_add-most : goal.overflow_add-most
overflow_add-most c = record { fits = omega (arith, small (goal.at.overflow_add-most c).In-loop-most) }

pub larger-greatest-requires : goal.larger-greatest-requires
larger-greatest-requires c = (omega arith, omega (arith, small (goal.at.larger-greatest-requires c).In-loop-most))

pub loop-most-preserved : goal.loop-most-preserved
loop-most-preserved c =
    let inside = (goal.at.loop-most-preserved c).In-loop-most in
    let args = c.args in
    let n = c.loop-most.most-index in
    let f = above args.bound.now args.rate in
    let left : c.loop-most.left - args.rate + (n + 1) * args.rate ≡ 67_107_840 = omega (arith, sent inside) in
    let here : get_or (take args.slots args.bound.now) n 0 ≡ get_or (0 ∷ args.bound.now) (n + 1) 0 = rw add-one (at-hand inside) in (
      left,
      c.larger-greatest.ensures
          ∙ ap₂ max c.loop-most.invariant.1 (ap (λ (most : ℕ). most + (c.loop-most.left - args.rate)) here)
          ∙ over (greatest_of f n) (get_or (0 ∷ args.bound.now) (n + 1) 0) (c.loop-most.left - args.rate) ((n + 1) * args.rate) left
          ∙ ap (λ (more : ℕ). 67_107_840 + more) (sym (greatest-next f n)),
      omega (arith, c.larger-greatest.ensures, small inside),
    )

pub overflow_sub-result : goal.overflow_sub-result
overflow_sub-result c = omega arith

pub returns : goal.returns
returns c =
    let all : c.loop-most.most-index ≡ c.args.slots = omega (arith, size (goal.at.returns c).At-loop-most) in
    rw (← all) (omega arith)
