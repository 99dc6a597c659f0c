-- There are at most 1,024 blocks, so that the products fit; of rows the table has the bound. Each kind has its case of the definition.
use native.Mathlib.Nat.{mul-le-mul}
use native.Mathlib.Omega.{arith}
use mathlib.Core.Path.{◌∙◌}
use Prim.Native.Nat.{◌+◌, ◌≤◌}
use Rattle.flow.specs.Classes.{most_delayed}
use Rattle.flow.specs.Bounds.{PairWithin}
use Rattle.figures.proofs.Bounds.{round-up-at-most}
use Rattle.figures.proofs.ClassLaws.{smooth-within, uniform-within, lent_rows, lent_at}
use Rattle.figures.proofs.class.FlowClass.most_delayed.Goals as goal
use Rattle.figures.proofs.class.FlowClass.most_delayed.Goals.{After-blocks_begun-blocks, After-blocks_begun-blocks-in-Uniform, In-Smooth, In-Uniform}

-- the interval and quota of a smooth class, and of a uniform one
smooth-pair : (c : In-Smooth) → let class = c.args.self in PairWithin class.interval.0 class.quota.0
smooth-pair c = smooth-within c.args.source.now.declared.now c.args.self c.in-Smooth.is c.requires.0

uniform-pair : (c : In-Uniform) → let class = c.args.self in PairWithin class.interval.0 class.quota.0
uniform-pair c = uniform-within c.args.source.now.declared.now c.args.self c.in-Uniform.is c.requires.0

pub blocks_begun-blocks-requires : goal.blocks_begun-blocks-requires
blocks_begun-blocks-requires c = let pair = smooth-pair (goal.at.blocks_begun-blocks-requires c).In-Smooth in let short = c.requires.2 in omega arith

-- no more blocks than slots
smooth-blocks : (c : After-blocks_begun-blocks) → c.blocks_begun-blocks.result ≤ 1_024
smooth-blocks c =
    omega (arith, c.blocks_begun-blocks.ensures, c.requires.2, round-up-at-most c.args.n.0 c.args.self.interval.0 ((smooth-within c.args.source.now.declared.now c.args.self c.in-Smooth.is c.requires.0)).least)

pub overflow_add-result : goal.overflow_add-result
overflow_add-result c = omega (arith, smooth-blocks (goal.at.overflow_add-result c).After-blocks_begun-blocks)

pub overflow_mul-result : goal.overflow_mul-result
overflow_mul-result c =
    let pair = smooth-pair (goal.at.overflow_mul-result c).In-Smooth in
    let blocks : c.blocks_begun-blocks.result + 1 ≤ 1_025 = omega (arith, smooth-blocks (goal.at.overflow_mul-result c).After-blocks_begun-blocks) in
    omega (arith, mul-le-mul blocks pair.quota)

pub blocks_begun-blocks-requires-in-Uniform : goal.blocks_begun-blocks-requires-in-Uniform
blocks_begun-blocks-requires-in-Uniform c = let pair = uniform-pair (goal.at.blocks_begun-blocks-requires-in-Uniform c).In-Uniform in let short = c.requires.2 in omega arith

uniform-blocks : (c : After-blocks_begun-blocks-in-Uniform) → c.blocks_begun-blocks-in-Uniform.result ≤ 1_024
uniform-blocks c =
    omega (arith, c.blocks_begun-blocks-in-Uniform.ensures, c.requires.2, round-up-at-most c.args.n.0 c.args.self.interval.0 ((uniform-within c.args.source.now.declared.now c.args.self c.in-Uniform.is c.requires.0)).least)

pub overflow_mul-result-in-Uniform : goal.overflow_mul-result-in-Uniform
overflow_mul-result-in-Uniform c =
    let pair = uniform-pair (goal.at.overflow_mul-result-in-Uniform c).In-Uniform in
    omega (arith, mul-le-mul (uniform-blocks (goal.at.overflow_mul-result-in-Uniform c).After-blocks_begun-blocks-in-Uniform) pair.quota)

pub entry-requires : goal.entry-requires
entry-requires c =
    let lent = lent_rows c.args.source.now.declared.now c.args.self c.args.source.now.bound.now c.in-Rows.is c.requires.1 in
    omega (arith, c.requires.2, lent.long)

pub returns-in-Smooth : goal.returns-in-Smooth
unfolding most_delayed
returns-in-Smooth c = rw (c.in-Smooth.is, c.blocks_begun-blocks.ensures)

pub returns-in-Uniform : goal.returns-in-Uniform
unfolding most_delayed
returns-in-Uniform c = rw (c.in-Uniform.is, c.blocks_begun-blocks-in-Uniform.ensures)

pub returns-in-Rows : goal.returns-in-Rows
unfolding most_delayed
returns-in-Rows c =
    let kind = c.in-Rows.is in
    let lent = lent_rows c.args.source.now.declared.now c.args.self c.args.source.now.bound.now kind c.requires.1 in
    rw kind (c.from.ensures ∙ c.entry.ensures ∙ lent_at c.args.source.now.declared.now c.args.source.now.bound.now lent c.args.n.0 c.requires.2)
