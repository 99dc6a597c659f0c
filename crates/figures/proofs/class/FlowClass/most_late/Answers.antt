-- There are at most as many blocks as slots, so that the products fit; of rows the table has the bound. Each kind has its case of the definition.
use native.Mathlib.Nat.{mul-le-mul, le_refl}
use native.Mathlib.Numerals.{add-one}
use lib.ListN.{length}
use native.Mathlib.Omega.{arith}
use mathlib.Core.Path.{◌≡◌, ◌∙◌}
use Prim.Native.Nat.{suc, ◌+◌, ◌*◌, ◌≤◌}
use Rattle.flow.specs.Rows.{rows_most}
use Rattle.flow.specs.Classes.{most_in, rows}
use Rattle.flow.specs.Declarations.{several_at}
use Rattle.flow.specs.Bounds.{PairWithin, ClassWithin}
use Rattle.flow.proofs.Laws.{rows-at-most}
use Rattle.figures.specs.Carried.{HasBound}
use Rattle.figures.proofs.Bounds.{round-up-at-most}
use Rattle.figures.proofs.ClassLaws.{smooth-within, uniform-within, rows-within, reaches-rows, lent_rows}
use Rattle.figures.proofs.class.FlowClass.most_late.Goals as goal
use Rattle.figures.proofs.class.FlowClass.most_late.Goals.{After-blocks_begun-blocks, After-blocks_begun-blocks-in-Uniform, In-Rows, In-Smooth, In-Uniform}

-- the interval and quota of a smooth class, and of a uniform one
smooth-pair : (c : In-Smooth) → let class = c.args.self in PairWithin class.interval.0 class.quota.0
smooth-pair c = smooth-within c.args.source.now.declared.now c.args.self c.in-Smooth.is c.requires.0

uniform-pair : (c : In-Uniform) → let class = c.args.self in PairWithin class.interval.0 class.quota.0
uniform-pair c = uniform-within c.args.source.now.declared.now c.args.self c.in-Uniform.is c.requires.0

pub blocks_begun-blocks-requires : goal.blocks_begun-blocks-requires
blocks_begun-blocks-requires c = let pair = smooth-pair (goal.at.blocks_begun-blocks-requires c).In-Smooth in let late = c.requires.3 in omega arith

-- no more blocks than slots
smooth-blocks : (c : After-blocks_begun-blocks) → c.blocks_begun-blocks.result + 1 ≤ 134_218_751
smooth-blocks c =
    let pair = (smooth-within c.args.source.now.declared.now c.args.self c.in-Smooth.is c.requires.0) in
    omega (arith, c.blocks_begun-blocks.ensures, c.requires.3, round-up-at-most c.args.late.0 c.args.self.interval.0 pair.least)

pub overflow_add-result : goal.overflow_add-result
overflow_add-result c = omega (arith, smooth-blocks (goal.at.overflow_add-result c).After-blocks_begun-blocks)

smooth-units : (c : After-blocks_begun-blocks) → let class = c.args.self in (c.blocks_begun-blocks.result + 1) * class.quota.0 ≤ 134_218_751 * 67_108_863
smooth-units c = mul-le-mul (smooth-blocks c) ((smooth-within c.args.source.now.declared.now c.args.self c.in-Smooth.is c.requires.0)).quota

pub overflow_mul-result : goal.overflow_mul-result
overflow_mul-result c = omega (arith, smooth-units (goal.at.overflow_mul-result c).After-blocks_begun-blocks)

pub overflow_add-late : goal.overflow_add-late
overflow_add-late c = omega (arith, c.requires.3)

pub blocks_begun-blocks-requires-in-Uniform : goal.blocks_begun-blocks-requires-in-Uniform
blocks_begun-blocks-requires-in-Uniform c = let pair = uniform-pair (goal.at.blocks_begun-blocks-requires-in-Uniform c).In-Uniform in let late = c.requires.3 in omega arith

uniform-blocks : (c : After-blocks_begun-blocks-in-Uniform) → c.blocks_begun-blocks-in-Uniform.result ≤ 134_218_751
uniform-blocks c =
    let pair = (uniform-within c.args.source.now.declared.now c.args.self c.in-Uniform.is c.requires.0) in
    omega (arith, c.blocks_begun-blocks-in-Uniform.ensures, c.requires.3, round-up-at-most (c.args.late.0 + 1) c.args.self.interval.0 pair.least)

uniform-units : (c : After-blocks_begun-blocks-in-Uniform) → let class = c.args.self in c.blocks_begun-blocks-in-Uniform.result * class.quota.0 ≤ 134_218_751 * 67_108_863
uniform-units c = mul-le-mul (uniform-blocks c) ((uniform-within c.args.source.now.declared.now c.args.self c.in-Uniform.is c.requires.0)).quota

pub overflow_mul-result-in-Uniform : goal.overflow_mul-result-in-Uniform
overflow_mul-result-in-Uniform c = omega (arith, uniform-units (goal.at.overflow_mul-result-in-Uniform c).After-blocks_begun-blocks-in-Uniform)

-- the declared rows, and their table, which reaches so far
rows_inside : (c : In-Rows) → let declared = c.args.source.now.declared.now in ClassWithin (rows (several_at declared) declared.count)
rows_inside c = rows-within c.args.source.now.declared.now c.args.self c.in-Rows.is c.requires.0

rows-lent : (c : In-Rows) → HasBound c.args.source.now.declared.now c.args.source.now.bound.now
rows-lent c = lent_rows c.args.source.now.declared.now c.args.self c.args.source.now.bound.now c.in-Rows.is c.requires.1

rows-reached : (c : In-Rows) → suc c.args.late.0 ≤ length c.args.source.now.bound.now
rows-reached c = reaches-rows c.args.source.now.declared.now c.args.self c.args.source.now.bound.now (suc c.args.late.0) c.in-Rows.is c.requires.2

pub bounds-source-late : goal.bounds-source-late
bounds-source-late c = rows-reached (goal.at.bounds-source-late c).In-Rows

pub returns-in-Smooth : goal.returns-in-Smooth
unfolding most_in
returns-in-Smooth c =
    (rw (c.in-Smooth.is, c.blocks_begun-blocks.ensures), smooth-units (goal.at.returns-in-Smooth c).After-blocks_begun-blocks)

pub returns-in-Uniform : goal.returns-in-Uniform
unfolding most_in
returns-in-Uniform c =
    (rw (c.in-Uniform.is, c.blocks_begun-blocks-in-Uniform.ensures, add-one), uniform-units (goal.at.returns-in-Uniform c).After-blocks_begun-blocks-in-Uniform)

pub returns-in-Rows : goal.returns-in-Rows
unfolding most_in
returns-in-Rows c =
    let n = suc c.args.late.0 in
    let inside = rows_inside (goal.at.returns-in-Rows c).In-Rows in
    let entry : c.from.result ≡ rows_most (several_at c.args.source.now.declared.now) c.args.source.now.declared.now.count n = c.from.ensures ∙ (rows-lent (goal.at.returns-in-Rows c).In-Rows).entries n (rows-reached (goal.at.returns-in-Rows c).In-Rows) in
    let few = rows-at-most (several_at c.args.source.now.declared.now) c.args.source.now.declared.now.count 65_535 inside.0 (λ i less. ((inside.2 i less).large, (inside.2 i less).few)) n in
    let short : n ≤ 134_218_751 = let late = c.requires.3 in omega arith in
    (rw c.in-Rows.is entry, omega (arith, entry, few, mul-le-mul {n₁ = n} {m₁ = 65_535} {n₂ = 134_218_751} {m₂ = 65_535} short (le_refl 65_535)))
