-- At most 2,048 blocks are met, so that the product fits; each kind has its case of the definition.
use native.Mathlib.Nat.{mul-le-mul}
use native.Mathlib.Omega.{arith}
use Prim.Native.Nat.{ℕ}
use mathlib.Core.Path.{◌≡◌, ◌∙◌}
use mathlib.Core.Logic.{◌⊎◌, ⊎_elim}
use Rattle.flow.specs.declared.Kind.{Kind}
use Rattle.flow.specs.declared.Declaration.{Declaration}
use Rattle.figures.specs.declared.class.FlowClass.{FlowClass}
use Rattle.figures.specs.Carried.{class_in}
use Rattle.flow.specs.Classes.{most_delayed, changed_quota}
use Rattle.flow.specs.Bounds.{PairWithin}
use Rattle.figures.proofs.ClassLaws.{smooth-within}
use Rattle.figures.proofs.class.FlowClass.changed_quota.Goals as goal
use Rattle.figures.proofs.class.FlowClass.changed_quota.Goals.{In-Smooth}

-- the interval and quota of a smooth class
smooth-pair : (c : In-Smooth) → let class = c.args.self in PairWithin class.interval.0 class.quota.0
smooth-pair c = smooth-within c.args.source.now.declared.now c.args.self c.in-Smooth.is c.requires.0

pub blocks_met-requires : goal.blocks_met-requires
blocks_met-requires c = let pair = smooth-pair (goal.at.blocks_met-requires c).In-Smooth in (pair.least, pair.most, c.requires.2, c.requires.3)

pub overflow_mul-result : goal.overflow_mul-result
overflow_mul-result c = let pair = smooth-pair (goal.at.overflow_mul-result c).In-Smooth in omega (arith, mul-le-mul c.blocks_met.ensures.1 pair.quota)

pub returns-in-Smooth : goal.returns-in-Smooth
unfolding changed_quota
returns-in-Smooth c = rw (c.in-Smooth.is, c.blocks_met.ensures.0)

-- of a uniform class and of rows it is the most that delayers of n slots hold
delayed : (declared : Declaration) (class : FlowClass) (n : ℕ) → (class.kind ≡ Kind.Uniform) ⊎ (class.kind ≡ Kind.Rows) → most_delayed (class_in declared class) n ≡ changed_quota n (class_in declared class)
unfolding changed_quota most_delayed
delayed declared class n = ⊎_elim (λ e. rw e) (λ e. rw e)

pub returns-in-Uniform : goal.returns-in-Uniform
returns-in-Uniform c = c.most_delayed.ensures ∙ delayed c.args.source.now.declared.now c.args.self c.args.n.0 c.in-Uniform.is
