use mathlib.Core.Path.{◌≡◌, ap}
use mathlib.Core.List.{List}
use Prim.Native.Nat.{ℕ, ◌+◌, ◌-◌, ◌≤◌, min}
use native.Mathlib.Omega.{arith}
use Rattle.flow.proofs.BoundTable.{entry, Follows, follows-start, follows-block, follows-lowered, follows-lowers, follows-all}
use Rattle.flow.proofs.bound.long_row.Goals as goal
use Rattle.flow.proofs.bound.long_row.Goals.{At-loop-from}

module _ (at : At-loop-from) where
  abbrev m : ℕ
  m = at.args.interval

  abbrev Q : ℕ
  Q = at.args.quota

  abbrev given : List ℕ
  given = at.args.table.now

  large : 1 ≤ m
  large = omega (arith, at.requires.1)

  -- in the first interval's slots the row is used once at most
  started : Follows m Q given at.row_start.new.table (m + 1)
  started =
      let before = at.requires.0 in
      follows-block m Q given before large at.requires.2.2 given _ 1 _ _ (follows-start _ _ given before) (omega arith) (omega arith) (omega (arith, before.sized.long))
      at.row_start.auto.table at.row_start.ensures
      (λ j late early. let all : j - m ≡ 0 = omega arith in ap (min (entry given j)) (omega (arith, ap (entry given) all, before.none)))

  follows : Follows m Q given at.loop-from.table at.loop-from.from
  follows = at.loop-from.invariant.1 given at.requires.0 started

pub row_four-requires : goal.row_four-requires
row_four-requires c =
    let at = (goal.at.row_four-requires c).At-loop-from in
    (omega arith, follows-lowers (m at) (Q at) (given at) c.requires.0 (large at) c.requires.2.2 c.loop-from.table c.loop-from.from _ (follows at) (omega arith) (omega arith) (omega arith) (omega arith))

pub row_four-requires-in-loop-from : goal.row_four-requires-in-loop-from
row_four-requires-in-loop-from c =
    let at = (goal.at.row_four-requires-in-loop-from c).At-loop-from in
    let four = c.row_four in
    let halfway = follows-lowered (m at) (Q at) (given at) c.requires.0 (large at) c.requires.2.2 c.loop-from.table four.new.table c.loop-from.from _ (follows at) (omega arith) (omega arith) (omega arith)
    four.auto.table four.ensures in
    (omega arith, follows-lowers (m at) (Q at) (given at) c.requires.0 (large at) c.requires.2.2 four.new.table (c.loop-from.from + 4) _ halfway (omega arith) (omega arith) (omega arith) (omega arith))

pub loop-from-preserved : goal.loop-from-preserved
loop-from-preserved c =
    let at = (goal.at.loop-from-preserved c).At-loop-from in
    let first = c.row_four in
    let second = c.row_four-in-loop-from in (
      omega arith,
      λ before table begun.
          let size = begun.size in
          let kept = c.row_start.auto.table in
          let halfway = follows-lowered (m at) (Q at) before table (large at) c.requires.2.2 c.loop-from.table first.new.table c.loop-from.from (c.loop-from.from + 4) (c.loop-from.invariant.1 before table begun)
          (omega arith) (omega arith) (omega arith) first.auto.table first.ensures in
          let end : c.loop-from.from + 4 + 4 ≡ c.loop-from.from + 8 = omega arith in
          rw end at (follows-lowered (m at) (Q at) before table (large at) c.requires.2.2 first.new.table second.new.table (c.loop-from.from + 4) (c.loop-from.from + 4 + 4) halfway (omega arith)
          (omega arith) (omega arith) second.auto.table second.ensures),
    )

pub row_block-requires : goal.row_block-requires
row_block-requires c =
    let at = (goal.at.row_block-requires c).At-loop-from in
    let reached = follows at in
    (omega arith, follows-lowers (m at) (Q at) (given at) c.requires.0 (large at) c.requires.2.2 c.loop-from.table c.loop-from.from _ reached (omega arith) (omega arith) (omega arith) (omega arith))

pub returns : goal.returns
returns c =
    let at = (goal.at.returns c).At-loop-from in
    let reached = follows at in
    let block = c.row_block in
    follows-all (m at) (Q at) (given at) c.requires.0 (large at) c.requires.2.2 block.new.table
    (follows-lowered (m at) (Q at) (given at) c.requires.0 (large at) c.requires.2.2 c.loop-from.table block.new.table c.loop-from.from _ reached reached.short (omega arith) (omega arith)
    block.auto.table block.ensures)
