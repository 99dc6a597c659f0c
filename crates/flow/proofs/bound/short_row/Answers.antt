use native.Mathlib.Omega.{arith}
use Rattle.flow.proofs.BoundTable.{follows-lowered, follows-all}
use Rattle.flow.proofs.bound.short_row.Goals as goal

pub returns : goal.returns
returns c =
    let at = c.loop-from in
    let follows = at.invariant.0 in
    let block = c.row_block in
    follows-all c.args.interval c.args.quota _ c.requires.0 c.requires.2.0 c.requires.2.2 block.new.table
    (follows-lowered c.args.interval c.args.quota _ c.requires.0 c.requires.2.0 c.requires.2.2 at.table block.new.table at.from _ follows follows.short (omega arith)
    (omega arith) block.auto.table block.ensures)
