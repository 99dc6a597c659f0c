use Rattle.std.proofs.Common.{◌≡◌, length, arith}
use Rattle.std.proofs.lemmas.Grind.{common_steps}
use Rattle.quantity.specs.Sums.{total}
use Rattle.quantity.proofs.Sums.{total-next}
use Rattle.words.specs.Gathering.{joined, gathered_of}
use Rattle.words.proofs.JoinLaws.{joined-next}
use Rattle.words.proofs.gather_row.Goals as goal

pub loop-word-init : goal.loop-word-init
unfolding joined total
loop-word-init c = search arith

pub loop-word-preserved : goal.loop-word-preserved
loop-word-preserved c = grind (arith, common_steps, joined-next, total-next)

pub returns : goal.returns
unfolding gathered_of
returns c = let all : c.loop-word.word-index ≡ length c.args.words.now = grind (arith, common_steps) in rw (← all) cc
