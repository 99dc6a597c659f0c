-- In the loop, before operator k none of 6 to 8 has stood, and what is carried, the figures and the sum are those of the definitions. Behind the last operator only 9 is left.
use Rattle.sheet.specs.Forms.{in_full}
use Rattle.figures.proofs.EachOperator.{Walked}
use Rattle.figures.proofs.figures_read.Given as goal

abbrev pub invariant-loop-k : goal.invariant-loop-k
invariant-loop-k l = Walked l.source (in_full l.path) l.k l.carried l.figures l.delay
