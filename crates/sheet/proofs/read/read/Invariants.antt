-- A sheet of a field 04 has its reader. Of the others each turn judges the operator's field that is due, then its body: the invariant says what is read so far and that the rest decides.
use Rattle.sheet.proofs.OperatorsRead.{Reading}
use Rattle.sheet.proofs.read.read.Given as goal

abbrev pub invariant-loop-k : goal.invariant-loop-k
invariant-loop-k l = Reading l.sheet l.head.end l.head.declaration l.head.wanted l.operators l.k l.at
