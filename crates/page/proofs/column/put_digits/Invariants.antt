-- The invariant: the last digits are stored, and those of `left` are to come before them.
use Rattle.page.proofs.Putting.{LastDigits}
use Rattle.page.proofs.column.put_digits.Given as goal

abbrev pub invariant-loop-left : goal.invariant-loop-left
invariant-loop-left l = LastDigits l.initial.lent l.end l.value l.lent l.left l.at

abbrev pub decreases-loop-left : goal.decreases-loop-left
decreases-loop-left l = l.at
