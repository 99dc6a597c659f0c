-- In the loop, the lines of the first k operators are stored and their capacities added; behind it comes the path's line.
use Rattle.sheet.specs.Sheets.{path_in}
use Rattle.page.proofs.Writing.{Written}
use Rattle.page.proofs.page.Given as goal

abbrev pub invariant-loop-k : goal.invariant-loop-k
invariant-loop-k l = Written (path_in l.sheet) l.initial.lent l.k l.lent l.capacity
