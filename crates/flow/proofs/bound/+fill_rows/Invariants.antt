-- The measure is the number of rows left. With one left the table is its own; else that of one row less, and the last row more.
use Rattle.flow.proofs.bound.+fill_rows.Given as goal

abbrev pub decreases-fill_rows : goal.decreases-fill_rows
decreases-fill_rows l = l.left
