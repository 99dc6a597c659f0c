-- Serves private contracts, and need not be believed: which rows are the standard camera's, (1, 9), (3, 15), (12, 48) (document 02, item 7).
use Rattle.std.specs.Prelude.{ℕ, Bool, eqb}
use Rattle.quantity.specs.Choice.{both}
use Rattle.flow.specs.Rows.{Row}
use Rattle.flow.specs.Declarations.{several_at}
use Rattle.flow.specs.declared.Declaration.{Declaration}

unfoldable pub row_is : Row → ℕ → ℕ → Bool
row_is row m Q = both (eqb row.interval m) (eqb row.quota Q)

-- a declaration of several rows has just these
unfoldable pub is_camera : Declaration → Bool
is_camera declared = both (eqb declared.count 3) (both (row_is (several_at declared 0) 1 9) (both (row_is (several_at declared 1) 3 15) (row_is (several_at declared 2) 12 48)))
