-- Lent memory that a call writes from its start.
use Rattle.std.specs.Prelude.{ℕ, List, ◌++◌, length, drop}

-- what was written, and the rest kept
abbrev pub written_over : List ℕ → List ℕ → List ℕ
written_over new lent = new ++ drop (length new) lent
