-- The greatest of the entries passed, each less what the rate sent by then, over the most that a rate sends; 1,024 slots at 65,535 fit their width.
use mathlib.Core.Path.{◌≡◌}
use mathlib.Core.List.{List, ◌∷◌}
use Prim.Native.Nat.{ℕ, ◌+◌, ◌-◌, ◌*◌, ◌≤◌}
use lib.ListN.{get_or}
use Rattle.flow.specs.Rows.{greatest_of}
use Rattle.figures.proofs.class.greatest_beyond.Given as goal

abbrev pub above : List ℕ → ℕ → ℕ → ℕ
above bound rate n = get_or (0 ∷ bound) n 0 - n * rate

abbrev pub invariant-loop-most : goal.invariant-loop-most
invariant-loop-most l =
    (l.left + l.most-index * l.rate ≡ 67_107_840) × (l.greatest ≡ 67_107_840 + greatest_of (above l.bound l.rate) l.most-index) × (l.greatest ≤ 134_215_680)
