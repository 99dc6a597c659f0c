-- The words passed, joined and added.
use Rattle.std.proofs.Common.{◌≡◌, ◌%◌, ◌^◌}
use Rattle.quantity.specs.Sums.{total}
use Rattle.words.specs.Stored.{word_at}
use Rattle.words.specs.Gathering.{joined}
use Rattle.words.proofs.gather_row.Given as goal

abbrev pub invariant-loop-word : goal.invariant-loop-word
invariant-loop-word l = (l.join ≡ joined (word_at l.words) l.word-index) × (l.low ≡ total (word_at l.words) l.word-index % 2 ^ 32)
