-- Of the ages passed: the words are what stays, and the room is what is kept less the units of those ages. The words of the other ages are as they were.
use Rattle.std.proofs.Common.{◌≡◌, ℕ, ◌-◌, ◌<◌, ◌≤◌, min, List}
use Rattle.quantity.specs.Sums.{total}
use Rattle.operator.specs.Delayer.{of_age}
use Rattle.words.specs.Stored.{word_at}
use Rattle.operator.proofs.parts.keep_newest.Given as goal

-- the units of each age, from the words and the input
abbrev pub aged : List ℕ → ℕ → ℕ → ℕ
aged words input = of_age (record { b = 0; h = 0; past = word_at words }) input

abbrev pub invariant-loop-word : goal.invariant-loop-word
invariant-loop-word l = record {
  kept_below : (k : ℕ) → k < l.word-index → word_at l.word-items k ≡ min (aged l.initial.word-items l.input k) (l.kept - total (aged l.initial.word-items l.input) k);
  same_behind : (k : ℕ) → l.word-index ≤ k → word_at l.word-items k ≡ word_at l.initial.word-items k;
  arriving : l.arriving ≡ aged l.initial.word-items l.input l.word-index;
  room : l.room ≡ l.kept - total (aged l.initial.word-items l.input) l.word-index;
}
