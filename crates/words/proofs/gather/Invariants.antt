-- The loop: what is gathered of the rows passed and of the words left is that of all.
use Rattle.std.proofs.Common.{◌≡◌, ◌-◌, ◌%◌, length, drop}
use Rattle.std.specs.Slice.Iter.{chunks_exact_rest, chunks_exact_size}
use Rattle.words.specs.Gathering.{gathered_of, gathered_with}
use Rattle.words.proofs.gather.Given as goal

abbrev pub invariant-loop-row : goal.invariant-loop-row
invariant-loop-row l =
    (goal.iterator-loop-row).can_next l.row-iterator
    × (goal.iterator-loop-row).is_finite l.row-iterator
    × (chunks_exact_size l.row-iterator ≡ 256)
    × (gathered_of l.words ≡ gathered_with l.gathered (gathered_of (chunks_exact_rest l.row-iterator)))
    × (l.rest ≡ drop (length (chunks_exact_rest l.row-iterator) - length (chunks_exact_rest l.row-iterator) % 256) (chunks_exact_rest l.row-iterator))
