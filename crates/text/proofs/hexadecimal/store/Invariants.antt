-- The invariant: the bytes before the index are stored, and those of the text from `at` on are the rest.
use lib.ListN.{length, drop}
use Rattle.text.specs.Hexadecimals.{bytes_in, fitted}
use Rattle.text.proofs.RowLaws.{Storing}
use Rattle.text.proofs.hexadecimal.store.Given as goal

abbrev pub invariant-loop-place : goal.invariant-loop-place
invariant-loop-place l = Storing l.initial.bytes (fitted (length l.initial.bytes) (bytes_in (drop l.from l.text))) l.bytes l.place-index (bytes_in (drop l.at l.text))
