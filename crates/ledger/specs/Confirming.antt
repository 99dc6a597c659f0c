-- Confirming (document 02, item 8): 1 as at a release, 10 and 16; the path's mark becomes 1, and nothing else changes.
use Rattle.std.specs.Prelude.{ℕ, Bool, not, List, [], ◌∷◌, ◌==◌, Result, Ok, Err}
use Rattle.quantity.specs.Choice.{pick}
use Rattle.quantity.specs.Sums.{list_of}
use Rattle.quantity.specs.Ranges.{in_range, path_number_range}
use Rattle.quantity.specs.Refusals.{Case, ◌⇒◌, first_of}
use Rattle.quantity.specs.declared.refusal.Refusal.{Refusal}
use Rattle.quantity.specs.declared.refusal.Refusal.TheVariants.{Unusable, PathNumberWrong, ConfirmedAlready}
use Rattle.ledger.specs.declared.Record.{Record}
use Rattle.ledger.specs.declared.Ledger.{Ledger}
use Rattle.ledger.specs.Records.{mark_confirmed, record_at, number_at, stands, place_among}
use Rattle.ledger.specs.Ledgers.{record_count, ledger_unusable}
use Rattle.ledger.specs.Release.{record_of_number}

-- 16: the path of a number that stands is confirmed already
unfoldable pub confirmed_already : Ledger → List Record → ℕ → Bool
confirmed_already ledger records number = (record_of_number ledger records number).mark == mark_confirmed

abbrev pub confirm_cases : Ledger → List Record → ℕ → List Case
confirm_cases ledger records number =
    (not (in_range path_number_range number) ⇒ Unusable)
    ∷ (ledger_unusable ledger records ⇒ Unusable)
    ∷ (not (stands records ledger.count number) ⇒ PathNumberWrong)
    ∷ (confirmed_already ledger records number ⇒ ConfirmedAlready)
    ∷ []

-- what confirming answers; the ledger is as it was, accepted or not
unfoldable pub confirmed_of : Ledger → List Record → ℕ → Result (Unit {0}) Refusal
confirmed_of ledger records number = first_of (confirm_cases ledger records number) Err (Ok tt)

-- a record once its path is confirmed
unfoldable pub confirmed_record : Record → Record
confirmed_record r = record { number = r.number; rate = r.rate; links = r.links; mark = mark_confirmed }

-- each of the 64 records once the path at a place is confirmed: the one there has its mark, every other is as it was
unfoldable pub confirmed_at : List Record → ℕ → List Record
confirmed_at records at = list_of (λ j. pick (j == at) (confirmed_record (record_at records j)) (record_at records j)) record_count

-- and the records then; refused, they are as they were
unfoldable pub records_confirmed : Ledger → List Record → ℕ → List Record
records_confirmed ledger records number =
    first_of (confirm_cases ledger records number) (λ why. records) (confirmed_at records (place_among (number_at records) ledger.count number))
