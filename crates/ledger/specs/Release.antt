-- Release (sections 6 and 7): 1 and 10; the gap is closed, the order kept and the last record cleared.
use Rattle.std.specs.Prelude.{ℕ, ◌+◌, ◌-◌, not, List, [], ◌∷◌, ◌++◌, take, drop, nat_lt, Result, Ok, Err}
use Rattle.quantity.specs.Choice.{pick}
use Rattle.quantity.specs.Sums.{list_of}
use Rattle.quantity.specs.Ranges.{in_range, path_number_range}
use Rattle.quantity.specs.Refusals.{Case, ◌⇒◌, first_of}
use Rattle.quantity.specs.declared.refusal.Refusal.{Refusal}
use Rattle.quantity.specs.declared.refusal.Refusal.TheVariants.{Unusable, PathNumberWrong}
use Rattle.ledger.specs.declared.Record.{Record}
use Rattle.ledger.specs.declared.Ledger.{Ledger}
use Rattle.ledger.specs.Records.{no_record, record_at, number_at, share, stands, place_among}
use Rattle.ledger.specs.Ledgers.{record_count, link_count, total_of, ledger_unusable}

abbrev pub release_cases : Ledger → List Record → ℕ → List Case
release_cases ledger records number =
    (not (in_range path_number_range number) ⇒ Unusable)
    ∷ (ledger_unusable ledger records ⇒ Unusable)
    ∷ (not (stands records ledger.count number) ⇒ PathNumberWrong)
    ∷ []

-- the records once the one at a place is gone: those behind it move up by one, and this one comes last
unfoldable pub closed_up : List Record → ℕ → Record → List Record
closed_up records at last = pick (nat_lt at record_count) (take at records ++ (drop (at + 1) records ++ (last ∷ []))) records

-- one path fewer stands, and its record's share is taken off each link
unfoldable pub accepted_release : Ledger → Record → Ledger
accepted_release ledger gone = record { capacities = ledger.capacities; totals = list_of (λ link. record { 0 = total_of ledger link - share gone link }) link_count; count = ledger.count - 1 }

-- the record of a number that stands
abbrev pub record_of_number : Ledger → List Record → ℕ → Record
record_of_number ledger records number = record_at records (place_among (number_at records) ledger.count number)

-- what a release answers
unfoldable pub released_of : Ledger → List Record → ℕ → Result Ledger Refusal
released_of ledger records number = first_of (release_cases ledger records number) Err (Ok (accepted_release ledger (record_of_number ledger records number)))

-- and the records then: all behind the standing ones are clear, so the last that stood is; refused, they are as they were
unfoldable pub records_released : Ledger → List Record → ℕ → List Record
unfolding closed_up
records_released ledger records number =
    first_of (release_cases ledger records number) (λ why. records) (closed_up records (place_among (number_at records) ledger.count number) no_record)
