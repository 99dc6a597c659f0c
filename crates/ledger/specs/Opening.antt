-- A new ledger (sections 6 and 7): 1 and 5; it clears all 64 records and does not test what they held.
use Rattle.std.specs.Prelude.{ℕ, not, List, [], ◌∷◌, length, replicate, ◌==◌, slice_index, Result, Ok, Err}
use Rattle.quantity.specs.Sums.{list_of}
use Rattle.quantity.specs.Refusals.{Case, ◌⇒◌, first_of}
use Rattle.quantity.specs.declared.refusal.Refusal.{Refusal}
use Rattle.quantity.specs.declared.refusal.Refusal.TheVariants.{Unusable, OutOfRange}
use Rattle.ledger.specs.declared.Record.{Record}
use Rattle.ledger.specs.declared.Ledger.{Ledger}
use Rattle.ledger.specs.Records.{no_record}
use Rattle.ledger.specs.Ledgers.{record_count, link_count, capacities_fit}

-- the capacity asked for link i
abbrev pub asked_for : List ℕ → ℕ → ℕ
asked_for capacities link = slice_index capacities link

abbrev pub open_cases : List ℕ → List Record → List Case
open_cases capacities records =
    (not (length records == record_count) ⇒ Unusable)
    ∷ (not (capacities_fit (asked_for capacities)) ⇒ OutOfRange 0)
    ∷ []

-- the ledger before its first path
unfoldable pub new_ledger : List ℕ → Ledger
new_ledger capacities = record { capacities = list_of (λ link. record { 0 = asked_for capacities link }) link_count; totals = replicate link_count (record { 0 = 0 }); count = 0 }

-- the ledger of links without capacity
abbrev pub no_ledger : Ledger
no_ledger = record { capacities = replicate link_count (record { 0 = 0 }); totals = replicate link_count (record { 0 = 0 }); count = 0 }

-- what a new ledger is answered by
unfoldable pub opened_of : List ℕ → List Record → Result Ledger Refusal
opened_of capacities records = first_of (open_cases capacities records) Err (Ok (new_ledger capacities))

-- and the records then; refused, it leaves them
unfoldable pub records_opened : List ℕ → List Record → List Record
records_opened capacities records = first_of (open_cases capacities records) (λ why. records) (replicate record_count no_record)
