-- The records behind an opening go by its answer: where it is refused, they are as they were.
use Rattle.std.proofs.Common.{◌≡◌, ℕ, List, replicate, Result, Ok, Err, OnErr, sym, ap, ◌∙◌}
use Rattle.quantity.specs.declared.refusal.Refusal.{Refusal}
use Rattle.quantity.proofs.Refusals.{first_of-map}
use Rattle.ledger.specs.declared.Ledger.{Ledger}
use Rattle.ledger.specs.declared.Record.{Record}
use Rattle.ledger.specs.Records.{no_record}
use Rattle.ledger.specs.Ledgers.{record_count}
use Rattle.ledger.specs.Opening.{new_ledger, open_cases, opened_of, records_opened}

records_by : List Record → Result Ledger Refusal → List Record
records_by records (Ok ledger) = replicate record_count no_record
records_by records (Err why) = records

pub refused-left : (capacities : List ℕ) (records : List Record) {why : Refusal} → opened_of capacities records ≡ Err why → records_opened capacities records ≡ records
unfolding records_opened opened_of records_by
refused-left capacities records refused =
    sym (first_of-map (records_by records) Err (Ok (new_ledger capacities)) (open_cases capacities records)) ∙ ap (records_by records) refused

-- what holds anyway holds if there is an error
pub on-err : {T E P : Type 0} (r : Result T E) → P → OnErr r P
on-err (Ok value) holds = tt
on-err (Err why) holds = holds
