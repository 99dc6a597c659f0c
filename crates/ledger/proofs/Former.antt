-- Holding and confirming have the former call's outcome: refused alike, and where holding is accepted confirming is, with the record that the former call would have appended.
use Rattle.std.proofs.Common.{◌≡◌, ℕ, List, set, Result, Ok, Err, sym, ap, ◌∙◌, ap₂, ⊎_elim, arith, set-set}
use Rattle.quantity.specs.Refusals.{Case}
use Rattle.quantity.specs.declared.refusal.Refusal.{Refusal}
use Rattle.quantity.proofs.Refusals.{NoneStands, FirstIs, none-or-first, first_of-none, first-answered}
use Rattle.sheet.specs.Sheets.{path_in}
use Rattle.ledger.specs.declared.Record.{Record}
use Rattle.ledger.specs.declared.Ledger.{Ledger}
use Rattle.ledger.specs.declared.holding.Holding.{Holding}
use Rattle.ledger.specs.Records.{mark_held, number_at, place_among}
use Rattle.ledger.specs.Holding.{record_of, holding_cases, accepted_holding, holding_of, records_held}
use Rattle.ledger.specs.Confirming.{confirm_cases, confirmed_of, confirmed_record, confirmed_at, records_confirmed}
use Rattle.ledger.specs.Calls.{answer_by}
use Rattle.ledger.specs.Lists.{of_holding}
use Rattle.ledger.specs.Former.{refused_admission, admitted_record, accepted_admission, admission_of, then_confirmed, held_and_confirmed}
use Rattle.ledger.proofs.UsableLedger.{usable-ledger}
use Rattle.ledger.proofs.MarkingOne.{confirmed-there}
use Rattle.ledger.proofs.Confirmable.{only-place, none-confirmed}
use Rattle.ledger.proofs.HeldLedger.{after, entry, held, room, last-is, last-number, held-confirmable}

module _ (ledger : Ledger) (records : List Record) (number : ℕ) (sheet : List ℕ) where
  abbrev cases : List Case
  cases = holding_cases ledger records number sheet

  -- what a holding that is answered and leaves this comes to
  comes-to : {answer : Result Holding Refusal} {left : List Record} → holding_of ledger records number sheet ≡ answer → records_held ledger records number sheet ≡ left → held_and_confirmed ledger records number sheet ≡ then_confirmed ledger answer left number
  unfolding held_and_confirmed
  comes-to answer leaves = ap₂ (λ (answer : Result Holding Refusal) (rs : List Record). then_confirmed ledger answer rs number) answer leaves

  refused-alike : (why : Refusal) → FirstIs cases why → held_and_confirmed ledger records number sheet ≡ admission_of ledger records number sheet
  unfolding holding_of records_held admission_of refused_admission then_confirmed
  refused-alike why first =
      comes-to (first-answered Err (Ok (accepted_holding ledger (path_in sheet))) why cases first)
      (first-answered (λ why. records) (set records ledger.count (record_of number (path_in sheet) mark_held)) why cases first)
      ∙ sym (first-answered (refused_admission ledger records) (accepted_admission ledger records number (path_in sheet)) why cases first)

  module _ (none : NoneStands cases) where
    abbrev next : Ledger
    next = after ledger records number sheet none

    abbrev left : List Record
    left = held ledger records number sheet none

    confirms : NoneStands (confirm_cases next left number)
    confirms = none-confirmed next left number (held-confirmable ledger records number sheet none)

    accepted : confirmed_of next left number ≡ Ok tt
    unfolding confirmed_of
    accepted = first_of-none Err (Ok tt) (confirm_cases next left number) confirms

    confirmed : records_confirmed next left number ≡ set records ledger.count (admitted_record number (path_in sheet))
    unfolding records_confirmed confirmed_record admitted_record record_of accepted_holding
    confirmed =
        let known = held-confirmable ledger records number sheet none in
        first_of-none (λ why. left) (confirmed_at left (place_among (number_at left) next.count number)) (confirm_cases next left number) confirms
        ∙ ap (confirmed_at left) (only-place next left known.usable number ledger.count (omega arith) (last-number ledger records number sheet none))
        ∙ confirmed-there left ledger.count (usable-ledger next left known.usable).sized (room ledger records number sheet none)
        ∙ ap (λ (r : Record). set left ledger.count (confirmed_record r)) (last-is ledger records number sheet none)
        ∙ set-set records ledger.count (entry ledger records number sheet none) (admitted_record number (path_in sheet))

    accepted-alike : held_and_confirmed ledger records number sheet ≡ admission_of ledger records number sheet
    unfolding holding_of records_held admission_of accepted_holding accepted_admission then_confirmed
    accepted-alike =
        comes-to (first_of-none Err (Ok (accepted_holding ledger (path_in sheet))) cases none)
        (first_of-none (λ why. records) (set records ledger.count (record_of number (path_in sheet) mark_held)) cases none)
        ∙ ap₂ (λ (answer : Result (Unit {0}) Refusal) (rs : List Record). record { answer = answer_by (λ done. of_holding (accepted_holding ledger (path_in sheet))) answer; ledger = next; records = rs }) accepted confirmed
        ∙ sym (first_of-none (refused_admission ledger records) (accepted_admission ledger records number (path_in sheet)) cases none)

  pub held-and-confirmed : held_and_confirmed ledger records number sheet ≡ admission_of ledger records number sheet
  held-and-confirmed = ⊎_elim accepted-alike (λ (why, first). refused-alike why first) (none-or-first cases)
