-- The lent calls stand on what is checked, found and decided: with what they write their answers and the records are the calls'.
use Rattle.std.proofs.Common.{◌≡◌, ℕ, ◌-◌, ◌<◌, not, List, [], ◌∷◌, ◌++◌, length, set, replicate, Option, Some, None, Result, Ok, Err, sym, refl, ap, ◌∙◌, inl, inr, arith, eq-eqb, ne_eqb}
use borrow.Author.Tests.{eqb-false}
use Rattle.quantity.specs.Refusals.{Case, ◌⇒◌}
use Rattle.quantity.specs.declared.Rate.{Rate}
use Rattle.quantity.specs.declared.refusal.Refusal.{Refusal}
use Rattle.quantity.specs.declared.refusal.Refusal.TheVariants.{Unusable, OutOfRange, ConfirmedAlready}
use Rattle.quantity.proofs.Laws.{option-told}
use Rattle.quantity.proofs.Refusals.{NoneStands, FirstIs, none-of-each, first-of-more}
use Rattle.sheet.specs.Sheets.{sheet_cases, path_in}
use Rattle.figures.specs.Answers.{path_cases}
use Rattle.ledger.specs.declared.Record.{Record}
use Rattle.ledger.specs.declared.Ledger.{Ledger}
use Rattle.ledger.specs.declared.holding.Appending.{Appending}
use Rattle.ledger.specs.declared.holding.Holding.{Holding}
use Rattle.ledger.specs.Records.{mark_held, mark_confirmed, no_record, record_at, number_at, place_among}
use Rattle.ledger.specs.Ledgers.{record_count}
use Rattle.ledger.specs.Opening.{open_cases, new_ledger, opened_of, records_opened}
use Rattle.ledger.specs.Holding.{record_of, ledger_full, standing_cases, holding_cases, accepted_holding, holding_of, records_held}
use Rattle.ledger.specs.Release.{release_cases, closed_up, accepted_release, record_of_number, released_of, records_released}
use Rattle.ledger.specs.Confirming.{confirmed_already, confirm_cases, confirmed_of, confirmed_record, confirmed_at, records_confirmed}
use Rattle.ledger.specs.Steps.{checked_of, discharged, accepted_appending, appending_of}
use Rattle.ledger.proofs.Answering.{refused-first, taken-none, first-of-err, none-of-ok}
use Rattle.ledger.proofs.Deciding.{standing-sized, standing-inside}
use Rattle.ledger.proofs.MarkingOne.{confirmed-there}
use Rattle.ledger.proofs.UsableLedger.{usable-ledger}

-- A new ledger.

module _ (capacities : List ℕ) (records : List Record) where
  pub open-unsized : (length records ≡ record_count → ⊥) → (Err Unusable ≡ opened_of capacities records) × (records ≡ records_opened capacities records)
  unfolding opened_of records_opened
  open-unsized other = refused-first (open_cases capacities records) (new_ledger capacities) records (replicate record_count no_record) (inl (ap not (ne_eqb (length records) record_count other), refl))

  module _ (sized : length records ≡ record_count) {checked : Option Ledger} (is : checked ≡ checked_of capacities) where
    pub open-outside : checked ≡ None → (Err (OutOfRange 0) ≡ opened_of capacities records) × (records ≡ records_opened capacities records)
    unfolding opened_of records_opened checked_of
    open-outside none =
        refused-first (open_cases capacities records) (new_ledger capacities) records (replicate record_count no_record)
        (inr (ap not (eq-eqb (length records) record_count sized), inl (ap not ((option-told is).outside none), refl)))

    pub open-fit : {ledger : Ledger} → checked ≡ Some ledger → (Ok ledger ≡ opened_of capacities records) × (replicate record_count no_record ≡ records_opened capacities records)
    unfolding opened_of records_opened checked_of
    open-fit some =
        let (fits, same) = (option-told is).within some in
        let (answer, cleared) = taken-none (open_cases capacities records) (new_ledger capacities) records (replicate record_count no_record) (ap not (eq-eqb (length records) record_count sized), (ap not fits, tt)) in
        (ap {B = Result Ledger Refusal} (λ (ledger : Ledger). Ok ledger) same ∙ answer, cleared)

-- A holding.

module _ (ledger : Ledger) (records : List Record) (number : ℕ) (sheet : List ℕ) {decided : Result Appending Refusal} (is : decided ≡ appending_of ledger records number sheet) where
  abbrev cases : List Case
  cases = holding_cases ledger records number sheet

  abbrev appending : Appending
  appending = accepted_appending ledger number (path_in sheet)

  abbrev appended : List Record
  appended = set records ledger.count (record_of number (path_in sheet) mark_held)

  pub hold-refused : {why : Refusal} → decided ≡ Err why → (Err why ≡ holding_of ledger records number sheet) × (records ≡ records_held ledger records number sheet)
  unfolding holding_of records_held appending_of
  hold-refused e = refused-first cases (accepted_holding ledger (path_in sheet)) records appended (first-of-err cases appending is e)

  module _ {made : Appending} (e : decided ≡ Ok made) where
    -- the record's place is one of those lent
    pub hold-inside : (length records ≡ record_count) × (ledger.count < record_count)
    unfolding appending_of ledger_full
    hold-inside =
        let (none, _) = none-of-ok cases appending is e in
        let sound = usable-ledger ledger records none.1.0 in
        let not_full = (none-of-each (sheet_cases sheet ++ path_cases (path_in sheet)) (standing_cases ledger records number (path_in sheet)) none.1.1).1.1.0 in
        let other = eqb-false ledger.count record_count not_full in
        let few = sound.few in
        (sound.sized, omega arith)

    pub hold-accepted : (Ok made.holding ≡ holding_of ledger records number sheet) × (set records ledger.count made.entry ≡ records_held ledger records number sheet)
    unfolding holding_of records_held appending_of accepted_appending
    hold-accepted =
        let (none, same) = none-of-ok cases appending is e in
        let (answer, held) = taken-none cases (accepted_holding ledger (path_in sheet)) records appended none in
        (ap {B = Result Holding Refusal} (λ (a : Appending). Ok a.holding) same ∙ answer, ap (λ (a : Appending). set records ledger.count a.entry) same ∙ held)

-- A release, and a confirming.

module _ (ledger : Ledger) (records : List Record) (number : ℕ) where
  abbrev place : ℕ
  place = place_among (number_at records) ledger.count number

  abbrev marked : List Record
  marked = confirmed_at records place

  abbrev closed : List Record
  closed = closed_up records place no_record

  pub release-refused : {why : Refusal} → FirstIs (release_cases ledger records number) why → (Err why ≡ released_of ledger records number) × (records ≡ records_released ledger records number)
  unfolding released_of records_released
  release-refused first = refused-first (release_cases ledger records number) (accepted_release ledger (record_of_number ledger records number)) records closed first

  pub confirm-refused : {why : Refusal} → FirstIs (release_cases ledger records number) why → (Err why ≡ confirmed_of ledger records number) × (records ≡ records_confirmed ledger records number)
  unfolding confirmed_of records_confirmed
  confirm-refused {why} first =
      refused-first (confirm_cases ledger records number) tt records marked (first-of-more why (release_cases ledger records number) ((confirmed_already ledger records number ⇒ ConfirmedAlready) ∷ []) first)

  module _ (none : NoneStands (release_cases ledger records number)) where
    pub release-stands : {at : ℕ} → at ≡ place → {gone : Record} → gone ≡ record_at records place → {left : List Rate} → left ≡ discharged ledger.totals gone
        → (Ok (record { capacities = ledger.capacities; totals = left; count = ledger.count - 1 }) ≡ released_of ledger records number) × (closed_up records at no_record ≡ records_released ledger records number)
    unfolding released_of records_released accepted_release discharged
    release-stands placed read less =
        let (answer, left) = taken-none (release_cases ledger records number) (accepted_release ledger (record_of_number ledger records number)) records closed none in (
          ap {B = Result Ledger Refusal} (λ (left : List Rate). Ok (record { capacities = ledger.capacities; totals = left; count = ledger.count - 1 })) less
              ∙ ap {B = Result Ledger Refusal} (λ (gone : Record). Ok (accepted_release ledger gone)) read ∙ answer,
          ap (λ (at : ℕ). closed_up records at no_record) placed ∙ left,
        )

    pub confirm-already : (record_at records place).mark ≡ mark_confirmed → (Err ConfirmedAlready ≡ confirmed_of ledger records number) × (records ≡ records_confirmed ledger records number)
    unfolding confirmed_of records_confirmed confirmed_already
    confirm-already one = refused-first (confirm_cases ledger records number) tt records marked (inr (none.0, inr (none.1.0, inr (none.1.1.0, inl (eq-eqb _ mark_confirmed one, refl)))))

    pub confirm-held : ((record_at records place).mark ≡ mark_confirmed → ⊥)
        → (Ok tt ≡ confirmed_of ledger records number) × (set records place (confirmed_record (record_at records place)) ≡ records_confirmed ledger records number)
    unfolding confirmed_of records_confirmed confirmed_already
    confirm-held held =
        let (answer, left) = taken-none (confirm_cases ledger records number) tt records marked (none.0, (none.1.0, (none.1.1.0, (ne_eqb _ mark_confirmed held, tt)))) in
        (answer, sym (confirmed-there records place (standing-sized ledger records number none) (standing-inside ledger records number none)) ∙ left)
