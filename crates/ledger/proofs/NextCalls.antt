-- One call: its answer is the account's, what it leaves is the ledger of the account after it, and the account stays sound.
use Rattle.std.proofs.Common.{◌≡◌, ℕ, suc, ◌+◌, ◌-◌, ◌<◌, ◌≤◌, Bool, true, false, not, ltb, List, [], ◌∷◌, ◌++◌, length, take, drop, set, Result, Ok, Err, sym, refl, ap, ◌∙◌, subst, ap₂, ⊎_elim, add-one, arith, length-append, ltb-false, lt-ltb}
use borrow.Author.Tests.{eqb-false, not-false, not-true}
use Rattle.quantity.specs.Choice.{pick, both}
use Rattle.quantity.specs.Ranges.{in_range, link_range}
use Rattle.quantity.specs.Refusals.{first_of}
use Rattle.quantity.specs.declared.Rate.{Rate}
use Rattle.quantity.specs.declared.refusal.Refusal.{Refusal}
use Rattle.quantity.proofs.Laws.{pick_true, le-largest}
use Rattle.quantity.proofs.Sums.{every-at}
use Rattle.quantity.proofs.Refusals.{NoneStands, FirstIs, none-or-first, none-of-each, first_of-none, first_of-map, first-answered}
use Rattle.quantity.specs.declared.refusal.Refusal.TheVariants.{OutOfRange}
use Rattle.sheet.specs.Sheets.{sheet_cases, path_in}
use Rattle.figures.specs.Answers.{path_cases}
use Rattle.ledger.specs.declared.Record.{Record}
use Rattle.ledger.specs.declared.Ledger.{Ledger}
use Rattle.ledger.specs.declared.holding.Holding.{Holding}
use Rattle.ledger.specs.Records.{mark_held, no_record, record_at, number_at, share, place_among}
use Rattle.ledger.specs.Ledgers.{record_count, link_count, capacity_of, total_of}
use Rattle.ledger.specs.Opening.{asked_for}
use Rattle.ledger.specs.Holding.{rate_of, names_link, rate_on, record_of, accepted_holding, holding_of, records_held}
use Rattle.ledger.specs.Release.{closed_up, accepted_release, record_of_number, released_of, records_released}
use Rattle.ledger.specs.Confirming.{confirmed_of, confirmed_at, records_confirmed}
use Rattle.ledger.specs.Spare.{spare_of}
use Rattle.ledger.specs.Calls.{Call, hold, confirm, release, spare, Grant, Answer, answer_by}
use Rattle.ledger.specs.Account.{Account, Entry, reserved_on, stands_in, short_in, without, with_confirmed, call_cases, granted, account_answer, account_next, account_after}
use Rattle.ledger.specs.Lists.{ledger_by, of_holding, of_nothing, of_rate, answered, called}
use Rattle.ledger.proofs.Entries.{records_of, length-records, append-record, confirm-record, confirm-count, confirm-reserved, confirm-sound, append-reserved, append-sound, remove-record, remove-count, remove-share, remove-reserved, remove-sound, place-below, stands-none}
use Rattle.ledger.proofs.MarkingOne.{confirmed-there}
use Rattle.ledger.proofs.Reserving.{list_of-same}
use Rattle.ledger.proofs.Rates.{rate-inside}
use Rattle.ledger.proofs.Books.{ledger_of, records_in, book_of, SoundAccount, capacity-of, total-of, book_cases, cases_same}

module _ (capacities : List ℕ) (entries : Account) (account : SoundAccount capacities entries) where
  abbrev ledger : Ledger
  ledger = ledger_of capacities entries

  abbrev records : List Record
  records = records_in capacities entries

  -- a call is taken where none of the account's refusals stands, and else answers the first
  taken : {A : Type 0} (refused : Refusal → A) (result : A) (call : Call) → NoneStands (call_cases capacities entries call) → first_of (book_cases capacities entries call) refused result ≡ result
  taken refused result call none = cases_same capacities entries account refused result call ∙ first_of-none refused result (call_cases capacities entries call) none

  turned_down : {A : Type 0} (refused : Refusal → A) (result : A) (call : Call) (why : Refusal) → FirstIs (call_cases capacities entries call) why → first_of (book_cases capacities entries call) refused result ≡ refused why
  turned_down refused result call why first = cases_same capacities entries account refused result call ∙ first-answered refused result why (call_cases capacities entries call) first

  -- what is answered: what the call returned grants it
  answered-same : {A : Type 0} (grant : A → Grant) (result : A) (call : Call) → answer_by grant (first_of (book_cases capacities entries call) Err (Ok result)) ≡ first_of (call_cases capacities entries call) Err (Ok (grant result))
  answered-same {A} grant result call =
      first_of-map (λ (answer : Result A Refusal). answer_by grant answer) Err (Ok result) (book_cases capacities entries call) ∙ cases_same capacities entries account Err (Ok (grant result)) call

  spare-left : (link : ℕ) → in_range link_range link ≡ true → capacity_of ledger link - total_of ledger link ≡ asked_for capacities link - reserved_on link entries
  spare-left link inside = let less : link < link_count = omega (arith, le-largest link_range link inside) in ap₂ ◌-◌ (capacity-of capacities entries link less) (total-of capacities entries link less)

  pub answer-same : (call : Call) → answered (book_of capacities entries) call ≡ account_answer capacities entries call
  unfolding answered account_answer granted holding_of accepted_holding confirmed_of released_of spare_of
  answer-same (hold number sheet) = answered-same of_holding (accepted_holding ledger (path_in sheet)) (hold number sheet)
  answer-same (confirm number) = answered-same of_nothing tt (confirm number)
  answer-same (release number) = answered-same of_nothing (accepted_release ledger (record_of_number ledger records number)) (release number)
  answer-same (spare link) =
      answered-same of_rate (record { 0 = capacity_of ledger link - total_of ledger link }) (spare link)
      ∙ by-range (in_range link_range link) (spare-left link)
    where
      left : ℕ → Answer
      left rate = Ok (record { rate = rate; delay = 0 })

      by-range : (t : Bool) → (t ≡ true → capacity_of ledger link - total_of ledger link ≡ asked_for capacities link - reserved_on link entries)
          → pick (not t) (Err (OutOfRange 0)) (left (capacity_of ledger link - total_of ledger link)) ≡ pick (not t) (Err (OutOfRange 0)) (left (asked_for capacities link - reserved_on link entries))
      by-range true same = ap left (same refl)
      by-range false same = refl

  -- what is left where a call is taken
  abbrev held-entry : ℕ → List ℕ → Entry
  held-entry number sheet = record { number = number; path = path_in sheet; confirmed = false }

  module _ (number : ℕ) (sheet : List ℕ) (none : NoneStands (call_cases capacities entries (hold number sheet))) where
    room : length entries < record_count
    room =
        let not_full = (none-of-each (sheet_cases sheet ++ path_cases (path_in sheet)) _ none.1).1.1.0 in
        let other = eqb-false (length entries) record_count not_full in let few = account.few in omega arith

    one_more : length (entries ++ (held-entry number sheet ∷ [])) ≡ length entries + 1
    one_more = length-append entries (held-entry number sheet ∷ [])

    abbrev next : Account
    next = entries ++ (held-entry number sheet ∷ [])

    hold-ledger : ledger_by (λ (a : Holding). a.ledger) ledger (holding_of ledger records number sheet) ≡ ledger_of capacities next
    unfolding holding_of accepted_holding
    hold-ledger =
        ap (λ (answer : Result Holding Refusal). ledger_by (λ (a : Holding). a.ledger) ledger answer) (taken Err (Ok (accepted_holding ledger (path_in sheet))) (hold number sheet) none)
        ∙ ap₂ (λ (totals : List Rate) (n : ℕ). record { capacities = ledger.capacities; totals = totals; count = n }) (list_of-same _ _ link_count (λ link less. ap (λ (n : ℕ). record { 0 = n }) (more-reserved link less))) (sym one_more)
      where
        more-reserved : (link : ℕ) → link < link_count → total_of ledger link + rate_on link (path_in sheet) ≡ reserved_on link next
        more-reserved link less = ap (λ (n : ℕ). n + rate_on link (path_in sheet)) (total-of capacities entries link less) ∙ sym (append-reserved entries (held-entry number sheet) link)

    hold-records : records_held ledger records number sheet ≡ records_in capacities next
    unfolding records_held
    hold-records =
        let rest : record_count - length entries ≡ suc (record_count - length next) = let more = one_more in let least = room in omega arith in
        taken (λ why. records) (set records (length entries) (record_of number (path_in sheet) mark_held)) (hold number sheet) none
        ∙ ap (λ (n : ℕ). set (records_of entries n) (length entries) (record_of number (path_in sheet) mark_held)) rest
        ∙ append-record entries (held-entry number sheet) (record_count - length next)

    -- a link that the path names carries it
    carried : (link : ℕ) → link < link_count → reserved_on link entries + rate_on link (path_in sheet) ≤ asked_for capacities link
    unfolding short_in rate_on
    carried link less =
        let not_Is_short = (none-of-each (sheet_cases sheet ++ path_cases (path_in sheet)) _ none.1).1.1.1.0 in
        by_name (names_link (path_in sheet) link) (every-at _ link_count (not-false _ not_Is_short) link less)
      where
        by_name : (t : Bool) → not (both t (ltb (asked_for capacities link) (reserved_on link entries + rate_of (path_in sheet)))) ≡ true → reserved_on link entries + pick t (rate_of (path_in sheet)) 0 ≤ asked_for capacities link
        by_name true fits = ltb-false _ _ (not-true _ fits)
        by_name false fits = omega (arith, account.within link less)

    hold-sound : SoundAccount capacities next
    hold-sound =
        let (planned, standing) = none-of-each (sheet_cases sheet ++ path_cases (path_in sheet)) _ none.1 in
        record {
          inside = account.inside;
          few = let more = one_more in let least = room in omega arith;
          sound =
              append-sound entries (held-entry number sheet) account.sound
              (record { numbered = not-false _ none.0; rated = rate-inside sheet (none-of-each (sheet_cases sheet) (path_cases (path_in sheet)) planned).0; alone = stands-none number })
              standing.0;
          within = λ link less. omega (arith, append-reserved entries (held-entry number sheet) link, carried link less);
        }

  module _ (number : ℕ) (none : NoneStands (call_cases capacities entries (confirm number))) where
    abbrev confirmed : Account
    confirmed = with_confirmed number entries

    confirm-ledger : ledger ≡ ledger_of capacities confirmed
    confirm-ledger =
        ap₂ (λ (totals : List Rate) (n : ℕ). record { capacities = ledger.capacities; totals = totals; count = n })
        (list_of-same _ _ link_count (λ link less. ap (λ (n : ℕ). record { 0 = n }) (sym (confirm-reserved entries number link)))) (sym (confirm-count entries number))

    confirm-records : records_confirmed ledger records number ≡ records_in capacities confirmed
    unfolding records_confirmed
    confirm-records =
        let few = account.few in
        let standing = not-false (stands_in number entries) none.1.0 in
        let place = place_among (number_at records) (length entries) number in
        let below : place < record_count = let among = place-below entries (record_count - length entries) number standing in omega arith in
        taken (λ why. records) (confirmed_at records place) (confirm number) none
        ∙ confirmed-there records place (length-records entries (record_count - length entries) ∙ omega arith) below
        ∙ confirm-record entries (record_count - length entries) number standing
        ∙ ap (λ (n : ℕ). records_of confirmed (record_count - n)) (sym (confirm-count entries number))

    confirmed-sound : SoundAccount capacities confirmed
    confirmed-sound =
        record {
          inside = account.inside;
          few = let same = confirm-count entries number in let few = account.few in omega arith;
          sound = confirm-sound entries number account.sound;
          within = λ link less. omega (arith, account.within link less, confirm-reserved entries number link);
        }

  module _ (number : ℕ) (none : NoneStands (call_cases capacities entries (release number))) where
    standing : stands_in number entries ≡ true
    standing = not-false (stands_in number entries) none.1.0

    abbrev rest : Account
    rest = without number entries

    abbrev place : ℕ
    place = place_among (number_at records) (length entries) number

    one_fewer : length entries - 1 ≡ length rest
    one_fewer = let one_less = remove-count entries number standing in omega arith

    release-ledger : ledger_by (λ (l : Ledger). l) ledger (released_of ledger records number) ≡ ledger_of capacities rest
    unfolding released_of accepted_release
    release-ledger =
        ap (λ (answer : Result Ledger Refusal). ledger_by (λ (l : Ledger). l) ledger answer) (taken Err (Ok (accepted_release ledger (record_of_number ledger records number))) (release number) none)
        ∙ ap₂ (λ (totals : List Rate) (n : ℕ). record { capacities = ledger.capacities; totals = totals; count = n }) (list_of-same _ _ link_count (λ link less. ap (λ (n : ℕ). record { 0 = n }) (less-reserved link less))) one_fewer
      where
        less-reserved : (link : ℕ) → link < link_count → total_of ledger link - share (record_at records place) link ≡ reserved_on link rest
        less-reserved link less = omega (arith, total-of capacities entries link less, remove-share entries (record_count - length entries) number link less standing)

    release-records : records_released ledger records number ≡ records_in capacities rest
    unfolding records_released closed_up
    release-records =
        let one_less = remove-count entries number standing in
        let few = account.few in
        let one-clearer : suc (record_count - length entries) ≡ record_count - length rest = omega arith in
        let below : place < record_count = let among = place-below entries (record_count - length entries) number standing in omega arith in
        taken (λ why. records) (closed_up records place no_record) (release number) none
        ∙ pick_true (ltb place record_count) _ _ (lt-ltb place record_count below)
        ∙ ap (λ (n : ℕ). take place records ++ (drop n records ++ (no_record ∷ []))) (add-one place)
        ∙ remove-record entries (record_count - length entries) number standing
        ∙ ap (records_of rest) one-clearer

    release-sound : SoundAccount capacities rest
    release-sound =
        record {
          inside = account.inside;
          few = let one_less = remove-count entries number standing in let few = account.few in omega arith;
          sound = remove-sound entries number account.sound;
          within = λ link less. omega (arith, account.within link less, remove-reserved entries number link);
        }

  taken-same : (call : Call) → NoneStands (call_cases capacities entries call) → called (book_of capacities entries) call ≡ book_of capacities (account_next entries call)
  unfolding called account_next
  taken-same (hold number sheet) none = ap₂ (λ (l : Ledger) (r : List Record). record { ledger = l; records = r }) (hold-ledger number sheet none) (hold-records number sheet none)
  taken-same (confirm number) none = ap₂ (λ (l : Ledger) (r : List Record). record { ledger = l; records = r }) (confirm-ledger number none) (confirm-records number none)
  taken-same (release number) none = ap₂ (λ (l : Ledger) (r : List Record). record { ledger = l; records = r }) (release-ledger number none) (release-records number none)
  taken-same (spare link) none = refl

  next-sound : (call : Call) → NoneStands (call_cases capacities entries call) → SoundAccount capacities (account_next entries call)
  unfolding account_next
  next-sound (hold number sheet) none = hold-sound number sheet none
  next-sound (confirm number) none = confirmed-sound number none
  next-sound (release number) none = release-sound number none
  next-sound (spare link) none = account

  -- and where it is refused
  refused-same : (call : Call) (why : Refusal) → FirstIs (call_cases capacities entries call) why → called (book_of capacities entries) call ≡ book_of capacities entries
  unfolding called holding_of records_held records_confirmed released_of records_released
  refused-same (hold number sheet) why first =
      ap₂ (λ (l : Ledger) (r : List Record). record { ledger = l; records = r })
      (ap (λ (answer : Result Holding Refusal). ledger_by (λ (a : Holding). a.ledger) ledger answer) (turned_down Err (Ok (accepted_holding ledger (path_in sheet))) (hold number sheet) why first))
      (turned_down (λ why. records) (set records (length entries) (record_of number (path_in sheet) mark_held)) (hold number sheet) why first)
  refused-same (confirm number) why first =
      ap (λ (r : List Record). record { ledger = ledger; records = r })
      (turned_down (λ why. records) (confirmed_at records (place_among (number_at records) (length entries) number)) (confirm number) why first)
  refused-same (release number) why first =
      ap₂ (λ (l : Ledger) (r : List Record). record { ledger = l; records = r })
      (ap (λ (answer : Result Ledger Refusal). ledger_by (λ (l : Ledger). l) ledger answer) (turned_down Err (Ok (accepted_release ledger (record_of_number ledger records number))) (release number) why first))
      (turned_down (λ why. records) (closed_up records (place_among (number_at records) (length entries) number) no_record) (release number) why first)
  refused-same (spare link) why first = refl

  pub called_same : (call : Call) → (called (book_of capacities entries) call ≡ book_of capacities (account_after capacities entries call)) × SoundAccount capacities (account_after capacities entries call)
  unfolding account_after
  called_same call =
      ⊎_elim
      (λ none. let after = first_of-none (λ why. entries) (account_next entries call) (call_cases capacities entries call) none in
      (taken-same call none ∙ ap (book_of capacities) (sym after), subst (SoundAccount capacities) (sym after) (next-sound call none)))
      (λ (why, first). let after = first-answered (λ why. entries) (account_next entries call) why (call_cases capacities entries call) first in
      (refused-same call why first ∙ ap (book_of capacities) (sym after), subst (SoundAccount capacities) (sym after) account))
      (none-or-first (call_cases capacities entries call))
