-- A ledger and its records are those of its account, from a new one on and after each call: then refusal 1 lets them pass, and 10 to 12 stand where the account says.
use Rattle.std.proofs.Common.{◌≡◌, ℕ, ◌+◌, ◌-◌, ◌<◌, ◌≤◌, Bool, true, false, not, eqb, ltb, List, length, sym, refl, ap, ◌∙◌, ap₂, arith, eq-eqb, ne_eqb, le-leb}
use Rattle.quantity.specs.Choice.{pick, both}
use Rattle.quantity.specs.Sums.{list_of}
use Rattle.quantity.specs.Ranges.{in_range, path_number_range, link_capacity_range}
use Rattle.quantity.specs.Refusals.{Case, first_of}
use Rattle.quantity.specs.declared.refusal.Refusal.{Refusal}
use Rattle.quantity.specs.declared.refusal.Refusal.TheVariants.{Unusable, PathNumberWrong, ConfirmedAlready}
use Rattle.quantity.specs.declared.LinkCapacity.{LinkCapacity}
use Rattle.quantity.specs.declared.Rate.{Rate}
use Rattle.quantity.proofs.Laws.{either-none}
use Rattle.quantity.proofs.Sums.{every_holds, get_d-list_of, every-same}
use Rattle.sheet.specs.Paths.{Path}
use Rattle.sheet.specs.Sheets.{path_in}
use Rattle.ledger.specs.declared.Record.{Record}
use Rattle.ledger.specs.declared.Ledger.{Ledger}
use Rattle.ledger.specs.Records.{mark_confirmed, number_at, stands, reserved, among, all_differ}
use Rattle.ledger.specs.Ledgers.{record_count, link_count, capacity_of, total_of, capacities_fit, link_fits, total_kept}
use Rattle.ledger.specs.Opening.{asked_for}
use Rattle.ledger.specs.Holding.{rate_of, names_link, ledger_full, link_short, holding_cases}
use Rattle.ledger.specs.Release.{release_cases}
use Rattle.ledger.specs.Confirming.{confirmed_already, confirm_cases}
use Rattle.ledger.specs.Spare.{total_fits, links_unusable, spare_cases}
use Rattle.ledger.specs.Calls.{Call, hold, confirm, release, spare}
use Rattle.ledger.specs.Account.{Account, reserved_on, stands_in, confirmed_in, short_in, call_cases}
use Rattle.ledger.specs.Lists.{Book}
use Rattle.ledger.specs.Kept.{mark_of}
use Rattle.ledger.proofs.UsableLedger.{UsableLedger, ledger-usable}
use Rattle.ledger.proofs.Entries.{records_of, reserved-on, stands-in, mark-in, length-records, Sound, records-fit, numbers-once}

module _ (capacities : List ℕ) where
  -- the ledger and the records of an account
  abbrev pub ledger_of : Account → Ledger
  ledger_of entries = record { capacities = list_of (λ link. record { 0 = asked_for capacities link }) link_count; totals = list_of (λ link. record { 0 = reserved_on link entries }) link_count; count = length entries }

  abbrev pub records_in : Account → List Record
  records_in entries = records_of entries (record_count - length entries)

  abbrev pub book_of : Account → Book
  book_of entries = record { ledger = ledger_of entries; records = records_in entries }

  -- an account to which calls can lead
  pub record SoundAccount (entries : Account) : Type 0 where
    pub inside : capacities_fit (asked_for capacities) ≡ true
    pub few : length entries ≤ record_count
    pub sound : Sound entries
    pub within : (link : ℕ) → link < link_count → reserved_on link entries ≤ asked_for capacities link

  pub capacity-of : (entries : Account) (link : ℕ) → link < link_count → capacity_of (ledger_of entries) link ≡ asked_for capacities link
  capacity-of entries link less = ap (λ (c : LinkCapacity). c.0) (get_d-list_of {A = LinkCapacity} (record { 0 = 0 }) (λ link. record { 0 = asked_for capacities link }) link_count link less)

  pub total-of : (entries : Account) (link : ℕ) → link < link_count → total_of (ledger_of entries) link ≡ reserved_on link entries
  total-of entries link less = ap (λ (r : Rate). r.0) (get_d-list_of {A = Rate} (record { 0 = 0 }) (λ link. record { 0 = reserved_on link entries }) link_count link less)

  module _ (entries : Account) where
    pub reserved-same : (link : ℕ) → link < link_count → reserved (records_in entries) (length entries) link ≡ reserved_on link entries
    reserved-same = reserved-on entries (record_count - length entries)

    pub stands_same : (number : ℕ) → stands (records_in entries) (length entries) number ≡ stands_in number entries
    unfolding stands
    stands_same number = stands-in entries (record_count - length entries) number

    -- 16 of a path that stands
    confirmed-same : (number : ℕ) → stands_in number entries ≡ true → confirmed_already (ledger_of entries) (records_in entries) number ≡ confirmed_in number entries
    unfolding confirmed_already
    confirmed-same number standing = ap (λ (mark : ℕ). eqb mark mark_confirmed) (mark-in entries (record_count - length entries) number standing) ∙ mark-tells (confirmed_in number entries)
      where
        mark-tells : (t : Bool) → eqb (mark_of t) mark_confirmed ≡ t
        mark-tells true = refl
        mark-tells false = refl

    pub short-same : (path : Path) → link_short (ledger_of entries) path ≡ short_in capacities entries path
    unfolding link_short short_in
    short-same path =
        ap not (every-same _ _ link_count (λ link less. ap not (ap (both (names_link path link)) (ap₂ ltb (capacity-of entries link less) (ap (λ (total : ℕ). total + rate_of path) (total-of entries link less))))))

    numbers-differ : Sound entries → all_differ (number_at (records_in entries)) (length entries) ≡ true
    unfolding all_differ among
    numbers-differ sound =
        every_holds _ (length entries)
        (λ j less. ap not (ap not (every_holds (λ i. not (eqb (number_at (records_in entries) i) (number_at (records_in entries) j))) j
        (λ i before. ap not (ne_eqb (number_at (records_in entries) i) (number_at (records_in entries) j) (numbers-once entries (record_count - length entries) i j sound before less))))))

    pub total-same : (link : ℕ) → link < link_count → total_of (ledger_of entries) link ≡ reserved (records_in entries) (length entries) link
    total-same link less = total-of entries link less ∙ sym (reserved-same link less)

    capacities-inside : SoundAccount entries → capacities_fit (capacity_of (ledger_of entries)) ≡ true
    unfolding capacities_fit
    capacities-inside account = every-same _ _ link_count (λ link less. ap (in_range link_capacity_range) (capacity-of entries link less)) ∙ account.inside

    pub usable_same : SoundAccount entries → UsableLedger (ledger_of entries) (records_in entries)
    unfolding link_fits total_kept
    usable_same account =
        record {
          sized = length-records entries (record_count - length entries) ∙ (let few = account.few in omega arith);
          few = account.few;
          capacities_fit = capacities-inside account;
          records_fit = every_holds _ record_count (λ j less. records-fit entries (record_count - length entries) j account.sound);
          all_differ = numbers-differ account.sound;
          links_fit = every_holds _ link_count (λ link less. le-leb (reserved (records_in entries) (length entries) link) (capacity_of (ledger_of entries) link) (omega (arith, reserved-same link less, capacity-of entries link less, account.within link less)));
          totals_kept = every_holds _ link_count (λ link less. eq-eqb (total_of (ledger_of entries) link) (reserved (records_in entries) (length entries) link) (total-same link less));
        }

    links-usable : SoundAccount entries → links_unusable (ledger_of entries) ≡ false
    unfolding links_unusable total_fits
    links-usable account =
        either-none _ _ (ap not (capacities-inside account))
        (ap not (every_holds _ link_count (λ link less. le-leb (total_of (ledger_of entries) link) (capacity_of (ledger_of entries) link) (omega (arith, total-of entries link less, capacity-of entries link less, account.within link less)))))

    -- why a call is refused
    abbrev pub book_cases : Call → List Case
    book_cases (hold number sheet) = holding_cases (ledger_of entries) (records_in entries) number sheet
    book_cases (confirm number) = confirm_cases (ledger_of entries) (records_in entries) number
    book_cases (release number) = release_cases (ledger_of entries) (records_in entries) number
    book_cases (spare link) = spare_cases (ledger_of entries) link

    pub cases_same : SoundAccount entries → {A : Type 0} (refused : Refusal → A) (result : A) (call : Call) → first_of (book_cases call) refused result ≡ first_of (call_cases capacities entries call) refused result
    unfolding ledger_full
    cases_same account refused result (hold number sheet) = rw (ledger-usable (ledger_of entries) (records_in entries) (usable_same account), stands_same number, short-same (path_in sheet))
    cases_same account refused result (confirm number) =
        rw (ledger-usable (ledger_of entries) (records_in entries) (usable_same account), stands_same number)
        (ap (pick (not (in_range path_number_range number)) (refused Unusable)) (by-test (stands_in number entries) (confirmed-same number)))
      where
        by-test : (t : Bool) → (t ≡ true → confirmed_already (ledger_of entries) (records_in entries) number ≡ confirmed_in number entries)
            → pick (not t) (refused PathNumberWrong) (pick (confirmed_already (ledger_of entries) (records_in entries) number) (refused ConfirmedAlready) result)
            ≡ pick (not t) (refused PathNumberWrong) (pick (confirmed_in number entries) (refused ConfirmedAlready) result)
        by-test true same = ap (λ (c : Bool). pick c (refused ConfirmedAlready) result) (same refl)
        by-test false same = refl
    cases_same account refused result (release number) = rw (ledger-usable (ledger_of entries) (records_in entries) (usable_same account), stands_same number)
    cases_same account refused result (spare link) = rw (links-usable account)
