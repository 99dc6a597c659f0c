-- A ledger that can be used can be used with one more path, whatever it was filled by: refusal 1 lets pass what an accepted holding leaves, and the path is there, held.
use Rattle.std.proofs.Common.{◌≡◌, ℕ, ◌+◌, ◌<◌, ◌≤◌, Bool, true, false, not, ltb, List, ◌++◌, set, sym, ap, ◌∙◌, ap₂, arith, length-set, get_or-set_other, get_or-set_same, ltb-false, le-ltb, lt-ltb, eq-eqb, le-leb}
use native.Mathlib.Decide.{dec_lt}
use borrow.Author.Tests.{eqb-false, not-false, not-true}
use Rattle.quantity.specs.Choice.{pick, both}
use Rattle.quantity.specs.Ranges.{in_range, path_number_range}
use Rattle.quantity.specs.declared.Rate.{Rate}
use Rattle.quantity.proofs.Laws.{le-largest}
use Rattle.quantity.proofs.Sums.{total-next, total-same, every-at, every_holds, every-on, get_d-list_of}
use Rattle.quantity.proofs.Refusals.{NoneStands, none-of-each}
use Rattle.sheet.specs.Paths.{Path}
use Rattle.sheet.specs.Sheets.{sheet_cases, path_in}
use Rattle.figures.specs.Answers.{path_cases}
use Rattle.ledger.specs.declared.Record.{Record}
use Rattle.ledger.specs.declared.Ledger.{Ledger}
use Rattle.ledger.specs.Records.{mark_held, no_record, record_at, number_at, share, reserved, among, all_differ, stands}
use Rattle.ledger.specs.Ledgers.{record_count, link_count, capacity_of, total_of, record_in_range, record_clear, record_fits, link_fits, total_kept}
use Rattle.ledger.specs.Holding.{rate_of, names_link, rate_on, record_of, ledger_full, link_short, standing_cases, holding_cases, accepted_holding}
use Rattle.ledger.specs.Confirmable.{Confirmable}
use Rattle.ledger.proofs.UsableLedger.{UsableLedger, usable-ledger, ledger-usable}
use Rattle.ledger.proofs.Numbers.{all-differ-same, among_same}
use Rattle.ledger.proofs.Deciding.{total-is, reserved-le}
use Rattle.ledger.proofs.Links.{share-named, links-inside}
use Rattle.ledger.proofs.Rates.{rate-inside}

module _ (ledger : Ledger) (records : List Record) (number : ℕ) (sheet : List ℕ) (none : NoneStands (holding_cases ledger records number sheet)) where
  abbrev path : Path
  path = path_in sheet

  -- what the holding leaves
  abbrev pub after : Ledger
  after = (accepted_holding ledger path).ledger

  abbrev pub entry : Record
  entry = record_of number path mark_held

  abbrev pub held : List Record
  held = set records ledger.count entry

  abbrev count : ℕ
  count = ledger.count

  -- what is known of the ledger before it
  before : UsableLedger ledger records
  before = usable-ledger ledger records none.1.0

  sheet-planned : NoneStands (sheet_cases sheet)
  sheet-planned = (none-of-each (sheet_cases sheet) (path_cases path) (none-of-each (sheet_cases sheet ++ path_cases path) (standing_cases ledger records number path) none.1.1).0).0

  new-standing : NoneStands (standing_cases ledger records number path)
  new-standing = (none-of-each (sheet_cases sheet ++ path_cases path) (standing_cases ledger records number path) none.1.1).1

  pub room : count < record_count
  unfolding ledger_full
  room = let other = eqb-false count record_count new-standing.1.0 in let few = before.few in omega arith

  -- the new record, and those that were there
  pub last-is : record_at held count ≡ entry
  last-is = get_or-set_same records count entry no_record (omega (arith, before.sized, room))

  pub other-is : (j : ℕ) → (j ≡ count → ⊥) → record_at held j ≡ record_at records j
  other-is j other = get_or-set_other records count j entry no_record other

  numbers-same : (j : ℕ) → j < count → number_at held j ≡ number_at records j
  numbers-same j less = ap (λ (r : Record). r.number.0) (other-is j (λ same. omega arith))

  pub last-number : number_at held count ≡ number
  unfolding record_of
  last-number = ap (λ (r : Record). r.number.0) last-is

  last_fits : record_in_range entry ≡ true
  unfolding record_in_range record_of in_range
  last_fits = rw (not-false (in_range path_number_range number) none.0, rate-inside sheet sheet-planned, links-inside path)

  record-fits : (j : ℕ) → j < record_count → record_fits (count + 1) held j ≡ true
  unfolding record_fits
  record-fits j less =
      let was = every-at (record_fits count records) record_count before.records_fit j less in
      elim (dec_lt j count) [
        | yes there ↦ ap₂ fitting (lt-ltb j (count + 1) (omega arith) ∙ sym (lt-ltb j count there)) (other-is j (λ same. omega arith)) ∙ was
        | no past ↦
            elim (dec_lt count j) [
              | yes behind ↦ ap₂ fitting (le-ltb j (count + 1) (omega arith) ∙ sym (le-ltb j count (omega arith))) (other-is j (λ same. omega arith)) ∙ was
              | no here ↦ let same : j ≡ count = omega arith in ap₂ fitting (lt-ltb j (count + 1) (omega arith)) (ap (record_at held) same ∙ last-is) ∙ last_fits
            ]
      ]
    where
      fitting : Bool → Record → Bool
      fitting standing r = pick standing (record_in_range r) (record_clear r)

  differ : all_differ (number_at held) (count + 1) ≡ true
  unfolding all_differ stands
  differ =
      every-on (λ j. not (among (number_at held) j (number_at held j))) count (all-differ-same (number_at held) (number_at records) count numbers-same ∙ before.all_differ)
      (ap not (ap (among (number_at held) count) last-number ∙ among_same (number_at held) (number_at records) count numbers-same number ∙ new-standing.0))

  -- the new record's share is the path's rate on each link that it names
  reserved-held : (link : ℕ) → link < link_count → reserved held (count + 1) link ≡ total_of ledger link + rate_on link path
  unfolding reserved
  reserved-held link less =
      total-next (λ j. share (record_at held j) link) count
      ∙ ap₂ ◌+◌
      (total-same (λ j. share (record_at held j) link) (λ j. share (record_at records j) link) count (λ j there. ap (λ (r : Record). share r link) (other-is j (λ same. omega arith))) ∙ sym (total-is ledger records none.1.0 link less))
      (ap (λ (r : Record). share r link) last-is ∙ share-named number path mark_held link less)

  total-after : (link : ℕ) → link < link_count → total_of after link ≡ total_of ledger link + rate_on link path
  unfolding accepted_holding
  total-after link less = ap (λ (r : Rate). r.0) (get_d-list_of {A = Rate} (record { 0 = 0 }) (λ link. record { 0 = total_of ledger link + rate_on link path }) link_count link less)

  -- 12 did not stand
  carried : (link : ℕ) → link < link_count → total_of ledger link + rate_on link path ≤ capacity_of ledger link
  unfolding link_short rate_on
  carried link less = by_name (names_link path link) (every-at _ link_count (not-false _ new-standing.1.1.0) link less)
    where
      by_name : (t : Bool) → not (both t (ltb (capacity_of ledger link) (total_of ledger link + rate_of path))) ≡ true → total_of ledger link + pick t (rate_of path) 0 ≤ capacity_of ledger link
      by_name true fits = ltb-false _ _ (not-true _ fits)
      by_name false fits = omega (arith, total-is ledger records none.1.0 link less, reserved-le ledger records none.1.0 link less)

  held-usable : UsableLedger after held
  unfolding accepted_holding link_fits total_kept
  held-usable =
      record {
        sized = length-set records count entry ∙ before.sized;
        few = let least = room in omega arith;
        capacities_fit = before.capacities_fit;
        records_fit = every_holds _ record_count record-fits;
        all_differ = differ;
        links_fit = every_holds _ link_count (λ link less. le-leb (reserved held (count + 1) link) (capacity_of ledger link) (omega (arith, reserved-held link less, carried link less)));
        totals_kept = every_holds _ link_count (λ link less. eq-eqb (total_of after link) (reserved held (count + 1) link) (total-after link less ∙ sym (reserved-held link less)));
      }

  -- so the path can be confirmed
  pub held-confirmable : Confirmable after held number
  unfolding accepted_holding record_of
  held-confirmable =
      record {
        numbered = le-largest path_number_range number (not-false _ none.0);
        usable = ledger-usable after held held-usable;
        place = count;
        standing = omega arith;
        named = last-number;
        held = ap (λ (r : Record). r.mark) last-is;
      }
