-- What the test of a ledger shows: the records lent, the count, the capacities, each record, the numbers, each link and its total; and that a ledger of which these hold passes it.
use Rattle.std.proofs.Common.{◌≡◌, ℕ, ◌+◌, ◌-◌, ◌%◌, ◌^◌, ◌<◌, ◌≤◌, Bool, true, false, eqb, ltb, leb, List, length, get_or, is_some, Option, Some, None, Result, Ok, Err, sym, refl, ap, ◌∙◌, ap₂, mod-eq_of_lt, arith, le-ltb, eqb-true}
use native.Mathlib.Decide.{dec_lt}
use lib.ListN.{get_or-eq_default}
use Rattle.quantity.specs.Choice.{pick, both}
use Rattle.quantity.specs.Sums.{total, every}
use Rattle.quantity.specs.Ranges.{in_range, path_number_range, link_capacity_range}
use Rattle.quantity.specs.declared.refusal.Refusal.{Refusal}
use Rattle.quantity.specs.declared.refusal.Refusal.TheVariants.{Unusable}
use Rattle.quantity.proofs.Laws.{pick_true, pick-false, le-largest}
use Rattle.quantity.proofs.Sums.{total-same, total-rest, both_true, get_d-list_of, every-at, every_holds}
use Rattle.ledger.specs.declared.Record.{Record}
use Rattle.ledger.specs.declared.Ledger.{Ledger}
use Rattle.ledger.specs.declared.test.Standing.{Standing}
use Rattle.ledger.specs.Records.{no_record, record_at, number_at, mark_at, has_link, share, reserved, place_among, all_differ, stands}
use Rattle.ledger.specs.Ledgers.{record_count, link_count, capacity_of, total_of, capacities_fit, record_in_range, record_clear, record_fits, link_fits, total_kept, ledger_unusable}
use Rattle.ledger.specs.Steps.{numbers_of, rates_of, link_bits_of, marks_of, Narrow, sum_on, link_holds, found_at, tested_of}
use Rattle.ledger.proofs.Numbers.{place-among, all-differ-same}
use Rattle.ledger.proofs.Reserving.{share-at-most, reserved-at-most}
use Rattle.ledger.proofs.UsableLedger.{UsableLedger, ledger-usable, ledger-unusable}

module _ (ledger : Ledger) (records : List Record) (number : ℕ) where
  -- what the test answers
  pub tested-not : (UsableLedger ledger records → ⊥) → Err Unusable ≡ tested_of ledger records number
  unfolding tested_of
  tested-not fails = sym (pick_true _ (Err Unusable) _ (ledger-unusable ledger records fails))

  -- there are not 64
  pub tested-unsized : (length records ≡ record_count → ⊥) → Err Unusable ≡ tested_of ledger records number
  tested-unsized other = tested-not (λ usable. other usable.sized)

  abbrev place : ℕ
  place = place_among (number_at records) ledger.count number

  abbrev pub tested : Option Standing
  tested = found_at records ledger.count place

  pub tested-usable : UsableLedger ledger records → Ok tested ≡ tested_of ledger records number
  unfolding tested_of
  tested-usable passed = sym (pick-false _ (Err Unusable) (Ok tested) (ledger-usable ledger records passed))

  -- the number does not stand, or it was found at a place with the record there
  pub found_none : UsableLedger ledger records → ltb place ledger.count ≡ false → Ok None ≡ tested_of ledger records number
  found_none passed past = ap {B = Result (Option Standing) Refusal} (λ (found : Option Standing). Ok found) (sym (pick-false _ (Some (record { at = place; found = record_at records place })) None past)) ∙ tested-usable passed

  pub found-stands : UsableLedger ledger records → ltb place ledger.count ≡ true → {at : ℕ} → at ≡ place → {found : Record} → found ≡ record_at records at
      → Ok (Some (record { at = at; found = found })) ≡ tested_of ledger records number
  found-stands passed below placed is =
      ap₂ {C = Result (Option Standing) Refusal} (λ (k : ℕ) (r : Record). Ok (Some (record { at = k; found = r }))) placed (is ∙ ap (record_at records) placed)
      ∙ ap {B = Result (Option Standing) Refusal} (λ (found : Option Standing). Ok found) (sym (pick_true _ (Some (record { at = place; found = record_at records place })) None below)) ∙ tested-usable passed

  -- and what was answered tells
  module _ {answer : Result (Option Standing) Refusal} (answered : answer ≡ tested_of ledger records number) where
    pub tested-err : {why : Refusal} → answer ≡ Err why → (ledger_unusable ledger records ≡ true) × (why ≡ Unusable)
    unfolding tested_of
    tested-err {why} e = by-test (ledger_unusable ledger records) (sym e ∙ answered)
      where
        by-test : (t : Bool) → Err why ≡ pick t (Err Unusable) (Ok tested) → (t ≡ true) × (why ≡ Unusable)
        by-test true e = (refl, (cc))
        by-test false e = absurd (cc)

    pub tested-ok : {found : Option Standing} → answer ≡ Ok found → (ledger_unusable ledger records ≡ false) × (found ≡ tested)
    unfolding tested_of
    tested-ok {found} e = by-test (ledger_unusable ledger records) (sym e ∙ answered)
      where
        by-test : (t : Bool) → Ok found ≡ pick t (Err Unusable) (Ok tested) → (t ≡ false) × (found ≡ tested)
        by-test true e = absurd (cc)
        by-test false e = (refl, (cc))

  -- where it was found, it stands
  pub found-some : is_some tested ≡ stands records ledger.count number
  unfolding stands
  found-some = some_if (ltb place ledger.count) ∙ place-among (number_at records) number ledger.count
    where
      some_if : (t : Bool) → is_some (pick {A = Option Standing} t (Some (record { at = place; found = record_at records place })) None) ≡ t
      some_if true = refl
      some_if false = refl

-- the fields at a place are the record's
pub fields_at : (records : List Record) (at : ℕ) → at < record_count
    → record { number = record { 0 = get_or (numbers_of records) at 0 }; rate = record { 0 = get_or (rates_of records) at 0 }; links = get_or (link_bits_of records) at 0; mark = get_or (marks_of records) at 0 } ≡ record_at records at
fields_at records at less =
    let number = get_d-list_of 0 (number_at records) record_count at less in
    let rate = get_d-list_of 0 (λ j. (record_at records j).rate.0) record_count at less in
    let links = get_d-list_of 0 (λ j. (record_at records j).links) record_count at less in
    let mark = get_d-list_of 0 (mark_at records) record_count at less in
    (λ i. record { number = record { 0 = number i }; rate = record { 0 = rate i }; links = links i; mark = mark i })

-- Records that fit: the lists of their fields have 16 bits, and from the count on they are 0.
module _ (records : List Record) (count : ℕ) (few : count ≤ record_count) where
  pub number-listed : (k : ℕ) → k < record_count → get_or (numbers_of records) k 0 ≡ number_at records k
  number-listed k less = get_d-list_of 0 (number_at records) record_count k less

  pub numbers-differ : all_differ (λ k. get_or (numbers_of records) k 0) count ≡ all_differ (number_at records) count
  numbers-differ = all-differ-same (λ k. get_or (numbers_of records) k 0) (number_at records) count (λ k less. number-listed k (omega arith))

  module _ (fit : every (record_fits count records) record_count ≡ true) where
    fits-at : (k : ℕ) → k < record_count → pick (ltb k count) (record_in_range (record_at records k)) (record_clear (record_at records k)) ≡ true
    unfolding record_fits
    fits-at k less = every-at (record_fits count records) record_count fit k less

    clear_at : (k : ℕ) → count ≤ k → k < record_count → record_clear (record_at records k) ≡ true
    clear_at k past less = sym (pick-false (ltb k count) _ _ (le-ltb k count past)) ∙ fits-at k less

    number_small : (k : ℕ) → k < record_count → number_at records k < 65536
    unfolding record_in_range record_clear
    number_small k less = by-test (ltb k count) (fits-at k less)
      where
        by-test : (t : Bool) → pick t (record_in_range (record_at records k)) (record_clear (record_at records k)) ≡ true → number_at records k < 65536
        by-test true fits = omega (arith, le-largest path_number_range (number_at records k) (both_true (in_range path_number_range (number_at records k)) _ fits).0)
        by-test false fits = omega (arith, eqb-true (number_at records k) 0 (both_true (eqb (number_at records k) 0) _ fits).0)

    pub numbers-narrow : Narrow (λ k. get_or (numbers_of records) k 0) count
    unfolding record_clear
    numbers-narrow = (
      (λ k less. rw (number-listed k less) (number_small k less)),
      (λ k past less. number-listed k less ∙ eqb-true (number_at records k) 0 (both_true (eqb (number_at records k) 0) _ (clear_at k past less)).0),
    )

    module _ (sized : length records ≡ record_count) where
      -- a record behind the count reserves nothing
      none-behind : (link k : ℕ) → count ≤ k → share (record_at records k) link ≡ 0
      unfolding record_clear
      none-behind link k past = elim (dec_lt k record_count) [
        | yes less ↦
            let (number, rest) = both_true (eqb (number_at records k) 0) _ (clear_at k past less) in
            omega (arith, share-at-most (record_at records k) link, eqb-true (record_at records k).rate.0 0 (both_true (eqb (record_at records k).rate.0 0) _ rest).0)
        | no beyond ↦
            let none = get_or-eq_default records no_record {n = k} (omega (arith, sized)) in
            omega (arith, share-at-most (record_at records k) link, ap (λ (r : Record). r.rate.0) none)
      ]

      -- so the sum over all is the reserved total, and does not wrap
      pub sum-reserved : (link : ℕ) → sum_on (rates_of records) (link_bits_of records) record_count link % 2 ^ 32 ≡ reserved records count link
      unfolding sum_on share reserved
      sum-reserved link =
          let all : count + (record_count - count) ≡ record_count = omega arith in
          let whole : sum_on (rates_of records) (link_bits_of records) record_count link ≡ reserved records count link =
          total-same _ (λ k. share (record_at records k) link) record_count
          (λ k less. ap₂ (λ (bits rate : ℕ). pick (has_link bits link) rate 0) (get_d-list_of 0 (λ j. (record_at records j).links) record_count k less) (get_d-list_of 0 (λ j. (record_at records j).rate.0) record_count k less))
          ∙ ap (total (λ k. share (record_at records k) link)) (sym all) ∙ total-rest (λ k. share (record_at records k) link) count (record_count - count) (none-behind link) in
          ap (λ (n : ℕ). n % 2 ^ 32) whole ∙ mod-eq_of_lt (omega (arith, reserved-at-most records count fit count link few))

-- The links hold where each capacity is in its range, each sum at most that, and each total the sum.
module _ (ledger : Ledger) (records : List Record) (few : ledger.count ≤ record_count) (fit : every (record_fits ledger.count records) record_count ≡ true) (sized : length records ≡ record_count) where
  abbrev holds : ℕ → Bool
  holds = link_holds ledger (rates_of records) (link_bits_of records)

  holds-is : (link : ℕ) → holds link ≡ both (in_range link_capacity_range (capacity_of ledger link)) (both (link_fits ledger records link) (total_kept ledger records link))
  unfolding link_holds link_fits total_kept
  holds-is link =
      ap (λ (sum : ℕ). both (in_range link_capacity_range (capacity_of ledger link)) (both (leb sum (capacity_of ledger link)) (eqb (total_of ledger link) sum)))
      (sum-reserved records ledger.count few fit sized link)

  pub holding-links : every holds link_count ≡ true → (capacities_fit (capacity_of ledger) ≡ true) × (every (link_fits ledger records) link_count ≡ true) × (every (total_kept ledger records) link_count ≡ true)
  unfolding capacities_fit
  holding-links each = (
    every_holds _ link_count (λ link less. (at link less).0),
    every_holds _ link_count (λ link less. (both_true (link_fits ledger records link) _ (at link less).1).0),
    every_holds _ link_count (λ link less. (both_true (link_fits ledger records link) _ (at link less).1).1),
  )
    where
      at : (link : ℕ) → link < link_count → (in_range link_capacity_range (capacity_of ledger link) ≡ true) × (both (link_fits ledger records link) (total_kept ledger records link) ≡ true)
      at link less = both_true (in_range link_capacity_range (capacity_of ledger link)) _ (sym (holds-is link) ∙ every-at holds link_count each link less)

  pub links-hold : UsableLedger ledger records → every holds link_count ≡ true
  unfolding capacities_fit
  links-hold usable =
      every_holds holds link_count
      (λ link less. holds-is link ∙ ap₂ both (every-at _ link_count usable.capacities_fit link less) (ap₂ both (every-at _ link_count usable.links_fit link less) (every-at _ link_count usable.totals_kept link less)))
