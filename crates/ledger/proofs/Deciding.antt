-- What opening decides, and what the path of a number, from the tests on the way; and what a ledger that can be used tells each call.
use Rattle.std.proofs.Common.{◌≡◌, ℕ, ◌+◌, ◌<◌, ◌≤◌, Bool, true, false, not, ltb, List, length, get_or, set, replicate, Option, Some, None, Result, Ok, Err, ok_or, sym, refl, ap, ◌∙◌, arith, length-set, get_or-set_other, get_or-set_same, below_none, below_more, ltb-true, eqb-true, leb-true}
use lib.ListN.{length-replicate}
use borrow.Author.Tests.{not-false}
use Rattle.quantity.specs.Choice.{pick}
use Rattle.quantity.specs.Ranges.{in_range, link_capacity_range, checked_link_capacity, path_number_range, checked_path_number}
use Rattle.quantity.specs.Sums.{every, list_of}
use Rattle.quantity.specs.declared.LinkCapacity.{LinkCapacity}
use Rattle.quantity.specs.declared.PathNumber.{PathNumber}
use Rattle.quantity.specs.declared.refusal.Refusal.{Refusal}
use Rattle.quantity.specs.declared.refusal.Refusal.TheVariants.{Unusable}
use Rattle.quantity.proofs.Laws.{pick_true, pick-false, checked-told, le-largest}
use Rattle.quantity.proofs.Refusals.{NoneStands, FirstIs}
use Rattle.quantity.proofs.Sums.{term-le-total, every-next, every-at, list_of-ext, every-fails}
use Rattle.ledger.specs.declared.Ledger.{Ledger}
use Rattle.ledger.specs.declared.test.Standing.{Standing}
use Rattle.ledger.specs.declared.Record.{Record}
use Rattle.ledger.specs.Records.{record_at, number_at, share, reserved, place_among, stands}
use Rattle.ledger.specs.Ledgers.{link_count, record_count, capacity_of, total_of, capacities_fit, link_fits, total_kept, ledger_unusable}
use Rattle.ledger.specs.Opening.{asked_for, new_ledger, no_ledger}
use Rattle.ledger.specs.Release.{release_cases, record_of_number}
use Rattle.ledger.specs.Steps.{checked_of, found_at, standing_tests, standing_of}
use Rattle.ledger.proofs.Answering.{first-of-err, none-of-ok}
use Rattle.ledger.proofs.Numbers.{place-among}
use Rattle.ledger.proofs.UsableLedger.{usable-ledger}

-- a number that was checked is in its range
pub number-told : (number : ℕ) {answer : Option PathNumber} → answer ≡ checked_path_number number → {found : PathNumber} → answer ≡ Some found → (in_range path_number_range found.0 ≡ true) × (found.0 ≡ number)
number-told number answered told =
    let (inside, same) = (checked-told path_number_range _ refl answered).within told in
    let here = ap (λ (n : PathNumber). n.0) same in
    (ap (in_range path_number_range) here ∙ inside, here)

-- A new ledger.

module _ (capacities : List ℕ) where
  -- the capacities of the first links are in range, and the ledger has them
  pub record Passed (ledger : Ledger) (link : ℕ) : Type 0 where
    pub few : link ≤ link_count
    pub empty : ledger.count ≡ 0
    pub nothing : ledger.totals ≡ replicate link_count (record { 0 = 0 })
    pub sized : length ledger.capacities ≡ link_count
    pub fit : every (λ j. in_range link_capacity_range (asked_for capacities j)) link ≡ true
    pub each : (j : ℕ) → j < link → get_or ledger.capacities j (record { 0 = 0 }) ≡ record { 0 = asked_for capacities j }

  pub passed_first : {ledger : Ledger} → ledger ≡ no_ledger → Passed ledger 0
  unfolding every
  passed_first none =
      rw none (record { few = omega arith; empty = refl; nothing = refl; sized = length-replicate {A = LinkCapacity} link_count (record { 0 = 0 }); fit = refl; each = below_none _ })

  module _ {ledger : Ledger} {link : ℕ} (passed : Passed ledger link) (less : link < link_count)
      {answer : Option LinkCapacity} (answered : answer ≡ checked_link_capacity (asked_for capacities link)) where
    pub passed-next : {capacity : LinkCapacity} → answer ≡ Some capacity
        → Passed (record { capacities = set ledger.capacities link capacity; totals = ledger.totals; count = ledger.count }) (link + 1)
    passed-next {capacity} told =
        let (inside, same) = (checked-told link_capacity_range _ refl answered).within told in
        record {
          few = omega arith;
          empty = passed.empty;
          nothing = passed.nothing;
          sized = length-set ledger.capacities link capacity ∙ passed.sized;
          fit = rw (every-next, passed.fit) inside;
          each =
              below_more (λ (j : ℕ). get_or (set ledger.capacities link capacity) j (record { 0 = 0 }) ≡ record { 0 = asked_for capacities j }) link
              (λ j before. get_or-set_other ledger.capacities link j capacity (record { 0 = 0 }) (λ same. omega arith) ∙ passed.each j before)
              (get_or-set_same ledger.capacities link capacity (record { 0 = 0 }) (rw passed.sized less) ∙ same);
        }

    pub passed_none : answer ≡ None → None ≡ checked_of capacities
    unfolding checked_of capacities_fit
    passed_none told =
        sym (pick-false _ _ _ (every-fails _ link_count link less ((checked-told link_capacity_range _ refl answered).outside told)))

  pub passed-all : {ledger : Ledger} → Passed ledger link_count → Some ledger ≡ checked_of capacities
  unfolding checked_of capacities_fit new_ledger
  passed-all {ledger} passed =
      let same : ledger.capacities ≡ list_of (λ link. record { 0 = asked_for capacities link }) link_count = list_of-ext (record { 0 = 0 }) _ link_count ledger.capacities passed.sized passed.each in
      let none = passed.empty in
      let clear = passed.nothing in
      (λ i. Some (record { capacities = same i; totals = clear i; count = none i })) ∙ sym (pick_true _ _ _ passed.fit)

-- What is known of a ledger that can be used, and of what its test found.

module _ (ledger : Ledger) (records : List Record) where
  module _ (usable : ledger_unusable ledger records ≡ false) where
    pub count-few : ledger.count ≤ record_count
    count-few = (usable-ledger ledger records usable).few

    -- a link's reserved total is at most its capacity, and that at most a million
    pub reserved-le : (link : ℕ) → link < link_count → reserved records ledger.count link ≤ capacity_of ledger link
    unfolding link_fits
    reserved-le link less = leb-true _ _ (every-at (link_fits ledger records) link_count (usable-ledger ledger records usable).links_fit link less)

    -- which is the stored total
    pub total-is : (link : ℕ) → link < link_count → total_of ledger link ≡ reserved records ledger.count link
    unfolding total_kept
    total-is link less = eqb-true _ _ (every-at (total_kept ledger records) link_count (usable-ledger ledger records usable).totals_kept link less)

    pub total-le : (link : ℕ) → link < link_count → total_of ledger link ≤ capacity_of ledger link
    total-le link less = rw (total-is link less) (reserved-le link less)

    -- and at least what each record that stands reserves
    pub share-le : (j link : ℕ) → j < ledger.count → link < link_count → share (record_at records j) link ≤ total_of ledger link
    unfolding reserved
    share-le j link before less = rw (total-is link less) (term-le-total (λ k. share (record_at records k) link) ledger.count j before)

    pub capacity-le : (link : ℕ) → link < link_count → capacity_of ledger link ≤ 1_000_000
    unfolding capacities_fit
    capacity-le link less = le-largest link_capacity_range (capacity_of ledger link) (every-at _ link_count (usable-ledger ledger records usable).capacities_fit link less)

-- a path of the number stands where its place is below the count
pub stands-below : (records : List Record) (count number : ℕ) {at : ℕ} → at ≡ place_among (number_at records) count number → ltb at count ≡ stands records count number
unfolding stands
stands-below records count number found = ap (λ (k : ℕ). ltb k count) found ∙ place-among (number_at records) number count

-- Of a number that stands in a ledger that can be used: its record is among those lent, and each link's total has its share.

module _ (ledger : Ledger) (records : List Record) (number : ℕ) (none : NoneStands (release_cases ledger records number)) where
  abbrev place : ℕ
  place = place_among (number_at records) ledger.count number

  pub standing-sized : length records ≡ record_count
  standing-sized = (usable-ledger ledger records none.1.0).sized

  pub standing-below : place < ledger.count
  standing-below = ltb-true place ledger.count (stands-below records ledger.count number refl ∙ not-false (stands records ledger.count number) none.1.1.0)

  pub standing-inside : place < record_count
  standing-inside = let few = count-few ledger records none.1.0 in let below = standing-below in omega arith

  pub standing-share : (link : ℕ) → link < link_count → share (record_at records place) link ≤ total_of ledger link
  standing-share link less = share-le ledger records none.1.0 place link standing-below less

-- The path of a number, from the tests on the way.

module _ (unknown : Refusal) (ledger : Ledger) (records : List Record) (number : ℕ) where
  abbrev found : Option Standing
  found = found_at records ledger.count (place_among (number_at records) ledger.count number)

  pub standing-outside : in_range path_number_range number ≡ false → Err Unusable ≡ standing_of unknown ledger records number
  unfolding standing_of
  standing-outside outside = sym (pick_true _ _ _ (ap not outside))

  module _ (inside : in_range path_number_range number ≡ true) where
    pub standing-unusable : ledger_unusable ledger records ≡ true → Err Unusable ≡ standing_of unknown ledger records number
    unfolding standing_of
    standing-unusable unusable = sym (pick-false _ _ _ (ap not inside) ∙ pick_true _ _ _ unusable)

    pub standing-found : ledger_unusable ledger records ≡ false → ok_or found unknown ≡ standing_of unknown ledger records number
    unfolding standing_of stands
    standing-found usable =
        by-test (ltb (place_among (number_at records) ledger.count number) ledger.count) (place-among (number_at records) number ledger.count)
        ∙ sym (pick-false _ _ _ (ap not inside) ∙ pick-false _ _ _ usable)
      where
        at : Standing
        at = record { at = place_among (number_at records) ledger.count number; found = record_of_number ledger records number }

        by-test : (t : Bool) → t ≡ stands records ledger.count number
            → ok_or (pick {A = Option Standing} t (Some at) None) unknown ≡ pick {A = Result Standing Refusal} (not (stands records ledger.count number)) (Err unknown) (Ok at)
        by-test true e = sym (pick-false _ _ _ (ap not (sym e)))
        by-test false e = sym (pick_true _ _ _ (ap not (sym e)))

  -- and what was found tells
  module _ {answer : Result Standing Refusal} (is : answer ≡ standing_of unknown ledger records number) where
    pub standing-err : {why : Refusal} → answer ≡ Err why → FirstIs (standing_tests unknown ledger records number) why
    unfolding standing_of
    standing-err e = first-of-err (standing_tests unknown ledger records number) (record { at = place_among (number_at records) ledger.count number; found = record_of_number ledger records number }) is e

    pub standing-ok : {standing : Standing} → answer ≡ Ok standing
        → NoneStands (standing_tests unknown ledger records number) × (standing ≡ record { at = place_among (number_at records) ledger.count number; found = record_of_number ledger records number })
    unfolding standing_of
    standing-ok e = none-of-ok (standing_tests unknown ledger records number) (record { at = place_among (number_at records) ledger.count number; found = record_of_number ledger records number }) is e
