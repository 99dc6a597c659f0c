-- Any test that fails refuses; past all of them the ledger can be used, and the number's place is looked up.
use Rattle.std.proofs.Common.{◌≡◌, ℕ, ◌≤◌, Bool, true, false, ltb, List, length, get_or, Some, None, sym, ap, ◌∙◌, arith, ltb-true}
use Rattle.quantity.specs.Choice.{pick}
use Rattle.quantity.specs.Sums.{every}
use Rattle.quantity.proofs.Sums.{length-list_of}
use Rattle.ledger.specs.declared.Record.{Record}
use Rattle.ledger.specs.declared.test.Fields.{Fields}
use Rattle.ledger.specs.Records.{number_at, place_among, all_differ}
use Rattle.ledger.specs.Ledgers.{record_count, link_count, record_fits}
use Rattle.ledger.specs.Steps.{numbers_of, fields_of, rates_of, link_bits_of, link_holds}
use Rattle.quantity.proofs.Laws.{option-told}
use Rattle.ledger.proofs.Firsts.{position-placed}
use Rattle.ledger.proofs.Testing.{tested-not, found_none, found-stands, fields_at, number-listed, numbers-differ, numbers-narrow, holding-links, links-hold}
use Rattle.ledger.proofs.UsableLedger.{UsableLedger}
use Rattle.ledger.proofs.test.judge.Goals as goal
use Rattle.ledger.proofs.test.judge.Goals.{After-all_differ, After-place_of, After-links_fit}

contradiction : {t : Bool} → t ≡ true → t ≡ false → ⊥
contradiction e f = let z : ◌≡◌ {A = ℕ} 0 1 = cc in omega arith

-- what each test answers, of the records whose fields the lists are
differing : (c : After-all_differ) (records : List Record) →
    every (record_fits c.args.ledger.count records) record_count ≡ true → c.args.fields.now ≡ fields_of records → c.all_differ.result ≡ all_differ (number_at records) c.args.ledger.count
differing c records fit fields =
    let count = c.args.ledger.count in
    let few = c.if-count-gt-RECORDS.false in
    c.all_differ.ensures (rw fields (numbers-narrow records count few fit))
    ∙ ap (λ (f : Fields). all_differ (λ k. get_or f.numbers k 0) count) fields ∙ numbers-differ records count few

holding : (c : After-links_fit) (records : List Record) → c.args.fields.now ≡ fields_of records → c.links_fit.result ≡ every (link_holds c.args.ledger (rates_of records) (link_bits_of records)) link_count
holding c records fields = c.links_fit.ensures ∙ ap (λ (f : Fields). every (link_holds c.args.ledger f.rates f.links) link_count) fields

-- past all tests the ledger can be used
module _ (c : After-place_of) (records : List Record) (fields : c.args.fields.now ≡ fields_of records) where
  abbrev few : c.args.ledger.count ≤ record_count
  few = c.if-count-gt-RECORDS.false

  usable : length records ≡ record_count → every (record_fits c.args.ledger.count records) record_count ≡ true → UsableLedger c.args.ledger records
  usable long fit =
      let count = c.args.ledger.count in
      let held = c.links_fit.ensures ∙ ap (λ (f : Fields). every (link_holds c.args.ledger f.rates f.links) link_count) fields in
      let differ =
      c.all_differ.ensures (rw fields (numbers-narrow records count few fit))
      ∙ ap (λ (f : Fields). all_differ (λ k. get_or f.numbers k 0) count) fields ∙ numbers-differ records count few in
      let (capacities, fits, kept) = holding-links c.args.ledger records few fit long (sym held ∙ c.if-not-links_fit.false) in
      record {
        sized = long;
        few = few;
        capacities_fit = capacities;
        records_fit = fit;
        all_differ = sym differ ∙ c.if-not-all_differ.false;
        links_fit = fits;
        totals_kept = kept;
      }

  abbrev place : ℕ
  place = place_among (number_at records) c.args.ledger.count c.args.number

  -- the place that was found
  placed : c.place_of.result ≡ pick (ltb place c.args.ledger.count) (Some place) None
  placed =
      let numbers : c.args.fields.now.numbers ≡ numbers_of records = ap (λ (f : Fields). f.numbers) fields in
      c.place_of.ensures
      ∙ position-placed c.args.fields.now.numbers (number_at records) c.args.ledger.count c.args.number (omega (arith, few, ap length numbers, length-list_of (number_at records) record_count)) (λ k less. ap (λ (list : List ℕ). get_or list k 0) numbers ∙ number-listed records c.args.ledger.count few k (omega arith))

pub returns-then-count-gt-RECORDS : goal.returns-then-count-gt-RECORDS
returns-then-count-gt-RECORDS c records long fits fields =
    tested-not c.args.ledger records c.args.number (λ usable. omega (arith, usable.few, c.if-count-gt-RECORDS.true))

pub returns-then-not-fit : goal.returns-then-not-fit
returns-then-not-fit c records long fits fields =
    tested-not c.args.ledger records c.args.number (λ usable. contradiction (fits ∙ usable.records_fit) c.if-not-fit.true)

pub returns-then-not-all_differ : goal.returns-then-not-all_differ
returns-then-not-all_differ c records long fits fields =
    tested-not c.args.ledger records c.args.number
    (λ usable. contradiction (differing (goal.at.returns-then-not-all_differ c).After-all_differ records usable.records_fit fields ∙ usable.all_differ) (c.if-not-all_differ.true))

pub returns-then-not-links_fit : goal.returns-then-not-links_fit
returns-then-not-links_fit c records long fits fields =
    tested-not c.args.ledger records c.args.number
    (λ usable. contradiction (holding (goal.at.returns-then-not-links_fit c).After-links_fit records fields ∙ links-hold c.args.ledger records usable.few usable.records_fit long usable) (c.if-not-links_fit.true))

pub returns-in_default : goal.returns-in_default
returns-in_default c records long fits fields =
    let fit = sym fits ∙ c.if-not-fit.false in
    let passed = usable (goal.at.returns-in_default c).After-place_of records fields long fit in
    found_none c.args.ledger records c.args.number passed ((option-told (placed (goal.at.returns-in_default c).After-place_of records fields)).outside c.in_default.is)

pub returns : goal.returns
returns c records long fits fields =
    let fit = sym fits ∙ c.if-not-fit.false in
    let few = c.if-count-gt-RECORDS.false in
    let (below, same) = (option-told (placed (goal.at.returns c).After-place_of records fields)).within c.in-Some.is in
    let less = ltb-true _ _ below in
    found-stands c.args.ledger records c.args.number (usable (goal.at.returns c).After-place_of records fields long fit) below same (rw fields (fields_at records c.in-Some.at (omega (arith, same))))
