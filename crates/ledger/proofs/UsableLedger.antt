-- A ledger that refusal 1 lets pass is sound in each of seven ways, and one that is sound in all of them passes.
use Rattle.std.proofs.Common.{◌≡◌, ◌≤◌, Bool, true, false, not, eqb, ltb, List, length, refl, ap, ltb-false, le-ltb, eq-eqb, eqb-true}
use borrow.Author.Tests.{not-false}
use Rattle.quantity.specs.Sums.{every}
use Rattle.quantity.proofs.Laws.{either-false, either-none}
use Rattle.ledger.specs.declared.Record.{Record}
use Rattle.ledger.specs.declared.Ledger.{Ledger}
use Rattle.ledger.specs.Records.{number_at, all_differ}
use Rattle.ledger.specs.Ledgers.{record_count, link_count, capacity_of, capacities_fit, record_fits, link_fits, total_kept, ledger_unusable}

pub record UsableLedger (ledger : Ledger) (records : List Record) : Type 0 where
  pub sized : length records ≡ record_count
  pub few : ledger.count ≤ record_count
  pub capacities_fit : capacities_fit (capacity_of ledger) ≡ true
  pub records_fit : every (record_fits ledger.count records) record_count ≡ true
  pub all_differ : all_differ (number_at records) ledger.count ≡ true
  pub links_fit : every (link_fits ledger records) link_count ≡ true
  pub totals_kept : every (total_kept ledger records) link_count ≡ true

module _ (ledger : Ledger) (records : List Record) where
  pub usable-ledger : ledger_unusable ledger records ≡ false → UsableLedger ledger records
  unfolding ledger_unusable
  usable-ledger passed =
      let (sized, rest) = either-false (not (eqb (length records) record_count)) _ passed in
      let (few, rest) = either-false (ltb record_count ledger.count) _ rest in
      let (capacities, rest) = either-false (not (capacities_fit (capacity_of ledger))) _ rest in
      let (fit, rest) = either-false (not (every (record_fits ledger.count records) record_count)) _ rest in
      let (differ, rest) = either-false (not (all_differ (number_at records) ledger.count)) _ rest in
      let (links, rest) = either-false (not (every (link_fits ledger records) link_count)) _ rest in
      let (totals, rest) = either-false (not (every (total_kept ledger records) link_count)) _ rest in
      record {
        sized = eqb-true (length records) record_count (not-false _ sized);
        few = ltb-false record_count ledger.count few;
        capacities_fit = not-false _ capacities;
        records_fit = not-false _ fit;
        all_differ = not-false _ differ;
        links_fit = not-false _ links;
        totals_kept = not-false _ totals;
      }

  pub ledger-usable : UsableLedger ledger records → ledger_unusable ledger records ≡ false
  unfolding ledger_unusable
  ledger-usable passed =
      either-none (not (eqb (length records) record_count)) _ (ap not (eq-eqb (length records) record_count passed.sized))
      (either-none (ltb record_count ledger.count) _ (le-ltb record_count ledger.count passed.few)
      (either-none (not (capacities_fit (capacity_of ledger))) _ (ap not passed.capacities_fit)
      (either-none (not (every (record_fits ledger.count records) record_count)) _ (ap not passed.records_fit)
      (either-none (not (all_differ (number_at records) ledger.count)) _ (ap not passed.all_differ)
      (either-none (not (every (link_fits ledger records) link_count)) _ (ap not passed.links_fit)
      (either-none (not (every (total_kept ledger records) link_count)) _ (ap not passed.totals_kept) refl))))))

  -- where one of these fails, it does not
  pub ledger-unusable : (UsableLedger ledger records → ⊥) → ledger_unusable ledger records ≡ true
  ledger-unusable fails = by-test (ledger_unusable ledger records) refl
    where
      by-test : (t : Bool) → ledger_unusable ledger records ≡ t → t ≡ true
      by-test true e = refl
      by-test false e = absurd (fails (usable-ledger e))
