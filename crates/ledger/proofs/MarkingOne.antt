-- Confirming the record at a place sets that one record: the definition, which gives each of the 64, by its elements.
use Rattle.std.proofs.Common.{◌≡◌, ℕ, ◌<◌, Bool, true, false, eqb, List, length, set, sym, refl, ◌∙◌, arith, length-set, get_or-set_other, get_or-set_same, eqb-true}
use borrow.Author.Tests.{eqb-false}
use Rattle.quantity.specs.Choice.{pick}
use Rattle.quantity.proofs.Sums.{list_of-ext}
use Rattle.ledger.specs.declared.Record.{Record}
use Rattle.ledger.specs.Records.{no_record, record_at}
use Rattle.ledger.specs.Ledgers.{record_count}
use Rattle.ledger.specs.Confirming.{confirmed_record, confirmed_at}

module _ (records : List Record) (at : ℕ) where
  pub confirmed-there : length records ≡ record_count → at < record_count → confirmed_at records at ≡ set records at (confirmed_record (record_at records at))
  unfolding confirmed_at
  confirmed-there sized below =
      sym (list_of-ext no_record _ record_count (set records at (confirmed_record (record_at records at))) (length-set records at _ ∙ sized) (λ j less. by-test j (eqb j at) refl))
    where
      by-test : (j : ℕ) (t : Bool) → eqb j at ≡ t → record_at (set records at (confirmed_record (record_at records at))) j ≡ pick t (confirmed_record (record_at records j)) (record_at records j)
      by-test j true e = rw (eqb-true j at e) (get_or-set_same records at (confirmed_record (record_at records at)) no_record (omega (arith, sized, below)))
      by-test j false e = get_or-set_other records at j (confirmed_record (record_at records at)) no_record (eqb-false j at e)
