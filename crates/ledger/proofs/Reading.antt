-- The records as they are read: whether those passed fit, and each field of theirs in a list of its own.
use Rattle.std.proofs.Common.{◌≡◌, ℕ, ◌+◌, ◌<◌, ◌≤◌, Bool, true, ◌&&◌, List, set, replicate, sym, refl, ◌∙◌, ap₂}
use lib.ListN.{length-replicate}
use Rattle.quantity.specs.Choice.{both}
use Rattle.quantity.specs.Sums.{every}
use Rattle.quantity.proofs.Sums.{every-next}
use Rattle.ledger.specs.declared.Record.{Record}
use Rattle.ledger.specs.Records.{record_at, number_at, mark_at}
use Rattle.ledger.specs.Ledgers.{record_count, record_fits}
use Rattle.ledger.specs.declared.test.Fields.{Fields}
use Rattle.ledger.specs.Steps.{fields_of}
use Rattle.ledger.proofs.Numbers.{and-both, Written, written-first, written_next, written_all}

module _ (count : ℕ) (records : List Record) where
  abbrev rate_of : ℕ → ℕ
  rate_of j = (record_at records j).rate.0

  abbrev bits_of : ℕ → ℕ
  bits_of j = (record_at records j).links

  pub record Reading (fit : Bool) (fields : Fields) (j : ℕ) : Type 0 where
    pub fit_is : fit ≡ every (record_fits count records) j
    pub numbers_are : Written 0 (number_at records) record_count fields.numbers j
    pub rates_are : Written 0 rate_of record_count fields.rates j
    pub links_are : Written 0 bits_of record_count fields.links j
    pub marks_are : Written 0 (mark_at records) record_count fields.marks j

  abbrev none : List ℕ
  none = replicate record_count 0

  pub reading-first : Reading true (record { numbers = none; rates = none; links = none; marks = none }) 0
  unfolding every
  reading-first =
      let sized = length-replicate {A = ℕ} record_count 0 in
      record { fit_is = refl; numbers_are = written-first 0 _ record_count sized; rates_are = written-first 0 _ record_count sized; links_are = written-first 0 _ record_count sized; marks_are = written-first 0 _ record_count sized }

  module _ {fit : Bool} {fields : Fields} {j : ℕ} (reading : Reading fit fields j) where
    pub reading-next : j < record_count → (more : Bool) → more ≡ record_fits count records j
        → Reading (fit && more) (record { numbers = set fields.numbers j (number_at records j); rates = set fields.rates j (rate_of j); links = set fields.links j (bits_of j); marks = set fields.marks j (mark_at records j) }) (j + 1)
    reading-next less more here =
        record {
          fit_is = and-both fit more ∙ ap₂ both reading.fit_is here ∙ sym (every-next (record_fits count records) j);
          numbers_are = written_next 0 _ record_count reading.numbers_are less refl;
          rates_are = written_next 0 _ record_count reading.rates_are less refl;
          links_are = written_next 0 _ record_count reading.links_are less refl;
          marks_are = written_next 0 _ record_count reading.marks_are less refl;
        }

    pub read-fields : record_count ≤ j → fields ≡ fields_of records
    read-fields all =
        let numbers = written_all 0 _ record_count reading.numbers_are all in
        let rates = written_all 0 _ record_count reading.rates_are all in
        let links = written_all 0 _ record_count reading.links_are all in
        let marks = written_all 0 _ record_count reading.marks_are all in
        λ i. record { numbers = numbers i; rates = rates i; links = links i; marks = marks i }
