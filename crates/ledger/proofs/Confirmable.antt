-- Demand 2: 1, 10 and 16 are each kept from standing by its condition, and by that alone.
use Rattle.std.proofs.Common.{◌≡◌, ℕ, ◌<◌, ◌≤◌, Bool, true, false, not, ltb, ◌↔◌, List, Result, Ok, Err, sym, refl, ap, ◌∙◌, ap₂, arith, ltb-true, lt-ltb, ne_eqb, le-leb}
use borrow.Author.Tests.{eqb-false, not-false, not-true}
use Rattle.quantity.specs.Choice.{both}
use Rattle.quantity.specs.Ranges.{in_range, path_number_range, rate_range}
use Rattle.quantity.specs.declared.refusal.Refusal.{Refusal}
use Rattle.quantity.proofs.Laws.{pick_true, le-largest}
use Rattle.quantity.proofs.Sums.{both_true, every-at}
use Rattle.quantity.proofs.Refusals.{NoneStands, none-where-result, first_of-none}
use Rattle.ledger.specs.declared.Record.{Record}
use Rattle.ledger.specs.declared.Ledger.{Ledger}
use Rattle.ledger.specs.Records.{mark_confirmed, record_at, number_at, mark_at, among, all_differ, place_among, stands}
use Rattle.ledger.specs.Ledgers.{record_count, links_range, mark_range, record_in_range, record_clear, record_fits, ledger_unusable}
use Rattle.ledger.specs.Confirming.{confirmed_already, confirm_cases, confirmed_of}
use Rattle.ledger.specs.Confirmable.{Confirmable}
use Rattle.ledger.proofs.UsableLedger.{usable-ledger}
use Rattle.ledger.proofs.Numbers.{at_place, place_of, among-at}
use Rattle.ledger.proofs.Deciding.{stands-below}

module _ (ledger : Ledger) (records : List Record) (usable : ledger_unusable ledger records ≡ false) where
  -- a standing record has mark 0 or 1
  mark-le : (j : ℕ) → j < ledger.count → mark_at records j ≤ 1
  unfolding record_fits record_in_range
  mark-le j less =
      let r = record_at records j in
      let sound = usable-ledger ledger records usable in
      let few = sound.few in
      let fits = every-at (record_fits ledger.count records) record_count sound.records_fit j (omega arith) in
      let inside : record_in_range r ≡ true = sym (pick_true (ltb j ledger.count) (record_in_range r) (record_clear r) (lt-ltb j ledger.count less)) ∙ fits in
      let (numbered, others) = both_true (in_range path_number_range r.number.0) _ inside in
      let (rated, others) = both_true (in_range rate_range r.rate.0) _ others in
      let (linked, marked) = both_true (in_range links_range r.links) (in_range mark_range r.mark) others in
      le-largest mark_range r.mark marked

  -- and no other has its number, so a number stands where its place is
  pub only-place : (number j : ℕ) → j < ledger.count → number_at records j ≡ number → place_among (number_at records) ledger.count number ≡ j
  unfolding all_differ
  only-place number j less named =
      place_of (number_at records) number ledger.count j
      (record {
        at_most = omega arith;
        before = λ k before same.
            let differ = not-true _ (every-at (λ i. not (among (number_at records) i (number_at records i))) ledger.count (usable-ledger ledger records usable).all_differ j less) in
            let never : ◌≡◌ {A = Bool} true false = sym (among-at (number_at records) (number_at records j) j k before (same ∙ sym named)) ∙ differ in
            let zero_one : ◌≡◌ {A = ℕ} 0 1 = cc in omega arith;
        here = λ below. named;
      })

module _ (ledger : Ledger) (records : List Record) (number : ℕ) where
  abbrev at : ℕ
  at = place_among (number_at records) ledger.count number

  confirmable : NoneStands (confirm_cases ledger records number) → Confirmable ledger records number
  unfolding confirmed_already
  confirmable none =
      let below = ltb-true at ledger.count (stands-below records ledger.count number refl ∙ not-false (stands records ledger.count number) none.1.1.0) in
      record {
        numbered = le-largest path_number_range number (not-false _ none.0);
        usable = none.1.0;
        place = at;
        standing = below;
        named = at_place (number_at records) number ledger.count below;
        held = let other = eqb-false (mark_at records at) mark_confirmed none.1.1.1.0 in let least = mark-le ledger records none.1.0 at below in omega arith;
      }

  pub none-confirmed : Confirmable ledger records number → NoneStands (confirm_cases ledger records number)
  unfolding confirmed_already in_range stands
  none-confirmed c = (
    ap not (ap₂ both (le-leb 0 number (omega arith)) (le-leb number 65535 c.numbered)),
    (
      c.usable,
      (
        ap not (among-at (number_at records) number ledger.count c.place c.standing c.named),
        (
          ne_eqb (mark_at records at) mark_confirmed (λ one. let same = ap (mark_at records) (only-place ledger records c.usable number c.place c.standing c.named) in let zero = c.held in omega arith),
          tt,
        ),
      ),
    ),
  )

  pub confirmed-iff : (confirmed_of ledger records number ≡ Ok tt) ↔ Confirmable ledger records number
  unfolding confirmed_of
  confirmed-iff = (
    (λ accepted. confirmable (none-where-result Err (Ok tt) (λ (answer : Result (Unit {0}) Refusal). answer ≡ Ok tt) (λ why ok. absurd (cc)) (confirm_cases ledger records number) accepted)),
    (λ c. first_of-none Err (Ok tt) (confirm_cases ledger records number) (none-confirmed c)),
  )
