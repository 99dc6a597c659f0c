-- Demand 2: each refusal of 1 to 12 is kept from standing by its condition, and by that alone. And asking is answered by the capacities and totals alone.
use Rattle.std.proofs.Common.{◌≡◌, ℕ, ◌+◌, ◌<◌, ◌≤◌, Bool, true, false, not, eqb, ltb, ◌↔◌, List, ◌++◌, length, is_ok, IsOk, Result, Ok, Err, sym, refl, ap, ◌∙◌, subst, ap₂, arith, ltb-false, ltb-true, eq-eqb, ne_eqb, le-leb}
use borrow.Author.Tests.{eqb-false, not-false, not-true}
use Rattle.quantity.specs.Choice.{both}
use Rattle.quantity.specs.Ranges.{in_range, path_number_range}
use Rattle.quantity.specs.declared.LinkCapacity.{LinkCapacity}
use Rattle.quantity.specs.declared.Rate.{Rate}
use Rattle.quantity.specs.declared.refusal.Refusal.{Refusal}
use Rattle.quantity.proofs.Laws.{le-largest}
use Rattle.quantity.proofs.Sums.{every-at, every_holds, every-fails}
use Rattle.quantity.proofs.Refusals.{NoneStands, none-of-both, none-of-each, none-where-result, first_of-none}
use Rattle.sheet.specs.Paths.{Path, link_at}
use Rattle.sheet.specs.Sheets.{sheet_cases, value_in, path_in}
use Rattle.sheet.proofs.Accepted.{sheet-path}
use Rattle.figures.specs.Answers.{path_cases, figures_cases, figures_of, accepted_figures}
use Rattle.figures.specs.declared.PathFigures.{PathFigures}
use Rattle.ledger.specs.declared.Record.{Record}
use Rattle.ledger.specs.declared.Ledger.{Ledger}
use Rattle.ledger.specs.declared.holding.Holding.{Holding}
use Rattle.ledger.specs.Records.{number_at, among, stands}
use Rattle.ledger.specs.Ledgers.{record_count, link_count, capacity_of, total_of}
use Rattle.ledger.specs.Holding.{rate_of, names_link, ledger_full, link_short, standing_cases, holding_cases, accepted_holding, holding_of}
use Rattle.ledger.specs.Spare.{total_fits, links_unusable, spare_of}
use Rattle.ledger.specs.Admissible.{Admissible}
use Rattle.ledger.proofs.UsableLedger.{usable-ledger}
use Rattle.ledger.proofs.Numbers.{not-among}
use Rattle.ledger.proofs.DecidingHold.{path-link}
use Rattle.ledger.proofs.Deciding.{total-is}

-- the link of an operator is named, and a named link is an operator's
named-at : (path : Path) (k : ℕ) → k < length path.operators → names_link path (link_at path k) ≡ true
unfolding names_link
named-at path k less = ap not (every-fails _ (length path.operators) k less (ap not (eq-eqb (link_at path k) (link_at path k) refl)))

module _ (ledger : Ledger) (records : List Record) (number : ℕ) (sheet : List ℕ) where
  abbrev value : Path
  value = path_in sheet

  -- 12 does not stand where each operator's link carries the path, and only there
  abbrev Carried : Type 0
  Carried = (k : ℕ) → k < length value.operators → total_of ledger (link_at value k) + rate_of value ≤ capacity_of ledger (link_at value k)

  abbrev beyond : ℕ → Bool
  beyond link = ltb (capacity_of ledger link) (total_of ledger link + rate_of value)

  none-beyond : (t : Bool) → not (both t false) ≡ true
  none-beyond true = refl
  none-beyond false = refl

  not_short : Carried → link_short ledger value ≡ false
  unfolding link_short names_link
  not_short carried = ap not (every_holds _ link_count (λ link less. by-test link (beyond link) refl))
    where
      by-test : (link : ℕ) (t : Bool) → beyond link ≡ t → not (both (names_link value link) t) ≡ true
      by-test link true e =
          let unnamed = every_holds (λ k. not (eqb (link_at value k) link)) (length value.operators)
          (λ k less. ap not (ne_eqb (link_at value k) link (λ same. let fits = carried k less in let past = ltb-true (capacity_of ledger link) _ e in omega (arith, subst (λ (l : ℕ). total_of ledger l + rate_of value ≤ capacity_of ledger l) same fits, past)))) in
          ap (λ (t : Bool). not (both t true)) (ap not unnamed)
      by-test link false e = none-beyond (names_link value link)

  carried-where : NoneStands (sheet_cases sheet) → link_short ledger value ≡ false → Carried
  unfolding link_short
  carried-where planned enough k less =
      let link = link_at value k in
      let each = every-at _ link_count (not-false _ enough) link (path-link value (sheet-path sheet planned).inside k) in
      let fits : not (both true (beyond link)) ≡ true = ap (λ (t : Bool). not (both t (beyond link))) (sym (named-at value k less)) ∙ each in
      ltb-false (capacity_of ledger link) (total_of ledger link + rate_of value) (not-true (beyond link) fits)

  new-where : stands records ledger.count number ≡ false → (j : ℕ) → j < ledger.count → number_at records j ≡ number → ⊥
  unfolding stands among
  new-where absent j less = eqb-false (number_at records j) number (not-true _ (every-at _ ledger.count (not-false _ absent) j less))

  admissible : NoneStands (holding_cases ledger records number sheet) → Admissible ledger records number sheet
  unfolding ledger_full figures_of
  admissible none =
      let (planned, standing) = none-of-each (sheet_cases sheet ++ path_cases value) (standing_cases ledger records number value) none.1.1 in
      record {
        numbered = le-largest path_number_range number (not-false _ none.0);
        usable = none.1.0;
        summed = total-is ledger records none.1.0;
        planned = ap (λ (answer : Result PathFigures Refusal). is_ok answer) (first_of-none Err (Ok (accepted_figures (value_in sheet) value)) (figures_cases sheet) planned);
        new = new-where standing.0;
        room = let other = eqb-false ledger.count record_count standing.1.0 in let few = (usable-ledger ledger records none.1.0).few in omega arith;
        carried = carried-where (none-of-each (sheet_cases sheet) (path_cases value) planned).0 standing.1.1.0;
      }

  none-where : Admissible ledger records number sheet → NoneStands (holding_cases ledger records number sheet)
  unfolding ledger_full in_range stands figures_of
  none-where a =
      let (fields, figures) = none-of-each (sheet_cases sheet) (path_cases value) (none-where-result Err (Ok (accepted_figures (value_in sheet) value)) (λ (answer : Result PathFigures Refusal). IsOk answer) (λ why ok. absurd (cc)) (figures_cases sheet) a.planned) in (
        ap not (ap₂ both (le-leb 0 number (omega arith)) (le-leb number 65535 a.numbered)),
        (
          a.usable,
          none-of-both (sheet_cases sheet ++ path_cases value) (standing_cases ledger records number value) (none-of-both (sheet_cases sheet) (path_cases value) fields figures)
              (not-among (number_at records) number ledger.count a.new, (ne_eqb ledger.count record_count (λ same. let room = a.room in omega arith), (not_short a.carried, tt))),
        ),
      )

  pub held-iff : IsOk (holding_of ledger records number sheet) ↔ Admissible ledger records number sheet
  unfolding holding_of
  held-iff = (
    (λ accepted. admissible (none-where-result Err (Ok (accepted_holding ledger value)) (λ (answer : Result Holding Refusal). IsOk answer) (λ why ok. absurd (cc)) (holding_cases ledger records number sheet) accepted)),
    (λ a. ap (λ (answer : Result Holding Refusal). is_ok answer) (first_of-none Err (Ok (accepted_holding ledger value)) (holding_cases ledger records number sheet) (none-where a))),
  )

-- Neither the count nor a record tells in what asking answers.
pub asked-alone : (ledger other : Ledger) (link : ℕ) → ledger.capacities ≡ other.capacities → ledger.totals ≡ other.totals → spare_of ledger link ≡ spare_of other link
unfolding spare_of links_unusable total_fits
asked-alone ledger other link same-capacities same-totals =
    ap₂ (λ (capacities : List LinkCapacity) (totals : List Rate). spare_of (record { capacities = capacities; totals = totals; count = 0 }) link) same-capacities same-totals
