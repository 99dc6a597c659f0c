-- What holding decides: 1 and the sheet's refusals first, then 10 to 12 of its path, which names the links and reserves the rate of the definitions.
use Rattle.std.proofs.Common.{◌≡◌, ℕ, zero, suc, ◌+◌, ◌-◌, ◌^◌, ◌<◌, ◌≤◌, Bool, true, false, not, eqb, ltb, List, [], ◌∷◌, ◌++◌, length, inr, Result, Ok, Err, get_or, replicate, sym, refl, ap, ◌∙◌, subst, ap₂, append-nil, mod-eq_of_lt, div-le_self, arith, get_or-take, take-take, eq-eqb, ne_eqb}
use native.Mathlib.Decide.{dec_lt}
use lib.ListN.{length-replicate, get_or-replicate, get_or-eq_default}
use lib.Seq.{take-append_seam}
use Rattle.quantity.specs.Choice.{pick, both}
use Rattle.quantity.specs.Rounding.{round_up}
use Rattle.quantity.specs.Limits.{largest32}
use Rattle.quantity.specs.Quantities.{rates_sum}
use Rattle.quantity.specs.Sums.{every, list_of}
use Rattle.quantity.specs.Ranges.{in_range, link_range, path_number_range}
use Rattle.quantity.specs.Refusals.{first_of}
use Rattle.quantity.specs.declared.Rate.{Rate}
use Rattle.quantity.specs.declared.refusal.Refusal.{Refusal}
use Rattle.quantity.specs.declared.refusal.Refusal.TheVariants.{Unusable, PathNumberWrong, LedgerFull, LinkShort}
use Rattle.quantity.proofs.Laws.{pick_true, pick-false, le-largest}
use Rattle.quantity.proofs.Quantities.{rates-sum}
use Rattle.quantity.proofs.Refusals.{first_of-none, first_of-append, first-answered, first-of-more}
use Rattle.quantity.proofs.Sums.{both_true, total-same, every-same}
use Rattle.operator.specs.Operators.{number_in_range}
use Rattle.sheet.specs.Bodies.{operator_in_range}
use Rattle.sheet.specs.declared.Form.{Form}
use Rattle.sheet.specs.Paths.{Path, no_linked_operator, link_at}
use Rattle.sheet.proofs.InRange.{declaration-of-path, operators-of-path}
use Rattle.sheet.specs.Forms.{in_full, value_of_path}
use Rattle.sheet.specs.Sheets.{value_in, path_in, operators_in_range, path_in_range}
use Rattle.sheet.specs.declared.LinkedOperator.{LinkedOperator}
use Rattle.sheet.specs.declared.PathValue.{PathValue}
use Rattle.sheet.proofs.Accepted.{sheet-path}
use Rattle.flow.specs.Declarations.{last_row}
use Rattle.flow.proofs.Declarations.{last-inside}
use Rattle.figures.specs.Answers.{path_delay, figures_cases, accepted_figures, figures_of}
use Rattle.figures.specs.declared.PathFigures.{PathFigures}
use Rattle.figures.proofs.Promise.{accepted-figures, accepted-none}
use Rattle.ledger.specs.declared.Record.{Record}
use Rattle.ledger.specs.declared.Ledger.{Ledger}
use Rattle.ledger.specs.declared.holding.Appending.{Appending}
use Rattle.ledger.specs.Records.{mark_held, has_link, share, stands}
use Rattle.ledger.specs.Ledgers.{link_count, record_count, capacity_of, total_of, ledger_unusable}
use Rattle.ledger.specs.Holding.{rate_of, names_link, rate_on, links_of, record_of, ledger_full, link_short, standing_cases, holding_cases, bits_of}
use Rattle.ledger.specs.Steps.{rate_at, charged, short_of, Decidable, accepted_appending, appending_of}
use Rattle.ledger.proofs.Answering.{first-of-err, none-of-ok}
use Rattle.ledger.proofs.Deciding.{count-few, total-le, capacity-le}
use Rattle.ledger.proofs.Reserving.{share-at-most, list_of-same}
use Rattle.ledger.proofs.Links.{has_named, share-named}

-- The path of a sheet, whose numbers are in their ranges.

-- the links of a path's value: those of the path, and 0 behind them
links-below : (operators : List LinkedOperator) → operators_in_range operators ≡ true → (n k : ℕ) → (get_or (operators ++ replicate n no_linked_operator) k no_linked_operator).link.0 < link_count
unfolding operators_in_range operator_in_range
links-below [] inside n k =
    let none : get_or (replicate n no_linked_operator) k no_linked_operator ≡ no_linked_operator =
    elim (dec_lt k n) [
      | yes less ↦ get_or-replicate n k no_linked_operator no_linked_operator less
      | no past ↦ get_or-eq_default (replicate n no_linked_operator) no_linked_operator (rw length-replicate (omega arith))
    ] in
    rw none (omega arith)
links-below (place ∷ operators) inside n zero =
    omega (
      arith,
      le-largest link_range place.link.0
          (both_true (number_in_range place.operator) (in_range link_range place.link.0) (both_true (operator_in_range place) (operators_in_range operators) inside).0).1,
    )
links-below (place ∷ operators) inside n (suc k) = links-below operators (both_true (operator_in_range place) (operators_in_range operators) inside).1 n k

module _ (path : Path) (inside : path_in_range path ≡ true) where
  -- its value's links are below sixteen
  value-links : (form : Form) (k : ℕ) → k < 16 → (get_or (value_of_path form path).operators k no_linked_operator).link.0 < link_count
  unfolding value_of_path
  value-links form k less = rw (get_or-take 16 (path.operators ++ replicate 16 no_linked_operator) k no_linked_operator less) (links-below path.operators (operators-of-path path inside) 16 k)

  pub path-link : (k : ℕ) → link_at path k < link_count
  path-link k = subst (λ (operators : List LinkedOperator). (get_or operators k no_linked_operator).link.0 < link_count) (append-nil path.operators) (links-below path.operators (operators-of-path path inside) 0 k)

  -- and its rate is small
  rate-le : rate_of path ≤ 66558
  unfolding rate_of round_up
  rate-le =
      let row = last-inside path.declaration (declaration-of-path path inside) in
      omega (arith, row.short, row.few, div-le_self ((last_row path.declaration).quota + ((last_row path.declaration).interval - 1)) (last_row path.declaration).interval)

-- Sums of rates stay far below the largest number of their width.

module _ (ledger : Ledger) (records : List Record) (usable : ledger_unusable ledger records ≡ false) (path : Path) (inside : path_in_range path ≡ true) where
  sum_fits : (link : ℕ) → link < link_count → total_of ledger link + rate_of path ≤ largest32
  sum_fits link less = omega (arith, total-le ledger records usable link less, capacity-le ledger records usable link less, rate-le path inside)

  -- so the totals with a path's record are those with its rate on each link that it names
  pub charged-path : (number : ℕ) → charged ledger.totals (record_of number path mark_held) ≡ list_of (λ link. record { 0 = total_of ledger link + rate_on link path }) link_count
  unfolding charged record_of
  charged-path number =
      list_of-same _ _ link_count
      (λ link less.
      ap (λ (n : ℕ). record { 0 = n })
      (mod-eq_of_lt (omega (arith, sum_fits link less, share-path link)) ∙ ap (λ (n : ℕ). total_of ledger link + n) (share-named number path mark_held link less)))
    where
      share-path : (link : ℕ) → share (record_of number path mark_held) link ≤ rate_of path
      share-path link = share-at-most (record_of number path mark_held) link

-- What the code finds of a path's value is what the definitions say of the path.

-- the value of a path has its operators written out, and the links named go by them
operators-full : (form : Form) (path : Path) → length path.operators ≤ 16 → (in_full (value_of_path form path)).operators ≡ path.operators
unfolding in_full value_of_path
operators-full form path few = rw take-take (take-append_seam path.operators (replicate 16 no_linked_operator))

names-operators : (p q : Path) (link : ℕ) → p.operators ≡ q.operators → names_link p link ≡ names_link q link
unfolding names_link
names-operators p q link same = ap (λ (operators : List LinkedOperator). not (every (λ k. not (eqb (get_or operators k no_linked_operator).link.0 link)) (length operators))) same

module _ (path : Path) (value : PathValue) (same : value ≡ value_of_path value.form path) where
  count-is : value.count ≡ length path.operators
  unfolding value_of_path
  count-is = ap (λ (p : PathValue). p.count) same

  declaration-is : value.declaration ≡ path.declaration
  unfolding value_of_path
  declaration-is = ap (λ (p : PathValue). p.declaration) same

  pub reserved-rate : {rate : Rate} → rate.0 ≡ round_up (last_row value.declaration).quota (last_row value.declaration).interval → rate ≡ record { 0 = rate_of path }
  unfolding rate_of
  reserved-rate rounded = ap (λ (n : ℕ). record { 0 = n }) (rw declaration-is at rounded)

  module _ (few : value.count ≤ 16) {links : ℕ} (noted : links ≡ links_of (in_full value)) where
    pub named-bits : links ≡ links_of path
    unfolding links_of bits_of
    named-bits =
        let stood : (in_full value).operators ≡ path.operators = ap (λ (p : PathValue). (in_full p).operators) same ∙ operators-full value.form path (rw (← count-is) few) in
        noted ∙ total-same _ _ link_count (λ link less. ap (λ (t : Bool). pick t (2 ^ link) 0) (names-operators (in_full value) path link stood))

    named-link : (link : ℕ) → link < link_count → has_link links link ≡ names_link path link
    named-link link less = ap (λ (bits : ℕ). has_link bits link) named-bits ∙ has_named path link less

    pub named-short : (ledger : Ledger) (records : List Record) → ledger_unusable ledger records ≡ false
        → path_in_range path ≡ true → {rate : Rate} → rate ≡ record { 0 = rate_of path }
        → short_of ledger.capacities ledger.totals (has_link links) rate ≡ link_short ledger path
    unfolding short_of link_short
    named-short ledger records usable inside {rate} is =
        ap not
        (every-same _ _ link_count
        (λ link less.
        let with : (rates_sum (rate_at ledger.totals link) rate).0 ≡ total_of ledger link + rate_of path =
        ap (λ (r : Rate). (rates_sum (rate_at ledger.totals link) r).0) is ∙ rates-sum (rate_at ledger.totals link) (record { 0 = rate_of path }) (sum_fits ledger records usable path inside link less) in
        ap₂ (λ (names : Bool) (n : ℕ). not (both names (ltb (capacity_of ledger link) n))) (named-link link less) with))

-- 10 to 12 can be decided of a ledger that can be used and the path of a sheet whose figures are answered
module _ (sheet : List ℕ) {answer : PathFigures} (accepted : figures_of sheet ≡ Ok answer) where
  pub accepted-inside : path_in_range (path_in sheet) ≡ true
  accepted-inside = (sheet-path sheet (accepted-none sheet accepted).0).inside

  pub accepted-path : answer.path ≡ value_of_path answer.path.form (path_in sheet)
  accepted-path = rw (accepted-figures sheet accepted).0 (sheet-path sheet (accepted-none sheet accepted).0).value

  pub accepted-delay : answer.delay ≡ record { 0 = path_delay (path_in sheet) }
  accepted-delay = ap (λ (n : ℕ). record { 0 = n }) (accepted-figures sheet accepted).1

  pub accepted-decidable : (ledger : Ledger) (records : List Record) → ledger_unusable ledger records ≡ false → Decidable ledger answer.path
  unfolding value_of_path
  accepted-decidable ledger records usable =
      rw accepted-path (
        count-few ledger records usable,
        declaration-of-path (path_in sheet) accepted-inside,
        (sheet-path sheet (accepted-none sheet accepted).0).few,
        value-links (path_in sheet) accepted-inside answer.path.form,
      )

-- 10 to 12.

module _ (ledger : Ledger) (records : List Record) (number : ℕ) (path : Path) where
  abbrev pub standing : Result Appending Refusal
  standing = first_of (standing_cases ledger records number path) Err (Ok (accepted_appending ledger number path))

  pub standing-known : stands records ledger.count number ≡ true → Err PathNumberWrong ≡ standing
  standing-known known = sym (pick_true _ _ _ known)

  module _ (new : stands records ledger.count number ≡ false) where
    pub standing-full : ledger.count ≡ record_count → Err LedgerFull ≡ standing
    unfolding ledger_full
    standing-full full = sym (pick-false _ _ _ new ∙ pick_true _ _ _ (eq-eqb ledger.count record_count full))

    module _ (room : ledger.count ≡ record_count → ⊥) where
      pub standing-short : link_short ledger path ≡ true → Err LinkShort ≡ standing
      unfolding ledger_full
      standing-short short = sym (pick-false _ _ _ new ∙ pick-false _ _ _ (ne_eqb ledger.count record_count room) ∙ pick_true _ _ _ short)

      pub standing-accepted : link_short ledger path ≡ false → Ok (accepted_appending ledger number path) ≡ standing
      unfolding ledger_full
      standing-accepted enough = sym (pick-false _ _ _ new ∙ pick-false _ _ _ (ne_eqb ledger.count record_count room) ∙ pick-false _ _ _ enough)

-- 1 and the sheet's refusals before them.

module _ (ledger : Ledger) (records : List Record) (number : ℕ) (sheet : List ℕ) where
  pub holding-outside : in_range path_number_range number ≡ false → Err Unusable ≡ appending_of ledger records number sheet
  unfolding appending_of
  holding-outside outside = sym (pick_true _ _ _ (ap not outside))

  module _ (inside : in_range path_number_range number ≡ true) where
    pub holding-unusable : ledger_unusable ledger records ≡ true → Err Unusable ≡ appending_of ledger records number sheet
    unfolding appending_of
    holding-unusable unusable = sym (pick-false _ _ _ (ap not inside) ∙ pick_true _ _ _ unusable)

    module _ (usable : ledger_unusable ledger records ≡ false) where
      -- the figures refuse, or 10 to 12 are left
      pub holding-refused : {why : Refusal} → figures_of sheet ≡ Err why → Err why ≡ appending_of ledger records number sheet
      unfolding appending_of figures_of
      holding-refused {why} refused =
          let first = first-of-err (figures_cases sheet) (accepted_figures (value_in sheet) (path_in sheet)) refl refused in
          sym
          (first-answered Err (Ok (accepted_appending ledger number (path_in sheet))) why (holding_cases ledger records number sheet)
          (inr (ap not inside, inr (usable, first-of-more why (figures_cases sheet) (standing_cases ledger records number (path_in sheet)) first))))

      pub holding-standing : {answer : PathFigures} → figures_of sheet ≡ Ok answer → standing ledger records number (path_in sheet) ≡ appending_of ledger records number sheet
      unfolding appending_of figures_of
      holding-standing accepted =
          let (none, _) = none-of-ok (figures_cases sheet) (accepted_figures (value_in sheet) (path_in sheet)) refl accepted in
          sym
          (pick-false _ _ _ (ap not inside) ∙ pick-false _ _ _ usable
          ∙ first_of-append Err (Ok (accepted_appending ledger number (path_in sheet))) (figures_cases sheet) (standing_cases ledger records number (path_in sheet))
          ∙ first_of-none Err (standing ledger records number (path_in sheet)) (figures_cases sheet) none)
