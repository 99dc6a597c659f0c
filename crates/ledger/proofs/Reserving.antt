-- A record's share charged or discharged link by link, and the sums of shares: 64 rates of 65,535 stay far below where a sum of 32 bits wraps.
use Rattle.std.proofs.Common.{◌≡◌, ℕ, zero, suc, ◌*◌, ◌<◌, ◌≤◌, Bool, true, false, eqb, ltb, List, [], ◌∷◌, ◌++◌, refl, ap₂, mul-suc, arith, eqb-true}
use Rattle.quantity.specs.Choice.{pick}
use Rattle.quantity.specs.Sums.{total, every, list_of}
use Rattle.quantity.specs.Ranges.{in_range, rate_range, path_number_range}
use Rattle.quantity.specs.declared.Rate.{Rate}
use Rattle.quantity.proofs.Laws.{le-largest}
use Rattle.quantity.proofs.Sums.{total-zero, total-suc, both_true, every-at}
use Rattle.ledger.specs.declared.Record.{Record}
use Rattle.ledger.specs.Records.{record_at, has_link, share, reserved}
use Rattle.ledger.specs.Ledgers.{record_count, link_count, record_in_range, record_clear, record_fits}
use Rattle.ledger.specs.Steps.{rate_at}
use Rattle.ledger.proofs.Numbers.{Written, written_all}

abbrev none : Rate
none = record { 0 = 0 }

-- a record's share of a link, as a rate
abbrev share_rate : Record → ℕ → Rate
share_rate r link = record { 0 = share r link }

-- The rates while a record is charged or discharged: below the link changed by its share, from there on as they were given.
module _ (change : Rate → Rate → Rate) (rates : List Rate) (r : Record) where
  abbrev pub changed_at : ℕ → Rate
  changed_at link = change (rate_at rates link) (share_rate r link)

  pub record Charging (sums : List Rate) (link : ℕ) : Type 0 where
    pub written : Written none changed_at link_count sums link
    pub given : (k : ℕ) → link ≤ k → rate_at sums k ≡ rate_at rates k

  pub charging-all : {sums : List Rate} {link : ℕ} → Charging sums link → link_count ≤ link → sums ≡ list_of changed_at link_count
  charging-all charging all = written_all _ changed_at link_count charging.written all

pub share-at-most : (r : Record) (link : ℕ) → share r link ≤ r.rate.0
unfolding share
share-at-most r link = of (has_link r.links link)
  where
    of : (t : Bool) → pick t r.rate.0 0 ≤ r.rate.0
    of true = omega arith
    of false = omega arith

-- a record that fits has a rate of at most 65,535, whether it stands or not
fit-rate-at-most : (r : Record) (standing : Bool) → pick standing (record_in_range r) (record_clear r) ≡ true → r.rate.0 ≤ 65535
unfolding record_in_range record_clear
fit-rate-at-most r true fits =
    let (number, rest) = both_true (in_range path_number_range r.number.0) _ fits in
    le-largest rate_range r.rate.0 (both_true (in_range rate_range r.rate.0) _ rest).0
fit-rate-at-most r false fits =
    let (number, rest) = both_true (eqb r.number.0 0) _ fits in
    omega (arith, eqb-true r.rate.0 0 (both_true (eqb r.rate.0 0) _ rest).0)

pub rate-at-most : (count : ℕ) (records : List Record) (j : ℕ) → record_fits count records j ≡ true → (record_at records j).rate.0 ≤ 65535
unfolding record_fits
rate-at-most count records j fits = fit-rate-at-most (record_at records j) (ltb j count) fits

-- a sum of n that are each at most m
pub total_at_most : (f : ℕ → ℕ) (m n : ℕ) → ((k : ℕ) → k < n → f k ≤ m) → total f n ≤ m * n
total_at_most f m zero each = omega (arith, total-zero f)
total_at_most f m (suc n) each = rw mul-suc (omega (arith, total-suc f n, each n (omega arith), total_at_most f m n (λ k less. each k (omega arith))))

pub list_of-same : {A : Type 0} (f g : ℕ → A) (n : ℕ) → ((k : ℕ) → k < n → f k ≡ g k) → list_of f n ≡ list_of g n
unfolding list_of
list_of-same {A} f g zero same = refl
list_of-same {A} f g (suc n) same = ap₂ (λ (xs : List A) (x : A). xs ++ (x ∷ [])) (list_of-same f g n (λ k less. same k (omega arith))) (same n (omega arith))

module _ (records : List Record) (count : ℕ) (fit : every (record_fits count records) record_count ≡ true) where
  pub share-fits : (j link : ℕ) → j < record_count → share (record_at records j) link ≤ 65535
  share-fits j link less =
      omega (arith, share-at-most (record_at records j) link, rate-at-most count records j (every-at (record_fits count records) record_count fit j less))

  pub reserved-at-most : (n link : ℕ) → n ≤ record_count → reserved records n link ≤ 65535 * n
  unfolding reserved
  reserved-at-most n link few = total_at_most (λ j. share (record_at records j) link) 65535 n (λ j less. share-fits j link (omega arith))
