-- What each link leaves, and when the links can be used; and what a spare rate answers of that.
use Rattle.std.proofs.Common.{◌≡◌, ℕ, ◌+◌, ◌-◌, ◌%◌, ◌^◌, ◌<◌, ◌≤◌, Bool, true, false, not, leb, List, set, replicate, Option, Some, None, Result, Ok, Err, sym, refl, ap, ◌∙◌, ap₂, zero-le, arith, le-leb, leb-false, leb-true}
use lib.ListN.{length-replicate}
use borrow.Author.Tests.{lt-leb, not-false, not-true}
use Rattle.quantity.specs.Choice.{pick, both, either}
use Rattle.quantity.specs.Ranges.{in_range, link_range, link_capacity_range}
use Rattle.quantity.specs.Sums.{every, list_of}
use Rattle.quantity.specs.declared.Rate.{Rate}
use Rattle.quantity.specs.declared.refusal.Refusal.{Refusal}
use Rattle.quantity.specs.declared.refusal.Refusal.TheVariants.{Unusable, OutOfRange}
use Rattle.quantity.proofs.Laws.{pick_true, pick-false, option-told, le-largest, either-false}
use Rattle.quantity.proofs.Sums.{every-next, every-at, get_d-list_of}
use Rattle.ledger.specs.declared.Ledger.{Ledger}
use Rattle.ledger.specs.Ledgers.{link_count, capacity_of, total_of, capacities_fit}
use Rattle.ledger.specs.Spare.{total_fits, links_unusable, spare_of}
use Rattle.ledger.specs.Steps.{rate_at, left_of, spares_of}
use Rattle.ledger.proofs.Numbers.{Written, written-first, written_next, written_all}

-- tests joined in another order
both-both : (a b c d : Bool) → both (both a b) (both c d) ≡ both (both a c) (both b d)
both-both true true c d = refl
both-both true false true d = refl
both-both true false false d = refl
both-both false b c d = refl

both-not-either : (a b : Bool) → both b a ≡ not (either (not a) (not b))
both-not-either true true = refl
both-not-either true false = refl
both-not-either false true = refl
both-not-either false false = refl

pick-not : {A : Type 0} (t : Bool) (a b : A) → pick (not t) a b ≡ pick t b a
pick-not true a b = refl
pick-not false a b = refl

capacity-range : (value : ℕ) → in_range link_capacity_range value ≡ leb value 1_000_000
unfolding in_range
capacity-range value = ap (λ (t : Bool). both t (leb value 1_000_000)) (le-leb 0 value zero-le)

-- whether a total and a rate come to a capacity in its range, tested without the sum
module _ (total rate : ℕ) where
  sum-out : 1_000_000 < total + rate → false ≡ in_range link_capacity_range (total + rate)
  sum-out above = sym (capacity-range (total + rate) ∙ lt-leb (total + rate) 1_000_000 above)

  pub sum_fits : total ≤ 1_000_000 → leb rate (1_000_000 - total) ≡ in_range link_capacity_range (total + rate)
  sum_fits few = by-test (leb rate (1_000_000 - total)) refl ∙ sym (capacity-range (total + rate))
    where
      by-test : (t : Bool) → leb rate (1_000_000 - total) ≡ t → t ≡ leb (total + rate) 1_000_000
      by-test true e = sym (le-leb (total + rate) 1_000_000 (omega (arith, leb-true rate (1_000_000 - total) e)))
      by-test false e = sym (lt-leb (total + rate) 1_000_000 (omega (arith, leb-false rate (1_000_000 - total) e)))

  pub sum-above : 1_000_000 < total → false ≡ in_range link_capacity_range (total + rate)
  sum-above above = sum-out (omega arith)

module _ (capacity total : ℕ) where
  pub left_below : total ≤ capacity → left_of capacity total ≡ capacity - total
  unfolding left_of
  left_below below = pick_true _ _ _ (le-leb total capacity below)

  left-above : capacity < total → left_of capacity total ≡ capacity + 4_294_967_296 - total
  unfolding left_of
  left-above above = pick-false _ _ _ (lt-leb total capacity above)

  -- the difference that wraps
  pub left-wraps : capacity < 2 ^ 32 → total < 2 ^ 32 → (capacity + (2 ^ 32 - total)) % 2 ^ 32 ≡ left_of capacity total
  left-wraps capacity-fits total-fits = by-test (leb total capacity) refl
    where
      by-test : (t : Bool) → leb total capacity ≡ t → (capacity + (2 ^ 32 - total)) % 2 ^ 32 ≡ left_of capacity total
      by-test true e = omega (arith, left_below (leb-true total capacity e), leb-true total capacity e)
      by-test false e = omega (arith, left-above (leb-false total capacity e), leb-false total capacity e)

  -- with the total it comes to a capacity in range where the total is at most the capacity, and that is in range
  pub left-fits : in_range link_capacity_range (total + left_of capacity total) ≡ both (leb total capacity) (in_range link_capacity_range capacity)
  left-fits = by-test (leb total capacity) refl
    where
      by-test : (t : Bool) → leb total capacity ≡ t → in_range link_capacity_range (total + left_of capacity total) ≡ both t (in_range link_capacity_range capacity)
      by-test true e = ap (in_range link_capacity_range) (omega (arith, left_below (leb-true total capacity e), leb-true total capacity e))
      by-test false e = sym (sum-out total (left_of capacity total) (omega (arith, left-above (leb-false total capacity e))))

-- The links passed: whether they can be used, and what each leaves.

module _ (ledger : Ledger) where
  abbrev capacity_fits : ℕ → Bool
  capacity_fits link = in_range link_capacity_range (capacity_of ledger link)

  abbrev left_at : ℕ → Rate
  left_at link = record { 0 = left_of (capacity_of ledger link) (total_of ledger link) }

  pub record Spared (fit : Bool) (rates : List Rate) (link : ℕ) : Type 0 where
    pub tested : fit ≡ both (every (total_fits ledger) link) (every capacity_fits link)
    pub written : Written (record { 0 = 0 }) left_at link_count rates link

  pub spared-first : Spared true (replicate link_count (record { 0 = 0 })) 0
  unfolding every
  spared-first = record { tested = refl; written = written-first (record { 0 = 0 }) left_at link_count (length-replicate {A = Rate} link_count (record { 0 = 0 })) }

  pub spared-next : {fit fits with : Bool} {rates : List Rate} {rate : Rate} {link : ℕ} → Spared fit rates link → link < link_count
      → rate ≡ left_at link → fits ≡ in_range link_capacity_range (total_of ledger link + rate.0) → with ≡ both fit fits
      → Spared with (set rates link rate) (link + 1)
  unfolding total_fits
  spared-next {rate = rate} {link = link} spared less is-left fits-here joined =
      record {
        tested =
            joined
            ∙ ap₂ both spared.tested (fits-here ∙ ap (λ (r : Rate). in_range link_capacity_range (total_of ledger link + r.0)) is-left ∙ left-fits (capacity_of ledger link) (total_of ledger link))
            ∙ both-both (every (total_fits ledger) link) (every capacity_fits link) (total_fits ledger link) (capacity_fits link)
            ∙ sym (ap₂ both (every-next (total_fits ledger) link) (every-next capacity_fits link));
        written = written_next (record { 0 = 0 }) left_at link_count spared.written less is-left;
      }

  pub spared-all : {fit : Bool} {rates : List Rate} {link : ℕ} → Spared fit rates link → link_count ≤ link → pick fit (Some rates) None ≡ spares_of ledger
  unfolding spares_of links_unusable capacities_fit
  spared-all {fit} {rates} {link} spared all =
      let last : link ≡ link_count = omega (arith, spared.written.few) in
      let found = rw last at spared.tested in
      let fit_is = found ∙ both-not-either (every capacity_fits link_count) (every (total_fits ledger) link_count) in
      ap₂ (λ (fit : Bool) (rates : List Rate). pick fit (Some rates) None) fit_is (written_all (record { 0 = 0 }) left_at link_count spared.written all)
      ∙ pick-not (either (not (every capacity_fits link_count)) (not (every (total_fits ledger) link_count))) (Some (list_of left_at link_count)) None

-- What asking answers.

module _ (ledger : Ledger) where
  -- what each link leaves, told where the links can be used
  module _ {answer : Option (List Rate)} (is : answer ≡ spares_of ledger) where
    pub spares-none : answer ≡ None → links_unusable ledger ≡ true
    unfolding spares_of
    spares-none none = not-false _ ((option-told (is ∙ sym (pick-not (links_unusable ledger) (Some (list_of (left_at ledger) link_count)) None))).outside none)

    pub spares-some : {rates : List Rate} → answer ≡ Some rates → (links_unusable ledger ≡ false) × (rates ≡ list_of (left_at ledger) link_count)
    unfolding spares_of
    spares-some some =
        let (usable, same) = (option-told (is ∙ sym (pick-not (links_unusable ledger) (Some (list_of (left_at ledger) link_count)) None))).within some in
        (not-true _ usable, same)

  module _ (link : ℕ) where
    pub spare-unusable : links_unusable ledger ≡ true → Err Unusable ≡ spare_of ledger link
    unfolding spare_of
    spare-unusable unusable = sym (pick_true _ _ _ unusable)

    module _ (usable : links_unusable ledger ≡ false) where
      pub spare-outside : in_range link_range link ≡ false → Err (OutOfRange 0) ≡ spare_of ledger link
      unfolding spare_of
      spare-outside outside = sym (pick-false _ _ _ usable ∙ pick_true _ _ _ (ap not outside))

      total-below : link < link_count → total_of ledger link ≤ capacity_of ledger link
      unfolding links_unusable total_fits
      total-below less =
          let (_, within) = either-false (not (capacities_fit (capacity_of ledger))) (not (every (total_fits ledger) link_count)) usable in
          leb-true (total_of ledger link) (capacity_of ledger link) (every-at (total_fits ledger) link_count (not-false _ within) link less)

      pub spare-found : in_range link_range link ≡ true → {rates : List Rate} → rates ≡ list_of (left_at ledger) link_count → Ok (rate_at rates link) ≡ spare_of ledger link
      unfolding spare_of
      spare-found inside found =
          let less : link < link_count = omega (arith, le-largest link_range link inside) in
          let left_is = left_below (capacity_of ledger link) (total_of ledger link) (total-below less) in
          let rate-is = ap (λ (rates : List Rate). rate_at rates link) found ∙ get_d-list_of (record { 0 = 0 }) (left_at ledger) link_count link less ∙ ap {B = Rate} (λ (n : ℕ). record { 0 = n }) left_is in
          ap {B = Result Rate Refusal} (λ (rate : Rate). Ok rate) rate-is ∙ sym (pick-false _ _ _ usable ∙ pick-false _ _ _ (ap not inside))
