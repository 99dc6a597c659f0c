-- The links that a path names: as sixteen bits, joined as its places are passed, and short of capacity where one is.
use Rattle.std.proofs.Common.{◌≡◌, ℕ, zero, suc, ◌+◌, ◌*◌, ◌^◌, ◌<◌, ◌≤◌, Bool, true, false, not, ◌&&◌, ◌||◌, eqb, ltb, List, length, get_or, take, sym, refl, ap, ◌∙◌, ap₂, ⊎_elim, le_of_suc-le-suc, not-suc-le-zero, eq-or-lt_of_le, pow-suc, arith, length-take-le, get_or-take, eq-eqb, ne_eqb}
use native.Mathlib.Nat.{pow-zero}
use lib.Bits.{bit_or, or_self, or_zero_l, or_zero_r, or_block}
use lib.Pow.{pow-lt}
use Rattle.quantity.specs.Choice.{pick, both, either}
use Rattle.quantity.specs.Quantities.{rates_sum}
use Rattle.quantity.specs.Sums.{every}
use Rattle.quantity.specs.declared.Rate.{Rate}
use Rattle.quantity.specs.declared.LinkCapacity.{LinkCapacity}
use Rattle.quantity.proofs.Laws.{either_second}
use Rattle.quantity.proofs.Sums.{total-zero, total-suc, total-rest, total-same, every-next, every-same}
use Rattle.sheet.specs.Paths.{no_linked_operator}
use Rattle.sheet.specs.Forms.{in_full}
use Rattle.sheet.specs.declared.LinkedOperator.{LinkedOperator}
use Rattle.sheet.specs.declared.PathValue.{PathValue}
use Rattle.ledger.specs.Ledgers.{link_count}
use Rattle.ledger.specs.Holding.{names_link, bits_of, links_of}
use Rattle.ledger.specs.Steps.{rate_at, short_of}
use Rattle.ledger.proofs.Numbers.{and-both, or-either, not-both}

-- The bits of the links below one, which are below its own bit.

module _ (named : ℕ → Bool) where
  bits-suc : (link : ℕ) → bits_of named (suc link) ≡ bits_of named link + pick (named link) (2 ^ link) 0
  unfolding bits_of
  bits-suc link = total-suc _ link

  -- so the link's own bit stands before them
  bits-block : (link : ℕ) → bits_of named (suc link) ≡ pick (named link) 1 0 * 2 ^ link + bits_of named link
  bits-block link = bits-suc link ∙ by-test (named link) (bits_of named link) (2 ^ link)
    where
      by-test : (t : Bool) (low power : ℕ) → low + pick t power 0 ≡ pick t 1 0 * power + low
      by-test true low power = omega arith
      by-test false low power = omega arith

  pub bits_below : (links : ℕ) → bits_of named links < 2 ^ links
  unfolding bits_of
  bits_below zero = rw (total-zero (λ link. pick (named link) (2 ^ link) 0), pow-zero) (omega arith)
  bits_below (suc link) = by-test (named link) (bits_of named link) (bits-suc link) (bits_below link)
    where
      by-test : (t : Bool) (low : ℕ) → bits_of named (suc link) ≡ low + pick t (2 ^ link) 0 → low < 2 ^ link → bits_of named (suc link) < 2 ^ suc link
      by-test true low is below = omega (arith, is, below, pow-suc 2 link)
      by-test false low is below = omega (arith, is, below, pow-suc 2 link)

-- One more link's bit, joined by "or".

either-last : (t : Bool) → either t false ≡ t
either-last true = refl
either-last false = refl

module _ (named : ℕ → Bool) (link : ℕ) where
  abbrev with_link : ℕ → Bool
  with_link k = either (named k) (eqb link k)

  with-here : (k : ℕ) → link ≡ k → with_link k ≡ true
  with-here k same = either_second (named k) (eqb link k) (eq-eqb link k same)

  with-other : (k : ℕ) → (link ≡ k → ⊥) → with_link k ≡ named k
  with-other k other = ap (either (named k)) (ne_eqb link k other) ∙ either-last (named k)

  one-joined : (t : Bool) → bit_or (pick t 1 0) 1 ≡ 1
  one-joined true = or_self 1
  one-joined false = or_zero_l 1

  bits-joined : (n : ℕ) → link < n → bit_or (bits_of named n) (2 ^ link) ≡ bits_of with_link n
  unfolding bits_of
  bits-joined zero less = absurd (not-suc-le-zero less)
  bits-joined (suc n) less =
      ⊎_elim
      (λ same.
      let own : 2 ^ link ≡ 1 * 2 ^ n + 0 = omega (arith, ap (λ (k : ℕ). 2 ^ k) same) in
      let below : bits_of named n ≡ bits_of with_link n = total-same _ _ n (λ k before. ap (λ (t : Bool). pick t (2 ^ k) 0) (sym (with-other k (λ here. omega (arith, same, here, before))))) in
      ap₂ bit_or (bits-block named n) own ∙ or_block n (pick (named n) 1 0) 1 (bits_of named n) 0 (bits_below named n) (omega (arith, bits_below named n))
      ∙ ap₂ (λ (a b : ℕ). a * 2 ^ n + b) (one-joined (named n)) (or_zero_r (bits_of named n) ∙ below)
      ∙ ap (λ (t : Bool). pick t 1 0 * 2 ^ n + bits_of with_link n) (sym (with-here n same)) ∙ sym (bits-block with_link n))
      (λ before.
      let own : 2 ^ link ≡ 0 * 2 ^ n + 2 ^ link = omega arith in
      ap₂ bit_or (bits-block named n) own ∙ or_block n (pick (named n) 1 0) 0 (bits_of named n) (2 ^ link) (bits_below named n) (pow-lt {i = link} {j = n} before)
      ∙ ap₂ (λ (a b : ℕ). a * 2 ^ n + b) (or_zero_r (pick (named n) 1 0)) (bits-joined n before)
      ∙ ap (λ (t : Bool). pick t 1 0 * 2 ^ n + bits_of with_link n) (sym (with-other n (λ here. omega (arith, here, before)))) ∙ sym (bits-block with_link n))
      (eq-or-lt_of_le (le_of_suc-le-suc less))

-- The links named by the first places.

-- one of the first k places is on the link
abbrev named_before : List LinkedOperator → ℕ → ℕ → Bool
named_before operators k link = not (every (λ j. not (eqb (get_or operators j no_linked_operator).link.0 link)) k)

abbrev pub bits_before : List LinkedOperator → ℕ → ℕ
bits_before operators k = bits_of (named_before operators k) link_count

module _ (operators : List LinkedOperator) where
  pub named-first : bits_before operators 0 ≡ 0
  unfolding bits_of every
  named-first = total-rest _ 0 link_count (λ j past. refl) ∙ total-zero _

  one_more : (k link : ℕ) → named_before operators (k + 1) link ≡ either (named_before operators k link) (eqb (get_or operators k no_linked_operator).link.0 link)
  one_more k link = ap not (every-next _ k) ∙ not-both (every (λ j. not (eqb (get_or operators j no_linked_operator).link.0 link)) k) (eqb (get_or operators k no_linked_operator).link.0 link)

  pub named-next : (k : ℕ) → (get_or operators k no_linked_operator).link.0 < link_count → bit_or (bits_before operators k) (2 ^ (get_or operators k no_linked_operator).link.0) ≡ bits_before operators (k + 1)
  unfolding bits_of
  named-next k inside =
      bits-joined (named_before operators k) (get_or operators k no_linked_operator).link.0 link_count inside
      ∙ total-same _ _ link_count (λ link less. ap (λ (t : Bool). pick t (2 ^ link) 0) (sym (one_more k link)))

-- a path's links, once all its places are passed
pub named-all : (value : PathValue) → value.count ≤ length value.operators → bits_before value.operators value.count ≡ links_of (in_full value)
unfolding bits_of links_of names_link in_full
named-all value whole =
    let sized : length (take value.count value.operators) ≡ value.count = length-take-le value.count value.operators whole in
    total-same _ _ link_count
    (λ link less.
    ap (λ (t : Bool). pick (not t) (2 ^ link) 0)
    (sym
    (ap (every (λ j. not (eqb (get_or (take value.count value.operators) j no_linked_operator).link.0 link))) sized
    ∙ every-same _ _ value.count (λ j before. ap (λ (place : LinkedOperator). not (eqb place.link.0 link)) (get_or-take value.count value.operators j no_linked_operator before)))))

-- Short links.

module _ (capacities : List LinkCapacity) (reserved : List Rate) (named : ℕ → Bool) (rate : Rate) where
  -- the link is not named, or its capacity is not below its reserved total with the rate
  abbrev pub room_at : ℕ → Bool
  room_at link = not (both (named link) (ltb (get_or capacities link (record { 0 = 0 })).0 (rates_sum (rate_at reserved link) rate).0))

  -- one more link
  pub short-next : (link : ℕ) {short here : Bool} {with : Rate} → short ≡ not (every room_at link) → here ≡ named link → with ≡ rates_sum (rate_at reserved link) rate
      → (short || (here && ltb (get_or capacities link (record { 0 = 0 })).0 with.0)) ≡ not (every room_at (link + 1))
  short-next link {with = with} before here sum =
      let below : Rate → Bool = λ with. ltb (get_or capacities link (record { 0 = 0 })).0 with.0 in
      ap₂ (λ (short now : Bool). short || now) before (ap₂ (λ (here less : Bool). here && less) here (ap below sum))
      ∙ or-either (not (every room_at link)) (named link && below (rates_sum (rate_at reserved link) rate))
      ∙ ap (either (not (every room_at link))) (and-both (named link) (below (rates_sum (rate_at reserved link) rate)))
      ∙ sym (not-both (every room_at link) (both (named link) (below (rates_sum (rate_at reserved link) rate)))) ∙ ap not (sym (every-next room_at link))

  pub room-all : not (every room_at link_count) ≡ short_of capacities reserved named rate
  unfolding short_of
  room-all = refl
