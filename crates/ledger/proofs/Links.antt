-- A path's record has bit i exactly where the path names link i: the bits below 2 ^ n are a number below it, and each can be read off again.
use Rattle.std.proofs.Common.{◌≡◌, ℕ, zero, suc, ◌+◌, ◌*◌, ◌/◌, ◌%◌, ◌^◌, ◌<◌, ◌≤◌, Bool, true, false, eqb, sym, refl, ap, ◌∙◌, ⊎_elim, le_of_suc-le-suc, not-suc-le-zero, add-zero, add-mul, eq-or-lt_of_le, arith, le-leb}
use native.Mathlib.Nat.{two-pow-succ, one-le-pow, div-eq_of_lt, add-div_right, add-mul-div_right, add-mul-mod_self_right}
use Rattle.quantity.specs.Choice.{pick}
use Rattle.quantity.specs.Ranges.{in_range}
use Rattle.quantity.proofs.Sums.{total-suc}
use Rattle.sheet.specs.Paths.{Path}
use Rattle.ledger.specs.Records.{has_link, share}
use Rattle.ledger.specs.Ledgers.{link_count, links_range}
use Rattle.ledger.specs.Holding.{names_link, bits_of, links_of, rate_of, rate_on, record_of}
use Rattle.ledger.proofs.Naming.{bits_below}

-- a higher power of 2 is an even number of times a lower one
even_power : (i n : ℕ) → i < n → (times : ℕ) × (2 ^ n ≡ times * 2 * 2 ^ i)
even_power i zero less = absurd (not-suc-le-zero less)
even_power i (suc n) less =
    ⊎_elim
    (λ same. (1, omega (arith, two-pow-succ n, ap (λ (k : ℕ). 2 ^ k) same)))
    (λ lower. let (times, is) = even_power i n lower in (times + times, rw (two-pow-succ n, is) (sym (ap (λ (k : ℕ). k * 2 ^ i) (add-mul times times 2) ∙ add-mul (times * 2) (times * 2) (2 ^ i)))))
    (eq-or-lt_of_le (le_of_suc-le-suc less))

module _ (named : ℕ → Bool) where
  -- the highest bit, and any lower one
  highest : (t : Bool) (low power : ℕ) → low < power → (low + pick t power 0) / power % 2 ≡ pick t 1 0
  highest true low power less = rw (add-div_right low {k = power} (omega (arith, less)), div-eq_of_lt less)
  highest false low power less = ap (λ (k : ℕ). k % 2) (ap (λ (k : ℕ). k / power) (add-zero low) ∙ div-eq_of_lt less)

  lower : (t : Bool) (low power times unit : ℕ) → 1 ≤ unit → power ≡ times * 2 * unit → (low + pick t power 0) / unit % 2 ≡ low / unit % 2
  lower true low power times unit large is = rw is (ap (λ (k : ℕ). k % 2) (add-mul-div_right low (times * 2) {z = unit} large) ∙ add-mul-mod_self_right (low / unit) times 2)
  lower false low power times unit large is = ap (λ (k : ℕ). k / unit % 2) (add-zero low)

  pub bit_at : (n i : ℕ) → i < n → bits_of named n / 2 ^ i % 2 ≡ pick (named i) 1 0
  unfolding bits_of
  bit_at zero i less = absurd (not-suc-le-zero less)
  bit_at (suc n) i less =
      ap (λ (k : ℕ). k / 2 ^ i % 2) (total-suc (λ link. pick (named link) (2 ^ link) 0) n)
      ∙ ⊎_elim
      (λ same. rw same (highest (named n) (bits_of named n) (2 ^ n) (bits_below named n)))
      (λ before. let (times, is) = even_power i n before in lower (named n) (bits_of named n) (2 ^ n) times (2 ^ i) (one-le-pow i 2 (omega arith)) is ∙ bit_at n i before)
      (eq-or-lt_of_le (le_of_suc-le-suc less))

one-iff : (t : Bool) → eqb (pick t 1 0) 1 ≡ t
one-iff true = refl
one-iff false = refl

pub has_named : (path : Path) (link : ℕ) → link < link_count → has_link (links_of path) link ≡ names_link path link
unfolding has_link links_of
has_named path link less = ap (λ (k : ℕ). eqb k 1) (bit_at (names_link path) link_count link less) ∙ one-iff (names_link path link)

pub links-inside : (path : Path) → in_range links_range (links_of path) ≡ true
unfolding in_range links_of
links-inside path = rw (le-leb 0 (links_of path) (omega arith)) (le-leb (links_of path) 65535 (le_of_suc-le-suc (bits_below (names_link path) link_count)))

-- so its share is the path's rate where the path names the link
pub share-named : (number : ℕ) (path : Path) (mark link : ℕ) → link < link_count → share (record_of number path mark) link ≡ rate_on link path
unfolding share record_of rate_on
share-named number path mark link less = ap (λ (t : Bool). pick t (rate_of path) 0) (has_named path link less)
