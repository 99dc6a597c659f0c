-- A house profile in range: the ranges of its numbers by its profile, its body read and written, and the path that it stands for, of 2 to 15 operators that are in range.
use Prim.Native.Nat.{ℕ, zero, suc, ◌+◌, ◌*◌, ◌/◌, ◌%◌, ◌≤◌, ◌<◌}
use mathlib.Core.Path.{◌≡◌, refl, sym, ap, ap₂, ◌∙◌}
use mathlib.Core.Bool.{Bool, true, false}
use mathlib.Core.List.{List, [], ◌∷◌, ◌++◌}
use mathlib.Core.Logic.{◌⊎◌, inl, inr, ⊎_elim}
use native.Mathlib.Nat.{mul-le-mul_right, div-lt_iff_lt-mul}
use native.Mathlib.Omega.{arith}
use lib.ListN.{length, get_or}
use lib.Seq.{drop-cons}
use lib.Dec.{leb, eqb}
use borrow.Author.Tests.{leb-true, le-leb, eqb-true, eq-eqb, ne_eqb}
use Rattle.quantity.specs.Choice.{pick, both}
use Rattle.quantity.specs.Ranges.{Range, in_range, hops_range, wanted_delay_range, interval_range, quota_range, rate_range, packet_range, delay_range, link_range}
use Rattle.quantity.specs.Sums.{list_of}
use Rattle.quantity.proofs.Laws.{least-le, le-largest}
use Rattle.quantity.proofs.Sums.{both_true, length-list_of}
use Rattle.operator.specs.Operators.{limiter, compactor, expander, filter, delayer, number_in_range}
use Rattle.flow.specs.Declarations.{row_in_range, rows_in_order, cleared}
use Rattle.flow.specs.declared.Kind.{Kind}
use Rattle.flow.proofs.Declarations.{one-range, one-order}
use Rattle.operator.specs.declared.Operator.{Operator}
use Rattle.sheet.specs.declared.LinkedOperator.{LinkedOperator}
use Rattle.sheet.specs.declared.House.{House}
use Rattle.sheet.specs.declared.Form.{Form}
use Rattle.sheet.specs.Numbers.{value_of_bytes, bytes_of}
use Rattle.sheet.specs.Bodies.{part, operator_in_range}
use Rattle.sheet.specs.House.{house_in, house_body, delayer_slots, packets_unused, packets_in_range, profile_in_range, house_in_range, house_fits, hop_length, hop_operator, house_operator, house_path}
use Rattle.sheet.specs.Forms.{in_full, stands_for, house_value}
use Rattle.sheet.specs.Sheets.{operators_in_range, path_in_range}
use Rattle.sheet.proofs.Numbers.{AreBytes, part_join, drop-last, value_of_bytes-bytes_of, bytes_of-part}
use Rattle.sheet.proofs.Cleared.{cleared-one}
use Rattle.sheet.proofs.Forms.{value-full, stands-in-house}

-- a number from a range's least to its largest
abbrev pub Between : Range → ℕ → Type 0
Between range value = (range.least ≤ value) × (value ≤ range.largest)

between : (range : Range) (value : ℕ) → in_range range value ≡ true → Between range value
between range value inside = (least-le range value inside, le-largest range value inside)

-- L, X and C where they are used, and the delayer that they make
pub record PacketsWithin (h : House) : Type 0 where
  pub own : Between packet_range h.own_packet.0
  pub longest : Between packet_range h.longest_packet.0
  pub carrying : Between rate_range h.link_rate.0
  pub slots : Between delay_range (delayer_slots h)

-- and where they are not
pub record PacketsUnused (h : House) : Type 0 where
  pub own : h.own_packet.0 ≡ 0
  pub longest : h.longest_packet.0 ≡ 0
  pub carrying : h.link_rate.0 ≡ 0

-- the ranges of the nine numbers: profiles 1 and 2 use R, profile 2 uses L, X and C
pub record HouseWithin (h : House) : Type 0 where
  pub profile : h.profile ≤ 2
  pub hops : Between hops_range h.hops.0
  pub wanted : Between wanted_delay_range h.wanted.0
  pub interval : Between interval_range h.interval.0
  pub quota : Between quota_range h.quota.0
  pub rate : (h.profile ≡ 0 → ⊥) → Between rate_range h.rate.0
  pub rate_unused : h.profile ≡ 0 → h.rate.0 ≡ 0
  pub packets : h.profile ≡ 2 → PacketsWithin h
  pub packets_unused : (h.profile ≡ 2 → ⊥) → PacketsUnused h

packets-within : (h : House) → packets_in_range h ≡ true → PacketsWithin h
unfolding packets_in_range
packets-within h inside =
    let own = in_range packet_range h.own_packet.0 in
    let longest = in_range packet_range h.longest_packet.0 in
    let carrying = in_range rate_range h.link_rate.0 in
    let slots = in_range delay_range (delayer_slots h) in
    let (own_in, others) = both_true own (both longest (both carrying slots)) inside in
    let (longest-in, carried) = both_true longest (both carrying slots) others in
    let (carrying-in, slots-in) = both_true carrying slots carried in
    record {
      own = between packet_range h.own_packet.0 own_in;
      longest = between packet_range h.longest_packet.0 longest-in;
      carrying = between rate_range h.link_rate.0 carrying-in;
      slots = between delay_range (delayer_slots h) slots-in;
    }

pub packets-unused : (h : House) → packets_unused h ≡ true → PacketsUnused h
unfolding packets_unused
packets-unused h unused =
    let own = eqb h.own_packet.0 0 in
    let longest = eqb h.longest_packet.0 0 in
    let carrying = eqb h.link_rate.0 0 in
    let (own-none, others) = both_true own (both longest carrying) unused in
    let (longest-none, carrying-none) = both_true longest carrying others in
    record { own = eqb-true _ _ own-none; longest = eqb-true _ _ longest-none; carrying = eqb-true _ _ carrying-none }

-- what the profile's test says of each
module _ (h : House) (inside : profile_in_range h ≡ true) where
  framed : h.profile ≡ 0 → (h.rate.0 ≡ 0) × PacketsUnused h
  unfolding profile_in_range
  framed first =
      let (rate, packets) = both_true (eqb h.rate.0 0) (packets_unused h) (rw (eq-eqb h.profile 0 first) at inside) in
      (eqb-true _ _ rate, packets-unused h packets)

  limited : h.profile ≡ 1 → Between rate_range h.rate.0 × PacketsUnused h
  unfolding profile_in_range
  limited second =
      let (rate, packets) = both_true (in_range rate_range h.rate.0) (packets_unused h) (rw (ne_eqb h.profile 0 (λ e. omega arith), eq-eqb h.profile 1 second) at inside) in
      (between rate_range h.rate.0 rate, packets-unused h packets)

  filtered : h.profile ≡ 2 → Between rate_range h.rate.0 × PacketsWithin h
  unfolding profile_in_range
  filtered third =
      let (rate, packets) = both_true (in_range rate_range h.rate.0) (packets_in_range h) (rw (ne_eqb h.profile 0 (λ e. omega arith), ne_eqb h.profile 1 (λ e. omega arith)) at inside) in
      (between rate_range h.rate.0 rate, packets-within h packets)

pub which-profile : (h : House) → h.profile ≤ 2 → (h.profile ≡ 0) ⊎ (h.profile ≡ 1) ⊎ (h.profile ≡ 2)
which-profile h = by_number h.profile refl
  where
    by_number : (profile : ℕ) → h.profile ≡ profile → h.profile ≤ 2 → (h.profile ≡ 0) ⊎ (h.profile ≡ 1) ⊎ (h.profile ≡ 2)
    by_number zero e known = inl e
    by_number (suc zero) e known = inr (inl e)
    by_number (suc (suc profile)) e known = inr (inr (omega arith))

pub house-within : (h : House) → house_in_range h ≡ true → HouseWithin h
unfolding house_in_range
house-within h inside =
    let profile = leb h.profile 2 in
    let hops = in_range hops_range h.hops.0 in
    let wanted = in_range wanted_delay_range h.wanted.0 in
    let interval = in_range interval_range h.interval.0 in
    let quota = in_range quota_range h.quota.0 in
    let (profile-in, from-hops) = both_true profile (both hops (both wanted (both interval (both quota (profile_in_range h))))) inside in
    let (hops-in, from-wanted) = both_true hops (both wanted (both interval (both quota (profile_in_range h)))) from-hops in
    let (wanted-in, from-interval) = both_true wanted (both interval (both quota (profile_in_range h))) from-wanted in
    let (interval-in, from-quota) = both_true interval (both quota (profile_in_range h)) from-interval in
    let (quota-in, by-profile) = both_true quota (profile_in_range h) from-quota in
    let known : h.profile ≤ 2 = leb-true h.profile 2 profile-in in
    record {
      profile = known;
      hops = between hops_range h.hops.0 hops-in;
      wanted = between wanted_delay_range h.wanted.0 wanted-in;
      interval = between interval_range h.interval.0 interval-in;
      quota = between quota_range h.quota.0 quota-in;
      rate = λ used. ⊎_elim (λ first. absurd (used first)) (⊎_elim (λ second. (limited h by-profile second).0) (λ third. (filtered h by-profile third).0)) (which-profile h known);
      rate_unused = λ first. (framed h by-profile first).0;
      packets = λ third. (filtered h by-profile third).1;
      packets_unused = λ other. ⊎_elim (λ first. (framed h by-profile first).1) (⊎_elim (λ second. (limited h by-profile second).1) (λ third. absurd (other third))) (which-profile h known);
    }

-- 04

pub length-house_body : (h : House) → length (house_body h) ≡ 22
unfolding house_body bytes_of
length-house_body h = refl

-- whatever the profile, R fits 4 bytes, and L, X and C fit 2
record Fits (h : House) : Type 0 where
  rate : h.rate.0 ≤ 65535
  own : h.own_packet.0 ≤ 65535
  longest : h.longest_packet.0 ≤ 65535
  carrying : h.link_rate.0 ≤ 65535

house-numbers : (h : House) → HouseWithin h → Fits h
house-numbers h within = ⊎_elim unrated (⊎_elim unpacked packed) (which-profile h within.profile)
  where
    unrated : h.profile ≡ 0 → Fits h
    unrated first =
        let rate = within.rate_unused first in
        let packets = within.packets_unused (λ third. omega arith) in
        record { rate = omega arith; own = omega arith; longest = omega arith; carrying = omega arith }

    unpacked : h.profile ≡ 1 → Fits h
    unpacked second =
        let rate = within.rate (λ first. omega arith) in
        let packets = within.packets_unused (λ third. omega arith) in
        record { rate = rate.1; own = omega arith; longest = omega arith; carrying = omega arith }

    packed : h.profile ≡ 2 → Fits h
    packed third =
        let packets = within.packets third in
        record { rate = (within.rate (λ first. omega arith)).1; own = packets.own.1; longest = packets.longest.1; carrying = packets.carrying.1 }

module _ (h : House) (inside : house_in_range h ≡ true) where
  pub house-read : house_in (house_body h) ≡ h
  unfolding house_in house_body part bytes_of
  house-read =
      let within = house-within h inside in
      let fits = house-numbers h within in
      let wanted = value_of_bytes-bytes_of 4 h.wanted.0 (let small = within.wanted.1 in omega arith) in
      let interval = value_of_bytes-bytes_of 2 h.interval.0 (let small = within.interval.1 in omega arith) in
      let quota = value_of_bytes-bytes_of 4 h.quota.0 (let small = within.quota.1 in omega arith) in
      let rate = value_of_bytes-bytes_of 4 h.rate.0 (let small = fits.rate in omega arith) in
      let own = value_of_bytes-bytes_of 2 h.own_packet.0 (let small = fits.own in omega arith) in
      let longest = value_of_bytes-bytes_of 2 h.longest_packet.0 (let small = fits.longest in omega arith) in
      let carrying = value_of_bytes-bytes_of 2 h.link_rate.0 (let small = fits.carrying in omega arith) in
      λ i. record {
        profile = h.profile;
        hops = h.hops;
        wanted = record { 0 = wanted i };
        interval = record { 0 = interval i };
        quota = record { 0 = quota i };
        rate = record { 0 = rate i };
        own_packet = record { 0 = own i };
        longest_packet = record { 0 = longest i };
        link_rate = record { 0 = carrying i };
      }

  pub house-fits : house_fits (house_body h) ≡ true
  unfolding house_fits
  house-fits = rw house-read inside

pub house-written : (body : List ℕ) → AreBytes body → length body ≡ 22 → house_body (house_in body) ≡ body
unfolding house_in house_body
house-written body each size =
    let number : (at width : ℕ) → at + width ≤ length body → bytes_of width (value_of_bytes (part at width body)) ≡ part at width body = λ at width fits. bytes_of-part at width body each fits in
    rw (number 2 4 (omega arith), number 6 2 (omega arith), number 8 4 (omega arith), number 12 4 (omega arith), number 16 2 (omega arith), number 18 2 (omega arith), number 20 2 (omega arith))
    (rw (part_join 2 4 2 body, part_join 2 6 4 body, part_join 2 10 4 body, part_join 2 14 2 body, part_join 2 16 2 body, part_join 2 18 2 body, ← drop-last 2 20 body size)
    (sym (drop-cons body 0 0 (omega arith) ∙ ap (λ (rest : List ℕ). get_or body 0 0 ∷ rest) (drop-cons body 1 0 (omega arith)))))

-- the path that it stands for

pub hop-length : (h : House) → (2 ≤ hop_length h) × (hop_length h ≤ 3)
unfolding hop_length
hop-length h = by_tests (eqb h.profile 0) (eqb h.profile 1)
  where
    by_tests : (first second : Bool) → (2 ≤ pick first 2 (pick second 3 2)) × (pick first 2 (pick second 3 2) ≤ 3)
    by_tests true second = (omega arith, omega arith)
    by_tests false true = (omega arith, omega arith)
    by_tests false false = (omega arith, omega arith)

pub length-house_operators : (h : House) → length (house_path h).operators ≡ h.hops.0 * hop_length h
unfolding house_path
length-house_operators h = length-list_of (house_operator h) (h.hops.0 * hop_length h)

in-range : (range : Range) (value : ℕ) → Between range value → in_range range value ≡ true
unfolding in_range
in-range range value (least, largest) = ap₂ both (le-leb range.least value least) (le-leb value range.largest largest)

either-inside : (t : Bool) (a b : Operator) → number_in_range a ≡ true → number_in_range b ≡ true → number_in_range (pick t a b) ≡ true
either-inside true a b p q = p
either-inside false a b p q = q

module _ (h : House) (within : HouseWithin h) where
  m-inside : in_range interval_range h.interval.0 ≡ true
  m-inside = in-range interval_range h.interval.0 within.interval

  R-inside : (h.profile ≡ 0 → ⊥) → in_range rate_range h.rate.0 ≡ true
  R-inside used = in-range rate_range h.rate.0 (within.rate used)

  -- each profile's operators have their numbers in range
  framed-inside : (i : ℕ) → h.profile ≡ 0 → number_in_range (hop_operator h i) ≡ true
  unfolding hop_operator number_in_range
  framed-inside i first = rw (eq-eqb h.profile 0 first) (either-inside (eqb i 0) (compactor h.interval.0) (expander h.interval.0) m-inside m-inside)

  limited-inside : (i : ℕ) → h.profile ≡ 1 → number_in_range (hop_operator h i) ≡ true
  unfolding hop_operator number_in_range
  limited-inside i second =
      let framed = either-inside (eqb i 1) (compactor h.interval.0) (expander h.interval.0) m-inside m-inside in
      rw (ne_eqb h.profile 0 (λ e. omega arith), eq-eqb h.profile 1 second)
      (either-inside (eqb i 0) (limiter h.rate.0) (pick (eqb i 1) (compactor h.interval.0) (expander h.interval.0)) (R-inside (λ e. omega arith)) framed)

  filtered-inside : (i : ℕ) → h.profile ≡ 2 → number_in_range (hop_operator h i) ≡ true
  unfolding hop_operator number_in_range
  filtered-inside i third =
      rw (ne_eqb h.profile 0 (λ e. omega arith), ne_eqb h.profile 1 (λ e. omega arith))
      (either-inside (eqb i 0) (filter h.rate.0) (delayer (delayer_slots h)) (R-inside (λ e. omega arith)) (in-range delay_range (delayer_slots h) (within.packets third).slots))

  linked-inside : (k : ℕ) → k < h.hops.0 * hop_length h → operator_in_range (house_operator h k) ≡ true
  unfolding operator_in_range house_operator
  linked-inside k before =
      let hop : k / hop_length h < h.hops.0 = (div-lt_iff_lt-mul {k = hop_length h} {x = k} {y = h.hops.0} (let long = hop-length h in omega arith)).1 before in
      let hops = within.hops in
      let i = k % hop_length h in
      ap₂ both (⊎_elim (framed-inside i) (⊎_elim (limited-inside i) (filtered-inside i)) (which-profile h within.profile)) (in-range link_range (k / hop_length h) (omega arith, omega arith))

one_more : (operators : List LinkedOperator) (linked : LinkedOperator) → operators_in_range operators ≡ true → operator_in_range linked ≡ true → operators_in_range (operators ++ (linked ∷ [])) ≡ true
unfolding operators_in_range
one_more [] linked before here = rw here
one_more (first ∷ operators) linked before here = let (first-in, others) = both_true (operator_in_range first) (operators_in_range operators) before in ap₂ both first-in (one_more operators linked others here)

listed-inside : (f : ℕ → LinkedOperator) (n : ℕ) → ((k : ℕ) → k < n → operator_in_range (f k) ≡ true) → operators_in_range (list_of f n) ≡ true
unfolding operators_in_range list_of
listed-inside f zero each = refl
listed-inside f (suc n) each = one_more (list_of f n) (f n) (listed-inside f n (λ k before. each k (omega arith))) (each n (omega arith))

-- its declaration is smooth, with 0 in all that such a one does not use
module _ (h : House) where
  pub house-clear : cleared (house_path h).declaration ≡ (house_path h).declaration
  unfolding house_path
  house-clear = cleared-one Kind.Smooth h.interval.0 h.quota.0 refl

  pub house-order : rows_in_order (house_path h).declaration ≡ true
  unfolding house_path
  house-order = one-order (house_path h).declaration refl

module _ (h : House) (inside : house_in_range h ≡ true) where
  pub house-some : 1 ≤ length (house_path h).operators
  house-some =
      let hops = (house-within h inside).hops in
      let long = hop-length h in
      rw (length-house_operators h) (omega (arith, mul-le-mul_right {m = 1} {n = h.hops.0} (hop_length h) (omega arith)))

  pub house-few : length (house_path h).operators ≤ 15
  house-few =
      let hops = (house-within h inside).hops in
      let long = hop-length h in
      rw (length-house_operators h) (omega (arith, mul-le-mul_right {m = h.hops.0} {n = 5} (hop_length h) (omega arith)))

  pub house-inside : path_in_range (house_path h) ≡ true
  unfolding path_in_range house_path row_in_range
  house-inside =
      let within = house-within h inside in
      let declared = one-range (house_path h).declaration refl ∙ ap₂ both (m-inside h within) (in-range quota_range h.quota.0 within.quota) in
      let wanted = in-range wanted_delay_range h.wanted.0 within.wanted in
      ap₂ both declared (ap₂ both wanted (listed-inside (house_operator h) (h.hops.0 * hop_length h) (linked-inside h within)))

  -- its value has that path written out
  pub house-full : in_full (house_value h) ≡ house_path h
  unfolding house_value
  house-full = value-full (Form.House h) (house_path h) (house-clear h) (let few = house-few in omega arith)

pub house-stands : (h : House) → stands_for (house_value h) ≡ house_path h
unfolding house_value
house-stands h = stands-in-house (house_value h) h refl
