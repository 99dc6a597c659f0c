-- Document 02, item 2: a house profile is nine numbers, and stands for a path of one to five hops.
use Rattle.std.specs.Prelude.{ℕ, ◌+◌, ◌*◌, ◌/◌, ◌%◌, Bool, List, ◌∷◌, ◌++◌, get_or, leb, eqb}
use Rattle.quantity.specs.Choice.{pick, both}
use Rattle.quantity.specs.Rounding.{round_up}
use Rattle.quantity.specs.Sums.{list_of}
use Rattle.quantity.specs.Ranges.{in_range, hops_range, wanted_delay_range, interval_range, quota_range, rate_range, packet_range, delay_range}
use Rattle.operator.specs.Operators.{limiter, compactor, expander, filter, delayer}
use Rattle.flow.specs.Declarations.{of_one_row}
use Rattle.flow.specs.declared.Kind.{Kind}
use Rattle.operator.specs.declared.Operator.{Operator}
use Rattle.sheet.specs.declared.LinkedOperator.{LinkedOperator}
use Rattle.sheet.specs.declared.House.{House}
use Rattle.sheet.specs.Numbers.{value_of_bytes, bytes_of}
use Rattle.sheet.specs.Bodies.{part}
use Rattle.sheet.specs.Paths.{Path}

-- 04, 22 bytes: profile in 1, hops in 1, delay wanted in 4, m in 2, Q in 4, R in 4, own longest packet L in 2, longest packet of all X in 2, link rate C in 2
unfoldable pub house_in : List ℕ → House
house_in body =
    record {
      profile = get_or body 0 0;
      hops = record { 0 = get_or body 1 0 };
      wanted = record { 0 = value_of_bytes (part 2 4 body) };
      interval = record { 0 = value_of_bytes (part 6 2 body) };
      quota = record { 0 = value_of_bytes (part 8 4 body) };
      rate = record { 0 = value_of_bytes (part 12 4 body) };
      own_packet = record { 0 = value_of_bytes (part 16 2 body) };
      longest_packet = record { 0 = value_of_bytes (part 18 2 body) };
      link_rate = record { 0 = value_of_bytes (part 20 2 body) };
    }

unfoldable pub house_body : House → List ℕ
house_body h =
    h.profile
    ∷ h.hops.0
    ∷ bytes_of 4 h.wanted.0
    ++ bytes_of 2 h.interval.0
    ++ bytes_of 4 h.quota.0
    ++ bytes_of 4 h.rate.0
    ++ bytes_of 2 h.own_packet.0
    ++ bytes_of 2 h.longest_packet.0
    ++ bytes_of 2 h.link_rate.0

-- the slots of profile 2's delayers: ⌈(L-as-C + X-as-R)/(R-as-C)⌉
unfoldable pub delayer_slots : House → ℕ
delayer_slots h = round_up (h.own_packet.0 * h.link_rate.0 + h.longest_packet.0 * h.rate.0) (h.rate.0 * h.link_rate.0)

-- by the profile, 0, 1 or 2
abbrev pub by_profile : {A : Type 0} → House → A → A → A → A
by_profile h first second third = pick (eqb h.profile 0) first (pick (eqb h.profile 1) second third)

-- L, X and C are not used
unfoldable pub packets_unused : House → Bool
packets_unused h = both (eqb h.own_packet.0 0) (both (eqb h.longest_packet.0 0) (eqb h.link_rate.0 0))

-- L, X and C are at least 1, and the delayer has at most 64 slots
unfoldable pub packets_in_range : House → Bool
packets_in_range h = both (in_range packet_range h.own_packet.0) (both (in_range packet_range h.longest_packet.0) (both (in_range rate_range h.link_rate.0) (in_range delay_range (delayer_slots h))))

-- the numbers that a profile uses are in their ranges, the others are 0
unfoldable pub profile_in_range : House → Bool
unfolding packets_unused packets_in_range
profile_in_range h =
    by_profile h
    (both (eqb h.rate.0 0) (packets_unused h))
    (both (in_range rate_range h.rate.0) (packets_unused h))
    (both (in_range rate_range h.rate.0) (packets_in_range h))

unfoldable pub house_in_range : House → Bool
unfolding profile_in_range
house_in_range h =
    both (leb h.profile 2)
    (both (in_range hops_range h.hops.0)
    (both (in_range wanted_delay_range h.wanted.0)
    (both (in_range interval_range h.interval.0)
    (both (in_range quota_range h.quota.0) (profile_in_range h)))))

unfoldable pub house_fits : List ℕ → Bool
house_fits body = house_in_range (house_in body)

-- the operators of a hop: how many, and the one at an index
unfoldable pub hop_length : House → ℕ
hop_length h = by_profile h 2 3 2

-- profile 0: compactor m, expander m; 1: limiter R, compactor m, expander m; 2: filter R, delayer
unfoldable pub hop_operator : House → ℕ → Operator
hop_operator h i =
    by_profile h
    (pick (eqb i 0) (compactor h.interval.0) (expander h.interval.0))
    (pick (eqb i 0) (limiter h.rate.0) (pick (eqb i 1) (compactor h.interval.0) (expander h.interval.0)))
    (pick (eqb i 0) (filter h.rate.0) (delayer (delayer_slots h)))

-- operator k: hop j, counted from 0, is on link j
unfoldable pub house_operator : House → ℕ → LinkedOperator
unfolding hop_length hop_operator
house_operator h k = record { operator = hop_operator h (k % hop_length h); link = record { 0 = k / hop_length h } }

-- the path that the numbers stand for: smooth (m, Q), and the operators hop by hop
unfoldable pub house_path : House → Path
unfolding house_operator
house_path h =
    record {
      declaration = of_one_row Kind.Smooth h.interval.0 h.quota.0;
      wanted = h.wanted.0;
      operators = list_of (house_operator h) (h.hops.0 * hop_length h);
    }
