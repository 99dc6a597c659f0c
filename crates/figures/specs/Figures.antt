-- Section 4, with document 02, item 9: an operator's held figure, capacity and own delay, from the class before it; and what refuses them (section 7, 6 to 8).
use Rattle.std.specs.Prelude.{ℕ, suc, ◌+◌, ◌-◌, ◌*◌, Bool, true, false, not, ltb, eqb}
use Rattle.quantity.specs.Choice.{pick, either}
use Rattle.quantity.specs.Rounding.{round_up}
use Rattle.quantity.specs.Limits.{largest_amount}
use Rattle.flow.specs.Classes.{Class, most_in, most_delayed, changed_quota, carries, burst_at}
use Rattle.operator.specs.FilterPart.{Slowest, unfiltered, filtered}
use Rattle.operator.specs.declared.Operator.{Operator}
use Rattle.operator.specs.declared.Operator.TheVariants.{Limiter, Compactor, Expander, Filter, Delayer}
use Rattle.figures.specs.Progress.{Progress, behind}

-- in the filter part what is held is at most burst + e·P, the burst taken at P; with no filter so far, what delayers of e slots hold
unfoldable pub part_held : Class → ℕ → Slowest → ℕ
part_held c e unfiltered = most_delayed c e
part_held c e (filtered P) = burst_at c P + e * P

-- the delay of the part is ⌈burst/P⌉ (0 without a filter) + e
unfoldable pub part_delay : Class → ℕ → Slowest → ℕ
part_delay c e unfiltered = e
part_delay c e (filtered P) = round_up (burst_at c P) P + e

-- of the part up to and with the operators that a progress counts
abbrev pub held_of_part : Progress → ℕ
held_of_part p = part_held p.class p.e p.slowest

abbrev pub delay_of_part : Progress → ℕ
delay_of_part p = part_delay p.class p.e p.slowest

-- section 4's figure: what an operator holds at a slot's end, and a filter's h, are at most this
unfoldable pub held_figure : Progress → Operator → ℕ
held_figure p (Limiter R) = burst_at p.class R.0
held_figure p (Compactor n) = changed_quota n.0 p.class
held_figure p (Expander n) = changed_quota n.0 p.class
held_figure p (Filter R) = held_of_part (behind p (Filter R))
held_figure p (Delayer d) = held_of_part (behind p (Delayer d))

-- the most that arrives at an operator in one slot: the most of the class in 1 + D slots, D the filter part's delay before it, which is 0 before a filter part
unfoldable pub most_arriving : Progress → ℕ
most_arriving p = most_in p.class (suc (delay_of_part p))

-- an operator's capacity, for the fullest moment: before it sends it has what it held and what arrives. An expander's held figure covers both
unfoldable pub capacity : Progress → Operator → ℕ
capacity p (Limiter R) = held_figure p (Limiter R) + most_arriving p
capacity p (Compactor n) = held_figure p (Compactor n) + most_arriving p
capacity p (Expander n) = held_figure p (Expander n)
capacity p (Filter R) = held_figure p (Filter R) + most_arriving p
capacity p (Delayer d) = held_figure p (Delayer d) + most_arriving p

-- an operator's own delay; `paired` is whether the next operator is a compactor of its interval
unfoldable pub own_delay : Progress → Operator → Bool → ℕ
own_delay p (Limiter R) paired = round_up (burst_at p.class R.0) R.0
own_delay p (Compactor n) paired = n.0
own_delay p (Expander n) paired = pick paired 0 n.0
own_delay p (Filter R) paired = delay_of_part (behind p (Filter R)) - delay_of_part p
own_delay p (Delayer d) paired = delay_of_part (behind p (Delayer d)) - delay_of_part p

interval_is : Operator → ℕ → Bool
interval_is (Limiter R) n = false
interval_is (Compactor m) n = eqb m.0 n
interval_is (Expander m) n = false
interval_is (Filter R) n = false
interval_is (Delayer d) n = false

-- an expander n whose next operator is a compactor n (000, Theorem 7)
unfoldable pub pairs : Operator → Operator → Bool
unfolding interval_is
pairs (Limiter R) next = false
pairs (Compactor m) next = false
pairs (Expander n) next = interval_is next n.0
pairs (Filter R) next = false
pairs (Delayer d) next = false

-- a limiter, compactor or expander
unfoldable pub is_framed : Operator → Bool
is_framed (Limiter R) = true
is_framed (Compactor n) = true
is_framed (Expander n) = true
is_framed (Filter R) = false
is_framed (Delayer d) = false

-- 6: a limiter, compactor or expander follows a filter or delayer
unfoldable pub framed_after_filter : Progress → Operator → Bool
framed_after_filter p op = pick p.in_filter_part (is_framed op) false

abbrev pub largest_changed_quota : ℕ
largest_changed_quota = 67_108_863

-- the quota of a change of interval, where the operator changes it
unfoldable pub quota_behind : Progress → Operator → ℕ
quota_behind p (Limiter R) = 0
quota_behind p (Compactor n) = changed_quota n.0 p.class
quota_behind p (Expander n) = changed_quota n.0 p.class
quota_behind p (Filter R) = 0
quota_behind p (Delayer d) = 0

-- 7: a changed quota is above 67,108,863, or a held figure above 1,073,741,823
unfoldable pub figure_too_large : Progress → Operator → Bool
figure_too_large p op = either (ltb largest_changed_quota (quota_behind p op)) (ltb largest_amount (held_figure p op))

-- 8: a limiter or filter has Q above m·R, in every row
unfoldable pub rate_too_low : Progress → Operator → Bool
rate_too_low p (Limiter R) = not (carries p.class R.0)
rate_too_low p (Compactor n) = false
rate_too_low p (Expander n) = false
rate_too_low p (Filter R) = not (carries p.class R.0)
rate_too_low p (Delayer d) = false
