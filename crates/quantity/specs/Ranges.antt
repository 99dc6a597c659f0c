-- Section 1: each kind of number has a least and a largest value, and its checking constructor takes just what lies between them.
use Rattle.std.specs.Prelude.{ℕ, Bool, leb, Option, Some, None}
use Rattle.quantity.specs.Choice.{pick, both}
use Rattle.quantity.specs.declared.Interval.{Interval}
use Rattle.quantity.specs.declared.Quota.{Quota}
use Rattle.quantity.specs.declared.Rate.{Rate}
use Rattle.quantity.specs.declared.Delay.{Delay}
use Rattle.quantity.specs.declared.WantedDelay.{WantedDelay}
use Rattle.quantity.specs.declared.Link.{Link}
use Rattle.quantity.specs.declared.PathNumber.{PathNumber}
use Rattle.quantity.specs.declared.LinkCapacity.{LinkCapacity}
use Rattle.quantity.specs.declared.Hops.{Hops}
use Rattle.quantity.specs.declared.Packet.{Packet}

pub record Range : Type 0 where
  pub least : ℕ
  pub largest : ℕ

-- the value lies from the least to the largest
unfoldable pub in_range : Range → ℕ → Bool
in_range range value = both (leb range.least value) (leb value range.largest)

-- what a checking constructor answers: the value as one of its kind, if it is in the kind's range
unfoldable pub checked_in : {A : Type 0} → Range → (ℕ → A) → ℕ → Option A
checked_in range of value = pick (in_range range value) (Some (of value)) None

-- interval m: 1 to 1,024 slots
abbrev pub interval_range : Range
interval_range = record { least = 1; largest = 1024 }

abbrev pub checked_interval : ℕ → Option Interval
checked_interval = checked_in interval_range (λ value. record { 0 = value })

-- declared quota Q: 1 to 65,535 units
abbrev pub quota_range : Range
quota_range = record { least = 1; largest = 65535 }

abbrev pub checked_quota : ℕ → Option Quota
checked_quota = checked_in quota_range (λ value. record { 0 = value })

-- rate R: 1 to 65,535
abbrev pub rate_range : Range
rate_range = record { least = 1; largest = 65535 }

abbrev pub checked_rate : ℕ → Option Rate
checked_rate = checked_in rate_range (λ value. record { 0 = value })

-- delay d of a delayer: 1 to 64 slots
abbrev pub delay_range : Range
delay_range = record { least = 1; largest = 64 }

abbrev pub checked_delay : ℕ → Option Delay
checked_delay = checked_in delay_range (λ value. record { 0 = value })

-- delay wanted: 0 to 65,535
abbrev pub wanted_delay_range : Range
wanted_delay_range = record { least = 0; largest = 65535 }

abbrev pub checked_wanted_delay : ℕ → Option WantedDelay
checked_wanted_delay = checked_in wanted_delay_range (λ value. record { 0 = value })

-- link: 0 to 15
abbrev pub link_range : Range
link_range = record { least = 0; largest = 15 }

abbrev pub checked_link : ℕ → Option Link
checked_link = checked_in link_range (λ value. record { 0 = value })

-- path number: 0 to 65,535
abbrev pub path_number_range : Range
path_number_range = record { least = 0; largest = 65535 }

abbrev pub checked_path_number : ℕ → Option PathNumber
checked_path_number = checked_in path_number_range (λ value. record { 0 = value })

-- link capacity: 0 to 1,000,000
abbrev pub link_capacity_range : Range
link_capacity_range = record { least = 0; largest = 1_000_000 }

abbrev pub checked_link_capacity : ℕ → Option LinkCapacity
checked_link_capacity = checked_in link_capacity_range (λ value. record { 0 = value })

-- hops of a house profile: 1 to 5
abbrev pub hops_range : Range
hops_range = record { least = 1; largest = 5 }

abbrev pub checked_hops : ℕ → Option Hops
checked_hops = checked_in hops_range (λ value. record { 0 = value })

-- longest packet: 1 to 65,535 units
abbrev pub packet_range : Range
packet_range = record { least = 1; largest = 65535 }

abbrev pub checked_packet : ℕ → Option Packet
checked_packet = checked_in packet_range (λ value. record { 0 = value })
