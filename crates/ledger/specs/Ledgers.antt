-- Section 7, 1 of a ledger: what is lent and stored.
use Rattle.std.specs.Prelude.{ℕ, Bool, not, List, [], ◌∷◌, length, ◌==◌, nat_le, nat_lt, slice_index_or}
use Rattle.quantity.specs.Choice.{pick, both, any_of}
use Rattle.quantity.specs.Sums.{every}
use Rattle.quantity.specs.Ranges.{Range, in_range, rate_range, path_number_range, link_capacity_range}
use Rattle.ledger.specs.declared.Record.{Record}
use Rattle.ledger.specs.declared.Ledger.{Ledger}
use Rattle.ledger.specs.Records.{record_at, number_at, reserved, all_differ}

abbrev pub record_count : ℕ
record_count = 64

abbrev pub link_count : ℕ
link_count = 16

-- links: 16 bits
abbrev pub links_range : Range
links_range = record { least = 0; largest = 65535 }

-- a mark: 0 or 1 (document 02, item 8)
abbrev pub mark_range : Range
mark_range = record { least = 0; largest = 1 }

abbrev pub capacity_of : Ledger → ℕ → ℕ
capacity_of ledger link = (slice_index_or ledger.capacities link (record { 0 = 0 })).0

-- the stored total of a link, which is to be the sum over the records that stand (`reserved`)
abbrev pub total_of : Ledger → ℕ → ℕ
total_of ledger link = (slice_index_or ledger.totals link (record { 0 = 0 })).0

-- link capacities are in their range
unfoldable pub capacities_fit : (ℕ → ℕ) → Bool
capacities_fit capacities = every (λ link. in_range link_capacity_range (capacities link)) link_count

-- a standing record has its values in their ranges
unfoldable pub record_in_range : Record → Bool
record_in_range r = both (in_range path_number_range r.number.0) (both (in_range rate_range r.rate.0) (both (in_range links_range r.links) (in_range mark_range r.mark)))

-- any other is 0
unfoldable pub record_clear : Record → Bool
record_clear r = both (r.number.0 == 0) (both (r.rate.0 == 0) (both (r.links == 0) (r.mark == 0)))

unfoldable pub record_fits : ℕ → List Record → ℕ → Bool
record_fits count records j = pick (nat_lt j count) (record_in_range (record_at records j)) (record_clear (record_at records j))

-- a link's reserved total is at most its capacity
unfoldable pub link_fits : Ledger → List Record → ℕ → Bool
link_fits ledger records link = nat_le (reserved records ledger.count link) (capacity_of ledger link)

-- a link's stored total is the sum
unfoldable pub total_kept : Ledger → List Record → ℕ → Bool
total_kept ledger records link = total_of ledger link == reserved records ledger.count link

-- 1: there are not 64 records; the count, a capacity or a record's value is out of its range; a record that should be 0 is not;
-- a number stands twice; a link's reserved total is above its capacity; a stored total is not the sum
unfoldable pub ledger_unusable : Ledger → List Record → Bool
ledger_unusable ledger records =
    any_of
    (not (length records == record_count)
    ∷ nat_lt record_count ledger.count
    ∷ not (capacities_fit (capacity_of ledger))
    ∷ not (every (record_fits ledger.count records) record_count)
    ∷ not (all_differ (number_at records) ledger.count)
    ∷ not (every (link_fits ledger records) link_count)
    ∷ not (every (total_kept ledger records) link_count)
    ∷ [])
