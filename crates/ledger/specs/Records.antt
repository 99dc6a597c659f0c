-- Section 6, and document 02, item 8: a path's record, and what the records that stand reserve on a link.
use Rattle.std.specs.Prelude.{ℕ, zero, suc, ◌/◌, ◌%◌, ◌^◌, Bool, not, List, ◌==◌, nat_lt, slice_index_or}
use Rattle.quantity.specs.Choice.{pick, both}
use Rattle.quantity.specs.Sums.{total, every}
use Rattle.quantity.specs.Ranges.{in_range, link_range}
use Rattle.ledger.specs.declared.Record.{Record}

-- a record's last field, its mark: 0 while the path is held, 1 once it is confirmed
abbrev pub mark_held : ℕ
mark_held = 0

abbrev pub mark_confirmed : ℕ
mark_confirmed = 1

-- the clear record
abbrev pub no_record : Record
no_record = record { number = record { 0 = 0 }; rate = record { 0 = 0 }; links = 0; mark = 0 }

abbrev pub record_at : List Record → ℕ → Record
record_at records j = slice_index_or records j no_record

abbrev pub number_at : List Record → ℕ → ℕ
number_at records j = (record_at records j).number.0

abbrev pub mark_at : List Record → ℕ → ℕ
mark_at records j = (record_at records j).mark

-- bit i stands for link i
unfoldable pub has_link : ℕ → ℕ → Bool
has_link links link = links / 2 ^ link % 2 == 1

-- a record's path is on a link: one in its range, whose bit is set
unfoldable pub is_on : Record → ℕ → Bool
is_on r link = both (in_range link_range link) (has_link r.links link)

-- what a record reserves on a link
unfoldable pub share : Record → ℕ → ℕ
share r link = pick (has_link r.links link) r.rate.0 0

-- the reserved total of a link: the sum over the first so many records
unfoldable pub reserved : List Record → ℕ → ℕ → ℕ
reserved records count link = total (λ j. share (record_at records j) link) count

-- a number is among the first n
unfoldable pub among : (ℕ → ℕ) → ℕ → ℕ → Bool
among numbers n number = not (every (λ j. not (numbers j == number)) n)

-- its first place there, n where it is not among them
unfoldable pub place_among : (ℕ → ℕ) → ℕ → ℕ → ℕ
place_among numbers zero number = 0
place_among numbers (suc n) number = pick (nat_lt (place_among numbers n number) n) (place_among numbers n number) (pick (numbers n == number) n (suc n))

-- none of the first n is there twice
unfoldable pub all_differ : (ℕ → ℕ) → ℕ → Bool
all_differ numbers n = every (λ j. not (among numbers j (numbers j))) n

-- a path of this number stands, held or confirmed
unfoldable pub stands : List Record → ℕ → ℕ → Bool
stands records count number = among (number_at records) count number
