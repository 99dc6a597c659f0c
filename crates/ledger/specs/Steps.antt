-- Serves the private contracts of the ledger, and need not be believed: no public call cites it.
-- The steps of the calls, as the code takes them: what the test finds, what is decided, and what asking finds of the links.
use Rattle.std.specs.Prelude.{◌≡◌, ℕ, ◌+◌, ◌-◌, ◌%◌, ◌^◌, ◌<◌, ◌≤◌, Bool, true, not, List, [], ◌∷◌, get_or, ◌==◌, nat_le, nat_lt, slice_index, slice_index_or, Option, Some, None, Result, Ok, Err}
use Rattle.quantity.specs.Choice.{pick, both}
use Rattle.quantity.specs.Sums.{total, every, list_of}
use Rattle.quantity.specs.Ranges.{in_range, link_capacity_range, path_number_range}
use Rattle.quantity.specs.Quantities.{rates_sum}
use Rattle.quantity.specs.Refusals.{Case, ◌⇒◌, first_of}
use Rattle.quantity.specs.declared.refusal.Refusal.{Refusal}
use Rattle.quantity.specs.declared.refusal.Refusal.TheVariants.{Unusable}
use Rattle.quantity.specs.declared.Rate.{Rate}
use Rattle.quantity.specs.declared.LinkCapacity.{LinkCapacity}
use Rattle.flow.specs.Declarations.{declaration_in_range}
use Rattle.sheet.specs.Paths.{Path, no_linked_operator}
use Rattle.sheet.specs.Sheets.{path_in}
use Rattle.sheet.specs.declared.PathValue.{PathValue}
use Rattle.ledger.specs.declared.Record.{Record}
use Rattle.ledger.specs.declared.Ledger.{Ledger}
use Rattle.ledger.specs.declared.test.Fields.{Fields}
use Rattle.ledger.specs.declared.test.Standing.{Standing}
use Rattle.ledger.specs.declared.holding.Appending.{Appending}
use Rattle.ledger.specs.Records.{mark_held, record_at, number_at, mark_at, has_link, share, among, place_among, stands}
use Rattle.ledger.specs.Ledgers.{record_count, link_count, capacity_of, total_of, capacities_fit, ledger_unusable}
use Rattle.ledger.specs.Opening.{asked_for, new_ledger}
use Rattle.ledger.specs.Holding.{record_of, holding_cases, accepted_holding}
use Rattle.ledger.specs.Release.{record_of_number}
use Rattle.ledger.specs.Spare.{links_unusable}

-- Test.

-- each field of the records, as a list of its own
abbrev pub numbers_of : List Record → List ℕ
numbers_of records = list_of (number_at records) record_count

abbrev pub rates_of : List Record → List ℕ
rates_of records = list_of (λ j. (record_at records j).rate.0) record_count

abbrev pub link_bits_of : List Record → List ℕ
link_bits_of records = list_of (λ j. (record_at records j).links) record_count

abbrev pub marks_of : List Record → List ℕ
marks_of records = list_of (mark_at records) record_count

abbrev pub fields_of : List Record → Fields
fields_of records = record { numbers = numbers_of records; rates = rates_of records; links = link_bits_of records; marks = marks_of records }

-- 16 bits of each number, as a ring of 64 whose first half comes once more
abbrev pub half : ℕ
half = 32

abbrev pub ring_size : ℕ
ring_size = 96

abbrev pub low_bits : List ℕ → ℕ → ℕ
low_bits numbers j = slice_index numbers j % 65536

unfoldable pub ring_at : List ℕ → ℕ → ℕ
ring_at numbers j = pick (nat_lt j record_count) (low_bits numbers j) (low_bits numbers (j - record_count))

abbrev pub one_if : Bool → ℕ
one_if t = pick t 1 0

-- a number that is not 0 is among the 32 behind it in a ring; and one of the first n is
unfoldable pub met_behind : List ℕ → ℕ → Bool
met_behind ring j = both (not (slice_index ring j == 0)) (among (λ k. slice_index ring (j + 1 + k)) half (slice_index ring j))

unfoldable pub repeats_in : List ℕ → ℕ → Bool
repeats_in ring n = not (every (λ j. not (met_behind ring j)) n)

unfoldable pub zeros_in : (ℕ → ℕ) → ℕ → ℕ
zeros_in numbers n = total (λ j. one_if (numbers j == 0)) n

-- numbers of 16 bits, of which those from the count on are 0
abbrev pub Narrow : (ℕ → ℕ) → ℕ → Type 0
Narrow numbers count = ((j : ℕ) → j < record_count → numbers j < 65536) × ((j : ℕ) → count ≤ j → j < record_count → numbers j ≡ 0)

-- what the first n rates come to on a link
unfoldable pub sum_on : List ℕ → List ℕ → ℕ → ℕ → ℕ
sum_on rates links n link = total (λ j. pick (has_link (slice_index links j) link) (slice_index rates j) 0) n

-- a link has its capacity in its range, the sum is at most that, and the stored total is the sum
unfoldable pub link_holds : Ledger → List ℕ → List ℕ → ℕ → Bool
link_holds ledger rates links link =
    let sum = sum_on rates links record_count link % 2 ^ 32 in
    both (in_range link_capacity_range (capacity_of ledger link)) (both (nat_le sum (capacity_of ledger link)) (total_of ledger link == sum))

abbrev pub rate_at : List Rate → ℕ → Rate
rate_at rates link = slice_index_or rates link (record { 0 = 0 })

-- a rate with another, 32 bits wide
abbrev pub wrapped : Rate → Rate → Rate
wrapped a b = record { 0 = (a.0 + b.0) % 2 ^ 32 }

-- each link's sum with a record's share
unfoldable pub charged : List Rate → Record → List Rate
charged rates r = list_of (λ link. wrapped (rate_at rates link) (record { 0 = share r link })) link_count

-- and without it
unfoldable pub discharged : List Rate → Record → List Rate
discharged rates r = list_of (λ link. record { 0 = (rate_at rates link).0 - share r link }) link_count

-- the record at a place of those that stand
abbrev pub found_at : List Record → ℕ → ℕ → Option Standing
found_at records count at = pick (nat_lt at count) (Some (record { at = at; found = record_at records at })) None

unfoldable pub tested_of : Ledger → List Record → ℕ → Result (Option Standing) Refusal
tested_of ledger records number =
    pick (ledger_unusable ledger records) (Err Unusable) (Ok (found_at records ledger.count (place_among (number_at records) ledger.count number)))

-- what finding the path of a number is refused for, and by what where the number does not stand
abbrev pub standing_tests : Refusal → Ledger → List Record → ℕ → List Case
standing_tests unknown ledger records number =
    (not (in_range path_number_range number) ⇒ Unusable) ∷ (ledger_unusable ledger records ⇒ Unusable) ∷ (not (stands records ledger.count number) ⇒ unknown) ∷ []

-- the path of a number that stands, or what it is refused for
unfoldable pub standing_of : Refusal → Ledger → List Record → ℕ → Result Standing Refusal
standing_of unknown ledger records number =
    first_of (standing_tests unknown ledger records number) Err (Ok (record { at = place_among (number_at records) ledger.count number; found = record_of_number ledger records number }))

-- Decide.

-- the ledger of the capacities asked for, if they are in their range
unfoldable pub checked_of : List ℕ → Option Ledger
checked_of capacities = pick (capacities_fit (asked_for capacities)) (Some (new_ledger capacities)) None

-- whether a named link is short
unfoldable pub short_of : List LinkCapacity → List Rate → (ℕ → Bool) → Rate → Bool
short_of capacities reserved named rate =
    not (every (λ link. not (both (named link) (nat_lt (get_or capacities link (record { 0 = 0 })).0 (rates_sum (rate_at reserved link) rate).0))) link_count)

-- what 10 to 12 are decided of: a count of records that are there, and a path value of numbers in their ranges
abbrev pub Decidable : Ledger → PathValue → Type 0
Decidable ledger value =
    (ledger.count ≤ record_count)
    × (declaration_in_range value.declaration ≡ true)
    × (value.count ≤ 16)
    × ((k : ℕ) → k < 16 → (get_or value.operators k no_linked_operator).link.0 < link_count)

-- a holding, and the record that it appends
unfoldable pub accepted_appending : Ledger → ℕ → Path → Appending
accepted_appending ledger number path = record { holding = accepted_holding ledger path; entry = record_of number path mark_held }

unfoldable pub appending_of : Ledger → List Record → ℕ → List ℕ → Result Appending Refusal
appending_of ledger records number sheet = first_of (holding_cases ledger records number sheet) Err (Ok (accepted_appending ledger number (path_in sheet)))

-- Ask.

-- what a capacity leaves beside a total; where the total is above it, the difference of 32 bits wraps
unfoldable pub left_of : ℕ → ℕ → ℕ
left_of capacity total = pick (nat_le total capacity) (capacity - total) (capacity + 4_294_967_296 - total)

-- what each link leaves, if the links can be used
unfoldable pub spares_of : Ledger → Option (List Rate)
spares_of ledger = pick (links_unusable ledger) None (Some (list_of (λ link. record { 0 = left_of (capacity_of ledger link) (total_of ledger link) }) link_count))
