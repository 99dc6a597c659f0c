-- Holding (sections 6 and 7; document 02, item 8): 1, then 2 to 9 of the sheet, then 10, 11 and 12, each by its condition. The path reserves, and its mark is 0.
use Rattle.std.specs.Prelude.{ℕ, ◌+◌, ◌^◌, Bool, not, List, [], ◌∷◌, ◌++◌, length, ◌==◌, nat_lt, slice_set, Result, Ok, Err}
use Rattle.quantity.specs.Choice.{pick, both}
use Rattle.quantity.specs.Sums.{total, every, list_of}
use Rattle.quantity.specs.Rounding.{round_up}
use Rattle.quantity.specs.Ranges.{in_range, path_number_range}
use Rattle.quantity.specs.Refusals.{Case, ◌⇒◌, first_of}
use Rattle.quantity.specs.declared.refusal.Refusal.{Refusal}
use Rattle.quantity.specs.declared.refusal.Refusal.TheVariants.{Unusable, PathNumberWrong, LedgerFull, LinkShort}
use Rattle.sheet.specs.Paths.{Path, link_at}
use Rattle.flow.specs.Declarations.{last_row}
use Rattle.sheet.specs.Sheets.{path_in}
use Rattle.figures.specs.Answers.{figures_cases, path_delay}
use Rattle.ledger.specs.declared.Record.{Record}
use Rattle.ledger.specs.declared.Ledger.{Ledger}
use Rattle.ledger.specs.declared.holding.Holding.{Holding}
use Rattle.ledger.specs.Records.{mark_held, stands}
use Rattle.ledger.specs.Ledgers.{record_count, link_count, capacity_of, total_of, ledger_unusable}

-- what a path reserves: ⌈Q/m⌉ of its declaration's last row
unfoldable pub rate_of : Path → ℕ
rate_of path = round_up (last_row path.declaration).quota (last_row path.declaration).interval

-- a path names a link if an operator of it is on the link, however many are
unfoldable pub names_link : Path → ℕ → Bool
names_link path link = not (every (λ k. not (link_at path k == link)) (length path.operators))

-- what a path reserves on a link: its rate if it names the link, once however often it does
unfoldable pub rate_on : ℕ → Path → ℕ
rate_on link path = pick (names_link path link) (rate_of path) 0

-- the first so many links as bits, bit i for link i
unfoldable pub bits_of : (ℕ → Bool) → ℕ → ℕ
bits_of named links = total (λ link. pick (named link) (2 ^ link) 0) links

-- a path's links
unfoldable pub links_of : Path → ℕ
links_of path = bits_of (names_link path) link_count

-- the record of a path under a number, with a mark
unfoldable pub record_of : ℕ → Path → ℕ → Record
record_of number path mark = record { number = record { 0 = number }; rate = record { 0 = rate_of path }; links = links_of path; mark = mark }

-- 11: sixty-four paths stand
unfoldable pub ledger_full : Ledger → Bool
ledger_full ledger = ledger.count == record_count

-- 12: the total of a link that the path names would pass its capacity
unfoldable pub link_short : Ledger → Path → Bool
link_short ledger path =
    not (every (λ link. not (both (names_link path link) (nat_lt (capacity_of ledger link) (total_of ledger link + rate_of path)))) link_count)

-- 10 to 12 of a path
abbrev pub standing_cases : Ledger → List Record → ℕ → Path → List Case
standing_cases ledger records number path =
    (stands records ledger.count number ⇒ PathNumberWrong) ∷ (ledger_full ledger ⇒ LedgerFull) ∷ (link_short ledger path ⇒ LinkShort) ∷ []

abbrev pub holding_cases : Ledger → List Record → ℕ → List ℕ → List Case
holding_cases ledger records number sheet =
    (not (in_range path_number_range number) ⇒ Unusable)
    ∷ (ledger_unusable ledger records ⇒ Unusable)
    ∷ figures_cases sheet ++ standing_cases ledger records number (path_in sheet)

-- one more path is there, and its rate is added on each link that it names
unfoldable pub accepted_holding : Ledger → Path → Holding
accepted_holding ledger path =
    record {
      ledger = record { capacities = ledger.capacities; totals = list_of (λ link. record { 0 = total_of ledger link + rate_on link path }) link_count; count = ledger.count + 1 };
      rate = record { 0 = rate_of path };
      delay = record { 0 = path_delay path };
    }

-- what holding answers
unfoldable pub holding_of : Ledger → List Record → ℕ → List ℕ → Result Holding Refusal
holding_of ledger records number sheet = first_of (holding_cases ledger records number sheet) Err (Ok (accepted_holding ledger (path_in sheet)))

-- and the records then: its own is behind the others; refused, they are as they were
unfoldable pub records_held : Ledger → List Record → ℕ → List ℕ → List Record
records_held ledger records number sheet =
    first_of (holding_cases ledger records number sheet) (λ why. records) (slice_set records ledger.count (record_of number (path_in sheet) mark_held))
