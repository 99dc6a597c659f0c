-- The account of a ledger: kept from the capacities asked for and the arguments of the calls alone, without ledger or records.
use Rattle.std.specs.Prelude.{ℕ, ◌+◌, ◌-◌, Bool, true, false, not, List, [], ◌∷◌, ◌++◌, length, ◌==◌, nat_eq, nat_lt, Ok, Err}
use Rattle.quantity.specs.Choice.{pick, both, either}
use Rattle.quantity.specs.Sums.{every}
use Rattle.quantity.specs.Ranges.{in_range, link_range, path_number_range}
use Rattle.quantity.specs.Refusals.{Case, ◌⇒◌, first_of}
use Rattle.quantity.specs.declared.refusal.Refusal.TheVariants.{Unusable, OutOfRange, PathNumberWrong, LedgerFull, LinkShort, ConfirmedAlready}
use Rattle.sheet.specs.Paths.{Path}
use Rattle.sheet.specs.Sheets.{path_in}
use Rattle.figures.specs.Answers.{figures_cases, path_delay}
use Rattle.ledger.specs.Ledgers.{record_count, link_count}
use Rattle.ledger.specs.Opening.{asked_for}
use Rattle.ledger.specs.Holding.{rate_of, names_link, rate_on}
use Rattle.ledger.specs.Calls.{Call, hold, confirm, release, spare, Grant, Answer}

-- a path that was held, and whether it was confirmed since
pub record Entry : Type 0 where
  pub number : ℕ
  pub path : Path
  pub confirmed : Bool

-- the paths held and not yet released, confirmed or not, in the order in which they were held
abbrev pub Account : Type 0
Account = List Entry

-- the rates of these paths on a link
unfoldable pub reserved_on : ℕ → Account → ℕ
reserved_on link [] = 0
reserved_on link (entry ∷ entries) = rate_on link entry.path + reserved_on link entries

-- 10: one of them has this number
unfoldable pub stands_in : ℕ → Account → Bool
stands_in number [] = false
stands_in number (entry ∷ entries) = either (entry.number == number) (stands_in number entries)

-- 16: the first of them that has this number is confirmed
unfoldable pub confirmed_in : ℕ → Account → Bool
confirmed_in number [] = false
confirmed_in number (entry ∷ entries) = pick (entry.number == number) entry.confirmed (confirmed_in number entries)

-- 12: on a link that the path names these rates and its own would pass the capacity
unfoldable pub short_in : List ℕ → Account → Path → Bool
short_in capacities entries path =
    not (every (λ link. not (both (names_link path link) (nat_lt (asked_for capacities link) (reserved_on link entries + rate_of path)))) link_count)

-- all but the path of a number
unfoldable pub without : ℕ → Account → Account
without number [] = []
without number (entry ∷ entries) = pick (entry.number == number) entries (entry ∷ without number entries)

-- all of them, the path of a number confirmed
unfoldable pub with_confirmed : ℕ → Account → Account
with_confirmed number [] = []
with_confirmed number (entry ∷ entries) =
    pick (entry.number == number) (record { number = entry.number; path = entry.path; confirmed = true } ∷ entries) (entry ∷ with_confirmed number entries)

-- why a call is refused
abbrev pub call_cases : List ℕ → Account → Call → List Case
call_cases capacities entries (hold number sheet) =
    (not (in_range path_number_range number) ⇒ Unusable)
    ∷ figures_cases sheet
    ++ ((stands_in number entries ⇒ PathNumberWrong)
    ∷ (nat_eq (length entries) record_count ⇒ LedgerFull)
    ∷ (short_in capacities entries (path_in sheet) ⇒ LinkShort)
    ∷ [])
call_cases capacities entries (confirm number) =
    (not (in_range path_number_range number) ⇒ Unusable)
    ∷ (not (stands_in number entries) ⇒ PathNumberWrong)
    ∷ (confirmed_in number entries ⇒ ConfirmedAlready)
    ∷ []
call_cases capacities entries (release number) = (not (in_range path_number_range number) ⇒ Unusable) ∷ (not (stands_in number entries) ⇒ PathNumberWrong) ∷ []
call_cases capacities entries (spare link) = (not (in_range link_range link) ⇒ OutOfRange 0) ∷ []

-- what is answered where none of these stands
unfoldable pub granted : List ℕ → Account → Call → Grant
granted capacities entries (hold number sheet) = record { rate = rate_of (path_in sheet); delay = path_delay (path_in sheet) }
granted capacities entries (confirm number) = record { rate = 0; delay = 0 }
granted capacities entries (release number) = record { rate = 0; delay = 0 }
granted capacities entries (spare link) = record { rate = asked_for capacities link - reserved_on link entries; delay = 0 }

unfoldable pub account_answer : List ℕ → Account → Call → Answer
account_answer capacities entries call = first_of (call_cases capacities entries call) Err (Ok (granted capacities entries call))

-- and which paths stand then
unfoldable pub account_next : Account → Call → Account
account_next entries (hold number sheet) = entries ++ (record { number = number; path = path_in sheet; confirmed = false } ∷ [])
account_next entries (confirm number) = with_confirmed number entries
account_next entries (release number) = without number entries
account_next entries (spare link) = entries

-- a refused call changes nothing
unfoldable pub account_after : List ℕ → Account → Call → Account
account_after capacities entries call = first_of (call_cases capacities entries call) (λ why. entries) (account_next entries call)
