-- A list of calls: the first gets what opening the ledger returned and left, each later one what the call before it did.
use Rattle.std.specs.Prelude.{ℕ, List, [], ◌∷◌, Result, Ok, Err}
use Rattle.ledger.specs.declared.Record.{Record}
use Rattle.quantity.specs.declared.Rate.{Rate}
use Rattle.quantity.specs.declared.refusal.Refusal.{Refusal}
use Rattle.ledger.specs.declared.Ledger.{Ledger}
use Rattle.ledger.specs.declared.holding.Holding.{Holding}
use Rattle.ledger.specs.Opening.{no_ledger, opened_of, records_opened}
use Rattle.ledger.specs.Holding.{holding_of, records_held}
use Rattle.ledger.specs.Confirming.{confirmed_of, records_confirmed}
use Rattle.ledger.specs.Release.{released_of, records_released}
use Rattle.ledger.specs.Spare.{spare_of}
use Rattle.ledger.specs.Calls.{Call, hold, confirm, release, spare, Grant, Answer, answer_by}
use Rattle.ledger.specs.Account.{Account, account_after}

-- a ledger and its records
pub record Book : Type 0 where
  pub ledger : Ledger
  pub records : List Record

-- the ledger of what a call returned; the one before where it was refused
abbrev pub ledger_by : {A : Type 0} → (A → Ledger) → Ledger → Result A Refusal → Ledger
ledger_by ledger before (Ok result) = ledger result
ledger_by ledger before (Err why) = before

-- what opening it returned and left
unfoldable pub opened : List ℕ → List Record → Book
opened capacities lent = record { ledger = ledger_by (λ ledger. ledger) no_ledger (opened_of capacities lent); records = records_opened capacities lent }

-- what a call grants that returned a rate and a delay, nothing, or a rate
abbrev pub of_holding : Holding → Grant
of_holding holding = record { rate = holding.rate.0; delay = holding.delay.0 }

abbrev pub of_nothing : {A : Type 0} → A → Grant
of_nothing result = record { rate = 0; delay = 0 }

abbrev pub of_rate : Rate → Grant
of_rate rate = record { rate = rate.0; delay = 0 }

-- what a call answers
unfoldable pub answered : Book → Call → Answer
answered book (hold number sheet) = answer_by of_holding (holding_of book.ledger book.records number sheet)
answered book (confirm number) = answer_by of_nothing (confirmed_of book.ledger book.records number)
answered book (release number) = answer_by of_nothing (released_of book.ledger book.records number)
answered book (spare link) = answer_by of_rate (spare_of book.ledger link)

-- what it returned and left; refused, the ledger is the one before it
unfoldable pub called : Book → Call → Book
called book (hold number sheet) =
    record { ledger = ledger_by (λ holding. holding.ledger) book.ledger (holding_of book.ledger book.records number sheet); records = records_held book.ledger book.records number sheet }
called book (confirm number) = record { ledger = book.ledger; records = records_confirmed book.ledger book.records number }
called book (release number) =
    record { ledger = ledger_by (λ ledger. ledger) book.ledger (released_of book.ledger book.records number); records = records_released book.ledger book.records number }
called book (spare link) = book

unfoldable pub called_all : Book → List Call → Book
called_all book [] = book
called_all book (call ∷ calls) = called_all (called book call) calls

-- the account of the same calls
unfoldable pub account_all : List ℕ → Account → List Call → Account
account_all capacities entries [] = entries
account_all capacities entries (call ∷ calls) = account_all capacities (account_after capacities entries call) calls
