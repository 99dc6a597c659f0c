-- What is promised of a ledger after every list of calls from a new one.
use Rattle.std.specs.Prelude.{◌≡◌, ℕ, ◌-◌, ◌<◌, ◌≤◌, Bool, true, false, List, [], ◌++◌, map, length, replicate, ◌≢◌, Ok, Err}
use Rattle.quantity.specs.Choice.{pick}
use Rattle.quantity.specs.declared.refusal.Refusal.TheVariants.{Unusable, LedgerFull}
use Rattle.ledger.specs.declared.Record.{Record}
use Rattle.ledger.specs.Records.{mark_held, mark_confirmed, no_record, number_at, reserved}
use Rattle.ledger.specs.Ledgers.{record_count, link_count, total_of, ledger_unusable}
use Rattle.ledger.specs.Opening.{asked_for}
use Rattle.ledger.specs.Holding.{record_of}
use Rattle.ledger.specs.Release.{record_of_number}
use Rattle.ledger.specs.Calls.{Call, hold, release, number_wrong, Grant}
use Rattle.ledger.specs.Account.{Account, Entry, reserved_on, stands_in, confirmed_in, account_answer}
use Rattle.ledger.specs.Lists.{Book, opened, answered, called, called_all, account_all}

-- the mark of a path by whether it is confirmed
abbrev pub mark_of : Bool → ℕ
mark_of confirmed = pick confirmed mark_confirmed mark_held

-- the record of a path of the account
abbrev pub record_of_entry : Entry → Record
record_of_entry entry = record_of entry.number entry.path (mark_of entry.confirmed)

module _ (capacities : List ℕ) (lent : List Record) (calls : List Call) where
  -- the ledger and its records after these calls, and their account
  abbrev pub book : Book
  book = called_all (opened capacities lent) calls

  abbrev pub entries : Account
  entries = account_all capacities [] calls

  abbrev pub standing : ℕ
  standing = book.ledger.count

  pub record Kept : Type 0 where
    -- the next call, whichever it is, is answered as the account says: each refusal stands by its condition on the calls alone
    pub answers : (call : Call) → answered book call ≡ account_answer capacities entries call
    -- the stored total of each link is the sum over the records that stand
    pub stored : (link : ℕ) → link < link_count → total_of book.ledger link ≡ reserved book.records standing link
    -- which is the rates of the paths held or confirmed, and not yet released, that name the link
    pub totals : (link : ℕ) → link < link_count → reserved book.records standing link ≡ reserved_on link entries
    -- and never above its capacity
    pub within : (link : ℕ) → link < link_count → reserved_on link entries ≤ asked_for capacities link
    -- what the calls left is never refused by 1
    pub usable : ledger_unusable book.ledger book.records ≡ false
    -- so that an answer 1 comes from a path number out of its range alone
    pub unusable_only : (call : Call) → answered book call ≡ Err Unusable → number_wrong call ≡ true
    -- no number stands twice
    pub once : (i j : ℕ) → i < j → j < standing → number_at book.records i ≢ number_at book.records j
    -- the records are those of the account's paths, in the order in which they were held; all behind them are clear
    pub counted : standing ≡ length entries
    pub ordered : book.records ≡ map record_of_entry entries ++ replicate (record_count - length entries) no_record
    -- the mark of each is the account's: 1 if the path is confirmed, 0 while it is held
    pub marks : (number : ℕ) → stands_in number entries ≡ true → (record_of_number book.ledger book.records number).mark ≡ mark_of (confirmed_in number entries)
    -- a freed record serves again: after a release a path is not refused by 11
    pub freed : (number : ℕ) (grant : Grant) → answered book (release number) ≡ Ok grant
        → (next : ℕ) (sheet : List ℕ) → answered (called book (release number)) (hold next sheet) ≢ Err LedgerFull
