-- A list of slot calls (section 10, 3): the first gets what opening returned and left, each later one what the call before it left.
use Rattle.std.specs.Prelude.{ℕ, List, [], ◌∷◌, ◌++◌, Result, Ok, Err}
use Rattle.quantity.specs.Refusals.{first_of}
use Rattle.quantity.specs.declared.refusal.Refusal.{Refusal}
use Rattle.sheet.specs.Paths.{Path}
use Rattle.run.specs.Calls.{Call}
use Rattle.run.specs.Account.{Account, arriving, account_cases, account_after}
use Rattle.run.specs.Opening.{no_run, opened_of, words_opened}
use Rattle.run.specs.Slots.{slotted_of, run_behind, words_slotted}
use Rattle.run.specs.declared.Run.{Run}

-- a run and its words
pub record Running : Type 0 where
  pub run : Run
  pub words : List ℕ

-- the run that opening answered; where it was refused there is none
abbrev pub run_opened : Result Run Refusal → Run
run_opened (Ok run) = run
run_opened (Err why) = no_run

-- what opening returned and left
unfoldable pub opened : List ℕ → List ℕ → Running
opened sheet words = record { run = run_opened (opened_of sheet words); words = words_opened sheet words }

-- what a call left
unfoldable pub slotted : Running → Call → Running
slotted now call = record { run = run_behind now.run (slotted_of now.run now.words call); words = words_slotted now.run now.words call }

-- what a list of calls left
unfoldable pub slotted_all : Running → List Call → Running
slotted_all now [] = now
slotted_all now (call ∷ calls) = slotted_all (slotted now call) calls

-- what arrives at operator k in the slot that a call takes; nothing where it takes none
unfoldable pub arrived_in : Path → Account → Call → ℕ → List ℕ
arrived_in path account call k = first_of (account_cases path account call) (λ why. []) (arriving path account call k ∷ [])

-- and in each slot that a list of calls takes
unfoldable pub arrived_all : Path → Account → List Call → ℕ → List ℕ
arrived_all path account [] k = []
arrived_all path account (call ∷ calls) k = arrived_in path account call k ++ arrived_all path (account_after path account call) calls k

-- the account of the same calls
unfoldable pub account_all : Path → Account → List Call → Account
account_all path account [] = account
account_all path account (call ∷ calls) = account_all path (account_after path account call) calls
