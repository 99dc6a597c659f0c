-- Demand 2: when a path is held, in any ledger and records.
use Rattle.std.specs.Prelude.{◌≡◌, ℕ, ◌+◌, ◌<◌, ◌≤◌, false, List, length, ◌≢◌, IsOk}
use Rattle.sheet.specs.Paths.{Path, link_at}
use Rattle.sheet.specs.Sheets.{path_in}
use Rattle.figures.specs.Answers.{figures_of}
use Rattle.ledger.specs.declared.Record.{Record}
use Rattle.ledger.specs.declared.Ledger.{Ledger}
use Rattle.ledger.specs.Records.{number_at, reserved}
use Rattle.ledger.specs.Ledgers.{record_count, link_count, capacity_of, total_of, ledger_unusable}
use Rattle.ledger.specs.Holding.{rate_of}

module _ (ledger : Ledger) (records : List Record) (number : ℕ) (sheet : List ℕ) where
  abbrev pub path : Path
  path = path_in sheet

  -- each condition by the refusal that it keeps from standing
  pub record Admissible : Type 0 where
    -- 1: the path number is in its range, and refusal 1 lets pass what is lent and stored
    pub numbered : number ≤ 65535
    pub usable : ledger_unusable ledger records ≡ false
    -- among which is that each link's stored total is the sum over the records that stand
    pub summed : (link : ℕ) → link < link_count → total_of ledger link ≡ reserved records ledger.count link
    -- 2 to 9: the sheet has figures
    pub planned : IsOk (figures_of sheet)
    -- 10: no path of this number stands
    pub new : (j : ℕ) → j < ledger.count → number_at records j ≢ number
    -- 11: fewer than sixty-four paths stand
    pub room : ledger.count < record_count
    -- 12: on the link of each operator the total and the path's rate are within the capacity
    pub carried : (k : ℕ) → k < length path.operators → total_of ledger (link_at path k) + rate_of path ≤ capacity_of ledger (link_at path k)
