-- Demand 2: when a path is confirmed, in any ledger and records.
use Rattle.std.specs.Prelude.{◌≡◌, ℕ, ◌<◌, ◌≤◌, false, List}
use Rattle.ledger.specs.declared.Record.{Record}
use Rattle.ledger.specs.declared.Ledger.{Ledger}
use Rattle.ledger.specs.Records.{mark_held, number_at, mark_at}
use Rattle.ledger.specs.Ledgers.{ledger_unusable}

module _ (ledger : Ledger) (records : List Record) (number : ℕ) where
  -- each condition by the refusal that it keeps from standing
  pub record Confirmable : Type 0 where
    -- 1: the path number is in its range, and refusal 1 lets pass what is lent and stored
    pub numbered : number ≤ 65535
    pub usable : ledger_unusable ledger records ≡ false
    -- 10: a path of this number stands
    pub place : ℕ
    pub standing : place < ledger.count
    pub named : number_at records place ≡ number
    -- 16: it is held, and not yet confirmed
    pub held : mark_at records place ≡ mark_held
