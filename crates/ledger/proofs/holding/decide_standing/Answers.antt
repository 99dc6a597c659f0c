-- Each way out by whether the number stands, by the count and by the test of the links.
use Rattle.std.proofs.Common.{◌≡◌, true, false, List, sym, ◌∙◌}
use Rattle.sheet.specs.Paths.{Path}
use Rattle.sheet.specs.Forms.{value_of_path}
use Rattle.sheet.specs.Sheets.{path_in_range}
use Rattle.ledger.specs.declared.Record.{Record}
use Rattle.ledger.specs.Ledgers.{ledger_unusable}
use Rattle.ledger.specs.Holding.{link_short, accepted_holding, record_of}
use Rattle.ledger.specs.Steps.{accepted_appending}
use Rattle.ledger.proofs.DecidingHold.{charged-path, reserved-rate, named-bits, named-short, standing-full, standing-short, standing-accepted}
use Rattle.ledger.proofs.holding.decide_standing.Goals as goal
use Rattle.ledger.proofs.holding.decide_standing.Goals.{After-link_short}

-- the test of the links is that of the definition
short : (c : After-link_short) (records : List Record) (path : Path) →
    ledger_unusable c.args.ledger records ≡ false → path_in_range path ≡ true → c.args.path ≡ value_of_path c.args.path.form path
    → c.link_short.result ≡ link_short c.args.ledger path
short c records path usable inside same =
    c.link_short.ensures
    ∙ named-short path c.args.path same c.requires.2 c.links_named-links.ensures c.args.ledger records usable inside
    (reserved-rate path c.args.path same c.reserved_by-rate.ensures)

pub returns-then-ledger-eq-RECORDS : goal.returns-then-ledger-eq-RECORDS
returns-then-ledger-eq-RECORDS c records path usable known inside same delayed =
    standing-full c.args.ledger records c.args.number.0 path (sym known ∙ c.if-known.false) c.if-ledger-eq-RECORDS.true

pub returns-then-link_short : goal.returns-then-link_short
returns-then-link_short c records path usable known inside same delayed =
    standing-short c.args.ledger records c.args.number.0 path (sym known ∙ c.if-known.false) c.if-ledger-eq-RECORDS.false
    (sym (short (goal.at.returns-then-link_short c).After-link_short records path usable inside same) ∙ c.if-link_short.true)

pub returns : goal.returns
unfolding accepted_appending accepted_holding record_of
returns c records path usable known inside same delayed =
    let args = c.args in
    rw (
      c.charge-charged.ensures,
      reserved-rate path args.path same c.reserved_by-rate.ensures,
      delayed,
      named-bits path args.path same c.requires.2 c.links_named-links.ensures,
      charged-path args.ledger records usable path inside args.number.0,
    )
    (standing-accepted args.ledger records args.number.0 path (sym known ∙ c.if-known.false) c.if-ledger-eq-RECORDS.false
    (sym (short (goal.at.returns c).After-link_short records path usable inside same) ∙ c.if-link_short.false))
