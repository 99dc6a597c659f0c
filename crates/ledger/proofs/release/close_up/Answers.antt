use Rattle.ledger.proofs.ClosingUp.{closed-copied}
use Rattle.ledger.specs.Records.{no_record}
use Rattle.ledger.proofs.release.close_up.Goals as goal

pub returns : goal.returns
returns c =
    let (sized, within) = c.requires in
    let (copied, same, rest) = c.copy_within.ensures.by_index in
    rw c.no_record.ensures (closed-copied c.args.records.now c.copy_within.new.self c.args.at no_record sized within c.copy_within.ensures.len copied same)
