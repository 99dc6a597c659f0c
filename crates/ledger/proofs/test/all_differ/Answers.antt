-- By the ring, and by the zeros where that shows no number twice.
use Rattle.std.proofs.Common.{ℕ, ◌+◌, leb, List, sym, ap, ◌∙◌}
use Rattle.ledger.specs.Ledgers.{record_count}
use Rattle.ledger.specs.Steps.{repeats_in}
use Rattle.ledger.proofs.Differing.{repeats-differ, zeros_differ}
use Rattle.ledger.proofs.test.all_differ.Goals as goal

pub returns-then-repeats : goal.returns-then-repeats
returns-then-repeats c narrow =
    let xs = c.args.numbers.now in
    sym (repeats-differ xs c.args.count c.requires narrow
    (ap (λ (ring : List ℕ). repeats_in ring record_count) (sym c.ring_of-ring.ensures) ∙ sym c.repeats.ensures ∙ c.if-repeats.true))

pub returns : goal.returns
returns c narrow =
    let xs = c.args.numbers.now in
    ap (λ (met : ℕ). leb (met + c.args.count) (record_count + 1)) c.zeros.ensures
    ∙ zeros_differ xs c.args.count c.requires narrow
    (ap (λ (ring : List ℕ). repeats_in ring record_count) (sym c.ring_of-ring.ensures) ∙ sym c.repeats.ensures ∙ c.if-repeats.false)
