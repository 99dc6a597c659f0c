-- The words in two parts, those used and the rest.
use Rattle.std.proofs.Common.{leb, sym, ap, ◌∙◌, ap₂}
use Rattle.quantity.specs.Choice.{both}
use Rattle.quantity.specs.Limits.{largest_amount}
use Rattle.words.specs.declared.Gathered.{Gathered}
use Rattle.words.proofs.ScanLaws.{unused-fits, unused-units, and-both, answered, scanned, too_many, scan_few}
use Rattle.words.proofs.scan.Goals as goal

pub returns-then-words-gt-MOST_SCANNED : goal.returns-then-words-gt-MOST_SCANNED
returns-then-words-gt-MOST_SCANNED c = too_many _ _ c.if-words-gt-MOST_SCANNED.true

pub returns-then-used-eq0 : goal.returns-then-used-eq0
returns-then-used-eq0 c =
    let words = c.args.words.now in
    rw c.if-used-eq0.true
    (c.then_some.ensures ∙ answered (c.all_clear.ensures ∙ unused-fits words) (unused-units words) ∙ sym (scan_few 0 words c.if-words-gt-MOST_SCANNED.false))

pub returns : goal.returns
returns c =
    let words = c.args.words.now in
    let used = c.args.used in
    let end = c.min.result in
    let (first, rest) = c.split_at.result in
    let small = c.from.ensures ∙ ap (λ (gathered : Gathered). gathered.join) c.gather-gathered.ensures in
    let tested = and-both (leb c.from.result largest_amount) c.all_clear-2.result ∙ ap₂ both (ap (λ (join : _). leb join largest_amount) small) c.all_clear-2.ensures in
    let (fits, units) = scanned words first.now rest.now used end c.min.ensures c.split_at.ensures.front c.split_at.ensures.back in
    c.then_some-2.ensures ∙ answered (tested ∙ fits) (λ fit. c.exact_sum.ensures ∙ units fit) ∙ sym (scan_few used words c.if-words-gt-MOST_SCANNED.false)
