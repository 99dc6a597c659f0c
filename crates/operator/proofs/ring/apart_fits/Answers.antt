-- The amounts and totals by one test, and then the words.
use Rattle.operator.proofs.RingLaws.{beyond-stands, none-beyond, apart-told}
use Rattle.operator.proofs.ring.apart_fits.Goals as goal

pub returns-then-beyond-totals-ne0 : goal.returns-then-beyond-totals-ne0
returns-then-beyond-totals-ne0 c = beyond-stands _ _ c.told-words c.requires.0 c.requires.1 c.args.most c.requires.2 (rw c.from-totals.ensures at c.if-beyond-totals-ne0.true)

pub returns : goal.returns
returns c =
    let (held, beside, totals) = none-beyond c.args.state c.args.words.now c.told-words c.requires.0 c.requires.1 c.args.most c.requires.2 (rw c.from-totals.ensures at c.if-beyond-totals-ne0.false) in
    apart-told _ _ c.told-words c.requires.0 c.requires.1 held beside totals c.row_clear.ensures
