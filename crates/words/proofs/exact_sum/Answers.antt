-- No word is so large that the gathered sum wrapped, or the words are added again.
use Rattle.std.proofs.Common.{ap, ◌∙◌}
use Rattle.words.specs.declared.Gathered.{Gathered}
use Rattle.words.proofs.JoinLaws.{low-exact}
use Rattle.words.proofs.exact_sum.Goals as goal

pub returns-then-gathered-le-MOST_EXACT : goal.returns-then-gathered-le-MOST_EXACT
returns-then-gathered-le-MOST_EXACT c =
    let (few, gathered) = c.requires in
    c.from.ensures ∙ ap (λ (g : Gathered). g.low) gathered ∙ low-exact c.args.words.now few (rw gathered at c.if-gathered-le-MOST_EXACT.true)
