-- Each stage is of its place.
use Rattle.std.proofs.Common.{rules}
use Rattle.sheet.specs.Paths.{no_linked_operator}
use Rattle.run.specs.Runs.{no_stage}
use Rattle.run.proofs.OpeningLaws.{staged-run}
use Rattle.run.proofs.opening.new_run.Goals as goal

pub returns : goal.returns
returns c path few same =
    staged-run path c.args.path same (c.map.ensures.items.long, λ k less. let made = c.map.ensures.items.at k no_linked_operator no_stage less in search rules)
