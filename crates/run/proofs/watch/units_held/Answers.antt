use Rattle.std.proofs.Common.{rules}
use Rattle.quantity.specs.Limits.{most_operators}
use Rattle.quantity.specs.declared.Units.{Units}
use Rattle.quantity.proofs.Sums.{list_of-ext}
use Rattle.run.specs.Watching.{units_held}
use Rattle.run.proofs.watch.units_held.Goals as goal

pub returns : goal.returns
returns c words =
    let none : Units = record { 0 = 0 } in
    list_of-ext none (units_held c.args.run.now words) most_operators c.from_fn.result c.from_fn.ensures.items.long (λ k less. let made = c.from_fn.ensures.items.at k none less in search rules)
