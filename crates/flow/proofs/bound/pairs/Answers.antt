-- Each of the four rows is handed over as it stands.
use Rattle.std.proofs.Common.{rules, ◌≡◌, [], ◌∷◌, get_or}
use Rattle.flow.specs.Declarations.{empty_row}
use Rattle.flow.proofs.bound.pairs.Goals as goal

pub returns : goal.returns
returns c i less = let made : get_or c.map.result i [] ≡ (get_or c.args.rows i empty_row).interval.0 ∷ (get_or c.args.rows i empty_row).quota.0 ∷ [] = let at = c.map.ensures.items.at i empty_row [] less in search rules in rw made
