-- By the kind; behind the fourth row none is found.
use mathlib.Core.Path.{◌≡◌, sym, ◌∙◌, ap}
use Prim.Native.Nat.{◌-◌}
use Rattle.std.proofs.Common.{rules}
use lib.ListN.{get_or}
use Rattle.flow.specs.Declarations.{empty_row, row_of}
use Rattle.flow.proofs.Declarations.{rows_last, one_last}
use Rattle.flow.proofs.Declaration.last_row.Goals as goal

pub returns-then-has_rows : goal.returns-then-has_rows
returns-then-has_rows c =
    let last : c.unwrap_or.result ≡ get_or c.args.self.rows (c.args.self.count - 1) empty_row = search rules in
    ap row_of last ∙ sym (rows_last c.args.self (sym c.has_rows.ensures ∙ c.if-has_rows.true))

pub returns-else-has_rows : goal.returns-else-has_rows
returns-else-has_rows c = c.only_row.ensures ∙ sym (one_last c.args.self (sym c.has_rows.ensures ∙ c.if-has_rows.false))
