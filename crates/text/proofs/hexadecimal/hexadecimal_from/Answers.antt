-- The row is judged first; what does not fit, or is no row of bytes, is refused, and else it is stored.
use mathlib.Core.Path.{sym, ap, ◌∙◌}
use lib.ListN.{length, drop}
use Rattle.std.proofs.lemmas.Result.{err_from_is_err_and}
use Rattle.text.specs.Rows.{answer_of}
use Rattle.text.specs.Hexadecimals.{hexadecimal_from, bytes_stored}
use Rattle.text.proofs.RowLaws.{fault-answered, fault-keeps}
use Rattle.text.proofs.HexadecimalRowLaws.{fitted-refused, fitted-long, fitted-whole, fitted-no-fault}
use Rattle.text.proofs.hexadecimal.hexadecimal_from.Goals as goal

pub returns-in_err-length : goal.returns-in_err-length
unfolding hexadecimal_from bytes_stored
returns-in_err-length c =
    let a = c.args in
    let (why, is-why, from) = err_from_is_err_and c.from_residual.result c.from_residual.ensures.1 in
    let refused = fitted-refused (drop a.from a.text.now) (length a.bytes.now) _ c.in_err-length.ensures in
    (rw (is-why, from) (fault-answered _ _ refused), fault-keeps _ _ refused a.bytes.now)

pub returns-then-bytes-length : goal.returns-then-bytes-length
unfolding hexadecimal_from bytes_stored
returns-then-bytes-length c =
    let a = c.args in
    let refused = fitted-long (drop a.from a.text.now) (length a.bytes.now) _ c.in_ok-length.ensures c.if-bytes-length.true in
    (fault-answered _ _ refused, fault-keeps _ _ refused a.bytes.now)

pub store-requires : goal.store-requires
store-requires c =
    let a = c.args in
    fitted-no-fault (drop a.from a.text.now) (length a.bytes.now) _ c.in_ok-length.ensures c.if-bytes-length.false

pub returns : goal.returns
unfolding hexadecimal_from
returns c =
    let a = c.args in
    let whole = fitted-whole (drop a.from a.text.now) (length a.bytes.now) _ c.in_ok-length.ensures c.if-bytes-length.false in
    (c.in_ok-length.ensures ∙ sym (ap answer_of whole), c.store.ensures)
