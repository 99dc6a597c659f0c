use Rattle.std.proofs.Common.{rules, ◌≡◌, ℕ, ◌+◌, ◌-◌, ◌%◌, length, take, drop, length-drop, sym, ap, ◌∙◌, arith}
use Rattle.std.specs.Slice.Iter.{chunks_exact_rest}
use Rattle.std.proofs.Math.Seq.{take-length}
use Rattle.words.proofs.AppendLaws.{clear, rows-clear, first-clear, first-unclear}
use Rattle.words.proofs.all_clear.Goals as goal

pub returns-then-row_clear : goal.returns-then-row_clear
returns-then-row_clear c =
    let words = c.args.words.now in
    let from = (length words - 1) % 256 + 1 in
    let rest = c.chunks_exact.ensures.rest ∙ ap (λ (n : ℕ). take n (drop from words)) (sym (length-drop from words)) ∙ take-length (drop from words) in
    let left : length (chunks_exact_rest c.chunks_exact.result) % 256 ≡ 0 = omega (arith, ap length rest, length-drop from words, c.if-words-lt-ROW.false) in
    let (rows, o, q, ran, same, ended) = c.all.ensures.ran in
    rows-clear _ _ (λ row r q call. search rules) rows _ _ o q c.all.result c.chunks_exact.ensures.size left ran same ended
    ∙ ap clear rest ∙ first-clear words from 256 (omega arith) (sym c.row_clear-2.ensures ∙ c.if-row_clear.true)

pub returns-else-row_clear : goal.returns-else-row_clear
returns-else-row_clear c = c.if-row_clear.false ∙ first-unclear c.args.words.now 256 (sym c.row_clear-2.ensures ∙ c.if-row_clear.false)
