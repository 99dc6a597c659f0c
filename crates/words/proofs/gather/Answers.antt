use Rattle.std.proofs.Common.{◌≡◌, length, refl, sym, ap, ◌∙◌, arith}
use Rattle.std.specs.Slice.Iter.{chunks_exact_rest}
use Rattle.words.specs.Gathering.{gathered_of, gathered_with}
use Rattle.words.specs.declared.Gathered.{Gathered}
use Rattle.words.proofs.AppendLaws.{gathered-append, gathered-assoc, gathered-none, rest_of, rest-append}
use Rattle.words.proofs.gather.Goals as goal

pub loop-row-init : goal.loop-row-init
loop-row-init c =
    let rows = c.chunks_exact-rows.ensures in
    rw (c.into_iter-row-iterator.ensures.into_iter_gives, rows.size, rows.rest)
    (omega arith, tt, refl, sym (gathered-none c.args.words.now), c.remainder-rest.ensures ∙ rows.remainder)

pub loop-row-preserved : goal.loop-row-preserved
loop-row-preserved c =
    let i = c.loop-row.invariant in
    let s = c.in-Some.ensures.steps in
    let rest = chunks_exact_rest c.next.new.self in
    let row = c.in-Some.row.now in
    let split = s.1.0 in
    let long : length row ≡ 256 = s.1.1 ∙ i.2 in
    let size = s.0 ∙ i.2 in (
      omega arith,
      tt,
      size,
      i.3 ∙ ap (λ (words : _). gathered_with c.loop-row.gathered (gathered_of words)) split
          ∙ ap (gathered_with c.loop-row.gathered) (gathered-append row rest)
          ∙ sym (gathered-assoc c.loop-row.gathered (gathered_of row) (gathered_of rest))
          ∙ ap (λ (g : Gathered). gathered_with g (gathered_of rest)) (sym (c.with-gathered.ensures ∙ ap (gathered_with c.loop-row.gathered) c.gather_row.ensures)),
      i.4 ∙ ap rest_of split ∙ rest-append row rest long,
    )
