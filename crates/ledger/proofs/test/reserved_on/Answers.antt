use Rattle.std.proofs.Common.{◌≡◌, ℕ, ◌+◌, ◌%◌, ◌^◌, [], ◌∷◌, get_or, length, sym, ap, ◌∙◌, ap₂, arith, length-append}
use Rattle.std.proofs.lemmas.Slice.Zip.{zip_turn, zip_end}
use native.Mathlib.Nat.{mod-add-mod}
use Rattle.quantity.specs.Choice.{pick}
use Rattle.quantity.proofs.Sums.{total-zero, total-next}
use Rattle.quantity.proofs.Laws.{pick_true, pick-false}
use Rattle.ledger.specs.Records.{has_link}
use Rattle.ledger.specs.Ledgers.{record_count}
use Rattle.ledger.specs.Steps.{sum_on}
use Rattle.ledger.proofs.test.reserved_on.Goals as goal
use Rattle.ledger.proofs.test.reserved_on.Goals.{then-has_link, else-has_link}

pub loop-rate-init : goal.loop-rate-init
unfolding sum_on
loop-rate-init c = sym (ap (λ (n : ℕ). n % 2 ^ 32) (total-zero _))

pub loop-rate-preserved : goal.loop-rate-preserved
unfolding sum_on
loop-rate-preserved c =
    let args = c.args in
    let rates = args.rates.now in
    let links = args.links.now in
    let j = length c.loop-rate.yielded in
    let next = length-append c.loop-rate.yielded ((c.in-Some.rate, c.in-Some.named) ∷ []) in
    let first : c.into_iter-rate-iterator.result.a.rest.now ≡ rates = cc (c.into_iter-rate-iterator.ensures.into_iter_gives, c.zip-rate-items.ensures.first, c.iter.ensures.rest) in
    let second : c.into_iter-rate-iterator.result.b.rest.now ≡ links = cc (c.into_iter-rate-iterator.ensures.into_iter_gives, c.zip-rate-items.ensures.second.0) in
    let (inside, also, rate, named) = zip_turn rates links c.loop-rate.yielded c.into_iter-rate-iterator.result c.loop-rate.rate-iterator c.next.new.self c.next.result first second c.loop-rate.yielded_by (c.in-Some.rate, c.in-Some.named) c.in-Some.is c.next.ensures.steps in
    let here : c.if-has_link.share ≡ pick (has_link (get_or links j 0) args.link) (get_or rates j 0) 0 =
    elim c.if-has_link.branch [ then-has_link w ↦ w.share-is ∙ sym (pick_true (has_link c.in-Some.named.now args.link) c.in-Some.rate.now 0 (sym c.has_link.ensures ∙ w.if-has_link.true)) | else-has_link w ↦ w.share-is ∙ sym (pick-false (has_link c.in-Some.named.now args.link) c.in-Some.rate.now 0 (sym c.has_link.ensures ∙ w.if-has_link.false)) ]
    ∙ ap₂ (λ (bits rate : ℕ). pick (has_link bits args.link) rate 0) (named 0) (rate 0) in
    ap (λ (n : ℕ). (n + c.if-has_link.share) % 2 ^ 32) c.loop-rate.invariant ∙ mod-add-mod _ (2 ^ 32) _
    ∙ ap (λ (n : ℕ). (sum_on rates links j args.link + n) % 2 ^ 32) here ∙ ap (λ (n : ℕ). n % 2 ^ 32) (sym (total-next _ j)) ∙ ap (λ (n : ℕ). sum_on rates links n args.link % 2 ^ 32) (sym next)

pub returns : goal.returns
returns c =
    let args = c.args in
    let rates = args.rates.now in
    let links = args.links.now in
    let first : c.into_iter-rate-iterator.result.a.rest.now ≡ rates = cc (c.into_iter-rate-iterator.ensures.into_iter_gives, c.zip-rate-items.ensures.first, c.iter.ensures.rest) in
    let second : c.into_iter-rate-iterator.result.b.rest.now ≡ links = cc (c.into_iter-rate-iterator.ensures.into_iter_gives, c.zip-rate-items.ensures.second.0) in
    let last = zip_end rates links c.loop-rate.yielded c.into_iter-rate-iterator.result c.loop-rate.rate-iterator c.next.new.self c.next.result first second c.loop-rate.yielded_by c.in-None.is c.next.ensures.steps in
    let all : length c.loop-rate.yielded ≡ record_count = omega arith in
    c.loop-rate.invariant ∙ ap (λ (n : ℕ). sum_on rates links n args.link % 2 ^ 32) all
