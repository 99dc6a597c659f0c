-- Any test that stands refuses; once all have passed, what is stored is usable, and the field's units and the words' make b.
use Rattle.std.proofs.Common.{◌≡◌, ℕ, Bool, sym, ap, ◌∙◌, arith, inl, inr}
use Rattle.words.specs.Stored.{stored_fits}
use Rattle.operator.proofs.SingleLaws.{contradiction, Usable, scanned-told, stored_refused, stored-found, held-le, b-sum}
use Rattle.operator.proofs.parts.stored_in.Goals as goal
use Rattle.operator.proofs.parts.stored_in.Goals.{Else-units-gt-LARGEST}

-- a field's test, with what says whether the field is used
fits-answered : {used uses : Bool} → used ≡ uses → (amount : ℕ) {answer : Bool} → answer ≡ stored_fits used amount → stored_fits uses amount ≡ answer
fits-answered same amount answered = sym (answered ∙ ap (λ (x : Bool). stored_fits x amount) same)

passed : (c : Else-units-gt-LARGEST) → Usable c.args.state c.args.words.now
passed c =
    let (fit, sum) = (scanned-told _ _ c.if-words-ne-WORDS.false c.words_used.ensures c.scan.ensures).within c.in_ok-units.was in record {
      sized = c.if-words-ne-WORDS.false;
      slot_left = c.if-state-gt-LAST.false;
      held_fits = fits-answered c.uses_held.ensures _ c.stored_fits.ensures ∙ c.if-not-stored_fits.false;
      beside_fits = fits-answered c.uses_beside.ensures _ c.stored_fits-2.ensures ∙ c.if-not-stored_fits-2.false;
      words_fit = fit;
      sum_fits = omega (arith, sum, c.if-units-gt-LARGEST.false);
    }

pub returns-then-words-ne-WORDS : goal.returns-then-words-ne-WORDS
returns-then-words-ne-WORDS c =
    stored_refused _ _ (λ stored. elim c.then-words-ne-WORDS.either [ inl other ↦ other stored.sized | inr last ↦ omega (arith, last.1, stored.slot_left) ])

pub returns-then-not-stored_fits : goal.returns-then-not-stored_fits
returns-then-not-stored_fits c = stored_refused _ _ (λ stored. contradiction stored.held_fits (fits-answered c.uses_held.ensures _ c.stored_fits.ensures ∙ c.if-not-stored_fits.true))

pub returns-then-not-stored_fits-2 : goal.returns-then-not-stored_fits-2
returns-then-not-stored_fits-2 c = stored_refused _ _ (λ stored. contradiction stored.beside_fits (fits-answered c.uses_beside.ensures _ c.stored_fits-2.ensures ∙ c.if-not-stored_fits-2.true))

pub returns-in_err-units : goal.returns-in_err-units
returns-in_err-units c =
    let told = scanned-told _ _ c.if-words-ne-WORDS.false c.words_used.ensures c.scan.ensures in
    rw c.from_residual.ensures (stored_refused _ _ (λ stored. contradiction stored.words_fit (told.outside c.in_err-units.was)))

pub returns-then-units-gt-LARGEST : goal.returns-then-units-gt-LARGEST
returns-then-units-gt-LARGEST c =
    let told = scanned-told _ _ c.if-words-ne-WORDS.false c.words_used.ensures c.scan.ensures in
    stored_refused _ _ (λ stored. omega (arith, stored.sum_fits, (told.within c.in_ok-units.was).1, c.if-units-gt-LARGEST.true))

pub overflow_add-result : goal.overflow_add-result
overflow_add-result c = let stored = passed (goal.at.overflow_add-result c).Else-units-gt-LARGEST in omega (arith, held-le _ _ stored, c.if-units-gt-LARGEST.false)

pub returns : goal.returns
returns c =
    let told = scanned-told _ _ c.if-words-ne-WORDS.false c.words_used.ensures c.scan.ensures in
    let stored = passed (goal.at.returns c).Else-units-gt-LARGEST in
    stored-found _ _ stored _ (rw (told.within c.in_ok-units.was).1 (b-sum _ _ stored))
