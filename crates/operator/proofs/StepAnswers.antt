-- A step answers its parts in turn: the tests of a decision are a step's, and the test of what is kept is its last.
use Rattle.std.proofs.Common.{◌≡◌, ℕ, ◌<◌, ◌≤◌, Bool, true, false, not, ltb, List, sym, refl, ap, ◌∙◌, arith, Option, Some, Result, Ok, Err}
use borrow.Author.Tests.{not-false}
use Rattle.quantity.specs.Choice.{pick, either}
use Rattle.quantity.specs.Limits.{largest_amount}
use Rattle.quantity.specs.declared.Units.{Units}
use Rattle.quantity.specs.declared.refusal.Refusal.{Refusal}
use Rattle.quantity.specs.declared.refusal.Refusal.TheVariants.{Unusable, OutOfRange, ChoiceAboveGreatest}
use Rattle.quantity.proofs.Laws.{pick_true, pick-map, either_second}
use Rattle.operator.specs.Operators.{number_in_range}
use Rattle.operator.specs.Single.{holds, unusable, choice_above, leaves_too_much, sent, holds_next, state_next, words_next, step_of, words_after}
use Rattle.operator.specs.Parts.{stored_of, undecidable, sent_with, choice_above_with, decided_of, kept_of, words_kept, refusal_of}
use Rattle.operator.specs.declared.SingleOperator.{SingleOperator}
use Rattle.operator.specs.declared.parts.Sending.{Sending}
use Rattle.operator.specs.declared.parts.Unsent.{Unsent}
use Rattle.operator.specs.declared.single.Sent.{Sent}
use Rattle.words.proofs.StoredLaws.{either-last}
use Rattle.operator.proofs.SingleLaws.{Usable, stored-holds, stored-none, unusable-above, unusable-stored, none-unusable}
use Rattle.operator.proofs.PartsLaws.{choice-alone, sent-fits, kept-or-unfit}

pick-rest : {A : Type 0} (t : Bool) (a b c : A) → (t ≡ false → b ≡ c) → pick t a b ≡ pick t a c
pick-rest true a b c same = refl
pick-rest false a b c same = same refl

-- what a step makes of what keeping answers
abbrev pub step_kept : Units → Result SingleOperator Unsent → Result Sent Refusal
step_kept output (Ok next) = Ok (record { output = output; next = next })
step_kept output (Err why) = Err (refusal_of why)

-- and of a decision
abbrev pub step_decided : SingleOperator → List ℕ → Result Sending Unsent → Result Sent Refusal
step_decided x words (Ok sending) = step_kept sending.output (kept_of x words sending.kept.0 sending.beside.0)
step_decided x words (Err why) = Err (refusal_of why)

abbrev pub words_decided : SingleOperator → List ℕ → ℕ → Result Sending Unsent → List ℕ
words_decided x words input (Ok sending) = words_kept x words input sending.kept.0 sending.beside.0
words_decided x words input (Err why) = words

module _ (x : SingleOperator) (words : List ℕ) (input choice : ℕ) where
  -- what a step answers, and what its words are then
  abbrev pub Answered : Result Sent Refusal → List ℕ → Type 0
  Answered answer after = (answer ≡ step_of x words input choice) × (after ≡ words_after x words input choice)

  refused-first : either (ltb largest_amount choice) (unusable x words input) ≡ true → Answered (Err Unusable) words
  unfolding step_of words_after
  refused-first test = (sym (pick_true _ _ _ test), sym (pick_true _ _ _ test))

  pub step-above : largest_amount < input → Answered (Err Unusable) words
  step-above above = refused-first (either_second (ltb largest_amount choice) _ (unusable-above x words input above))

  pub step-unusable : {answer : Option Units} → answer ≡ stored_of x words → ((held : Units) → answer ≡ Some held → ⊥) → Answered (Err Unusable) words
  step-unusable answered none =
      refused-first (either_second (ltb largest_amount choice) _ (unusable-stored x words input (stored-none x words answered none)))

  module _ (within : input ≤ largest_amount) (stored : Usable x words) where
    first-test : either (ltb largest_amount choice) (unusable x words input) ≡ ltb largest_amount choice
    first-test = ap (either (ltb largest_amount choice)) (none-unusable x words input within stored) ∙ either-last (ltb largest_amount choice)

    -- the tests of a decision are a step's, but for what it goes on to
    same_tests : {A : Type 0} (refused : Refusal → A) (kept next : A)
        → (number_in_range x.operator ≡ true → choice_above x words input choice ≡ false → kept ≡ next)
        → pick (undecidable x words (holds x words).b input choice) (refused Unusable)
        (pick (not (number_in_range x.operator)) (refused (OutOfRange 0)) (pick (choice_above_with x words (holds x words).b input choice) (refused (ChoiceAboveGreatest 0)) kept))
        ≡ pick (either (ltb largest_amount choice) (unusable x words input)) (refused Unusable)
        (pick (not (number_in_range x.operator)) (refused (OutOfRange 0)) (pick (choice_above x words input choice) (refused (ChoiceAboveGreatest 0)) next))
    unfolding choice_above_with choice_above holds
    same_tests refused kept next same =
        let rest = pick (not (number_in_range x.operator)) (refused (OutOfRange 0)) (pick (choice_above x words input choice) (refused (ChoiceAboveGreatest 0)) kept) in
        ap (λ (t : Bool). pick t (refused Unusable) rest) (choice-alone x words stored input choice (omega arith) ∙ sym first-test)
        ∙ ap (pick (either (ltb largest_amount choice) (unusable x words input)) (refused Unusable))
        (pick-rest (not (number_in_range x.operator)) _ _ _ (λ inside. pick-rest (choice_above x words input choice) _ _ _ (same (not-false _ inside))))

    -- what is kept, or refused, is what a step goes on to
    kept_then : (inside : number_in_range x.operator ≡ true) (below : choice_above x words input choice ≡ false) →
        let s = sent x words input choice in
        (step_kept (record { 0 = s }) (kept_of x words (holds_next x words input s).b (holds_next x words input s).h)
        ≡ pick (leaves_too_much x words input s) (Err Unusable) (Ok (record { output = record { 0 = s }; next = state_next x words input s })))
        × (words_kept x words input (holds_next x words input s).b (holds_next x words input s).h ≡ pick (leaves_too_much x words input s) words (words_next x words input s))
    kept_then inside below =
        let s = sent x words input choice in
        let (answer, after) = kept-or-unfit x words stored inside input s (sent-fits x words stored inside input choice below) (leaves_too_much x words input s) refl in
        (ap (step_kept (record { 0 = s })) answer ∙ pick-map (step_kept (record { 0 = s })) (leaves_too_much x words input s) _ _ refl, after)

    -- what is made of a decision is made of each of its answers
    mapped : {A : Type 0} (f : Result Sending Unsent → A) →
        let s = sent x words input choice in
        f (decided_of x words (holds x words).b input choice)
        ≡ pick (undecidable x words (holds x words).b input choice) (f (Err Unsent.Undecidable))
        (pick (not (number_in_range x.operator)) (f (Err Unsent.OutOfRange))
        (pick (choice_above_with x words (holds x words).b input choice) (f (Err Unsent.ChoiceAbove))
        (f (Ok (record { output = record { 0 = s }; kept = record { 0 = (holds_next x words input s).b }; beside = record { 0 = (holds_next x words input s).h } })))))
    unfolding decided_of sent_with sent holds_next holds
    mapped f =
        let s = sent x words input choice in
        pick-map f (undecidable x words (holds x words).b input choice) (Err Unsent.Undecidable) _
        (pick-map f (not (number_in_range x.operator)) (Err Unsent.OutOfRange) _
        (pick-map f (choice_above_with x words (holds x words).b input choice) (Err Unsent.ChoiceAbove)
        (Ok (record { output = record { 0 = s }; kept = record { 0 = (holds_next x words input s).b }; beside = record { 0 = (holds_next x words input s).h } })) refl))

    joined : Answered (step_decided x words (decided_of x words (holds x words).b input choice)) (words_decided x words input (decided_of x words (holds x words).b input choice))
    unfolding decided_of sent_with sent holds_next holds step_of words_after
    joined = (
      mapped (step_decided x words) ∙ same_tests Err _ _ (λ inside below. (kept_then inside below).0),
      mapped (words_decided x words input) ∙ same_tests (λ why. words) _ _ (λ inside below. (kept_then inside below).1),
    )

  module _ (within : input ≤ largest_amount) {held : Units} (found : Some held ≡ stored_of x words) where
    pub step-decided : {decided : Result Sending Unsent} → decided ≡ decided_of x words held.0 input choice → Answered (step_decided x words decided) (words_decided x words input decided)
    step-decided answered =
        let (stored, same) = stored-holds x words found in
        rw (answered ∙ ap (λ (b : ℕ). decided_of x words b input choice) same) (joined within stored)

    pub step-kept : {sending : Sending} → Ok sending ≡ decided_of x words held.0 input choice
        → {answer : Result SingleOperator Unsent} → answer ≡ kept_of x words sending.kept.0 sending.beside.0 → {after : List ℕ} → after ≡ words_kept x words input sending.kept.0 sending.beside.0
        → Answered (step_kept sending.output answer) after
    step-kept {sending} decided answered left = let (same, words_same) = step-decided decided in (ap (step_kept sending.output) answered ∙ same, left ∙ words_same)
