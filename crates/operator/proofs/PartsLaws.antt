-- A step in its parts: what a decision and the keeping answer, from their tests in plain facts, and what they answer where what is stored can be used.
use Rattle.std.proofs.Common.{◌≡◌, ℕ, suc, ◌+◌, ◌-◌, ◌<◌, ◌≤◌, min, Bool, true, false, not, ◌||◌, ltb, List, [], ◌∷◌, length, sym, refl, ap, ◌∙◌, ap₂, arith, ltb-false, ltb-true, le-ltb, lt-ltb, Result, Ok, Err}
use Rattle.quantity.specs.Choice.{pick, either, any_of}
use Rattle.quantity.specs.Limits.{largest_amount}
use Rattle.quantity.specs.Sums.{total, list_of}
use Rattle.quantity.proofs.Laws.{pick_true, pick-false, either-false}
use Rattle.quantity.proofs.Sums.{total-suc, total-le, total_first, length-list_of, get_d-list_of, list_of-ext}
use Rattle.operator.specs.Held.{Held, keeps}
use Rattle.operator.specs.Limiter.{limiter_after}
use Rattle.operator.specs.Compactor.{compactor_after}
use Rattle.operator.specs.Expander.{expander_after}
use Rattle.operator.specs.Filter.{filter_after}
use Rattle.operator.specs.Delayer.{of_age, older_than, stays_of, delayer_after}
use Rattle.operator.specs.Operators.{least_output, greatest_output, held_after, number_in_range}
use Rattle.operator.specs.Whole.{Whole}
use Rattle.words.specs.Stored.{word_at}
use Rattle.operator.specs.Single.{word_count, words_used, uses_held, holds, choice_above, leaves_too_much, sent, holds_next, state_next, words_next}
use Rattle.operator.specs.Parts.{most_on_the_way, holds_with, undecidable, sent_with, choice_above_with, holds_once, decided_of, newest_of, state_kept, word_kept, kept_of, words_kept}
use Rattle.operator.specs.declared.Operator.{Operator}
use Rattle.operator.specs.declared.Operator.TheVariants.{Limiter, Compactor, Expander, Filter, Delayer}
use Rattle.operator.specs.declared.SingleOperator.{SingleOperator}
use Rattle.operator.specs.declared.parts.Unsent.{Unsent}
use Rattle.operator.proofs.Conservation.{greatest-le-there, least-le-greatest}
use Rattle.operator.proofs.Steps.{after-b}
use Rattle.words.proofs.StoredLaws.{Fit, unfit_tests, fit, amounts-tested, none-unfit, any_of-append, either-last}
use Rattle.operator.proofs.SingleLaws.{Usable, b-le, beside-le, word_none, whole-stored}

-- What a decision answers.

-- what can be decided, in plain facts
pub record Decidable (x : SingleOperator) (words : List ℕ) (b input choice : ℕ) : Type 0 where
  pub fits : Fit (length words) word_count x.slot.0 b x.beside.0
  pub input_le : input ≤ most_on_the_way
  pub choice_le : choice ≤ largest_amount

or-tests : (t u v : Bool) → (t || u || v) ≡ either t (any_of (u ∷ v ∷ []))
or-tests true u v = refl
or-tests false true v = refl
or-tests false false true = refl
or-tests false false false = refl

module _ (x : SingleOperator) (words : List ℕ) (b input choice : ℕ) where
  undecidable-tests : undecidable x words b input choice
      ≡ either (any_of (unfit_tests (length words) word_count x.slot.0 b x.beside.0)) (any_of (ltb most_on_the_way input ∷ ltb largest_amount choice ∷ []))
  unfolding undecidable
  undecidable-tests = any_of-append (unfit_tests (length words) word_count x.slot.0 b x.beside.0) (ltb most_on_the_way input ∷ ltb largest_amount choice ∷ [])

  pub undecidable-joined : {unfit : Bool} → unfit ≡ any_of (unfit_tests (length words) word_count x.slot.0 b x.beside.0)
      → (unfit || ltb most_on_the_way input || ltb largest_amount choice) ≡ undecidable x words b input choice
  undecidable-joined tested =
      or-tests _ (ltb most_on_the_way input) (ltb largest_amount choice)
      ∙ ap (λ (t : Bool). either t (any_of (ltb most_on_the_way input ∷ ltb largest_amount choice ∷ []))) tested
      ∙ sym undecidable-tests

  pub undecidable-choice : any_of (unfit_tests (length words) word_count x.slot.0 b x.beside.0) ≡ false → input ≤ most_on_the_way
      → ltb largest_amount choice ≡ undecidable x words b input choice
  undecidable-choice passed within =
      sym
      (undecidable-tests
      ∙ ap₂ either passed
      (ap (λ (t : Bool). either t (either (ltb largest_amount choice) false)) (le-ltb most_on_the_way input within) ∙ either-last (ltb largest_amount choice)))

  pub decidable : undecidable x words b input choice ≡ false → Decidable x words b input choice
  decidable passed =
      let (fit-test, rest) = either-false (any_of (unfit_tests (length words) word_count x.slot.0 b x.beside.0)) _ (sym undecidable-tests ∙ passed) in
      let (input-test, rest) = either-false (ltb most_on_the_way input) _ rest in
      let (choice_test, rest) = either-false (ltb largest_amount choice) _ rest in
      record {
        fits = fit _ _ _ _ _ fit-test;
        input_le = ltb-false most_on_the_way input input-test;
        choice_le = ltb-false largest_amount choice choice_test;
      }

  pub decided-undecidable : undecidable x words b input choice ≡ true → Err Unsent.Undecidable ≡ decided_of x words b input choice
  unfolding decided_of
  decided-undecidable test = rw test

  module _ (passed : undecidable x words b input choice ≡ false) where
    pub decided-outside : number_in_range x.operator ≡ false → Err Unsent.OutOfRange ≡ decided_of x words b input choice
    unfolding decided_of
    decided-outside outside = rw (passed, outside)

    module _ (inside : number_in_range x.operator ≡ true) (l g : ℕ) (low_same : l ≡ least_output x.operator x.slot.0 (holds_with x words b) input)
        (high_same : g ≡ greatest_output x.operator x.slot.0 (holds_with x words b) input) where
      choice-tested : choice_above_with x words b input choice ≡ ltb (g - l) choice
      unfolding choice_above_with
      choice-tested = ap₂ (λ (l g : ℕ). ltb (g - l) choice) (sym low_same) (sym high_same)

      sent-same : l + choice ≡ sent_with x words b input choice
      unfolding sent_with
      sent-same = ap (λ (l : ℕ). l + choice) low_same

      pub decided-above : g - l < choice → Err Unsent.ChoiceAbove ≡ decided_of x words b input choice
      unfolding decided_of
      decided-above above = rw (passed, inside, choice-tested ∙ lt-ltb (g - l) choice above)

      pub decided-sends : choice ≤ g - l → (kept h : ℕ) → kept ≡ b + input - (l + choice) → ((s : ℕ) → h ≡ (held_after x.operator (holds_with x words b) input s).h)
          → Ok (record { output = record { 0 = l + choice }; kept = record { 0 = kept }; beside = record { 0 = h } }) ≡ decided_of x words b input choice
      unfolding decided_of
      decided-sends below kept h Kept-same h-same =
          let s = sent_with x words b input choice in
          let stays : kept ≡ (holds_once x words b input s).b = Kept-same ∙ ap (λ (n : ℕ). b + input - n) sent-same ∙ sym (after-b x.operator (holds_with x words b) input s) in
          rw (passed, inside, choice-tested ∙ le-ltb (g - l) choice below) (rw (sent-same, stays, h-same s) refl)

-- What keeping answers.

module _ (x : SingleOperator) (words : List ℕ) (input kept beside : ℕ) where
  -- what keeping answers, and what the words are then
  abbrev pub Keeping : Result SingleOperator Unsent → List ℕ → Type 0
  Keeping answer after = (answer ≡ kept_of x words kept beside) × (after ≡ words_kept x words input kept beside)

  pub kept-unfit : any_of (unfit_tests (length words) word_count x.slot.0 kept beside) ≡ true → Keeping (Err Unsent.Unfit) words
  unfolding kept_of words_kept
  kept-unfit test = (sym (pick_true _ _ _ test), sym (pick_true _ _ _ test))

  module _ (passed : any_of (unfit_tests (length words) word_count x.slot.0 kept beside) ≡ false) where
    pub kept-outside : number_in_range x.operator ≡ false → Keeping (Err Unsent.OutOfRange) words
    unfolding kept_of words_kept
    kept-outside outside = (
      sym (pick-false _ _ _ passed ∙ pick_true _ _ _ (ap not outside)),
      sym (pick-false _ _ _ passed ∙ pick_true _ _ _ (ap not outside)),
    )

    module _ (inside : number_in_range x.operator ≡ true) where
      keeping : Keeping (Ok (state_kept x kept beside)) (list_of (word_kept x words input kept) word_count)
      unfolding kept_of words_kept
      keeping = (
        sym (pick-false _ _ _ passed ∙ pick-false _ _ _ (ap not inside)),
        sym (pick-false _ _ _ passed ∙ pick-false _ _ _ (ap not inside)),
      )

      module _ (after : List ℕ) (size : length after ≡ word_count)
          (used : (a : ℕ) → a < words_used x.operator → word_at after a ≡ min (of_age (holds x words) input a) (kept - total (of_age (holds x words) input) a))
          (unused : (a : ℕ) → words_used x.operator ≤ a → word_at after a ≡ word_at words a) where
        word-kept : (a : ℕ) (t : Bool) → ltb a (words_used x.operator) ≡ t → word_at after a ≡ pick t (newest_of x words input kept a) (word_at words a)
        unfolding newest_of
        word-kept a true e = used a (ltb-true a (words_used x.operator) e)
        word-kept a false e = unused a (ltb-false a (words_used x.operator) e)

        pub kept-newest : (field : ℕ) → field ≡ pick (uses_held x.operator) kept 0
            → Keeping (Ok (record { operator = x.operator; slot = record { 0 = x.slot.0 + 1 }; held = record { 0 = field }; beside = record { 0 = beside } })) after
        unfolding state_kept word_kept
        kept-newest field field-same = (
          ap (λ (f : ℕ). Ok (record { operator = x.operator; slot = record { 0 = x.slot.0 + 1 }; held = record { 0 = f }; beside = record { 0 = beside } })) field-same ∙ keeping.0,
          list_of-ext 0 _ word_count after size (λ a less. word-kept a (ltb a (words_used x.operator)) refl) ∙ keeping.1,
        )

-- What stays of each age.

pick_first : (t : Bool) (a b c : ℕ) → (t ≡ true → a ≡ b) → pick t a c ≡ pick t b c
pick_first true a b c same = same refl
pick_first false a b c same = refl

-- of the units of age a, o of them, with n younger and T in all: what s leaves of them, oldest first, is what of T less s the younger ones leave room for
room : (o n T s : ℕ) → n + o ≤ T → s ≤ T → o - (s - (T - (n + o))) ≡ min o (T - s - n)
room o n T s within fits = omega arith

stays-newest : (d : ℕ) (x : Held) (r s a : ℕ) → x.b ≡ total x.past d → s ≤ x.b + r → a < d → stays_of d x r s a ≡ min (of_age x r a) (x.b + r - s - total (of_age x r) a)
unfolding stays_of older_than of_age
stays-newest d x r s a whole fits younger =
    let all : total (of_age x r) (suc d) ≡ x.b + r = omega (arith, total_first (of_age x r) d) in
    let up : total (of_age x r) (suc a) ≡ total (of_age x r) a + of_age x r a = total-suc (of_age x r) a in
    let within : total (of_age x r) (suc a) ≤ total (of_age x r) (suc d) = total-le (of_age x r) (omega arith) in
    rw (all, up) (room (of_age x r a) (total (of_age x r) a) (x.b + r) s (omega arith) fits)

past_next : (op : Operator) (x : Held) (r s a : ℕ) → Whole op x → s ≤ x.b + r
    → (held_after op x r s).past a ≡ pick (ltb a (words_used op)) (min (of_age x r a) (x.b + r - s - total (of_age x r) a)) 0
unfolding held_after limiter_after compactor_after expander_after filter_after delayer_after keeps words_used
past_next (Limiter R) x r s a whole fits = sym (pick-false _ _ _ (le-ltb a 0 (omega arith)))
past_next (Compactor m) x r s a whole fits = sym (pick-false _ _ _ (le-ltb a 0 (omega arith)))
past_next (Expander m) x r s a whole fits = sym (pick-false _ _ _ (le-ltb a 0 (omega arith)))
past_next (Filter R) x r s a whole fits = sym (pick-false _ _ _ (le-ltb a 0 (omega arith)))
past_next (Delayer d) x r s a whole fits = pick_first (ltb a d.0) _ _ 0 (λ e. stays-newest d.0 x r s a whole fits (ltb-true a d.0 e))

-- What the parts answer where what is stored can be used.

module _ (x : SingleOperator) (words : List ℕ) (stored : Usable x words) where
  -- the least output and a choice that is not above greatest minus least are there to send
  pub sent-fits : number_in_range x.operator ≡ true → (input choice : ℕ) → choice_above x words input choice ≡ false → sent x words input choice ≤ (holds x words).b + input
  unfolding choice_above sent
  sent-fits inside input choice below =
      let op = x.operator in
      let t = x.slot.0 in
      let held = holds x words in
      omega (
        arith,
        ltb-false (greatest_output op t held input - least_output op t held input) choice below,
        least-le-greatest op t held input (whole-stored x words stored inside),
        greatest-le-there op t held input,
      )

  -- what cannot be decided is then a choice above the limit alone
  pub choice-alone : (input choice : ℕ) → input ≤ most_on_the_way → undecidable x words (holds x words).b input choice ≡ ltb largest_amount choice
  choice-alone input choice within =
      let fits : Fit (length words) word_count x.slot.0 (holds x words).b x.beside.0 = record {
        sized = stored.sized;
        slot_left = stored.slot_left;
        first_le = b-le x words stored;
        second_le = beside-le x words stored;
      } in
      sym (undecidable-choice x words (holds x words).b input choice (none-unfit _ _ _ _ _ fits) within)

  module _ (inside : number_in_range x.operator ≡ true) where
    pub decided-next : (input choice : ℕ) → input ≤ most_on_the_way → choice ≤ largest_amount
        → decided_of x words (holds x words).b input choice
        ≡ pick (choice_above x words input choice) (Err Unsent.ChoiceAbove)
        (Ok (record { output = record { 0 = sent x words input choice }; kept = record { 0 = (holds_next x words input (sent x words input choice)).b }; beside = record { 0 = (holds_next x words input (sent x words input choice)).h } }))
    unfolding decided_of choice_above_with sent_with choice_above sent holds_next holds
    decided-next input choice within fits =
        pick-false _ _ _ (choice-alone input choice within ∙ le-ltb largest_amount choice fits) ∙ pick-false _ _ _ (ap not inside)

    module _ (input s : ℕ) (fits : s ≤ (holds x words).b + input) where
      abbrev b-next : ℕ
      b-next = (holds_next x words input s).b

      abbrev h-next : ℕ
      h-next = (holds_next x words input s).h

      newest-same : (a : ℕ) → newest_of x words input b-next a ≡ min (of_age (holds x words) input a) ((holds x words).b + input - s - total (of_age (holds x words) input) a)
      unfolding newest_of holds_next
      newest-same a =
          ap (λ (n : ℕ). min (of_age (holds x words) input a) (n - total (of_age (holds x words) input) a)) (after-b x.operator (holds x words) input s)

      word-picked : (a : ℕ) (t : Bool) → ltb a (words_used x.operator) ≡ t
          → pick t (newest_of x words input b-next a) (word_at words a)
          ≡ pick t (min (of_age (holds x words) input a) ((holds x words).b + input - s - total (of_age (holds x words) input) a)) 0
      word-picked a true e = newest-same a
      word-picked a false e = word_none x words stored a (ltb-false a (words_used x.operator) e)

      word-next : (a : ℕ) → word_kept x words input b-next a ≡ (holds_next x words input s).past a
      unfolding word_kept holds_next
      word-next a =
          word-picked a (ltb a (words_used x.operator)) refl
          ∙ sym (past_next x.operator (holds x words) input s a (whole-stored x words stored inside) fits)

      words-next : list_of (word_kept x words input b-next) word_count ≡ words_next x words input s
      unfolding words_next
      words-next =
          list_of-ext 0 _ word_count (list_of (word_kept x words input b-next) word_count) (length-list_of _ word_count)
          (λ a less. get_d-list_of 0 (word_kept x words input b-next) word_count a less ∙ word-next a)

      state-next : state_kept x b-next h-next ≡ state_next x words input s
      unfolding state_kept state_next
      state-next = refl

      left-tested : any_of (unfit_tests (length words) word_count x.slot.0 b-next h-next) ≡ leaves_too_much x words input s
      unfolding leaves_too_much
      left-tested = amounts-tested (length words) word_count x.slot.0 b-next h-next stored.sized stored.slot_left

      pub kept_next : (holds_next x words input s).b ≤ largest_amount → (holds_next x words input s).h ≤ largest_amount
          → (kept_of x words (holds_next x words input s).b (holds_next x words input s).h ≡ Ok (state_next x words input s))
          × (words_kept x words input (holds_next x words input s).b (holds_next x words input s).h ≡ words_next x words input s)
      kept_next b-fits h_fits =
          let tested = none-unfit (length words) word_count x.slot.0 b-next h-next (record { sized = stored.sized; slot_left = stored.slot_left; first_le = b-fits; second_le = h_fits }) in
          let (answer, after) = keeping x words input b-next h-next tested inside in
          (sym answer ∙ ap Ok state-next, sym after ∙ words-next)

      -- 1, tested last, is the test of what is kept
      pub kept-or-unfit : (more : Bool) → leaves_too_much x words input s ≡ more
          → (kept_of x words (holds_next x words input s).b (holds_next x words input s).h ≡ pick more (Err Unsent.Unfit) (Ok (state_next x words input s)))
          × (words_kept x words input (holds_next x words input s).b (holds_next x words input s).h ≡ pick more words (words_next x words input s))
      kept-or-unfit true leaves =
          let (answer, after) = kept-unfit x words input b-next h-next (left-tested ∙ leaves) in
          (sym answer, sym after)
      kept-or-unfit false leaves =
          let fits = fit (length words) word_count x.slot.0 b-next h-next (left-tested ∙ leaves) in
          kept_next fits.first_le fits.second_le
