-- Where run and words are joined to the account and to what arrived, a slot call answers what the account answers, and leaves them joined again.
use mathlib.Core.Path.{◌≡◌, refl, ap, ap₂, sym, subst, ◌∙◌}
use mathlib.Core.Bool.{Bool, true, false, not}
use mathlib.Core.List.{List, [], ◌∷◌, ◌++◌}
use Rattle.std.specs.Prelude.{Ok, Err}
use mathlib.Core.Logic.{◌↔◌, ⊎_elim}
use Prim.Native.Nat.{ℕ, zero, suc, ◌-◌, ◌≤◌, ◌<◌}
use native.Mathlib.Nat.{lt_of_not-le, le_refl}
use native.Mathlib.Decide.{dec_le}
use native.Mathlib.Omega.{arith}
use lib.ListN.{length}
use lib.Dec.{leb, ltb, eqb}
use borrow.Author.Tests.{lt-ltb, le-ltb, ltb-false}
use Rattle.quantity.specs.Choice.{both}
use Rattle.quantity.specs.Limits.{largest_amount, last_slot, most_operators}
use Rattle.quantity.specs.Sums.{every}
use Rattle.quantity.specs.Refusals.{Case, ◌⇒◌}
use Rattle.quantity.specs.declared.refusal.Refusal.{Refusal}
use Rattle.quantity.specs.declared.refusal.Refusal.TheVariants.{Unusable, ChoiceAboveGreatest}
use Rattle.quantity.proofs.Laws.{either_first, either_second}
use Rattle.quantity.proofs.Sums.{every_holds}
use Rattle.quantity.proofs.Refusals.{NoneStands, none-of-both, first_of-none, FirstIs, none-or-first, first-answered, first-of-more}
use Rattle.operator.specs.Held.{nothing}
use Rattle.operator.specs.Operators.{number_in_range}
use Rattle.flow.specs.Declarations.{declaration_in_range, rows_in_order, unused_clear, class_of}
use Rattle.flow.specs.Classes.{Positive, Keeps}
use Rattle.flow.specs.Flows.{flow_of}
use Rattle.operator.specs.Single.{uses_held}
use Rattle.operator.specs.Ring.{path_choice_above}
use Rattle.meter.specs.Meter.{meter_word_count, meter_unusable}
use Rattle.meter.proofs.Metering.{sound-usable, sound-keeps}
use Rattle.operator.proofs.RingLaws.{path-stored-usable}
use Rattle.operator.proofs.PathStands.{fields-new, fields-usable, path-stands-usable}
use Rattle.sheet.specs.Paths.{Path}
use Rattle.figures.specs.Answers.{operator_at, held_at}
use Rattle.run.specs.declared.Run.{Run}
use Rattle.run.specs.Calls.{Call, choice_for, choices_miscounted}
use Rattle.run.specs.Account.{Account, arriving, slots_used_up, breaks_declaration, choice_too_large, choices_too_large, account_cases, account_answer, account_next, account_after}
use Rattle.run.specs.Runs.{run_word_count, meter_words, operator_words, no_stage, no_operator, meter_in, operator_of, operator_in, stage_misplaced, stage_unusable, stage_fits, run_unusable}
use Rattle.run.specs.Slots.{input_into, slot_breaks, choice_above_at, choice_cases, leaves_too_much_at, slot_leaves_too_much, slot_cases, taken_slot, slotted_of, output_of, run_behind, words_slotted}
use Rattle.run.specs.Lists.{arrived_in}
use Rattle.run.proofs.UsableRun.{run-usable}
use Rattle.run.proofs.SlotAnswers.{slot-taken, words-taken, slot-refused, words-refused}
use Rattle.run.proofs.AccountCalls.{arrived_next, account-taken, arrives-taken, account-refused, arrives-refused, declaration-tested}
use Rattle.run.proofs.AccountFlows.{AccountKept}
use Rattle.run.proofs.Parts.{length-operator_words}
use Rattle.run.proofs.Joined.{Joined, meter_fed, slot_same, least-same, greatest-same, into-same, next-same, joined-next}

-- two tests that fail just where the same holds
same_test : {P : Type 0} (a b : Bool) → (a ≡ false) ↔ P → (b ≡ false) ↔ P → a ≡ b
same_test true true p q = refl
same_test true false p q = p.1 (q.0 refl)
same_test false true p q = sym (q.1 (p.0 refl))
same_test false false p q = refl

-- what is known of a path that opening lets pass
pub record Passes (path : Path) : Type 0 where
  pub some : 1 ≤ length path.operators
  pub few : length path.operators ≤ most_operators
  pub large : Positive (class_of path.declaration)
  pub declared : declaration_in_range path.declaration ≡ true
  pub ordered : rows_in_order path.declaration ≡ true
  pub unused : unused_clear path.declaration ≡ true
  pub number : (k : ℕ) → k < length path.operators → number_in_range (operator_at path k) ≡ true
  pub held : (k : ℕ) → k < length path.operators → held_at path k ≤ largest_amount

module _ (path : Path) (passes : Passes path) (run : Run) (words : List ℕ) (account : Account) (arrived : ℕ → List ℕ) (joined : Joined path run words account arrived) (kept : AccountKept path account arrived) where
  -- a stage of the path is usable: what it stands for is within its held figure
  stage-usable : account.slot ≤ last_slot → (k : ℕ) → k < length path.operators → stage_fits run words k ≡ true
  unfolding stage_fits stage_misplaced stage_unusable
  stage-usable left k less =
      let small = passes.held k less in
      rw (
        lt-ltb k run.count (rw joined.counted less),
        joined.operator k less,
        passes.number k less,
        path-stored-usable (operator_in run k) (operator_words words k)
            (path-stands-usable (flow_of (arrived k)) (flow_of (arrived (suc k))) account.slot (operator_in run k) (operator_words words k) (account.held k) (joined.stands k less) (joined.holds k less)
            (rw (slot_same path run words account arrived joined passes.number k less) left)
            (let within = kept.held_within k less in omega arith) (let within = kept.beside_within k less in omega arith)),
      )

  -- and one behind them: it is empty, and its words are 0
  empty-usable : account.slot ≤ last_slot → (k : ℕ) → length path.operators ≤ k → k < most_operators → stage_fits run words k ≡ true
  unfolding stage_fits stage_misplaced stage_unusable operator_in no_operator uses_held
  empty-usable left k behind less =
      rw (
        le-ltb k run.count (rw joined.counted behind),
        joined.empty k behind less,
        path-stored-usable (operator_of no_stage run.slot) (operator_words words k)
            (fields-usable (operator_of no_stage run.slot) (operator_words words k) refl nothing
            (fields-new no_stage.operator run.slot (operator_words words k) refl (length-operator_words words joined.sized k less) (joined.clear k behind less))
            (rw joined.slot left) (omega arith) (omega arith)),
      )

  stages-usable : account.slot ≤ last_slot → every (stage_fits run words) most_operators ≡ true
  stages-usable left =
      every_holds (stage_fits run words) most_operators
      (λ k less.
      elim (dec_le (length path.operators) k) [
        | yes behind ↦ empty-usable left k behind less
        | no inside ↦ stage-usable left k (lt_of_not-le inside)
      ])

  -- 1 of what is lent and stored stands only where no slot number is left
  unusable-where-used-up : ltb last_slot account.slot ≡ true → run_unusable run words ≡ true
  unfolding run_unusable meter_unusable meter_in
  unusable-where-used-up used =
      either_second (not (eqb (length words) run_word_count)) _
      (either_second (not (both (leb 1 run.count) (leb run.count most_operators))) _
      (either_second (not (declaration_in_range run.declaration)) _
      (either_second (not (rows_in_order run.declaration)) _
      (either_first _ _
      (either_second (not (eqb (length (meter_words words)) meter_word_count)) _ (either_first (ltb last_slot run.slot.0) _ (rw joined.slot used)))))))

  usable-where-left : ltb last_slot account.slot ≡ false → run_unusable run words ≡ false
  usable-where-left left =
      let within = ltb-false last_slot account.slot left in
      run-usable run words (
      record {
        sized = joined.sized;
        some = rw joined.counted passes.some;
        few = rw joined.counted passes.few;
        declared = rw joined.declared passes.declared;
        ordered = rw joined.declared passes.ordered;
        meter = sound-usable (meter_fed run words account.entered) joined.meter (rw kept.counted within);
        stages = stages-usable within;
      })

  unusable-same : run_unusable run words ≡ slots_used_up account
  unfolding slots_used_up
  unusable-same = by-test (ltb last_slot account.slot) refl
    where
      by-test : (t : Bool) → ltb last_slot account.slot ≡ t → run_unusable run words ≡ t
      by-test true used = unusable-where-used-up used
      by-test false left = usable-where-left left

  module _ (call : Call) where
    -- 13: the meter's test and the account's decide the same, that what entered and this input keep the declaration
    meter-decides : (slot_breaks run words call ≡ false) ↔ Keeps (class_of run.declaration) (flow_of (account.entered ++ (call.input ∷ [])))
    unfolding slot_breaks meter_in
    meter-decides = sound-keeps (meter_fed run words account.entered) joined.meter call.input

    account-decides : (breaks_declaration path account call ≡ false) ↔ Keeps (class_of run.declaration) (flow_of (account.entered ++ (call.input ∷ [])))
    account-decides = rw joined.declared (declaration-tested path account call passes.large)

    breaks-same : slot_breaks run words call ≡ breaks_declaration path account call
    breaks-same = same_test (slot_breaks run words call) (breaks_declaration path account call) meter-decides account-decides

    -- 14: so do the tests of a choice
    choice-same : (k : ℕ) → k < length path.operators → choice_above_at run words call k ≡ choice_too_large path account call k
    unfolding choice_above_at choice_too_large path_choice_above
    choice-same k less =
        let r = into-same path run words account arrived joined passes.number call k (omega arith) in
        rw r
        (ap₂ (λ (low high : ℕ). ltb (high - low) (choice_for call k)) (least-same path run words account arrived joined passes.number k less (arriving path account call k))
        (greatest-same path run words account arrived joined passes.number k less (arriving path account call k)))

    choices-same : (n : ℕ) → n ≤ length path.operators → choice_cases run words call n ≡ choices_too_large path account call n
    unfolding choice_cases choices_too_large
    choices-same zero h = refl
    choices-same (suc n) h = ap₂ (λ (cs : List Case) (t : Bool). cs ++ ((t ⇒ ChoiceAboveGreatest n) ∷ [])) (choices-same n (omega arith)) (choice-same n h)

    -- the refusals of a slot are the account's, and behind them 1 for what would be left
    cases_same : slot_cases run words call ≡ account_cases path account call ++ ((slot_leaves_too_much run words call ⇒ Unusable) ∷ [])
    cases_same =
        rw (
          ap (λ (n : ℕ). choices_miscounted n call) joined.counted,
          unusable-same,
          breaks-same,
          ap (choice_cases run words call) joined.counted ∙ choices-same (length path.operators) (le_refl _),
        )

    module _ (next : NoneStands (account_cases path account call) → AccountKept path (account_next path account call) (arrived_next path account call arrived)) where
      -- a call that the account takes leaves nothing above the limit
      leaves_none : NoneStands (account_cases path account call) → slot_leaves_too_much run words call ≡ false
      unfolding slot_leaves_too_much leaves_too_much_at
      leaves_none taken =
          ap not
          (every_holds (λ k. not (leaves_too_much_at run words call k)) run.count
          (λ k counts.
          let less : k < length path.operators = rw joined.counted at counts in
          let held = next-same path run words account arrived joined passes.number call k less in
          let small = passes.held k less in
          let within = (next taken).held_within k less in
          let beside = (next taken).beside_within k less in
          rw (held, le-ltb largest_amount ((account_next path account call).held k).b (omega arith), le-ltb largest_amount ((account_next path account call).held k).h (omega arith))))

      none-stands : NoneStands (account_cases path account call) → NoneStands (slot_cases run words call)
      none-stands taken = subst NoneStands (sym cases_same) (none-of-both (account_cases path account call) _ taken (leaves_none taken, tt))

      first-stands : (why : Refusal) → FirstIs (account_cases path account call) why → FirstIs (slot_cases run words call) why
      first-stands why first = subst (λ (cs : List Case). FirstIs cs why) (sym cases_same) (first-of-more why (account_cases path account call) _ first)

      pub answer-same : output_of (slotted_of run words call) ≡ account_answer path account call
      unfolding account_answer taken_slot
      answer-same =
          ⊎_elim
          (λ taken.
          ap output_of (slot-taken run words call (none-stands taken))
          ∙ ap (λ (s : ℕ). Ok (record { 0 = s })) (ap (input_into run words call) joined.counted ∙ into-same path run words account arrived joined passes.number call (length path.operators) (le_refl _))
          ∙ sym (first_of-none Err _ (account_cases path account call) taken))
          (λ (why, first).
          ap output_of (slot-refused run words call why (first-stands why first))
          ∙ sym (first-answered Err _ why (account_cases path account call) first))
          (none-or-first (account_cases path account call))

      pub joined-after : Joined path (run_behind run (slotted_of run words call)) (words_slotted run words call) (account_after path account call) (λ k. arrived k ++ arrived_in path account call k)
      unfolding taken_slot
      joined-after =
          ⊎_elim
          (λ taken.
          rw (
            slot-taken run words call (none-stands taken),
            words-taken run words call (none-stands taken),
            account-taken path account call taken,
            arrives-taken path account call taken arrived,
          )
          (joined-next path run words account arrived joined passes.number call passes.few (breaks-same ∙ taken.1.1.1.0) kept (next taken)))
          (λ (why, first).
          rw (
            slot-refused run words call why (first-stands why first),
            words-refused run words call why (first-stands why first),
            account-refused path account call why first,
            arrives-refused path account call why first arrived,
          )
          joined)
          (none-or-first (account_cases path account call))
