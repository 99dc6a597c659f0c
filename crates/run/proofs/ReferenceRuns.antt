-- A path of frames and one of stamps on the account, as one table that is computed from the definitions: what each call of a list answers, and what is held at the end.
-- Behind it, lent runs of a delayer (document 02, item 10): its totals wrap, or its ring's words are such as no slot wrote.
use mathlib.Core.Path.{◌≡◌, refl}
use mathlib.Core.List.{List, [], ◌∷◌, ◌++◌}
use Rattle.std.specs.Prelude.{Result, Ok, Err}
use Prim.Native.Nat.{ℕ, ◌+◌}
use lib.ListN.{length, replicate}
use Rattle.quantity.specs.Ranges.{in_range}
use Rattle.quantity.specs.Sums.{total, every, list_of}
use Rattle.quantity.specs.Refusals.{refusal_number, refusal_place}
use Rattle.operator.specs.Held.{keeps}
use Rattle.operator.specs.Compactor.{compactor_least, compactor_greatest, compactor_after}
use Rattle.operator.specs.Expander.{expander_least, expander_greatest, expander_after}
use Rattle.operator.specs.Filter.{beside_after, filter_least, filter_greatest, filter_after}
use Rattle.operator.specs.Delayer.{of_age, older_than, stays_of, delayer_least, delayer_greatest, delayer_after}
use Rattle.flow.specs.declared.Kind.{Kind}
use Rattle.words.specs.Stored.{stored_fits, word_fits}
use Rattle.operator.specs.Single.{words_used, uses_held, uses_beside}
use Rattle.operator.specs.Ring
use Rattle.meter.specs.Meter
use Rattle.sheet.specs.Bodies.{part}
use Rattle.operator.specs.Operators.{least_output, greatest_output, held_after, number_in_range, compactor, expander, filter, delayer}
use Rattle.flow.specs.Keeping.{totals_to, keeps_to, keeps_class}
use Rattle.flow.specs.Declarations.{row_count, row_at, row_in_range, declaration_in_range, rows_in_order, row_clear, rows_clear_from, unused_clear, of_one_row, class_of}
use Rattle.sheet.specs.Paths.{Path}
use Rattle.figures.specs.Answers.{operator_at}
use Rattle.figures.proofs.ReferencePaths.{path_of, path, rows_path, camera}
use Rattle.run.specs.Calls.{Call, choices_miscounted, amount_too_large}
use Rattle.run.specs.Account.{Account, new_account, arriving, slots_used_up, breaks_declaration, choice_too_large, choices_too_large, account_answer, account_next, account_after}
use Rattle.run.specs.Runs.{meter_words, operator_words, no_stage, no_operator, stage_at, meter_in, operator_in, stage_misplaced, stage_unusable, stage_fits, run_unusable}
use Rattle.run.specs.Slots.{input_into, slot_breaks, choice_above_at, choice_cases, run_holds_next, leaves_too_much_at, slot_leaves_too_much, operator_next, stage_next, run_next, operator_word_next, word_next, taken_slot, slotted_of, output_of}
use Rattle.run.specs.Watching.{run_holds}
use Rattle.run.specs.Lists.{account_all}
use Rattle.quantity.specs.declared.Units.{Units}
use Rattle.quantity.specs.declared.refusal.Refusal.{Refusal}
use Rattle.run.specs.declared.Run.{Run}

-- what a call answers
pub data Answer : Type 0 where
  sent : ℕ → Answer
  refused : ℕ → ℕ → Answer

abbrev pub answer_of : Result Units Refusal → Answer
answer_of (Ok output) = sent output.0
answer_of (Err why) = refused (refusal_number why) (refusal_place why)

pub answers : Path → Account → List Call → List Answer
answers path account [] = []
answers path account (call ∷ calls) = answer_of (account_answer path account call) ∷ answers path (account_after path account call) calls

-- what is answered, and what each operator holds then
pub record Ran : Type 0 where
  pub answered : List Answer
  pub held : List ℕ

pub ran : Path → List Call → Ran
ran path calls = record { answered = answers path new_account calls; held = list_of (λ k. ((account_all path new_account calls).held k).b) (length path.operators) }

abbrev pub given : ℕ → List ℕ → Call
given input choices = record { input = input; choices = choices }

pub computed : List Ran
computed =
    ran (path 10 30 30 (compactor 10 ∷ expander 10 ∷ compactor 10 ∷ expander 10 ∷ []))
    (given 30 (0 ∷ 0 ∷ 0 ∷ []) ∷ given 1_073_741_824 (0 ∷ 0 ∷ 0 ∷ 0 ∷ []) ∷ given 31 (0 ∷ 0 ∷ 0 ∷ 1 ∷ []) ∷ given 30 (0 ∷ 0 ∷ 0 ∷ 1 ∷ []) ∷ given 30 (0 ∷ 0 ∷ 0 ∷ 0 ∷ []) ∷ given 1 (0 ∷ 0 ∷ 0 ∷ 0 ∷ []) ∷ [])
    ∷ ran (path_of Kind.Uniform 2 4 30 (filter 2 ∷ delayer 2 ∷ []))
    (given 4 (0 ∷ 0 ∷ []) ∷ given 1 (0 ∷ 0 ∷ []) ∷ given 0 (1 ∷ 0 ∷ []) ∷ given 0 (0 ∷ 1 ∷ []) ∷ given 5 (0 ∷ 0 ∷ []) ∷ given 3 (2 ∷ 1 ∷ []) ∷ given 0 (0 ∷ 0 ∷ []) ∷ [])
    ∷ ran (rows_path camera 30 (delayer 2 ∷ []))
    (given 10 (0 ∷ []) ∷ given 9 (0 ∷ []) ∷ given 7 (0 ∷ []) ∷ given 6 (0 ∷ []) ∷ given 1 (0 ∷ []) ∷ given 0 (0 ∷ []) ∷ given 9 (0 ∷ []) ∷ [])
    ∷ []

pub expected : List Ran
expected =
    record { answered = refused 1 0 ∷ refused 1 0 ∷ refused 13 0 ∷ refused 14 3 ∷ sent 0 ∷ refused 13 0 ∷ []; held = 30 ∷ 0 ∷ 0 ∷ 0 ∷ [] }
    ∷ record { answered = sent 0 ∷ refused 13 0 ∷ refused 14 0 ∷ sent 1 ∷ refused 13 0 ∷ refused 14 0 ∷ sent 1 ∷ []; held = 0 ∷ 2 ∷ [] }
    ∷ record { answered = refused 13 0 ∷ sent 0 ∷ refused 13 0 ∷ sent 0 ∷ refused 13 0 ∷ sent 9 ∷ sent 6 ∷ []; held = 9 ∷ [] }
    ∷ []

pub reference-runs : computed ≡ expected
unfolding computed expected camera class_of totals_to ran answers account_all total every list_of keeps compactor_least compactor_greatest compactor_after expander_least expander_greatest expander_after beside_after filter_least filter_greatest filter_after of_age older_than stays_of delayer_least delayer_greatest delayer_after least_output greatest_output held_after keeps_to keeps_class operator_at choices_miscounted amount_too_large arriving slots_used_up breaks_declaration choice_too_large choices_too_large account_answer account_next account_after
reference-runs = refl

-- Lent runs of one delayer 3 under smooth (10, 30), which no opening left.

-- the next slot's number, the block's total so far, the delayer's totals of what entered and of what left, its ring and the word behind it
pub record Lent : Type 0 where
  pub slot : ℕ
  pub block : ℕ
  pub entered : ℕ
  pub left : ℕ
  pub ring : List ℕ

abbrev pub lent : ℕ → ℕ → ℕ → ℕ → List ℕ → Lent
lent slot block entered left ring = record { slot = slot; block = block; entered = entered; left = left; ring = ring }

abbrev pub run_of : Lent → Run
run_of now =
    record {
      declaration = of_one_row Kind.Smooth 10 30;
      slot = record { 0 = now.slot };
      block = record { 0 = now.block };
      count = 1;
      stages = record { operator = delayer 3; held = record { 0 = 0 }; beside = record { 0 = 0 }; entered = now.entered; left = now.left } ∷ replicate 15 no_stage;
    }

-- every other word is 0
abbrev pub words_of : Lent → List ℕ
words_of now = replicate 1_024 0 ++ (now.ring ++ replicate 1_020 0)

-- what a slot answers
pub answer_on : Lent → ℕ → ℕ → Answer
answer_on now input choice = answer_of (output_of (slotted_of (run_of now) (words_of now) (given input (choice ∷ []))))

-- what a slot that is taken leaves
pub left_by : Lent → ℕ → ℕ → Lent
left_by now input choice =
    let call = given input (choice ∷ []) in
    let next = run_next (run_of now) (words_of now) call in
    lent next.slot.0 next.block.0 (stage_at next 0).entered (stage_at next 0).left (list_of (λ a. word_next (run_of now) (words_of now) call (1_024 + a)) 4)

-- what the delayer holds
pub held_in : Lent → ℕ
held_in now = (run_holds (run_of now) (words_of now) 0).b

-- what slots answer, what they leave, and what is held
pub record LentRan : Type 0 where
  pub answered : List Answer
  pub leaves : List Lent
  pub held : List ℕ

-- The totals wrap in slot 7. Before it 30 are held: of slot 6 all 5 that entered, of slot 5 all 20, of slot 4 the last 5.
pub before_wrap : Lent
before_wrap = lent 7 20 4_294_967_290 4_294_967_260 (4_294_967_290 ∷ 4_294_967_265 ∷ 4_294_967_285 ∷ 0 ∷ [])

-- before slot 8: 17 are left of slot 5, and have to be sent
pub after_wrap : Lent
after_wrap = lent 8 30 4 4_294_967_268 (4_294_967_290 ∷ 4 ∷ 4_294_967_285 ∷ 0 ∷ [])

-- before slot 9, with one word of the ring from before the wrap: so have slot 6's 5
pub one_word_left : Lent
one_word_left = lent 9 30 4 4_294_967_285 (4_294_967_290 ∷ 4 ∷ 4 ∷ 0 ∷ [])

-- before slot 10, with none: so have the 9 that are left of slot 7; all that is there may be sent
pub no_word_left : Lent
no_word_left = lent 10 30 4 4_294_967_291 (4 ∷ 4 ∷ 4 ∷ 0 ∷ [])

pub over_the_wrap : LentRan
over_the_wrap =
    record {
      answered = answer_on before_wrap 10 36 ∷ answer_on before_wrap 11 0 ∷ answer_on before_wrap 10 3 ∷ answer_on after_wrap 0 0 ∷ answer_on one_word_left 0 1 ∷ answer_on no_word_left 30 31 ∷ answer_on no_word_left 30 30 ∷ [];
      leaves = left_by before_wrap 10 3 ∷ left_by after_wrap 0 0 ∷ left_by one_word_left 0 1 ∷ left_by no_word_left 30 30 ∷ [];
      held = held_in before_wrap ∷ held_in after_wrap ∷ held_in one_word_left ∷ held_in no_word_left ∷ [];
    }

pub over_the_wrap_expected : LentRan
over_the_wrap_expected =
    record {
      answered = refused 14 0 ∷ refused 13 0 ∷ sent 8 ∷ sent 17 ∷ sent 6 ∷ refused 14 0 ∷ sent 39 ∷ [];
      leaves = after_wrap ∷ one_word_left ∷ no_word_left ∷ lent 11 30 34 34 (4 ∷ 34 ∷ 4 ∷ 0 ∷ []) ∷ [];
      held = 30 ∷ 32 ∷ 15 ∷ 9 ∷ [];
    }

pub reference-wrap : over_the_wrap ≡ over_the_wrap_expected
unfolding over_the_wrap over_the_wrap_expected before_wrap after_wrap one_word_left no_word_left answer_on left_by held_in every list_of choices_miscounted amount_too_large part stage_at no_operator meter_words operator_words meter_in operator_in stage_misplaced stage_unusable stage_fits run_unusable run_holds input_into slot_breaks choice_above_at choice_cases run_holds_next leaves_too_much_at slot_leaves_too_much operator_next stage_next run_next operator_word_next word_next taken_slot slotted_of in_range number_in_range row_count row_at row_in_range declaration_in_range rows_in_order row_clear rows_clear_from unused_clear Meter.meter_unusable Meter.uses_block Meter.ring_length Meter.block_before Meter.counted_before Meter.input_breaks Meter.block_next Meter.meter_next uses_held uses_beside words_used stored_fits word_fits greatest_output delayer_greatest held_after delayer_after Ring.total_more Ring.total_less Ring.ring_held Ring.ring_recent Ring.path_holds Ring.path_least Ring.path_greatest Ring.word_unused Ring.totals_fit Ring.path_unusable Ring.path_sent Ring.path_choice_above Ring.path_holds_next Ring.total_next Ring.path_state_kept Ring.ring_word_next
reference-wrap = refl

-- Words that no slot wrote: of the 40 held, slot 7's word says that 30 entered after slot 4, and the two others that more entered than is held.
pub unwritten : Lent
unwritten = lent 7 20 100 60 (4_000_000_000 ∷ 70 ∷ 3_000_000_000 ∷ 0 ∷ [])

pub one_written : Lent
one_written = lent 8 25 105 70 (4_000_000_000 ∷ 105 ∷ 3_000_000_000 ∷ 0 ∷ [])

pub two_written : Lent
two_written = lent 9 25 105 70 (4_000_000_000 ∷ 105 ∷ 105 ∷ 0 ∷ [])

-- The limit is on what is held, and not on the words; it stands before a slot and behind it. The word behind the ring is 0.
pub full : Lent
full = lent 7 20 1_073_741_823 0 (0 ∷ 0 ∷ 0 ∷ 0 ∷ [])

pub overfull : Lent
overfull = lent 7 20 1_073_741_824 0 (0 ∷ 0 ∷ 0 ∷ 0 ∷ [])

pub soiled : Lent
soiled = lent 7 20 100 60 (0 ∷ 0 ∷ 0 ∷ 1 ∷ [])

pub on_any_words : LentRan
on_any_words =
    record {
      answered = answer_on unwritten 5 0 ∷ answer_on one_written 0 0 ∷ answer_on two_written 0 36 ∷ answer_on two_written 0 35 ∷ answer_on full 1 0 ∷ answer_on full 1 1 ∷ answer_on overfull 0 0 ∷ answer_on soiled 0 0 ∷ [];
      leaves = left_by unwritten 5 0 ∷ left_by one_written 0 0 ∷ left_by two_written 0 35 ∷ left_by full 1 1 ∷ [];
      held = held_in unwritten ∷ held_in one_written ∷ held_in two_written ∷ held_in full ∷ held_in overfull ∷ [];
    }

pub on_any_words_expected : LentRan
on_any_words_expected =
    record {
      answered = sent 10 ∷ sent 0 ∷ refused 14 0 ∷ sent 35 ∷ refused 1 0 ∷ sent 1 ∷ refused 1 0 ∷ refused 1 0 ∷ [];
      leaves = one_written ∷ two_written ∷ lent 10 25 105 105 (105 ∷ 105 ∷ 105 ∷ 0 ∷ []) ∷ lent 8 21 1_073_741_824 1 (0 ∷ 1_073_741_824 ∷ 0 ∷ 0 ∷ []) ∷ [];
      held = 40 ∷ 35 ∷ 35 ∷ 1_073_741_823 ∷ 1_073_741_824 ∷ [];
    }

pub reference-any-words : on_any_words ≡ on_any_words_expected
unfolding on_any_words on_any_words_expected unwritten one_written two_written full overfull soiled answer_on left_by held_in every list_of choices_miscounted amount_too_large part stage_at no_operator meter_words operator_words meter_in operator_in stage_misplaced stage_unusable stage_fits run_unusable run_holds input_into slot_breaks choice_above_at choice_cases run_holds_next leaves_too_much_at slot_leaves_too_much operator_next stage_next run_next operator_word_next word_next taken_slot slotted_of in_range number_in_range row_count row_at row_in_range declaration_in_range rows_in_order row_clear rows_clear_from unused_clear Meter.meter_unusable Meter.uses_block Meter.ring_length Meter.block_before Meter.counted_before Meter.input_breaks Meter.block_next Meter.meter_next uses_held uses_beside words_used stored_fits word_fits greatest_output delayer_greatest held_after delayer_after Ring.total_more Ring.total_less Ring.ring_held Ring.ring_recent Ring.path_holds Ring.path_least Ring.path_greatest Ring.word_unused Ring.totals_fit Ring.path_unusable Ring.path_sent Ring.path_choice_above Ring.path_holds_next Ring.total_next Ring.path_state_kept Ring.ring_word_next
reference-any-words = refl
