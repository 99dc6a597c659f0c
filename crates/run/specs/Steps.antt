-- Serves the private contracts of the run, and need not be believed: no public call cites it.
-- A slot as the code takes it: what the tests find, what the operators tell one behind the other, and what is written.
use Rattle.std.specs.Prelude.{ℕ, zero, suc, ◌≡◌, ◌≤◌, ◌+◌, ◌-◌, ◌/◌, ◌%◌, Bool, true, not, List, [], ◌∷◌, ◌++◌, Option, Some, None, Result, Ok, Err, leb, ltb, eqb, length, get_or, take, drop}
use Rattle.std.specs.Option.{option_or}
use Rattle.quantity.specs.Choice.{pick, both, either, any_of}
use Rattle.quantity.specs.Limits.{most_operators, largest_amount, last_slot}
use Rattle.quantity.specs.Sums.{every, list_of}
use Rattle.quantity.specs.Refusals.{Case, ◌⇒◌}
use Rattle.quantity.specs.declared.Units.{Units}
use Rattle.quantity.specs.declared.refusal.Refusal.{Refusal}
use Rattle.quantity.specs.declared.refusal.Refusal.TheVariants.{Unusable, InputBreaksDeclaration, ChoiceAboveGreatest}
use Rattle.flow.specs.Declarations.{declaration_in_range, rows_in_order}
use Rattle.operator.specs.Single.{word_count}
use Rattle.operator.specs.Ring.{ring_noted}
use Rattle.meter.specs.Meter.{meter_word_count, meter_unusable}
use Rattle.meter.specs.Parts.{input_place, input_noted, awaited_of, block_behind}
use Rattle.words.specs.Stored.{word_at, word_noted, clear_at}
use Rattle.operator.specs.declared.ring.PathOperator.{PathOperator}
use Rattle.meter.specs.declared.parts.Awaited.{Awaited}
use Rattle.run.specs.Calls.{Call, choices_miscounted, amount_too_large}
use Rattle.run.specs.Runs.{run_word_count, meter_words, operator_at_word, operator_words, no_operator, no_stage, stage_at, meter_in, operator_in}
use Rattle.run.specs.Slots.{choice_cases, slot_leaves_too_much, stage_next}
use Rattle.run.specs.declared.Stage.{Stage}
use Rattle.run.specs.declared.Run.{Run}
use Rattle.run.specs.declared.stages.Progress.{Progress}

-- Test.

-- a stage behind the path's operators holds nothing, and its operator is none
unfoldable pub stage_empty : Stage → Bool
stage_empty stage = both (no_operator stage.operator) (both (both (eqb stage.held.0 0) (eqb stage.beside.0 0)) (both (eqb stage.entered 0) (eqb stage.left 0)))

-- stage k is empty, and its words are 0
unfoldable pub stage_unused : Stage → List ℕ → ℕ → Bool
stage_unused stage words k = both (stage_empty stage) (every (clear_at (operator_words words k)) word_count)

-- the same of stage k, unless it is one of the first so many, which are the path's
unfoldable pub unused_behind : ℕ → List Stage → List ℕ → ℕ → Bool
unused_behind count stages words k = either (ltb k count) (stage_unused (get_or stages k no_stage) words k)

-- what is known of the next input
unfoldable pub awaited_in : Run → List ℕ → Awaited
awaited_in run words = awaited_of (meter_in run) (meter_words words)

-- the words' length, the count, the declaration or the meter does not fit
unfoldable pub meter_misfits : Run → List ℕ → Bool
meter_misfits run words =
    any_of
    (not (eqb (length words) run_word_count)
    ∷ not (both (leb 1 run.count) (leb run.count most_operators))
    ∷ not (declaration_in_range run.declaration)
    ∷ not (rows_in_order run.declaration)
    ∷ meter_unusable (meter_in run) (meter_words words)
    ∷ [])

-- what is known of the next input, where all fits but for the path's operators
unfoldable pub begun_in : Run → List ℕ → Option Awaited
begun_in run words = pick (either (meter_misfits run words) (not (every (unused_behind run.count run.stages words) most_operators))) None (Some (awaited_in run words))

-- and where the arguments fit too
unfoldable pub begun_of : Run → List ℕ → Call → Option Awaited
begun_of run words call = pick (either (choices_miscounted run.count call) (amount_too_large call)) None (begun_in run words)

-- so of what has begun it is known how much there is
pub record Begun (run : Run) (words : List ℕ) (input : Units) (choices : List ℕ) : Type 0 where
  pub sized : length words ≡ run_word_count
  pub few : run.count ≤ most_operators
  pub counted : length choices ≡ run.count
  pub small : input.0 ≤ largest_amount
  pub left : run.slot.0 ≤ last_slot

-- Decide, operator by operator.

-- an operator within a path, as the run keeps it
unfoldable pub stage_kept : PathOperator → Stage
stage_kept x = record { operator = x.operator; held = x.held; beside = x.beside; entered = x.entered; left = x.left }

unfoldable pub first_progress : Units → Progress
first_progress input = record { fits = true; above = None; arriving = input }

unfoldable pub once_sent : Progress → Units → Bool → Progress
once_sent p output fits = record { fits = both p.fits fits; above = p.above; arriving = output }

unfoldable pub once_above : Progress → ℕ → Progress
once_above p k = record { fits = p.fits; above = option_or p.above (Some k); arriving = p.arriving }

-- the first refusal that stands, of what the meter and all operators have told
abbrev pub judged_choice : Option ℕ → Bool → Result (Unit {0}) Refusal
judged_choice (Some k) fits = Err (ChoiceAboveGreatest k)
judged_choice None fits = pick fits (Ok tt) (Err Unusable)

unfoldable pub judged_of : ℕ → ℕ → Progress → Result (Unit {0}) Refusal
judged_of below input p = pick (leb below input) (Err InputBreaksDeclaration) (judged_choice p.above p.fits)

-- the run once its operators have sent: its slot is not counted yet, and its meter not written
unfoldable pub run_advanced : Run → List ℕ → Call → Run
run_advanced run words call =
    record {
      declaration = run.declaration;
      slot = run.slot;
      block = run.block;
      count = run.count;
      stages = list_of (λ k. pick (ltb k run.count) (stage_next run words call k) (stage_at run k)) most_operators;
    }

-- Write.

-- the words with a part of them replaced
unfoldable pub with_part : ℕ → List ℕ → List ℕ → List ℕ
with_part at new words = take at words ++ (new ++ drop (at + length new) words)

-- the words with the totals of the first k operators noted, each in its word
unfoldable pub totals_written : List ℕ → List Stage → ℕ → List ℕ → List ℕ
totals_written places stages zero words = words
totals_written places stages (suc k) words =
    with_part (operator_at_word k)
    (word_noted (operator_words (totals_written places stages k words) k) (get_or places k 0) (get_or stages k no_stage).entered)
    (totals_written places stages k words)

-- the meter's block and its words once the input is noted
unfoldable pub block_written : Run → List ℕ → ℕ → Units
block_written run words input = block_behind (awaited_in run words) (record { 0 = input })

abbrev pub meter_noted : Run → List ℕ → ℕ → List ℕ
meter_noted run words input = input_noted (input_place (meter_in run)) (meter_words words) input

-- the run that has advanced, and word j of all, once the slot is counted and meter and stages are written
unfoldable pub run_written : Run → List ℕ → ℕ → Run
run_written run words input =
    record {
      declaration = run.declaration;
      slot = record { 0 = run.slot.0 + 1 };
      block = block_written run words input;
      count = run.count;
      stages = run.stages;
    }

unfoldable pub stage_word : Run → List ℕ → ℕ → ℕ → ℕ
stage_word run words k a = pick (ltb k run.count) (word_at (ring_noted (operator_in run k) (operator_words words k)) a) (word_at (operator_words words k) a)

unfoldable pub word_written : Run → List ℕ → ℕ → ℕ → ℕ
word_written run words input j =
    pick (ltb j meter_word_count)
    (word_at (meter_noted run words input) j)
    (stage_word run words ((j - meter_word_count) / word_count) ((j - meter_word_count) % word_count))

-- 14 operator by operator, then 1 again.
abbrev pub decision_cases : Run → List ℕ → Call → List Case
decision_cases run words call = choice_cases run words call run.count ++ ((slot_leaves_too_much run words call ⇒ Unusable) ∷ [])
