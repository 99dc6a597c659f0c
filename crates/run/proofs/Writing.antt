-- What is written where nothing stands against a slot is the next run and its words: each stage has advanced and notes its total, and the meter notes the input.
use mathlib.Core.Path.{◌≡◌, refl, ap, ◌∙◌}
use mathlib.Core.Bool.{Bool, true, false}
use mathlib.Core.List.{List}
use Prim.Native.Nat.{ℕ, suc, ◌-◌, ◌/◌, ◌%◌, ◌≤◌, ◌<◌}
use native.Mathlib.Nat.{mod-lt}
use native.Mathlib.Omega.{arith}
use lib.Dec.{ltb}
use lib.ListN.{get_or}
use borrow.Author.Tests.{ltb-true, ltb-false, lt-ltb}
use Rattle.quantity.specs.Choice.{pick}
use Rattle.quantity.specs.Limits.{largest_amount, most_operators}
use Rattle.quantity.specs.Sums.{list_of}
use Rattle.quantity.proofs.Laws.{pick_true, either-false}
use Rattle.quantity.proofs.Sums.{get_d-list_of}
use Rattle.quantity.proofs.Refusals.{NoneStands}
use Rattle.words.specs.Stored.{word_at}
use Rattle.operator.specs.Single.{word_count}
use Rattle.operator.specs.Ring.{ring_word_next, path_advanced, ring_noted}
use Rattle.meter.specs.Meter.{meter_word_count, block_next, meter_next, meter_word_next}
use Rattle.operator.specs.declared.ring.PathOperator.{PathOperator}
use Rattle.operator.proofs.RingLaws.{noted-next}
use Rattle.meter.proofs.PartsLaws as meters
use Rattle.run.specs.declared.Stage.{Stage}
use Rattle.run.specs.declared.Run.{Run}
use Rattle.run.specs.Calls.{Call, amount_too_large}
use Rattle.run.specs.Runs.{meter_words, operator_words, no_stage, stage_at, meter_in, operator_of, operator_in}
use Rattle.run.specs.Slots.{input_into, run_holds_next, slot_cases, operator_next, stage_next, run_next, operator_word_next, word_next}
use Rattle.run.specs.Steps.{awaited_in, run_advanced, block_written, meter_noted, run_written, stage_word, word_written}
use Rattle.run.proofs.UsableRun.{UsableRun, usable-run, stage-usable, stage-number, fits-at}

module _ (run : Run) (words : List ℕ) (call : Call) (none : NoneStands (slot_cases run words call)) where
  passed : UsableRun run words
  passed = usable-run run words none.1.1.0

  -- the meter stays as it was while the operators advance
  metered : meter_in (run_advanced run words call) ≡ meter_in run
  unfolding meter_in run_advanced
  metered = refl

  -- the input is within the limit
  input-small : call.input ≤ largest_amount
  unfolding amount_too_large
  input-small = ltb-false largest_amount call.input (either-false (ltb largest_amount call.input) _ none.1.0).0

  meter-noted : meter_noted run words call.input ≡ list_of (meter_word_next (meter_in run) (meter_words words) call.input) meter_word_count
  unfolding meter_in
  meter-noted = meters.noted-next (meter_in run) (meter_words words) call.input passed.meter passed.declared

  module _ (k : ℕ) (less : k < run.count) where
    abbrev x : PathOperator
    x = operator_in run k

    abbrev xs : List ℕ
    xs = operator_words words k

    abbrev into : ℕ
    into = input_into run words call k

    abbrev out : ℕ
    out = input_into run words call (suc k)

    abbrev b-next : ℕ
    b-next = (run_holds_next run words call k).b

    abbrev h-next : ℕ
    h-next = (run_holds_next run words call k).h

    -- the operator that has advanced
    advanced : operator_in (run_advanced run words call) k ≡ path_advanced x into out b-next h-next
    unfolding operator_in stage_at run_advanced stage_next operator_next path_advanced
    advanced =
        ap (λ (stage : Stage). operator_of stage run.slot)
        (get_d-list_of no_stage (λ k. pick (ltb k run.count) (stage_next run words call k) (get_or run.stages k no_stage)) most_operators k (omega (arith, less, passed.few)) ∙ pick_true _ _ _ (lt-ltb k run.count less))

    words-noted : ring_noted (operator_in (run_advanced run words call) k) xs ≡ list_of (ring_word_next x xs into) word_count
    words-noted =
        let few = passed.few in
        let fits = fits-at run words passed k (omega arith) in
        ap (λ (x : PathOperator). ring_noted x xs) advanced ∙ noted-next x xs (stage-usable run words k fits).sized (stage-number run words k fits less) into out b-next h-next

  block-next : block_written (run_advanced run words call) words call.input ≡ record { 0 = block_next (meter_in run) call.input }
  unfolding block_written awaited_in run_advanced meter_in
  block-next = meters.block-behind-next (meter_in run) (meter_words words) call.input passed.meter passed.declared input-small

  pub run-written : run_written (run_advanced run words call) words call.input ≡ run_next run words call
  unfolding run_written run_advanced run_next meter_next
  run-written = rw block-next

  word-next : (k a : ℕ) → a < word_count → (t : Bool) → ltb k run.count ≡ t
      → pick t (word_at (ring_noted (operator_in (run_advanced run words call) k) (operator_words words k)) a) (word_at (operator_words words k) a)
      ≡ pick t (ring_word_next (operator_in run k) (operator_words words k) (input_into run words call k) a) (word_at (operator_words words k) a)
  word-next k a inside true e =
      rw (words-noted k (ltb-true k run.count e)) (get_d-list_of 0 (ring_word_next (operator_in run k) (operator_words words k) (input_into run words call k)) word_count a inside)
  word-next k a inside false e = refl

  pub word-written : (j : ℕ) → word_written (run_advanced run words call) words call.input j ≡ word_next run words call j
  unfolding word_written word_next stage_word operator_word_next run_advanced
  word-written j = by_part (ltb j meter_word_count) refl
    where
      by_part : (t : Bool) → ltb j meter_word_count ≡ t
          → pick t (word_at (meter_noted (run_advanced run words call) words call.input) j) (stage_word (run_advanced run words call) words ((j - meter_word_count) / word_count) ((j - meter_word_count) % word_count))
          ≡ pick t (meter_word_next (meter_in run) (meter_words words) call.input j) (operator_word_next run words call ((j - meter_word_count) / word_count) ((j - meter_word_count) % word_count))
      by_part true e = rw (metered, meter-noted) (get_d-list_of 0 (meter_word_next (meter_in run) (meter_words words) call.input) meter_word_count j (ltb-true j meter_word_count e))
      by_part false e = word-next ((j - meter_word_count) / word_count) ((j - meter_word_count) % word_count) (mod-lt (j - meter_word_count) {m = word_count} (omega arith)) (ltb ((j - meter_word_count) / word_count) run.count) refl
