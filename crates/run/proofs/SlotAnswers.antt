-- What a slot answers and leaves: the next run and words where nothing stands against it, and else why, beside the words that it was given.
use mathlib.Core.Path.{◌≡◌, ap, ap₂, sym, ◌∙◌}
use mathlib.Core.Logic.{⊎_elim}
use native.Mathlib.Omega.{arith}
use mathlib.Core.List.{List}
use Rattle.std.specs.Prelude.{Ok, Err}
use Prim.Native.Nat.{ℕ}
use Rattle.quantity.specs.Sums.{list_of}
use Rattle.quantity.specs.declared.refusal.Refusal.{Refusal}
use Rattle.quantity.proofs.Refusals.{NoneStands, first_of-none, FirstIs, none-or-first, first-answered}
use Rattle.quantity.specs.declared.Units.{Units}
use Rattle.run.specs.declared.Run.{Run}
use Rattle.run.specs.Calls.{Call}
use Rattle.run.specs.Runs.{run_word_count}
use Rattle.run.specs.Slots.{slot_cases, slot_output, run_next, taken_slot, word_next, slotted_of, output_of, words_slotted}

module _ (run : Run) (words : List ℕ) (call : Call) where
  module _ (why : Refusal) (first : FirstIs (slot_cases run words call) why) where
    pub slot-refused : slotted_of run words call ≡ Err why
    unfolding slotted_of
    slot-refused = first-answered Err (Ok (taken_slot run words call)) why (slot_cases run words call) first

    pub words-refused : words_slotted run words call ≡ words
    unfolding words_slotted
    words-refused = first-answered (λ why. words) (list_of (word_next run words call) run_word_count) why (slot_cases run words call) first

  module _ (none : NoneStands (slot_cases run words call)) where
    pub slot-taken : slotted_of run words call ≡ Ok (taken_slot run words call)
    unfolding slotted_of
    slot-taken = first_of-none Err (Ok (taken_slot run words call)) (slot_cases run words call) none

    pub words-taken : words_slotted run words call ≡ list_of (word_next run words call) run_word_count
    unfolding words_slotted
    words-taken = first_of-none (λ why. words) (list_of (word_next run words call) run_word_count) (slot_cases run words call) none

  -- what the output alone tells of the answer
  pub output-refused : {why : Refusal} → Err why ≡ output_of (slotted_of run words call) → Err why ≡ slotted_of run words call
  output-refused {why} told =
      ⊎_elim
      (λ none. (let taken = told ∙ ap output_of (slot-taken none) in let z : ◌≡◌ {A = ℕ} 0 1 = cc in absurd (omega arith)))
      (λ (other, first). (let refused = slot-refused other first in let here = told ∙ ap output_of refused in let same : why ≡ other = cc in ap Err same ∙ sym refused))
      (none-or-first (slot_cases run words call))

  pub output-taken : {output : Units} → Ok output ≡ output_of (slotted_of run words call) → {next : Run} → next ≡ run_next run words call → Ok (record { output = output; run = next }) ≡ slotted_of run words call
  unfolding taken_slot
  output-taken {output} told same =
      ⊎_elim
      (λ none. (let taken = slot-taken none in let here = told ∙ ap output_of taken in let sent : output ≡ record { 0 = slot_output run words call } = cc in ap₂ (λ (u : Units) (r : Run). Ok (record { output = u; run = r })) sent same ∙ sym taken))
      (λ (other, first). (let here = told ∙ ap output_of (slot-refused other first) in let z : ◌≡◌ {A = ℕ} 0 1 = cc in absurd (omega arith)))
      (none-or-first (slot_cases run words call))
