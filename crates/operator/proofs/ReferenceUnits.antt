-- What the programs do not say, as tables that are computed from the definitions: a decision at the most that can be on the way within a path, and steps with words of a wrong length.
use Rattle.std.proofs.Common.{◌≡◌, ℕ, List, [], ◌∷◌, replicate, refl, Result, Ok, Err}
use Rattle.quantity.specs.Limits.{largest_amount}
use Rattle.quantity.specs.Ranges.{in_range}
use Rattle.quantity.specs.Sums.{total, every}
use Rattle.quantity.specs.Refusals.{refusal_number, refusal_place}
use Rattle.operator.specs.Held.{keeps}
use Rattle.operator.specs.Limiter.{limiter_least, limiter_greatest, limiter_after}
use Rattle.operator.specs.Expander.{expander_least, expander_greatest, expander_after}
use Rattle.operator.specs.Operators.{least_output, greatest_output, held_after, number_in_range, limiter, expander}
use Rattle.words.specs.Stored.{stored_fits, word_fits}
use Rattle.operator.specs.Single
use Rattle.operator.specs.Parts
use Rattle.operator.specs.declared.Operator.{Operator}
use Rattle.operator.specs.declared.SingleOperator.{SingleOperator}
use Rattle.quantity.specs.declared.refusal.Refusal.{Refusal}
use Rattle.operator.specs.declared.parts.Sending.{Sending}
use Rattle.operator.specs.declared.parts.Unsent.{Unsent}
use Rattle.operator.specs.declared.single.Sent.{Sent}

-- a new operator that holds so much
abbrev pub holding : Operator → ℕ → SingleOperator
holding operator b = record { operator = operator; slot = record { 0 = 0 }; held = record { 0 = b }; beside = record { 0 = 0 } }

-- what is answered: a refusal's number and place; or the output and the next state's b, h and slot
pub data Outcome : Type 0 where
  refused : ℕ → ℕ → Outcome
  sent : ℕ → ℕ → ℕ → ℕ → Outcome

abbrev pub step_outcome : Result Sent Refusal → Outcome
step_outcome (Ok step) = sent step.output.0 step.next.held.0 step.next.beside.0 step.next.slot.0
step_outcome (Err why) = refused (refusal_number why) (refusal_place why)

-- an expander 1 at the limit, at the most on the way, and at one more
pub decisions : List (Result Sending Unsent)
decisions =
    Parts.decided_of (holding (expander 1) largest_amount) (replicate 64 0) largest_amount 18_253_610_991 0
    ∷ Parts.decided_of (holding (expander 1) largest_amount) (replicate 64 0) largest_amount 18_253_610_992 0
    ∷ []

pub expected_decisions : List (Result Sending Unsent)
expected_decisions = Ok (record { output = record { 0 = 19_327_352_814 }; kept = record { 0 = 0 }; beside = record { 0 = 0 } }) ∷ Err Unsent.Undecidable ∷ []

pub reference-decisions : decisions ≡ expected_decisions
unfolding decisions expected_decisions in_range keeps expander_least expander_greatest expander_after least_output greatest_output held_after number_in_range Parts.undecidable Parts.sent_with Parts.choice_above_with Parts.decided_of
reference-decisions = refl

-- a limiter 2 of 63, 64 and 65 words
pub steps : List Outcome
steps =
    step_outcome (Single.step_of (holding (limiter 2) 0) (replicate 63 0) 0 0)
    ∷ step_outcome (Single.step_of (holding (limiter 2) 0) (replicate 64 0) 0 0)
    ∷ step_outcome (Single.step_of (holding (limiter 2) 0) (replicate 65 0) 0 0)
    ∷ []

pub expected_steps : List Outcome
expected_steps = refused 1 0 ∷ sent 0 0 0 1 ∷ refused 1 0 ∷ []

pub reference-steps : steps ≡ expected_steps
unfolding steps expected_steps total every in_range keeps limiter_least limiter_greatest limiter_after least_output greatest_output held_after number_in_range stored_fits word_fits Single.step_of Single.sent Single.holds_next Single.choice_above Single.leaves_too_much Single.state_next Single.holds Single.uses_held Single.uses_beside Single.words_used Single.stored_unusable Single.unusable
reference-steps = refl
