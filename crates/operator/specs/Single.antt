-- Sections 3, 6 and 7: the calls on a single operator and its 64 words. What the calls answer is the first refusal of a list that stands, else the result.
use Rattle.std.specs.Prelude.{ℕ, ◌+◌, ◌-◌, Bool, true, false, not, List, [], ◌∷◌, length, ◌==◌, nat_lt, Result, Ok, Err}
use Rattle.quantity.specs.Choice.{pick, either, any_of}
use Rattle.quantity.specs.Sums.{total, every, list_of}
use Rattle.quantity.specs.Limits.{largest_amount, last_slot}
use Rattle.quantity.specs.Refusals.{Case, ◌⇒◌, first_of}
use Rattle.quantity.specs.declared.refusal.Refusal.TheVariants.{Unusable, OutOfRange, ChoiceAboveGreatest}
use Rattle.operator.specs.Held.{Held}
use Rattle.words.specs.Stored.{word_at, stored_fits, word_fits}
use Rattle.operator.specs.Operators.{least_output, greatest_output, held_after, number_in_range}
use Rattle.operator.specs.declared.Operator.{Operator}
use Rattle.operator.specs.declared.SingleOperator.{SingleOperator}
use Rattle.quantity.specs.declared.refusal.Refusal.{Refusal}
use Rattle.operator.specs.declared.single.Outputs.{Outputs}
use Rattle.operator.specs.declared.single.Sent.{Sent}

-- an operator's words
abbrev pub word_count : ℕ
word_count = 64

-- a delayer d uses the words below d, and only a delayer does
unfoldable pub words_used : Operator → ℕ
words_used (Operator.Limiter R) = 0
words_used (Operator.Compactor m) = 0
words_used (Operator.Expander m) = 0
words_used (Operator.Filter R) = 0
words_used (Operator.Delayer d) = d.0

-- a delayer's b is in its words alone
unfoldable pub uses_held : Operator → Bool
uses_held (Operator.Limiter R) = true
uses_held (Operator.Compactor m) = true
uses_held (Operator.Expander m) = true
uses_held (Operator.Filter R) = true
uses_held (Operator.Delayer d) = false

-- only a filter has an h
unfoldable pub uses_beside : Operator → Bool
uses_beside (Operator.Limiter R) = false
uses_beside (Operator.Compactor m) = false
uses_beside (Operator.Expander m) = false
uses_beside (Operator.Filter R) = true
uses_beside (Operator.Delayer d) = false

-- section 3's b and h, and what a delayer holds of each past slot: its b is the sum of its words
unfoldable pub holds : SingleOperator → List ℕ → Held
holds x words = record { b = pick (uses_held x.operator) x.held.0 (total (word_at words) word_count); h = x.beside.0; past = word_at words }

-- 1, of what is lent and stored: the words have a wrong length, no slot number is left, a stored amount is above the limit or should be 0 and is not;
-- a delayer's b, the sum of its words, is a stored amount too
unfoldable pub stored_unusable : SingleOperator → List ℕ → Bool
stored_unusable x words =
    any_of
    (not (length words == word_count)
    ∷ nat_lt last_slot x.slot.0
    ∷ not (stored_fits (uses_held x.operator) x.held.0)
    ∷ not (stored_fits (uses_beside x.operator) x.beside.0)
    ∷ not (every (word_fits (words_used x.operator) words) word_count)
    ∷ nat_lt largest_amount (total (word_at words) word_count)
    ∷ [])

-- 1: that, or an input above the limit
unfoldable pub unusable : SingleOperator → List ℕ → ℕ → Bool
unusable x words input = either (nat_lt largest_amount input) (stored_unusable x words)

least : SingleOperator → List ℕ → ℕ → ℕ
least x words input = least_output x.operator x.slot.0 (holds x words) input

greatest : SingleOperator → List ℕ → ℕ → ℕ
greatest x words input = greatest_output x.operator x.slot.0 (holds x words) input

-- the least and greatest output of a step, or the refusal: 1, then 5
unfoldable pub bounds_of : SingleOperator → List ℕ → ℕ → Result Outputs Refusal
unfolding least greatest
bounds_of x words input =
    first_of
    ((unusable x words input ⇒ Unusable)
    ∷ (not (number_in_range x.operator) ⇒ OutOfRange 0)
    ∷ [])
    Err
    (Ok (record { least = record { 0 = least x words input }; greatest = record { 0 = greatest x words input } }))

-- a step sends its least and the choice
unfoldable pub sent : SingleOperator → List ℕ → ℕ → ℕ → ℕ
unfolding least
sent x words input choice = least x words input + choice

-- what is held once s is sent
unfoldable pub holds_next : SingleOperator → List ℕ → ℕ → ℕ → Held
holds_next x words input s = held_after x.operator (holds x words) input s

-- 14: the choice is above greatest minus least
unfoldable pub choice_above : SingleOperator → List ℕ → ℕ → ℕ → Bool
unfolding least greatest
choice_above x words input choice = nat_lt (greatest x words input - least x words input) choice

-- 1, tested last: the call would leave such an amount stored
unfoldable pub leaves_too_much : SingleOperator → List ℕ → ℕ → ℕ → Bool
leaves_too_much x words input s = either (nat_lt largest_amount (holds_next x words input s).b) (nat_lt largest_amount (holds_next x words input s).h)

-- a step goes through 1, 5 and 14, and 1 again
abbrev pub step_cases : SingleOperator → List ℕ → ℕ → ℕ → List Case
step_cases x words input choice =
    (either (nat_lt largest_amount choice) (unusable x words input) ⇒ Unusable)
    ∷ (not (number_in_range x.operator) ⇒ OutOfRange 0)
    ∷ (choice_above x words input choice ⇒ ChoiceAboveGreatest 0)
    ∷ (leaves_too_much x words input (sent x words input choice) ⇒ Unusable)
    ∷ []

-- the state once s is sent
unfoldable pub state_next : SingleOperator → List ℕ → ℕ → ℕ → SingleOperator
state_next x words input s =
    record {
      operator = x.operator;
      slot = record { 0 = x.slot.0 + 1 };
      held = record { 0 = pick (uses_held x.operator) (holds_next x words input s).b 0 };
      beside = record { 0 = (holds_next x words input s).h };
    }

-- the words once s is sent: what the operator holds of each past slot
unfoldable pub words_next : SingleOperator → List ℕ → ℕ → ℕ → List ℕ
words_next x words input s = list_of (holds_next x words input s).past word_count

sent_answer : SingleOperator → List ℕ → ℕ → ℕ → Sent
sent_answer x words input s = record { output = record { 0 = s }; next = state_next x words input s }

-- what a step answers
unfoldable pub step_of : SingleOperator → List ℕ → ℕ → ℕ → Result Sent Refusal
unfolding sent_answer
step_of x words input choice = first_of (step_cases x words input choice) Err (Ok (sent_answer x words input (sent x words input choice)))

-- what the words hold then; a refused step writes nothing
unfoldable pub words_after : SingleOperator → List ℕ → ℕ → ℕ → List ℕ
words_after x words input choice = first_of (step_cases x words input choice) (λ why. words) (words_next x words input (sent x words input choice))
