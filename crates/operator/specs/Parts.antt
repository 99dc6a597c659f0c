-- The parts of a slot: test what is lent and stored, decide on numbers, keep what stays. Each is defined on all inputs, and answers the first of its tests that stands.
use Rattle.std.specs.Prelude.{ℕ, ◌+◌, ◌-◌, ◌*◌, min, Bool, not, List, [], ◌∷◌, length, ◌==◌, nat_lt, Option, Some, None, Result, Ok, Err}
use Rattle.quantity.specs.Choice.{pick, any_of}
use Rattle.quantity.specs.Sums.{total, list_of}
use Rattle.quantity.specs.Limits.{largest_amount, last_slot}
use Rattle.operator.specs.Held.{Held}
use Rattle.operator.specs.Delayer.{of_age}
use Rattle.words.specs.Stored.{word_at}
use Rattle.operator.specs.Operators.{least_output, greatest_output, held_after, number_in_range}
use Rattle.operator.specs.Single.{word_count, words_used, uses_held, holds, stored_unusable}
use Rattle.operator.specs.declared.SingleOperator.{SingleOperator}
use Rattle.quantity.specs.declared.Units.{Units}
use Rattle.quantity.specs.declared.refusal.Refusal.{Refusal}
use Rattle.operator.specs.declared.parts.Sending.{Sending}
use Rattle.operator.specs.declared.parts.Unsent.{Unsent}

-- what an input is at the most within a path: what sixteen operators at the limit and an input can bring
abbrev pub most_on_the_way : ℕ
most_on_the_way = 17 * largest_amount

-- Test: section 3's b, unless what is lent and stored cannot be used
unfoldable pub stored_of : SingleOperator → List ℕ → Option Units
stored_of x words = pick (stored_unusable x words) None (Some (record { 0 = (holds x words).b }))

-- what is held, where b is given beside the words
abbrev pub holds_with : SingleOperator → List ℕ → ℕ → Held
holds_with x words b = record { b = b; h = x.beside.0; past = word_at words }

-- the words have a wrong length, no slot number is left, an amount is above its limit
unfoldable pub undecidable : SingleOperator → List ℕ → ℕ → ℕ → ℕ → Bool
undecidable x words b input choice =
    any_of
    (not (length words == word_count)
    ∷ nat_lt last_slot x.slot.0
    ∷ nat_lt largest_amount b
    ∷ nat_lt largest_amount x.beside.0
    ∷ nat_lt most_on_the_way input
    ∷ nat_lt largest_amount choice
    ∷ [])

-- what is sent: the least and the choice
unfoldable pub sent_with : SingleOperator → List ℕ → ℕ → ℕ → ℕ → ℕ
sent_with x words b input choice = least_output x.operator x.slot.0 (holds_with x words b) input + choice

-- the choice is above greatest minus least
unfoldable pub choice_above_with : SingleOperator → List ℕ → ℕ → ℕ → ℕ → Bool
choice_above_with x words b input choice =
    nat_lt (greatest_output x.operator x.slot.0 (holds_with x words b) input - least_output x.operator x.slot.0 (holds_with x words b) input) choice

-- what is held once s is sent
abbrev pub holds_once : SingleOperator → List ℕ → ℕ → ℕ → ℕ → Held
holds_once x words b input s = held_after x.operator (holds_with x words b) input s

-- Decide: what is sent, what stays and a filter's h then, whatever they are
unfoldable pub decided_of : SingleOperator → List ℕ → ℕ → ℕ → ℕ → Result Sending Unsent
decided_of x words b input choice =
    pick (undecidable x words b input choice) (Err Unsent.Undecidable)
    (pick (not (number_in_range x.operator)) (Err Unsent.OutOfRange)
    (pick (choice_above_with x words b input choice) (Err Unsent.ChoiceAbove)
    (Ok (record {
      output = record { 0 = sent_with x words b input choice };
      kept = record { 0 = (holds_once x words b input (sent_with x words b input choice)).b };
      beside = record { 0 = (holds_once x words b input (sent_with x words b input choice)).h };
    }))))

-- of the units of age a, the input being of age 0, what stays where the newest stay, `kept` of them in all: the younger ones take their room first
unfoldable pub newest_of : SingleOperator → List ℕ → ℕ → ℕ → ℕ → ℕ
newest_of x words input kept a = min (of_age (holds x words) input a) (kept - total (of_age (holds x words) input) a)

-- the words have a wrong length, no slot number is left, or an amount is above the limit
abbrev pub keep_unfit : SingleOperator → List ℕ → ℕ → ℕ → Bool
keep_unfit x words kept beside =
    any_of (not (length words == word_count) ∷ nat_lt last_slot x.slot.0 ∷ nat_lt largest_amount kept ∷ nat_lt largest_amount beside ∷ [])

-- the state of the slot after, with so many units kept and so many beside
unfoldable pub state_kept : SingleOperator → ℕ → ℕ → SingleOperator
state_kept x kept beside =
    record {
      operator = x.operator;
      slot = record { 0 = x.slot.0 + 1 };
      held = record { 0 = pick (uses_held x.operator) kept 0 };
      beside = record { 0 = beside };
    }

-- word a then: of the words that the operator uses the newest, the others as they were
unfoldable pub word_kept : SingleOperator → List ℕ → ℕ → ℕ → ℕ → ℕ
word_kept x words input kept a = pick (nat_lt a (words_used x.operator)) (newest_of x words input kept a) (word_at words a)

-- Keep: the state of the slot after
unfoldable pub kept_of : SingleOperator → List ℕ → ℕ → ℕ → Result SingleOperator Unsent
kept_of x words kept beside = pick (keep_unfit x words kept beside) (Err Unsent.Unfit) (pick (not (number_in_range x.operator)) (Err Unsent.OutOfRange) (Ok (state_kept x kept beside)))

-- and what the words hold then: every unit is a slot older, the input is new; where a test stands, nothing is written
unfoldable pub words_kept : SingleOperator → List ℕ → ℕ → ℕ → ℕ → List ℕ
words_kept x words input kept beside =
    pick (keep_unfit x words kept beside) words (pick (not (number_in_range x.operator)) words (list_of (word_kept x words input kept) word_count))

-- the refusal of the call that joins the parts: 1, 5 or 14 at operator 0
abbrev pub refusal_of : Unsent → Refusal
refusal_of Unsent.Undecidable = Refusal.Unusable
refusal_of Unsent.OutOfRange = Refusal.OutOfRange 0
refusal_of Unsent.ChoiceAbove = Refusal.ChoiceAboveGreatest 0
refusal_of Unsent.Unfit = Refusal.Unusable
