-- Document 02, item 10: an operator within a path. A delayer's 64 words are a ring there: word t mod d is the total of units entered after slot t, for the last d slots;
-- the totals of what entered and of what left stand beside the operator, 32 bits wide and wrapping. Any other operator is as it is alone.
use Rattle.std.specs.Prelude.{ℕ, zero, suc, ◌+◌, ◌-◌, ◌%◌, min, Bool, not, List, [], ◌∷◌, length, ◌==◌, nat_le, nat_lt, Result, Ok, Err}
use Rattle.quantity.specs.Choice.{pick, both, either, any_of}
use Rattle.quantity.specs.Sums.{every, list_of}
use Rattle.quantity.specs.Limits.{largest_amount, last_slot}
use Rattle.words.specs.Stored.{word_at, stored_fits, word_noted}
use Rattle.flow.specs.Flows.{Flow}
use Rattle.operator.specs.Held.{Held}
use Rattle.operator.specs.Operators.{least_output, greatest_output, held_after, number_in_range}
use Rattle.operator.specs.Single.{word_count, words_used, uses_held, uses_beside}
use Rattle.operator.specs.Parts.{most_on_the_way}
use Rattle.operator.specs.declared.Operator.{Operator}
use Rattle.operator.specs.declared.ring.PathOperator.{PathOperator}
use Rattle.operator.specs.declared.ring.Advanced.{Advanced}
use Rattle.operator.specs.declared.ring.Halted.{Halted}

-- 2^32
abbrev pub wrap : ℕ
wrap = 4_294_967_296

-- a total and so many units more, wrapping
unfoldable pub total_more : ℕ → ℕ → ℕ
total_more total units = (total + units) % wrap

-- the wrapping difference of two totals: what the second needs to wrap to the first
unfoldable pub total_less : ℕ → ℕ → ℕ
total_less total earlier = (total + (wrap - earlier)) % wrap

-- what a delayer holds: entered less left
unfoldable pub ring_held : PathOperator → ℕ
ring_held x = total_less x.entered x.left

-- what entered after slot t − d, t being the next slot: word t mod d is the total that slot t − d left, or 0
unfoldable pub ring_recent : ℕ → PathOperator → List ℕ → ℕ
ring_recent d x words = total_less x.entered (word_at words (x.slot.0 % d))

-- what is held of the ages below a: of what entered in the last a slots, as the word of the slot before them tells, what is within b, since oldest leave first; of the ages below d it is b
unfoldable pub ring_younger : ℕ → PathOperator → List ℕ → ℕ → ℕ
ring_younger d x words a = pick (nat_lt a d) (min (ring_held x) (total_less x.entered (word_at words ((x.slot.0 + d - 1 - a) % d)))) (ring_held x)

-- so what is held of the units that entered a slots ago
unfoldable pub ring_past : ℕ → PathOperator → List ℕ → ℕ → ℕ
ring_past d x words a = ring_younger d x words (suc a) - ring_younger d x words a

-- section 3's b, h and past of an operator of a path
unfoldable pub path_holds : PathOperator → List ℕ → Held
path_holds x words =
    record {
      b = pick (uses_held x.operator) x.held.0 (ring_held x);
      h = x.beside.0;
      past = λ a. pick (uses_held x.operator) (word_at words a) (ring_past (words_used x.operator) x words a);
    }

-- the least output in the next slot: a delayer's is what it holds less what entered after slot t − d, 0 if negative
unfoldable pub path_least : PathOperator → List ℕ → ℕ → ℕ
path_least x words r =
    pick (uses_held x.operator) (least_output x.operator x.slot.0 (path_holds x words) r) (ring_held x - ring_recent (words_used x.operator) x words)

-- and the greatest: a delayer's is all that is there
unfoldable pub path_greatest : PathOperator → List ℕ → ℕ → ℕ
path_greatest x words r = greatest_output x.operator x.slot.0 (path_holds x words) r

-- 1: the words behind those that a delayer uses are 0; of an operator that is none, all
unfoldable pub word_unused : Operator → List ℕ → ℕ → Bool
word_unused op words j = either (nat_lt j (words_used op)) (word_at words j == 0)

-- 1: the totals of an operator that is no delayer are 0; of a delayer, what is held is within the limit, whatever the totals and its ring's words are
unfoldable pub totals_fit : PathOperator → Bool
totals_fit x = pick (uses_held x.operator) (both (x.entered == 0) (x.left == 0)) (nat_le (ring_held x) largest_amount)

-- 1, of what is lent and stored
unfoldable pub path_unusable : PathOperator → List ℕ → Bool
path_unusable x words =
    any_of
    (not (length words == word_count)
    ∷ nat_lt last_slot x.slot.0
    ∷ not (stored_fits (uses_held x.operator) x.held.0)
    ∷ not (stored_fits (uses_beside x.operator) x.beside.0)
    ∷ not (totals_fit x)
    ∷ not (every (word_unused x.operator words) word_count)
    ∷ [])

-- what is sent: the least and the choice
unfoldable pub path_sent : PathOperator → List ℕ → ℕ → ℕ → ℕ
path_sent x words input choice = path_least x words input + choice

-- 14: the choice is above greatest minus least
unfoldable pub path_choice_above : PathOperator → List ℕ → ℕ → ℕ → Bool
path_choice_above x words input choice = nat_lt (path_greatest x words input - path_least x words input) choice

-- what is held once s is sent
unfoldable pub path_holds_next : PathOperator → List ℕ → ℕ → ℕ → Held
path_holds_next x words input s = held_after x.operator (path_holds x words) input s

-- a delayer's totals with the slot's input and output, wrapping; another operator has none
unfoldable pub total_next : Operator → ℕ → ℕ → ℕ
total_next op total units = pick (uses_held op) 0 (total_more total units)

-- the state of the slot after, with so much sent, so many units kept and so many beside
unfoldable pub path_state_kept : PathOperator → ℕ → ℕ → ℕ → ℕ → PathOperator
path_state_kept x input output kept beside =
    record {
      operator = x.operator;
      slot = record { 0 = x.slot.0 + 1 };
      held = record { 0 = pick (uses_held x.operator) kept 0 };
      beside = record { 0 = beside };
      entered = total_next x.operator x.entered input;
      left = total_next x.operator x.left output;
    }

-- word j then: a delayer's word t mod d is the new total, every other word is as it was
unfoldable pub ring_word_next : PathOperator → List ℕ → ℕ → ℕ → ℕ
ring_word_next x words input j =
    pick (both (not (uses_held x.operator)) (j == x.slot.0 % words_used x.operator)) (total_more x.entered input) (word_at words j)

-- the state of the slot after, but for the slot, which is not counted yet
unfoldable pub path_advanced : PathOperator → ℕ → ℕ → ℕ → ℕ → PathOperator
path_advanced x input output kept beside =
    record {
      operator = x.operator;
      slot = x.slot;
      held = (path_state_kept x input output kept beside).held;
      beside = (path_state_kept x input output kept beside).beside;
      entered = (path_state_kept x input output kept beside).entered;
      left = (path_state_kept x input output kept beside).left;
    }

-- what an operator would store is within the limit
unfoldable pub storable : ℕ → ℕ → Bool
storable b h = both (nat_le b largest_amount) (nat_le h largest_amount)

-- what is lent and stored cannot be used, the operator's number is out of its range, or more is on the way than there can be
unfoldable pub path_unready : PathOperator → List ℕ → ℕ → Bool
path_unready x words input = any_of (path_unusable x words ∷ not (number_in_range x.operator) ∷ nat_lt most_on_the_way input ∷ [])

-- what is held once the least and the choice are sent
unfoldable pub path_holds_sent : PathOperator → List ℕ → ℕ → ℕ → Held
path_holds_sent x words input choice = path_holds_next x words input (path_sent x words input choice)

-- the word that a delayer's total is noted in; another operator has none
unfoldable pub ring_place : PathOperator → ℕ
ring_place x = pick (uses_held x.operator) word_count (x.slot.0 % words_used x.operator)

-- Advance: what is sent, whether what stays is within the limit, the state then, and the word that its total is noted in
unfoldable pub advanced_of : PathOperator → List ℕ → ℕ → ℕ → Result Advanced Halted
advanced_of x words input choice =
    pick (path_unready x words input) (Err Halted.Unusable)
    (pick (path_choice_above x words input choice) (Err Halted.ChoiceAbove)
    (Ok (record {
      output = record { 0 = path_sent x words input choice };
      fits = storable (path_holds_sent x words input choice).b (path_holds_sent x words input choice).h;
      next = path_advanced x input (path_sent x words input choice) (path_holds_sent x words input choice).b (path_holds_sent x words input choice).h;
      at = ring_place x;
    })))

-- an operator's words with its total noted in its word
abbrev pub ring_noted : PathOperator → List ℕ → List ℕ
ring_noted x words = word_noted words (ring_place x) x.entered

-- The state and the words slot after slot.

pub record PathState : Type 0 where
  pub state : PathOperator
  pub words : List ℕ

-- a new operator: state and words are cleared
unfoldable pub path_new : Operator → PathState
path_new op =
    record {
      state = record { operator = op; slot = record { 0 = 0 }; held = record { 0 = 0 }; beside = record { 0 = 0 }; entered = 0; left = 0 };
      words = list_of (λ j. 0) word_count;
    }

-- once s is sent: what a slot leaves
unfoldable pub path_next : PathState → ℕ → ℕ → PathState
path_next y input s =
    record {
      state = path_state_kept y.state input s (path_holds_next y.state y.words input s).b (path_holds_next y.state y.words input s).h;
      words = list_of (ring_word_next y.state y.words input) word_count;
    }

-- after n slots of an input flow r and an output flow s
unfoldable pub path_on : Operator → Flow → Flow → ℕ → PathState
path_on op r s zero = path_new op
path_on op r s (suc n) = path_next (path_on op r s n) (r n) (s n)
