-- The flows along a path, and what the figures promise of them (sections 3 and 4): of all flows that keep the declaration and all choices that fit.
use Rattle.std.specs.Prelude.{ℕ, zero, suc, ◌+◌, ◌≤◌, ◌<◌, ◌-◌, ◌≡◌, length}
use Rattle.quantity.specs.Choice.{pick}
use Rattle.quantity.specs.Sums.{total}
use Rattle.flow.specs.Flows.{Flow, InTime}
use Rattle.operator.specs.Operators.{delayer}
use Rattle.operator.specs.OnFlows.{held_on, output_on, Fitting}
use Rattle.flow.specs.Classes.{Keeps}
use Rattle.operator.specs.declared.Operator.{Operator}
use Rattle.sheet.specs.Paths.{Path}
use Rattle.figures.specs.Figures.{is_framed, most_arriving}
use Rattle.figures.specs.Answers.{operator_at, before, held_at, capacity_at, path_delay}

-- the flow into operator k, of an input flow and a flow of choices for each operator: the output of each is the input of the next in the same slot
unfoldable pub flow_into : (ℕ → Operator) → Flow → (ℕ → Flow) → ℕ → Flow
flow_into operators r choices zero = r
flow_into operators r choices (suc k) = output_on (operators k) (flow_into operators r choices k) (choices k)

-- the flow that the class before operator k is of: a filter and a delayer keep the class of the flow into their part
unfoldable pub flow_of_class : (ℕ → Operator) → Flow → (ℕ → Flow) → ℕ → Flow
flow_of_class operators r choices zero = r
flow_of_class operators r choices (suc k) = pick (is_framed (operators k)) (flow_into operators r choices (suc k)) (flow_of_class operators r choices k)

module _ (path : Path) (r : Flow) (choices : ℕ → Flow) where
  -- every choice of every operator fits
  abbrev pub AllFit : Type 0
  AllFit = (k : ℕ) → k < length path.operators → Fitting (operator_at path k) (flow_into (operator_at path) r choices k) (choices k)

  -- what the figures promise
  pub record Promised : Type 0 where
    -- the class before operator k is kept by the flow that it is of: the flow there, and inside a filter part the flow into the part
    pub class_kept : (k : ℕ) → k ≤ length path.operators → Keeps (before path k).class (flow_of_class (operator_at path) r choices k)
    -- no operator holds more than its held figure at any slot's end, nor a filter's h
    pub held_within : (k : ℕ) → k < length path.operators → (n : ℕ) → (held_on (operator_at path k) (flow_into (operator_at path) r choices k) (choices k) n).b ≤ held_at path k
    pub beside_within : (k : ℕ) → k < length path.operators → (n : ℕ) → (held_on (operator_at path k) (flow_into (operator_at path) r choices k) (choices k) n).h ≤ held_at path k
    -- what arrives at an operator in any one slot is at most the most of the class in 1 + D slots
    pub arrives_within : (k : ℕ) → k < length path.operators → (n : ℕ) → flow_into (operator_at path) r choices k n ≤ most_arriving (before path k)
    -- and before it sends in slot n, what it holds and what arrives are at most its capacity
    pub fullest_within : (k : ℕ) → k < length path.operators → (n : ℕ)
        → (held_on (operator_at path k) (flow_into (operator_at path) r choices k) (choices k) n).b + flow_into (operator_at path) r choices k n ≤ capacity_at path k
    -- what enters a delayer d in the d slots before any slot n, or in all before it where these are fewer, is at most its held figure too
    pub entering_within : (k : ℕ) → k < length path.operators → (d : ℕ) → operator_at path k ≡ delayer d
        → (n : ℕ) → total (flow_into (operator_at path) r choices k) n ≤ total (flow_into (operator_at path) r choices k) (n - d) + held_at path k
    -- what entered by the end of slot i has left the last operator by the end of slot i + delay
    pub in_time : InTime (path_delay path) r (flow_into (operator_at path) r choices (length path.operators))
