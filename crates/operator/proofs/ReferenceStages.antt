-- Rows of one, two and three stages on small flows, worked out by hand and computed from the definitions, both ways:
-- a row's output and the delayer's choices for it, then the choices that the proof gives the stages for that output.
use Rattle.std.proofs.Common.{◌≡◌, ℕ, List, [], ◌∷◌, length, get_or, refl}
use Rattle.quantity.specs.Sums.{total, list_of}
use Rattle.flow.specs.Flows.{flow_of}
use Rattle.operator.specs.Delayer.{of_age, older_than, stays_of, delayer_least, delayer_after}
use Rattle.operator.specs.Operators.{least_output, held_after, delayer}
use Rattle.operator.specs.OnFlows.{held_on, output_on}
use Rattle.operator.specs.Stages.{stage_least, stage_held, stage_output, behind_stages, row_output}
use Rattle.operator.proofs.Delayer.{delayer_choice}
use Rattle.operator.proofs.Stages.{stage_total, stage_choice}

-- what a row of d stages sends in the slots of the input, with a list of choices for each stage
abbrev row_sends : ℕ → List ℕ → List (List ℕ) → List ℕ
row_sends d input choices = list_of (row_output d (flow_of input) (λ i. flow_of (get_or choices i []))) (length input)

-- what a delayer d sends in them
abbrev delayer_sends : ℕ → List ℕ → List ℕ → List ℕ
delayer_sends d input choices = list_of (output_on (delayer d) (flow_of input) (flow_of choices)) (length input)

-- the delayer's choices for an output, and the stages'
abbrev delayer_choices : ℕ → List ℕ → List ℕ → List ℕ
delayer_choices d input output = list_of (delayer_choice d (flow_of input) (flow_of output)) (length input)

abbrev stage_choices : ℕ → List ℕ → List ℕ → List (List ℕ)
stage_choices d input output = list_of (λ i. list_of (stage_choice (flow_of input) (flow_of output) i) (length input)) d

-- the inputs of the three rows, and their outputs
abbrev one_input : List ℕ
one_input = 4 ∷ 2 ∷ 0 ∷ []

abbrev one_output : List ℕ
one_output = 1 ∷ 5 ∷ 0 ∷ []

abbrev two_input : List ℕ
two_input = 5 ∷ 1 ∷ 0 ∷ 0 ∷ []

abbrev two_output : List ℕ
two_output = 1 ∷ 1 ∷ 4 ∷ 0 ∷ []

abbrev three_input : List ℕ
three_input = 4 ∷ 0 ∷ 3 ∷ 0 ∷ 0 ∷ 0 ∷ []

abbrev three_output : List ℕ
three_output = 0 ∷ 0 ∷ 3 ∷ 2 ∷ 0 ∷ 2 ∷ []

-- with choice 0 in every stage each unit is as late as there are stages; then the three rows
pub rows : List (List ℕ)
rows =
    row_sends 3 (4 ∷ 1 ∷ 0 ∷ 0 ∷ 0 ∷ []) []
    ∷ row_sends 1 one_input ((1 ∷ 2 ∷ 0 ∷ []) ∷ [])
    ∷ row_sends 2 two_input ((2 ∷ 1 ∷ 0 ∷ 0 ∷ []) ∷ (1 ∷ 0 ∷ 0 ∷ 0 ∷ []) ∷ [])
    ∷ row_sends 3 three_input ((0 ∷ 0 ∷ 1 ∷ 0 ∷ 0 ∷ 0 ∷ []) ∷ (0 ∷ 1 ∷ 0 ∷ 0 ∷ 0 ∷ 0 ∷ []) ∷ (0 ∷ 0 ∷ 2 ∷ 1 ∷ 0 ∷ 0 ∷ []) ∷ [])
    ∷ []

pub expected_rows : List (List ℕ)
expected_rows = (0 ∷ 0 ∷ 0 ∷ 4 ∷ 1 ∷ []) ∷ one_output ∷ two_output ∷ three_output ∷ []

pub reference-rows : rows ≡ expected_rows
unfolding rows expected_rows list_of row_output behind_stages stage_output stage_held stage_least
reference-rows = refl

-- the delayer's choices for these outputs, and that with them it sends these
pub forth : List (List ℕ)
forth =
    delayer_choices 1 one_input one_output
    ∷ delayer_choices 2 two_input two_output
    ∷ delayer_choices 3 three_input three_output
    ∷ delayer_sends 1 one_input (1 ∷ 2 ∷ 0 ∷ [])
    ∷ delayer_sends 2 two_input (1 ∷ 1 ∷ 1 ∷ 0 ∷ [])
    ∷ delayer_sends 3 three_input (0 ∷ 0 ∷ 3 ∷ 1 ∷ 0 ∷ 0 ∷ [])
    ∷ []

pub expected_forth : List (List ℕ)
expected_forth =
    (1 ∷ 2 ∷ 0 ∷ [])
    ∷ (1 ∷ 1 ∷ 1 ∷ 0 ∷ [])
    ∷ (0 ∷ 0 ∷ 3 ∷ 1 ∷ 0 ∷ 0 ∷ [])
    ∷ one_output
    ∷ two_output
    ∷ three_output
    ∷ []

pub reference-forth : forth ≡ expected_forth
unfolding forth expected_forth total list_of delayer_choice output_on held_on least_output held_after delayer_least delayer_after stays_of older_than of_age
reference-forth = refl

-- the stages' choices for these outputs: others than above
pub back : List (List (List ℕ))
back = stage_choices 1 one_input one_output ∷ stage_choices 2 two_input two_output ∷ stage_choices 3 three_input three_output ∷ []

pub expected_back : List (List (List ℕ))
expected_back =
    ((1 ∷ 2 ∷ 0 ∷ []) ∷ [])
    ∷ ((1 ∷ 0 ∷ 0 ∷ 0 ∷ []) ∷ (1 ∷ 1 ∷ 1 ∷ 0 ∷ []) ∷ [])
    ∷ ((0 ∷ 0 ∷ 0 ∷ 0 ∷ 0 ∷ 0 ∷ []) ∷ (0 ∷ 0 ∷ 0 ∷ 1 ∷ 0 ∷ 0 ∷ []) ∷ (0 ∷ 0 ∷ 3 ∷ 1 ∷ 0 ∷ 0 ∷ []) ∷ [])
    ∷ []

pub reference-back : back ≡ expected_back
unfolding back expected_back total list_of stage_choice stage_total
reference-back = refl

-- and that with them the rows send these
pub back_sends : List (List ℕ)
back_sends =
    row_sends 1 one_input (stage_choices 1 one_input one_output)
    ∷ row_sends 2 two_input (stage_choices 2 two_input two_output)
    ∷ row_sends 3 three_input (stage_choices 3 three_input three_output)
    ∷ []

pub expected_back_sends : List (List ℕ)
expected_back_sends = one_output ∷ two_output ∷ three_output ∷ []

pub reference-back-sends : back_sends ≡ expected_back_sends
unfolding back_sends expected_back_sends total list_of stage_choice stage_total row_output behind_stages stage_output stage_held stage_least
reference-back-sends = refl
