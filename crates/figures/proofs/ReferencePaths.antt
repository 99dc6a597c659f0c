-- Section 8: the lines marked P, as one table that is computed from the definitions. Behind them, what they leave open: bursts and windows of a uniform class, and delayers before a filter.
use mathlib.Core.Path.{◌≡◌, refl}
use mathlib.Core.List.{List, [], ◌∷◌, map}
use Prim.Native.Nat.{ℕ}
use lib.ListN.{length, get_or, replicate}
use Rattle.quantity.specs.Ranges.{in_range}
use Rattle.quantity.specs.Rounding.{round_up}
use Rattle.quantity.specs.Divisors.{euclid, gcd}
use Rattle.quantity.specs.Sums.{total, every, list_of}
use Rattle.quantity.specs.Refusals.{refusal_number, refusal_place, first_of}
use Rattle.operator.specs.Held.{keeps}
use Rattle.operator.specs.Compactor.{compactor_least, compactor_after}
use Rattle.operator.specs.Filter.{beside_after, filter_least, filter_greatest, filter_after}
use Rattle.operator.specs.Delayer.{of_age, older_than, stays_of, delayer_least, delayer_after}
use Rattle.operator.specs.Operators.{least_output, greatest_output, held_after, number_in_range, limiter, compactor, expander, filter, delayer}
use Rattle.flow.specs.Flows.{flow_of}
use Rattle.operator.specs.OnFlows.{output_on, held_on, none}
use Rattle.flow.specs.Rows.{smaller, with_units, least_of, no_rows, behind_rows, most_of_rows, units_in, rows_most, row_carried, rows_carried, reach, greatest_of, rows_burst}
use Rattle.flow.specs.Classes.{most_in, most_delayed, blocks_met, changed_quota, carries, burst_at}
use Rattle.flow.specs.Declarations.{empty_row, of_one_row, of_several, class_of}
use Rattle.flow.specs.declared.DeclaredRow.{DeclaredRow}
use Rattle.operator.specs.FilterPart.{slower}
use Rattle.words.specs.Stored.{stored_fits, word_fits}
use Rattle.operator.specs.Single
use Rattle.flow.specs.declared.Kind.{Kind}
use Rattle.operator.specs.declared.Operator.{Operator}
use Rattle.operator.specs.declared.single.Sent.{Sent}
use Rattle.quantity.specs.declared.refusal.Refusal.{Refusal}
use Rattle.std.specs.Prelude.{Result, Ok, Err}
use Rattle.sheet.specs.Paths.{Path}
use Rattle.figures.specs.Progress.{behind, progress_at}
use Rattle.figures.specs.Figures.{part_held, part_delay, held_figure, most_arriving, capacity, own_delay, pairs, is_framed, framed_after_filter, quota_behind, figure_too_large, rate_too_low}
use Rattle.figures.specs.Answers.{operator_at, before, paired_at, capacity_at, delay_at, path_delay, operators_cases, path_cases}

-- a path of a kind's (m, Q), its delay wanted and its operators, all on link 0
abbrev pub path_of : Kind → ℕ → ℕ → ℕ → List Operator → Path
path_of kind m Q wanted operators =
    record {
      declaration = of_one_row kind m Q;
      wanted = wanted;
      operators = map (λ operator. record { operator = operator; link = record { 0 = 0 } }) operators;
    }

abbrev pub path : ℕ → ℕ → ℕ → List Operator → Path
path = path_of Kind.Smooth

-- a row, and a path of rows
abbrev pub row : ℕ → ℕ → DeclaredRow
row m Q = record { interval = record { 0 = m }; quota = record { 0 = Q } }

abbrev pub rows_path : List DeclaredRow → ℕ → List Operator → Path
rows_path rows wanted operators =
    record {
      declaration = of_several (length rows) (λ i. get_or rows i empty_row);
      wanted = wanted;
      operators = map (λ operator. record { operator = operator; link = record { 0 = 0 } }) operators;
    }

-- document 02, item 6: the camera of its example, and two rows of which either can be the one that suffices
unfoldable pub camera : List DeclaredRow
camera = row 1 9 ∷ row 3 15 ∷ row 12 48 ∷ []

pub two_rows : List DeclaredRow
two_rows = row 2 10 ∷ row 5 12 ∷ []

-- what a row of the table says: a refusal's number and place; the capacities and the delays, and the sums of both; or a unit's output
pub data Outcome : Type 0 where
  refused : ℕ → ℕ → Outcome
  figures : List ℕ → List ℕ → ℕ → ℕ → Outcome
  output : List ℕ → Outcome

abbrev pub outcome : Path → Outcome
outcome path =
    first_of (path_cases path) (λ why. refused (refusal_number why) (refusal_place why))
    (figures (list_of (capacity_at path) (length path.operators)) (list_of (delay_at path) (length path.operators)) (total (capacity_at path) (length path.operators)) (path_delay path))

-- a new filter 2's first step, of input 5
abbrev pub step_outcome : Result Sent Refusal → Outcome
step_outcome (Ok sent) = output (sent.output.0 ∷ [])
step_outcome (Err why) = refused (refusal_number why) (refusal_place why)

abbrev pub filtered : ℕ → Outcome
filtered choice =
    step_outcome (Single.step_of (record { operator = filter 2; slot = record { 0 = 0 }; held = record { 0 = 0 }; beside = record { 0 = 0 } }) (replicate 64 0) 5 choice)

pub frames : List Operator
frames = compactor 10 ∷ expander 10 ∷ compactor 10 ∷ expander 10 ∷ []

pub computed : List Outcome
computed =
    outcome (path 10 30 30 frames)
    ∷ outcome (path 10 30 29 frames)
    ∷ outcome (path 10 30 40 (limiter 3 ∷ compactor 10 ∷ expander 10 ∷ []))
    ∷ outcome (path 10 30 29 (filter 3 ∷ delayer 5 ∷ filter 3 ∷ delayer 4 ∷ []))
    ∷ outcome (path 10 30 30 (limiter 2 ∷ []))
    ∷ outcome (path 10 30 30 (limiter 4 ∷ []))
    ∷ outcome (path 4 8 30 (compactor 6 ∷ []))
    ∷ outcome (path 4 8 30 (expander 2 ∷ []))
    ∷ output (list_of (output_on (compactor 3) (flow_of (1 ∷ 2 ∷ 0 ∷ 3 ∷ 0 ∷ 0 ∷ [])) none) 6)
    ∷ filtered 3
    ∷ filtered 4
    ∷ output (list_of (output_on (delayer 2) (flow_of (4 ∷ 0 ∷ 0 ∷ [])) none) 3)
    ∷ outcome (path_of Kind.Uniform 10 30 30 (limiter 4 ∷ []))
    ∷ outcome (path_of Kind.Uniform 10 30 30 (delayer 7 ∷ delayer 5 ∷ []))
    ∷ outcome (path 10 30 30 (delayer 7 ∷ delayer 5 ∷ []))
    ∷ outcome (path_of Kind.Uniform 10 30 30 (delayer 7 ∷ filter 4 ∷ delayer 5 ∷ filter 3 ∷ []))
    ∷ outcome (rows_path camera 30 (limiter 4 ∷ []))
    ∷ outcome (rows_path camera 30 (limiter 3 ∷ []))
    ∷ outcome (rows_path camera 30 (limiter 9 ∷ []))
    ∷ outcome (rows_path camera 30 (limiter 5 ∷ compactor 10 ∷ []))
    ∷ outcome (rows_path camera 30 (compactor 8 ∷ expander 4 ∷ []))
    ∷ outcome (rows_path camera 30 (expander 8 ∷ compactor 8 ∷ []))
    ∷ outcome (rows_path camera 30 (delayer 7 ∷ filter 6 ∷ delayer 5 ∷ filter 4 ∷ []))
    ∷ outcome (rows_path two_rows 30 (limiter 5 ∷ []))
    ∷ outcome (rows_path two_rows 30 (limiter 3 ∷ []))
    ∷ outcome (rows_path two_rows 30 (limiter 2 ∷ []))
    ∷ []

pub expected : List Outcome
expected =
    figures (60 ∷ 30 ∷ 60 ∷ 30 ∷ []) (10 ∷ 0 ∷ 10 ∷ 10 ∷ []) 180 30
    ∷ refused 9 0
    ∷ figures (90 ∷ 33 ∷ 30 ∷ []) (20 ∷ 10 ∷ 10 ∷ []) 153 40
    ∷ figures (90 ∷ 165 ∷ 195 ∷ 207 ∷ []) (20 ∷ 5 ∷ 0 ∷ 4 ∷ []) 657 29
    ∷ refused 8 0
    ∷ figures (90 ∷ []) (15 ∷ []) 90 15
    ∷ figures (24 ∷ []) (6 ∷ []) 24 6
    ∷ figures (8 ∷ []) (2 ∷ []) 8 2
    ∷ output (0 ∷ 0 ∷ 0 ∷ 3 ∷ 0 ∷ 0 ∷ [])
    ∷ output (5 ∷ [])
    ∷ refused 14 0
    ∷ output (0 ∷ 0 ∷ 4 ∷ [])
    ∷ figures (60 ∷ []) (8 ∷ []) 60 8
    ∷ figures (60 ∷ 90 ∷ []) (7 ∷ 5 ∷ []) 150 12
    ∷ figures (90 ∷ 150 ∷ []) (7 ∷ 5 ∷ []) 240 12
    ∷ figures (60 ∷ 88 ∷ 138 ∷ 156 ∷ []) (7 ∷ 8 ∷ 5 ∷ 2 ∷ []) 442 22
    ∷ figures (22 ∷ []) (4 ∷ []) 22 4
    ∷ refused 8 0
    ∷ figures (9 ∷ []) (0 ∷ []) 9 0
    ∷ figures (14 ∷ 55 ∷ []) (1 ∷ 10 ∷ []) 69 11
    ∷ figures (54 ∷ 45 ∷ []) (8 ∷ 4 ∷ []) 99 12
    ∷ figures (45 ∷ 90 ∷ []) (0 ∷ 8 ∷ []) 135 8
    ∷ figures (48 ∷ 90 ∷ 120 ∷ 124 ∷ []) (7 ∷ 1 ∷ 5 ∷ 3 ∷ []) 382 16
    ∷ figures (15 ∷ []) (1 ∷ []) 15 1
    ∷ figures (17 ∷ []) (3 ∷ []) 17 3
    ∷ refused 8 0
    ∷ []

pub reference-paths : computed ≡ expected
unfolding computed expected frames camera two_rows smaller with_units least_of no_rows behind_rows most_of_rows units_in rows_most row_carried rows_carried reach greatest_of rows_burst class_of carries burst_at changed_quota round_up total every list_of in_range keeps compactor_least compactor_after beside_after filter_least filter_greatest filter_after of_age older_than stays_of delayer_least delayer_after least_output greatest_output held_after number_in_range output_on held_on most_in most_delayed euclid gcd blocks_met slower Single.step_of Single.sent Single.holds_next Single.choice_above Single.leaves_too_much Single.state_next Single.holds Single.uses_held Single.uses_beside Single.words_used stored_fits word_fits Single.stored_unusable Single.unusable behind progress_at part_held part_delay held_figure most_arriving capacity own_delay pairs is_framed framed_after_filter quota_behind figure_too_large rate_too_low operator_at before paired_at capacity_at delay_at path_delay operators_cases
reference-paths = refl
