-- Section 6, with document 02, item 10: what a run and its 2,048 words hold, as a meter and operators within a path; and refusal 1 of what is lent and stored.
use Rattle.std.specs.Prelude.{ℕ, ◌+◌, ◌*◌, Bool, false, not, List, [], ◌∷◌, length, get_or, leb, ltb, eqb}
use Rattle.quantity.specs.Limits.{most_operators}
use Rattle.quantity.specs.Choice.{pick, both, any_of}
use Rattle.quantity.specs.Sums.{every}
use Rattle.quantity.specs.declared.Slots.{Slots}
use Rattle.operator.specs.Operators.{number_in_range}
use Rattle.flow.specs.Declarations.{declaration_in_range, rows_in_order}
use Rattle.operator.specs.Single.{word_count}
use Rattle.operator.specs.Ring.{path_unusable}
use Rattle.meter.specs.Meter.{meter_word_count, meter_unusable}
use Rattle.operator.specs.declared.Operator.{Operator}
use Rattle.operator.specs.declared.Operator.TheVariants.{Limiter, Compactor, Expander, Filter, Delayer}
use Rattle.operator.specs.declared.ring.PathOperator.{PathOperator}
use Rattle.meter.specs.declared.SourceMeter.{SourceMeter}
use Rattle.sheet.specs.Bodies.{part}
use Rattle.run.specs.declared.Stage.{Stage}
use Rattle.run.specs.declared.Run.{Run}

-- a run's words
abbrev pub run_word_count : ℕ
run_word_count = 2_048

-- the meter's words are the first 1,024; word 1,024 + 64·k + a is word a of operator k
unfoldable pub meter_words : List ℕ → List ℕ
meter_words words = part 0 meter_word_count words

abbrev pub operator_at_word : ℕ → ℕ
operator_at_word k = meter_word_count + word_count * k

unfoldable pub operator_words : List ℕ → ℕ → List ℕ
operator_words words k = part (operator_at_word k) word_count words

-- a stage behind the path's operators: a limiter 0 that holds nothing
abbrev pub no_stage : Stage
no_stage = record { operator = Limiter (record { 0 = 0 }); held = record { 0 = 0 }; beside = record { 0 = 0 }; entered = 0; left = 0 }

unfoldable pub no_operator : Operator → Bool
no_operator (Limiter R) = eqb R.0 0
no_operator (Compactor m) = false
no_operator (Expander m) = false
no_operator (Filter R) = false
no_operator (Delayer d) = false

unfoldable pub stage_at : Run → ℕ → Stage
stage_at run k = get_or run.stages k no_stage

-- the run's meter
unfoldable pub meter_in : Run → SourceMeter
meter_in run = record { declaration = run.declaration; slot = run.slot; block = run.block }

-- a stage at a slot, as an operator within a path
abbrev pub operator_of : Stage → Slots → PathOperator
operator_of stage slot = record { operator = stage.operator; slot = slot; held = stage.held; beside = stage.beside; entered = stage.entered; left = stage.left }

-- operator k of the run
unfoldable pub operator_in : Run → ℕ → PathOperator
operator_in run k = operator_of (stage_at run k) run.slot

-- 1: the number of an operator of the path is out of its range, or a stage behind them is not the empty one
unfoldable pub stage_misplaced : Stage → Bool → Bool
stage_misplaced stage named = not (pick named (number_in_range stage.operator) (both (no_operator stage.operator) (eqb stage.held.0 0)))

-- 1: what stage k and its words store cannot be used: an amount is above the limit, of a delayer what its totals leave, or something that should be 0 is not
unfoldable pub stage_unusable : Run → List ℕ → ℕ → Bool
stage_unusable run words k = path_unusable (operator_in run k) (operator_words words k)

unfoldable pub stage_fits : Run → List ℕ → ℕ → Bool
stage_fits run words k = both (not (stage_misplaced (stage_at run k) (ltb k run.count))) (not (stage_unusable run words k))

-- 1 of what is lent and stored: the words have a wrong length; the count, the declaration or a stage's number is out of its range, or the declaration's rows do not rise;
-- no slot number is left; an amount stored is above the limit; a word or field that should be 0 is not
unfoldable pub run_unusable : Run → List ℕ → Bool
run_unusable run words =
    any_of
    (not (eqb (length words) run_word_count)
    ∷ not (both (leb 1 run.count) (leb run.count most_operators))
    ∷ not (declaration_in_range run.declaration)
    ∷ not (rows_in_order run.declaration)
    ∷ meter_unusable (meter_in run) (meter_words words)
    ∷ not (every (stage_fits run words) most_operators)
    ∷ [])
