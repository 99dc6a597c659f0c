-- Section 6, with document 02, item 10: what a run's 2,048 words hold, said from the account and from what arrived at each operator.
use Rattle.std.specs.Prelude.{ℕ, zero, suc, ◌-◌, ◌/◌, ◌%◌, List, length, ltb, eqb}
use Rattle.quantity.specs.Choice.{pick, both}
use Rattle.quantity.specs.Sums.{total}
use Rattle.flow.specs.Flows.{Flow, flow_of}
use Rattle.operator.specs.Single.{word_count, words_used}
use Rattle.operator.specs.Ring.{wrap}
use Rattle.meter.specs.Meter.{meter_word_count}
use Rattle.meter.specs.Words.{word_taken}
use Rattle.sheet.specs.Paths.{Path}
use Rattle.figures.specs.Answers.{operator_at}
use Rattle.run.specs.Account.{Account}

-- what arrived by the end of the latest of slots 0 to t − 1 whose number leaves j on division by d, 32 bits wide and wrapping; 0 where there is none
unfoldable pub latest_total : ℕ → Flow → ℕ → ℕ → ℕ
latest_total d r zero j = 0
latest_total d r (suc t) j = pick (eqb j (t % d)) (total r (suc t) % wrap) (latest_total d r t j)

-- word a of operator k, at which so much arrived in each slot: for a below d of a delayer d, the total by the end of the latest slot whose number leaves a; every other word is 0
unfoldable pub ring_word : Path → (ℕ → List ℕ) → ℕ → ℕ → ℕ
ring_word path arrived k a =
    pick (both (ltb k (length path.operators)) (ltb a (words_used (operator_at path k)))) (latest_total (words_used (operator_at path k)) (flow_of (arrived k)) (length (arrived k)) a) 0

-- word j: below 1,024 the meter's, of the inputs taken so far; word 1,024 + 64·k + a is word a of operator k
unfoldable pub run_word : Path → Account → (ℕ → List ℕ) → ℕ → ℕ
run_word path account arrived j =
    pick (ltb j meter_word_count)
    (word_taken path.declaration account.entered j)
    (ring_word path arrived ((j - meter_word_count) / word_count) ((j - meter_word_count) % word_count))
