-- Section 6: what a meter's words hold, said from the inputs that it took.
use Rattle.std.specs.Prelude.{ℕ, zero, suc, ◌%◌, List, length, ◌==◌, nat_lt}
use Rattle.quantity.specs.Choice.{pick}
use Rattle.flow.specs.Flows.{Flow, flow_of}
use Rattle.flow.specs.declared.Declaration.{Declaration}
use Rattle.meter.specs.Meter.{ring_length}

-- the input of the latest of slots 0 to t − 1 whose number leaves j on division by m, 0 where there is none
unfoldable pub latest_input : ℕ → Flow → ℕ → ℕ → ℕ
latest_input m r zero j = 0
latest_input m r (suc t) j = pick (j == t % m) (r t) (latest_input m r t j)

-- word j of a meter that took these inputs: for j below the ring's length m, the input of the latest slot whose number leaves j;
-- every other word is 0
unfoldable pub word_taken : Declaration → List ℕ → ℕ → ℕ
word_taken declared taken j = pick (nat_lt j (ring_length declared)) (latest_input (ring_length declared) (flow_of taken) (length taken) j) 0
