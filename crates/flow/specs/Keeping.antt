-- Section 2 as a test of a list of slots: the block or window that ends with each slot totals at most Q.
use Rattle.std.specs.Prelude.{ℕ, suc, ◌+◌, ◌-◌, ◌*◌, ◌/◌, Bool, List, length, leb}
use Rattle.quantity.specs.Sums.{total, every}
use Rattle.flow.specs.Flows.{Flow, flow_of}
use Rattle.flow.specs.Classes.{Class, smooth, uniform, rows}

-- the slots from one to slot t total at most Q
unfoldable pub totals_to : ℕ → ℕ → Flow → ℕ → Bool
totals_to from Q r t = leb (total r (suc t)) (total r from + Q)

-- from the first slot of the block that slot t is in; of the m neighbouring slots that end with it; so of each row
unfoldable pub keeps_to : Class → Flow → ℕ → Bool
keeps_to (smooth m Q) r t = totals_to (t / m * m) Q r t
keeps_to (uniform m Q) r t = totals_to (suc t - m) Q r t
keeps_to (rows given k) r t = every (λ i. totals_to (suc t - (given i).interval) (given i).quota r t) k

-- so at each slot of a list
unfoldable pub keeps_class : Class → List ℕ → Bool
keeps_class c units = every (keeps_to c (flow_of units)) (length units)
