-- Section 2, after source document 000, section II: what a flow is.
use Rattle.std.specs.Prelude.{ℕ, ◌+◌, ◌*◌, ◌≤◌, List, get_or}
use Rattle.quantity.specs.Sums.{total}

-- the units of each slot; the units of slots 0 to n − 1 of a flow r are `total r n`
abbrev pub Flow : Type 0
Flow = ℕ → ℕ

-- the units of a list of slots, and none after them
abbrev pub flow_of : List ℕ → Flow
flow_of units t = get_or units t 0

-- smooth (m, Q): the units of each block of m slots, blocks starting at multiples of m, total at most Q,
-- an unfinished block, of its first k slots, too
abbrev pub Smooth : ℕ → ℕ → Flow → Type 0
Smooth m Q r = (j k : ℕ) → k ≤ m → total r (j * m + k) ≤ total r (j * m) + Q

-- uniform (m, Q): the units of any m neighbouring slots do, and so of any fewer
abbrev pub Uniform : ℕ → ℕ → Flow → Type 0
Uniform m Q r = (a k : ℕ) → k ≤ m → total r (a + k) ≤ total r a + Q

-- what entered by the end of slot i has left by the end of slot i + D
abbrev pub InTime : ℕ → Flow → Flow → Type 0
InTime D r s = (n : ℕ) → total r n ≤ total s (n + D)

-- nothing leaves before it entered
abbrev pub Behind : Flow → Flow → Type 0
Behind r s = (n : ℕ) → total s n ≤ total r n

-- the flow never has more than B and R a slot in any window
abbrev pub Envelope : ℕ → ℕ → Flow → Type 0
Envelope B R r = (a k : ℕ) → total r (a + k) ≤ total r a + B + k * R
