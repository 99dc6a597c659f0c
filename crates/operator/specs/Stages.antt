-- Source document 003, formula (11) and the words before it: a delayer of d slots as a row of d one-slot stages.
use Rattle.std.specs.Prelude.{ℕ, zero, suc, ◌+◌, ◌-◌, ◌<◌, ◌≤◌}
use Rattle.flow.specs.Flows.{Flow}

-- a stage that holds b and gets r sends all that it held and any part of r: from b …
unfoldable pub stage_least : ℕ → ℕ
stage_least b = b

-- … to b + r
unfoldable pub stage_greatest : ℕ → ℕ → ℕ
stage_greatest b r = b + r

-- what a stage holds after n slots of an input flow r and a flow of choices c: in each slot it sends its least and the choice, and keeps the rest
unfoldable pub stage_held : Flow → Flow → ℕ → ℕ
stage_held r c zero = 0
stage_held r c (suc n) = let b = stage_held r c n in b + r n - (stage_least b + c n)

-- its output flow
unfoldable pub stage_output : Flow → Flow → Flow
stage_output r c n = stage_least (stage_held r c n) + c n

-- every choice fits the stage: no output is above its slot's greatest
abbrev pub StageFits : Flow → Flow → Type 0
StageFits r c = (n : ℕ) → stage_output r c n ≤ stage_greatest (stage_held r c n) (r n)

-- the flow behind i stages, the output of each the input of the next in the same slot; the choices are a flow for each stage, counted from 0
unfoldable pub behind_stages : ℕ → Flow → (ℕ → Flow) → Flow
behind_stages zero r c = r
behind_stages (suc i) r c = stage_output (behind_stages i r c) (c i)

-- the output flow of a row of d stages
unfoldable pub row_output : ℕ → Flow → (ℕ → Flow) → Flow
row_output d r c = behind_stages d r c

-- every choice of a row of d stages fits its stage
abbrev pub RowFits : ℕ → Flow → (ℕ → Flow) → Type 0
RowFits d r c = (i : ℕ) → i < d → StageFits (behind_stages i r c) (c i)
