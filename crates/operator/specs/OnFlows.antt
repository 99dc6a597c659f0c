-- What an operator makes of a flow (section 3, over all slots).
use Rattle.std.specs.Prelude.{ℕ, zero, suc, ◌+◌, ◌≤◌}
use Rattle.flow.specs.Flows.{Flow}
use Rattle.operator.specs.Held.{Held, nothing}
use Rattle.operator.specs.Operators.{least_output, greatest_output, held_after}
use Rattle.operator.specs.declared.Operator.{Operator}

-- what an operator holds after n slots of an input flow r and a flow of choices c: in each slot it sends its least and the choice
unfoldable pub held_on : Operator → Flow → Flow → ℕ → Held
held_on op r c zero = nothing
held_on op r c (suc n) = let x = held_on op r c n in held_after op x (r n) (least_output op n x (r n) + c n)

-- its output flow
unfoldable pub output_on : Operator → Flow → Flow → Flow
output_on op r c n = least_output op n (held_on op r c n) (r n) + c n

-- every choice fits: no output is above its slot's greatest
abbrev pub Fitting : Operator → Flow → Flow → Type 0
Fitting op r c = (n : ℕ) → output_on op r c n ≤ greatest_output op n (held_on op r c n) (r n)

-- the choice 0 in every slot
abbrev pub none : Flow
none n = 0
