-- Section 9: a limiter does not keep smooth flows smooth, computed on the paper's own example.
use Rattle.std.proofs.Common.{◌≡◌, ℕ, zero, suc, ◌+◌, ◌*◌, ◌≤◌, List, [], ◌∷◌, length, refl, le_refl, arith}
use lib.ListN.{get_or-eq_default}
use Rattle.quantity.specs.Sums.{total, list_of}
use Rattle.quantity.proofs.Sums.{total-le, total-le-end}
use Rattle.operator.specs.Held.{keeps}
use Rattle.operator.specs.Limiter.{limiter_least, limiter_after}
use Rattle.operator.specs.Operators.{least_output, held_after, limiter}
use Rattle.flow.specs.Flows.{flow_of, Smooth}
use Rattle.operator.specs.OnFlows.{held_on, output_on, none}

-- nothing comes after the list's slots
total-le-all : (xs : List ℕ) (n : ℕ) → total (flow_of xs) n ≤ total (flow_of xs) (length xs)
total-le-all xs n = total-le-end (flow_of xs) (length xs) (λ j past. get_or-eq_default xs 0 past) n

abbrev units : List ℕ
units = 0 ∷ 0 ∷ 0 ∷ 4 ∷ 4 ∷ 0 ∷ 0 ∷ 0 ∷ []

first_block : total (flow_of units) 4 ≡ 4
unfolding total
first_block = refl

both-blocks : total (flow_of units) 8 ≡ 8
unfolding total
both-blocks = refl

-- 4 units are in the first block, and no more than 4 after it
pub before-limiter : Smooth 4 4 (flow_of units)
before-limiter zero k h = omega (arith, first_block, total-le (flow_of units) {n = 0 + k} {m = 4} (omega arith))
before-limiter (suc j) k h =
    omega (arith, first_block, both-blocks, total-le-all units (suc j * 4 + k), total-le (flow_of units) {n = 4} {m = suc j * 4} (omega arith))

pub behind-limiter : list_of (output_on (limiter 2) (flow_of units) none) 8 ≡ 0 ∷ 0 ∷ 0 ∷ 2 ∷ 2 ∷ 2 ∷ 2 ∷ 0 ∷ []
unfolding list_of output_on held_on least_output held_after limiter_least limiter_after keeps
behind-limiter = refl

-- 6 units are in the second block
pub not-smooth-behind-limiter : Smooth 4 4 (output_on (limiter 2) (flow_of units) none) → ⊥
unfolding total output_on held_on least_output held_after limiter_least limiter_after keeps
not-smooth-behind-limiter smooth = let second = smooth 1 4 (le_refl 4) in omega arith
