-- What an operator holds after n slots, and what a path sends in them, rest on the flows below slot n alone; and choices that fit so far and are 0 after fit for ever.
use mathlib.Core.Path.{◌≡◌, refl, sym}
use mathlib.Core.List.{List, [], ◌∷◌, ◌++◌}
use Prim.Native.Nat.{ℕ, zero, suc, ◌≤◌, ◌<◌}
use native.Mathlib.Decide.{dec_le}
use native.Mathlib.Omega.{arith}
use lib.ListN.{length, length-append, get_or-append, get_or-eq_default}
use lib.Seq.{get_or_at}
use Rattle.operator.specs.Operators.{greatest_output}
use Rattle.operator.specs.Whole.{Whole}
use Rattle.flow.specs.Flows.{Flow, flow_of}
use Rattle.operator.specs.OnFlows.{held_on, output_on, Fitting}
use Rattle.operator.specs.declared.Operator.{Operator}
use Rattle.operator.proofs.Laws.{least-le-greatest, whole-nothing, whole-after}
use Rattle.figures.specs.Along.{flow_into}

-- the same in the first n slots
abbrev pub Agree : ℕ → Flow → Flow → Type 0
Agree n f g = (t : ℕ) → t < n → f t ≡ g t

agree-sooner : (n : ℕ) (f g : Flow) → Agree (suc n) f g → Agree n f g
agree-sooner n f g same t less = same t (omega arith)

module _ (op : Operator) (r s c e : Flow) where
  pub held-agrees : (n : ℕ) → Agree n r s → Agree n c e → held_on op r c n ≡ held_on op s e n
  unfolding held_on
  held-agrees zero inputs choices = refl
  held-agrees (suc n) inputs choices =
      let before = held-agrees n (agree-sooner n r s inputs) (agree-sooner n c e choices) in
      let input : r n ≡ s n = inputs n (omega arith) in
      let choice : c n ≡ e n = choices n (omega arith) in
      rw (before, input, choice)

  pub output-agrees : (n : ℕ) → Agree n r s → Agree n c e → Agree n (output_on op r c) (output_on op s e)
  unfolding output_on
  output-agrees n inputs choices t less =
      let before = held-agrees t (λ i h. inputs i (omega arith)) (λ i h. choices i (omega arith)) in
      rw (before, inputs t less, choices t less)

module _ (operators : ℕ → Operator) (r s : Flow) (c e : ℕ → Flow) (n : ℕ) (inputs : Agree n r s) (choices : (k : ℕ) → Agree n (c k) (e k)) where
  pub into-agrees : (k : ℕ) → Agree n (flow_into operators r c k) (flow_into operators s e k)
  unfolding flow_into
  into-agrees zero = inputs
  into-agrees (suc k) = output-agrees (operators k) (flow_into operators r c k) (flow_into operators s e k) (c k) (e k) n (into-agrees k) (choices k)

-- The flow of a list of n slots, and of it with one more.
module _ (units : List ℕ) (unit n : ℕ) (size : length units ≡ n) where
  pub longer-agrees : Agree n (flow_of units) (flow_of (units ++ (unit ∷ [])))
  longer-agrees t less = sym (get_or-append units (unit ∷ []) 0 t (rw size less))

  pub longer-last : flow_of (units ++ (unit ∷ [])) n ≡ unit
  longer-last = get_or_at units unit [] 0 n size

  pub longer-length : length (units ++ (unit ∷ [])) ≡ suc n
  longer-length = omega (arith, length-append units (unit ∷ []))

pub none_after : (units : List ℕ) (n : ℕ) → length units ≡ n → (t : ℕ) → n ≤ t → flow_of units t ≡ 0
none_after units n size t past = get_or-eq_default units 0 {n = t} (omega arith)

module _ (op : Operator) (r c : Flow) (n : ℕ)
    (before : (t : ℕ) → t < n → output_on op r c t ≤ greatest_output op t (held_on op r c t) (r t))
    (after : (t : ℕ) → n ≤ t → c t ≡ 0) where
  fits-at : (t : ℕ) → Whole op (held_on op r c t) → output_on op r c t ≤ greatest_output op t (held_on op r c t) (r t)
  unfolding output_on
  fits-at t whole =
      elim (dec_le n t) [ yes past ↦ omega (arith, after t past, least-le-greatest op t (held_on op r c t) (r t) whole) | no sooner ↦ before t (omega arith) ]

  whole-at : (t : ℕ) → Whole op (held_on op r c t)
  unfolding held_on output_on
  whole-at zero = whole-nothing op
  whole-at (suc t) = let whole = whole-at t in whole-after op t (held_on op r c t) (r t) (output_on op r c t) whole (omega arith) (fits-at t whole)

  -- the choice 0 fits in every slot
  pub fits-for-ever : Fitting op r c
  fits-for-ever t = fits-at t (whole-at t)
