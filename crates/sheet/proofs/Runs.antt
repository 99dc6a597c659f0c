-- Bytes that are stored one run behind the other, or one before the other, are one run.
use mathlib.Core.Path.{◌≡◌, refl, sym, ap, ◌∙◌}
use mathlib.Core.List.{List, [], ◌∷◌, ◌++◌, append_assoc}
use Prim.Native.Nat.{ℕ, suc, ◌+◌, ◌-◌, ◌≤◌, ◌<◌}
use borrow.Rule.Slice.PartMut.{put_mid}
use native.Mathlib.Nat.{add-sub_cancel_left, add-zero, zero-add, add-suc, suc-add}
use native.Mathlib.Omega.{arith}
use lib.ListN.{length, set, take, drop}
use lib.Seq.{sets, sets-eq, set_comm, drop-drop}

-- a run of bytes behind another
pub sets-append : (l : List ℕ) (i : ℕ) (vs ws : List ℕ) → sets (sets l i vs) (i + length vs) ws ≡ sets l i (vs ++ ws)
sets-append l i [] ws = rw add-zero
sets-append l i (a ∷ vs) ws = rw (add-suc, ← suc-add) (sets-append (set l i a) (suc i) vs ws)

-- a byte before a run
pub set_before : (l : List ℕ) (i j : ℕ) (vs : List ℕ) (a : ℕ) → i < j → set (sets l j vs) i a ≡ sets (set l i a) j vs
set_before l i j [] a h = refl
set_before l i j (b ∷ vs) a h = set_before (set l j b) i (suc j) vs a (omega arith) ∙ ap (λ (m : List ℕ). sets m (suc j) vs) (set_comm l j i b a (λ e. omega arith))

-- what is written behind a run is with it one run
pub run-behind : (l : List ℕ) (i j : ℕ) (vs ws : List ℕ) {before after : List ℕ} → before ≡ sets l i vs → after ≡ sets before j ws → j ≡ i + length vs → after ≡ sets l i (vs ++ ws)
run-behind l i j vs ws p q e = rw (q, p, e) (sets-append l i vs ws)

-- a run of bytes before another that is written, and what is written before one is with it one run
sets-before : (l : List ℕ) (i : ℕ) (vs ws : List ℕ) → sets (sets l (i + length vs) ws) i vs ≡ sets l i (vs ++ ws)
sets-before l i [] ws = rw add-zero
sets-before l i (a ∷ vs) ws = rw (set_before l i (i + suc (length vs)) ws a (omega arith), add-suc, ← suc-add) (sets-before (set l i a) (suc i) vs ws)

pub run-before : (l : List ℕ) (i j : ℕ) (vs ws : List ℕ) {before after : List ℕ} → before ≡ sets l j ws → after ≡ sets before i vs → j ≡ i + length vs → after ≡ sets l i (vs ++ ws)
run-before l i j vs ws p q e = rw (q, p, e) (sets-before l i vs ws)

-- bytes stored from the start on, and behind them what was there
pub stored-first : (stored lent : List ℕ) → length stored ≤ length lent → sets lent 0 stored ≡ stored ++ drop (length stored) lent
stored-first stored lent room = sets-eq stored lent 0 (rw zero-add room) ∙ rw zero-add

-- a part that is written over as a whole is a run
pub run-put : (l vs : List ℕ) (at width : ℕ) → length vs ≡ width → at + width ≤ length l → put_mid at (at + width - at) l vs ≡ sets l at vs
run-put l vs at width size room = rw (add-sub_cancel_left at width, sets-eq vs l at (omega arith), size, ← drop-drop) (sym (append_assoc (take at l) vs (drop width (drop at l))))
