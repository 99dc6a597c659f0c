-- The laws of flows, as a list: what the operators promise of every flow, with nothing of words or code; at the end, what a delayer's words within a path say of it.
-- A path's figures rest on these and on nothing inside the operators. Theorems are those of source document 000.
use Rattle.std.proofs.Common.{◌≡◌, ℕ, suc, ◌+◌, ◌-◌, ◌*◌, ◌/◌, ◌%◌, ◌<◌, ◌≤◌, true, false, ◌↔◌, List, [], ◌∷◌}
use Rattle.quantity.specs.Sums.{total, list_of}
use Rattle.quantity.specs.declared.Rate.{Rate}
use Rattle.quantity.specs.Rounding.{round_up}
use Rattle.operator.specs.Held.{Held, nothing}
use Rattle.operator.specs.Operators.{least_output, greatest_output, held_after, number_in_range, limiter, compactor, expander, filter, delayer}
use Rattle.operator.specs.Whole.{Whole}
use Rattle.flow.specs.Flows.{Flow, flow_of, Smooth, Uniform, InTime, Behind, Envelope}
use Rattle.operator.specs.OnFlows.{held_on, output_on, Fitting, none}
use Rattle.operator.specs.Stages.{stage_output, StageFits, row_output, RowFits}
use Rattle.operator.specs.FilterPart.{Slowest, unfiltered, filtered, slower, Served}
use Rattle.operator.specs.Single.{word_count, uses_held}
use Rattle.operator.specs.Ring.{wrap, total_less, ring_held, path_holds, path_least, path_greatest, path_state_kept, ring_word_next, path_new, path_on}
use Rattle.operator.specs.declared.Operator.{Operator}
use Rattle.operator.specs.declared.Operator.TheVariants.{Filter}
use Rattle.operator.specs.declared.ring.PathOperator.{PathOperator}
use Rattle.operator.proofs.DelayerRing.{RingStands}
use Rattle.operator.proofs.Steps as Steps
use Rattle.operator.proofs.Conservation as Conservation
use Rattle.operator.proofs.Limiter as Limiter
use Rattle.operator.proofs.Compactor as Compactor
use Rattle.operator.proofs.Expander as Expander
use Rattle.operator.proofs.Delayer as Delayer
use Rattle.operator.proofs.DelayerRing as DelayerRing
use Rattle.operator.proofs.Stages as Stages
use Rattle.operator.proofs.FilterPart as FilterPart
use Rattle.operator.proofs.Misreadings as Misreadings

-- Conservation, and intervals that are never empty.

-- no output is above what was there
pub greatest-le-there : (op : Operator) (t : ℕ) (x : Held) (r : ℕ) → greatest_output op t x r ≤ x.b + r
greatest-le-there = Conservation.greatest-le-there

-- the interval is never empty, so choice 0 always fits
pub least-le-greatest : (op : Operator) (t : ℕ) (x : Held) (r : ℕ) → Whole op x → least_output op t x r ≤ greatest_output op t x r
least-le-greatest = Conservation.least-le-greatest

pub whole-nothing : (op : Operator) → Whole op nothing
whole-nothing = Conservation.whole-nothing

pub whole-after : (op : Operator) (t : ℕ) (x : Held) (r s : ℕ) → Whole op x → least_output op t x r ≤ s → s ≤ greatest_output op t x r → Whole op (held_after op x r s)
whole-after = Conservation.whole-after

pub whole-on : (op : Operator) (r c : Flow) → Fitting op r c → (n : ℕ) → Whole op (held_on op r c n)
whole-on = Conservation.whole-on

pub none-fits : (op : Operator) (r : Flow) → Fitting op r none
none-fits = Conservation.none-fits

-- what came is what left and what is held
pub conserved : (op : Operator) (r c : Flow) → Fitting op r c → (n : ℕ) → total r n ≡ total (output_on op r c) n + (held_on op r c n).b
conserved = Conservation.conserved

-- no operator but a filter has an h
pub beside_none : (op : Operator) → ((R : Rate) → op ≡ Filter R → ⊥) → (r c : Flow) (n : ℕ) → (held_on op r c n).h ≡ 0
beside_none = Steps.beside_none

pub output-behind : (op : Operator) (r c : Flow) → Fitting op r c → Behind r (output_on op r c)
output-behind = Conservation.output-behind

-- Limiter R (Theorem 3).

-- a is the moment it was last empty: from then on it sent R in each slot
pub limiter-last-empty : (R : ℕ) (r c : Flow) → Fitting (limiter R) r c → (n : ℕ)
    → (a : ℕ) × (k : ℕ) × (a + k ≡ n) × (total (output_on (limiter R) r c) n ≡ total r a + k * R)
limiter-last-empty = Limiter.limiter-last-empty

pub limiter-held : (R B : ℕ) (r c : Flow) → Fitting (limiter R) r c → Envelope B R r → (n : ℕ) → (held_on (limiter R) r c n).b ≤ B
limiter-held = Limiter.limiter-held

pub limiter-in-time : (R B : ℕ) (r c : Flow) → 1 ≤ R → Fitting (limiter R) r c → Envelope B R r → InTime (round_up B R) r (output_on (limiter R) r c)
limiter-in-time = Limiter.limiter-in-time

pub limiter-uniform : (R : ℕ) (r c : Flow) → Fitting (limiter R) r c → Uniform 1 R (output_on (limiter R) r c)
limiter-uniform = Limiter.limiter-uniform

-- Compactor n (Theorem 4).

-- its totals exactly: by the end of slot k it has sent what came before the block of slot k
pub compactor-totals : (n : ℕ) (r c : Flow) → 1 ≤ n → Fitting (compactor n) r c → (k : ℕ) → total (output_on (compactor n) r c) (suc k) ≡ total r (k / n * n)
compactor-totals = Compactor.compactor-totals

pub compactor-held : (n Q : ℕ) (r c : Flow) → 1 ≤ n → Fitting (compactor n) r c → Smooth n Q r → (k : ℕ) → (held_on (compactor n) r c k).b ≤ Q
compactor-held = Compactor.compactor-held

pub compactor-in-time : (n : ℕ) (r c : Flow) → 1 ≤ n → Fitting (compactor n) r c → InTime n r (output_on (compactor n) r c)
compactor-in-time = Compactor.compactor-in-time

pub compactor-uniform : (n Q : ℕ) (r c : Flow) → 1 ≤ n → Fitting (compactor n) r c → Smooth n Q r → Uniform n Q (output_on (compactor n) r c)
compactor-uniform = Compactor.compactor-uniform

-- Expander n (Theorem 5).

-- at each block's end it has sent all that came
pub expander-totals : (n : ℕ) (r c : Flow) → 1 ≤ n → Fitting (expander n) r c → (j : ℕ) → total (output_on (expander n) r c) (j * n) ≡ total r (j * n)
expander-totals = Expander.expander-totals

pub expander-held : (n Q : ℕ) (r c : Flow) → 1 ≤ n → Fitting (expander n) r c → Smooth n Q r → (k : ℕ) → (held_on (expander n) r c k).b ≤ Q
expander-held = Expander.expander-held

-- with what arrives, before it sends, it has no more (document 02, item 9)
pub expander-fullest : (n Q : ℕ) (r c : Flow) → 1 ≤ n → Fitting (expander n) r c → Smooth n Q r → (k : ℕ) → (held_on (expander n) r c k).b + r k ≤ Q
expander-fullest = Expander.expander-fullest

pub expander-in-time : (n : ℕ) (r c : Flow) → 1 ≤ n → Fitting (expander n) r c → InTime n r (output_on (expander n) r c)
expander-in-time = Expander.expander-in-time

pub expander-smooth : (n Q : ℕ) (r c : Flow) → 1 ≤ n → Fitting (expander n) r c → Smooth n Q r → Smooth n Q (output_on (expander n) r c)
expander-smooth = Expander.expander-smooth

-- Expander n, then compactor n: the pair's output is the compactor's own on the expander's input, so the pair is late by n in all (Theorem 7).
module _ (n : ℕ) (r c e : Flow) (large : 1 ≤ n) (first : Fitting (expander n) r c) (second : Fitting (compactor n) (output_on (expander n) r c) e) where
  pub pair-totals : (k : ℕ) → total (output_on (compactor n) (output_on (expander n) r c) e) k ≡ total (output_on (compactor n) r none) k
  pair-totals = Expander.pair-totals n r c e large first second

  pub pair-in-time : InTime n r (output_on (compactor n) (output_on (expander n) r c) e)
  pair-in-time = Expander.pair-in-time n r c e large first second

-- Delayer d, in totals (a difference is 0 where it would be negative).

-- oldest leave first: of the units of ages a and above it holds what entered by then less what left
pub delayer-by-age : (d : ℕ) (r c : Flow) → Fitting (delayer d) r c → (n a : ℕ) → a ≤ d
    → total (held_on (delayer d) r c n).past d - total (held_on (delayer d) r c n).past a ≡ total r (n - a) - total (output_on (delayer d) r c) n
delayer-by-age = Delayer.delayer-by-age

-- so its least is what entered by the end of the slot d slots ago less what left
pub delayer-least : (d : ℕ) (r c : Flow) → Fitting (delayer d) r c → (n : ℕ)
    → least_output (delayer d) n (held_on (delayer d) r c n) (r n) ≡ total r (suc n - d) - total (output_on (delayer d) r c) n
delayer-least = Delayer.delayer-least

pub delayer-in-time : (d : ℕ) (r c : Flow) → Fitting (delayer d) r c → InTime d r (output_on (delayer d) r c)
delayer-in-time = Delayer.delayer-in-time

-- and it can send any flow that is in time and does not leave before it entered
pub delayer-sends : (d : ℕ) (r s : Flow) → Behind r s → InTime d r s → (c : Flow) × Fitting (delayer d) r c × ((n : ℕ) → output_on (delayer d) r c n ≡ s n)
delayer-sends = Delayer.delayer-sends

-- A delayer d and a row of d one-slot stages (source document 003, formula (11)): the two forms have the same outputs.

-- every output of a row is allowed by the interval form: the delayer's choices are the output less its least
pub delayer-of-row : (d : ℕ) (r : Flow) (stages : ℕ → Flow) → RowFits d r stages
    → (c : Flow) × Fitting (delayer d) r c × ((n : ℕ) → output_on (delayer d) r c n ≡ row_output d r stages n)
delayer-of-row = Stages.delayer-of-row

-- every output that the interval form allows comes from some choices in the row: behind stage i the larger has left of what left the delayer and what entered it i slots ago
pub row-of-delayer : (d : ℕ) (r c : Flow) → Fitting (delayer d) r c
    → (stages : ℕ → Flow) × RowFits d r stages × ((n : ℕ) → row_output d r stages n ≡ output_on (delayer d) r c n)
row-of-delayer = Stages.row-of-delayer

-- a stage is a delayer 1, with the same choices
pub stage-is-delayer : (r c : Flow) (n : ℕ) → output_on (delayer 1) r c n ≡ stage_output r c n
stage-is-delayer = Stages.stage-is-delayer

pub stage-fits-as-delayer : (r c : Flow) → Fitting (delayer 1) r c ↔ StageFits r c
stage-fits-as-delayer = Stages.stage-fits-as-delayer

-- The filter part (Theorems 8 to 10). r is the flow into the part, s the flow into the operator.

-- the invariant: what a limiter P would have sent of r has left e slots later; it holds at the start, and each operator keeps it
pub served-start : (r : Flow) → Served unfiltered 0 r r
served-start = FilterPart.served-start

pub served-delayer : (P : Slowest) (e d : ℕ) (r s c : Flow) → Served P e r s → Fitting (delayer d) s c → Served P (e + d) r (output_on (delayer d) s c)
served-delayer = FilterPart.served-delayer

pub served-filter : (P : Slowest) (e R : ℕ) (r s c : Flow) → Served P e r s → Fitting (filter R) s c → Served (slower P R) e r (output_on (filter R) s c)
served-filter = FilterPart.served-filter

-- the part's delay, behind a filter and before any
pub filtered-in-time : (P e B : ℕ) (r s : Flow) → 1 ≤ P → Envelope B P r → Served (filtered P) e r s → InTime (round_up B P + e) r s
filtered-in-time = FilterPart.filtered-in-time

pub unfiltered-in-time : (e : ℕ) (r s : Flow) → Served unfiltered e r s → InTime e r s
unfiltered-in-time = FilterPart.unfiltered-in-time

-- what an operator of the part holds, behind a filter and before any
pub filtered-held : (op : Operator) (P e B : ℕ) (r s c : Flow) → Fitting op s c → Behind r s → Envelope B P r → Served (filtered P) e r (output_on op s c)
    → (n : ℕ) → (held_on op s c n).b ≤ B + e * P
filtered-held = FilterPart.filtered-held

pub unfiltered-held : (op : Operator) (e M : ℕ) (r s c : Flow) → Fitting op s c → Behind r s → ((a : ℕ) → total r (a + e) ≤ total r a + M) → Served unfiltered e r (output_on op s c)
    → (n : ℕ) → (held_on op s c n).b ≤ M
unfiltered-held = FilterPart.unfiltered-held

-- a filter's h keeps the bound of its b
pub filter-beside : (R P e B : ℕ) (Q : Slowest) (r s c : Flow) → slower Q R ≡ filtered P → Behind r s → Envelope B P r → Served Q e r s
    → (n : ℕ) → (held_on (filter R) s c n).h ≤ B + e * P
filter-beside = FilterPart.filter-beside

-- and what enters a delayer of the part in its d slots keeps the bound of what it holds
pub filtered-entering : (P e d B : ℕ) (r s : Flow) → Behind r s → Envelope B P r → Served (filtered P) e r s → (n : ℕ) → total s n ≤ total s (n - d) + (B + (e + d) * P)
filtered-entering = FilterPart.filtered-entering

pub unfiltered-entering : (e d M : ℕ) (r s : Flow) → Behind r s → ((a : ℕ) → total r (a + (e + d)) ≤ total r a + M) → Served unfiltered e r s
    → (n : ℕ) → total s n ≤ total s (n - d) + M
unfiltered-entering = FilterPart.unfiltered-entering

-- Section 9: a limiter does not keep smooth flows smooth, by the paper's own example.

pub before-limiter : Smooth 4 4 (flow_of (0 ∷ 0 ∷ 0 ∷ 4 ∷ 4 ∷ 0 ∷ 0 ∷ 0 ∷ []))
before-limiter = Misreadings.before-limiter

pub behind-limiter : list_of (output_on (limiter 2) (flow_of (0 ∷ 0 ∷ 0 ∷ 4 ∷ 4 ∷ 0 ∷ 0 ∷ 0 ∷ [])) none) 8 ≡ 0 ∷ 0 ∷ 0 ∷ 2 ∷ 2 ∷ 2 ∷ 2 ∷ 0 ∷ []
behind-limiter = Misreadings.behind-limiter

pub not-smooth-behind-limiter : Smooth 4 4 (output_on (limiter 2) (flow_of (0 ∷ 0 ∷ 0 ∷ 4 ∷ 4 ∷ 0 ∷ 0 ∷ 0 ∷ [])) none) → ⊥
not-smooth-behind-limiter = Misreadings.not-smooth-behind-limiter

-- Document 02, item 10: a delayer's ring within a path.

-- the wrapping difference of two totals is exact where less than 2^32 lies between them
pub total-less-exact : (x y : ℕ) → y ≤ x → x < y + wrap → total_less (x % wrap) (y % wrap) ≡ x - y
total-less-exact = DelayerRing.total-less-exact

-- what a delayer holds after a slot is exact on any totals, where so much is there to send and what stays is below the wrap, though input and output may be above it
pub ring-held-kept : (x : PathOperator) (r s kept beside : ℕ) → uses_held x.operator ≡ false → x.left < wrap → s ≤ ring_held x + r → ring_held x + r - s < wrap
    → ring_held (path_state_kept x r s kept beside) ≡ ring_held x + r - s
ring-held-kept = DelayerRing.ring-held-kept

-- a slot's least is section 3's on what the state and the words say of each age, whatever they are, so its interval is
pub ring-least : (x : PathOperator) (words : List ℕ) (r : ℕ) → number_in_range x.operator ≡ true → path_least x words r ≡ least_output x.operator x.slot.0 (path_holds x words) r
ring-least = DelayerRing.ring-least

-- each word of the ring is the total after the latest slot that wrote it: so of a new delayer, and a slot keeps it
pub ring-stands-new : (d : ℕ) (r s : Flow) → RingStands d r s 0 (path_new (delayer d)).state (path_new (delayer d)).words
ring-stands-new = DelayerRing.ring-stands-new

pub ring-stands-next : (d : ℕ) (r s : Flow) (n : ℕ) (x : PathOperator) (words : List ℕ) → 1 ≤ d → d ≤ word_count → RingStands d r s n x words → (kept beside : ℕ) → beside ≡ 0
    → RingStands d r s (suc n) (path_state_kept x (r n) (s n) kept beside) (list_of (ring_word_next x words (r n)) word_count)
ring-stands-next = DelayerRing.ring-stands-next

-- where that is so, and what entered in d slots is below the wrap, state and words say of each age what the delayer holds
pub ring-stands-holds : (d : ℕ) (r c : Flow) → Fitting (delayer d) r c → (n : ℕ) → total r n < total r (n - d) + wrap
    → (x : PathOperator) (words : List ℕ) → RingStands d r (output_on (delayer d) r c) n x words → path_holds x words ≡ held_on (delayer d) r c n
ring-stands-holds = DelayerRing.ring-stands-holds

-- so the slot has the interval that the delayer has by age
pub ring-interval : (d : ℕ) (r c : Flow) → Fitting (delayer d) r c → (n : ℕ) → total r n < total r (n - d) + wrap → 1 ≤ d → d ≤ word_count
    → (x : PathOperator) (words : List ℕ) → RingStands d r (output_on (delayer d) r c) n x words
    → (path_least x words (r n) ≡ least_output (delayer d) n (held_on (delayer d) r c n) (r n)) × (path_greatest x words (r n) ≡ greatest_output (delayer d) n (held_on (delayer d) r c n) (r n))
ring-interval = DelayerRing.ring-interval

-- and from new on, slot after slot, the ring and the layout by age agree
pub ring-on : (d : ℕ) (r c : Flow) → 1 ≤ d → d ≤ word_count → Fitting (delayer d) r c → (n : ℕ) → total r n < total r (n - d) + wrap
    → path_holds (path_on (delayer d) r (output_on (delayer d) r c) n).state (path_on (delayer d) r (output_on (delayer d) r c) n).words ≡ held_on (delayer d) r c n
ring-on = DelayerRing.ring-on
