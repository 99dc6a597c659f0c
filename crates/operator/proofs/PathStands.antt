-- What stands for an operator within a path after n slots of a flow into it and a flow out of it: of a delayer its totals and its ring, of any other operator b and h in its fields.
-- It stands from new, and once the operator has sent. Then state and words have section 3's b, h and past, and what is within the limit is usable.
use Rattle.std.proofs.Common.{◌≡◌, ℕ, suc, ◌+◌, ◌-◌, ◌<◌, ◌≤◌, Bool, true, false, ltb, ◌⊎◌, List, length, sym, refl, ap, ◌∙◌, inl, inr, ⊎_elim, arith, eq-eqb, le-leb}
use Rattle.quantity.specs.Choice.{pick}
use Rattle.quantity.specs.Limits.{largest_amount, last_slot}
use Rattle.quantity.specs.Ranges.{delay_range}
use Rattle.quantity.specs.Sums.{total, list_of}
use Rattle.quantity.specs.declared.Slots.{Slots}
use Rattle.quantity.proofs.Laws.{pick_true, either_second, least-le, le-largest}
use Rattle.quantity.proofs.Sums.{total-same, every_holds, length-list_of}
use Rattle.words.specs.Stored.{word_at, stored_fits}
use Rattle.flow.specs.Flows.{Flow}
use Rattle.operator.specs.Held.{Held, nothing}
use Rattle.operator.specs.Delayer.{delayer_greatest}
use Rattle.operator.specs.Operators.{least_output, greatest_output, held_after, number_in_range, delayer}
use Rattle.operator.specs.Whole.{Whole}
use Rattle.operator.specs.OnFlows.{held_on, output_on, Fitting}
use Rattle.operator.specs.Single.{word_count, words_used, uses_held, uses_beside}
use Rattle.operator.specs.Ring.{wrap, ring_held, ring_past, path_holds, path_least, word_unused, totals_fit, path_state_kept, total_next, ring_word_next, path_new}
use Rattle.operator.specs.declared.Operator.{Operator}
use Rattle.operator.specs.declared.Operator.TheVariants.{Limiter, Compactor, Expander, Filter, Delayer}
use Rattle.operator.specs.declared.ring.PathOperator.{PathOperator}
use Rattle.operator.proofs.Conservation.{least-le-greatest}
use Rattle.operator.proofs.SingleLaws.{no_words}
use Rattle.operator.proofs.HeldByAge.{past-none, beside_none}
use Rattle.operator.proofs.DelayerRing.{RingStands, held_same, word-listed, ring-least, ring-stands-new, ring-stands-next, ring-stands-holds}
use Rattle.operator.proofs.RingLaws.{PathUsable, ring-stands-usable}

-- an operator that does not use its field is a delayer
pub field-or-ring : (op : Operator) → (uses_held op ≡ true) ⊎ ((d : ℕ) × (op ≡ delayer d))
unfolding uses_held
field-or-ring (Limiter R) = inl refl
field-or-ring (Compactor m) = inl refl
field-or-ring (Expander m) = inl refl
field-or-ring (Filter R) = inl refl
field-or-ring (Delayer d) = inr (d.0, refl)

-- An operator that is no delayer.

stored-fits : (used : Bool) (amount n : ℕ) → n ≤ largest_amount → (used ≡ true → amount ≤ n) → (used ≡ false → amount ≡ 0) → stored_fits used amount ≡ true
unfolding stored_fits
stored-fits true amount n small fits none = le-leb amount largest_amount (let below = fits refl in omega arith)
stored-fits false amount n small fits none = eq-eqb amount 0 (none refl)

-- its fields have b and h; its totals, its words and what it does not use are 0
pub record FieldsStand (x : PathOperator) (words : List ℕ) (y : Held) : Type 0 where
  pub sized : length words ≡ word_count
  pub same : path_holds x words ≡ y
  pub alone : uses_beside x.operator ≡ false → x.beside.0 ≡ 0
  pub entered : x.entered ≡ 0
  pub left : x.left ≡ 0
  pub clear : (a : ℕ) → word_at words a ≡ 0

module _ (x : PathOperator) (words : List ℕ) (apart : uses_held x.operator ≡ true) where
  holds-fields : ◌≡◌ {A = Held} (path_holds x words) (record { b = x.held.0; h = x.beside.0; past = word_at words })
  unfolding path_holds
  holds-fields =
      ap (λ (t : Bool). record { b = pick t x.held.0 (ring_held x); h = x.beside.0; past = λ a. pick t (word_at words a) (ring_past (words_used x.operator) x words a) }) apart

  pub fields-usable : (y : Held) → FieldsStand x words y → x.slot.0 ≤ last_slot → y.b ≤ largest_amount → y.h ≤ largest_amount → PathUsable x words
  unfolding totals_fit word_unused
  fields-usable y stands left b-small h-small =
      let kept = sym holds-fields ∙ stands.same in
      let b-same : x.held.0 ≡ y.b = ap (λ (z : Held). z.b) kept in
      let h-same : x.beside.0 ≡ y.h = ap (λ (z : Held). z.h) kept in
      record {
        sized = stands.sized;
        slot_left = left;
        held_fits = stored-fits (uses_held x.operator) x.held.0 y.b b-small (λ e. omega arith) (λ e. absurd (never e));
        beside_fits = stored-fits (uses_beside x.operator) x.beside.0 y.h h-small (λ e. omega arith) stands.alone;
        totals_fit = rw (apart, eq-eqb x.entered 0 stands.entered, eq-eqb x.left 0 stands.left);
        words_fit = every_holds (word_unused x.operator words) word_count (λ j less. either_second (ltb j (words_used x.operator)) _ (eq-eqb (word_at words j) 0 (stands.clear j)));
      }
    where
      never : uses_held x.operator ≡ false → ⊥
      never e = cc

-- with nothing held in any slot
pub fields-new : (op : Operator) (slot : Slots) (words : List ℕ) → uses_held op ≡ true → length words ≡ word_count → ((a : ℕ) → word_at words a ≡ 0)
    → FieldsStand (record { operator = op; slot = slot; held = record { 0 = 0 }; beside = record { 0 = 0 }; entered = 0; left = 0 }) words nothing
fields-new op slot words apart size none =
    record { sized = size; same = holds-fields _ words apart ∙ held_same refl refl none; alone = λ e. refl; entered = refl; left = refl; clear = none }

module _ (x : PathOperator) (words : List ℕ) (y : Held) (apart : uses_held x.operator ≡ true) (stands : FieldsStand x words y) (input s : ℕ) where
  abbrev after : Held
  after = held_after x.operator y input s

  abbrev state_then : PathOperator
  state_then = path_state_kept x input s after.b after.h

  -- no word is written
  word-clear : (a : ℕ) → ring_word_next x words input a ≡ 0
  unfolding ring_word_next
  word-clear a = rw apart (stands.clear a)

  words-clear : (a : ℕ) → word_at (list_of (ring_word_next x words input) word_count) a ≡ 0
  words-clear a = word-listed (ring_word_next x words input) (λ j behind. word-clear j) a ∙ word-clear a

  past-clear : (a : ℕ) → after.past a ≡ 0
  past-clear a = past-none x.operator y input s a (let none = no_words x.operator apart in omega arith)

  fields-next : FieldsStand state_then (list_of (ring_word_next x words input) word_count) after
  unfolding path_state_kept total_next
  fields-next =
      record {
        sized = length-list_of (ring_word_next x words input) word_count;
        same = holds-fields state_then _ apart ∙ held_same (pick_true _ _ _ apart) refl (λ a. words-clear a ∙ sym (past-clear a));
        alone = beside_none x.operator y input s;
        entered = pick_true _ _ _ apart;
        left = pick_true _ _ _ apart;
        clear = words-clear;
      }

-- A delayer's number, and what it does not use.

delay-least : (d : ℕ) → number_in_range (delayer d) ≡ true → 1 ≤ d
unfolding number_in_range
delay-least d inside = least-le delay_range d inside

delay-largest : (d : ℕ) → number_in_range (delayer d) ≡ true → d ≤ word_count
unfolding number_in_range
delay-largest d inside = le-largest delay_range d inside

delayer-alone : (d : ℕ) → uses_beside (delayer d) ≡ false
unfolding uses_beside
delayer-alone d = refl

-- Any operator, with so much arrived and sent in each of n slots.

pub record PathStands (r s : Flow) (n : ℕ) (x : PathOperator) (words : List ℕ) (y : Held) : Type 0 where
  pub fields : uses_held x.operator ≡ true → FieldsStand x words y
  pub ring : (d : ℕ) → x.operator ≡ delayer d → RingStands d r s n x words

pub path-stands-new : (op : Operator) (r s : Flow) → PathStands r s 0 (path_new op).state (path_new op).words nothing
unfolding path_new
path-stands-new op r s =
    record {
      fields = λ apart. fields-new op (record { 0 = 0 }) (list_of (λ j. 0) word_count) apart (length-list_of (λ j. 0) word_count) (word-listed (λ j. 0) (λ j behind. refl));
      ring = λ d same. rw same (ring-stands-new d r s);
    }

-- it rests on the first n slots alone
module _ (r s r' s' : Flow) (n : ℕ) (into : (t : ℕ) → t < n → r t ≡ r' t) (out : (t : ℕ) → t < n → s t ≡ s' t) (x : PathOperator) (words : List ℕ) where
  ring-stands-same : (d : ℕ) → RingStands d r s n x words → RingStands d r' s' n x words
  ring-stands-same d stands =
      record {
        sized = stands.sized;
        operator = stands.operator;
        slot = stands.slot;
        apart = stands.apart;
        alone = stands.alone;
        entered = stands.entered ∙ rw (total-same r r' n into);
        left = stands.left ∙ rw (total-same s s' n out);
        ring = λ a below. stands.ring a below ∙ rw (total-same r r' (n - a) (λ t less. into t (omega arith)));
        unused = stands.unused;
      }

  pub path-stands-same : (y : Held) → PathStands r s n x words y → PathStands r' s' n x words y
  path-stands-same y stands = record { fields = stands.fields; ring = λ d same. ring-stands-same d (stands.ring d same) }

module _ (r s : Flow) (n : ℕ) (x : PathOperator) (words : List ℕ) (y : Held) (stands : PathStands r s n x words y) where
  pub path-stands-next : number_in_range x.operator ≡ true
      → PathStands r s (suc n) (path_state_kept x (r n) (s n) (held_after x.operator y (r n) (s n)).b (held_after x.operator y (r n) (s n)).h) (list_of (ring_word_next x words (r n)) word_count) (held_after x.operator y (r n) (s n))
  unfolding path_state_kept
  path-stands-next inside =
      record {
        fields = λ apart. fields-next x words y apart (stands.fields apart) (r n) (s n);
        ring =
            λ d same.
            let in-range : number_in_range (delayer d) ≡ true = rw same at inside in
            ring-stands-next d r s n x words (delay-least d in-range) (delay-largest d in-range) (stands.ring d same) _ _ (beside_none x.operator y (r n) (s n) (ap uses_beside same ∙ delayer-alone d));
      }

  -- a delayer's b is what its totals leave
  ring-b : (d : ℕ) → x.operator ≡ delayer d → (path_holds x words).b ≡ ring_held x
  unfolding path_holds uses_held
  ring-b d same = rw same

  pub path-stands-usable : path_holds x words ≡ y → x.slot.0 ≤ last_slot → y.b ≤ largest_amount → y.h ≤ largest_amount → PathUsable x words
  path-stands-usable holds left b-small h-small =
      ⊎_elim
      (λ apart. fields-usable x words apart y (stands.fields apart) left b-small h-small)
      (λ (d, same).
      let ring = stands.ring d same in
      let held : (path_holds x words).b ≡ y.b = ap (λ (z : Held). z.b) holds in
      ring-stands-usable d r s n x words ring (omega (arith, ring.slot)) (omega (arith, ring-b d same)))
      (field-or-ring x.operator)

-- state and words have the b, h and past of the flows, where less than the wrap entered a delayer in its d slots
module _ (op : Operator) (r c : Flow) (fits : Fitting op r c) (n : ℕ) (near : (d : ℕ) → op ≡ delayer d → total r n < total r (n - d) + wrap) where
  pub path-stands-holds : (x : PathOperator) (words : List ℕ) → x.operator ≡ op → PathStands r (output_on op r c) n x words (held_on op r c n) → path_holds x words ≡ held_on op r c n
  path-stands-holds x words same stands =
      ⊎_elim
      (λ apart. (stands.fields (rw same apart)).same)
      (λ (d, is). rw is (ring-stands-holds d r c (rw is at fits) n (near d is) x words (rw is at (stands.ring d (same ∙ is)))))
      (field-or-ring op)

-- The interval, on any words.

whole_fields : (op : Operator) (y : Held) → uses_held op ≡ true → Whole op y
unfolding uses_held
whole_fields (Limiter R) y apart = tt
whole_fields (Compactor m) y apart = tt
whole_fields (Expander m) y apart = tt
whole_fields (Filter R) y apart = tt
whole_fields (Delayer d) y apart = cc

module _ (x : PathOperator) (words : List ℕ) (r d : ℕ) (same : x.operator ≡ delayer d) where
  least-held : path_least x words r ≤ (path_holds x words).b
  unfolding path_least path_holds uses_held
  least-held = rw same (omega arith)

  greatest-there : greatest_output x.operator x.slot.0 (path_holds x words) r ≡ (path_holds x words).b + r
  unfolding greatest_output delayer_greatest
  greatest-there = rw same

-- it is never empty
pub path-interval : (x : PathOperator) (words : List ℕ) (r : ℕ) → number_in_range x.operator ≡ true
    → least_output x.operator x.slot.0 (path_holds x words) r ≤ greatest_output x.operator x.slot.0 (path_holds x words) r
path-interval x words r inside =
    ⊎_elim
    (λ apart. least-le-greatest x.operator x.slot.0 (path_holds x words) r (whole_fields x.operator (path_holds x words) apart))
    (λ (d, same). omega (arith, ring-least x words r inside, least-held x words r d same, greatest-there x words r d same))
    (field-or-ring x.operator)
