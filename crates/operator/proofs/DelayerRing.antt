-- Document 02, item 10: a delayer's ring says of each age what section 3 says that the delayer holds, so a slot has the same interval and output as by age.
-- Its least is section 3's on whatever the ring says, on any words; and what the ring says is so from new on, each slot, while what enters in d slots stays below the wrap.
use Rattle.std.proofs.Common.{◌≡◌, ℕ, zero, suc, ◌+◌, ◌-◌, ◌%◌, ◌<◌, ◌≤◌, min, true, false, List, length, sym, refl, ap, ◌∙◌, ap₂, le_refl, mod-lt, mod-eq_of_lt, lt_of_not-le, arith, le-ltb, lt-ltb, eq-eqb, ne_eqb, le-leb}
use mathlib.Core.Path.{fun_ext}
use native.Mathlib.Nat.{mod-eq-sub-mod, mod-add-mod, add-mod_right, zero-sub, suc-sub-suc}
use native.Mathlib.Decide.{dec_le, dec_lt}
use lib.ListN.{get_or-eq_default}
use Rattle.quantity.specs.Choice.{pick, both}
use Rattle.quantity.specs.Ranges.{in_range, delay_range}
use Rattle.quantity.specs.Sums.{total, list_of}
use Rattle.quantity.specs.declared.Rate.{Rate}
use Rattle.quantity.specs.declared.Slots.{Slots}
use Rattle.quantity.specs.declared.Units.{Units}
use Rattle.quantity.proofs.Laws.{pick_true, pick-false, least-le}
use Rattle.quantity.proofs.Sums.{total-zero, total-suc, total-le, length-list_of, get_d-list_of}
use Rattle.words.specs.Stored.{word_at}
use Rattle.operator.specs.Held.{Held}
use Rattle.operator.specs.Delayer.{delayer_least, delayer_after}
use Rattle.operator.specs.Operators.{least_output, greatest_output, held_after, number_in_range, delayer}
use Rattle.flow.specs.Flows.{Flow}
use Rattle.operator.specs.OnFlows.{held_on, output_on, Fitting}
use Rattle.operator.specs.Single.{word_count, words_used, uses_held}
use Rattle.operator.specs.Ring.{wrap, total_more, total_less, ring_held, ring_recent, ring_younger, ring_past, path_holds, path_least, path_greatest, path_holds_next, total_next, path_state_kept, ring_word_next, PathState, path_new, path_next, path_on}
use Rattle.operator.specs.declared.Operator.{Operator}
use Rattle.operator.specs.declared.Operator.TheVariants.{Limiter, Compactor, Expander, Filter, Delayer}
use Rattle.operator.specs.declared.ring.PathOperator.{PathOperator}
use Rattle.operator.proofs.Steps.{beside_none}
use Rattle.operator.proofs.Delayer.{ByAge, held_all, by-age-on}
use Rattle.operator.proofs.SingleLaws.{of-age-past}

-- Totals that wrap.

-- the wrapping difference of two totals is exact where less than 2^32 lies between them
pub total-less-exact : (x y : ℕ) → y ≤ x → x < y + wrap → total_less (x % wrap) (y % wrap) ≡ x - y
unfolding total_less
total-less-exact x y behind near = omega arith

-- and a total that wraps goes on as the total does
pub total-more-wraps : (x units : ℕ) → total_more (x % wrap) units ≡ (x + units) % wrap
unfolding total_more
total-more-wraps x units = mod-add-mod x wrap units

-- what a delayer holds after a slot is exact on any totals, where so much is there to send and what stays is below the wrap, though input and output may be above it
pub ring-held-kept : (x : PathOperator) (r s kept beside : ℕ) → uses_held x.operator ≡ false → x.left < wrap → s ≤ ring_held x + r → ring_held x + r - s < wrap
    → ring_held (path_state_kept x r s kept beside) ≡ ring_held x + r - s
unfolding ring_held path_state_kept total_next total_more total_less
ring-held-kept x r s kept beside delays small there near = rw delays (omega arith)

-- The least, on any words.

module _ (d : ℕ) (x : PathOperator) (words : List ℕ) where
  younger-below : (a : ℕ) → a < d → ring_younger d x words a ≡ min (ring_held x) (total_less x.entered (word_at words ((x.slot.0 + d - 1 - a) % d)))
  unfolding ring_younger
  younger-below a below = pick_true _ _ _ (lt-ltb a d below)

  younger-all : (a : ℕ) → d ≤ a → ring_younger d x words a ≡ ring_held x
  unfolding ring_younger
  younger-all a above = pick-false _ _ _ (le-ltb a d above)

  oldest-held : 1 ≤ d → ring_held x - ring_recent d x words ≡ ring_past d x words (d - 1)
  unfolding ring_past ring_recent
  oldest-held large =
      let last : suc (d - 1) ≡ d = omega arith in
      let place : x.slot.0 + d - 1 - (d - 1) ≡ x.slot.0 = omega arith in
      let below = younger-below (d - 1) (omega arith) in
      let all = younger-all d (le_refl d) in
      rw (last, all, below, place) (omega arith)

least-by-ring : (op : Operator) (slot : Slots) (held beside : Units) (entered left : ℕ) (words : List ℕ) (r : ℕ) → number_in_range op ≡ true →
    let x : PathOperator = record { operator = op; slot = slot; held = held; beside = beside; entered = entered; left = left } in
    path_least x words r ≡ least_output op slot.0 (path_holds x words) r
unfolding path_least uses_held words_used least_output delayer_least number_in_range path_holds
least-by-ring (Limiter R) slot held beside entered left words r inside = refl
least-by-ring (Compactor m) slot held beside entered left words r inside = refl
least-by-ring (Expander m) slot held beside entered left words r inside = refl
least-by-ring (Filter R) slot held beside entered left words r inside = refl
least-by-ring (Delayer d) slot held beside entered left words r inside =
    let large = least-le delay_range d.0 inside in
    oldest-held d.0 _ words large ∙ sym (of-age-past _ r d.0 large)

-- the least of a slot is section 3's on what the state and the words say of each age, whatever they are
pub ring-least : (x : PathOperator) (words : List ℕ) (r : ℕ) → number_in_range x.operator ≡ true → path_least x words r ≡ least_output x.operator x.slot.0 (path_holds x words) r
ring-least x words r inside = least-by-ring x.operator x.slot x.held x.beside x.entered x.left words r inside

-- The ring, slot after slot.

-- state and words after n slots of the input flow r and the output flow s: each word of the ring is the total after the latest of those slots that wrote it, 0 where none did
pub record RingStands (d : ℕ) (r s : Flow) (n : ℕ) (x : PathOperator) (words : List ℕ) : Type 0 where
  pub sized : length words ≡ word_count
  pub operator : x.operator ≡ delayer d
  pub slot : x.slot.0 ≡ n
  pub apart : x.held.0 ≡ 0
  pub alone : x.beside.0 ≡ 0
  pub entered : x.entered ≡ total r n % wrap
  pub left : x.left ≡ total s n % wrap
  pub ring : (a : ℕ) → a < d → word_at words ((n + d - 1 - a) % d) ≡ total r (n - a) % wrap
  pub unused : (j : ℕ) → d ≤ j → word_at words j ≡ 0

-- what is read past the end is 0
pub word-listed : (f : ℕ → ℕ) → ((j : ℕ) → word_count ≤ j → f j ≡ 0) → (j : ℕ) → word_at (list_of f word_count) j ≡ f j
word-listed f none j =
    elim (dec_le word_count j) [
      | yes behind ↦ get_or-eq_default (list_of f word_count) 0 (rw (length-list_of f word_count) behind) ∙ sym (none j behind)
      | no inside ↦ get_d-list_of 0 f word_count j (lt_of_not-le inside)
    ]

pub ring-stands-new : (d : ℕ) (r s : Flow) → RingStands d r s 0 (path_new (delayer d)).state (path_new (delayer d)).words
unfolding path_new
ring-stands-new d r s =
    let clear = word-listed (λ j. 0) (λ j behind. refl) in
    record {
      sized = length-list_of (λ j. 0) word_count;
      operator = refl;
      slot = refl;
      apart = refl;
      alone = refl;
      entered = rw total-zero;
      left = rw total-zero;
      ring = λ a below. clear ((0 + d - 1 - a) % d) ∙ rw (zero-sub, total-zero);
      unused = λ j behind. clear j;
    }

-- slots that are less than d apart write different words
place_other : (d n k : ℕ) → 1 ≤ k → k < d → (n + k) % d ≡ n % d → ⊥
place_other d n k apart near same =
    let m = n % d in
    let small : m < d = mod-lt n (omega arith) in
    let moved : (m + k) % d ≡ m = mod-add-mod n d k ∙ same in
    elim (dec_le d (m + k)) [
      | yes over ↦
          let back : (m + k) % d ≡ m + k - d = mod-eq-sub-mod over ∙ mod-eq_of_lt (omega arith) in
          omega arith
      | no within ↦
          let on : (m + k) % d ≡ m + k = mod-eq_of_lt (lt_of_not-le within) in
          omega arith
    ]

place-before : (n d a : ℕ) → suc a < d → suc n + d - 1 - suc a ≡ n + (d - 1 - a)
place-before n d a below = omega arith

place-now : (n d a : ℕ) → suc a < d → n + (d - 1 - a) ≡ n + d - 1 - a
place-now n d a below = omega arith

module _ (d : ℕ) (r s : Flow) (n : ℕ) (x : PathOperator) (words : List ℕ) (large : 1 ≤ d) (few : d ≤ word_count) (stands : RingStands d r s n x words) where
  -- word n mod d is the new total, every other word is as it was
  word-new : (input : ℕ) → ring_word_next x words input (n % d) ≡ total_more x.entered input
  unfolding ring_word_next uses_held words_used
  word-new input = rw (stands.operator, stands.slot) (pick_true _ _ _ (eq-eqb (n % d) (n % d) refl))

  word-other : (input j : ℕ) → (j ≡ n % d → ⊥) → ring_word_next x words input j ≡ word_at words j
  unfolding ring_word_next uses_held words_used
  word-other input j other = rw (stands.operator, stands.slot) (pick-false _ _ _ (ne_eqb j (n % d) other))

  word-past : (input j : ℕ) → d ≤ j → ring_word_next x words input j ≡ 0
  word-past input j behind = word-other input j (λ e. let less = mod-lt n {m = d} (omega arith) in omega arith) ∙ stands.unused j behind

  ring-next : (a : ℕ) → a < d → ring_word_next x words (r n) ((suc n + d - 1 - a) % d) ≡ total r (suc n - a) % wrap
  ring-next zero below =
      let place : (suc n + d - 1 - 0) % d ≡ n % d = ap (λ (k : ℕ). k % d) (let e : suc n + d - 1 - 0 ≡ n + d = omega arith in e) ∙ add-mod_right n d in
      let all : suc n - 0 ≡ suc n = omega arith in
      rw (place, word-new (r n), stands.entered, total-more-wraps, all, total-suc)
  ring-next (suc a) below =
      rw (place-before n d a below, suc-sub-suc)
      (word-other (r n) ((n + (d - 1 - a)) % d) (place_other d n (d - 1 - a) (omega arith) (omega arith)) ∙ rw (place-now n d a below) (stands.ring a (omega arith)))

  pub ring-stands-next : (kept beside : ℕ) → beside ≡ 0 → RingStands d r s (suc n) (path_state_kept x (r n) (s n) kept beside) (list_of (ring_word_next x words (r n)) word_count)
  unfolding path_state_kept total_next uses_held
  ring-stands-next kept beside none =
      let each = word-listed (ring_word_next x words (r n)) (λ j behind. word-past (r n) j (omega arith)) in
      record {
        sized = length-list_of (ring_word_next x words (r n)) word_count;
        operator = stands.operator;
        slot = omega (arith, stands.slot);
        apart = rw stands.operator;
        alone = none;
        entered = rw (stands.operator, stands.entered, total-more-wraps, total-suc);
        left = rw (stands.operator, stands.left, total-more-wraps, total-suc);
        ring = λ a below. each ((suc n + d - 1 - a) % d) ∙ ring-next a below;
        unused = λ j behind. each j ∙ word-past (r n) j behind;
      }

-- What the ring says is what the delayer holds.

pub held_same : {b c h k : ℕ} {past ages : ℕ → ℕ} → b ≡ c → h ≡ k → ((a : ℕ) → past a ≡ ages a)
    → ◌≡◌ {A = Held} (record { b = b; h = h; past = past }) (record { b = c; h = k; past = ages })
held_same {b} {c} {h} {k} {past} {ages} b-same h-same past_same =
    ap (λ (n : ℕ). record { b = n; h = h; past = past }) b-same
    ∙ ap (λ (n : ℕ). record { b = c; h = n; past = past }) h-same
    ∙ ap (λ (f : ℕ → ℕ). record { b = c; h = k; past = f }) (fun_ext past_same)

module _ (d : ℕ) (r s : Flow) (n : ℕ) (x : PathOperator) (words : List ℕ) (stands : RingStands d r s n x words) (y : Held) (by-age : ByAge d r (total s n) n y)
    (near : total r n < total r (n - d) + wrap) where
  -- what entered d slots ago or earlier has left
  in-time : total r (n - d) ≤ total s n
  in-time = omega (arith, by-age.whole, by-age.ages d (le_refl d))

  ring-b : ring_held x ≡ y.b
  unfolding ring_held
  ring-b =
      rw (stands.entered, stands.left)
      (total-less-exact (total r n) (total s n) by-age.entered (omega (arith, in-time)) ∙ sym (held_all d r (total s n) n y by-age))

  ring-since : (a : ℕ) → a < d → total_less x.entered (word_at words ((x.slot.0 + d - 1 - a) % d)) ≡ total r n - total r (n - a)
  ring-since a below =
      let since-earlier : total r (n - d) ≤ total r (n - a) = total-le r (omega arith) in
      let since-now : total r (n - a) ≤ total r n = total-le r (omega arith) in
      rw (stands.slot, stands.entered, stands.ring a below) (total-less-exact (total r n) (total r (n - a)) since-now (omega arith))

  -- of the ages below a
  ring-younger : (a : ℕ) → a ≤ d → ring_younger d x words a ≡ total y.past a
  ring-younger a within =
      elim (dec_lt a d) [
        | yes below ↦
            let all = held_all d r (total s n) n y by-age in
            let since-now : total r (n - a) ≤ total r n = total-le r (omega arith) in
            younger-below d x words a below ∙ rw (ring-b, ring-since a below) (younger (total r n) (total r (n - a)) (total s n) (total y.past a) y.b all by-age.entered since-now (by-age.ages a within))
        | no above ↦
            let last : a ≡ d = omega arith in
            younger-all d x words a (omega arith) ∙ ring-b ∙ by-age.whole ∙ ap (total y.past) (sym last)
      ]
    where
      younger : (now then left t b : ℕ) → b ≡ now - left → left ≤ now → then ≤ now → t + (then - left) ≡ b → min b (now - then) ≡ t
      younger now then left t b all behind earlier ages = omega arith

  ring-past : (a : ℕ) → a < d → ring_past d x words a ≡ y.past a
  unfolding ring_past
  ring-past a below = rw (ring-younger (suc a) below, ring-younger a (omega arith), total-suc) (omega arith)

  ring-past-none : (a : ℕ) → d ≤ a → ring_past d x words a ≡ 0
  unfolding ring_past
  ring-past-none a above = rw (younger-all d x words (suc a) (omega arith), younger-all d x words a above) (omega arith)

  ring-holds : y.h ≡ 0 → ((a : ℕ) → d ≤ a → y.past a ≡ 0) → path_holds x words ≡ y
  unfolding path_holds uses_held words_used
  ring-holds beside none =
      ap (λ (op : Operator). record { b = pick (uses_held op) x.held.0 (ring_held x); h = x.beside.0; past = λ a. pick (uses_held op) (word_at words a) (ring_past (words_used op) x words a) })
      stands.operator
      ∙ held_same ring-b (stands.alone ∙ sym beside) past_same
    where
      past_same : (a : ℕ) → ring_past d x words a ≡ y.past a
      past_same a =
          elim (dec_lt a d) [
            | yes below ↦ ring-past a below
            | no above ↦ ring-past-none a (omega arith) ∙ sym (none a (omega arith))
          ]

past-none : (d : ℕ) (r c : Flow) (n a : ℕ) → d ≤ a → (held_on (delayer d) r c n).past a ≡ 0
unfolding held_on held_after delayer_after
past-none d r c zero a above = refl
past-none d r c (suc n) a above = pick-false _ _ _ (le-ltb a d above)

no-filter : (d : ℕ) (R : Rate) → delayer d ≡ Filter R → ⊥
no-filter d R e = cc

delay-inside : (d : ℕ) → 1 ≤ d → d ≤ word_count → number_in_range (delayer d) ≡ true
unfolding number_in_range in_range
delay-inside d large few = ap₂ both (le-leb 1 d large) (le-leb d 64 few)

module _ (d : ℕ) (r c : Flow) (fits : Fitting (delayer d) r c) (n : ℕ) (near : total r n < total r (n - d) + wrap) where
  -- where the ring stands, state and words have the delayer's b, h and past
  pub ring-stands-holds : (x : PathOperator) (words : List ℕ) → RingStands d r (output_on (delayer d) r c) n x words → path_holds x words ≡ held_on (delayer d) r c n
  ring-stands-holds x words stands =
      ring-holds d r (output_on (delayer d) r c) n x words stands (held_on (delayer d) r c n) (by-age-on d r c fits n) near (beside_none (delayer d) (no-filter d) r c n) (past-none d r c n)

  -- so the slot has the interval that the delayer has by age
  pub ring-interval : 1 ≤ d → d ≤ word_count → (x : PathOperator) (words : List ℕ) → RingStands d r (output_on (delayer d) r c) n x words
      → (path_least x words (r n) ≡ least_output (delayer d) n (held_on (delayer d) r c n) (r n)) × (path_greatest x words (r n) ≡ greatest_output (delayer d) n (held_on (delayer d) r c n) (r n))
  unfolding path_greatest
  ring-interval large few x words stands =
      let same = ring-stands-holds x words stands in (
        ring-least x words (r n) (ap number_in_range stands.operator ∙ delay-inside d large few)
            ∙ ap₂ (λ (op : Operator) (y : Held). least_output op x.slot.0 y (r n)) stands.operator same
            ∙ ap (λ (t : ℕ). least_output (delayer d) t (held_on (delayer d) r c n) (r n)) stands.slot,
        ap₂ (λ (op : Operator) (y : Held). greatest_output op x.slot.0 y (r n)) stands.operator same
            ∙ ap (λ (t : ℕ). greatest_output (delayer d) t (held_on (delayer d) r c n) (r n)) stands.slot,
      )

-- from new on, slot after slot
module _ (d : ℕ) (r s : Flow) (large : 1 ≤ d) (few : d ≤ word_count) where
  beside-next : (n : ℕ) (y : PathState) → RingStands d r s n y.state y.words → (path_holds_next y.state y.words (r n) (s n)).h ≡ 0
  unfolding path_holds_next held_after delayer_after
  beside-next n y stands = rw stands.operator

  pub ring-stands-on : (n : ℕ) → RingStands d r s n (path_on (delayer d) r s n).state (path_on (delayer d) r s n).words
  unfolding path_on path_next
  ring-stands-on zero = ring-stands-new d r s
  ring-stands-on (suc n) =
      let y = path_on (delayer d) r s n in
      ring-stands-next d r s n y.state y.words large few (ring-stands-on n) _ _ (beside-next n y (ring-stands-on n))

pub ring-on : (d : ℕ) (r c : Flow) → 1 ≤ d → d ≤ word_count → Fitting (delayer d) r c → (n : ℕ) → total r n < total r (n - d) + wrap
    → path_holds (path_on (delayer d) r (output_on (delayer d) r c) n).state (path_on (delayer d) r (output_on (delayer d) r c) n).words ≡ held_on (delayer d) r c n
ring-on d r c large few fits n near =
    let s = output_on (delayer d) r c in
    ring-stands-holds d r c fits n near (path_on (delayer d) r s n).state (path_on (delayer d) r s n).words (ring-stands-on d r s large few n)
