-- What the parts of an operator within a path rest on: wrapping sums and differences, what the tests show of the state and the words, and what the parts answer then.
use Rattle.std.proofs.Common.{◌≡◌, ℕ, zero, suc, ◌+◌, ◌-◌, ◌*◌, ◌/◌, ◌%◌, ◌<◌, ◌≤◌, Bool, true, false, not, eqb, ltb, leb, List, length, take, drop, set, sym, refl, ap, ◌∙◌, ap₂, add-zero, add-suc, mod-lt, div-lt_iff_lt-mul, arith, length-drop, length-take-le, get_or-drop, get_or-set_other, get_or-take, get_or-set_same, ltb-false, le-ltb, lt-ltb, eq-eqb, ne_eqb, eqb-true, le-leb, leb-true, Ok, Err}
use native.Mathlib.Nat.{add-mod-mod, div-eq_of_lt}
use native.Mathlib.Decide.{dec_lt, ℕ_discrete}
use lib.Bits.{bit_or}
use borrow.Author.Tests.{not-false}
use Rattle.quantity.specs.Choice.{pick, both, either}
use Rattle.quantity.specs.Limits.{largest_amount, last_slot}
use Rattle.quantity.specs.Ranges.{delay_range}
use Rattle.quantity.specs.Sums.{every, list_of}
use Rattle.quantity.proofs.Laws.{pick_true, pick-false, either-false, either_first, either_second, either-none, least-le}
use Rattle.quantity.proofs.Sums.{both_true, every_holds, every-same, list_of-ext}
use Rattle.words.specs.Stored.{word_at, clear_at, stored_fits, word_noted}
use Rattle.words.proofs.StoredLaws.{stored-le, length-noted}
use Rattle.words.proofs.JoinLaws.{or-clear}
use Rattle.flow.specs.Flows.{Flow}
use Rattle.operator.specs.Held.{Held}
use Rattle.operator.specs.Operators.{least_output, greatest_output, held_after, number_in_range}
use Rattle.operator.specs.Single.{word_count, words_used, uses_held, uses_beside}
use Rattle.operator.specs.Parts.{most_on_the_way}
use Rattle.operator.specs.Ring.{wrap, total_more, ring_held, ring_recent, ring_past, path_holds, path_least, path_greatest, word_unused, totals_fit, path_unusable, path_sent, path_choice_above, path_holds_next, total_next, path_state_kept, ring_word_next, path_advanced, storable, path_unready, path_holds_sent, ring_place, advanced_of, ring_noted}
use Rattle.operator.specs.Steps.{SendsWithin}
use Rattle.operator.specs.declared.Operator.{Operator}
use Rattle.operator.specs.declared.Operator.TheVariants.{Limiter, Compactor, Expander, Filter, Delayer}
use Rattle.operator.specs.declared.ring.PathOperator.{PathOperator}
use Rattle.operator.specs.declared.ring.Halted.{Halted}
use Rattle.operator.proofs.Steps.{after-b}
use Rattle.operator.proofs.SingleLaws.{contradiction, used-within}
use Rattle.operator.proofs.DelayerRing.{RingStands}

-- Wrapping.

-- units above 32 bits wrap into a total
pub more-wrapped : (total units : ℕ) → (total + units % wrap) % wrap ≡ total_more total units
unfolding total_more
more-wrapped total units = add-mod-mod total units wrap

-- An operator that does not use its field is a delayer.

pub delayer-used : (op : Operator) → number_in_range op ≡ true → uses_held op ≡ false → 1 ≤ words_used op
unfolding number_in_range uses_held words_used
delayer-used (Limiter R) inside apart = cc
delayer-used (Compactor m) inside apart = cc
delayer-used (Expander m) inside apart = cc
delayer-used (Filter R) inside apart = cc
delayer-used (Delayer d) inside apart = least-le delay_range d.0 inside

-- and one that does uses no word
none-used : (op : Operator) → uses_held op ≡ true → words_used op ≡ 0
unfolding uses_held words_used
none-used (Limiter R) apart = refl
none-used (Compactor m) apart = refl
none-used (Expander m) apart = refl
none-used (Filter R) apart = refl
none-used (Delayer d) apart = cc

-- What is lent and stored.

-- the words behind the used ones, tested by themselves
every-behind : (test : ℕ → Bool) (n : ℕ) → ((j : ℕ) → j < n → test j ≡ true) → (k : ℕ) → every test (n + k) ≡ every (λ j. test (n + j)) k
unfolding every
every-behind test n first zero = ap (every test) (add-zero n) ∙ every_holds test n first
every-behind test n first (suc k) = ap (every test) (add-suc n k) ∙ ap (λ (t : Bool). both t (test (n + k))) (every-behind test n first k)

module _ (op : Operator) (words : List ℕ) where
  word-used : (j : ℕ) → j < words_used op → word_unused op words j ≡ true
  unfolding word_unused
  word-used j below = ap (λ (t : Bool). either t (eqb (word_at words j) 0)) (lt-ltb j (words_used op) below)

  pub all-used : word_count ≤ words_used op → true ≡ every (word_unused op words) word_count
  all-used many = sym (every_holds (word_unused op words) word_count (λ j below. word-used j (omega arith)))

  -- a slice from the first unused word on
  module _ (sized : length words ≡ word_count) (used : ℕ) (used-same : used ≡ words_used op) (few : used ≤ word_count) where
    abbrev rest : ℕ
    rest = length words - used

    abbrev behind : List ℕ
    behind = take rest (drop used words)

    behind-length : length behind ≡ rest
    behind-length = length-take-le rest (drop used words) (omega (arith, length-drop used words))

    behind-tested : (j : ℕ) → j < rest → clear_at behind j ≡ word_unused op words (used + j)
    unfolding word_unused
    behind-tested j below =
        ap (λ (w : ℕ). eqb w 0) (get_or-take rest (drop used words) j 0 below ∙ get_or-drop used words j 0)
        ∙ ap (λ (t : Bool). either t (eqb (word_at words (used + j)) 0)) (sym (le-ltb (used + j) (words_used op) (omega arith)))

    pub behind-clear : every (clear_at (take (length words - used) (drop used words))) (length (take (length words - used) (drop used words))) ≡ every (word_unused op words) word_count
    behind-clear =
        let all : used + rest ≡ word_count = omega arith in
        ap (every (clear_at behind)) behind-length
        ∙ every-same (clear_at behind) (λ j. word_unused op words (used + j)) rest behind-tested
        ∙ sym (every-behind (word_unused op words) used (λ j below. word-used j (omega arith)) rest)
        ∙ ap (every (word_unused op words)) all

  pub all-clear : uses_held op ≡ true → length words ≡ word_count → every (clear_at words) (length words) ≡ every (word_unused op words) word_count
  unfolding word_unused
  all-clear apart sized =
      ap (every (clear_at words)) sized
      ∙ every-same (clear_at words) (word_unused op words) word_count
      (λ j below. ap (λ (t : Bool). either t (eqb (word_at words j) 0)) (sym (le-ltb j (words_used op) (omega (arith, none-used op apart)))))

-- what is lent and stored can be used
pub record PathUsable (x : PathOperator) (words : List ℕ) : Type 0 where
  pub sized : length words ≡ word_count
  pub slot_left : x.slot.0 ≤ last_slot
  pub held_fits : stored_fits (uses_held x.operator) x.held.0 ≡ true
  pub beside_fits : stored_fits (uses_beside x.operator) x.beside.0 ≡ true
  pub totals_fit : totals_fit x ≡ true
  pub words_fit : every (word_unused x.operator words) word_count ≡ true

module _ (x : PathOperator) (words : List ℕ) where
  pub path-usable : path_unusable x words ≡ false → PathUsable x words
  unfolding path_unusable
  path-usable passed =
      let op = x.operator in
      let (length-test, rest) = either-false (not (eqb (length words) word_count)) _ passed in
      let (slot-test, rest) = either-false (ltb last_slot x.slot.0) _ rest in
      let (held_test, rest) = either-false (not (stored_fits (uses_held op) x.held.0)) _ rest in
      let (beside-test, rest) = either-false (not (stored_fits (uses_beside op) x.beside.0)) _ rest in
      let (totals-test, rest) = either-false (not (totals_fit x)) _ rest in
      let (words-test, rest) = either-false (not (every (word_unused op words) word_count)) _ rest in
      record {
        sized = eqb-true (length words) word_count (not-false _ length-test);
        slot_left = ltb-false last_slot x.slot.0 slot-test;
        held_fits = not-false _ held_test;
        beside_fits = not-false _ beside-test;
        totals_fit = not-false _ totals-test;
        words_fit = not-false _ words-test;
      }

  pub path-stored-usable : PathUsable x words → path_unusable x words ≡ false
  unfolding path_unusable
  path-stored-usable stored =
      let op = x.operator in
      either-none (not (eqb (length words) word_count)) _ (ap not (eq-eqb (length words) word_count stored.sized))
      (either-none (ltb last_slot x.slot.0) _ (le-ltb last_slot x.slot.0 stored.slot_left)
      (either-none (not (stored_fits (uses_held op) x.held.0)) _ (ap not stored.held_fits)
      (either-none (not (stored_fits (uses_beside op) x.beside.0)) _ (ap not stored.beside_fits)
      (either-none (not (totals_fit x)) _ (ap not stored.totals_fit)
      (either-none (not (every (word_unused op words) word_count)) _ (ap not stored.words_fit) refl)))))

  -- any fact of those that fails makes a refusal
  path-stored-unusable : (PathUsable x words → ⊥) → path_unusable x words ≡ true
  path-stored-unusable not-usable = by-test (path_unusable x words) refl
    where
      by-test : (t : Bool) → path_unusable x words ≡ t → t ≡ true
      by-test true e = refl
      by-test false e = absurd (not-usable (path-usable e))

  pub unsized-unusable : (length words ≡ word_count → ⊥) → path_unusable x words ≡ true
  unsized-unusable other = path-stored-unusable (λ stored. other stored.sized)

  pub last-unusable : last_slot < x.slot.0 → path_unusable x words ≡ true
  last-unusable above = path-stored-unusable (λ stored. omega (arith, stored.slot_left))

  refused-unusable : (PathUsable x words → ⊥) → false ≡ not (path_unusable x words)
  refused-unusable not-usable = sym (ap not (path-stored-unusable not-usable))

  -- the last test tells
  told-usable : (t : Bool) → (t ≡ true → PathUsable x words) → (t ≡ false → PathUsable x words → ⊥) → t ≡ not (path_unusable x words)
  told-usable true usable unusable = sym (ap not (path-stored-usable (usable refl)))
  told-usable false usable unusable = refused-unusable (unusable refl)

module _ (x : PathOperator) (words : List ℕ) where
  -- what the fields of an operator that can be used hold
  pub held-le : path_unusable x words ≡ false → x.held.0 ≤ largest_amount
  held-le passed = stored-le _ _ (path-usable x words passed).held_fits

  pub beside-le : path_unusable x words ≡ false → x.beside.0 ≤ largest_amount
  beside-le passed = stored-le _ _ (path-usable x words passed).beside_fits

  pub ring-held-le : uses_held x.operator ≡ false → path_unusable x words ≡ false → ring_held x ≤ largest_amount
  unfolding totals_fit
  ring-held-le ring passed = leb-true (ring_held x) largest_amount (sym (pick-false _ _ _ ring) ∙ (path-usable x words passed).totals_fit)

-- The tests, by the kind.

-- a stored amount fits just where it is at most so much
fits-most : (used : Bool) (amount : ℕ) → amount ≤ pick used largest_amount 0 → stored_fits used amount ≡ true
unfolding stored_fits
fits-most true amount within = le-leb amount largest_amount within
fits-most false amount within = eq-eqb amount 0 (omega arith)

most-fits : (used : Bool) (amount : ℕ) → stored_fits used amount ≡ true → amount ≤ pick used largest_amount 0
unfolding stored_fits
most-fits true amount fits = leb-true amount largest_amount fits
most-fits false amount fits = let none = eqb-true amount 0 fits in omega arith

module _ (x : PathOperator) (words : List ℕ) (sized : length words ≡ word_count) (left : x.slot.0 ≤ last_slot) where
  module _ (apart : uses_held x.operator ≡ true) where
    totals-apart : totals_fit x ≡ eqb (bit_or x.entered x.left) 0
    unfolding totals_fit
    totals-apart = pick_true _ _ _ apart ∙ sym (or-clear x.entered x.left)

    pub held-above : largest_amount < x.held.0 → false ≡ not (path_unusable x words)
    held-above above = refused-unusable x words (λ stored. omega (arith, stored-le _ _ stored.held_fits))

    pub beside-above : pick (uses_beside x.operator) largest_amount 0 < x.beside.0 → false ≡ not (path_unusable x words)
    beside-above above = refused-unusable x words (λ stored. omega (arith, most-fits _ _ stored.beside_fits))

    pub totals-stand : (bit_or x.entered x.left ≡ 0 → ⊥) → false ≡ not (path_unusable x words)
    totals-stand some = refused-unusable x words (λ stored. some (eqb-true _ 0 (sym totals-apart ∙ stored.totals_fit)))

    -- how often the amounts go beyond what each may be, and the totals, joined
    module _ (most : ℕ) (same : most ≡ pick (uses_beside x.operator) largest_amount 0) where
      abbrev Beyond : ℕ
      Beyond = bit_or (bit_or (x.held.0 / (largest_amount + 1)) (x.beside.0 / (most + 1))) (bit_or x.entered x.left)

      pub beyond-stands : (Beyond ≡ 0 → ⊥) → false ≡ not (path_unusable x words)
      beyond-stands some =
          elim (dec_lt largest_amount x.held.0) [
            | yes above ↦ held-above above
            | no fits ↦ elim (dec_lt most x.beside.0) [
              | yes above ↦ beside-above (omega (arith, same))
              | no beside ↦ totals-stand (λ none. some (rw (div-eq_of_lt {n = x.held.0} {m = largest_amount + 1} (omega arith), div-eq_of_lt {n = x.beside.0} {m = most + 1} (omega arith), none) refl))
            ]
          ]

      pub none-beyond : Beyond ≡ 0 → (x.held.0 ≤ largest_amount) × (x.beside.0 ≤ pick (uses_beside x.operator) largest_amount 0) × (bit_or x.entered x.left ≡ 0)
      none-beyond none =
          let (units, totals) = both_true (eqb (bit_or (x.held.0 / (largest_amount + 1)) (x.beside.0 / (most + 1))) 0) _ (sym (or-clear (bit_or (x.held.0 / (largest_amount + 1)) (x.beside.0 / (most + 1))) (bit_or x.entered x.left)) ∙ eq-eqb Beyond 0 none) in
          let (held, beside) = both_true (eqb (x.held.0 / (largest_amount + 1)) 0) _ (sym (or-clear (x.held.0 / (largest_amount + 1)) (x.beside.0 / (most + 1))) ∙ units) in (
            within x.held.0 largest_amount (eqb-true (x.held.0 / (largest_amount + 1)) 0 held),
            omega (arith, within x.beside.0 most (eqb-true (x.beside.0 / (most + 1)) 0 beside), same),
            eqb-true (bit_or x.entered x.left) 0 totals,
          )
        where
          within : (n m : ℕ) → n / (m + 1) ≡ 0 → n ≤ m
          within n m e = let large : 0 < m + 1 = omega arith in let less : n < 1 * (m + 1) = (div-lt_iff_lt-mul large).0 (omega (arith, e)) in omega (arith, less)

    pub apart-told : x.held.0 ≤ largest_amount → x.beside.0 ≤ pick (uses_beside x.operator) largest_amount 0 → bit_or x.entered x.left ≡ 0
        → {clear : Bool} → clear ≡ every (clear_at words) (length words) → clear ≡ not (path_unusable x words)
    apart-told held beside totals {clear} tested =
        let told : clear ≡ every (word_unused x.operator words) word_count = tested ∙ all-clear x.operator words apart sized in
        told-usable x words clear
        (λ all. record {
          sized = sized;
          slot_left = left;
          held_fits = fits-most _ _ (rw apart held);
          beside_fits = fits-most _ _ beside;
          totals_fit = totals-apart ∙ eq-eqb _ 0 totals;
          words_fit = sym told ∙ all;
        })
        (λ some stored. contradiction stored.words_fit (sym told ∙ some))

  -- a delayer has no h
  none_beside : (op : Operator) → uses_held op ≡ false → uses_beside op ≡ false
  unfolding uses_held uses_beside
  none_beside (Limiter R) ring = refl
  none_beside (Compactor m) ring = refl
  none_beside (Expander m) ring = refl
  none_beside (Filter R) ring = ring
  none_beside (Delayer d) ring = refl

  module _ (ring : uses_held x.operator ≡ false) where
    fields-ring : {used : Bool} → used ≡ false → (amount : ℕ) → stored_fits used amount ≡ eqb amount 0
    unfolding stored_fits
    fields-ring unused amount = pick-false _ _ _ unused

    totals-ring : totals_fit x ≡ leb (ring_held x) largest_amount
    unfolding totals_fit
    totals-ring = pick-false _ _ _ ring

    pub fields-stand : (bit_or x.held.0 x.beside.0 ≡ 0 → ⊥) → false ≡ not (path_unusable x words)
    fields-stand some =
        refused-unusable x words
        (λ stored. some
        (eqb-true _ 0
        (or-clear x.held.0 x.beside.0
        ∙ ap₂ both (sym (fields-ring ring x.held.0) ∙ stored.held_fits) (sym (fields-ring (none_beside x.operator ring) x.beside.0) ∙ stored.beside_fits))))

    pub ring-above : largest_amount < ring_held x → false ≡ not (path_unusable x words)
    ring-above above = refused-unusable x words (λ stored. omega (arith, leb-true (ring_held x) largest_amount (sym totals-ring ∙ stored.totals_fit)))

    pub ring-told : bit_or x.held.0 x.beside.0 ≡ 0 → ring_held x ≤ largest_amount
        → {clear : Bool} → clear ≡ every (word_unused x.operator words) word_count → clear ≡ not (path_unusable x words)
    ring-told fields held {clear} tested =
        let (first, second) = both_true (eqb x.held.0 0) (eqb x.beside.0 0) (sym (or-clear x.held.0 x.beside.0) ∙ eq-eqb _ 0 fields) in
        told-usable x words clear
        (λ all. record {
          sized = sized;
          slot_left = left;
          held_fits = fields-ring ring x.held.0 ∙ first;
          beside_fits = fields-ring (none_beside x.operator ring) x.beside.0 ∙ second;
          totals_fit = totals-ring ∙ le-leb (ring_held x) largest_amount held;
          words_fit = sym tested ∙ all;
        })
        (λ some stored. contradiction stored.words_fit (sym tested ∙ some))

-- where a delayer's ring stands, it is usable while what is held is within the limit
module _ (d : ℕ) (r s : Flow) (n : ℕ) (x : PathOperator) (words : List ℕ) (stands : RingStands d r s n x words) where
  ring-totals-fit : ring_held x ≤ largest_amount → totals_fit x ≡ true
  unfolding totals_fit uses_held
  ring-totals-fit small =
      ap (λ (op : Operator). pick (uses_held op) (both (eqb x.entered 0) (eqb x.left 0)) (leb (ring_held x) largest_amount)) stands.operator ∙ le-leb (ring_held x) largest_amount small

  ring-unused : (j : ℕ) → word_unused x.operator words j ≡ true
  unfolding word_unused words_used
  ring-unused j =
      ap (λ (op : Operator). either (ltb j (words_used op)) (eqb (word_at words j) 0)) stands.operator
      ∙ elim (dec_lt j d) [
        | yes below ↦ either_first _ _ (lt-ltb j d below)
        | no above ↦ either_second (ltb j d) _ (eq-eqb (word_at words j) 0 (stands.unused j (omega arith)))
      ]

  pub ring-stands-usable : n ≤ last_slot → ring_held x ≤ largest_amount → PathUsable x words
  unfolding stored_fits uses_held uses_beside
  ring-stands-usable left small =
      record {
        sized = stands.sized;
        slot_left = omega (arith, stands.slot);
        held_fits = rw stands.operator (eq-eqb x.held.0 0 stands.apart);
        beside_fits = rw stands.operator (eq-eqb x.beside.0 0 stands.alone);
        totals_fit = ring-totals-fit small;
        words_fit = every_holds (word_unused x.operator words) word_count (λ j below. ring-unused j);
      }

-- What advancing answers.

-- what is held, of an operator that is no delayer
holds-apart : (x : PathOperator) (words : List ℕ) → uses_held x.operator ≡ true
    → ◌≡◌ {A = Held} (record { b = x.held.0; h = x.beside.0; past = word_at words }) (path_holds x words)
unfolding path_holds
holds-apart x words apart =
    sym
    (ap (λ (t : Bool). record { b = pick t x.held.0 (ring_held x); h = x.beside.0; past = λ a. pick t (word_at words a) (ring_past (words_used x.operator) x words a) }) apart)

module _ (x : PathOperator) (words : List ℕ) (input : ℕ) where
  -- an operator that is no delayer goes by what its fields hold
  module _ (apart : uses_held x.operator ≡ true) where
    least-apart : least_output x.operator x.slot.0 (record { b = x.held.0; h = x.beside.0; past = word_at words }) input ≡ path_least x words input
    unfolding path_least
    least-apart = ap (λ (y : Held). least_output x.operator x.slot.0 y input) (holds-apart x words apart) ∙ sym (pick_true _ _ _ apart)

    greatest-apart : greatest_output x.operator x.slot.0 (record { b = x.held.0; h = x.beside.0; past = word_at words }) input ≡ path_greatest x words input
    unfolding path_greatest
    greatest-apart = ap (λ (y : Held). greatest_output x.operator x.slot.0 y input) (holds-apart x words apart)

    there-apart : x.held.0 + input ≡ (path_holds x words).b + input
    there-apart = ap (λ (y : Held). y.b + input) (holds-apart x words apart)

    beside-apart : (s : ℕ) → (held_after x.operator (record { b = x.held.0; h = x.beside.0; past = word_at words }) input s).h ≡ (held_after x.operator (path_holds x words) input s).h
    beside-apart s = ap (λ (y : Held). (held_after x.operator y input s).h) (holds-apart x words apart)

  -- a delayer by its totals
  module _ (ring : uses_held x.operator ≡ false) where
    pub least-ring : (d : ℕ) → d ≡ words_used x.operator → ring_held x - ring_recent d x words ≡ path_least x words input
    unfolding path_least
    least-ring d used = ap (λ (d : ℕ). ring_held x - ring_recent d x words) used ∙ sym (pick-false _ _ _ ring)

    pub there-ring : ring_held x + input ≡ (path_holds x words).b + input
    unfolding path_holds
    there-ring = ap (λ (b : ℕ). b + input) (sym (pick-false (uses_held x.operator) x.held.0 (ring_held x) ring))

  -- the tests
  pub unready-unusable : path_unusable x words ≡ true → path_unready x words input ≡ true
  unfolding path_unready
  unready-unusable test = either_first _ _ test

  pub unready-outside : number_in_range x.operator ≡ false → path_unready x words input ≡ true
  unfolding path_unready
  unready-outside outside = either_second (path_unusable x words) _ (either_first _ _ (ap not outside))

  pub unready-input : most_on_the_way < input → path_unready x words input ≡ true
  unfolding path_unready
  unready-input above = either_second (path_unusable x words) _ (either_second (not (number_in_range x.operator)) _ (either_first _ _ (lt-ltb most_on_the_way input above)))

  pub is-ready : path_unusable x words ≡ false → number_in_range x.operator ≡ true → input ≤ most_on_the_way → path_unready x words input ≡ false
  unfolding path_unready
  is-ready usable inside within =
      either-none (path_unusable x words) _ usable (either-none (not (number_in_range x.operator)) _ (ap not inside) (either-none (ltb most_on_the_way input) _ (le-ltb most_on_the_way input within) refl))

  pub ready-usable : path_unready x words input ≡ false → path_unusable x words ≡ false
  unfolding path_unready
  ready-usable ready = (either-false (path_unusable x words) _ ready).0

  pub ready-inside : path_unready x words input ≡ false → number_in_range x.operator ≡ true
  unfolding path_unready
  ready-inside ready = not-false _ (either-false (not (number_in_range x.operator)) _ (either-false (path_unusable x words) _ ready).1).0

  -- by section 3, with the operator named
  pub sends-within : (op : Operator) → x.operator ≡ op → uses_held op ≡ true → path_unready x words input ≡ false → {low high there beside : ℕ}
      → low ≡ least_output op x.slot.0 (record { b = x.held.0; h = x.beside.0; past = word_at words }) input
      → high ≡ greatest_output op x.slot.0 (record { b = x.held.0; h = x.beside.0; past = word_at words }) input
      → there ≡ x.held.0 + input
      → ((s : ℕ) → beside ≡ (held_after op (record { b = x.held.0; h = x.beside.0; past = word_at words }) input s).h)
      → SendsWithin x words input low high there beside
  sends-within op named apart ready low_same high_same all beside_same =
      let y : Held = record { b = x.held.0; h = x.beside.0; past = word_at words } in
      let uses : uses_held x.operator ≡ true = ap uses_held named ∙ apart in
      record {
        apart = uses;
        ready = ready;
        least = low_same ∙ ap (λ (o : Operator). least_output o x.slot.0 y input) (sym named) ∙ least-apart uses;
        greatest = high_same ∙ ap (λ (o : Operator). greatest_output o x.slot.0 y input) (sym named) ∙ greatest-apart uses;
        all = all ∙ there-apart uses;
        holds = λ s. beside_same s ∙ ap (λ (o : Operator). (held_after o y input s).h) (sym named) ∙ beside-apart uses s;
      }

module _ (x : PathOperator) (words : List ℕ) (input choice : ℕ) where
  pub advanced-unready : path_unready x words input ≡ true → Err Halted.Unusable ≡ advanced_of x words input choice
  unfolding advanced_of
  advanced-unready test = sym (pick_true _ _ _ test)

  module _ (ready : path_unready x words input ≡ false) (l g : ℕ) (low_same : l ≡ path_least x words input) (high_same : g ≡ path_greatest x words input) where
    choice-tested : path_choice_above x words input choice ≡ ltb (g - l) choice
    unfolding path_choice_above
    choice-tested = ap₂ (λ (l g : ℕ). ltb (g - l) choice) (sym low_same) (sym high_same)

    pub advanced-above : g - l < choice → Err Halted.ChoiceAbove ≡ advanced_of x words input choice
    unfolding advanced_of
    advanced-above above = sym (pick-false _ _ _ ready ∙ pick_true _ _ _ (choice-tested ∙ lt-ltb (g - l) choice above))

    pub advanced-sends : choice ≤ g - l → (kept h : ℕ) → kept ≡ (path_holds x words).b + input - (l + choice) → ((s : ℕ) → h ≡ (held_after x.operator (path_holds x words) input s).h)
        → Ok (record { output = record { 0 = l + choice }; fits = storable kept h; next = path_advanced x input (l + choice) kept h; at = ring_place x }) ≡ advanced_of x words input choice
    unfolding advanced_of path_sent path_holds_sent path_holds_next
    advanced-sends below kept h Kept-same h-same =
        let s = path_sent x words input choice in
        let output : l + choice ≡ s = ap (λ (l : ℕ). l + choice) low_same in
        let stays : kept ≡ (path_holds_next x words input s).b =
        Kept-same ∙ ap (λ (n : ℕ). (path_holds x words).b + input - n) output ∙ sym (after-b x.operator (path_holds x words) input s)
        in
        rw (output, stays, h-same s) (sym (pick-false _ _ _ ready ∙ pick-false _ _ _ (choice-tested ∙ le-ltb (g - l) choice below)))

-- the place of what is noted, of an operator that is no delayer, and of one
pub place-apart : (x : PathOperator) → uses_held x.operator ≡ true → word_count ≡ ring_place x
unfolding ring_place
place-apart x apart = sym (pick_true _ _ _ apart)

pub place-ring : (x : PathOperator) → uses_held x.operator ≡ false → (d : ℕ) → d ≡ words_used x.operator → x.slot.0 % d ≡ ring_place x
unfolding ring_place
place-ring x ring d used = ap (λ (n : ℕ). x.slot.0 % n) used ∙ sym (pick-false _ _ _ ring)

-- the state then, of an operator that is no delayer, and of one
module _ (x : PathOperator) (input output kept beside : ℕ) where
  pub advanced-apart : uses_held x.operator ≡ true
      → record { operator = x.operator; slot = x.slot; held = record { 0 = kept }; beside = record { 0 = beside }; entered = 0; left = 0 } ≡ path_advanced x input output kept beside
  unfolding path_advanced path_state_kept total_next
  advanced-apart apart = rw apart

  pub advanced-ring : uses_held x.operator ≡ false
      → record { operator = x.operator; slot = x.slot; held = record { 0 = 0 }; beside = record { 0 = beside }; entered = total_more x.entered input; left = total_more x.left output } ≡ path_advanced x input output kept beside
  unfolding path_advanced path_state_kept total_next
  advanced-ring ring = rw ring

-- What noting writes.

module _ (x : PathOperator) (words : List ℕ) where
  abbrev place : ℕ
  place = x.slot.0 % words_used x.operator

  noted-apart : length words ≡ word_count → uses_held x.operator ≡ true → (total : ℕ) → word_noted words (ring_place x) total ≡ words
  unfolding word_noted ring_place
  noted-apart sized apart total = ap (λ (at : ℕ). pick (ltb at (length words)) (set words at total) words) (pick_true _ _ _ apart) ∙ pick-false _ _ _ (le-ltb word_count (length words) (omega arith))

  noted-ring : length words ≡ word_count → number_in_range x.operator ≡ true → uses_held x.operator ≡ false → (total : ℕ) → word_noted words (ring_place x) total ≡ set words place total
  unfolding word_noted ring_place
  noted-ring sized inside ring total =
      let within : place < length words = omega (arith, mod-lt x.slot.0 (delayer-used x.operator inside ring), used-within x.operator inside) in
      ap (λ (at : ℕ). pick (ltb at (length words)) (set words at total) words) (pick-false _ _ _ ring) ∙ pick_true _ _ _ (lt-ltb place (length words) within)

-- so an operator that has advanced notes the total with the input
module _ (x : PathOperator) (words : List ℕ) (sized : length words ≡ word_count) (inside : number_in_range x.operator ≡ true) (input output kept beside : ℕ) where
  abbrev advanced : PathOperator
  advanced = path_advanced x input output kept beside

  advanced-total : uses_held x.operator ≡ false → advanced.entered ≡ total_more x.entered input
  unfolding path_advanced path_state_kept total_next
  advanced-total ring = pick-false _ _ _ ring

  total-set : uses_held x.operator ≡ false → ring_noted advanced words ≡ set words (place x words) (total_more x.entered input)
  unfolding path_advanced
  total-set ring = noted-ring advanced words sized inside ring advanced.entered ∙ ap (set words (place x words)) (advanced-total ring)

  -- of an operator that is no delayer, and of a delayer
  word-noted : (uses : Bool) → uses_held x.operator ≡ uses → (j : ℕ)
      → word_at (ring_noted advanced words) j ≡ pick (both (not uses) (eqb j (place x words))) (total_more x.entered input) (word_at words j)
  unfolding path_advanced
  word-noted true apart j = ap (λ (list : List ℕ). word_at list j) (noted-apart advanced words sized apart advanced.entered)
  word-noted false ring j =
      let at = place x words in
      let total = total_more x.entered input in
      ap (λ (list : List ℕ). word_at list j) (total-set ring)
      ∙ elim (ℕ_discrete j at) [
        | yes here ↦
            let within : at < length words = omega (arith, mod-lt x.slot.0 (delayer-used x.operator inside ring), used-within x.operator inside) in
            ap (word_at (set words at total)) here ∙ get_or-set_same words at total 0 within ∙ sym (pick_true _ _ _ (eq-eqb j at here))
        | no other ↦ get_or-set_other words at j total 0 other ∙ sym (pick-false _ _ _ (ne_eqb j at other))
      ]

  pub noted-next : ring_noted advanced words ≡ list_of (ring_word_next x words input) word_count
  unfolding ring_word_next
  noted-next =
      list_of-ext 0 _ word_count (ring_noted advanced words) (length-noted words (ring_place advanced) advanced.entered ∙ sized)
      (λ j less. word-noted (uses_held x.operator) refl j)
