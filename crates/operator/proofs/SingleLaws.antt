-- What the calls on a single operator rest on: what their tests show of the state and the words, and what the bounds answer then.
use Rattle.std.proofs.Common.{◌≡◌, ℕ, zero, suc, ◌+◌, ◌-◌, ◌<◌, ◌≤◌, Bool, true, false, not, eqb, ltb, List, length, sym, refl, ap, ◌∙◌, not-suc-le-zero, arith, ltb-false, le-ltb, lt-ltb, eq-eqb, eqb-true, Option, Some, None, Result, Ok, Err}
use borrow.Author.Tests.{not-false}
use Rattle.quantity.specs.Choice.{pick}
use Rattle.quantity.specs.Sums.{total, every}
use Rattle.quantity.specs.Limits.{largest_amount, last_slot}
use Rattle.quantity.specs.Ranges.{delay_range}
use Rattle.quantity.specs.declared.Units.{Units}
use Rattle.quantity.specs.declared.refusal.Refusal.TheVariants.{Unusable, OutOfRange}
use Rattle.quantity.specs.declared.refusal.Refusal.{Refusal}
use Rattle.quantity.proofs.Laws.{Told, option-told, pick-false, either-false, either_first, either_second, either-none, le-largest}
use Rattle.quantity.proofs.Sums.{total-zero}
use Rattle.operator.specs.Held.{Held}
use Rattle.operator.specs.Delayer.{of_age}
use Rattle.operator.specs.Operators.{least_output, greatest_output, number_in_range}
use Rattle.operator.specs.Whole.{Whole}
use Rattle.words.specs.Stored.{word_at, stored_fits, word_fits}
use Rattle.operator.specs.Single.{word_count, words_used, uses_held, uses_beside, holds, stored_unusable, unusable, bounds_of}
use Rattle.operator.specs.Parts.{stored_of, holds_with}
use Rattle.words.proofs.StoredLaws
use Rattle.words.proofs.StoredLaws.{stored-le}
use Rattle.words.proofs.ScanLaws.{scan_few}
use Rattle.words.specs.Scanning.{scanned_of}
use Rattle.operator.specs.declared.Operator.{Operator}
use Rattle.operator.specs.declared.Operator.TheVariants.{Limiter, Compactor, Expander, Filter, Delayer}
use Rattle.operator.specs.declared.SingleOperator.{SingleOperator}
use Rattle.operator.specs.declared.single.Outputs.{Outputs}

-- a test that holds does not fail
pub contradiction : {t : Bool} → t ≡ true → t ≡ false → ⊥
contradiction e f = cc

-- what is lent and stored can be used
pub record Usable (x : SingleOperator) (words : List ℕ) : Type 0 where
  pub sized : length words ≡ word_count
  pub slot_left : x.slot.0 ≤ last_slot
  pub held_fits : stored_fits (uses_held x.operator) x.held.0 ≡ true
  pub beside_fits : stored_fits (uses_beside x.operator) x.beside.0 ≡ true
  pub words_fit : every (word_fits (words_used x.operator) words) word_count ≡ true
  pub sum_fits : total (word_at words) word_count ≤ largest_amount

pub usable : (x : SingleOperator) (words : List ℕ) → stored_unusable x words ≡ false → Usable x words
unfolding stored_unusable
usable x words passed =
    let op = x.operator in
    let (length-test, rest) = either-false (not (eqb (length words) word_count)) _ passed in
    let (slot-test, rest) = either-false (ltb last_slot x.slot.0) _ rest in
    let (held_test, rest) = either-false (not (stored_fits (uses_held op) x.held.0)) _ rest in
    let (beside-test, rest) = either-false (not (stored_fits (uses_beside op) x.beside.0)) _ rest in
    let (words-test, rest) = either-false (not (every (word_fits (words_used op) words) word_count)) _ rest in
    let (sum-test, rest) = either-false (ltb largest_amount (total (word_at words) word_count)) _ rest in
    record {
      sized = eqb-true (length words) word_count (not-false _ length-test);
      slot_left = ltb-false last_slot x.slot.0 slot-test;
      held_fits = not-false _ held_test;
      beside_fits = not-false _ beside-test;
      words_fit = not-false _ words-test;
      sum_fits = ltb-false largest_amount _ sum-test;
    }

pub stored-usable : (x : SingleOperator) (words : List ℕ) → Usable x words → stored_unusable x words ≡ false
unfolding stored_unusable
stored-usable x words stored =
    let op = x.operator in
    either-none (not (eqb (length words) word_count)) _ (ap not (eq-eqb (length words) word_count stored.sized))
    (either-none (ltb last_slot x.slot.0) _ (le-ltb last_slot x.slot.0 stored.slot_left)
    (either-none (not (stored_fits (uses_held op) x.held.0)) _ (ap not stored.held_fits)
    (either-none (not (stored_fits (uses_beside op) x.beside.0)) _ (ap not stored.beside_fits)
    (either-none (not (every (word_fits (words_used op) words) word_count)) _ (ap not stored.words_fit)
    (either-none (ltb largest_amount (total (word_at words) word_count)) _ (le-ltb largest_amount _ stored.sum_fits) refl)))))

unusable-by : (x : SingleOperator) (words : List ℕ) (t : Bool) → stored_unusable x words ≡ t → (Usable x words → ⊥) → t ≡ true
unusable-by x words true e not-usable = refl
unusable-by x words false e not-usable = absurd (not-usable (usable x words e))

-- any fact of those that fails makes a refusal
stored-unusable : (x : SingleOperator) (words : List ℕ) → (Usable x words → ⊥) → stored_unusable x words ≡ true
stored-unusable x words not-usable = unusable-by x words (stored_unusable x words) refl not-usable

pick-le : (t : Bool) (a b n : ℕ) → a ≤ n → b ≤ n → pick t a b ≤ n
pick-le true a b n first second = first
pick-le false a b n first second = second

-- an operator's number is in its range, so its words are within the 64
pub used-within : (op : Operator) → number_in_range op ≡ true → words_used op ≤ word_count
unfolding number_in_range words_used
used-within (Limiter R) inside = omega arith
used-within (Compactor m) inside = omega arith
used-within (Expander m) inside = omega arith
used-within (Filter R) inside = omega arith
used-within (Delayer d) inside = le-largest delay_range d.0 inside

pub no_words : (op : Operator) → uses_held op ≡ true → words_used op ≡ 0
unfolding uses_held words_used
no_words (Limiter R) holds = refl
no_words (Compactor m) holds = refl
no_words (Expander m) holds = refl
no_words (Filter R) holds = refl
no_words (Delayer d) holds = let z : ◌≡◌ {A = Bool} true false = sym holds in (cc)

only_one : (used : Bool) (held sum : ℕ) → stored_fits used held ≡ true → (used ≡ true → sum ≡ 0) → held + sum ≡ pick used held sum
unfolding stored_fits
only_one true held sum fits none = omega (arith, none refl)
only_one false held sum fits none = omega (arith, eqb-true held 0 fits)

whole-used : (op : Operator) (held h : ℕ) (words : List ℕ) → total (word_at words) word_count ≡ total (word_at words) (words_used op)
    → Whole op (record { b = pick (uses_held op) held (total (word_at words) word_count); h = h; past = word_at words })
unfolding uses_held words_used
whole-used (Limiter R) held h words e = tt
whole-used (Compactor m) held h words e = tt
whole-used (Expander m) held h words e = tt
whole-used (Filter R) held h words e = tt
whole-used (Delayer d) held h words e = e

module _ (x : SingleOperator) (words : List ℕ) (stored : Usable x words) where
  pub held-le : x.held.0 ≤ largest_amount
  held-le = stored-le _ _ stored.held_fits

  pub beside-le : x.beside.0 ≤ largest_amount
  beside-le = stored-le _ _ stored.beside_fits

  pub b-le : (holds x words).b ≤ largest_amount
  unfolding holds
  b-le = pick-le (uses_held x.operator) _ _ _ held-le stored.sum_fits

  fit : every (word_fits (words_used x.operator) words) (length words) ≡ true
  fit = rw stored.sized stored.words_fit

  -- a word that is not used is 0
  pub word_none : (j : ℕ) → words_used x.operator ≤ j → word_at words j ≡ 0
  word_none = StoredLaws.word_none (words_used x.operator) words fit

  pub total-used : words_used x.operator ≤ word_count → total (word_at words) word_count ≡ total (word_at words) (words_used x.operator)
  total-used within = rw stored.sized at (StoredLaws.total-used (words_used x.operator) words fit (rw stored.sized within))

  -- section 3's b is the field's units and the words' together, of which one is 0
  pub b-sum : x.held.0 + total (word_at words) word_count ≡ (holds x words).b
  unfolding holds
  b-sum =
      only_one (uses_held x.operator) x.held.0 (total (word_at words) word_count) stored.held_fits
      (λ holds.
      let none : words_used x.operator ≡ 0 = no_words x.operator holds in
      total-used (omega arith) ∙ ap (total (word_at words)) none ∙ total-zero (word_at words))

  -- what is stored is whole: a delayer's b is the sum of the words that it uses
  pub whole-stored : number_in_range x.operator ≡ true → Whole x.operator (holds x words)
  unfolding holds
  whole-stored inside = whole-used x.operator x.held.0 x.beside.0 words (total-used (used-within x.operator inside))

-- an older age is a past slot's
pub of-age-past : (x : Held) (r d : ℕ) → 1 ≤ d → of_age x r d ≡ x.past (d - 1)
unfolding of_age
of-age-past x r zero h = absurd (not-suc-le-zero h)
of-age-past x r (suc a) h = let e : suc a - 1 ≡ a = omega arith in rw e

-- the units of an age go by the past slots alone
pub of-age-same : (x y : Held) (r a : ℕ) → x.past ≡ y.past → of_age x r a ≡ of_age y r a
unfolding of_age
of-age-same x y r zero e = refl
of-age-same x y r (suc a) e = rw e

-- what the scan of an operator's words tells of them
pub scanned-told : (op : Operator) (words : List ℕ) → length words ≡ word_count → {used : ℕ} → used ≡ words_used op → {answer : Option ℕ} → answer ≡ scanned_of used words
    → Told (every (word_fits (words_used op) words) word_count) (total (word_at words) word_count) Some None answer
scanned-told op words sized same answered =
    option-told
    (answered
    ∙ ap (λ (used : ℕ). scanned_of used words) same
    ∙ scan_few (words_used op) words (omega arith)
    ∙ ap (λ (n : ℕ). pick (every (word_fits (words_used op) words) n) (Some (total (word_at words) n)) None) sized)

-- what the test of what is stored answers
module _ (x : SingleOperator) (words : List ℕ) where
  pub stored_refused : (Usable x words → ⊥) → None ≡ stored_of x words
  unfolding stored_of
  stored_refused not-usable = rw (stored-unusable x words not-usable)

  pub stored-found : Usable x words → (held : ℕ) → held ≡ (holds x words).b → Some (record { 0 = held }) ≡ stored_of x words
  unfolding stored_of
  stored-found stored held same = rw (stored-usable x words stored, same)

  holds_picked : (t : Bool) (b : ℕ) (held : Units) → Some held ≡ pick t None (Some (record { 0 = b })) → (t ≡ false) × (held.0 ≡ b)
  holds_picked true b held e = let z : ◌≡◌ {A = Bool} true false = cc in (z, (cc))
  holds_picked false b held e = let same : held ≡ record { 0 = b } = cc in (refl, ap (λ (u : Units). u.0) same)

  pub stored-holds : {held : Units} → Some held ≡ stored_of x words → Usable x words × (held.0 ≡ (holds x words).b)
  unfolding stored_of
  stored-holds {held} answered =
      let (tested, same) = holds_picked (stored_unusable x words) (holds x words).b held answered in
      (usable x words tested, same)

  -- it answers something, or what is stored is unusable
  pub stored-none : {answer : Option Units} → answer ≡ stored_of x words → ((held : Units) → answer ≡ Some held → ⊥) → stored_unusable x words ≡ true
  unfolding stored_of
  stored-none answered none = by-test (stored_unusable x words) refl
    where
      by-test : (t : Bool) → stored_unusable x words ≡ t → t ≡ true
      by-test true e = refl
      by-test false e = absurd (none (record { 0 = (holds x words).b }) (answered ∙ pick-false _ _ _ e))

-- what the bounds answer
module _ (x : SingleOperator) (words : List ℕ) (input : ℕ) where
  pub bounds-unusable : unusable x words input ≡ true → ◌≡◌ {A = Result Outputs Refusal} (Err Unusable) (bounds_of x words input)
  unfolding bounds_of
  bounds-unusable test = rw test

  module _ (passed : unusable x words input ≡ false) where
    pub bounds-outside : number_in_range x.operator ≡ false → ◌≡◌ {A = Result Outputs Refusal} (Err (OutOfRange 0)) (bounds_of x words input)
    unfolding bounds_of
    bounds-outside outside = rw (passed, outside)

    pub bounds-outputs : number_in_range x.operator ≡ true → (l g : ℕ)
        → l ≡ least_output x.operator x.slot.0 (holds x words) input
        → g ≡ greatest_output x.operator x.slot.0 (holds x words) input
        → Ok (record { least = record { 0 = l }; greatest = record { 0 = g } }) ≡ bounds_of x words input
    unfolding bounds_of
    bounds-outputs inside l g low_same high_same = rw (passed, inside, low_same, high_same)

-- 1 of the bounds and of a step
module _ (x : SingleOperator) (words : List ℕ) (input : ℕ) where
  pub unusable-above : largest_amount < input → unusable x words input ≡ true
  unfolding unusable
  unusable-above above = either_first _ _ (lt-ltb largest_amount input above)

  pub unusable-stored : stored_unusable x words ≡ true → unusable x words input ≡ true
  unfolding unusable
  unusable-stored test = either_second (ltb largest_amount input) _ test

  pub none-unusable : input ≤ largest_amount → Usable x words → unusable x words input ≡ false
  unfolding unusable
  none-unusable within stored = either-none _ _ (le-ltb largest_amount input within) (stored-usable x words stored)

-- the least output, where what is held is given beside the words
pub least-held : (x : SingleOperator) (words : List ℕ) (input held : ℕ) → held ≡ (holds x words).b
    → least_output x.operator x.slot.0 (holds_with x words held) input ≡ least_output x.operator x.slot.0 (holds x words) input
unfolding holds
least-held x words input held same = ap (λ (b : ℕ). least_output x.operator x.slot.0 (holds_with x words b) input) same
