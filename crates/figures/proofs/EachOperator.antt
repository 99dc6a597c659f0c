-- What the loop over a path's operators has shown before operator k, and what it answers: the first refusal that stands, or the figures.
use Prim.Native.Nat.{ℕ, zero, suc, ◌+◌, ◌-◌, ◌*◌, ◌≤◌, ◌<◌}
use mathlib.Core.Path.{◌≡◌, refl, sym, ap, ap₂, subst, ◌∙◌}
use mathlib.Core.Bool.{Bool, true, false}
use mathlib.Core.List.{List, [], ◌∷◌, ◌++◌, append_assoc}
use native.Mathlib.Nat.{le_dest, add-suc, add-zero, not-suc-le-zero, le_of_suc-le-suc, le_of_lt}
use native.Mathlib.Numerals.{add-one}
use native.Mathlib.Omega.{arith}
use borrow.Author.Tests.{ltb-true, ltb-false, lt-ltb, le-ltb, eqb-true, eqb-false}
use lib.Dec.{ltb, eqb}
use lib.ListN.{length, get_or, set, replicate, length-set, get_or-replicate}
use lib.Seq.{get_or-take, length-take-le, get_or-set_same, get_or-set_other}
use Rattle.quantity.specs.Limits.{largest32}
use Rattle.quantity.specs.Choice.{pick, either}
use Rattle.quantity.specs.Ranges.{in_range, delay_range, wanted_delay_range}
use Rattle.quantity.specs.Quantities.{slots_sum}
use Rattle.quantity.specs.Sums.{total, list_of}
use Rattle.quantity.specs.Refusals.{Case, first_of}
use Rattle.quantity.specs.declared.Slots.{Slots}
use Rattle.quantity.specs.declared.refusal.Refusal.{Refusal}
use Rattle.quantity.specs.declared.refusal.Refusal.TheVariants.{DelayAboveWanted}
use Rattle.quantity.proofs.Refusals.{NoneStands, none-of-both, none-of-each, first_of-none, first_of-append, first_of-map}
use Rattle.quantity.proofs.Quantities.{slots-sum}
use Rattle.quantity.proofs.Laws.{pick_true, pick-false}
use Rattle.quantity.proofs.Sums.{both_true, total-zero, total-suc, total-next, total-le, total-same, list_of-ext}
use Rattle.operator.specs.Operators.{number_in_range}
use Rattle.flow.specs.Declarations.{declaration_in_range, class_of}
use Rattle.flow.proofs.ClassBounds.{class-within}
use Rattle.operator.specs.declared.Operator.{Operator}
use Rattle.sheet.specs.Paths.{Path, no_linked_operator}
use Rattle.sheet.specs.Forms.{in_full}
use Rattle.sheet.specs.Bodies.{operator_in_range}
use Rattle.sheet.specs.Sheets.{rest_in_range, path_in_range, operators_in_range}
use Rattle.sheet.specs.declared.LinkedOperator.{LinkedOperator}
use Rattle.sheet.specs.declared.PathValue.{PathValue}
use Rattle.figures.specs.declared.Figure.{Figure}
use Rattle.figures.specs.declared.carried.Carried.{Carried}
use Rattle.figures.specs.Progress.{Progress, start, behind, progress_at}
use Rattle.figures.specs.Figures.{pairs, quota_behind, figure_too_large, largest_changed_quota}
use Rattle.figures.specs.Answers.{operator_at, before, paired_at, capacity_at, delay_at, operator_cases, operators_cases, path_cases, figure_at, no_figure, figure_in, path_delay}
use Rattle.sheet.proofs.AnswerLaws.{none-of-ok, ok-is}
use Rattle.std.specs.Prelude.{None, Some, Result, Ok, Err}
use Rattle.figures.specs.declared.class.Source.{Source}
use Rattle.operator.specs.Single.{words_used}
use Rattle.figures.specs.Carried.{class_in, progress_in, Within, Lent, BurstKept, Ready, most_before, slots_before, planned_of, pairs_with, follower_in, PathWithin, PlannedPath, planned_of_value}
use Rattle.figures.proofs.Bounds.{in-range, within-le, behind-within, own-delay-bound}

-- the figure at each place, once the first k operators are done
unfoldable pub figure_up_to : Path → ℕ → ℕ → Figure
figure_up_to path k j = pick (ltb j k) (figure_at path j) no_figure

-- what holds before operator k
pub record Walked (source : Source) (path : Path) (k : ℕ) (carried : Carried) (figures : List Figure) (delay : Slots) : Type 0 where
  pub carries : progress_in source.declared.now carried ≡ before path k
  pub lent : Lent carried.class.kind source.declared.now source.bound.now
  pub burst : BurstKept (class_in source.declared.now carried.class) carried.slowest
  pub passed : NoneStands (operators_cases path k)
  pub long : length figures ≡ 16
  pub written : (j : ℕ) → j < 16 → get_or figures j no_figure ≡ figure_up_to path k j
  pub summed : delay.0 ≡ total (delay_at path) k

-- a path value and the path that it has written out
pub path-length : (value : PathValue) → value.count ≤ length value.operators → length (in_full value).operators ≡ value.count
unfolding in_full
path-length value few = length-take-le value.count value.operators few

pub path-operator : (value : PathValue) (k : ℕ) → k < value.count → operator_at (in_full value) k ≡ (get_or value.operators k no_linked_operator).operator
unfolding in_full operator_at
path-operator value k inside = ap (λ (linked : LinkedOperator). linked.operator) (get_or-take value.count value.operators k no_linked_operator inside)

linked-number : (operators : List LinkedOperator) (k : ℕ) → operators_in_range operators ≡ true → k < length operators → number_in_range (get_or operators k no_linked_operator).operator ≡ true
unfolding operators_in_range operator_in_range
linked-number [] k e h = absurd (not-suc-le-zero h)
linked-number (linked ∷ operators) zero e h = (both_true _ _ (both_true (operator_in_range linked) (operators_in_range operators) e).0).0
linked-number (linked ∷ operators) (suc k) e h = linked-number operators k (both_true (operator_in_range linked) (operators_in_range operators) e).1 (le_of_suc-le-suc h)

quota-passed : (p : Progress) (op : Operator) → figure_too_large p op ≡ false → quota_behind p op ≤ largest_changed_quota
unfolding figure_too_large
quota-passed p op e = ltb-false largest_changed_quota (quota_behind p op) (first-false _ _ e)
  where
    first-false : (a b : Bool) → either a b ≡ false → a ≡ false
    first-false true b e = e
    first-false false b e = refl

module _ (path : Path) (few : length path.operators ≤ 16) (inside : path_in_range path ≡ true) where
  pub number-inside : (k : ℕ) → k < length path.operators → number_in_range (operator_at path k) ≡ true
  unfolding path_in_range rest_in_range operator_at
  number-inside k h =
      let (declaration, others) = both_true (declaration_in_range path.declaration) (rest_in_range path) inside in
      linked-number path.operators k (both_true (in_range wanted_delay_range path.wanted) (operators_in_range path.operators) others).1 h

  before-within : (k : ℕ) → k ≤ length path.operators → NoneStands (operators_cases path k) → Within (64 * k) (before path k)
  unfolding path_in_range before progress_at operators_cases
  before-within zero h passed =
      let (declaration, others) = both_true (declaration_in_range path.declaration) (rest_in_range path) inside in
      record { class = class-within path.declaration declaration; e = omega arith; slowest = tt }
  before-within (suc k) h passed =
      let (earlier, here) = none-of-each (operators_cases path k) (operator_cases path k) passed in
      within-le (omega arith) (behind-within (64 * k) (before path k) (operator_at path k) (before-within k (omega arith) earlier) (number-inside k h) (quota-passed _ _ here.1.0))

  -- an operator has at most fifteen before it
  pub before-operator : (k : ℕ) → k < length path.operators → NoneStands (operators_cases path k) → Within most_before (before path k)
  before-operator k h passed = within-le {shorter = 64 * k} (omega arith) (before-within k (omega arith) passed)

  delay-bound : (k : ℕ) → k < length path.operators → NoneStands (operators_cases path k) → delay_at path k ≤ 134_218_750
  unfolding delay_at
  delay-bound k h passed = own-delay-bound (before path k) (operator_at path k) (paired_at path k) (before-operator k h passed) (number-inside k h)

  -- the delays of sixteen operators fit 32 bits
  pub delays-bound : (k : ℕ) → k ≤ length path.operators → NoneStands (operators_cases path k) → total (delay_at path) k ≤ 134_218_750 * k
  unfolding operators_cases
  delays-bound zero h passed = omega (arith, total-zero (delay_at path))
  delays-bound (suc k) h passed =
      let (earlier, here) = none-of-each (operators_cases path k) (operator_cases path k) passed in
      omega (arith, total-suc (delay_at path) k, delays-bound k (omega arith) earlier, delay-bound k h earlier)

-- The slots of delayers.

slots-behind : (p : Progress) (op : Operator) → (behind p op).e ≤ p.e + words_used op
unfolding behind words_used
slots-behind p (Operator.Limiter R) = omega arith
slots-behind p (Operator.Compactor n) = omega arith
slots-behind p (Operator.Expander n) = omega arith
slots-behind p (Operator.Filter R) = omega arith
slots-behind p (Operator.Delayer d) = omega arith

slots-up-to : (path : Path) (k : ℕ) → (before path k).e ≤ total (λ j. words_used (operator_at path j)) k
unfolding before progress_at
slots-up-to path zero = omega arith
slots-up-to path (suc k) =
    omega (arith, total-suc (λ j. words_used (operator_at path j)) k, slots-up-to path k, slots-behind (before path k) (operator_at path k))

slots-at-most : (slots : ℕ → ℕ) (n : ℕ) → ((k : ℕ) → k < n → slots k ≤ 64) → total slots n ≤ 64 * n
slots-at-most slots zero small = omega (arith, total-zero slots)
slots-at-most slots (suc n) small = omega (arith, total-suc slots n, slots-at-most slots n (λ k less. small k (omega arith)), small n (omega arith))

slots_small : (op : Operator) → number_in_range op ≡ true → words_used op ≤ 64
unfolding number_in_range words_used
slots_small (Operator.Limiter R) inside = omega arith
slots_small (Operator.Compactor n) inside = omega arith
slots_small (Operator.Expander n) inside = omega arith
slots_small (Operator.Filter R) inside = omega arith
slots_small (Operator.Delayer d) inside = (in-range delay_range d.0 inside).1

-- before operator 0
pub walked_start : (source : Source) (path : Path) (carried : Carried) (figure : Figure) → progress_in source.declared.now carried ≡ start (class_of path.declaration)
    → Lent carried.class.kind source.declared.now source.bound.now → carried.slowest ≡ None → figure ≡ no_figure → Walked source path 0 carried (replicate 16 figure) (record { 0 = 0 })
unfolding before progress_at operators_cases figure_up_to
walked_start source path carried figure e lent none f =
    record {
      carries = e;
      lent = lent;
      burst = rw none tt;
      passed = tt;
      long = refl;
      written = λ j h. get_or-replicate 16 j figure no_figure h ∙ f ∙ sym (pick-false _ _ _ (le-ltb j 0 (omega arith)));
      summed = sym (total-zero (delay_at path));
    }

abbrev answer_of : {A : Type 0} → (Refusal → A) → A → Result Figure Refusal → A
answer_of refused rest (Ok figure) = rest
answer_of refused rest (Err why) = refused why

module _ (path : Path) (k : ℕ) where
  abbrev pub planned_at : Result Figure Refusal
  planned_at = planned_of (before path k) (operator_at path k) (paired_at path k) k

  -- operator k's figure fits
  pub fits-passed : {figure : Figure} → Ok figure ≡ planned_at → NoneStands (operator_cases path k)
  unfolding planned_of
  fits-passed planned = none-of-ok _ (operator_cases path k) (sym planned)

  pub fits-figure : {figure : Figure} → Ok figure ≡ planned_at → figure ≡ figure_at path k
  unfolding planned_of figure_at capacity_at delay_at
  fits-figure planned = ok-is _ (operator_cases path k) (sym planned)

  -- operator k is refused
  refused-here : {A : Type 0} (refused : Refusal → A) (rest : A) {why : Refusal} → Err why ≡ planned_at → refused why ≡ first_of (operator_cases path k) refused rest
  unfolding planned_of
  refused-here refused rest planned = ap (answer_of refused rest) planned ∙ first_of-map (answer_of refused rest) Err (Ok _) (operator_cases path k)

  operators-split : (j : ℕ) → (rest : List Case) × (operators_cases path (suc k + j) ≡ operators_cases path k ++ (operator_cases path k ++ rest))
  unfolding operators_cases
  operators-split zero = ([], rw add-zero)
  operators-split (suc j) = let (rest, e) = operators-split j in (rest ++ operator_cases path (suc k + j), rw (add-suc, e) (simp append_assoc))

  -- so the path is: no operator before k stands in the way, and none behind it counts
  pub refused-answer : {A : Type 0} (refused : Refusal → A) (result : A) (n : ℕ) (last : List Case) {why : Refusal} → k < n → NoneStands (operators_cases path k) → Err why ≡ planned_at → refused why ≡ first_of (operators_cases path n ++ last) refused result
  refused-answer refused result n last h passed planned =
      let (j, e) = le_dest h in
      let (rest, split) = operators-split j in
      let row : operators_cases path n ++ last ≡ operators_cases path k ++ (operator_cases path k ++ (rest ++ last)) =
      ap (λ (m : ℕ). operators_cases path m ++ last) (sym e) ∙ ap (λ (cs : List Case). cs ++ last) split ∙ simp append_assoc in
      refused-here refused (first_of (rest ++ last) refused result) planned
      ∙ sym (first_of-append refused result (operator_cases path k) (rest ++ last))
      ∙ sym (first_of-none refused (first_of (operator_cases path k ++ (rest ++ last)) refused result) (operators_cases path k) passed)
      ∙ sym (first_of-append refused result (operators_cases path k) (operator_cases path k ++ (rest ++ last)))
      ∙ sym (ap (λ (cs : List Case). first_of cs refused result) row)

  before-next : before path (k + 1) ≡ behind (before path k) (operator_at path k)
  unfolding before progress_at
  before-next = rw add-one

  passed-next : NoneStands (operators_cases path k) → NoneStands (operator_cases path k) → NoneStands (operators_cases path (k + 1))
  unfolding operators_cases
  passed-next earlier here = rw add-one (none-of-both (operators_cases path k) (operator_cases path k) earlier here)

ltb_next : (j k : ℕ) (t : Bool) → ltb j k ≡ t → (j ≡ k → ⊥) → t ≡ ltb j (k + 1)
ltb_next j k true e other = let less = ltb-true j k e in sym (lt-ltb j (k + 1) (omega arith))
ltb_next j k false e other = let more = ltb-false j k e in sym (le-ltb j (k + 1) (omega arith))

module _ {source : Source} {path : Path} {k : ℕ} {carried : Carried} {figures : List Figure} {delay : Slots} (walked : Walked source path k carried figures delay) where
  -- what was planned of what is carried is planned of operator k
  pub walked-planned : {op : Operator} {paired : Bool} {planned : Result Figure Refusal} → op ≡ operator_at path k → paired ≡ paired_at path k → planned ≡ planned_of (progress_in source.declared.now carried) op paired k → planned ≡ planned_at path k
  walked-planned {op} {paired} e f g =
      g
      ∙ ap (λ (p : Progress). planned_of p op paired k) walked.carries
      ∙ ap₂ (λ (op : Operator) (paired : Bool). planned_of (before path k) op paired k) e f

  figure-next : {figure : Figure} → figure ≡ figure_at path k → k < 16 → (j : ℕ) → j < 16 → (t : Bool) → eqb j k ≡ t → get_or (set figures k figure) j no_figure ≡ figure_up_to path (k + 1) j
  unfolding figure_up_to
  figure-next {figure} e inside j h true same =
      let at-k = eqb-true j k same in
      rw at-k (get_or-set_same figures k figure no_figure (rw walked.long inside) ∙ e ∙ sym (pick_true _ _ _ (lt-ltb k (k + 1) (omega arith))))
  figure-next {figure} e inside j h false other =
      get_or-set_other figures k j figure no_figure (eqb-false j k other)
      ∙ walked.written j h
      ∙ ap (λ (t : Bool). pick t (figure_at path j) no_figure) (ltb_next j k (ltb j k) refl (eqb-false j k other))

  -- one operator on
  pub walked_next : {figure : Figure} {next : Carried} {op : Operator} {later : Slots} → k < 16 → op ≡ operator_at path k → Ok figure ≡ planned_at path k
      → progress_in source.declared.now next ≡ behind (progress_in source.declared.now carried) op → Lent next.class.kind source.declared.now source.bound.now → BurstKept (class_in source.declared.now next.class) next.slowest
      → later.0 ≡ delay.0 + figure.delay.0 → Walked source path (k + 1) next (set figures k figure) later
  unfolding figure_at
  walked_next {figure} inside e planned f lent burst counted =
      let own = fits-figure path k planned in
      record {
        carries = f ∙ ap₂ behind walked.carries e ∙ sym (before-next path k);
        lent = lent;
        burst = burst;
        passed = passed-next path k walked.passed (fits-passed path k planned);
        long = length-set figures k figure ∙ walked.long;
        written = λ j h. figure-next own inside j h (eqb j k) refl;
        summed = counted ∙ ap₂ ◌+◌ walked.summed (ap (λ (f : Figure). f.delay.0) own) ∙ sym (total-next (delay_at path) k);
      }

-- behind the last operator
module _ {source : Source} {path : Path} {carried : Carried} {figures : List Figure} {delay : Slots} (walked : Walked source path (length path.operators) carried figures delay) where
  pub walked-figures : figures ≡ list_of (figure_in path) 16
  unfolding figure_up_to figure_in
  walked-figures = list_of-ext no_figure (figure_in path) 16 figures walked.long walked.written

  pub walked-delay : delay.0 ≡ path_delay path
  unfolding path_delay
  walked-delay = walked.summed

  module _ {A : Type 0} (refused : Refusal → A) (result : A) where
    pub late-answer : path.wanted < delay.0 → refused DelayAboveWanted ≡ first_of (path_cases path) refused result
    late-answer late =
        let stands = rw walked-delay at (lt-ltb path.wanted delay.0 late) in
        sym
        (first_of-append refused result (operators_cases path (length path.operators)) _
        ∙ first_of-none refused _ (operators_cases path (length path.operators)) walked.passed
        ∙ pick_true _ _ _ stands)

    pub accepted-answer : delay.0 ≤ path.wanted → result ≡ first_of (path_cases path) refused result
    accepted-answer soon =
        let stands = rw walked-delay at (le-ltb path.wanted delay.0 soon) in
        sym (first_of-none refused result (path_cases path) (none-of-both (operators_cases path (length path.operators)) _ walked.passed (stands, tt)))

abbrev planned_path : List Figure → ℕ → PlannedPath
planned_path figures delay = record { figures = figures; delay = record { 0 = delay } }

-- the same of such a path value
module _ {value : PathValue} (within : PathWithin value) where
  path-size : length (in_full value).operators ≡ value.count
  path-size = path-length value (rw within.full within.few)

  path-few : length (in_full value).operators ≤ 16
  path-few = rw path-size within.few

  pub operator-slots : (k : ℕ) → k < value.count → words_used (get_or value.operators k no_linked_operator).operator ≤ 64
  operator-slots k here =
      subst (λ (op : Operator). words_used op ≤ 64) (path-operator value k here)
      (slots_small (operator_at (in_full value) k) (number-inside (in_full value) path-few within.inside k (rw path-size here)))

  pub slots-few : slots_before value ≤ most_before
  unfolding slots_before
  slots-few =
      let few = within.few in
      omega (arith, slots-at-most (λ k. words_used (get_or value.operators k no_linked_operator).operator) (value.count - 1) (λ k less. operator-slots k (omega arith)))

  module _ {source : Source} {k : ℕ} {carried : Carried} {figures : List Figure} {delay : Slots} (walked : Walked source (in_full value) k carried figures delay) (here : k < value.count) where
    before-end : k < length (in_full value).operators
    before-end = rw path-size here

    -- no operator is behind more delayers than the last
    pub slots-here : carried.e.0 ≤ slots_before value
    unfolding slots_before
    slots-here =
        omega (
          arith,
          ap (λ (p : Progress). p.e) walked.carries,
          slots-up-to (in_full value) k,
          total-same (λ j. words_used (operator_at (in_full value) j)) (λ j. words_used (get_or value.operators j no_linked_operator).operator) k (λ j less. ap words_used (path-operator value j (omega arith))),
          total-le (λ j. words_used (get_or value.operators j no_linked_operator).operator) {n = k} {m = value.count - 1} (omega arith),
        )

    pub operator-ready : Ready most_before source carried × (number_in_range (operator_at (in_full value) k) ≡ true)
    operator-ready = (
      record { within = rw walked.carries (before-operator (in_full value) path-few within.inside k before-end walked.passed); lent = walked.lent; burst = walked.burst },
      number-inside (in_full value) path-few within.inside k before-end,
    )

    -- it is paired with the operator that follows it, if one does
    pub paired-here : pairs_with (operator_at (in_full value) k) (follower_in (in_full value).operators k) ≡ paired_at (in_full value) k
    unfolding paired_at operator_at
    paired-here = by-test (ltb (k + 1) (length (in_full value).operators))
      where
        by-test : (t : Bool) → pairs_with (operator_at (in_full value) k) (pick t (Some (operator_at (in_full value) (k + 1))) None) ≡ pick t (pairs (operator_at (in_full value) k) (operator_at (in_full value) (k + 1))) false
        by-test true = refl
        by-test false = refl

    -- the sum of the delays does not stop at its largest number
    pub delay-counted : {figure : Figure} {later : Slots} → Ok figure ≡ planned_at (in_full value) k → later ≡ slots_sum delay figure.delay → later.0 ≡ delay.0 + figure.delay.0
    unfolding figure_at
    delay-counted {figure} planned sum =
        let own = ap (λ (f : Figure). f.delay.0) (fits-figure (in_full value) k planned) in
        let fits : delay.0 + figure.delay.0 ≤ largest32 =
        omega (
          arith,
          walked.summed,
          delays-bound (in_full value) path-few within.inside k (le_of_lt before-end) walked.passed,
          delay-bound (in_full value) path-few within.inside k before-end walked.passed,
        ) in
        ap (λ (s : Slots). s.0) sum ∙ slots-sum delay figure.delay fits

    pub refused-path : {why : Refusal} → Err why ≡ planned_at (in_full value) k → Err why ≡ planned_of_value value
    unfolding planned_of_value
    refused-path planned = refused-answer (in_full value) k Err _ (length (in_full value).operators) _ before-end walked.passed planned

  module _ {source : Source} {carried : Carried} {figures : List Figure} {delay : Slots} (walked : Walked source (in_full value) value.count carried figures delay) where
    walked_end : Walked source (in_full value) (length (in_full value).operators) carried figures delay
    walked_end = rw path-size walked

    pub late-path : value.wanted.0 < delay.0 → Err DelayAboveWanted ≡ planned_of_value value
    unfolding planned_of_value in_full
    late-path late = late-answer walked_end Err _ late

    pub accepted-path : delay.0 ≤ value.wanted.0 → Ok (planned_path figures delay.0) ≡ planned_of_value value
    unfolding planned_of_value in_full
    accepted-path soon =
        let answer = accepted-answer walked_end Err (Ok (planned_path (list_of (figure_in (in_full value)) 16) (path_delay (in_full value)))) soon in
        ap₂ (λ (figures : List Figure) (delay : ℕ). Ok (planned_path figures delay)) (walked-figures walked_end) (walked-delay walked_end) ∙ answer
