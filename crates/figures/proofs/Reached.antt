-- What holds of the flows into each operator of a path that no refusal stands against, and so of those behind the last one: by induction over the operators.
use mathlib.Core.Path.{◌≡◌, sym, ap}
use mathlib.Core.Bool.{Bool, true, false, true≢false}
use mathlib.Core.List.{List}
use mathlib.Core.Logic.{⊎_elim}
use Prim.Native.Nat.{ℕ, zero, suc, ◌+◌, ◌≤◌, ◌<◌}
use native.Mathlib.Nat.{le_refl, le_of_lt, le_of_suc-le-suc, not-suc-le-zero, eq-or-lt_of_le, add-zero}
use native.Mathlib.Numerals.{add-one}
use native.Mathlib.Omega.{arith}
use lib.ListN.{length, get_or, get_or-eq_default}
use lib.Dec.{ltb}
use Rattle.quantity.specs.Choice.{pick}
use Rattle.quantity.specs.Ranges.{in_range, link_range}
use Rattle.quantity.specs.Sums.{total}
use Rattle.quantity.proofs.Refusals.{NoneStands, none-of-each}
use Rattle.quantity.proofs.Sums.{both_true}
use Rattle.flow.specs.Flows.{Flow, InTime}
use Rattle.flow.specs.Classes.{Positive, Keeps}
use Rattle.flow.specs.Declarations.{class_of}
use Rattle.flow.proofs.Declarations.{class-positive}
use Rattle.operator.specs.Operators.{number_in_range, expander}
use Rattle.flow.proofs.Laws.{in-time-add}
use Rattle.sheet.specs.declared.LinkedOperator.{LinkedOperator}
use Rattle.sheet.specs.Bodies.{operator_in_range}
use Rattle.sheet.specs.Paths.{Path, no_linked_operator}
use Rattle.sheet.specs.Sheets.{operators_in_range, path_in_range}
use Rattle.figures.specs.Progress.{progress_at}
use Rattle.figures.specs.Figures.{pairs, delay_of_part}
use Rattle.sheet.proofs.InRange.{operators-at, declaration-of-path, operators-of-path}
use Rattle.figures.specs.Answers.{operator_at, before, paired_at, delay_at, path_delay, operator_cases, operators_cases, path_cases}
use Rattle.figures.specs.Along.{flow_into, flow_of_class, AllFit}
use Rattle.figures.proofs.Part.{part-in-time}
use Rattle.figures.proofs.Capacities.{Sound, sound-start, sound-behind}
use Rattle.figures.proofs.Steps.{Known, Timed, Passed, Step, known_start, timed-start, timed-counted, step}

-- each operator's number is in its range
number-in-range : (operators : List LinkedOperator) → operators_in_range operators ≡ true → (k : ℕ) → k < length operators → number_in_range (get_or operators k no_linked_operator).operator ≡ true
unfolding operator_in_range
number-in-range operators inside k less =
    let linked = get_or operators k no_linked_operator in
    (both_true (number_in_range linked.operator) (in_range link_range linked.link.0) (operators-at operators k no_linked_operator inside less)).0

-- no refusal stands against any operator
pub none-at : (path : Path) (n : ℕ) → NoneStands (operators_cases path n) → (k : ℕ) → k < n → NoneStands (operator_cases path k)
unfolding operators_cases
none-at path zero none k less = absurd (not-suc-le-zero less)
none-at path (suc n) none k less =
    let (earlier, last) = none-of-each (operators_cases path n) (operator_cases path n) none in
    ⊎_elim (λ same. rw same last) (none-at path n earlier k) (eq-or-lt_of_le (le_of_suc-le-suc less))

-- nor against the first k
pub none_before : (path : Path) (n : ℕ) → NoneStands (operators_cases path n) → (k : ℕ) → k ≤ n → NoneStands (operators_cases path k)
none_before path zero none k few = let first : k ≡ 0 = omega arith in rw first none
none_before path (suc n) none k few =
    ⊎_elim (λ same. rw same none) (λ less. none_before path n (unfold operators_cases in (none-of-each (operators_cases path n) (operator_cases path n) none).0) k (le_of_suc-le-suc less)) (eq-or-lt_of_le few)

-- a paired operator pairs with the next one
paired-pairs : (path : Path) (k : ℕ) → paired_at path k ≡ true → pairs (operator_at path k) (operator_at path (suc k)) ≡ true
unfolding paired_at
paired-pairs path k e = rw (← add-one k) (taken (ltb (k + 1) (length path.operators)) e)
  where
    taken : (t : Bool) → pick t (pairs (operator_at path k) (operator_at path (k + 1))) false ≡ true → pairs (operator_at path k) (operator_at path (k + 1)) ≡ true
    taken true e = e
    taken false e = absurd (true≢false (sym e))

module _ (path : Path) (r : Flow) (choices : ℕ → Flow) where
  -- the flow into operator k, and the flow that the class before it is of
  abbrev pub into : ℕ → Flow
  into = flow_into (operator_at path) r choices

  abbrev pub classed : ℕ → Flow
  classed = flow_of_class (operator_at path) r choices

  pub record Reached (k : ℕ) : Type 0 where
    pub known : Known (before path k) (classed k) (into k)
    pub timed : Timed r (before path k) (operator_at path k) (classed k) (into k) (total (delay_at path) k)

  reached-start : Positive (class_of path.declaration) → Keeps (class_of path.declaration) r → Reached zero
  unfolding before progress_at flow_into flow_of_class total
  reached-start large kept =
      record { known = known_start (class_of path.declaration) r large kept; timed = timed-start r (class_of path.declaration) (operator_at path 0) r 0 (λ n. rw add-zero (le_refl _)) }

  reached-next : (k : ℕ) → Reached k
      → Step (before path k) (operator_at path k) (classed k) (into k) (choices k) → Reached (suc k)
  unfolding before progress_at flow_into flow_of_class total delay_at
  reached-next k here stepped =
      record {
        known = stepped.known;
        timed = stepped.timed r (total (delay_at path) k) (operator_at path (suc k)) (paired_at path k) (paired-pairs path k) here.timed;
      }

  -- behind the last operator there is none to make a pair with
  pub reached-end : Reached (length path.operators) → InTime (path_delay path) r (into (length path.operators))
  unfolding path_delay operator_at pairs
  reached-end here =
      let p = before path (length path.operators) in
      let known = here.known in
      let g = classed (length path.operators) in
      let f = into (length path.operators) in
      let ended : operator_at path (length path.operators) ≡ no_linked_operator.operator = ap (λ (linked : LinkedOperator). linked.operator) (get_or-eq_default path.operators no_linked_operator (le_refl _)) in
      let (E, sum, late) = timed-counted r p _ g f (total (delay_at path) (length path.operators)) (λ n. ap (pairs (expander n)) ended) here.timed in
      rw (← sum) (in-time-add E (delay_of_part p) r g f late (part-in-time p.class g known.large known.kept p.slowest p.e f known.carries known.served))

-- a declaration in range has rows, and counts over at least one slot in each
pub declared-positive : (path : Path) → path_in_range path ≡ true → Positive (class_of path.declaration)
declared-positive path inside = class-positive path.declaration (declaration-of-path path inside)

module _ (path : Path) (inside : path_in_range path ≡ true) (none : NoneStands (path_cases path)) where
  pub passed-at : (k : ℕ) → k < length path.operators → Passed (before path k) (operator_at path k)
  unfolding operator_at
  passed-at k less =
      let here = none-at path (length path.operators) (none-of-each (operators_cases path (length path.operators)) _ none).0 k less in
      record { inside = number-in-range path.operators (operators-of-path path inside) k less; placed = here.0; rated = here.1.1.0 }

  pub sound-at : (k : ℕ) → k ≤ length path.operators → Sound (before path k)
  unfolding before progress_at
  sound-at zero h = sound-start (class_of path.declaration)
  sound-at (suc k) h = sound-behind (before path k) (operator_at path k) (sound-at k (le_of_lt h)) (passed-at k h)

  module _ (r : Flow) (choices : ℕ → Flow) (kept : Keeps (class_of path.declaration) r) (fits : AllFit path r choices) where
    step-at : (k : ℕ) → k < length path.operators → Reached path r choices k
        → Step (before path k) (operator_at path k) (classed path r choices k) (into path r choices k) (choices k)
    step-at k less here = step (before path k) _ _ (choices k) here.known (operator_at path k) (passed-at k less) (fits k less)

    pub reached : (k : ℕ) → k ≤ length path.operators → Reached path r choices k
    reached zero h = reached-start path r choices (declared-positive path inside) kept
    reached (suc k) h = let here = reached k (le_of_lt h) in reached-next path r choices k here (step-at k h here)

    pub stepped : (k : ℕ) → k < length path.operators → Step (before path k) (operator_at path k) (classed path r choices k) (into path r choices k) (choices k)
    stepped k less = step-at k less (reached k (le_of_lt less))
