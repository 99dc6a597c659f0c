-- The operators of a slot one behind the other: what the loop over them has found before operator k, and behind the last.
use Prim.Native.Nat.{ℕ, zero, suc, ◌+◌, ◌-◌, ◌*◌, ◌≤◌, ◌<◌}
use mathlib.Core.Path.{◌≡◌, refl, sym, ap, ap₂, ◌∙◌}
use mathlib.Core.Bool.{Bool, true, false, not}
use mathlib.Core.List.{List, [], ◌∷◌, ◌++◌}
use Rattle.std.specs.Prelude.{Option, Some, None, Result, Ok, Err}
use Rattle.std.specs.Option.{option_or, MatchOption}
use mathlib.Core.Logic.{◌⊎◌, inl, inr, ⊎_elim}
use native.Mathlib.Nat.{not-suc-le-zero, le_of_suc-le-suc, eq-or-lt_of_le}
use native.Mathlib.Numerals.{add-one}
use native.Mathlib.Omega.{arith}
use borrow.Author.Tests.{ltb-true, ltb-false, le-leb, lt-leb, eqb-true, not-false}
use lib.Dec.{leb, ltb}
use lib.ListN.{length, get_or, set, take, drop, length-set}
use lib.Seq.{get_or-set_same, get_or-set_other}
use Rattle.quantity.specs.Choice.{pick, both, either}
use Rattle.quantity.specs.Limits.{largest_amount, most_operators}
use Rattle.quantity.specs.Sums.{every}
use Rattle.quantity.specs.Refusals.{Case, ◌⇒◌}
use Rattle.quantity.specs.declared.Units.{Units}
use Rattle.quantity.specs.declared.refusal.Refusal.{Refusal}
use Rattle.quantity.specs.declared.refusal.Refusal.TheVariants.{Unusable, ChoiceAboveGreatest}
use Rattle.quantity.proofs.Laws.{either-false}
use Rattle.quantity.proofs.Sums.{every-next, every-on, every-at}
use Rattle.quantity.proofs.Refusals.{NoneStands, none-of-both, FirstIs, first-of-more}
use Rattle.operator.specs.Held.{Held}
use Rattle.operator.specs.Operators.{number_in_range}
use Rattle.operator.specs.Single.{word_count}
use Rattle.operator.specs.Parts.{most_on_the_way}
use Rattle.operator.specs.Ring.{path_holds, path_unusable, path_choice_above, path_sent, path_holds_next, storable, path_advanced, path_unready, path_holds_sent, ring_place, advanced_of}
use Rattle.operator.specs.declared.ring.PathOperator.{PathOperator}
use Rattle.operator.specs.declared.ring.Advanced.{Advanced}
use Rattle.operator.specs.declared.ring.Halted.{Halted}
use Rattle.operator.proofs.RingLaws.{path-stored-usable, is-ready}
use Rattle.sheet.specs.Bodies.{part}
use Rattle.run.specs.declared.Stage.{Stage}
use Rattle.run.specs.declared.Run.{Run}
use Rattle.run.specs.declared.stages.Progress.{Progress}
use Rattle.meter.specs.declared.parts.Awaited.{Awaited}
use Rattle.run.specs.Calls.{Call, choices_miscounted, amount_too_large, call_of}
use Rattle.run.specs.Runs.{operator_at_word, operator_words, no_stage, stage_at, operator_of, operator_in, stage_fits}
use Rattle.run.specs.Slots.{input_into, choice_above_at, choice_cases, run_holds_next, leaves_too_much_at, slot_leaves_too_much, operator_next, stage_next, slot_cases}
use Rattle.run.specs.Steps.{awaited_in, begun_in, begun_of, Begun, stage_kept, first_progress, once_sent, once_above, decision_cases}
use Rattle.run.proofs.PathAnswers.{path-sent-fits, path-b-le, Sending, sends-told, above-told, unusable-told}
use Rattle.run.proofs.UsableRun.{slot-left, MeterFits, usable-fits, run-unusable, stage-usable, stage-number}
use Rattle.run.proofs.TestLaws.{Behind, named-fits, begun-told, behind-unused}

never : ◌≡◌ {A = Bool} true false → ⊥
never e = let z : ◌≡◌ {A = ℕ} 0 1 = cc in omega arith

-- an operator's words as the code lends them
pub lent-words : (words : List ℕ) (k : ℕ) → take (operator_at_word k + word_count - operator_at_word k) (drop (operator_at_word k) words) ≡ operator_words words k
unfolding operator_words part
lent-words words k = let width : operator_at_word k + word_count - operator_at_word k ≡ word_count = omega arith in ap (λ (n : ℕ). take n (drop (operator_at_word k) words)) width

-- Before the first operator.

-- what is known of the run and the call
pub record Ready (run : Run) (words : List ℕ) (input : Units) (choices : List ℕ) : Type 0 where
  pub miscounted : choices_miscounted run.count (call_of input choices) ≡ false
  pub large : amount_too_large (call_of input choices) ≡ false
  pub fits : MeterFits run words
  pub behind : Behind run words

module _ {run : Run} {words : List ℕ} {input : Units} {choices : List ℕ} (ready : Ready run words input choices) where
  pub counted : length choices ≡ run.count
  unfolding choices_miscounted
  counted = eqb-true (length choices) run.count (not-false _ ready.miscounted)

  pub input-le : input.0 ≤ largest_amount
  unfolding amount_too_large
  input-le = ltb-false largest_amount input.0 (either-false (ltb largest_amount input.0) _ ready.large).0

module _ (run : Run) (words : List ℕ) (input : Units) (choices : List ℕ) where
  abbrev call : Call
  call = call_of input choices

  begun-or-not : {begun : Option Awaited} → begun ≡ begun_of run words call → ((begun ≡ None) × FirstIs (slot_cases run words call) Unusable) ⊎ (Ready run words input choices × (begun ≡ Some (awaited_in run words)))
  unfolding begun_of
  begun-or-not {begun} same = by_tests (choices_miscounted run.count call) (amount_too_large call) refl refl same
    where
      by_tests : (a b : Bool) → choices_miscounted run.count call ≡ a → amount_too_large call ≡ b → begun ≡ pick (either a b) None (begun_in run words)
          → ((begun ≡ None) × FirstIs (slot_cases run words call) Unusable) ⊎ (Ready run words input choices × (begun ≡ Some (awaited_in run words)))
      by_tests true b e f made = inl (made, inl (e, refl))
      by_tests false true e f made = inl (made, inr (e, inl (f, refl)))
      by_tests false false e f made =
          ⊎_elim
          (λ none. inl (none.0, inr (e, inr (f, inl (run-unusable run words (λ usable. none.1 (usable-fits run words usable) (behind-unused run words (usable-fits run words usable) usable.stages)), refl)))))
          (λ some. inr (record { miscounted = e; large = f; fits = some.0; behind = some.1.0 }, some.1.1))
          (begun-told run words made)

  -- nothing is begun
  pub none-begun : None ≡ begun_of run words call → FirstIs (slot_cases run words call) Unusable
  none-begun same = ⊎_elim (λ none. none.1) (λ some. (let e = some.1 in let z : ◌≡◌ {A = ℕ} 0 1 = cc in absurd (omega arith))) (begun-or-not same)

  -- or all of that holds
  pub some-begun : {awaited : Awaited} → Some awaited ≡ begun_of run words call → Ready run words input choices × (awaited ≡ awaited_in run words)
  some-begun same = ⊎_elim (λ none. (let e = none.0 in let z : ◌≡◌ {A = ℕ} 0 1 = cc in absurd (omega arith))) (λ some. (some.0, (let e = some.1 in cc))) (begun-or-not same)

  -- so much is known of what has begun
  pub begun-fits : {begun : Option Awaited} → begun ≡ begun_of run words call → MatchOption begun (Unit {0}) (λ awaited. Begun run words input choices)
  begun-fits same =
      ⊎_elim (λ none. rw none.0 tt)
      (λ some.
      let fits = some.0.fits in
      rw some.1 (record { sized = fits.sized; few = fits.few; counted = counted some.0; small = input-le some.0; left = slot-left run words fits }))
      (begun-or-not same)

-- The test of what is stored.

leb-not : (b : ℕ) (t : Bool) → ltb largest_amount b ≡ t → leb b largest_amount ≡ not t
leb-not b true e = lt-leb b largest_amount (ltb-true largest_amount b e)
leb-not b false e = le-leb b largest_amount (ltb-false largest_amount b e)

both-not : (s t : Bool) → both (not s) (not t) ≡ not (either s t)
both-not true t = refl
both-not false t = refl

storable-same : (run : Run) (words : List ℕ) (call : Call) (k : ℕ) → storable (run_holds_next run words call k).b (run_holds_next run words call k).h ≡ not (leaves_too_much_at run words call k)
unfolding storable leaves_too_much_at
storable-same run words call k =
    let held = run_holds_next run words call k in
    ap₂ both (leb-not held.b _ refl) (leb-not held.h _ refl) ∙ both-not (ltb largest_amount held.b) (ltb largest_amount held.h)

-- Before operator k.

-- no choice was above so far: what arrives, what is stored and the stages are those of the definitions
pub record Passing (run : Run) (words : List ℕ) (call : Call) (k : ℕ) (p : Progress) (stages : List Stage) (places : List ℕ) : Type 0 where
  pub none_above : p.above ≡ None
  pub arrives : p.arriving.0 ≡ input_into run words call k
  pub passed : NoneStands (choice_cases run words call k)
  pub stored : p.fits ≡ every (λ j. not (leaves_too_much_at run words call j)) k
  pub advanced : (i : ℕ) → i < k → get_or stages i no_stage ≡ stage_next run words call i
  pub placed : (i : ℕ) → i < k → get_or places i 0 ≡ ring_place (operator_in run i)

-- or one was, and the first is told
pub record Standing (run : Run) (words : List ℕ) (call : Call) (k : ℕ) (p : Progress) : Type 0 where
  pub first : ℕ
  pub told : p.above ≡ Some first
  pub before : first < k
  pub passed : NoneStands (choice_cases run words call first)
  pub stands : choice_above_at run words call first ≡ true

-- and all operators so far can be used
pub record Moving (run : Run) (words : List ℕ) (call : Call) (k : ℕ) (p : Progress) (stages : List Stage) (places : List ℕ) : Type 0 where
  pub long : length stages ≡ most_operators
  pub wide : length places ≡ most_operators
  pub later : (i : ℕ) → k ≤ i → get_or stages i no_stage ≡ stage_at run i
  pub fit : every (stage_fits run words) k ≡ true
  pub small : p.arriving.0 ≤ largest_amount * (k + 1)
  pub goes : Passing run words call k p stages places ⊎ Standing run words call k p

-- before operator 0
pub moving-start : {run : Run} {words choices : List ℕ} {input : Units} → Ready run words input choices → length run.stages ≡ most_operators
    → {p : Progress} → p ≡ first_progress input → (places : List ℕ) → length places ≡ most_operators → Moving run words (call_of input choices) 0 p run.stages places
unfolding first_progress stage_at input_into choice_cases every
moving-start ready full {p} first places sixteen =
    record {
      long = full;
      wide = sixteen;
      later = λ i behind. refl;
      fit = refl;
      small = omega (arith, input-le ready, ap (λ (q : Progress). q.arriving.0) first);
      goes = inl (record {
        none_above = ap (λ (q : Progress). q.above) first;
        arrives = ap (λ (q : Progress). q.arriving.0) first;
        passed = tt;
        stored = ap (λ (q : Progress). q.fits) first;
        advanced = λ i less. absurd (not-suc-le-zero less);
        placed = λ i less. absurd (not-suc-le-zero less);
      });
    }

-- an operator that has advanced, as the run keeps it
stage-advanced : (run : Run) (words : List ℕ) (call : Call) (k : ℕ)
    → stage_kept (path_advanced (operator_in run k) (input_into run words call k) (input_into run words call (suc k)) (run_holds_next run words call k).b (run_holds_next run words call k).h) ≡ stage_next run words call k
unfolding stage_kept path_advanced stage_next operator_next operator_in
stage-advanced run words _ k = refl

-- one operator on
module _ {run : Run} {words choices : List ℕ} {input : Units} (ready : Ready run words input choices)
    {k : ℕ} {p : Progress} {stages : List Stage} {places : List ℕ} (moving : Moving run words (call_of input choices) k p stages places) (here : k < run.count) where
  abbrev asked : Call
  asked = call_of input choices

  below : k < most_operators
  below = let few = ready.fits.few in omega (arith, here)

  abbrev x : PathOperator
  x = operator_in run k

  abbrev ws : List ℕ
  ws = operator_words words k

  -- stage k has not advanced yet
  operator-same : operator_of (get_or stages k no_stage) run.slot ≡ x
  unfolding operator_in
  operator-same = ap (λ (stage : Stage). operator_of stage run.slot) (moving.later k (omega arith))

  answer-same : {answer : Result Advanced Halted} → answer ≡ advanced_of (operator_of (get_or stages k no_stage) run.slot) ws p.arriving.0 (get_or choices k 0) → answer ≡ advanced_of x ws p.arriving.0 (get_or choices k 0)
  answer-same e = e ∙ ap (λ (y : PathOperator). advanced_of y ws p.arriving.0 (get_or choices k 0)) operator-same

  -- it fits just where it is ready for what can be on the way
  fits-here : both (number_in_range x.operator) (not (path_unusable x ws)) ≡ stage_fits run words k
  unfolding operator_in stage_at
  fits-here = named-fits run words k here

  ready-fits : (r : ℕ) → path_unready x ws r ≡ false → stage_fits run words k ≡ true
  unfolding path_unready
  ready-fits r e =
      let (usable, rest) = either-false (path_unusable x ws) _ e in
      let (inside, rest) = either-false (not (number_in_range x.operator)) _ rest in
      sym fits-here ∙ ap₂ (λ (a b : Bool). both a b) (not-false (number_in_range x.operator) inside) (ap not usable)

  unready-misfits : (r : ℕ) → r ≤ most_on_the_way → path_unready x ws r ≡ true → stage_fits run words k ≡ false
  unready-misfits r within unready = by-test (stage_fits run words k) refl
    where
      by-test : (t : Bool) → stage_fits run words k ≡ t → stage_fits run words k ≡ false
      by-test false e = e
      by-test true e =
          absurd (never (sym unready ∙ is-ready x ws r (path-stored-usable x ws (stage-usable run words k e)) (stage-number run words k e here) within))

  on-the-way : p.arriving.0 ≤ most_on_the_way
  on-the-way = omega (arith, moving.small, below)

  fit-next : stage_fits run words k ≡ true → every (stage_fits run words) (k + 1) ≡ true
  fit-next fits = every-on (stage_fits run words) k moving.fit fits

  standing-next : {q : Progress} → q.above ≡ p.above → Standing run words asked k p → Standing run words asked (k + 1) q
  standing-next same standing =
      record {
        first = standing.first;
        told = same ∙ standing.told;
        before = let early = standing.before in omega arith;
        passed = standing.passed;
        stands = standing.stands;
      }

  -- It sends.
  module _ {advanced : Advanced} (told : Ok advanced ≡ advanced_of (operator_of (get_or stages k no_stage) run.slot) ws p.arriving.0 (get_or choices k 0))
      {stage : Stage} (kept : stage ≡ stage_kept advanced.next) {q : Progress} (made : q ≡ once_sent p advanced.output advanced.fits) where
    sending : Sending x ws p.arriving.0 (get_or choices k 0) advanced
    sending = sends-told x ws p.arriving.0 (get_or choices k 0) (answer-same told)

    arriving-next : q.arriving.0 ≡ path_sent x ws p.arriving.0 (get_or choices k 0)
    unfolding once_sent
    arriving-next = ap (λ (q : Progress). q.arriving.0) made ∙ ap (λ (u : Units). u.0) sending.sent

    sent-le : path_sent x ws p.arriving.0 (get_or choices k 0) ≤ (path_holds x ws).b + p.arriving.0
    sent-le = path-sent-fits x ws p.arriving.0 (get_or choices k 0) sending.below

    fitting : stage_fits run words k ≡ true
    fitting = ready-fits p.arriving.0 sending.ready

    later-next : (i : ℕ) → k + 1 ≤ i → get_or (set stages k stage) i no_stage ≡ stage_at run i
    later-next i behind = get_or-set_other stages k i stage no_stage (omega arith) ∙ moving.later i (omega arith)

    module _ (passing : Passing run words asked k p stages places) where
      above_same : path_choice_above x ws p.arriving.0 (get_or choices k 0) ≡ choice_above_at run words asked k
      unfolding choice_above_at
      above_same = ap (λ (r : ℕ). path_choice_above x ws r (get_or choices k 0)) passing.arrives

      sent-same : path_sent x ws p.arriving.0 (get_or choices k 0) ≡ input_into run words asked (suc k)
      unfolding input_into
      sent-same = ap (λ (r : ℕ). path_sent x ws r (get_or choices k 0)) passing.arrives

      holds_same : path_holds_sent x ws p.arriving.0 (get_or choices k 0) ≡ run_holds_next run words asked k
      unfolding path_holds_sent run_holds_next
      holds_same = ap₂ (λ (r s : ℕ). path_holds_next x ws r s) passing.arrives sent-same

      stage-same : stage ≡ stage_next run words asked k
      stage-same =
          kept
          ∙ ap stage_kept sending.kept
          ∙ ap (λ (r : ℕ). stage_kept (path_advanced x r (path_sent x ws p.arriving.0 (get_or choices k 0)) (path_holds_sent x ws p.arriving.0 (get_or choices k 0)).b (path_holds_sent x ws p.arriving.0 (get_or choices k 0)).h)) passing.arrives
          ∙ ap₂ (λ (s : ℕ) (y : Held). stage_kept (path_advanced x (input_into run words asked k) s y.b y.h)) sent-same holds_same
          ∙ stage-advanced run words asked k

      stored_next : q.fits ≡ every (λ j. not (leaves_too_much_at run words asked j)) (k + 1)
      unfolding once_sent
      stored_next =
          ap (λ (q : Progress). q.fits) made
          ∙ ap₂ both passing.stored (sending.stored ∙ rw holds_same (storable-same run words asked k))
          ∙ sym (every-next (λ j. not (leaves_too_much_at run words asked j)) k)

      advanced-next : (i : ℕ) → i < k + 1 → get_or (set stages k stage) i no_stage ≡ stage_next run words asked i
      advanced-next i less =
          ⊎_elim
          (λ same. rw same (get_or-set_same stages k stage no_stage (rw moving.long below) ∙ stage-same))
          (λ under. get_or-set_other stages k i stage no_stage (omega arith) ∙ passing.advanced i under)
          (eq-or-lt_of_le (omega arith))

      placed-next : (i : ℕ) → i < k + 1 → get_or (set places k advanced.at) i 0 ≡ ring_place (operator_in run i)
      placed-next i less =
          ⊎_elim
          (λ same. rw same (get_or-set_same places k advanced.at 0 (rw moving.wide below) ∙ sending.placed))
          (λ under. get_or-set_other places k i advanced.at 0 (omega arith) ∙ passing.placed i under)
          (eq-or-lt_of_le (omega arith))

      passing-next : Passing run words asked (k + 1) q (set stages k stage) (set places k advanced.at)
      unfolding once_sent choice_cases
      passing-next =
          record {
            none_above = ap (λ (q : Progress). q.above) made ∙ passing.none_above;
            arrives = rw add-one (arriving-next ∙ sent-same);
            passed = rw add-one (none-of-both (choice_cases run words asked k) _ passing.passed (sym above_same ∙ sending.below, tt));
            stored = stored_next;
            advanced = advanced-next;
            placed = placed-next;
          }

    above_kept : q.above ≡ p.above
    unfolding once_sent
    above_kept = ap (λ (q : Progress). q.above) made

    pub moving-sent : Moving run words (call_of input choices) (k + 1) q (set stages k stage) (set places k advanced.at)
    moving-sent =
        record {
          long = length-set stages k stage ∙ moving.long;
          wide = length-set places k advanced.at ∙ moving.wide;
          later = later-next;
          fit = fit-next fitting;
          small =
              let was = moving.small in
              let holds = path-b-le x ws (stage-usable run words k fitting) in
              omega (arith, arriving-next, sent-le);
          goes = ⊎_elim (λ passing. inl (passing-next passing)) (λ standing. inr (standing-next above_kept standing)) moving.goes;
        }

  -- It cannot be used.
  pub unusable-refused : Err Halted.Unusable ≡ advanced_of (operator_of (get_or stages k no_stage) run.slot) ws p.arriving.0 (get_or choices k 0) → FirstIs (slot_cases run words asked) Unusable
  unusable-refused told =
      let unready = unusable-told x ws p.arriving.0 (get_or choices k 0) (answer-same told) in
      let misfits = unready-misfits p.arriving.0 on-the-way unready in
      inr (ready.miscounted, inr (ready.large, inl (run-unusable run words (λ usable. never (sym (every-at (stage_fits run words) most_operators usable.stages k below) ∙ misfits)), refl)))

  -- Its choice is above.
  module _ (told : Err Halted.ChoiceAbove ≡ advanced_of (operator_of (get_or stages k no_stage) run.slot) ws p.arriving.0 (get_or choices k 0)) {q : Progress} (made : q ≡ once_above p k) where
    tested : (path_unready x ws p.arriving.0 ≡ false) × (path_choice_above x ws p.arriving.0 (get_or choices k 0) ≡ true)
    tested = above-told x ws p.arriving.0 (get_or choices k 0) (answer-same told)

    above-now : q.above ≡ option_or p.above (Some k)
    unfolding once_above
    above-now = ap (λ (q : Progress). q.above) made

    arriving-kept : q.arriving.0 ≡ p.arriving.0
    unfolding once_above
    arriving-kept = ap (λ (q : Progress). q.arriving.0) made

    stands_here : Passing run words asked k p stages places → Standing run words asked (k + 1) q
    unfolding choice_above_at
    stands_here passing =
        record {
          first = k;
          told = above-now ∙ ap (λ (above : Option ℕ). option_or above (Some k)) passing.none_above;
          before = omega arith;
          passed = passing.passed;
          stands = sym (ap (λ (r : ℕ). path_choice_above x ws r (get_or choices k 0)) passing.arrives) ∙ tested.1;
        }

    still-stands : Standing run words asked k p → Standing run words asked (k + 1) q
    still-stands standing = standing-next (above-now ∙ ap (λ (above : Option ℕ). option_or above (Some k)) standing.told ∙ sym standing.told) standing

    pub moving-above : Moving run words (call_of input choices) (k + 1) q stages places
    moving-above =
        record {
          long = moving.long;
          wide = moving.wide;
          later = λ i behind. moving.later i (omega arith);
          fit = fit-next (ready-fits p.arriving.0 tested.0);
          small = let was = moving.small in omega (arith, arriving-kept);
          goes = ⊎_elim (λ passing. inr (stands_here passing)) (λ standing. inr (still-stands standing)) moving.goes;
        }

-- The cases.

-- the first of two lists that stands, where none of the first list does
pub first-behind : (why : Refusal) (cs ds : List Case) → NoneStands cs → FirstIs ds why → FirstIs (cs ++ ds) why
first-behind why [] ds none first = first
first-behind why (c ∷ cs) ds none first = inr (none.0, first-behind why cs ds none.1 first)

module _ (run : Run) (words : List ℕ) (call : Call) where
  first_above : (k : ℕ) → NoneStands (choice_cases run words call k) → choice_above_at run words call k ≡ true → (n : ℕ) → k < n → FirstIs (choice_cases run words call n) (ChoiceAboveGreatest k)
  unfolding choice_cases
  first_above k passed above zero less = absurd (not-suc-le-zero less)
  first_above k passed above (suc n) less =
      ⊎_elim
      (λ same. rw (← same) (first-behind _ (choice_cases run words call k) _ passed (inl (above, refl))))
      (λ sooner. first-of-more _ (choice_cases run words call n) _ (first_above k passed above n sooner))
      (eq-or-lt_of_le (le_of_suc-le-suc less))

  -- 1 again, of all operators
  abbrev last : List Case
  last = (slot_leaves_too_much run words call ⇒ Unusable) ∷ []

  -- behind the last operator: 14 of one
  pub standing-decided : {p : Progress} → (standing : Standing run words call run.count p) → FirstIs (decision_cases run words call) (ChoiceAboveGreatest standing.first)
  standing-decided standing = first-of-more (ChoiceAboveGreatest standing.first) (choice_cases run words call run.count) last (first_above standing.first standing.passed standing.stands run.count standing.before)

  -- or 1 again, or nothing
  module _ {p : Progress} {stages : List Stage} {places : List ℕ} (passing : Passing run words call run.count p stages places) where
    pub unusable-decided : p.fits ≡ false → FirstIs (decision_cases run words call) Unusable
    unfolding slot_leaves_too_much
    unusable-decided misfits = first-behind Unusable (choice_cases run words call run.count) last passing.passed (inl (ap not (sym passing.stored ∙ misfits), refl))

    pub none-decided : p.fits ≡ true → NoneStands (decision_cases run words call)
    unfolding slot_leaves_too_much
    none-decided fit = none-of-both (choice_cases run words call run.count) last passing.passed (ap not (sym passing.stored ∙ fit), tt)
