-- What a slot answers at each of its ways out: the first refusal of its list, or the next run with its words.
use mathlib.Core.Path.{◌≡◌, refl, ap, ap₂, sym, ◌∙◌, fun_ext}
use mathlib.Core.Bool.{Bool, true, false, not, ◌&&◌}
use mathlib.Core.List.{List}
use Rattle.std.specs.Prelude.{Option, None, Result, Ok, Err}
use mathlib.Core.Logic.{◌⊎◌, inl, inr, ⊎_elim}
use Prim.Native.Nat.{ℕ, ◌<◌}
use native.Mathlib.Omega.{arith}
use lib.Dec.{leb, ltb, eqb}
use lib.Bits.{bit_or}
use Rattle.std.specs.List.{fold}
use lib.ListN.{length, get_or}
use borrow.Author.Tests.{ltb-true, ltb-false, le-leb, lt-leb, not-true, not-false}
use Rattle.quantity.specs.Choice.{pick, both, either}
use Rattle.quantity.specs.Limits.{largest_amount, most_operators}
use Rattle.quantity.specs.Sums.{every, list_of}
use Rattle.quantity.specs.declared.Units.{Units}
use Rattle.quantity.specs.declared.refusal.Refusal.{Refusal}
use Rattle.quantity.specs.declared.refusal.Refusal.TheVariants.{Unusable, InputBreaksDeclaration, ChoiceAboveGreatest}
use Rattle.quantity.proofs.Laws.{pick_true, pick-false}
use Rattle.quantity.proofs.Sums.{list_of-ext}
use Rattle.quantity.proofs.Refusals.{NoneStands, FirstIs}
use Rattle.words.specs.Stored.{word_at, word_noted}
use Rattle.words.proofs.JoinLaws.{fold-joined, joined-within}
use Rattle.operator.specs.Ring.{ring_place, ring_noted}
use Rattle.meter.specs.Parts.{awaited_of}
use Rattle.meter.proofs.PartsLaws.{within-breaks}
use Rattle.run.specs.declared.Stage.{Stage}
use Rattle.run.specs.declared.Run.{Run}
use Rattle.run.specs.declared.stages.Progress.{Progress}
use Rattle.meter.specs.declared.parts.Awaited.{Awaited}
use Rattle.run.specs.Calls.{Call, choice_for, choices_miscounted, amount_too_large, call_of}
use Rattle.run.specs.Runs.{run_word_count, meter_words, no_stage, stage_at, meter_in, operator_of, operator_in, run_unusable}
use Rattle.run.specs.Slots.{slot_breaks, slot_cases, slot_output, stage_next, taken_slot, slotted_of, words_slotted}
use Rattle.run.specs.Steps.{awaited_in, begun_in, begun_of, judged_choice, judged_of, run_advanced, run_written, word_written, decision_cases}
use Rattle.run.proofs.UsableRun.{MeterFits, usable-stages, run-usable}
use Rattle.run.proofs.TestLaws.{stages-told}
use Rattle.run.proofs.MovingLaws.{Ready, Passing, Moving, standing-decided, unusable-decided, none-decided}
use Rattle.run.proofs.SlotAnswers.{slot-refused, words-refused, slot-taken, words-taken}
use Rattle.run.proofs.Writing.{run-written, word-written}

never : ◌≡◌ {A = Bool} true false → ⊥
never e = let z : ◌≡◌ {A = ℕ} 0 1 = cc in omega arith

-- The arguments.

-- the choices joined are within the limit just where each is
pub choices-within : (choices : List ℕ) → leb (fold bit_or 0 choices) largest_amount ≡ every (λ k. leb (get_or choices k 0) largest_amount) (length choices)
choices-within choices = ap (λ (n : ℕ). leb n largest_amount) (fold-joined choices) ∙ joined-within 30 largest_amount refl (word_at choices) (length choices)

module _ (operators : ℕ) (call : Call) where
  abbrev pub Fit : Bool → Type 0
  Fit fit = fit ≡ both (not (choices_miscounted operators call)) (not (amount_too_large call))

  -- the tests in one
  pub arguments-tested : {within : Bool} → within ≡ every (λ k. leb (choice_for call k) largest_amount) (length call.choices) → Fit ((eqb (length call.choices) operators && leb call.input largest_amount) && within)
  unfolding choices_miscounted amount_too_large
  arguments-tested {within} same = rw same (by_tests (eqb (length call.choices) operators) (leb call.input largest_amount) (ltb largest_amount call.input) _ (le-or-above call.input))
    where
      le-or-above : (n : ℕ) → leb n largest_amount ≡ not (ltb largest_amount n)
      le-or-above n = by-test (ltb largest_amount n) refl
        where
          by-test : (t : Bool) → ltb largest_amount n ≡ t → leb n largest_amount ≡ not t
          by-test true e = lt-leb n largest_amount (ltb-true largest_amount n e)
          by-test false e = le-leb n largest_amount (ltb-false largest_amount n e)

      not-not : (t : Bool) → t ≡ not (not t)
      not-not true = refl
      not-not false = refl

      by_tests : (a b c d : Bool) → b ≡ not c → (a && b) && d ≡ both (not (not a)) (not (either c (not d)))
      by_tests true b true d e = rw e refl
      by_tests true b false d e = rw e (not-not d)
      by_tests false b c d e = refl

  arguments-pass : {fit : Bool} → Fit fit → fit ≡ true → (choices_miscounted operators call ≡ false) × (amount_too_large call ≡ false)
  arguments-pass tested passed = by_tests (choices_miscounted operators call) (amount_too_large call) (sym tested ∙ passed)
    where
      by_tests : (a b : Bool) → both (not a) (not b) ≡ true → (a ≡ false) × (b ≡ false)
      by_tests false false e = (refl, refl)
      by_tests false true e = (refl, sym e)
      by_tests true b e = absurd (never (sym e))

-- what is begun goes by them
module _ (run : Run) (words : List ℕ) (call : Call) {fit : Bool} (tested : Fit run.count call fit) where
  pub begun-unfit : fit ≡ false → None ≡ begun_of run words call
  unfolding begun_of
  begun-unfit unfit = sym (pick_true _ _ _ (by_tests (choices_miscounted run.count call) (amount_too_large call) (sym tested ∙ unfit)))
    where
      by_tests : (a b : Bool) → both (not a) (not b) ≡ false → either a b ≡ true
      by_tests true b e = refl
      by_tests false true e = refl
      by_tests false false e = sym e

  pub begun-fit : fit ≡ true → {begun : Option Awaited} → begun ≡ begun_in run words → begun ≡ begun_of run words call
  unfolding begun_of
  begun-fit passed made =
      let (counted, small) = arguments-pass run.count call tested passed in
      made ∙ sym (ap₂ (λ (a b : Bool). pick (either a b) None (begun_in run words)) counted small)

-- What is decided.

-- the slot is refused by the first case that stands
pub record Refusing (run : Run) (words : List ℕ) (call : Call) (judged : Result (Unit {0}) Refusal) : Type 0 where
  pub why : Refusal
  pub refused : judged ≡ Err why
  pub first : FirstIs (slot_cases run words call) why

-- or none stands, and all operators have sent
pub record Taking (run : Run) (words : List ℕ) (call : Call) (p : Progress) (stages : List Stage) (places : List ℕ) : Type 0 where
  pub none : NoneStands (slot_cases run words call)
  pub sent : p.arriving.0 ≡ slot_output run words call
  pub stages_next : stages ≡ (run_advanced run words call).stages
  pub noted : (k : ℕ) → k < run.count → (ws : List ℕ) → word_noted ws (get_or places k 0) (get_or stages k no_stage).entered ≡ ring_noted (operator_of (get_or stages k no_stage) run.slot) ws

module _ {run : Run} {words choices : List ℕ} {input : Units} (ready : Ready run words input choices)
    {p : Progress} {stages : List Stage} {places : List ℕ} (moving : Moving run words (call_of input choices) run.count p stages places) where
  abbrev call : Call
  call = call_of input choices

  abbrev Judged : Result (Unit {0}) Refusal → Type 0
  Judged judged = Refusing run words call judged ⊎ ((judged ≡ Ok tt) × Taking run words call p stages places)

  fits : MeterFits run words
  fits = ready.fits

  -- all stages fit, so the run can be used
  usable : run_unusable run words ≡ false
  usable = run-usable run words (usable-stages run words fits (sym (stages-told run words fits) ∙ ap₂ both moving.fit ready.behind))

  breaks-told : not (ltb input.0 (awaited_in run words).below.0) ≡ slot_breaks run words call
  unfolding awaited_in awaited_of slot_breaks meter_in
  breaks-told = within-breaks (meter_in run) (meter_words words) input.0 fits.declared

  -- an operator that has advanced has its place
  place-next : (k : ℕ) → ring_place (operator_in run k) ≡ ring_place (operator_of (stage_next run words call k) run.slot)
  unfolding ring_place operator_in stage_next
  place-next k = refl

  stood : (why : Refusal) → slot_breaks run words call ≡ false → FirstIs (decision_cases run words call) why → FirstIs (slot_cases run words call) why
  stood why keeps first = inr (ready.miscounted, inr (ready.large, inr (usable, inr (keeps, first))))

  module _ (passing : Passing run words call run.count p stages places) where
    noted_here : (k : ℕ) → k < run.count → (ws : List ℕ) → word_noted ws (get_or places k 0) (get_or stages k no_stage).entered ≡ ring_noted (operator_of (get_or stages k no_stage) run.slot) ws
    noted_here k less ws =
        ap (λ (at : ℕ). word_noted ws at (get_or stages k no_stage).entered) (passing.placed k less ∙ place-next k ∙ ap (λ (stage : Stage). ring_place (operator_of stage run.slot)) (sym (passing.advanced k less)))

    stage-next : (i : ℕ) (t : Bool) → ltb i run.count ≡ t → get_or stages i no_stage ≡ pick t (stage_next run words call i) (stage_at run i)
    stage-next i true e = passing.advanced i (ltb-true i run.count e)
    stage-next i false e = moving.later i (ltb-false i run.count e)

    taking : slot_breaks run words call ≡ false → p.fits ≡ true → Taking run words call p stages places
    unfolding run_advanced
    taking keeps fit =
        record {
          none = (ready.miscounted, (ready.large, (usable, (keeps, none-decided run words call passing fit))));
          sent = passing.arrives;
          stages_next = list_of-ext no_stage _ most_operators stages moving.long (λ i less. stage-next i (ltb i run.count) refl);
          noted = noted_here;
        }

  -- behind all tests
  decided : slot_breaks run words call ≡ false → {judged : Result (Unit {0}) Refusal} → judged ≡ judged_choice p.above p.fits → Judged judged
  decided keeps {judged} made =
      ⊎_elim
      (λ passing. by_fits passing p.fits refl (made ∙ ap (λ (above : Option ℕ). judged_choice above p.fits) passing.none_above))
      (λ standing. inl (record {
        why = ChoiceAboveGreatest standing.first;
        refused = made ∙ ap (λ (above : Option ℕ). judged_choice above p.fits) standing.told;
        first = stood _ keeps (standing-decided run words call standing);
      }))
      moving.goes
    where
      by_fits : Passing run words call run.count p stages places → (t : Bool) → p.fits ≡ t → judged ≡ pick p.fits (Ok tt) (Err Unusable) → Judged judged
      by_fits passing false misfits told = inl (record { why = Unusable; refused = told ∙ pick-false _ _ _ misfits; first = stood _ keeps (unusable-decided run words call passing misfits) })
      by_fits passing true fit told = inr (told ∙ pick_true _ _ _ fit, taking passing keeps fit)

  judged-told : {judged : Result (Unit {0}) Refusal} → judged ≡ judged_of (awaited_in run words).below.0 input.0 p → Judged judged
  unfolding judged_of
  judged-told {judged} made = by-breaks (slot_breaks run words call) refl
    where
      by-breaks : (t : Bool) → slot_breaks run words call ≡ t → Judged judged
      by-breaks true breaks =
          inl (record {
            why = InputBreaksDeclaration;
            refused = made ∙ pick_true _ _ _ (le-leb (awaited_in run words).below.0 input.0 (ltb-false input.0 (awaited_in run words).below.0 (not-true _ (breaks-told ∙ breaks))));
            first = inr (ready.miscounted, inr (ready.large, inr (usable, inl (breaks, refl))));
          })
      by-breaks false keeps = decided keeps (made ∙ pick-false _ _ _ (lt-leb (awaited_in run words).below.0 input.0 (ltb-true input.0 (awaited_in run words).below.0 (not-false _ (breaks-told ∙ keeps)))))

  -- what is judged of the call
  pub judged-refused : {why : Refusal} → Err why ≡ judged_of (awaited_in run words).below.0 input.0 p → FirstIs (slot_cases run words (call_of input choices)) why
  judged-refused {why} told =
      ⊎_elim
      (λ refusing. (let e = refusing.refused in let same : why ≡ refusing.why = cc in rw same refusing.first))
      (λ taking. (let e = taking.0 in let z : ◌≡◌ {A = ℕ} 0 1 = cc in absurd (omega arith)))
      (judged-told told)

  pub judged-taken : {none : Unit {0}} → Ok none ≡ judged_of (awaited_in run words).below.0 input.0 p → Taking run words (call_of input choices) p stages places
  judged-taken told =
      ⊎_elim
      (λ refusing. (let e = refusing.refused in let z : ◌≡◌ {A = ℕ} 0 1 = cc in absurd (omega arith)))
      (λ taking. taking.1)
      (judged-told told)

-- The ways out.

module _ (run : Run) (words : List ℕ) (call : Call) where
  pub answer-refused : (why : Refusal) → FirstIs (slot_cases run words call) why → (Err why ≡ slotted_of run words call) × (words ≡ words_slotted run words call)
  answer-refused why first = (sym (slot-refused run words call why first), sym (words-refused run words call why first))

  pub answer-taken : {p : Progress} {stages : List Stage} {places : List ℕ} → Taking run words call p stages places
      → {next : Run} → next ≡ run_written (run_advanced run words call) words call.input → {after : List ℕ} → after ≡ list_of (word_written (run_advanced run words call) words call.input) run_word_count
      → (Ok (record { output = p.arriving; run = next }) ≡ slotted_of run words call) × (after ≡ words_slotted run words call)
  unfolding taken_slot
  answer-taken {p} taking written left = (
    ap₂ (λ (n : ℕ) (r : Run). Ok (record { output = record { 0 = n }; run = r })) taking.sent (written ∙ run-written run words call taking.none) ∙ sym (slot-taken run words call taking.none),
    left ∙ ap (λ (word : ℕ → ℕ). list_of word run_word_count) (fun_ext (word-written run words call taking.none)) ∙ sym (words-taken run words call taking.none),
  )
