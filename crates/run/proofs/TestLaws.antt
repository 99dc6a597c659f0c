-- What the test of a run's stages finds: those of the path's operators one by one, and those behind them empty with their words 0; and what is answered of the run then.
use mathlib.Core.Path.{◌≡◌, refl, ap, ap₂, sym, ◌∙◌}
use mathlib.Core.Bool.{Bool, true, false, not}
use mathlib.Core.List.{List}
use Rattle.std.specs.Prelude.{Option, Some, None, Ok, Err}
use mathlib.Core.Logic.{◌⊎◌, inl, inr}
use Prim.Native.Nat.{ℕ, zero, suc, ◌*◌, ◌%◌, ◌^◌, ◌≤◌, ◌<◌}
use native.Mathlib.Nat.{mod-eq_of_lt}
use native.Mathlib.Decide.{dec_lt}
use native.Mathlib.Omega.{arith}
use lib.ListN.{length, get_or}
use lib.Bits.{bit_or}
use lib.Dec.{ltb, eqb}
use borrow.Author.Tests.{eq-eqb, ne_eqb, eqb-true, lt-ltb, le-ltb, le-leb}
use Rattle.quantity.specs.Limits.{most_operators, last_slot}
use Rattle.quantity.specs.Choice.{pick, both, either}
use Rattle.quantity.specs.Sums.{every}
use Rattle.quantity.proofs.Laws.{pick_true, pick-false, either_first, either_second, either-none}
use Rattle.quantity.proofs.Sums.{both_true, both-assoc, every-at, every_holds, every-fails}
use Rattle.words.specs.Stored.{clear_at, stored_fits}
use Rattle.words.proofs.JoinLaws.{or-clear}
use Rattle.operator.specs.Single.{word_count, words_used, uses_held, uses_beside}
use Rattle.operator.specs.Ring.{totals_fit, word_unused, path_unusable}
use Rattle.operator.specs.Operators.{number_in_range}
use Rattle.flow.specs.Declarations.{declaration_in_range, rows_in_order}
use Rattle.meter.specs.Meter.{meter_unusable}
use Rattle.meter.specs.Parts.{counted_of}
use Rattle.sheet.specs.Bodies.{operator_byte, operator_number}
use Rattle.operator.specs.declared.Operator.{Operator}
use Rattle.operator.specs.declared.Operator.TheVariants.{Limiter, Compactor, Expander, Filter, Delayer}
use Rattle.meter.specs.declared.SourceMeter.{SourceMeter}
use Rattle.meter.specs.declared.parts.Awaited.{Awaited}
use Rattle.meter.specs.declared.parts.Uncounted.{Uncounted}
use Rattle.operator.proofs.RingLaws.{PathUsable, path-stored-usable}
use Rattle.meter.proofs.PartsLaws.{counted-unusable, counted-outside, counted-unordered, counted_next}
use Rattle.run.specs.declared.Stage.{Stage}
use Rattle.run.specs.declared.Run.{Run}
use Rattle.run.specs.Runs.{meter_in, meter_words, operator_words, no_stage, no_operator, stage_at, operator_of, operator_in, stage_misplaced, stage_unusable, stage_fits, run_unusable}
use Rattle.run.specs.Steps.{stage_empty, stage_unused, unused_behind, awaited_in, meter_misfits, begun_in}
use Rattle.run.proofs.Parts.{length-operator_words}
use Rattle.run.proofs.UsableRun.{MeterFits, usable-stages, fits-meter, meter-fits, meter-misfits, run-usable, run-unusable, stage-usable, stage-none}

-- An operator that is none is a limiter: it keeps its b in its field, has no h and uses no word.

none-uses : (op : Operator) → no_operator op ≡ true → (uses_held op ≡ true) × ((uses_beside op ≡ false) × (words_used op ≡ 0))
unfolding no_operator uses_held uses_beside words_used
none-uses (Limiter R) e = (refl, (refl, refl))
none-uses (Compactor m) e = let never : ◌≡◌ {A = ℕ} 0 1 = cc in absurd (omega arith)
none-uses (Expander m) e = let never : ◌≡◌ {A = ℕ} 0 1 = cc in absurd (omega arith)
none-uses (Filter R) e = let never : ◌≡◌ {A = ℕ} 0 1 = cc in absurd (omega arith)
none-uses (Delayer d) e = let never : ◌≡◌ {A = ℕ} 0 1 = cc in absurd (omega arith)

-- The tests of the code.

-- an operator is none just where its byte and its number are 0
none_told : (op : Operator) → both (eqb (operator_byte op) 0) (eqb (operator_number op) 0) ≡ no_operator op
unfolding no_operator operator_byte operator_number
none_told (Limiter R) = refl
none_told (Compactor m) = refl
none_told (Expander m) = refl
none_told (Filter R) = refl
none_told (Delayer d) = refl

-- a number of 32 bits, shifted by 32 within 64
abbrev shifted : ℕ → ℕ
shifted x = x * 2 ^ 32 % 2 ^ 64

shifted-clear : (x : ℕ) → x < 2 ^ 32 → eqb (shifted x) 0 ≡ eqb x 0
shifted-clear zero less = refl
shifted-clear (suc x) less =
    let whole : shifted (suc x) ≡ suc x * 2 ^ 32 = mod-eq_of_lt (omega arith) in
    ne_eqb (shifted (suc x)) 0 (λ e. omega (arith, whole)) ∙ sym (ne_eqb (suc x) 0 (λ e. omega arith))

-- what a stage stores, joined, is 0 just where it is empty
pub join-empty : (stage : Stage) {kind number : ℕ} → kind ≡ operator_byte stage.operator → number ≡ operator_number stage.operator → number < 2 ^ 32 → stage.left < 2 ^ 32
    → eqb (bit_or (bit_or (bit_or kind (shifted number)) (bit_or stage.held.0 stage.beside.0)) (bit_or stage.entered (shifted stage.left))) 0 ≡ stage_empty stage
unfolding stage_empty
join-empty stage {kind} {number} byte named number_fits left-fits =
    let operator : eqb (bit_or kind (shifted number)) 0 ≡ no_operator stage.operator = or-clear kind (shifted number) ∙ ap₂ both (ap (λ (n : ℕ). eqb n 0) byte) (shifted-clear number number_fits ∙ ap (λ (n : ℕ). eqb n 0) named) ∙ none_told stage.operator in
    let units = or-clear stage.held.0 stage.beside.0 in
    let totals = or-clear stage.entered (shifted stage.left) ∙ ap (both (eqb stage.entered 0)) (shifted-clear stage.left left-fits) in
    or-clear (bit_or (bit_or kind (shifted number)) (bit_or stage.held.0 stage.beside.0)) (bit_or stage.entered (shifted stage.left))
    ∙ ap₂ both (or-clear (bit_or kind (shifted number)) (bit_or stage.held.0 stage.beside.0) ∙ ap₂ both operator units) totals
    ∙ both-assoc (no_operator stage.operator) (both (eqb stage.held.0 0) (eqb stage.beside.0 0)) (both (eqb stage.entered 0) (eqb stage.left 0))

not-not : (t : Bool) → not (not t) ≡ t
not-not true = refl
not-not false = refl

module _ (run : Run) (words : List ℕ) where
  -- a stage of the path fits by its number and what it stores
  pub named-fits : (k : ℕ) → k < run.count
      → both (number_in_range (get_or run.stages k no_stage).operator) (not (path_unusable (operator_of (get_or run.stages k no_stage) run.slot) (operator_words words k))) ≡ stage_fits run words k
  unfolding stage_fits stage_misplaced stage_unusable operator_in stage_at
  named-fits k less =
      let stage = get_or run.stages k no_stage in
      sym
      (ap (λ (t : Bool). both (not (not (pick t (number_in_range stage.operator) (both (no_operator stage.operator) (eqb stage.held.0 0))))) (not (path_unusable (operator_of stage run.slot) (operator_words words k)))) (lt-ltb k run.count less)
      ∙ ap (λ (t : Bool). both t (not (path_unusable (operator_of stage run.slot) (operator_words words k)))) (not-not (number_in_range stage.operator)))

-- a stage behind the path's operators is to be unused
module _ (count : ℕ) (stages : List Stage) (words : List ℕ) where
  unused-named : (k : ℕ) → k < count → unused_behind count stages words k ≡ true
  unfolding unused_behind
  unused-named k less = either_first _ _ (lt-ltb k count less)

  pub unused-told : (k : ℕ) → count ≤ k → unused_behind count stages words k ≡ stage_unused (get_or stages k no_stage) words k
  unfolding unused_behind
  unused-told k behind = rw (le-ltb k count behind)

  -- the first stage behind, and then one by one
  pub unused-first : every (unused_behind count stages words) count ≡ true
  unused-first = every_holds (unused_behind count stages words) count unused-named

  -- all that are passed tell of the sixteen, and so does one that is used
  pub unused-all : (k : ℕ) → most_operators ≤ k → every (unused_behind count stages words) k ≡ true → true ≡ every (unused_behind count stages words) most_operators
  unused-all k last each =
      sym (every_holds (unused_behind count stages words) most_operators (λ i less. every-at (unused_behind count stages words) k each i (omega arith)))

  pub used-at : (k : ℕ) → count ≤ k → k < most_operators → stage_unused (get_or stages k no_stage) words k ≡ false → false ≡ every (unused_behind count stages words) most_operators
  used-at k behind less used = sym (every-fails (unused_behind count stages words) most_operators k less (unused-told k behind ∙ used))

-- A stage behind the path's operators fits just where it is empty and its words are 0.
module _ (run : Run) (words : List ℕ) (k : ℕ) (behind : run.count ≤ k) where
  abbrev stage : Stage
  stage = stage_at run k

  abbrev Unused : Type 0
  Unused = unused_behind run.count run.stages words k ≡ true

  unused-is : unused_behind run.count run.stages words k ≡ both (stage_empty stage) (every (clear_at (operator_words words k)) word_count)
  unfolding stage_at stage_unused
  unused-is = unused-told run.count run.stages words k behind

  module _ (unused : Unused) (left : run.slot.0 ≤ last_slot) (size : length (operator_words words k) ≡ word_count) where
    parts : (stage_empty stage ≡ true) × (every (clear_at (operator_words words k)) word_count ≡ true)
    parts = both_true (stage_empty stage) _ (sym unused-is ∙ unused)

    fields : (no_operator stage.operator ≡ true) × ((eqb stage.held.0 0 ≡ true) × ((eqb stage.beside.0 0 ≡ true) × (both (eqb stage.entered 0) (eqb stage.left 0) ≡ true)))
    unfolding stage_empty
    fields =
        let (none, rest) = both_true (no_operator stage.operator) _ parts.0 in
        let (units, totals) = both_true (both (eqb stage.held.0 0) (eqb stage.beside.0 0)) _ rest in
        let (held, beside) = both_true (eqb stage.held.0 0) _ units in
        (none, (held, (beside, totals)))

    uses-none : (uses_held stage.operator ≡ true) × ((uses_beside stage.operator ≡ false) × (words_used stage.operator ≡ 0))
    uses-none = none-uses stage.operator fields.0

    usable-here : PathUsable (operator_in run k) (operator_words words k)
    unfolding operator_in stored_fits totals_fit word_unused
    usable-here =
        record {
          sized = size;
          slot_left = left;
          held_fits = pick_true _ _ _ uses-none.0 ∙ le-leb stage.held.0 _ (omega (arith, eqb-true stage.held.0 0 fields.1.0));
          beside_fits = pick-false _ _ _ uses-none.1.0 ∙ fields.1.1.0;
          totals_fit = pick_true _ _ _ uses-none.0 ∙ fields.1.1.1;
          words_fit = every_holds (word_unused stage.operator (operator_words words k)) word_count (λ a within. either_second (ltb a (words_used stage.operator)) _ (every-at (clear_at (operator_words words k)) word_count parts.1 a within));
        }

    pub unused-fits : stage_fits run words k ≡ true
    unfolding stage_fits stage_misplaced stage_unusable
    unused-fits =
        ap₂ (λ (t u : Bool). both (not (not (pick t (number_in_range stage.operator) (both (no_operator stage.operator) (eqb stage.held.0 0))))) (not u)) (le-ltb k run.count behind)
        (path-stored-usable (operator_in run k) (operator_words words k) usable-here)
        ∙ ap₂ (λ (t u : Bool). both (not (not (both t u))) true) fields.0 fields.1.0

  module _ (fits : stage_fits run words k ≡ true) where
    stored : PathUsable (operator_in run k) (operator_words words k)
    stored = stage-usable run words k fits

    none : no_operator stage.operator ≡ true
    none = (stage-none run words k fits behind).0

    uses : (uses_held stage.operator ≡ true) × ((uses_beside stage.operator ≡ false) × (words_used stage.operator ≡ 0))
    uses = none-uses stage.operator none

    totals : both (eqb stage.entered 0) (eqb stage.left 0) ≡ true
    unfolding operator_in totals_fit
    totals = sym (pick_true _ _ _ uses.0) ∙ stored.totals_fit

    beside : eqb stage.beside.0 0 ≡ true
    unfolding operator_in stored_fits
    beside = sym (pick-false _ _ _ uses.1.0) ∙ stored.beside_fits

    empty : stage_empty stage ≡ true
    unfolding stage_empty
    empty = rw (none, eq-eqb stage.held.0 0 (stage-none run words k fits behind).1, beside) totals

    clear : (a : ℕ) → a < word_count → clear_at (operator_words words k) a ≡ true
    unfolding operator_in word_unused
    clear a within =
        sym (ap (λ (t : Bool). either t (clear_at (operator_words words k) a)) (le-ltb a (words_used stage.operator) (omega (arith, uses.1.1))))
        ∙ every-at (word_unused stage.operator (operator_words words k)) word_count stored.words_fit a within

    pub fits-unused : Unused
    fits-unused = unused-is ∙ ap₂ both empty (every_holds (clear_at (operator_words words k)) word_count clear)

-- What the count before the next input tells of the run's meter and its declaration.
module _ (run : Run) (words : List ℕ) where
  abbrev meter : SourceMeter
  meter = meter_in run

  abbrev lent : List ℕ
  lent = meter_words words

  -- what is not counted cannot be used
  pub meter-uncounted : {why : Uncounted} → Err why ≡ counted_of meter lent → MeterFits run words → ⊥
  unfolding meter_in
  meter-uncounted answered fits = (let counted = answered ∙ counted_next meter lent fits.meter fits.declared fits.ordered in let z : ◌≡◌ {A = ℕ} 0 1 = cc in omega arith)

  -- and what is counted can
  pub record MeterCounted (awaited : Awaited) : Type 0 where
    pub meter : meter_unusable meter lent ≡ false
    pub declared : declaration_in_range run.declaration ≡ true
    pub ordered : rows_in_order run.declaration ≡ true
    pub counted : awaited ≡ awaited_in run words

  pub meter-counted : {awaited : Awaited} → Ok awaited ≡ counted_of meter lent → MeterCounted awaited
  unfolding awaited_in meter_in
  meter-counted {awaited} answered = by_tests (meter_unusable meter lent) (declaration_in_range run.declaration) (rows_in_order run.declaration) refl refl refl
    where
      by_tests : (a b c : Bool) → meter_unusable meter lent ≡ a → declaration_in_range run.declaration ≡ b → rows_in_order run.declaration ≡ c → MeterCounted awaited
      by_tests true b c unusable ranged ordered = absurd (let clash = answered ∙ sym (counted-unusable meter lent unusable) in let z : ◌≡◌ {A = ℕ} 0 1 = cc in omega arith)
      by_tests false false c usable ranged ordered = absurd (let clash = answered ∙ sym (counted-outside meter lent usable ranged) in let z : ◌≡◌ {A = ℕ} 0 1 = cc in omega arith)
      by_tests false true false usable ranged ordered = absurd (let clash = answered ∙ sym (counted-unordered meter lent usable ranged ordered) in let z : ◌≡◌ {A = ℕ} 0 1 = cc in omega arith)
      by_tests false true true usable ranged ordered =
          let made = answered ∙ counted_next meter lent usable ranged ordered in
          record { meter = usable; declared = ranged; ordered = ordered; counted = cc }

-- What is answered before the first operator.

module _ (run : Run) (words : List ℕ) where
  abbrev pub Behind : Type 0
  Behind = every (unused_behind run.count run.stages words) most_operators ≡ true

  pub begun-not : (MeterFits run words → ⊥) → None ≡ begun_in run words
  unfolding begun_in
  begun-not fails = sym (pick_true _ _ _ (either_first (meter_misfits run words) _ (meter-misfits run words fails)))

  pub begun-used : every (unused_behind run.count run.stages words) most_operators ≡ false → None ≡ begun_in run words
  unfolding begun_in
  begun-used used = sym (pick_true _ _ _ (either_second (meter_misfits run words) _ (ap not used)))

  pub begun-fits : MeterFits run words → Behind → {awaited : Awaited} → awaited ≡ awaited_in run words → Some awaited ≡ begun_in run words
  unfolding begun_in
  begun-fits fits behind counts = rw counts (sym (pick-false _ _ _ (either-none (meter_misfits run words) _ (fits-meter run words fits) (ap not behind))))

  -- nothing, or the meter fits and what is behind is unused
  pub begun-told : {begun : Option Awaited} → begun ≡ begun_in run words → ((begun ≡ None) × (MeterFits run words → Behind → ⊥)) ⊎ (MeterFits run words × (Behind × (begun ≡ Some (awaited_in run words))))
  unfolding begun_in
  begun-told {begun} same = by_tests (meter_misfits run words) (every (unused_behind run.count run.stages words) most_operators) refl refl same
    where
      by_tests : (t u : Bool) → meter_misfits run words ≡ t → every (unused_behind run.count run.stages words) most_operators ≡ u → begun ≡ pick (either t (not u)) None (Some (awaited_in run words))
          → ((begun ≡ None) × (MeterFits run words → Behind → ⊥)) ⊎ (MeterFits run words × (Behind × (begun ≡ Some (awaited_in run words))))
      by_tests true u e f made = inl (made, λ fits behind. let z : ◌≡◌ {A = Bool} true false = sym e ∙ fits-meter run words fits in let w : ◌≡◌ {A = ℕ} 0 1 = cc in omega arith)
      by_tests false false e f made = inl (made, λ fits behind. let z : ◌≡◌ {A = Bool} true false = sym behind ∙ f in let w : ◌≡◌ {A = ℕ} 0 1 = cc in omega arith)
      by_tests false true e f made = inr (meter-fits run words e, (f, made))

-- two tests that tell of a third
both-tell : (a b c : Bool) → (c ≡ true → (a ≡ true) × (b ≡ true)) → (a ≡ true → b ≡ true → c ≡ true) → both a b ≡ c
both-tell true true c from to = sym (to refl refl)
both-tell true false true from to = (from refl).1
both-tell true false false from to = refl
both-tell false b true from to = (from refl).0
both-tell false b false from to = refl

-- All stages fit just where the path's do, and those behind are empty and their words are 0.
module _ (run : Run) (words : List ℕ) (fits : MeterFits run words) where
  abbrev NamedFit : Bool
  NamedFit = every (stage_fits run words) run.count

  abbrev BehindUnused : Bool
  BehindUnused = every (unused_behind run.count run.stages words) most_operators

  abbrev AllFit : Bool
  AllFit = every (stage_fits run words) most_operators

  module _ (all : AllFit ≡ true) where
    named-fit : NamedFit ≡ true
    named-fit = every_holds (stage_fits run words) run.count (λ k less. every-at (stage_fits run words) most_operators all k (omega (arith, fits.few)))

    pub behind-unused : BehindUnused ≡ true
    behind-unused =
        every_holds (unused_behind run.count run.stages words) most_operators
        (λ k less. elim (dec_lt k run.count) [
          | yes named ↦ unused-named run.count run.stages words k named
          | no behind ↦ fits-unused run words k (omega arith) (every-at (stage_fits run words) most_operators all k less)
        ])

  module _ (named : NamedFit ≡ true) (behind : BehindUnused ≡ true) where
    slot-left : run.slot.0 ≤ last_slot
    unfolding operator_in
    slot-left = (stage-usable run words 0 (every-at (stage_fits run words) run.count named 0 (omega (arith, fits.some)))).slot_left

    unused : (k : ℕ) → k < most_operators → unused_behind run.count run.stages words k ≡ true
    unused = every-at (unused_behind run.count run.stages words) most_operators behind

    all-fit : AllFit ≡ true
    all-fit =
        every_holds (stage_fits run words) most_operators
        (λ k less. elim (dec_lt k run.count) [
          | yes inside ↦ every-at (stage_fits run words) run.count named k inside
          | no outside ↦ unused-fits run words k (omega arith) (unused k less) slot-left (length-operator_words words fits.sized k less)
        ])

  pub stages-told : both (every (stage_fits run words) run.count) (every (unused_behind run.count run.stages words) most_operators) ≡ every (stage_fits run words) most_operators
  stages-told = both-tell NamedFit BehindUnused AllFit (λ all. (named-fit all, behind-unused all)) all-fit

  -- which tells of the run
  pub usable-told : every (stage_fits run words) most_operators ≡ not (run_unusable run words)
  usable-told = by-test (every (stage_fits run words) most_operators) refl
    where
      by-test : (t : Bool) → every (stage_fits run words) most_operators ≡ t → t ≡ not (run_unusable run words)
      by-test true e = sym (ap not (run-usable run words (usable-stages run words fits e)))
      by-test false e = sym (ap not (run-unusable run words (λ usable. let z : ◌≡◌ {A = Bool} true false = sym usable.stages ∙ e in let w : ◌≡◌ {A = ℕ} 0 1 = cc in omega arith)))
