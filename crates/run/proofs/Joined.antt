-- What joins run and words to the account and to what arrived at each operator: the meter is sound for what entered, and each operator's state and words stand for what arrived at it
-- and behind it, a delayer's by its totals and its ring. So they have the account's b, h and past.
-- It holds of a newly opened run, and a slot that the account takes keeps it.
use mathlib.Core.Path.{◌≡◌, refl, ap, ap₂, sym, ◌∙◌}
use mathlib.Core.Bool.{true, false}
use mathlib.Core.List.{List, []}
use mathlib.Core.Logic.{⊎_elim}
use Prim.Native.Nat.{ℕ, zero, suc, ◌+◌, ◌%◌, ◌≤◌, ◌<◌}
use native.Mathlib.Numerals.{add-one}
use native.Mathlib.Omega.{arith}
use native.Mathlib.Nat.{lt_of_not-le, zero-add}
use native.Mathlib.Decide.{dec_le}
use lib.ListN.{length, replicate, length-replicate, get_or-replicate, get_or-eq_default}
use lib.Dec.{ltb, eqb}
use borrow.Author.Tests.{lt-ltb, le-ltb}
use Rattle.quantity.specs.Limits.{most_operators}
use Rattle.quantity.specs.Choice.{pick}
use Rattle.quantity.specs.Sums.{total, list_of}
use Rattle.quantity.proofs.Laws.{pick_true, pick-false}
use Rattle.quantity.proofs.Sums.{total-suc, total-same, length-list_of, get_d-list_of, list_of-ext}
use Rattle.flow.specs.Flows.{Flow, flow_of}
use Rattle.flow.specs.Declarations.{declaration_in_range, rows_in_order, unused_clear}
use Rattle.words.specs.Stored.{word_at}
use Rattle.operator.specs.Held.{nothing}
use Rattle.operator.specs.Operators.{least_output, greatest_output, held_after, number_in_range, delayer}
use Rattle.operator.specs.Single.{word_count, words_used, uses_held}
use Rattle.operator.specs.Ring.{wrap, path_holds, path_least, path_greatest, path_sent, path_holds_next, path_state_kept, ring_word_next, path_new}
use Rattle.operator.specs.declared.Operator.{Operator}
use Rattle.operator.specs.declared.ring.PathOperator.{PathOperator}
use Rattle.operator.proofs.Laws.{ring-least}
use Rattle.operator.proofs.SingleLaws.{used-within, no_words}
use Rattle.operator.proofs.DelayerRing.{total-more-wraps}
use Rattle.operator.proofs.PathStands.{field-or-ring, PathStands, path-stands-new, path-stands-same, path-stands-next}
use Rattle.meter.specs.Meter.{meter_word_count, meter_next, meter_word_next}
use Rattle.meter.specs.Metering.{Fed}
use Rattle.meter.proofs.Metering.{Sound, sound-new, sound-next}
use Rattle.sheet.specs.Paths.{Path, no_linked_operator}
use Rattle.sheet.specs.declared.LinkedOperator.{LinkedOperator}
use Rattle.figures.specs.Answers.{operator_at}
use Rattle.run.specs.declared.Stage.{Stage}
use Rattle.run.specs.declared.Run.{Run}
use Rattle.run.specs.Calls.{Call, choice_for}
use Rattle.run.specs.Account.{Account, new_account, arriving, account_next}
use Rattle.run.specs.Runs.{run_word_count, meter_words, operator_at_word, operator_words, no_stage, stage_at, meter_in, operator_of, operator_in}
use Rattle.run.specs.Opening.{new_stage, new_run}
use Rattle.run.specs.Slots.{input_into, slot_breaks, run_holds_next, operator_next, stage_next, run_next, operator_word_next, word_next}
use Rattle.run.specs.Words.{latest_total}
use Rattle.run.proofs.Parts.{part-is, operator-within, operator-of-word, age-of-word, operator-fits, length-operator_words, operator-word}
use Rattle.run.proofs.FlowsAgree.{Agree, longer-agrees, longer-last}
use Rattle.run.proofs.AccountCalls.{arrived_next}
use Rattle.run.proofs.AccountFlows.{AccountKept}

-- the run's meter, with the inputs that entered
abbrev pub meter_fed : Run → List ℕ → List ℕ → Fed
meter_fed run words entered = record { state = meter_in run; words = meter_words words; taken = entered }

pub record Joined (path : Path) (run : Run) (words : List ℕ) (account : Account) (arrived : ℕ → List ℕ) : Type 0 where
  pub declared : run.declaration ≡ path.declaration
  pub slot : run.slot.0 ≡ account.slot
  pub counted : run.count ≡ length path.operators
  pub sized : length words ≡ run_word_count
  pub meter : Sound (meter_fed run words account.entered)
  pub operator : (k : ℕ) → k < length path.operators → (stage_at run k).operator ≡ operator_at path k
  pub stands : (k : ℕ) → k < length path.operators → PathStands (flow_of (arrived k)) (flow_of (arrived (suc k))) account.slot (operator_in run k) (operator_words words k) (account.held k)
  pub holds : (k : ℕ) → k < length path.operators → path_holds (operator_in run k) (operator_words words k) ≡ account.held k
  -- each word that an operator uses is the total that arrived by the end of the latest slot that wrote it
  pub latest : (k : ℕ) → k < length path.operators → (a : ℕ) → a < words_used (operator_at path k)
      → word_at (operator_words words k) a ≡ latest_total (words_used (operator_at path k)) (flow_of (arrived k)) account.slot a
  -- behind the path's operators there is nothing
  pub empty : (k : ℕ) → length path.operators ≤ k → k < most_operators → stage_at run k ≡ no_stage
  pub clear : (k : ℕ) → length path.operators ≤ k → k < most_operators → (a : ℕ) → word_at (operator_words words k) a ≡ 0

in-stage : (run : Run) (k : ℕ) → (operator_in run k).operator ≡ (stage_at run k).operator
unfolding operator_in
in-stage run k = refl

-- the words of an operator
module _ (words : List ℕ) (sized : length words ≡ run_word_count) (k : ℕ) (less : k < most_operators) where
  -- all are 0 where those among the run's words are
  pub operator-clear : ((a : ℕ) → a < word_count → word_at words (operator_at_word k + a) ≡ 0) → (a : ℕ) → word_at (operator_words words k) a ≡ 0
  operator-clear none a =
      elim (dec_le word_count a) [
        | yes behind ↦ get_or-eq_default (operator_words words k) 0 (rw (length-operator_words words sized k less) behind)
        | no inside ↦ operator-word words sized k less a (lt_of_not-le inside) ∙ none a (lt_of_not-le inside)
      ]

-- A newly opened run.

abbrev clear_words : List ℕ
clear_words = list_of (λ j. 0) run_word_count

clear-sized : length clear_words ≡ run_word_count
clear-sized = length-list_of (λ j. 0) run_word_count

clear-word : (j : ℕ) → j < run_word_count → word_at clear_words j ≡ 0
clear-word j less = get_d-list_of 0 (λ j. 0) run_word_count j less

clear-operator : (k : ℕ) → k < most_operators → (a : ℕ) → word_at (operator_words clear_words k) a ≡ 0
clear-operator k less = operator-clear clear_words clear-sized k less (λ a below. clear-word (operator_at_word k + a) (omega (arith, operator-within k less)))

clear-words : (k : ℕ) → k < most_operators → operator_words clear_words k ≡ list_of (λ j. 0) word_count
unfolding operator_words
clear-words k less =
    part-is (operator_at_word k) word_count clear_words (operator-fits clear_words clear-sized k less) (λ j. 0)
    (λ a below. clear-word (operator_at_word k + a) (omega (arith, operator-within k less)))

zeros-replicate : (n : ℕ) → list_of {A = ℕ} (λ j. 0) n ≡ replicate n 0
zeros-replicate n = sym (list_of-ext 0 (λ j. 0) n (replicate n 0) (length-replicate {A = ℕ} n 0) (λ k less. get_or-replicate {A = ℕ} n k 0 0 less))

clear-meter : meter_words clear_words ≡ replicate meter_word_count 0
unfolding meter_words
clear-meter = part-is 0 meter_word_count clear_words (rw clear-sized (omega arith)) (λ j. 0) (λ a less. rw zero-add (clear-word a (omega arith))) ∙ zeros-replicate meter_word_count

module _ (path : Path) (few : length path.operators ≤ most_operators) where
  new-stage : (k : ℕ) → k < most_operators → stage_at (new_run path) k ≡ new_stage path k
  unfolding stage_at new_run
  new-stage k less = get_d-list_of no_stage (new_stage path) most_operators k less

  new-operator : (k : ℕ) → k < most_operators → operator_in (new_run path) k ≡ (path_new (operator_at path k)).state
  unfolding operator_in new_stage new_run path_new
  new-operator k less = ap (λ (stage : Stage). operator_of stage (record { 0 = 0 })) (new-stage k less)

  new-words : (k : ℕ) → k < most_operators → operator_words clear_words k ≡ (path_new (operator_at path k)).words
  unfolding path_new
  new-words k less = clear-words k less

  new-stands : (k : ℕ) → k < most_operators → PathStands (flow_of []) (flow_of []) 0 (operator_in (new_run path) k) (operator_words clear_words k) nothing
  new-stands k less = rw (new-operator k less, new-words k less) (path-stands-new (operator_at path k) (flow_of []) (flow_of []))

  new-latest : (k a : ℕ) → k < most_operators → word_at (operator_words clear_words k) a ≡ latest_total (words_used (operator_at path k)) (flow_of []) 0 a
  unfolding latest_total
  new-latest k a less = clear-operator k less a

  new-empty : (k : ℕ) → length path.operators ≤ k → new_stage path k ≡ no_stage
  unfolding new_stage operator_at
  new-empty k behind =
      ap (λ (linked : LinkedOperator). record { operator = linked.operator; held = record { 0 = 0 }; beside = record { 0 = 0 }; entered = 0; left = 0 }) (get_or-eq_default path.operators no_linked_operator behind)

  declared-new : (new_run path).declaration ≡ path.declaration
  unfolding new_run
  declared-new = refl

  slot-new : (new_run path).slot.0 ≡ 0
  unfolding new_run
  slot-new = refl

  counted-new : (new_run path).count ≡ length path.operators
  unfolding new_run
  counted-new = refl

  operator-new : (k : ℕ) → (new_stage path k).operator ≡ operator_at path k
  unfolding new_stage
  operator-new k = refl

  meter-new : unused_clear path.declaration ≡ true → declaration_in_range path.declaration ≡ true → rows_in_order path.declaration ≡ true → Sound (meter_fed (new_run path) clear_words [])
  unfolding new_run meter_in
  meter-new clear inside ordered = rw clear-meter (sound-new path.declaration (record { clear = clear; ranged = inside; ordered = ordered }))

  pub joined-new : unused_clear path.declaration ≡ true → declaration_in_range path.declaration ≡ true → rows_in_order path.declaration ≡ true
      → AccountKept path new_account (λ k. []) → Joined path (new_run path) clear_words new_account (λ k. [])
  joined-new clear inside ordered kept =
      let named : (k : ℕ) → k < length path.operators → (stage_at (new_run path) k).operator ≡ operator_at path k = λ k less. ap (λ (stage : Stage). stage.operator) (new-stage k (omega arith)) ∙ operator-new k in
      record {
        declared = declared-new;
        slot = slot-new;
        counted = counted-new;
        sized = clear-sized;
        meter = meter-new clear inside ordered;
        operator = named;
        stands = λ k less. new-stands k (omega arith);
        holds = λ k less. kept.reads k less (operator_in (new_run path) k) (operator_words clear_words k) (in-stage (new_run path) k ∙ named k less) (new-stands k (omega arith));
        latest = λ k less a below. new-latest k a (omega arith);
        empty = λ k behind less. new-stage k less ∙ new-empty k behind;
        clear = λ k behind less. clear-operator k less;
      }

-- A slot.

-- what the words say rests on the first n slots alone
latest-same : (d : ℕ) (r s : Flow) (n : ℕ) → Agree n r s → (j : ℕ) → latest_total d r n j ≡ latest_total d s n j
unfolding latest_total
latest-same d r s zero same j = refl
latest-same d r s (suc n) same j =
    ap₂ (λ (new old : ℕ). pick (eqb j (n % d)) (new % wrap) old) (total-same r s (suc n) same) (latest-same d r s n (λ t less. same t (omega arith)) j)

module _ (path : Path) (run : Run) (words : List ℕ) (account : Account) (arrived : ℕ → List ℕ) (joined : Joined path run words account arrived)
    (inside : (k : ℕ) → k < length path.operators → number_in_range (operator_at path k) ≡ true) where
  -- what section 3 asks of operator k is the same of run and words and of the account
  module _ (k : ℕ) (less : k < length path.operators) where
    pub operator-same : (operator_in run k).operator ≡ operator_at path k
    operator-same = in-stage run k ∙ joined.operator k less

    pub slot_same : (operator_in run k).slot.0 ≡ account.slot
    unfolding operator_in
    slot_same = joined.slot

    pub number-inside : number_in_range (operator_in run k).operator ≡ true
    number-inside = rw operator-same (inside k less)

    pub least-same : (r : ℕ) → path_least (operator_in run k) (operator_words words k) r ≡ least_output (operator_at path k) account.slot (account.held k) r
    least-same r = ring-least (operator_in run k) (operator_words words k) r number-inside ∙ rw (joined.holds k less, operator-same, slot_same)

    pub greatest-same : (r : ℕ) → path_greatest (operator_in run k) (operator_words words k) r ≡ greatest_output (operator_at path k) account.slot (account.held k) r
    unfolding path_greatest
    greatest-same r = rw (joined.holds k less, operator-same, slot_same)

  module _ (call : Call) where
    -- and so is what goes into each operator, and out of the last
    pub into-same : (k : ℕ) → k ≤ length path.operators → input_into run words call k ≡ arriving path account call k
    unfolding input_into arriving path_sent
    into-same zero h = refl
    into-same (suc k) h = let before = into-same k (omega arith) in rw before (ap (λ (s : ℕ). s + choice_for call k) (least-same k h (arriving path account call k)))

    -- and what each has once it has sent
    pub next-same : (k : ℕ) → k < length path.operators → run_holds_next run words call k ≡ (account_next path account call).held k
    unfolding run_holds_next path_holds_next account_next
    next-same k less = rw (joined.holds k less, operator-same k less, into-same k (omega arith), into-same (suc k) less)

    -- Where the meter takes the input, run and words are joined to the account again.
    module _ (few : length path.operators ≤ most_operators) (kept : slot_breaks run words call ≡ false) (account-kept : AccountKept path account arrived)
        (next-kept : AccountKept path (account_next path account call) (arrived_next path account call arrived)) where
      abbrev words_then : List ℕ
      words_then = list_of (word_next run words call) run_word_count

      then-sized : length words_then ≡ run_word_count
      then-sized = length-list_of (word_next run words call) run_word_count

      meter-word : (a : ℕ) → a < meter_word_count → word_next run words call a ≡ meter_word_next (meter_in run) (meter_words words) call.input a
      unfolding word_next
      meter-word a less = pick_true _ _ _ (lt-ltb a meter_word_count less)

      -- the meter's words
      then-meter : meter_words words_then ≡ list_of (meter_word_next (meter_in run) (meter_words words) call.input) meter_word_count
      unfolding meter_words
      then-meter =
          part-is 0 meter_word_count words_then (rw then-sized (omega arith)) (meter_word_next (meter_in run) (meter_words words) call.input)
          (λ a less. rw zero-add (get_d-list_of 0 (word_next run words call) run_word_count a (omega arith) ∙ meter-word a less))

      -- an operator's words
      then-word : (k a : ℕ) → k < most_operators → a < word_count → word_at words_then (operator_at_word k + a) ≡ operator_word_next run words call k a
      unfolding word_next
      then-word k a less young =
          get_d-list_of 0 (word_next run words call) run_word_count (operator_at_word k + a) (omega (arith, operator-within k less))
          ∙ pick-false _ _ _ (le-ltb (operator_at_word k + a) meter_word_count (omega arith))
          ∙ ap₂ (operator_word_next run words call) (operator-of-word k a young) (age-of-word k a young)

      then-stage : (k : ℕ) → k < most_operators → stage_at (run_next run words call) k ≡ pick (ltb k run.count) (stage_next run words call k) (stage_at run k)
      unfolding run_next stage_at
      then-stage k less = get_d-list_of no_stage (λ k. pick (ltb k run.count) (stage_next run words call k) (stage_at run k)) most_operators k less

      -- what arrived, and what arrives in the slot
      abbrev arrived_then : ℕ → List ℕ
      arrived_then = arrived_next path account call arrived

      arrived-agree : (k : ℕ) → Agree account.slot (flow_of (arrived k)) (flow_of (arrived_then k))
      arrived-agree k = longer-agrees (arrived k) (arriving path account call k) account.slot (account-kept.counted_arrived k)

      arrives-last : (k : ℕ) → flow_of (arrived_then k) account.slot ≡ arriving path account call k
      arrives-last k = longer-last (arrived k) (arriving path account call k) account.slot (account-kept.counted_arrived k)

      module _ (k : ℕ) (less : k < length path.operators) where
        abbrev state : PathOperator
        state = operator_in run k

        abbrev own : List ℕ
        own = operator_words words k

        abbrev into : ℕ
        into = arriving path account call k

        abbrev out : ℕ
        out = arriving path account call (suc k)

        counts : ltb k run.count ≡ true
        counts = lt-ltb k run.count (rw joined.counted less)

        then-words : operator_words words_then k ≡ list_of (ring_word_next state own into) word_count
        unfolding operator_words operator_word_next
        then-words =
            part-is (operator_at_word k) word_count words_then (operator-fits words_then then-sized k (omega arith)) (ring_word_next state own into)
            (λ a young. then-word k a (omega arith) young ∙ pick_true _ _ _ counts ∙ ap (λ (r : ℕ). ring_word_next state own r a) (into-same k (omega arith)))

        then-state : operator_in (run_next run words call) k ≡ operator_next run words call k
        unfolding operator_in stage_next operator_next path_state_kept run_next
        then-state = ap (λ (stage : Stage). operator_of stage (record { 0 = run.slot.0 + 1 })) (then-stage k (omega arith) ∙ pick_true _ _ _ counts)

        -- state and words stand, before the slot, for what has arrived by the slot's end
        before_stands : PathStands (flow_of (arrived_then k)) (flow_of (arrived_then (suc k))) account.slot state own (account.held k)
        before_stands = path-stands-same _ _ _ _ account.slot (arrived-agree k) (arrived-agree (suc k)) state own (account.held k) (joined.stands k less)

        after_same : held_after state.operator (account.held k) into out ≡ (account_next path account call).held k
        unfolding account_next
        after_same = ap (λ (op : Operator). held_after op (account.held k) into out) (operator-same k less)

        then-stands : PathStands (flow_of (arrived_then k)) (flow_of (arrived_then (suc k))) (account_next path account call).slot (operator_in (run_next run words call) k) (operator_words words_then k)
            ((account_next path account call).held k)
        unfolding operator_next account_next
        then-stands =
            rw (then-state, then-words, next-same k less, into-same k (omega arith), into-same (suc k) less, add-one)
            (rw (arrives-last k, arrives-last (suc k), after_same) at (path-stands-next (flow_of (arrived_then k)) (flow_of (arrived_then (suc k))) account.slot state own (account.held k) before_stands (number-inside k less)))

        then-named : (stage_at (run_next run words call) k).operator ≡ (stage_at run k).operator
        unfolding stage_next
        then-named = ap (λ (stage : Stage). stage.operator) (then-stage k (omega arith) ∙ pick_true _ _ _ counts)

        then-holds : path_holds (operator_in (run_next run words call) k) (operator_words words_then k) ≡ (account_next path account call).held k
        then-holds = next-kept.reads k less (operator_in (run_next run words call) k) (operator_words words_then k) (in-stage (run_next run words call) k ∙ then-named ∙ joined.operator k less) then-stands

        -- a delayer's word t mod d is the new total, and each other word as it was
        ring-then : (d : ℕ) → operator_at path k ≡ delayer d → (a : ℕ)
            → ring_word_next state own into a ≡ pick (eqb a (account.slot % d)) (total (flow_of (arrived_then k)) (suc account.slot) % wrap) (word_at own a)
        unfolding ring_word_next uses_held words_used
        ring-then d delays a =
            let ring = before_stands.ring d (operator-same k less ∙ delays) in
            let r = flow_of (arrived_then k) in
            let more : total r (suc account.slot) ≡ total r account.slot + into = total-suc r account.slot ∙ ap (λ (unit : ℕ). total r account.slot + unit) (arrives-last k) in
            rw (ring.operator, slot_same k less, ring.entered, total-more-wraps, more)

        latest-then : (d : ℕ) → operator_at path k ≡ delayer d → (a : ℕ) → a < words_used (operator_at path k)
            → pick (eqb a (account.slot % d)) (total (flow_of (arrived_then k)) (suc account.slot) % wrap) (word_at own a)
            ≡ latest_total (words_used (operator_at path k)) (flow_of (arrived_then k)) (account_next path account call).slot a
        unfolding account_next latest_total words_used
        latest-then d delays a below =
            let uses : words_used (operator_at path k) ≡ d = ap words_used delays in
            let then = flow_of (arrived_then k) in
            let newest = total then (suc account.slot) % wrap in
            let before = latest_total (words_used (operator_at path k)) then account.slot a in
            ap (pick (eqb a (account.slot % d)) newest) (joined.latest k less a below ∙ latest-same (words_used (operator_at path k)) (flow_of (arrived k)) then account.slot (arrived-agree k) a)
            ∙ ap (λ (n : ℕ). pick (eqb a (account.slot % n)) newest before) (sym uses)
            ∙ sym (ap (λ (n : ℕ). latest_total (words_used (operator_at path k)) then n a) (add-one account.slot))

        then-latest : (a : ℕ) → a < words_used (operator_at path k)
            → word_at (operator_words words_then k) a ≡ latest_total (words_used (operator_at path k)) (flow_of (arrived_then k)) (account_next path account call).slot a
        then-latest a below =
            let within = used-within (operator_at path k) (inside k less) in
            ap (λ (list : List ℕ). word_at list a) then-words
            ∙ get_d-list_of 0 (ring_word_next state own into) word_count a (omega arith)
            ∙ ⊎_elim
            (λ apart. absurd (let none = no_words (operator_at path k) apart in omega arith))
            (λ (d, delays). ring-then d delays a ∙ latest-then d delays a below)
            (field-or-ring (operator_at path k))

      module _ (k : ℕ) (behind : length path.operators ≤ k) (less : k < most_operators) where
        counts-not : ltb k run.count ≡ false
        counts-not = le-ltb k run.count (rw joined.counted behind)

        then-clear : (a : ℕ) → word_at (operator_words words_then k) a ≡ 0
        unfolding operator_word_next
        then-clear = operator-clear words_then then-sized k less (λ a young. then-word k a less young ∙ pick-false _ _ _ counts-not ∙ joined.clear k behind less a)

      then-declared : (run_next run words call).declaration ≡ path.declaration
      unfolding run_next
      then-declared = joined.declared

      then-slot : (run_next run words call).slot.0 ≡ (account_next path account call).slot
      unfolding run_next account_next
      then-slot = ap (λ (n : ℕ). n + 1) joined.slot

      then-counted : (run_next run words call).count ≡ length path.operators
      unfolding run_next
      then-counted = joined.counted

      then-metered : Sound (meter_fed (run_next run words call) words_then (account_next path account call).entered)
      unfolding run_next account_next meter_in meter_next slot_breaks
      then-metered = rw then-meter (sound-next (meter_fed run words account.entered) joined.meter call.input kept)

      pub joined-next : Joined path (run_next run words call) words_then (account_next path account call) (arrived_next path account call arrived)
      joined-next =
          record {
            declared = then-declared;
            slot = then-slot;
            counted = then-counted;
            sized = then-sized;
            meter = then-metered;
            operator = λ k less. then-named k less ∙ joined.operator k less;
            stands = then-stands;
            holds = then-holds;
            latest = then-latest;
            empty = λ k behind less. then-stage k less ∙ pick-false _ _ _ (counts-not k behind less) ∙ joined.empty k behind less;
            clear = then-clear;
          }
