-- The account of a run is that of flows: the taken inputs and choices, followed by zeros for ever. So what the figures promise of flows holds of it.
use mathlib.Core.Path.{◌≡◌, refl, sym, ◌∙◌}
use mathlib.Core.Bool.{true, false}
use mathlib.Core.List.{List, [], ◌∷◌, ◌++◌}
use mathlib.Core.Logic.{⊎_elim}
use Prim.Native.Nat.{ℕ, zero, suc, ◌+◌, ◌≤◌, ◌<◌}
use native.Mathlib.Nat.{not-suc-le-zero, le_of_suc-le-suc, eq-or-lt_of_le, suc-add}
use native.Mathlib.Numerals.{add-one}
use native.Mathlib.Omega.{arith}
use lib.ListN.{length}
use borrow.Author.Tests.{ltb-false, not-false}
use Rattle.quantity.specs.Limits.{largest_amount}
use Rattle.quantity.specs.Sums.{total, every}
use Rattle.quantity.proofs.Sums.{total-same}
use Rattle.quantity.proofs.Refusals.{NoneStands}
use Rattle.operator.specs.Held.{Held}
use Rattle.operator.specs.Operators.{greatest_output}
use Rattle.operator.specs.Whole.{Whole}
use Rattle.flow.specs.Flows.{Flow, flow_of}
use Rattle.operator.specs.OnFlows.{held_on, output_on, Fitting}
use Rattle.flow.specs.Classes.{Keeps}
use Rattle.flow.specs.Declarations.{class_of}
use Rattle.flow.specs.Keeping.{keeps_class}
use Rattle.flow.proofs.Laws.{keeps-decided}
use Rattle.operator.specs.Ring.{path_holds}
use Rattle.operator.specs.declared.ring.PathOperator.{PathOperator}
use Rattle.operator.proofs.Laws.{least-le-greatest, whole-on, none-fits}
use Rattle.operator.proofs.PathStands.{PathStands, path-stands-same, path-stands-holds}
use Rattle.sheet.specs.Paths.{Path}
use Rattle.sheet.specs.Sheets.{path_in_range}
use Rattle.figures.specs.Answers.{operator_at, held_at, capacity_at, path_delay, path_cases}
use Rattle.figures.specs.Along.{flow_into, AllFit, Promised}
use Rattle.figures.proofs.Promise.{promised, declared-positive, operator-held-le}
use Rattle.run.specs.Calls.{Call, choice_for}
use Rattle.run.specs.Account.{Account, new_account, arriving, breaks_declaration, choice_too_large, account_cases, account_next}
use Rattle.run.specs.Lists.{arrived_all, account_all}
use Rattle.run.proofs.AccountCalls.{arrived_next, choice-small, all-holds}
use Rattle.run.proofs.FlowsAgree.{Agree, held-agrees, output-agrees, into-agrees, longer-agrees, longer-last, longer-length, none_after, fits-for-ever}

-- what the account of any calls promises
pub record AccountKept (path : Path) (account : Account) (arrived : ℕ → List ℕ) : Type 0 where
  -- as many inputs as slots, and as many that arrived at each operator
  pub counted : length account.entered ≡ account.slot
  pub counted_arrived : (k : ℕ) → length (arrived k) ≡ account.slot
  -- what entered keeps the declaration
  pub keeps : Keeps (class_of path.declaration) (flow_of account.entered)
  -- what entered by the end of slot i has left by the end of slot i + delay, wherever that slot was taken
  pub in_time : (i : ℕ) → i + path_delay path < account.slot → total (flow_of account.entered) (suc i) ≤ total (flow_of account.left) (suc (i + path_delay path))
  -- no operator holds more than its held figure, nor a filter's h
  pub held_within : (k : ℕ) → k < length path.operators → (account.held k).b ≤ held_at path k
  pub beside_within : (k : ℕ) → k < length path.operators → (account.held k).h ≤ held_at path k
  -- a delayer's b is the sum of its past
  pub whole : (k : ℕ) → k < length path.operators → Whole (operator_at path k) (account.held k)
  -- state and words that stand for what arrived at an operator and behind it have the account's b, h and past: less than the wrap arrives at a delayer in its d slots
  pub reads : (k : ℕ) → k < length path.operators → (x : PathOperator) (words : List ℕ) → x.operator ≡ operator_at path k
      → PathStands (flow_of (arrived k)) (flow_of (arrived (suc k))) account.slot x words (account.held k) → path_holds x words ≡ account.held k

-- the flow into operator k, of the inputs and each operator's choices so far
abbrev into : Path → List ℕ → (ℕ → List ℕ) → ℕ → Flow
into path entered chosen = flow_into (operator_at path) (flow_of entered) (λ k. flow_of (chosen k))

-- What holds of the account and of what arrived after any calls: they have what the flows of the taken inputs and choices give, and these fit and keep the declaration.
record Follows (path : Path) (account : Account) (arrived : ℕ → List ℕ) : Type 0 where
  chosen : ℕ → List ℕ
  counted : length account.entered ≡ account.slot
  counted_left : length account.left ≡ account.slot
  counted_chosen : (k : ℕ) → length (chosen k) ≡ account.slot
  counted_arrived : (k : ℕ) → length (arrived k) ≡ account.slot
  held : (k : ℕ) → account.held k ≡ held_on (operator_at path k) (into path account.entered chosen k) (flow_of (chosen k)) account.slot
  left : Agree account.slot (flow_of account.left) (into path account.entered chosen (length path.operators))
  arrives : (k : ℕ) → Agree account.slot (flow_of (arrived k)) (into path account.entered chosen k)
  fits : AllFit path (flow_of account.entered) (λ k. flow_of (chosen k))
  keeps : Keeps (class_of path.declaration) (flow_of account.entered)

-- The account follows flows, and takes a call.
module _ (path : Path) (account : Account) (arrived : ℕ → List ℕ) (call : Call) (follows : Follows path account arrived) where
  abbrev chosen_next : ℕ → List ℕ
  chosen_next k = follows.chosen k ++ (choice_for call k ∷ [])

  -- operator k's choices and input, as the flows have them before the call and with it
  abbrev choices_were : ℕ → Flow
  choices_were k = flow_of (follows.chosen k)

  abbrev choices_now : ℕ → Flow
  choices_now k = flow_of (chosen_next k)

  abbrev were : ℕ → Flow
  were = into path account.entered follows.chosen

  abbrev now : ℕ → Flow
  now = into path (account.entered ++ (call.input ∷ [])) chosen_next

  -- and what it holds
  abbrev held_now : ℕ → ℕ → Held
  held_now k = held_on (operator_at path k) (now k) (choices_now k)

  choices-agree : (k : ℕ) → Agree account.slot (choices_were k) (choices_now k)
  choices-agree k = longer-agrees (follows.chosen k) (choice_for call k) account.slot (follows.counted_chosen k)

  chosen_last : (k : ℕ) → choices_now k account.slot ≡ choice_for call k
  chosen_last k = longer-last (follows.chosen k) (choice_for call k) account.slot (follows.counted_chosen k)

  flows-agree : (k : ℕ) → Agree account.slot (were k) (now k)
  flows-agree =
      into-agrees (operator_at path) (flow_of account.entered) (flow_of (account.entered ++ (call.input ∷ []))) choices_were choices_now account.slot
      (longer-agrees account.entered call.input account.slot follows.counted) choices-agree

  held-before : (k : ℕ) → account.held k ≡ held_now k account.slot
  held-before k = follows.held k ∙ held-agrees (operator_at path k) (were k) (now k) (choices_were k) (choices_now k) account.slot (flows-agree k) (choices-agree k)

  -- what arrives in the slot is what the flows have
  arrives-now : (k : ℕ) → arriving path account call k ≡ now k account.slot
  unfolding arriving flow_into output_on
  arrives-now zero = sym (longer-last account.entered call.input account.slot follows.counted)
  arrives-now (suc k) = rw (held-before k, arrives-now k, chosen_last k)

  held_after : (k : ℕ) → (account_next path account call).held k ≡ held_now k (suc account.slot)
  unfolding account_next held_on arriving
  held_after k = rw (held-before k, arrives-now k, chosen_last k)

  -- so units that agree with what goes into an operator, and what arrives there now, agree with it again
  agrees-next : (k : ℕ) (units : List ℕ) → length units ≡ account.slot → Agree account.slot (flow_of units) (were k) → Agree (suc account.slot) (flow_of (units ++ (arriving path account call k ∷ []))) (now k)
  agrees-next k units size same t less =
      let unit = arriving path account call k in
      ⊎_elim
      (λ here. rw here (longer-last units unit account.slot size ∙ arrives-now k))
      (λ sooner. sym (longer-agrees units unit account.slot size t sooner) ∙ same t sooner ∙ flows-agree k t sooner)
      (eq-or-lt_of_le (le_of_suc-le-suc less))

  -- operator k's output of slot t fits
  abbrev FitsAt : ℕ → ℕ → Type 0
  FitsAt k t = output_on (operator_at path k) (now k) (choices_now k) t ≤ greatest_output (operator_at path k) t (held_now k t) (now k t)

  module _ (k : ℕ) (less : k < length path.operators) where
    -- in a slot taken before as it did
    fits-before : (t : ℕ) → t < account.slot → FitsAt k t
    fits-before t sooner =
        let op = operator_at path k in
        let output = output-agrees op (were k) (now k) (choices_were k) (choices_now k) account.slot (flows-agree k) (choices-agree k) t sooner in
        let held = held-agrees op (were k) (now k) (choices_were k) (choices_now k) t (λ i h. flows-agree k i (omega arith)) (λ i h. choices-agree k i (omega arith)) in
        rw (← output, ← held, ← flows-agree k t sooner) (follows.fits k less t)

    -- and in this one by the test of its choice
    fits-here : choice_too_large path account call k ≡ false → FitsAt k account.slot
    unfolding choice_too_large output_on
    fits-here small =
        let op = operator_at path k in
        let whole : Whole op (account.held k) = rw (follows.held k) (whole-on op (were k) (choices_were k) (follows.fits k less) account.slot) in
        rw (← held-before k, ← arrives-now k, chosen_last k)
        (omega (arith, ltb-false, least-le-greatest op account.slot (account.held k) (arriving path account call k) whole))

    fits_next : choice_too_large path account call k ≡ false → Fitting (operator_at path k) (now k) (choices_now k)
    fits_next small =
        fits-for-ever (operator_at path k) (now k) (choices_now k) (suc account.slot)
        (λ t sooner. ⊎_elim (λ here. rw here (fits-here small)) (fits-before t) (eq-or-lt_of_le (le_of_suc-le-suc sooner)))
        (none_after (chosen_next k) (suc account.slot) (longer-length (follows.chosen k) (choice_for call k) account.slot (follows.counted_chosen k)))

-- what the flows are promised, at the account's slot
module _ (path : Path) (account : Account) (arrived : ℕ → List ℕ) (follows : Follows path account arrived)
    (kept : Promised path (flow_of account.entered) (λ k. flow_of (follows.chosen k)))
    (small : (k : ℕ) → k < length path.operators → held_at path k ≤ largest_amount) where
  abbrev flow : ℕ → Flow
  flow = into path account.entered follows.chosen

  abbrev choices : ℕ → Flow
  choices k = flow_of (follows.chosen k)

  follows-reads : (k : ℕ) → k < length path.operators → (x : PathOperator) (words : List ℕ) → x.operator ≡ operator_at path k
      → PathStands (flow_of (arrived k)) (flow_of (arrived (suc k))) account.slot x words (account.held k) → path_holds x words ≡ account.held k
  unfolding flow_into
  follows-reads k less x words same stands =
      let op = operator_at path k in
      let output = output_on op (flow k) (choices k) in
      let on-flows : PathStands (flow k) output account.slot x words (account.held k) =
      path-stands-same (flow_of (arrived k)) (flow_of (arrived (suc k))) (flow k) output account.slot (follows.arrives k) (follows.arrives (suc k)) x words (account.held k) stands in
      rw (follows.held k)
      (path-stands-holds op (flow k) (choices k) (follows.fits k less) account.slot
      (λ d delays. omega (arith, kept.entering_within k less d delays account.slot, small k less)) x words same (rw (follows.held k) at on-flows))

  follows-kept : AccountKept path account arrived
  follows-kept =
      record {
        counted = follows.counted;
        counted_arrived = follows.counted_arrived;
        keeps = follows.keeps;
        in_time =
            λ i less.
            let left = total-same (flow_of account.left) (flow (length path.operators)) (suc (i + path_delay path)) (λ t sooner. follows.left t (omega arith)) in
            rw (left, ← suc-add) (kept.in_time (suc i));
        held_within = λ k less. rw (follows.held k) (kept.held_within k less account.slot);
        beside_within = λ k less. rw (follows.held k) (kept.beside_within k less account.slot);
        whole = λ k less. rw (follows.held k) (whole-on (operator_at path k) (flow k) (choices k) (follows.fits k less) account.slot);
        reads = follows-reads;
      }

module _ (path : Path) (inside : path_in_range path ≡ true) where
  declaration-kept : (units : List ℕ) → keeps_class (class_of path.declaration) units ≡ true → Keeps (class_of path.declaration) (flow_of units)
  declaration-kept units = (keeps-decided (class_of path.declaration) units (declared-positive path inside)).0

  follows-new : Follows path new_account (λ k. [])
  unfolding held_on keeps_class every
  follows-new =
      record {
        chosen = λ k. [];
        counted = refl;
        counted_left = refl;
        counted_chosen = λ k. refl;
        counted_arrived = λ k. refl;
        held = λ k. refl;
        left = λ t less. absurd (not-suc-le-zero less);
        arrives = λ k t less. absurd (not-suc-le-zero less);
        fits = λ k less. none-fits (operator_at path k) (into path [] (λ k. []) k);
        keeps = declaration-kept [] refl;
      }

  follows_next : (account : Account) (arrived : ℕ → List ℕ) (call : Call) → NoneStands (account_cases path account call) → Follows path account arrived
      → Follows path (account_next path account call) (arrived_next path account call arrived)
  unfolding account_next breaks_declaration
  follows_next account arrived call none follows =
      record {
        chosen = chosen_next path account arrived call follows;
        counted = rw add-one (longer-length account.entered call.input account.slot follows.counted);
        counted_left = rw add-one (longer-length account.left (arriving path account call (length path.operators)) account.slot follows.counted_left);
        counted_chosen = λ k. rw add-one (longer-length (follows.chosen k) (choice_for call k) account.slot (follows.counted_chosen k));
        counted_arrived = λ k. rw add-one (longer-length (arrived k) (arriving path account call k) account.slot (follows.counted_arrived k));
        held = rw add-one (held_after path account arrived call follows);
        left = rw add-one (agrees-next path account arrived call follows (length path.operators) account.left follows.counted_left follows.left);
        arrives = λ k. rw add-one (agrees-next path account arrived call follows k (arrived k) (follows.counted_arrived k) (follows.arrives k));
        fits = λ k less. fits_next path account arrived call follows k less (choice-small path account call (length path.operators) none.1.1.1.1 k less);
        keeps = declaration-kept (account.entered ++ (call.input ∷ [])) (not-false _ none.1.1.1.0);
      }

-- The account of every list of calls, on a path of numbers in their ranges that refusals 6 to 9 let pass.
module _ (path : Path) (inside : path_in_range path ≡ true) (none : NoneStands (path_cases path)) where
  follows-promised : (account : Account) (arrived : ℕ → List ℕ) (follows : Follows path account arrived) → Promised path (flow_of account.entered) (λ k. flow_of (follows.chosen k))
  follows-promised account arrived follows = promised path inside none (flow_of account.entered) (λ k. flow_of (follows.chosen k)) follows.keeps follows.fits

  follows-all : (calls : List Call) → Follows path (account_all path new_account calls) (arrived_all path new_account calls)
  follows-all calls = all-holds path (Follows path) (follows_next path inside) new_account (λ k. []) calls (follows-new path inside)

  pub account-kept : (calls : List Call) → AccountKept path (account_all path new_account calls) (arrived_all path new_account calls)
  account-kept calls =
      let account = account_all path new_account calls in
      let arrived = arrived_all path new_account calls in
      let follows = follows-all calls in
      follows-kept path account arrived follows (follows-promised account arrived follows) (operator-held-le path inside none)

  -- the fullest moment is one of the flows with the call
  follows-fullest : (account : Account) (arrived : ℕ → List ℕ) (call : Call) → NoneStands (account_cases path account call) → Follows path account arrived
      → (k : ℕ) → k < length path.operators → (account.held k).b + arriving path account call k ≤ capacity_at path k
  unfolding account_next follows_next
  follows-fullest account arrived call taken follows k less =
      let with_call = follows-promised (account_next path account call) (arrived_next path account call arrived) (follows_next path inside account arrived call taken follows) in
      rw (held-before path account arrived call follows k, arrives-now path account arrived call follows k) (with_call.fullest_within k less account.slot)

  -- in a slot that is taken no operator has more than its capacity before it sends: what the slot before left, and what arrives
  pub account-fullest : (calls : List Call) (call : Call) → NoneStands (account_cases path (account_all path new_account calls) call)
      → (k : ℕ) → k < length path.operators → ((account_all path new_account calls).held k).b + arriving path (account_all path new_account calls) call k ≤ capacity_at path k
  account-fullest calls call taken = follows-fullest (account_all path new_account calls) (arrived_all path new_account calls) call taken (follows-all calls)
