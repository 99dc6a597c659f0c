-- Demand 3: by induction over the calls run and words stay joined to the account and to what arrived at each operator, and of the account the figures' promise holds.
use mathlib.Core.Path.{◌≡◌, refl, ap, sym, subst, ◌∙◌}
use mathlib.Core.Bool.{true}
use mathlib.Core.List.{List, [], ◌∷◌, ◌++◌}
use Rattle.std.specs.Prelude.{Result, Ok, Err}
use mathlib.Core.Logic.{◌⊎◌, inl, inr, ⊎_elim}
use Prim.Native.Nat.{ℕ, zero, suc, ◌+◌, ◌≤◌, ◌<◌}
use native.Mathlib.Nat.{le_trans}
use native.Mathlib.Omega.{arith}
use lib.ListN.{length, get_or, take}
use borrow.Author.Tests.{lt-ltb}
use lib.Seq.{take-suc}
use Rattle.quantity.specs.Sums.{list_of}
use Rattle.quantity.specs.declared.Units.{Units}
use Rattle.quantity.specs.declared.refusal.Refusal.{Refusal}
use Rattle.quantity.specs.declared.refusal.Refusal.TheVariants.{Unusable}
use Rattle.quantity.proofs.Laws.{pick_true}
use Rattle.quantity.proofs.Sums.{both_true, get_d-list_of}
use Rattle.quantity.proofs.Refusals.{NoneStands, none-of-each, none-where-result, first_of-none, FirstIs, none-or-first, first-answered, first-of-each}
use Rattle.flow.specs.Declarations.{declaration_in_range}
use Rattle.sheet.specs.Paths.{Path}
use Rattle.sheet.specs.Sheets.{sheet_cases, value_in, path_in, rest_in_range, path_in_range}
use Rattle.sheet.proofs.Accepted.{sheet-path, order-of-sheet, unused-of-sheet}
use Rattle.sheet.proofs.AnswerLaws.{none-of-ok}
use Rattle.figures.specs.declared.Figure.{Figure}
use Rattle.figures.specs.declared.PathFigures.{PathFigures}
use Rattle.figures.specs.Answers.{capacity_at, path_cases, figure_at, figure_in, no_figure, accepted_figures, figures_cases, figures_of}
use Rattle.figures.proofs.Promise.{accepted-figures, declared-positive, operator-inside, operator-held-le, held-le-capacity}
use Rattle.run.specs.declared.Run.{Run}
use Rattle.run.specs.Calls.{Call, choices_miscounted, amount_too_large}
use Rattle.run.specs.Account.{Account, new_account, arriving, slots_used_up, choices_too_large, account_cases, leaving, account_answer, account_next}
use Rattle.run.specs.Runs.{run_word_count}
use Rattle.run.specs.Opening.{new_run, open_cases, opened_of, words_opened}
use Rattle.run.specs.Slots.{slotted_of, output_of}
use Rattle.run.specs.Watching.{run_holds}
use Rattle.run.specs.Lists.{Running, opened, slotted, slotted_all, arrived_all, account_all}
use Rattle.run.specs.NeverLate.{delay_told, capacity_told, call_at, NeverLate}
use Rattle.run.proofs.AccountCalls.{arrived_next, account-taken, arrives-taken, account-last, arrived-last, declaration-tested}
use Rattle.run.proofs.AccountFlows.{AccountKept, account-kept, account-fullest}
use Rattle.run.specs.Taking.{Took}
use Rattle.run.proofs.Joined.{Joined, joined-new}
use Rattle.run.proofs.Words.{joined_word}
use Rattle.run.proofs.Answered.{Passes, answer-same, joined-after}

-- One more call at the end of a list.

slotted-last : (now : Running) (calls : List Call) (call : Call) → slotted_all now (calls ++ (call ∷ [])) ≡ slotted (slotted_all now calls) call
unfolding slotted_all
slotted-last now [] call = refl
slotted-last now (first ∷ calls) call = slotted-last (slotted now first) calls call

-- Where the account refuses by 1, an argument is wrong or no slot number is left.

sent-not-refused : (output : Units) (why : Refusal) → ◌≡◌ {A = Result Units Refusal} (Ok output) (Err why) → ⊥
sent-not-refused output why e = let z : ◌≡◌ {A = ℕ} 0 1 = cc in omega arith

never-unusable : (path : Path) (account : Account) (call : Call) (n : ℕ) → FirstIs (choices_too_large path account call n) Unusable → ⊥
unfolding choices_too_large
never-unusable path account call (suc n) first =
    ⊎_elim (never-unusable path account call n) (⊎_elim (λ here. (let same = here.1 in let z : ◌≡◌ {A = ℕ} 0 1 = cc in omega arith)) (λ rest. rest.1))
    (first-of-each Unusable (choices_too_large path account call n) _ first)
never-unusable path account call zero first = elim first [ ]

unusable-tested : (path : Path) (account : Account) (call : Call) → account_answer path account call ≡ Err Unusable
    → (choices_miscounted (length path.operators) call ≡ true) ⊎ (amount_too_large call ≡ true) ⊎ (slots_used_up account ≡ true)
unfolding account_answer
unusable-tested path account call refused =
    ⊎_elim
    (λ none. absurd (sent-not-refused _ Unusable (sym (first_of-none Err _ (account_cases path account call) none) ∙ refused)))
    (λ (why, first). by_first why first (sym (first-answered Err _ why (account_cases path account call) first) ∙ refused))
    (none-or-first (account_cases path account call))
  where
    by_first : (why : Refusal) → FirstIs (account_cases path account call) why → ◌≡◌ {A = Result Units Refusal} (Err why) (Err Unusable)
        → (choices_miscounted (length path.operators) call ≡ true) ⊎ (amount_too_large call ≡ true) ⊎ (slots_used_up account ≡ true)
    by_first why (inl (e, same)) answer = inl e
    by_first why (inr (a, inl (e, same))) answer = inr (inl e)
    by_first why (inr (a, inr (b, inl (e, same)))) answer = inr (inr e)
    by_first why (inr (a, inr (b, inr (c, inl (e, same))))) answer = let z : ◌≡◌ {A = ℕ} 0 1 = cc in absurd (omega arith)
    by_first why (inr (a, inr (b, inr (c, inr (d, first))))) answer =
        let unusable : why ≡ Unusable = cc in absurd (never-unusable path account call (length path.operators) (rw unusable at first))

-- What opening tells of a sheet that it accepts.
module _ (sheet words : List ℕ) {first : Run} (accepted : opened_of sheet words ≡ Ok first) where
  abbrev value : Path
  value = path_in sheet

  opening-stands : NoneStands (open_cases sheet words)
  unfolding opened_of
  opening-stands = none-of-ok (new_run value) (open_cases sheet words) accepted

  sheet-stands : NoneStands (sheet_cases sheet)
  sheet-stands = (none-of-each (sheet_cases sheet) (path_cases value) opening-stands.1).0

  path-stands : NoneStands (path_cases value)
  path-stands = (none-of-each (sheet_cases sheet) (path_cases value) opening-stands.1).1

  path_inside : path_in_range value ≡ true
  path_inside = (sheet-path sheet sheet-stands).inside

  figures-accept : figures_of sheet ≡ Ok (accepted_figures (value_in sheet) value)
  unfolding figures_of
  figures-accept = first_of-none Err (Ok (accepted_figures (value_in sheet) value)) (figures_cases sheet) opening-stands.1

  pub passes : Passes value
  unfolding path_in_range
  passes =
      record {
        some = (sheet-path sheet sheet-stands).some;
        few = (sheet-path sheet sheet-stands).few;
        large = declared-positive value path_inside;
        declared = (both_true (declaration_in_range value.declaration) (rest_in_range value) path_inside).0;
        ordered = order-of-sheet sheet sheet-stands;
        unused = unused-of-sheet sheet sheet-stands;
        number = operator-inside value path_inside path-stands;
        held = operator-held-le value path_inside path-stands;
      }

  -- the capacity that `figures` answers is that of the definitions
  capacity-answered : (k : ℕ) → k < length value.operators → capacity_told (figures_of sheet) k ≡ capacity_at value k
  unfolding figure_in figure_at
  capacity-answered k less =
      let few = passes.few in
      ap (λ (answer : Result PathFigures Refusal). capacity_told answer k) figures-accept ∙
      ap (λ (figures : List Figure). (get_or figures k no_figure).capacity.0) (accepted-figures sheet figures-accept).2
      ∙ ap (λ (figure : Figure). figure.capacity.0) (get_d-list_of no_figure (figure_in value) 16 k (omega arith) ∙ pick_true _ _ _ (lt-ltb k (length value.operators) less))

  -- The account of every list of calls, and of one more call that it takes.
  pub account-within : (calls : List Call) → AccountKept value (account_all value new_account calls) (arrived_all value new_account calls)
  account-within calls = account-kept value path_inside path-stands calls

  account-new : AccountKept value new_account (λ k. [])
  unfolding account_all arrived_all
  account-new = account-within []

  module _ (calls : List Call) (call : Call) (none : NoneStands (account_cases value (account_all value new_account calls) call)) where
    account-more : AccountKept value (account_next value (account_all value new_account calls) call) (arrived_next value (account_all value new_account calls) call (arrived_all value new_account calls))
    account-more =
        rw (
          account-last value new_account calls call,
          arrived-last value new_account calls call,
          account-taken value (account_all value new_account calls) call none,
          arrives-taken value (account_all value new_account calls) call none (arrived_all value new_account calls),
        )
        at (account-within (calls ++ (call ∷ [])))

  joined-opened : Joined value (opened sheet words).run (opened sheet words).words new_account (λ k. [])
  unfolding opened opened_of words_opened
  joined-opened =
      rw (
        first_of-none Err (Ok (new_run value)) (open_cases sheet words) opening-stands,
        first_of-none (λ why. words) (list_of (λ j. 0) run_word_count) (open_cases sheet words) opening-stands,
      )
      (joined-new value passes.few passes.unused passes.declared passes.ordered account-new)

  module _ (calls : List Call) where
    abbrev running : ℕ → Running
    running n = slotted_all (opened sheet words) (take n calls)

    abbrev account : ℕ → Account
    account n = account_all value new_account (take n calls)

    abbrev arrived : ℕ → ℕ → List ℕ
    arrived n = arrived_all value new_account (take n calls)

    pub joined_at : (n : ℕ) → n ≤ length calls → Joined value (running n).run (running n).words (account n) (arrived n)
    unfolding slotted_all account_all arrived_all slotted
    joined_at zero h = joined-opened
    joined_at (suc n) h =
        let before = joined_at n (omega arith) in
        let call = call_at calls n in
        rw (
          take-suc calls n (record { input = 0; choices = [] }) h,
          slotted-last (opened sheet words) (take n calls) call,
          account-last value new_account (take n calls) call,
          arrived-last value new_account (take n calls) call,
        )
        (joined-after value passes (running n).run (running n).words (account n) (arrived n) before (account-within (take n calls)) call (account-more (take n calls) call))

    answered-at : (n : ℕ) → n < length calls → output_of (slotted_of (running n).run (running n).words (call_at calls n)) ≡ account_answer value (account n) (call_at calls n)
    answered-at n less =
        answer-same value passes (running n).run (running n).words (account n) (arrived n) (joined_at n (omega arith)) (account-within (take n calls)) (call_at calls n) (account-more (take n calls) (call_at calls n))

    -- a call that took a slot is one that the account takes, so of it the figures' promise for the fullest moment holds
    fullest-at : (n : ℕ) → n < length calls → Took (output_of (slotted_of (running n).run (running n).words (call_at calls n))) → (k : ℕ) → k < length value.operators
        → ((account n).held k).b + arriving value (account n) (call_at calls n) k ≤ capacity_at value k
    unfolding account_answer
    fullest-at n less took =
        account-fullest value path_inside path-stands (take n calls) (call_at calls n)
        (none-where-result Err (Ok (record { 0 = leaving value (account n) (call_at calls n) })) Took (λ why refused. refused) (account_cases value (account n) (call_at calls n))
        (subst Took (answered-at n less) took))

-- Demand 3: of every sheet, every content of the lent words, and every list of calls, where opening was not refused
pub never-late : (sheet words : List ℕ) {run : Run} → opened_of sheet words ≡ Ok run → (calls : List Call) → NeverLate sheet words calls
unfolding run_holds
never-late sheet words accepted calls =
    let delay = ap delay_told (figures-accept sheet words accepted) ∙ (accepted-figures sheet (figures-accept sheet words accepted)).1 in
    record {
      answers = answered-at sheet words accepted calls;
      declared = λ n less. declaration-tested (path_in sheet) (account_all (path_in sheet) new_account (take n calls)) (call_at calls n) (passes sheet words accepted).large;
      holds = λ n h k less. (joined_at sheet words accepted calls n h).holds k less;
      sized = λ n h. (joined_at sheet words accepted calls n h).sized;
      words =
          λ n h.
          joined_word (path_in sheet) (running sheet words accepted calls n).run (running sheet words accepted calls n).words (account sheet words accepted calls n) (arrived sheet words accepted calls n)
          (joined_at sheet words accepted calls n h) (account-within sheet words accepted (take n calls)).counted_arrived;
      in_time = rw delay (account-within sheet words accepted calls).in_time;
      within = λ n less took k here. rw (capacity-answered sheet words accepted k here) (fullest-at sheet words accepted calls n less took k here);
      unusable_only = λ n less refused. unusable-tested (path_in sheet) (account_all (path_in sheet) new_account (take n calls)) (call_at calls n) (sym (answered-at sheet words accepted calls n less) ∙ refused);
    }

-- so after every call each operator's b alone is within its capacity
pub never-over : (sheet words : List ℕ) {run : Run} → opened_of sheet words ≡ Ok run → (calls : List Call) (k : ℕ) → k < length (path_in sheet).operators
    → ((account_all (path_in sheet) new_account calls).held k).b ≤ capacity_told (figures_of sheet) k
never-over sheet words accepted calls k less =
    rw (capacity-answered sheet words accepted k less) (le_trans ((account-within sheet words accepted calls).held_within k less) (held-le-capacity (path_in sheet) k))
