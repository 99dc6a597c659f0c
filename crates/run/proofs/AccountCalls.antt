-- A list of calls on the account, with what arrived at each operator: a call that no case stands against moves it, any other leaves it, so what each taken call keeps holds after any calls.
use mathlib.Core.Path.{◌≡◌, refl, ap, sym, ◌∙◌, fun_ext}
use mathlib.Core.Bool.{false, not}
use mathlib.Core.List.{List, [], ◌∷◌, ◌++◌, append-nil, append_assoc}
use mathlib.Core.Logic.{◌↔◌, ⊎_elim}
use Prim.Native.Nat.{ℕ, zero, suc, ◌<◌}
use native.Mathlib.Nat.{not-suc-le-zero, le_of_suc-le-suc, eq-or-lt_of_le}
use borrow.Author.Tests.{not-false}
use Rattle.quantity.specs.declared.refusal.Refusal.{Refusal}
use Rattle.quantity.proofs.Refusals.{NoneStands, none-of-each, first_of-none, FirstIs, none-or-first, first-answered}
use Rattle.flow.specs.Classes.{Positive, Keeps}
use Rattle.flow.specs.Flows.{flow_of}
use Rattle.flow.specs.Declarations.{class_of}
use Rattle.flow.proofs.Laws.{keeps-decided}
use Rattle.sheet.specs.Paths.{Path}
use Rattle.run.specs.Calls.{Call}
use Rattle.run.specs.Account.{Account, arriving, breaks_declaration, choice_too_large, choices_too_large, account_cases, account_next, account_after}
use Rattle.run.specs.Lists.{arrived_in, arrived_all, account_all}

-- the choice of no operator is too large where no such case stands
pub choice-small : (path : Path) (account : Account) (call : Call) (n : ℕ) → NoneStands (choices_too_large path account call n)
    → (k : ℕ) → k < n → choice_too_large path account call k ≡ false
unfolding choices_too_large
choice-small path account call zero none k less = absurd (not-suc-le-zero less)
choice-small path account call (suc n) none k less =
    let (earlier, last) = none-of-each (choices_too_large path account call n) _ none in
    ⊎_elim (λ same. rw same last.0) (choice-small path account call n earlier k) (eq-or-lt_of_le (le_of_suc-le-suc less))

-- what arrived at each operator, with what a taken call brings it
abbrev pub arrived_next : Path → Account → Call → (ℕ → List ℕ) → ℕ → List ℕ
arrived_next path account call arrived k = arrived k ++ (arriving path account call k ∷ [])

-- a call is taken where no case stands against it, and else it leaves the account and brings nothing
module _ (path : Path) (account : Account) (call : Call) where
  module _ (none : NoneStands (account_cases path account call)) where
    pub account-taken : account_after path account call ≡ account_next path account call
    unfolding account_after
    account-taken = first_of-none (λ why. account) (account_next path account call) (account_cases path account call) none

    arrived-taken : (k : ℕ) → arrived_in path account call k ≡ arriving path account call k ∷ []
    unfolding arrived_in
    arrived-taken k = first_of-none (λ why. []) (arriving path account call k ∷ []) (account_cases path account call) none

    pub arrives-taken : (arrived : ℕ → List ℕ) → (λ k. arrived k ++ arrived_in path account call k) ≡ arrived_next path account call arrived
    arrives-taken arrived = fun_ext (λ k. ap (λ (units : List ℕ). arrived k ++ units) (arrived-taken k))

  module _ (why : Refusal) (first : FirstIs (account_cases path account call) why) where
    pub account-refused : account_after path account call ≡ account
    unfolding account_after
    account-refused = first-answered (λ why. account) (account_next path account call) why (account_cases path account call) first

    arrived-refused : (k : ℕ) → arrived_in path account call k ≡ []
    unfolding arrived_in
    arrived-refused k = first-answered (λ why. []) (arriving path account call k ∷ []) why (account_cases path account call) first

    pub arrives-refused : (arrived : ℕ → List ℕ) → (λ k. arrived k ++ arrived_in path account call k) ≡ arrived
    arrives-refused arrived = fun_ext (λ k. ap (λ (units : List ℕ). arrived k ++ units) (arrived-refused k) ∙ append-nil (arrived k))

-- One more call at the end of a list.

pub account-last : (path : Path) (account : Account) (calls : List Call) (call : Call) → account_all path account (calls ++ (call ∷ [])) ≡ account_after path (account_all path account calls) call
unfolding account_all
account-last path account [] call = refl
account-last path account (first ∷ calls) call = account-last path (account_after path account first) calls call

arrived-last-at : (path : Path) (account : Account) (calls : List Call) (call : Call) (k : ℕ)
    → arrived_all path account (calls ++ (call ∷ [])) k ≡ arrived_all path account calls k ++ arrived_in path (account_all path account calls) call k
unfolding account_all arrived_all
arrived-last-at path account [] call k = append-nil (arrived_in path account call k)
arrived-last-at path account (first ∷ calls) call k =
    ap (λ (units : List ℕ). arrived_in path account first k ++ units) (arrived-last-at path (account_after path account first) calls call k)
    ∙ sym (append_assoc (arrived_in path account first k) _ _)

pub arrived-last : (path : Path) (account : Account) (calls : List Call) (call : Call)
    → arrived_all path account (calls ++ (call ∷ [])) ≡ λ k. arrived_all path account calls k ++ arrived_in path (account_all path account calls) call k
arrived-last path account calls call = fun_ext (arrived-last-at path account calls call)

-- What holds of the account and of what arrived, and each taken call keeps.
module _ (path : Path) (P : Account → (ℕ → List ℕ) → Type 0)
    (next : (account : Account) (arrived : ℕ → List ℕ) (call : Call) → NoneStands (account_cases path account call) → P account arrived → P (account_next path account call) (arrived_next path account call arrived)) where
  after_holds : (account : Account) (arrived : ℕ → List ℕ) (call : Call) → P account arrived → P (account_after path account call) (λ k. arrived k ++ arrived_in path account call k)
  after_holds account arrived call holds =
      ⊎_elim
      (λ none. rw (account-taken path account call none, arrives-taken path account call none arrived) (next account arrived call none holds))
      (λ (why, first). rw (account-refused path account call why first, arrives-refused path account call why first arrived) holds)
      (none-or-first (account_cases path account call))

  pub all-holds : (account : Account) (arrived : ℕ → List ℕ) (calls : List Call) → P account arrived → P (account_all path account calls) (λ k. arrived k ++ arrived_all path account calls k)
  unfolding account_all arrived_all
  all-holds account arrived [] holds = simp append-nil holds
  all-holds account arrived (call ∷ calls) holds =
      simp (← append_assoc) (all-holds (account_after path account call) (λ k. arrived k ++ arrived_in path account call k) calls (after_holds account arrived call holds))

-- the account's test of the declaration decides just that: the inputs taken and this one keep it (section 2)
pub declaration-tested : (path : Path) (account : Account) (call : Call) → Positive (class_of path.declaration)
    → (breaks_declaration path account call ≡ false) ↔ Keeps (class_of path.declaration) (flow_of (account.entered ++ (call.input ∷ [])))
unfolding breaks_declaration
declaration-tested path account call large =
    let decided = keeps-decided (class_of path.declaration) (account.entered ++ (call.input ∷ [])) large in
    (λ e. decided.0 (not-false _ e), λ keeps. ap not (decided.1 keeps))
