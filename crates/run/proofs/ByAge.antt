-- Document 02, item 10: from an opened run on, each slot has the same interval and output as in the layout by age.
-- Of every list of calls, before each call and after the last, for each operator and every input: the least and the greatest output that run and words give, a delayer's from its totals and its ring,
-- are section 3's on the account's b, h and past; and these are what a single operator's state and words by age hold. So what each call brings to each operator, and out of the last, is the account's.
use mathlib.Core.Path.{◌≡◌, refl}
use mathlib.Core.List.{List, []}
use Rattle.std.specs.Prelude.{Ok}
use Prim.Native.Nat.{ℕ, ◌≤◌, ◌<◌}
use native.Mathlib.Omega.{arith}
use lib.ListN.{length, take}
use Rattle.operator.specs.Operators.{least_output, greatest_output}
use Rattle.operator.specs.Single.{words_used, holds}
use Rattle.operator.specs.Ring.{path_least, path_greatest}
use Rattle.operator.proofs.HeldByAge.{past-none, state_by_age, words_by_age, holds-by-age}
use Rattle.sheet.specs.Paths.{Path}
use Rattle.sheet.specs.Sheets.{path_in}
use Rattle.figures.specs.Answers.{operator_at}
use Rattle.run.specs.declared.Run.{Run}
use Rattle.run.specs.Calls.{Call}
use Rattle.run.specs.Account.{Account, new_account, arriving, account_next}
use Rattle.run.specs.Runs.{operator_words, operator_in}
use Rattle.run.specs.Opening.{opened_of}
use Rattle.run.specs.Slots.{input_into}
use Rattle.run.specs.Lists.{Running, opened, slotted_all, arrived_all, account_all}
use Rattle.run.specs.NeverLate.{call_at, running_after, account_after_calls}
use Rattle.run.proofs.AccountCalls.{all-holds}
use Rattle.run.proofs.Joined.{least-same, greatest-same, into-same}
use Rattle.run.proofs.NeverLate.{passes, account-within, joined_at}

module _ (sheet lent : List ℕ) (calls : List Call) where
  -- run and words after the first n calls, and the account of these
  abbrev running : ℕ → Running
  running = running_after sheet lent calls

  abbrev account : ℕ → Account
  account = account_after_calls sheet lent calls

  pub record SameAsByAge : Type 0 where
    -- the layout by age holds the account's b, h and past
    pub by_age : (n : ℕ) → n ≤ length calls → (k : ℕ) → k < length (path_in sheet).operators
        → holds (state_by_age (operator_at (path_in sheet) k) (record { 0 = (account n).slot }) ((account n).held k)) (words_by_age ((account n).held k)) ≡ (account n).held k
    -- the least and the greatest output of operator k in the next slot, whatever its input is
    pub least : (n : ℕ) → n ≤ length calls → (k : ℕ) → k < length (path_in sheet).operators → (r : ℕ)
        → path_least (operator_in (running n).run k) (operator_words (running n).words k) r ≡ least_output (operator_at (path_in sheet) k) (account n).slot ((account n).held k) r
    pub greatest : (n : ℕ) → n ≤ length calls → (k : ℕ) → k < length (path_in sheet).operators → (r : ℕ)
        → path_greatest (operator_in (running n).run k) (operator_words (running n).words k) r ≡ greatest_output (operator_at (path_in sheet) k) (account n).slot ((account n).held k) r
    -- what goes into operator k in the slot of a call, the output of the operator before it; behind the last operator, the output of the path
    pub sends : (n : ℕ) → n < length calls → (k : ℕ) → k ≤ length (path_in sheet).operators
        → input_into (running n).run (running n).words (call_at calls n) k ≡ arriving (path_in sheet) (account n) (call_at calls n) k

-- the account holds nothing of ages that an operator does not keep
past-none-after : (path : Path) (calls : List Call) (k a : ℕ) → words_used (operator_at path k) ≤ a → ((account_all path new_account calls).held k).past a ≡ 0
unfolding account_next
past-none-after path calls =
    all-holds path (λ account arrived. (k a : ℕ) → words_used (operator_at path k) ≤ a → (account.held k).past a ≡ 0)
    (λ account arrived call none before k a above. past-none (operator_at path k) (account.held k) _ _ a above) new_account (λ k. []) calls (λ k a above. refl)

-- of every sheet, every content of the lent words, and every list of calls, where opening was not refused
pub same-as-by-age : (sheet words : List ℕ) {run : Run} → opened_of sheet words ≡ Ok run → (calls : List Call) → SameAsByAge sheet words calls
same-as-by-age sheet words accepted calls =
    let path = path_in sheet in
    let number = (passes sheet words accepted).number in
    let running : ℕ → Running = λ n. slotted_all (opened sheet words) (take n calls) in
    let account : ℕ → Account = λ n. account_all path new_account (take n calls) in
    let arrived : ℕ → ℕ → List ℕ = λ n. arrived_all path new_account (take n calls) in
    let joined = joined_at sheet words accepted calls in
    record {
      by_age = λ n h k less. holds-by-age (operator_at path k) _ ((account n).held k) (number k less) ((account-within sheet words accepted (take n calls)).whole k less) (past-none-after path (take n calls) k);
      least = λ n h. least-same path (running n).run (running n).words (account n) (arrived n) (joined n h) number;
      greatest = λ n h. greatest-same path (running n).run (running n).words (account n) (arrived n) (joined n h) number;
      sends = λ n less. into-same path (running n).run (running n).words (account n) (arrived n) (joined n (omega arith)) number (call_at calls n);
    }
