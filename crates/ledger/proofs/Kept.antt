-- By induction over the calls the ledger and its records are the account's; of these the promise holds.
use Rattle.std.proofs.Common.{◌≡◌, ℕ, ◌-◌, ◌<◌, true, not, eqb, List, [], ◌∷◌, ◌++◌, length, replicate, IsOk, Result, Ok, Err, sym, refl, ap, ◌∙◌, subst, ap₂, inl, inr, ⊎_elim, arith, eqb-true}
use borrow.Author.Tests.{not-false}
use Rattle.quantity.specs.Sums.{list_of}
use Rattle.quantity.specs.Ranges.{in_range, path_number_range}
use Rattle.quantity.specs.Refusals.{Case, ◌⇒◌, refusal_number}
use Rattle.quantity.specs.declared.refusal.Refusal.{Refusal}
use Rattle.quantity.specs.declared.refusal.Refusal.TheVariants.{Unusable, PathNumberWrong, LedgerFull, LinkShort}
use Rattle.quantity.proofs.Refusals.{NoneStands, FirstIs, none-where-result, first_of-none, first-of-each}
use Rattle.sheet.specs.Sheets.{sheet_cases, path_in}
use Rattle.figures.specs.Answers.{path_cases}
use Rattle.ledger.specs.declared.Record.{Record}
use Rattle.ledger.specs.declared.Ledger.{Ledger}
use Rattle.ledger.specs.Records.{no_record, number_at, reserved}
use Rattle.ledger.specs.Ledgers.{record_count, total_of, capacities_fit, ledger_unusable}
use Rattle.ledger.specs.Opening.{asked_for, open_cases, new_ledger, no_ledger, opened_of, records_opened}
use Rattle.ledger.specs.Release.{record_of_number}
use Rattle.ledger.specs.Calls.{Call, hold, confirm, release, spare, number_wrong, Grant}
use Rattle.ledger.specs.Account.{Account, reserved_on, stands_in, short_in, without, call_cases, granted, account_answer, account_next, account_after}
use Rattle.ledger.specs.Lists.{Book, ledger_by, opened, answered, called, called_all, account_all}
use Rattle.ledger.specs.Kept.{Kept}
use Rattle.ledger.proofs.Answering.{first-of-err, none-of-ok}
use Rattle.ledger.proofs.UsableLedger.{ledger-usable}
use Rattle.ledger.proofs.Entries.{numbers-once, remove-count, mark-in}
use Rattle.ledger.proofs.Books.{ledger_of, book_of, SoundAccount, reserved-same, total-same, usable_same}
use Rattle.ledger.proofs.NextCalls.{answer-same, called_same}
use Rattle.ledger.proofs.SheetRefusals.{sheet-refusal}

-- what every account that calls lead to has

pub record Led (capacities : List ℕ) (book : Book) (entries : Account) : Type 0 where
  pub is : book ≡ book_of capacities entries
  pub sound : SoundAccount capacities entries

led_on : (capacities : List ℕ) (book : Book) (entries : Account) (calls : List Call) → Led capacities book entries → Led capacities (called_all book calls) (account_all capacities entries calls)
unfolding called_all account_all
led_on capacities book entries [] led = led
led_on capacities book entries (call ∷ calls) led =
    let (next, sound) = called_same capacities entries led.sound call in
    led_on capacities (called book call) (account_after capacities entries call) calls (record { is = ap (λ b. called b call) led.is ∙ next; sound = sound })

-- nothing is reserved yet
new-ledger : (capacities : List ℕ) → new_ledger capacities ≡ ledger_of capacities []
unfolding new_ledger reserved_on list_of
new-ledger capacities = refl

led-new : (capacities : List ℕ) (lent : List Record) → IsOk (opened_of capacities lent) → Led capacities (opened capacities lent) []
unfolding opened opened_of records_opened new_ledger reserved_on
led-new capacities lent accepted =
    let cases = open_cases capacities lent in
    let none : NoneStands cases = none-where-result Err (Ok (new_ledger capacities)) (λ (answer : Result Ledger Refusal). IsOk answer) (λ why ok. absurd (cc)) cases accepted in
    record {
      is =
          ap₂ (λ (l : Ledger) (r : List Record). record { ledger = l; records = r })
          (ap (λ (answer : Result Ledger Refusal). ledger_by (λ (l : Ledger). l) no_ledger answer) (first_of-none Err (Ok (new_ledger capacities)) cases none) ∙ new-ledger capacities)
          (first_of-none (λ why. lent) (replicate record_count no_record) cases none);
      sound = record { inside = not-false (capacities_fit (asked_for capacities)) none.1.0; few = omega arith; sound = tt; within = λ link less. omega arith };
    }

-- An answer 1 comes from the number alone, and 11 from a full ledger alone: a sheet is refused by 2 to 9.

module _ (capacities : List ℕ) (entries : Account) where
  -- the first refusal of a call that answers one
  first-of-answer : (call : Call) {why : Refusal} → account_answer capacities entries call ≡ Err why → FirstIs (call_cases capacities entries call) why
  unfolding account_answer
  first-of-answer call refused = first-of-err (call_cases capacities entries call) (granted capacities entries call) refl refused

  module _ (number : ℕ) (sheet : List ℕ) (why : Refusal) where
    abbrev standing : List Case
    standing = (stands_in number entries ⇒ PathNumberWrong) ∷ (eqb (length entries) record_count ⇒ LedgerFull) ∷ (short_in capacities entries (path_in sheet) ⇒ LinkShort) ∷ []

    number-first : FirstIs (call_cases capacities entries (hold number sheet)) why → refusal_number why ≡ 1 → not (in_range path_number_range number) ≡ true
    number-first (inl (stands, same)) one = stands
    number-first (inr (passed, later)) one = absurd (⊎_elim of-sheet of-ledger (first-of-each why (sheet_cases sheet ++ path_cases (path_in sheet)) standing later))
      where
        of-sheet : FirstIs (sheet_cases sheet ++ path_cases (path_in sheet)) why → ⊥
        of-sheet first = let (low, range) = sheet-refusal sheet why first in ⊎_elim (λ high. omega arith) (λ beyond. omega arith) range

        of-ledger : FirstIs standing why → ⊥
        of-ledger (inl (stands, same)) = omega (arith, one, ap refusal_number same)
        of-ledger (inr (_, inl (stands, same))) = omega (arith, one, ap refusal_number same)
        of-ledger (inr (_, inr (_, inl (stands, same)))) = omega (arith, one, ap refusal_number same)
        of-ledger (inr (_, inr (_, inr (_, none)))) = none

    full-first : FirstIs (call_cases capacities entries (hold number sheet)) why → refusal_number why ≡ 11 → length entries ≡ record_count
    full-first (inl (stands, same)) eleven = absurd (omega (arith, eleven, ap refusal_number same))
    full-first (inr (passed, later)) eleven = ⊎_elim (λ first. absurd (of-sheet first)) of-ledger (first-of-each why (sheet_cases sheet ++ path_cases (path_in sheet)) standing later)
      where
        of-sheet : FirstIs (sheet_cases sheet ++ path_cases (path_in sheet)) why → ⊥
        of-sheet first = let (low, range) = sheet-refusal sheet why first in ⊎_elim (λ high. omega arith) (λ beyond. omega arith) range

        of-ledger : FirstIs standing why → length entries ≡ record_count
        of-ledger (inl (stands, same)) = absurd (omega (arith, eleven, ap refusal_number same))
        of-ledger (inr (_, inl (stands, same))) = eqb-true (length entries) record_count stands
        of-ledger (inr (_, inr (_, inl (stands, same)))) = absurd (omega (arith, eleven, ap refusal_number same))
        of-ledger (inr (_, inr (_, inr (_, none)))) = absurd none

  confirm-first : (number : ℕ) (why : Refusal) → FirstIs (call_cases capacities entries (confirm number)) why → refusal_number why ≡ 1 → not (in_range path_number_range number) ≡ true
  confirm-first number why (inl (stands, same)) one = stands
  confirm-first number why (inr (_, inl (stands, same))) one = absurd (omega (arith, one, ap refusal_number same))
  confirm-first number why (inr (_, inr (_, inl (stands, same)))) one = absurd (omega (arith, one, ap refusal_number same))
  confirm-first number why (inr (_, inr (_, inr (_, none)))) one = absurd none

  release-first : (number : ℕ) (why : Refusal) → FirstIs (call_cases capacities entries (release number)) why → refusal_number why ≡ 1 → not (in_range path_number_range number) ≡ true
  release-first number why (inl (stands, same)) one = stands
  release-first number why (inr (_, inl (stands, same))) one = absurd (omega (arith, one, ap refusal_number same))
  release-first number why (inr (_, inr (_, none))) one = absurd none

  spare-first : (link : ℕ) (why : Refusal) → FirstIs (call_cases capacities entries (spare link)) why → refusal_number why ≡ 1 → ⊥
  spare-first link why (inl (stands, same)) one = omega (arith, one, ap refusal_number same)
  spare-first link why (inr (_, none)) one = none

  unusable-number : (call : Call) → account_answer capacities entries call ≡ Err Unusable → number_wrong call ≡ true
  unfolding number_wrong
  unusable-number (hold number sheet) refused = number-first number sheet Unusable (first-of-answer (hold number sheet) refused) refl
  unusable-number (confirm number) refused = confirm-first number Unusable (first-of-answer (confirm number) refused) refl
  unusable-number (release number) refused = release-first number Unusable (first-of-answer (release number) refused) refl
  unusable-number (spare link) refused = absurd (spare-first link Unusable (first-of-answer (spare link) refused) refl)

  full-only : (number : ℕ) (sheet : List ℕ) → account_answer capacities entries (hold number sheet) ≡ Err LedgerFull → length entries ≡ record_count
  full-only number sheet refused = full-first number sheet LedgerFull (first-of-answer (hold number sheet) refused) refl

  -- a release that is taken leaves a record free
  one_free : SoundAccount capacities entries → (number : ℕ) {grant : Grant} → account_answer capacities entries (release number) ≡ Ok grant → length (account_after capacities entries (release number)) < record_count
  unfolding account_answer account_after account_next
  one_free sound number accepted =
      let cases = call_cases capacities entries (release number) in
      let (none, _) = none-of-ok cases (granted capacities entries (release number)) refl accepted in
      let after = ap length (first_of-none (λ why. entries) (without number entries) cases none) in
      let fewer = remove-count entries number (not-false (stands_in number entries) none.1.0) in
      let few = sound.few in
      omega arith

pub ledger-kept : (capacities : List ℕ) (lent : List Record) → IsOk (opened_of capacities lent) → (calls : List Call) → Kept capacities lent calls
ledger-kept capacities lent accepted calls =
    let led = led_on capacities (opened capacities lent) [] calls (led-new capacities lent accepted) in
    let entries = account_all capacities [] calls in
    let is = led.is in
    let answers : (call : Call) → answered (called_all (opened capacities lent) calls) call ≡ account_answer capacities entries call = λ call. ap (λ (b : Book). answered b call) is ∙ answer-same capacities entries led.sound call in
    record {
      answers = answers;
      stored = λ link less. ap (λ (b : Book). total_of b.ledger link) is ∙ total-same capacities entries link less ∙ sym (ap (λ (b : Book). reserved b.records b.ledger.count link) is);
      totals = λ link less. ap (λ (b : Book). reserved b.records b.ledger.count link) is ∙ reserved-same capacities entries link less;
      within = led.sound.within;
      usable = ap (λ (b : Book). ledger_unusable b.ledger b.records) is ∙ ledger-usable _ _ (usable_same capacities entries led.sound);
      unusable_only = λ call refused. unusable-number capacities entries call (sym (answers call) ∙ refused);
      once = subst (λ (b : Book). (i j : ℕ) → i < j → j < b.ledger.count → number_at b.records i ≡ number_at b.records j → ⊥) (sym is) (λ i j. numbers-once entries (record_count - length entries) i j led.sound.sound);
      counted = ap (λ (b : Book). b.ledger.count) is;
      ordered = ap (λ (b : Book). b.records) is;
      marks = λ number standing. ap (λ (b : Book). (record_of_number b.ledger b.records number).mark) is ∙ mark-in entries (record_count - length entries) number standing;
      freed =
          λ number grant granted next sheet full.
          let released : account_answer capacities entries (release number) ≡ Ok grant = sym (answers (release number)) ∙ granted in
          let (left, sound) = called_same capacities entries led.sound (release number) in
          let after = account_after capacities entries (release number) in
          let same : answered (called (called_all (opened capacities lent) calls) (release number)) (hold next sheet) ≡ account_answer capacities after (hold next sheet) = ap (λ (b : Book). answered (called b (release number)) (hold next sheet)) is ∙ ap (λ (b : Book). answered b (hold next sheet)) left ∙ answer-same capacities after sound (hold next sheet) in
          let filled = full-only capacities after next sheet (sym same ∙ full) in
          let free = one_free capacities entries led.sound number released in
          omega arith;
    }
