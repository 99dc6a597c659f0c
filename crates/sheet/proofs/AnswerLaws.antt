-- What was answered tells how a test came out: one law for the readers of every body, and others for every call that may be refused.
use mathlib.Core.Path.{◌≡◌, refl, sym, ap, ◌∙◌}
use mathlib.Core.Bool.{Bool, true, false}
use mathlib.Core.List.{List}
use Rattle.std.specs.Prelude.{Option, Some, None, Result, Ok, Err}
use Rattle.std.specs.Option.{ok_or}
use Rattle.quantity.specs.Choice.{pick}
use Rattle.quantity.specs.Refusals.{Case, first_of}
use Rattle.quantity.specs.declared.refusal.Refusal.{Refusal}
use Rattle.quantity.proofs.Refusals.{NoneStands, none-where-result, first_of-none, first_of-map}

-- what a value that a test allows, or else a refusal, tells of the test
pub record ToldOr {A : Type 0} (t : Bool) (value : A) (why : Refusal) (answer : Result A Refusal) : Type 0 where
  pub within : {found : A} → answer ≡ Ok found → (t ≡ true) × (found ≡ value)
  pub outside : {found : Refusal} → answer ≡ Err found → (t ≡ false) × (found ≡ why)

pub told-or : {A : Type 0} (t : Bool) (value : A) (why : Refusal) {allowed : Option A} {answer : Result A Refusal} → allowed ≡ pick t (Some value) None → answer ≡ ok_or allowed why → ToldOr t value why answer
told-or true value why e same = let here = rw e at same in record { within = λ found. (refl, cc); outside = λ found. cc }
told-or false value why e same = let here = rw e at same in record { within = λ found. cc; outside = λ found. (refl, cc) }

-- no refusal is a result
pub never-ok : {A : Type 0} (result : A) (why : Refusal) → ◌≡◌ {A = Result A Refusal} (Err why) (Ok result) → ⊥
never-ok result why e = cc

module _ {A : Type 0} (result : A) (cases : List Case) where
  -- what was answered with a result is the result, and no refusal stands
  pub none-of-ok : {found : A} → first_of cases Err (Ok result) ≡ Ok found → NoneStands cases
  none-of-ok {found} = none-where-result Err (Ok result) (λ answer. answer ≡ Ok found) (never-ok found) cases

  pub ok-is : {found : A} → first_of cases Err (Ok result) ≡ Ok found → found ≡ result
  ok-is e = let none = first_of-none Err (Ok result) cases (none-of-ok e) in cc

-- what is answered behind an answer: its refusal, or what is made of its result
abbrev pub behind : {A B : Type 0} → (A → Result B Refusal) → Result A Refusal → Result B Refusal
behind next (Err why) = Err why
behind next (Ok result) = next result

pub behind-first : {A B : Type 0} (next : A → Result B Refusal) (result : A) (cases : List Case) {answer : Result A Refusal} → answer ≡ first_of cases Err (Ok result) → first_of cases Err (next result) ≡ behind next answer
behind-first next result cases e = sym (ap (behind next) e ∙ first_of-map (behind next) Err (Ok result) cases)
