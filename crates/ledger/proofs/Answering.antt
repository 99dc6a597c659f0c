-- What a call answers, and what it leaves, by the first of its refusals that stands or by that none does; and what an answer tells of them.
use Rattle.std.proofs.Common.{◌≡◌, List, sym, refl, ◌∙◌, subst, ⊎_elim, Option, Some, None, Result, Ok, Err, ok_or}
use Rattle.quantity.specs.Refusals.{Case, first_of}
use Rattle.quantity.specs.declared.refusal.Refusal.{Refusal}
use Rattle.quantity.proofs.Refusals.{NoneStands, FirstIs, first_of-none, none-or-first, first-answered}

module _ {A B : Type 0} (cases : List Case) (result : A) (before after : B) where
  pub refused-first : {why : Refusal} → FirstIs cases why → (Err why ≡ first_of cases Err (Ok result)) × (before ≡ first_of cases (λ why. before) after)
  refused-first {why} first = (sym (first-answered Err (Ok result) why cases first), sym (first-answered (λ why. before) after why cases first))

  pub taken-none : NoneStands cases → (Ok result ≡ first_of cases Err (Ok result)) × (after ≡ first_of cases (λ why. before) after)
  taken-none none = (sym (first_of-none Err (Ok result) cases none), sym (first_of-none (λ why. before) after cases none))

module _ {A : Type 0} (cases : List Case) (result : A) {answer : Result A Refusal} (is : answer ≡ first_of cases Err (Ok result)) where
  pub first-of-err : {why : Refusal} → answer ≡ Err why → FirstIs cases why
  first-of-err {why} refused =
      ⊎_elim (λ none. let taken = first_of-none Err (Ok result) cases none in absurd (cc))
      (λ (other, first). let answered = first-answered Err (Ok result) other cases first in let same : other ≡ why = cc in subst (FirstIs cases) same first) (none-or-first cases)

  pub none-of-ok : {found : A} → answer ≡ Ok found → NoneStands cases × (found ≡ result)
  none-of-ok {found} taken =
      ⊎_elim (λ none. let answered = first_of-none Err (Ok result) cases none in let same : found ≡ result = cc in (none, same))
      (λ (other, first). let answered = first-answered Err (Ok result) other cases first in absurd (cc)) (none-or-first cases)

-- and what `ok_or` answers tells of its option
module _ {A : Type 0} (why : Refusal) (option : Option A) {answer : Result A Refusal} (is : answer ≡ ok_or option why) where
  pub ok_or-err : {told : Refusal} → answer ≡ Err told → (option ≡ None) × (told ≡ why)
  ok_or-err {told} e = by_option option (sym e ∙ is)
    where
      by_option : (o : Option A) → Err told ≡ ok_or o why → (o ≡ None) × (told ≡ why)
      by_option None e = (refl, (cc))
      by_option (Some x) e = absurd (cc)

  pub ok_or-ok : {found : A} → answer ≡ Ok found → option ≡ Some found
  ok_or-ok {found} e = by_option option (sym e ∙ is)
    where
      by_option : (o : Option A) → Ok found ≡ ok_or o why → o ≡ Some found
      by_option None e = absurd (cc)
      by_option (Some x) e = cc
