-- A call answers its result where, and only where, no refusal of its list stands, and else the first that does: by induction on the list, for every call.
use mathlib.Core.Path.{◌≡◌, refl, ap, ◌∙◌}
use mathlib.Core.Bool.{Bool, true, false}
use mathlib.Core.List.{List, [], ◌∷◌, ◌++◌}
use mathlib.Core.Logic.{◌⊎◌, inl, inr, ⊎_elim}
use Rattle.quantity.specs.Choice.{pick}
use Rattle.quantity.specs.Refusals.{Case, first_of}
use Rattle.quantity.specs.declared.refusal.Refusal.{Refusal}
use Rattle.quantity.proofs.Laws.{pick-map}

-- no case of the list stands
abbrev pub NoneStands : List Case → Type 0
NoneStands [] = Unit {0}
NoneStands (c ∷ cs) = (c.stands ≡ false) × NoneStands cs

pub none-of-both : (cs ds : List Case) → NoneStands cs → NoneStands ds → NoneStands (cs ++ ds)
none-of-both [] ds ns ms = ms
none-of-both (c ∷ cs) ds ns ms = (ns.0, none-of-both cs ds ns.1 ms)

pub none-of-each : (cs ds : List Case) → NoneStands (cs ++ ds) → NoneStands cs × NoneStands ds
none-of-each [] ds ns = (tt, ns)
none-of-each (c ∷ cs) ds ns = let (first, second) = none-of-each cs ds ns.1 in ((ns.0, first), second)

module _ {A : Type 0} (refused : Refusal → A) (result : A) where
  pub first_of-none : (cs : List Case) → NoneStands cs → first_of cs refused result ≡ result
  first_of-none [] ns = refl
  first_of-none (c ∷ cs) ns = ap (λ (t : Bool). pick t (refused c.refusal) (first_of cs refused result)) ns.0 ∙ first_of-none cs ns.1

  -- of two lists in a row
  pub first_of-append : (cs ds : List Case) → first_of (cs ++ ds) refused result ≡ first_of cs refused (first_of ds refused result)
  first_of-append [] ds = refl
  first_of-append (c ∷ cs) ds = ap (pick c.stands (refused c.refusal)) (first_of-append cs ds)

  -- an answer of which something holds that holds of no refusal
  pub none-where-result : (P : A → Type 0) → ((why : Refusal) → P (refused why) → ⊥) → (cs : List Case) → P (first_of cs refused result) → NoneStands cs
  none-where-result P never [] h = tt
  none-where-result P never (c ∷ cs) h = by-test c.stands refl (none-where-result P never cs)
    where
      by-test : (t : Bool) → c.stands ≡ t → (P (first_of cs refused result) → NoneStands cs) → NoneStands (c ∷ cs)
      by-test true e rest = absurd (never c.refusal (rw e at h))
      by-test false e rest = (e, rest (rw e at h))

-- what is made of an answer is made of each refusal and of the result
pub first_of-map : {A B : Type 0} (f : A → B) (refused : Refusal → A) (result : A) (cs : List Case) → f (first_of cs refused result) ≡ first_of cs (λ why. f (refused why)) (f result)
first_of-map f refused result [] = refl
first_of-map f refused result (c ∷ cs) = pick-map f c.stands (refused c.refusal) (first_of cs refused result) (first_of-map f refused result cs)

-- the first of the list that stands is this refusal
abbrev pub FirstIs : List Case → Refusal → Type 0
FirstIs [] why = ⊥
FirstIs (c ∷ cs) why = ((c.stands ≡ true) × (c.refusal ≡ why)) ⊎ ((c.stands ≡ false) × FirstIs cs why)

pub none-or-first : (cs : List Case) → NoneStands cs ⊎ ((why : Refusal) × FirstIs cs why)
none-or-first [] = inl tt
none-or-first (c ∷ cs) = by-test c.stands refl (none-or-first cs)
  where
    by-test : (t : Bool) → c.stands ≡ t → NoneStands cs ⊎ ((why : Refusal) × FirstIs cs why) → NoneStands (c ∷ cs) ⊎ ((why : Refusal) × FirstIs (c ∷ cs) why)
    by-test true e rest = inr (c.refusal, inl (e, refl))
    by-test false e (inl none) = inl (e, none)
    by-test false e (inr (why, first)) = inr (why, inr (e, first))

pub first-answered : {A : Type 0} (refused : Refusal → A) (result : A) (why : Refusal) (cs : List Case) → FirstIs cs why → first_of cs refused result ≡ refused why
first-answered refused result why (c ∷ cs) (inl (e, same)) = rw e (ap refused same)
first-answered refused result why (c ∷ cs) (inr (e, first)) = rw e (first-answered refused result why cs first)
first-answered {A = A} refused result why [] x' = elim x' [ ]

-- a first of a list is the first of a longer one
pub first-of-more : (why : Refusal) (cs ds : List Case) → FirstIs cs why → FirstIs (cs ++ ds) why
first-of-more why (c ∷ cs) ds (inl here) = inl here
first-of-more why (c ∷ cs) ds (inr (e, first)) = inr (e, first-of-more why cs ds first)
first-of-more why [] ds x' = elim x' [ ]

-- and a first of two lists in a row is one of either
pub first-of-each : (why : Refusal) (cs ds : List Case) → FirstIs (cs ++ ds) why → FirstIs cs why ⊎ FirstIs ds why
first-of-each why [] ds first = inr first
first-of-each why (c ∷ cs) ds (inl here) = inl (inl here)
first-of-each why (c ∷ cs) ds (inr (e, first)) = ⊎_elim (λ sooner. inl (inr (e, sooner))) inr (first-of-each why cs ds first)
