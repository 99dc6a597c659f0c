-- Section 7, and document 02: the paper's number and place of each refusal, and how a call answers the first that stands.
use Rattle.std.specs.Prelude.{ℕ, Bool, List, [], ◌∷◌, ◌++◌, codes, decimal}
use Rattle.quantity.specs.Choice.{pick}
use Rattle.quantity.specs.declared.refusal.Refusal.{Refusal}
use Rattle.quantity.specs.declared.refusal.Refusal.TheVariants.{Unusable, HeaderCutOff, FieldUnexpected, BodyCutOff, OutOfRange, FramedAfterFilter, FigureTooLarge, RateTooLow, DelayAboveWanted, PathNumberWrong, LedgerFull, LinkShort, InputBreaksDeclaration, ChoiceAboveGreatest, RowsOutOfOrder, ConfirmedAlready}

abbrev pub refusal_number : Refusal → ℕ
refusal_number Unusable = 1
refusal_number (HeaderCutOff at) = 2
refusal_number (FieldUnexpected at) = 3
refusal_number (BodyCutOff at) = 4
refusal_number (OutOfRange at) = 5
refusal_number (FramedAfterFilter at) = 6
refusal_number (FigureTooLarge at) = 7
refusal_number (RateTooLow at) = 8
refusal_number DelayAboveWanted = 9
refusal_number PathNumberWrong = 10
refusal_number LedgerFull = 11
refusal_number LinkShort = 12
refusal_number InputBreaksDeclaration = 13
refusal_number (ChoiceAboveGreatest at) = 14
refusal_number (RowsOutOfOrder at) = 15
refusal_number ConfirmedAlready = 16

-- the field's first byte for 2 to 5 and 15, the operator's index for 6 to 8 and 14, else 0
abbrev pub refusal_place : Refusal → ℕ
refusal_place Unusable = 0
refusal_place (HeaderCutOff at) = at
refusal_place (FieldUnexpected at) = at
refusal_place (BodyCutOff at) = at
refusal_place (OutOfRange at) = at
refusal_place (FramedAfterFilter at) = at
refusal_place (FigureTooLarge at) = at
refusal_place (RateTooLow at) = at
refusal_place DelayAboveWanted = 0
refusal_place PathNumberWrong = 0
refusal_place LedgerFull = 0
refusal_place LinkShort = 0
refusal_place InputBreaksDeclaration = 0
refusal_place (ChoiceAboveGreatest at) = at
refusal_place (RowsOutOfOrder at) = at
refusal_place ConfirmedAlready = 0

-- how a refusal is written: `refused`, its number and its place
abbrev pub refusal_text : Refusal → List ℕ
refusal_text why = codes "refused " ++ decimal (refusal_number why) ++ codes " " ++ decimal (refusal_place why)

-- a refusal with the condition under which it stands
pub record Case : Type 0 where
  pub stands : Bool
  pub refusal : Refusal

abbrev pub ◌⇒◌ : Bool → Refusal → Case
stands ⇒ refusal = record { stands = stands; refusal = refusal }

infix 10 ◌⇒◌
-- what a call answers: the first refusal of the list that stands, else its result
abbrev pub first_of : {A : Type 0} → List Case → (Refusal → A) → A → A
first_of [] refused result = result
first_of (c ∷ cs) refused result = pick c.stands (refused c.refusal) (first_of cs refused result)
