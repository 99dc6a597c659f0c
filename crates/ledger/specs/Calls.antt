-- A call of a ledger, of any numbers and any sheet, and its answer.
use Rattle.std.specs.Prelude.{ℕ, Bool, false, not, List, Result, Ok, Err}
use Rattle.quantity.specs.Ranges.{in_range, path_number_range}
use Rattle.quantity.specs.declared.refusal.Refusal.{Refusal}

pub data Call : Type 0 where
  -- hold a sheet's path under a number
  hold : ℕ → List ℕ → Call
  -- confirm the path of a number
  confirm : ℕ → Call
  -- release the path of a number
  release : ℕ → Call
  -- ask for a link's spare rate
  spare : ℕ → Call

-- the path number that it gives is out of its range
unfoldable pub number_wrong : Call → Bool
number_wrong (hold number sheet) = not (in_range path_number_range number)
number_wrong (confirm number) = not (in_range path_number_range number)
number_wrong (release number) = not (in_range path_number_range number)
number_wrong (spare link) = false

-- the rate that a held path reserves or that a link has to spare, and a held path's delay; else 0
pub record Grant : Type 0 where
  pub rate : ℕ
  pub delay : ℕ

abbrev pub Answer : Type 0
Answer = Result Grant Refusal

-- the answer of a call that returned this
abbrev pub answer_by : {A : Type 0} → (A → Grant) → Result A Refusal → Answer
answer_by grant (Ok result) = Ok (grant result)
answer_by grant (Err why) = Err why
