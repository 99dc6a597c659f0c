-- A sheet that is written stands in the lent bytes.
use Rattle.std.proofs.Common.{◌≡◌, ℕ, ◌≤◌, List, ◌++◌, length, drop, sym, ap, arith, length-append}
use Rattle.std.specs.Prelude.{Ok}
use Rattle.quantity.specs.declared.refusal.Refusal.{Refusal}
use Rattle.quantity.proofs.Refusals.{first_of-none}
use Rattle.sheet.specs.declared.PathValue.{PathValue}
use Rattle.sheet.specs.Sheets.{sheet_of_value, write_cases, write_answer, bytes_written}
use Rattle.sheet.proofs.AnswerLaws.{none-of-ok, ok-is}

pub written_within : (value : PathValue) (lent : List ℕ) (n : ℕ) → Ok n ≡ write_answer value lent → n ≤ length (bytes_written value lent)
unfolding write_answer bytes_written
written_within value lent n e =
    let sheet = sheet_of_value value in
    let cases = write_cases value lent in
    let is : n ≡ length sheet = ok-is (length sheet) cases (sym e) in
    let left : bytes_written value lent ≡ sheet ++ drop (length sheet) lent = first_of-none (λ (why : Refusal). lent) (sheet ++ drop (length sheet) lent) cases (none-of-ok (length sheet) cases (sym e)) in
    omega (arith, is, ap length left, length-append sheet (drop (length sheet) lent))
