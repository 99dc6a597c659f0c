-- Serves one theorem, and no promise cites it: the call that holding and confirming stand in for (sections 6 and 7), over records that have a mark.
use Rattle.std.specs.Prelude.{ℕ, ◌+◌, not, List, [], ◌∷◌, ◌++◌, slice_set, Result, Ok, Err}
use Rattle.quantity.specs.Sums.{list_of}
use Rattle.quantity.specs.Ranges.{in_range, path_number_range}
use Rattle.quantity.specs.Refusals.{Case, ◌⇒◌, first_of}
use Rattle.quantity.specs.declared.refusal.Refusal.{Refusal}
use Rattle.quantity.specs.declared.refusal.Refusal.TheVariants.{Unusable, PathNumberWrong, LedgerFull, LinkShort}
use Rattle.sheet.specs.Paths.{Path}
use Rattle.sheet.specs.Sheets.{path_in}
use Rattle.figures.specs.Answers.{figures_cases, path_delay}
use Rattle.ledger.specs.declared.Record.{Record}
use Rattle.ledger.specs.declared.Ledger.{Ledger}
use Rattle.ledger.specs.declared.holding.Holding.{Holding}
use Rattle.ledger.specs.Records.{mark_confirmed, stands}
use Rattle.ledger.specs.Ledgers.{link_count, total_of, ledger_unusable}
use Rattle.ledger.specs.Holding.{rate_of, rate_on, links_of, ledger_full, link_short, holding_of, records_held}
use Rattle.ledger.specs.Confirming.{confirmed_of, records_confirmed}
use Rattle.ledger.specs.Calls.{Answer, answer_by}
use Rattle.ledger.specs.Lists.{of_holding}

-- what is answered, and what is left
pub record Outcome : Type 0 where
  pub answer : Answer
  pub ledger : Ledger
  pub records : List Record

-- Admission, as it was.

abbrev pub admission_cases : Ledger → List Record → ℕ → List ℕ → List Case
admission_cases ledger records number sheet =
    (not (in_range path_number_range number) ⇒ Unusable)
    ∷ (ledger_unusable ledger records ⇒ Unusable)
    ∷ figures_cases sheet
    ++ ((stands records ledger.count number ⇒ PathNumberWrong)
    ∷ (ledger_full ledger ⇒ LedgerFull)
    ∷ (link_short ledger (path_in sheet) ⇒ LinkShort)
    ∷ [])

-- refused, all is as it was
unfoldable pub refused_admission : Ledger → List Record → Refusal → Outcome
refused_admission ledger records why = record { answer = Err why; ledger = ledger; records = records }

-- the record had no mark: it is that of a path that needs no confirming
unfoldable pub admitted_record : ℕ → Path → Record
admitted_record number path = record { number = record { 0 = number }; rate = record { 0 = rate_of path }; links = links_of path; mark = mark_confirmed }

unfoldable pub accepted_admission : Ledger → List Record → ℕ → Path → Outcome
accepted_admission ledger records number path =
    record {
      answer = Ok (record { rate = rate_of path; delay = path_delay path });
      ledger = record { capacities = ledger.capacities; totals = list_of (λ link. record { 0 = total_of ledger link + rate_on link path }) link_count; count = ledger.count + 1 };
      records = slice_set records ledger.count (admitted_record number path);
    }

unfoldable pub admission_of : Ledger → List Record → ℕ → List ℕ → Outcome
admission_of ledger records number sheet =
    first_of (admission_cases ledger records number sheet) (refused_admission ledger records) (accepted_admission ledger records number (path_in sheet))

-- Holding and, if that is accepted, confirming at once.

-- refused, it ends there; accepted, confirming answers and leaves the rest
unfoldable pub then_confirmed : Ledger → Result Holding Refusal → List Record → ℕ → Outcome
then_confirmed ledger (Ok holding) held number =
    record {
      answer = answer_by (λ done. of_holding holding) (confirmed_of holding.ledger held number);
      ledger = holding.ledger;
      records = records_confirmed holding.ledger held number;
    }
then_confirmed ledger (Err why) held number = record { answer = Err why; ledger = ledger; records = held }

unfoldable pub held_and_confirmed : Ledger → List Record → ℕ → List ℕ → Outcome
held_and_confirmed ledger records number sheet = then_confirmed ledger (holding_of ledger records number sheet) (records_held ledger records number sheet) number
