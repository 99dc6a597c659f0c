-- Document 02, item 4, and section 7: what making a page answers and leaves. It goes through 1 and then through 2 to 9, as the figures do.
use Rattle.std.specs.Prelude.{ℕ, not, List, ◌∷◌, length, eqb, Result, Ok, Err}
use Rattle.quantity.specs.Lent.{written_over}
use Rattle.quantity.specs.Refusals.{Case, ◌⇒◌, first_of}
use Rattle.quantity.specs.declared.refusal.Refusal.{Refusal}
use Rattle.quantity.specs.declared.refusal.Refusal.TheVariants.{Unusable}
use Rattle.sheet.specs.Sheets.{path_in}
use Rattle.figures.specs.Answers.{figures_cases}
use Rattle.page.specs.Pages.{page_of}

-- 1: the page is not lent 1,037 bytes, which is seventeen lines
unfoldable pub page_cases : List ℕ → List ℕ → List Case
page_cases sheet lent = (not (eqb (length lent) 1037) ⇒ Unusable) ∷ figures_cases sheet

-- what is answered: the page's length
unfoldable pub page_answer : List ℕ → List ℕ → Result ℕ Refusal
page_answer sheet lent = first_of (page_cases sheet lent) Err (Ok (length (page_of (path_in sheet))))

-- what the lent bytes hold then: the page, and behind it what they held; all that they held where it is refused
unfoldable pub bytes_paged : List ℕ → List ℕ → List ℕ
bytes_paged sheet lent = first_of (page_cases sheet lent) (λ why. lent) (written_over (page_of (path_in sheet)) lent)
