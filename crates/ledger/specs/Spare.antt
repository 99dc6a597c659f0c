-- A link's spare rate (section 7, and document 02, item 5): 1 and 5. It is asked of the ledger alone; no record is lent.
use Rattle.std.specs.Prelude.{ℕ, ◌-◌, Bool, not, List, [], ◌∷◌, nat_le, Result, Ok, Err}
use Rattle.quantity.specs.Choice.{either}
use Rattle.quantity.specs.Sums.{every}
use Rattle.quantity.specs.Ranges.{in_range, link_range}
use Rattle.quantity.specs.Refusals.{Case, ◌⇒◌, first_of}
use Rattle.quantity.specs.declared.Rate.{Rate}
use Rattle.quantity.specs.declared.refusal.Refusal.{Refusal}
use Rattle.quantity.specs.declared.refusal.Refusal.TheVariants.{Unusable, OutOfRange}
use Rattle.ledger.specs.declared.Ledger.{Ledger}
use Rattle.ledger.specs.Ledgers.{link_count, capacity_of, total_of, capacities_fit}

-- a link's stored total is at most its capacity
unfoldable pub total_fits : Ledger → ℕ → Bool
total_fits ledger link = nat_le (total_of ledger link) (capacity_of ledger link)

-- 1: a capacity is out of its range, or a total above its capacity, on any of the sixteen links; nothing else is tested
unfoldable pub links_unusable : Ledger → Bool
links_unusable ledger = either (not (capacities_fit (capacity_of ledger))) (not (every (total_fits ledger) link_count))

abbrev pub spare_cases : Ledger → ℕ → List Case
spare_cases ledger link =
    (links_unusable ledger ⇒ Unusable)
    ∷ (not (in_range link_range link) ⇒ OutOfRange 0)
    ∷ []

-- what is asked: the capacity less the stored total
unfoldable pub spare_of : Ledger → ℕ → Result Rate Refusal
spare_of ledger link = first_of (spare_cases ledger link) Err (Ok (record { 0 = capacity_of ledger link - total_of ledger link }))
