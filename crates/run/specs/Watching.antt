-- What each operator of a run holds (sections 3 and 6), for people who watch a path; refused by 1 as a slot is for what is stored.
use Rattle.std.specs.Prelude.{ℕ, List, [], ◌∷◌, Result, Ok, Err, ltb}
use Rattle.quantity.specs.Limits.{most_operators}
use Rattle.quantity.specs.Choice.{pick}
use Rattle.quantity.specs.Sums.{list_of}
use Rattle.quantity.specs.Refusals.{◌⇒◌, first_of}
use Rattle.quantity.specs.declared.Units.{Units}
use Rattle.quantity.specs.declared.refusal.Refusal.{Refusal}
use Rattle.quantity.specs.declared.refusal.Refusal.TheVariants.{Unusable}
use Rattle.operator.specs.Held.{Held}
use Rattle.operator.specs.Ring.{path_holds}
use Rattle.run.specs.Runs.{operator_words, operator_in, run_unusable}
use Rattle.run.specs.declared.Run.{Run}

-- section 3's b, h and past of operator k, as run and words have them: a delayer's are read off its totals and its ring
unfoldable pub run_holds : Run → List ℕ → ℕ → Held
run_holds run words k = path_holds (operator_in run k) (operator_words words k)

-- its b, and 0 behind the path's operators
unfoldable pub units_held : Run → List ℕ → ℕ → Units
units_held run words k = record { 0 = pick (ltb k run.count) (run_holds run words k).b 0 }

-- what the watch answers
unfoldable pub watched_of : Run → List ℕ → Result (List Units) Refusal
watched_of run words = first_of ((run_unusable run words ⇒ Unusable) ∷ []) Err (Ok (list_of (units_held run words) most_operators))
