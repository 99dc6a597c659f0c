-- What the watch answers: by the test, and operator by operator what each holds.
use mathlib.Core.Path.{◌≡◌, ap, sym, ◌∙◌}
use mathlib.Core.Bool.{true, false}
use mathlib.Core.List.{List}
use Rattle.std.specs.Prelude.{Ok, Err}
use Prim.Native.Nat.{ℕ, ◌≤◌, ◌<◌}
use lib.ListN.{get_or}
use borrow.Author.Tests.{lt-ltb, le-ltb}
use Rattle.quantity.specs.Limits.{most_operators}
use Rattle.quantity.specs.Choice.{pick}
use Rattle.quantity.specs.Sums.{list_of}
use Rattle.quantity.specs.declared.Units.{Units}
use Rattle.quantity.specs.declared.refusal.Refusal.TheVariants.{Unusable}
use Rattle.quantity.proofs.Laws.{pick_true, pick-false}
use Rattle.operator.specs.Single.{uses_held}
use Rattle.operator.specs.Ring.{ring_held, path_holds}
use Rattle.operator.specs.declared.ring.PathOperator.{PathOperator}
use Rattle.run.specs.declared.Run.{Run}
use Rattle.run.specs.Runs.{no_stage, stage_at, operator_of, operator_in, run_unusable}
use Rattle.run.specs.Watching.{run_holds, units_held, watched_of}

abbrev none : Units
none = record { 0 = 0 }

module _ (run : Run) (words : List ℕ) where
  -- what operator k holds
  pub units-here : (k : ℕ) → k < run.count → {x : PathOperator} → x ≡ operator_of (get_or run.stages k no_stage) run.slot
      → {units : Units} → units.0 ≡ pick (uses_held x.operator) x.held.0 (ring_held x) → units ≡ units_held run words k
  unfolding units_held run_holds path_holds operator_in stage_at
  units-here k less same holds =
      ap (λ (n : ℕ). record { 0 = n })
      (holds ∙ ap (λ (x : PathOperator). pick (uses_held x.operator) x.held.0 (ring_held x)) same ∙ sym (pick_true _ _ _ (lt-ltb k run.count less)))

  -- behind the last operator nothing is held
  pub units-behind : (k : ℕ) → run.count ≤ k → none ≡ units_held run words k
  unfolding units_held
  units-behind k behind = ap (λ (n : ℕ). record { 0 = n }) (sym (pick-false _ _ _ (le-ltb k run.count behind)))

  -- the watch answers by the test
  pub watched-usable : run_unusable run words ≡ false → {held : List Units} → held ≡ list_of (units_held run words) most_operators → Ok held ≡ watched_of run words
  unfolding watched_of
  watched-usable usable same = ap Ok same ∙ sym (pick-false _ _ _ usable)

  pub watched-unusable : run_unusable run words ≡ true → Err Unusable ≡ watched_of run words
  unfolding watched_of
  watched-unusable unusable = sym (pick_true _ _ _ unusable)
