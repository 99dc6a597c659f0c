-- What an operator within a path may send is there, what it holds is within the limit where it can be used, and what advancing answers tells of its tests.
use mathlib.Core.Path.{◌≡◌, refl, sym, subst, ◌∙◌}
use mathlib.Core.Bool.{Bool, true, false}
use mathlib.Core.List.{List}
use Rattle.std.specs.Prelude.{Result, Ok, Err}
use Prim.Native.Nat.{ℕ, ◌+◌, ◌-◌, ◌≤◌}
use native.Mathlib.Omega.{arith}
use borrow.Author.Tests.{leb-true, ltb-false}
use Rattle.quantity.specs.Choice.{pick}
use Rattle.quantity.specs.Limits.{largest_amount}
use Rattle.quantity.proofs.Laws.{pick_true, pick-false}
use Rattle.words.proofs.StoredLaws.{stored-le}
use Rattle.operator.specs.Held.{Held}
use Rattle.operator.specs.Operators.{least_output, greatest_output}
use Rattle.operator.specs.Whole.{Whole}
use Rattle.operator.specs.Single.{words_used, uses_held}
use Rattle.operator.specs.Ring.{ring_held, ring_recent, path_holds, path_least, path_greatest, totals_fit, path_sent, path_choice_above, storable, path_advanced, path_unready, path_holds_sent, ring_place, advanced_of}
use Rattle.operator.specs.declared.Operator.{Operator}
use Rattle.operator.specs.declared.Operator.TheVariants.{Limiter, Compactor, Expander, Filter, Delayer}
use Rattle.operator.specs.declared.ring.PathOperator.{PathOperator}
use Rattle.operator.specs.declared.ring.Advanced.{Advanced}
use Rattle.operator.specs.declared.ring.Halted.{Halted}
use Rattle.operator.proofs.Laws.{greatest-le-there, least-le-greatest}
use Rattle.operator.proofs.RingLaws.{PathUsable}

-- An operator that uses its field is no delayer, so what it holds is whole.
whole_apart : (op : Operator) → uses_held op ≡ true → (y : Held) → Whole op y
unfolding uses_held
whole_apart (Limiter R) apart y = tt
whole_apart (Compactor m) apart y = tt
whole_apart (Expander m) apart y = tt
whole_apart (Filter R) apart y = tt
whole_apart (Delayer d) apart y = let never : ◌≡◌ {A = ℕ} 0 1 = cc in absurd (omega arith)

-- The least output is there to send, whatever is lent and stored.
module _ (x : PathOperator) (words : List ℕ) (input : ℕ) where
  abbrev there : ℕ
  there = (path_holds x words).b + input

  least-apart : uses_held x.operator ≡ true → path_least x words input ≤ there
  unfolding path_least
  least-apart apart =
      let y = path_holds x words in
      omega (
        arith,
        pick_true (uses_held x.operator) (least_output x.operator x.slot.0 y input) (ring_held x - ring_recent (words_used x.operator) x words) apart,
        least-le-greatest x.operator x.slot.0 y input (whole_apart x.operator apart y),
        greatest-le-there x.operator x.slot.0 y input,
      )

  least-ring : uses_held x.operator ≡ false → path_least x words input ≤ there
  unfolding path_least path_holds
  least-ring ring =
      omega (
        arith,
        pick-false (uses_held x.operator) (least_output x.operator x.slot.0 (path_holds x words) input) (ring_held x - ring_recent (words_used x.operator) x words) ring,
        pick-false (uses_held x.operator) x.held.0 (ring_held x) ring,
      )

  least-there : path_least x words input ≤ there
  least-there = by-use (uses_held x.operator) refl
    where
      by-use : (t : Bool) → uses_held x.operator ≡ t → path_least x words input ≤ there
      by-use true apart = least-apart apart
      by-use false ring = least-ring ring

  -- and so is the least with a choice that is not above greatest minus least
  pub path-sent-fits : (choice : ℕ) → path_choice_above x words input choice ≡ false → path_sent x words input choice ≤ (path_holds x words).b + input
  unfolding path_choice_above path_sent path_greatest
  path-sent-fits choice below =
      omega (
        arith,
        ltb-false (greatest_output x.operator x.slot.0 (path_holds x words) input - path_least x words input) choice below,
        greatest-le-there x.operator x.slot.0 (path_holds x words) input,
        least-there,
      )

module _ (x : PathOperator) (words : List ℕ) (stored : PathUsable x words) where
  -- what is held, and a filter's h, are within the limit
  pub path-b-le : (path_holds x words).b ≤ largest_amount
  unfolding path_holds totals_fit
  path-b-le = by-use (uses_held x.operator) refl
    where
      by-use : (t : Bool) → uses_held x.operator ≡ t → pick t x.held.0 (ring_held x) ≤ largest_amount
      by-use true apart = stored-le _ _ stored.held_fits
      by-use false ring = leb-true (ring_held x) largest_amount (sym (pick-false _ _ _ ring) ∙ stored.totals_fit)

-- What advancing tells.

module _ (x : PathOperator) (words : List ℕ) (input choice : ℕ) where
  -- an operator that sends
  pub record Sending (advanced : Advanced) : Type 0 where
    pub ready : path_unready x words input ≡ false
    pub below : path_choice_above x words input choice ≡ false
    pub sent : advanced.output ≡ record { 0 = path_sent x words input choice }
    pub stored : advanced.fits ≡ storable (path_holds_sent x words input choice).b (path_holds_sent x words input choice).h
    pub kept : advanced.next ≡ path_advanced x input (path_sent x words input choice) (path_holds_sent x words input choice).b (path_holds_sent x words input choice).h
    pub placed : advanced.at ≡ ring_place x

  -- what the two tests tell of an answer
  abbrev Told : Result Advanced Halted → Type 0
  Told (Ok advanced) = Sending advanced
  Told (Err Halted.Unusable) = path_unready x words input ≡ true
  Told (Err Halted.ChoiceAbove) = (path_unready x words input ≡ false) × (path_choice_above x words input choice ≡ true)

  told : Told (advanced_of x words input choice)
  unfolding advanced_of
  told = by_tests (path_unready x words input) (path_choice_above x words input choice) refl refl
    where
      by_tests : (t u : Bool) → path_unready x words input ≡ t → path_choice_above x words input choice ≡ u
          → Told (pick t (Err Halted.Unusable)
          (pick u (Err Halted.ChoiceAbove)
          (Ok (record {
            output = record { 0 = path_sent x words input choice };
            fits = storable (path_holds_sent x words input choice).b (path_holds_sent x words input choice).h;
            next = path_advanced x input (path_sent x words input choice) (path_holds_sent x words input choice).b (path_holds_sent x words input choice).h;
            at = ring_place x;
          }))))
      by_tests true u e f = e
      by_tests false true e f = (e, f)
      by_tests false false e f = record { ready = e; below = f; sent = refl; stored = refl; kept = refl; placed = refl }

  pub sends-told : {advanced : Advanced} → Ok advanced ≡ advanced_of x words input choice → Sending advanced
  sends-told same = subst Told (sym same) told

  pub above-told : Err Halted.ChoiceAbove ≡ advanced_of x words input choice → (path_unready x words input ≡ false) × (path_choice_above x words input choice ≡ true)
  above-told same = subst Told (sym same) told

  pub unusable-told : Err Halted.Unusable ≡ advanced_of x words input choice → path_unready x words input ≡ true
  unusable-told same = subst Told (sym same) told
