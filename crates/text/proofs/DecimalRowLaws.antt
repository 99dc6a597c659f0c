-- A row of decimal numbers, case by case: by what stands where a number is due, and behind it.
use mathlib.Core.Path.{◌≡◌, refl}
use mathlib.Core.Bool.{Bool, true, false}
use mathlib.Core.List.{List, []}
use Prim.Native.Nat.{ℕ, zero, suc, ◌+◌, ◌-◌, ◌≤◌, ◌<◌}
use native.Mathlib.Omega.{arith}
use lib.ListN.{length, get_or}
use lib.Dec.{leb, eqb}
use borrow.Author.Tests.{le-leb, lt-leb, eq-eqb, ne_eqb, eqb-true, eqb-false}
use Rattle.std.specs.Prelude.{Result, Ok, Err}
use Rattle.text.specs.declared.decimal.Number.{Number}
use Rattle.text.specs.declared.decimal.NumberFault.{NumberFault}
use Rattle.text.specs.declared.decimal.NumbersFault.{NumbersFault}
use Rattle.text.specs.Rows.{space, Row, ahead}
use Rattle.text.specs.Decimals.{decimal_at}
use Rattle.text.specs.DecimalRows.{fault_of, due, behind_number, row_from}
use Rattle.text.proofs.RowLaws.{AtMost, at-most-ahead, at-most-pick}

module _ (text : List ℕ) (at : ℕ) where
  pub due-fault : (places : ℕ) (why : NumberFault) → Err why ≡ decimal_at text at → row_from places text at ≡ Err (fault_of why)
  unfolding row_from due
  due-fault zero why read = rw (← read)
  due-fault (suc places) why read = rw (← read)

  module _ (number : Number) (read : Ok number ≡ decimal_at text at) where
    -- with `count` of the places taken
    pub due-many : (places count : ℕ) → places ≤ count → row_from (places - count) text at ≡ Err NumbersFault.TooMany
    unfolding row_from due
    due-many places count full = let none : places - count ≡ 0 = omega arith in rw (none, ← read)

    pub due-number : (places count : ℕ) → count < places → row_from (places - count) text at ≡ ahead number.value (behind_number text number.next (row_from (places - (count + 1)) text (number.next + 1)))
    unfolding row_from due
    due-number places count room = let left : places - count ≡ suc (places - (count + 1)) = omega arith in rw (left, ← read)

module _ (text : List ℕ) (next : ℕ) (rest : Row NumbersFault) where
  pub behind-end : length text ≤ next → behind_number text next rest ≡ Ok []
  unfolding behind_number
  behind-end end = rw (le-leb (length text) next end)

  pub behind-other : next < length text → (get_or text next 0 ≡ space → ⊥) → behind_number text next rest ≡ Err NumbersFault.NotANumber
  unfolding behind_number
  behind-other more other = rw (lt-leb (length text) next more, ne_eqb (get_or text next 0) space other)

  pub behind-space : next < length text → get_or text next 0 ≡ space → behind_number text next rest ≡ rest
  unfolding behind_number
  behind-space more one = rw (lt-leb (length text) next more, eq-eqb (get_or text next 0) space one)

-- where there is no fault, a number stands and has a place
pub number-stands : (text : List ℕ) (at places : ℕ) (why : NumberFault) → Err why ≡ decimal_at text at → ((why : NumbersFault) → row_from places text at ≡ Err why → ⊥) → ⊥
number-stands text at places why read no-fault = no-fault _ (due-fault text at places why read)

pub place-left : (text : List ℕ) (at places count : ℕ) → ((why : NumbersFault) → row_from (places - count) text at ≡ Err why → ⊥) → places ≤ count → ⊥
place-left text at places count no-fault full = of (decimal_at text at) refl
  where
    of : (d : Result Number NumberFault) → d ≡ decimal_at text at → ⊥
    of (Ok number) read = no-fault _ (due-many text at number read places count full)
    of (Err why) read = number-stands text at (places - count) why read no-fault

-- where the text goes on behind a number and there is no fault, a space stands
pub behind-goes-on : (text : List ℕ) (next : ℕ) (rest : Row NumbersFault) → next < length text → ((why : NumbersFault) → behind_number text next rest ≡ Err why → ⊥) → behind_number text next rest ≡ rest
behind-goes-on text next rest more no-fault = of (eqb (get_or text next 0) space) refl
  where
    of : (t : Bool) → eqb (get_or text next 0) space ≡ t → behind_number text next rest ≡ rest
    of true e = behind-space text next rest more (eqb-true _ _ e)
    of false e = absurd (no-fault _ (behind-other text next rest more (eqb-false _ _ e)))

due-at-most : (k : ℕ) (d : Result Number NumberFault) (read : ℕ → ℕ → Row NumbersFault) → ((value next : ℕ) → AtMost k (read value next)) → AtMost k (due d read)
unfolding due
due-at-most k (Ok number) read h = h number.value number.next
due-at-most k (Err why) read h = tt

behind-at-most : (k : ℕ) (text : List ℕ) (next : ℕ) (rest : Row NumbersFault) → AtMost k rest → AtMost k (behind_number text next rest)
unfolding behind_number
behind-at-most k text next rest few =
    at-most-pick k (leb (length text) next) (Ok []) _ (omega arith) (at-most-pick k (eqb (get_or text next 0) space) rest (Err NumbersFault.NotANumber) few tt)

-- no more numbers than places
pub row-at-most : (places : ℕ) (text : List ℕ) (at : ℕ) → AtMost places (row_from places text at)
unfolding row_from
row-at-most zero text at = due-at-most 0 (decimal_at text at) _ (λ value next. tt)
row-at-most (suc places) text at =
    due-at-most (suc places) (decimal_at text at) _
    (λ value next. at-most-ahead places value _ (behind-at-most places text next (row_from places text (next + 1)) (row-at-most places text (next + 1))))
