-- What a caller may take from an answer: an index or a count that is answered lies within the memory that was lent.
use mathlib.Core.Path.{◌≡◌, refl}
use mathlib.Core.Bool.{Bool, true, false}
use mathlib.Core.List.{List, [], ◌∷◌}
use Prim.Native.Nat.{ℕ, zero, suc, ◌+◌, ◌≤◌, ◌<◌}
use native.Mathlib.Omega.{arith}
use lib.ListN.{length, drop, length-drop}
use lib.Dec.{leb, ltb, eqb}
use borrow.Author.Tests.{ltb-true, eqb-false}
use Rattle.std.specs.Prelude.{Some, Result, Ok, Err}
use Rattle.quantity.specs.Limits.{largest64}
use Rattle.quantity.specs.Choice.{pick}
use Rattle.text.specs.declared.decimal.Number.{Number}
use Rattle.text.specs.declared.decimal.NumberFault.{NumberFault}
use Rattle.text.specs.declared.decimal.NumberFault.TheVariants.{NoDigit, TooLarge}
use Rattle.text.specs.declared.decimal.NumbersFault.{NumbersFault}
use Rattle.text.specs.declared.hexadecimal.HexadecimalFault.{HexadecimalFault}
use Rattle.text.specs.Lines.{gathered_of}
use Rattle.text.specs.Decimals.{is_digit, leading_digits, value_of, decimal_of, decimal_at}
use Rattle.text.specs.Rows.{Row, ahead}
use Rattle.text.specs.DecimalRows.{due, behind_number, row_from, decimals_from}
use Rattle.text.specs.Hexadecimals.{bytes_in, fitted, hexadecimal_from, bytes_stored}
use Rattle.text.proofs.Picked.{picked-some}
use Rattle.text.proofs.RowLaws.{counted-numbers, counted-at-most, refused-fault, fault-keeps}
use Rattle.text.proofs.DecimalRowLaws.{row-at-most}
use Rattle.text.proofs.HexadecimalRowLaws.{bytes-at-most, fitted-at-most}

-- the line has no more bytes than the lent memory
pub gathered-within : (line : List ℕ) (count n : ℕ) → Some n ≡ gathered_of line count → n ≤ length line
unfolding gathered_of
gathered-within line count n e =
    let (place, counted) = picked-some (ltb count (length line)) (count + 1) n e in
    omega (arith, ltb-true count (length line) place)

leading-within : (text : List ℕ) → length (leading_digits text) ≤ length text
unfolding leading_digits
leading-within [] = omega arith
leading-within (byte ∷ text) = of (is_digit byte) (leading-within text)
  where
    of : (t : Bool) → length (leading_digits text) ≤ length text → length (pick t (byte ∷ leading_digits text) []) ≤ suc (length text)
    of true few = omega arith
    of false few = omega arith

-- the index behind a number is behind its first digit, and at most at the text's end
pub decimal-within : (text : List ℕ) (from : ℕ) (number : Number) → Ok number ≡ decimal_at text from → (from < number.next) × (number.next ≤ length text)
unfolding decimal_at decimal_of
decimal-within text from number e =
    let digits = leading_digits (drop from text) in
    let (some, end) = of digits (eqb (length digits) 0) (leb (value_of digits) largest64) refl e in
    (omega arith, omega (arith, leading-within (drop from text), length-drop from text))
  where
    of : (digits : List ℕ) (none fits : Bool)
        → eqb (length digits) 0 ≡ none
        → Ok number ≡ pick none (Err NoDigit) (pick fits (Ok (record { value = value_of digits; next = from + length digits })) (Err TooLarge))
        → (length digits ≡ 0 → ⊥) × (from + length digits ≡ number.next)
    of digits true fits some same = cc
    of digits false true some same = (eqb-false (length digits) 0 some, cc)
    of digits false false some same = cc

-- no more numbers than places
pub decimals-within : (text : List ℕ) (from places n : ℕ) → Ok n ≡ decimals_from text from places → n ≤ places
unfolding decimals_from
decimals-within text from places n e = counted-at-most (row_from places text from) n e places (row-at-most places text from)

-- no more bytes than places
pub hexadecimal-within : (text : List ℕ) (from places n : ℕ) → Ok n ≡ hexadecimal_from text from places → n ≤ places
unfolding hexadecimal_from
hexadecimal-within text from places n e =
    let rest = drop from text in
    counted-at-most (fitted places (bytes_in rest)) n e places (fitted-at-most places (length rest) (bytes_in rest) (bytes-at-most rest))

-- a refused call leaves the lent bytes as they were
pub hexadecimal-kept : (text : List ℕ) (from : ℕ) (lent : List ℕ) (why : HexadecimalFault) → Err why ≡ hexadecimal_from text from (length lent) → lent ≡ bytes_stored text from lent
unfolding hexadecimal_from bytes_stored
hexadecimal-kept text from lent why e =
    let row = fitted (length lent) (bytes_in (drop from text)) in
    fault-keeps row why (refused-fault row why e) lent

-- and at least one, where numbers are read
ahead-some : (value : ℕ) (row : Row NumbersFault) (ns : List ℕ) → ahead value row ≡ Ok ns → 1 ≤ length ns
unfolding ahead
ahead-some value (Ok ms) ns e = let same : value ∷ ms ≡ ns = cc in rw (← same) (omega arith)
ahead-some value (Err why) ns e = cc

due-some : (d : Result Number NumberFault) (read : ℕ → ℕ → Row NumbersFault) (ns : List ℕ)
    → ((value next : ℕ) → read value next ≡ Ok ns → 1 ≤ length ns) → due d read ≡ Ok ns → 1 ≤ length ns
unfolding due
due-some (Ok number) read ns some e = some number.value number.next e
due-some (Err why) read ns some e = cc

row-some : (places : ℕ) (text : List ℕ) (at : ℕ) (ns : List ℕ) → row_from places text at ≡ Ok ns → 1 ≤ length ns
unfolding row_from
row-some zero text at ns e = due-some (decimal_at text at) _ ns (λ value next same. cc) e
row-some (suc places) text at ns e =
    due-some (decimal_at text at) _ ns (λ value next same. ahead-some value (behind_number text next (row_from places text (next + 1))) ns same) e

pub decimals-some : (text : List ℕ) (from places n : ℕ) → Ok n ≡ decimals_from text from places → 1 ≤ n
unfolding decimals_from
decimals-some text from places n e =
    let (ns, same, size) = counted-numbers (row_from places text from) n e in
    omega (arith, row-some places text from ns same)
