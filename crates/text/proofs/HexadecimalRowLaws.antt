-- A row of bytes, case by case: by what stands where a byte is due, and behind it.
use mathlib.Core.Path.{◌≡◌, refl, sym, ap, ap₂, ◌∙◌}
use mathlib.Core.Bool.{Bool, true, false}
use mathlib.Core.List.{List, [], ◌∷◌}
use Prim.Native.Nat.{ℕ, suc, ◌+◌, ◌≤◌, ◌<◌}
use native.Mathlib.Nat.{add-zero}
use native.Mathlib.Decide.{dec_lt}
use native.Mathlib.Omega.{arith}
use lib.ListN.{length, get_or, drop, length-drop, drop_of_length-le, get_or-eq_default}
use lib.Seq.{get_or-drop, drop-drop}
use lib.Dec.{eqb}
use borrow.Author.Tests.{le-leb, lt-leb}
use Rattle.quantity.specs.Choice.{pick, both}
use Rattle.quantity.proofs.Sums.{both_true}
use Rattle.std.specs.Prelude.{Ok, Err}
use Rattle.text.specs.declared.hexadecimal.HexadecimalFault.{HexadecimalFault}
use Rattle.text.specs.declared.hexadecimal.HexadecimalFault.TheVariants.{NotHexadecimal, TooLong}
use Rattle.text.specs.Rows.{space, Row, ahead, answer_of}
use Rattle.text.specs.Hexadecimals.{is_hexadecimal_digit, byte_of, with_byte, bytes_due, bytes_in, fitted}
use Rattle.text.proofs.HexadecimalLaws.{digit-within}
use Rattle.text.proofs.RowLaws.{AtMost, at-most-more, at-most-ahead, at-most-pick, counted-numbers, counted-no-fault, refused-fault}

-- two digits at a text's front
digits : List ℕ → Bool
digits text = both (is_hexadecimal_digit (get_or text 0 0)) (is_hexadecimal_digit (get_or text 1 0))

byte : List ℕ → ℕ
byte text = byte_of (get_or text 0 0) (get_or text 1 0)

front-missing : (text : List ℕ) → digits text ≡ false → bytes_due text ≡ Err NotHexadecimal
unfolding digits bytes_due with_byte
front-missing [] e = refl
front-missing (a ∷ []) e = refl
front-missing (a ∷ b ∷ []) e = rw e
front-missing (a ∷ b ∷ c ∷ text) e = rw e

front-last : (text : List ℕ) → digits text ≡ true → length text ≡ 2 → bytes_due text ≡ ahead (byte text) (Ok [])
unfolding digits byte bytes_due with_byte
front-last [] e size = absurd (omega arith)
front-last (a ∷ []) e size = absurd (omega arith)
front-last (a ∷ b ∷ []) e size = rw e
front-last (a ∷ b ∷ c ∷ text) e size = absurd (omega arith)

front-next : (text : List ℕ) → digits text ≡ true → 2 < length text → bytes_due text ≡ ahead (byte text) (bytes_due (pick (eqb (get_or text 2 0) space) (drop 3 text) (drop 2 text)))
unfolding digits byte bytes_due with_byte
front-next [] e more = absurd (omega arith)
front-next (a ∷ []) e more = absurd (omega arith)
front-next (a ∷ b ∷ []) e more = absurd (omega arith)
front-next (a ∷ b ∷ c ∷ text) e more = rw e (ap (ahead (byte_of a b)) (of (eqb c space)))
  where
    of : (t : Bool) → pick t (bytes_due text) (bytes_due (c ∷ text)) ≡ bytes_due (pick t text (c ∷ text))
    of true = refl
    of false = refl

in-due : (text : List ℕ) → 0 < length text → bytes_in text ≡ bytes_due text
unfolding bytes_in
in-due [] some = absurd (omega arith)
in-due (a ∷ text) some = refl

pub in-text : (text : List ℕ) (at : ℕ) → at < length text → bytes_in (drop at text) ≡ bytes_due (drop at text)
in-text text at inside = in-due (drop at text) (rw length-drop (omega arith))

pub in_end : (text : List ℕ) (at : ℕ) → length text ≤ at → bytes_in (drop at text) ≡ Ok []
unfolding bytes_in
in_end text at end = rw (drop_of_length-le text end)

module _ (text : List ℕ) (at : ℕ) where
  digits-at : digits (drop at text) ≡ both (is_hexadecimal_digit (get_or text at 0)) (is_hexadecimal_digit (get_or text (at + 1) 0))
  unfolding digits
  digits-at = rw (get_or-drop at text 0 0, get_or-drop at text 1 0, add-zero)

  byte_at : byte (drop at text) ≡ byte_of (get_or text at 0) (get_or text (at + 1) 0)
  unfolding byte
  byte_at = rw (get_or-drop at text 0 0, get_or-drop at text 1 0, add-zero)

  abbrev pub byte_here : ℕ
  byte_here = byte_of (get_or text at 0) (get_or text (at + 1) 0)

  -- the index at which the byte behind this one is due
  abbrev pub next_due : ℕ
  next_due = pick (eqb (get_or text (at + 2) 0) space) (at + 2 + 1) (at + 2)

  pub next-least : at + 2 ≤ next_due
  next-least = of (eqb (get_or text (at + 2) 0) space)
    where
      of : (t : Bool) → at + 2 ≤ pick t (at + 2 + 1) (at + 2)
      of true = omega arith
      of false = omega arith

  pub next-most : next_due ≤ at + 2 + 1
  next-most = of (eqb (get_or text (at + 2) 0) space)
    where
      of : (t : Bool) → pick t (at + 2 + 1) (at + 2) ≤ at + 2 + 1
      of true = omega arith
      of false = omega arith

  drop-next : pick (eqb (get_or (drop at text) 2 0) space) (drop 3 (drop at text)) (drop 2 (drop at text)) ≡ drop next_due text
  drop-next = rw (get_or-drop at text 2 0, drop-drop 3 at text, drop-drop 2 at text) (of (eqb (get_or text (at + 2) 0) space))
    where
      of : (t : Bool) → pick t (drop (at + 3) text) (drop (at + 2) text) ≡ drop (pick t (at + 2 + 1) (at + 2)) text
      of true = let same : at + 3 ≡ at + 2 + 1 = omega arith in rw same
      of false = refl

  pub due-missing : both (is_hexadecimal_digit (get_or text at 0)) (is_hexadecimal_digit (get_or text (at + 1) 0)) ≡ false → bytes_due (drop at text) ≡ Err NotHexadecimal
  due-missing missing = front-missing (drop at text) (digits-at ∙ missing)

  module _ (stands : both (is_hexadecimal_digit (get_or text at 0)) (is_hexadecimal_digit (get_or text (at + 1) 0)) ≡ true) where
    pub byte-within : at + 1 < length text
    byte-within = digit-within text (at + 1) (both_true (is_hexadecimal_digit (get_or text at 0)) (is_hexadecimal_digit (get_or text (at + 1) 0)) stands).1

    pub due-last : length text ≤ at + 2 → bytes_due (drop at text) ≡ ahead byte_here (Ok [])
    due-last end =
        let inside = byte-within in
        front-last (drop at text) (digits-at ∙ stands) (rw length-drop (omega arith)) ∙ ap (λ (b : ℕ). ahead b (Ok [])) byte_at

    pub due-next : at + 2 < length text → bytes_due (drop at text) ≡ ahead byte_here (bytes_due (drop next_due text))
    due-next more =
        front-next (drop at text) (digits-at ∙ stands) (rw length-drop (omega arith))
        ∙ ap₂ (λ (b : ℕ) (rest : List ℕ). ahead b (bytes_due rest)) byte_at drop-next

    no-space-past : length text ≤ at + 2 → next_due ≡ at + 2
    no-space-past end = rw (get_or-eq_default text 0 end)

    nothing-due : length text ≤ next_due → ahead byte_here (bytes_due (drop next_due text)) ≡ Err NotHexadecimal
    unfolding ahead bytes_due
    nothing-due past = rw (drop_of_length-le text past)

    -- without a fault the bytes behind it are those of the text from there on
    pub due-goes-on : ((why : HexadecimalFault) → bytes_due (drop at text) ≡ Err why → ⊥) → bytes_due (drop at text) ≡ ahead byte_here (bytes_in (drop next_due text))
    due-goes-on no-fault = of (dec_lt (at + 2) (length text)) (dec_lt next_due (length text))
      where
        of : Dec (at + 2 < length text) → Dec (next_due < length text) → bytes_due (drop at text) ≡ ahead byte_here (bytes_in (drop next_due text))
        of (yes more) (yes inside) = due-next more ∙ ap (ahead byte_here) (sym (in-text text next_due inside))
        of (yes more) (no past) = absurd (no-fault NotHexadecimal (due-next more ∙ nothing-due (omega arith)))
        of (no end) inside = due-last (omega arith) ∙ sym (ap (ahead byte_here) (ap (λ (k : ℕ). bytes_in (drop k text)) (no-space-past (omega arith)) ∙ in_end text (at + 2) (omega arith)))

module _ (text : List ℕ) (at : ℕ) (no-fault : (why : HexadecimalFault) → bytes_in (drop at text) ≡ Err why → ⊥) where
  -- without a fault no byte is missing but at the text's end
  pub in-missing : both (is_hexadecimal_digit (get_or text at 0)) (is_hexadecimal_digit (get_or text (at + 1) 0)) ≡ false → bytes_in (drop at text) ≡ Ok []
  in-missing missing = of (dec_lt at (length text))
    where
      of : Dec (at < length text) → bytes_in (drop at text) ≡ Ok []
      of (yes inside) = absurd (no-fault _ (in-text text at inside ∙ due-missing text at missing))
      of (no past) = in_end text at (omega arith)

  -- and one that stands has the rest of the text's behind it
  pub in-goes-on : both (is_hexadecimal_digit (get_or text at 0)) (is_hexadecimal_digit (get_or text (at + 1) 0)) ≡ true → bytes_in (drop at text) ≡ ahead (byte_here text at) (bytes_in (drop (next_due text at) text))
  in-goes-on stands =
      let same = in-text text at (omega (arith, byte-within text at stands)) in
      same ∙ due-goes-on text at stands (λ why e. no-fault why (same ∙ e))

byte-at-most : (k high low : ℕ) (rest : Row HexadecimalFault) → AtMost k rest → AtMost (suc k) (with_byte high low rest)
unfolding with_byte
byte-at-most k high low rest few = at-most-pick (suc k) (both (is_hexadecimal_digit high) (is_hexadecimal_digit low)) _ (Err NotHexadecimal) (at-most-ahead k (byte_of high low) rest few) tt

due-at-most : (text : List ℕ) → AtMost (length text) (bytes_due text)
unfolding bytes_due
due-at-most [] = tt
due-at-most (a ∷ []) = tt
due-at-most (a ∷ b ∷ []) = byte-at-most 1 a b (Ok []) (omega arith)
due-at-most (a ∷ b ∷ c ∷ text) =
    let k = length (b ∷ c ∷ text) in
    byte-at-most k a b (pick (eqb c space) (bytes_due text) (bytes_due (c ∷ text)))
    (at-most-pick k (eqb c space) (bytes_due text) (bytes_due (c ∷ text))
    (at-most-more (length text) k (omega arith) (bytes_due text) (due-at-most text))
    (at-most-more (length (c ∷ text)) k (omega arith) (bytes_due (c ∷ text)) (due-at-most (c ∷ text))))

-- no more bytes than the text has
pub bytes-at-most : (text : List ℕ) → AtMost (length text) (bytes_in text)
unfolding bytes_in
bytes-at-most [] = omega arith
bytes-at-most (a ∷ text) = due-at-most (a ∷ text)

-- a row of no more bytes than there are places is kept, a longer one is a fault
fitted-few : (places : ℕ) (ns : List ℕ) → length ns ≤ places → fitted places (Ok ns) ≡ Ok ns
unfolding fitted
fitted-few places ns few = rw (le-leb (length ns) places few)

fitted-many : (places : ℕ) (ns : List ℕ) → places < length ns → fitted places (Ok ns) ≡ Err TooLong
unfolding fitted
fitted-many places ns many = rw (lt-leb (length ns) places many)

-- where a fitted row has no fault, it is the row itself
pub fitted-same : (places : ℕ) (row : Row HexadecimalFault) → ((why : HexadecimalFault) → fitted places row ≡ Err why → ⊥) → fitted places row ≡ row
unfolding fitted
fitted-same places (Ok ns) no-fault = of (dec_lt places (length ns))
  where
    of : Dec (places < length ns) → fitted places (Ok ns) ≡ Ok ns
    of (yes many) = absurd (no-fault TooLong (fitted-many places ns many))
    of (no few) = fitted-few places ns (omega arith)
fitted-same places (Err why) no-fault = refl

-- and it is no longer than there are places
pub fitted-at-most : (places k : ℕ) (row : Row HexadecimalFault) → AtMost k row → AtMost places (fitted places row)
unfolding fitted
fitted-at-most places k (Ok ns) few = of (dec_lt places (length ns))
  where
    of : Dec (places < length ns) → AtMost places (fitted places (Ok ns))
    of (yes many) = rw (fitted-many places ns many) tt
    of (no less) = rw (fitted-few places ns (omega arith)) (omega arith)
fitted-at-most places k (Err why) no-count = no-count

pub fitted-length : (places : ℕ) (text ns : List ℕ) → fitted places (bytes_in text) ≡ Ok ns → length ns ≤ places
fitted-length places text ns same = rw same at (fitted-at-most places (length text) (bytes_in text) (bytes-at-most text))

-- what is answered of the row, and what is then answered of it with so many places
module _ (text : List ℕ) (places : ℕ) where
  pub fitted-refused : (why : HexadecimalFault) → Err why ≡ answer_of (bytes_in text) → fitted places (bytes_in text) ≡ Err why
  unfolding fitted
  fitted-refused why answered = ap (fitted places) (refused-fault (bytes_in text) why answered)

  module _ (n : ℕ) (answered : Ok n ≡ answer_of (bytes_in text)) where
    pub fitted-long : places < n → fitted places (bytes_in text) ≡ Err TooLong
    fitted-long many =
        let (ns, same, size) = counted-numbers (bytes_in text) n answered in
        ap (fitted places) same ∙ fitted-many places ns (omega arith)

    pub fitted-whole : n ≤ places → fitted places (bytes_in text) ≡ bytes_in text
    fitted-whole less =
        let (ns, same, size) = counted-numbers (bytes_in text) n answered in
        ap (fitted places) same ∙ fitted-few places ns (omega arith) ∙ sym same

    pub fitted-no-fault : n ≤ places → (why : HexadecimalFault) → fitted places (bytes_in text) ≡ Err why → ⊥
    fitted-no-fault less why is-fault = counted-no-fault (bytes_in text) n answered why (sym (fitted-whole less) ∙ is-fault)
