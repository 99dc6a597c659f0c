-- What the reader has of a sheet's operators at a byte: those before it are stored, and the rest of the path's come from there on. The first begins at `from`.
use mathlib.Core.Path.{◌≡◌, refl, sym, ap, ◌∙◌}
use mathlib.Core.Bool.{true, false}
use mathlib.Core.List.{List, [], ◌∷◌, ◌++◌, append-nil}
use mathlib.Core.Logic.{◌⊎◌, inl, inr, ⊎_elim}
use Prim.Native.Nat.{ℕ, zero, suc, ◌+◌, ◌-◌, ◌*◌, ◌≤◌, ◌<◌, min, max}
use native.Mathlib.Nat.{eq-zero-or-pos}
use native.Mathlib.Numerals.{add-one}
use native.Mathlib.Omega.{arith}
use borrow.Author.Tests.{le-leb, eq-eqb}
use lib.ListN.{length, set, take, replicate, length-append}
use lib.Seq.{set_at, append_snoc}
use Rattle.std.specs.Prelude.{Result, Ok, Err}
use Rattle.quantity.specs.Rounding.{round_up}
use Rattle.quantity.specs.Refusals.{first_of}
use Rattle.quantity.specs.declared.refusal.Refusal.{Refusal}
use Rattle.quantity.specs.declared.refusal.Refusal.TheVariants.{OutOfRange}
use Rattle.flow.specs.declared.Declaration.{Declaration}
use Rattle.quantity.specs.declared.WantedDelay.{WantedDelay}
use Rattle.sheet.specs.declared.LinkedOperator.{LinkedOperator}
use Rattle.sheet.specs.declared.Form.{Form}
use Rattle.sheet.specs.declared.PathValue.{PathValue}
use Rattle.sheet.specs.Paths.{no_linked_operator}
use Rattle.sheet.specs.Forms.{value_of_path}
use Rattle.sheet.specs.Bodies.{operator_in, operator_fits}
use Rattle.sheet.specs.Fields.{operator_format, body_at, field_cases, header_judged}
use Rattle.sheet.specs.Sheets.{operators_from, further_cases}
use Rattle.sheet.proofs.Filling.{filled}
use Rattle.sheet.proofs.OperatorRows.{operators-begun, further-begun}
use Rattle.sheet.proofs.AnswerLaws.{behind}
use Rattle.sheet.proofs.ReadLaws.{Judged, judged-answer, field-refused, field-outside, field-passed, field-inside}

-- `count` operators are read and stored, and `more` operators are left
pub record Reached (sheet : List ℕ) (from : ℕ) (operators : List LinkedOperator) (count more at : ℕ) : Type 0 where
  pub done : List LinkedOperator
  pub counted : length done ≡ count
  pub room : count + more ≡ 16
  pub stored : operators ≡ done ++ replicate more no_linked_operator
  pub all : operators_from 16 from sheet ≡ done ++ operators_from more at sheet

reached-first : (sheet : List ℕ) (from : ℕ) → Reached sheet from (replicate 16 no_linked_operator) 0 16 from
reached-first sheet from = record { done = []; counted = refl; room = refl; stored = refl; all = refl }

reached-next : (sheet : List ℕ) (from : ℕ) (operators : List LinkedOperator) (count more at : ℕ) → at < length sheet → Reached sheet from operators count (suc more) at
    → Reached sheet from (set operators count (operator_in (body_at sheet at 6))) (count + 1) more (at + 9)
reached-next sheet from operators count more at inside r =
    let linked = operator_in (body_at sheet at 6) in
    record {
      done = r.done ++ (linked ∷ []);
      counted = length-append r.done (linked ∷ []) ∙ ap (λ (n : ℕ). n + 1) r.counted;
      room = omega arith;
      stored = rw r.stored (set_at r.done no_linked_operator (replicate more no_linked_operator) linked count r.counted ∙ sym (append_snoc r.done linked (replicate more no_linked_operator)));
      all = r.all ∙ ap (λ (rest : List LinkedOperator). r.done ++ rest) (operators-begun sheet more at inside) ∙ sym (append_snoc r.done linked (operators_from more (at + 9) sheet));
    }

operators_from-end : (sheet : List ℕ) (more at : ℕ) → (more ≡ 0) ⊎ (at ≡ length sheet) → operators_from more at sheet ≡ []
unfolding operators_from
operators_from-end sheet zero at h = refl
operators_from-end sheet (suc more) at (inl none) = absurd (omega arith)
operators_from-end sheet (suc more) at (inr end) = rw (le-leb (length sheet) at (omega arith))

-- no operator is left: the path's value is made of what is stored
reached-end : (sheet : List ℕ) (from : ℕ) (operators : List LinkedOperator) (count more at : ℕ) (declaration : Declaration) (wanted : WantedDelay) → (more ≡ 0) ⊎ (at ≡ length sheet) → Reached sheet from operators count more at
    → ◌≡◌ {A = PathValue} (record { form = Form.Fields; declaration = declaration; wanted = wanted; count = count; operators = operators }) (value_of_path Form.Fields (record { declaration = declaration; wanted = wanted.0; operators = operators_from 16 from sheet }))
unfolding value_of_path
reached-end sheet from operators count more at declaration wanted end r =
    let whole : operators_from 16 from sheet ≡ r.done = r.all ∙ rw (operators_from-end sheet more at end) (append-nil r.done) in
    let number : length (operators_from 16 from sheet) ≡ count = ap length whole ∙ r.counted in
    let kept : take 16 (operators_from 16 from sheet ++ replicate 16 no_linked_operator) ≡ operators = rw whole (filled no_linked_operator 16 r.done more (omega arith) ∙ sym r.stored) in
    rw (number, kept)

-- how many operators are due in what is left of the sheet: one every 9 bytes, but one at the least and 16 at the most
abbrev pub due_from : List ℕ → ℕ → ℕ
due_from sheet from = max 1 (min (round_up (length sheet - from) 9) 16)

module _ (sheet : List ℕ) (from : ℕ) (declaration : Declaration) (wanted : WantedDelay) where
  -- what is answered of a sheet that is not refused
  abbrev pub accepted : Result PathValue Refusal
  accepted = Ok (value_of_path Form.Fields (record { declaration = declaration; wanted = wanted.0; operators = operators_from 16 from sheet }))

  -- what is answered where an operator is due and `more` may follow it
  abbrev pub due_at : ℕ → ℕ → Result PathValue Refusal
  due_at more at = first_of (field_cases sheet at operator_format ++ further_cases more (at + 9) sheet) Err accepted

  -- the same behind so many operators, of which the first is always due
  pub left_at : ℕ → ℕ → Result PathValue Refusal
  left_at zero at = due_at 15 at
  left_at (suc count) at = first_of (further_cases (15 - count) at sheet) Err accepted

  further-due : (more at : ℕ) → at < length sheet → first_of (further_cases (suc more) at sheet) Err accepted ≡ due_at more at
  further-due more at goes_on = rw (further-begun sheet more at goes_on)

  further-end : (more at : ℕ) → (more ≡ 0) ⊎ (at ≡ length sheet) → (result : Result PathValue Refusal) → first_of (further_cases more at sheet) Err result ≡ first_of (further_cases 0 at sheet) Err result
  unfolding further_cases
  further-end zero at end result = refl
  further-end (suc more) at (inl none) result = absurd (omega arith)
  further-end (suc more) at (inr end) result = rw (eq-eqb _ _ end)

  left-due : (count at : ℕ) → count ≤ 15 → (1 ≤ count → at < length sheet) → left_at count at ≡ due_at (15 - count) at
  unfolding left_at
  left-due zero at few goes_on = refl
  left-due (suc count) at few goes_on =
      let left : 15 - count ≡ suc (15 - suc count) = omega arith in
      rw left (further-due (15 - suc count) at (goes_on (omega arith)))

  left-behind : (count at : ℕ) → left_at (count + 1) at ≡ first_of (further_cases (15 - count) at sheet) Err accepted
  unfolding left_at
  left-behind count at = rw add-one

  left-end : (count at : ℕ) → 1 ≤ count → (16 - count ≡ 0) ⊎ (at ≡ length sheet) → left_at count at ≡ first_of (further_cases 0 at sheet) Err accepted
  unfolding left_at
  left-end zero at some end = absurd (omega arith)
  left-end (suc count) at some end =
      let left : 16 - suc count ≡ 15 - count = omega arith in
      further-end (15 - count) at (rw left at end) accepted

  -- so many operators are read: what is stored, and that the rest decides
  pub record Reading (operators : List LinkedOperator) (count at : ℕ) : Type 0 where
    pub begins : at ≡ from + 9 * count
    pub inside : at ≤ length sheet
    pub reached : Reached sheet from operators count (16 - count) at
    pub decides : due_at 15 from ≡ left_at count at

  pub reading-first : from ≤ length sheet → Reading (replicate 16 no_linked_operator) 0 from
  unfolding left_at
  reading-first begun = record { begins = omega arith; inside = begun; reached = reached-first sheet from; decides = refl }

  module _ (operators : List LinkedOperator) (count at : ℕ) (so_far : Reading operators count at) where
    -- one more operator is due
    module _ (few : count < due_from sheet from) where
      decided : due_at 15 from ≡ due_at (15 - count) at
      unfolding round_up
      decided =
          let begins = so_far.begins in
          so_far.decides ∙ left-due count at (omega arith) (λ some. omega arith)

      pub header-refuses : {why : Refusal} → header_judged sheet at 3 6 ≡ Err why → due_at 15 from ≡ Err why
      header-refuses e = decided ∙ field-refused accepted sheet at operator_format (further_cases (15 - count) (at + 9) sheet) e

      module _ (judged : header_judged sheet at 3 6 ≡ Ok tt) where
        pub body-refuses : operator_fits (body_at sheet at 6) ≡ false → due_at 15 from ≡ Err (OutOfRange at)
        body-refuses out = decided ∙ field-outside accepted sheet at operator_format (further_cases (15 - count) (at + 9) sheet) judged out

        pub operator-passes : operator_fits (body_at sheet at 6) ≡ true → (linked : LinkedOperator) → linked ≡ operator_in (body_at sheet at 6) → (next : ℕ) → next ≡ at + 9 → Reading (set operators count linked) (count + 1) next
        unfolding round_up
        operator-passes fits linked same next step =
            let before : 16 - count ≡ suc (15 - count) = omega arith in
            let left : 15 - count ≡ 16 - (count + 1) = omega arith in
            let inside = field-inside sheet at 3 6 judged in
            let begun : at < length sheet = omega arith in
            rw (same, step)
            (record {
              begins = omega (arith, so_far.begins);
              inside = omega arith;
              reached = rw left at (reached-next sheet from operators count (15 - count) at begun (rw before at so_far.reached));
              decides = decided ∙ field-passed accepted sheet at operator_format (further_cases (15 - count) (at + 9) sheet) judged fits ∙ sym (left-behind count (at + 9));
            })

    -- none is due any more: what lies behind the last decides
    module _ (last : count ≡ due_from sheet from) {rest : Judged} (ended : rest ≡ first_of (further_cases 0 at sheet) Err (Ok tt)) where
      all_read : (16 - count ≡ 0) ⊎ (at ≡ length sheet)
      unfolding round_up
      all_read = ⊎_elim inl (λ some. inr (omega (arith, so_far.begins, so_far.inside))) (eq-zero-or-pos (16 - count))

      abbrev stored : Result PathValue Refusal
      stored = Ok (record { form = Form.Fields; declaration = declaration; wanted = wanted; count = count; operators = operators })

      reading-end : {found : Judged} → rest ≡ found → due_at 15 from ≡ behind (λ whole. stored) found
      reading-end e =
          so_far.decides
          ∙ left-end count at (omega arith) all_read
          ∙ ap (λ (value : PathValue). first_of (further_cases 0 at sheet) Err (Ok value)) (sym (reached-end sheet from operators count (16 - count) at declaration wanted all_read so_far.reached))
          ∙ judged-answer stored (further_cases 0 at sheet) ended e

      pub end-refuses : {why : Refusal} → rest ≡ Err why → due_at 15 from ≡ Err why
      end-refuses e = reading-end e

      pub end-accepts : {whole : Unit {0}} → rest ≡ Ok whole → due_at 15 from ≡ stored
      end-accepts e = reading-end e
