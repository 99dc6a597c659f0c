-- A number sought among some, each compared. And numbers of 16 bits in a ring of 64, each sought among the 32 behind it unless it is 0: of any two, one is among those behind the other. How often 0 stands is counted.
use Rattle.std.proofs.Common.{◌≡◌, ℕ, zero, suc, ◌+◌, ◌-◌, ◌*◌, ◌<◌, ◌≤◌, Bool, true, false, not, ◌&&◌, ◌||◌, eqb, ltb, leb, List, length, get_or, take, drop, sym, refl, ap, ◌∙◌, ap₂, add-zero, mod-eq_of_lt, add-sub_cancel, add-one, arith, length-drop, length-take-le, get_or-drop, get_or-take, ltb-true, le-ltb, lt-ltb, eq-eqb, ne_eqb, eqb-true, le-leb}
use native.Mathlib.Decide.{dec_le, dec_lt}
use borrow.Author.Tests.{lt-leb, eqb-false, not-true, not-false}
use Rattle.std.specs.List.{CopiedTo, SameBelow}
use Rattle.quantity.specs.Choice.{both, either}
use Rattle.quantity.specs.Sums.{every, list_of}
use Rattle.quantity.proofs.Laws.{pick_true, pick-false}
use Rattle.quantity.proofs.Sums.{list_of-ext, total-zero, total-suc, total-next, total-le, total-same, total-none, term-le-total, both_true, every-next, every-at, every_holds, every-fails, get_d-list_of}
use Rattle.ledger.specs.Records.{among, place_among, all_differ}
use Rattle.ledger.specs.Ledgers.{record_count}
use Rattle.ledger.specs.Steps.{half, ring_size, low_bits, ring_at, one_if, met_behind, repeats_in, zeros_in, Narrow}
use Rattle.ledger.proofs.Numbers.{Written, and-both, or-either, not-both, among-suc, among_same, not-among, among-at, place-among, at_place}
use Rattle.ledger.proofs.Reserving.{total_at_most}

contrary : {t : Bool} → t ≡ true → t ≡ false → ⊥
contrary e f = let z : ◌≡◌ {A = ℕ} 0 1 = cc in omega arith

module _ (numbers : ℕ → ℕ) (number : ℕ) where
  pub met-first : false ≡ among numbers 0 number
  unfolding among every
  met-first = refl

  pub met_next : (n : ℕ) {met : Bool} → met ≡ among numbers n number → (met || eqb (numbers n) number) ≡ among numbers (n + 1) number
  met_next n before =
      ap (λ (met : Bool). met || eqb (numbers n) number) before ∙ or-either (among numbers n number) (eqb (numbers n) number)
      ∙ sym (among-suc numbers number n) ∙ ap (λ (k : ℕ). among numbers k number) (sym (add-one n))

-- the numbers written, with the first half copied behind them, are the ring
pub ring-written : (numbers : List ℕ) {written ring : List ℕ} → Written 0 (low_bits numbers) ring_size written record_count → length ring ≡ length written
    → SameBelow written ring record_count → CopiedTo written ring 0 record_count half → ring ≡ list_of (ring_at numbers) ring_size
unfolding ring_at
ring-written numbers {written} {ring} front sized same copied = list_of-ext 0 (ring_at numbers) ring_size ring (sized ∙ front.sized) each
  where
    each : (k : ℕ) → k < ring_size → get_or ring k 0 ≡ ring_at numbers k
    each k less = elim (dec_lt k record_count) [
      | yes before ↦ same k 0 before ∙ front.each k before ∙ sym (pick_true (ltb k record_count) _ _ (lt-ltb k record_count before))
      | no behind ↦
          let shift : 0 + (k - record_count) ≡ k - record_count = omega arith in
          copied k 0 (omega arith) (omega arith) ∙ ap (λ (i : ℕ). get_or written i 0) shift ∙ front.each (k - record_count) (omega arith)
          ∙ sym (pick-false (ltb k record_count) _ _ (le-ltb k record_count (omega arith)))
    ]

-- The 32 behind a place of a ring, as the code lends them.
module _ (ring : List ℕ) (sized : length ring ≡ ring_size) where
  abbrev behind_in : ℕ → List ℕ
  behind_in j = take (j + 1 + half - (j + 1)) (drop (j + 1) ring)

  behind-length : (j : ℕ) → j < record_count → length (behind_in j) ≡ half
  behind-length j less = length-take-le (j + 1 + half - (j + 1)) (drop (j + 1) ring) (omega (arith, length-drop (j + 1) ring, sized)) ∙ omega arith

  pub among-behind : (j number : ℕ) → j < record_count → among (λ k. get_or (behind_in j) k 0) (length (behind_in j)) number ≡ among (λ k. get_or ring (j + 1 + k) 0) half number
  among-behind j number less =
      ap (λ (n : ℕ). among (λ k. get_or (behind_in j) k 0) n number) (behind-length j less)
      ∙ among_same (λ k. get_or (behind_in j) k 0) (λ k. get_or ring (j + 1 + k) 0) half
      (λ k near. get_or-take (j + 1 + half - (j + 1)) (drop (j + 1) ring) k 0 (omega arith) ∙ get_or-drop (j + 1) ring k 0) number

  pub behind-met : (j : ℕ) {behind : Bool} → j < record_count → behind ≡ among (λ k. get_or (behind_in j) k 0) (length (behind_in j)) (get_or ring j 0) → (not (eqb (get_or ring j 0) 0) && behind) ≡ met_behind ring j
  unfolding met_behind
  behind-met j {behind} less is = and-both (not (eqb (get_or ring j 0) 0)) behind ∙ ap (both (not (eqb (get_or ring j 0) 0))) (is ∙ among-behind j (get_or ring j 0) less)

module _ (ring : List ℕ) where
  pub repeats-first : false ≡ repeats_in ring 0
  unfolding repeats_in every
  repeats-first = refl

  pub repeats-next : (n : ℕ) {met here : Bool} → met ≡ repeats_in ring n → here ≡ met_behind ring n → (met || here) ≡ repeats_in ring (n + 1)
  unfolding repeats_in
  repeats-next n {met} {here} before now =
      or-either met here ∙ ap₂ either before now
      ∙ sym (not-both (every (λ j. not (met_behind ring j)) n) (met_behind ring n)) ∙ ap not (sym (every-next (λ j. not (met_behind ring j)) n))

  none-repeats : {n : ℕ} → repeats_in ring n ≡ false → (j : ℕ) → j < n → met_behind ring j ≡ false
  unfolding repeats_in
  none-repeats {n} none j less = not-true _ (every-at (λ k. not (met_behind ring k)) n (not-false _ none) j less)

  repeats-none : (n : ℕ) → ((j : ℕ) → j < n → met_behind ring j ≡ false) → repeats_in ring n ≡ false
  unfolding repeats_in
  repeats-none n each = ap not (every_holds (λ k. not (met_behind ring k)) n (λ j less. ap not (each j less)))

-- How often 0 is among the first n.
module _ (numbers : ℕ → ℕ) where
  pub zeros-first : 0 ≡ zeros_in numbers 0
  unfolding zeros_in
  zeros-first = sym (total-zero _)

  pub zeros-next : (n : ℕ) → zeros_in numbers (n + 1) ≡ zeros_in numbers n + one_if (eqb (numbers n) 0)
  unfolding zeros_in
  zeros-next n = total-next (λ j. one_if (eqb (numbers j) 0)) n

  zeros-suc : (n : ℕ) → zeros_in numbers (suc n) ≡ zeros_in numbers n + one_if (eqb (numbers n) 0)
  unfolding zeros_in
  zeros-suc n = total-suc (λ j. one_if (eqb (numbers j) 0)) n

  -- no more than there are
  pub zeros-few : (n : ℕ) → zeros_in numbers n ≤ 1 * n
  unfolding zeros_in
  zeros-few n = total_at_most (λ j. one_if (eqb (numbers j) 0)) 1 n (λ j less. one_at_most (eqb (numbers j) 0))
    where
      one_at_most : (t : Bool) → one_if t ≤ 1
      one_at_most true = omega arith
      one_at_most false = omega arith

  one-zero : (j : ℕ) → numbers j ≡ 0 → one_if (eqb (numbers j) 0) ≡ 1
  one-zero j none = ap one_if (eq-eqb (numbers j) 0 none)

  no-zeros : (n : ℕ) → among numbers n 0 ≡ false → zeros_in numbers n ≡ 0
  unfolding zeros_in
  no-zeros n none =
      total-same (λ j. one_if (eqb (numbers j) 0)) (λ j. 0) n (λ j less. ap one_if (ne_eqb (numbers j) 0 (λ met. contrary (among-at numbers 0 n j less met) none)))
      ∙ total-none n

  -- at most once where all differ
  zero-once : (n : ℕ) → all_differ numbers n ≡ true → zeros_in numbers n ≤ 1
  unfolding all_differ every
  zero-once zero differ = omega (arith, zeros-first)
  zero-once (suc n) differ =
      let each = both_true (all_differ numbers n) _ differ in
      by-test each.1 (zero-once n each.0) (eqb (numbers n) 0) refl
    where
      by-test : not (among numbers n (numbers n)) ≡ true → zeros_in numbers n ≤ 1 → (t : Bool) → eqb (numbers n) 0 ≡ t → zeros_in numbers (suc n) ≤ 1
      by-test apart once true met =
          let none = eqb-true (numbers n) 0 met in
          omega (arith, zeros-suc n, one-zero n none, no-zeros n (ap (among numbers n) (sym none) ∙ not-true _ apart))
      by-test apart once false other = omega (arith, once, zeros-suc n, ap one_if other)

  zero-twice : (i k n : ℕ) → i < k → k < n → numbers i ≡ 0 → numbers k ≡ 0 → 2 ≤ zeros_in numbers n
  unfolding zeros_in
  zero-twice i k n before less first second =
      omega (
        arith,
        term-le-total (λ j. one_if (eqb (numbers j) 0)) k i before,
        one-zero i first,
        one-zero k second,
        zeros-suc k,
        total-le (λ j. one_if (eqb (numbers j) 0)) {n = suc k} {m = n} (omega arith),
      )

  -- and from the count on each is 0
  zeros-behind : (count d : ℕ) → ((j : ℕ) → count ≤ j → j < count + d → numbers j ≡ 0) → zeros_in numbers (count + d) ≡ zeros_in numbers count + d
  zeros-behind count zero none = rw (add-zero count, add-zero (zeros_in numbers count))
  zeros-behind count (suc d) none =
      let next : count + suc d ≡ suc (count + d) = omega arith in
      ap (zeros_in numbers) next ∙ zeros-suc (count + d)
      ∙ omega (arith, one-zero (count + d) (none (count + d) (omega arith) (omega arith)), zeros-behind count d (λ j from less. none j from (omega arith)))

-- Whether the first so many numbers of a list of 64 differ, by its ring and its zeros.
module _ (xs : List ℕ) (count : ℕ) (few : count ≤ record_count) (narrow : Narrow (λ j. get_or xs j 0) count) where
  abbrev at : ℕ → ℕ
  at j = get_or xs j 0

  abbrev ring : List ℕ
  ring = list_of (ring_at xs) ring_size

  low : (j : ℕ) → j < record_count → low_bits xs j ≡ at j
  low j less = mod-eq_of_lt (narrow.0 j less)

  in-ring : (j : ℕ) → j < record_count → get_or ring j 0 ≡ at j
  unfolding ring_at
  in-ring j less = get_d-list_of 0 (ring_at xs) ring_size j (omega arith) ∙ pick_true (ltb j record_count) _ _ (lt-ltb j record_count less) ∙ low j less

  in-ring-again : (j : ℕ) → j < half → get_or ring (j + record_count) 0 ≡ at j
  unfolding ring_at
  in-ring-again j less =
      get_d-list_of 0 (ring_at xs) ring_size (j + record_count) (omega arith) ∙ pick-false (ltb (j + record_count) record_count) _ _ (le-ltb (j + record_count) record_count (omega arith))
      ∙ ap (low_bits xs) (add-sub_cancel j record_count) ∙ low j (omega arith)

  stands : (j : ℕ) → j < record_count → (at j ≡ 0 → ⊥) → j < count
  stands j less some = elim (dec_lt j count) [
    | yes before ↦ before
    | no past ↦ absurd (some (narrow.1 j (omega arith) less))
  ]

  twice : (i k : ℕ) → i < k → k < count → at i ≡ at k → all_differ at count ≡ false
  unfolding all_differ
  twice i k before inside same = every-fails (λ m. not (among at m (at m))) count k inside (ap not (among-at at (at k) k i before same))

  met-twice : (j : ℕ) → j < record_count → met_behind ring j ≡ true → all_differ at count ≡ false
  unfolding met_behind
  met-twice j less met =
      let both = both_true (not (eqb (get_or ring j 0) 0)) _ met in
      let near = ltb-true _ _ (place-among behind (get_or ring j 0) half ∙ both.1) in
      by_place (λ none. eqb-false (get_or ring j 0) 0 (not-true _ both.0) (in-ring j less ∙ none)) (place_among behind half (get_or ring j 0)) near (at_place behind (get_or ring j 0) half near ∙ in-ring j less)
    where
      behind : ℕ → ℕ
      behind k = get_or ring (j + 1 + k) 0

      by_place : (at j ≡ 0 → ⊥) → (k : ℕ) → k < half → get_or ring (j + 1 + k) 0 ≡ at j → all_differ at count ≡ false
      by_place some k near same =
          elim (dec_lt (j + 1 + k) record_count) [
            | yes first ↦
                let found : at (j + 1 + k) ≡ at j = sym (in-ring (j + 1 + k) first) ∙ same in
                twice j (j + 1 + k) (omega arith) (stands (j + 1 + k) first (λ none. some (sym found ∙ none))) (sym found)
            | no again ↦
                let i = j + 1 + k - record_count in
                let here : i + record_count ≡ j + 1 + k = omega arith in
                twice i j (omega arith) (stands j less some) (sym (in-ring-again i (omega arith)) ∙ ap (λ (m : ℕ). get_or ring m 0) here ∙ same)
          ]

  -- one that is met behind it is there twice
  pub repeats-differ : repeats_in ring record_count ≡ true → all_differ at count ≡ false
  repeats-differ repeats = by-test (all_differ at count) refl
    where
      met-none : all_differ at count ≡ true → (j : ℕ) → j < record_count → (t : Bool) → met_behind ring j ≡ t → t ≡ false
      met-none differ j less false met = refl
      met-none differ j less true met = absurd (contrary differ (met-twice j less met))

      by-test : (t : Bool) → all_differ at count ≡ t → t ≡ false
      by-test false e = refl
      by-test true e = absurd (contrary repeats (repeats-none ring record_count (λ j less. met-none e j less (met_behind ring j) refl)))

  met_at : (j k : ℕ) → j < record_count → k < half → (at j ≡ 0 → ⊥) → get_or ring (j + 1 + k) 0 ≡ at j → met_behind ring j ≡ true
  unfolding met_behind
  met_at j k less near some same =
      ap₂ both (ap not (ne_eqb (get_or ring j 0) 0 (λ none. some (sym (in-ring j less) ∙ none))))
      (among-at (λ i. get_or ring (j + 1 + i) 0) (get_or ring j 0) half k near (same ∙ sym (in-ring j less)))

  apart : repeats_in ring record_count ≡ false → (i j : ℕ) → i < j → j < count → (at j ≡ 0 → ⊥) → at i ≡ at j → ⊥
  apart none i j before less some same = elim (dec_le j (i + half)) [
    | yes near ↦
        let k = j - (i + 1) in
        let here : i + 1 + k ≡ j = omega arith in
        contrary (met_at i k (omega arith) (omega arith) (λ zero. some (sym same ∙ zero)) (ap (λ (m : ℕ). get_or ring m 0) here ∙ in-ring j (omega arith) ∙ sym same)) (none-repeats ring none i (omega arith))
    | no far ↦
        let k = i + record_count - (j + 1) in
        let here : j + 1 + k ≡ i + record_count = omega arith in
        contrary (met_at j k (omega arith) (omega arith) some (ap (λ (m : ℕ). get_or ring m 0) here ∙ in-ring-again i (omega arith) ∙ same)) (none-repeats ring none j (omega arith))
  ]

  few-zeros : repeats_in ring record_count ≡ false → zeros_in at count ≤ 1 → all_differ at count ≡ true
  unfolding all_differ
  few-zeros none once =
      every_holds (λ m. not (among at m (at m))) count
      (λ j less. ap not (not-among at (at j) j (λ i before same. differing i j before less same (eqb (at j) 0) refl)))
    where
      differing : (i j : ℕ) → i < j → j < count → at i ≡ at j → (t : Bool) → eqb (at j) 0 ≡ t → ⊥
      differing i j before less same true met = let zero = eqb-true (at j) 0 met in omega (arith, once, zero-twice at i j count before less (same ∙ zero) zero)
      differing i j before less same false other = apart none i j before less (eqb-false (at j) 0 other) same

  -- and where none is met, all differ if 0 stands once at most
  pub zeros_differ : repeats_in ring record_count ≡ false → leb (zeros_in at record_count + count) (record_count + 1) ≡ all_differ at count
  zeros_differ none =
      let all : count + (record_count - count) ≡ record_count = omega arith in
      let counted = ap (zeros_in at) (sym all) ∙ zeros-behind at count (record_count - count) (λ j from less. narrow.1 j from (omega arith)) in
      elim (dec_le (zeros_in at count) 1) [
        | yes once ↦ le-leb (zeros_in at record_count + count) (record_count + 1) (omega (arith, counted, once)) ∙ sym (few-zeros none once)
        | no more ↦ lt-leb (zeros_in at record_count + count) (record_count + 1) (omega (arith, counted)) ∙ sym (by-test more (all_differ at count) refl)
      ]
    where
      by-test : (zeros_in at count ≤ 1 → ⊥) → (t : Bool) → all_differ at count ≡ t → t ≡ false
      by-test more false e = refl
      by-test more true e = absurd (more (zero-once at count e))
