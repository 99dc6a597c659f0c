-- The records once one is gone: those before it as they were, those behind it one place further up, and another last.
use Rattle.std.proofs.Common.{◌≡◌, ℕ, zero, suc, ◌+◌, ◌-◌, ◌<◌, ◌≤◌, List, [], ◌∷◌, ◌++◌, length, get_or, take, drop, set, sym, refl, ap, ◌∙◌, le_of_suc-le-suc, not-suc-le-zero, add-one, arith, length-append, length-set, get_or-set_other, get_or-set_same, lt-ltb}
use Rattle.std.specs.List.{CopiedTo, SameBelow}
use lib.ListN.{get_or-append}
use native.Mathlib.Decide.{dec_lt}
use Rattle.quantity.proofs.Laws.{pick_true}
use Rattle.quantity.proofs.Sums.{list_of-ext}
use Rattle.ledger.specs.declared.Record.{Record}
use Rattle.ledger.specs.Records.{no_record}
use Rattle.ledger.specs.Ledgers.{record_count}
use Rattle.ledger.specs.Release.{closed_up}

module _ {X : Type 0} where
  -- the list once the one at a place is gone, and another comes last
  abbrev pub without : ℕ → List X → X → List X
  without at xs last = take at xs ++ (drop (suc at) xs ++ (last ∷ []))

  pub without-length : (at : ℕ) (xs : List X) (last : X) → at < length xs → length (without at xs last) ≡ length xs
  without-length at [] last l = absurd (not-suc-le-zero l)
  without-length zero (x ∷ xs) last l = omega (arith, length-append xs (last ∷ []))
  without-length (suc at) (x ∷ xs) last l = ap suc (without-length at xs last (le_of_suc-le-suc l))

  without-before : (at j : ℕ) (xs : List X) (last d : X) → j < at → at < length xs → get_or (without at xs last) j d ≡ get_or xs j d
  without-before at j [] last d b l = absurd (not-suc-le-zero l)
  without-before zero j (x ∷ xs) last d b l = absurd (not-suc-le-zero b)
  without-before (suc at) zero (x ∷ xs) last d b l = refl
  without-before (suc at) (suc j) (x ∷ xs) last d b l = without-before at j xs last d (le_of_suc-le-suc b) (le_of_suc-le-suc l)

  pub without-behind : (at j : ℕ) (xs : List X) (last d : X) → at ≤ j → suc j < length xs → get_or (without at xs last) j d ≡ get_or xs (suc j) d
  without-behind at j [] last d le l = absurd (not-suc-le-zero l)
  without-behind zero j (x ∷ xs) last d le l = get_or-append xs (last ∷ []) d j (le_of_suc-le-suc l)
  without-behind (suc at) zero (x ∷ xs) last d le l = absurd (not-suc-le-zero le)
  without-behind (suc at) (suc j) (x ∷ xs) last d le l = without-behind at j xs last d (le_of_suc-le-suc le) (le_of_suc-le-suc l)

  get_d-behind : (xs : List X) (last d : X) (j : ℕ) → j ≡ length xs → get_or (xs ++ (last ∷ [])) j d ≡ last
  get_d-behind [] last d zero e = refl
  get_d-behind [] last d (suc j) e = absurd (omega (arith, e))
  get_d-behind (x ∷ xs) last d zero e = absurd (omega (arith, e))
  get_d-behind (x ∷ xs) last d (suc j) e = get_d-behind xs last d j (omega (arith, e))

  pub without-last : (at j : ℕ) (xs : List X) (last d : X) → at ≤ j → suc j ≡ length xs → get_or (without at xs last) j d ≡ last
  without-last at j [] last d le e = absurd (omega (arith, e))
  without-last zero j (x ∷ xs) last d le e = get_d-behind xs last d j (omega (arith, e))
  without-last (suc at) zero (x ∷ xs) last d le e = absurd (not-suc-le-zero le)
  without-last (suc at) (suc j) (x ∷ xs) last d le e = without-last at j xs last d (le_of_suc-le-suc le) (omega (arith, e))

-- the records behind the place copied onto it, and the last set
module _ (records moved : List Record) (at : ℕ) (last : Record) (sized : length records ≡ record_count) (within : at < record_count) where
  pub closed-copied : length moved ≡ length records → CopiedTo records moved (at + 1) at (length records - (at + 1)) → SameBelow records moved at → set moved 63 last ≡ closed_up records at last
  unfolding closed_up
  closed-copied long copied same =
      list_of-ext no_record (λ j. get_or closed j no_record) record_count (set moved 63 last) (length-set moved 63 last ∙ long ∙ sized) each
      ∙ sym (list_of-ext no_record (λ j. get_or closed j no_record) record_count closed (without-length at records last (omega (arith, sized, within)) ∙ sized) (λ j less. refl))
      ∙ ap (λ (k : ℕ). take at records ++ (drop k records ++ (last ∷ []))) (sym (add-one at))
      ∙ sym (pick_true _ _ records (lt-ltb at record_count within))
    where
      closed : List Record
      closed = without at records last

      each : (j : ℕ) → j < record_count → get_or (set moved 63 last) j no_record ≡ get_or closed j no_record
      each j less = elim (dec_lt j at) [
        | yes before ↦
            get_or-set_other moved 63 j last no_record (λ same. omega arith) ∙ same j no_record before ∙ sym (without-before at j records last no_record before (omega (arith, sized, within)))
        | no behind ↦
            elim (dec_lt j 63) [
              | yes near ↦
                  let shift : at + 1 + (j - at) ≡ suc j = omega arith in
                  get_or-set_other moved 63 j last no_record (λ same. omega arith) ∙ copied j no_record (omega arith) (omega (arith, sized))
                  ∙ ap (λ (k : ℕ). get_or records k no_record) shift ∙ sym (without-behind at j records last no_record (omega arith) (omega (arith, sized)))
              | no end ↦
                  let here : j ≡ 63 = omega arith in
                  ap (λ (k : ℕ). get_or (set moved 63 last) k no_record) here ∙ get_or-set_same moved 63 last no_record (omega (arith, long, sized))
                  ∙ sym (without-last at j records last no_record (omega arith) (omega (arith, sized, here)))
            ]
      ]
