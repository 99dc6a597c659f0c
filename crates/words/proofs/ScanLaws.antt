-- Words in two parts: those used fit if each is small, the rest if each is 0, and then the used ones make the sum of all.
use Rattle.std.proofs.Common.{◌≡◌, ℕ, zero, suc, ◌+◌, ◌-◌, ◌<◌, ◌≤◌, min, Bool, true, false, ◌&&◌, eqb, leb, List, length, take, drop, length-drop, get_or-drop, Some, None, sym, refl, ap, ◌∙◌, ap₂, add-zero, add-suc, arith, length-take-le, get_or-take, le-ltb, lt-ltb, le-leb}
use native.Mathlib.Decide.{dec_lt}
use borrow.Author.Tests.{lt-leb}
use Rattle.std.specs.Bool.{then_some}
use Rattle.quantity.specs.Choice.{pick, both}
use Rattle.quantity.specs.Sums.{total, every}
use Rattle.quantity.specs.Limits.{largest_amount}
use Rattle.quantity.proofs.Sums.{total-zero, total-same, every-same, both-assoc}
use Rattle.quantity.proofs.Laws.{pick-false}
use Rattle.words.specs.Stored.{word_at, clear_at, stored_fits, word_fits}
use Rattle.words.specs.Scanning.{most_scanned, all_fit, scanned_of}
use Rattle.words.specs.Gathering.{gathered_of}
use Rattle.words.proofs.StoredLaws.{total-used}
use Rattle.words.proofs.JoinLaws.{joined-within}

every-parts : (test : ℕ → Bool) (n k : ℕ) → every test (n + k) ≡ both (every test n) (every (λ j. test (n + j)) k)
unfolding every
every-parts test n zero = ap (every test) (add-zero n) ∙ both-true-end (every test n)
  where
    both-true-end : (a : Bool) → a ≡ both a true
    both-true-end true = refl
    both-true-end false = refl
every-parts test n (suc k) =
    ap (every test) (add-suc n k) ∙ ap (λ (t : Bool). both t (test (n + k))) (every-parts test n k) ∙ both-assoc (every test n) (every (λ j. test (n + j)) k) (test (n + k))

pub and-both : (a b : Bool) → (a && b) ≡ both a b
and-both true b = refl
and-both false b = refl

-- the words' test and their sum make the answer
pub answered : {t fit : Bool} {units all : ℕ} → t ≡ fit → (fit ≡ true → units ≡ all) → then_some t units ≡ pick fit (Some all) None
answered {fit = true} {units} tested sum = ap (λ (t : Bool). then_some t units) tested ∙ ap Some (sum refl)
answered {fit = false} {units} tested sum = ap (λ (t : Bool). then_some t units) tested

-- none is used
module _ (words : List ℕ) where
  pub unused-fits : every (clear_at words) (length words) ≡ every (word_fits 0 words) (length words)
  unfolding word_fits stored_fits
  unused-fits =
      every-same (clear_at words) (word_fits 0 words) (length words) (λ j less. ap (λ (t : Bool). pick t (leb (word_at words j) largest_amount) (eqb (word_at words j) 0)) (sym (le-ltb j 0 (omega arith))))

  pub unused-units : every (word_fits 0 words) (length words) ≡ true → 0 ≡ total (word_at words) (length words)
  unused-units fits = omega (arith, total-used 0 words fits (omega arith), total-zero (word_at words))

-- the first `end` words are used, and those behind them are not
module _ (words first behind : List ℕ) (used end : ℕ) (cut : end ≡ min used (length words)) (front : first ≡ take end words) (back : behind ≡ drop end words) where
  within : end ≤ length words
  within = omega arith

  abbrev rest : ℕ
  rest = length words - end

  first-length : length first ≡ end
  first-length = ap length front ∙ length-take-le end words within

  behind-length : length behind ≡ rest
  behind-length = ap length back ∙ length-drop end words

  first_word : (j : ℕ) → j < end → word_at first j ≡ word_at words j
  first_word j less = ap (λ (part : List ℕ). word_at part j) front ∙ get_or-take end words j 0 less

  behind-word : (j : ℕ) → word_at behind j ≡ word_at words (end + j)
  behind-word j = ap (λ (part : List ℕ). word_at part j) back ∙ get_or-drop end words j 0

  whole : end + rest ≡ length words
  whole = omega arith

  none-used : (j : ℕ) → j < rest → used ≤ end + j
  none-used j less = omega arith

  abbrev small : Bool
  small = leb (gathered_of first).join largest_amount

  abbrev clear : Bool
  clear = every (clear_at behind) (length behind)

  first_fits : small ≡ every (word_fits used words) end
  unfolding word_fits stored_fits gathered_of
  first_fits =
      joined-within 30 largest_amount refl (word_at first) (length first)
      ∙ ap (every (λ j. leb (word_at first j) largest_amount)) first-length
      ∙ every-same (λ j. leb (word_at first j) largest_amount) (word_fits used words) end
      (λ j less. ap (λ (w : ℕ). leb w largest_amount) (first_word j less)
      ∙ ap (λ (t : Bool). pick t (leb (word_at words j) largest_amount) (eqb (word_at words j) 0)) (sym (lt-ltb j used (omega arith))))

  behind-fits : clear ≡ every (λ j. word_fits used words (end + j)) rest
  unfolding word_fits stored_fits
  behind-fits =
      ap (every (clear_at behind)) behind-length
      ∙ every-same (clear_at behind) (λ j. word_fits used words (end + j)) rest
      (λ j less. ap (λ (w : ℕ). eqb w 0) (behind-word j)
      ∙ ap (λ (t : Bool). pick t (leb (word_at words (end + j)) largest_amount) (eqb (word_at words (end + j)) 0)) (sym (le-ltb (end + j) used (none-used j less))))

  pub scanned-fits : both small clear ≡ every (word_fits used words) (length words)
  scanned-fits = ap₂ both first_fits behind-fits ∙ sym (every-parts (word_fits used words) end rest) ∙ ap (every (word_fits used words)) whole

  pub scanned-units : every (word_fits used words) (length words) ≡ true → total (word_at first) (length first) ≡ total (word_at words) (length words)
  scanned-units fits = ap (total (word_at first)) first-length ∙ total-same (word_at first) (word_at words) end first_word ∙ used-units
    where
      used-units : total (word_at words) end ≡ total (word_at words) (length words)
      used-units = elim (dec_lt end used) [
        | yes fewer ↦ let all : end ≡ length words = omega arith in ap (total (word_at words)) all
        | no enough ↦ let same : end ≡ used = omega arith in ap (total (word_at words)) same ∙ sym (total-used used words fits (omega arith))
      ]

  pub scanned : (both small clear ≡ every (word_fits used words) (length words))
      × (every (word_fits used words) (length words) ≡ true → total (word_at first) (length first) ≡ total (word_at words) (length words))
  scanned = (scanned-fits, scanned-units)

-- more words than are scanned at once
pub too_many : (used : ℕ) (words : List ℕ) → most_scanned < length words → None ≡ scanned_of used words
unfolding scanned_of all_fit
too_many used words above = sym (pick-false _ _ _ (ap (λ (t : Bool). both t (every (word_fits used words) (length words))) (lt-leb (length words) most_scanned above)))

-- of no more than that, each word's test decides
pub scan_few : (used : ℕ) (words : List ℕ) → length words ≤ most_scanned
    → scanned_of used words ≡ pick (every (word_fits used words) (length words)) (Some (total (word_at words) (length words))) None
unfolding scanned_of all_fit
scan_few used words few =
    ap (λ (t : Bool). pick (both t (every (word_fits used words) (length words))) (Some (total (word_at words) (length words))) None) (le-leb (length words) most_scanned few)
