-- The records of an account's paths: what the definitions of the ledger say of them, the account says of the paths.
use Rattle.std.proofs.Common.{◌≡◌, ℕ, zero, suc, ◌+◌, ◌<◌, ◌≤◌, Bool, true, false, eqb, List, [], ◌∷◌, ◌++◌, map, length, take, drop, set, replicate, sym, refl, ap, ◌∙◌, ap₂, le_of_suc-le-suc, not-suc-le-zero, suc-add, zero-add, arith, le-ltb, lt-ltb, ne_eqb}
use lib.ListN.{length-replicate}
use lib.Dec.{leb-suc-suc}
use borrow.Author.Tests.{eqb-false}
use Rattle.quantity.specs.Choice.{pick, either}
use Rattle.quantity.specs.Ranges.{in_range, rate_range, path_number_range}
use Rattle.quantity.proofs.Laws.{either-false}
use Rattle.quantity.proofs.Sums.{total-zero, total_first}
use Rattle.ledger.specs.declared.Record.{Record}
use Rattle.ledger.specs.Records.{no_record, record_at, number_at, mark_at, share, reserved, among, place_among}
use Rattle.ledger.specs.Ledgers.{link_count, mark_range, record_in_range, record_clear, record_fits}
use Rattle.ledger.specs.Holding.{rate_of, rate_on, record_of}
use Rattle.ledger.specs.Confirming.{confirmed_record}
use Rattle.ledger.specs.Account.{Account, Entry, reserved_on, stands_in, confirmed_in, without, with_confirmed}
use Rattle.ledger.specs.Kept.{mark_of, record_of_entry}
use Rattle.ledger.proofs.Links.{share-named, links-inside}
use Rattle.ledger.proofs.Firsts.{among_none, among_first, place-first}

eqb-flip : (a b : ℕ) → eqb a b ≡ false → eqb b a ≡ false
eqb-flip a b e = ne_eqb b a (λ same. eqb-false a b e (sym same))

-- the paths' records, and so many clear ones behind them
abbrev pub records_of : Account → ℕ → List Record
records_of entries rest = map record_of_entry entries ++ replicate rest no_record

pub reserved-on : (entries : Account) (rest link : ℕ) → link < link_count → reserved (records_of entries rest) (length entries) link ≡ reserved_on link entries
unfolding reserved reserved_on
reserved-on [] rest link less = total-zero (λ j. share (record_at (records_of [] rest) j) link)
reserved-on (entry ∷ entries) rest link less =
    total_first (λ j. share (record_at (records_of (entry ∷ entries) rest) j) link) (length entries)
    ∙ ap₂ ◌+◌ (share-named entry.number entry.path (mark_of entry.confirmed) link less) (reserved-on entries rest link less)

pub stands-in : (entries : Account) (rest number : ℕ) → among (number_at (records_of entries rest)) (length entries) number ≡ stands_in number entries
unfolding stands_in record_of
stands-in [] rest number = among_none (number_at (records_of [] rest)) number
stands-in (entry ∷ entries) rest number =
    among_first (number_at (records_of (entry ∷ entries) rest)) number (length entries) ∙ ap (either (eqb entry.number number)) (stands-in entries rest number)

pub stands-none : (number : ℕ) → stands_in number [] ≡ false
unfolding stands_in
stands-none number = refl

-- Appending: the first clear record becomes the path's.

pub length-records : (entries : Account) (rest : ℕ) → length (records_of entries rest) ≡ length entries + rest
length-records [] rest = length-replicate rest no_record ∙ sym (zero-add rest)
length-records (entry ∷ entries) rest = ap suc (length-records entries rest) ∙ sym (suc-add (length entries) rest)

pub append-record : (entries : Account) (entry : Entry) (rest : ℕ) → set (records_of entries (suc rest)) (length entries) (record_of_entry entry) ≡ records_of (entries ++ (entry ∷ [])) rest
append-record [] entry rest = refl
append-record (first ∷ entries) entry rest = ap (λ records. record_of_entry first ∷ records) (append-record entries entry rest)

pub append-reserved : (entries : Account) (entry : Entry) (link : ℕ) → reserved_on link (entries ++ (entry ∷ [])) ≡ reserved_on link entries + rate_on link entry.path
unfolding reserved_on
append-reserved [] entry link = omega arith
append-reserved (first ∷ entries) entry link = omega (arith, append-reserved entries entry link)

pub append-stands : (entries : Account) (entry : Entry) (number : ℕ) → stands_in number entries ≡ false → eqb entry.number number ≡ false → stands_in number (entries ++ (entry ∷ [])) ≡ false
unfolding stands_in
append-stands [] entry number absent other = rw other
append-stands (first ∷ entries) entry number absent other =
    let (here, behind) = either-false (eqb first.number number) (stands_in number entries) absent in rw here (append-stands entries entry number behind other)

-- Closing up: the path's record goes, and one more is clear.

replicate-last : (n : ℕ) → replicate n no_record ++ (no_record ∷ []) ≡ replicate (suc n) no_record
replicate-last zero = refl
replicate-last (suc n) = ap (λ records. no_record ∷ records) (replicate-last n)

one-clear : (entries : Account) (rest : ℕ) → records_of entries rest ++ (no_record ∷ []) ≡ records_of entries (suc rest)
one-clear [] rest = replicate-last rest
one-clear (entry ∷ entries) rest = ap (λ records. record_of_entry entry ∷ records) (one-clear entries rest)

-- the records once the one at a place is gone
abbrev gone : List Record → ℕ → List Record
gone records place = take place records ++ (drop (suc place) records ++ (no_record ∷ []))

pub remove-record : (entries : Account) (rest number : ℕ) → stands_in number entries ≡ true
    → gone (records_of entries rest) (place_among (number_at (records_of entries rest)) (length entries) number) ≡ records_of (without number entries) (suc rest)
unfolding stands_in without record_of
remove-record [] rest number standing = absurd (let never : ◌≡◌ {A = ℕ} 0 1 = cc in omega arith)
remove-record (entry ∷ entries) rest number standing =
    ap (gone (records_of (entry ∷ entries) rest)) (place-first (number_at (records_of (entry ∷ entries) rest)) number (length entries))
    ∙ by-test (eqb entry.number number) standing (remove-record entries rest number)
  where
    place : ℕ
    place = place_among (number_at (records_of entries rest)) (length entries) number

    by-test : (t : Bool) → either t (stands_in number entries) ≡ true → (stands_in number entries ≡ true → gone (records_of entries rest) place ≡ records_of (without number entries) (suc rest))
        → gone (records_of (entry ∷ entries) rest) (pick t 0 (suc place)) ≡ records_of (pick t entries (entry ∷ without number entries)) (suc rest)
    by-test true standing others = one-clear entries rest
    by-test false standing others = ap (λ records. record_of_entry entry ∷ records) (others standing)

pub remove-count : (entries : Account) (number : ℕ) → stands_in number entries ≡ true → suc (length (without number entries)) ≡ length entries
unfolding stands_in without
remove-count [] number standing = absurd (let never : ◌≡◌ {A = ℕ} 0 1 = cc in omega arith)
remove-count (entry ∷ entries) number standing = by-test (eqb entry.number number) standing (remove-count entries number)
  where
    by-test : (t : Bool) → either t (stands_in number entries) ≡ true → (stands_in number entries ≡ true → suc (length (without number entries)) ≡ length entries)
        → suc (length (pick t entries (entry ∷ without number entries))) ≡ suc (length entries)
    by-test true standing others = refl
    by-test false standing others = ap suc (others standing)

-- What is reserved then is less by the share of the record that goes.
pub remove-share : (entries : Account) (rest number link : ℕ) → link < link_count → stands_in number entries ≡ true
    → reserved_on link (without number entries) + share (record_at (records_of entries rest) (place_among (number_at (records_of entries rest)) (length entries) number)) link ≡ reserved_on link entries
unfolding stands_in without record_of reserved_on
remove-share [] rest number link less standing = absurd (let never : ◌≡◌ {A = ℕ} 0 1 = cc in omega arith)
remove-share (entry ∷ entries) rest number link less standing =
    ap (λ (at : ℕ). reserved_on link (without number (entry ∷ entries)) + share (record_at (records_of (entry ∷ entries) rest) at) link) (place-first (number_at (records_of (entry ∷ entries) rest)) number (length entries))
    ∙ by-test (eqb entry.number number) standing (remove-share entries rest number link less)
  where
    place : ℕ
    place = place_among (number_at (records_of entries rest)) (length entries) number

    by-test : (t : Bool) → either t (stands_in number entries) ≡ true
        → (stands_in number entries ≡ true → reserved_on link (without number entries) + share (record_at (records_of entries rest) place) link ≡ reserved_on link entries)
        → reserved_on link (pick t entries (entry ∷ without number entries)) + share (record_at (records_of (entry ∷ entries) rest) (pick t 0 (suc place))) link ≡ rate_on link entry.path + reserved_on link entries
    by-test true standing others = omega (arith, share-named entry.number entry.path (mark_of entry.confirmed) link less)
    by-test false standing others = omega (arith, others standing)

-- Confirming: the path's record has its mark, and nothing else changes.

-- the records once the one at a place is confirmed
abbrev pub changed : List Record → ℕ → List Record
changed records place = set records place (confirmed_record (record_at records place))

pub confirm-record : (entries : Account) (rest number : ℕ) → stands_in number entries ≡ true
    → changed (records_of entries rest) (place_among (number_at (records_of entries rest)) (length entries) number) ≡ records_of (with_confirmed number entries) rest
unfolding stands_in with_confirmed record_of confirmed_record
confirm-record [] rest number standing = absurd (let never : ◌≡◌ {A = ℕ} 0 1 = cc in omega arith)
confirm-record (entry ∷ entries) rest number standing =
    ap (changed (records_of (entry ∷ entries) rest)) (place-first (number_at (records_of (entry ∷ entries) rest)) number (length entries))
    ∙ by-test (eqb entry.number number) standing (confirm-record entries rest number)
  where
    place : ℕ
    place = place_among (number_at (records_of entries rest)) (length entries) number

    by-test : (t : Bool) → either t (stands_in number entries) ≡ true → (stands_in number entries ≡ true → changed (records_of entries rest) place ≡ records_of (with_confirmed number entries) rest)
        → changed (records_of (entry ∷ entries) rest) (pick t 0 (suc place))
        ≡ records_of (pick t (record { number = entry.number; path = entry.path; confirmed = true } ∷ entries) (entry ∷ with_confirmed number entries)) rest
    by-test true standing others = refl
    by-test false standing others = ap (λ records. record_of_entry entry ∷ records) (others standing)

-- the mark of a path that stands is the account's
pub mark-in : (entries : Account) (rest number : ℕ) → stands_in number entries ≡ true
    → mark_at (records_of entries rest) (place_among (number_at (records_of entries rest)) (length entries) number) ≡ mark_of (confirmed_in number entries)
unfolding stands_in confirmed_in record_of
mark-in [] rest number standing = absurd (let never : ◌≡◌ {A = ℕ} 0 1 = cc in omega arith)
mark-in (entry ∷ entries) rest number standing =
    ap (mark_at (records_of (entry ∷ entries) rest)) (place-first (number_at (records_of (entry ∷ entries) rest)) number (length entries))
    ∙ by-test (eqb entry.number number) standing (mark-in entries rest number)
  where
    place : ℕ
    place = place_among (number_at (records_of entries rest)) (length entries) number

    by-test : (t : Bool) → either t (stands_in number entries) ≡ true → (stands_in number entries ≡ true → mark_at (records_of entries rest) place ≡ mark_of (confirmed_in number entries))
        → mark_at (records_of (entry ∷ entries) rest) (pick t 0 (suc place)) ≡ mark_of (pick t entry.confirmed (confirmed_in number entries))
    by-test true standing others = refl
    by-test false standing others = others standing

pub confirm-count : (entries : Account) (number : ℕ) → length (with_confirmed number entries) ≡ length entries
unfolding with_confirmed
confirm-count [] number = refl
confirm-count (entry ∷ entries) number = by-test (eqb entry.number number) (confirm-count entries number)
  where
    by-test : (t : Bool) → length (with_confirmed number entries) ≡ length entries
        → length (pick t (record { number = entry.number; path = entry.path; confirmed = true } ∷ entries) (entry ∷ with_confirmed number entries)) ≡ suc (length entries)
    by-test true others = refl
    by-test false others = ap suc others

pub confirm-reserved : (entries : Account) (number link : ℕ) → reserved_on link (with_confirmed number entries) ≡ reserved_on link entries
unfolding reserved_on with_confirmed
confirm-reserved [] number link = refl
confirm-reserved (entry ∷ entries) number link = by-test (eqb entry.number number) (confirm-reserved entries number link)
  where
    by-test : (t : Bool) → reserved_on link (with_confirmed number entries) ≡ reserved_on link entries
        → reserved_on link (pick t (record { number = entry.number; path = entry.path; confirmed = true } ∷ entries) (entry ∷ with_confirmed number entries)) ≡ rate_on link entry.path + reserved_on link entries
    by-test true others = refl
    by-test false others = ap (λ (n : ℕ). rate_on link entry.path + n) others

pub confirm-stands : (entries : Account) (number other : ℕ) → stands_in other (with_confirmed number entries) ≡ stands_in other entries
unfolding stands_in with_confirmed
confirm-stands [] number other = refl
confirm-stands (entry ∷ entries) number other = by-test (eqb entry.number number) (confirm-stands entries number other)
  where
    by-test : (t : Bool) → stands_in other (with_confirmed number entries) ≡ stands_in other entries
        → stands_in other (pick t (record { number = entry.number; path = entry.path; confirmed = true } ∷ entries) (entry ∷ with_confirmed number entries)) ≡ either (eqb entry.number other) (stands_in other entries)
    by-test true others = refl
    by-test false others = ap (either (eqb entry.number other)) others

-- What holds of all paths holds of the rest.

pub remove-reserved : (entries : Account) (number link : ℕ) → reserved_on link (without number entries) ≤ reserved_on link entries
unfolding reserved_on without
remove-reserved [] number link = omega arith
remove-reserved (entry ∷ entries) number link = by-test (eqb entry.number number) (remove-reserved entries number link)
  where
    by-test : (t : Bool) → reserved_on link (without number entries) ≤ reserved_on link entries
        → reserved_on link (pick t entries (entry ∷ without number entries)) ≤ rate_on link entry.path + reserved_on link entries
    by-test true others = omega arith
    by-test false others = omega (arith, others)

pub remove-stands : (entries : Account) (number other : ℕ) → stands_in other entries ≡ false → stands_in other (without number entries) ≡ false
unfolding stands_in without
remove-stands [] number other absent = refl
remove-stands (entry ∷ entries) number other absent =
    let (here, behind) = either-false (eqb entry.number other) (stands_in other entries) absent in by-test (eqb entry.number number) here behind (remove-stands entries number other behind)
  where
    by-test : (t : Bool) → eqb entry.number other ≡ false → stands_in other entries ≡ false → stands_in other (without number entries) ≡ false
        → stands_in other (pick t entries (entry ∷ without number entries)) ≡ false
    by-test true here behind others = behind
    by-test false here behind others = rw here others

-- A path of the account was held: its number and its rate are in their ranges, and no path behind it has its number.

pub record SoundEntry (entry : Entry) (behind : Account) : Type 0 where
  pub numbered : in_range path_number_range entry.number ≡ true
  pub rated : in_range rate_range (rate_of entry.path) ≡ true
  pub alone : stands_in entry.number behind ≡ false

abbrev pub Sound : Account → Type 0
Sound [] = Unit {0}
Sound (entry ∷ entries) = SoundEntry entry entries × Sound entries

pub append-sound : (entries : Account) (entry : Entry) → Sound entries → SoundEntry entry [] → stands_in entry.number entries ≡ false → Sound (entries ++ (entry ∷ []))
unfolding stands_in
append-sound [] entry sound last absent = (last, tt)
append-sound (first ∷ entries) entry (here, sound) last absent =
    let (other, behind) = either-false (eqb first.number entry.number) (stands_in entry.number entries) absent in (
      record { numbered = here.numbered; rated = here.rated; alone = append-stands entries entry first.number here.alone (eqb-flip first.number entry.number other) },
      append-sound entries entry sound last behind,
    )

pub remove-sound : (entries : Account) (number : ℕ) → Sound entries → Sound (without number entries)
unfolding without
remove-sound [] number sound = tt
remove-sound (entry ∷ entries) number (here, sound) = by-test (eqb entry.number number) (remove-sound entries number sound)
  where
    by-test : (t : Bool) → Sound (without number entries) → Sound (pick t entries (entry ∷ without number entries))
    by-test true others = sound
    by-test false others = (record { numbered = here.numbered; rated = here.rated; alone = remove-stands entries number entry.number here.alone }, others)

pub confirm-sound : (entries : Account) (number : ℕ) → Sound entries → Sound (with_confirmed number entries)
unfolding with_confirmed
confirm-sound [] number sound = tt
confirm-sound (entry ∷ entries) number (here, sound) = by-test (eqb entry.number number) (confirm-sound entries number sound)
  where
    by-test : (t : Bool) → Sound (with_confirmed number entries) → Sound (pick t (record { number = entry.number; path = entry.path; confirmed = true } ∷ entries) (entry ∷ with_confirmed number entries))
    by-test true others = (record { numbered = here.numbered; rated = here.rated; alone = here.alone }, sound)
    by-test false others = (record { numbered = here.numbered; rated = here.rated; alone = confirm-stands entries number entry.number ∙ here.alone }, others)

-- Then its records fit, and no number stands twice.

mark-inside : (t : Bool) → in_range mark_range (mark_of t) ≡ true
unfolding in_range
mark-inside true = refl
mark-inside false = refl

clear_at : (n k : ℕ) → record_at (replicate n no_record) k ≡ no_record
clear_at zero k = refl
clear_at (suc n) zero = refl
clear_at (suc n) (suc k) = clear_at n k

pub records-fit : (entries : Account) (rest j : ℕ) → Sound entries → record_fits (length entries) (records_of entries rest) j ≡ true
unfolding record_fits record_in_range record_clear record_of
records-fit [] rest j sound = rw (le-ltb j 0 (omega arith), clear_at rest j)
records-fit (entry ∷ entries) rest zero (here, sound) =
    rw (lt-ltb 0 (suc (length entries)) (omega arith), here.numbered, here.rated, links-inside entry.path) (mark-inside entry.confirmed)
records-fit (entry ∷ entries) rest (suc j) (here, sound) =
    ap (λ (t : Bool). pick t (record_in_range (record_at (records_of entries rest) j)) (record_clear (record_at (records_of entries rest) j))) (leb-suc-suc (suc j) (length entries)) ∙ records-fit entries rest j sound

absent-at : (entries : Account) (rest number j : ℕ) → stands_in number entries ≡ false → j < length entries → number_at (records_of entries rest) j ≡ number → ⊥
unfolding stands_in record_of
absent-at [] rest number j absent within same = not-suc-le-zero within
absent-at (entry ∷ entries) rest number zero absent within same = eqb-false entry.number number (either-false (eqb entry.number number) (stands_in number entries) absent).0 same
absent-at (entry ∷ entries) rest number (suc j) absent within same =
    absent-at entries rest number j (either-false (eqb entry.number number) (stands_in number entries) absent).1 (le_of_suc-le-suc within) same

pub numbers-once : (entries : Account) (rest i j : ℕ) → Sound entries → i < j → j < length entries → number_at (records_of entries rest) i ≡ number_at (records_of entries rest) j → ⊥
unfolding record_of
numbers-once [] rest i j sound before within same = not-suc-le-zero within
numbers-once (entry ∷ entries) rest i zero sound before within same = not-suc-le-zero before
numbers-once (entry ∷ entries) rest zero (suc j) (here, sound) before within same = absent-at entries rest entry.number j here.alone (le_of_suc-le-suc within) (sym same)
numbers-once (entry ∷ entries) rest (suc i) (suc j) (here, sound) before within same = numbers-once entries rest i j sound (le_of_suc-le-suc before) (le_of_suc-le-suc within) same

-- a path that stands has its place among the records
pub place-below : (entries : Account) (rest number : ℕ) → stands_in number entries ≡ true → place_among (number_at (records_of entries rest)) (length entries) number < length entries
unfolding stands_in record_of
place-below [] rest number standing = absurd (let never : ◌≡◌ {A = ℕ} 0 1 = cc in omega arith)
place-below (entry ∷ entries) rest number standing =
    rw (place-first (number_at (records_of (entry ∷ entries) rest)) number (length entries)) (by-test (eqb entry.number number) standing (place-below entries rest number))
  where
    place : ℕ
    place = place_among (number_at (records_of entries rest)) (length entries) number

    by-test : (t : Bool) → either t (stands_in number entries) ≡ true → (stands_in number entries ≡ true → place < length entries) → pick t 0 (suc place) < suc (length entries)
    by-test true standing others = omega arith
    by-test false standing others = omega (arith, others standing)
