-- Words one part behind the other: each part is passed apart, and what is found of both is found of all.
use Rattle.std.proofs.Common.{◌≡◌, ℕ, ◌+◌, ◌-◌, ◌%◌, ◌<◌, ◌≤◌, true, false, Option, Some, None, MatchOption, Bool, eqb, List, [], ◌∷◌, ◌++◌, length, take, drop, length-append, sym, ap, ◌∙◌, ap₂, arith}
use Rattle.std.proofs.lemmas.List.Sums.{fold-append, sum_by-append}
use Rattle.std.specs.List.{fold}
use Rattle.std.proofs.Math.Seq.{drop-append-add, take-add}
use Rattle.std.proofs.lemmas.List.{take-append-drop, nil_from_length}
use Rattle.std.specs.Fn.{Called}
use Rattle.std.specs.Iterator.{YieldsThen}
use Rattle.std.specs.List.{FoldsTo}
use Rattle.std.specs.Slice.Iter.{chunks_exact_rest, chunks_exact_size, chunks_exact_steps}
use Rattle.std.specs.declared.slice.ChunksExact.{ChunksExact}
use denote.Param.Members.{Mut}
use denote.Ref.{Bor}
use lib.Bits.{bit_or}
use Rattle.quantity.specs.Choice.{both}
use Rattle.quantity.specs.Sums.{total, every}
use Rattle.quantity.proofs.Sums.{both_true}
use Rattle.words.specs.Stored.{word_at, clear_at}
use Rattle.words.specs.Gathering.{joined, gathered_of, gathered_with}
use Rattle.words.specs.declared.Gathered.{Gathered}
use Rattle.words.proofs.StoredLaws.{sum-total}
use Rattle.words.proofs.JoinLaws.{or_assoc, joined_on, fold-joined, or-clear, joined-clear}

joined-append : (xs ys : List ℕ) → joined (word_at (xs ++ ys)) (length (xs ++ ys)) ≡ bit_or (joined (word_at xs) (length xs)) (joined (word_at ys) (length ys))
joined-append xs ys = sym (fold-joined (xs ++ ys)) ∙ fold-append bit_or 0 xs ys ∙ ap (λ (a : ℕ). fold bit_or a ys) (fold-joined xs) ∙ joined_on ys _

total-append : (xs ys : List ℕ) → total (word_at (xs ++ ys)) (length (xs ++ ys)) ≡ total (word_at xs) (length xs) + total (word_at ys) (length ys)
total-append xs ys = sym (sum-total (xs ++ ys)) ∙ sum_by-append (λ x. x) xs ys ∙ ap₂ ◌+◌ (sum-total xs) (sum-total ys)

abbrev pub clear : List ℕ → Bool
clear words = every (clear_at words) (length words)

pub clear-append : (xs ys : List ℕ) → clear (xs ++ ys) ≡ both (clear xs) (clear ys)
clear-append xs ys =
    sym (joined-clear (word_at (xs ++ ys)) (length (xs ++ ys)))
    ∙ ap (λ (join : ℕ). eqb join 0) (joined-append xs ys)
    ∙ or-clear (joined (word_at xs) (length xs)) (joined (word_at ys) (length ys))
    ∙ ap₂ both (joined-clear (word_at xs) (length xs)) (joined-clear (word_at ys) (length ys))

pub gathered-append : (xs ys : List ℕ) → gathered_of (xs ++ ys) ≡ gathered_with (gathered_of xs) (gathered_of ys)
unfolding gathered_of
gathered-append xs ys = ap₂ (λ (join low : ℕ). record { join = join; low = low }) (joined-append xs ys) (omega (arith, total-append xs ys))

pub gathered-assoc : (a b c : Gathered) → gathered_with (gathered_with a b) c ≡ gathered_with a (gathered_with b c)
gathered-assoc a b c = ap₂ (λ (join low : ℕ). record { join = join; low = low }) (or_assoc a.join b.join c.join) (omega arith)

pub gathered-none : (words : List ℕ) → gathered_with (record { join = 0; low = 0 }) (gathered_of words) ≡ gathered_of words
unfolding gathered_of
gathered-none words = ap (λ (low : ℕ). record { join = joined (word_at words) (length words); low = low }) (omega arith)

-- the words behind the last whole row
abbrev pub rest_of : List ℕ → List ℕ
rest_of words = drop (length words - length words % 256) words

pub rest-append : (row rest : List ℕ) → length row ≡ 256 → rest_of (row ++ rest) ≡ rest_of rest
rest-append row rest whole =
    let long = length-append row rest in
    let split : length (row ++ rest) - length (row ++ rest) % 256 ≡ length row + (length rest - length rest % 256) = omega (arith, long, whole) in
    ap (λ (n : ℕ). drop n (row ++ rest)) split ∙ drop-append-add row rest _

-- one row more is tested
rows-next : (row rest words : List ℕ) (r : Bool) → words ≡ row ++ rest → r ≡ clear row → both r (clear rest) ≡ clear words
rows-next row rest words r split tested = ap (λ (t : Bool). both t (clear rest)) tested ∙ sym (ap clear split ∙ clear-append row rest)

-- whole rows tested one after the other, until one is not clear
module _ {F : Type 0} (g : Mut F (Bor (List ℕ) × Unit {0}) Bool) (f : F) (tests : (row : Bor (List ℕ)) (r : Bool) (q : F) → Called g f (row, tt) r q → (q ≡ f) × (r ≡ clear row.now)) where
  pub rows-clear : (rows : List (Bor (List ℕ))) (s u : ChunksExact ℕ) (o : Option (Bor (List ℕ))) (q : F) (r : Bool)
      → chunks_exact_size s ≡ 256 → length (chunks_exact_rest s) % 256 ≡ 0
      → YieldsThen chunks_exact_steps s rows o u → FoldsTo (λ p row q. Called g p (row, tt) true q) f rows q
      → MatchOption o (r ≡ true) (λ row. (r ≡ false) × ((h : F) × Called g q (row, tt) false h))
      → r ≡ clear (chunks_exact_rest s)
  unfolding every
  rows-clear [] s u None q r size whole (t, here, step) same ended =
      let none = nil_from_length (chunks_exact_rest s) (let few : length (chunks_exact_rest s) < 256 = rw (← size, here) step.1.0 in omega arith) in
      ended ∙ sym (ap clear none)
  rows-clear [] s u (Some row) q r size whole (t, here, step) same (fails, (h, call)) =
      let test = tests row false h (rw same call) in
      fails ∙ rows-next row.now (chunks_exact_rest u) (chunks_exact_rest s) false (rw here step.1.0) test.1
  rows-clear (row ∷ rows) s u o q r size whole (t, (j, step, more), last) (k, call, calls) ended =
      let test = tests row true k call in
      let left : length (chunks_exact_rest j) % 256 ≡ 0 = omega (arith, ap length step.1.0, length-append row.now (chunks_exact_rest j), step.1.1, size) in
      let rest = rows-clear rows j u o q r (step.0 ∙ size) left (t, more, last) (rw test.0 at calls) ended in
      rest ∙ rows-next row.now (chunks_exact_rest j) (chunks_exact_rest s) true step.1.0 test.1

-- the words up to `from` are clear with the first row, and those behind it decide
pub first-clear : (words : List ℕ) (from row : ℕ) → from ≤ row → clear (take row words) ≡ true → clear (drop from words) ≡ clear words
first-clear words from row within first =
    let split = ap (λ (n : ℕ). take n words) (let e : from + (row - from) ≡ row = omega arith in sym e) ∙ take-add from (row - from) words in
    let begin = both_true _ _ (sym (clear-append (take from words) (take (row - from) (drop from words))) ∙ ap clear (sym split) ∙ first) in
    rows-next (take from words) (drop from words) words true (sym (take-append-drop from words)) (sym begin.0)

pub first-unclear : (words : List ℕ) (row : ℕ) → clear (take row words) ≡ false → false ≡ clear words
first-unclear words row first = rows-next (take row words) (drop row words) words false (sym (take-append-drop row words)) (sym first)
