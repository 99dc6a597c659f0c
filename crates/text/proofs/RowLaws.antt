-- What a loop over a row knows: the numbers before a place are read, and the row from there on is what is left.
use mathlib.Core.Path.{◌≡◌, refl, sym, ap, ◌∙◌}
use mathlib.Core.Bool.{Bool, true, false}
use mathlib.Core.List.{List, [], ◌∷◌, ◌++◌, append-nil}
use Prim.Native.Nat.{ℕ, suc, ◌+◌, ◌≤◌, ◌<◌}
use native.Mathlib.Numerals.{add-one}
use native.Mathlib.Omega.{arith}
use lib.ListN.{length, get_or, set, drop, length-append}
use lib.Seq.{append_snoc, set_at, drop-cons}
use Rattle.std.specs.Prelude.{Ok, Err}
use Rattle.quantity.specs.Choice.{pick}
use Rattle.text.specs.Rows.{Row, ahead, answer_of, stored_in}

module _ {A : Type 0} where
  -- numbers before a row
  abbrev pub onto : List ℕ → Row A → Row A
  onto done (Ok ns) = Ok (done ++ ns)
  onto done (Err why) = Err why

  onto-none : (row : Row A) → row ≡ onto [] row
  onto-none (Ok ns) = refl
  onto-none (Err why) = refl

  onto-ahead : (done : List ℕ) (n : ℕ) (row : Row A) → onto done (ahead n row) ≡ onto (done ++ (n ∷ [])) row
  unfolding ahead
  onto-ahead done n (Ok ns) = ap Ok (sym (append_snoc done n ns))
  onto-ahead done n (Err why) = refl

  -- of a fault: it is answered, and lent memory is kept
  module _ (row : Row A) (why : A) (is-fault : row ≡ Err why) where
    pub fault-answered : Err why ≡ answer_of row
    unfolding answer_of
    fault-answered = sym (ap answer_of is-fault)

    pub fault-keeps : (lent : List ℕ) → lent ≡ stored_in lent row
    unfolding stored_in
    fault-keeps lent = sym (ap (stored_in lent) is-fault)

  -- the first `count` numbers of the whole row are read
  pub record Reached (whole : Row A) (count : ℕ) (rest : Row A) : Type 0 where
    pub done : List ℕ
    pub counted : length done ≡ count
    pub so_far : whole ≡ onto done rest

  pub reached-first : (whole : Row A) → Reached whole 0 whole
  reached-first whole = record { done = []; counted = refl; so_far = onto-none whole }

  module _ (whole : Row A) (count : ℕ) where
    pub reached-next : (n : ℕ) (rest : Row A) → Reached whole count (ahead n rest) → Reached whole (count + 1) rest
    reached-next n rest r =
        record {
          done = r.done ++ (n ∷ []);
          counted = length-append r.done (n ∷ []) ∙ ap (λ (k : ℕ). k + 1) r.counted;
          so_far = r.so_far ∙ onto-ahead r.done n rest;
        }

    pub reached-fault : (why : A) → Reached whole count (Err why) → whole ≡ Err why
    reached-fault why r = r.so_far

    -- a fault is answered
    pub answer-fault : (why : A) → Reached whole count (Err why) → Err why ≡ answer_of whole
    answer-fault why r = fault-answered whole why r.so_far

    -- or how many numbers there are
    pub answer-count : Reached whole count (Ok []) → Ok count ≡ answer_of whole
    unfolding answer_of
    answer-count r = ap Ok (sym r.counted ∙ ap length (sym (append-nil r.done))) ∙ sym (ap answer_of r.so_far)

    -- where a row has no fault and no more numbers than there are places, none is left behind the last place
    pub reached-full : (places : ℕ) → ((why : A) → whole ≡ Err why → ⊥) → ((ns : List ℕ) → whole ≡ Ok ns → length ns ≤ places) → places ≤ count → (rest : Row A) → Reached whole count rest → rest ≡ Ok []
    reached-full places no-fault few full (Ok []) r = refl
    reached-full places no-fault few full (Ok (n ∷ ns)) r = absurd (omega (arith, few (r.done ++ n ∷ ns) r.so_far, length-append r.done (n ∷ ns), r.counted))
    reached-full places no-fault few full (Err why) r = absurd (no-fault why r.so_far)

  -- and they are stored
  pub record Storing (lent : List ℕ) (whole : Row A) (now : List ℕ) (count : ℕ) (rest : Row A) : Type 0 where
    pub reached : Reached whole count rest
    pub stored : now ≡ reached.done ++ drop count lent

  pub storing-first : (lent : List ℕ) (whole rest : Row A) → whole ≡ rest → Storing lent whole lent 0 rest
  storing-first lent whole rest same = record { reached = record { done = []; counted = refl; so_far = same ∙ onto-none rest }; stored = refl }

  module _ (lent : List ℕ) (whole : Row A) (now : List ℕ) (count : ℕ) where
    pub storing-next : (n : ℕ) (rest : Row A) → count < length lent → Storing lent whole now count (ahead n rest) → Storing lent whole (set now count n) (count + 1) rest
    unfolding reached-next
    storing-next n rest place s =
        let done = s.reached.done in
        record {
          reached = reached-next whole count n rest s.reached;
          stored =
              rw (s.stored, drop-cons lent count 0, add-one)
              (set_at done (get_or lent count 0) (drop (suc count) lent) n count s.reached.counted ∙ sym (append_snoc done n (drop (suc count) lent)));
        }

    -- a row without a fault has none behind the numbers that are stored
    pub storing-no-fault : (rest : Row A) → ((why : A) → whole ≡ Err why → ⊥) → Storing lent whole now count rest → (why : A) → rest ≡ Err why → ⊥
    storing-no-fault rest no-fault s why e = no-fault why (reached-fault whole count why (rw e at s.reached))

    pub storing-end : Storing lent whole now count (Ok []) → now ≡ stored_in lent whole
    unfolding stored_in
    storing-end s =
        let done = s.reached.done in
        rw (s.stored, s.reached.so_far, append-nil, s.reached.counted)

  -- no more numbers than so many, or a fault
  abbrev pub AtMost : ℕ → Row A → Type 0
  AtMost k (Ok ns) = length ns ≤ k
  AtMost k (Err why) = Unit {0}

  pub at-most-more : (k m : ℕ) → k ≤ m → (row : Row A) → AtMost k row → AtMost m row
  at-most-more k m less (Ok ns) few = omega arith
  at-most-more k m less (Err why) few = few

  pub at-most-ahead : (k n : ℕ) (row : Row A) → AtMost k row → AtMost (suc k) (ahead n row)
  unfolding ahead
  at-most-ahead k n (Ok ns) few = omega arith
  at-most-ahead k n (Err why) few = few

  pub at-most-pick : (k : ℕ) (t : Bool) (a b : Row A) → AtMost k a → AtMost k b → AtMost k (pick t a b)
  at-most-pick k true a b few other = few
  at-most-pick k false a b few other = other

  module _ (row : Row A) where
    -- where a count is answered, there is no fault
    module _ (n : ℕ) (is-count : Ok n ≡ answer_of row) where
      pub counted-numbers : (ns : List ℕ) × (row ≡ Ok ns) × (length ns ≡ n)
      unfolding answer_of
      counted-numbers = of row is-count
        where
          of : (row : Row A) → Ok n ≡ answer_of row → (ns : List ℕ) × (row ≡ Ok ns) × (length ns ≡ n)
          of (Ok ns) e = (ns, refl, cc)
          of (Err why) e = cc

      pub counted-no-fault : (why : A) → row ≡ Err why → ⊥
      counted-no-fault why is-fault = let (ns, same, size) = counted-numbers in cc

      pub counted-at-most : (k : ℕ) → AtMost k row → n ≤ k
      counted-at-most k few =
          let (ns, same, size) = counted-numbers in
          let short : length ns ≤ k = rw same at few in
          omega arith

    -- where a fault is answered, it is the row's
    pub refused-fault : (why : A) → Err why ≡ answer_of row → row ≡ Err why
    unfolding answer_of
    refused-fault why = of row
      where
        of : (row : Row A) → Err why ≡ answer_of row → row ≡ Err why
        of (Ok ns) e = cc
        of (Err other) e = cc
