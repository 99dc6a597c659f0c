-- The meter (section 2; document 02, item 6): what it stores is a function of the inputs it took, so the units that count with an input in a row are those from the
-- start of the block or window that ends with its slot; and an input keeps the declaration just where that one block or window of each row does.
use Rattle.std.proofs.Common.{◌≡◌, ℕ, zero, suc, ◌+◌, ◌-◌, ◌*◌, ◌/◌, ◌%◌, ◌<◌, ◌≤◌, Bool, true, false, Ok, Err, not, eqb, ltb, leb, ◌↔◌, List, [], ◌∷◌, ◌++◌, length, replicate, sym, refl, ap, ◌∙◌, true≢false, le_refl, add-zero, add-suc, mul-le-mul_right, mod-lt, mod-eq_of_lt, div-lt_iff_lt-mul, add-mul, div-add-mod', div-mul-le_self, add-one, arith, length-append, ltb-false, le-ltb, eq-eqb, ne_eqb, le-leb, leb-true}
use native.Mathlib.Nat.{sub-zero, zero-mod, add-mod_left}
use native.Mathlib.Decide.{ℕ_discrete, dec_le, dec_lt}
use lib.ListN.{length-replicate, get_or-replicate, get_or-append, get_or-eq_default}
use lib.Seq.{get_or_at}
use borrow.Author.Tests.{not-false}
use Rattle.quantity.specs.Choice.{pick, either}
use Rattle.quantity.specs.Limits.{largest_amount, last_slot}
use Rattle.quantity.specs.Sums.{total, list_of}
use Rattle.quantity.specs.declared.refusal.Refusal.TheVariants.{InputBreaksDeclaration}
use Rattle.quantity.proofs.Laws.{pick-false, either-false}
use Rattle.quantity.proofs.Sums.{total-zero, total-suc, total-next, total-le, total-none, total-same, total-le-end, every-at, every_holds, length-list_of, get_d-list_of}
use Rattle.flow.specs.Rows.{Row}
use Rattle.flow.specs.Declarations.{row_count, row_at, declaration_in_range, rows_in_order, unused_clear, class_of}
use Rattle.flow.specs.Flows.{Flow, flow_of, Smooth, Uniform}
use Rattle.flow.specs.Classes.{Keeps}
use Rattle.meter.specs.Meter.{meter_word_count, uses_block, ring_length, meter_unusable, block_before, word_before, counted_before, input_breaks, block_next, meter_next, meter_word_next, meter_of, meter_words_after}
use Rattle.meter.specs.Metering.{Fed, new_meter, offered, offered_all}
use Rattle.meter.specs.Words.{latest_input, word_taken}
use Rattle.words.specs.Stored.{word_at, stored_fits, word_fits}
use Rattle.flow.specs.declared.Kind.{Kind}
use Rattle.flow.specs.declared.Declaration.{Declaration}
use Rattle.meter.specs.declared.SourceMeter.{SourceMeter}
use Rattle.flow.proofs.Blocks.{same_block}
use Rattle.flow.proofs.Declarations.{one_at}
use Rattle.flow.proofs.Keeping.{uniform-last}
use Rattle.meter.proofs.UsableMeter.{Ranged, declaration-ranged, smooth-one, block-interval, ring-none, ring-large, ring-fits, row-within-ring, counted-block, counted_words, usable-meter, meter-usable}

-- A row kept by blocks, or by windows.

abbrev KeepsRow : Bool → Row → Flow → Type 0
KeepsRow true row r = Smooth row.interval row.quota r
KeepsRow false row r = Uniform row.interval row.quota r

-- the first slot of the block that slot t is in, or of the m neighbouring slots that end with it
abbrev start_of : Bool → ℕ → ℕ → ℕ
start_of true m t = t / m * m
start_of false m t = suc t - m

start-le : (blocks : Bool) (m t : ℕ) → 1 ≤ m → start_of blocks m t ≤ t
start-le true m t large = div-mul-le_self t m
start-le false m t large = omega arith

-- a declaration is kept where each of its rows is
keeps-rows : (declared : Declaration) (r : Flow) → Keeps (class_of declared) r ↔ ((i : ℕ) → i < row_count declared → KeepsRow (uses_block declared.kind) (row_at declared i) r)
unfolding class_of row_count row_at uses_block
keeps-rows declared r = by-kind declared.kind refl
  where
    by-kind : (kind : Kind) → declared.kind ≡ kind → Keeps (class_of declared) r ↔ ((i : ℕ) → i < row_count declared → KeepsRow (uses_block declared.kind) (row_at declared i) r)
    by-kind Kind.Smooth e = rw e (λ keeps i less. keeps, λ each. each 0 (omega arith))
    by-kind Kind.Uniform e = rw e (λ keeps i less. keeps, λ each. each 0 (omega arith))
    by-kind Kind.Rows e = rw e (λ keeps. keeps, λ each. each)

smooth-last : (m Q t : ℕ) (r : Flow) → 1 ≤ m → Smooth m Q r → total r (suc t) ≤ total r (t / m * m) + Q
smooth-last m Q t r large keeps = rw (add-suc, div-add-mod') at (keeps (t / m) (suc (t % m)) (mod-lt t large))

row_last : (blocks : Bool) (row : Row) (t : ℕ) (r : Flow) → 1 ≤ row.interval → KeepsRow blocks row r → total r (suc t) ≤ total r (start_of blocks row.interval t) + row.quota
row_last true row t r large keeps = smooth-last row.interval row.quota t r large keeps
row_last false row t r large keeps = uniform-last row.interval row.quota t r keeps

-- What a meter stores after t slots of a flow r.

-- the units of the block of slot t − 1
unfoldable pub block_units : ℕ → Flow → ℕ → ℕ
block_units m r zero = 0
block_units m r (suc t) = pick (eqb (t % m) 0) 0 (block_units m r t) + r t

-- neighbouring slots, fewer than m, leave different remainders
remainders-differ : (m i d : ℕ) → 1 ≤ d → d < m → i % m ≡ (i + d) % m → ⊥
remainders-differ m i d some few same = by_blocks (dec_le ((i + d) / m) (i / m))
  where
    by_blocks : Dec ((i + d) / m ≤ i / m) → ⊥
    by_blocks (yes h) = omega (arith, mul-le-mul_right m h, div-add-mod' i m, div-add-mod' (i + d) m)
    by_blocks (no h) =
        let above : i / m + 1 ≤ (i + d) / m = omega arith in
        omega (arith, mul-le-mul_right m above, add-mul (i / m) 1 m, div-add-mod' i m, div-add-mod' (i + d) m)

-- what is stored is of the slots before t alone
module _ (m : ℕ) (r s : Flow) where
  block-units-same : (t : ℕ) → ((i : ℕ) → i < t → r i ≡ s i) → block_units m r t ≡ block_units m s t
  unfolding block_units
  block-units-same zero same = refl
  block-units-same (suc t) same = rw (block-units-same t (λ i less. same i (omega arith)), same t (omega arith))

  latest-input-same : (t j : ℕ) → ((i : ℕ) → i < t → r i ≡ s i) → latest_input m r t j ≡ latest_input m s t j
  unfolding latest_input
  latest-input-same zero j same = refl
  latest-input-same (suc t) j same = rw (latest-input-same t j (λ i less. same i (omega arith)), same t (omega arith))

module _ (m : ℕ) (r : Flow) where
  latest-none : (t j : ℕ) → ((i : ℕ) → i < t → j ≡ i % m → ⊥) → latest_input m r t j ≡ 0
  unfolding latest_input
  latest-none zero j other = refl
  latest-none (suc t) j other = rw (ne_eqb j (t % m) (other t (omega arith))) (latest-none t j (λ i less. other i (omega arith)))

  latest-unchanged : (t j : ℕ) → (j ≡ t % m → ⊥) → latest_input m r (suc t) j ≡ latest_input m r t j
  unfolding latest_input
  latest-unchanged t j other = rw (ne_eqb j (t % m) other)

  latest-written : (t : ℕ) → latest_input m r (suc t) (t % m) ≡ r t
  unfolding latest_input
  latest-written t = rw (eq-eqb (t % m) (t % m) refl)

  -- an input stands for m slots
  latest-stands : (i d : ℕ) → d < m → latest_input m r (suc (i + d)) (i % m) ≡ r i
  latest-stands i zero few = rw add-zero (latest-written i)
  latest-stands i (suc d) few =
      rw add-suc (latest-unchanged (suc (i + d)) (i % m) (rw (← add-suc) (remainders-differ m i (suc d) (omega arith) few)) ∙ latest-stands i d (omega arith))

  latest-le : (Q : ℕ) → ((i : ℕ) → r i ≤ Q) → (t j : ℕ) → latest_input m r t j ≤ Q
  unfolding latest_input
  latest-le Q each zero j = omega arith
  latest-le Q each (suc t) j = by-test (eqb j (t % m)) (latest-le Q each t j)
    where
      by-test : (test : Bool) → latest_input m r t j ≤ Q → pick test (r t) (latest_input m r t j) ≤ Q
      by-test true before = each t
      by-test false before = before

  module _ (large : 1 ≤ m) where
    -- the block's units count, none where a block begins
    none-counts-at-start : (t : ℕ) → t % m ≡ 0 → pick (eqb (t % m) 0) 0 (block_units m r t) + total r (t / m * m) ≡ total r t
    none-counts-at-start t starts =
        let here : t / m * m ≡ t = omega (arith, div-add-mod' t m) in
        rw (eq-eqb (t % m) 0 starts, here) (omega arith)

    block-counts : (t : ℕ) → pick (eqb (t % m) 0) 0 (block_units m r t) + total r (t / m * m) ≡ total r t
    unfolding block_units
    block-counts zero = none-counts-at-start 0 (zero-mod m)
    block-counts (suc t) = by_place (ℕ_discrete (suc t % m) 0) (block-counts t)
      where
        by_place : Dec (suc t % m ≡ 0) → pick (eqb (t % m) 0) 0 (block_units m r t) + total r (t / m * m) ≡ total r t
            → pick (eqb (suc t % m) 0) 0 (block_units m r (suc t)) + total r (suc t / m * m) ≡ total r (suc t)
        by_place (yes starts) before = none-counts-at-start (suc t) starts
        by_place (no inside) before = rw (ne_eqb (suc t % m) 0 inside, same_block m t large inside) (omega (arith, total-suc r t))

    block-units-le : (Q : ℕ) → Smooth m Q r → (t : ℕ) → block_units m r t ≤ Q
    unfolding block_units
    block-units-le Q keeps zero = omega arith
    block-units-le Q keeps (suc t) = omega (arith, block-counts t, smooth-last m Q t r large keeps, total-suc r t)

    -- no slot's number leaves m or more
    latest-beyond : (t j : ℕ) → m ≤ j → latest_input m r t j ≡ 0
    latest-beyond t j past = latest-none t j (λ i less. omega (arith, mod-lt i large))

-- A ring's words by age: word a is the input of a + 1 slots ago.
module _ (ring t : ℕ) (r : Flow) (words : List ℕ) (large : 1 ≤ ring) (each : (j : ℕ) → j < ring → word_at words j ≡ latest_input ring r t j) where
  age-input : (a : ℕ) → a < ring → word_before ring t words a + total r (t - suc a) ≡ total r (t - a)
  unfolding word_before
  age-input a young = by_place (dec_lt a t)
    where
      by_place : Dec (a < t) → word_at words ((t + ring - suc a) % ring) + total r (t - suc a) ≡ total r (t - a)
      by_place (yes since) =
          let i = t - suc a in
          let round : t + ring - suc a ≡ ring + i = omega arith in
          let place : (t + ring - suc a) % ring ≡ i % ring = ap (λ (n : ℕ). n % ring) round ∙ add-mod_left ring i in
          let now : t ≡ suc (i + a) = omega arith in
          let next : t - a ≡ suc i = omega arith in
          let stands : latest_input ring r t (i % ring) ≡ r i = ap (λ (n : ℕ). latest_input ring r n (i % ring)) now ∙ latest-stands ring r i a young in
          rw (place, next) (omega (arith, each (i % ring) (mod-lt i large), stands, total-suc r i))
      by_place (no none) =
          let place : (t + ring - suc a) % ring ≡ t + ring - suc a = mod-eq_of_lt {n = t + ring - suc a} {m = ring} (omega arith) in
          let start : t - suc a ≡ t - a = omega arith in
          let nothing : latest_input ring r t (t + ring - suc a) ≡ 0 = latest-none ring r t (t + ring - suc a) (λ i less. omega (arith, mod-eq_of_lt {n = i} {m = ring} (omega arith))) in
          rw (place, start) (omega (arith, each (t + ring - suc a) (omega arith), nothing))

  -- so the words of the last n slots are their inputs
  ages-total : (n : ℕ) → n ≤ ring → total (word_before ring t words) n + total r (t - n) ≡ total r t
  ages-total zero few = rw sub-zero (omega (arith, total-zero (word_before ring t words)))
  ages-total (suc n) few = omega (arith, total-suc (word_before ring t words) n, age-input n few, ages-total n (omega arith))

-- A flow that keeps a row before slot t, and one that agrees with it there and has nothing after slot t.
module _ (row : Row) (t : ℕ) (r s : Flow) (large : 1 ≤ row.interval) (same : (i : ℕ) → i < t → r i ≡ s i) (rest : (i : ℕ) → t < i → s i ≡ 0) where
  total-before : (n : ℕ) → n ≤ t → total r n ≡ total s n
  total-before n h = total-same r s n (λ i less. same i (omega arith))

  -- if the slots from start to t have at most Q, so have those from a to b − 1: they are before slot t, or start no earlier
  between_le : (start a b : ℕ) → total s (suc t) ≤ total s start + row.quota → a ≤ b → total r b ≤ total r a + row.quota → (t < b → start ≤ a) → total s b ≤ total s a + row.quota
  between_le start a b last h before past = by_place (dec_le b t)
    where
      by_place : Dec (b ≤ t) → total s b ≤ total s a + row.quota
      by_place (yes early) = omega (arith, total-before b early, total-before a (omega arith))
      by_place (no late) = omega (arith, total-le-end s (suc t) rest b, total-le s (past (omega arith)))

  keeps-next : (blocks : Bool) → KeepsRow blocks row r → total s (suc t) ≤ total s (start_of blocks row.interval t) + row.quota → KeepsRow blocks row s
  keeps-next true keeps last =
      let m = row.interval in
      λ j k h.
      between_le (t / m * m) (j * m) (j * m + k) last (omega arith) (keeps j k h)
      (λ past. mul-le-mul_right m (omega (arith, (div-lt_iff_lt-mul {x = t} {y = j + 1} large).1 (omega (arith, add-mul j 1 m)))))
  keeps-next false keeps last = λ a k h. between_le (suc t - row.interval) a (a + k) last (omega arith) (keeps a k h) (λ past. omega arith)

  -- one more slot keeps the row just where its units and those that count with them are within the quota
  keeps-iff : (blocks : Bool) (counted input : ℕ) → counted + total r (start_of blocks row.interval t) ≡ total r t → s t ≡ input → KeepsRow blocks row r
      → (counted + input ≤ row.quota) ↔ KeepsRow blocks row s
  keeps-iff blocks counted input e here keeps =
      let start = total-before (start_of blocks row.interval t) (start-le blocks row.interval t large) in
      let end = total-before t (le_refl t) in
      (λ h. keeps-next blocks keeps (omega (arith, total-suc s t)), λ h. omega (arith, total-suc s t, row_last blocks row t s large h))

-- A meter's block and words after t slots of a flow.

abbrev stored_block : Declaration → Flow → ℕ → ℕ
stored_block declared r t = pick (uses_block declared.kind) (block_units declared.interval.0 r t) 0

abbrev stored_word : Declaration → Flow → ℕ → ℕ → ℕ
stored_word declared r t j = pick (uses_block declared.kind) 0 (latest_input (ring_length declared) r t j)

module _ (x : SourceMeter) (words : List ℕ) (r : Flow) where
  abbrev declared : Declaration
  declared = x.declaration

  module _ (ranged : Ranged declared) (ordered : rows_in_order declared ≡ true) (block : x.block.0 ≡ stored_block declared r x.slot.0)
      (each : (j : ℕ) → j < meter_word_count → word_at words j ≡ stored_word declared r x.slot.0 j) where
    -- what counts in a row is what came from the start of its block or window on
    counted-total : (blocks : Bool) → uses_block declared.kind ≡ blocks → (i : ℕ) → i < row_count declared
        → counted_before x words i + total r (start_of blocks (row_at declared i).interval x.slot.0) ≡ total r x.slot.0
    unfolding block_before
    counted-total true smooth i less =
        let row = one_at declared (smooth-one declared.kind smooth) i in
        rw (counted-block x words smooth i, row, block, smooth) (block-counts declared.interval.0 r (block-interval declared smooth ranged) x.slot.0)
    counted-total false ring i less =
        let m = (row_at declared i).interval in
        let start : x.slot.0 - (m - 1) ≡ suc x.slot.0 - m = omega (arith, ranged.large i less) in
        let word : (j : ℕ) → j < ring_length declared → word_at words j ≡ latest_input (ring_length declared) r x.slot.0 j =
        λ j near. each j (omega (arith, ring-fits declared ring ranged)) ∙ pick-false _ _ _ ring in
        rw (counted_words x words ring i, ← start)
        (ages-total (ring_length declared) x.slot.0 r words (ring-large declared ring ranged) word (m - 1) (omega (arith, row-within-ring declared ring ranged ordered i less)))

  module _ (input : ℕ) (s : Flow) (same : (i : ℕ) → i < x.slot.0 → r i ≡ s i) (here : s x.slot.0 ≡ input) where
    block-next : x.block.0 ≡ stored_block declared r x.slot.0 → block_next x input ≡ stored_block declared s (x.slot.0 + 1)
    unfolding block_next block_before block_units
    block-next block = rw block (by-test (uses_block declared.kind))
      where
        by-test : (blocks : Bool) → pick blocks (pick (eqb (x.slot.0 % declared.interval.0) 0) 0 (pick blocks (block_units declared.interval.0 r x.slot.0) 0) + input) 0
            ≡ pick blocks (block_units declared.interval.0 s (x.slot.0 + 1)) 0
        by-test true = rw (add-one, ← block-units-same declared.interval.0 r s x.slot.0 same, here)
        by-test false = refl

    word-next : (j : ℕ) → word_at words j ≡ stored_word declared r x.slot.0 j → meter_word_next x words input j ≡ stored_word declared s (x.slot.0 + 1) j
    unfolding meter_word_next latest_input
    word-next j each = rw each (by-test (uses_block declared.kind))
      where
        by-test : (blocks : Bool) → pick blocks (pick blocks 0 (latest_input (ring_length declared) r x.slot.0 j))
            (pick (eqb j (x.slot.0 % ring_length declared)) input (pick blocks 0 (latest_input (ring_length declared) r x.slot.0 j)))
            ≡ pick blocks 0 (latest_input (ring_length declared) s (x.slot.0 + 1) j)
        by-test true = refl
        by-test false = rw (add-one, ← latest-input-same (ring_length declared) r s x.slot.0 j same, here)

module _ (declared : Declaration) (t : ℕ) (r : Flow) (ranged : Ranged declared)
    (keeps : (i : ℕ) → i < row_count declared → KeepsRow (uses_block declared.kind) (row_at declared i) r) where
  block-fits : (blocks : Bool) → uses_block declared.kind ≡ blocks → stored_fits (uses_block declared.kind) (stored_block declared r t) ≡ true
  unfolding stored_fits
  block-fits true smooth =
      let row = one_at declared (smooth-one declared.kind smooth) 0 in
      let kept = rw (smooth, row) at (keeps 0 ranged.some) in
      let small = rw row at (ranged.small 0 ranged.some) in
      rw smooth (le-leb (block_units declared.interval.0 r t) largest_amount (omega (arith, small, block-units-le declared.interval.0 r (block-interval declared smooth ranged) declared.quota.0 kept t)))
  block-fits false ring = rw ring

  word-fits : (blocks : Bool) → uses_block declared.kind ≡ blocks → (j : ℕ) → stored_fits (ltb j (ring_length declared)) (stored_word declared r t j) ≡ true
  unfolding stored_fits
  word-fits true smooth j = rw (ring-none declared smooth, smooth, le-ltb j 0 (omega arith))
  word-fits false ring j = rw ring (by-test (ltb j (ring_length declared)) refl)
    where
      input-le : (i : ℕ) → r i ≤ largest_amount
      input-le i = let kept = rw ring at (keeps 0 ranged.some) in omega (arith, kept i 1 (ranged.large 0 ranged.some), total-next r i, ranged.small 0 ranged.some)

      by-test : (test : Bool) → ltb j (ring_length declared) ≡ test → pick test (leb (latest_input (ring_length declared) r t j) largest_amount) (eqb (latest_input (ring_length declared) r t j) 0) ≡ true
      by-test true e = le-leb _ largest_amount (latest-le (ring_length declared) r largest_amount input-le t j)
      by-test false e = eq-eqb _ 0 (latest-beyond (ring_length declared) r (ring-large declared ring ranged) t j (ltb-false j _ e))

  -- the stored word is the definition's
  stored-taken : (blocks : Bool) → uses_block declared.kind ≡ blocks → (j : ℕ) → stored_word declared r t j ≡ pick (ltb j (ring_length declared)) (latest_input (ring_length declared) r t j) 0
  stored-taken true smooth j = rw (ring-none declared smooth, smooth, le-ltb j 0 (omega arith))
  stored-taken false ring j = rw ring (by-test (ltb j (ring_length declared)) refl)
    where
      by-test : (test : Bool) → ltb j (ring_length declared) ≡ test → latest_input (ring_length declared) r t j ≡ pick test (latest_input (ring_length declared) r t j) 0
      by-test true e = refl
      by-test false e = latest-beyond (ring_length declared) r (ring-large declared ring ranged) t j (ltb-false j _ e)

-- A declaration that nothing is refused for but an input: what it does not use is 0, its numbers are in range, its rows in order.
pub record Accepted (declared : Declaration) : Type 0 where
  pub clear : unused_clear declared ≡ true
  pub ranged : declaration_in_range declared ≡ true
  pub ordered : rows_in_order declared ≡ true

accepted : (declared : Declaration) → Dec (Accepted declared)
accepted declared = by_tests (unused_clear declared) (declaration_in_range declared) (rows_in_order declared) refl refl refl
  where
    by_tests : (clear ranged ordered : Bool) → unused_clear declared ≡ clear → declaration_in_range declared ≡ ranged → rows_in_order declared ≡ ordered → Dec (Accepted declared)
    by_tests true true true e f g = yes (record { clear = e; ranged = f; ordered = g })
    by_tests true true false e f g = no (λ known. true≢false (sym known.ordered ∙ g))
    by_tests true false ordered e f g = no (λ known. true≢false (sym known.ranged ∙ f))
    by_tests false ranged ordered e f g = no (λ known. true≢false (sym known.clear ∙ e))

abbrev declaration_of : Fed → Declaration
declaration_of fed = fed.state.declaration

abbrev slot_of : Fed → ℕ
slot_of fed = fed.state.slot.0

-- What holds of a meter from new: its declaration is accepted, its block and words are those of the inputs that it took, and these keep the declaration.
pub record Sound (fed : Fed) : Type 0 where
  pub accepted : Accepted (declaration_of fed)
  pub slots : length fed.taken ≡ slot_of fed
  pub size : length fed.words ≡ meter_word_count
  pub block : fed.state.block.0 ≡ stored_block (declaration_of fed) (flow_of fed.taken) (slot_of fed)
  pub each : (j : ℕ) → j < meter_word_count → word_at fed.words j ≡ stored_word (declaration_of fed) (flow_of fed.taken) (slot_of fed) j
  pub keeps : Keeps (class_of (declaration_of fed)) (flow_of fed.taken)

-- The flow of a list with one more input.
module _ (taken : List ℕ) (input t : ℕ) (e : length taken ≡ t) where
  flow-same : (i : ℕ) → i < t → flow_of taken i ≡ flow_of (taken ++ (input ∷ [])) i
  flow-same i less = sym (get_or-append taken (input ∷ []) 0 i (rw e less))

  flow-here : flow_of (taken ++ (input ∷ [])) t ≡ input
  flow-here = get_or_at taken input [] 0 t e

  flow-rest : (i : ℕ) → t < i → flow_of (taken ++ (input ∷ [])) i ≡ 0
  flow-rest i past = get_or-eq_default (taken ++ (input ∷ [])) 0 {n = i} (omega (arith, length-append taken (input ∷ [])))

-- the meter once it took an input
abbrev pub after_taken : Fed → ℕ → Fed
after_taken fed input =
    record {
      state = meter_next fed.state input;
      words = list_of (meter_word_next fed.state fed.words input) meter_word_count;
      taken = fed.taken ++ (input ∷ []);
    }

module _ (fed : Fed) (sound : Sound fed) where
  abbrev flow : Flow
  flow = flow_of fed.taken

  ranged : Ranged (declaration_of fed)
  ranged = declaration-ranged (declaration_of fed) sound.accepted.ranged

  rows-kept : (i : ℕ) → i < row_count (declaration_of fed) → KeepsRow (uses_block (declaration_of fed).kind) (row_at (declaration_of fed) i) flow
  rows-kept = (keeps-rows (declaration_of fed) flow).0 sound.keeps

  counted : (i : ℕ) → i < row_count (declaration_of fed)
      → counted_before fed.state fed.words i + total flow (start_of (uses_block (declaration_of fed).kind) (row_at (declaration_of fed) i).interval (slot_of fed)) ≡ total flow (slot_of fed)
  counted i less = counted-total fed.state fed.words flow ranged sound.accepted.ordered sound.block sound.each (uses_block (declaration_of fed).kind) refl i less

  pub sound-word : (j : ℕ) → j < meter_word_count → word_at fed.words j ≡ word_taken (declaration_of fed) fed.taken j
  unfolding word_taken
  sound-word j less =
      rw sound.slots (sound.each j less ∙ stored-taken (declaration_of fed) (slot_of fed) flow ranged rows-kept (uses_block (declaration_of fed).kind) refl j)

  pub sound-usable : length fed.taken ≤ last_slot → meter_unusable fed.state fed.words ≡ false
  unfolding word_fits
  sound-usable left =
      meter-usable fed.state fed.words
      record {
        sized = sound.size;
        slot_left = omega (arith, sound.slots);
        clear = sound.accepted.clear;
        block_fits = rw sound.block (block-fits (declaration_of fed) (slot_of fed) flow ranged rows-kept (uses_block (declaration_of fed).kind) refl);
        words_fit =
            every_holds (word_fits (ring_length (declaration_of fed)) fed.words) meter_word_count
            (λ j less. rw (sound.each j less) (word-fits (declaration_of fed) (slot_of fed) flow ranged rows-kept (uses_block (declaration_of fed).kind) refl j));
      }

  module _ (input : ℕ) where
    -- a row is within its quota just where it is kept
    row_keeps : (i : ℕ) → i < row_count (declaration_of fed)
        → (counted_before fed.state fed.words i + input ≤ (row_at (declaration_of fed) i).quota) ↔ KeepsRow (uses_block (declaration_of fed).kind) (row_at (declaration_of fed) i) (flow_of (fed.taken ++ (input ∷ [])))
    row_keeps i less =
        keeps-iff (row_at (declaration_of fed) i) (slot_of fed) flow (flow_of (fed.taken ++ (input ∷ []))) (ranged.large i less)
        (flow-same fed.taken input (slot_of fed) sound.slots) (flow-rest fed.taken input (slot_of fed) sound.slots) (uses_block (declaration_of fed).kind)
        (counted_before fed.state fed.words i) input (counted i less) (flow-here fed.taken input (slot_of fed) sound.slots) (rows-kept i less)

    pub sound-keeps : (input_breaks fed.state fed.words input ≡ false) ↔ Keeps (class_of (declaration_of fed)) (flow_of (fed.taken ++ (input ∷ [])))
    unfolding input_breaks
    sound-keeps =
        let (apart, joined) = keeps-rows (declaration_of fed) (flow_of (fed.taken ++ (input ∷ []))) in (
          λ e. joined (λ i less. (row_keeps i less).0 (leb-true _ _ (every-at _ (row_count (declaration_of fed)) (not-false _ e) i less))),
          λ h. ap not (every_holds _ (row_count (declaration_of fed)) (λ i less. le-leb _ _ ((row_keeps i less).1 (apart h i less)))),
        )

    pub sound-next : input_breaks fed.state fed.words input ≡ false → Sound (after_taken fed input)
    unfolding meter_next
    sound-next taken =
        let same = flow-same fed.taken input (slot_of fed) sound.slots in
        let here = flow-here fed.taken input (slot_of fed) sound.slots in
        record {
          accepted = sound.accepted;
          slots = omega (arith, length-append fed.taken (input ∷ []), sound.slots);
          size = length-list_of (meter_word_next fed.state fed.words input) meter_word_count;
          block = block-next fed.state fed.words flow input (flow_of (fed.taken ++ (input ∷ []))) same here sound.block;
          each =
              λ j less.
              get_d-list_of 0 (meter_word_next fed.state fed.words input) meter_word_count j less
              ∙ word-next fed.state fed.words flow input (flow_of (fed.taken ++ (input ∷ []))) same here j (sound.each j less);
          keeps = sound-keeps.0 taken;
        }

row-none : (blocks : Bool) (row : Row) → KeepsRow blocks row (flow_of [])
row-none true row = λ j k h. omega (arith, total-none (j * row.interval + k))
row-none false row = λ a k h. omega (arith, total-none (a + k))

pick-none : (test : Bool) → pick {A = ℕ} test 0 0 ≡ 0
pick-none true = refl
pick-none false = refl

pub sound-new : (declared : Declaration) → Accepted declared → Sound (new_meter declared)
unfolding block_units latest_input
sound-new declared accepted =
    record {
      accepted = accepted;
      slots = refl;
      size = length-replicate {A = ℕ} meter_word_count 0;
      block = sym (pick-none (uses_block declared.kind));
      each = λ j less. get_or-replicate {A = ℕ} meter_word_count j 0 0 less ∙ sym (pick-none (uses_block declared.kind));
      keeps = (keeps-rows declared (flow_of [])).1 (λ i less. row-none (uses_block declared.kind) (row_at declared i));
    }

-- What holds of a meter and of it with each input that it takes, which it does only with an accepted declaration, holds of it with any inputs.
module _ (P : Fed → Type 0)
    (next : (fed : Fed) (input : ℕ) → Accepted (declaration_of fed) → input_breaks fed.state fed.words input ≡ false → P fed → P (after_taken fed input)) where
  offered-holds : (fed : Fed) (input : ℕ) → P fed → P (offered fed input)
  unfolding offered meter_of meter_words_after
  offered-holds fed input holds =
      by_tests (either (ltb largest_amount input) (meter_unusable fed.state fed.words)) (not (declaration_in_range (declaration_of fed))) (not (rows_in_order (declaration_of fed)))
      (input_breaks fed.state fed.words input) refl refl refl refl
    where
      by_tests : (unusable outside unordered breaks : Bool) → either (ltb largest_amount input) (meter_unusable fed.state fed.words) ≡ unusable
          → not (declaration_in_range (declaration_of fed)) ≡ outside → not (rows_in_order (declaration_of fed)) ≡ unordered → input_breaks fed.state fed.words input ≡ breaks → P (offered fed input)
      by_tests true outside unordered breaks e f g h = simp e holds
      by_tests false true unordered breaks e f g h = simp (e, f) holds
      by_tests false false true breaks e f g h = simp (e, f, g) holds
      by_tests false false false true e f g h = simp (e, f, g, h) holds
      by_tests false false false false e f g h =
          let usable = usable-meter fed.state fed.words (either-false (ltb largest_amount input) _ e).1 in
          simp (e, f, g, h) (next fed input (record { clear = usable.clear; ranged = not-false _ f; ordered = not-false _ g }) h holds)

  offered-all-holds : (fed : Fed) (inputs : List ℕ) → P fed → P (offered_all fed inputs)
  unfolding offered_all
  offered-all-holds fed [] holds = holds
  offered-all-holds fed (input ∷ inputs) holds = offered-all-holds (offered fed input) inputs (offered-holds fed input holds)

pub meter-slot : (declared : Declaration) (before : List ℕ) → (offered_all (new_meter declared) before).state.slot.0 ≡ length (offered_all (new_meter declared) before).taken
unfolding meter_next
meter-slot declared before =
    offered-all-holds (λ fed. fed.state.slot.0 ≡ length fed.taken)
    (λ fed input known within e. omega (arith, length-append fed.taken (input ∷ [])))
    (new_meter declared) before refl

module _ (declared : Declaration) (before : List ℕ) where
  declaration-stays : (offered_all (new_meter declared) before).state.declaration ≡ declared
  unfolding meter_next
  declaration-stays = offered-all-holds (λ fed. fed.state.declaration ≡ declared) (λ fed input known within e. e) (new_meter declared) before refl

  sound-fed : Accepted declared → Sound (offered_all (new_meter declared) before)
  sound-fed known = offered-all-holds Sound (λ fed input known within sound. sound-next fed sound input within) (new_meter declared) before (sound-new declared known)

-- a meter that took nothing has 0 in every word
record Untouched (declared : Declaration) (fed : Fed) : Type 0 where
  declaration : fed.state.declaration ≡ declared
  words : fed.words ≡ replicate meter_word_count 0
  taken : fed.taken ≡ []

none-taken : (declared : Declaration) (j : ℕ) → word_taken declared [] j ≡ 0
unfolding word_taken latest_input
none-taken declared j = pick-none (ltb j (ring_length declared))

module _ (declared : Declaration) (fed : Fed) (untouched : Untouched declared fed) where
  untouched-sized : length fed.words ≡ meter_word_count
  untouched-sized = rw untouched.words (length-replicate {A = ℕ} meter_word_count 0)

  untouched-word : (j : ℕ) → j < meter_word_count → word_at fed.words j ≡ word_taken declared fed.taken j
  untouched-word j less = rw (untouched.words, untouched.taken) (get_or-replicate {A = ℕ} meter_word_count j 0 0 less ∙ sym (none-taken declared j))

module _ (declared : Declaration) (before : List ℕ) where
  -- a declaration that is not accepted has nothing taken
  untouched-fed : (Accepted declared → ⊥) → Untouched declared (offered_all (new_meter declared) before)
  untouched-fed other =
      offered-all-holds (Untouched declared)
      (λ fed input known within untouched. absurd (other (rw untouched.declaration at known)))
      (new_meter declared) before (record { declaration = refl; words = refl; taken = refl })

  -- a meter's words are 1,024
  pub meter-sized : length (offered_all (new_meter declared) before).words ≡ meter_word_count
  meter-sized = elim (accepted declared) [
    | yes known ↦ (sound-fed declared before known).size
    | no other ↦ untouched-sized declared (offered_all (new_meter declared) before) (untouched-fed other)
  ]

  -- and each is what section 6 says of the inputs taken
  pub meter-words : let fed = offered_all (new_meter declared) before in (j : ℕ) → j < meter_word_count → word_at fed.words j ≡ word_taken declared fed.taken j
  meter-words j less = elim (accepted declared) [
    | yes known ↦ rw (declaration-stays declared before) at (sound-word (offered_all (new_meter declared) before) (sound-fed declared before known) j less)
    | no other ↦ untouched-word declared (offered_all (new_meter declared) before) (untouched-fed other) j less
  ]

module _ (declared : Declaration) (clear : unused_clear declared ≡ true) (ranged : declaration_in_range declared ≡ true) (ordered : rows_in_order declared ≡ true)
    (before : List ℕ) (input : ℕ) (small : input ≤ largest_amount)
    (left : length (offered_all (new_meter declared) before).taken ≤ last_slot) where
  fed-sound : Sound (offered_all (new_meter declared) before)
  fed-sound = sound-fed declared before (record { clear = clear; ranged = ranged; ordered = ordered })

  -- where the input is within the limit and a slot number is left, a meter from new refuses for the declaration alone
  pub meter-answers : let fed = offered_all (new_meter declared) before in
      meter_of fed.state fed.words input
      ≡ pick (input_breaks fed.state fed.words input) (Err InputBreaksDeclaration) (Ok (meter_next fed.state input))
  unfolding meter_of
  meter-answers =
      let sound = fed-sound in
      rw (le-ltb largest_amount input small, sound-usable (offered_all (new_meter declared) before) sound left, sound.accepted.ranged, sound.accepted.ordered)

  -- and it breaks the declaration just where the inputs taken and this one do not keep it
  pub meter-keeps : let fed = offered_all (new_meter declared) before in
      (input_breaks fed.state fed.words input ≡ false) ↔ Keeps (class_of declared) (flow_of (fed.taken ++ (input ∷ [])))
  meter-keeps = rw (declaration-stays declared before) at (sound-keeps (offered_all (new_meter declared) before) fed-sound input)
