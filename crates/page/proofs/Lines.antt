-- A line is stored over its spaces, column by column from the left: what is stored in a column takes the place of as many spaces.
use mathlib.Core.Path.{◌≡◌, refl, sym, ◌∙◌}
use mathlib.Core.List.{List, [], ◌∷◌, ◌++◌, append-nil, append_assoc}
use Prim.Native.Nat.{ℕ, suc, ◌+◌, ◌-◌, ◌≤◌}
use native.Mathlib.Omega.{arith}
use lib.ListN.{length, set, replicate, length-append, length-replicate, replicate-append-replicate}
use lib.Seq.{sets, set-set}
use Rattle.text.specs.Rows.{space}
use Rattle.sheet.proofs.Runs.{set_before, sets-append, run-behind, run-before}
use Rattle.page.specs.Columns.{Cell, text, number, decimal, characters_of, column, columns}
use Rattle.page.specs.Pages.{widths, line_feed, line_of}
use Rattle.page.proofs.Columns.{length-column}

-- a run over one of the same length
sets_over : (l : List ℕ) (i : ℕ) (vs ws : List ℕ) → length vs ≡ length ws → sets (sets l i vs) i ws ≡ sets l i ws
sets_over l i [] [] e = refl
sets_over l i [] (w ∷ ws) e = absurd-of (omega arith)
  where
    absurd-of : ⊥ → sets (sets l i []) i (w ∷ ws) ≡ sets l i (w ∷ ws)
    absurd-of never = absurd never
sets_over l i (v ∷ vs) [] e = absurd-of (omega arith)
  where
    absurd-of : ⊥ → sets (sets l i (v ∷ vs)) i [] ≡ sets l i []
    absurd-of never = absurd never
sets_over l i (v ∷ vs) (w ∷ ws) e =
    rw (set_before (set l i v) i (suc i) vs w (omega arith), set-set l i v w) (sets_over (set l i w) (suc i) vs ws (omega arith))

-- a run in the middle of another, over a part of it that is as long
within-run : (l : List ℕ) (i : ℕ) (first vs ws last : List ℕ) → length vs ≡ length ws → sets (sets l i (first ++ vs ++ last)) (i + length first) ws ≡ sets l i (first ++ ws ++ last)
within-run l i first vs ws last same =
    let j = i + length first in
    let begun = sets l i first in
    let apart : sets l i (first ++ vs ++ last) ≡ sets (sets begun j vs) (j + length ws) last =
    rw (append_assoc first vs last, ← sets-append l i first (vs ++ last), ← sets-append begun j vs last, same) in
    rw (append_assoc first ws last, ← sets-append l i first (ws ++ last))
    (run-before (sets begun j vs) j (j + length ws) ws last apart refl refl ∙ sym (sets-append (sets begun j vs) j ws last) ∙ rw (sets_over begun j vs ws same) (sets-append begun j ws last))

-- where the characters of a column begin: a text's with the column, a number's so that they end with it
unfoldable pub begins_at : ℕ → ℕ → Cell → ℕ
begins_at start end (text characters) = start
begins_at start end (number n) = end - length (decimal n)

-- the first columns stand, and behind them are so many spaces
abbrev Begun : List ℕ → ℕ → List ℕ → ℕ → List ℕ → Type 0
Begun lent₀ at first rest lent = lent ≡ sets lent₀ at (first ++ replicate rest space)

spaces-split : (a b n : ℕ) → a + b ≡ n → replicate n space ≡ replicate a space ++ replicate b space
spaces-split a b n e = rw (← e) (sym (replicate-append-replicate a b space))

-- characters in the place of as many spaces: a of the column's come before them, b behind them
among-spaces : (lent₀ : List ℕ) (at a b rest width i : ℕ) (first characters : List ℕ) {before after : List ℕ} → a + (length characters + b) ≡ width → i ≡ at + length first + a
    → Begun lent₀ at first (width + rest) before → after ≡ sets before i characters
    → Begun lent₀ at (first ++ (replicate a space ++ (characters ++ replicate b space))) rest after
among-spaces lent₀ at a b rest width i first characters sized begins begun put =
    let own = length characters in
    let ahead = first ++ replicate a space in
    let behind = replicate b space ++ replicate rest space in
    let split : first ++ replicate (width + rest) space ≡ ahead ++ replicate own space ++ behind =
    rw (spaces-split a (own + (b + rest)) (width + rest) (omega arith), spaces-split own (b + rest) (own + (b + rest)) refl, spaces-split b rest (b + rest) refl) (simp append_assoc) in
    let here : i ≡ at + length ahead = begins ∙ omega (arith, length-append first (replicate a space), length-replicate a space) in
    let over = within-run lent₀ at ahead (replicate own space) characters behind (length-replicate own space) in
    let stored : ◌≡◌ {A = List ℕ} _ (sets lent₀ at (ahead ++ characters ++ behind)) = rw (begun, split, here) at put ∙ over in
    simp append_assoc (simp append_assoc at stored)

-- one column more
column-put : (lent₀ : List ℕ) (at start end width rest : ℕ) (first : List ℕ) (cell : Cell) {before after : List ℕ} → length (characters_of cell) ≤ width → start ≡ at + length first → end ≡ start + width
    → Begun lent₀ at first (width + rest) before → after ≡ sets before (begins_at start end cell) (characters_of cell) → Begun lent₀ at (first ++ column width cell) rest after
unfolding begins_at characters_of column
column-put lent₀ at start end width rest first (text characters) fits begins ends begun put =
    among-spaces lent₀ at 0 (width - length characters) rest width start first characters (omega arith) (omega arith) begun put
column-put lent₀ at start end width rest first (number n) fits begins ends begun put =
    let stored = among-spaces lent₀ at (width - length (decimal n)) 0 rest width (end - length (decimal n)) first (decimal n) (omega arith) (omega arith) begun put in
    rw append-nil at stored

-- the whole line: its spaces, then what stands in the columns, and the line feed
pub line-put : (lent₀ : List ℕ) (at : ℕ) (index kind link capacity delay : Cell) {spaced first second third fourth fifth : List ℕ}
    → length (characters_of index) ≤ 4 → length (characters_of kind) ≤ 12 → length (characters_of link) ≤ 4 → length (characters_of capacity) ≤ 20 → length (characters_of delay) ≤ 20
    → spaced ≡ sets lent₀ at (replicate 60 space)
    → first ≡ sets spaced (begins_at at (at + 4) index) (characters_of index)
    → second ≡ sets first (begins_at (at + 4) (at + 16) kind) (characters_of kind)
    → third ≡ sets second (begins_at (at + 16) (at + 20) link) (characters_of link)
    → fourth ≡ sets third (begins_at (at + 20) (at + 40) capacity) (characters_of capacity)
    → fifth ≡ sets fourth (begins_at (at + 40) (at + 60) delay) (characters_of delay)
    → set fifth (at + 60) line_feed ≡ sets lent₀ at (line_of (index ∷ kind ∷ link ∷ capacity ∷ delay ∷ []))
unfolding line_of columns widths
line-put lent₀ at index kind link capacity delay {fifth = full} index-fits kind_fits link_fits capacity-fits delay-fits spaced first second third fourth fifth =
    let one = column 4 index in
    let two = one ++ column 12 kind in
    let three = two ++ column 4 link in
    let four = three ++ column 20 capacity in
    let five = four ++ column 20 delay in
    let one-long : length one ≡ 4 = length-column 4 index index-fits in
    let two-long : length two ≡ 16 = omega (arith, length-append one (column 12 kind), one-long, length-column 12 kind kind_fits) in
    let three-long : length three ≡ 20 = omega (arith, length-append two (column 4 link), two-long, length-column 4 link link_fits) in
    let four-long : length four ≡ 40 = omega (arith, length-append three (column 20 capacity), three-long, length-column 20 capacity capacity-fits) in
    let five-long : length five ≡ 60 = omega (arith, length-append four (column 20 delay), four-long, length-column 20 delay delay-fits) in
    let to-index = column-put lent₀ at at (at + 4) 4 56 [] index index-fits (omega arith) (omega arith) spaced first in
    let to-kind = column-put lent₀ at (at + 4) (at + 16) 12 44 one kind kind_fits (omega arith) (omega arith) to-index second in
    let to-link = column-put lent₀ at (at + 16) (at + 20) 4 40 two link link_fits (omega arith) (omega arith) to-kind third in
    let to-capacity = column-put lent₀ at (at + 20) (at + 40) 20 20 three capacity capacity-fits (omega arith) (omega arith) to-link fourth in
    let to-delay = column-put lent₀ at (at + 40) (at + 60) 20 0 four delay delay-fits (omega arith) (omega arith) to-capacity fifth in
    let ended : set full (at + 60) line_feed ≡ sets lent₀ at (five ++ (line_feed ∷ [])) =
    run-behind lent₀ at (at + 60) five (line_feed ∷ []) (rw append-nil at to-delay) refl (omega arith) in
    simp append_assoc (simp append_assoc at ended)
