-- A page line by line: each line has 61 characters, stands behind those before it, and holds no line feed but its last character.
use mathlib.Core.Path.{◌≡◌, refl, sym, ap, ◌∙◌}
use mathlib.Core.List.{List, [], ◌∷◌, ◌++◌, append-nil, append_assoc}
use Prim.Native.Nat.{ℕ, zero, suc, ◌+◌, ◌*◌, ◌<◌}
use native.Mathlib.Nat.{not-suc-le-zero, le_of_suc-le-suc}
use native.Mathlib.Numerals.{add-one}
use native.Mathlib.Omega.{arith}
use lib.ListN.{length, get_or, take, drop, length-append, get_or-append}
use lib.Seq.{take_at, drop-append-add, get_or-take, get_or-drop, get_or_at}
use Rattle.quantity.specs.Sums.{list_of}
use Rattle.page.specs.Columns.{Cell, columns}
use Rattle.page.specs.Pages.{widths, line_feed, line_of, lines_of}
use Rattle.page.specs.Reading.{width_of, line_length, line_at}
use Rattle.page.specs.Shape.{Fits, Shaped}
use Rattle.page.proofs.Bytes.{lacks-at}
use Rattle.page.proofs.Columns.{length-columns, Unbroken, columns-unbroken}

-- what stands in a line fits its columns and has no line feed
abbrev pub Sound : List Cell → Type 0
Sound cells = Fits widths cells × Unbroken cells

abbrev pub AllSound : List (List Cell) → Type 0
AllSound [] = Unit {0}
AllSound (cells ∷ rows) = Sound cells × AllSound rows

pub sound-append : (rows more : List (List Cell)) → AllSound rows → AllSound more → AllSound (rows ++ more)
sound-append [] more first second = second
sound-append (cells ∷ rows) more (here, rest) second = (here, sound-append rows more rest second)

pub sound-list : (f : ℕ → List Cell) (n : ℕ) → ((k : ℕ) → k < n → Sound (f k)) → AllSound (list_of f n)
unfolding list_of
sound-list f zero each = tt
sound-list f (suc n) each = sound-append (list_of f n) (f n ∷ []) (sound-list f n (λ k less. each k (omega arith))) (each n (omega arith), tt)

pub sound-at : (rows : List (List Cell)) → AllSound rows → (j : ℕ) → j < length rows → Sound (get_or rows j [])
sound-at [] sound j less = absurd (not-suc-le-zero less)
sound-at (cells ∷ rows) (here, rest) zero less = here
sound-at (cells ∷ rows) (here, rest) (suc j) less = sound-at rows rest j (le_of_suc-le-suc less)

line-width : (cells : List Cell) → Fits widths cells → length (columns widths cells) ≡ 60
unfolding widths width_of
line-width cells fit = length-columns widths cells fit

pub length-line : (cells : List Cell) → Fits widths cells → length (line_of cells) ≡ 61
unfolding line_of
length-line cells fit = rw (length-append, line-width cells fit)

pub line-length : line_length ≡ 61
unfolding line_length widths width_of
line-length = refl

pub length-lines : (rows : List (List Cell)) → AllSound rows → length (lines_of rows) ≡ 61 * length rows
unfolding lines_of
length-lines [] sound = refl
length-lines (cells ∷ rows) ((fit, plain), rest) =
    let size = length-line cells fit in
    let others = length-lines rows rest in
    rw length-append (omega arith)

lines_of-append : (rows more : List (List Cell)) → lines_of (rows ++ more) ≡ lines_of rows ++ lines_of more
unfolding lines_of
lines_of-append [] more = refl
lines_of-append (cells ∷ rows) more = rw (lines_of-append rows more) (sym (append_assoc (line_of cells) (lines_of rows) (lines_of more)))

-- one line more
pub lines_more : (rows : List (List Cell)) (cells : List Cell) → lines_of rows ++ line_of cells ≡ lines_of (rows ++ (cells ∷ []))
unfolding lines_of
lines_more rows cells = sym (lines_of-append rows (cells ∷ []) ∙ ap (λ (line : List ℕ). lines_of rows ++ line) (append-nil (line_of cells)))

pub lines_next : (f : ℕ → List Cell) (k : ℕ) → lines_of (list_of f k) ++ line_of (f k) ≡ lines_of (list_of f (k + 1))
unfolding list_of
lines_next f k = rw add-one (lines_more (list_of f k) (f k))

-- line j of a page
line_taken : (rows : List (List Cell)) → AllSound rows → (j : ℕ) → j < length rows → take 61 (drop (61 * j) (lines_of rows)) ≡ line_of (get_or rows j [])
unfolding lines_of
line_taken [] sound j less = absurd (not-suc-le-zero less)
line_taken (cells ∷ rows) ((fit, plain), rest) zero less = take_at (line_of cells) (lines_of rows) 61 (length-line cells fit)
line_taken (cells ∷ rows) ((fit, plain), rest) (suc j) less =
    let past : 61 * suc j ≡ length (line_of cells) + 61 * j = omega (arith, length-line cells fit) in
    rw (past, drop-append-add (line_of cells) (lines_of rows) (61 * j)) (line_taken rows rest j (le_of_suc-le-suc less))

module _ (rows : List (List Cell)) (sound : AllSound rows) where
  pub line-at : (j : ℕ) → j < length rows → line_at (lines_of rows) j ≡ line_of (get_or rows j [])
  unfolding line_at
  line-at j less = rw line-length (line_taken rows sound j less)

  byte_at : (j i : ℕ) → j < length rows → i < 61 → get_or (lines_of rows) (61 * j + i) 0 ≡ get_or (line_of (get_or rows j [])) i 0
  byte_at j i less inside = sym (get_or-drop (61 * j) (lines_of rows) i 0) ∙ sym (get_or-take 61 (drop (61 * j) (lines_of rows)) i 0 inside) ∙ ap (λ (line : List ℕ). get_or line i 0) (line_taken rows sound j less)

  pub lines-shaped : Shaped (length rows) (lines_of rows)
  unfolding line_of
  lines-shaped =
      record {
        long = length-lines rows sound;
        ended = λ j less. byte_at j 60 less (omega arith) ∙ get_or_at (columns widths (get_or rows j [])) line_feed [] 0 60 (line-width (get_or rows j []) (sound-at rows sound j less).0);
        unbroken = λ j i less inside broken.
            let here = sound-at rows sound j less in
            let size = line-width (get_or rows j []) here.0 in
            lacks-at line_feed (columns widths (get_or rows j [])) (columns-unbroken widths (get_or rows j []) here.1) i (rw size inside)
            (sym (get_or-append (columns widths (get_or rows j [])) (line_feed ∷ []) 0 i (rw size inside)) ∙ sym (byte_at j i less (omega arith)) ∙ broken);
      }
