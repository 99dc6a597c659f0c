-- A column has its width where what stands in it fits, and is read back: a number by its digits, a kind by its name. Columns side by side are cut apart again.
use mathlib.Core.Path.{◌≡◌, refl, ap, ap₂, ◌∙◌}
use mathlib.Core.Bool.{Bool, true}
use mathlib.Core.List.{List, [], ◌∷◌, ◌++◌, append_assoc}
use Prim.Native.Nat.{ℕ, zero, suc, ◌+◌, ◌-◌, ◌≤◌}
use native.Mathlib.Omega.{arith}
use lib.ListN.{length, get_or, replicate, length-append, length-replicate}
use lib.Seq.{take_at, drop_at}
use lib.Dec.{eqb}
use Rattle.text.specs.Rows.{space}
use Rattle.text.specs.Decimals.{value_of}
use Rattle.operator.specs.declared.Operator.{Operator}
use Rattle.operator.specs.declared.Operator.TheVariants.{Limiter, Compactor, Expander, Filter, Delayer}
use Rattle.sheet.specs.Bodies.{operator_byte}
use Rattle.page.specs.Columns.{Cell, text, number, decimal, characters_of, column, columns}
use Rattle.page.specs.Pages.{kind_names, line_feed}
use Rattle.page.specs.Reading.{width_of, cut, behind_spaces, number_in, before_spaces, same, which_of, kind_in}
use Rattle.page.specs.Shape.{Fits}
use Rattle.page.proofs.Bytes.{lacks, lacks-append, lacks-replicate}
use Rattle.page.proofs.Decimals.{decimal-lacks, decimal-valued}

pub length-column : (width : ℕ) (cell : Cell) → length (characters_of cell) ≤ width → length (column width cell) ≡ width
unfolding characters_of column
length-column width (text characters) fits = rw (length-append, length-replicate) (omega arith)
length-column width (number n) fits = rw (length-append, length-replicate) (omega arith)

pub length-columns : (widths : List ℕ) (cells : List Cell) → Fits widths cells → length (columns widths cells) ≡ width_of widths
unfolding columns width_of
length-columns [] [] fit = refl
length-columns (width ∷ widths) (cell ∷ cells) (here, rest) = length-append (column width cell) (columns widths cells) ∙ ap₂ ◌+◌ (length-column width cell here) (length-columns widths cells rest)
length-columns [] (cell ∷ cells) fit = elim fit [ ]
length-columns (width ∷ widths) [] fit = elim fit [ ]

-- the columns one by one
unfoldable pub each : List ℕ → List Cell → List (List ℕ)
each [] cells = []
each (width ∷ widths) [] = []
each (width ∷ widths) (cell ∷ cells) = column width cell ∷ each widths cells

pub cut-columns : (widths : List ℕ) (cells : List Cell) (rest : List ℕ) → Fits widths cells → cut widths (columns widths cells ++ rest) ≡ each widths cells
unfolding cut columns each
cut-columns [] [] rest fit = refl
cut-columns (width ∷ widths) (cell ∷ cells) rest (here, others) =
    let size = length-column width cell here in
    rw (append_assoc (column width cell) (columns widths cells) rest, take_at (column width cell) (columns widths cells ++ rest) width size, drop_at (column width cell) (columns widths cells ++ rest) width size)
    (ap (λ (columns : List (List ℕ)). column width cell ∷ columns) (cut-columns widths cells rest others))
cut-columns [] (cell ∷ cells) rest fit = elim fit [ ]
cut-columns (width ∷ widths) [] rest fit = elim fit [ ]

behind-spaces : (n : ℕ) (bytes : List ℕ) → behind_spaces (replicate n space ++ bytes) ≡ behind_spaces bytes
unfolding behind_spaces
behind-spaces zero bytes = refl
behind-spaces (suc n) bytes = behind-spaces n bytes

no-spaces : (bytes : List ℕ) → lacks space bytes ≡ true → behind_spaces bytes ≡ bytes
unfolding behind_spaces lacks
no-spaces [] none = refl
no-spaces (byte ∷ bytes) none = by-test (eqb byte space) refl
  where
    by-test : (t : Bool) → eqb byte space ≡ t → behind_spaces (byte ∷ bytes) ≡ byte ∷ bytes
    by-test Bool.true e = let never : ◌≡◌ {A = Bool} Bool.false true = rw e at none in cc
    by-test Bool.false e = rw e

-- a number is read off its column
pub number_read : (width n : ℕ) → number_in (column width (number n)) ≡ n
unfolding number_in column
number_read width n = ap value_of (behind-spaces (width - length (decimal n)) (decimal n) ∙ no-spaces (decimal n) (decimal-lacks space (omega arith) n)) ∙ decimal-valued n

-- a kind is read off its column
pub kind-read : (operator : Operator) → kind_in (column 12 (text (get_or kind_names (operator_byte operator) []))) ≡ operator_byte operator
unfolding kind_in column kind_names operator_byte which_of before_spaces same
kind-read (Limiter R) = refl
kind-read (Compactor m) = refl
kind-read (Expander m) = refl
kind-read (Filter R) = refl
kind-read (Delayer d) = refl

-- the names of the kinds fit their column, and have no line feed
pub name-fits : (operator : Operator) → length (get_or kind_names (operator_byte operator) []) ≤ 12
unfolding kind_names operator_byte
name-fits (Limiter R) = omega arith
name-fits (Compactor m) = omega arith
name-fits (Expander m) = omega arith
name-fits (Filter R) = omega arith
name-fits (Delayer d) = omega arith

pub name-unbroken : (operator : Operator) → lacks line_feed (get_or kind_names (operator_byte operator) []) ≡ true
unfolding kind_names operator_byte lacks
name-unbroken (Limiter R) = refl
name-unbroken (Compactor m) = refl
name-unbroken (Expander m) = refl
name-unbroken (Filter R) = refl
name-unbroken (Delayer d) = refl

-- no cell has a line feed
abbrev pub Unbroken : List Cell → Type 0
Unbroken [] = Unit {0}
Unbroken (cell ∷ cells) = (lacks line_feed (characters_of cell) ≡ true) × Unbroken cells

column-unbroken : (width : ℕ) (cell : Cell) → lacks line_feed (characters_of cell) ≡ true → lacks line_feed (column width cell) ≡ true
unfolding characters_of column
column-unbroken width (text characters) plain = lacks-append line_feed characters (replicate (width - length characters) space) plain (lacks-replicate line_feed (width - length characters) space refl)
column-unbroken width (number n) plain = lacks-append line_feed (replicate (width - length (decimal n)) space) (decimal n) (lacks-replicate line_feed (width - length (decimal n)) space refl) plain

pub columns-unbroken : (widths : List ℕ) (cells : List Cell) → Unbroken cells → lacks line_feed (columns widths cells) ≡ true
unfolding columns lacks
columns-unbroken [] cells plain = refl
columns-unbroken (width ∷ widths) [] plain = refl
columns-unbroken (width ∷ widths) (cell ∷ cells) (here, rest) = lacks-append line_feed (column width cell) (columns widths cells) (column-unbroken width cell here) (columns-unbroken widths cells rest)
