-- The bodies of the fields: what is written of a value in range is read as that value, and what fits is written again byte for byte.
use Prim.Native.Nat.{ℕ, zero, suc, ◌+◌, ◌*◌, ◌≤◌, ◌<◌}
use mathlib.Core.Path.{◌≡◌, refl, sym, ap, ap₂, ◌∙◌}
use mathlib.Core.Bool.{Bool, true, false, true≢false}
use mathlib.Core.List.{List, [], ◌∷◌, ◌++◌, append_assoc, append-nil}
use mathlib.Core.Logic.{⊎_elim}
use native.Mathlib.Nat.{not-suc-le-zero, le_of_suc-le-suc, eq-or-lt_of_le}
use native.Mathlib.Omega.{arith}
use lib.ListN.{length, get_or, take, drop, replicate, length-append}
use lib.Seq.{take_all, take-add, drop-cons, drop-drop, drop_at, drop-append-le}
use lib.Dec.{leb, eqb}
use borrow.Author.Tests.{leb-true, le-leb}
use Rattle.quantity.specs.Choice.{pick}
use Rattle.quantity.specs.Ranges.{in_range, interval_range, quota_range, rate_range, delay_range, wanted_delay_range, link_range}
use Rattle.quantity.specs.Sums.{every}
use Rattle.quantity.proofs.Laws.{le-largest}
use Rattle.quantity.proofs.Sums.{both_true, every-at}
use Rattle.operator.specs.Operators.{number_in_range}
use Rattle.flow.specs.Rows.{Row}
use Rattle.flow.specs.Declarations.{by_kind, has_rows, several_range, empty_row, several_at, only_row, row_in_range, declaration_in_range, of_one_row, cleared}
use Rattle.flow.specs.declared.Kind.{Kind}
use Rattle.flow.specs.declared.Declaration.{Declaration}
use Rattle.flow.proofs.Declarations.{rows-range, one-range}
use Rattle.operator.specs.declared.Operator.{Operator}
use Rattle.sheet.specs.declared.LinkedOperator.{LinkedOperator}
use Rattle.sheet.specs.Numbers.{value_of_bytes, bytes_of}
use Rattle.sheet.specs.Bodies.{part, declaration_in, declaration_fits, row_in, rows_in, rows_fit, row_bodies, pair_body, declaration_body, wanted_in, wanted_fits, wanted_body, operator_of, operator_byte, operator_number, operator_in, operator_in_range, operator_fits, operator_body}
use Rattle.sheet.proofs.Cleared.{several-used, cleared-several, several-same, cleared-one, body-of-rows, body-of-one, cleared-of-rows, cleared-of-one, cleared-inside}
use Rattle.sheet.proofs.Numbers.{AreBytes, part_join, drop-part, drop-last, value_of_bytes-bytes_of, bytes_of-part}

-- the numbers of a row in range are read from their bytes
numbers-read : (row : Row) → row_in_range row ≡ true → (value_of_bytes (bytes_of 2 row.interval) ≡ row.interval) × (value_of_bytes (bytes_of 4 row.quota) ≡ row.quota)
unfolding row_in_range
numbers-read row inside =
    let (m-inside, Q-inside) = both_true (in_range interval_range row.interval) (in_range quota_range row.quota) inside in
    let m-small = le-largest interval_range row.interval m-inside in
    let Q-small = le-largest quota_range row.quota Q-inside in
    (value_of_bytes-bytes_of 2 row.interval (omega arith), value_of_bytes-bytes_of 4 row.quota (omega arith))

-- 01

pub length-pair_body : (kind : ℕ) (declared : Declaration) → length (pair_body kind declared) ≡ 7
unfolding pair_body bytes_of
length-pair_body kind declared = refl

-- the kind's byte: 0 smooth, 1 uniform
abbrev kind_byte : Kind → ℕ
kind_byte kind = by_kind kind 0 1 0

kind-byte : (kind : Kind) → kind_byte kind ≤ 1
kind-byte Kind.Smooth = omega arith
kind-byte Kind.Uniform = omega arith
kind-byte Kind.Rows = omega arith

kind-read : (kind : Kind) → has_rows kind ≡ false → pick (eqb (kind_byte kind) 0) Kind.Smooth Kind.Uniform ≡ kind
kind-read Kind.Smooth one = refl
kind-read Kind.Uniform one = refl
kind-read Kind.Rows one = absurd (true≢false one)

kind-written : (byte : ℕ) → byte ≤ 1 → kind_byte (pick (eqb byte 0) Kind.Smooth Kind.Uniform) ≡ byte
kind-written zero h = refl
kind-written (suc zero) h = refl
kind-written (suc (suc byte)) h = absurd (not-suc-le-zero (le_of_suc-le-suc h))

kind-of-byte : (t : Bool) → has_rows (pick t Kind.Smooth Kind.Uniform) ≡ false
kind-of-byte true = refl
kind-of-byte false = refl

module _ (declared : Declaration) (one : has_rows declared.kind ≡ false) where
  pub length-of-one : length (declaration_body declared) ≡ 7
  length-of-one = ap length (body-of-one declared one) ∙ length-pair_body (kind_byte declared.kind) declared

  module _ (inside : declaration_in_range declared ≡ true) where
    pub declaration-read : declaration_in (declaration_body declared) ≡ cleared declared
    unfolding declaration_in pair_body part bytes_of
    declaration-read =
        let (m, Q) = numbers-read (only_row declared) (sym (one-range declared one) ∙ inside) in
        let kind = kind-read declared.kind one in
        let read : declaration_in (pair_body (kind_byte declared.kind) declared) ≡ of_one_row declared.kind declared.interval.0 declared.quota.0 =
        λ i. record { kind = kind i; interval = record { 0 = m i }; quota = record { 0 = Q i }; count = 0; rows = replicate 4 empty_row } in
        ap declaration_in (body-of-one declared one) ∙ read ∙ sym (cleared-of-one declared one)

    pub declaration-fits : declaration_fits (declaration_body declared) ≡ true
    unfolding declaration_fits pair_body
    declaration-fits =
        let byte : get_or (declaration_body declared) 0 0 ≤ 1 = rw (body-of-one declared one) (kind-byte declared.kind) in
        rw (le-leb _ _ byte, declaration-read) (cleared-inside declared ∙ inside)

-- what is read has one row, with 0 in all else
pub one-of-declaration : (body : List ℕ) → has_rows (declaration_in body).kind ≡ false
unfolding declaration_in
one-of-declaration body = kind-of-byte (eqb (get_or body 0 0) 0)

pub declaration-cleared : (body : List ℕ) → cleared (declaration_in body) ≡ declaration_in body
unfolding declaration_in
declaration-cleared body = cleared-one _ _ _ (one-of-declaration body)

module _ (body : List ℕ) (fits : declaration_fits body ≡ true) where
  fits_both : (get_or body 0 0 ≤ 1) × (declaration_in_range (declaration_in body) ≡ true)
  unfolding declaration_fits
  fits_both = let (byte, inside) = both_true (leb (get_or body 0 0) 1) (declaration_in_range (declaration_in body)) fits in (leb-true (get_or body 0 0) 1 byte, inside)

  pub declaration-inside : declaration_in_range (declaration_in body) ≡ true
  declaration-inside = fits_both.1

  pub declaration-written : AreBytes body → length body ≡ 7 → declaration_body (declaration_in body) ≡ body
  unfolding declaration_in pair_body
  declaration-written each size =
      let kind = kind-written (get_or body 0 0) fits_both.0 in
      let m = bytes_of-part 1 2 body each (omega arith) in
      let Q = bytes_of-part 3 4 body each (omega arith) in
      body-of-one (declaration_in body) (one-of-declaration body) ∙ rw (kind, m, Q, ← drop-last 3 4 body size, ← drop-part 1 2 body) (sym (drop-cons body 0 0 (omega arith)))

-- 05

-- a row's six bytes
abbrev pub row_body : Row → List ℕ
row_body row = bytes_of 2 row.interval ++ bytes_of 4 row.quota

pub rows_next : (declared : Declaration) (k : ℕ) → row_bodies declared (suc k) ≡ row_bodies declared k ++ row_body (several_at declared k)
unfolding row_bodies
rows_next declared k = append_assoc (row_bodies declared k) (bytes_of 2 (several_at declared k).interval) (bytes_of 4 (several_at declared k).quota)

pub length-row_bodies : (declared : Declaration) (k : ℕ) → length (row_bodies declared k) ≡ k * 6
unfolding row_bodies bytes_of
length-row_bodies declared zero = refl
length-row_bodies declared (suc k) = rw (rows_next declared k) (omega (arith, length-append (row_bodies declared k) (row_body (several_at declared k)), length-row_bodies declared k))

-- row i stands behind the i before it
row_written : (declared : Declaration) (i k : ℕ) → i < k → (rest : List ℕ) × (drop (i * 6) (row_bodies declared k) ≡ row_body (several_at declared i) ++ rest)
row_written declared i zero h = absurd (not-suc-le-zero h)
row_written declared i (suc k) h =
    let size = length-row_bodies declared k in
    let next = rows_next declared k in
    let last = row_body (several_at declared k) in
    ⊎_elim
    (λ same. ([], ap (drop (i * 6)) next ∙ drop_at (row_bodies declared k) last (i * 6) (rw same size) ∙ ap (λ (j : ℕ). row_body (several_at declared j)) (sym same) ∙ sym (append-nil (row_body (several_at declared i)))))
    (λ less.
    let (rest, here) = row_written declared i k less in
    (rest ++ last, ap (drop (i * 6)) next ∙ drop-append-le (i * 6) (row_bodies declared k) last (omega arith) ∙ ap (λ (bytes : List ℕ). bytes ++ last) here ∙ append_assoc (row_body (several_at declared i)) rest last))
    (eq-or-lt_of_le (le_of_suc-le-suc h))

-- and is read there
pub row_read : (declared : Declaration) (i k : ℕ) → i < k → row_in_range (several_at declared i) ≡ true → row_in (row_bodies declared k) i ≡ get_or declared.rows i empty_row
unfolding row_in part bytes_of
row_read declared i k h inside =
    let bytes = row_bodies declared k in
    let (rest, here) = row_written declared i k h in
    let (m, Q) = numbers-read (several_at declared i) inside in
    let interval = ap (λ (left : List ℕ). value_of_bytes (take 2 left)) here ∙ m in
    let quota = ap (λ (left : List ℕ). value_of_bytes (take 4 left)) (sym (drop-drop 2 (i * 6) bytes) ∙ ap (drop 2) here) ∙ Q in
    λ j. record { interval = record { 0 = interval j }; quota = record { 0 = quota j } }

module _ (declared : Declaration) (several : has_rows declared.kind ≡ true) where
  pub length-of-rows : length (declaration_body declared) ≡ declared.count * 6
  length-of-rows = ap length (body-of-rows declared several) ∙ length-row_bodies declared declared.count

  module _ (inside : declaration_in_range declared ≡ true) where
    pub rows-read : rows_in declared.count (declaration_body declared) ≡ cleared declared
    unfolding rows_in
    rows-read =
        let count = declared.count in
        let each = (both_true (in_range several_range count) (every (λ i. row_in_range (several_at declared i)) count) (sym (rows-range declared several) ∙ inside)).1 in
        ap (rows_in count) (body-of-rows declared several)
        ∙ several-same count (row_in (row_bodies declared count)) (λ i. get_or declared.rows i empty_row) (λ i used. row_read declared i count used (every-at _ count each i used))
        ∙ sym (cleared-of-rows declared several)

    pub rows-fit : rows_fit declared.count (declaration_body declared) ≡ true
    unfolding rows_fit
    rows-fit = rw rows-read (cleared-inside declared ∙ inside)

module _ (count : ℕ) (body : List ℕ) where
  -- what is read has several rows, with 0 in all else
  pub rows-of-several : has_rows (rows_in count body).kind ≡ true
  unfolding rows_in
  rows-of-several = refl

  pub rows-cleared : cleared (rows_in count body) ≡ rows_in count body
  unfolding rows_in
  rows-cleared = cleared-several count (row_in body)

  pub rows_inside : rows_fit count body ≡ true → declaration_in_range (rows_in count body) ≡ true
  unfolding rows_fit
  rows_inside fits = fits

  module _ (each : AreBytes body) (size : length body ≡ count * 6) (few : count ≤ 4) where
    row_back : (i : ℕ) → i < count → row_body (several_at (rows_in count body) i) ≡ part (i * 6) 6 body
    unfolding rows_in row_in
    row_back i used =
        ap row_body (several-used count (row_in body) i used (omega arith))
        ∙ ap₂ ◌++◌ (bytes_of-part (i * 6) 2 body each (omega arith)) (bytes_of-part (i * 6 + 2) 4 body each (omega arith))
        ∙ part_join (i * 6) 2 4 body

    rows_back : (k : ℕ) → k ≤ count → row_bodies (rows_in count body) k ≡ take (k * 6) body
    unfolding row_bodies part
    rows_back zero h = refl
    rows_back (suc k) h =
        let next : k * 6 + 6 ≡ suc k * 6 = omega arith in
        rows_next (rows_in count body) k ∙ ap₂ ◌++◌ (rows_back k (omega arith)) (row_back k h) ∙ sym (take-add (k * 6) 6 body) ∙ ap (λ (n : ℕ). take n body) next

    pub rows_written : declaration_body (rows_in count body) ≡ body
    unfolding rows_in
    rows_written = body-of-rows (rows_in count body) rows-of-several ∙ rows_back count (omega arith) ∙ take_all (count * 6) body (omega arith)

-- 02

pub length-wanted_body : (wanted : ℕ) → length (wanted_body wanted) ≡ 4
unfolding wanted_body bytes_of
length-wanted_body wanted = refl

module _ (wanted : ℕ) (inside : in_range wanted_delay_range wanted ≡ true) where
  pub wanted_read : wanted_in (wanted_body wanted) ≡ wanted
  unfolding wanted_in wanted_body part bytes_of
  wanted_read = value_of_bytes-bytes_of 4 wanted (let h = le-largest wanted_delay_range wanted inside in omega arith)

  pub wanted-fits : wanted_fits (wanted_body wanted) ≡ true
  unfolding wanted_fits
  wanted-fits = rw wanted_read inside

pub wanted-inside : (body : List ℕ) → wanted_fits body ≡ true → in_range wanted_delay_range (wanted_in body) ≡ true
unfolding wanted_fits
wanted-inside body fits = fits

pub wanted-written : (body : List ℕ) → AreBytes body → length body ≡ 4 → wanted_body (wanted_in body) ≡ body
unfolding wanted_in wanted_body
wanted-written body each size = bytes_of-part 0 4 body each (omega arith) ∙ sym (drop-last 0 4 body size)

-- 03

pub length-operator_body : (linked : LinkedOperator) → length (operator_body linked) ≡ 6
unfolding operator_body bytes_of
length-operator_body linked = refl

operator-byte : (operator : Operator) → operator_byte operator ≤ 4
unfolding operator_byte
operator-byte (Operator.Limiter R) = omega arith
operator-byte (Operator.Compactor m) = omega arith
operator-byte (Operator.Expander m) = omega arith
operator-byte (Operator.Filter R) = omega arith
operator-byte (Operator.Delayer d) = omega arith

operator-number : (operator : Operator) → number_in_range operator ≡ true → operator_number operator ≤ 65535
unfolding operator_number number_in_range
operator-number (Operator.Limiter R) inside = le-largest rate_range R.0 inside
operator-number (Operator.Compactor m) inside = let h = le-largest interval_range m.0 inside in omega arith
operator-number (Operator.Expander m) inside = let h = le-largest interval_range m.0 inside in omega arith
operator-number (Operator.Filter R) inside = le-largest rate_range R.0 inside
operator-number (Operator.Delayer d) inside = let h = le-largest delay_range d.0 inside in omega arith

operator-read : (operator : Operator) → operator_of (operator_byte operator) (operator_number operator) ≡ operator
unfolding operator_of operator_byte operator_number
operator-read (Operator.Limiter R) = refl
operator-read (Operator.Compactor m) = refl
operator-read (Operator.Expander m) = refl
operator-read (Operator.Filter R) = refl
operator-read (Operator.Delayer d) = refl

operator-written : (byte number : ℕ) → byte ≤ 4 → (operator_byte (operator_of byte number) ≡ byte) × (operator_number (operator_of byte number) ≡ number)
unfolding operator_of operator_byte operator_number
operator-written zero number h = (refl, refl)
operator-written (suc zero) number h = (refl, refl)
operator-written (suc (suc zero)) number h = (refl, refl)
operator-written (suc (suc (suc zero))) number h = (refl, refl)
operator-written (suc (suc (suc (suc zero)))) number h = (refl, refl)
operator-written (suc (suc (suc (suc (suc byte))))) number h = let never : 1 ≤ 0 = omega arith in absurd (not-suc-le-zero never)

module _ (linked : LinkedOperator) (inside : operator_in_range linked ≡ true) where
  pub linked-read : operator_in (operator_body linked) ≡ linked
  unfolding operator_in_range operator_in operator_body part bytes_of
  linked-read =
      let (number-inside, link-inside) = both_true (number_in_range linked.operator) (in_range link_range linked.link.0) inside in
      let number = value_of_bytes-bytes_of 4 (operator_number linked.operator) (let h = operator-number linked.operator number-inside in omega arith) in
      let operator = ap (operator_of (operator_byte linked.operator)) number ∙ operator-read linked.operator in
      λ i. record { operator = operator i; link = linked.link }

  pub linked-fits : operator_fits (operator_body linked) ≡ true
  unfolding operator_fits operator_body
  linked-fits = rw (le-leb _ _ (operator-byte linked.operator), linked-read) inside

module _ (body : List ℕ) (fits : operator_fits body ≡ true) where
  pub linked-inside : operator_in_range (operator_in body) ≡ true
  unfolding operator_fits
  linked-inside = (both_true (leb (get_or body 0 0) 4) (operator_in_range (operator_in body)) fits).1

  pub linked-written : AreBytes body → length body ≡ 6 → operator_body (operator_in body) ≡ body
  unfolding operator_fits operator_in operator_body
  linked-written each size =
      let (byte, number) = operator-written (get_or body 0 0) (value_of_bytes (part 2 4 body)) (leb-true (get_or body 0 0) 4 (both_true (leb (get_or body 0 0) 4) (operator_in_range (operator_in body)) fits).0) in
      let digits = bytes_of-part 2 4 body each (omega arith) in
      rw (byte, number, digits, ← drop-last 2 4 body size) (sym (drop-cons body 0 0 (omega arith) ∙ ap (λ (rest : List ℕ). get_or body 0 0 ∷ rest) (drop-cons body 1 0 (omega arith))))
