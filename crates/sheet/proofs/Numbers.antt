-- A number below 256 ^ w and its w bytes stand for each other: by induction on the width, a byte at a time.
use Prim.Native.Nat.{ℕ, zero, suc, ◌+◌, ◌*◌, ◌/◌, ◌%◌, ◌^◌, ◌≤◌, ◌<◌}
use mathlib.Core.Path.{◌≡◌, refl, sym, ap, ap₂, ◌∙◌}
use mathlib.Core.List.{List, [], ◌∷◌, ◌++◌}
use native.Mathlib.Nat.{pow-suc, one-le-pow, add-mul, mul_assoc, mul_comm, mul-le-mul_right, div-add-mod', mod-lt, mod-one, mod-eq_of_lt, mul-add-mod_self_right, mul-add-div_right, div-eq_of_lt}
use native.Mathlib.Decide.{dec_lt}
use native.Mathlib.Omega.{arith}
use lib.ListN.{length, get_or, take, drop, length-take, length-drop, take-append-drop, get_or-eq_default}
use lib.Seq.{get_or-take, get_or-drop, take_all, take-add, drop-drop}
use Rattle.sheet.specs.Numbers.{value_of_bytes, bytes_of}
use Rattle.sheet.specs.Bodies.{part}

-- each element is a byte
abbrev pub AreBytes : List ℕ → Type 0
AreBytes bytes = (k : ℕ) → get_or bytes k 0 < 256

pub length-bytes_of : (width n : ℕ) → length (bytes_of width n) ≡ width
unfolding bytes_of
length-bytes_of zero n = refl
length-bytes_of (suc width) n = ap suc (length-bytes_of width n)

pub length_part : (at width : ℕ) (bytes : List ℕ) → at + width ≤ length bytes → length (part at width bytes) ≡ width
unfolding part
length_part at width bytes h = simp (length-take, length-drop) (omega arith)

pub part_bytes : (at width : ℕ) (bytes : List ℕ) → AreBytes bytes → AreBytes (part at width bytes)
unfolding part
part_bytes at width bytes each k = by-linked (dec_lt k width)
  where
    by-linked : Dec (k < width) → get_or (take width (drop at bytes)) k 0 < 256
    by-linked (yes h) = rw (get_or-take, get_or-drop) (each (at + k))
    by-linked (no h) =
        let size : length (take width (drop at bytes)) ≤ k = simp length-take (omega arith) in
        rw get_or-eq_default (omega arith)

-- bytes that a part of them ends
pub drop-last : (at width : ℕ) (bytes : List ℕ) → length bytes ≡ at + width → drop at bytes ≡ part at width bytes
unfolding part
drop-last at width bytes size = sym (take_all width (drop at bytes) (simp length-drop (omega arith)))

-- bytes that go on behind a part of them
pub drop-part : (at width : ℕ) (bytes : List ℕ) → drop at bytes ≡ part at width bytes ++ drop (at + width) bytes
unfolding part
drop-part at width bytes = sym (ap (λ (rest : List ℕ). part at width bytes ++ rest) (sym (drop-drop width at bytes)) ∙ take-append-drop width (drop at bytes))

-- two parts one behind the other are one
pub part_join : (at width more : ℕ) (bytes : List ℕ) → part at width bytes ++ part (at + width) more bytes ≡ part at (width + more) bytes
unfolding part
part_join at width more bytes = ap (λ (rest : List ℕ). take width (drop at bytes) ++ take more rest) (sym (drop-drop width at bytes)) ∙ sym (take-add width more (drop at bytes))

-- a remainder by P * 256 is the next byte's worth of P and the remainder by P
mod-split : (P n : ℕ) → 1 ≤ P → n / P % 256 * P + n % P ≡ n % (P * 256)
mod-split P n positive =
    let q = n / P in
    let rest : n % P < P = mod-lt n positive in
    let byte : q % 256 < 256 = omega arith in
    let bound = mul-le-mul_right {m = q % 256} {n = 255} P (omega arith) in
    let less : q % 256 * P + n % P < P * 256 = omega arith in
    let whole : n ≡ q / 256 * (P * 256) + (q % 256 * P + n % P) =
    omega (arith, div-add-mod' n P, ap (λ (x : ℕ). x * P) (div-add-mod' q 256), add-mul (q / 256 * 256) (q % 256) P, mul_assoc (q / 256) 256 P, ap (λ (x : ℕ). q / 256 * x) (mul_comm 256 P)) in
    sym (ap (λ (x : ℕ). x % (P * 256)) whole ∙ mul-add-mod_self_right (q / 256) (P * 256) (q % 256 * P + n % P) ∙ mod-eq_of_lt less)

-- the bytes of a number keep its remainder
value_of_bytes-bytes_of-mod : (width n : ℕ) → value_of_bytes (bytes_of width n) ≡ n % 256 ^ width
unfolding value_of_bytes bytes_of
value_of_bytes-bytes_of-mod zero n = sym (mod-one n)
value_of_bytes-bytes_of-mod (suc width) n =
    let size = length-bytes_of width n in
    let ih = value_of_bytes-bytes_of-mod width n in
    simp (value_of_bytes, bytes_of, size, ih, pow-suc) (mod-split (256 ^ width) n (one-le-pow width 256 (omega arith)))

pub value_of_bytes-bytes_of : (width n : ℕ) → n < 256 ^ width → value_of_bytes (bytes_of width n) ≡ n
value_of_bytes-bytes_of width n h = value_of_bytes-bytes_of-mod width n ∙ mod-eq_of_lt h

-- a width's bytes of a number do not see what lies above them
bytes_of-above : (width x n : ℕ) → bytes_of width (x * 256 ^ width + n) ≡ bytes_of width n
unfolding bytes_of
bytes_of-above zero x n = refl
bytes_of-above (suc width) x n =
    let P = 256 ^ width in
    let regrouped : x * 256 ^ suc width ≡ x * 256 * P = rw pow-suc (omega (arith, mul_assoc x 256 P, ap (λ (y : ℕ). x * y) (mul_comm 256 P))) in
    let byte : (x * 256 * P + n) / P % 256 ≡ n / P % 256 = rw (mul-add-div_right (one-le-pow width 256 (omega arith))) (omega arith) in
    rw regrouped (ap₂ {B = List ℕ} {C = List ℕ} (λ b bs. b ∷ bs) byte (bytes_of-above width (x * 256) n))

value_of_bytes-below : (bytes : List ℕ) → AreBytes bytes → value_of_bytes bytes < 256 ^ length bytes
unfolding value_of_bytes
value_of_bytes-below [] each = omega arith
value_of_bytes-below (byte ∷ bytes) each =
    let P = 256 ^ length bytes in
    let rest = value_of_bytes-below bytes (λ k. each (suc k)) in
    let bound = mul-le-mul_right {m = byte} {n = 255} P (let h = each 0 in omega arith) in
    rw pow-suc (omega arith)

pub bytes_of-value_of_bytes : (bytes : List ℕ) → AreBytes bytes → bytes_of (length bytes) (value_of_bytes bytes) ≡ bytes
unfolding value_of_bytes bytes_of
bytes_of-value_of_bytes [] each = refl
bytes_of-value_of_bytes (byte ∷ bytes) each =
    let P = 256 ^ length bytes in
    let below = value_of_bytes-below bytes (λ k. each (suc k)) in
    let first : (byte * P + value_of_bytes bytes) / P % 256 ≡ byte =
    rw (mul-add-div_right (one-le-pow (length bytes) 256 (omega arith)), div-eq_of_lt below) (let h = each 0 in omega arith) in
    ap₂ {B = List ℕ} {C = List ℕ} (λ b bs. b ∷ bs) first (bytes_of-above (length bytes) byte (value_of_bytes bytes) ∙ bytes_of-value_of_bytes bytes (λ k. each (suc k)))

-- a number that is read from so many bytes is written as those
pub bytes_of-part : (at width : ℕ) (bytes : List ℕ) → AreBytes bytes → at + width ≤ length bytes → bytes_of width (value_of_bytes (part at width bytes)) ≡ part at width bytes
bytes_of-part at width bytes each fits =
    ap (λ (w : ℕ). bytes_of w (value_of_bytes (part at width bytes))) (sym (length_part at width bytes fits)) ∙ bytes_of-value_of_bytes (part at width bytes) (part_bytes at width bytes each)
