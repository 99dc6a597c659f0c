-- The numbers of a class that refusal 7 lets pass fit what is worked out of it; and a declared class is one.
use mathlib.Core.Path.{◌≡◌, refl}
use mathlib.Core.Bool.{true}
use Prim.Native.Nat.{ℕ, ◌≤◌, ◌<◌}
use native.Mathlib.Nat.{le_trans, mul-le-mul_right}
use native.Mathlib.Omega.{arith}
use Rattle.flow.specs.Rows.{Row, rows_most}
use Rattle.flow.specs.Classes.{Class, smooth, uniform, rows, Positive, burst_at}
use Rattle.flow.specs.Declarations.{declaration_in_range, class_of}
use Rattle.flow.specs.Bounds.{RowInside, ClassWithin}
use Rattle.flow.specs.declared.Kind.{Kind}
use Rattle.flow.specs.declared.Declaration.{Declaration}
use Rattle.flow.proofs.RowsWindows.{rows-at-most}
use Rattle.flow.proofs.RowsBurst.{reach-le, burst-at-most}
use Rattle.flow.proofs.Declarations.{one_at, rows_at, rows-count, rows_inside, rows-some, several-inside}

-- of declared rows the most in a window of up to 1,024 slots is within refusal 7's limit for a changed quota
pub rows-most-bound : (given : ℕ → Row) (k n : ℕ) → 1 ≤ k → ((i : ℕ) → i < k → RowInside (given i)) → n ≤ 1_024 → rows_most given k n ≤ 67_107_840
rows-most-bound given k n some inside short =
    omega (arith, rows-at-most given k 65_535 some (λ i less. ((inside i less).large, (inside i less).few)) n, mul-le-mul_right 65_535 short)

pub burst-bound : (c : Class) (R : ℕ) → ClassWithin c → burst_at c R ≤ 134_217_726
unfolding burst_at
burst-bound (smooth m Q) R within = let small = within.quota in omega arith
burst-bound (uniform m Q) R within = let small = within.quota in omega arith
burst-bound (rows given k) R within =
    let reached = reach-le given k R 1_024 (λ i less. (within.2 i less).short) in
    omega (arith, burst-at-most given k R 67_107_840 (λ n inside. rows-most-bound given k n within.0 within.2 (le_trans inside reached)))

pub within-positive : (c : Class) → ClassWithin c → Positive c
within-positive (smooth m Q) within = within.least
within-positive (uniform m Q) within = within.least
within-positive (rows given k) within = (within.0, λ i less. (within.2 i less).large)

-- a declared class is within refusal 7's limits
class-of-kind : (kind : Kind) (declared : Declaration) → declared.kind ≡ kind → declaration_in_range declared ≡ true → ClassWithin (class_of declared)
unfolding class_of
class-of-kind Kind.Smooth declared e inside =
    let row = rw (one_at declared (rw e) 0) at (rows_inside declared inside 0 (rows-some declared inside)) in
    let few = row.few in
    rw e (record { least = row.large; most = row.short; quota = omega arith })
class-of-kind Kind.Uniform declared e inside =
    let row = rw (one_at declared (rw e) 0) at (rows_inside declared inside 0 (rows-some declared inside)) in
    let few = row.few in
    rw e (record { least = row.large; most = row.short; quota = omega arith })
class-of-kind Kind.Rows declared e inside =
    let (some, few) = several-inside declared inside (rw e) in
    rw e (omega arith, few, λ i less. rw (rows_at declared (rw e) i) at (rows_inside declared inside i (rw (rows-count declared (rw e)) less)))

pub class-within : (declared : Declaration) → declaration_in_range declared ≡ true → ClassWithin (class_of declared)
class-within declared inside = class-of-kind declared.kind declared refl inside
