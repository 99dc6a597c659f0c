-- A record fits where the tests of its fields, as the code joins them, hold.
use Rattle.std.proofs.Common.{◌≡◌, ℕ, Bool, true, false, ◌&&◌, leb, sym, refl, ap, zero-le, le-leb}
use Rattle.quantity.specs.Choice.{both}
use Rattle.quantity.specs.Ranges.{in_range}

pub four-joined : (a b c d : Bool) → (((a && b) && c) && d) ≡ both a (both b (both c d))
four-joined true true true d = refl
four-joined true true false d = refl
four-joined true false c d = refl
four-joined false b c d = refl

-- a range from 0 on asks for its largest value alone
pub from_zero : (most value : ℕ) → leb value most ≡ in_range (record { least = 0; largest = most }) value
unfolding in_range
from_zero most value = sym (ap (λ (t : Bool). both t (leb value most)) (le-leb 0 value zero-le))
