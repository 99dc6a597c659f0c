use mathlib.Core.Path.{◌≡◌, ◌∙◌}
use mathlib.Core.Bool.{true}
use Prim.Native.Nat.{◌+◌}
use native.Mathlib.Omega.{arith}
use lib.ListN.{length, get_or, drop}
use Rattle.std.proofs.lemmas.List.{set-get_or}
use Rattle.quantity.specs.Choice.{both}
use Rattle.text.specs.declared.hexadecimal.HexadecimalFault.{HexadecimalFault}
use Rattle.std.specs.Prelude.{Err}
use Rattle.text.specs.Hexadecimals.{is_hexadecimal_digit, bytes_in, bytes_stored}
use Rattle.text.proofs.Picked.{picked-some, picked-none}
use Rattle.text.proofs.RowLaws.{storing-first, storing-next, storing-no-fault, storing-end, reached-full}
use Rattle.text.proofs.HexadecimalRowLaws.{byte-within, in-missing, in-goes-on, byte_here, fitted-same, fitted-length}
use Rattle.text.proofs.hexadecimal.store.Goals as goal
use Rattle.text.proofs.hexadecimal.store.Goals.{At-loop-place, In-Some}

pub loop-place-init : goal.loop-place-init
loop-place-init c =
    let a = c.args in
    storing-first _ _ _ (fitted-same (length a.bytes.now) (bytes_in (drop a.from a.text.now)) c.requires)

no-fault : (c : At-loop-place) → (why : HexadecimalFault) → bytes_in (drop c.loop-place.at c.args.text.now) ≡ Err why → ⊥
no-fault c = storing-no-fault _ _ _ _ _ c.requires c.loop-place.invariant

pub returns-in_default : goal.returns-in_default
unfolding bytes_stored
returns-in_default c =
    let ended = in-missing c.args.text.now c.loop-place.at (no-fault (goal.at.returns-in_default c).At-loop-place) (picked-none _ _ c.in_default.ensures) in
    set-get_or _ _ _ ∙ storing-end _ _ _ _ (rw ended at c.loop-place.invariant)

stands : (c : In-Some)
    → let text = c.args.text.now in
    (both (is_hexadecimal_digit (get_or text c.loop-place.at 0)) (is_hexadecimal_digit (get_or text (c.loop-place.at + 1) 0)) ≡ true) × (c.in-Some.byte ≡ byte_here text c.loop-place.at)
stands c = picked-some _ _ _ c.in-Some.ensures

pub overflow_add-at : goal.overflow_add-at
overflow_add-at c =
    omega (arith, byte-within c.args.text.now c.loop-place.at (stands (goal.at.overflow_add-at c).In-Some).0)

pub loop-place-preserved : goal.loop-place-preserved
loop-place-preserved c =
    let (both-stand, value) = stands (goal.at.loop-place-preserved c).In-Some in
    let goes-on = in-goes-on c.args.text.now c.loop-place.at (no-fault (goal.at.loop-place-preserved c).At-loop-place) both-stand in
    rw (c.behind_space-at.ensures, value) (storing-next _ _ _ _ _ _ c.loop-place-test.true (rw goes-on at c.loop-place.invariant))

pub returns : goal.returns
unfolding bytes_stored
returns c =
    let a = c.args in
    let ended = reached-full _ _ (length a.bytes.now) c.requires (fitted-length (length a.bytes.now) (drop a.from a.text.now)) (omega arith) _ c.loop-place.invariant.reached in
    storing-end _ _ _ _ (rw ended at c.loop-place.invariant)
