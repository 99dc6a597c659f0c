-- What a value that a test picks, or that it picks none, says of the test.
use mathlib.Core.Path.{◌≡◌, refl, sym, ap, ◌∙◌}
use mathlib.Core.Bool.{Bool, true, false}
use Rattle.std.specs.Prelude.{Option, Some, None, is_some}
use Rattle.quantity.specs.Choice.{pick}
use Rattle.quantity.proofs.Laws.{option-told}

module _ {A : Type 0} (t : Bool) (a : A) where
  pub picked-some : (b : A) → Some b ≡ pick t (Some a) None → (t ≡ true) × (b ≡ a)
  picked-some b e = (option-told e).within refl

  pub picked-none : None ≡ pick t (Some a) None → t ≡ false
  picked-none e = (option-told e).outside refl

pub picked-is_some : {A : Type 0} (t b : Bool) (a : A) {r : Option A} → r ≡ pick t (Some a) None → is_some r ≡ b → t ≡ b
picked-is_some true b a e h = sym (ap is_some e) ∙ h
picked-is_some false b a e h = sym (ap is_some e) ∙ h
