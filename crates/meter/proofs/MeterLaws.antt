-- The laws of the meter, as a list.
use Rattle.std.proofs.Common.{◌≡◌, ℕ, ◌<◌, ◌≤◌, true, false, Ok, Err, ◌↔◌, List, [], ◌∷◌, ◌++◌, length}
use Rattle.quantity.specs.Choice.{pick}
use Rattle.quantity.specs.Limits.{largest_amount, last_slot}
use Rattle.quantity.specs.declared.refusal.Refusal.TheVariants.{InputBreaksDeclaration}
use Rattle.flow.specs.Declarations.{declaration_in_range, rows_in_order, unused_clear, class_of}
use Rattle.flow.specs.Flows.{flow_of}
use Rattle.flow.specs.Classes.{Keeps}
use Rattle.meter.specs.Meter.{meter_word_count, input_breaks, meter_next, meter_of}
use Rattle.meter.specs.Metering.{new_meter, offered_all}
use Rattle.meter.specs.Words.{word_taken}
use Rattle.words.specs.Stored.{word_at}
use Rattle.flow.specs.declared.Declaration.{Declaration}
use Rattle.meter.proofs.Metering as Metering

-- The meter: of all lists of inputs offered to a new meter, each input is taken if and only if the inputs taken before it and this one keep the declaration (section 2).

pub meter-slot : (declared : Declaration) (before : List ℕ) → (offered_all (new_meter declared) before).state.slot.0 ≡ length (offered_all (new_meter declared) before).taken
meter-slot = Metering.meter-slot

module _ (declared : Declaration) (clear : unused_clear declared ≡ true) (ranged : declaration_in_range declared ≡ true) (ordered : rows_in_order declared ≡ true)
    (before : List ℕ) (input : ℕ) (small : input ≤ largest_amount)
    (left : length (offered_all (new_meter declared) before).taken ≤ last_slot) where
  -- where the input is within the limit and a slot number is left, a meter from new refuses for the declaration alone
  pub meter-answers : let fed = offered_all (new_meter declared) before in
      meter_of fed.state fed.words input
      ≡ pick (input_breaks fed.state fed.words input) (Err InputBreaksDeclaration) (Ok (meter_next fed.state input))
  meter-answers = Metering.meter-answers declared clear ranged ordered before input small left

  -- and it breaks the declaration just where the inputs taken and this one do not keep it
  pub meter-keeps : let fed = offered_all (new_meter declared) before in
      (input_breaks fed.state fed.words input ≡ false) ↔ Keeps (class_of declared) (flow_of (fed.taken ++ (input ∷ [])))
  meter-keeps = Metering.meter-keeps declared clear ranged ordered before input small left

-- The meter's words (section 6): of all lists of inputs offered to a new meter, under any declaration, each word is what is said of the inputs taken.

module _ (declared : Declaration) (before : List ℕ) where
  pub meter-sized : length (offered_all (new_meter declared) before).words ≡ meter_word_count
  meter-sized = Metering.meter-sized declared before

  pub meter-words : let fed = offered_all (new_meter declared) before in (j : ℕ) → j < meter_word_count → word_at fed.words j ≡ word_taken declared fed.taken j
  meter-words = Metering.meter-words declared before
