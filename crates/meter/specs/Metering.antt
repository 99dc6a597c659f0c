-- A meter on a list of inputs: each input is offered in its turn, and what is refused is not counted.
use Rattle.std.specs.Prelude.{ℕ, Result, Ok, Err, List, [], ◌∷◌, ◌++◌, replicate}
use Rattle.meter.specs.Meter.{meter_word_count, meter_of, meter_words_after}
use Rattle.flow.specs.declared.Declaration.{Declaration}
use Rattle.meter.specs.declared.SourceMeter.{SourceMeter}
use Rattle.quantity.specs.declared.refusal.Refusal.{Refusal}

-- a meter, its words, and the inputs that it took, in order
pub record Fed : Type 0 where
  pub state : SourceMeter
  pub words : List ℕ
  pub taken : List ℕ

-- a new meter
abbrev pub new_meter : Declaration → Fed
new_meter declared =
    record { state = record { declaration = declared; slot = record { 0 = 0 }; block = record { 0 = 0 } }; words = replicate meter_word_count 0; taken = [] }

-- a refused input leaves the state
state_after : Result SourceMeter Refusal → SourceMeter → SourceMeter
state_after (Ok next) state = next
state_after (Err why) state = state

taken_after : Result SourceMeter Refusal → List ℕ → ℕ → List ℕ
taken_after (Ok next) taken input = taken ++ (input ∷ [])
taken_after (Err why) taken input = taken

-- one more input is offered
unfoldable pub offered : Fed → ℕ → Fed
unfolding state_after taken_after
offered fed input =
    let answer = meter_of fed.state fed.words input in
    record { state = state_after answer fed.state; words = meter_words_after fed.state fed.words input; taken = taken_after answer fed.taken input }

-- inputs are offered one after the other
unfoldable pub offered_all : Fed → List ℕ → Fed
offered_all fed [] = fed
offered_all fed (input ∷ inputs) = offered_all (offered fed input) inputs
