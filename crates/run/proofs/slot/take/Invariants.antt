-- The path's operators are tested, decided and advanced in turn.
use mathlib.Core.Path.{◌≡◌}
use mathlib.Core.List.{List}
use Rattle.run.specs.declared.Run.{Run}
use Rattle.run.specs.declared.Stage.{Stage}
use Rattle.run.specs.Calls.{call_of}
use Rattle.run.proofs.MovingLaws.{Moving}
use Rattle.run.proofs.slot.take.Given as goal

-- a run with other stages
abbrev pub with_stages : Run → List Stage → Run
with_stages run stages = record { declaration = run.declaration; slot = run.slot; block = run.block; count = run.count; stages = stages }

abbrev pub invariant-loop-k : goal.invariant-loop-k
invariant-loop-k l = (l.run ≡ with_stages l.initial.run l.run.stages) × Moving l.initial.run l.words (call_of l.input l.choices) l.k l.progress l.run.stages l.places
