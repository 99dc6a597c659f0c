-- Sixty spaces as one run.
use mathlib.Core.Path.{◌≡◌, ap, ◌∙◌}
use Prim.Native.Nat.{ℕ, ◌+◌, ◌-◌}
use native.Mathlib.Omega.{arith}
use lib.ListN.{length, take, drop, replicate, length-take, length-drop, length-replicate}
use Rattle.text.specs.Rows.{space}
use Rattle.sheet.proofs.Runs.{run-put}
use Rattle.page.proofs.column.put_spaces.Goals as goal

pub returns : goal.returns
returns c =
    let a = c.args in
    let sixty : length (take (a.at + 60 - a.at) (drop a.at a.lent.now)) ≡ 60 = omega (arith, length-take (a.at + 60 - a.at) (drop a.at a.lent.now), length-drop a.at a.lent.now) in
    let all : c.fill.new.self ≡ replicate 60 space = c.fill.ensures.after (λ y e. e) ∙ ap (λ (n : ℕ). replicate n space) sixty in
    rw all (run-put a.lent.now (replicate 60 space) a.at 60 (length-replicate 60 space) c.requires)
