-- What an operator has at a slot's end (sections 3 and 6).
use Rattle.std.specs.Prelude.{ℕ, ◌+◌, ◌-◌}

-- b, the units held; a filter's h, what the limiter beside it holds; and what a delayer holds of the units that entered a slots ago
pub record Held : Type 0 where
  pub b : ℕ
  pub h : ℕ
  pub past : ℕ → ℕ

-- an operator starts with nothing
abbrev pub nothing : Held
nothing = record { b = 0; h = 0; past = λ a. 0 }

-- an operator that holds nothing but b: b becomes b + r − s
unfoldable pub keeps : Held → ℕ → ℕ → Held
keeps x r s = record { b = x.b + r - s; h = 0; past = λ a. 0 }
