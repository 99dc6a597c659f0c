-- Section 4, the class between operators: what the operators before one have made of the declared class.
use Rattle.std.specs.Prelude.{ℕ, zero, suc, ◌+◌, Bool, true, false}
use Rattle.flow.specs.Classes.{Class, smooth, uniform, changed_quota}
use Rattle.operator.specs.FilterPart.{Slowest, unfiltered, slower}
use Rattle.operator.specs.declared.Operator.{Operator}
use Rattle.operator.specs.declared.Operator.TheVariants.{Limiter, Compactor, Expander, Filter, Delayer}

-- the class; whether a filter or delayer has come, from which on the class stays; e, the sum of d so far; P, the least filter rate so far
pub record Progress : Type 0 where
  pub class : Class
  pub in_filter_part : Bool
  pub e : ℕ
  pub slowest : Slowest

-- a path starts with its declared class
abbrev pub start : Class → Progress
start declared = record { class = declared; in_filter_part = false; e = 0; slowest = unfiltered }

-- behind a framed operator, whose output has a class of its own
framed : Class → Progress
framed output = record { class = output; in_filter_part = false; e = 0; slowest = unfiltered }

-- behind an operator: a limiter's output is uniform (1, R); a compactor's uniform and an expander's smooth, of the changed quota;
-- a filter and a delayer keep the class
unfoldable pub behind : Progress → Operator → Progress
unfolding framed
behind p (Limiter R) = framed (uniform 1 R.0)
behind p (Compactor n) = framed (uniform n.0 (changed_quota n.0 p.class))
behind p (Expander n) = framed (smooth n.0 (changed_quota n.0 p.class))
behind p (Filter R) = record { class = p.class; in_filter_part = true; e = p.e; slowest = slower p.slowest R.0 }
behind p (Delayer d) = record { class = p.class; in_filter_part = true; e = p.e + d.0; slowest = p.slowest }

-- before operator k of a path, operators counted from 0
unfoldable pub progress_at : Class → (ℕ → Operator) → ℕ → Progress
progress_at declared operators zero = start declared
progress_at declared operators (suc k) = behind (progress_at declared operators k) (operators k)
