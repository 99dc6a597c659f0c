-- The five operators behind one name each for the least output, the greatest, and what is held after (section 3).
use Rattle.std.specs.Prelude.{ℕ, Bool, List, [], ◌∷◌}
use Rattle.quantity.specs.Ranges.{in_range, interval_range, rate_range, delay_range}
use Rattle.operator.specs.Held.{Held}
use Rattle.operator.specs.Limiter.{limiter_least, limiter_greatest, limiter_after}
use Rattle.operator.specs.Compactor.{compactor_least, compactor_greatest, compactor_after}
use Rattle.operator.specs.Expander.{expander_least, expander_greatest, expander_after}
use Rattle.operator.specs.Filter.{filter_least, filter_greatest, filter_after}
use Rattle.operator.specs.Delayer.{delayer_least, delayer_greatest, delayer_after}
use Rattle.operator.specs.declared.Operator.{Operator}
use Rattle.operator.specs.declared.Operator.TheVariants.{Limiter, Compactor, Expander, Filter, Delayer}

-- in slot t, with x held and input r, the least output
unfoldable pub least_output : Operator → ℕ → Held → ℕ → ℕ
least_output (Limiter R) t x r = limiter_least R.0 x r
least_output (Compactor m) t x r = compactor_least m.0 t x r
least_output (Expander m) t x r = expander_least m.0 t x r
least_output (Filter R) t x r = filter_least R.0 x r
least_output (Delayer d) t x r = delayer_least d.0 x r

-- the greatest output
unfoldable pub greatest_output : Operator → ℕ → Held → ℕ → ℕ
greatest_output (Limiter R) t x r = limiter_greatest R.0 x r
greatest_output (Compactor m) t x r = compactor_greatest m.0 t x r
greatest_output (Expander m) t x r = expander_greatest x r
greatest_output (Filter R) t x r = filter_greatest x r
greatest_output (Delayer d) t x r = delayer_greatest x r

-- what is held once s is sent
unfoldable pub held_after : Operator → Held → ℕ → ℕ → Held
held_after (Limiter R) x r s = limiter_after x r s
held_after (Compactor m) x r s = compactor_after x r s
held_after (Expander m) x r s = expander_after x r s
held_after (Filter R) x r s = filter_after R.0 x r s
held_after (Delayer d) x r s = delayer_after d.0 x r s

-- section 1: the operator's number is in its range
unfoldable pub number_in_range : Operator → Bool
number_in_range (Limiter R) = in_range rate_range R.0
number_in_range (Compactor m) = in_range interval_range m.0
number_in_range (Expander m) = in_range interval_range m.0
number_in_range (Filter R) = in_range rate_range R.0
number_in_range (Delayer d) = in_range delay_range d.0

-- the names of the kinds, in letters' numbers: limiter, compactor, expander, filter, delayer
unfoldable pub name_of : Operator → List ℕ
name_of (Limiter R) = 108 ∷ 105 ∷ 109 ∷ 105 ∷ 116 ∷ 101 ∷ 114 ∷ []
name_of (Compactor m) = 99 ∷ 111 ∷ 109 ∷ 112 ∷ 97 ∷ 99 ∷ 116 ∷ 111 ∷ 114 ∷ []
name_of (Expander m) = 101 ∷ 120 ∷ 112 ∷ 97 ∷ 110 ∷ 100 ∷ 101 ∷ 114 ∷ []
name_of (Filter R) = 102 ∷ 105 ∷ 108 ∷ 116 ∷ 101 ∷ 114 ∷ []
name_of (Delayer d) = 100 ∷ 101 ∷ 108 ∷ 97 ∷ 121 ∷ 101 ∷ 114 ∷ []

-- the operators by their plain numbers
abbrev pub limiter : ℕ → Operator
limiter R = Limiter (record { 0 = R })

abbrev pub compactor : ℕ → Operator
compactor m = Compactor (record { 0 = m })

abbrev pub expander : ℕ → Operator
expander m = Expander (record { 0 = m })

abbrev pub filter : ℕ → Operator
filter R = Filter (record { 0 = R })

abbrev pub delayer : ℕ → Operator
delayer d = Delayer (record { 0 = d })
