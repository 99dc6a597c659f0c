-- Choice by a test, and tests joined.
use Rattle.std.specs.Prelude.{Bool, true, false, List, [], ◌∷◌}

-- the first where the test holds, else the second
abbrev pub pick : {A : Type 0} → Bool → A → A → A
pick true a b = a
pick false a b = b

abbrev pub both : Bool → Bool → Bool
both true b = b
both false b = false

abbrev pub either : Bool → Bool → Bool
either true b = true
either false b = b

-- any of the tests
abbrev pub any_of : List Bool → Bool
any_of [] = false
any_of (test ∷ tests) = either test (any_of tests)
