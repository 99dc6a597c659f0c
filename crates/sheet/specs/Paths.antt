-- A path: its declaration, its delay wanted and the list of its operators, each with its link.
use Rattle.std.specs.Prelude.{ℕ, List, [], ◌∷◌, get_or}
use Rattle.operator.specs.declared.Operator.{Operator}
use Rattle.flow.specs.Classes.{Class}
use Rattle.flow.specs.Declarations.{of_one_row, class_of}
use Rattle.flow.specs.declared.Kind.{Kind}
use Rattle.flow.specs.declared.Declaration.{Declaration}
use Rattle.sheet.specs.declared.LinkedOperator.{LinkedOperator}

pub record Path : Type 0 where
  pub declaration : Declaration
  pub wanted : ℕ
  pub operators : List LinkedOperator

-- what the sources of a path declare: a path has one
unfoldable pub sources : Path → List Declaration
sources path = path.declaration ∷ []

-- what source j declares; behind the last one stands an empty declaration
unfoldable pub source_at : Path → ℕ → Declaration
unfolding sources
source_at path j = get_or (sources path) j (of_one_row Kind.Smooth 0 0)

-- section 4: the class that a path starts with
unfoldable pub path_class : Path → Class
path_class path = class_of path.declaration

-- what stands behind the last operator of a path value
abbrev pub no_linked_operator : LinkedOperator
no_linked_operator = record { operator = Operator.Limiter (record { 0 = 0 }); link = record { 0 = 0 } }

-- the link of operator k
abbrev pub link_at : Path → ℕ → ℕ
link_at path k = (get_or path.operators k no_linked_operator).link.0
