-- Section 5, and document 02, item 6: the bodies of the fields, as they are read and as they are written.
use Rattle.std.specs.Prelude.{ℕ, zero, suc, ◌+◌, ◌*◌, Bool, List, [], ◌∷◌, ◌++◌, get_or, take, drop, leb, eqb}
use Rattle.quantity.specs.Choice.{pick, both}
use Rattle.quantity.specs.Ranges.{in_range, link_range, wanted_delay_range}
use Rattle.operator.specs.Operators.{limiter, compactor, expander, filter, delayer, number_in_range}
use Rattle.flow.specs.Declarations.{by_kind, several_at, of_one_row, of_several, declaration_in_range}
use Rattle.flow.specs.declared.Kind.{Kind}
use Rattle.flow.specs.declared.DeclaredRow.{DeclaredRow}
use Rattle.flow.specs.declared.Declaration.{Declaration}
use Rattle.operator.specs.declared.Operator.{Operator}
use Rattle.sheet.specs.declared.LinkedOperator.{LinkedOperator}
use Rattle.sheet.specs.Numbers.{value_of_bytes, bytes_of}

-- so many bytes from a byte on
unfoldable pub part : ℕ → ℕ → List ℕ → List ℕ
part at width bytes = take width (drop at bytes)

-- 01, 7 bytes: kind (0 smooth, 1 uniform), m in 2, Q in 4
unfoldable pub declaration_in : List ℕ → Declaration
declaration_in body = of_one_row (pick (eqb (get_or body 0 0) 0) Kind.Smooth Kind.Uniform) (value_of_bytes (part 1 2 body)) (value_of_bytes (part 3 4 body))

unfoldable pub declaration_fits : List ℕ → Bool
declaration_fits body = both (leb (get_or body 0 0) 1) (declaration_in_range (declaration_in body))

-- 05 in place of it, 6 bytes a row: interval in 2, quota in 4
abbrev pub row_length : ℕ
row_length = 6

unfoldable pub row_in : List ℕ → ℕ → DeclaredRow
row_in body i = record { interval = record { 0 = value_of_bytes (part (i * row_length) 2 body) }; quota = record { 0 = value_of_bytes (part (i * row_length + 2) 4 body) } }

unfoldable pub rows_in : ℕ → List ℕ → Declaration
rows_in count body = of_several count (row_in body)

unfoldable pub rows_fit : ℕ → List ℕ → Bool
rows_fit count body = declaration_in_range (rows_in count body)

-- the first k rows as they are written
unfoldable pub row_bodies : Declaration → ℕ → List ℕ
row_bodies declared zero = []
row_bodies declared (suc k) = row_bodies declared k ++ bytes_of 2 (several_at declared k).interval ++ bytes_of 4 (several_at declared k).quota

unfoldable pub pair_body : ℕ → Declaration → List ℕ
pair_body kind declared = kind ∷ bytes_of 2 declared.interval.0 ++ bytes_of 4 declared.quota.0

-- the tag and the body of a declaration
unfoldable pub declaration_tag : Declaration → ℕ
declaration_tag declared = by_kind declared.kind 0x01 0x01 0x05

unfoldable pub declaration_body : Declaration → List ℕ
declaration_body declared = by_kind declared.kind (pair_body 0 declared) (pair_body 1 declared) (row_bodies declared declared.count)

-- 02, 4 bytes: delay wanted
unfoldable pub wanted_in : List ℕ → ℕ
wanted_in body = value_of_bytes (part 0 4 body)

unfoldable pub wanted_fits : List ℕ → Bool
wanted_fits body = in_range wanted_delay_range (wanted_in body)

unfoldable pub wanted_body : ℕ → List ℕ
wanted_body wanted = bytes_of 4 wanted

-- 03, 6 bytes: kind (0 limiter, 1 compactor, 2 expander, 3 filter, 4 delayer), link in 1, its number in 4
unfoldable pub operator_of : ℕ → ℕ → Operator
operator_of kind number =
    pick (eqb kind 0) (limiter number)
    (pick (eqb kind 1) (compactor number)
    (pick (eqb kind 2) (expander number)
    (pick (eqb kind 3) (filter number) (delayer number))))

unfoldable pub operator_in : List ℕ → LinkedOperator
operator_in body = record { operator = operator_of (get_or body 0 0) (value_of_bytes (part 2 4 body)); link = record { 0 = get_or body 1 0 } }

unfoldable pub operator_in_range : LinkedOperator → Bool
operator_in_range linked = both (number_in_range linked.operator) (in_range link_range linked.link.0)

unfoldable pub operator_fits : List ℕ → Bool
operator_fits body = both (leb (get_or body 0 0) 4) (operator_in_range (operator_in body))

unfoldable pub operator_byte : Operator → ℕ
operator_byte (Operator.Limiter R) = 0
operator_byte (Operator.Compactor m) = 1
operator_byte (Operator.Expander m) = 2
operator_byte (Operator.Filter R) = 3
operator_byte (Operator.Delayer d) = 4

unfoldable pub operator_number : Operator → ℕ
operator_number (Operator.Limiter R) = R.0
operator_number (Operator.Compactor m) = m.0
operator_number (Operator.Expander m) = m.0
operator_number (Operator.Filter R) = R.0
operator_number (Operator.Delayer d) = d.0

unfoldable pub operator_body : LinkedOperator → List ℕ
operator_body linked = operator_byte linked.operator ∷ linked.link.0 ∷ bytes_of 4 (operator_number linked.operator)
