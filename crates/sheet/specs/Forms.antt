-- A path value has a form: it is written out in fields 01 or 05, 02 and 03, or it is a house profile. What it stands for, and the value of a path in a form.
use Rattle.std.specs.Prelude.{◌++◌, length, take, replicate}
use Rattle.quantity.specs.Limits.{most_operators}
use Rattle.flow.specs.Declarations.{of_one_row, cleared}
use Rattle.flow.specs.declared.Kind.{Kind}
use Rattle.sheet.specs.declared.House.{House}
use Rattle.sheet.specs.declared.Form.{Form}
use Rattle.sheet.specs.declared.PathValue.{PathValue}
use Rattle.sheet.specs.Paths.{Path, no_linked_operator}
use Rattle.sheet.specs.House.{house_path}

-- the path that a value has written out: its declaration, of which no more is looked at than its kind uses, its delay wanted and its first `count` operators
unfoldable pub in_full : PathValue → Path
in_full p = record { declaration = cleared p.declaration; wanted = p.wanted.0; operators = take p.count p.operators }

stands_in : Form → Path → Path
stands_in Form.Fields path = path
stands_in (Form.House h) path = house_path h

-- the path that a value stands for: in the house form that of the nine numbers, whatever else it has
unfoldable pub stands_for : PathValue → Path
unfolding stands_in
stands_for p = stands_in p.form (in_full p)

-- the value of a path of at most sixteen operators in a form: the operators behind them are empty
unfoldable pub value_of_path : Form → Path → PathValue
value_of_path form path =
    record {
      form = form;
      declaration = path.declaration;
      wanted = record { 0 = path.wanted };
      count = length path.operators;
      operators = take most_operators (path.operators ++ replicate most_operators no_linked_operator);
    }

-- the value of a house profile: the nine numbers, and the path that they stand for written out
unfoldable pub house_value : House → PathValue
unfolding value_of_path
house_value h = value_of_path (Form.House h) (house_path h)

-- the path without an operator
abbrev pub no_path : PathValue
no_path = record { form = Form.Fields; declaration = of_one_row Kind.Smooth 0 0; wanted = record { 0 = 0 }; count = 0; operators = replicate most_operators no_linked_operator }
