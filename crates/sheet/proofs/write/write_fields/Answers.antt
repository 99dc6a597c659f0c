-- At each `return` the tests that led there say which refusal stands; behind all of them the three writers leave the sheet.
use Prim.Native.Nat.{◌≤◌, ◌<◌}
use mathlib.Core.Path.{◌≡◌, sym, ◌∙◌}
use mathlib.Core.Bool.{Bool, true, false}
use mathlib.Core.Logic.{◌⊎◌, inl, inr}
use native.Mathlib.Omega.{arith}
use lib.ListN.{take, length-take}
use Rattle.flow.specs.Declarations.{declaration_in_range}
use Rattle.std.specs.List.{list_all}
use Rattle.sheet.specs.Bodies.{operator_in_range}
use Rattle.sheet.specs.Sheets.{operators_in_range}
use Rattle.sheet.specs.declared.PathValue.{PathValue}
use Rattle.sheet.proofs.WriteLaws.{declaration-short, each-tested}
use Rattle.sheet.proofs.SheetWritten.{rest_of, Counted, Declared, wrong-count, wrong-declaration, wrong-order, wrong-rest, all_right}
use Rattle.sheet.proofs.write.write_fields.Goals as goal
use Rattle.sheet.proofs.write.write_fields.Goals.{After-in_range, After-wanted_at-at, Else-not-in_order, Else-not-in_range, Else-not-operators_in_range, then-not-in_range-2-via-then-not-in_range-2, then-not-in_range-2-via-else-not-in_range-2+then-not-operators_in_range}

pub returns-then-count-eq0 : goal.returns-then-count-eq0
returns-then-count-eq0 c =
    let a = c.args in
    let wrong : (a.path.count ≡ 0) ⊎ (16 < a.path.count) = elim c.then-count-eq0.either [ inl zero ↦ inl zero | inr w ↦ inr w.1 ] in
    wrong-count a.path a.sheet.now (omega arith) c.requires wrong

-- behind the first two tests
counted : (c : After-in_range) → Counted c.args.path c.args.sheet.now
counted c =
    record { full = omega arith; fields = c.requires; some = c.if-count-eq0.false; few = c.if-count-gt16.false }

pub returns-then-not-in_range : goal.returns-then-not-in_range
returns-then-not-in_range c = wrong-declaration _ _ (counted (goal.at.returns-then-not-in_range c).After-in_range) (sym c.in_range.ensures ∙ c.if-not-in_range.true)

-- the declaration is in range
inside : (c : Else-not-in_range) → declaration_in_range c.args.path.declaration ≡ true
inside c = sym c.in_range.ensures ∙ c.if-not-in_range.false

pub returns-then-not-in_order : goal.returns-then-not-in_order
returns-then-not-in_order c = wrong-order _ _ (counted (goal.at.returns-then-not-in_order c).After-in_range) (inside (goal.at.returns-then-not-in_order c).Else-not-in_range) (sym c.in_order.ensures ∙ c.if-not-in_order.true)

-- behind the tests of the declaration
declared : (c : Else-not-in_order) → Declared c.args.path c.args.sheet.now
declared c = record { counted = (record { full = omega arith; fields = c.requires; some = c.if-count-eq0.false; few = c.if-count-gt16.false }); inside = (sym c.in_range.ensures ∙ c.if-not-in_range.false); rises = sym c.in_order.ensures ∙ c.if-not-in_order.false }

-- what is tested of the operators
tested : (path : PathValue) {answer : Bool} → let operators = take path.count path.operators in answer ≡ list_all operator_in_range operators → answer ≡ operators_in_range operators
tested path e = e ∙ each-tested (take path.count path.operators)

pub returns-then-not-in_range-2 : goal.returns-then-not-in_range-2
returns-then-not-in_range-2 c =
    let passed = declared (goal.at.returns-then-not-in_range-2 c).Else-not-in_order in
    let wrong : rest_of c.args.path ≡ false = elim c.then-not-in_range-2.branch [
      | then-not-in_range-2-via-then-not-in_range-2 w ↦ rw (sym c.in_range-2.ensures ∙ w.if-not-in_range-2.true)
      | then-not-in_range-2-via-else-not-in_range-2+then-not-operators_in_range w ↦ rw (sym c.in_range-2.ensures ∙ w.if-not-in_range-2.false, sym (tested c.args.path w.operators_in_range.ensures) ∙ w.if-not-operators_in_range.true)
    ] in
    wrong-rest _ _ passed wrong

-- all is in range
within : (c : Else-not-operators_in_range) → rest_of c.args.path ≡ true
within c = rw (sym c.in_range-2.ensures ∙ c.if-not-in_range-2.false, sym (tested c.args.path c.operators_in_range.ensures) ∙ c.if-not-operators_in_range.false)

pub wanted_at-at-requires : goal.wanted_at-at-requires
wanted_at-at-requires c = inside (goal.at.wanted_at-at-requires c).Else-not-in_range

-- the field 02 begins within the first 28 bytes
near : (c : After-wanted_at-at) → c.wanted_at-at.result ≤ 27
near c = rw c.wanted_at-at.ensures (declaration-short c.args.path.declaration ((sym c.in_range.ensures ∙ c.if-not-in_range.false)))

pub end-requires : goal.end-requires
end-requires c = omega (arith, near (goal.at.end-requires c).After-wanted_at-at)

pub write_operators-end-requires : goal.write_operators-end-requires
write_operators-end-requires c = (
  sym (tested c.args.path c.operators_in_range.ensures) ∙ c.if-not-operators_in_range.false,
  rw length-take (omega arith),
  omega (arith, near (goal.at.write_operators-end-requires c).After-wanted_at-at, c.end.ensures),
)

pub write_declaration-requires : goal.write_declaration-requires
write_declaration-requires c = (inside (goal.at.write_declaration-requires c).Else-not-in_range, omega arith)

pub write_wanted-requires : goal.write_wanted-requires
write_wanted-requires c = omega (arith, near (goal.at.write_wanted-requires c).After-wanted_at-at, c.write_declaration.auto.sheet)

pub returns : goal.returns
returns c =
    let begun = c.wanted_at-at in
    let (ends, operated) = rw c.end.ensures at c.write_operators-end.ensures in
    rw ends
    (all_right c.args.path _ (declared (goal.at.returns c).Else-not-in_order) (within (goal.at.returns c).Else-not-operators_in_range) begun.result begun.ensures operated c.write_declaration.ensures c.write_wanted.ensures)
