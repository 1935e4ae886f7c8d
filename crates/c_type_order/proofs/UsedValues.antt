-- The types that values use, and operators on one operand and updates, where the uses of their operands are known.
use Rattle.std.proofs.Common.{◌≡◌, false}
use Rattle.cc_base.specs.declared.place.Place.{Place}
use Rattle.c_types.specs.Table.{Table}
use Rattle.c_tree.specs.declared.operator.Assignment.{Assignment}
use Rattle.c_tree.specs.declared.operator.Step.TheVariants as step
use Rattle.c_tree.specs.declared.operator.Unary.{Unary}
use Rattle.c_tree.specs.declared.operator.Unary.TheVariants as unary
use Rattle.c_tree.specs.Tree as tree
use Rattle.c_typing.specs.Assignments
use Rattle.c_typing.specs.Judging.{State, Gives, next}
use Rattle.c_typing.specs.Operands.{Operand, Value, value}
use Rattle.c_typing.specs.Operations.{prefix, target, target_of, prefix_of}
use Rattle.c_typing.specs.Settled.{IsKnown}
use Rattle.c_typing.specs.Walks.{judge}
use Rattle.c_typing_laws.proofs.JudgedTrees.{value-here, expr-judged}
use Rattle.c_typing_laws.proofs.Outcomes.{bind-gives}
use Rattle.c_typing_laws.proofs.NumberedConstructs.{IsWhole}
use Rattle.c_typing_laws.proofs.NumberedTrees.{operand-whole}
use Rattle.c_type_order.specs.TypesUsed.{used_by}
use Rattle.c_type_order.specs.Uses.{IsUsed}
use Rattle.c_type_order.proofs.Uses.{then_used}
use Rattle.c_type_order.proofs.UsedConstructs.{PartUsed, ValueUsed, value-used, target-used, address-used, prefix-used, size-used, before-used}
use Rattle.c_type_order.proofs.UsedOperators.{BothUsed}
use Rattle.c_type_order.proofs.UsedAssignments.{update-used}

-- what the judging of an expression uses
abbrev pub IsUsing : tree.Expr → State → Type 0
IsUsing e s = (o : Operand) (q : State) → judge false e s ≡ Gives o q → PartUsed o.part s.table q.table

pub value-uses : (e : tree.Expr) (v : Value) (s m : State) → IsKnown s → IsUsing e s → next (judge false e s) value ≡ Gives v m → ValueUsed v.expr s.table m.table × IsKnown m
value-uses e v s m k ih h =
    let one = bind-gives (judge false e s) value v m h in
    let j = expr-judged e false one.0 s one.1 k one.2 in (
      value-used one.0 v s.table one.1 m (operand-whole false e one.0 s one.1 k one.2).0 (ih one.0 one.1 one.2) one.3,
      (value-here false e one.0 v s one.1 m j one.3).value.goes.known,
    )

pub prefix-uses : (operator : Unary) (at : Place) (x o : Operand) (S : Table) (s r : State) → IsWhole x.part → PartUsed x.part S s.table → prefix operator at x s ≡ Gives o r → PartUsed o.part S r.table
unfolding prefix target
prefix-uses unary.Increment at x o S s r w n h = before-used step.Increment at x o S s r n h
prefix-uses unary.Decrement at x o S s r w n h = before-used step.Decrement at x o S s r n h
prefix-uses unary.AddressOf at x o S s r w n h = address-used at x o S s r n h
prefix-uses unary.SizeOf at x o S s r w n h = size-used at x o S s r w n h
prefix-uses unary.Dereference at x o S s r w n h =
    let one = bind-gives (value x s) (target_of at) o r h in target-used at one.0 o S one.1 r (value-used x one.0 S s one.1 w n one.2) one.3
prefix-uses unary.Plus at x o S s r w n h =
    let one = bind-gives (value x s) (prefix_of unary.Plus at) o r h in prefix-used unary.Plus at one.0 o S one.1 r (value-used x one.0 S s one.1 w n one.2) one.3
prefix-uses unary.Minus at x o S s r w n h =
    let one = bind-gives (value x s) (prefix_of unary.Minus at) o r h in prefix-used unary.Minus at one.0 o S one.1 r (value-used x one.0 S s one.1 w n one.2) one.3
prefix-uses unary.Complement at x o S s r w n h =
    let one = bind-gives (value x s) (prefix_of unary.Complement at) o r h in prefix-used unary.Complement at one.0 o S one.1 r (value-used x one.0 S s one.1 w n one.2) one.3
prefix-uses unary.Not at x o S s r w n h =
    let one = bind-gives (value x s) (prefix_of unary.Not at) o r h in prefix-used unary.Not at one.0 o S one.1 r (value-used x one.0 S s one.1 w n one.2) one.3

pub update-uses : (operator : Assignment) (a : tree.Expr) (at : Place) (b : tree.Expr) (o : Operand) (s r : State) → IsKnown s → IsUsing a s
    → ((m : State) → IsKnown m → IsUsing b m)
    → next (judge false a s) (λ x. λ m. next (next (judge false b m) value) (λ y. Assignments.update_by operator x at y)) ≡ Gives o r → PartUsed o.part s.table r.table
update-uses operator a at b o s r k ia ib h =
    let one = bind-gives (judge false a s) (λ x. λ m. next (next (judge false b m) value) (λ y. Assignments.update_by operator x at y)) o r h in
    let x = operand-whole false a one.0 s one.1 k one.2 in
    let two = bind-gives (next (judge false b one.1) value) (λ y. Assignments.update_by operator one.0 at y) o r one.3 in
    let y = value-uses b two.0 one.1 two.1 x.1 (ib one.1 x.1) two.2 in
    update-used operator one.0 at two.0 o s.table one.1.table two.1 r (ia one.0 one.1 one.2) y.0 two.3

pub both_use : (x y : Value) (S M R : Table) → ValueUsed x.expr S M → ValueUsed y.expr M R → IsUsed (BothUsed x.expr y.expr) S R
both_use x y S M R p q = then_used (λ U. used_by U x.expr) (λ U. used_by U y.expr) S M R p q
