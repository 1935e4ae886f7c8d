-- Statements, functions and units that are judged hold no more than 256 values in each expression, and no function type of the table has more
-- than 127 parameters.
use Rattle.std.proofs.Common.{ℕ, ℤ, max, Bool, true, false, List, Option, Some, None, nat_lt, if◌then◌else◌, refl, arith}
use Rattle.cc_base.specs.declared.fault.Fault.TheVariants.{TooLarge}
use Rattle.cc_base.specs.declared.fault.Limit.TheVariants.{Functions}
use Rattle.cc_base.specs.declared.number.TypeId.{TypeId}
use Rattle.cc_base.specs.declared.place.Place.{Place}
use Rattle.c_tree.specs.declared.leaf.Identifier.{Identifier}
use Rattle.c_tree.specs.Tree as tree
use Rattle.c_tree.specs.TypedTree as typed
use Rattle.c_tree.specs.TypedTree.{TypedExpr, TypedSpecifiers, TypedDeclarator, TypedParameters, TypedStatement, TypedBlockItems, TypedTranslationUnit}
use Rattle.c_tree.specs.TypedParts.{specified_type, declared_type}
use Rattle.c_tree.specs.Places.{nowhere}
use Rattle.c_types.specs.Table.{shape_at}
use Rattle.c_typing.specs.Refusals.{name_place}
use Rattle.c_unit_typing.specs.DeclarationJudging.{naming_for, linked_first}
use Rattle.c_unit_typing.specs.ParameterScopes.{level_of}
use Rattle.c_unit_typing.specs.UnitJudged.{state_of}
use Rattle.c_typing.specs.Checking.{checked}
use Rattle.c_typing.specs.Declaring.{declarator_name}
use Rattle.c_typing.specs.Scopes.{Level, with_scopes}
use Rattle.c_typing.specs.Specifying.{in_scopes}
use Rattle.c_unit_typing.specs.Holding.{expr_holds, specifiers_holds, declarator_holds, optional_holds, statement_holds, block_items_holds, unit_holds}
use Rattle.c_unit_typing.specs.StatementJudging.{dropped, returned, promotion, tested, tested_or_none, switched, labelled, case_label, default_label, jump, within, judge_statement, judge_block_items}
use Rattle.c_unit_typing.specs.DefinitionJudging.{result_of, counted, defined, body, defined_as, judge_definition, judge_unit}
use Rattle.c_unit_typing.specs.Units.{Around, storage_of, in_a_loop, in_a_switch, going_on}
use Rattle.c_unit_typing.specs.UnitJudging.{UnitJudging, pure, stop, lifted}
use Rattle.c_unit_limits.proofs.Kept.{seen-kept}
use Rattle.c_unit_limits.proofs.KeptTypes.{entered-kept, left-kept}
use Rattle.c_unit_limits.proofs.HeldWhole.{checked-held, checked_value-held, checked_constant-held, specifiers_of-held, declarator_at-held}
use Rattle.c_unit_limits.proofs.HeldDeclarations.{linked_name-held, declaration-held}
use Rattle.c_unit_limits.proofs.UnitSteps.{IsUnitHeld, unit-bind, unit-first, unit-last, unit-known, unit-pure, unit-kept, unit-stop, unit-unless, lifted-held, lifted-kept}

-- Expressions of statements

checked_held : (e : tree.Expr) → IsUnitHeld (lifted (checked e)) (expr_holds e)
checked_held e = lifted-held (checked-held e)

dropped_held : (e : Option tree.Expr) → IsUnitHeld (dropped e) (optional_holds e)
unfolding dropped
dropped_held None = unit-pure None
dropped_held (Some e) = unit-first (checked_held e) (λ v. unit-pure (_))

returned_held : (at : Place) (t : TypeId) (e : Option tree.Expr) → IsUnitHeld (returned at t e) (optional_holds e)
unfolding returned
returned_held at t None = unit-known (λ q. unit-unless (_) (unit-pure None))
returned_held at t (Some e) = unit-first (lifted-held (checked_value-held t at false e)) (λ v. unit-pure (_))

promotion_held : (at : Place) (c : TypedExpr) → IsUnitHeld (promotion at c) 0
unfolding promotion
promotion_held at c = unit-known (λ s. unit-pure (_))

tested_held : (at : Place) (c : TypedExpr) (one : TypedStatement) → IsUnitHeld (tested at c one) 0
unfolding tested
tested_held at c one = unit-known (λ q. unit-unless (_) (unit-pure one))

tested_or_none_held : (at : Place) (c : Option TypedExpr) (one : TypedStatement) → IsUnitHeld (tested_or_none at c one) 0
unfolding tested_or_none
tested_or_none_held at None one = unit-pure one
tested_or_none_held at (Some c) one = tested_held at c one

switched_held : (at : Place) (c : TypedExpr) (one : TypedStatement) → IsUnitHeld (switched at c one) 0
unfolding switched
switched_held at c one = unit-known (λ q. unit-unless (_) (unit-pure one))

labelled_held : (at : Place) (labels : List ℤ) (list : TypedBlockItems) (e : TypedExpr) (o : Option ℤ) → IsUnitHeld (labelled at labels list e o) 0
unfolding labelled
labelled_held at labels list e None = unit-stop (_) 0
labelled_held at labels list e (Some z) = unit-known (λ q. unit-unless (_) (unit-pure (_)))

case_label_held : (on : Option TypeId) (at : Place) (e : tree.Expr) (list : TypedBlockItems) → IsUnitHeld (case_label on at e list) (expr_holds e)
unfolding case_label
case_label_held on at e list = unit-first (lifted-held (checked_constant-held e)) (λ c. unit-known (λ s. labelled_held at (_) list c.expr (_)))

default_label_held : (at : Place) (list : TypedBlockItems) → IsUnitHeld (default_label at list) 0
unfolding default_label
default_label_held at list = unit-known (λ q. unit-unless (_) (unit-pure (_)))

jump_held : (at : Place) (allowed : Bool) (one : TypedStatement) → IsUnitHeld (jump at allowed one) 0
unfolding jump
jump_held at allowed one = unit-known (λ q. unit-unless (_) (unit-pure one))

-- Statements

within_held : {A : Type 0} {go : UnitJudging A} {n : ℕ} (at : Place) → IsUnitHeld go n → IsUnitHeld (within at go) n
unfolding within
within_held at h = unit-last (lifted-kept entered-kept) (λ inside. unit-first h (λ one. lifted-kept (left-kept at one)))

mutual
  unfolding judge_statement judge_block_items

  statement_held : (t : tree.Statement) (a : Around) → IsUnitHeld (judge_statement a t) (statement_holds t)
  statement_held (tree.Block brace items) a = within_held brace (unit-first (items_held items a None) (λ list. unit-pure (_)))
  statement_held (tree.Express e) a = unit-first (checked_held e) (λ v. unit-pure (_))
  statement_held tree.Empty a = unit-pure (_)
  statement_held (tree.If at paren c s) a =
      within_held at (unit-bind (checked_held c) (λ test. unit-first (within_held at (statement_held s a)) (λ one. tested_held at test (_))))
  statement_held (tree.IfElse at paren c s r) a =
      within_held at (unit-bind (checked_held c) (λ test. unit-bind (within_held at (statement_held s a)) (λ one.
      unit-first (within_held at (statement_held r a)) (λ other. tested_held at test (_)))))
  statement_held (tree.Switch at paren e brace items) a =
      within_held at (unit-bind (checked_held e) (λ c. unit-last (promotion_held at c) (λ on.
      unit-first (within_held brace (items_held items (in_a_switch a) (_))) (λ list. switched_held at c (_)))))
  statement_held (tree.While at paren c s) a =
      within_held at (unit-bind (checked_held c) (λ test. unit-first (within_held at (statement_held s (in_a_loop a))) (λ one. tested_held at test (_))))
  statement_held (tree.DoWhile s at paren c) a =
      within_held at (unit-bind (within_held at (statement_held s (in_a_loop a))) (λ one. unit-first (checked_held c) (λ test. tested_held at test (_))))
  statement_held (tree.For at paren first test step s) a =
      within_held at (unit-bind (dropped_held first) (λ before. unit-bind (dropped_held test) (λ c. unit-bind (dropped_held step) (λ after.
      unit-first (within_held at (statement_held s (in_a_loop a))) (λ one. tested_or_none_held at c (_))))))
  statement_held (tree.ForDeclaration at paren d test step s) a =
      within_held at (unit-bind (declaration-held false d) (λ before. unit-bind (dropped_held test) (λ c. unit-bind (dropped_held step) (λ after.
      unit-first (within_held at (statement_held s (in_a_loop a))) (λ one. tested_or_none_held at c (_))))))
  statement_held (tree.Break at) a = jump_held at (_) (_)
  statement_held (tree.Continue at) a = jump_held at (_) (_)
  statement_held (tree.Return at e) a = unit-first (returned_held at (_) e) (λ v. unit-pure (_))

  items_held : (all : tree.BlockItems) (a : Around) (on : Option TypeId) → IsUnitHeld (judge_block_items a on all) (block_items_holds all)
  items_held tree.NoBlockItem a on = unit-pure (_)
  items_held (tree.AndStatement all s) a on = unit-bind (items_held all a on) (λ list. unit-first (statement_held s a) (λ one. unit-pure (_)))
  items_held (tree.AndDeclaration all d) a on = unit-bind (items_held all a on) (λ list. unit-first (declaration-held false d) (λ one. unit-pure (_)))
  items_held (tree.AndCase all at e) a on = unit-bind (items_held all a on) (λ list. case_label_held on at e list)
  items_held (tree.AndDefault all at) a on = unit-first (items_held all a on) (λ list. default_label_held at list)

-- Functions

if_held : {A : Type 0} (b : Bool) (p q : UnitJudging A) → IsUnitHeld p 0 → IsUnitHeld q 0 → IsUnitHeld (if b then p else q) 0
if_held true p q h k = h
if_held false p q h k = k

counted_held : (at : Place) (o : Option ℕ) → IsUnitHeld (counted at o) 0
unfolding counted
counted_held at None = unit-stop (_) 0
counted_held at (Some number) = if_held (nat_lt number 65535) (pure number) (stop (TooLarge at Functions)) (unit-pure number) (unit-stop (_) 0)

defined_held : (name : Identifier) (t : TypeId) → IsUnitHeld (defined name t) 0
unfolding defined
defined_held name t = unit-first (linked_name-held name (_)) (λ what. unit-kept (λ s. (λ h. h, omega arith)))

opened_held : (level : Level) → IsUnitHeld (lifted (in_scopes (going_on level) true)) 0
opened_held level = lifted-kept (seen-kept true (λ s. with_scopes s.seen (going_on level s.seen.scopes)) (λ s. (refl, refl)))

body_held : (brace : Place) (result : Option TypeId) (level : Level) (items : tree.BlockItems) → IsUnitHeld (body brace result level items) (block_items_holds items)
unfolding body
body_held brace (Some result) level items =
    unit-last (opened_held level) (λ inside. unit-first (items_held items (record { result = result; in_loop = false; breakable = false }) None) (λ list. lifted-kept (left-kept brace list)))
body_held brace None level items = unit-stop (_) (_)

defined_as_held : (o : Option Identifier) (base : TypedSpecifiers) (one : TypedDeclarator) → IsUnitHeld (defined_as o base one) 0
unfolding defined_as
defined_as_held None base one = unit-stop (_) 0
defined_as_held (Some name) base one =
    unit-known (λ q. unit-unless (_) (unit-first (unit-known (λ s. counted_held name.place (_))) (λ number. unit-first (defined_held name (_)) (λ what. unit-pure one))))

definition_held : (before : TypedTranslationUnit) (specifiers : tree.Specifiers) (d : tree.Declarator) (brace : Place) (items : tree.BlockItems)
    → IsUnitHeld (judge_definition before specifiers d brace items) (max (specifiers_holds specifiers) (max (declarator_holds d) (block_items_holds items)))
unfolding judge_definition
definition_held before specifiers d brace items =
    unit-bind (lifted-held (specifiers_of-held false specifiers)) (λ base.
    unit-last (unit-known (λ s. unit-pure (naming_for true (storage_of base) (linked_first s.linkage.linked (declarator_name d))))) (λ which.
    unit-last (unit-known (λ s. unit-pure (level_of which (specified_type base) d (state_of s)))) (λ level.
    unit-bind (lifted-held (declarator_at-held (name_place (declarator_name d) nowhere) which (specified_type base) None d)) (λ one.
    unit-last (defined_as_held (declarator_name d) base one) (λ again.
    unit-first (unit-known (λ s. body_held brace (result_of (shape_at s.table (declared_type one))) level items)) (λ list. unit-pure (typed.AndFunctionBody before base one brace list)))))))

-- Units

pub unit-held : (u : tree.TranslationUnit) → IsUnitHeld (judge_unit u) (unit_holds u)
unfolding judge_unit
unit-held tree.NoExternal = unit-pure (_)
unit-held (tree.AndExternal u d) = unit-bind (unit-held u) (λ list. unit-first (declaration-held true d) (λ one. unit-pure (_)))
unit-held (tree.AndFunctionBody u specifiers d brace items) = unit-bind (unit-held u) (λ list. definition_held list specifiers d brace items)
