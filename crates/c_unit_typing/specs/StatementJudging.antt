-- What statements give, or where they stop (C99 6.8). A statement's own rule is tried when all that it holds was judged.
use Rattle.std.specs.Prelude.{◌==◌, ℤ, Bool, false, not, List, [], ◌∷◌, Option, Some, None}
use Rattle.std.specs.List.{list_any}
use Rattle.std.specs.Ordering.{int_eq}
use Rattle.cc_base.specs.declared.place.Place.{Place}
use Rattle.cc_base.specs.declared.number.TypeId.{TypeId}
use Rattle.cc_base.specs.declared.fault.Fault.TheVariants.{TooLarge}
use Rattle.cc_base.specs.declared.fault.Rule.TheVariants as rule
use Rattle.cc_base.specs.declared.fault.Limit.TheVariants.{Types}
use Rattle.c_types.specs.Table.{Table, shape_at}
use Rattle.c_tree.specs.Tree as tree
use Rattle.c_tree.specs.TypedTree as typed
use Rattle.c_tree.specs.TypedTree.{TypedExpr, TypedStatement, TypedBlockItems}
use Rattle.c_tree.specs.TypedParts.{type_of}
use Rattle.integers.specs.Arithmetic.{IntegerType}
use Rattle.c_typing.specs.Integers.{promoted}
use Rattle.c_typing.specs.Shapes.{integer_at, is_void_shape}
use Rattle.c_typing.specs.Conversions.{to_integer}
use Rattle.c_typing.specs.Tests.{AsValue, broken_at}
use Rattle.c_typing.specs.Judging.{integer_type}
use Rattle.c_typing.specs.Declaring.{entered, left}
use Rattle.c_typing.specs.Checking.{checked, checked_value, checked_constant}
use Rattle.c_unit_typing.specs.Units.{Around, in_a_loop, in_a_switch, labels_of, defaults_in}
use Rattle.c_unit_typing.specs.UnitRefusals.{condition_tests, converted_label, jump_tests, switch_tests}
use Rattle.c_unit_typing.specs.UnitJudging.{UnitJudging, pure, stop, obeying, by_known, lifted, ◌>>=◌}
use Rattle.c_unit_typing.specs.DeclarationJudging.{judge_declaration}

-- Expressions in statements

-- an expression, or none
unfoldable pub dropped : Option tree.Expr → UnitJudging (Option TypedExpr)
dropped None = pure None
dropped (Some e) = do
  v ← lifted (checked e)
  pure (Some v)

-- what `return` gives to a function with this result
unfoldable pub returned : Place → TypeId → Option tree.Expr → UnitJudging (Option TypedExpr)
returned at t None = obeying (λ s. broken_at rule.Mismatch at (not (is_void_shape (shape_at s.table t))) ∷ []) (pure None)
returned at t (Some e) = do
  v ← lifted (checked_value t at false e)
  pure (Some v)

-- an integer, promoted; without one the value stays
abbrev pub promoted_by : Place → TypedExpr → Option IntegerType → TypedExpr
promoted_by at e None = e
promoted_by at e (Some k) = to_integer at (integer_type (promoted k)) e

-- what a `switch` is on: its integer, promoted; a value of another type stays as it is
unfoldable pub promotion : Place → TypedExpr → UnitJudging TypedExpr
promotion at c = by_known (λ s. pure (promoted_by at c (integer_at s.table (type_of c))))

-- The own rules of statements, which are tried last

-- the condition of the statement at the place
unfoldable pub tested : Place → TypedExpr → TypedStatement → UnitJudging TypedStatement
tested at c one = obeying (λ s. condition_tests s.table at (AsValue c)) (pure one)

unfoldable pub tested_or_none : Place → Option TypedExpr → TypedStatement → UnitJudging TypedStatement
tested_or_none at None one = pure one
tested_or_none at (Some c) one = tested at c one

-- the integer of the `switch` at the place
unfoldable pub switched : Place → TypedExpr → TypedStatement → UnitJudging TypedStatement
switched at c one = obeying (λ s. switch_tests s.table at (AsValue c)) (pure one)

-- Labels

-- a constant as a label of a `switch` on a value of the type
abbrev pub label_as : Table → Option TypeId → ℤ → Option ℤ
label_as T None z = None
label_as T (Some t) z = Some (converted_label (integer_at T t) z)

-- `labels` are the values of those before
unfoldable pub labelled : Place → (labels : List ℤ) → TypedBlockItems → TypedExpr → Option ℤ → UnitJudging TypedBlockItems
labelled at labels list e None = stop (TooLarge at Types)
labelled at labels list e (Some z) = obeying (λ s. broken_at rule.Redeclared at (list_any (λ each. int_eq z each) labels) ∷ [])
    (pure (typed.AndCase list at e z))

unfoldable pub case_label : (on : Option TypeId) → Place → tree.Expr → TypedBlockItems → UnitJudging TypedBlockItems
case_label on at e list = do
  c ← lifted (checked_constant e)
  by_known (λ s. labelled at (labels_of list) list c.expr (label_as s.table on c.value))

unfoldable pub default_label : Place → TypedBlockItems → UnitJudging TypedBlockItems
default_label at list = obeying (λ s. broken_at rule.Redeclared at (not (defaults_in list == 0)) ∷ []) (pure (typed.AndDefault list at))

-- `break` and `continue`
unfoldable pub jump : Place → (allowed : Bool) → TypedStatement → UnitJudging TypedStatement
jump at allowed one = obeying (λ s. jump_tests at allowed) (pure one)

-- Statements

-- what is judged in a scope of its own, which ends with it
unfoldable pub within : {A : Type 0} → Place → UnitJudging A → UnitJudging A
within at go = do
  inside ← lifted entered
  one ← go
  lifted (left at one)

-- A selection or iteration statement is judged in a scope of its own, and each of its substatements in one more (C99 6.8.4, 6.8.5).
unfoldable mutual
  pub judge_statement : Around → tree.Statement → UnitJudging TypedStatement
  judge_statement a (tree.Block brace items) = within brace (do
    list ← judge_block_items a None items
    pure (typed.Block brace list))
  judge_statement a (tree.Express e) = do
    v ← lifted (checked e)
    pure (typed.Express v)
  judge_statement a tree.Empty = pure typed.Empty
  judge_statement a (tree.If at paren c s) = within at (do
    test ← lifted (checked c)
    one ← within at (judge_statement a s)
    tested at test (typed.If at paren test one))
  judge_statement a (tree.IfElse at paren c s r) = within at (do
    test ← lifted (checked c)
    one ← within at (judge_statement a s)
    other ← within at (judge_statement a r)
    tested at test (typed.IfElse at paren test one other))
  judge_statement a (tree.Switch at paren e brace items) = within at (do
    c ← lifted (checked e)
    on ← promotion at c
    list ← within brace (judge_block_items (in_a_switch a) (Some (type_of on)) items)
    switched at c (typed.Switch at paren on brace list))
  judge_statement a (tree.While at paren c s) = within at (do
    test ← lifted (checked c)
    one ← within at (judge_statement (in_a_loop a) s)
    tested at test (typed.While at paren test one))
  judge_statement a (tree.DoWhile s at paren c) = within at (do
    one ← within at (judge_statement (in_a_loop a) s)
    test ← lifted (checked c)
    tested at test (typed.DoWhile one at paren test))
  judge_statement a (tree.For at paren first test step s) = within at (do
    before ← dropped first
    c ← dropped test
    after ← dropped step
    one ← within at (judge_statement (in_a_loop a) s)
    tested_or_none at c (typed.For at paren before c after one))
  judge_statement a (tree.ForDeclaration at paren d test step s) = within at (do
    before ← judge_declaration false d
    c ← dropped test
    after ← dropped step
    one ← within at (judge_statement (in_a_loop a) s)
    tested_or_none at c (typed.ForDeclaration at paren before c after one))
  judge_statement a (tree.Break at) = jump at a.breakable (typed.Break at)
  judge_statement a (tree.Continue at) = jump at a.in_loop (typed.Continue at)
  judge_statement a (tree.Return at e) = do
    v ← returned at a.result e
    pure (typed.Return at v)

  -- what a block holds; `on` is the type of the `switch` whose block it is
  pub judge_block_items : Around → (on : Option TypeId) → tree.BlockItems → UnitJudging TypedBlockItems
  judge_block_items a on tree.NoBlockItem = pure typed.NoBlockItem
  judge_block_items a on (tree.AndStatement all s) = do
    list ← judge_block_items a on all
    one ← judge_statement a s
    pure (typed.AndStatement list one)
  judge_block_items a on (tree.AndDeclaration all d) = do
    list ← judge_block_items a on all
    one ← judge_declaration false d
    pure (typed.AndDeclaration list one)
  judge_block_items a on (tree.AndCase all at e) = judge_block_items a on all >>= case_label on at e
  judge_block_items a on (tree.AndDefault all at) = judge_block_items a on all >>= default_label at
