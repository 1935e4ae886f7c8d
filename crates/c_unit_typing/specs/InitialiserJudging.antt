-- What initialisers give, or where they stop (C99 6.7.8).
use Rattle.std.specs.Prelude.{ℕ, Bool, true, false, not, ◌&&◌, nat_lt, List, [], ◌∷◌, ◌++◌, length, take, Option, Some, None}
use Rattle.cc_base.specs.declared.place.Place.{Place}
use Rattle.cc_base.specs.declared.number.NodeId.{NodeId}
use Rattle.cc_base.specs.declared.number.TypeId.{TypeId}
use Rattle.cc_base.specs.declared.fault.Fault.TheVariants.{Refused, TooLarge}
use Rattle.cc_base.specs.declared.fault.Rule.TheVariants as rule
use Rattle.cc_base.specs.declared.fault.Limit.TheVariants.{Types}
use Rattle.c_types.specs.Table.{Table, shape_at}
use Rattle.c_tree.specs.Literals.{pieces_bytes}
use Rattle.c_tree.specs.declared.leaf.StringPiece.{StringPiece}
use Rattle.c_tree.specs.Places.{expr_place, initialiser_place, nowhere}
use Rattle.c_tree.specs.Tree as tree
use Rattle.c_tree.specs.TypedTree as typed
use Rattle.c_tree.specs.TypedTree.{TypedExpr, TypedInitialiser, TypedItems}
use Rattle.c_tree.specs.TypedParts.{place_type}
use Rattle.c_typing.specs.Shapes.{is_scalar_shape}
use Rattle.c_typing.specs.Tests.{Test, broken_at}
use Rattle.c_typing.specs.Cells.{count_cells}
use Rattle.c_typing.specs.Checking.{checked, checked_value}
use Rattle.c_unit_typing.specs.Initialisers.{Slot, slot_of_shape, char_count_of_shape, is_char_array, items_count, is_constant}
use Rattle.c_unit_typing.specs.UnitJudging.{UnitJudging, pure, stop, obeying, by_known, lifted, ◌>>=◌}

-- A literal that initialises an array of so many characters, its zero byte where there is room for it

abbrev pub text_tests : Place → ℕ → List StringPiece → List Test
text_tests at count pieces = broken_at rule.Mismatch at (nat_lt count (length (pieces_bytes pieces))) ∷ []

unfoldable pub text : Place → ℕ → List StringPiece → UnitJudging TypedInitialiser
text at count pieces = obeying (λ s. text_tests at count pieces) (pure (typed.Text pieces (take count (pieces_bytes pieces ++ 0 ∷ []))))

-- Values

-- a struct is copied, and the pointers that it holds are counted
unfoldable pub initialised : Place → TypedExpr → UnitJudging TypedInitialiser
initialised at (typed.Unread p) = do
  counted ← lifted (count_cells at (place_type p))
  pure (typed.Copied p at)
initialised at e = pure (typed.Value e)

abbrev pub constant_tests : Table → (constant : Bool) → List NodeId → Place → TypedExpr → List Test
constant_tests T constant homes begin e = broken_at rule.NotConstant begin (constant && not (is_constant T homes e)) ∷ []

-- a value that is converted to the type at the place; `constant` says that it has to be constant
unfoldable pub value_for : (constant : Bool) → Place → TypeId → tree.Expr → UnitJudging TypedInitialiser
value_for constant at t e = do
  v ← lifted (checked_value t at true e)
  obeying (λ s. constant_tests s.table constant s.linkage.statics (expr_place e) v) (initialised at v)

-- a literal for an array of char, by its count, or a value
unfoldable pub value_or_text : (constant : Bool) → Place → TypeId → tree.Expr → Option ℕ → UnitJudging TypedInitialiser
value_or_text constant at t (tree.String pieces) (Some count) = text at count pieces
value_or_text constant at t e count = value_for constant at t e

-- what there is no room for: each expression in it is judged, in the order of the text, before it is refused
unfoldable mutual
  pub judge_excess : tree.Initialiser → UnitJudging Bool
  judge_excess (tree.Value e) = do
    v ← lifted (checked e)
    pure true
  judge_excess (tree.Listed brace items comma) = judge_all_excess items

  pub judge_all_excess : tree.Items → UnitJudging Bool
  judge_all_excess tree.NoItem = pure true
  judge_all_excess (tree.AndItem all i) = do
    before ← judge_all_excess all
    judge_excess i
  judge_all_excess (tree.AndMemberDesignator all at) = stop (TooLarge at Types)
  judge_all_excess (tree.AndIndexDesignator all at) = stop (TooLarge at Types)

unfoldable pub excess : Place → tree.Expr → UnitJudging TypedInitialiser
excess at e = do
  v ← lifted (checked e)
  stop (Refused at rule.Mismatch)

unfoldable pub excess_braces : Place → tree.Items → UnitJudging TypedInitialiser
excess_braces brace items = do
  all ← judge_all_excess items
  stop (Refused brace rule.Mismatch)

-- an expression without braces
unfoldable pub judge_plain : (constant : Bool) → tree.Expr → Place → Option TypeId → UnitJudging TypedInitialiser
judge_plain constant e at None = excess at e
judge_plain constant e at (Some t) = by_known (λ s. value_or_text constant at t e (char_count_of_shape s.table (shape_at s.table t)))

-- Braces

abbrev pub is_only_literal : tree.Items → Bool
is_only_literal (tree.AndItem tree.NoItem (tree.Value (tree.String pieces))) = true
is_only_literal items = false

-- the part that the item with this number initialises; a literal by itself initialises the whole
abbrev pub item_slot : Table → (text : Bool) → TypeId → ℕ → Option Slot
item_slot T true t i = Some (record { offset = 0; type = t })
item_slot T false t i = slot_of_shape T t (shape_at T t) i

abbrev pub slot_type : Option Slot → Option TypeId
slot_type None = None
slot_type (Some slot) = Some slot.type

-- an item that there is no room for is never given
unfoldable pub with_item : TypedItems → Option Slot → TypedInitialiser → UnitJudging TypedItems
with_item list None one = stop (TooLarge nowhere Types)
with_item list (Some slot) one = pure (typed.AndItem list slot.offset slot.type one)

-- `constant` says that it has to be constant, `to` is the type, none where there are more items than there is room for, and `single` says
-- that a scalar's braces stand around it
unfoldable mutual
  pub judge_initialiser : (constant : Bool) → tree.Initialiser → Place → (to : Option TypeId) → (single : Bool) → UnitJudging TypedInitialiser
  judge_initialiser constant (tree.Value e) at to single = judge_plain constant e at to
  judge_initialiser constant (tree.Listed brace items comma) at None single = excess_braces brace items
  judge_initialiser constant (tree.Listed brace items comma) at (Some t) true = excess_braces brace items
  judge_initialiser constant (tree.Listed brace items comma) at (Some t) false = do
    text ← by_known (λ s. pure (is_only_literal items && is_char_array s.table t))
    list ← judge_items constant items text t
    pure (typed.Listed brace list comma t)

  pub judge_items : (constant : Bool) → tree.Items → (text : Bool) → TypeId → UnitJudging TypedItems
  judge_items constant tree.NoItem text t = pure typed.NoItem
  judge_items constant (tree.AndItem all i) text t = do
    list ← judge_items constant all text t
    slot ← by_known (λ s. pure (item_slot s.table text t (items_count list)))
    single ← by_known (λ s. pure (is_scalar_shape (shape_at s.table t)))
    one ← judge_initialiser constant i (initialiser_place i) (slot_type slot) single
    with_item list slot one
  judge_items constant (tree.AndMemberDesignator all at) text t = stop (TooLarge at Types)
  judge_items constant (tree.AndIndexDesignator all at) text t = stop (TooLarge at Types)
