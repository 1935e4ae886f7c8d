-- Initialisers and declarations that are judged hold no more than 256 values in each expression, and no function type of the table has more
-- than 127 parameters.
use Rattle.std.proofs.Common.{ℕ, ◌≤◌, Bool, true, false, List, Option, Some, None, arith}
use Rattle.cc_base.specs.declared.number.NodeId.{NodeId}
use Rattle.cc_base.specs.declared.number.TypeId.{TypeId}
use Rattle.cc_base.specs.declared.place.Place.{Place}
use Rattle.c_types.specs.Table.{shape_at}
use Rattle.c_tree.specs.declared.leaf.Identifier.{Identifier}
use Rattle.c_tree.specs.declared.leaf.StringPiece.{StringPiece}
use Rattle.c_tree.specs.declared.typed_word.Home.{Home}
use Rattle.c_tree.specs.declared.typed_word.Home.TheVariants as home
use Rattle.c_tree.specs.Places.{initialiser_place}
use Rattle.c_tree.specs.Tree as tree
use Rattle.c_tree.specs.TypedTree as typed
use Rattle.c_tree.specs.TypedTree.{TypedExpr, TypedSpecifiers, TypedDeclarator, TypedInitialiser, TypedItems}
use Rattle.c_tree.specs.TypedParts.{place_type, specified_type}
use Rattle.c_typing.specs.declared.declared.Declared.{Declared}
use Rattle.c_typing.specs.Declaring.{declarator_name}
use Rattle.c_typing.specs.Shapes.{is_scalar_shape}
use Rattle.c_unit_typing.specs.Holding.{expr_holds, declarator_holds, initialiser_holds, items_holds, init_declarators_holds, declaration_holds}
use Rattle.c_unit_typing.specs.Initialisers.{Slot, items_count}
use Rattle.c_unit_typing.specs.InitialiserJudging.{judge_excess, judge_all_excess, excess_braces, item_slot, text, initialised, value_for, value_or_text, excess, judge_plain, with_item, slot_type, judge_initialiser, judge_items}
use Rattle.c_unit_typing.specs.DeclarationJudging.{new_in, new_name, linked_name, object_name, count_object, lasting, new_static, declare_object, declare_by, declare, named, judge_named, defining, judge_init_declarators, is_none, judge_declaration}
use Rattle.c_unit_typing.specs.Units.{Storage, AsTypedef, storage_of}
use Rattle.c_unit_limits.proofs.KeptTypes.{count_cells-kept}
use Rattle.c_unit_limits.proofs.HeldSteps.{count_global-held}
use Rattle.c_unit_limits.proofs.HeldWhole.{checked-held, checked_value-held, specifiers_of-held, declarator_at-held}
use Rattle.c_unit_limits.proofs.UnitSteps.{IsUnitHeld, unit-bind, unit-first, unit-last, unit-known, unit-pure, unit-asked, unit-kept, unit-stop, unit-small, unit-unless, lifted-held, lifted-kept}

none_small : 0 ≤ 256
none_small = omega arith

-- Initialisers

text_held : (at : Place) (count : ℕ) (pieces : List StringPiece) → IsUnitHeld (text at count pieces) 0
unfolding text
text_held at count pieces = unit-known (λ q. unit-unless (_) (unit-pure (_)))

initialised_held : (at : Place) (e : TypedExpr) → IsUnitHeld (initialised at e) 0
unfolding initialised
initialised_held at (typed.Unread p) = unit-first (lifted-kept (count_cells-kept at (place_type p))) (λ c. unit-pure (_))
initialised_held at e = unit-pure (typed.Value e)

value_for_held : (constant : Bool) (at : Place) (t : TypeId) (e : tree.Expr) → IsUnitHeld (value_for constant at t e) (expr_holds e)
unfolding value_for
value_for_held constant at t e = unit-first (lifted-held (checked_value-held t at true e)) (λ v. unit-known (λ q. unit-unless (_) (initialised_held at v)))

value_or_text_held : (constant : Bool) (at : Place) (t : TypeId) (e : tree.Expr) (count : Option ℕ) → IsUnitHeld (value_or_text constant at t e count) (expr_holds e)
unfolding value_or_text
value_or_text_held constant at t (tree.String pieces) (Some count) = unit-small 1 (omega arith) (text_held at count pieces)
value_or_text_held constant at t (tree.String pieces) None = value_for_held constant at t (tree.String pieces)
value_or_text_held constant at t e count = value_for_held constant at t e

excess_held : (at : Place) (e : tree.Expr) → IsUnitHeld (excess at e) (expr_holds e)
unfolding excess
excess_held at e = unit-first (lifted-held (checked-held e)) (λ v. unit-stop (_) 0)

plain_held : (constant : Bool) (e : tree.Expr) (at : Place) (to : Option TypeId) → IsUnitHeld (judge_plain constant e at to) (expr_holds e)
unfolding judge_plain
plain_held constant e at None = excess_held at e
plain_held constant e at (Some t) = unit-known (λ s. value_or_text_held constant at t e (_))

with_item_held : (list : TypedItems) (slot : Option Slot) (one : TypedInitialiser) → IsUnitHeld (with_item list slot one) 0
unfolding with_item
with_item_held list None one = unit-stop (_) 0
with_item_held list (Some slot) one = unit-pure (_)

mutual
  unfolding judge_excess judge_all_excess

  judge_excess_held : (i : tree.Initialiser) → IsUnitHeld (judge_excess i) (initialiser_holds i)
  judge_excess_held (tree.Value e) = unit-first (lifted-held (checked-held e)) (λ v. unit-pure true)
  judge_excess_held (tree.Listed brace items comma) = all_excess_held items

  all_excess_held : (all : tree.Items) → IsUnitHeld (judge_all_excess all) (items_holds all)
  all_excess_held tree.NoItem = unit-pure true
  all_excess_held (tree.AndItem all i) = unit-bind (all_excess_held all) (λ before. judge_excess_held i)
  all_excess_held (tree.AndMemberDesignator all at) = unit-stop (_) (_)
  all_excess_held (tree.AndIndexDesignator all at) = unit-stop (_) (_)

excess_braces_held : (brace : Place) (items : tree.Items) → IsUnitHeld (excess_braces brace items) (items_holds items)
unfolding excess_braces
excess_braces_held brace items = unit-first (all_excess_held items) (λ all. unit-stop (_) 0)

mutual
  unfolding judge_initialiser judge_items

  initialiser_held : (i : tree.Initialiser) (constant : Bool) (at : Place) (to : Option TypeId) (single : Bool)
      → IsUnitHeld (judge_initialiser constant i at to single) (initialiser_holds i)
  initialiser_held (tree.Value e) constant at to single = plain_held constant e at to
  initialiser_held (tree.Listed brace items comma) constant at None single = excess_braces_held brace items
  initialiser_held (tree.Listed brace items comma) constant at (Some t) true = excess_braces_held brace items
  initialiser_held (tree.Listed brace items comma) constant at (Some t) false =
      unit-last (unit-asked (_)) (λ text. unit-first (items_held items constant text t) (λ list. unit-pure (typed.Listed brace list comma t)))

  items_held : (all : tree.Items) (constant text : Bool) (t : TypeId) → IsUnitHeld (judge_items constant all text t) (items_holds all)
  items_held tree.NoItem constant text t = unit-pure (_)
  items_held (tree.AndItem all i) constant text t =
      unit-bind (items_held all constant text t) (λ list. unit-last (unit-asked (λ s. item_slot s.table text t (items_count list))) (λ slot.
      unit-last (unit-asked (λ s. is_scalar_shape (shape_at s.table t))) (λ single.
      unit-first (initialiser_held i constant (initialiser_place i) (slot_type slot) single) (λ one. with_item_held list slot one))))
  items_held (tree.AndMemberDesignator all at) constant text t = unit-stop (_) (_)
  items_held (tree.AndIndexDesignator all at) constant text t = unit-stop (_) (_)

-- Names

new_in_held : (name : Identifier) (what : Declared) (o : Option Declared) → IsUnitHeld (new_in name what o) 0
new_in_held name what None = unit-kept (λ s. (λ h. h, none_small))
new_in_held name what (Some other) = unit-stop (_) 0

pub new_name-held : (name : Identifier) (what : Declared) → IsUnitHeld (new_name name what) 0
unfolding new_name
new_name-held name what = unit-known (λ s. new_in_held name what (_))

pub linked_name-held : (name : Identifier) (what : Declared) → IsUnitHeld (linked_name name what) 0
unfolding linked_name
linked_name-held name what = unit-kept (λ s. (λ h. h, none_small))

object_name_held : (linked : Bool) (name : Identifier) (what : Declared) → IsUnitHeld (object_name linked name what) 0
unfolding object_name
object_name_held true name what = linked_name-held name what
object_name_held false name what = new_name-held name what

count_object_held : (at : Place) (o : Option ℕ) → IsUnitHeld (count_object at o) 0
unfolding count_object
count_object_held at None = unit-stop (_) 0
count_object_held at (Some bytes) = lifted-held (count_global-held at bytes)

lasting_held : (n : NodeId) → IsUnitHeld (lasting n) 0
unfolding lasting
lasting_held n = unit-kept (λ s. (λ h. h, none_small))

new_static_held : (name : Identifier) (n : NodeId) (t : TypeId) → IsUnitHeld (new_static name n t) 0
unfolding new_static
new_static_held name n t = unit-first (unit-known (λ s. count_object_held name.place (_))) (λ bytes. lasting_held n)

declare_object_held : (linked : Bool) (name : Identifier) (t : TypeId) (h : Home) → IsUnitHeld (declare_object linked name t h) 0
unfolding declare_object
declare_object_held linked name t (home.Static n) = unit-first (new_static_held name n t) (λ made. object_name_held linked name (_))
declare_object_held linked name t (home.Known n) = object_name_held linked name (_)
declare_object_held linked name t (home.Local n) = new_name-held name (_)
declare_object_held linked name t (home.Parameter n) = unit-stop (_) 0
declare_object_held linked name t home.None = unit-stop (_) 0

declare_by_held : (function linked : Bool) (name : Identifier) (t : TypeId) (h : Home) → IsUnitHeld (declare_by function linked name t h) 0
unfolding declare_by
declare_by_held true linked name t h = linked_name-held name (_)
declare_by_held false linked name t h = declare_object_held linked name t h

declare_held : (file : Bool) (storage : Storage) (name : Identifier) (t : TypeId) (h : Home) → IsUnitHeld (declare file storage name t h) 0
unfolding declare
declare_held file AsTypedef name t h = new_name-held name (_)
declare_held file storage name t h = unit-known (λ s. declare_by_held (_) (_) name t h)

-- Declarations

named_held : (file : Bool) (storage : Storage) (initialised : Bool) (o : Option Identifier) (one : TypedDeclarator) → IsUnitHeld (named file storage initialised o one) 0
unfolding named
named_held file storage initialised None one = unit-stop (_) 0
named_held file storage initialised (Some name) one = unit-known (λ q. unit-unless (_) (unit-first (declare_held file storage name (_) (_)) (λ what. unit-pure one)))

judge_named_held : (file : Bool) (base : TypedSpecifiers) (initialised : Bool) (size : Option ℕ) (d : tree.Declarator)
    → IsUnitHeld (judge_named file base initialised size d) (declarator_holds d)
unfolding judge_named
judge_named_held file base initialised size d =
    unit-first (unit-known (λ s. lifted-held (declarator_at-held (_) (_) (specified_type base) size d))) (λ one. named_held file (storage_of base) initialised (declarator_name d) one)

defining_held : (o : Option Identifier) (one : TypedDeclarator) → IsUnitHeld (defining o one) 0
unfolding defining
defining_held None one = unit-pure one
defining_held (Some name) one = unit-kept (λ s. (λ h. h, none_small))

init_declarators_held : (all : tree.InitDeclarators) (file : Bool) (base : TypedSpecifiers) → IsUnitHeld (judge_init_declarators file base all) (init_declarators_holds all)
unfolding judge_init_declarators
init_declarators_held tree.NoInitDeclarator file base = unit-pure (_)
init_declarators_held (tree.AndPlain all d) file base =
    unit-bind (init_declarators_held all file base) (λ list. unit-first (judge_named_held file base false None d) (λ one. unit-pure (_)))
init_declarators_held (tree.AndInitialised all d at i) file base =
    unit-bind (init_declarators_held all file base) (λ list.
    unit-bind (unit-known (λ s. judge_named_held file base true (_) d)) (λ one.
    unit-first (initialiser_held i (_) at (_) false) (λ value. unit-first (defining_held (declarator_name d) one) (λ again. unit-pure (_)))))

pub declaration-held : (file : Bool) (d : tree.Declaration) → IsUnitHeld (judge_declaration file d) (declaration_holds d)
unfolding judge_declaration
declaration-held file (tree.Declare specifiers all) =
    unit-bind (lifted-held (specifiers_of-held (is_none all) specifiers)) (λ base. unit-first (init_declarators_held all file base) (λ list. unit-pure (_)))
