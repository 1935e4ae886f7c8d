-- The type of what is well typed is in the table.
use Rattle.std.proofs.Common.{◌≡◌, ℕ, length, Bool, true, false, ◌||◌, List, Some, refl, sym, subst, inl, inr, ◌⊎◌}
use Rattle.std.specs.List.{All, Contains}
use Rattle.std.proofs.lemmas.Option.{none-some}
use Rattle.std.proofs.lemmas.Bool.Decides.{leb_tells}
use Rattle.std.proofs.lemmas.List.{get_or_past}
use Rattle.std.proofs.lemmas.List.Elements.{All-contains}
use Rattle.cc_base.specs.declared.place.Place.{Place}
use Rattle.cc_base.specs.declared.number.TypeId.{TypeId}
use Rattle.c_types.specs.declared.shape.TypeShape.{TypeShape}
use Rattle.c_types.specs.declared.shape.TypeShape.TheVariants.{Void, Integer, Pointer, Array, Function, Struct, Union}
use Rattle.c_types.specs.Table.{Table, HasShape, IsType, IsComplete, shape_at, members_at, is_complete_entry, named_by, parts_of_shape}
use Rattle.c_types.specs.Layouts.{member_at}
use Rattle.c_types.proofs.Lists.{contains_head}
use Rattle.c_tree.specs.declared.leaf.Identifier.{Identifier}
use Rattle.c_tree.specs.declared.operator.Binary.{Binary}
use Rattle.c_tree.specs.TypedTree as typed
use Rattle.c_tree.specs.TypedTree.{TypedExpr, TypedPlace}
use Rattle.c_tree.specs.TypedParts.{type_of, place_type, pointer_side}
use Rattle.runtime_calls.specs.declared.function.RuntimeType.{RuntimeType}
use Rattle.runtime_calls.specs.declared.function.RuntimeType.TheVariants as prototype
use Rattle.runtime_calls.specs.Prototypes.{prototype_of}
use Rattle.c_typing.specs.Conversions.{is_plain}
use Rattle.c_typing.specs.Rules.{IsPointer, IsStep, is_steppable_shape, IsIntegerChoice, IsVoidChoice, IsIntegerUpdate, IsPointerUpdate, IsRuntimeResult, is_designator, pointer_behind, number_of_shape, HasMember, runtime_named}
use Rattle.c_typing.specs.Scopes.{Scopes}
use Rattle.c_typing.specs.Assignments.{part_type}
use Rattle.c_typing.specs.Refusals.{IsElaborated}
use Rattle.c_typing.specs.Settled.{IsBasic}
use Rattle.c_typing.specs.Tests.{Elaborated, AsPlace, AsValue, AsAllocation, has_some}
use Rattle.c_typing_laws.proofs.ValuesTaken.{natural-plain}
use Rattle.c_tree.specs.Tree as tree
use Rattle.c_typing.specs.Shapes.{is_void_shape}
use Rattle.c_typing.specs.Typing.{IsTyped, IsPlace}
use Rattle.c_typing_laws.proofs.ExtensionLaws.{no_true, is_in, not_void, pointer_in}
use Rattle.c_typing_laws.proofs.KeptConstants.{integer_in, scalar_in, prefix-type, cast-in}

designator_plain : (e : TypedExpr) → is_designator e ≡ true → is_plain e ≡ true
designator_plain (typed.FunctionName name number n t) h = refl
designator_plain (typed.FunctionAt at e) h = refl
designator_plain (typed.Paren at e) h = designator_plain e h
designator_plain e h = no_true h

pointer_there : (T : Table) (t : TypeId) (e : TypedExpr) → IsPointer T t e → IsType T (type_of e)
pointer_there T t e h = h.type.1.0

step_there : (T : Table) (s : Scopes) (p : TypedPlace) → IsStep T s p → IsType T (place_type p)
step_there T s p h = is_in T (place_type p) (not_void (is_steppable_shape T s) (shape_at T (place_type p)) refl h.steps)

choice_there : (T : Table) (at : Place) (a b : TypedExpr) (t : TypeId) → (IsIntegerChoice T at a b t ⊎ IsVoidChoice T a b t) → IsType T t
choice_there T at a b t (inl h) = h.type.0
choice_there T at a b t (inr h) = h.type.0

result_there : (T : Table) (r : RuntimeType) (t : TypeId) → IsRuntimeResult T r t → IsType T t
result_there T prototype.Void t h = h.0
result_there T prototype.Int t h = h.0
result_there T prototype.UnsignedLong t h = absurd h
result_there T prototype.VoidPointer t h = absurd h

-- the pointer behind a place
behind-there : (T : Table) (p : TypedPlace) (s s' : Scopes) (e : TypedExpr) → IsPlace T p s s' → pointer_behind p ≡ Some e → IsType T (type_of e)
behind-there T (typed.Target at v t) s s' e h b = subst (λ (w : TypedExpr). IsType T (type_of w)) (some_same v e b) (pointer_there T t v h.1.pointer)
  where
    some_same : (a c : TypedExpr) → Some a ≡ Some c → a ≡ c
    some_same a c p = cc
behind-there T (typed.Element which a at c t) s s' e h b =
    subst (λ (w : TypedExpr). IsType T (type_of w)) (some_same (pointer_side which a c) e b) (pointer_there T t (pointer_side which a c) h.3.pointer)
  where
    some_same : (v w : TypedExpr) → Some v ≡ Some w → v ≡ w
    some_same v w p = cc
behind-there T (typed.ParenPlace at p) s s' e h b = behind-there T p s s' e h b
behind-there T p s s' e h b = absurd (none-some e b)

update_there : (T : Table) (s : Scopes) (o : Binary) (p : TypedPlace) (at : Place) (e : TypedExpr) (t : TypeId)
    → (IsIntegerUpdate T o p at e t ⊎ IsPointerUpdate T s o p e t) → IsType T (place_type p)
update_there T s o p at e t (inl h) = integer_in T (place_type p) h.left h.first
update_there T s o p at e t (inr h) = h.pointer.1.0

function_named : (T : Table) (b : IsBasic T) (f : TypeId) (ps : List TypeId) (r : TypeId) → HasShape T f (Function ps r) → IsType T r
function_named T b f ps r h =
    All-contains (IsType T) (named_by (shape_at T f)) r (b.formed.each f).named
    (subst (λ (y : TypeShape). Contains (named_by y) r) (sym h.1) (contains_head r ps))

module _ (T : Table) (b : IsBasic T) where
  pub value-there : (e : TypedExpr) (s s' : Scopes) → IsTyped T e s s' → is_plain e ≡ true → IsType T (type_of e)
  value-there (typed.Integer of n at t) s s' h p = h.1.0
  value-there (typed.Character n at t) s s' h p = h.1.0
  value-there (typed.Enumerator name n t) s s' h p = h.1.type.0
  value-there (typed.FunctionName name number n t) s s' h p = h.1.type.0
  value-there (typed.RuntimeName name function t) s s' h p = no_true p
  value-there (typed.Paren at e) s s' h p = value-there e s s' h.0 p
  value-there (typed.Read q) s s' h p = scalar_in T (place_type q) h.1
  value-there (typed.Unread q) s s' h p = no_true p
  value-there (typed.Decay q n t) s s' h p = h.1.type.0
  value-there (typed.Convert which at t e) s s' h p = no_true p
  value-there (typed.Cast which at to e) s s' h p = cast-in T s' which (_) e h.3
  value-there (typed.AddressOf at q n t) s s' h p = h.1.type.0
  value-there (typed.AddressOfElement at q t) s s' h p = subst (IsType T) h.1.type (behind-there T q s s' h.1.pointer h.0 h.1.behind)
  value-there (typed.AddressOfFunction at e) s s' h p = value-there e s s' h.0 (designator_plain e h.1)
  value-there (typed.FunctionAt at e) s s' h p = pointer_there T h.1.function e h.1.pointer
  value-there (typed.Prefix operator at e t) s s' h p = prefix-type operator T at e t h.1
  value-there (typed.SizeOfPlace at q size t) s s' h p = h.1.type.0
  value-there (typed.SizeOfValue at e size t) s s' h p = h.2.type.0
  value-there (typed.SizeOfType at paren name size t) s s' h p = h.1.type.0
  value-there (typed.StepBefore operator at q) s s' h p = step_there T s' q h.1
  value-there (typed.StepAfter q operator at) s s' h p = step_there T s' q h.1
  value-there (typed.Arithmetic operator a at c t) s s' h p = h.3.type.0
  value-there (typed.Moved operator which a at c t) s s' h p = subst (IsType T) (sym h.3.type) (pointer_there T h.3.to (pointer_side which a c) h.3.pointer)
  value-there (typed.Difference a at c t) s s' h p = h.3.type.0
  value-there (typed.Compared operator a at c t) s s' h p = h.3.type.0
  value-there (typed.Logical operator a at c t) s s' h p = h.3.type.0
  value-there (typed.Conditional c at a d t) s s' h p = choice_there T at a d t h.5.1
  value-there (typed.PointerConditional c at a d n t) s s' h p = h.5.type.0
  value-there (typed.Comma a c) s s' h p = value-there c h.0 s' h.2 h.4
  value-there (typed.Assign q at e) s s' h p = scalar_in T (place_type q) h.3.scalar
  value-there (typed.AssignWith operator q at e t) s s' h p = update_there T s' (_) q at e t h.3.updated
  value-there (typed.Call f at all t) s s' h p = function_named T b h.3.function h.3.parameters t h.3.shape
  value-there (typed.CallRuntime function f at all t) s s' h p = result_there T (prototype_of function).result t h.3.result
  value-there (typed.Allocate function f at all n t) s s' h p = h.3.type.0
  value-there (typed.AllocateFor function f at all t) s s' h p = no_true p

  -- places

  complete_no_void : (x : TypeShape) (ms : List TypeId) → is_complete_entry x ms ≡ true → is_void_shape x ≡ false
  complete_no_void Void ms h = no_true h
  complete_no_void (Integer bytes signed) ms h = refl
  complete_no_void (Pointer n t) ms h = refl
  complete_no_void (Array t n) ms h = refl
  complete_no_void (Function ps r) ms h = refl
  complete_no_void (Struct n) ms h = refl
  complete_no_void (Union n) ms h = refl

  complete_there : (t : TypeId) → IsComplete T t → IsType T t
  complete_there t h = is_in T t (complete_no_void (shape_at T t) (members_at T t) h)

  parts_are : (x : TypeShape) (number : ℕ) (ms : List TypeId) → number_of_shape x ≡ Some number → parts_of_shape x ms ≡ ms
  parts_are (Struct n) number ms h = refl
  parts_are (Union n) number ms h = refl
  parts_are Void number ms h = absurd (none-some number h)
  parts_are (Integer bytes signed) number ms h = absurd (none-some number h)
  parts_are (Pointer n t) number ms h = absurd (none-some number h)
  parts_are (Array t n) number ms h = absurd (none-some number h)
  parts_are (Function ps r) number ms h = absurd (none-some number h)

  member_there : (s : Scopes) (whole : TypeId) (name : Identifier) (i : ℕ) (t : TypeId) → HasMember T s whole name i t → IsType T t
  member_there s whole name i t h = subst (IsType T) (sym h.type) (elim (leb_tells (length (members_at T whole)) i) [
    | inl past ↦ subst (IsType T) (sym (get_or_past (members_at T whole) i whole past.1)) (complete_there whole h.known)
    | inr below ↦ complete_there (member_at T whole i)
        (subst (All (IsComplete T)) (parts_are (shape_at T whole) h.number (members_at T whole) h.declared) (b.formed.each whole).parts i whole below.1)
  ])

  pointee_there : (t : TypeId) (e : TypedExpr) → IsPointer T t e → IsType T t
  pointee_there t e h = pointer_in T h.type.0 (type_of e) t b.formed h.type.1.1

  pub place-there : (p : TypedPlace) (s s' : Scopes) → IsPlace T p s s' → IsType T (place_type p)
  place-there (typed.Variable name home t) s s' h = h.2
  place-there (typed.String pieces home t) s s' h = h.1.shape.0
  place-there (typed.ParenPlace at p) s s' h = place-there p s s' h
  place-there (typed.Target at e t) s s' h = pointee_there t e h.1.pointer
  place-there (typed.Element which a at c t) s s' h = pointee_there t (pointer_side which a c) h.3.pointer
  place-there (typed.Member p at name i n t) s s' h = member_there s' (place_type p) name i t h.1
  place-there (typed.MemberAt e at name i n t) s s' h = member_there s' h.1.whole name i t h.1.member
  place-there (typed.StructAssign p at q) s s' h = place-there p s h.0 h.1
  place-there (typed.StructConditional c at p q) s s' h = place-there p h.0 h.1 h.3
  place-there (typed.StructComma e p) s s' h = place-there p h.0 s' h.2

  runtime_there : (e : TypedExpr) (s s' : Scopes) → IsTyped T e s s' → has_some (runtime_named e) ≡ true → IsType T (type_of e)
  runtime_there (typed.RuntimeName name function t) s s' h r = h.1.type.0
  runtime_there (typed.Paren at e) s s' h r = runtime_there e s s' h.0 r
  runtime_there e s s' h r = no_true r

  natural_there : (e : TypedExpr) (s s' : Scopes) → IsTyped T e s s' → (c : Bool) → is_plain e ≡ c → (c || has_some (runtime_named e)) ≡ true → IsType T (type_of e)
  natural_there e s s' h true p q = value-there e s s' h p
  natural_there e s s' h false p q = runtime_there e s s' h q

  -- the type of a part
  pub part-there : (e : tree.Expr) (x : Elaborated) (s s' : Scopes) → IsElaborated T e x s s' → IsType T (part_type x)
  part-there e (AsPlace p) s s' h = place-there p s s' h.0
  part-there e (AsValue v) s s' h = natural_there v s s' h.0 (is_plain v) refl (natural-plain v h.2)
  part-there e (AsAllocation v) s s' h = b.void.0
