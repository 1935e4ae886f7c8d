-- What taking the value of a part is made of, and types that are used one after another.
use Rattle.std.proofs.Common.{◌≡◌, ℕ, Bool, true, false, not, ◌&&◌, ◌||◌, List, [], ◌∷◌, ◌++◌, Some, None, refl, ap, sym, subst, ◌∙◌, inl, inr, ◌⊎◌}
use Rattle.cc_base.specs.declared.number.NodeId.{NodeId}
use Rattle.cc_base.specs.declared.number.TypeId.{TypeId}
use Rattle.c_types.specs.declared.shape.TypeShape.{TypeShape}
use Rattle.c_types.specs.declared.shape.TypeShape.TheVariants.{Void, Integer, Pointer, Array, Function, Struct, Union}
use Rattle.c_types.specs.Table.{Table, HasShape, is_aggregate_shape}
use Rattle.c_tree.specs.Erasure.{erased}
use Rattle.c_tree.specs.Tree as tree
use Rattle.c_tree.specs.TypedTree as typed
use Rattle.c_tree.specs.TypedTree.{TypedExpr, TypedPlace}
use Rattle.c_tree.specs.TypedParts.{Address, made_by}
use Rattle.c_typing.specs.declared.typing.Reading.TheVariants as reading
use Rattle.c_typing.specs.Conversions.{bare, is_plain, is_allocation, is_taken_over, is_droppable}
use Rattle.c_typing.specs.Judging.{void_type}
use Rattle.c_typing.specs.Operands.{Operand, Value, reading_of}
use Rattle.c_typing.specs.Refusals.{is_natural}
use Rattle.c_typing.specs.Rules.{is_made_of_place, runtime_named}
use Rattle.c_typing.specs.Scopes.{Scopes}
use Rattle.c_typing.specs.Settled.{IsBasic}
use Rattle.c_typing.specs.Shapes.{is_scalar_shape}
use Rattle.c_typing.specs.Tests.{Elaborated, AsPlace, AsValue, AsAllocation, has_some}
use Rattle.c_typing.specs.Typing.{IsTyped}
use Rattle.c_typing_unique.proofs.Shapes.{no_true}
use Rattle.c_typing_exact.proofs.ExprExact.{droppable_over}
use Rattle.c_typing_exact.proofs.SameParts.{over_no_place, over_runtime}
use Rattle.c_typing_given.specs.Given.{AreSame}
use Rattle.c_type_order.specs.TypesUsed.{IsUse, AreUses, used_by, Use, OfType, OfSize, OfMember}

-- Uses one after another

pub uses-first : (xs ys : List Use) (n m : ℕ) → AreUses (xs ++ ys) n m → (k : ℕ) × AreUses xs n k × AreUses ys k m
uses-first [] ys n m h = (n, refl, h)
uses-first (OfType x ∷ xs) ys n m h = let r = uses-first xs ys h.0 m h.2 in (r.0, (h.0, h.1, r.1), r.2)
uses-first (OfSize x ∷ xs) ys n m h = let r = uses-first xs ys n m h.1 in (r.0, (h.0, r.1), r.2)
uses-first (OfMember (Some name) ∷ xs) ys n m h = uses-first xs ys n m h
uses-first (OfMember None ∷ xs) ys n m h = absurd h

pub use-one : (t : TypeId) (n m : ℕ) → AreUses (OfType t ∷ []) n m → IsUse t n m
use-one t n m h = subst (IsUse t n) (sym h.2) h.1

-- A value as its part is

abbrev pub value-with : Operand → TypedExpr → Value
value-with o w = record { expr = w; place = o.place; held = o.held }

pub same-place : (x : Elaborated) (p : TypedPlace) → AreSame x (AsPlace p) → x ≡ AsPlace p
same-place (AsPlace q) p h = ap AsPlace h
same-place (AsValue v) p h = absurd h
same-place (AsAllocation v) p h = absurd h

pub same-value : (x : Elaborated) (v : TypedExpr) → AreSame x (AsValue v) → x ≡ AsValue v
same-value (AsPlace q) v h = absurd h
same-value (AsValue w) v h = ap AsValue h
same-value (AsAllocation w) v h = absurd h

pub same-allocation : (x : Elaborated) (v : TypedExpr) → AreSame x (AsAllocation v) → (w : TypedExpr) × (x ≡ AsAllocation w)
same-allocation (AsPlace q) v h = absurd h
same-allocation (AsValue w) v h = absurd h
same-allocation (AsAllocation w) v h = (w, refl)

pub scalar-reads : (x : TypeShape) → is_scalar_shape x ≡ true → reading_of x ≡ reading.Reads
scalar-reads (Integer bytes signed) h = refl
scalar-reads (Pointer n t) h = refl
scalar-reads Void h = no_true h
scalar-reads (Array t n) h = no_true h
scalar-reads (Function ps r) h = no_true h
scalar-reads (Struct n) h = no_true h
scalar-reads (Union n) h = no_true h

pub aggregate-stays : (x : TypeShape) → is_aggregate_shape x ≡ true → reading_of x ≡ reading.Stays
aggregate-stays (Struct n) h = refl
aggregate-stays (Union n) h = refl
aggregate-stays Void h = no_true h
aggregate-stays (Integer bytes signed) h = no_true h
aggregate-stays (Pointer n t) h = no_true h
aggregate-stays (Array t n) h = no_true h
aggregate-stays (Function ps r) h = no_true h

-- what is no place and no allocation is plain, or it names a runtime function
pub plain-or : (T : Table) (v : TypedExpr) (s r : Scopes) → IsTyped T v s r → is_made_of_place v ≡ false → is_allocation v ≡ false → (is_plain v || has_some (runtime_named v)) ≡ true
plain-or T (typed.Paren at e) s r h p a = plain-or T e s r h.0 h.1 a
plain-or T (typed.RuntimeName name function t) s r h p a = refl
plain-or T (typed.Unread q) s r h p a = no_true (sym p)
plain-or T (typed.Convert which at t e) s r h p a = no_true (sym p)
plain-or T (typed.AllocateFor runtime f at arguments t) s r h p a = no_true (sym a)
plain-or T v s r h p a = refl

pub natural-by : (v : TypedExpr) (p a q : Bool) → is_made_of_place v ≡ p → is_allocation v ≡ a → (is_plain v || has_some (runtime_named v)) ≡ q
    → is_natural v ≡ (not p && (not a && q))
natural-by v p a q h k j = (λ i. not (h i) && (not (k i) && j i))

pub bare-used : (T : Table) (v : TypedExpr) → used_by T (bare v) ≡ used_by T v
bare-used T (typed.Convert which at t e) = refl
bare-used T v = refl

-- The allocation that something will take over, for one that nothing takes over

pub unmade : TypedExpr → TypedExpr
unmade (typed.Paren at e) = typed.Paren at (unmade e)
unmade (typed.Allocate runtime f at arguments n t) = typed.AllocateFor runtime f at arguments void_type
unmade e = e

-- a node and a pointer to `void` come last in it
pub record IsRaw (T : Table) (v : TypedExpr) : Type 0 where
  pub node : NodeId
  pub type : TypeId
  pub shape : HasShape T type (Pointer node void_type)
  pub over : is_taken_over (unmade v) ≡ true
  pub erases : erased (unmade v) ≡ erased v
  pub made : made_by v ≡ made_by (unmade v) ++ Address node ∷ []
  pub used : used_by T v ≡ used_by T (unmade v) ++ OfType type ∷ []

pub raw-of : (T : Table) → IsBasic T → (v : TypedExpr) (s r : Scopes) → IsTyped T v s r → is_allocation v ≡ true → is_taken_over v ≡ false → IsRaw T v × IsTyped T (unmade v) s r
unfolding unmade
raw-of T basic (typed.Paren at e) s r h a o =
    let k = raw-of T basic e s r h.0 a o in (
      record {
        node = k.0.node;
        type = k.0.type;
        shape = k.0.shape;
        over = k.0.over;
        erases = ap (tree.Paren at) k.0.erases;
        made = k.0.made;
        used = k.0.used;
      },
      (k.1, over_no_place (unmade e) k.0.over),
    )
raw-of T basic (typed.Allocate runtime f at arguments n t) s r h a o =
    let k = h.3 in
    let void : k.void ≡ void_type = basic.formed.distinct k.void void_type k.nothing.0 (basic.void.0, basic.void.1 ∙ sym k.nothing.1) in (
      record {
        node = n;
        type = t;
        shape = (k.type.0, k.type.1 ∙ ap (Pointer n) void);
        over = refl;
        erases = refl;
        made = refl;
        used = refl;
      },
      (h.0, h.1, h.2, record { call = k.call; gives = k.gives }),
    )
raw-of T basic (typed.AllocateFor runtime f at arguments t) s r h a o = no_true (sym o)
raw-of T basic v s r h a o = no_true a

pub done-over : (v : TypedExpr) → bare v ≡ v → (is_droppable v ≡ true) ⊎ (has_some (runtime_named v) ≡ true) → is_taken_over (bare v) ≡ false
done-over v own (inl d) = (droppable_over v d).0
done-over v own (inr r) = ap is_taken_over own ∙ by (is_taken_over v) refl
  where
    by : (b : Bool) → is_taken_over v ≡ b → b ≡ false
    by false q = refl
    by true q = no_true (sym (ap has_some (over_runtime v q)) ∙ r)
