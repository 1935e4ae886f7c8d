-- A null constant is an integer or a pointer.
use Rattle.std.proofs.Common.{ℤ, ◌≡◌, ◌⊎◌, inl, inr, refl, ap, sym, subst, Bool, true, false, ◌&&◌, ◌||◌, Option, Some, None, IsSome, IsTrue}
use Rattle.c_types.specs.declared.shape.TypeShape.{TypeShape}
use Rattle.c_types.specs.declared.shape.TypeShape.TheVariants as shape
use Rattle.c_types.specs.Table.{Table, shape_at}
use Rattle.c_tree.specs.declared.operator.Unary.{Unary}
use Rattle.c_tree.specs.declared.operator.Unary.TheVariants as unary
use Rattle.c_tree.specs.declared.typed_word.Conversion.{Conversion}
use Rattle.c_tree.specs.declared.typed_word.Conversion.TheVariants as conversion
use Rattle.c_tree.specs.TypedTree as typed
use Rattle.c_tree.specs.TypedTree.{TypedExpr}
use Rattle.c_tree.specs.TypedParts.{type_of, named_type}
use Rattle.c_typing.specs.Shapes.{is_scalar_shape}
use Rattle.c_typing.specs.Constants.{constant_value, with_value, is_zero_value, is_zero_constant, is_cast_zero, is_null_constant, is_void_pointer, is_void_pointer_shape, converted_value}
use Rattle.c_ready.specs.Rows.{IsPrefix}
use Rattle.cc_base.specs.declared.place.Place.{Place}
use Rattle.cc_base.specs.declared.number.TypeId.{TypeId}
use Rattle.c_ready.specs.Ready.{Stage, IsReady, Fits}

with-some : (x : Option ℤ) (f : ℤ → Option ℤ) → IsSome (with_value x f) → (z : ℤ) × (x ≡ Some z) × IsSome (f z)
with-some None f h = absurd (cc (h))
with-some (Some z) f h = (z, refl, h)

converts-to : (s : Stage) (which : Conversion) (x : Option ℤ) (from to : TypeId) → Fits s which from to → IsSome (converted_value s.table which to x)
    → IsTrue (is_scalar_shape (shape_at s.table to))
converts-to s conversion.IntegerToInteger x from to f h = ap is_scalar_shape f.1.1.1
converts-to s conversion.IntegerToPointer x from to f h = absurd (cc (h))
converts-to s conversion.PointerToInteger x from to f h = absurd (cc (h))
converts-to s conversion.PointerToPointer x from to f h = absurd (cc (h))
converts-to s conversion.NullToPointer x from to f h = absurd (cc (h))
converts-to s conversion.AllocationToPointer x from to f h = absurd (cc (h))
converts-to s conversion.ToVoid x from to f h = absurd (cc (h))

prefixed : (T : Table) (op : Unary) (at : Place) (e : TypedExpr) (t : TypeId) → IsPrefix op T at e t → IsTrue (is_scalar_shape (shape_at T t))
prefixed T unary.Not at e t h = ap is_scalar_shape h.1.1
prefixed T unary.Plus at e t h = ap is_scalar_shape h.type.1
prefixed T unary.Minus at e t h = ap is_scalar_shape h.type.1
prefixed T unary.Complement at e t h = ap is_scalar_shape h.type.1
prefixed T other at e t h = absurd h

pub constant-scalar : (s : Stage) (e : TypedExpr) → IsReady s e → IsSome (constant_value s.table e)
    → IsTrue (is_scalar_shape (shape_at s.table (type_of e)))
constant-scalar s (typed.Integer of n at t) r h = ap is_scalar_shape r.1
constant-scalar s (typed.Character z at t) r h = ap is_scalar_shape r.1
constant-scalar s (typed.Enumerator name z t) r h = ap is_scalar_shape r.1
constant-scalar s (typed.Paren at e) r h = constant-scalar s e r h
constant-scalar s (typed.Convert which at t e) r h = converts-to s which (constant_value s.table e) (type_of e) t r.1 h
constant-scalar s (typed.Cast which at to e) r h = converts-to s which (constant_value s.table e) (type_of e) (named_type to) r.2 h
constant-scalar s (typed.Prefix op at e t) r h = prefixed s.table op at e t r.1
constant-scalar s (typed.SizeOfPlace at p n t) r h = ap is_scalar_shape r.3.1
constant-scalar s (typed.SizeOfValue at e n t) r h = ap is_scalar_shape r.3.1
constant-scalar s (typed.SizeOfType at paren name n t) r h = ap is_scalar_shape r.3.1
constant-scalar s (typed.Arithmetic op a at b t) r h = ap is_scalar_shape r.2.type.1
constant-scalar s (typed.Logical op a at b t) r h = ap is_scalar_shape r.2.type.1
constant-scalar s (typed.Conditional c at a b t) (rc, ra, rb, (condition, inl l)) h = ap is_scalar_shape l.type.1
constant-scalar s (typed.Conditional c at a b t) (rc, ra, rb, (condition, inr v)) h =
    let x = with-some (constant_value s.table c) _ h in
    let y = with-some (constant_value s.table a) _ x.2 in
    absurd (no-void (shape_at s.table (type_of a)) v.first.1.1 (constant-scalar s a ra (some (constant_value s.table a) y.0 y.1)))
  where
    some : (o : Option ℤ) (z : ℤ) → o ≡ Some z → IsSome o
    some o z e = subst (λ x. IsSome x) (sym e) refl

    no-void : (x : TypeShape) → x ≡ shape.Void → IsTrue (is_scalar_shape x) → ⊥
    no-void x e g = absurd (cc (g, e))
constant-scalar s e r h = absurd (cc (h))

zero-some : (o : Option ℤ) → is_zero_value o ≡ true → IsSome o
zero-some None h = absurd (cc (h))
zero-some (Some z) h = refl

void-pointer : (T : Table) (x : TypeShape) → is_void_pointer_shape T x ≡ true → is_scalar_shape x ≡ true
void-pointer T (shape.Pointer n t) h = refl
void-pointer T x h = absurd (cc (h))

and-left : (a b : Bool) → (a && b) ≡ true → a ≡ true
and-left true b h = refl
and-left false b h = absurd (cc (h))

cast-scalar : (T : Table) (e : TypedExpr) → is_cast_zero T e ≡ true → IsTrue (is_scalar_shape (shape_at T (type_of e)))
cast-scalar T (typed.Paren at e) h = cast-scalar T e h
cast-scalar T (typed.Cast which at to e) h =
    void-pointer T (shape_at T (named_type to)) (and-left (is_void_pointer T (named_type to)) (is_zero_constant T e) h)
cast-scalar T e h = absurd (cc (h))

or-cases : (a b : Bool) → (a || b) ≡ true → (a ≡ true) ⊎ (b ≡ true)
or-cases true b h = inl refl
or-cases false b h = inr h

pub null-scalar : (s : Stage) (e : TypedExpr) → IsReady s e → IsTrue (is_null_constant s.table e)
    → IsTrue (is_scalar_shape (shape_at s.table (type_of e)))
null-scalar s e r h = elim (or-cases (is_zero_constant s.table e) (is_cast_zero s.table e) h) [
  | inl g ↦ constant-scalar s e r (zero-some (constant_value s.table e) g)
  | inr g ↦ cast-scalar s.table e g
]
