-- What values of a type are held as.
use Rattle.std.proofs.Common.{ℕ, ℤ, ◌<◌, ◌-◌, ◌^◌, ◌≡◌, refl, ap, sym, subst, Bool, true, false, arith, nat_lt, if◌then◌else◌, Some, IsSome, pos, negsuc, rules}
use Rattle.cc_base.specs.declared.place.Place.{Place}
use Rattle.cc_base.specs.declared.number.NodeId.{NodeId}
use Rattle.cc_base.specs.declared.number.TypeId.{TypeId}
use Rattle.c_types.specs.declared.shape.TypeShape.{TypeShape}
use Rattle.c_types.specs.declared.shape.TypeShape.TheVariants.{Void, Integer, Pointer, Array, Function, Struct, Union}
use Rattle.c_types.specs.Table.{Table, shape_at}
use Rattle.integers.specs.Arithmetic.{IntegerType, converted, bits_of}
use Rattle.integers.specs.Words.{residue, signed_of, as_signed, as_unsigned}
use Rattle.integers.proofs.WordLaws.{residue-below, residue-small, residue-twice}
use Rattle.c_tree.specs.declared.operator.Binary.{Binary}
use Rattle.c_tree.specs.declared.operator.Binary.TheVariants as binary
use Rattle.c_tree.specs.TypedTree as typed
use Rattle.c_tree.specs.TypedTree.{TypedExpr}
use Rattle.c_tree.specs.TypedParts.{type_of, is_null}
use Rattle.c_typing.specs.Shapes.{IsIntegerType, is_scalar_shape}
use Rattle.c_ready.specs.Rows.{IsOperand, IsPlain, BothPoint, meeting_of}
use Rattle.c_typing.specs.Integers as integers
use Rattle.c_ready.proofs.Suits.{operand-type}
use Rattle.src_mem.specs.Operations.{node_of_shape, pointee_of_shape, node_at, pointee_at, integer_of_shape}
use Rattle.cil_form.specs.declared.number.Temp.{Temp}
use Rattle.cil_form.specs.Typing.{IntegerOf, PointerTo, Typing, held_shape, Holds, IsRightOperand, result_type}
use Rattle.lower_rules.specs.Words.{lowered}

power-some : (n : ℕ) → 0 < 2 ^ n
power-some n = search rules

back : (m r : ℕ) → r < m → residue (negsuc (m - 1 - r)) m ≡ r
back m r h = let e = residue-small (m - 1 - r) m (omega (arith, h)) in omega (arith, e, h)

signed_back : (bits r : ℕ) → r < 2 ^ bits → residue (signed_of bits r) (2 ^ bits) ≡ r
signed_back bits r h = by (nat_lt r (2 ^ (bits - 1)))
  where
    by : (b : Bool) → residue (if b then pos r else negsuc (2 ^ bits - 1 - r)) (2 ^ bits) ≡ r
    by true = residue-small r (2 ^ bits) h
    by false = back (2 ^ bits) r h

pub converted-twice : (i : IntegerType) (z : ℤ) → converted i (converted i z) ≡ converted i z
converted-twice i z = by i.signed
  where
    below : residue z (2 ^ bits_of i) < 2 ^ bits_of i
    below = residue-below z (2 ^ bits_of i) (power-some (bits_of i))

    by : (s : Bool) → (if s then as_signed (bits_of i) (if s then as_signed (bits_of i) z else as_unsigned (bits_of i) z) else as_unsigned (bits_of i)
        (if s then as_signed (bits_of i) z else as_unsigned (bits_of i) z))
        ≡ (if s then as_signed (bits_of i) z else as_unsigned (bits_of i) z)
    by true = ap (λ (r : ℕ). signed_of (bits_of i) r) (signed_back (bits_of i) (residue z (2 ^ bits_of i)) below)
    by false = ap (λ (r : ℕ). pos r) (residue-twice z (2 ^ bits_of i) (power-some (bits_of i)))

pub integer-held : (x : TypeShape) (i : IntegerType) → x ≡ Integer i.bytes i.signed → held_shape x ≡ Some (IntegerOf i)
integer-held x i h = ap held_shape h

pub integer-read : (x : TypeShape) (i : IntegerType) → x ≡ Integer i.bytes i.signed → integer_of_shape x ≡ i
integer-read x i h = ap integer_of_shape h

pub pointer-held : (x : TypeShape) (n : NodeId) (u : TypeId) → x ≡ Pointer n u → held_shape x ≡ Some (PointerTo n u)
pointer-held x n u h = ap held_shape h

pub pointer-node : (T : Table) (t : TypeId) (n : NodeId) (u : TypeId) → shape_at T t ≡ Pointer n u → node_at T t ≡ n
pointer-node T t n u h = ap node_of_shape h

pub pointer-to : (T : Table) (t : TypeId) (n : NodeId) (u : TypeId) → shape_at T t ≡ Pointer n u → pointee_at T t ≡ u
pointer-to T t n u h = ap pointee_of_shape h

pub scalar-some : (x : TypeShape) → is_scalar_shape x ≡ true → IsSome (held_shape x)
scalar-some (Integer bytes signed) h = refl
scalar-some (Pointer n t) h = refl
scalar-some (Array t n) h = absurd (cc (h))
scalar-some (Function ps r) h = absurd (cc (h))
scalar-some (Struct n) h = absurd (cc (h))
scalar-some (Union n) h = absurd (cc (h))
scalar-some Void h = absurd (cc (h))

pub operand-integer : (T : Table) (at : Place) (i : IntegerType) (e : TypedExpr) → IsOperand T at i e → IsIntegerType T i (type_of e)
operand-integer T at i e h = subst (λ (t : TypeId). IsIntegerType T i t) (sym (operand-type T at i e h)) h.shape

pub plain-no_null : (e : TypedExpr) → IsPlain e → is_null e ≡ false
plain-no_null (typed.Convert which at t e) h = absurd (cc (h))
plain-no_null e h = refl

-- both are pointers
pub both-point : (T : Table) (a b : Bool) (x y : TypeShape) (v : TypeId) → meeting_of T a b x y ≡ BothPoint v
    → ((n : NodeId) × (t : TypeId) × (x ≡ Pointer n t)) × ((n : NodeId) × (t : TypeId) × (y ≡ Pointer n t))
both-point T null true (Pointer n t) y v h = absurd (cc (h))
both-point T true null x (Pointer n u) v h = absurd (cc (h))
both-point T false false (Pointer n t) (Pointer m u) v h = ((n, t, refl), (m, u, refl))
both-point T a b x y v h = absurd (cc (h))

-- operators

pub operator-result : (op : Binary) (l r : IntegerType) → result_type (lowered op) (integers.left_type op l r) ≡ integers.result_type op l r
unfolding lowered
operator-result binary.Multiply l r = refl
operator-result binary.Divide l r = refl
operator-result binary.Remainder l r = refl
operator-result binary.Add l r = refl
operator-result binary.Subtract l r = refl
operator-result binary.ShiftLeft l r = refl
operator-result binary.ShiftRight l r = refl
operator-result binary.Less l r = refl
operator-result binary.Greater l r = refl
operator-result binary.LessEqual l r = refl
operator-result binary.GreaterEqual l r = refl
operator-result binary.Equal l r = refl
operator-result binary.NotEqual l r = refl
operator-result binary.BitAnd l r = refl
operator-result binary.BitXor l r = refl
operator-result binary.BitOr l r = refl
operator-result binary.LogicalAnd l r = refl
operator-result binary.LogicalOr l r = refl

pub operator-right : (op : Binary) (l r : IntegerType) (U : Typing) (t : Temp) → Holds U t (IntegerOf (integers.right_type op l r))
    → IsRightOperand (lowered op) U t (integers.left_type op l r)
unfolding lowered
operator-right binary.Multiply l r U t h = h
operator-right binary.Divide l r U t h = h
operator-right binary.Remainder l r U t h = h
operator-right binary.Add l r U t h = h
operator-right binary.Subtract l r U t h = h
operator-right binary.ShiftLeft l r U t h = (integers.promoted r, h)
operator-right binary.ShiftRight l r U t h = (integers.promoted r, h)
operator-right binary.Less l r U t h = h
operator-right binary.Greater l r U t h = h
operator-right binary.LessEqual l r U t h = h
operator-right binary.GreaterEqual l r U t h = h
operator-right binary.Equal l r U t h = h
operator-right binary.NotEqual l r U t h = h
operator-right binary.BitAnd l r U t h = h
operator-right binary.BitXor l r U t h = h
operator-right binary.BitOr l r U t h = h
operator-right binary.LogicalAnd l r U t h = h
operator-right binary.LogicalOr l r U t h = h
