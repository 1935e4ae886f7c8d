-- The sizes of integer types.
use Rattle.std.proofs.Common.{◌≡◌, ℕ, Bool, true, false, subst, sym, inl, inr, refl, nat_lt, if◌then◌else◌}
use Rattle.cc_base.specs.declared.number.TypeId.{TypeId}
use Rattle.c_types.specs.declared.shape.TypeShape.TheVariants.{Integer}
use Rattle.c_types.specs.Table.{Table, shape_at}
use Rattle.c_types.specs.Sound.{IsWellFormed, IsProper, IsIntegerSize}
use Rattle.c_tree.specs.declared.operator.Binary.{Binary}
use Rattle.integers.specs.Arithmetic.{IntegerType, int}
use Rattle.c_typing.specs.Integers.{promoted, wider, common, is_shift, left_type, right_type}

-- an integer type of the table has one of the sizes that C has here
pub integer_sized : (T : Table) (t : TypeId) (b : ℕ) (s : Bool) → IsWellFormed T → Integer b s ≡ shape_at T t → IsIntegerSize b
integer_sized T t b s w e = subst IsProper (sym e) (w.each t).proper

if_sized : (b : Bool) (j k : IntegerType) → IsIntegerSize j.bytes → IsIntegerSize k.bytes → IsIntegerSize (if b then j else k).bytes
if_sized true j k p q = p
if_sized false j k p q = q

promoted_sized : (k : IntegerType) → IsIntegerSize k.bytes → IsIntegerSize (promoted k).bytes
promoted_sized k p = if_sized (nat_lt k.bytes 4) int k (inr (inr (inl refl))) p

wider_sized : (j k : IntegerType) → IsIntegerSize j.bytes → IsIntegerSize k.bytes → IsIntegerSize (wider j k).bytes
wider_sized j k p q = if_sized (nat_lt j.bytes k.bytes) k _ q (if_sized (nat_lt k.bytes j.bytes) j _ p p)

common_sized : (j k : IntegerType) → IsIntegerSize j.bytes → IsIntegerSize k.bytes → IsIntegerSize (common j k).bytes
common_sized j k p q = wider_sized (promoted j) (promoted k) (promoted_sized j p) (promoted_sized k q)

-- so has the type to which an operator converts an operand
pub left_sized : (operator : Binary) (j k : IntegerType) → IsIntegerSize j.bytes → IsIntegerSize k.bytes → IsIntegerSize (left_type operator j k).bytes
left_sized operator j k p q = if_sized (is_shift operator) (promoted j) (common j k) (promoted_sized j p) (common_sized j k p q)

pub right_sized : (operator : Binary) (j k : IntegerType) → IsIntegerSize j.bytes → IsIntegerSize k.bytes → IsIntegerSize (right_type operator j k).bytes
right_sized operator j k p q = if_sized (is_shift operator) (promoted k) (common j k) (promoted_sized k q) (common_sized j k p q)
