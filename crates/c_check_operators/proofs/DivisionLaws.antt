-- The quotient of two constants, each in the type that the operator asks for.
use Rattle.std.proofs.Common.{◌≡◌, ◌≢◌, ℤ, Bool, false, Option, Some, refl}
use Rattle.c_types.specs.Sound.{IsIntegerSize}
use Rattle.c_tree.specs.Arithmetic.{operator_of}
use Rattle.c_tree.specs.declared.operator.Binary.{Binary}
use Rattle.c_tree.specs.declared.operator.Binary.TheVariants as binary
use Rattle.integers.specs.Arithmetic.{IntegerType}
use Rattle.c_typing.specs.Constants.{cannot_divide}
use Rattle.c_typing.specs.Integers.{left_type, right_type}
use Rattle.c_typing.specs.Tests as tests
use Rattle.c_typing.proofs.KindLaws.{left_sized, right_sized}

pub left_bytes : (operator : Binary) (j k l : IntegerType) → IsIntegerSize j.bytes → IsIntegerSize k.bytes → l ≡ left_type operator j k → IsIntegerSize l.bytes
left_bytes operator j k l p q e = rw e (left_sized operator j k p q)

pub right_bytes : (operator : Binary) (j k r : IntegerType) → IsIntegerSize j.bytes → IsIntegerSize k.bytes → r ≡ right_type operator j k → IsIntegerSize r.bytes
right_bytes operator j k r p q e = rw e (right_sized operator j k p q)

pub divided : (operator : Binary) (j k l r : IntegerType) (x y u v : ℤ) (divides : Bool) →
    l ≡ left_type operator j k → r ≡ right_type operator j k →
    u ≡ tests.constant_as j l x → v ≡ tests.constant_as k r y →
    divides ≡ cannot_divide (operator_of operator) l u v →
    divides ≡ tests.divides_as operator (Some j) (Some k) (Some x) (Some y)
divided operator j k l r x y u v divides e f g h i = rw (i, g, h, e, f) refl

-- an operator that divides nothing
pub undivided : (operator : Binary) (j k : Option IntegerType) (x y : Option ℤ) → operator ≢ binary.Divide → operator ≢ binary.Remainder →
    false ≡ tests.divides_as operator j k x y
undivided binary.Divide j k x y d r = absurd (d refl)
undivided binary.Remainder j k x y d r = absurd (r refl)
undivided operator (Some j) (Some k) (Some x) (Some y) d r = refl
undivided operator j k x y d r = refl
