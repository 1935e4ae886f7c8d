-- What a compound assignment takes.
use Rattle.std.proofs.Common.{◌≡◌, Bool, true, ◌&&◌, ◌||◌, refl, sym, true≢false}
use Rattle.c_types.specs.Table.{Table}
use Rattle.c_tree.specs.declared.operator.Assignment.{Assignment}
use Rattle.c_tree.specs.declared.operator.Assignment.TheVariants as assignment
use Rattle.c_tree.specs.declared.operator.Binary.{Binary}
use Rattle.c_typing.specs.Integers.{assigning}
use Rattle.c_typing.specs.Rules.{is_compound}
use Rattle.c_typing.specs.Shapes.{is_integer_shape, is_pointer_shape}
use Rattle.c_typing.specs.Tests.{Elaborated, are_integers, is_assignable, is_moving, shape_of}

pub updatable : (T : Table) (operator : Assignment) (binary : Binary) (x y : Elaborated) (updates : Bool) →
    is_compound operator ≡ true → binary ≡ assigning operator →
    updates ≡ (are_integers (shape_of T x) (shape_of T y) || ((is_pointer_shape (shape_of T x) && is_integer_shape (shape_of T y)) && is_moving T binary (shape_of T x) (shape_of T y))) →
    updates ≡ is_assignable T operator x y
updatable T assignment.Assign binary x y updates h e f = absurd (true≢false (sym h))
updatable T operator binary x y updates h e f = rw (f, e) refl
