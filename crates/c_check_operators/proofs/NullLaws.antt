-- Only where a pointer is wanted does it matter whether a value is a null constant.
use Rattle.std.proofs.Common.{◌≡◌, Bool, true, false, ◌&&◌, refl, sym, ap, ◌∙◌}
use Rattle.c_types.specs.declared.shape.TypeShape.{TypeShape}
use Rattle.c_types.specs.declared.shape.TypeShape.TheVariants.{Integer, Pointer}
use Rattle.c_types.specs.Table.{Table}
use Rattle.c_typing.specs.Conversions.{implicit_between, cast_between}
use Rattle.c_typing.specs.Shapes.{is_pointer_shape}

and_on : (a : Bool) → a ≡ a && true
and_on true = refl
and_on false = refl

and_off : (a : Bool) → false ≡ a && false
and_off true = refl
and_off false = refl

pub asked : (p pointer r null : Bool) → p ≡ pointer → p ≡ true → r ≡ null → r ≡ null && pointer
asked p pointer r null e on f = f ∙ and_on null ∙ ap (λ b. null && b) (sym on ∙ e)

pub unasked : (p pointer null : Bool) → p ≡ pointer → p ≡ false → false ≡ null && pointer
unasked p pointer null e off = and_off null ∙ ap (λ b. null && b) (sym off ∙ e)

pub implicit_null : (T : Table) (null : Bool) (from to : TypeShape) → implicit_between T (null && is_pointer_shape to) from to ≡ implicit_between T null from to
implicit_null T false from to = refl
implicit_null T true from (Pointer n u) = refl
implicit_null T true (Integer a s) to = refl
implicit_null T true from to = refl

pub cast_null : (null : Bool) (from to : TypeShape) → cast_between (null && is_pointer_shape to) from to ≡ cast_between null from to
cast_null false from to = refl
cast_null true from (Pointer n u) = refl
cast_null true (Integer a s) to = refl
cast_null true from to = refl
