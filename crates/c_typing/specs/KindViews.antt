-- The code's integer types as plain data, and the shapes that it finds.
use Rattle.std.specs.Prelude.{Option, Some, None}
use Rattle.c_types.specs.declared.shape.TypeShape.{TypeShape}
use Rattle.c_types.specs.declared.shape.TypeShape.TheVariants.{Void}
use Rattle.integers.specs.Arithmetic.{IntegerType}
use Rattle.c_typing.specs.declared.kind.Kind.{Kind}

abbrev pub kind_view : Kind → IntegerType
kind_view k = record { bytes = k.bytes; signed = k.signed }

-- what is no type is read as `void`
abbrev pub shape_or_void : Option TypeShape → TypeShape
shape_or_void None = Void
shape_or_void (Some shape) = shape
