-- Storage words and what names are declared as, as plain data.
use Rattle.std.specs.Prelude.{Bool, true, false, Option, Some, None}
use Rattle.cc_base.specs.declared.number.TypeId.{TypeId}
use Rattle.c_tree.specs.declared.typed_word.Home.{Home}
use Rattle.c_tree.specs.declared.typed_word.Home.TheVariants as home
use Rattle.c_typing.specs.declared.declared.Declared.{Declared}
use Rattle.c_typing.specs.declared.declared.Declared.TheVariants as declared
use Rattle.c_check_context.specs.declared.homes.Storage.{Storage as CodeStorage}
use Rattle.c_check_context.specs.declared.homes.Storage.TheVariants as code
use Rattle.c_unit_typing.specs.Units.{Storage, Unstored, AsTypedef, AsExtern, AsStatic, AsAutomatic}

abbrev pub storage_view : CodeStorage → Storage
storage_view code.Unstored = Unstored
storage_view code.AsTypedef = AsTypedef
storage_view code.AsExtern = AsExtern
storage_view code.AsStatic = AsStatic
storage_view code.AsAutomatic = AsAutomatic

-- what an object is declared as, by its home
abbrev pub object_view : TypeId → Home → Declared
object_view t (home.Static n) = declared.Object t n
object_view t (home.Known n) = declared.Object t n
object_view t (home.Local n) = declared.Object t n
object_view t h = declared.Object t (record { 0 = 0 })

abbrev pub declared_view : (function : Bool) → TypeId → Home → Declared
declared_view true t h = declared.Function t
declared_view false t h = object_view t h

-- what a name is declared as
abbrev pub name_view : (function : Bool) → Storage → TypeId → Home → Declared
name_view function AsTypedef t h = declared.Typedef t
name_view function storage t h = declared_view function t h

-- a storage word counts before those that stand before it
abbrev pub stored_or : Option Storage → Storage → Storage
stored_or None before = before
stored_or (Some storage) before = storage
