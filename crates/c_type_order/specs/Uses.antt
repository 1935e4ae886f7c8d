-- The types that judging a part uses are numbered by their first use; the sizes of arrays are of 64 bits, and members have names.
use Rattle.std.specs.Prelude.{◌≡◌, ◌≤◌, List, [], ◌∷◌, ◌++◌, length}
use Rattle.cc_base.specs.declared.number.TypeId.{TypeId}
use Rattle.c_types.specs.Table.{Table, IsType, shape_at}
use Rattle.c_typing.specs.Operands.{Value}
use Rattle.c_typing.specs.Tests.{Elaborated, AsPlace, AsValue, AsAllocation}
use Rattle.c_type_order.specs.TypesUsed.{Use, AreUses, used_by, used_by_place}

-- what a part uses
abbrev pub used_by_part : Table → Elaborated → List Use
used_by_part T (AsPlace p) = used_by_place T p
used_by_part T (AsValue e) = used_by T e
used_by_part T (AsAllocation e) = used_by T e

-- what values use, one after another
abbrev pub used_by_values : List Value → Table → List Use
used_by_values [] T = []
used_by_values (v ∷ vs) T = used_by T v.expr ++ used_by_values vs T

-- Later tables

-- the types that were there keep their shapes
pub record IsLater (T U : Table) : Type 0 where
  pub longer : length T ≤ length U
  pub shapes : (t : TypeId) → IsType T t → shape_at U t ≡ shape_at T t

-- What is used, listed over the table R or a later one, takes the types of S to those of R, which is later.
pub record IsUsed (used : Table → List Use) (S R : Table) : Type 0 where
  pub uses : (U : Table) → IsLater R U → AreUses (used U) (length S) (length R)
  pub later : IsLater S R
