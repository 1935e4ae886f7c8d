use Rattle.std.specs.Prelude.{ℕ, suc, ◌*◌, nat_lt, List, [], ◌∷◌, length, sum_by, Option, None, Some, if◌then◌else◌}
use Rattle.cc_base.specs.declared.number.TypeId.{TypeId}
use Rattle.c_types.specs.declared.shape.TypeShape.{TypeShape}
use Rattle.c_types.specs.declared.shape.TypeShape.TheVariants.{Pointer, Array, Struct, Union}
use Rattle.c_types.specs.Table.{Table, shape_at, members_at, descend}
use Rattle.c_types.specs.Layouts.{size_of}

-- How many pointers a type holds by value, of a union those of its largest member.

-- the larger of a member that was found and another one; of two that are equally large the first
abbrev pub larger : (TypeId → ℕ) → Option TypeId → TypeId → TypeId
larger size None m = m
larger size (Some found) m = if nat_lt (size found) (size m) then m else found

-- the first of those with the greatest size
abbrev pub largest_member : (TypeId → ℕ) → Option TypeId → List TypeId → Option TypeId
largest_member size found [] = found
largest_member size found (m ∷ ms) = largest_member size (Some (larger size found m)) ms

abbrev pub of_some : (TypeId → ℕ) → Option TypeId → ℕ
of_some of_part None = 0
of_some of_part (Some m) = of_part m

abbrev pub pointers_of_shape : (TypeId → ℕ) → (TypeId → ℕ) → TypeShape → List TypeId → ℕ
pointers_of_shape size of_part (Pointer n t) members = 1
pointers_of_shape size of_part (Array element count) members = count * of_part element
pointers_of_shape size of_part (Struct number) members = sum_by of_part members
pointers_of_shape size of_part (Union number) members = of_some of_part (largest_member size None members)
pointers_of_shape size of_part shape members = 0

abbrev pub pointers_step : Table → (TypeId → ℕ) → TypeId → ℕ
pointers_step table of_part t = pointers_of_shape (size_of table) of_part (shape_at table t) (members_at table t)

-- how many pointers an object of the type t holds
unfoldable pub pointers_in : Table → TypeId → ℕ
pointers_in table t = descend (pointers_step table) 0 (suc (length table)) t
