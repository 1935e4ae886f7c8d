use Rattle.std.specs.Prelude.{ℕ, true, List, [], ◌∷◌}
use Rattle.cc_base.specs.declared.number.TypeId.{TypeId}
use Rattle.cc_base.specs.declared.number.NodeId.{NodeId}
use Rattle.c_types.specs.declared.shape.TypeShape.{TypeShape}
use Rattle.c_types.specs.declared.shape.TypeShape.TheVariants.{Integer, Pointer, Array, Struct, Union}
use Rattle.c_types.specs.Table.{Table, Entry}

-- A table of a few types, on which the definitions can be looked at.

abbrev pub id : ℕ → TypeId
id n = record { 0 = n }

abbrev pub node : ℕ → NodeId
node n = record { 0 = n }

abbrev entry : TypeShape → List TypeId → Entry
entry shape members = record { shape = shape; members = members }

abbrev pub char : TypeId
char = id 0

abbrev pub int : TypeId
int = id 1

abbrev pub int_pointer : TypeId
int_pointer = id 2

-- struct {char c; int *p;}
abbrev pub char_and_pointer : TypeId
char_and_pointer = id 3

-- struct {char c;}
abbrev pub char_alone : TypeId
char_alone = id 4

-- int[3]
abbrev pub int_array : TypeId
int_array = id 5

-- union {int n; int *p;}, and another one
abbrev pub mixed_union : TypeId
mixed_union = id 6

abbrev pub other_union : TypeId
other_union = id 7

-- struct list {int head; struct list *tail;}, and another one
abbrev pub int_list : TypeId
int_list = id 9

abbrev pub other_list : TypeId
other_list = id 11

abbrev pub small_table : Table
small_table =
    entry (Integer 1 true) []
    ∷ entry (Integer 4 true) []
    ∷ entry (Pointer (node 0) int) []
    ∷ entry (Struct 0) (char ∷ int_pointer ∷ [])
    ∷ entry (Struct 1) (char ∷ [])
    ∷ entry (Array int 3) []
    ∷ entry (Union 2) (int ∷ int_pointer ∷ [])
    ∷ entry (Union 3) (int ∷ int_pointer ∷ [])
    ∷ entry (Pointer (node 1) int_list) []
    ∷ entry (Struct 4) (int ∷ id 8 ∷ [])
    ∷ entry (Pointer (node 2) other_list) []
    ∷ entry (Struct 5) (int ∷ id 10 ∷ [])
    ∷ []
