-- What numbers of 32 bits can count.
use Rattle.std.specs.Prelude.{◌≤◌, length}
use Rattle.c_tree.specs.TypedTree.{TypedTranslationUnit}
use Rattle.c_tree.specs.TypedParts.{made_by_unit}

-- What a unit makes, as the names that it declares, the `*` that it writes, its string literals and its address expressions, is numbered
-- by 32 bits. So are its nodes, as each of these makes one at most, and the members of each struct and union, as each has a name.
abbrev pub IsCountable : TypedTranslationUnit → Type 0
IsCountable unit = length (made_by_unit unit) ≤ 4294967295
