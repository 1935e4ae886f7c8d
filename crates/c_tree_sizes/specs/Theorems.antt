-- What the laws of the crate say.
use Rattle.std.specs.List.{All}
use Rattle.std.specs.Prelude.{◌+◌, ◌≤◌, length}
use Rattle.c_tree.specs.Erasure.{erased_declarator, erased_specifiers}
use Rattle.c_tree.specs.Spelling.{declarator_spelling, specifiers_spelling}
use Rattle.c_tree.specs.TypedParts.{made_by_declarator, made_by_specifiers}
use Rattle.c_tree.specs.TypedTree.{TypedDeclarator, TypedSpecifiers}
use Rattle.c_tree_sizes.specs.Pieces.{HasPieces}

abbrev pub SpecifiersMakeTwoForAToken : Type 0
SpecifiersMakeTwoForAToken =
    (x : TypedSpecifiers) → All HasPieces (made_by_specifiers x)
    → length (made_by_specifiers x) ≤ length (specifiers_spelling (erased_specifiers x)) + length (specifiers_spelling (erased_specifiers x))

abbrev pub DeclaratorsMakeTwoForAToken : Type 0
DeclaratorsMakeTwoForAToken =
    (d : TypedDeclarator) → All HasPieces (made_by_declarator d)
    → length (made_by_declarator d) ≤ length (declarator_spelling (erased_declarator d)) + length (declarator_spelling (erased_declarator d))
