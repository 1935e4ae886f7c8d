-- Lists of the code's tree as the plain tree has them.
use Rattle.std.specs.Prelude.{◌≡◌, Bool, true, false, not, ◌&&◌, Option, List, [], ◌∷◌, map}
use Rattle.c_tree.specs.Symbols.{Symbol}
use Rattle.c_parse_words.specs.Tests.{is_comma}
use Rattle.c_tree.specs.Tree as tree
use Rattle.c_tree.specs.Views.{added, declarator_view, enumerator_view, member_declarators_of, members_view, parameter_view, part_view, specifier_view, specifiers_of}
use Rattle.c_tree.specs.declared.expr.Declarator.{Declarator}
use Rattle.c_tree.specs.declared.expr.Enumerator.{Enumerator}
use Rattle.c_tree.specs.declared.expr.Members.{Members}
use Rattle.c_tree.specs.declared.expr.Parameter.{Parameter}
use Rattle.c_tree.specs.declared.expr.Part.{Part}
use Rattle.c_tree.specs.declared.expr.Specifier.{Specifier}
use Rattle.c_tree.specs.declared.leaf.Word.{Word}
use Rattle.c_tree.specs.declared.statement.Initialiser.{Initialiser}
use Rattle.c_tree.specs.StatementViews.{initialiser_view, items_of}
use Rattle.c_tree.specs.Words.{are_array_words, has_static, is_static_word}

abbrev pub parameters_seen : List Parameter → tree.Parameters
parameters_seen list = added tree.NoParameter (map parameter_view list)

abbrev pub parts_seen : List Part → tree.Parts
parts_seen list = added tree.NoPart (map part_view list)

abbrev pub members_seen : List Members → tree.Members
members_seen list = added tree.NoMember (map members_view list)

abbrev pub enumerators_seen : List Enumerator → tree.Enumerators
enumerators_seen list = added tree.NoEnumerator (map enumerator_view list)

abbrev pub declarators_seen : List Declarator → tree.MemberDeclarators
declarators_seen list = member_declarators_of (map declarator_view list)

abbrev pub specifiers_seen : List Specifier → tree.Specifiers
specifiers_seen list = specifiers_of (map specifier_view list)

-- a comma comes, and none stands after the last element
abbrev pub series_goes_on : (comma : Bool) → Option Symbol → Bool
series_goes_on comma next = not comma && is_comma next

-- The words may stand in an array part, and whether `static` is one of them.
pub record AreArrayWords (words : List Word) (static : Bool) : Type 0 where
  pub allowed : are_array_words words ≡ true
  pub counted : static ≡ has_static words

abbrev pub starts_with_static : List Word → Bool
starts_with_static [] = false
starts_with_static (word ∷ words) = is_static_word word.keyword

abbrev pub items_seen : List Initialiser → tree.Items
items_seen list = items_of (map initialiser_view list)
