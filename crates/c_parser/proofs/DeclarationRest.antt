-- The rest of a declaration with all its declarators as one part.
use Rattle.std.proofs.Common.{◌≡◌, ℕ, None, List, refl, sym}
use Rattle.parse_rules.specs.Parsers.{Answer, Read, Stopped, Parser, next, by_first, expect}
use Rattle.c_tree.specs.Grammar.{names_after, type_names}
use Rattle.c_tree.specs.Symbols.{Symbol}
use Rattle.c_tree.specs.Tree as tree
use Rattle.c_tree.specs.Words.{has_typedef}
use Rattle.c_parse_words.specs.Tests.{is_semicolon, equals_sign}
use Rattle.c_parser.specs.DeclarationRules.{with_initialiser, declarators_from}
use Rattle.c_parser.specs.UnitRules.{after_declarator, declarators_after}

regrouped : {A B C : Type 0} (part : Answer Symbol A) (f : A → Parser Symbol B) (g : B → Parser Symbol C) → next (next part f) g ≡ next part (λ a rest. next (f a rest) g)
regrouped (Read a rest) f g = refl
regrouped (Stopped why rest) f g = refl

pub plain_declaration : (d : ℕ) (unit : tree.TranslationUnit) (specifiers : tree.Specifiers) (x : tree.Declarator) (ts : List Symbol)
    → after_declarator d unit specifiers x None ts
    ≡ next (declarators_after (type_names unit) (has_typedef specifiers) d x ts) (λ declarators r1. next (expect is_semicolon r1) (λ _ r2. Read (tree.AndExternal unit (tree.Declare specifiers declarators)) r2))
unfolding after_declarator declarators_after
plain_declaration d unit specifiers x ts =
    sym (regrouped (by_first equals_sign (with_initialiser (names_after (has_typedef specifiers) (type_names unit) x) d tree.NoInitDeclarator x) ts) (declarators_from (type_names unit) (has_typedef specifiers) d)
    (λ declarators r1. next (expect is_semicolon r1) (λ _ r2. Read (tree.AndExternal unit (tree.Declare specifiers declarators)) r2)))
