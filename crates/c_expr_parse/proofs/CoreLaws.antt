-- What is read in the middle of a declarator, by what may stand there and what comes.
use Rattle.std.proofs.Common.{◌≡◌, true, false, ◌&&◌, List, [], ◌∷◌, is_some, refl}
use Rattle.cc_base.specs.declared.place.Place.{Place}
use Rattle.parse_rules.specs.Parsers.{Stopped, Syntax, first}
use Rattle.c_tree.specs.Grammar.{Naming, WithName, WithoutName, WithOrWithout}
use Rattle.c_tree.specs.Symbols.{Symbol}
use Rattle.c_tree.specs.Tree as tree
use Rattle.c_tree.specs.Words.{TypeNames}
use Rattle.c_tree.specs.declared.leaf.Star.{Star}
use Rattle.c_parse_words.specs.Tests.{begins_parameters, may_omit_name, open_bracket}
use Rattle.c_expr_parse.specs.DeclaratorRules.{after_core_paren, nested, parts_from, unnamed, unnamed_function}
use Rattle.c_expr_parse.specs.ExprRules.{Inner}

pub parameters_come : (names : TypeNames) (inner : Inner) (naming : Naming) (stars : List Star) (at : Place) (ts : List Symbol)
    → may_omit_name naming ≡ true → begins_parameters names (first ts) ≡ true → after_core_paren names inner naming stars at ts ≡ unnamed_function names inner stars at ts
unfolding after_core_paren
parameters_come names inner WithName stars at ts e f = cc
parameters_come names inner WithoutName stars at ts e f = rw f refl
parameters_come names inner WithOrWithout stars at ts e f = rw f refl

pub declarator_comes : (names : TypeNames) (inner : Inner) (naming : Naming) (stars : List Star) (at : Place) (ts : List Symbol)
    → (may_omit_name naming && begins_parameters names (first ts)) ≡ false → after_core_paren names inner naming stars at ts ≡ nested names inner naming stars at ts
unfolding after_core_paren
declarator_comes names inner WithName stars at ts e = refl
declarator_comes names inner WithoutName stars at ts e = rw e refl
declarator_comes names inner WithOrWithout stars at ts e = rw e refl

pub nothing_comes : (names : TypeNames) (inner : Inner) (stars : List Star) (ts : List Symbol)
    → stars ≡ [] → is_some (open_bracket (first ts)) ≡ false → unnamed names inner stars ts ≡ Stopped Syntax ts
unfolding unnamed
nothing_comes names inner [] ts e f = rw f refl
nothing_comes names inner (star ∷ stars) ts e f = cc

pub part_comes : (names : TypeNames) (inner : Inner) (stars : List Star) (ts : List Symbol)
    → is_some (open_bracket (first ts)) ≡ true → unnamed names inner stars ts ≡ parts_from names inner stars tree.Unnamed tree.NoPart ts
unfolding unnamed
part_comes names inner [] ts f = rw f refl
part_comes names inner (star ∷ stars) ts f = refl

pub stars_stand : (names : TypeNames) (inner : Inner) (stars : List Star) (ts : List Symbol)
    → (stars ≡ [] → ⊥) → unnamed names inner stars ts ≡ parts_from names inner stars tree.Unnamed tree.NoPart ts
unfolding unnamed
stars_stand names inner [] ts f = absurd (f refl)
stars_stand names inner (star ∷ stars) ts f = refl
