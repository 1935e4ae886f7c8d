-- What a declarator has in it.
use Rattle.std.proofs.Common.{◌≡◌, false, List, [], ◌∷◌, ◌++◌, map, Some, None, refl, sym, subst}
use Rattle.cc_base.specs.declared.place.Place.{Place}
use Rattle.c_tree.specs.declared.leaf.Word.{Word}
use Rattle.c_tree.specs.Tree as tree
use Rattle.c_tree.specs.Views.{added, part_layer, enumerator_layer, part_view, core_layer, expr_layer, specifier_layer, declarator_layer, members_layer, parameter_layer, specifiers_layer, type_name_layer}
use Rattle.c_tree.specs.StatementViews.{init_declarator_view}
use Rattle.c_tree.specs.declared.expr.Core.TheOpen as layer
use Rattle.c_tree.specs.declared.expr.Core.TheFolds.{fold_out-Part}
use Rattle.c_tree.specs.declared.expr.Part.{Part}
use Rattle.c_tree.specs.declared.statement.InitDeclarator.{InitDeclarator}
use Rattle.c_tree.specs.declared.statement.InitDeclarator.TheVariants as init
use Rattle.c_unit_typing.specs.Initialisers.{is_bare, is_one_array}
use Rattle.c_unit_typing.specs.DeclarationJudging.{is_none}

abbrev Layer : (Type 0 → Type 0 → Type 0 → Type 0 → Type 0 → Type 0 → Type 0 → Type 0 → Type 0 → Type 0 → Type 0) → Type 0
Layer L = L tree.Core (tree.Enumerators → tree.Enumerators) tree.Expr (tree.Parts → tree.Parts) tree.Specifier tree.Declarator
    (tree.Members → tree.Members) (tree.Parameters → tree.Parameters) tree.Specifiers tree.TypeName

-- a part is taken by its layer
by_layer : (P : (tree.Parts → tree.Parts) → Type 0) → ((y : Layer layer.Part-F) → P (part_layer y)) → (p : Part) → P (part_view p)
by_layer P each p =
    subst P
    (sym (fold_out-Part tree.Core (tree.Enumerators → tree.Enumerators) tree.Expr (tree.Parts → tree.Parts) tree.Specifier tree.Declarator
    (tree.Members → tree.Members) (tree.Parameters → tree.Parameters) tree.Specifiers tree.TypeName
    core_layer enumerator_layer expr_layer part_layer specifier_layer declarator_layer members_layer parameter_layer specifiers_layer type_name_layer p))
    (each _)

-- with a part a declarator is no name alone
pub bare_without_parts : (core : tree.Core) (p : Part) (all : tree.Parts) → is_bare (tree.Declares [] core (part_view p all)) ≡ false
bare_without_parts core p all = by_layer (λ add. is_bare (tree.Declares [] core (add all)) ≡ false) each p
  where
    each : (y : Layer layer.Part-F) → is_bare (tree.Declares [] core (part_layer y all)) ≡ false
    each (layer.Array bracket words None) = refl
    each (layer.Array bracket words (Some e)) = refl
    each (layer.Function paren parameters) = refl

-- nor is `[]` all that it makes where a part stands before it
pub array_alone : (core : tree.Core) (p : Part) (all : tree.Parts) (at : Place) (words : List Word)
    → is_one_array (tree.Declares [] core (tree.AndArray (part_view p all) at words)) ≡ false
array_alone core p all at words = by_layer (λ add. is_one_array (tree.Declares [] core (tree.AndArray (add all) at words)) ≡ false) each p
  where
    each : (y : Layer layer.Part-F) → is_one_array (tree.Declares [] core (tree.AndArray (part_layer y all) at words)) ≡ false
    each (layer.Array bracket inner None) = refl
    each (layer.Array bracket inner (Some e)) = refl
    each (layer.Function paren parameters) = refl

pub some_declarator : (d : InitDeclarator) (all : tree.InitDeclarators) → is_none (init_declarator_view d all) ≡ false
some_declarator (init.Plain d) all = refl
some_declarator (init.Initialised d at value) all = refl

pub none_of_declarators : (ds : List InitDeclarator) (d : InitDeclarator) → is_none (added tree.NoInitDeclarator (map init_declarator_view (ds ++ d ∷ []))) ≡ false
none_of_declarators ds d = go tree.NoInitDeclarator ds
  where
    go : (all : tree.InitDeclarators) (ds : List InitDeclarator) → is_none (added all (map init_declarator_view (ds ++ d ∷ []))) ≡ false
    go all [] = some_declarator d all
    go all (x ∷ xs) = go (init_declarator_view x all) xs
