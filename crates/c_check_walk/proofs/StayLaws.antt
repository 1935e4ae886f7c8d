-- Where the list before stops, so does the list with one more: what `SeriesLaws` asks of each list that judging goes through. And nothing is
-- judged of a list without elements.
use Rattle.std.proofs.Common.{◌≡◌, refl, sym, subst, Bool, List, [], Some, None}
use Rattle.cc_base.specs.declared.fault.Fault.{Fault}
use Rattle.cc_base.specs.declared.place.Place.{Place}
use Rattle.cc_base.specs.declared.number.TypeId.{TypeId}
use Rattle.c_tree.specs.Tree as tree
use Rattle.c_tree.specs.TypedTree as typed
use Rattle.c_tree.specs.Views.{part_layer, enumerator_layer, part_view, enumerator_view, members_view, parameter_view, core_layer, expr_layer, specifier_layer, declarator_layer, members_layer, parameter_layer, specifiers_layer, type_name_layer}
use Rattle.c_tree.specs.declared.expr.Core.TheOpen as layer
use Rattle.c_tree.specs.declared.expr.Core.TheFolds.{fold_out-Part, fold_out-Enumerator, fold_out-Members, fold_out-Parameter}
use Rattle.c_tree.specs.declared.expr.Part.{Part}
use Rattle.c_tree.specs.declared.expr.Enumerator.{Enumerator}
use Rattle.c_tree.specs.declared.expr.Members.{Members}
use Rattle.c_tree.specs.declared.expr.Parameter.{Parameter}
use Rattle.c_typing.specs.Judging.{State, Gives, Stops}
use Rattle.c_typing.specs.Scopes.{Name}
use Rattle.c_typing.specs.Walks.{judge, judge_arguments, judge_list, judge_parts, judge_parameters, judge_enumerators, judge_members, judge_member_declarators}

abbrev Layer : (Type 0 → Type 0 → Type 0 → Type 0 → Type 0 → Type 0 → Type 0 → Type 0 → Type 0 → Type 0 → Type 0) → Type 0
Layer L = L tree.Core (tree.Enumerators → tree.Enumerators) tree.Expr (tree.Parts → tree.Parts) tree.Specifier tree.Declarator
    (tree.Members → tree.Members) (tree.Parameters → tree.Parameters) tree.Specifiers tree.TypeName

-- the plain lists

pub arguments-stay : (e : tree.Expr) (all : tree.Arguments) (s t : State) (f : Fault) → judge_arguments all s ≡ Stops f t → judge_arguments (tree.AndArgument all e) s ≡ Stops f t
unfolding judge judge_arguments
arguments-stay e all s t f stopped = rw stopped refl

pub specifiers-stay : (one : tree.Specifier) (all : tree.Specifiers) (s t : State) (f : Fault) → judge_list all s ≡ Stops f t → judge_list (tree.AndSpecifier all one) s ≡ Stops f t
unfolding judge judge_arguments
specifiers-stay one all s t f stopped = rw stopped refl

pub row-stays : (base : TypeId) (names : List Name) (d : tree.Declarator) (all : tree.MemberDeclarators) (s t : State) (f : Fault)
    → judge_member_declarators base names all s ≡ Stops f t → judge_member_declarators base names (tree.AndDeclarator all d) s ≡ Stops f t
unfolding judge judge_arguments
row-stays base names d all s t f stopped = rw stopped refl

pub members-stay : (specifiers : tree.Specifiers) (row : tree.MemberDeclarators) (all : tree.Members) (s t : State) (f : Fault)
    → judge_members all s ≡ Stops f t → judge_members (tree.AndMember all specifiers row) s ≡ Stops f t
unfolding judge judge_arguments
members-stay specifiers row all s t f stopped = rw stopped refl

pub parameters-stay : (void : Bool) (specifiers : tree.Specifiers) (d : tree.Declared) (all : tree.Parameters) (s t : State) (f : Fault)
    → judge_parameters void all s ≡ Stops f t → judge_parameters void (tree.AndParameter all specifiers d) s ≡ Stops f t
unfolding judge judge_arguments
parameters-stay void specifiers d all s t f stopped = rw stopped refl

-- parts and enumerators, by their layers

part_layer-stays : (at : Place) (y : Layer layer.Part-F) (all : tree.Parts) (s t : State) (f : Fault) → judge_parts at all s ≡ Stops f t → judge_parts at (part_layer y all) s ≡ Stops f t
unfolding judge judge_arguments
part_layer-stays at (layer.Array bracket words None) all s t f stopped = rw stopped refl
part_layer-stays at (layer.Array bracket words (Some e)) all s t f stopped = rw stopped refl
part_layer-stays at (layer.Function paren parameters) all s t f stopped = rw stopped refl

pub parts-stay : (at : Place) (p : Part) (all : tree.Parts) (s t : State) (f : Fault) → judge_parts at all s ≡ Stops f t → judge_parts at (part_view p all) s ≡ Stops f t
parts-stay at p all s t f stopped =
    subst (λ (add : tree.Parts → tree.Parts). judge_parts at (add all) s ≡ Stops f t)
    (sym (fold_out-Part tree.Core (tree.Enumerators → tree.Enumerators) tree.Expr (tree.Parts → tree.Parts) tree.Specifier tree.Declarator
    (tree.Members → tree.Members) (tree.Parameters → tree.Parameters) tree.Specifiers tree.TypeName
    core_layer enumerator_layer expr_layer part_layer specifier_layer declarator_layer members_layer parameter_layer specifiers_layer type_name_layer p))
    (part_layer-stays at _ all s t f stopped)

enumerator_layer-stays : (y : Layer layer.Enumerator-F) (all : tree.Enumerators) (s t : State) (f : Fault) → judge_enumerators all s ≡ Stops f t → judge_enumerators (enumerator_layer y all) s ≡ Stops f t
unfolding judge judge_arguments
enumerator_layer-stays (layer.Plain name) all s t f stopped = rw stopped refl
enumerator_layer-stays (layer.Valued name at e) all s t f stopped = rw stopped refl

pub enumerators-stay : (one : Enumerator) (all : tree.Enumerators) (s t : State) (f : Fault) → judge_enumerators all s ≡ Stops f t → judge_enumerators (enumerator_view one all) s ≡ Stops f t
enumerators-stay one all s t f stopped =
    subst (λ (add : tree.Enumerators → tree.Enumerators). judge_enumerators (add all) s ≡ Stops f t)
    (sym (fold_out-Enumerator tree.Core (tree.Enumerators → tree.Enumerators) tree.Expr (tree.Parts → tree.Parts) tree.Specifier tree.Declarator
    (tree.Members → tree.Members) (tree.Parameters → tree.Parameters) tree.Specifiers tree.TypeName
    core_layer enumerator_layer expr_layer part_layer specifier_layer declarator_layer members_layer parameter_layer specifiers_layer type_name_layer one))
    (enumerator_layer-stays _ all s t f stopped)

-- rows of members and parameters, by theirs

pub rows-stay : (row : Members) (all : tree.Members) (s t : State) (f : Fault) → judge_members all s ≡ Stops f t → judge_members (members_view row all) s ≡ Stops f t
rows-stay row all s t f stopped =
    subst (λ (add : tree.Members → tree.Members). judge_members (add all) s ≡ Stops f t)
    (sym (fold_out-Members tree.Core (tree.Enumerators → tree.Enumerators) tree.Expr (tree.Parts → tree.Parts) tree.Specifier tree.Declarator
    (tree.Members → tree.Members) (tree.Parameters → tree.Parameters) tree.Specifiers tree.TypeName
    core_layer enumerator_layer expr_layer part_layer specifier_layer declarator_layer members_layer parameter_layer specifiers_layer type_name_layer row))
    (members-stay _ _ all s t f stopped)

pub each_parameter-stays : (void : Bool) (one : Parameter) (all : tree.Parameters) (s t : State) (f : Fault)
    → judge_parameters void all s ≡ Stops f t → judge_parameters void (parameter_view one all) s ≡ Stops f t
each_parameter-stays void one all s t f stopped =
    subst (λ (add : tree.Parameters → tree.Parameters). judge_parameters void (add all) s ≡ Stops f t)
    (sym (fold_out-Parameter tree.Core (tree.Enumerators → tree.Enumerators) tree.Expr (tree.Parts → tree.Parts) tree.Specifier tree.Declarator
    (tree.Members → tree.Members) (tree.Parameters → tree.Parameters) tree.Specifiers tree.TypeName
    core_layer enumerator_layer expr_layer part_layer specifier_layer declarator_layer members_layer parameter_layer specifiers_layer type_name_layer one))
    (parameters-stay void _ _ all s t f stopped)

-- lists without elements

pub no_parts : (at : Place) (s : State) → judge_parts at tree.NoPart s ≡ Gives typed.NoPart s
unfolding judge judge_arguments
no_parts at s = refl

pub no_parameters : (void : Bool) (s : State) → judge_parameters void tree.NoParameter s ≡ Gives typed.NoParameter s
unfolding judge judge_arguments
no_parameters void s = refl

pub no_members : (s : State) → judge_members tree.NoMember s ≡ Gives typed.NoMember s
unfolding judge judge_arguments
no_members s = refl

pub no_row : (base : TypeId) (names : List Name) (s : State) → judge_member_declarators base names tree.NoDeclarator s ≡ Gives typed.NoDeclarator s
unfolding judge judge_arguments
no_row base names s = refl

pub no_enumerators : (s : State) → judge_enumerators tree.NoEnumerator s ≡ Gives typed.NoEnumerator s
unfolding judge judge_arguments
no_enumerators s = refl

pub no_specifiers : (s : State) → judge_list tree.NoSpecifier s ≡ Gives typed.NoSpecifier s
unfolding judge judge_arguments
no_specifiers s = refl

pub no_arguments : (s : State) → judge_arguments tree.NoArgument s ≡ Gives [] s
unfolding judge judge_arguments
no_arguments s = refl

pub ruleset none_judged = (no_parts, no_parameters, no_members, no_row, no_enumerators, no_specifiers, no_arguments)
