-- The code's tree as plain data, by one fold.
use Rattle.std.specs.Prelude.{List, fold, Option, Some, None}
use Rattle.cc_base.specs.declared.place.Place.{Place}
use Rattle.c_tree.specs.declared.leaf.Word.{Word}
use Rattle.c_tree.specs.Tree as tree
use Rattle.c_tree.specs.declared.expr.Core.{Core}
use Rattle.c_tree.specs.declared.expr.Core.TheOpen as layer
use Rattle.c_tree.specs.declared.expr.Core.TheFolds.{fold-Core, fold-Declarator, fold-Enumerator, fold-Expr, fold-Members, fold-Parameter, fold-Part, fold-Specifier, fold-Specifiers, fold-TypeName}
use Rattle.c_tree.specs.declared.expr.Declarator.{Declarator}
use Rattle.c_tree.specs.declared.expr.Enumerator.{Enumerator}
use Rattle.c_tree.specs.declared.expr.Expr.{Expr}
use Rattle.c_tree.specs.declared.expr.Members.{Members}
use Rattle.c_tree.specs.declared.expr.Parameter.{Parameter}
use Rattle.c_tree.specs.declared.expr.Part.{Part}
use Rattle.c_tree.specs.declared.expr.Specifier.{Specifier}
use Rattle.c_tree.specs.declared.expr.Specifiers.{Specifiers}
use Rattle.c_tree.specs.declared.expr.TypeName.{TypeName}

-- Elements of a list are seen as what they add to the list before them.

-- the list of all these, each added to those before
abbrev pub added : {A : Type 0} → A → List (A → A) → A
added start steps = fold (λ before step. step before) start steps

abbrev pub arguments_of : List tree.Expr → tree.Arguments
arguments_of es = fold tree.AndArgument tree.NoArgument es

abbrev pub specifiers_of : List tree.Specifier → tree.Specifiers
specifiers_of specifiers = fold tree.AndSpecifier tree.NoSpecifier specifiers

abbrev pub member_declarators_of : List tree.Declarator → tree.MemberDeclarators
member_declarators_of declarators = fold tree.AndDeclarator tree.NoDeclarator declarators

abbrev pub declared_of : Option tree.Declarator → tree.Declared
declared_of None = tree.NotDeclared
declared_of (Some d) = tree.DeclaredBy d

abbrev pub array_of : tree.Parts → Place → List Word → Option tree.Expr → tree.Parts
array_of parts at words None = tree.AndArray parts at words
array_of parts at words (Some e) = tree.AndSizedArray parts at words e

-- One level, with what is seen of each child in its place.

abbrev Layer : (Type 0 → Type 0 → Type 0 → Type 0 → Type 0 → Type 0 → Type 0 → Type 0 → Type 0 → Type 0 → Type 0) → Type 0
Layer L = L tree.Core (tree.Enumerators → tree.Enumerators) tree.Expr (tree.Parts → tree.Parts) tree.Specifier tree.Declarator
    (tree.Members → tree.Members) (tree.Parameters → tree.Parameters) tree.Specifiers tree.TypeName

abbrev pub core_layer : Layer layer.Core-F → tree.Core
core_layer (layer.Names name) = tree.Names name
core_layer layer.Unnamed = tree.Unnamed
core_layer (layer.Nested at d) = tree.Nested at d

abbrev pub enumerator_layer : Layer layer.Enumerator-F → tree.Enumerators → tree.Enumerators
enumerator_layer (layer.Plain name) before = tree.AndEnumerator before name
enumerator_layer (layer.Valued name at e) before = tree.AndValued before name at e

abbrev pub expr_layer : Layer layer.Expr-F → tree.Expr
expr_layer (layer.Name name) = tree.Name name
expr_layer (layer.Integer type value place) = tree.Integer type value place
expr_layer (layer.Character value place) = tree.Character value place
expr_layer (layer.String pieces) = tree.String pieces
expr_layer (layer.Paren at e) = tree.Paren at e
expr_layer (layer.Index e at index) = tree.Index e at index
expr_layer (layer.Call e at arguments) = tree.Call e at (arguments_of arguments)
expr_layer (layer.Member e op at name) = tree.Member e op at name
expr_layer (layer.Postfix e step at) = tree.Postfix e step at
expr_layer (layer.Prefix op at e) = tree.Prefix op at e
expr_layer (layer.SizeOfType at paren type) = tree.SizeOfType at paren type
expr_layer (layer.Cast at type e) = tree.Cast at type e
expr_layer (layer.Infix op left at right) = tree.Infix op left at right
expr_layer (layer.Conditional test at then_ else_) = tree.Conditional test at then_ else_
expr_layer (layer.Assign op left at right) = tree.Assign op left at right
expr_layer (layer.Comma left right) = tree.Comma left right

abbrev pub part_layer : Layer layer.Part-F → tree.Parts → tree.Parts
part_layer (layer.Array at words size) before = array_of before at words size
part_layer (layer.Function at parameters) before = tree.AndFunction before at (added tree.NoParameter parameters)

abbrev pub specifier_layer : Layer layer.Specifier-F → tree.Specifier
specifier_layer (layer.Keyword word) = tree.Keyword word
specifier_layer (layer.Typedef name) = tree.Typedef name
specifier_layer (layer.Tagged kind at tag) = tree.Tagged kind at tag
specifier_layer (layer.Aggregate kind at tag brace members) = tree.Aggregate kind at tag brace (added tree.NoMember members)
specifier_layer (layer.Enum at tag) = tree.Enum at tag
specifier_layer (layer.Enumeration at tag brace enumerators comma) = tree.Enumeration at tag brace (added tree.NoEnumerator enumerators) comma

abbrev pub declarator_layer : Layer layer.Declarator-F → tree.Declarator
declarator_layer d = tree.Declares d.stars d.core (added tree.NoPart d.parts)

abbrev pub members_layer : Layer layer.Members-F → tree.Members → tree.Members
members_layer row before = tree.AndMember before row.specifiers (member_declarators_of row.declarators)

abbrev pub parameter_layer : Layer layer.Parameter-F → tree.Parameters → tree.Parameters
parameter_layer parameter before = tree.AndParameter before parameter.specifiers (declared_of parameter.declarator)

abbrev pub specifiers_layer : Layer layer.Specifiers-F → tree.Specifiers
specifiers_layer specifiers = specifiers_of specifiers.list

abbrev pub type_name_layer : Layer layer.TypeName-F → tree.TypeName
type_name_layer type = tree.Named type.specifiers (declared_of type.declarator)

-- The views.

abbrev pub core_view : Core → tree.Core
core_view = fold-Core tree.Core (tree.Enumerators → tree.Enumerators) tree.Expr (tree.Parts → tree.Parts) tree.Specifier tree.Declarator
    (tree.Members → tree.Members) (tree.Parameters → tree.Parameters) tree.Specifiers tree.TypeName
    core_layer enumerator_layer expr_layer part_layer specifier_layer declarator_layer members_layer parameter_layer specifiers_layer type_name_layer

abbrev pub enumerator_view : Enumerator → tree.Enumerators → tree.Enumerators
enumerator_view = fold-Enumerator tree.Core (tree.Enumerators → tree.Enumerators) tree.Expr (tree.Parts → tree.Parts) tree.Specifier tree.Declarator
    (tree.Members → tree.Members) (tree.Parameters → tree.Parameters) tree.Specifiers tree.TypeName
    core_layer enumerator_layer expr_layer part_layer specifier_layer declarator_layer members_layer parameter_layer specifiers_layer type_name_layer

abbrev pub expr_view : Expr → tree.Expr
expr_view = fold-Expr tree.Core (tree.Enumerators → tree.Enumerators) tree.Expr (tree.Parts → tree.Parts) tree.Specifier tree.Declarator
    (tree.Members → tree.Members) (tree.Parameters → tree.Parameters) tree.Specifiers tree.TypeName
    core_layer enumerator_layer expr_layer part_layer specifier_layer declarator_layer members_layer parameter_layer specifiers_layer type_name_layer

abbrev pub part_view : Part → tree.Parts → tree.Parts
part_view = fold-Part tree.Core (tree.Enumerators → tree.Enumerators) tree.Expr (tree.Parts → tree.Parts) tree.Specifier tree.Declarator
    (tree.Members → tree.Members) (tree.Parameters → tree.Parameters) tree.Specifiers tree.TypeName
    core_layer enumerator_layer expr_layer part_layer specifier_layer declarator_layer members_layer parameter_layer specifiers_layer type_name_layer

abbrev pub specifier_view : Specifier → tree.Specifier
specifier_view = fold-Specifier tree.Core (tree.Enumerators → tree.Enumerators) tree.Expr (tree.Parts → tree.Parts) tree.Specifier tree.Declarator
    (tree.Members → tree.Members) (tree.Parameters → tree.Parameters) tree.Specifiers tree.TypeName
    core_layer enumerator_layer expr_layer part_layer specifier_layer declarator_layer members_layer parameter_layer specifiers_layer type_name_layer

abbrev pub declarator_view : Declarator → tree.Declarator
declarator_view = fold-Declarator tree.Core (tree.Enumerators → tree.Enumerators) tree.Expr (tree.Parts → tree.Parts) tree.Specifier tree.Declarator
    (tree.Members → tree.Members) (tree.Parameters → tree.Parameters) tree.Specifiers tree.TypeName
    core_layer enumerator_layer expr_layer part_layer specifier_layer declarator_layer members_layer parameter_layer specifiers_layer type_name_layer

abbrev pub members_view : Members → tree.Members → tree.Members
members_view = fold-Members tree.Core (tree.Enumerators → tree.Enumerators) tree.Expr (tree.Parts → tree.Parts) tree.Specifier tree.Declarator
    (tree.Members → tree.Members) (tree.Parameters → tree.Parameters) tree.Specifiers tree.TypeName
    core_layer enumerator_layer expr_layer part_layer specifier_layer declarator_layer members_layer parameter_layer specifiers_layer type_name_layer

abbrev pub parameter_view : Parameter → tree.Parameters → tree.Parameters
parameter_view = fold-Parameter tree.Core (tree.Enumerators → tree.Enumerators) tree.Expr (tree.Parts → tree.Parts) tree.Specifier tree.Declarator
    (tree.Members → tree.Members) (tree.Parameters → tree.Parameters) tree.Specifiers tree.TypeName
    core_layer enumerator_layer expr_layer part_layer specifier_layer declarator_layer members_layer parameter_layer specifiers_layer type_name_layer

abbrev pub specifiers_view : Specifiers → tree.Specifiers
specifiers_view = fold-Specifiers tree.Core (tree.Enumerators → tree.Enumerators) tree.Expr (tree.Parts → tree.Parts) tree.Specifier tree.Declarator
    (tree.Members → tree.Members) (tree.Parameters → tree.Parameters) tree.Specifiers tree.TypeName
    core_layer enumerator_layer expr_layer part_layer specifier_layer declarator_layer members_layer parameter_layer specifiers_layer type_name_layer

abbrev pub type_name_view : TypeName → tree.TypeName
type_name_view = fold-TypeName tree.Core (tree.Enumerators → tree.Enumerators) tree.Expr (tree.Parts → tree.Parts) tree.Specifier tree.Declarator
    (tree.Members → tree.Members) (tree.Parameters → tree.Parameters) tree.Specifiers tree.TypeName
    core_layer enumerator_layer expr_layer part_layer specifier_layer declarator_layer members_layer parameter_layer specifiers_layer type_name_layer
