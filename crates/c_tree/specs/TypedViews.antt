-- The code's typed tree as plain data, by one fold.
use Rattle.std.specs.Prelude.{List, map, fold, Option, Some, None}
use Rattle.c_tree.specs.TypedTree as typed
use Rattle.c_tree.specs.Views.{added}
use Rattle.c_tree.specs.declared.typed_expr.TypedCore.TheOpen as layer
use Rattle.c_tree.specs.declared.typed_expr.TypedCore.TheFolds.{fold-TypedCore, fold-TypedEnumerator, fold-TypedExpr, fold-TypedPart, fold-TypedPlace, fold-TypedSpecifier, fold-TypedDeclarator, fold-TypedForm, fold-TypedMembers, fold-TypedParameter, fold-TypedSpecifiers, fold-TypedTypeName}
use Rattle.c_tree.specs.declared.typed_expr.TypedCore.{TypedCore}
use Rattle.c_tree.specs.declared.typed_expr.TypedEnumerator.{TypedEnumerator}
use Rattle.c_tree.specs.declared.typed_expr.TypedExpr.{TypedExpr}
use Rattle.c_tree.specs.declared.typed_expr.TypedPart.{TypedPart}
use Rattle.c_tree.specs.declared.typed_expr.TypedPlace.{TypedPlace}
use Rattle.c_tree.specs.declared.typed_expr.TypedSpecifier.{TypedSpecifier}
use Rattle.c_tree.specs.declared.typed_expr.TypedDeclarator.{TypedDeclarator}
use Rattle.c_tree.specs.declared.typed_expr.TypedForm.{TypedForm}
use Rattle.c_tree.specs.declared.typed_expr.TypedMembers.{TypedMembers}
use Rattle.c_tree.specs.declared.typed_expr.TypedParameter.{TypedParameter}
use Rattle.c_tree.specs.declared.typed_expr.TypedSpecifiers.{TypedSpecifiers}
use Rattle.c_tree.specs.declared.typed_expr.TypedTypeName.{TypedTypeName}

abbrev pub typed_arguments_of : List typed.TypedExpr → typed.TypedArguments
typed_arguments_of es = fold typed.AndArgument typed.NoArgument es

abbrev pub typed_specifiers_of : List typed.TypedSpecifier → typed.TypedSpecifierList
typed_specifiers_of specifiers = fold typed.AndSpecifier typed.NoSpecifier specifiers

abbrev pub typed_member_declarators_of : List typed.TypedDeclarator → typed.TypedMemberDeclarators
typed_member_declarators_of declarators = fold typed.AndDeclarator typed.NoDeclarator declarators

abbrev pub typed_declared_of : Option typed.TypedForm → typed.TypedDeclared
typed_declared_of None = typed.NotDeclared
typed_declared_of (Some form) = typed.DeclaredBy form

-- One level, with what is seen of each child in its place.

abbrev Layer : (Type 0 → Type 0 → Type 0 → Type 0 → Type 0 → Type 0 → Type 0 → Type 0 → Type 0 → Type 0 → Type 0 → Type 0 → Type 0) → Type 0
Layer L = L typed.TypedCore (typed.TypedEnumerators → typed.TypedEnumerators) typed.TypedExpr (typed.TypedParts → typed.TypedParts) typed.TypedPlace typed.TypedSpecifier typed.TypedDeclarator typed.TypedForm (typed.TypedMembers → typed.TypedMembers) (typed.TypedParameters → typed.TypedParameters) typed.TypedSpecifiers typed.TypedTypeName

abbrev pub typed_core_layer : Layer layer.TypedCore-F → typed.TypedCore
typed_core_layer (layer.Names name home) = typed.Names name home
typed_core_layer layer.Unnamed = typed.Unnamed
typed_core_layer (layer.Nested at form) = typed.Nested at form

abbrev pub typed_enumerator_layer : Layer layer.TypedEnumerator-F → typed.TypedEnumerators → typed.TypedEnumerators
typed_enumerator_layer (layer.Plain name value) before = typed.AndEnumerator before name value
typed_enumerator_layer (layer.Valued name at e value) before = typed.AndValued before name at e value

abbrev pub typed_expr_layer : Layer layer.TypedExpr-F → typed.TypedExpr
typed_expr_layer (layer.Integer of value at t) = typed.Integer of value at t
typed_expr_layer (layer.Character value at t) = typed.Character value at t
typed_expr_layer (layer.Enumerator name value t) = typed.Enumerator name value t
typed_expr_layer (layer.FunctionName name number n t) = typed.FunctionName name number n t
typed_expr_layer (layer.RuntimeName name function t) = typed.RuntimeName name function t
typed_expr_layer (layer.Paren at e) = typed.Paren at e
typed_expr_layer (layer.Read p) = typed.Read p
typed_expr_layer (layer.Unread p) = typed.Unread p
typed_expr_layer (layer.Decay p n t) = typed.Decay p n t
typed_expr_layer (layer.Convert which at t e) = typed.Convert which at t e
typed_expr_layer (layer.Cast which at to e) = typed.Cast which at to e
typed_expr_layer (layer.AddressOf at p n t) = typed.AddressOf at p n t
typed_expr_layer (layer.AddressOfElement at p t) = typed.AddressOfElement at p t
typed_expr_layer (layer.AddressOfFunction at e) = typed.AddressOfFunction at e
typed_expr_layer (layer.FunctionAt at e) = typed.FunctionAt at e
typed_expr_layer (layer.Prefix operator at e t) = typed.Prefix operator at e t
typed_expr_layer (layer.SizeOfPlace at p size t) = typed.SizeOfPlace at p size t
typed_expr_layer (layer.SizeOfValue at e size t) = typed.SizeOfValue at e size t
typed_expr_layer (layer.SizeOfType at paren name size t) = typed.SizeOfType at paren name size t
typed_expr_layer (layer.StepBefore operator at p) = typed.StepBefore operator at p
typed_expr_layer (layer.StepAfter p operator at) = typed.StepAfter p operator at
typed_expr_layer (layer.Arithmetic operator a at b t) = typed.Arithmetic operator a at b t
typed_expr_layer (layer.Moved operator which a at b t) = typed.Moved operator which a at b t
typed_expr_layer (layer.Difference a at b t) = typed.Difference a at b t
typed_expr_layer (layer.Compared operator a at b t) = typed.Compared operator a at b t
typed_expr_layer (layer.Logical operator a at b t) = typed.Logical operator a at b t
typed_expr_layer (layer.Conditional c at a b t) = typed.Conditional c at a b t
typed_expr_layer (layer.PointerConditional c at a b n t) = typed.PointerConditional c at a b n t
typed_expr_layer (layer.Comma a b) = typed.Comma a b
typed_expr_layer (layer.Assign p at e) = typed.Assign p at e
typed_expr_layer (layer.AssignWith operator p at e t) = typed.AssignWith operator p at e t
typed_expr_layer (layer.Call f at arguments t) = typed.Call f at (typed_arguments_of arguments) t
typed_expr_layer (layer.CallRuntime function f at arguments t) = typed.CallRuntime function f at (typed_arguments_of arguments) t
typed_expr_layer (layer.Allocate function f at arguments n t) = typed.Allocate function f at (typed_arguments_of arguments) n t
typed_expr_layer (layer.AllocateFor function f at arguments t) = typed.AllocateFor function f at (typed_arguments_of arguments) t

abbrev pub typed_part_layer : Layer layer.TypedPart-F → typed.TypedParts → typed.TypedParts
typed_part_layer (layer.Array at words) before = typed.AndArray before at words
typed_part_layer (layer.SizedArray at words e size) before = typed.AndSizedArray before at words e size
typed_part_layer (layer.Function at parameters) before = typed.AndFunction before at (added typed.NoParameter parameters)

abbrev pub typed_place_layer : Layer layer.TypedPlace-F → typed.TypedPlace
typed_place_layer (layer.Variable name home t) = typed.Variable name home t
typed_place_layer (layer.String pieces home t) = typed.String pieces home t
typed_place_layer (layer.ParenPlace at p) = typed.ParenPlace at p
typed_place_layer (layer.Target at e t) = typed.Target at e t
typed_place_layer (layer.Element which a at b t) = typed.Element which a at b t
typed_place_layer (layer.Member p at name i n t) = typed.Member p at name i n t
typed_place_layer (layer.MemberAt e at name i n t) = typed.MemberAt e at name i n t
typed_place_layer (layer.StructAssign p at q) = typed.StructAssign p at q
typed_place_layer (layer.StructConditional c at p q) = typed.StructConditional c at p q
typed_place_layer (layer.StructComma e p) = typed.StructComma e p

abbrev pub typed_specifier_layer : Layer layer.TypedSpecifier-F → typed.TypedSpecifier
typed_specifier_layer (layer.Keyword word) = typed.Keyword word
typed_specifier_layer (layer.Typedef name t) = typed.Typedef name t
typed_specifier_layer (layer.Tagged kind at name t) = typed.Tagged kind at name t
typed_specifier_layer (layer.Aggregate kind at name brace members t) = typed.Aggregate kind at name brace (added typed.NoMember members) t
typed_specifier_layer (layer.Enum at name) = typed.Enum at name
typed_specifier_layer (layer.Enumeration at name brace enumerators comma) = typed.Enumeration at name brace (added typed.NoEnumerator enumerators) comma

abbrev pub typed_declarator_layer : Layer layer.TypedDeclarator-F → typed.TypedDeclarator
typed_declarator_layer one = typed.Declares one.form one.ty

abbrev pub typed_form_layer : Layer layer.TypedForm-F → typed.TypedForm
typed_form_layer one = typed.Form one.stars one.core (added typed.NoPart one.parts)

abbrev pub typed_members_layer : Layer layer.TypedMembers-F → typed.TypedMembers → typed.TypedMembers
typed_members_layer one before = typed.AndMember before one.specifiers (typed_member_declarators_of one.declarators)

abbrev pub typed_parameter_layer : Layer layer.TypedParameter-F → typed.TypedParameters → typed.TypedParameters
typed_parameter_layer one before = typed.AndParameter before one.specifiers (typed_declared_of one.declarator) one.adjusted one.ty

abbrev pub typed_specifiers_layer : Layer layer.TypedSpecifiers-F → typed.TypedSpecifiers
typed_specifiers_layer one = typed.Specified (typed_specifiers_of one.list) one.ty

abbrev pub typed_type_name_layer : Layer layer.TypedTypeName-F → typed.TypedTypeName
typed_type_name_layer one = typed.Named one.specifiers (typed_declared_of one.declarator) one.ty

-- The views.

abbrev pub typed_core_view : TypedCore → typed.TypedCore
typed_core_view = fold-TypedCore typed.TypedCore (typed.TypedEnumerators → typed.TypedEnumerators) typed.TypedExpr (typed.TypedParts → typed.TypedParts) typed.TypedPlace typed.TypedSpecifier typed.TypedDeclarator typed.TypedForm (typed.TypedMembers → typed.TypedMembers) (typed.TypedParameters → typed.TypedParameters) typed.TypedSpecifiers typed.TypedTypeName
    typed_core_layer typed_enumerator_layer typed_expr_layer typed_part_layer typed_place_layer typed_specifier_layer typed_declarator_layer typed_form_layer typed_members_layer typed_parameter_layer typed_specifiers_layer typed_type_name_layer

abbrev pub typed_enumerator_view : TypedEnumerator → (typed.TypedEnumerators → typed.TypedEnumerators)
typed_enumerator_view = fold-TypedEnumerator typed.TypedCore (typed.TypedEnumerators → typed.TypedEnumerators) typed.TypedExpr (typed.TypedParts → typed.TypedParts) typed.TypedPlace typed.TypedSpecifier typed.TypedDeclarator typed.TypedForm (typed.TypedMembers → typed.TypedMembers) (typed.TypedParameters → typed.TypedParameters) typed.TypedSpecifiers typed.TypedTypeName
    typed_core_layer typed_enumerator_layer typed_expr_layer typed_part_layer typed_place_layer typed_specifier_layer typed_declarator_layer typed_form_layer typed_members_layer typed_parameter_layer typed_specifiers_layer typed_type_name_layer

abbrev pub typed_expr_view : TypedExpr → typed.TypedExpr
typed_expr_view = fold-TypedExpr typed.TypedCore (typed.TypedEnumerators → typed.TypedEnumerators) typed.TypedExpr (typed.TypedParts → typed.TypedParts) typed.TypedPlace typed.TypedSpecifier typed.TypedDeclarator typed.TypedForm (typed.TypedMembers → typed.TypedMembers) (typed.TypedParameters → typed.TypedParameters) typed.TypedSpecifiers typed.TypedTypeName
    typed_core_layer typed_enumerator_layer typed_expr_layer typed_part_layer typed_place_layer typed_specifier_layer typed_declarator_layer typed_form_layer typed_members_layer typed_parameter_layer typed_specifiers_layer typed_type_name_layer

abbrev pub typed_part_view : TypedPart → (typed.TypedParts → typed.TypedParts)
typed_part_view = fold-TypedPart typed.TypedCore (typed.TypedEnumerators → typed.TypedEnumerators) typed.TypedExpr (typed.TypedParts → typed.TypedParts) typed.TypedPlace typed.TypedSpecifier typed.TypedDeclarator typed.TypedForm (typed.TypedMembers → typed.TypedMembers) (typed.TypedParameters → typed.TypedParameters) typed.TypedSpecifiers typed.TypedTypeName
    typed_core_layer typed_enumerator_layer typed_expr_layer typed_part_layer typed_place_layer typed_specifier_layer typed_declarator_layer typed_form_layer typed_members_layer typed_parameter_layer typed_specifiers_layer typed_type_name_layer

abbrev pub typed_place_view : TypedPlace → typed.TypedPlace
typed_place_view = fold-TypedPlace typed.TypedCore (typed.TypedEnumerators → typed.TypedEnumerators) typed.TypedExpr (typed.TypedParts → typed.TypedParts) typed.TypedPlace typed.TypedSpecifier typed.TypedDeclarator typed.TypedForm (typed.TypedMembers → typed.TypedMembers) (typed.TypedParameters → typed.TypedParameters) typed.TypedSpecifiers typed.TypedTypeName
    typed_core_layer typed_enumerator_layer typed_expr_layer typed_part_layer typed_place_layer typed_specifier_layer typed_declarator_layer typed_form_layer typed_members_layer typed_parameter_layer typed_specifiers_layer typed_type_name_layer

abbrev pub typed_specifier_view : TypedSpecifier → typed.TypedSpecifier
typed_specifier_view = fold-TypedSpecifier typed.TypedCore (typed.TypedEnumerators → typed.TypedEnumerators) typed.TypedExpr (typed.TypedParts → typed.TypedParts) typed.TypedPlace typed.TypedSpecifier typed.TypedDeclarator typed.TypedForm (typed.TypedMembers → typed.TypedMembers) (typed.TypedParameters → typed.TypedParameters) typed.TypedSpecifiers typed.TypedTypeName
    typed_core_layer typed_enumerator_layer typed_expr_layer typed_part_layer typed_place_layer typed_specifier_layer typed_declarator_layer typed_form_layer typed_members_layer typed_parameter_layer typed_specifiers_layer typed_type_name_layer

abbrev pub typed_declarator_view : TypedDeclarator → typed.TypedDeclarator
typed_declarator_view = fold-TypedDeclarator typed.TypedCore (typed.TypedEnumerators → typed.TypedEnumerators) typed.TypedExpr (typed.TypedParts → typed.TypedParts) typed.TypedPlace typed.TypedSpecifier typed.TypedDeclarator typed.TypedForm (typed.TypedMembers → typed.TypedMembers) (typed.TypedParameters → typed.TypedParameters) typed.TypedSpecifiers typed.TypedTypeName
    typed_core_layer typed_enumerator_layer typed_expr_layer typed_part_layer typed_place_layer typed_specifier_layer typed_declarator_layer typed_form_layer typed_members_layer typed_parameter_layer typed_specifiers_layer typed_type_name_layer

abbrev pub typed_form_view : TypedForm → typed.TypedForm
typed_form_view = fold-TypedForm typed.TypedCore (typed.TypedEnumerators → typed.TypedEnumerators) typed.TypedExpr (typed.TypedParts → typed.TypedParts) typed.TypedPlace typed.TypedSpecifier typed.TypedDeclarator typed.TypedForm (typed.TypedMembers → typed.TypedMembers) (typed.TypedParameters → typed.TypedParameters) typed.TypedSpecifiers typed.TypedTypeName
    typed_core_layer typed_enumerator_layer typed_expr_layer typed_part_layer typed_place_layer typed_specifier_layer typed_declarator_layer typed_form_layer typed_members_layer typed_parameter_layer typed_specifiers_layer typed_type_name_layer

abbrev pub typed_members_view : TypedMembers → (typed.TypedMembers → typed.TypedMembers)
typed_members_view = fold-TypedMembers typed.TypedCore (typed.TypedEnumerators → typed.TypedEnumerators) typed.TypedExpr (typed.TypedParts → typed.TypedParts) typed.TypedPlace typed.TypedSpecifier typed.TypedDeclarator typed.TypedForm (typed.TypedMembers → typed.TypedMembers) (typed.TypedParameters → typed.TypedParameters) typed.TypedSpecifiers typed.TypedTypeName
    typed_core_layer typed_enumerator_layer typed_expr_layer typed_part_layer typed_place_layer typed_specifier_layer typed_declarator_layer typed_form_layer typed_members_layer typed_parameter_layer typed_specifiers_layer typed_type_name_layer

abbrev pub typed_parameter_view : TypedParameter → (typed.TypedParameters → typed.TypedParameters)
typed_parameter_view = fold-TypedParameter typed.TypedCore (typed.TypedEnumerators → typed.TypedEnumerators) typed.TypedExpr (typed.TypedParts → typed.TypedParts) typed.TypedPlace typed.TypedSpecifier typed.TypedDeclarator typed.TypedForm (typed.TypedMembers → typed.TypedMembers) (typed.TypedParameters → typed.TypedParameters) typed.TypedSpecifiers typed.TypedTypeName
    typed_core_layer typed_enumerator_layer typed_expr_layer typed_part_layer typed_place_layer typed_specifier_layer typed_declarator_layer typed_form_layer typed_members_layer typed_parameter_layer typed_specifiers_layer typed_type_name_layer

abbrev pub typed_specifiers_view : TypedSpecifiers → typed.TypedSpecifiers
typed_specifiers_view = fold-TypedSpecifiers typed.TypedCore (typed.TypedEnumerators → typed.TypedEnumerators) typed.TypedExpr (typed.TypedParts → typed.TypedParts) typed.TypedPlace typed.TypedSpecifier typed.TypedDeclarator typed.TypedForm (typed.TypedMembers → typed.TypedMembers) (typed.TypedParameters → typed.TypedParameters) typed.TypedSpecifiers typed.TypedTypeName
    typed_core_layer typed_enumerator_layer typed_expr_layer typed_part_layer typed_place_layer typed_specifier_layer typed_declarator_layer typed_form_layer typed_members_layer typed_parameter_layer typed_specifiers_layer typed_type_name_layer

abbrev pub typed_type_name_view : TypedTypeName → typed.TypedTypeName
typed_type_name_view = fold-TypedTypeName typed.TypedCore (typed.TypedEnumerators → typed.TypedEnumerators) typed.TypedExpr (typed.TypedParts → typed.TypedParts) typed.TypedPlace typed.TypedSpecifier typed.TypedDeclarator typed.TypedForm (typed.TypedMembers → typed.TypedMembers) (typed.TypedParameters → typed.TypedParameters) typed.TypedSpecifiers typed.TypedTypeName
    typed_core_layer typed_enumerator_layer typed_expr_layer typed_part_layer typed_place_layer typed_specifier_layer typed_declarator_layer typed_form_layer typed_members_layer typed_parameter_layer typed_specifiers_layer typed_type_name_layer

-- parameters as plain data
abbrev pub parameters_seen : List TypedParameter → typed.TypedParameters
parameters_seen all = added typed.NoParameter (map typed_parameter_view all)
