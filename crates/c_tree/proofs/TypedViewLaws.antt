-- What is seen of each variant of the code's typed tree.
use Rattle.std.proofs.Common.{◌≡◌, ap, sym, ◌∙◌, ℕ, ℤ, Bool, List, map, Option, Some, None, option_map}
use Rattle.cc_base.specs.declared.place.Place.{Place}
use Rattle.cc_base.specs.declared.number.NodeId.{NodeId}
use Rattle.cc_base.specs.declared.number.TypeId.{TypeId}
use Rattle.c_lexer.specs.declared.number.IntegerType.{IntegerType}
use Rattle.c_tree.specs.TypedTree as typed
use Rattle.c_tree.specs.Views.{added}
use Rattle.c_tree.specs.TypedViews.{typed_core_view, typed_enumerator_view, typed_expr_view, typed_part_view, typed_place_view, typed_specifier_view, typed_declarator_view, typed_form_view, typed_members_view, typed_parameter_view, typed_specifiers_view, typed_type_name_view, typed_core_layer, typed_enumerator_layer, typed_expr_layer, typed_part_layer, typed_place_layer, typed_specifier_layer, typed_declarator_layer, typed_form_layer, typed_members_layer, typed_parameter_layer, typed_specifiers_layer, typed_type_name_layer, typed_arguments_of, typed_specifiers_of, typed_member_declarators_of, typed_declared_of}
use Rattle.c_tree.specs.declared.leaf.Identifier.{Identifier}
use Rattle.c_tree.specs.declared.leaf.StringPiece.{StringPiece}
use Rattle.c_tree.specs.declared.leaf.Word.{Word}
use Rattle.c_tree.specs.declared.operator.AggregateKind.{AggregateKind}
use Rattle.c_tree.specs.declared.operator.Assignment.{Assignment}
use Rattle.c_tree.specs.declared.operator.Binary.{Binary}
use Rattle.c_tree.specs.declared.operator.Step.{Step}
use Rattle.c_tree.specs.declared.operator.Unary.{Unary}
use Rattle.c_tree.specs.declared.typed_word.Adjusted.{Adjusted}
use Rattle.c_tree.specs.declared.typed_word.Conversion.{Conversion}
use Rattle.c_tree.specs.declared.typed_word.Home.{Home}
use Rattle.c_tree.specs.declared.typed_word.Runtime.{Runtime}
use Rattle.c_tree.specs.declared.typed_word.Side.{Side}
use Rattle.c_tree.specs.declared.typed_word.TypedStar.{TypedStar}
use Rattle.c_tree.specs.declared.typed_expr.TypedCore.TheOpen as layer
use Rattle.c_tree.specs.declared.typed_expr.TypedCore.TheFolds.{fold-roll-TypedCore, fold-roll-TypedEnumerator, fold-roll-TypedExpr, fold-roll-TypedPart, fold-roll-TypedPlace, fold-roll-TypedSpecifier, fold-roll-TypedDeclarator, fold-roll-TypedForm, fold-roll-TypedMembers, fold-roll-TypedParameter, fold-roll-TypedSpecifiers, fold-roll-TypedTypeName}
use Rattle.c_tree.specs.declared.typed_expr.TypedCore.{TypedCore}
use Rattle.c_tree.specs.declared.typed_expr.TypedCore.TheVariants as core
use Rattle.c_tree.specs.declared.typed_expr.TypedEnumerator.{TypedEnumerator}
use Rattle.c_tree.specs.declared.typed_expr.TypedEnumerator.TheVariants as enumerator
use Rattle.c_tree.specs.declared.typed_expr.TypedExpr.{TypedExpr}
use Rattle.c_tree.specs.declared.typed_expr.TypedExpr.TheVariants as expr
use Rattle.c_tree.specs.declared.typed_expr.TypedPart.{TypedPart}
use Rattle.c_tree.specs.declared.typed_expr.TypedPart.TheVariants as part
use Rattle.c_tree.specs.declared.typed_expr.TypedPlace.{TypedPlace}
use Rattle.c_tree.specs.declared.typed_expr.TypedPlace.TheVariants as place
use Rattle.c_tree.specs.declared.typed_expr.TypedSpecifier.{TypedSpecifier}
use Rattle.c_tree.specs.declared.typed_expr.TypedSpecifier.TheVariants as specifier
use Rattle.c_tree.specs.declared.typed_expr.TypedDeclarator.{TypedDeclarator, roll-TypedDeclarator}
use Rattle.c_tree.specs.declared.typed_expr.TypedForm.{TypedForm, roll-TypedForm}
use Rattle.c_tree.specs.declared.typed_expr.TypedMembers.{TypedMembers, roll-TypedMembers}
use Rattle.c_tree.specs.declared.typed_expr.TypedParameter.{TypedParameter, roll-TypedParameter}
use Rattle.c_tree.specs.declared.typed_expr.TypedSpecifiers.{TypedSpecifiers, roll-TypedSpecifiers}
use Rattle.c_tree.specs.declared.typed_expr.TypedTypeName.{TypedTypeName, roll-TypedTypeName}

pub typed_core-Names : (name : Identifier) (home : Home) → typed_core_view (core.Names name home) ≡ typed.Names name home
typed_core-Names name home = ap typed_core_view (sym (core.rolls-Names name home)) ∙ fold-roll-TypedCore typed.TypedCore (typed.TypedEnumerators → typed.TypedEnumerators) typed.TypedExpr (typed.TypedParts → typed.TypedParts) typed.TypedPlace typed.TypedSpecifier typed.TypedDeclarator typed.TypedForm (typed.TypedMembers → typed.TypedMembers) (typed.TypedParameters → typed.TypedParameters) typed.TypedSpecifiers typed.TypedTypeName
    typed_core_layer typed_enumerator_layer typed_expr_layer typed_part_layer typed_place_layer typed_specifier_layer typed_declarator_layer typed_form_layer typed_members_layer typed_parameter_layer typed_specifiers_layer typed_type_name_layer (layer.Names name home)

pub typed_core-Unnamed : typed_core_view core.Unnamed ≡ typed.Unnamed
typed_core-Unnamed = ap typed_core_view (sym (core.rolls-Unnamed)) ∙ fold-roll-TypedCore typed.TypedCore (typed.TypedEnumerators → typed.TypedEnumerators) typed.TypedExpr (typed.TypedParts → typed.TypedParts) typed.TypedPlace typed.TypedSpecifier typed.TypedDeclarator typed.TypedForm (typed.TypedMembers → typed.TypedMembers) (typed.TypedParameters → typed.TypedParameters) typed.TypedSpecifiers typed.TypedTypeName
    typed_core_layer typed_enumerator_layer typed_expr_layer typed_part_layer typed_place_layer typed_specifier_layer typed_declarator_layer typed_form_layer typed_members_layer typed_parameter_layer typed_specifiers_layer typed_type_name_layer layer.Unnamed

pub typed_core-Nested : (at : Place) (form : TypedForm) → typed_core_view (core.Nested at form) ≡ typed.Nested at (typed_form_view form)
typed_core-Nested at form = ap typed_core_view (sym (core.rolls-Nested at form)) ∙ fold-roll-TypedCore typed.TypedCore (typed.TypedEnumerators → typed.TypedEnumerators) typed.TypedExpr (typed.TypedParts → typed.TypedParts) typed.TypedPlace typed.TypedSpecifier typed.TypedDeclarator typed.TypedForm (typed.TypedMembers → typed.TypedMembers) (typed.TypedParameters → typed.TypedParameters) typed.TypedSpecifiers typed.TypedTypeName
    typed_core_layer typed_enumerator_layer typed_expr_layer typed_part_layer typed_place_layer typed_specifier_layer typed_declarator_layer typed_form_layer typed_members_layer typed_parameter_layer typed_specifiers_layer typed_type_name_layer (layer.Nested at form)

pub typed_enumerator-Plain : (name : Identifier) (value : ℤ) → typed_enumerator_view (enumerator.Plain name value) ≡ (λ before. typed.AndEnumerator before name value)
typed_enumerator-Plain name value = ap typed_enumerator_view (sym (enumerator.rolls-Plain name value)) ∙ fold-roll-TypedEnumerator typed.TypedCore (typed.TypedEnumerators → typed.TypedEnumerators) typed.TypedExpr (typed.TypedParts → typed.TypedParts) typed.TypedPlace typed.TypedSpecifier typed.TypedDeclarator typed.TypedForm (typed.TypedMembers → typed.TypedMembers) (typed.TypedParameters → typed.TypedParameters) typed.TypedSpecifiers typed.TypedTypeName
    typed_core_layer typed_enumerator_layer typed_expr_layer typed_part_layer typed_place_layer typed_specifier_layer typed_declarator_layer typed_form_layer typed_members_layer typed_parameter_layer typed_specifiers_layer typed_type_name_layer (layer.Plain name value)

pub typed_enumerator-Valued : (name : Identifier) (at : Place) (e : TypedExpr) (value : ℤ) → typed_enumerator_view (enumerator.Valued name at e value) ≡ (λ before. typed.AndValued before name at (typed_expr_view e) value)
typed_enumerator-Valued name at e value = ap typed_enumerator_view (sym (enumerator.rolls-Valued name at e value)) ∙ fold-roll-TypedEnumerator typed.TypedCore (typed.TypedEnumerators → typed.TypedEnumerators) typed.TypedExpr (typed.TypedParts → typed.TypedParts) typed.TypedPlace typed.TypedSpecifier typed.TypedDeclarator typed.TypedForm (typed.TypedMembers → typed.TypedMembers) (typed.TypedParameters → typed.TypedParameters) typed.TypedSpecifiers typed.TypedTypeName
    typed_core_layer typed_enumerator_layer typed_expr_layer typed_part_layer typed_place_layer typed_specifier_layer typed_declarator_layer typed_form_layer typed_members_layer typed_parameter_layer typed_specifiers_layer typed_type_name_layer (layer.Valued name at e value)

pub typed_expr-Integer : (of : IntegerType) (value : ℕ) (at : Place) (t : TypeId) → typed_expr_view (expr.Integer of value at t) ≡ typed.Integer of value at t
typed_expr-Integer of value at t = ap typed_expr_view (sym (expr.rolls-Integer of value at t)) ∙ fold-roll-TypedExpr typed.TypedCore (typed.TypedEnumerators → typed.TypedEnumerators) typed.TypedExpr (typed.TypedParts → typed.TypedParts) typed.TypedPlace typed.TypedSpecifier typed.TypedDeclarator typed.TypedForm (typed.TypedMembers → typed.TypedMembers) (typed.TypedParameters → typed.TypedParameters) typed.TypedSpecifiers typed.TypedTypeName
    typed_core_layer typed_enumerator_layer typed_expr_layer typed_part_layer typed_place_layer typed_specifier_layer typed_declarator_layer typed_form_layer typed_members_layer typed_parameter_layer typed_specifiers_layer typed_type_name_layer (layer.Integer of value at t)

pub typed_expr-Character : (value : ℤ) (at : Place) (t : TypeId) → typed_expr_view (expr.Character value at t) ≡ typed.Character value at t
typed_expr-Character value at t = ap typed_expr_view (sym (expr.rolls-Character value at t)) ∙ fold-roll-TypedExpr typed.TypedCore (typed.TypedEnumerators → typed.TypedEnumerators) typed.TypedExpr (typed.TypedParts → typed.TypedParts) typed.TypedPlace typed.TypedSpecifier typed.TypedDeclarator typed.TypedForm (typed.TypedMembers → typed.TypedMembers) (typed.TypedParameters → typed.TypedParameters) typed.TypedSpecifiers typed.TypedTypeName
    typed_core_layer typed_enumerator_layer typed_expr_layer typed_part_layer typed_place_layer typed_specifier_layer typed_declarator_layer typed_form_layer typed_members_layer typed_parameter_layer typed_specifiers_layer typed_type_name_layer (layer.Character value at t)

pub typed_expr-Enumerator : (name : Identifier) (value : ℤ) (t : TypeId) → typed_expr_view (expr.Enumerator name value t) ≡ typed.Enumerator name value t
typed_expr-Enumerator name value t = ap typed_expr_view (sym (expr.rolls-Enumerator name value t)) ∙ fold-roll-TypedExpr typed.TypedCore (typed.TypedEnumerators → typed.TypedEnumerators) typed.TypedExpr (typed.TypedParts → typed.TypedParts) typed.TypedPlace typed.TypedSpecifier typed.TypedDeclarator typed.TypedForm (typed.TypedMembers → typed.TypedMembers) (typed.TypedParameters → typed.TypedParameters) typed.TypedSpecifiers typed.TypedTypeName
    typed_core_layer typed_enumerator_layer typed_expr_layer typed_part_layer typed_place_layer typed_specifier_layer typed_declarator_layer typed_form_layer typed_members_layer typed_parameter_layer typed_specifiers_layer typed_type_name_layer (layer.Enumerator name value t)

pub typed_expr-FunctionName : (name : Identifier) (number : ℕ) (n : NodeId) (t : TypeId) → typed_expr_view (expr.FunctionName name number n t) ≡ typed.FunctionName name number n t
typed_expr-FunctionName name number n t = ap typed_expr_view (sym (expr.rolls-FunctionName name number n t)) ∙ fold-roll-TypedExpr typed.TypedCore (typed.TypedEnumerators → typed.TypedEnumerators) typed.TypedExpr (typed.TypedParts → typed.TypedParts) typed.TypedPlace typed.TypedSpecifier typed.TypedDeclarator typed.TypedForm (typed.TypedMembers → typed.TypedMembers) (typed.TypedParameters → typed.TypedParameters) typed.TypedSpecifiers typed.TypedTypeName
    typed_core_layer typed_enumerator_layer typed_expr_layer typed_part_layer typed_place_layer typed_specifier_layer typed_declarator_layer typed_form_layer typed_members_layer typed_parameter_layer typed_specifiers_layer typed_type_name_layer (layer.FunctionName name number n t)

pub typed_expr-RuntimeName : (name : Identifier) (function : Runtime) (t : TypeId) → typed_expr_view (expr.RuntimeName name function t) ≡ typed.RuntimeName name function t
typed_expr-RuntimeName name function t = ap typed_expr_view (sym (expr.rolls-RuntimeName name function t)) ∙ fold-roll-TypedExpr typed.TypedCore (typed.TypedEnumerators → typed.TypedEnumerators) typed.TypedExpr (typed.TypedParts → typed.TypedParts) typed.TypedPlace typed.TypedSpecifier typed.TypedDeclarator typed.TypedForm (typed.TypedMembers → typed.TypedMembers) (typed.TypedParameters → typed.TypedParameters) typed.TypedSpecifiers typed.TypedTypeName
    typed_core_layer typed_enumerator_layer typed_expr_layer typed_part_layer typed_place_layer typed_specifier_layer typed_declarator_layer typed_form_layer typed_members_layer typed_parameter_layer typed_specifiers_layer typed_type_name_layer (layer.RuntimeName name function t)

pub typed_expr-Paren : (at : Place) (e : TypedExpr) → typed_expr_view (expr.Paren at e) ≡ typed.Paren at (typed_expr_view e)
typed_expr-Paren at e = ap typed_expr_view (sym (expr.rolls-Paren at e)) ∙ fold-roll-TypedExpr typed.TypedCore (typed.TypedEnumerators → typed.TypedEnumerators) typed.TypedExpr (typed.TypedParts → typed.TypedParts) typed.TypedPlace typed.TypedSpecifier typed.TypedDeclarator typed.TypedForm (typed.TypedMembers → typed.TypedMembers) (typed.TypedParameters → typed.TypedParameters) typed.TypedSpecifiers typed.TypedTypeName
    typed_core_layer typed_enumerator_layer typed_expr_layer typed_part_layer typed_place_layer typed_specifier_layer typed_declarator_layer typed_form_layer typed_members_layer typed_parameter_layer typed_specifiers_layer typed_type_name_layer (layer.Paren at e)

pub typed_expr-Read : (p : TypedPlace) → typed_expr_view (expr.Read p) ≡ typed.Read (typed_place_view p)
typed_expr-Read p = ap typed_expr_view (sym (expr.rolls-Read p)) ∙ fold-roll-TypedExpr typed.TypedCore (typed.TypedEnumerators → typed.TypedEnumerators) typed.TypedExpr (typed.TypedParts → typed.TypedParts) typed.TypedPlace typed.TypedSpecifier typed.TypedDeclarator typed.TypedForm (typed.TypedMembers → typed.TypedMembers) (typed.TypedParameters → typed.TypedParameters) typed.TypedSpecifiers typed.TypedTypeName
    typed_core_layer typed_enumerator_layer typed_expr_layer typed_part_layer typed_place_layer typed_specifier_layer typed_declarator_layer typed_form_layer typed_members_layer typed_parameter_layer typed_specifiers_layer typed_type_name_layer (layer.Read p)

pub typed_expr-Unread : (p : TypedPlace) → typed_expr_view (expr.Unread p) ≡ typed.Unread (typed_place_view p)
typed_expr-Unread p = ap typed_expr_view (sym (expr.rolls-Unread p)) ∙ fold-roll-TypedExpr typed.TypedCore (typed.TypedEnumerators → typed.TypedEnumerators) typed.TypedExpr (typed.TypedParts → typed.TypedParts) typed.TypedPlace typed.TypedSpecifier typed.TypedDeclarator typed.TypedForm (typed.TypedMembers → typed.TypedMembers) (typed.TypedParameters → typed.TypedParameters) typed.TypedSpecifiers typed.TypedTypeName
    typed_core_layer typed_enumerator_layer typed_expr_layer typed_part_layer typed_place_layer typed_specifier_layer typed_declarator_layer typed_form_layer typed_members_layer typed_parameter_layer typed_specifiers_layer typed_type_name_layer (layer.Unread p)

pub typed_expr-Decay : (p : TypedPlace) (n : NodeId) (t : TypeId) → typed_expr_view (expr.Decay p n t) ≡ typed.Decay (typed_place_view p) n t
typed_expr-Decay p n t = ap typed_expr_view (sym (expr.rolls-Decay p n t)) ∙ fold-roll-TypedExpr typed.TypedCore (typed.TypedEnumerators → typed.TypedEnumerators) typed.TypedExpr (typed.TypedParts → typed.TypedParts) typed.TypedPlace typed.TypedSpecifier typed.TypedDeclarator typed.TypedForm (typed.TypedMembers → typed.TypedMembers) (typed.TypedParameters → typed.TypedParameters) typed.TypedSpecifiers typed.TypedTypeName
    typed_core_layer typed_enumerator_layer typed_expr_layer typed_part_layer typed_place_layer typed_specifier_layer typed_declarator_layer typed_form_layer typed_members_layer typed_parameter_layer typed_specifiers_layer typed_type_name_layer (layer.Decay p n t)

pub typed_expr-Convert : (which : Conversion) (at : Place) (t : TypeId) (e : TypedExpr) → typed_expr_view (expr.Convert which at t e) ≡ typed.Convert which at t (typed_expr_view e)
typed_expr-Convert which at t e = ap typed_expr_view (sym (expr.rolls-Convert which at t e)) ∙ fold-roll-TypedExpr typed.TypedCore (typed.TypedEnumerators → typed.TypedEnumerators) typed.TypedExpr (typed.TypedParts → typed.TypedParts) typed.TypedPlace typed.TypedSpecifier typed.TypedDeclarator typed.TypedForm (typed.TypedMembers → typed.TypedMembers) (typed.TypedParameters → typed.TypedParameters) typed.TypedSpecifiers typed.TypedTypeName
    typed_core_layer typed_enumerator_layer typed_expr_layer typed_part_layer typed_place_layer typed_specifier_layer typed_declarator_layer typed_form_layer typed_members_layer typed_parameter_layer typed_specifiers_layer typed_type_name_layer (layer.Convert which at t e)

pub typed_expr-Cast : (which : Conversion) (at : Place) (to : TypedTypeName) (e : TypedExpr) → typed_expr_view (expr.Cast which at to e) ≡ typed.Cast which at (typed_type_name_view to) (typed_expr_view e)
typed_expr-Cast which at to e = ap typed_expr_view (sym (expr.rolls-Cast which at to e)) ∙ fold-roll-TypedExpr typed.TypedCore (typed.TypedEnumerators → typed.TypedEnumerators) typed.TypedExpr (typed.TypedParts → typed.TypedParts) typed.TypedPlace typed.TypedSpecifier typed.TypedDeclarator typed.TypedForm (typed.TypedMembers → typed.TypedMembers) (typed.TypedParameters → typed.TypedParameters) typed.TypedSpecifiers typed.TypedTypeName
    typed_core_layer typed_enumerator_layer typed_expr_layer typed_part_layer typed_place_layer typed_specifier_layer typed_declarator_layer typed_form_layer typed_members_layer typed_parameter_layer typed_specifiers_layer typed_type_name_layer (layer.Cast which at to e)

pub typed_expr-AddressOf : (at : Place) (p : TypedPlace) (n : NodeId) (t : TypeId) → typed_expr_view (expr.AddressOf at p n t) ≡ typed.AddressOf at (typed_place_view p) n t
typed_expr-AddressOf at p n t = ap typed_expr_view (sym (expr.rolls-AddressOf at p n t)) ∙ fold-roll-TypedExpr typed.TypedCore (typed.TypedEnumerators → typed.TypedEnumerators) typed.TypedExpr (typed.TypedParts → typed.TypedParts) typed.TypedPlace typed.TypedSpecifier typed.TypedDeclarator typed.TypedForm (typed.TypedMembers → typed.TypedMembers) (typed.TypedParameters → typed.TypedParameters) typed.TypedSpecifiers typed.TypedTypeName
    typed_core_layer typed_enumerator_layer typed_expr_layer typed_part_layer typed_place_layer typed_specifier_layer typed_declarator_layer typed_form_layer typed_members_layer typed_parameter_layer typed_specifiers_layer typed_type_name_layer (layer.AddressOf at p n t)

pub typed_expr-AddressOfElement : (at : Place) (p : TypedPlace) (t : TypeId) → typed_expr_view (expr.AddressOfElement at p t) ≡ typed.AddressOfElement at (typed_place_view p) t
typed_expr-AddressOfElement at p t = ap typed_expr_view (sym (expr.rolls-AddressOfElement at p t)) ∙ fold-roll-TypedExpr typed.TypedCore (typed.TypedEnumerators → typed.TypedEnumerators) typed.TypedExpr (typed.TypedParts → typed.TypedParts) typed.TypedPlace typed.TypedSpecifier typed.TypedDeclarator typed.TypedForm (typed.TypedMembers → typed.TypedMembers) (typed.TypedParameters → typed.TypedParameters) typed.TypedSpecifiers typed.TypedTypeName
    typed_core_layer typed_enumerator_layer typed_expr_layer typed_part_layer typed_place_layer typed_specifier_layer typed_declarator_layer typed_form_layer typed_members_layer typed_parameter_layer typed_specifiers_layer typed_type_name_layer (layer.AddressOfElement at p t)

pub typed_expr-AddressOfFunction : (at : Place) (e : TypedExpr) → typed_expr_view (expr.AddressOfFunction at e) ≡ typed.AddressOfFunction at (typed_expr_view e)
typed_expr-AddressOfFunction at e = ap typed_expr_view (sym (expr.rolls-AddressOfFunction at e)) ∙ fold-roll-TypedExpr typed.TypedCore (typed.TypedEnumerators → typed.TypedEnumerators) typed.TypedExpr (typed.TypedParts → typed.TypedParts) typed.TypedPlace typed.TypedSpecifier typed.TypedDeclarator typed.TypedForm (typed.TypedMembers → typed.TypedMembers) (typed.TypedParameters → typed.TypedParameters) typed.TypedSpecifiers typed.TypedTypeName
    typed_core_layer typed_enumerator_layer typed_expr_layer typed_part_layer typed_place_layer typed_specifier_layer typed_declarator_layer typed_form_layer typed_members_layer typed_parameter_layer typed_specifiers_layer typed_type_name_layer (layer.AddressOfFunction at e)

pub typed_expr-FunctionAt : (at : Place) (e : TypedExpr) → typed_expr_view (expr.FunctionAt at e) ≡ typed.FunctionAt at (typed_expr_view e)
typed_expr-FunctionAt at e = ap typed_expr_view (sym (expr.rolls-FunctionAt at e)) ∙ fold-roll-TypedExpr typed.TypedCore (typed.TypedEnumerators → typed.TypedEnumerators) typed.TypedExpr (typed.TypedParts → typed.TypedParts) typed.TypedPlace typed.TypedSpecifier typed.TypedDeclarator typed.TypedForm (typed.TypedMembers → typed.TypedMembers) (typed.TypedParameters → typed.TypedParameters) typed.TypedSpecifiers typed.TypedTypeName
    typed_core_layer typed_enumerator_layer typed_expr_layer typed_part_layer typed_place_layer typed_specifier_layer typed_declarator_layer typed_form_layer typed_members_layer typed_parameter_layer typed_specifiers_layer typed_type_name_layer (layer.FunctionAt at e)

pub typed_expr-Prefix : (operator : Unary) (at : Place) (e : TypedExpr) (t : TypeId) → typed_expr_view (expr.Prefix operator at e t) ≡ typed.Prefix operator at (typed_expr_view e) t
typed_expr-Prefix operator at e t = ap typed_expr_view (sym (expr.rolls-Prefix operator at e t)) ∙ fold-roll-TypedExpr typed.TypedCore (typed.TypedEnumerators → typed.TypedEnumerators) typed.TypedExpr (typed.TypedParts → typed.TypedParts) typed.TypedPlace typed.TypedSpecifier typed.TypedDeclarator typed.TypedForm (typed.TypedMembers → typed.TypedMembers) (typed.TypedParameters → typed.TypedParameters) typed.TypedSpecifiers typed.TypedTypeName
    typed_core_layer typed_enumerator_layer typed_expr_layer typed_part_layer typed_place_layer typed_specifier_layer typed_declarator_layer typed_form_layer typed_members_layer typed_parameter_layer typed_specifiers_layer typed_type_name_layer (layer.Prefix operator at e t)

pub typed_expr-SizeOfPlace : (at : Place) (p : TypedPlace) (size : ℕ) (t : TypeId) → typed_expr_view (expr.SizeOfPlace at p size t) ≡ typed.SizeOfPlace at (typed_place_view p) size t
typed_expr-SizeOfPlace at p size t = ap typed_expr_view (sym (expr.rolls-SizeOfPlace at p size t)) ∙ fold-roll-TypedExpr typed.TypedCore (typed.TypedEnumerators → typed.TypedEnumerators) typed.TypedExpr (typed.TypedParts → typed.TypedParts) typed.TypedPlace typed.TypedSpecifier typed.TypedDeclarator typed.TypedForm (typed.TypedMembers → typed.TypedMembers) (typed.TypedParameters → typed.TypedParameters) typed.TypedSpecifiers typed.TypedTypeName
    typed_core_layer typed_enumerator_layer typed_expr_layer typed_part_layer typed_place_layer typed_specifier_layer typed_declarator_layer typed_form_layer typed_members_layer typed_parameter_layer typed_specifiers_layer typed_type_name_layer (layer.SizeOfPlace at p size t)

pub typed_expr-SizeOfValue : (at : Place) (e : TypedExpr) (size : ℕ) (t : TypeId) → typed_expr_view (expr.SizeOfValue at e size t) ≡ typed.SizeOfValue at (typed_expr_view e) size t
typed_expr-SizeOfValue at e size t = ap typed_expr_view (sym (expr.rolls-SizeOfValue at e size t)) ∙ fold-roll-TypedExpr typed.TypedCore (typed.TypedEnumerators → typed.TypedEnumerators) typed.TypedExpr (typed.TypedParts → typed.TypedParts) typed.TypedPlace typed.TypedSpecifier typed.TypedDeclarator typed.TypedForm (typed.TypedMembers → typed.TypedMembers) (typed.TypedParameters → typed.TypedParameters) typed.TypedSpecifiers typed.TypedTypeName
    typed_core_layer typed_enumerator_layer typed_expr_layer typed_part_layer typed_place_layer typed_specifier_layer typed_declarator_layer typed_form_layer typed_members_layer typed_parameter_layer typed_specifiers_layer typed_type_name_layer (layer.SizeOfValue at e size t)

pub typed_expr-SizeOfType : (at : Place) (paren : Place) (name : TypedTypeName) (size : ℕ) (t : TypeId) → typed_expr_view (expr.SizeOfType at paren name size t) ≡ typed.SizeOfType at paren (typed_type_name_view name) size t
typed_expr-SizeOfType at paren name size t = ap typed_expr_view (sym (expr.rolls-SizeOfType at paren name size t)) ∙ fold-roll-TypedExpr typed.TypedCore (typed.TypedEnumerators → typed.TypedEnumerators) typed.TypedExpr (typed.TypedParts → typed.TypedParts) typed.TypedPlace typed.TypedSpecifier typed.TypedDeclarator typed.TypedForm (typed.TypedMembers → typed.TypedMembers) (typed.TypedParameters → typed.TypedParameters) typed.TypedSpecifiers typed.TypedTypeName
    typed_core_layer typed_enumerator_layer typed_expr_layer typed_part_layer typed_place_layer typed_specifier_layer typed_declarator_layer typed_form_layer typed_members_layer typed_parameter_layer typed_specifiers_layer typed_type_name_layer (layer.SizeOfType at paren name size t)

pub typed_expr-StepBefore : (operator : Step) (at : Place) (p : TypedPlace) → typed_expr_view (expr.StepBefore operator at p) ≡ typed.StepBefore operator at (typed_place_view p)
typed_expr-StepBefore operator at p = ap typed_expr_view (sym (expr.rolls-StepBefore operator at p)) ∙ fold-roll-TypedExpr typed.TypedCore (typed.TypedEnumerators → typed.TypedEnumerators) typed.TypedExpr (typed.TypedParts → typed.TypedParts) typed.TypedPlace typed.TypedSpecifier typed.TypedDeclarator typed.TypedForm (typed.TypedMembers → typed.TypedMembers) (typed.TypedParameters → typed.TypedParameters) typed.TypedSpecifiers typed.TypedTypeName
    typed_core_layer typed_enumerator_layer typed_expr_layer typed_part_layer typed_place_layer typed_specifier_layer typed_declarator_layer typed_form_layer typed_members_layer typed_parameter_layer typed_specifiers_layer typed_type_name_layer (layer.StepBefore operator at p)

pub typed_expr-StepAfter : (p : TypedPlace) (operator : Step) (at : Place) → typed_expr_view (expr.StepAfter p operator at) ≡ typed.StepAfter (typed_place_view p) operator at
typed_expr-StepAfter p operator at = ap typed_expr_view (sym (expr.rolls-StepAfter p operator at)) ∙ fold-roll-TypedExpr typed.TypedCore (typed.TypedEnumerators → typed.TypedEnumerators) typed.TypedExpr (typed.TypedParts → typed.TypedParts) typed.TypedPlace typed.TypedSpecifier typed.TypedDeclarator typed.TypedForm (typed.TypedMembers → typed.TypedMembers) (typed.TypedParameters → typed.TypedParameters) typed.TypedSpecifiers typed.TypedTypeName
    typed_core_layer typed_enumerator_layer typed_expr_layer typed_part_layer typed_place_layer typed_specifier_layer typed_declarator_layer typed_form_layer typed_members_layer typed_parameter_layer typed_specifiers_layer typed_type_name_layer (layer.StepAfter p operator at)

pub typed_expr-Arithmetic : (operator : Binary) (a : TypedExpr) (at : Place) (b : TypedExpr) (t : TypeId) → typed_expr_view (expr.Arithmetic operator a at b t) ≡ typed.Arithmetic operator (typed_expr_view a) at (typed_expr_view b) t
typed_expr-Arithmetic operator a at b t = ap typed_expr_view (sym (expr.rolls-Arithmetic operator a at b t)) ∙ fold-roll-TypedExpr typed.TypedCore (typed.TypedEnumerators → typed.TypedEnumerators) typed.TypedExpr (typed.TypedParts → typed.TypedParts) typed.TypedPlace typed.TypedSpecifier typed.TypedDeclarator typed.TypedForm (typed.TypedMembers → typed.TypedMembers) (typed.TypedParameters → typed.TypedParameters) typed.TypedSpecifiers typed.TypedTypeName
    typed_core_layer typed_enumerator_layer typed_expr_layer typed_part_layer typed_place_layer typed_specifier_layer typed_declarator_layer typed_form_layer typed_members_layer typed_parameter_layer typed_specifiers_layer typed_type_name_layer (layer.Arithmetic operator a at b t)

pub typed_expr-Moved : (operator : Binary) (which : Side) (a : TypedExpr) (at : Place) (b : TypedExpr) (t : TypeId) → typed_expr_view (expr.Moved operator which a at b t) ≡ typed.Moved operator which (typed_expr_view a) at (typed_expr_view b) t
typed_expr-Moved operator which a at b t = ap typed_expr_view (sym (expr.rolls-Moved operator which a at b t)) ∙ fold-roll-TypedExpr typed.TypedCore (typed.TypedEnumerators → typed.TypedEnumerators) typed.TypedExpr (typed.TypedParts → typed.TypedParts) typed.TypedPlace typed.TypedSpecifier typed.TypedDeclarator typed.TypedForm (typed.TypedMembers → typed.TypedMembers) (typed.TypedParameters → typed.TypedParameters) typed.TypedSpecifiers typed.TypedTypeName
    typed_core_layer typed_enumerator_layer typed_expr_layer typed_part_layer typed_place_layer typed_specifier_layer typed_declarator_layer typed_form_layer typed_members_layer typed_parameter_layer typed_specifiers_layer typed_type_name_layer (layer.Moved operator which a at b t)

pub typed_expr-Difference : (a : TypedExpr) (at : Place) (b : TypedExpr) (t : TypeId) → typed_expr_view (expr.Difference a at b t) ≡ typed.Difference (typed_expr_view a) at (typed_expr_view b) t
typed_expr-Difference a at b t = ap typed_expr_view (sym (expr.rolls-Difference a at b t)) ∙ fold-roll-TypedExpr typed.TypedCore (typed.TypedEnumerators → typed.TypedEnumerators) typed.TypedExpr (typed.TypedParts → typed.TypedParts) typed.TypedPlace typed.TypedSpecifier typed.TypedDeclarator typed.TypedForm (typed.TypedMembers → typed.TypedMembers) (typed.TypedParameters → typed.TypedParameters) typed.TypedSpecifiers typed.TypedTypeName
    typed_core_layer typed_enumerator_layer typed_expr_layer typed_part_layer typed_place_layer typed_specifier_layer typed_declarator_layer typed_form_layer typed_members_layer typed_parameter_layer typed_specifiers_layer typed_type_name_layer (layer.Difference a at b t)

pub typed_expr-Compared : (operator : Binary) (a : TypedExpr) (at : Place) (b : TypedExpr) (t : TypeId) → typed_expr_view (expr.Compared operator a at b t) ≡ typed.Compared operator (typed_expr_view a) at (typed_expr_view b) t
typed_expr-Compared operator a at b t = ap typed_expr_view (sym (expr.rolls-Compared operator a at b t)) ∙ fold-roll-TypedExpr typed.TypedCore (typed.TypedEnumerators → typed.TypedEnumerators) typed.TypedExpr (typed.TypedParts → typed.TypedParts) typed.TypedPlace typed.TypedSpecifier typed.TypedDeclarator typed.TypedForm (typed.TypedMembers → typed.TypedMembers) (typed.TypedParameters → typed.TypedParameters) typed.TypedSpecifiers typed.TypedTypeName
    typed_core_layer typed_enumerator_layer typed_expr_layer typed_part_layer typed_place_layer typed_specifier_layer typed_declarator_layer typed_form_layer typed_members_layer typed_parameter_layer typed_specifiers_layer typed_type_name_layer (layer.Compared operator a at b t)

pub typed_expr-Logical : (operator : Binary) (a : TypedExpr) (at : Place) (b : TypedExpr) (t : TypeId) → typed_expr_view (expr.Logical operator a at b t) ≡ typed.Logical operator (typed_expr_view a) at (typed_expr_view b) t
typed_expr-Logical operator a at b t = ap typed_expr_view (sym (expr.rolls-Logical operator a at b t)) ∙ fold-roll-TypedExpr typed.TypedCore (typed.TypedEnumerators → typed.TypedEnumerators) typed.TypedExpr (typed.TypedParts → typed.TypedParts) typed.TypedPlace typed.TypedSpecifier typed.TypedDeclarator typed.TypedForm (typed.TypedMembers → typed.TypedMembers) (typed.TypedParameters → typed.TypedParameters) typed.TypedSpecifiers typed.TypedTypeName
    typed_core_layer typed_enumerator_layer typed_expr_layer typed_part_layer typed_place_layer typed_specifier_layer typed_declarator_layer typed_form_layer typed_members_layer typed_parameter_layer typed_specifiers_layer typed_type_name_layer (layer.Logical operator a at b t)

pub typed_expr-Conditional : (c : TypedExpr) (at : Place) (a : TypedExpr) (b : TypedExpr) (t : TypeId) → typed_expr_view (expr.Conditional c at a b t) ≡ typed.Conditional (typed_expr_view c) at (typed_expr_view a) (typed_expr_view b) t
typed_expr-Conditional c at a b t = ap typed_expr_view (sym (expr.rolls-Conditional c at a b t)) ∙ fold-roll-TypedExpr typed.TypedCore (typed.TypedEnumerators → typed.TypedEnumerators) typed.TypedExpr (typed.TypedParts → typed.TypedParts) typed.TypedPlace typed.TypedSpecifier typed.TypedDeclarator typed.TypedForm (typed.TypedMembers → typed.TypedMembers) (typed.TypedParameters → typed.TypedParameters) typed.TypedSpecifiers typed.TypedTypeName
    typed_core_layer typed_enumerator_layer typed_expr_layer typed_part_layer typed_place_layer typed_specifier_layer typed_declarator_layer typed_form_layer typed_members_layer typed_parameter_layer typed_specifiers_layer typed_type_name_layer (layer.Conditional c at a b t)

pub typed_expr-PointerConditional : (c : TypedExpr) (at : Place) (a : TypedExpr) (b : TypedExpr) (n : NodeId) (t : TypeId) → typed_expr_view (expr.PointerConditional c at a b n t) ≡ typed.PointerConditional (typed_expr_view c) at (typed_expr_view a) (typed_expr_view b) n t
typed_expr-PointerConditional c at a b n t = ap typed_expr_view (sym (expr.rolls-PointerConditional c at a b n t)) ∙ fold-roll-TypedExpr typed.TypedCore (typed.TypedEnumerators → typed.TypedEnumerators) typed.TypedExpr (typed.TypedParts → typed.TypedParts) typed.TypedPlace typed.TypedSpecifier typed.TypedDeclarator typed.TypedForm (typed.TypedMembers → typed.TypedMembers) (typed.TypedParameters → typed.TypedParameters) typed.TypedSpecifiers typed.TypedTypeName
    typed_core_layer typed_enumerator_layer typed_expr_layer typed_part_layer typed_place_layer typed_specifier_layer typed_declarator_layer typed_form_layer typed_members_layer typed_parameter_layer typed_specifiers_layer typed_type_name_layer (layer.PointerConditional c at a b n t)

pub typed_expr-Comma : (a : TypedExpr) (b : TypedExpr) → typed_expr_view (expr.Comma a b) ≡ typed.Comma (typed_expr_view a) (typed_expr_view b)
typed_expr-Comma a b = ap typed_expr_view (sym (expr.rolls-Comma a b)) ∙ fold-roll-TypedExpr typed.TypedCore (typed.TypedEnumerators → typed.TypedEnumerators) typed.TypedExpr (typed.TypedParts → typed.TypedParts) typed.TypedPlace typed.TypedSpecifier typed.TypedDeclarator typed.TypedForm (typed.TypedMembers → typed.TypedMembers) (typed.TypedParameters → typed.TypedParameters) typed.TypedSpecifiers typed.TypedTypeName
    typed_core_layer typed_enumerator_layer typed_expr_layer typed_part_layer typed_place_layer typed_specifier_layer typed_declarator_layer typed_form_layer typed_members_layer typed_parameter_layer typed_specifiers_layer typed_type_name_layer (layer.Comma a b)

pub typed_expr-Assign : (p : TypedPlace) (at : Place) (e : TypedExpr) → typed_expr_view (expr.Assign p at e) ≡ typed.Assign (typed_place_view p) at (typed_expr_view e)
typed_expr-Assign p at e = ap typed_expr_view (sym (expr.rolls-Assign p at e)) ∙ fold-roll-TypedExpr typed.TypedCore (typed.TypedEnumerators → typed.TypedEnumerators) typed.TypedExpr (typed.TypedParts → typed.TypedParts) typed.TypedPlace typed.TypedSpecifier typed.TypedDeclarator typed.TypedForm (typed.TypedMembers → typed.TypedMembers) (typed.TypedParameters → typed.TypedParameters) typed.TypedSpecifiers typed.TypedTypeName
    typed_core_layer typed_enumerator_layer typed_expr_layer typed_part_layer typed_place_layer typed_specifier_layer typed_declarator_layer typed_form_layer typed_members_layer typed_parameter_layer typed_specifiers_layer typed_type_name_layer (layer.Assign p at e)

pub typed_expr-AssignWith : (operator : Assignment) (p : TypedPlace) (at : Place) (e : TypedExpr) (t : TypeId) → typed_expr_view (expr.AssignWith operator p at e t) ≡ typed.AssignWith operator (typed_place_view p) at (typed_expr_view e) t
typed_expr-AssignWith operator p at e t = ap typed_expr_view (sym (expr.rolls-AssignWith operator p at e t)) ∙ fold-roll-TypedExpr typed.TypedCore (typed.TypedEnumerators → typed.TypedEnumerators) typed.TypedExpr (typed.TypedParts → typed.TypedParts) typed.TypedPlace typed.TypedSpecifier typed.TypedDeclarator typed.TypedForm (typed.TypedMembers → typed.TypedMembers) (typed.TypedParameters → typed.TypedParameters) typed.TypedSpecifiers typed.TypedTypeName
    typed_core_layer typed_enumerator_layer typed_expr_layer typed_part_layer typed_place_layer typed_specifier_layer typed_declarator_layer typed_form_layer typed_members_layer typed_parameter_layer typed_specifiers_layer typed_type_name_layer (layer.AssignWith operator p at e t)

pub typed_expr-Call : (f : TypedExpr) (at : Place) (arguments : List TypedExpr) (t : TypeId) → typed_expr_view (expr.Call f at arguments t) ≡ typed.Call (typed_expr_view f) at (typed_arguments_of (map typed_expr_view arguments)) t
typed_expr-Call f at arguments t = ap typed_expr_view (sym (expr.rolls-Call f at arguments t)) ∙ fold-roll-TypedExpr typed.TypedCore (typed.TypedEnumerators → typed.TypedEnumerators) typed.TypedExpr (typed.TypedParts → typed.TypedParts) typed.TypedPlace typed.TypedSpecifier typed.TypedDeclarator typed.TypedForm (typed.TypedMembers → typed.TypedMembers) (typed.TypedParameters → typed.TypedParameters) typed.TypedSpecifiers typed.TypedTypeName
    typed_core_layer typed_enumerator_layer typed_expr_layer typed_part_layer typed_place_layer typed_specifier_layer typed_declarator_layer typed_form_layer typed_members_layer typed_parameter_layer typed_specifiers_layer typed_type_name_layer (layer.Call f at arguments t)

pub typed_expr-CallRuntime : (function : Runtime) (f : TypedExpr) (at : Place) (arguments : List TypedExpr) (t : TypeId) → typed_expr_view (expr.CallRuntime function f at arguments t) ≡ typed.CallRuntime function (typed_expr_view f) at (typed_arguments_of (map typed_expr_view arguments)) t
typed_expr-CallRuntime function f at arguments t = ap typed_expr_view (sym (expr.rolls-CallRuntime function f at arguments t)) ∙ fold-roll-TypedExpr typed.TypedCore (typed.TypedEnumerators → typed.TypedEnumerators) typed.TypedExpr (typed.TypedParts → typed.TypedParts) typed.TypedPlace typed.TypedSpecifier typed.TypedDeclarator typed.TypedForm (typed.TypedMembers → typed.TypedMembers) (typed.TypedParameters → typed.TypedParameters) typed.TypedSpecifiers typed.TypedTypeName
    typed_core_layer typed_enumerator_layer typed_expr_layer typed_part_layer typed_place_layer typed_specifier_layer typed_declarator_layer typed_form_layer typed_members_layer typed_parameter_layer typed_specifiers_layer typed_type_name_layer (layer.CallRuntime function f at arguments t)

pub typed_expr-Allocate : (function : Runtime) (f : TypedExpr) (at : Place) (arguments : List TypedExpr) (n : NodeId) (t : TypeId) → typed_expr_view (expr.Allocate function f at arguments n t) ≡ typed.Allocate function (typed_expr_view f) at (typed_arguments_of (map typed_expr_view arguments)) n t
typed_expr-Allocate function f at arguments n t = ap typed_expr_view (sym (expr.rolls-Allocate function f at arguments n t)) ∙ fold-roll-TypedExpr typed.TypedCore (typed.TypedEnumerators → typed.TypedEnumerators) typed.TypedExpr (typed.TypedParts → typed.TypedParts) typed.TypedPlace typed.TypedSpecifier typed.TypedDeclarator typed.TypedForm (typed.TypedMembers → typed.TypedMembers) (typed.TypedParameters → typed.TypedParameters) typed.TypedSpecifiers typed.TypedTypeName
    typed_core_layer typed_enumerator_layer typed_expr_layer typed_part_layer typed_place_layer typed_specifier_layer typed_declarator_layer typed_form_layer typed_members_layer typed_parameter_layer typed_specifiers_layer typed_type_name_layer (layer.Allocate function f at arguments n t)

pub typed_expr-AllocateFor : (function : Runtime) (f : TypedExpr) (at : Place) (arguments : List TypedExpr) (t : TypeId) → typed_expr_view (expr.AllocateFor function f at arguments t) ≡ typed.AllocateFor function (typed_expr_view f) at (typed_arguments_of (map typed_expr_view arguments)) t
typed_expr-AllocateFor function f at arguments t = ap typed_expr_view (sym (expr.rolls-AllocateFor function f at arguments t)) ∙ fold-roll-TypedExpr typed.TypedCore (typed.TypedEnumerators → typed.TypedEnumerators) typed.TypedExpr (typed.TypedParts → typed.TypedParts) typed.TypedPlace typed.TypedSpecifier typed.TypedDeclarator typed.TypedForm (typed.TypedMembers → typed.TypedMembers) (typed.TypedParameters → typed.TypedParameters) typed.TypedSpecifiers typed.TypedTypeName
    typed_core_layer typed_enumerator_layer typed_expr_layer typed_part_layer typed_place_layer typed_specifier_layer typed_declarator_layer typed_form_layer typed_members_layer typed_parameter_layer typed_specifiers_layer typed_type_name_layer (layer.AllocateFor function f at arguments t)

pub typed_part-Array : (at : Place) (words : List Word) → typed_part_view (part.Array at words) ≡ (λ before. typed.AndArray before at words)
typed_part-Array at words = ap typed_part_view (sym (part.rolls-Array at words)) ∙ fold-roll-TypedPart typed.TypedCore (typed.TypedEnumerators → typed.TypedEnumerators) typed.TypedExpr (typed.TypedParts → typed.TypedParts) typed.TypedPlace typed.TypedSpecifier typed.TypedDeclarator typed.TypedForm (typed.TypedMembers → typed.TypedMembers) (typed.TypedParameters → typed.TypedParameters) typed.TypedSpecifiers typed.TypedTypeName
    typed_core_layer typed_enumerator_layer typed_expr_layer typed_part_layer typed_place_layer typed_specifier_layer typed_declarator_layer typed_form_layer typed_members_layer typed_parameter_layer typed_specifiers_layer typed_type_name_layer (layer.Array at words)

pub typed_part-SizedArray : (at : Place) (words : List Word) (e : TypedExpr) (size : ℕ) → typed_part_view (part.SizedArray at words e size) ≡ (λ before. typed.AndSizedArray before at words (typed_expr_view e) size)
typed_part-SizedArray at words e size = ap typed_part_view (sym (part.rolls-SizedArray at words e size)) ∙ fold-roll-TypedPart typed.TypedCore (typed.TypedEnumerators → typed.TypedEnumerators) typed.TypedExpr (typed.TypedParts → typed.TypedParts) typed.TypedPlace typed.TypedSpecifier typed.TypedDeclarator typed.TypedForm (typed.TypedMembers → typed.TypedMembers) (typed.TypedParameters → typed.TypedParameters) typed.TypedSpecifiers typed.TypedTypeName
    typed_core_layer typed_enumerator_layer typed_expr_layer typed_part_layer typed_place_layer typed_specifier_layer typed_declarator_layer typed_form_layer typed_members_layer typed_parameter_layer typed_specifiers_layer typed_type_name_layer (layer.SizedArray at words e size)

pub typed_part-Function : (at : Place) (parameters : List TypedParameter) → typed_part_view (part.Function at parameters) ≡ (λ before. typed.AndFunction before at (added typed.NoParameter (map typed_parameter_view parameters)))
typed_part-Function at parameters = ap typed_part_view (sym (part.rolls-Function at parameters)) ∙ fold-roll-TypedPart typed.TypedCore (typed.TypedEnumerators → typed.TypedEnumerators) typed.TypedExpr (typed.TypedParts → typed.TypedParts) typed.TypedPlace typed.TypedSpecifier typed.TypedDeclarator typed.TypedForm (typed.TypedMembers → typed.TypedMembers) (typed.TypedParameters → typed.TypedParameters) typed.TypedSpecifiers typed.TypedTypeName
    typed_core_layer typed_enumerator_layer typed_expr_layer typed_part_layer typed_place_layer typed_specifier_layer typed_declarator_layer typed_form_layer typed_members_layer typed_parameter_layer typed_specifiers_layer typed_type_name_layer (layer.Function at parameters)

pub typed_place-Variable : (name : Identifier) (home : NodeId) (t : TypeId) → typed_place_view (place.Variable name home t) ≡ typed.Variable name home t
typed_place-Variable name home t = ap typed_place_view (sym (place.rolls-Variable name home t)) ∙ fold-roll-TypedPlace typed.TypedCore (typed.TypedEnumerators → typed.TypedEnumerators) typed.TypedExpr (typed.TypedParts → typed.TypedParts) typed.TypedPlace typed.TypedSpecifier typed.TypedDeclarator typed.TypedForm (typed.TypedMembers → typed.TypedMembers) (typed.TypedParameters → typed.TypedParameters) typed.TypedSpecifiers typed.TypedTypeName
    typed_core_layer typed_enumerator_layer typed_expr_layer typed_part_layer typed_place_layer typed_specifier_layer typed_declarator_layer typed_form_layer typed_members_layer typed_parameter_layer typed_specifiers_layer typed_type_name_layer (layer.Variable name home t)

pub typed_place-String : (pieces : List StringPiece) (home : NodeId) (t : TypeId) → typed_place_view (place.String pieces home t) ≡ typed.String pieces home t
typed_place-String pieces home t = ap typed_place_view (sym (place.rolls-String pieces home t)) ∙ fold-roll-TypedPlace typed.TypedCore (typed.TypedEnumerators → typed.TypedEnumerators) typed.TypedExpr (typed.TypedParts → typed.TypedParts) typed.TypedPlace typed.TypedSpecifier typed.TypedDeclarator typed.TypedForm (typed.TypedMembers → typed.TypedMembers) (typed.TypedParameters → typed.TypedParameters) typed.TypedSpecifiers typed.TypedTypeName
    typed_core_layer typed_enumerator_layer typed_expr_layer typed_part_layer typed_place_layer typed_specifier_layer typed_declarator_layer typed_form_layer typed_members_layer typed_parameter_layer typed_specifiers_layer typed_type_name_layer (layer.String pieces home t)

pub typed_place-ParenPlace : (at : Place) (p : TypedPlace) → typed_place_view (place.ParenPlace at p) ≡ typed.ParenPlace at (typed_place_view p)
typed_place-ParenPlace at p = ap typed_place_view (sym (place.rolls-ParenPlace at p)) ∙ fold-roll-TypedPlace typed.TypedCore (typed.TypedEnumerators → typed.TypedEnumerators) typed.TypedExpr (typed.TypedParts → typed.TypedParts) typed.TypedPlace typed.TypedSpecifier typed.TypedDeclarator typed.TypedForm (typed.TypedMembers → typed.TypedMembers) (typed.TypedParameters → typed.TypedParameters) typed.TypedSpecifiers typed.TypedTypeName
    typed_core_layer typed_enumerator_layer typed_expr_layer typed_part_layer typed_place_layer typed_specifier_layer typed_declarator_layer typed_form_layer typed_members_layer typed_parameter_layer typed_specifiers_layer typed_type_name_layer (layer.ParenPlace at p)

pub typed_place-Target : (at : Place) (e : TypedExpr) (t : TypeId) → typed_place_view (place.Target at e t) ≡ typed.Target at (typed_expr_view e) t
typed_place-Target at e t = ap typed_place_view (sym (place.rolls-Target at e t)) ∙ fold-roll-TypedPlace typed.TypedCore (typed.TypedEnumerators → typed.TypedEnumerators) typed.TypedExpr (typed.TypedParts → typed.TypedParts) typed.TypedPlace typed.TypedSpecifier typed.TypedDeclarator typed.TypedForm (typed.TypedMembers → typed.TypedMembers) (typed.TypedParameters → typed.TypedParameters) typed.TypedSpecifiers typed.TypedTypeName
    typed_core_layer typed_enumerator_layer typed_expr_layer typed_part_layer typed_place_layer typed_specifier_layer typed_declarator_layer typed_form_layer typed_members_layer typed_parameter_layer typed_specifiers_layer typed_type_name_layer (layer.Target at e t)

pub typed_place-Element : (which : Side) (a : TypedExpr) (at : Place) (b : TypedExpr) (t : TypeId) → typed_place_view (place.Element which a at b t) ≡ typed.Element which (typed_expr_view a) at (typed_expr_view b) t
typed_place-Element which a at b t = ap typed_place_view (sym (place.rolls-Element which a at b t)) ∙ fold-roll-TypedPlace typed.TypedCore (typed.TypedEnumerators → typed.TypedEnumerators) typed.TypedExpr (typed.TypedParts → typed.TypedParts) typed.TypedPlace typed.TypedSpecifier typed.TypedDeclarator typed.TypedForm (typed.TypedMembers → typed.TypedMembers) (typed.TypedParameters → typed.TypedParameters) typed.TypedSpecifiers typed.TypedTypeName
    typed_core_layer typed_enumerator_layer typed_expr_layer typed_part_layer typed_place_layer typed_specifier_layer typed_declarator_layer typed_form_layer typed_members_layer typed_parameter_layer typed_specifiers_layer typed_type_name_layer (layer.Element which a at b t)

pub typed_place-Member : (p : TypedPlace) (at : Place) (name : Identifier) (i : ℕ) (n : NodeId) (t : TypeId) → typed_place_view (place.Member p at name i n t) ≡ typed.Member (typed_place_view p) at name i n t
typed_place-Member p at name i n t = ap typed_place_view (sym (place.rolls-Member p at name i n t)) ∙ fold-roll-TypedPlace typed.TypedCore (typed.TypedEnumerators → typed.TypedEnumerators) typed.TypedExpr (typed.TypedParts → typed.TypedParts) typed.TypedPlace typed.TypedSpecifier typed.TypedDeclarator typed.TypedForm (typed.TypedMembers → typed.TypedMembers) (typed.TypedParameters → typed.TypedParameters) typed.TypedSpecifiers typed.TypedTypeName
    typed_core_layer typed_enumerator_layer typed_expr_layer typed_part_layer typed_place_layer typed_specifier_layer typed_declarator_layer typed_form_layer typed_members_layer typed_parameter_layer typed_specifiers_layer typed_type_name_layer (layer.Member p at name i n t)

pub typed_place-MemberAt : (e : TypedExpr) (at : Place) (name : Identifier) (i : ℕ) (n : NodeId) (t : TypeId) → typed_place_view (place.MemberAt e at name i n t) ≡ typed.MemberAt (typed_expr_view e) at name i n t
typed_place-MemberAt e at name i n t = ap typed_place_view (sym (place.rolls-MemberAt e at name i n t)) ∙ fold-roll-TypedPlace typed.TypedCore (typed.TypedEnumerators → typed.TypedEnumerators) typed.TypedExpr (typed.TypedParts → typed.TypedParts) typed.TypedPlace typed.TypedSpecifier typed.TypedDeclarator typed.TypedForm (typed.TypedMembers → typed.TypedMembers) (typed.TypedParameters → typed.TypedParameters) typed.TypedSpecifiers typed.TypedTypeName
    typed_core_layer typed_enumerator_layer typed_expr_layer typed_part_layer typed_place_layer typed_specifier_layer typed_declarator_layer typed_form_layer typed_members_layer typed_parameter_layer typed_specifiers_layer typed_type_name_layer (layer.MemberAt e at name i n t)

pub typed_place-StructAssign : (p : TypedPlace) (at : Place) (q : TypedPlace) → typed_place_view (place.StructAssign p at q) ≡ typed.StructAssign (typed_place_view p) at (typed_place_view q)
typed_place-StructAssign p at q = ap typed_place_view (sym (place.rolls-StructAssign p at q)) ∙ fold-roll-TypedPlace typed.TypedCore (typed.TypedEnumerators → typed.TypedEnumerators) typed.TypedExpr (typed.TypedParts → typed.TypedParts) typed.TypedPlace typed.TypedSpecifier typed.TypedDeclarator typed.TypedForm (typed.TypedMembers → typed.TypedMembers) (typed.TypedParameters → typed.TypedParameters) typed.TypedSpecifiers typed.TypedTypeName
    typed_core_layer typed_enumerator_layer typed_expr_layer typed_part_layer typed_place_layer typed_specifier_layer typed_declarator_layer typed_form_layer typed_members_layer typed_parameter_layer typed_specifiers_layer typed_type_name_layer (layer.StructAssign p at q)

pub typed_place-StructConditional : (c : TypedExpr) (at : Place) (p : TypedPlace) (q : TypedPlace) → typed_place_view (place.StructConditional c at p q) ≡ typed.StructConditional (typed_expr_view c) at (typed_place_view p) (typed_place_view q)
typed_place-StructConditional c at p q = ap typed_place_view (sym (place.rolls-StructConditional c at p q)) ∙ fold-roll-TypedPlace typed.TypedCore (typed.TypedEnumerators → typed.TypedEnumerators) typed.TypedExpr (typed.TypedParts → typed.TypedParts) typed.TypedPlace typed.TypedSpecifier typed.TypedDeclarator typed.TypedForm (typed.TypedMembers → typed.TypedMembers) (typed.TypedParameters → typed.TypedParameters) typed.TypedSpecifiers typed.TypedTypeName
    typed_core_layer typed_enumerator_layer typed_expr_layer typed_part_layer typed_place_layer typed_specifier_layer typed_declarator_layer typed_form_layer typed_members_layer typed_parameter_layer typed_specifiers_layer typed_type_name_layer (layer.StructConditional c at p q)

pub typed_place-StructComma : (e : TypedExpr) (p : TypedPlace) → typed_place_view (place.StructComma e p) ≡ typed.StructComma (typed_expr_view e) (typed_place_view p)
typed_place-StructComma e p = ap typed_place_view (sym (place.rolls-StructComma e p)) ∙ fold-roll-TypedPlace typed.TypedCore (typed.TypedEnumerators → typed.TypedEnumerators) typed.TypedExpr (typed.TypedParts → typed.TypedParts) typed.TypedPlace typed.TypedSpecifier typed.TypedDeclarator typed.TypedForm (typed.TypedMembers → typed.TypedMembers) (typed.TypedParameters → typed.TypedParameters) typed.TypedSpecifiers typed.TypedTypeName
    typed_core_layer typed_enumerator_layer typed_expr_layer typed_part_layer typed_place_layer typed_specifier_layer typed_declarator_layer typed_form_layer typed_members_layer typed_parameter_layer typed_specifiers_layer typed_type_name_layer (layer.StructComma e p)

pub typed_specifier-Keyword : (word : Word) → typed_specifier_view (specifier.Keyword word) ≡ typed.Keyword word
typed_specifier-Keyword word = ap typed_specifier_view (sym (specifier.rolls-Keyword word)) ∙ fold-roll-TypedSpecifier typed.TypedCore (typed.TypedEnumerators → typed.TypedEnumerators) typed.TypedExpr (typed.TypedParts → typed.TypedParts) typed.TypedPlace typed.TypedSpecifier typed.TypedDeclarator typed.TypedForm (typed.TypedMembers → typed.TypedMembers) (typed.TypedParameters → typed.TypedParameters) typed.TypedSpecifiers typed.TypedTypeName
    typed_core_layer typed_enumerator_layer typed_expr_layer typed_part_layer typed_place_layer typed_specifier_layer typed_declarator_layer typed_form_layer typed_members_layer typed_parameter_layer typed_specifiers_layer typed_type_name_layer (layer.Keyword word)

pub typed_specifier-Typedef : (name : Identifier) (t : TypeId) → typed_specifier_view (specifier.Typedef name t) ≡ typed.Typedef name t
typed_specifier-Typedef name t = ap typed_specifier_view (sym (specifier.rolls-Typedef name t)) ∙ fold-roll-TypedSpecifier typed.TypedCore (typed.TypedEnumerators → typed.TypedEnumerators) typed.TypedExpr (typed.TypedParts → typed.TypedParts) typed.TypedPlace typed.TypedSpecifier typed.TypedDeclarator typed.TypedForm (typed.TypedMembers → typed.TypedMembers) (typed.TypedParameters → typed.TypedParameters) typed.TypedSpecifiers typed.TypedTypeName
    typed_core_layer typed_enumerator_layer typed_expr_layer typed_part_layer typed_place_layer typed_specifier_layer typed_declarator_layer typed_form_layer typed_members_layer typed_parameter_layer typed_specifiers_layer typed_type_name_layer (layer.Typedef name t)

pub typed_specifier-Tagged : (kind : AggregateKind) (at : Place) (name : Identifier) (t : TypeId) → typed_specifier_view (specifier.Tagged kind at name t) ≡ typed.Tagged kind at name t
typed_specifier-Tagged kind at name t = ap typed_specifier_view (sym (specifier.rolls-Tagged kind at name t)) ∙ fold-roll-TypedSpecifier typed.TypedCore (typed.TypedEnumerators → typed.TypedEnumerators) typed.TypedExpr (typed.TypedParts → typed.TypedParts) typed.TypedPlace typed.TypedSpecifier typed.TypedDeclarator typed.TypedForm (typed.TypedMembers → typed.TypedMembers) (typed.TypedParameters → typed.TypedParameters) typed.TypedSpecifiers typed.TypedTypeName
    typed_core_layer typed_enumerator_layer typed_expr_layer typed_part_layer typed_place_layer typed_specifier_layer typed_declarator_layer typed_form_layer typed_members_layer typed_parameter_layer typed_specifiers_layer typed_type_name_layer (layer.Tagged kind at name t)

pub typed_specifier-Aggregate : (kind : AggregateKind) (at : Place) (name : Option Identifier) (brace : Place) (members : List TypedMembers) (t : TypeId) → typed_specifier_view (specifier.Aggregate kind at name brace members t) ≡ typed.Aggregate kind at name brace (added typed.NoMember (map typed_members_view members)) t
typed_specifier-Aggregate kind at name brace members t = ap typed_specifier_view (sym (specifier.rolls-Aggregate kind at name brace members t)) ∙ fold-roll-TypedSpecifier typed.TypedCore (typed.TypedEnumerators → typed.TypedEnumerators) typed.TypedExpr (typed.TypedParts → typed.TypedParts) typed.TypedPlace typed.TypedSpecifier typed.TypedDeclarator typed.TypedForm (typed.TypedMembers → typed.TypedMembers) (typed.TypedParameters → typed.TypedParameters) typed.TypedSpecifiers typed.TypedTypeName
    typed_core_layer typed_enumerator_layer typed_expr_layer typed_part_layer typed_place_layer typed_specifier_layer typed_declarator_layer typed_form_layer typed_members_layer typed_parameter_layer typed_specifiers_layer typed_type_name_layer (layer.Aggregate kind at name brace members t)

pub typed_specifier-Enum : (at : Place) (name : Identifier) → typed_specifier_view (specifier.Enum at name) ≡ typed.Enum at name
typed_specifier-Enum at name = ap typed_specifier_view (sym (specifier.rolls-Enum at name)) ∙ fold-roll-TypedSpecifier typed.TypedCore (typed.TypedEnumerators → typed.TypedEnumerators) typed.TypedExpr (typed.TypedParts → typed.TypedParts) typed.TypedPlace typed.TypedSpecifier typed.TypedDeclarator typed.TypedForm (typed.TypedMembers → typed.TypedMembers) (typed.TypedParameters → typed.TypedParameters) typed.TypedSpecifiers typed.TypedTypeName
    typed_core_layer typed_enumerator_layer typed_expr_layer typed_part_layer typed_place_layer typed_specifier_layer typed_declarator_layer typed_form_layer typed_members_layer typed_parameter_layer typed_specifiers_layer typed_type_name_layer (layer.Enum at name)

pub typed_specifier-Enumeration : (at : Place) (name : Option Identifier) (brace : Place) (enumerators : List TypedEnumerator) (comma : Bool) → typed_specifier_view (specifier.Enumeration at name brace enumerators comma) ≡ typed.Enumeration at name brace (added typed.NoEnumerator (map typed_enumerator_view enumerators)) comma
typed_specifier-Enumeration at name brace enumerators comma = ap typed_specifier_view (sym (specifier.rolls-Enumeration at name brace enumerators comma)) ∙ fold-roll-TypedSpecifier typed.TypedCore (typed.TypedEnumerators → typed.TypedEnumerators) typed.TypedExpr (typed.TypedParts → typed.TypedParts) typed.TypedPlace typed.TypedSpecifier typed.TypedDeclarator typed.TypedForm (typed.TypedMembers → typed.TypedMembers) (typed.TypedParameters → typed.TypedParameters) typed.TypedSpecifiers typed.TypedTypeName
    typed_core_layer typed_enumerator_layer typed_expr_layer typed_part_layer typed_place_layer typed_specifier_layer typed_declarator_layer typed_form_layer typed_members_layer typed_parameter_layer typed_specifiers_layer typed_type_name_layer (layer.Enumeration at name brace enumerators comma)

pub seen-TypedDeclarator : (form : TypedForm) (ty : TypeId) (home : Option NodeId) → typed_declarator_view (roll-TypedDeclarator (record { form = form; ty = ty; home = home })) ≡ typed.Declares (typed_form_view form) ty
seen-TypedDeclarator form ty home = fold-roll-TypedDeclarator typed.TypedCore (typed.TypedEnumerators → typed.TypedEnumerators) typed.TypedExpr (typed.TypedParts → typed.TypedParts) typed.TypedPlace typed.TypedSpecifier typed.TypedDeclarator typed.TypedForm (typed.TypedMembers → typed.TypedMembers) (typed.TypedParameters → typed.TypedParameters) typed.TypedSpecifiers typed.TypedTypeName
    typed_core_layer typed_enumerator_layer typed_expr_layer typed_part_layer typed_place_layer typed_specifier_layer typed_declarator_layer typed_form_layer typed_members_layer typed_parameter_layer typed_specifiers_layer typed_type_name_layer
    (record { form = form; ty = ty; home = home })

pub seen-TypedForm : (stars : List TypedStar) (core : TypedCore) (parts : List TypedPart) → typed_form_view (roll-TypedForm (record { stars = stars; core = core; parts = parts })) ≡ typed.Form stars (typed_core_view core) (added typed.NoPart (map typed_part_view parts))
seen-TypedForm stars core parts = fold-roll-TypedForm typed.TypedCore (typed.TypedEnumerators → typed.TypedEnumerators) typed.TypedExpr (typed.TypedParts → typed.TypedParts) typed.TypedPlace typed.TypedSpecifier typed.TypedDeclarator typed.TypedForm (typed.TypedMembers → typed.TypedMembers) (typed.TypedParameters → typed.TypedParameters) typed.TypedSpecifiers typed.TypedTypeName
    typed_core_layer typed_enumerator_layer typed_expr_layer typed_part_layer typed_place_layer typed_specifier_layer typed_declarator_layer typed_form_layer typed_members_layer typed_parameter_layer typed_specifiers_layer typed_type_name_layer
    (record { stars = stars; core = core; parts = parts })

pub seen-TypedMembers : (specifiers : TypedSpecifiers) (declarators : List TypedDeclarator) → typed_members_view (roll-TypedMembers (record { specifiers = specifiers; declarators = declarators })) ≡ (λ before. typed.AndMember before (typed_specifiers_view specifiers) (typed_member_declarators_of (map typed_declarator_view declarators)))
seen-TypedMembers specifiers declarators = fold-roll-TypedMembers typed.TypedCore (typed.TypedEnumerators → typed.TypedEnumerators) typed.TypedExpr (typed.TypedParts → typed.TypedParts) typed.TypedPlace typed.TypedSpecifier typed.TypedDeclarator typed.TypedForm (typed.TypedMembers → typed.TypedMembers) (typed.TypedParameters → typed.TypedParameters) typed.TypedSpecifiers typed.TypedTypeName
    typed_core_layer typed_enumerator_layer typed_expr_layer typed_part_layer typed_place_layer typed_specifier_layer typed_declarator_layer typed_form_layer typed_members_layer typed_parameter_layer typed_specifiers_layer typed_type_name_layer
    (record { specifiers = specifiers; declarators = declarators })

pub seen-TypedParameter : (specifiers : TypedSpecifiers) (declarator : Option TypedForm) (adjusted : Option Adjusted) (ty : TypeId) → typed_parameter_view (roll-TypedParameter (record { specifiers = specifiers; declarator = declarator; adjusted = adjusted; ty = ty })) ≡ (λ before. typed.AndParameter before (typed_specifiers_view specifiers) (typed_declared_of (option_map typed_form_view declarator)) adjusted ty)
seen-TypedParameter specifiers None adjusted ty = fold-roll-TypedParameter typed.TypedCore (typed.TypedEnumerators → typed.TypedEnumerators) typed.TypedExpr (typed.TypedParts → typed.TypedParts) typed.TypedPlace typed.TypedSpecifier typed.TypedDeclarator typed.TypedForm (typed.TypedMembers → typed.TypedMembers) (typed.TypedParameters → typed.TypedParameters) typed.TypedSpecifiers typed.TypedTypeName
    typed_core_layer typed_enumerator_layer typed_expr_layer typed_part_layer typed_place_layer typed_specifier_layer typed_declarator_layer typed_form_layer typed_members_layer typed_parameter_layer typed_specifiers_layer typed_type_name_layer
    (record { specifiers = specifiers; declarator = None; adjusted = adjusted; ty = ty })
seen-TypedParameter specifiers (Some some) adjusted ty = fold-roll-TypedParameter typed.TypedCore (typed.TypedEnumerators → typed.TypedEnumerators) typed.TypedExpr (typed.TypedParts → typed.TypedParts) typed.TypedPlace typed.TypedSpecifier typed.TypedDeclarator typed.TypedForm (typed.TypedMembers → typed.TypedMembers) (typed.TypedParameters → typed.TypedParameters) typed.TypedSpecifiers typed.TypedTypeName
    typed_core_layer typed_enumerator_layer typed_expr_layer typed_part_layer typed_place_layer typed_specifier_layer typed_declarator_layer typed_form_layer typed_members_layer typed_parameter_layer typed_specifiers_layer typed_type_name_layer
    (record { specifiers = specifiers; declarator = (Some some); adjusted = adjusted; ty = ty })

pub seen-TypedSpecifiers : (list : List TypedSpecifier) (ty : TypeId) → typed_specifiers_view (roll-TypedSpecifiers (record { list = list; ty = ty })) ≡ typed.Specified (typed_specifiers_of (map typed_specifier_view list)) ty
seen-TypedSpecifiers list ty = fold-roll-TypedSpecifiers typed.TypedCore (typed.TypedEnumerators → typed.TypedEnumerators) typed.TypedExpr (typed.TypedParts → typed.TypedParts) typed.TypedPlace typed.TypedSpecifier typed.TypedDeclarator typed.TypedForm (typed.TypedMembers → typed.TypedMembers) (typed.TypedParameters → typed.TypedParameters) typed.TypedSpecifiers typed.TypedTypeName
    typed_core_layer typed_enumerator_layer typed_expr_layer typed_part_layer typed_place_layer typed_specifier_layer typed_declarator_layer typed_form_layer typed_members_layer typed_parameter_layer typed_specifiers_layer typed_type_name_layer
    (record { list = list; ty = ty })

pub seen-TypedTypeName : (specifiers : TypedSpecifiers) (declarator : Option TypedForm) (ty : TypeId) → typed_type_name_view (roll-TypedTypeName (record { specifiers = specifiers; declarator = declarator; ty = ty })) ≡ typed.Named (typed_specifiers_view specifiers) (typed_declared_of (option_map typed_form_view declarator)) ty
seen-TypedTypeName specifiers None ty = fold-roll-TypedTypeName typed.TypedCore (typed.TypedEnumerators → typed.TypedEnumerators) typed.TypedExpr (typed.TypedParts → typed.TypedParts) typed.TypedPlace typed.TypedSpecifier typed.TypedDeclarator typed.TypedForm (typed.TypedMembers → typed.TypedMembers) (typed.TypedParameters → typed.TypedParameters) typed.TypedSpecifiers typed.TypedTypeName
    typed_core_layer typed_enumerator_layer typed_expr_layer typed_part_layer typed_place_layer typed_specifier_layer typed_declarator_layer typed_form_layer typed_members_layer typed_parameter_layer typed_specifiers_layer typed_type_name_layer
    (record { specifiers = specifiers; declarator = None; ty = ty })
seen-TypedTypeName specifiers (Some some) ty = fold-roll-TypedTypeName typed.TypedCore (typed.TypedEnumerators → typed.TypedEnumerators) typed.TypedExpr (typed.TypedParts → typed.TypedParts) typed.TypedPlace typed.TypedSpecifier typed.TypedDeclarator typed.TypedForm (typed.TypedMembers → typed.TypedMembers) (typed.TypedParameters → typed.TypedParameters) typed.TypedSpecifiers typed.TypedTypeName
    typed_core_layer typed_enumerator_layer typed_expr_layer typed_part_layer typed_place_layer typed_specifier_layer typed_declarator_layer typed_form_layer typed_members_layer typed_parameter_layer typed_specifiers_layer typed_type_name_layer
    (record { specifiers = specifiers; declarator = (Some some); ty = ty })

pub ruleset typed_views = (typed_core-Names, typed_core-Unnamed, typed_core-Nested, typed_enumerator-Plain, typed_enumerator-Valued, typed_expr-Integer, typed_expr-Character, typed_expr-Enumerator, typed_expr-FunctionName, typed_expr-RuntimeName, typed_expr-Paren, typed_expr-Read, typed_expr-Unread, typed_expr-Decay, typed_expr-Convert, typed_expr-Cast, typed_expr-AddressOf, typed_expr-AddressOfElement, typed_expr-AddressOfFunction, typed_expr-FunctionAt, typed_expr-Prefix, typed_expr-SizeOfPlace, typed_expr-SizeOfValue, typed_expr-SizeOfType, typed_expr-StepBefore, typed_expr-StepAfter, typed_expr-Arithmetic, typed_expr-Moved, typed_expr-Difference, typed_expr-Compared, typed_expr-Logical, typed_expr-Conditional, typed_expr-PointerConditional, typed_expr-Comma, typed_expr-Assign, typed_expr-AssignWith, typed_expr-Call, typed_expr-CallRuntime, typed_expr-Allocate, typed_expr-AllocateFor, typed_part-Array, typed_part-SizedArray, typed_part-Function, typed_place-Variable, typed_place-String, typed_place-ParenPlace, typed_place-Target, typed_place-Element, typed_place-Member, typed_place-MemberAt, typed_place-StructAssign, typed_place-StructConditional, typed_place-StructComma, typed_specifier-Keyword, typed_specifier-Typedef, typed_specifier-Tagged, typed_specifier-Aggregate, typed_specifier-Enum, typed_specifier-Enumeration, seen-TypedDeclarator, seen-TypedForm, seen-TypedMembers, seen-TypedParameter, seen-TypedSpecifiers, seen-TypedTypeName)
