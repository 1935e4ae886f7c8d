-- What is seen of each variant of the code's tree.
use Rattle.std.proofs.Common.{◌≡◌, ap, sym, ◌∙◌, ℕ, ℤ, Bool, List, map, Option, Some, None, option_map}
use Rattle.cc_base.specs.declared.place.Place.{Place}
use Rattle.c_lexer.specs.declared.number.IntegerType.{IntegerType}
use Rattle.c_tree.specs.Tree as tree
use Rattle.c_tree.specs.Views.{core_view, enumerator_view, expr_view, part_view, specifier_view, declarator_view, members_view, parameter_view, specifiers_view, type_name_view, added, arguments_of, specifiers_of, member_declarators_of, declared_of, array_of, core_layer, enumerator_layer, expr_layer, part_layer, specifier_layer, declarator_layer, members_layer, parameter_layer, specifiers_layer, type_name_layer}
use Rattle.c_tree.specs.declared.leaf.Identifier.{Identifier}
use Rattle.c_tree.specs.declared.leaf.StringPiece.{StringPiece}
use Rattle.c_tree.specs.declared.leaf.Word.{Word}
use Rattle.c_tree.specs.declared.leaf.Star.{Star}
use Rattle.c_tree.specs.declared.operator.AggregateKind.{AggregateKind}
use Rattle.c_tree.specs.declared.operator.Assignment.{Assignment}
use Rattle.c_tree.specs.declared.operator.Binary.{Binary}
use Rattle.c_tree.specs.declared.operator.MemberOperator.{MemberOperator}
use Rattle.c_tree.specs.declared.operator.Step.{Step}
use Rattle.c_tree.specs.declared.operator.Unary.{Unary}
use Rattle.c_tree.specs.declared.expr.Core.{Core}
use Rattle.c_tree.specs.declared.expr.Core.TheOpen as layer
use Rattle.c_tree.specs.declared.expr.Core.TheFolds.{fold-roll-Core, fold-roll-Declarator, fold-roll-Enumerator, fold-roll-Expr, fold-roll-Members, fold-roll-Parameter, fold-roll-Part, fold-roll-Specifier, fold-roll-Specifiers, fold-roll-TypeName}
use Rattle.c_tree.specs.declared.expr.Declarator.{Declarator, roll-Declarator}
use Rattle.c_tree.specs.declared.expr.Enumerator.{Enumerator}
use Rattle.c_tree.specs.declared.expr.Expr.{Expr}
use Rattle.c_tree.specs.declared.expr.Members.{Members, roll-Members}
use Rattle.c_tree.specs.declared.expr.Parameter.{Parameter, roll-Parameter}
use Rattle.c_tree.specs.declared.expr.Part.{Part}
use Rattle.c_tree.specs.declared.expr.Specifier.{Specifier}
use Rattle.c_tree.specs.declared.expr.Specifiers.{Specifiers, roll-Specifiers}
use Rattle.c_tree.specs.declared.expr.TypeName.{TypeName, roll-TypeName}
use Rattle.c_tree.specs.declared.expr.Core.TheVariants as core
use Rattle.c_tree.specs.declared.expr.Enumerator.TheVariants as enumerator
use Rattle.c_tree.specs.declared.expr.Expr.TheVariants as expr
use Rattle.c_tree.specs.declared.expr.Part.TheVariants as part
use Rattle.c_tree.specs.declared.expr.Specifier.TheVariants as specifier

pub view_core-Names : (name : Identifier) → core_view (core.Names name) ≡ tree.Names name
view_core-Names name = ap core_view (sym (core.rolls-Names name)) ∙ fold-roll-Core tree.Core (tree.Enumerators → tree.Enumerators) tree.Expr (tree.Parts → tree.Parts) tree.Specifier tree.Declarator
    (tree.Members → tree.Members) (tree.Parameters → tree.Parameters) tree.Specifiers tree.TypeName
    core_layer enumerator_layer expr_layer part_layer specifier_layer declarator_layer members_layer parameter_layer specifiers_layer type_name_layer (layer.Names name)

pub view_core-Unnamed : core_view core.Unnamed ≡ tree.Unnamed
view_core-Unnamed = ap core_view (sym (core.rolls-Unnamed)) ∙ fold-roll-Core tree.Core (tree.Enumerators → tree.Enumerators) tree.Expr (tree.Parts → tree.Parts) tree.Specifier tree.Declarator
    (tree.Members → tree.Members) (tree.Parameters → tree.Parameters) tree.Specifiers tree.TypeName
    core_layer enumerator_layer expr_layer part_layer specifier_layer declarator_layer members_layer parameter_layer specifiers_layer type_name_layer layer.Unnamed

pub view_core-Nested : (at : Place) (d : Declarator) → core_view (core.Nested at d) ≡ tree.Nested at (declarator_view d)
view_core-Nested at d = ap core_view (sym (core.rolls-Nested at d)) ∙ fold-roll-Core tree.Core (tree.Enumerators → tree.Enumerators) tree.Expr (tree.Parts → tree.Parts) tree.Specifier tree.Declarator
    (tree.Members → tree.Members) (tree.Parameters → tree.Parameters) tree.Specifiers tree.TypeName
    core_layer enumerator_layer expr_layer part_layer specifier_layer declarator_layer members_layer parameter_layer specifiers_layer type_name_layer (layer.Nested at d)

pub view_enumerator-Plain : (name : Identifier) → enumerator_view (enumerator.Plain name) ≡ (λ before. tree.AndEnumerator before name)
view_enumerator-Plain name = ap enumerator_view (sym (enumerator.rolls-Plain name)) ∙ fold-roll-Enumerator tree.Core (tree.Enumerators → tree.Enumerators) tree.Expr (tree.Parts → tree.Parts) tree.Specifier tree.Declarator
    (tree.Members → tree.Members) (tree.Parameters → tree.Parameters) tree.Specifiers tree.TypeName
    core_layer enumerator_layer expr_layer part_layer specifier_layer declarator_layer members_layer parameter_layer specifiers_layer type_name_layer (layer.Plain name)

pub view_enumerator-Valued : (name : Identifier) (at : Place) (e : Expr) → enumerator_view (enumerator.Valued name at e) ≡ (λ before. tree.AndValued before name at (expr_view e))
view_enumerator-Valued name at e = ap enumerator_view (sym (enumerator.rolls-Valued name at e)) ∙ fold-roll-Enumerator tree.Core (tree.Enumerators → tree.Enumerators) tree.Expr (tree.Parts → tree.Parts) tree.Specifier tree.Declarator
    (tree.Members → tree.Members) (tree.Parameters → tree.Parameters) tree.Specifiers tree.TypeName
    core_layer enumerator_layer expr_layer part_layer specifier_layer declarator_layer members_layer parameter_layer specifiers_layer type_name_layer (layer.Valued name at e)

pub view_expr-Name : (name : Identifier) → expr_view (expr.Name name) ≡ tree.Name name
view_expr-Name name = ap expr_view (sym (expr.rolls-Name name)) ∙ fold-roll-Expr tree.Core (tree.Enumerators → tree.Enumerators) tree.Expr (tree.Parts → tree.Parts) tree.Specifier tree.Declarator
    (tree.Members → tree.Members) (tree.Parameters → tree.Parameters) tree.Specifiers tree.TypeName
    core_layer enumerator_layer expr_layer part_layer specifier_layer declarator_layer members_layer parameter_layer specifiers_layer type_name_layer (layer.Name name)

pub view_expr-Integer : (type : IntegerType) (value : ℕ) (place : Place) → expr_view (expr.Integer type value place) ≡ tree.Integer type value place
view_expr-Integer type value place = ap expr_view (sym (expr.rolls-Integer type value place)) ∙ fold-roll-Expr tree.Core (tree.Enumerators → tree.Enumerators) tree.Expr (tree.Parts → tree.Parts) tree.Specifier tree.Declarator
    (tree.Members → tree.Members) (tree.Parameters → tree.Parameters) tree.Specifiers tree.TypeName
    core_layer enumerator_layer expr_layer part_layer specifier_layer declarator_layer members_layer parameter_layer specifiers_layer type_name_layer (layer.Integer type value place)

pub view_expr-Character : (value : ℤ) (place : Place) → expr_view (expr.Character value place) ≡ tree.Character value place
view_expr-Character value place = ap expr_view (sym (expr.rolls-Character value place)) ∙ fold-roll-Expr tree.Core (tree.Enumerators → tree.Enumerators) tree.Expr (tree.Parts → tree.Parts) tree.Specifier tree.Declarator
    (tree.Members → tree.Members) (tree.Parameters → tree.Parameters) tree.Specifiers tree.TypeName
    core_layer enumerator_layer expr_layer part_layer specifier_layer declarator_layer members_layer parameter_layer specifiers_layer type_name_layer (layer.Character value place)

pub view_expr-String : (pieces : List StringPiece) → expr_view (expr.String pieces) ≡ tree.String pieces
view_expr-String pieces = ap expr_view (sym (expr.rolls-String pieces)) ∙ fold-roll-Expr tree.Core (tree.Enumerators → tree.Enumerators) tree.Expr (tree.Parts → tree.Parts) tree.Specifier tree.Declarator
    (tree.Members → tree.Members) (tree.Parameters → tree.Parameters) tree.Specifiers tree.TypeName
    core_layer enumerator_layer expr_layer part_layer specifier_layer declarator_layer members_layer parameter_layer specifiers_layer type_name_layer (layer.String pieces)

pub view_expr-Paren : (at : Place) (e : Expr) → expr_view (expr.Paren at e) ≡ tree.Paren at (expr_view e)
view_expr-Paren at e = ap expr_view (sym (expr.rolls-Paren at e)) ∙ fold-roll-Expr tree.Core (tree.Enumerators → tree.Enumerators) tree.Expr (tree.Parts → tree.Parts) tree.Specifier tree.Declarator
    (tree.Members → tree.Members) (tree.Parameters → tree.Parameters) tree.Specifiers tree.TypeName
    core_layer enumerator_layer expr_layer part_layer specifier_layer declarator_layer members_layer parameter_layer specifiers_layer type_name_layer (layer.Paren at e)

pub view_expr-Index : (e : Expr) (at : Place) (index : Expr) → expr_view (expr.Index e at index) ≡ tree.Index (expr_view e) at (expr_view index)
view_expr-Index e at index = ap expr_view (sym (expr.rolls-Index e at index)) ∙ fold-roll-Expr tree.Core (tree.Enumerators → tree.Enumerators) tree.Expr (tree.Parts → tree.Parts) tree.Specifier tree.Declarator
    (tree.Members → tree.Members) (tree.Parameters → tree.Parameters) tree.Specifiers tree.TypeName
    core_layer enumerator_layer expr_layer part_layer specifier_layer declarator_layer members_layer parameter_layer specifiers_layer type_name_layer (layer.Index e at index)

pub view_expr-Call : (e : Expr) (at : Place) (arguments : List Expr) → expr_view (expr.Call e at arguments) ≡ tree.Call (expr_view e) at (arguments_of (map expr_view arguments))
view_expr-Call e at arguments = ap expr_view (sym (expr.rolls-Call e at arguments)) ∙ fold-roll-Expr tree.Core (tree.Enumerators → tree.Enumerators) tree.Expr (tree.Parts → tree.Parts) tree.Specifier tree.Declarator
    (tree.Members → tree.Members) (tree.Parameters → tree.Parameters) tree.Specifiers tree.TypeName
    core_layer enumerator_layer expr_layer part_layer specifier_layer declarator_layer members_layer parameter_layer specifiers_layer type_name_layer (layer.Call e at arguments)

pub view_expr-Member : (e : Expr) (op : MemberOperator) (at : Place) (name : Identifier) → expr_view (expr.Member e op at name) ≡ tree.Member (expr_view e) op at name
view_expr-Member e op at name = ap expr_view (sym (expr.rolls-Member e op at name)) ∙ fold-roll-Expr tree.Core (tree.Enumerators → tree.Enumerators) tree.Expr (tree.Parts → tree.Parts) tree.Specifier tree.Declarator
    (tree.Members → tree.Members) (tree.Parameters → tree.Parameters) tree.Specifiers tree.TypeName
    core_layer enumerator_layer expr_layer part_layer specifier_layer declarator_layer members_layer parameter_layer specifiers_layer type_name_layer (layer.Member e op at name)

pub view_expr-Postfix : (e : Expr) (step : Step) (at : Place) → expr_view (expr.Postfix e step at) ≡ tree.Postfix (expr_view e) step at
view_expr-Postfix e step at = ap expr_view (sym (expr.rolls-Postfix e step at)) ∙ fold-roll-Expr tree.Core (tree.Enumerators → tree.Enumerators) tree.Expr (tree.Parts → tree.Parts) tree.Specifier tree.Declarator
    (tree.Members → tree.Members) (tree.Parameters → tree.Parameters) tree.Specifiers tree.TypeName
    core_layer enumerator_layer expr_layer part_layer specifier_layer declarator_layer members_layer parameter_layer specifiers_layer type_name_layer (layer.Postfix e step at)

pub view_expr-Prefix : (op : Unary) (at : Place) (e : Expr) → expr_view (expr.Prefix op at e) ≡ tree.Prefix op at (expr_view e)
view_expr-Prefix op at e = ap expr_view (sym (expr.rolls-Prefix op at e)) ∙ fold-roll-Expr tree.Core (tree.Enumerators → tree.Enumerators) tree.Expr (tree.Parts → tree.Parts) tree.Specifier tree.Declarator
    (tree.Members → tree.Members) (tree.Parameters → tree.Parameters) tree.Specifiers tree.TypeName
    core_layer enumerator_layer expr_layer part_layer specifier_layer declarator_layer members_layer parameter_layer specifiers_layer type_name_layer (layer.Prefix op at e)

pub view_expr-SizeOfType : (at : Place) (paren : Place) (type : TypeName) → expr_view (expr.SizeOfType at paren type) ≡ tree.SizeOfType at paren (type_name_view type)
view_expr-SizeOfType at paren type = ap expr_view (sym (expr.rolls-SizeOfType at paren type)) ∙ fold-roll-Expr tree.Core (tree.Enumerators → tree.Enumerators) tree.Expr (tree.Parts → tree.Parts) tree.Specifier tree.Declarator
    (tree.Members → tree.Members) (tree.Parameters → tree.Parameters) tree.Specifiers tree.TypeName
    core_layer enumerator_layer expr_layer part_layer specifier_layer declarator_layer members_layer parameter_layer specifiers_layer type_name_layer (layer.SizeOfType at paren type)

pub view_expr-Cast : (at : Place) (type : TypeName) (e : Expr) → expr_view (expr.Cast at type e) ≡ tree.Cast at (type_name_view type) (expr_view e)
view_expr-Cast at type e = ap expr_view (sym (expr.rolls-Cast at type e)) ∙ fold-roll-Expr tree.Core (tree.Enumerators → tree.Enumerators) tree.Expr (tree.Parts → tree.Parts) tree.Specifier tree.Declarator
    (tree.Members → tree.Members) (tree.Parameters → tree.Parameters) tree.Specifiers tree.TypeName
    core_layer enumerator_layer expr_layer part_layer specifier_layer declarator_layer members_layer parameter_layer specifiers_layer type_name_layer (layer.Cast at type e)

pub view_expr-Infix : (op : Binary) (left : Expr) (at : Place) (right : Expr) → expr_view (expr.Infix op left at right) ≡ tree.Infix op (expr_view left) at (expr_view right)
view_expr-Infix op left at right = ap expr_view (sym (expr.rolls-Infix op left at right)) ∙ fold-roll-Expr tree.Core (tree.Enumerators → tree.Enumerators) tree.Expr (tree.Parts → tree.Parts) tree.Specifier tree.Declarator
    (tree.Members → tree.Members) (tree.Parameters → tree.Parameters) tree.Specifiers tree.TypeName
    core_layer enumerator_layer expr_layer part_layer specifier_layer declarator_layer members_layer parameter_layer specifiers_layer type_name_layer (layer.Infix op left at right)

pub view_expr-Conditional : (test : Expr) (at : Place) (then_ : Expr) (else_ : Expr) → expr_view (expr.Conditional test at then_ else_) ≡ tree.Conditional (expr_view test) at (expr_view then_) (expr_view else_)
view_expr-Conditional test at then_ else_ = ap expr_view (sym (expr.rolls-Conditional test at then_ else_)) ∙ fold-roll-Expr tree.Core (tree.Enumerators → tree.Enumerators) tree.Expr (tree.Parts → tree.Parts) tree.Specifier tree.Declarator
    (tree.Members → tree.Members) (tree.Parameters → tree.Parameters) tree.Specifiers tree.TypeName
    core_layer enumerator_layer expr_layer part_layer specifier_layer declarator_layer members_layer parameter_layer specifiers_layer type_name_layer (layer.Conditional test at then_ else_)

pub view_expr-Assign : (op : Assignment) (left : Expr) (at : Place) (right : Expr) → expr_view (expr.Assign op left at right) ≡ tree.Assign op (expr_view left) at (expr_view right)
view_expr-Assign op left at right = ap expr_view (sym (expr.rolls-Assign op left at right)) ∙ fold-roll-Expr tree.Core (tree.Enumerators → tree.Enumerators) tree.Expr (tree.Parts → tree.Parts) tree.Specifier tree.Declarator
    (tree.Members → tree.Members) (tree.Parameters → tree.Parameters) tree.Specifiers tree.TypeName
    core_layer enumerator_layer expr_layer part_layer specifier_layer declarator_layer members_layer parameter_layer specifiers_layer type_name_layer (layer.Assign op left at right)

pub view_expr-Comma : (left : Expr) (right : Expr) → expr_view (expr.Comma left right) ≡ tree.Comma (expr_view left) (expr_view right)
view_expr-Comma left right = ap expr_view (sym (expr.rolls-Comma left right)) ∙ fold-roll-Expr tree.Core (tree.Enumerators → tree.Enumerators) tree.Expr (tree.Parts → tree.Parts) tree.Specifier tree.Declarator
    (tree.Members → tree.Members) (tree.Parameters → tree.Parameters) tree.Specifiers tree.TypeName
    core_layer enumerator_layer expr_layer part_layer specifier_layer declarator_layer members_layer parameter_layer specifiers_layer type_name_layer (layer.Comma left right)

pub view_part-Array : (at : Place) (words : List Word) (size : Option Expr) → part_view (part.Array at words size) ≡ (λ before. array_of before at words (option_map expr_view size))
view_part-Array at words None = ap part_view (sym (part.rolls-Array at words None)) ∙ fold-roll-Part tree.Core (tree.Enumerators → tree.Enumerators) tree.Expr (tree.Parts → tree.Parts) tree.Specifier tree.Declarator
    (tree.Members → tree.Members) (tree.Parameters → tree.Parameters) tree.Specifiers tree.TypeName
    core_layer enumerator_layer expr_layer part_layer specifier_layer declarator_layer members_layer parameter_layer specifiers_layer type_name_layer (layer.Array at words None)
view_part-Array at words (Some e) = ap part_view (sym (part.rolls-Array at words (Some e))) ∙ fold-roll-Part tree.Core (tree.Enumerators → tree.Enumerators) tree.Expr (tree.Parts → tree.Parts) tree.Specifier tree.Declarator
    (tree.Members → tree.Members) (tree.Parameters → tree.Parameters) tree.Specifiers tree.TypeName
    core_layer enumerator_layer expr_layer part_layer specifier_layer declarator_layer members_layer parameter_layer specifiers_layer type_name_layer (layer.Array at words (Some e))

pub view_part-Function : (at : Place) (parameters : List Parameter) → part_view (part.Function at parameters) ≡ (λ before. tree.AndFunction before at (added tree.NoParameter (map parameter_view parameters)))
view_part-Function at parameters = ap part_view (sym (part.rolls-Function at parameters)) ∙ fold-roll-Part tree.Core (tree.Enumerators → tree.Enumerators) tree.Expr (tree.Parts → tree.Parts) tree.Specifier tree.Declarator
    (tree.Members → tree.Members) (tree.Parameters → tree.Parameters) tree.Specifiers tree.TypeName
    core_layer enumerator_layer expr_layer part_layer specifier_layer declarator_layer members_layer parameter_layer specifiers_layer type_name_layer (layer.Function at parameters)

pub view_specifier-Keyword : (word : Word) → specifier_view (specifier.Keyword word) ≡ tree.Keyword word
view_specifier-Keyword word = ap specifier_view (sym (specifier.rolls-Keyword word)) ∙ fold-roll-Specifier tree.Core (tree.Enumerators → tree.Enumerators) tree.Expr (tree.Parts → tree.Parts) tree.Specifier tree.Declarator
    (tree.Members → tree.Members) (tree.Parameters → tree.Parameters) tree.Specifiers tree.TypeName
    core_layer enumerator_layer expr_layer part_layer specifier_layer declarator_layer members_layer parameter_layer specifiers_layer type_name_layer (layer.Keyword word)

pub view_specifier-Typedef : (name : Identifier) → specifier_view (specifier.Typedef name) ≡ tree.Typedef name
view_specifier-Typedef name = ap specifier_view (sym (specifier.rolls-Typedef name)) ∙ fold-roll-Specifier tree.Core (tree.Enumerators → tree.Enumerators) tree.Expr (tree.Parts → tree.Parts) tree.Specifier tree.Declarator
    (tree.Members → tree.Members) (tree.Parameters → tree.Parameters) tree.Specifiers tree.TypeName
    core_layer enumerator_layer expr_layer part_layer specifier_layer declarator_layer members_layer parameter_layer specifiers_layer type_name_layer (layer.Typedef name)

pub view_specifier-Tagged : (kind : AggregateKind) (at : Place) (tag : Identifier) → specifier_view (specifier.Tagged kind at tag) ≡ tree.Tagged kind at tag
view_specifier-Tagged kind at tag = ap specifier_view (sym (specifier.rolls-Tagged kind at tag)) ∙ fold-roll-Specifier tree.Core (tree.Enumerators → tree.Enumerators) tree.Expr (tree.Parts → tree.Parts) tree.Specifier tree.Declarator
    (tree.Members → tree.Members) (tree.Parameters → tree.Parameters) tree.Specifiers tree.TypeName
    core_layer enumerator_layer expr_layer part_layer specifier_layer declarator_layer members_layer parameter_layer specifiers_layer type_name_layer (layer.Tagged kind at tag)

pub view_specifier-Aggregate : (kind : AggregateKind) (at : Place) (tag : Option Identifier) (brace : Place) (members : List Members) → specifier_view (specifier.Aggregate kind at tag brace members) ≡ tree.Aggregate kind at tag brace (added tree.NoMember (map members_view members))
view_specifier-Aggregate kind at tag brace members = ap specifier_view (sym (specifier.rolls-Aggregate kind at tag brace members)) ∙ fold-roll-Specifier tree.Core (tree.Enumerators → tree.Enumerators) tree.Expr (tree.Parts → tree.Parts) tree.Specifier tree.Declarator
    (tree.Members → tree.Members) (tree.Parameters → tree.Parameters) tree.Specifiers tree.TypeName
    core_layer enumerator_layer expr_layer part_layer specifier_layer declarator_layer members_layer parameter_layer specifiers_layer type_name_layer (layer.Aggregate kind at tag brace members)

pub view_specifier-Enum : (at : Place) (tag : Identifier) → specifier_view (specifier.Enum at tag) ≡ tree.Enum at tag
view_specifier-Enum at tag = ap specifier_view (sym (specifier.rolls-Enum at tag)) ∙ fold-roll-Specifier tree.Core (tree.Enumerators → tree.Enumerators) tree.Expr (tree.Parts → tree.Parts) tree.Specifier tree.Declarator
    (tree.Members → tree.Members) (tree.Parameters → tree.Parameters) tree.Specifiers tree.TypeName
    core_layer enumerator_layer expr_layer part_layer specifier_layer declarator_layer members_layer parameter_layer specifiers_layer type_name_layer (layer.Enum at tag)

pub view_specifier-Enumeration : (at : Place) (tag : Option Identifier) (brace : Place) (enumerators : List Enumerator) (comma : Bool) → specifier_view (specifier.Enumeration at tag brace enumerators comma) ≡ tree.Enumeration at tag brace (added tree.NoEnumerator (map enumerator_view enumerators)) comma
view_specifier-Enumeration at tag brace enumerators comma = ap specifier_view (sym (specifier.rolls-Enumeration at tag brace enumerators comma)) ∙ fold-roll-Specifier tree.Core (tree.Enumerators → tree.Enumerators) tree.Expr (tree.Parts → tree.Parts) tree.Specifier tree.Declarator
    (tree.Members → tree.Members) (tree.Parameters → tree.Parameters) tree.Specifiers tree.TypeName
    core_layer enumerator_layer expr_layer part_layer specifier_layer declarator_layer members_layer parameter_layer specifiers_layer type_name_layer (layer.Enumeration at tag brace enumerators comma)

pub view-Declarator : (stars : List Star) (core : Core) (parts : List Part) → declarator_view (roll-Declarator (record { stars = stars; core = core; parts = parts })) ≡ tree.Declares stars (core_view core) (added tree.NoPart (map part_view parts))
view-Declarator stars core parts = fold-roll-Declarator tree.Core (tree.Enumerators → tree.Enumerators) tree.Expr (tree.Parts → tree.Parts) tree.Specifier tree.Declarator
    (tree.Members → tree.Members) (tree.Parameters → tree.Parameters) tree.Specifiers tree.TypeName
    core_layer enumerator_layer expr_layer part_layer specifier_layer declarator_layer members_layer parameter_layer specifiers_layer type_name_layer
    (record { stars = stars; core = core; parts = parts })

pub view-Members : (specifiers : Specifiers) (declarators : List Declarator) → members_view (roll-Members (record { specifiers = specifiers; declarators = declarators })) ≡ (λ before. tree.AndMember before (specifiers_view specifiers) (member_declarators_of (map declarator_view declarators)))
view-Members specifiers declarators = fold-roll-Members tree.Core (tree.Enumerators → tree.Enumerators) tree.Expr (tree.Parts → tree.Parts) tree.Specifier tree.Declarator
    (tree.Members → tree.Members) (tree.Parameters → tree.Parameters) tree.Specifiers tree.TypeName
    core_layer enumerator_layer expr_layer part_layer specifier_layer declarator_layer members_layer parameter_layer specifiers_layer type_name_layer
    (record { specifiers = specifiers; declarators = declarators })

pub view-Parameter : (specifiers : Specifiers) (declarator : Option Declarator) → parameter_view (roll-Parameter (record { specifiers = specifiers; declarator = declarator })) ≡ (λ before. tree.AndParameter before (specifiers_view specifiers) (declared_of (option_map declarator_view declarator)))
view-Parameter specifiers None = fold-roll-Parameter tree.Core (tree.Enumerators → tree.Enumerators) tree.Expr (tree.Parts → tree.Parts) tree.Specifier tree.Declarator
    (tree.Members → tree.Members) (tree.Parameters → tree.Parameters) tree.Specifiers tree.TypeName
    core_layer enumerator_layer expr_layer part_layer specifier_layer declarator_layer members_layer parameter_layer specifiers_layer type_name_layer
    (record { specifiers = specifiers; declarator = None })
view-Parameter specifiers (Some d) = fold-roll-Parameter tree.Core (tree.Enumerators → tree.Enumerators) tree.Expr (tree.Parts → tree.Parts) tree.Specifier tree.Declarator
    (tree.Members → tree.Members) (tree.Parameters → tree.Parameters) tree.Specifiers tree.TypeName
    core_layer enumerator_layer expr_layer part_layer specifier_layer declarator_layer members_layer parameter_layer specifiers_layer type_name_layer
    (record { specifiers = specifiers; declarator = (Some d) })

pub view-Specifiers : (list : List Specifier) → specifiers_view (roll-Specifiers (record { list = list })) ≡ specifiers_of (map specifier_view list)
view-Specifiers list = fold-roll-Specifiers tree.Core (tree.Enumerators → tree.Enumerators) tree.Expr (tree.Parts → tree.Parts) tree.Specifier tree.Declarator
    (tree.Members → tree.Members) (tree.Parameters → tree.Parameters) tree.Specifiers tree.TypeName
    core_layer enumerator_layer expr_layer part_layer specifier_layer declarator_layer members_layer parameter_layer specifiers_layer type_name_layer
    (record { list = list })

pub view-TypeName : (specifiers : Specifiers) (declarator : Option Declarator) → type_name_view (roll-TypeName (record { specifiers = specifiers; declarator = declarator })) ≡ tree.Named (specifiers_view specifiers) (declared_of (option_map declarator_view declarator))
view-TypeName specifiers None = fold-roll-TypeName tree.Core (tree.Enumerators → tree.Enumerators) tree.Expr (tree.Parts → tree.Parts) tree.Specifier tree.Declarator
    (tree.Members → tree.Members) (tree.Parameters → tree.Parameters) tree.Specifiers tree.TypeName
    core_layer enumerator_layer expr_layer part_layer specifier_layer declarator_layer members_layer parameter_layer specifiers_layer type_name_layer
    (record { specifiers = specifiers; declarator = None })
view-TypeName specifiers (Some d) = fold-roll-TypeName tree.Core (tree.Enumerators → tree.Enumerators) tree.Expr (tree.Parts → tree.Parts) tree.Specifier tree.Declarator
    (tree.Members → tree.Members) (tree.Parameters → tree.Parameters) tree.Specifiers tree.TypeName
    core_layer enumerator_layer expr_layer part_layer specifier_layer declarator_layer members_layer parameter_layer specifiers_layer type_name_layer
    (record { specifiers = specifiers; declarator = (Some d) })

pub ruleset expr_views = (view_core-Names, view_core-Unnamed, view_core-Nested, view_enumerator-Plain, view_enumerator-Valued, view_expr-Name, view_expr-Integer, view_expr-Character, view_expr-String, view_expr-Paren, view_expr-Index, view_expr-Call, view_expr-Member, view_expr-Postfix, view_expr-Prefix, view_expr-SizeOfType, view_expr-Cast, view_expr-Infix, view_expr-Conditional, view_expr-Assign, view_expr-Comma, view_part-Array, view_part-Function, view_specifier-Keyword, view_specifier-Typedef, view_specifier-Tagged, view_specifier-Aggregate, view_specifier-Enum, view_specifier-Enumeration, view-Declarator, view-Members, view-Parameter, view-Specifiers, view-TypeName)
