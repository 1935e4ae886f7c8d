-- A table that goes on keeps the whole judgement: what is well typed over one is well typed over each that goes on from it.
use Rattle.std.proofs.Common.{Bool, Option, ap, sym, ◌∙◌}
use Rattle.cc_base.specs.declared.number.TypeId.{TypeId}
use Rattle.c_types.specs.declared.shape.TypeShape.{TypeShape}
use Rattle.c_types.specs.Table.{Table}
use Rattle.c_tree.specs.declared.typed_word.Adjusted.{Adjusted}
use Rattle.c_tree.specs.Erasure.{erased_declared, erased_specifier_list}
use Rattle.c_tree.specs.TypedTree as typed
use Rattle.c_tree.specs.TypedTree.{TypedExpr, TypedPlace, TypedArguments, TypedTypeName, TypedSpecifiers, TypedSpecifierList, TypedSpecifier, TypedMembers, TypedMemberDeclarators, TypedEnumerators, TypedForm, TypedCore, TypedParts, TypedParameters, TypedDeclared}
use Rattle.c_tree.specs.TypedParts.{type_of, place_type, named_type, specified_type, is_void_list}
use Rattle.c_typing.specs.Adjusting.{IsAdjusted, derived_by_declared, typedef_place, adjusted_at}
use Rattle.c_typing.specs.Declarators.{Written}
use Rattle.c_typing.specs.Extensions.{IsExtended}
use Rattle.c_typing.specs.Scopes.{Scopes, tag_in, entering}
use Rattle.c_typing.specs.Settled.{IsBasic}
use Rattle.c_typing.specs.Typing.{IsTyped, IsPlace, AreTyped, IsTypeName, AreSpecifiers, AreListed, IsSpecifier, AreMembers, AreMemberDeclarators, AreEnumerators, IsForm, IsCore, AreParts, AreParameters, IsDeclared, tag_named_here, enumerating}
use Rattle.c_typing_laws.proofs.ExtensionLaws.{complete_kept, still_in}
use Rattle.c_typing_laws.proofs.KeptConstants.{own-plain, constant-kept}
use Rattle.c_typing_laws.proofs.KeptRules
use Rattle.c_typing_laws.proofs.KeptDeclarators

module _ (T U : Table) (x : IsExtended T U) (b : IsBasic T) where
  adjusted-kept : (specifiers : TypedSpecifiers) (d : TypedDeclared) (a : Option Adjusted) (s s' : Scopes) → AreSpecifiers T specifiers s s'
      → IsAdjusted T specifiers d a → IsAdjusted U specifiers d a
  adjusted-kept (typed.Specified list t) d a s s' h q =
      q ∙ ap (λ (y : TypeShape). adjusted_at (derived_by_declared (erased_declared d)) y (typedef_place (erased_specifier_list list))) (sym (x.shapes t h.1.there))

  mutual
    pub value-kept : (e : TypedExpr) (s s' : Scopes) → IsTyped T e s s' → IsTyped U e s s'
    value-kept (typed.Integer of value at t) s s' h = (h.0, KeptRules.has-kept T U x b t (_) h.1)
    value-kept (typed.Character value at t) s s' h = (h.0, KeptRules.has-kept T U x b t (_) h.1)
    value-kept (typed.Enumerator name value t) s s' h = (h.0, KeptRules.enumerator-kept T U x b s name value t h.1)
    value-kept (typed.FunctionName name number n t) s s' h = (h.0, KeptRules.function_name-kept T U x b s name number n t h.1)
    value-kept (typed.RuntimeName name function t) s s' h = (h.0, KeptRules.runtime_name-kept T U x b s name function t h.1)
    value-kept (typed.Paren at e) s s' h = (value-kept e s s' h.0, h.1)
    value-kept (typed.Read p) s s' h = (place-kept p s s' h.0, KeptRules.scalar-kept T U x b (place_type p) h.1)
    value-kept (typed.Unread p) s s' h = (place-kept p s s' h.0, KeptRules.aggregate-kept T U x b (place_type p) h.1)
    value-kept (typed.Decay p n t) s s' h = (place-kept p s s' h.0, KeptRules.decay-kept T U x b p n t h.1)
    value-kept (typed.Convert which at t e) s s' h = (value-kept e s s' h.0, h.1)
    value-kept (typed.Cast which at to e) s s' h =
        (h.0, type_name-kept to s h.0 h.1, value-kept e h.0 s' h.2, KeptRules.cast_rule-kept T U x b s' which (named_type to) e (h.0, s', h.2) h.3)
    value-kept (typed.AddressOf at p n t) s s' h = (place-kept p s s' h.0, KeptRules.address-kept T U x b p n t h.1)
    value-kept (typed.AddressOfElement at p t) s s' h = (place-kept p s s' h.0, h.1)
    value-kept (typed.AddressOfFunction at e) s s' h = (value-kept e s s' h.0, h.1)
    value-kept (typed.FunctionAt at e) s s' h = (value-kept e s s' h.0, KeptRules.function_at-kept T U x b e h.1)
    value-kept (typed.Prefix operator at e t) s s' h = (value-kept e s s' h.0, KeptRules.prefix-kept T U x b operator at e t h.1)
    value-kept (typed.SizeOfPlace at p size t) s s' h = (place-kept p s s' h.0, KeptRules.size-kept T U x b s' (place_type p) size t h.1)
    value-kept (typed.SizeOfValue at e size t) s s' h = (value-kept e s s' h.0, h.1, KeptRules.size-kept T U x b s' (type_of e) size t h.2)
    value-kept (typed.SizeOfType at paren name size t) s s' h = (type_name-kept name s s' h.0, KeptRules.size-kept T U x b s' (named_type name) size t h.1)
    value-kept (typed.StepBefore operator at p) s s' h = (place-kept p s s' h.0, KeptRules.step-kept T U x b s' p h.1)
    value-kept (typed.StepAfter p operator at) s s' h = (place-kept p s s' h.0, KeptRules.step-kept T U x b s' p h.1)
    value-kept (typed.Arithmetic operator a at c t) s s' h =
        (h.0, value-kept a s h.0 h.1, value-kept c h.0 s' h.2, KeptRules.arithmetic-kept T U x b operator a at c t (s, h.0, h.1) (h.0, s', h.2) h.3)
    value-kept (typed.Moved operator which a at c t) s s' h =
        (h.0, value-kept a s h.0 h.1, value-kept c h.0 s' h.2, KeptRules.moved-kept T U x b s' operator which a c t h.3)
    value-kept (typed.Difference a at c t) s s' h = (h.0, value-kept a s h.0 h.1, value-kept c h.0 s' h.2, KeptRules.difference-kept T U x b s' a c t h.3)
    value-kept (typed.Compared operator a at c t) s s' h =
        (h.0, value-kept a s h.0 h.1, value-kept c h.0 s' h.2, KeptRules.compared-kept T U x b operator a at c t (s, h.0, h.1) (h.0, s', h.2) h.3)
    value-kept (typed.Logical operator a at c t) s s' h =
        (h.0, value-kept a s h.0 h.1, value-kept c h.0 s' h.2, KeptRules.logical-kept T U x b operator a c t h.3)
    value-kept (typed.Conditional c at a d t) s s' h =
        (h.0, h.1, value-kept c s h.0 h.2, value-kept a h.0 h.1 h.3, value-kept d h.1 s' h.4, KeptRules.choice-kept T U x b c at a d t h.5)
    value-kept (typed.PointerConditional c at a d n t) s s' h = (
      h.0,
      h.1,
      value-kept c s h.0 h.2,
      value-kept a h.0 h.1 h.3,
      value-kept d h.1 s' h.4,
      KeptRules.pointer_choice-kept T U x b c at a d n t (h.0, h.1, h.3) (h.1, s', h.4) h.5,
    )
    value-kept (typed.Comma a c) s s' h = (h.0, value-kept a s h.0 h.1, value-kept c h.0 s' h.2, h.3, h.4)
    value-kept (typed.Assign p at e) s s' h =
        (h.0, place-kept p s h.0 h.1, value-kept e h.0 s' h.2, KeptRules.assignment-kept T U x b s' p at e (h.0, s', h.2) h.3)
    value-kept (typed.AssignWith operator p at e t) s s' h =
        (h.0, place-kept p s h.0 h.1, value-kept e h.0 s' h.2, KeptRules.update-kept T U x b s' operator p at e t h.3)
    value-kept (typed.Call f at all t) s s' h = (h.0, value-kept f s h.0 h.1, arguments-kept all h.0 s' h.2, KeptRules.call-kept T U x b f all t h.0 s' h.2 h.3)
    value-kept (typed.CallRuntime function f at all t) s s' h =
        (h.0, value-kept f s h.0 h.1, arguments-kept all h.0 s' h.2, KeptRules.runtime_call-kept T U x b function f all t h.0 s' h.2 h.3)
    value-kept (typed.Allocate function f at all n t) s s' h =
        (h.0, value-kept f s h.0 h.1, arguments-kept all h.0 s' h.2, KeptRules.allocation-kept T U x b function f all n t h.0 s' h.2 h.3)
    value-kept (typed.AllocateFor function f at all t) s s' h =
        (h.0, value-kept f s h.0 h.1, arguments-kept all h.0 s' h.2, KeptRules.allocation_for-kept T U x b function f all h.0 s' h.2 h.3)

    pub place-kept : (p : TypedPlace) (s s' : Scopes) → IsPlace T p s s' → IsPlace U p s s'
    place-kept (typed.Variable name home t) s s' h = (h.0, h.1, still_in T U x t h.2)
    place-kept (typed.String pieces home t) s s' h = (h.0, KeptRules.string-kept T U x b pieces t h.1)
    place-kept (typed.ParenPlace at p) s s' h = place-kept p s s' h
    place-kept (typed.Target at e t) s s' h = (value-kept e s s' h.0, KeptRules.target-kept T U x b s' e t h.1)
    place-kept (typed.Element which a at c t) s s' h =
        (h.0, value-kept a s h.0 h.1, value-kept c h.0 s' h.2, KeptRules.element-kept T U x b s' which a c t h.3)
    place-kept (typed.Member p at name i n t) s s' h = (place-kept p s s' h.0, KeptRules.member-kept T U x b s' (place_type p) name i t h.1)
    place-kept (typed.MemberAt e at name i n t) s s' h = (value-kept e s s' h.0, KeptRules.member_at-kept T U x b s' e name i t h.1)
    place-kept (typed.StructAssign p at q) s s' h =
        (h.0, place-kept p s h.0 h.1, place-kept q h.0 s' h.2, KeptRules.struct_assignment-kept T U x b p q h.3)
    place-kept (typed.StructConditional c at p q) s s' h = (
      h.0,
      h.1,
      value-kept c s h.0 h.2,
      place-kept p h.0 h.1 h.3,
      place-kept q h.1 s' h.4,
      KeptRules.condition-kept T U x b c h.5,
      KeptRules.one_struct-kept T U x b p q h.6,
    )
    place-kept (typed.StructComma e p) s s' h =
        (h.0, value-kept e s h.0 h.1, place-kept p h.0 s' h.2, h.3, KeptRules.aggregate-kept T U x b (place_type p) h.4)

    pub arguments-kept : (all : TypedArguments) (s s' : Scopes) → AreTyped T all s s' → AreTyped U all s s'
    arguments-kept typed.NoArgument s s' h = h
    arguments-kept (typed.AndArgument all e) s s' h = (h.0, arguments-kept all s h.0 h.1, value-kept e h.0 s' h.2)

    pub type_name-kept : (name : TypedTypeName) (s s' : Scopes) → IsTypeName T name s s' → IsTypeName U name s s'
    type_name-kept (typed.Named specifiers declared t) s s' h = (
      h.0,
      specifiers-kept specifiers s h.0 h.1,
      declared-kept declared h.0 s' h.2,
      h.3,
      KeptDeclarators.declared_makes-kept T U x b s' declared Written (specified_type specifiers) t h.4,
    )

    pub specifiers-kept : (all : TypedSpecifiers) (s s' : Scopes) → AreSpecifiers T all s s' → AreSpecifiers U all s s'
    specifiers-kept (typed.Specified list t) s s' h = (listed-kept list s s' h.0, KeptDeclarators.of_type-kept T U x b list t h.1)

    pub listed-kept : (list : TypedSpecifierList) (s s' : Scopes) → AreListed T list s s' → AreListed U list s s'
    listed-kept typed.NoSpecifier s s' h = h
    listed-kept (typed.AndSpecifier all specifier) s s' h = (h.0, listed-kept all s h.0 h.1, specifier-kept specifier h.0 s' h.2)

    pub specifier-kept : (specifier : TypedSpecifier) (s s' : Scopes) → IsSpecifier T specifier s s' → IsSpecifier U specifier s s'
    specifier-kept (typed.Keyword word) s s' h = h
    specifier-kept (typed.Typedef name t) s s' h = h
    specifier-kept (typed.Tagged which at name t) s s' h = KeptDeclarators.tagged-kept T U x b (tag_in s.levels name.bytes) which name t s s' h
    specifier-kept (typed.Aggregate which at name brace members t) s s' h = (
      h.0,
      h.1,
      KeptDeclarators.begins-kept T U x b (tag_named_here s name) which name t s h.0 (KeptDeclarators.ended-in T members t h.1 s' h.4) h.2,
      members-kept members h.0 h.1 h.3,
      KeptDeclarators.ends-kept T U x b members t h.1 s' h.4,
    )
    specifier-kept (typed.Enum at name) s s' h = h
    specifier-kept (typed.Enumeration at name brace all comma) s s' h = (h.0, enumerators-kept all (enumerating name s) h.0 h.1, h.2)

    pub members-kept : (all : TypedMembers) (s s' : Scopes) → AreMembers T all s s' → AreMembers U all s s'
    members-kept typed.NoMember s s' h = h
    members-kept (typed.AndMember all specifiers declarators) s s' h = (
      h.0,
      h.1,
      members-kept all s h.0 h.2,
      specifiers-kept specifiers h.0 h.1 h.3,
      member_declarators-kept (specified_type specifiers) declarators h.1 s' h.4,
    )

    pub member_declarators-kept : (base : TypeId) (all : TypedMemberDeclarators) (s s' : Scopes) → AreMemberDeclarators T base all s s'
        → AreMemberDeclarators U base all s s'
    member_declarators-kept base typed.NoDeclarator s s' h = h
    member_declarators-kept base (typed.AndDeclarator all (typed.Declares form t)) s s' h = (
      h.0,
      member_declarators-kept base all s h.0 h.1,
      form-kept form h.0 s' h.2,
      h.3,
      KeptDeclarators.form_makes-kept T U x b s' form Written base t h.4,
      complete_kept T U x s' t h.5,
    )

    pub enumerators-kept : (all : TypedEnumerators) (s s' : Scopes) → AreEnumerators T all s s' → AreEnumerators U all s s'
    enumerators-kept typed.NoEnumerator s s' h = h
    enumerators-kept (typed.AndEnumerator all name value) s s' h = (h.0, enumerators-kept all s h.0 h.1, h.2, h.3)
    enumerators-kept (typed.AndValued all name at e value) s s' h = (
      h.0,
      h.1,
      enumerators-kept all s h.0 h.2,
      value-kept e h.0 h.1 h.3,
      record {
        plain = h.4.plain;
        constant = h.4.constant;
        known = constant-kept T U x b e h.0 h.1 h.3 (own-plain T e h.4.plain) ∙ h.4.known;
        int = h.4.int;
      },
      h.5,
    )

    pub form-kept : (form : TypedForm) (s s' : Scopes) → IsForm T form s s' → IsForm U form s s'
    form-kept (typed.Form stars core parts) s s' h = (h.0, core-kept core s h.0 h.1, parts-kept parts h.0 s' h.2)

    pub core-kept : (core : TypedCore) (s s' : Scopes) → IsCore T core s s' → IsCore U core s s'
    core-kept (typed.Names name home) s s' h = h
    core-kept typed.Unnamed s s' h = h
    core-kept (typed.Nested at form) s s' h = form-kept form s s' h

    pub parts-kept : (parts : TypedParts) (s s' : Scopes) → AreParts T parts s s' → AreParts U parts s s'
    parts-kept typed.NoPart s s' h = h
    parts-kept (typed.AndArray all at words) s s' h = parts-kept all s s' h
    parts-kept (typed.AndSizedArray all at words e size) s s' h =
        (h.0, parts-kept all s h.0 h.1, value-kept e h.0 s' h.2, h.3, constant-kept T U x b e h.0 s' h.2 (own-plain T e h.3) ∙ h.4, h.5)
    parts-kept (typed.AndFunction all at parameters) s s' h =
        (h.0, h.1, parts-kept all s h.0 h.2, parameters-kept (is_void_list parameters) parameters (entering h.0) h.1 h.3, h.4)

    pub parameters-kept : (void : Bool) (all : TypedParameters) (s s' : Scopes) → AreParameters T void all s s' → AreParameters U void all s s'
    parameters-kept void typed.NoParameter s s' h = h
    parameters-kept void (typed.AndParameter all specifiers declared adjusted t) s s' h = (
      h.0,
      h.1,
      h.2,
      parameters-kept void all s h.0 h.3,
      specifiers-kept specifiers h.0 h.1 h.4,
      declared-kept declared h.1 h.2 h.5,
      adjusted-kept specifiers declared adjusted h.0 h.1 h.4 h.6,
      KeptDeclarators.parameter-kept T U x b h.2 adjusted declared (specified_type specifiers) t (KeptDeclarators.taken-in void T h.2 t h.8) h.7,
      KeptDeclarators.taken-kept T U x b void h.2 t h.8,
      h.9,
    )

    pub declared-kept : (d : TypedDeclared) (s s' : Scopes) → IsDeclared T d s s' → IsDeclared U d s s'
    declared-kept typed.NotDeclared s s' h = h
    declared-kept (typed.DeclaredBy form) s s' h = form-kept form s s' h
