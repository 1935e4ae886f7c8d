-- The functions that a unit defines are the same at each point of it.
use Rattle.std.proofs.Common.{◌≡◌, Bool, ◌&&◌, Option, Some, None, refl, ap, ◌∙◌}
use Rattle.cc_base.specs.declared.place.Place.{Place}
use Rattle.cc_base.specs.declared.number.TypeId.{TypeId}
use Rattle.c_types.specs.Table.{Table}
use Rattle.c_tree.specs.declared.leaf.Identifier.{Identifier}
use Rattle.c_tree.specs.declared.operator.AggregateKind.{AggregateKind}
use Rattle.c_tree.specs.declared.typed_word.Home.TheVariants as home
use Rattle.c_tree.specs.TypedTree as typed
use Rattle.c_tree.specs.TypedTree.{TypedExpr, TypedPlace, TypedArguments, TypedTypeName, TypedSpecifiers, TypedSpecifierList, TypedSpecifier, TypedMembers, TypedMemberDeclarators, TypedEnumerators, TypedForm, TypedCore, TypedParts, TypedParameters, TypedDeclared, TypedInitialiser, TypedItems}
use Rattle.c_tree.specs.TypedParts.{specified_type, item_place, is_void_list}
use Rattle.c_typing.specs.declared.declared.Tag.{Tag}
use Rattle.c_typing.specs.declared.declared.Tag.TheVariants as tag
use Rattle.c_typing.specs.Scopes.{Scopes, tag_in, tag_here, entering}
use Rattle.c_typing.specs.Typing.{IsTyped, IsPlace, AreTyped, IsTypeName, AreSpecifiers, AreAlone, AreListed, IsSpecifier, AreMembers, AreMemberDeclarators, AreEnumerators, IsForm, IsCore, AreParts, AreParameters, IsDeclared, IsNewAggregate, IsTagged, BeginsAggregate, DeclaresParameter, tagging, counting_aggregate, tag_named_here, enumerating, EndsEnumeration}
use Rattle.c_unit_typing.specs.Initialisers.{is_only_text, is_char_array, IsInitialiser, AreItems}

as_it_is : (s s' : Scopes) → s' ≡ s → s'.defined ≡ s.defined
as_it_is s s' h = ap (λ (q : Scopes). q.defined) h

tagging-defined : (name : Option Identifier) (what : Tag) (s : Scopes) → (tagging name what s).defined ≡ s.defined
tagging-defined None what s = refl
tagging-defined (Some name) what s = refl

new-defined : (T : Table) (which : AggregateKind) (name : Option Identifier) (t : TypeId) (s s' : Scopes) → IsNewAggregate T which name t s s' → s'.defined ≡ s.defined
new-defined T which name t s s' h = as_it_is (tagging name (tag.Aggregate which t) (counting_aggregate s)) s' h.after ∙ tagging-defined name (tag.Aggregate which t) (counting_aggregate s)

tagged-defined : (T : Table) (o : Option Tag) (which : AggregateKind) (name : Identifier) (t : TypeId) (s s' : Scopes) → IsTagged T o which name t s s' → s'.defined ≡ s.defined
tagged-defined T (Some found) which name t s s' h = as_it_is s s' h.1
tagged-defined T None which name t s s' h = new-defined T which (Some name) t s s' h

begun-defined : (T : Table) (o : Option Tag) (which : AggregateKind) (name : Option Identifier) (t : TypeId) (s s' : Scopes) → BeginsAggregate T o which name t s s' → s'.defined ≡ s.defined
begun-defined T (Some found) which name t s s' h = as_it_is s s' h.2
begun-defined T None which name t s s' h = new-defined T which name t s s' h

enumerating-defined : (name : Option Identifier) (s : Scopes) → (enumerating name s).defined ≡ s.defined
enumerating-defined None s = refl
enumerating-defined (Some name) s = by (tag_named_here s (Some name)) refl
  where
    by : (o : Option Tag) → tag_named_here s (Some name) ≡ o → (enumerating (Some name) s).defined ≡ s.defined
    by None h = rw h refl
    by (Some found) h = rw h refl

enumerated-defined : (name : Option Identifier) (s s' : Scopes) → EndsEnumeration name s s' → s'.defined ≡ s.defined
enumerated-defined None s s' h = as_it_is s s' h.after
enumerated-defined (Some name) s s' h = ap (λ (q : Scopes). q.defined) h.after

parameter_form-defined : (form : TypedForm) (t : TypeId) (s s' : Scopes) → DeclaresParameter (typed.DeclaredBy form) t s s' → s'.defined ≡ s.defined
parameter_form-defined (typed.Form stars (typed.Names name (home.Parameter n)) parts) t s s' h = ap (λ (q : Scopes). q.defined) h.after
parameter_form-defined (typed.Form stars (typed.Names name other) parts) t s s' h = absurd h
parameter_form-defined (typed.Form stars typed.Unnamed parts) t s s' h = as_it_is s s' h
parameter_form-defined (typed.Form stars (typed.Nested at form) parts) t s s' h = parameter_form-defined form t s s' h

parameter-defined : (d : TypedDeclared) (t : TypeId) (s s' : Scopes) → DeclaresParameter d t s s' → s'.defined ≡ s.defined
parameter-defined typed.NotDeclared t s s' h = as_it_is s s' h
parameter-defined (typed.DeclaredBy form) t s s' h = parameter_form-defined form t s s' h

module _ (T : Table) where
  mutual
    pub value-defined : (e : TypedExpr) (s s' : Scopes) → IsTyped T e s s' → s'.defined ≡ s.defined
    value-defined (typed.Integer of value at t) s s' h = as_it_is s s' h.0
    value-defined (typed.Character value at t) s s' h = as_it_is s s' h.0
    value-defined (typed.Enumerator name value t) s s' h = as_it_is s s' h.0
    value-defined (typed.FunctionName name number n t) s s' h = as_it_is s s' h.0
    value-defined (typed.RuntimeName name function t) s s' h = as_it_is s s' h.0
    value-defined (typed.Paren at e) s s' h = value-defined e s s' h.0
    value-defined (typed.Convert which at t e) s s' h = value-defined e s s' h.0
    value-defined (typed.AddressOfFunction at e) s s' h = value-defined e s s' h.0
    value-defined (typed.FunctionAt at e) s s' h = value-defined e s s' h.0
    value-defined (typed.Prefix operator at e t) s s' h = value-defined e s s' h.0
    value-defined (typed.SizeOfValue at e size t) s s' h = value-defined e s s' h.0
    value-defined (typed.Read p) s s' h = place-defined p s s' h.0
    value-defined (typed.Unread p) s s' h = place-defined p s s' h.0
    value-defined (typed.Decay p n t) s s' h = place-defined p s s' h.0
    value-defined (typed.AddressOf at p n t) s s' h = place-defined p s s' h.0
    value-defined (typed.AddressOfElement at p t) s s' h = place-defined p s s' h.0
    value-defined (typed.SizeOfPlace at p size t) s s' h = place-defined p s s' h.0
    value-defined (typed.StepBefore operator at p) s s' h = place-defined p s s' h.0
    value-defined (typed.StepAfter p operator at) s s' h = place-defined p s s' h.0
    value-defined (typed.Cast which at to e) s s' h = value-defined e h.0 s' h.2 ∙ type_name-defined to s h.0 h.1
    value-defined (typed.SizeOfType at paren name size t) s s' h = type_name-defined name s s' h.0
    value-defined (typed.Arithmetic operator a at b t) s s' h = value-defined b h.0 s' h.2 ∙ value-defined a s h.0 h.1
    value-defined (typed.Moved operator which a at b t) s s' h = value-defined b h.0 s' h.2 ∙ value-defined a s h.0 h.1
    value-defined (typed.Difference a at b t) s s' h = value-defined b h.0 s' h.2 ∙ value-defined a s h.0 h.1
    value-defined (typed.Compared operator a at b t) s s' h = value-defined b h.0 s' h.2 ∙ value-defined a s h.0 h.1
    value-defined (typed.Logical operator a at b t) s s' h = value-defined b h.0 s' h.2 ∙ value-defined a s h.0 h.1
    value-defined (typed.Comma a b) s s' h = value-defined b h.0 s' h.2 ∙ value-defined a s h.0 h.1
    value-defined (typed.Conditional c at a b t) s s' h = value-defined b h.1 s' h.4 ∙ (value-defined a h.0 h.1 h.3 ∙ value-defined c s h.0 h.2)
    value-defined (typed.PointerConditional c at a b node t) s s' h = value-defined b h.1 s' h.4 ∙ (value-defined a h.0 h.1 h.3 ∙ value-defined c s h.0 h.2)
    value-defined (typed.Assign p at e) s s' h = value-defined e h.0 s' h.2 ∙ place-defined p s h.0 h.1
    value-defined (typed.AssignWith operator p at e t) s s' h = value-defined e h.0 s' h.2 ∙ place-defined p s h.0 h.1
    value-defined (typed.Call f at arguments t) s s' h = arguments-defined arguments h.0 s' h.2 ∙ value-defined f s h.0 h.1
    value-defined (typed.CallRuntime function f at arguments t) s s' h = arguments-defined arguments h.0 s' h.2 ∙ value-defined f s h.0 h.1
    value-defined (typed.Allocate function f at arguments node t) s s' h = arguments-defined arguments h.0 s' h.2 ∙ value-defined f s h.0 h.1
    value-defined (typed.AllocateFor function f at arguments t) s s' h = arguments-defined arguments h.0 s' h.2 ∙ value-defined f s h.0 h.1

    place-defined : (p : TypedPlace) (s s' : Scopes) → IsPlace T p s s' → s'.defined ≡ s.defined
    place-defined (typed.Variable name home t) s s' h = as_it_is s s' h.0
    place-defined (typed.String pieces home t) s s' h = as_it_is s s' h.0
    place-defined (typed.ParenPlace at p) s s' h = place-defined p s s' h
    place-defined (typed.Target at e t) s s' h = value-defined e s s' h.0
    place-defined (typed.Element which a at b t) s s' h = value-defined b h.0 s' h.2 ∙ value-defined a s h.0 h.1
    place-defined (typed.Member p at name i n t) s s' h = place-defined p s s' h.0
    place-defined (typed.MemberAt e at name i n t) s s' h = value-defined e s s' h.0
    place-defined (typed.StructAssign p at q) s s' h = place-defined q h.0 s' h.2 ∙ place-defined p s h.0 h.1
    place-defined (typed.StructConditional c at p q) s s' h = place-defined q h.1 s' h.4 ∙ (place-defined p h.0 h.1 h.3 ∙ value-defined c s h.0 h.2)
    place-defined (typed.StructComma e p) s s' h = place-defined p h.0 s' h.2 ∙ value-defined e s h.0 h.1

    arguments-defined : (all : TypedArguments) (s s' : Scopes) → AreTyped T all s s' → s'.defined ≡ s.defined
    arguments-defined typed.NoArgument s s' h = as_it_is s s' h
    arguments-defined (typed.AndArgument all e) s s' h = value-defined e h.0 s' h.2 ∙ arguments-defined all s h.0 h.1

    type_name-defined : (name : TypedTypeName) (s s' : Scopes) → IsTypeName T name s s' → s'.defined ≡ s.defined
    type_name-defined (typed.Named specifiers d t) s s' h = declared-defined d h.0 s' h.2 ∙ specifiers-defined specifiers s h.0 h.1

    pub specifiers-defined : (all : TypedSpecifiers) (s s' : Scopes) → AreSpecifiers T all s s' → s'.defined ≡ s.defined
    specifiers-defined (typed.Specified list t) s s' h = listed-defined list s s' h.0

    listed-defined : (list : TypedSpecifierList) (s s' : Scopes) → AreListed T list s s' → s'.defined ≡ s.defined
    listed-defined typed.NoSpecifier s s' h = as_it_is s s' h
    listed-defined (typed.AndSpecifier all one) s s' h = specifier-defined one h.0 s' h.2 ∙ listed-defined all s h.0 h.1

    specifier-defined : (one : TypedSpecifier) (s s' : Scopes) → IsSpecifier T one s s' → s'.defined ≡ s.defined
    specifier-defined (typed.Keyword word) s s' h = as_it_is s s' h
    specifier-defined (typed.Typedef name t) s s' h = as_it_is s s' h.0
    specifier-defined (typed.Tagged which at name t) s s' h = tagged-defined T (tag_in s.levels name.bytes) which name t s s' h
    specifier-defined (typed.Aggregate which at name brace members t) s s' h =
        ap (λ (q : Scopes). q.defined) h.4.after
        ∙ (members-defined members h.0 h.1 h.3 ∙ begun-defined T (tag_named_here s name) which name t s h.0 h.2)
    specifier-defined (typed.Enum at name) s s' h = as_it_is s s' h.0
    specifier-defined (typed.Enumeration at name brace all comma) s s' h =
        enumerated-defined name h.0 s' h.2 ∙ enumerators-defined all (enumerating name s) h.0 h.1 ∙ enumerating-defined name s

    members-defined : (all : TypedMembers) (s s' : Scopes) → AreMembers T all s s' → s'.defined ≡ s.defined
    members-defined typed.NoMember s s' h = as_it_is s s' h
    members-defined (typed.AndMember all specifiers d) s s' h =
        member_declarators-defined (specified_type specifiers) d h.1 s' h.4 ∙ (specifiers-defined specifiers h.0 h.1 h.3 ∙ members-defined all s h.0 h.2)

    member_declarators-defined : (base : TypeId) (all : TypedMemberDeclarators) (s s' : Scopes) → AreMemberDeclarators T base all s s' → s'.defined ≡ s.defined
    member_declarators-defined base typed.NoDeclarator s s' h = as_it_is s s' h
    member_declarators-defined base (typed.AndDeclarator all (typed.Declares form t)) s s' h = form-defined form h.0 s' h.2 ∙ member_declarators-defined base all s h.0 h.1

    enumerators-defined : (all : TypedEnumerators) (s s' : Scopes) → AreEnumerators T all s s' → s'.defined ≡ s.defined
    enumerators-defined typed.NoEnumerator s s' h = as_it_is s s' h
    enumerators-defined (typed.AndEnumerator all name value) s s' h = ap (λ (q : Scopes). q.defined) h.3.after ∙ enumerators-defined all s h.0 h.1
    enumerators-defined (typed.AndValued all name at e value) s s' h =
        ap (λ (q : Scopes). q.defined) h.5.after ∙ (value-defined e h.0 h.1 h.3 ∙ enumerators-defined all s h.0 h.2)

    pub form-defined : (form : TypedForm) (s s' : Scopes) → IsForm T form s s' → s'.defined ≡ s.defined
    form-defined (typed.Form stars core parts) s s' h = parts-defined parts h.0 s' h.2 ∙ core-defined core s h.0 h.1

    core-defined : (core : TypedCore) (s s' : Scopes) → IsCore T core s s' → s'.defined ≡ s.defined
    core-defined (typed.Names name home) s s' h = as_it_is s s' h
    core-defined typed.Unnamed s s' h = as_it_is s s' h
    core-defined (typed.Nested at form) s s' h = form-defined form s s' h

    parts-defined : (parts : TypedParts) (s s' : Scopes) → AreParts T parts s s' → s'.defined ≡ s.defined
    parts-defined typed.NoPart s s' h = as_it_is s s' h
    parts-defined (typed.AndArray all at words) s s' h = parts-defined all s s' h
    parts-defined (typed.AndSizedArray all at words e size) s s' h = value-defined e h.0 s' h.2 ∙ parts-defined all s h.0 h.1
    parts-defined (typed.AndFunction all at ps) s s' h =
        ap (λ (q : Scopes). q.defined) h.4 ∙ (parameters-defined (is_void_list ps) ps (entering h.0) h.1 h.3 ∙ parts-defined all s h.0 h.2)

    parameters-defined : (void : Bool) (all : TypedParameters) (s s' : Scopes) → AreParameters T void all s s' → s'.defined ≡ s.defined
    parameters-defined void typed.NoParameter s s' h = as_it_is s s' h
    parameters-defined void (typed.AndParameter all specifiers d adjusted t) s s' h =
        parameter-defined d t h.2 s' h.9
        ∙ (declared-defined d h.1 h.2 h.5 ∙ (specifiers-defined specifiers h.0 h.1 h.4 ∙ parameters-defined void all s h.0 h.3))

    declared-defined : (d : TypedDeclared) (s s' : Scopes) → IsDeclared T d s s' → s'.defined ≡ s.defined
    declared-defined typed.NotDeclared s s' h = as_it_is s s' h
    declared-defined (typed.DeclaredBy form) s s' h = form-defined form s s' h

  pub alone-defined : (all : TypedSpecifiers) (s s' : Scopes) → AreAlone T all s s' → s'.defined ≡ s.defined
  alone-defined (typed.Specified (typed.AndSpecifier typed.NoSpecifier (typed.Tagged which at name t)) u) s s' h = tagged-defined T (tag_here s.levels name.bytes) which name t s s' h.0
  alone-defined (typed.Specified typed.NoSpecifier u) s s' h = specifiers-defined (typed.Specified typed.NoSpecifier u) s s' h
  alone-defined (typed.Specified (typed.AndSpecifier (typed.AndSpecifier all other) one) u) s s' h =
      specifiers-defined (typed.Specified (typed.AndSpecifier (typed.AndSpecifier all other) one) u) s s' h
  alone-defined (typed.Specified (typed.AndSpecifier typed.NoSpecifier one) u) s s' h = specifiers-defined (typed.Specified (typed.AndSpecifier typed.NoSpecifier one) u) s s' h

  mutual
    pub initialiser-defined : (i : TypedInitialiser) (at : Place) (t : TypeId) (s s' : Scopes) → IsInitialiser T i at t s s' → s'.defined ≡ s.defined
    initialiser-defined (typed.Value e) at t s s' h = value-defined e s s' h.0
    initialiser-defined (typed.Copied p seat) at t s s' h = place-defined p s s' h.0
    initialiser-defined (typed.Text pieces bytes) at t s s' h = as_it_is s s' h.0
    initialiser-defined (typed.Listed brace items comma u) at t s s' h = items-defined items (is_only_text items && is_char_array T t) t s s' h.1

    items-defined : (all : TypedItems) (text : Bool) (t : TypeId) (s s' : Scopes) → AreItems T all text t s s' → s'.defined ≡ s.defined
    items-defined typed.NoItem text t s s' h = as_it_is s s' h
    items-defined (typed.AndItem all offset u i) text t s s' h = initialiser-defined i (item_place i) u h.0 s' h.2 ∙ items-defined all text t s h.0 h.1
