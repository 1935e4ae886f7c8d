-- A part that declares no object leaves the outer scopes as they are: tags and enumerators are declared in the innermost one, and the scope
-- of a prototype is left.
use Rattle.std.proofs.Common.{◌≡◌, ℕ, ℤ, Bool, List, length, Option, Some, None, refl, ap, sym, subst, ◌∙◌}
use Rattle.cc_base.specs.declared.number.TypeId.{TypeId}
use Rattle.c_types.specs.Table.{Table}
use Rattle.c_tree.specs.declared.leaf.Identifier.{Identifier}
use Rattle.c_tree.specs.declared.operator.AggregateKind.{AggregateKind}
use Rattle.c_tree.specs.declared.typed_word.Home.TheVariants as home
use Rattle.c_tree.specs.TypedTree as typed
use Rattle.c_tree.specs.TypedTree.{TypedExpr, TypedPlace, TypedArguments, TypedTypeName, TypedSpecifiers, TypedSpecifierList, TypedSpecifier, TypedMembers, TypedMemberDeclarators, TypedEnumerators, TypedForm, TypedCore, TypedParts, TypedParameters, TypedDeclared}
use Rattle.c_tree.specs.TypedParts.{specified_type, is_void_list}
use Rattle.c_typing.specs.declared.declared.Declared.TheVariants as declared
use Rattle.c_typing.specs.declared.declared.Tag.{Tag}
use Rattle.c_typing.specs.declared.declared.Tag.TheVariants as tag
use Rattle.c_typing.specs.Scopes.{Name, Level, Scopes, empty_level, at_innermost, without_innermost, with_name, with_tag, with_tag_set, tag_in, tag_here, here, entry_of, entering, leaving}
use Rattle.c_typing.specs.Typing.{IsTyped, IsPlace, AreTyped, IsTypeName, AreSpecifiers, AreAlone, AreListed, IsSpecifier, AreMembers, AreMemberDeclarators, AreEnumerators, IsForm, IsCore, AreParts, AreParameters, IsDeclared, IsNewEnumerator, IsNewAggregate, IsTagged, BeginsAggregate, DeclaresParameter, tagging, counting_aggregate, tag_named_here, enumerating, EndsEnumeration}
use Rattle.c_unit_given.proofs.UnitGiven.{AreHomesBelow, IsScopeKept, AreScopesKept}
use Rattle.c_unit_given.proofs.LevelsBelow.{IsLevelBelow, homes-changed, level-more}
use Rattle.c_unit_given.proofs.InnermostNames.{entry-before, here-before}
use Rattle.c_typing.proofs.OpenScopes.{length-innermost, outer-of, outer-same}

-- Scopes

levels-kept : (s s' : Scopes) → s'.levels ≡ s.levels → IsScopeKept s s'
levels-kept s s' h = record {
  outer = ap (λ (ls : List Level). without_innermost ls) h;
  deep = ap (λ (ls : List Level). length ls) h;
  homes = λ n below. subst (λ (ls : List Level). AreHomesBelow n ls) (sym h) below;
  names = λ name none. subst (λ (ls : List Level). here ls name ≡ None) h none;
}

same : (s s' : Scopes) → s' ≡ s → IsScopeKept s s'
same s s' h = levels-kept s s' (ap (λ (q : Scopes). q.levels) h)

both : {a b c : Scopes} → IsScopeKept a b → IsScopeKept b c → IsScopeKept a c
both p q = record { outer = q.outer ∙ p.outer; deep = q.deep ∙ p.deep; homes = λ n below. q.homes n (p.homes n below); names = λ name none. p.names name (q.names name none) }

innermost-kept : (f : Level → Level) → ((n : ℕ) (l : Level) → IsLevelBelow n l → IsLevelBelow n (f l))
    → ((l : Level) (name : Name) → entry_of (f l).names name ≡ None → entry_of l.names name ≡ None) → (s s' : Scopes) → s'.levels ≡ at_innermost f s.levels → IsScopeKept s s'
innermost-kept f more fresh s s' h = record {
  outer = ap (λ (ls : List Level). without_innermost ls) h ∙ outer-same f s.levels;
  deep = ap (λ (ls : List Level). length ls) h ∙ length-innermost f s.levels;
  homes = λ n below. subst (λ (ls : List Level). AreHomesBelow n ls) (sym h) (homes-changed n f (more n) s.levels below);
  names = λ name none. here-before f name (λ l. fresh l name) s.levels (subst (λ (ls : List Level). here ls name ≡ None) h none);
}

-- the scope of a prototype was entered and is left
left-kept : (m n s' : Scopes) → without_innermost n.levels ≡ without_innermost (entering m).levels → s' ≡ leaving n → IsScopeKept m s'
left-kept m n s' outer h = levels-kept m s' (ap (λ (q : Scopes). q.levels) h ∙ (outer ∙ outer-of m.levels empty_level))

-- Tags and enumerators

tagging-kept : (name : Option Identifier) (what : Tag) (s : Scopes) → IsScopeKept s (tagging name what s)
tagging-kept None what s = same s s refl
tagging-kept (Some name) what s = innermost-kept (with_tag name.bytes what) (λ n l own. own) (λ l other none. none) s (tagging (Some name) what s) refl

new-kept : (T : Table) (which : AggregateKind) (name : Option Identifier) (t : TypeId) (s s' : Scopes) → IsNewAggregate T which name t s s' → IsScopeKept s s'
new-kept T which name t s s' h =
    both (levels-kept s (counting_aggregate s) refl)
    (both (tagging-kept name (tag.Aggregate which t) (counting_aggregate s)) (same (tagging name (tag.Aggregate which t) (counting_aggregate s)) s' h.after))

tagged-kept : (T : Table) (o : Option Tag) (which : AggregateKind) (name : Identifier) (t : TypeId) (s s' : Scopes) → IsTagged T o which name t s s' → IsScopeKept s s'
tagged-kept T (Some found) which name t s s' h = same s s' h.1
tagged-kept T None which name t s s' h = new-kept T which (Some name) t s s' h

begun-kept : (T : Table) (o : Option Tag) (which : AggregateKind) (name : Option Identifier) (t : TypeId) (s s' : Scopes) → BeginsAggregate T o which name t s s' → IsScopeKept s s'
begun-kept T (Some found) which name t s s' h = same s s' h.2
begun-kept T None which name t s s' h = new-kept T which name t s s' h

enumerating-kept : (name : Option Identifier) (s : Scopes) → IsScopeKept s (enumerating name s)
enumerating-kept None s = same s s refl
enumerating-kept (Some name) s = by (tag_named_here s (Some name)) refl
  where
    by : (o : Option Tag) → tag_named_here s (Some name) ≡ o → IsScopeKept s (enumerating (Some name) s)
    by None h = rw h (tagging-kept (Some name) tag.Enumerating s)
    by (Some found) h = rw h (same s s refl)

enumerated-kept : (name : Option Identifier) (s s' : Scopes) → EndsEnumeration name s s' → IsScopeKept s s'
enumerated-kept None s s' h = same s s' h.after
enumerated-kept (Some name) s s' h =
    innermost-kept (with_tag_set name.bytes tag.Enumeration) (λ n l own. own) (λ l other none. none) s s' (ap (λ (q : Scopes). q.levels) h.after)

enumerator-kept : (name : Name) (value : ℤ) (s s' : Scopes) → IsNewEnumerator name value s s' → IsScopeKept s s'
enumerator-kept name value s s' h =
    innermost-kept (with_name name (declared.Enumerator value)) (λ n l own. level-more n name (declared.Enumerator value) l tt own)
    (λ l other none. (entry-before l.names name other (declared.Enumerator value) none).0) s s' (ap (λ (q : Scopes). q.levels) h.after)

-- Parameters

parameter_form-outer : (form : TypedForm) (t : TypeId) (s s' : Scopes) → DeclaresParameter (typed.DeclaredBy form) t s s' → without_innermost s'.levels ≡ without_innermost s.levels
parameter_form-outer (typed.Form stars (typed.Names name (home.Parameter n)) parts) t s s' h =
    ap (λ (q : Scopes). without_innermost q.levels) h.after ∙ outer-same (with_name name.bytes (declared.Object t n)) s.levels
parameter_form-outer (typed.Form stars (typed.Names name other) parts) t s s' h = absurd h
parameter_form-outer (typed.Form stars typed.Unnamed parts) t s s' h = (same s s' h).outer
parameter_form-outer (typed.Form stars (typed.Nested at form) parts) t s s' h = parameter_form-outer form t s s' h

parameter-outer : (d : TypedDeclared) (t : TypeId) (s s' : Scopes) → DeclaresParameter d t s s' → without_innermost s'.levels ≡ without_innermost s.levels
parameter-outer typed.NotDeclared t s s' h = (same s s' h).outer
parameter-outer (typed.DeclaredBy form) t s s' h = parameter_form-outer form t s s' h

-- Typed parts

module _ (T : Table) where
  mutual
    value-kept : (e : TypedExpr) (s s' : Scopes) → IsTyped T e s s' → IsScopeKept s s'
    value-kept (typed.Integer of value at t) s s' h = same s s' h.0
    value-kept (typed.Character value at t) s s' h = same s s' h.0
    value-kept (typed.Enumerator name value t) s s' h = same s s' h.0
    value-kept (typed.FunctionName name number n t) s s' h = same s s' h.0
    value-kept (typed.RuntimeName name function t) s s' h = same s s' h.0
    value-kept (typed.Paren at e) s s' h = value-kept e s s' h.0
    value-kept (typed.Convert which at t e) s s' h = value-kept e s s' h.0
    value-kept (typed.AddressOfFunction at e) s s' h = value-kept e s s' h.0
    value-kept (typed.FunctionAt at e) s s' h = value-kept e s s' h.0
    value-kept (typed.Prefix operator at e t) s s' h = value-kept e s s' h.0
    value-kept (typed.SizeOfValue at e size t) s s' h = value-kept e s s' h.0
    value-kept (typed.Read p) s s' h = place-kept p s s' h.0
    value-kept (typed.Unread p) s s' h = place-kept p s s' h.0
    value-kept (typed.Decay p n t) s s' h = place-kept p s s' h.0
    value-kept (typed.AddressOf at p n t) s s' h = place-kept p s s' h.0
    value-kept (typed.AddressOfElement at p t) s s' h = place-kept p s s' h.0
    value-kept (typed.SizeOfPlace at p size t) s s' h = place-kept p s s' h.0
    value-kept (typed.StepBefore operator at p) s s' h = place-kept p s s' h.0
    value-kept (typed.StepAfter p operator at) s s' h = place-kept p s s' h.0
    value-kept (typed.Cast which at to e) s s' h = both (type_name-kept to s h.0 h.1) (value-kept e h.0 s' h.2)
    value-kept (typed.SizeOfType at paren name size t) s s' h = type_name-kept name s s' h.0
    value-kept (typed.Arithmetic operator a at b t) s s' h = both (value-kept a s h.0 h.1) (value-kept b h.0 s' h.2)
    value-kept (typed.Moved operator which a at b t) s s' h = both (value-kept a s h.0 h.1) (value-kept b h.0 s' h.2)
    value-kept (typed.Difference a at b t) s s' h = both (value-kept a s h.0 h.1) (value-kept b h.0 s' h.2)
    value-kept (typed.Compared operator a at b t) s s' h = both (value-kept a s h.0 h.1) (value-kept b h.0 s' h.2)
    value-kept (typed.Logical operator a at b t) s s' h = both (value-kept a s h.0 h.1) (value-kept b h.0 s' h.2)
    value-kept (typed.Comma a b) s s' h = both (value-kept a s h.0 h.1) (value-kept b h.0 s' h.2)
    value-kept (typed.Conditional c at a b t) s s' h = both (value-kept c s h.0 h.2) (both (value-kept a h.0 h.1 h.3) (value-kept b h.1 s' h.4))
    value-kept (typed.PointerConditional c at a b node t) s s' h = both (value-kept c s h.0 h.2) (both (value-kept a h.0 h.1 h.3) (value-kept b h.1 s' h.4))
    value-kept (typed.Assign p at e) s s' h = both (place-kept p s h.0 h.1) (value-kept e h.0 s' h.2)
    value-kept (typed.AssignWith operator p at e t) s s' h = both (place-kept p s h.0 h.1) (value-kept e h.0 s' h.2)
    value-kept (typed.Call f at arguments t) s s' h = both (value-kept f s h.0 h.1) (arguments-kept arguments h.0 s' h.2)
    value-kept (typed.CallRuntime function f at arguments t) s s' h = both (value-kept f s h.0 h.1) (arguments-kept arguments h.0 s' h.2)
    value-kept (typed.Allocate function f at arguments node t) s s' h = both (value-kept f s h.0 h.1) (arguments-kept arguments h.0 s' h.2)
    value-kept (typed.AllocateFor function f at arguments t) s s' h = both (value-kept f s h.0 h.1) (arguments-kept arguments h.0 s' h.2)

    place-kept : (p : TypedPlace) (s s' : Scopes) → IsPlace T p s s' → IsScopeKept s s'
    place-kept (typed.Variable name home t) s s' h = same s s' h.0
    place-kept (typed.String pieces home t) s s' h = same s s' h.0
    place-kept (typed.ParenPlace at p) s s' h = place-kept p s s' h
    place-kept (typed.Target at e t) s s' h = value-kept e s s' h.0
    place-kept (typed.Element which a at b t) s s' h = both (value-kept a s h.0 h.1) (value-kept b h.0 s' h.2)
    place-kept (typed.Member p at name i n t) s s' h = place-kept p s s' h.0
    place-kept (typed.MemberAt e at name i n t) s s' h = value-kept e s s' h.0
    place-kept (typed.StructAssign p at q) s s' h = both (place-kept p s h.0 h.1) (place-kept q h.0 s' h.2)
    place-kept (typed.StructConditional c at p q) s s' h = both (value-kept c s h.0 h.2) (both (place-kept p h.0 h.1 h.3) (place-kept q h.1 s' h.4))
    place-kept (typed.StructComma e p) s s' h = both (value-kept e s h.0 h.1) (place-kept p h.0 s' h.2)

    arguments-kept : (all : TypedArguments) (s s' : Scopes) → AreTyped T all s s' → IsScopeKept s s'
    arguments-kept typed.NoArgument s s' h = same s s' h
    arguments-kept (typed.AndArgument all e) s s' h = both (arguments-kept all s h.0 h.1) (value-kept e h.0 s' h.2)

    type_name-kept : (name : TypedTypeName) (s s' : Scopes) → IsTypeName T name s s' → IsScopeKept s s'
    type_name-kept (typed.Named specifiers d t) s s' h = both (specifiers-kept specifiers s h.0 h.1) (declared-kept d h.0 s' h.2)

    specifiers-kept : (all : TypedSpecifiers) (s s' : Scopes) → AreSpecifiers T all s s' → IsScopeKept s s'
    specifiers-kept (typed.Specified list t) s s' h = listed-kept list s s' h.0

    listed-kept : (list : TypedSpecifierList) (s s' : Scopes) → AreListed T list s s' → IsScopeKept s s'
    listed-kept typed.NoSpecifier s s' h = same s s' h
    listed-kept (typed.AndSpecifier all one) s s' h = both (listed-kept all s h.0 h.1) (specifier-kept one h.0 s' h.2)

    specifier-kept : (one : TypedSpecifier) (s s' : Scopes) → IsSpecifier T one s s' → IsScopeKept s s'
    specifier-kept (typed.Keyword word) s s' h = same s s' h
    specifier-kept (typed.Typedef name t) s s' h = same s s' h.0
    specifier-kept (typed.Tagged which at name t) s s' h = tagged-kept T (tag_in s.levels name.bytes) which name t s s' h
    specifier-kept (typed.Aggregate which at name brace members t) s s' h =
        both (begun-kept T (tag_named_here s name) which name t s h.0 h.2)
        (both (members-kept members h.0 h.1 h.3) (levels-kept h.1 s' (ap (λ (q : Scopes). q.levels) h.4.after)))
    specifier-kept (typed.Enum at name) s s' h = same s s' h.0
    specifier-kept (typed.Enumeration at name brace all comma) s s' h =
        both (enumerating-kept name s) (both (enumerators-kept all (enumerating name s) h.0 h.1) (enumerated-kept name h.0 s' h.2))

    members-kept : (all : TypedMembers) (s s' : Scopes) → AreMembers T all s s' → IsScopeKept s s'
    members-kept typed.NoMember s s' h = same s s' h
    members-kept (typed.AndMember all specifiers d) s s' h =
        both (members-kept all s h.0 h.2) (both (specifiers-kept specifiers h.0 h.1 h.3) (member_declarators-kept (specified_type specifiers) d h.1 s' h.4))

    member_declarators-kept : (base : TypeId) (all : TypedMemberDeclarators) (s s' : Scopes) → AreMemberDeclarators T base all s s' → IsScopeKept s s'
    member_declarators-kept base typed.NoDeclarator s s' h = same s s' h
    member_declarators-kept base (typed.AndDeclarator all (typed.Declares form t)) s s' h = both (member_declarators-kept base all s h.0 h.1) (form-kept form h.0 s' h.2)

    enumerators-kept : (all : TypedEnumerators) (s s' : Scopes) → AreEnumerators T all s s' → IsScopeKept s s'
    enumerators-kept typed.NoEnumerator s s' h = same s s' h
    enumerators-kept (typed.AndEnumerator all name value) s s' h = both (enumerators-kept all s h.0 h.1) (enumerator-kept name.bytes value h.0 s' h.3)
    enumerators-kept (typed.AndValued all name at e value) s s' h =
        both (enumerators-kept all s h.0 h.2) (both (value-kept e h.0 h.1 h.3) (enumerator-kept name.bytes value h.1 s' h.5))

    form-kept : (form : TypedForm) (s s' : Scopes) → IsForm T form s s' → IsScopeKept s s'
    form-kept (typed.Form stars core parts) s s' h = both (core-kept core s h.0 h.1) (parts-kept parts h.0 s' h.2)

    core-kept : (core : TypedCore) (s s' : Scopes) → IsCore T core s s' → IsScopeKept s s'
    core-kept (typed.Names name home) s s' h = same s s' h
    core-kept typed.Unnamed s s' h = same s s' h
    core-kept (typed.Nested at form) s s' h = form-kept form s s' h

    parts-kept : (parts : TypedParts) (s s' : Scopes) → AreParts T parts s s' → IsScopeKept s s'
    parts-kept typed.NoPart s s' h = same s s' h
    parts-kept (typed.AndArray all at words) s s' h = parts-kept all s s' h
    parts-kept (typed.AndSizedArray all at words e size) s s' h = both (parts-kept all s h.0 h.1) (value-kept e h.0 s' h.2)
    parts-kept (typed.AndFunction all at ps) s s' h = both (parts-kept all s h.0 h.2) (left-kept h.0 h.1 s' (parameters-outer (is_void_list ps) ps (entering h.0) h.1 h.3) h.4)

    -- the parameters are declared in the scope of their list
    parameters-outer : (void : Bool) (all : TypedParameters) (s s' : Scopes) → AreParameters T void all s s' → without_innermost s'.levels ≡ without_innermost s.levels
    parameters-outer void typed.NoParameter s s' h = (same s s' h).outer
    parameters-outer void (typed.AndParameter all specifiers d adjusted t) s s' h =
        parameter-outer d t h.2 s' h.9
        ∙ ((declared-kept d h.1 h.2 h.5).outer ∙ ((specifiers-kept specifiers h.0 h.1 h.4).outer ∙ parameters-outer void all s h.0 h.3))

    declared-kept : (d : TypedDeclared) (s s' : Scopes) → IsDeclared T d s s' → IsScopeKept s s'
    declared-kept typed.NotDeclared s s' h = same s s' h
    declared-kept (typed.DeclaredBy form) s s' h = form-kept form s s' h

  alone-kept : (all : TypedSpecifiers) (s s' : Scopes) → AreAlone T all s s' → IsScopeKept s s'
  alone-kept (typed.Specified (typed.AndSpecifier typed.NoSpecifier (typed.Tagged which at name t)) u) s s' h = tagged-kept T (tag_here s.levels name.bytes) which name t s s' h.0
  alone-kept (typed.Specified typed.NoSpecifier u) s s' h = specifiers-kept (typed.Specified typed.NoSpecifier u) s s' h
  alone-kept (typed.Specified (typed.AndSpecifier (typed.AndSpecifier all other) one) u) s s' h =
      specifiers-kept (typed.Specified (typed.AndSpecifier (typed.AndSpecifier all other) one) u) s s' h
  alone-kept (typed.Specified (typed.AndSpecifier typed.NoSpecifier one) u) s s' h = specifiers-kept (typed.Specified (typed.AndSpecifier typed.NoSpecifier one) u) s s' h

pub scopes-kept : (T : Table) → AreScopesKept T
scopes-kept T = record { value = value-kept T; place = place-kept T; specifiers = specifiers-kept T; alone = alone-kept T; form = form-kept T }
