-- Typed parts keep the number of open scopes: what they declare is declared in the innermost one, and the scope of a prototype is left.
use Rattle.std.proofs.Common.{◌≡◌, ℕ, ℤ, ◌+◌, Bool, List, [], ◌∷◌, length, Option, Some, None, refl, ap, ◌∙◌, arith}
use Rattle.std.proofs.lemmas.List.{length-append}
use Rattle.cc_base.specs.declared.number.TypeId.{TypeId}
use Rattle.c_types.specs.Table.{Table}
use Rattle.c_tree.specs.declared.leaf.Identifier.{Identifier}
use Rattle.c_tree.specs.declared.operator.AggregateKind.{AggregateKind}
use Rattle.c_tree.specs.declared.typed_word.Home.{Home}
use Rattle.c_tree.specs.declared.typed_word.Home.TheVariants as home
use Rattle.c_tree.specs.TypedTree as typed
use Rattle.c_tree.specs.TypedTree.{TypedExpr, TypedPlace, TypedArguments, TypedTypeName, TypedSpecifiers, TypedSpecifierList, TypedSpecifier, TypedMembers, TypedMemberDeclarators, TypedEnumerators, TypedForm, TypedCore, TypedParts, TypedParameters, TypedDeclared}
use Rattle.c_tree.specs.TypedParts.{specified_type, declared_home, is_void_list}
use Rattle.c_typing.specs.declared.declared.Declared.{Declared}
use Rattle.c_typing.specs.declared.declared.Tag.{Tag}
use Rattle.c_typing.specs.Scopes.{Name, Level, Scopes, empty_level, without_innermost, with_name, with_tag, with_tag_set, declaring, entering, leaving, tag_in}
use Rattle.c_typing.specs.Typing.{IsTyped, IsPlace, AreTyped, IsTypeName, AreSpecifiers, AreListed, IsSpecifier, AreMembers, AreMemberDeclarators, AreEnumerators, IsForm, IsCore, AreParts, AreParameters, IsDeclared, IsTagged, BeginsAggregate, IsNewName, IsNewEnumerator, tagging, tag_named_here, enumerating, enumerated, counting_aggregate}
use Rattle.c_typing_unique.proofs.DeclaratorSteps.{DeclaresName, name_declared, declares-by}
use Rattle.c_typing.proofs.OpenScopes.{length-innermost}

-- Scopes

length_left : (n : ℕ) (ls : List Level) → length ls ≡ n + 1 → length (without_innermost ls) ≡ n
length_left n [] h = absurd (omega (arith, h))
length_left n (l ∷ []) h = omega (arith, h)
length_left n (l ∷ (m ∷ ls)) h = let k = length_left (length ls) (m ∷ ls) (omega arith) in omega (arith, k, h)

pub tagging-levels : (name : Option Identifier) (w : Tag) (c : Scopes) → length (tagging name w c).levels ≡ length c.levels
tagging-levels None w c = refl
tagging-levels (Some name) w c = length-innermost (with_tag name.bytes w) c.levels

pub enumerating-levels : (name : Option Identifier) (c : Scopes) → length (enumerating name c).levels ≡ length c.levels
enumerating-levels None c = refl
enumerating-levels (Some name) c = by (tag_named_here c (Some name)) refl
  where
    by : (o : Option Tag) → tag_named_here c (Some name) ≡ o → length (enumerating (Some name) c).levels ≡ length c.levels
    by None q = rw q (length-innermost (with_tag name.bytes _) c.levels)
    by (Some w) q = rw q refl

pub enumerated-levels : (name : Option Identifier) (c : Scopes) → length (enumerated name c).levels ≡ length c.levels
enumerated-levels None c = refl
enumerated-levels (Some name) c = length-innermost (with_tag_set name.bytes _) c.levels

same : (s s' : Scopes) → s' ≡ s → length s'.levels ≡ length s.levels
same s s' h = ap (λ (c : Scopes). length c.levels) h

declared_levels : (name : Name) (what : Declared) (s s' : Scopes) → IsNewName name what s s' → length s'.levels ≡ length s.levels
declared_levels name what s s' h = same (declaring name what s) s' h.after ∙ length-innermost (with_name name what) s.levels

enumerator_levels : (name : Name) (value : ℤ) (s s' : Scopes) → IsNewEnumerator name value s s' → length s'.levels ≡ length s.levels
enumerator_levels name value s s' h = same (declaring name _ s) s' h.after ∙ length-innermost (with_name name _) s.levels

parameter_levels : (name : Option Identifier) (h : Home) (t : TypeId) (s s' : Scopes) → DeclaresName name h t s s' → length s'.levels ≡ length s.levels
parameter_levels (Some name) (home.Parameter n) t s s' d = declared_levels name.bytes _ s s' d
parameter_levels (Some name) home.None t s s' d = absurd d
parameter_levels (Some name) (home.Static n) t s s' d = absurd d
parameter_levels (Some name) (home.Local n) t s s' d = absurd d
parameter_levels (Some name) (home.Known n) t s s' d = absurd d
parameter_levels None h t s s' d = same s s' d

pub entered-levels : (s : Scopes) → length (entering s).levels ≡ length s.levels + 1
entered-levels s = length-append s.levels (empty_level ∷ [])

pub left-levels : (n : ℕ) (s : Scopes) → length s.levels ≡ n + 1 → length (leaving s).levels ≡ n
left-levels n s h = length_left n s.levels h

module _ (T : Table) where
  tagged_levels : (o : Option Tag) (which : AggregateKind) (name : Identifier) (t : TypeId) (s s' : Scopes) → IsTagged T o which name t s s' → length s'.levels ≡ length s.levels
  tagged_levels (Some found) which name t s s' h = same s s' h.1
  tagged_levels None which name t s s' h = same _ s' h.after ∙ tagging-levels (Some name) _ (counting_aggregate s)

  begun_levels : (o : Option Tag) (which : AggregateKind) (name : Option Identifier) (t : TypeId) (s s' : Scopes) → BeginsAggregate T o which name t s s' → length s'.levels ≡ length s.levels
  begun_levels (Some found) which name t s s' h = same s s' h.2
  begun_levels None which name t s s' h = same _ s' h.after ∙ tagging-levels name _ (counting_aggregate s)

  mutual
    pub value-levels : (e : TypedExpr) (s s' : Scopes) → IsTyped T e s s' → length s'.levels ≡ length s.levels
    value-levels (typed.Integer of value at t) s s' h = same s s' h.0
    value-levels (typed.Character value at t) s s' h = same s s' h.0
    value-levels (typed.Enumerator name value t) s s' h = same s s' h.0
    value-levels (typed.FunctionName name number n t) s s' h = same s s' h.0
    value-levels (typed.RuntimeName name function t) s s' h = same s s' h.0
    value-levels (typed.Paren at e) s s' h = value-levels e s s' h.0
    value-levels (typed.Read p) s s' h = place-levels p s s' h.0
    value-levels (typed.Unread p) s s' h = place-levels p s s' h.0
    value-levels (typed.Decay p n t) s s' h = place-levels p s s' h.0
    value-levels (typed.Convert which at t e) s s' h = value-levels e s s' h.0
    value-levels (typed.Cast which at to e) s s' h = value-levels e h.0 s' h.2 ∙ name-levels to s h.0 h.1
    value-levels (typed.AddressOf at p n t) s s' h = place-levels p s s' h.0
    value-levels (typed.AddressOfElement at p t) s s' h = place-levels p s s' h.0
    value-levels (typed.AddressOfFunction at e) s s' h = value-levels e s s' h.0
    value-levels (typed.FunctionAt at e) s s' h = value-levels e s s' h.0
    value-levels (typed.Prefix operator at e t) s s' h = value-levels e s s' h.0
    value-levels (typed.SizeOfPlace at p size t) s s' h = place-levels p s s' h.0
    value-levels (typed.SizeOfValue at e size t) s s' h = value-levels e s s' h.0
    value-levels (typed.SizeOfType at paren name size t) s s' h = name-levels name s s' h.0
    value-levels (typed.StepBefore operator at p) s s' h = place-levels p s s' h.0
    value-levels (typed.StepAfter p operator at) s s' h = place-levels p s s' h.0
    value-levels (typed.Arithmetic operator a at b t) s s' h = value-levels b h.0 s' h.2 ∙ value-levels a s h.0 h.1
    value-levels (typed.Moved operator which a at b t) s s' h = value-levels b h.0 s' h.2 ∙ value-levels a s h.0 h.1
    value-levels (typed.Difference a at b t) s s' h = value-levels b h.0 s' h.2 ∙ value-levels a s h.0 h.1
    value-levels (typed.Compared operator a at b t) s s' h = value-levels b h.0 s' h.2 ∙ value-levels a s h.0 h.1
    value-levels (typed.Logical operator a at b t) s s' h = value-levels b h.0 s' h.2 ∙ value-levels a s h.0 h.1
    value-levels (typed.Conditional c at a b t) s s' h = value-levels b h.1 s' h.4 ∙ value-levels a h.0 h.1 h.3 ∙ value-levels c s h.0 h.2
    value-levels (typed.PointerConditional c at a b n t) s s' h = value-levels b h.1 s' h.4 ∙ value-levels a h.0 h.1 h.3 ∙ value-levels c s h.0 h.2
    value-levels (typed.Comma a b) s s' h = value-levels b h.0 s' h.2 ∙ value-levels a s h.0 h.1
    value-levels (typed.Assign p at e) s s' h = value-levels e h.0 s' h.2 ∙ place-levels p s h.0 h.1
    value-levels (typed.AssignWith operator p at e t) s s' h = value-levels e h.0 s' h.2 ∙ place-levels p s h.0 h.1
    value-levels (typed.Call f at arguments t) s s' h = arguments-levels arguments h.0 s' h.2 ∙ value-levels f s h.0 h.1
    value-levels (typed.CallRuntime function f at arguments t) s s' h = arguments-levels arguments h.0 s' h.2 ∙ value-levels f s h.0 h.1
    value-levels (typed.Allocate function f at arguments n t) s s' h = arguments-levels arguments h.0 s' h.2 ∙ value-levels f s h.0 h.1
    value-levels (typed.AllocateFor function f at arguments t) s s' h = arguments-levels arguments h.0 s' h.2 ∙ value-levels f s h.0 h.1

    pub place-levels : (p : TypedPlace) (s s' : Scopes) → IsPlace T p s s' → length s'.levels ≡ length s.levels
    place-levels (typed.Variable name home t) s s' h = same s s' h.0
    place-levels (typed.String pieces home t) s s' h = same s s' h.0
    place-levels (typed.ParenPlace at p) s s' h = place-levels p s s' h
    place-levels (typed.Target at e t) s s' h = value-levels e s s' h.0
    place-levels (typed.Element which a at b t) s s' h = value-levels b h.0 s' h.2 ∙ value-levels a s h.0 h.1
    place-levels (typed.Member p at name i n t) s s' h = place-levels p s s' h.0
    place-levels (typed.MemberAt e at name i n t) s s' h = value-levels e s s' h.0
    place-levels (typed.StructAssign p at q) s s' h = place-levels q h.0 s' h.2 ∙ place-levels p s h.0 h.1
    place-levels (typed.StructConditional c at p q) s s' h = place-levels q h.1 s' h.4 ∙ place-levels p h.0 h.1 h.3 ∙ value-levels c s h.0 h.2
    place-levels (typed.StructComma e p) s s' h = place-levels p h.0 s' h.2 ∙ value-levels e s h.0 h.1

    pub arguments-levels : (all : TypedArguments) (s s' : Scopes) → AreTyped T all s s' → length s'.levels ≡ length s.levels
    arguments-levels typed.NoArgument s s' h = same s s' h
    arguments-levels (typed.AndArgument all e) s s' h = value-levels e h.0 s' h.2 ∙ arguments-levels all s h.0 h.1

    pub name-levels : (name : TypedTypeName) (s s' : Scopes) → IsTypeName T name s s' → length s'.levels ≡ length s.levels
    name-levels (typed.Named specifiers declared t) s s' h = declared-levels declared h.0 s' h.2 ∙ specifiers-levels specifiers s h.0 h.1

    pub specifiers-levels : (x : TypedSpecifiers) (s s' : Scopes) → AreSpecifiers T x s s' → length s'.levels ≡ length s.levels
    specifiers-levels (typed.Specified list t) s s' h = list-levels list s s' h.0

    pub list-levels : (x : TypedSpecifierList) (s s' : Scopes) → AreListed T x s s' → length s'.levels ≡ length s.levels
    list-levels typed.NoSpecifier s s' h = same s s' h
    list-levels (typed.AndSpecifier all one) s s' h = specifier-levels one h.0 s' h.2 ∙ list-levels all s h.0 h.1

    pub specifier-levels : (x : TypedSpecifier) (s s' : Scopes) → IsSpecifier T x s s' → length s'.levels ≡ length s.levels
    specifier-levels (typed.Keyword word) s s' h = same s s' h
    specifier-levels (typed.Typedef name t) s s' h = same s s' h.0
    specifier-levels (typed.Tagged which at name t) s s' h = tagged_levels (tag_in s.levels name.bytes) which name t s s' h
    specifier-levels (typed.Aggregate which at name brace members t) s s' h =
        ap (λ (c : Scopes). length c.levels) h.4.after ∙ members-levels members h.0 h.1 h.3 ∙ begun_levels (tag_named_here s name) which name t s h.0 h.2
    specifier-levels (typed.Enum at name) s s' h = same s s' h.0
    specifier-levels (typed.Enumeration at name brace all comma) s s' h =
        same (enumerated name h.0) s' h.2.after ∙ enumerated-levels name h.0 ∙ enumerators-levels all (enumerating name s) h.0 h.1 ∙ enumerating-levels name s

    pub members-levels : (x : TypedMembers) (s s' : Scopes) → AreMembers T x s s' → length s'.levels ≡ length s.levels
    members-levels typed.NoMember s s' h = same s s' h
    members-levels (typed.AndMember all specifiers row) s s' h =
        row-levels (specified_type specifiers) row h.1 s' h.4 ∙ specifiers-levels specifiers h.0 h.1 h.3 ∙ members-levels all s h.0 h.2

    pub row-levels : (base : TypeId) (x : TypedMemberDeclarators) (s s' : Scopes) → AreMemberDeclarators T base x s s' → length s'.levels ≡ length s.levels
    row-levels base typed.NoDeclarator s s' h = same s s' h
    row-levels base (typed.AndDeclarator all (typed.Declares form t)) s s' h = form-levels form h.0 s' h.2 ∙ row-levels base all s h.0 h.1

    pub enumerators-levels : (x : TypedEnumerators) (s s' : Scopes) → AreEnumerators T x s s' → length s'.levels ≡ length s.levels
    enumerators-levels typed.NoEnumerator s s' h = same s s' h
    enumerators-levels (typed.AndEnumerator all name value) s s' h = enumerator_levels name.bytes value h.0 s' h.3 ∙ enumerators-levels all s h.0 h.1
    enumerators-levels (typed.AndValued all name at e value) s s' h =
        enumerator_levels name.bytes value h.1 s' h.5 ∙ value-levels e h.0 h.1 h.3 ∙ enumerators-levels all s h.0 h.2

    pub form-levels : (x : TypedForm) (s s' : Scopes) → IsForm T x s s' → length s'.levels ≡ length s.levels
    form-levels (typed.Form stars core parts) s s' h = parts-levels parts h.0 s' h.2 ∙ core-levels core s h.0 h.1

    pub core-levels : (x : TypedCore) (s s' : Scopes) → IsCore T x s s' → length s'.levels ≡ length s.levels
    core-levels (typed.Names name h) s s' k = same s s' k
    core-levels typed.Unnamed s s' h = same s s' h
    core-levels (typed.Nested at form) s s' h = form-levels form s s' h

    pub parts-levels : (x : TypedParts) (s s' : Scopes) → AreParts T x s s' → length s'.levels ≡ length s.levels
    parts-levels typed.NoPart s s' h = same s s' h
    parts-levels (typed.AndArray all at words) s s' h = parts-levels all s s' h
    parts-levels (typed.AndSizedArray all at words e size) s s' h = value-levels e h.0 s' h.2 ∙ parts-levels all s h.0 h.1
    parts-levels (typed.AndFunction all at parameters) s s' h =
        same (leaving h.1) s' h.4 ∙ left-levels (length h.0.levels) h.1 (parameters-levels (is_void_list parameters) parameters (entering h.0) h.1 h.3 ∙ entered-levels h.0)
        ∙ parts-levels all s h.0 h.2

    pub parameters-levels : (void : Bool) (x : TypedParameters) (s s' : Scopes) → AreParameters T void x s s' → length s'.levels ≡ length s.levels
    parameters-levels void typed.NoParameter s s' h = same s s' h
    parameters-levels void (typed.AndParameter all specifiers d adjusted t) s s' h =
        parameter_levels (name_declared d) (declared_home d) t h.2 s' (declares-by d t h.2 s' h.9) ∙ declared-levels d h.1 h.2 h.5
        ∙ specifiers-levels specifiers h.0 h.1 h.4 ∙ parameters-levels void all s h.0 h.3

    pub declared-levels : (x : TypedDeclared) (s s' : Scopes) → IsDeclared T x s s' → length s'.levels ≡ length s.levels
    declared-levels typed.NotDeclared s s' h = same s s' h
    declared-levels (typed.DeclaredBy form) s s' h = form-levels form s s' h
