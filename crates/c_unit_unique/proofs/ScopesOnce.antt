-- A typed part and the scopes before it fix the scopes after it.
use Rattle.std.proofs.Common.{◌≡◌, Bool, slice_set, Option, Some, None, ap, sym, subst, ◌∙◌}
use Rattle.cc_base.specs.declared.number.TypeId.{TypeId}
use Rattle.c_types.specs.Table.{Table}
use Rattle.c_tree.specs.declared.leaf.Identifier.{Identifier}
use Rattle.c_tree.specs.declared.operator.AggregateKind.{AggregateKind}
use Rattle.c_tree.specs.declared.typed_word.Home.{Home}
use Rattle.c_tree.specs.declared.typed_word.Home.TheVariants as home
use Rattle.c_tree.specs.TypedTree as typed
use Rattle.c_tree.specs.TypedTree.{TypedExpr, TypedPlace, TypedArguments, TypedTypeName, TypedSpecifiers, TypedSpecifierList, TypedSpecifier, TypedMembers, TypedMemberDeclarators, TypedEnumerators, TypedForm, TypedCore, TypedParts, TypedParameters, TypedDeclared}
use Rattle.c_tree.specs.TypedParts.{specified_type, declared_home, is_void_list}
use Rattle.c_typing.specs.Declarators.{member_names}
use Rattle.c_typing.specs.declared.declared.Declared.{Declared}
use Rattle.c_typing.specs.declared.declared.Declared.TheVariants as declared
use Rattle.c_typing.specs.declared.declared.Tag.{Tag}
use Rattle.c_typing.specs.Scopes.{Name, Scopes, declaring, entering, leaving, tag_in}
use Rattle.c_typing.specs.Typing.{IsTyped, IsPlace, AreTyped, IsTypeName, AreSpecifiers, AreListed, IsSpecifier, AreMembers, AreMemberDeclarators, AreEnumerators, IsForm, IsCore, AreParts, AreParameters, IsDeclared, IsTagged, BeginsAggregate, EndsAggregate, IsNewName, tag_named_here, enumerating, enumerated}
use Rattle.c_typing_unique.proofs.DeclaratorSteps.{DeclaresName, name_declared, declares-by}
use Rattle.c_typing_unique.proofs.Shapes.{some-same}

module _ (T : Table) where
  tagged_once : (o : Option Tag) (which : AggregateKind) (name : Identifier) (t : TypeId) (s y z : Scopes) → IsTagged T o which name t s y → IsTagged T o which name t s z
      → y ≡ z
  tagged_once (Some found) which name t s y z h k = h.1 ∙ sym k.1
  tagged_once None which name t s y z h k = h.after ∙ sym k.after

  begun_once : (o : Option Tag) (which : AggregateKind) (name : Option Identifier) (t : TypeId) (s y z : Scopes) → BeginsAggregate T o which name t s y
      → BeginsAggregate T o which name t s z → y ≡ z
  begun_once (Some found) which name t s y z h k = h.2 ∙ sym k.2
  begun_once None which name t s y z h k = h.after ∙ sym k.after

  ended_once : (members : TypedMembers) (t : TypeId) (s r y z : Scopes) → s ≡ r → EndsAggregate T members t s y → EndsAggregate T members t r z → y ≡ z
  ended_once members t s r y z e h k =
      let number = some-same h.number k.number (sym h.declared ∙ k.declared) in
      let after : (record s { members = slice_set s.members h.number (member_names members) }) ≡ (record r { members = slice_set r.members k.number (member_names members) }) =
      (λ i. record (e i) { members = slice_set (e i).members (number i) (member_names members) }) in
      h.after ∙ after ∙ sym k.after

  named_once : (name : Name) (what : Declared) (s r y z : Scopes) → s ≡ r → IsNewName name what s y → IsNewName name what r z → y ≡ z
  named_once name what s r y z e h k = h.after ∙ ap (declaring name what) e ∙ sym k.after

  parameter_once : (name : Option Identifier) (h : Home) (t : TypeId) (s r y z : Scopes) → s ≡ r → DeclaresName name h t s y → DeclaresName name h t r z → y ≡ z
  parameter_once (Some name) (home.Parameter n) t s r y z e d f = named_once name.bytes (declared.Object t n) s r y z e d f
  parameter_once (Some name) home.None t s r y z e d f = absurd d
  parameter_once (Some name) (home.Static n) t s r y z e d f = absurd d
  parameter_once (Some name) (home.Local n) t s r y z e d f = absurd d
  parameter_once (Some name) (home.Known n) t s r y z e d f = absurd d
  parameter_once None h t s r y z e d f = d ∙ e ∙ sym f

  mutual
    pub value-once : (e : TypedExpr) (s y z : Scopes) → IsTyped T e s y → IsTyped T e s z → y ≡ z
    value-once (typed.Integer of value at t) s y z h k = h.0 ∙ sym k.0
    value-once (typed.Character value at t) s y z h k = h.0 ∙ sym k.0
    value-once (typed.Enumerator name value t) s y z h k = h.0 ∙ sym k.0
    value-once (typed.FunctionName name number n t) s y z h k = h.0 ∙ sym k.0
    value-once (typed.RuntimeName name function t) s y z h k = h.0 ∙ sym k.0
    value-once (typed.Paren at e) s y z h k = value-once e s y z h.0 k.0
    value-once (typed.Read p) s y z h k = place-once p s y z h.0 k.0
    value-once (typed.Unread p) s y z h k = place-once p s y z h.0 k.0
    value-once (typed.Decay p n t) s y z h k = place-once p s y z h.0 k.0
    value-once (typed.Convert which at t e) s y z h k = value-once e s y z h.0 k.0
    value-once (typed.Cast which at to e) s y z h k = value-once e h.0 y z h.2 (subst (λ (w : Scopes). IsTyped T e w z) (sym (name-once to s h.0 k.0 h.1 k.1)) k.2)
    value-once (typed.AddressOf at p n t) s y z h k = place-once p s y z h.0 k.0
    value-once (typed.AddressOfElement at p t) s y z h k = place-once p s y z h.0 k.0
    value-once (typed.AddressOfFunction at e) s y z h k = value-once e s y z h.0 k.0
    value-once (typed.FunctionAt at e) s y z h k = value-once e s y z h.0 k.0
    value-once (typed.Prefix operator at e t) s y z h k = value-once e s y z h.0 k.0
    value-once (typed.SizeOfPlace at p size t) s y z h k = place-once p s y z h.0 k.0
    value-once (typed.SizeOfValue at e size t) s y z h k = value-once e s y z h.0 k.0
    value-once (typed.SizeOfType at paren name size t) s y z h k = name-once name s y z h.0 k.0
    value-once (typed.StepBefore operator at p) s y z h k = place-once p s y z h.0 k.0
    value-once (typed.StepAfter p operator at) s y z h k = place-once p s y z h.0 k.0
    value-once (typed.Arithmetic operator a at b t) s y z h k = value-once b h.0 y z h.2 (subst (λ (w : Scopes). IsTyped T b w z) (sym (value-once a s h.0 k.0 h.1 k.1)) k.2)
    value-once (typed.Moved operator which a at b t) s y z h k = value-once b h.0 y z h.2 (subst (λ (w : Scopes). IsTyped T b w z) (sym (value-once a s h.0 k.0 h.1 k.1)) k.2)
    value-once (typed.Difference a at b t) s y z h k = value-once b h.0 y z h.2 (subst (λ (w : Scopes). IsTyped T b w z) (sym (value-once a s h.0 k.0 h.1 k.1)) k.2)
    value-once (typed.Compared operator a at b t) s y z h k = value-once b h.0 y z h.2 (subst (λ (w : Scopes). IsTyped T b w z) (sym (value-once a s h.0 k.0 h.1 k.1)) k.2)
    value-once (typed.Logical operator a at b t) s y z h k = value-once b h.0 y z h.2 (subst (λ (w : Scopes). IsTyped T b w z) (sym (value-once a s h.0 k.0 h.1 k.1)) k.2)
    value-once (typed.Conditional c at a b t) s y z h k = value-once b h.1 y z h.4 (subst (λ (w : Scopes). IsTyped T b w z) (sym (value-once a h.0 h.1 k.1 h.3 (subst (λ (w : Scopes). IsTyped T a w k.1) (sym (value-once c s h.0 k.0 h.2 k.2)) k.3))) k.4)
    value-once (typed.PointerConditional c at a b n t) s y z h k = value-once b h.1 y z h.4 (subst (λ (w : Scopes). IsTyped T b w z) (sym (value-once a h.0 h.1 k.1 h.3 (subst (λ (w : Scopes). IsTyped T a w k.1) (sym (value-once c s h.0 k.0 h.2 k.2)) k.3))) k.4)
    value-once (typed.Comma a b) s y z h k = value-once b h.0 y z h.2 (subst (λ (w : Scopes). IsTyped T b w z) (sym (value-once a s h.0 k.0 h.1 k.1)) k.2)
    value-once (typed.Assign p at e) s y z h k = value-once e h.0 y z h.2 (subst (λ (w : Scopes). IsTyped T e w z) (sym (place-once p s h.0 k.0 h.1 k.1)) k.2)
    value-once (typed.AssignWith operator p at e t) s y z h k = value-once e h.0 y z h.2 (subst (λ (w : Scopes). IsTyped T e w z) (sym (place-once p s h.0 k.0 h.1 k.1)) k.2)
    value-once (typed.Call f at arguments t) s y z h k = arguments-once arguments h.0 y z h.2 (subst (λ (w : Scopes). AreTyped T arguments w z) (sym (value-once f s h.0 k.0 h.1 k.1)) k.2)
    value-once (typed.CallRuntime function f at arguments t) s y z h k = arguments-once arguments h.0 y z h.2 (subst (λ (w : Scopes). AreTyped T arguments w z) (sym (value-once f s h.0 k.0 h.1 k.1)) k.2)
    value-once (typed.Allocate function f at arguments n t) s y z h k = arguments-once arguments h.0 y z h.2 (subst (λ (w : Scopes). AreTyped T arguments w z) (sym (value-once f s h.0 k.0 h.1 k.1)) k.2)
    value-once (typed.AllocateFor function f at arguments t) s y z h k = arguments-once arguments h.0 y z h.2 (subst (λ (w : Scopes). AreTyped T arguments w z) (sym (value-once f s h.0 k.0 h.1 k.1)) k.2)

    pub place-once : (p : TypedPlace) (s y z : Scopes) → IsPlace T p s y → IsPlace T p s z → y ≡ z
    place-once (typed.Variable name home t) s y z h k = h.0 ∙ sym k.0
    place-once (typed.String pieces home t) s y z h k = h.0 ∙ sym k.0
    place-once (typed.ParenPlace at p) s y z h k = place-once p s y z h k
    place-once (typed.Target at e t) s y z h k = value-once e s y z h.0 k.0
    place-once (typed.Element which a at b t) s y z h k = value-once b h.0 y z h.2 (subst (λ (w : Scopes). IsTyped T b w z) (sym (value-once a s h.0 k.0 h.1 k.1)) k.2)
    place-once (typed.Member p at name i n t) s y z h k = place-once p s y z h.0 k.0
    place-once (typed.MemberAt e at name i n t) s y z h k = value-once e s y z h.0 k.0
    place-once (typed.StructAssign p at q) s y z h k = place-once q h.0 y z h.2 (subst (λ (w : Scopes). IsPlace T q w z) (sym (place-once p s h.0 k.0 h.1 k.1)) k.2)
    place-once (typed.StructConditional c at p q) s y z h k = place-once q h.1 y z h.4 (subst (λ (w : Scopes). IsPlace T q w z) (sym (place-once p h.0 h.1 k.1 h.3 (subst (λ (w : Scopes). IsPlace T p w k.1) (sym (value-once c s h.0 k.0 h.2 k.2)) k.3))) k.4)
    place-once (typed.StructComma e p) s y z h k = place-once p h.0 y z h.2 (subst (λ (w : Scopes). IsPlace T p w z) (sym (value-once e s h.0 k.0 h.1 k.1)) k.2)

    pub arguments-once : (all : TypedArguments) (s y z : Scopes) → AreTyped T all s y → AreTyped T all s z → y ≡ z
    arguments-once typed.NoArgument s y z h k = h ∙ sym k
    arguments-once (typed.AndArgument all e) s y z h k = value-once e h.0 y z h.2 (subst (λ (w : Scopes). IsTyped T e w z) (sym (arguments-once all s h.0 k.0 h.1 k.1)) k.2)

    pub name-once : (name : TypedTypeName) (s y z : Scopes) → IsTypeName T name s y → IsTypeName T name s z → y ≡ z
    name-once (typed.Named specifiers declared t) s y z h k = declared-once declared h.0 y z h.2 (subst (λ (w : Scopes). IsDeclared T declared w z) (sym (specifiers-once specifiers s h.0 k.0 h.1 k.1)) k.2)

    pub specifiers-once : (x : TypedSpecifiers) (s y z : Scopes) → AreSpecifiers T x s y → AreSpecifiers T x s z → y ≡ z
    specifiers-once (typed.Specified list t) s y z h k = list-once list s y z h.0 k.0

    pub list-once : (x : TypedSpecifierList) (s y z : Scopes) → AreListed T x s y → AreListed T x s z → y ≡ z
    list-once typed.NoSpecifier s y z h k = h ∙ sym k
    list-once (typed.AndSpecifier all one) s y z h k = specifier-once one h.0 y z h.2 (subst (λ (w : Scopes). IsSpecifier T one w z) (sym (list-once all s h.0 k.0 h.1 k.1)) k.2)

    pub specifier-once : (x : TypedSpecifier) (s y z : Scopes) → IsSpecifier T x s y → IsSpecifier T x s z → y ≡ z
    specifier-once (typed.Keyword word) s y z h k = h ∙ sym k
    specifier-once (typed.Typedef name t) s y z h k = h.0 ∙ sym k.0
    specifier-once (typed.Tagged which at name t) s y z h k = tagged_once (tag_in s.levels name.bytes) which name t s y z h k
    specifier-once (typed.Aggregate which at name brace members t) s y z h k =
        ended_once members t h.1 k.1 y z
        (members-once members h.0 h.1 k.1 h.3
        (subst (λ (w : Scopes). AreMembers T members w k.1) (sym (begun_once (tag_named_here s name) which name t s h.0 k.0 h.2 k.2)) k.3)) h.4 k.4
    specifier-once (typed.Enum at name) s y z h k = h.0 ∙ sym k.0
    specifier-once (typed.Enumeration at name brace all comma) s y z h k =
        h.2.after ∙ ap (enumerated name) (enumerators-once all (enumerating name s) h.0 k.0 h.1 k.1) ∙ sym k.2.after

    pub members-once : (x : TypedMembers) (s y z : Scopes) → AreMembers T x s y → AreMembers T x s z → y ≡ z
    members-once typed.NoMember s y z h k = h ∙ sym k
    members-once (typed.AndMember all specifiers row) s y z h k = row-once (specified_type specifiers) row h.1 y z h.4 (subst (λ (w : Scopes). AreMemberDeclarators T (specified_type specifiers) row w z) (sym (specifiers-once specifiers h.0 h.1 k.1 h.3 (subst (λ (w : Scopes). AreSpecifiers T specifiers w k.1) (sym (members-once all s h.0 k.0 h.2 k.2)) k.3))) k.4)

    pub row-once : (base : TypeId) (x : TypedMemberDeclarators) (s y z : Scopes) → AreMemberDeclarators T base x s y → AreMemberDeclarators T base x s z → y ≡ z
    row-once base typed.NoDeclarator s y z h k = h ∙ sym k
    row-once base (typed.AndDeclarator all (typed.Declares form t)) s y z h k = form-once form h.0 y z h.2 (subst (λ (w : Scopes). IsForm T form w z) (sym (row-once base all s h.0 k.0 h.1 k.1)) k.2)

    pub enumerators-once : (x : TypedEnumerators) (s y z : Scopes) → AreEnumerators T x s y → AreEnumerators T x s z → y ≡ z
    enumerators-once typed.NoEnumerator s y z h k = h ∙ sym k
    enumerators-once (typed.AndEnumerator all name value) s y z h k =
        h.3.after ∙ ap (declaring name.bytes (declared.Enumerator value)) (enumerators-once all s h.0 k.0 h.1 k.1) ∙ sym k.3.after
    enumerators-once (typed.AndValued all name at e value) s y z h k =
        h.5.after
        ∙ ap (declaring name.bytes (declared.Enumerator value))
        (value-once e h.0 h.1 k.1 h.3 (subst (λ (w : Scopes). IsTyped T e w k.1) (sym (enumerators-once all s h.0 k.0 h.2 k.2)) k.3)) ∙ sym k.5.after

    pub form-once : (x : TypedForm) (s y z : Scopes) → IsForm T x s y → IsForm T x s z → y ≡ z
    form-once (typed.Form stars core parts) s y z h k = parts-once parts h.0 y z h.2 (subst (λ (w : Scopes). AreParts T parts w z) (sym (core-once core s h.0 k.0 h.1 k.1)) k.2)

    pub core-once : (x : TypedCore) (s y z : Scopes) → IsCore T x s y → IsCore T x s z → y ≡ z
    core-once (typed.Names name place) s y z h k = h ∙ sym k
    core-once typed.Unnamed s y z h k = h ∙ sym k
    core-once (typed.Nested at form) s y z h k = form-once form s y z h k

    pub parts-once : (x : TypedParts) (s y z : Scopes) → AreParts T x s y → AreParts T x s z → y ≡ z
    parts-once typed.NoPart s y z h k = h ∙ sym k
    parts-once (typed.AndArray all at words) s y z h k = parts-once all s y z h k
    parts-once (typed.AndSizedArray all at words e size) s y z h k = value-once e h.0 y z h.2 (subst (λ (w : Scopes). IsTyped T e w z) (sym (parts-once all s h.0 k.0 h.1 k.1)) k.2)
    parts-once (typed.AndFunction all at parameters) s y z h k =
        h.4
        ∙ ap leaving (parameters-once (is_void_list parameters) parameters (entering h.0) h.1 k.1 h.3
        (subst (λ (w : Scopes). AreParameters T (is_void_list parameters) parameters (entering w) k.1) (sym (parts-once all s h.0 k.0 h.2 k.2)) k.3))
        ∙ sym k.4

    pub parameters-once : (void : Bool) (x : TypedParameters) (s y z : Scopes) → AreParameters T void x s y → AreParameters T void x s z → y ≡ z
    parameters-once void typed.NoParameter s y z h k = h ∙ sym k
    parameters-once void (typed.AndParameter all specifiers d adjusted t) s y z h k =
        parameter_once (name_declared d) (declared_home d) t h.2 k.2 y z
        (declared-once d h.1 h.2 k.2 h.5
        (subst (λ (w : Scopes). IsDeclared T d w k.2)
        (sym (specifiers-once specifiers h.0 h.1 k.1 h.4 (subst (λ (w : Scopes). AreSpecifiers T specifiers w k.1) (sym (parameters-once void all s h.0 k.0 h.3 k.3)) k.4))) k.5))
        (declares-by d t h.2 y h.9) (declares-by d t k.2 z k.9)

    pub declared-once : (x : TypedDeclared) (s y z : Scopes) → IsDeclared T x s y → IsDeclared T x s z → y ≡ z
    declared-once typed.NotDeclared s y z h k = h ∙ sym k
    declared-once (typed.DeclaredBy form) s y z h k = form-once form s y z h k
