-- Which refusal an expression gets that is not well typed: its parts are judged in post-order of the text, a part's own rules in the
-- order of `Tests`, and the first rule that is broken is named. The table has the types up to that point.
use Rattle.std.specs.Prelude.{◌≡◌, ◌⊎◌, ◌+◌, Bool, true, false, not, ◌&&◌, ◌||◌, List, [], ◌∷◌, ◌++◌, Option, None, Some, IsTrue, bytes_eq}
use Rattle.std.specs.List.{list_any}
use Rattle.cc_base.specs.declared.place.Place.{Place}
use Rattle.cc_base.specs.declared.number.NodeId.{NodeId}
use Rattle.cc_base.specs.declared.number.TypeId.{TypeId}
use Rattle.cc_base.specs.declared.fault.Fault.{Fault}
use Rattle.cc_base.specs.declared.fault.Fault.TheVariants.{Refused}
use Rattle.cc_base.specs.declared.fault.Rule.TheVariants as rule
use Rattle.c_types.specs.Table.{Table}
use Rattle.c_tree.specs.declared.leaf.Identifier.{Identifier}
use Rattle.c_tree.specs.declared.operator.AggregateKind.{AggregateKind}
use Rattle.c_tree.specs.declared.operator.MemberOperator.{MemberOperator}
use Rattle.c_tree.specs.declared.operator.MemberOperator.TheVariants as member
use Rattle.c_tree.specs.declared.typed_word.Adjusted.{Adjusted}
use Rattle.c_tree.specs.Places.{nowhere, expr_place, specifiers_place}
use Rattle.c_tree.specs.Tree as tree
use Rattle.c_tree.specs.TypedTree as typed
use Rattle.c_tree.specs.TypedTree.{TypedExpr, TypedTypeName, TypedSpecifiers, TypedSpecifierList, TypedForm, TypedCore, TypedParts, TypedParameters, TypedDeclared, TypedMembers, TypedMemberDeclarators, TypedEnumerators}
use Rattle.c_tree.specs.TypedParts.{named_type, specified_type, name_of_form, is_void_keyword}
use Rattle.c_tree.specs.Erasure.{erased, erased_place, erased_type_name, erased_specifiers, erased_specifier_list, erased_form, erased_declared, erased_members, erased_member_declarators, erased_enumerators, erased_parameters, erased_parts, erased_core}
use Rattle.runtime_calls.specs.Prototypes.{runtime_of}
use Rattle.c_typing.specs.Scopes.{Name, Scopes, here, entering, is_complete_at}
use Rattle.c_typing.specs.Conversions.{is_plain, is_allocation, is_taken_over}
use Rattle.c_typing.specs.Rules.{is_made_of_place, runtime_named}
use Rattle.c_typing.specs.Declarators
use Rattle.c_typing.specs.Typing.{IsTyped, IsPlace, IsTypeName, AreSpecifiers, AreListed, IsForm, IsCore, AreParts, AreParameters, IsDeclared, AreMembers, AreMemberDeclarators, AreEnumerators, BeginsAggregate, tag_named_here, enumerating, is_taken_enumeration}
use Rattle.c_typing.specs.Tests

abbrev pub Fails : List Tests.Test → Fault → Type 0
Fails tests fault = Tests.first_broken tests ≡ Some fault

-- a value as its own rules leave it
abbrev pub is_natural : TypedExpr → Bool
is_natural e = not (is_made_of_place e) && (not (is_allocation e) && (is_plain e || Tests.has_some (runtime_named e)))

-- the expression is well typed, and elaborated as x
abbrev pub IsElaborated : Table → tree.Expr → Tests.Elaborated → Scopes → Scopes → Type 0
IsElaborated T e (Tests.AsPlace p) s s' = IsPlace T p s s' × (erased_place p ≡ e)
IsElaborated T e (Tests.AsValue v) s s' = IsTyped T v s s' × (erased v ≡ e) × IsTrue (is_natural v)
IsElaborated T e (Tests.AsAllocation v) s s' = IsTyped T v s s' × (erased v ≡ e) × IsTrue (is_taken_over v)

-- it is, and what follows it is refused
abbrev pub After : Table → tree.Expr → Scopes → (Tests.Elaborated → Scopes → Type 0) → Type 0
After T e s Next = (x : Tests.Elaborated) × (m : Scopes) × IsElaborated T e x s m × Next x m

abbrev pub AfterTypeName : Table → tree.TypeName → Scopes → (TypeId → Scopes → Type 0) → Type 0
AfterTypeName T name s Next = (t : TypedTypeName) × (m : Scopes) × IsTypeName T t s m × (erased_type_name t ≡ name) × Next (named_type t) m

abbrev pub AreElaborated : Table → tree.Arguments → List Tests.Argument → Scopes → Scopes → Type 0
AreElaborated T tree.NoArgument list s s' = (list ≡ []) × (s' ≡ s)
AreElaborated T (tree.AndArgument all e) list s s' =
    (before : List Tests.Argument) × (m : Scopes) × (x : Tests.Elaborated) × AreElaborated T all before s m × IsElaborated T e x m s'
    × (list ≡ before ++ record { part = x; place = expr_place e } ∷ [])

abbrev pub member_shape_tests : Table → MemberOperator → Scopes → Tests.Elaborated → Place → Identifier → List Tests.Test
member_shape_tests T member.Dot s x at name = Tests.member_tests s (Tests.shape_of T x) at name.bytes name.place
member_shape_tests T member.Arrow s x at name = Tests.member_tests s (Tests.pointed_shape T (Tests.shape_of T x)) at name.bytes name.place

abbrev pub type_size_tests : Table → Scopes → Place → TypeId → List Tests.Test
type_size_tests T s at t = Tests.broken_at rule.Incomplete at (not (is_complete_at T s t)) ∷ []

-- Declarators: the rules that the type of a declarator breaks, from its specifiers outwards to its name

abbrev pub name_place : Option Identifier → Place → Place
name_place None at = at
name_place (Some name) at = name.place

abbrev pub PartsFail : Table → Scopes → TypedParts → Declarators.Outermost → TypeId → Place → Fault → Type 0
PartsFail T s typed.NoPart outermost base at f = ⊥
PartsFail T s (typed.AndArray all bracket words) outermost base at f =
    Fails (Tests.array_tests T s (Declarators.nearest all outermost) false bracket words base at) f
    ⊎ ((u : TypeId) × Declarators.MakesArray T s (Declarators.nearest all outermost) words None base u × PartsFail T s all outermost u at f)
PartsFail T s (typed.AndSizedArray all bracket words e size) outermost base at f =
    Fails (Tests.array_tests T s (Declarators.nearest all outermost) true bracket words base at) f
    ⊎ ((u : TypeId) × Declarators.MakesArray T s (Declarators.nearest all outermost) words (Some size) base u × PartsFail T s all outermost u at f)
PartsFail T s (typed.AndFunction all paren parameters) outermost base at f =
    Fails (Tests.function_tests T base at) f
    ⊎ ((u : TypeId) × Declarators.MakesFunction T (Declarators.nearest all outermost) parameters base u × PartsFail T s all outermost u at f)

abbrev mutual
  pub FormFails : Table → Scopes → TypedForm → Declarators.Outermost → TypeId → Place → Fault → Type 0
  FormFails T s (typed.Form stars core parts) outermost base at f =
      (u : TypeId) × Declarators.StarsMake T stars base u
      × (PartsFail T s parts (Declarators.outside core outermost) u at f
      ⊎ ((v : TypeId) × Declarators.PartsMake T s parts (Declarators.outside core outermost) u v × CoreFails T s core outermost v at f))

  pub CoreFails : Table → Scopes → TypedCore → Declarators.Outermost → TypeId → Place → Fault → Type 0
  CoreFails T s (typed.Names name home) outermost base at f = ⊥
  CoreFails T s typed.Unnamed outermost base at f = ⊥
  CoreFails T s (typed.Nested paren form) outermost base at f = FormFails T s form outermost base at f

-- at the name, or at the place given where there is none
abbrev pub DeclaredFails : Table → Scopes → TypedDeclared → Declarators.Outermost → TypeId → Place → Fault → Type 0
DeclaredFails T s typed.NotDeclared outermost base at f = ⊥
DeclaredFails T s (typed.DeclaredBy form) outermost base at f = FormFails T s form outermost base (name_place (name_of_form form) at) f

-- a member: a second one of its name, then its type, which is complete
abbrev pub has_name : List Name → Option Identifier → Bool
has_name names None = false
has_name names (Some name) = list_any (λ each. bytes_eq name.bytes each) names

abbrev pub MemberTypeFails : Table → Scopes → TypedForm → TypeId → Place → Fault → Type 0
MemberTypeFails T s form base at f =
    FormFails T s form Declarators.Written base at f
    ⊎ ((t : TypeId) × Declarators.FormMakes T s form Declarators.Written base t × Fails (Tests.member_type_tests T s t at) f)

abbrev pub MemberFailsBy : Bool → Table → Scopes → TypedForm → TypeId → Place → Fault → Type 0
MemberFailsBy true T s form base at f = f ≡ Refused at rule.Redeclared
MemberFailsBy false T s form base at f = MemberTypeFails T s form base at f

abbrev pub MemberFails : Table → Scopes → List Name → TypedForm → TypeId → Fault → Type 0
MemberFails T s names form base f = MemberFailsBy (has_name names (name_of_form form)) T s form base (name_place (name_of_form form) nowhere) f

-- a parameter: a second one of its name; then its type, which is complete and no struct or union
abbrev pub declared_identifier : TypedDeclared → Option Identifier
declared_identifier typed.NotDeclared = None
declared_identifier (typed.DeclaredBy form) = name_of_form form

abbrev pub is_here : Scopes → Option Identifier → Bool
is_here s None = false
is_here s (Some name) = Tests.has_some (here s.levels name.bytes)

abbrev pub ParameterTypeFails : Table → Scopes → (void : Bool) → TypedDeclared → TypeId → Place → Fault → Type 0
ParameterTypeFails T s void d base at f =
    ((n : NodeId) × DeclaredFails T s d (Declarators.Points n) base at f)
    ⊎ ((adjusted : Option Adjusted) × (t : TypeId) × Declarators.ParameterMakes T s adjusted d base t
    × Fails (Tests.parameter_type_tests T s void t at) f)

abbrev pub ParameterFailsBy : Bool → Table → Scopes → Bool → TypedDeclared → TypeId → Place → Fault → Type 0
ParameterFailsBy true T s void d base at f = f ≡ Refused at rule.Redeclared
ParameterFailsBy false T s void d base at f = ParameterTypeFails T s void d base at f

abbrev pub ParameterFails : Table → Scopes → Bool → TypedDeclared → TypeId → Place → Fault → Type 0
ParameterFails T s void d base at f =
    ParameterFailsBy (is_here s (declared_identifier d)) T s void d base (name_place (declared_identifier d) at) f

-- Specifiers

abbrev pub one_named : Declarators.Counted → Declarators.Counted
one_named c = record c { named = c.named + 1 }

-- the tag, or the keyword where there is none
abbrev pub tag_place : Place → Option Identifier → Place
tag_place at name = name_place name at

abbrev pub is_empty_row : TypedMembers → Bool
is_empty_row typed.NoMember = true
is_empty_row row = false

-- a struct or union begins, or its tag stands for something else that stays
abbrev pub BeginsOrStays : Table → AggregateKind → Option Identifier → TypeId → Scopes → Scopes → Type 0
BeginsOrStays T which name t s s' =
    BeginsAggregate T (tag_named_here s name) which name t s s'
    ⊎ (IsTrue (Tests.is_taken_tag T s which (tag_named_here s name)) × (s' ≡ s))

-- `(void)`
abbrev pub is_void_alone : tree.Parameters → Bool
is_void_alone (tree.AndParameter tree.NoParameter (tree.AndSpecifier tree.NoSpecifier (tree.Keyword word)) tree.NotDeclared) =
    is_void_keyword word.keyword
is_void_alone parameters = false

abbrev mutual
  -- the refusal of an expression; `called` says that it is what a call calls
  pub Refuses : Table → (called : Bool) → tree.Expr → Scopes → Fault → Type 0
  Refuses T called (tree.Name name) s f = Fails (Tests.name_tests s (Tests.has_some (runtime_of name.bytes)) called name.bytes name.place) f
  Refuses T called (tree.Integer of value at) s f = ⊥
  Refuses T called (tree.Character value at) s f = ⊥
  Refuses T called (tree.String pieces) s f = ⊥
  Refuses T called (tree.Paren at e) s f = Refuses T called e s f
  Refuses T called (tree.Index a at b) s f =
      Refuses T false a s f ⊎ After T a s (λ x m. Refuses T false b m f ⊎ After T b m (λ y n. Fails (Tests.index_tests T n at x y) f))
  Refuses T called (tree.Call g at arguments) s f =
      Refuses T true g s f
      ⊎ After T g s (λ x m. RefusesArguments T arguments m f
      ⊎ ((list : List Tests.Argument) × (n : Scopes) × AreElaborated T arguments list m n × Fails (Tests.call_tests T at x list) f))
  Refuses T called (tree.Member e operator at name) s f =
      Refuses T false e s f ⊎ After T e s (λ x m. Fails (member_shape_tests T operator m x at name) f)
  Refuses T called (tree.Postfix e operator at) s f = Refuses T false e s f ⊎ After T e s (λ x m. Fails (Tests.step_tests T m at x) f)
  Refuses T called (tree.Prefix operator at e) s f = Refuses T false e s f ⊎ After T e s (λ x m. Fails (Tests.prefix_tests T m operator at x) f)
  Refuses T called (tree.SizeOfType at paren name) s f =
      RefusesTypeName T name s f ⊎ AfterTypeName T name s (λ t m. Fails (type_size_tests T m at t) f)
  Refuses T called (tree.Cast at name e) s f =
      RefusesTypeName T name s f
      ⊎ AfterTypeName T name s (λ t m. Refuses T false e m f ⊎ After T e m (λ x n. Fails (Tests.cast_tests T at x t) f))
  Refuses T called (tree.Infix operator a at b) s f =
      Refuses T false a s f
      ⊎ After T a s (λ x m. Refuses T false b m f ⊎ After T b m (λ y n. Fails (Tests.infix_tests T n operator at (expr_place a) x y) f))
  Refuses T called (tree.Conditional c at a b) s f =
      Refuses T false c s f
      ⊎ After T c s (λ z k. Refuses T false a k f
      ⊎ After T a k (λ x m. Refuses T false b m f ⊎ After T b m (λ y n. Fails (Tests.choice_tests T at z x y) f)))
  Refuses T called (tree.Assign operator a at b) s f =
      Refuses T false a s f
      ⊎ After T a s (λ x m. Refuses T false b m f ⊎ After T b m (λ y n. Fails (Tests.assign_tests T n operator at x y) f))
  Refuses T called (tree.Comma a b) s f = Refuses T false a s f ⊎ After T a s (λ x m. Refuses T false b m f)
  Refuses T called (tree.Compound at name brace) s f = ⊥
  Refuses T called (tree.SizeOfCompound at paren name brace) s f = ⊥

  pub RefusesArguments : Table → tree.Arguments → Scopes → Fault → Type 0
  RefusesArguments T tree.NoArgument s f = ⊥
  RefusesArguments T (tree.AndArgument all e) s f =
      RefusesArguments T all s f ⊎ ((list : List Tests.Argument) × (m : Scopes) × AreElaborated T all list s m × Refuses T false e m f)

  pub RefusesTypeName : Table → tree.TypeName → Scopes → Fault → Type 0
  RefusesTypeName T (tree.Named specifiers declared) s f =
      RefusesSpecifiers T specifiers s f
      ⊎ ((t : TypedSpecifiers) × (m : Scopes) × AreSpecifiers T t s m × (erased_specifiers t ≡ specifiers)
      × (RefusesDeclared T declared m f
      ⊎ ((d : TypedDeclared) × (n : Scopes) × IsDeclared T d m n × (erased_declared d ≡ declared)
      × DeclaredFails T n d Declarators.Written (specified_type t) (specifiers_place specifiers) f)))

  -- the specifiers are judged one after another; a word is refused where it does not go with those before it
  pub RefusesSpecifiers : Table → tree.Specifiers → Scopes → Fault → Type 0
  RefusesSpecifiers T tree.NoSpecifier s f = ⊥
  RefusesSpecifiers T (tree.AndSpecifier all specifier) s f =
      RefusesSpecifiers T all s f
      ⊎ ((list : TypedSpecifierList) × (m : Scopes) × AreListed T list s m × (erased_specifier_list list ≡ all)
      × IsTrue (Declarators.are_allowed (Declarators.counted list)) × RefusesSpecifier T (Declarators.counted list) specifier m f)

  pub RefusesSpecifier : Table → Declarators.Counted → tree.Specifier → Scopes → Fault → Type 0
  RefusesSpecifier T before (tree.Keyword word) s f = Fails (Tests.word_tests word.place (Declarators.counting_word word.keyword before)) f
  RefusesSpecifier T before (tree.Typedef name) s f = Fails (Tests.word_tests name.place (one_named before)) f
  RefusesSpecifier T before (tree.Tagged which at name) s f =
      Fails (Tests.tag_tests s (Tests.is_tag_of which) name.bytes name.place ++ Tests.word_tests at (one_named before)) f
  RefusesSpecifier T before (tree.Aggregate which at name brace members) s f =
      (t : TypeId) × (m : Scopes) × BeginsOrStays T which name t s m
      × (RefusesMembers T members m f
      ⊎ ((row : TypedMembers) × (n : Scopes) × AreMembers T row m n × (erased_members row ≡ members)
      × Fails (Tests.aggregate_tests (Tests.is_taken_tag T s which (tag_named_here s name) || is_complete_at T n t) (tag_place at name) (is_empty_row row)
      ++ Tests.word_tests at (one_named before)) f))
  RefusesSpecifier T before (tree.Enum at name) s f =
      Fails (Tests.enum_tests s name.bytes name.place ++ Tests.word_tests at (one_named before)) f
  RefusesSpecifier T before (tree.Enumeration at name brace all comma) s f =
      RefusesEnumerators T all (enumerating name s) f
      ⊎ ((list : TypedEnumerators) × (m : Scopes) × AreEnumerators T list (enumerating name s) m × (erased_enumerators list ≡ all)
      × Fails (Tests.enumeration_tests (is_taken_enumeration (tag_named_here m name)) (tag_place at name) ++ Tests.word_tests at (one_named before)) f)

  pub RefusesMembers : Table → tree.Members → Scopes → Fault → Type 0
  RefusesMembers T tree.NoMember s f = ⊥
  RefusesMembers T (tree.AndMember all specifiers declarators) s f =
      RefusesMembers T all s f
      ⊎ ((row : TypedMembers) × (m : Scopes) × AreMembers T row s m × (erased_members row ≡ all)
      × (RefusesSpecifiers T specifiers m f
      ⊎ ((t : TypedSpecifiers) × (n : Scopes) × AreSpecifiers T t m n × (erased_specifiers t ≡ specifiers)
      × RefusesMemberDeclarators T (specified_type t) (Declarators.member_names row) declarators n f)))

  -- `names` are those of the rows before
  pub RefusesMemberDeclarators : Table → TypeId → List Name → tree.MemberDeclarators → Scopes → Fault → Type 0
  RefusesMemberDeclarators T base names tree.NoDeclarator s f = ⊥
  RefusesMemberDeclarators T base names (tree.AndDeclarator all d) s f =
      RefusesMemberDeclarators T base names all s f
      ⊎ ((list : TypedMemberDeclarators) × (m : Scopes) × AreMemberDeclarators T base list s m × (erased_member_declarators list ≡ all)
      × (RefusesDeclarator T d m f
      ⊎ ((form : TypedForm) × (n : Scopes) × IsForm T form m n × (erased_form form ≡ d)
      × MemberFails T n (names ++ Declarators.declarator_names list) form base f)))
  RefusesMemberDeclarators T base names (tree.AndBitField all d) s f = ⊥
  RefusesMemberDeclarators T base names (tree.AndUnnamedBitField all) s f = ⊥

  pub RefusesEnumerators : Table → tree.Enumerators → Scopes → Fault → Type 0
  RefusesEnumerators T tree.NoEnumerator s f = ⊥
  RefusesEnumerators T (tree.AndEnumerator all name) s f =
      RefusesEnumerators T all s f
      ⊎ ((list : TypedEnumerators) × (m : Scopes) × AreEnumerators T list s m × (erased_enumerators list ≡ all)
      × Fails (Tests.enumerator_tests m name.bytes name.place) f)
  RefusesEnumerators T (tree.AndValued all name at e) s f =
      RefusesEnumerators T all s f
      ⊎ ((list : TypedEnumerators) × (m : Scopes) × AreEnumerators T list s m × (erased_enumerators list ≡ all)
      × (Refuses T false e m f
      ⊎ After T e m (λ x n. Fails (Tests.enumerator_tests n name.bytes name.place ++ Tests.constant_tests T (expr_place e) x) f)))

  -- what stands in a declarator
  pub RefusesDeclarator : Table → tree.Declarator → Scopes → Fault → Type 0
  RefusesDeclarator T (tree.Declares stars core parts) s f =
      RefusesCore T core s f
      ⊎ ((c : TypedCore) × (m : Scopes) × IsCore T c s m × (erased_core c ≡ core) × RefusesParts T parts m f)

  pub RefusesCore : Table → tree.Core → Scopes → Fault → Type 0
  RefusesCore T (tree.Names name) s f = ⊥
  RefusesCore T tree.Unnamed s f = ⊥
  RefusesCore T (tree.Nested at d) s f = RefusesDeclarator T d s f

  pub RefusesParts : Table → tree.Parts → Scopes → Fault → Type 0
  RefusesParts T tree.NoPart s f = ⊥
  RefusesParts T (tree.AndArray all at words) s f = RefusesParts T all s f
  RefusesParts T (tree.AndSizedArray all at words e) s f =
      RefusesParts T all s f
      ⊎ ((parts : TypedParts) × (m : Scopes) × AreParts T parts s m × (erased_parts parts ≡ all)
      × (Refuses T false e m f ⊎ After T e m (λ x n. Fails (Tests.array_size_tests T (expr_place e) x) f)))
  RefusesParts T (tree.AndFunction all at parameters) s f =
      RefusesParts T all s f
      ⊎ ((parts : TypedParts) × (m : Scopes) × AreParts T parts s m × (erased_parts parts ≡ all)
      × RefusesParameters T (is_void_alone parameters) parameters (entering m) f)

  pub RefusesParameters : Table → Bool → tree.Parameters → Scopes → Fault → Type 0
  RefusesParameters T void tree.NoParameter s f = ⊥
  RefusesParameters T void (tree.AndParameter all specifiers declared) s f =
      RefusesParameters T void all s f
      ⊎ ((list : TypedParameters) × (k : Scopes) × AreParameters T void list s k × (erased_parameters list ≡ all)
      × (RefusesSpecifiers T specifiers k f
      ⊎ ((t : TypedSpecifiers) × (m : Scopes) × AreSpecifiers T t k m × (erased_specifiers t ≡ specifiers)
      × (RefusesDeclared T declared m f
      ⊎ ((d : TypedDeclared) × (n : Scopes) × IsDeclared T d m n × (erased_declared d ≡ declared)
      × ParameterFails T n void d (specified_type t) (specifiers_place specifiers) f)))))

  pub RefusesDeclared : Table → tree.Declared → Scopes → Fault → Type 0
  RefusesDeclared T tree.NotDeclared s f = ⊥
  RefusesDeclared T (tree.DeclaredBy d) s f = RefusesDeclarator T d s f

-- a list of specifiers that no declarator follows: `struct S` by itself declares its tag in the innermost scope
abbrev pub RefusesAlone : Table → tree.Specifiers → Scopes → Fault → Type 0
RefusesAlone T (tree.AndSpecifier tree.NoSpecifier (tree.Tagged which at name)) s f =
    Fails (Tests.alone_tests s (Tests.is_tag_of which) name.bytes name.place) f
RefusesAlone T specifiers s f = RefusesSpecifiers T specifiers s f
