-- Which refusal an expression gets, as `Refuses` says it, where the parts that were judged before are numbered too: their nodes are those
-- from the point at which the text begins, in the order of the text. Where the value of a part is taken before the text goes on, its node,
-- of the address of an array or of an allocation that nothing takes over, is made before what follows.
use Rattle.std.specs.Prelude.{◌≡◌, ◌⊎◌, ◌+◌, Bool, true, false, ◌||◌, List, [], ◌∷◌, ◌++◌, length, Option, Some, IsTrue, if◌then◌else◌}
use Rattle.cc_base.specs.declared.number.NodeId.{NodeId}
use Rattle.cc_base.specs.declared.number.TypeId.{TypeId}
use Rattle.cc_base.specs.declared.fault.Fault.{Fault}
use Rattle.c_types.specs.Table.{Table}
use Rattle.c_tree.specs.declared.leaf.Identifier.{Identifier}
use Rattle.c_tree.specs.declared.leaf.Star.{Star}
use Rattle.c_tree.specs.declared.typed_word.Home.{Home}
use Rattle.c_tree.specs.declared.typed_word.Home.TheVariants as home
use Rattle.c_tree.specs.Places.{expr_place, specifiers_place}
use Rattle.c_tree.specs.Tree as tree
use Rattle.c_tree.specs.TypedTree as typed
use Rattle.c_tree.specs.TypedTree.{TypedExpr, TypedPlace, TypedTypeName, TypedSpecifiers, TypedSpecifierList, TypedForm, TypedCore, TypedParts, TypedParameters, TypedDeclared, TypedMembers, TypedMemberDeclarators, TypedEnumerators}
use Rattle.c_tree.specs.TypedParts.{named_type, specified_type, name_of_form, home_of_form, name_of_core, home_of_core, made_by_type_name, made_by_specifiers, made_by_specifier_list, made_by_members, made_by_member_declarators, made_by_enumerators, made_by_form, made_by_core, made_by_parts, made_by_parameters}
use Rattle.c_tree.specs.Erasure.{erased_type_name, erased_specifiers, erased_specifier_list, erased_form, erased_core, erased_parts, erased_parameters, erased_members, erased_member_declarators, erased_enumerators}
use Rattle.runtime_calls.specs.Prototypes.{runtime_of}
use Rattle.c_typing.specs.Conversions.{is_allocation, is_taken_over}
use Rattle.c_typing.specs.Declarators
use Rattle.c_typing.specs.Refusals.{Fails, is_natural, member_shape_tests, type_size_tests, DeclaredFails, MemberFails, ParameterFails, BeginsOrStays, one_named, tag_place, is_empty_row, is_void_alone}
use Rattle.c_typing.specs.Scopes.{Name, Scopes, entering, is_complete_at}
use Rattle.c_typing.specs.Settled.{is_converted}
use Rattle.c_typing.specs.Tests
use Rattle.c_typing.specs.Typing.{IsTypeName, AreSpecifiers, AreListed, IsForm, IsCore, AreParts, AreParameters, AreMembers, AreMemberDeclarators, AreEnumerators, tag_named_here, enumerating, is_taken_enumeration}
use Rattle.c_typing_unique.specs.Points.{Point, IsReadAs, IsRead, IsReadPlace}

-- Expressions

-- the expression is well typed, and elaborated as x
abbrev pub IsElaboratedAt : Table → tree.Expr → Tests.Elaborated → Point → Point → Type 0
IsElaboratedAt T e (Tests.AsPlace p) a b = IsReadPlace T e p a b
IsElaboratedAt T e (Tests.AsValue v) a b = IsRead T e v a b × IsTrue (is_natural v)
IsElaboratedAt T e (Tests.AsAllocation v) a b = IsRead T e v a b × IsTrue (is_taken_over v)

-- it is, and what follows it is refused
abbrev pub AfterPart : Table → tree.Expr → Point → (Tests.Elaborated → Point → Type 0) → Type 0
AfterPart T e a Next = (x : Tests.Elaborated) × (b : Point) × IsElaboratedAt T e x a b × Next x b

-- the part of which this is the value
abbrev pub part_of : TypedExpr → Tests.Elaborated
part_of (typed.Read p) = Tests.AsPlace p
part_of (typed.Unread p) = Tests.AsPlace p
part_of (typed.Decay p n t) = Tests.AsPlace p
part_of e = if is_allocation e then Tests.AsAllocation e else Tests.AsValue e

-- its value is taken, and what follows it is refused
abbrev pub AfterValue : Table → tree.Expr → Point → (Tests.Elaborated → Point → Type 0) → Type 0
AfterValue T e a Next =
    (v : TypedExpr) × (b : Point) × IsRead T e v a b × (is_converted v ≡ false) × (is_taken_over v ≡ false) × Next (part_of v) b

abbrev pub AreElaboratedAt : Table → tree.Arguments → List Tests.Argument → Point → Point → Type 0
AreElaboratedAt T tree.NoArgument list a b = (list ≡ []) × (b ≡ a)
AreElaboratedAt T (tree.AndArgument all e) list a b =
    (before : List Tests.Argument) × (v : TypedExpr) × (m : Point) × AreElaboratedAt T all before a m × IsRead T e v m b × (is_converted v ≡ false) × (is_taken_over v ≡ false)
    × (list ≡ before ++ record { part = part_of v; place = expr_place e } ∷ [])

-- Declarators

-- the nodes of a declarator do not hang on its type
abbrev pub no_type : TypeId
no_type = record { 0 = 0 }

-- the home of a name: only a parameter has one
abbrev pub IsHomeFor : (parameter : Bool) → Option Identifier → Home → Type 0
IsHomeFor true (Some name) h = (n : NodeId) × (h ≡ home.Parameter n)
IsHomeFor parameter name h = h ≡ home.None

abbrev pub IsFormAt : Table → Bool → tree.Declarator → TypedForm → Point → Point → Type 0
IsFormAt T parameter d x a b =
    IsReadAs erased_form (λ y. made_by_form y no_type) (IsForm T) d x a b × IsHomeFor parameter (name_of_form x) (home_of_form x)

abbrev pub IsCoreAt : Table → Bool → tree.Core → TypedCore → Point → Point → Type 0
IsCoreAt T parameter d x a b =
    IsReadAs erased_core (λ y. made_by_core y no_type) (IsCore T) d x a b × IsHomeFor parameter (name_of_core x) (home_of_core x)

abbrev pub IsDeclaredAt : Table → Bool → tree.Declared → TypedDeclared → Point → Point → Type 0
IsDeclaredAt T parameter tree.NotDeclared x a b = (x ≡ typed.NotDeclared) × (b ≡ a)
IsDeclaredAt T parameter (tree.DeclaredBy d) x a b = (form : TypedForm) × (x ≡ typed.DeclaredBy form) × IsFormAt T parameter d form a b

-- each star makes a node
abbrev pub after_stars : List Star → Point → Point
after_stars stars a = record { scopes = a.scopes; node = a.node + length stars }

abbrev pub in_scope : Point → Point
in_scope a = record { scopes = entering a.scopes; node = a.node }

abbrev pub with_scopes : Scopes → Point → Point
with_scopes s a = record { scopes = s; node = a.node }

abbrev mutual
  -- the refusal of an expression; `called` says that it is what a call calls
  pub RefusesAt : Table → (called : Bool) → tree.Expr → Point → Fault → Type 0
  RefusesAt T called (tree.Name name) a f = Fails (Tests.name_tests a.scopes (Tests.has_some (runtime_of name.bytes)) called name.bytes name.place) f
  RefusesAt T called (tree.Integer of value at) a f = ⊥
  RefusesAt T called (tree.Character value at) a f = ⊥
  RefusesAt T called (tree.String pieces) a f = ⊥
  RefusesAt T called (tree.Paren at e) a f = RefusesAt T called e a f
  RefusesAt T called (tree.Index d at e) a f =
      RefusesAt T false d a f ⊎ AfterValue T d a (λ x m. RefusesAt T false e m f ⊎ AfterPart T e m (λ y n. Fails (Tests.index_tests T n.scopes at x y) f))
  RefusesAt T called (tree.Call g at arguments) a f =
      RefusesAt T true g a f
      ⊎ AfterValue T g a (λ x m. RefusesArgumentsAt T arguments m f
      ⊎ ((list : List Tests.Argument) × (n : Point) × AreElaboratedAt T arguments list m n × Fails (Tests.call_tests T at x list) f))
  RefusesAt T called (tree.Member e operator at name) a f =
      RefusesAt T false e a f ⊎ AfterPart T e a (λ x m. Fails (member_shape_tests T operator m.scopes x at name) f)
  RefusesAt T called (tree.Postfix e operator at) a f = RefusesAt T false e a f ⊎ AfterPart T e a (λ x m. Fails (Tests.step_tests T m.scopes at x) f)
  RefusesAt T called (tree.Prefix operator at e) a f =
      RefusesAt T false e a f ⊎ AfterPart T e a (λ x m. Fails (Tests.prefix_tests T m.scopes operator at x) f)
  RefusesAt T called (tree.SizeOfType at paren name) a f =
      RefusesTypeNameAt T name a f
      ⊎ ((t : TypedTypeName) × (m : Point) × IsReadAs erased_type_name made_by_type_name (IsTypeName T) name t a m × Fails (type_size_tests T m.scopes at (named_type t)) f)
  RefusesAt T called (tree.Cast at name e) a f =
      RefusesTypeNameAt T name a f
      ⊎ ((t : TypedTypeName) × (m : Point) × IsReadAs erased_type_name made_by_type_name (IsTypeName T) name t a m
      × (RefusesAt T false e m f ⊎ AfterPart T e m (λ x n. Fails (Tests.cast_tests T at x (named_type t)) f)))
  RefusesAt T called (tree.Infix operator d at e) a f =
      RefusesAt T false d a f
      ⊎ AfterValue T d a (λ x m. RefusesAt T false e m f ⊎ AfterPart T e m (λ y n. Fails (Tests.infix_tests T n.scopes operator at (expr_place d) x y) f))
  RefusesAt T called (tree.Conditional c at d e) a f =
      RefusesAt T false c a f
      ⊎ AfterValue T c a (λ z k. RefusesAt T false d k f
      ⊎ AfterValue T d k (λ x m. RefusesAt T false e m f ⊎ AfterPart T e m (λ y n. Fails (Tests.choice_tests T at z x y) f)))
  RefusesAt T called (tree.Assign operator d at e) a f =
      RefusesAt T false d a f
      ⊎ AfterPart T d a (λ x m. RefusesAt T false e m f ⊎ AfterPart T e m (λ y n. Fails (Tests.assign_tests T n.scopes operator at x y) f))
  RefusesAt T called (tree.Comma d e) a f = RefusesAt T false d a f ⊎ AfterValue T d a (λ x m. RefusesAt T false e m f)
  RefusesAt T called (tree.Compound at name brace) a f = ⊥
  RefusesAt T called (tree.SizeOfCompound at paren name brace) a f = ⊥

  pub RefusesArgumentsAt : Table → tree.Arguments → Point → Fault → Type 0
  RefusesArgumentsAt T tree.NoArgument a f = ⊥
  RefusesArgumentsAt T (tree.AndArgument all e) a f =
      RefusesArgumentsAt T all a f ⊎ ((list : List Tests.Argument) × (m : Point) × AreElaboratedAt T all list a m × RefusesAt T false e m f)

  pub RefusesTypeNameAt : Table → tree.TypeName → Point → Fault → Type 0
  RefusesTypeNameAt T (tree.Named specifiers declared) a f =
      RefusesSpecifiersAt T specifiers a f
      ⊎ ((t : TypedSpecifiers) × (m : Point) × IsReadAs erased_specifiers made_by_specifiers (AreSpecifiers T) specifiers t a m
      × (RefusesDeclaredAt T false declared m f
      ⊎ ((d : TypedDeclared) × (n : Point) × IsDeclaredAt T false declared d m n
      × DeclaredFails T n.scopes d Declarators.Written (specified_type t) (specifiers_place specifiers) f)))

  pub RefusesSpecifiersAt : Table → tree.Specifiers → Point → Fault → Type 0
  RefusesSpecifiersAt T tree.NoSpecifier a f = ⊥
  RefusesSpecifiersAt T (tree.AndSpecifier all specifier) a f =
      RefusesSpecifiersAt T all a f
      ⊎ ((list : TypedSpecifierList) × (m : Point) × IsReadAs erased_specifier_list made_by_specifier_list (AreListed T) all list a m
      × IsTrue (Declarators.are_allowed (Declarators.counted list)) × RefusesSpecifierAt T (Declarators.counted list) specifier m f)

  pub RefusesSpecifierAt : Table → Declarators.Counted → tree.Specifier → Point → Fault → Type 0
  RefusesSpecifierAt T before (tree.Keyword word) a f = Fails (Tests.word_tests word.place (Declarators.counting_word word.keyword before)) f
  RefusesSpecifierAt T before (tree.Typedef name) a f = Fails (Tests.word_tests name.place (one_named before)) f
  RefusesSpecifierAt T before (tree.Tagged which at name) a f =
      Fails (Tests.tag_tests a.scopes (Tests.is_tag_of which) name.bytes name.place ++ Tests.word_tests at (one_named before)) f
  RefusesSpecifierAt T before (tree.Aggregate which at name brace members) a f =
      (t : TypeId) × (m : Scopes) × BeginsOrStays T which name t a.scopes m
      × (RefusesMembersAt T members (with_scopes m a) f
      ⊎ ((row : TypedMembers) × (n : Point) × IsReadAs erased_members made_by_members (AreMembers T) members row (with_scopes m a) n
      × Fails (Tests.aggregate_tests (Tests.is_taken_tag T a.scopes which (tag_named_here a.scopes name) || is_complete_at T n.scopes t) (tag_place at name) (is_empty_row row)
      ++ Tests.word_tests at (one_named before)) f))
  RefusesSpecifierAt T before (tree.Enum at name) a f =
      Fails (Tests.enum_tests a.scopes name.bytes name.place ++ Tests.word_tests at (one_named before)) f
  RefusesSpecifierAt T before (tree.Enumeration at name brace all comma) a f =
      RefusesEnumeratorsAt T all (with_scopes (enumerating name a.scopes) a) f
      ⊎ ((list : TypedEnumerators) × (m : Point) × IsReadAs erased_enumerators made_by_enumerators (AreEnumerators T) all list (with_scopes (enumerating name a.scopes) a) m
      × Fails (Tests.enumeration_tests (is_taken_enumeration (tag_named_here m.scopes name)) (tag_place at name) ++ Tests.word_tests at (one_named before)) f)

  pub RefusesMembersAt : Table → tree.Members → Point → Fault → Type 0
  RefusesMembersAt T tree.NoMember a f = ⊥
  RefusesMembersAt T (tree.AndMember all specifiers declarators) a f =
      RefusesMembersAt T all a f
      ⊎ ((row : TypedMembers) × (m : Point) × IsReadAs erased_members made_by_members (AreMembers T) all row a m
      × (RefusesSpecifiersAt T specifiers m f
      ⊎ ((t : TypedSpecifiers) × (n : Point) × IsReadAs erased_specifiers made_by_specifiers (AreSpecifiers T) specifiers t m n
      × RefusesRowAt T (specified_type t) (Declarators.member_names row) declarators n f)))

  -- `names` are those of the rows before
  pub RefusesRowAt : Table → TypeId → List Name → tree.MemberDeclarators → Point → Fault → Type 0
  RefusesRowAt T base names tree.NoDeclarator a f = ⊥
  RefusesRowAt T base names (tree.AndDeclarator all d) a f =
      RefusesRowAt T base names all a f
      ⊎ ((list : TypedMemberDeclarators) × (m : Point)
      × IsReadAs erased_member_declarators made_by_member_declarators (AreMemberDeclarators T base) all list a m
      × (RefusesDeclaratorAt T false d m f
      ⊎ ((form : TypedForm) × (n : Point) × IsFormAt T false d form m n × MemberFails T n.scopes (names ++ Declarators.declarator_names list) form base f)))
  RefusesRowAt T base names (tree.AndBitField all d) a f = ⊥
  RefusesRowAt T base names (tree.AndUnnamedBitField all) a f = ⊥

  pub RefusesEnumeratorsAt : Table → tree.Enumerators → Point → Fault → Type 0
  RefusesEnumeratorsAt T tree.NoEnumerator a f = ⊥
  RefusesEnumeratorsAt T (tree.AndEnumerator all name) a f =
      RefusesEnumeratorsAt T all a f
      ⊎ ((list : TypedEnumerators) × (m : Point) × IsReadAs erased_enumerators made_by_enumerators (AreEnumerators T) all list a m
      × Fails (Tests.enumerator_tests m.scopes name.bytes name.place) f)
  RefusesEnumeratorsAt T (tree.AndValued all name at e) a f =
      RefusesEnumeratorsAt T all a f
      ⊎ ((list : TypedEnumerators) × (m : Point) × IsReadAs erased_enumerators made_by_enumerators (AreEnumerators T) all list a m
      × (RefusesAt T false e m f
      ⊎ AfterPart T e m (λ x n. Fails (Tests.enumerator_tests n.scopes name.bytes name.place ++ Tests.constant_tests T (expr_place e) x) f)))

  -- what stands in a declarator
  pub RefusesDeclaratorAt : Table → (parameter : Bool) → tree.Declarator → Point → Fault → Type 0
  RefusesDeclaratorAt T parameter (tree.Declares stars core parts) a f =
      RefusesCoreAt T parameter core (after_stars stars a) f
      ⊎ ((c : TypedCore) × (m : Point) × IsCoreAt T parameter core c (after_stars stars a) m × RefusesPartsAt T parts m f)

  pub RefusesCoreAt : Table → (parameter : Bool) → tree.Core → Point → Fault → Type 0
  RefusesCoreAt T parameter (tree.Names name) a f = ⊥
  RefusesCoreAt T parameter tree.Unnamed a f = ⊥
  RefusesCoreAt T parameter (tree.Nested at d) a f = RefusesDeclaratorAt T parameter d a f

  pub RefusesPartsAt : Table → tree.Parts → Point → Fault → Type 0
  RefusesPartsAt T tree.NoPart a f = ⊥
  RefusesPartsAt T (tree.AndArray all at words) a f = RefusesPartsAt T all a f
  RefusesPartsAt T (tree.AndSizedArray all at words e) a f =
      RefusesPartsAt T all a f
      ⊎ ((parts : TypedParts) × (m : Point) × IsReadAs erased_parts made_by_parts (AreParts T) all parts a m
      × (RefusesAt T false e m f ⊎ AfterPart T e m (λ x n. Fails (Tests.array_size_tests T (expr_place e) x) f)))
  RefusesPartsAt T (tree.AndFunction all at parameters) a f =
      RefusesPartsAt T all a f
      ⊎ ((parts : TypedParts) × (m : Point) × IsReadAs erased_parts made_by_parts (AreParts T) all parts a m
      × RefusesParametersAt T (is_void_alone parameters) parameters (in_scope m) f)

  pub RefusesParametersAt : Table → Bool → tree.Parameters → Point → Fault → Type 0
  RefusesParametersAt T void tree.NoParameter a f = ⊥
  RefusesParametersAt T void (tree.AndParameter all specifiers declared) a f =
      RefusesParametersAt T void all a f
      ⊎ ((list : TypedParameters) × (k : Point) × IsReadAs erased_parameters made_by_parameters (AreParameters T void) all list a k
      × (RefusesSpecifiersAt T specifiers k f
      ⊎ ((t : TypedSpecifiers) × (m : Point) × IsReadAs erased_specifiers made_by_specifiers (AreSpecifiers T) specifiers t k m
      × (RefusesDeclaredAt T true declared m f
      ⊎ ((d : TypedDeclared) × (n : Point) × IsDeclaredAt T true declared d m n
      × ParameterFails T n.scopes void d (specified_type t) (specifiers_place specifiers) f)))))

  pub RefusesDeclaredAt : Table → (parameter : Bool) → tree.Declared → Point → Fault → Type 0
  RefusesDeclaredAt T parameter tree.NotDeclared a f = ⊥
  RefusesDeclaredAt T parameter (tree.DeclaredBy d) a f = RefusesDeclaratorAt T parameter d a f
