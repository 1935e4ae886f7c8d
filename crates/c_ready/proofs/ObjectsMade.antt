-- The objects that the parts of a tree make are of complete types: literals are, and no type name, member or parameter makes another.
use Rattle.std.specs.List.{All}
use Rattle.std.proofs.Common.{Bool, List, [], ◌∷◌, ◌++◌, Option, Some, None, ap, sym, subst}
use Rattle.std.proofs.lemmas.List.Elements.{All-nil, All-cons, All-append}
use Rattle.cc_base.specs.declared.number.NodeId.{NodeId}
use Rattle.cc_base.specs.declared.number.TypeId.{TypeId}
use Rattle.c_types.specs.declared.shape.TypeShape.{TypeShape}
use Rattle.c_types.specs.Table.{Table, IsType, IsComplete, members_at, is_complete_entry}
use Rattle.c_tree.specs.declared.leaf.StringPiece.{StringPiece}
use Rattle.c_tree.specs.declared.typed_word.Adjusted.{Adjusted}
use Rattle.c_tree.specs.declared.typed_word.Home.{Home}
use Rattle.c_tree.specs.declared.typed_word.Home.TheVariants as home
use Rattle.c_tree.specs.declared.typed_word.TypedStar.{TypedStar}
use Rattle.c_tree.specs.TypedTree as typed
use Rattle.c_tree.specs.TypedTree.{TypedExpr, TypedPlace, TypedArguments, TypedTypeName, TypedSpecifiers, TypedSpecifierList, TypedSpecifier, TypedMembers, TypedMemberDeclarators, TypedEnumerators, TypedForm, TypedCore, TypedParts, TypedParameters, TypedDeclared}
use Rattle.c_tree.specs.TypedParts.{Made, Written, Name, Literal, Address, Copy, place_type, specified_type, home_of_form, home_of_core, declared_home, made_by, made_by_place, made_by_arguments, made_by_type_name, made_by_specifiers, made_by_specifier_list, made_by_specifier, made_by_members, made_by_member_declarators, made_by_enumerators, made_by_form, made_by_core, made_by_parts, made_by_parameters, made_by_declared, made_by_adjusted, made_by_stars, is_void_list}
use Rattle.c_typing.specs.Rules.{IsStringType}
use Rattle.c_typing.specs.Scopes.{Scopes, entering}
use Rattle.c_typing.specs.Typing.{IsTyped, IsPlace, AreTyped, IsTypeName, AreSpecifiers, AreListed, IsSpecifier, AreMembers, AreMemberDeclarators, AreEnumerators, IsForm, IsCore, AreParts, AreParameters, IsDeclared, IsHomelessDeclared, DeclaresParameter, enumerating}

abbrev pub IsWholeIn : Table → TypeId → Type 0
IsWholeIn T t = IsType T t × IsComplete T t

-- the home of an object is that of one of a complete type
abbrev pub IsHomeWhole : Table → Home → TypeId → Type 0
IsHomeWhole T (home.Local n) t = IsWholeIn T t
IsHomeWhole T (home.Static n) t = IsWholeIn T t
IsHomeWhole T other t = Unit {0}

abbrev pub IsObjectWhole : Table → Made → Type 0
IsObjectWhole T (Name name home t) = IsHomeWhole T home t
IsObjectWhole T (Literal pieces home t) = IsStringType T pieces t
IsObjectWhole T m = Unit {0}

module _ (T : Table) where
  abbrev P : Made → Type 0
  P m = IsObjectWhole T m

  address : (n : NodeId) → All P (Address n ∷ [])
  address n = All-cons P (Address n) [] tt (All-nil P)

  pub copied : (t : TypeId) → All P (Copy t ∷ [])
  copied t = All-cons P (Copy t) [] tt (All-nil P)

  pub string-whole : (pieces : List StringPiece) (t : TypeId) → IsStringType T pieces t → IsWholeIn T t
  string-whole pieces t h = (h.shape.0, ap (λ (x : TypeShape). is_complete_entry x (members_at T t)) h.shape.1)

  stars-objects : (stars : List TypedStar) → All P (made_by_stars stars)
  stars-objects [] = All-nil P
  stars-objects (star ∷ stars) = All-cons P (Written star.star.place star.node) (made_by_stars stars) tt (stars-objects stars)

  adjusted-objects : (a : Option Adjusted) → All P (made_by_adjusted a)
  adjusted-objects None = All-nil P
  adjusted-objects (Some a) = All-cons P (Written a.place a.node) [] tt (All-nil P)

  homeless-declared : (d : TypedDeclared) (t : TypeId) → IsHomelessDeclared d → IsHomeWhole T (declared_home d) t
  homeless-declared typed.NotDeclared t h = tt
  homeless-declared (typed.DeclaredBy form) t h = subst (λ (x : Home). IsHomeWhole T x t) (sym h) tt

  form-homes : (form : TypedForm) (t : TypeId) (s s' : Scopes) → DeclaresParameter (typed.DeclaredBy form) t s s'
      → IsHomeWhole T (home_of_form form) t
  form-homes (typed.Form stars (typed.Names name (home.Parameter n)) parts) t s s' h = tt
  form-homes (typed.Form stars (typed.Names name other) parts) t s s' h = absurd h
  form-homes (typed.Form stars typed.Unnamed parts) t s s' h = tt
  form-homes (typed.Form stars (typed.Nested at form) parts) t s s' h = form-homes form t s s' h

  parameter-homes : (d : TypedDeclared) (t : TypeId) (s s' : Scopes) → DeclaresParameter d t s s' → IsHomeWhole T (declared_home d) t
  parameter-homes typed.NotDeclared t s s' h = tt
  parameter-homes (typed.DeclaredBy form) t s s' h = form-homes form t s s' h

  mutual
    pub value-objects : (e : TypedExpr) (s s' : Scopes) → IsTyped T e s s' → All P (made_by e)
    value-objects (typed.Integer of value at t) s s' h = All-nil P
    value-objects (typed.Character value at t) s s' h = All-nil P
    value-objects (typed.Enumerator name value t) s s' h = All-nil P
    value-objects (typed.RuntimeName name function t) s s' h = All-nil P
    value-objects (typed.FunctionName name number m t) s s' h = address m
    value-objects (typed.Paren at e) s s' h = value-objects e s s' h.0
    value-objects (typed.Convert which at t e) s s' h = value-objects e s s' h.0
    value-objects (typed.AddressOfFunction at e) s s' h = value-objects e s s' h.0
    value-objects (typed.FunctionAt at e) s s' h = value-objects e s s' h.0
    value-objects (typed.Prefix operator at e t) s s' h = value-objects e s s' h.0
    value-objects (typed.SizeOfValue at e size t) s s' h = value-objects e s s' h.0
    value-objects (typed.Read p) s s' h = place-objects p s s' h.0
    value-objects (typed.Unread p) s s' h = place-objects p s s' h.0
    value-objects (typed.AddressOfElement at p t) s s' h = place-objects p s s' h.0
    value-objects (typed.SizeOfPlace at p size t) s s' h = place-objects p s s' h.0
    value-objects (typed.StepBefore operator at p) s s' h = place-objects p s s' h.0
    value-objects (typed.StepAfter p operator at) s s' h = place-objects p s s' h.0
    value-objects (typed.Decay p m t) s s' h = All-append P (made_by_place p) (Address m ∷ []) (place-objects p s s' h.0) (address m)
    value-objects (typed.AddressOf at p m t) s s' h = All-append P (made_by_place p) (Address m ∷ []) (place-objects p s s' h.0) (address m)
    value-objects (typed.SizeOfType at paren name size t) s s' h = type_name-objects name s s' h.0
    value-objects (typed.Cast which at to e) s s' h =
        All-append P (made_by_type_name to) (made_by e) (type_name-objects to s h.0 h.1) (value-objects e h.0 s' h.2)
    value-objects (typed.Arithmetic operator a at b t) s s' h =
        All-append P (made_by a) (made_by b) (value-objects a s h.0 h.1) (value-objects b h.0 s' h.2)
    value-objects (typed.Moved operator which a at b t) s s' h =
        All-append P (made_by a) (made_by b) (value-objects a s h.0 h.1) (value-objects b h.0 s' h.2)
    value-objects (typed.Difference a at b t) s s' h = All-append P (made_by a) (made_by b) (value-objects a s h.0 h.1) (value-objects b h.0 s' h.2)
    value-objects (typed.Compared operator a at b t) s s' h =
        All-append P (made_by a) (made_by b) (value-objects a s h.0 h.1) (value-objects b h.0 s' h.2)
    value-objects (typed.Logical operator a at b t) s s' h =
        All-append P (made_by a) (made_by b) (value-objects a s h.0 h.1) (value-objects b h.0 s' h.2)
    value-objects (typed.Comma a b) s s' h = All-append P (made_by a) (made_by b) (value-objects a s h.0 h.1) (value-objects b h.0 s' h.2)
    value-objects (typed.Conditional c at a b t) s s' h =
        All-append P ((made_by c) ++ (made_by a)) (made_by b)
        (All-append P (made_by c) (made_by a) (value-objects c s h.0 h.2) (value-objects a h.0 h.1 h.3)) (value-objects b h.1 s' h.4)
    value-objects (typed.PointerConditional c at a b m t) s s' h =
        All-append P (((made_by c) ++ (made_by a)) ++ (made_by b)) (Address m ∷ [])
        (All-append P ((made_by c) ++ (made_by a)) (made_by b)
        (All-append P (made_by c) (made_by a) (value-objects c s h.0 h.2) (value-objects a h.0 h.1 h.3)) (value-objects b h.1 s' h.4)) (address m)
    value-objects (typed.Assign p at e) s s' h = All-append P (made_by_place p) (made_by e) (place-objects p s h.0 h.1) (value-objects e h.0 s' h.2)
    value-objects (typed.AssignWith operator p at e t) s s' h =
        All-append P (made_by_place p) (made_by e) (place-objects p s h.0 h.1) (value-objects e h.0 s' h.2)
    value-objects (typed.Call f at arguments t) s s' h =
        All-append P (made_by f) (made_by_arguments arguments) (value-objects f s h.0 h.1) (arguments-objects arguments h.0 s' h.2)
    value-objects (typed.CallRuntime function f at arguments t) s s' h =
        All-append P (made_by f) (made_by_arguments arguments) (value-objects f s h.0 h.1) (arguments-objects arguments h.0 s' h.2)
    value-objects (typed.AllocateFor function f at arguments t) s s' h =
        All-append P (made_by f) (made_by_arguments arguments) (value-objects f s h.0 h.1) (arguments-objects arguments h.0 s' h.2)
    value-objects (typed.Allocate function f at arguments m t) s s' h =
        All-append P ((made_by f) ++ (made_by_arguments arguments)) (Address m ∷ [])
        (All-append P (made_by f) (made_by_arguments arguments) (value-objects f s h.0 h.1) (arguments-objects arguments h.0 s' h.2)) (address m)

    pub place-objects : (p : TypedPlace) (s s' : Scopes) → IsPlace T p s s' → All P (made_by_place p)
    place-objects (typed.Variable name home t) s s' h = All-nil P
    place-objects (typed.String pieces home t) s s' h = All-cons P (Literal pieces home t) [] h.1 (All-nil P)
    place-objects (typed.ParenPlace at p) s s' h = place-objects p s s' h
    place-objects (typed.Target at e t) s s' h = value-objects e s s' h.0
    place-objects (typed.Element which a at b t) s s' h =
        All-append P (made_by a) (made_by b) (value-objects a s h.0 h.1) (value-objects b h.0 s' h.2)
    place-objects (typed.Member p at name i m t) s s' h = All-append P (made_by_place p) (Address m ∷ []) (place-objects p s s' h.0) (address m)
    place-objects (typed.MemberAt e at name i m t) s s' h = All-append P (made_by e) (Address m ∷ []) (value-objects e s s' h.0) (address m)
    place-objects (typed.StructAssign p at q) s s' h =
        All-append P ((made_by_place p) ++ (made_by_place q)) (Copy (place_type p) ∷ [])
        (All-append P (made_by_place p) (made_by_place q) (place-objects p s h.0 h.1) (place-objects q h.0 s' h.2)) (copied (place_type p))
    place-objects (typed.StructConditional c at p q) s s' h =
        All-append P ((made_by c) ++ (made_by_place p)) (made_by_place q)
        (All-append P (made_by c) (made_by_place p) (value-objects c s h.0 h.2) (place-objects p h.0 h.1 h.3)) (place-objects q h.1 s' h.4)
    place-objects (typed.StructComma e p) s s' h = All-append P (made_by e) (made_by_place p) (value-objects e s h.0 h.1) (place-objects p h.0 s' h.2)

    pub arguments-objects : (all : TypedArguments) (s s' : Scopes) → AreTyped T all s s' → All P (made_by_arguments all)
    arguments-objects typed.NoArgument s s' h = All-nil P
    arguments-objects (typed.AndArgument all e) s s' h =
        All-append P (made_by_arguments all) (made_by e) (arguments-objects all s h.0 h.1) (value-objects e h.0 s' h.2)

    pub type_name-objects : (name : TypedTypeName) (s s' : Scopes) → IsTypeName T name s s' → All P (made_by_type_name name)
    type_name-objects (typed.Named specifiers d t) s s' h =
        All-append P (made_by_specifiers specifiers) (made_by_declared d t) (specifiers-objects specifiers s h.0 h.1)
        (declared-objects d t h.0 s' h.2 (homeless-declared d t h.3))

    pub specifiers-objects : (all : TypedSpecifiers) (s s' : Scopes) → AreSpecifiers T all s s' → All P (made_by_specifiers all)
    specifiers-objects (typed.Specified list t) s s' h = listed-objects list s s' h.0

    pub listed-objects : (list : TypedSpecifierList) (s s' : Scopes) → AreListed T list s s' → All P (made_by_specifier_list list)
    listed-objects typed.NoSpecifier s s' h = All-nil P
    listed-objects (typed.AndSpecifier all one) s s' h =
        All-append P (made_by_specifier_list all) (made_by_specifier one) (listed-objects all s h.0 h.1) (specifier-objects one h.0 s' h.2)

    pub specifier-objects : (x : TypedSpecifier) (s s' : Scopes) → IsSpecifier T x s s' → All P (made_by_specifier x)
    specifier-objects (typed.Keyword word) s s' h = All-nil P
    specifier-objects (typed.Typedef name t) s s' h = All-nil P
    specifier-objects (typed.Tagged which at name t) s s' h = All-nil P
    specifier-objects (typed.Aggregate which at name brace members t) s s' h = members-objects members h.0 h.1 h.3
    specifier-objects (typed.Enum at name) s s' h = All-nil P
    specifier-objects (typed.Enumeration at name brace all comma) s s' h = enumerators-objects all (enumerating name s) h.0 h.1

    pub members-objects : (all : TypedMembers) (s s' : Scopes) → AreMembers T all s s' → All P (made_by_members all)
    members-objects typed.NoMember s s' h = All-nil P
    members-objects (typed.AndMember all specifiers ds) s s' h =
        All-append P (made_by_members all ++ made_by_specifiers specifiers) (made_by_member_declarators ds)
        (All-append P (made_by_members all) (made_by_specifiers specifiers) (members-objects all s h.0 h.2)
        (specifiers-objects specifiers h.0 h.1 h.3)) (member_declarators-objects (specified_type specifiers) ds h.1 s' h.4)

    pub member_declarators-objects : (base : TypeId) (all : TypedMemberDeclarators) (s s' : Scopes) → AreMemberDeclarators T base all s s'
        → All P (made_by_member_declarators all)
    member_declarators-objects base typed.NoDeclarator s s' h = All-nil P
    member_declarators-objects base (typed.AndDeclarator all (typed.Declares form t)) s s' h =
        All-append P (made_by_member_declarators all) (made_by_form form t) (member_declarators-objects base all s h.0 h.1)
        (form-objects form t h.0 s' h.2 (subst (λ (x : Home). IsHomeWhole T x t) (sym h.3) tt))

    pub enumerators-objects : (all : TypedEnumerators) (s s' : Scopes) → AreEnumerators T all s s' → All P (made_by_enumerators all)
    enumerators-objects typed.NoEnumerator s s' h = All-nil P
    enumerators-objects (typed.AndEnumerator all name value) s s' h = enumerators-objects all s h.0 h.1
    enumerators-objects (typed.AndValued all name at e value) s s' h =
        All-append P (made_by_enumerators all) (made_by e) (enumerators-objects all s h.0 h.2) (value-objects e h.0 h.1 h.3)

    pub form-objects : (form : TypedForm) (t : TypeId) (s s' : Scopes) → IsForm T form s s' → IsHomeWhole T (home_of_form form) t
        → All P (made_by_form form t)
    form-objects (typed.Form stars core parts) t s s' h q = All-append P (made_by_stars stars ++ made_by_core core t) (made_by_parts parts)
        (All-append P (made_by_stars stars) (made_by_core core t) (stars-objects stars) (core-objects core t s h.0 h.1 q))
        (parts-objects parts h.0 s' h.2)

    pub core-objects : (core : TypedCore) (t : TypeId) (s s' : Scopes) → IsCore T core s s' → IsHomeWhole T (home_of_core core) t
        → All P (made_by_core core t)
    core-objects (typed.Names name home) t s s' h q = All-cons P (Name name home t) [] q (All-nil P)
    core-objects typed.Unnamed t s s' h q = All-nil P
    core-objects (typed.Nested at form) t s s' h q = form-objects form t s s' h q

    pub parts-objects : (parts : TypedParts) (s s' : Scopes) → AreParts T parts s s' → All P (made_by_parts parts)
    parts-objects typed.NoPart s s' h = All-nil P
    parts-objects (typed.AndArray all at words) s s' h = parts-objects all s s' h
    parts-objects (typed.AndSizedArray all at words e size) s s' h =
        All-append P (made_by_parts all) (made_by e) (parts-objects all s h.0 h.1) (value-objects e h.0 s' h.2)
    parts-objects (typed.AndFunction all at ps) s s' h =
        All-append P (made_by_parts all) (made_by_parameters ps) (parts-objects all s h.0 h.2)
        (parameters-objects (is_void_list ps) ps (entering h.0) h.1 h.3)

    pub parameters-objects : (void : Bool) (all : TypedParameters) (s s' : Scopes) → AreParameters T void all s s' → All P (made_by_parameters all)
    parameters-objects void typed.NoParameter s s' h = All-nil P
    parameters-objects void (typed.AndParameter all specifiers d adjusted t) s s' h =
        All-append P (made_by_parameters all ++ made_by_specifiers specifiers ++ made_by_declared d t) (made_by_adjusted adjusted)
        (All-append P (made_by_parameters all ++ made_by_specifiers specifiers) (made_by_declared d t)
        (All-append P (made_by_parameters all) (made_by_specifiers specifiers) (parameters-objects void all s h.0 h.3)
        (specifiers-objects specifiers h.0 h.1 h.4))
        (declared-objects d t h.1 h.2 h.5 (parameter-homes d t h.2 s' h.9))) (adjusted-objects adjusted)

    pub declared-objects : (d : TypedDeclared) (t : TypeId) (s s' : Scopes) → IsDeclared T d s s' → IsHomeWhole T (declared_home d) t
        → All P (made_by_declared d t)
    declared-objects typed.NotDeclared t s s' h q = All-nil P
    declared-objects (typed.DeclaredBy form) t s s' h q = form-objects form t s s' h q
