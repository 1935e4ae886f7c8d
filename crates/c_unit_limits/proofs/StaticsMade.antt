-- The objects that last in what is well typed are its literals, and what its own name declares: a literal has the size of its type.
use Rattle.std.proofs.Common.{◌≡◌, ℕ, ◌+◌, ◌*◌, Bool, List, [], ◌∷◌, ◌++◌, length, Option, Some, None, refl, ap, ◌∙◌, arith}
use Rattle.std.specs.List.{All}
use Rattle.std.proofs.lemmas.List.Elements.{All-nil, All-cons, All-append}
use Rattle.cc_base.specs.declared.number.TypeId.{TypeId}
use Rattle.c_types.specs.declared.layout.Layout.{Layout}
use Rattle.c_types.specs.declared.shape.TypeShape.{TypeShape}
use Rattle.c_types.specs.Layouts.{size_of, layout_of, layout_of_shape}
use Rattle.c_types.specs.Sound.{IsWellFormed}
use Rattle.c_types.specs.Table.{Table, shape_at, members_at}
use Rattle.c_types.proofs.Descent.{layout_is}
use Rattle.c_tree.specs.Literals.{pieces_bytes}
use Rattle.c_tree.specs.declared.leaf.StringPiece.{StringPiece}
use Rattle.c_tree.specs.declared.typed_word.Adjusted.{Adjusted}
use Rattle.c_tree.specs.declared.typed_word.Home.{Home}
use Rattle.c_tree.specs.declared.typed_word.Home.TheVariants as home
use Rattle.c_tree.specs.declared.typed_word.TypedStar.{TypedStar}
use Rattle.c_tree.specs.TypedTree as typed
use Rattle.c_tree.specs.TypedTree.{TypedExpr, TypedPlace, TypedArguments, TypedTypeName, TypedSpecifiers, TypedSpecifierList, TypedSpecifier, TypedMembers, TypedMemberDeclarators, TypedEnumerators, TypedForm, TypedCore, TypedParts, TypedParameters, TypedDeclared}
use Rattle.c_tree.specs.TypedParts.{Made, Written, Name, Address, Literal, specified_type, home_of_form, home_of_core, made_by, made_by_place, made_by_arguments, made_by_type_name, made_by_specifiers, made_by_specifier_list, made_by_specifier, made_by_members, made_by_member_declarators, made_by_enumerators, made_by_stars, made_by_adjusted, made_by_form, made_by_core, made_by_parts, made_by_parameters, made_by_declared, is_void_list}
use Rattle.c_typing.specs.Assignments.{literal_size, literal_cost}
use Rattle.c_typing.specs.Rules.{IsStringType}
use Rattle.c_typing.specs.Scopes.{Scopes, entering}
use Rattle.c_typing.specs.Typing.{IsTyped, IsPlace, AreTyped, IsTypeName, AreSpecifiers, AreListed, IsSpecifier, AreMembers, AreMemberDeclarators, AreEnumerators, IsForm, IsCore, AreParts, AreParameters, IsDeclared, DeclaresParameter, IsHomelessDeclared, enumerating}
use Rattle.c_unit_limits.specs.Literals.{literals_made, static_bytes, statics_made, own_bytes}
use Rattle.c_unit_limits.proofs.LiteralsMade.{literals-append}

-- a literal has the size of its type
abbrev pub IsLiteralSized : Table → Made → Type 0
IsLiteralSized T (Literal pieces home t) = size_of T t ≡ literal_size pieces
IsLiteralSized T made = Unit {0}

pub record AreSized (T : Table) (made : List Made) : Type 0 where
  pub each : All (IsLiteralSized T) made

-- what lasts is the literals, each of the size of its type, and n bytes more
pub record IsAlike (T : Table) (made : List Made) (n : ℕ) : Type 0 where
  pub same : statics_made T made ≡ literals_made made + n
  pub sized : AreSized T made

pub statics-append : (T : Table) (xs ys : List Made) → statics_made T (xs ++ ys) ≡ statics_made T xs + statics_made T ys
statics-append T [] ys = none (statics_made T ys)
  where
    none : (n : ℕ) → n ≡ 0 + n
    none n = omega arith
statics-append T (x ∷ xs) ys = ap (λ (n : ℕ). static_bytes T x + n) (statics-append T xs ys) ∙ apart (static_bytes T x) (statics_made T xs) (statics_made T ys)
  where
    apart : (a b c : ℕ) → a + (b + c) ≡ a + b + c
    apart a b c = omega arith

module _ (T : Table) where
  pub nothing-sized : AreSized T []
  nothing-sized = record { each = All-nil (IsLiteralSized T) }

  pub one-sized : (m : Made) → IsLiteralSized T m → AreSized T (m ∷ [])
  one-sized m h = record { each = All-cons (IsLiteralSized T) m [] h (All-nil (IsLiteralSized T)) }

  pub two-sized : {xs ys : List Made} → AreSized T xs → AreSized T ys → AreSized T (xs ++ ys)
  two-sized {xs} {ys} h k = record { each = All-append (IsLiteralSized T) xs ys h.each k.each }

  sized_by : (m : Made) → static_bytes T m ≡ literal_cost m → IsLiteralSized T m
  sized_by (Literal pieces home t) e = omega (arith, e)
  sized_by m e = tt

  pub alike-as : {xs : List Made} {m : ℕ} (n : ℕ) → m ≡ n → IsAlike T xs m → IsAlike T xs n
  alike-as {xs} n e h = record { same = h.same ∙ ap (λ (k : ℕ). literals_made xs + k) e; sized = h.sized }

  pub none : IsAlike T [] 0
  none = record { same = refl; sized = nothing-sized }

  pub alone : (m : Made) → static_bytes T m ≡ literal_cost m → IsAlike T (m ∷ []) 0
  alone m e = record { same = ap (λ (n : ℕ). n + 0) e ∙ more (literal_cost m + 0); sized = one-sized m (sized_by m e) }
    where
      more : (n : ℕ) → n ≡ n + 0
      more n = omega arith

  both : {xs ys : List Made} {m n : ℕ} → IsAlike T xs m → IsAlike T ys n → IsAlike T (xs ++ ys) (m + n)
  both {xs} {ys} {m} {n} h k = record {
    same =
        let p = h.same in
        let q = k.same in
        let s = statics-append T xs ys in
        let l = literals-append xs ys in
        omega (arith, p, q, s, l);
    sized = two-sized h.sized k.sized;
  }

  pub two : {xs ys : List Made} → IsAlike T xs 0 → IsAlike T ys 0 → IsAlike T (xs ++ ys) 0
  two h k = alike-as 0 refl (both h k)

  stars_alike : (stars : List TypedStar) → IsAlike T (made_by_stars stars) 0
  stars_alike [] = none
  stars_alike (s ∷ stars) = record {
    same = ap (λ (n : ℕ). 0 + n) (stars_alike stars).same ∙ apart (literals_made (made_by_stars stars));
    sized = record { each = All-cons (IsLiteralSized T) (Written s.star.place s.node) (made_by_stars stars) tt (stars_alike stars).sized.each };
  }
    where
      apart : (n : ℕ) → 0 + (n + 0) ≡ 0 + n + 0
      apart n = omega arith

  adjusted_alike : (o : Option Adjusted) → IsAlike T (made_by_adjusted o) 0
  adjusted_alike None = none
  adjusted_alike (Some adjusted) = alone (_) refl

  -- an array of characters has as many bytes as it has elements
  string_size : IsWellFormed T → (pieces : List StringPiece) (t : TypeId) → IsStringType T pieces t → size_of T t ≡ literal_size pieces
  string_size w pieces t h =
      let count : ℕ = length (pieces_bytes pieces) + 1 in
      let whole : size_of T t ≡ (layout_of_shape (layout_of T) (shape_at T t) (members_at T t)).size = ap (λ (l : Layout). l.size) (layout_is T w.order.0 w.order.1 t) in
      let array : (layout_of_shape (layout_of T) (shape_at T t) (members_at T t)).size ≡ count * size_of T h.element =
      ap (λ (x : TypeShape). (layout_of_shape (layout_of T) x (members_at T t)).size) h.shape.1 in
      let one : size_of T h.element ≡ 1 =
      ap (λ (l : Layout). l.size) (layout_is T w.order.0 w.order.1 h.element)
      ∙ ap (λ (x : TypeShape). (layout_of_shape (layout_of T) x (members_at T h.element)).size) h.char.1 in
      whole ∙ (array ∙ (ap (λ (n : ℕ). count * n) one ∙ times count))
    where
      times : (n : ℕ) → n * 1 ≡ n
      times n = omega arith

  homeless : (h : Home) (t : TypeId) → h ≡ home.None → own_bytes T h t ≡ 0
  homeless h t e = ap (λ (k : Home). own_bytes T k t) e

  parameter_own : (form : TypedForm) (t u : TypeId) (s s' : Scopes) → DeclaresParameter (typed.DeclaredBy form) u s s' → own_bytes T (home_of_form form) t ≡ 0
  parameter_own (typed.Form stars (typed.Names name (home.Parameter n)) parts) t u s s' h = refl
  parameter_own (typed.Form stars (typed.Names name other) parts) t u s s' h = absurd h
  parameter_own (typed.Form stars typed.Unnamed parts) t u s s' h = refl
  parameter_own (typed.Form stars (typed.Nested at form) parts) t u s s' h = parameter_own form t u s s' h

  core_own : (n m : ℕ) → (0 + n) + 0 ≡ n
  core_own n m = omega arith

module _ (T : Table) (w : IsWellFormed T) where
  mutual
    pub value-alike : (e : TypedExpr) (s s' : Scopes) → IsTyped T e s s' → IsAlike T (made_by e) 0
    value-alike (typed.Integer of value at t) s s' h = none T
    value-alike (typed.Character value at t) s s' h = none T
    value-alike (typed.Enumerator name value t) s s' h = none T
    value-alike (typed.FunctionName name number n t) s s' h = alone T (Address n) refl
    value-alike (typed.RuntimeName name function t) s s' h = none T
    value-alike (typed.Paren at e) s s' h = value-alike e s s' h.0
    value-alike (typed.Convert which at t e) s s' h = value-alike e s s' h.0
    value-alike (typed.AddressOfFunction at e) s s' h = value-alike e s s' h.0
    value-alike (typed.FunctionAt at e) s s' h = value-alike e s s' h.0
    value-alike (typed.Prefix operator at e t) s s' h = value-alike e s s' h.0
    value-alike (typed.SizeOfValue at e size t) s s' h = value-alike e s s' h.0
    value-alike (typed.Read p) s s' h = place-alike p s s' h.0
    value-alike (typed.Unread p) s s' h = place-alike p s s' h.0
    value-alike (typed.Decay p n t) s s' h = two T (place-alike p s s' h.0) (alone T (Address n) refl)
    value-alike (typed.AddressOf at p n t) s s' h = two T (place-alike p s s' h.0) (alone T (Address n) refl)
    value-alike (typed.AddressOfElement at p t) s s' h = place-alike p s s' h.0
    value-alike (typed.SizeOfPlace at p size t) s s' h = place-alike p s s' h.0
    value-alike (typed.StepBefore operator at p) s s' h = place-alike p s s' h.0
    value-alike (typed.StepAfter p operator at) s s' h = place-alike p s s' h.0
    value-alike (typed.Cast which at to e) s s' h = two T (type_name-alike to s h.0 h.1) (value-alike e h.0 s' h.2)
    value-alike (typed.SizeOfType at paren name size t) s s' h = type_name-alike name s s' h.0
    value-alike (typed.Arithmetic operator a at b t) s s' h = two T (value-alike a s h.0 h.1) (value-alike b h.0 s' h.2)
    value-alike (typed.Moved operator which a at b t) s s' h = two T (value-alike a s h.0 h.1) (value-alike b h.0 s' h.2)
    value-alike (typed.Difference a at b t) s s' h = two T (value-alike a s h.0 h.1) (value-alike b h.0 s' h.2)
    value-alike (typed.Compared operator a at b t) s s' h = two T (value-alike a s h.0 h.1) (value-alike b h.0 s' h.2)
    value-alike (typed.Logical operator a at b t) s s' h = two T (value-alike a s h.0 h.1) (value-alike b h.0 s' h.2)
    value-alike (typed.Comma a b) s s' h = two T (value-alike a s h.0 h.1) (value-alike b h.0 s' h.2)
    value-alike (typed.Conditional c at a b t) s s' h = two T (two T (value-alike c s h.0 h.2) (value-alike a h.0 h.1 h.3)) (value-alike b h.1 s' h.4)
    value-alike (typed.PointerConditional c at a b node t) s s' h =
        two T (two T (two T (value-alike c s h.0 h.2) (value-alike a h.0 h.1 h.3)) (value-alike b h.1 s' h.4)) (alone T (Address node) refl)
    value-alike (typed.Assign p at e) s s' h = two T (place-alike p s h.0 h.1) (value-alike e h.0 s' h.2)
    value-alike (typed.AssignWith operator p at e t) s s' h = two T (place-alike p s h.0 h.1) (value-alike e h.0 s' h.2)
    value-alike (typed.Call f at all t) s s' h = two T (value-alike f s h.0 h.1) (arguments-alike all h.0 s' h.2)
    value-alike (typed.CallRuntime function f at all t) s s' h = two T (value-alike f s h.0 h.1) (arguments-alike all h.0 s' h.2)
    value-alike (typed.Allocate function f at all node t) s s' h = two T (two T (value-alike f s h.0 h.1) (arguments-alike all h.0 s' h.2)) (alone T (Address node) refl)
    value-alike (typed.AllocateFor function f at all t) s s' h = two T (value-alike f s h.0 h.1) (arguments-alike all h.0 s' h.2)

    pub place-alike : (p : TypedPlace) (s s' : Scopes) → IsPlace T p s s' → IsAlike T (made_by_place p) 0
    place-alike (typed.Variable name home t) s s' h = none T
    place-alike (typed.String pieces home t) s s' h = alone T (Literal pieces home t) (ap (λ (n : ℕ). n + 16) (string_size T w pieces t h.1))
    place-alike (typed.ParenPlace at p) s s' h = place-alike p s s' h
    place-alike (typed.Target at e t) s s' h = value-alike e s s' h.0
    place-alike (typed.Element which a at b t) s s' h = two T (value-alike a s h.0 h.1) (value-alike b h.0 s' h.2)
    place-alike (typed.Member p at name i n t) s s' h = two T (place-alike p s s' h.0) (alone T (Address n) refl)
    place-alike (typed.MemberAt e at name i n t) s s' h = two T (value-alike e s s' h.0) (alone T (Address n) refl)
    place-alike (typed.StructAssign p at q) s s' h = two T (two T (place-alike p s h.0 h.1) (place-alike q h.0 s' h.2)) (alone T (_) refl)
    place-alike (typed.StructConditional c at p q) s s' h = two T (two T (value-alike c s h.0 h.2) (place-alike p h.0 h.1 h.3)) (place-alike q h.1 s' h.4)
    place-alike (typed.StructComma e p) s s' h = two T (value-alike e s h.0 h.1) (place-alike p h.0 s' h.2)

    arguments-alike : (all : TypedArguments) (s s' : Scopes) → AreTyped T all s s' → IsAlike T (made_by_arguments all) 0
    arguments-alike typed.NoArgument s s' h = none T
    arguments-alike (typed.AndArgument all e) s s' h = two T (arguments-alike all s h.0 h.1) (value-alike e h.0 s' h.2)

    type_name-alike : (name : TypedTypeName) (s s' : Scopes) → IsTypeName T name s s' → IsAlike T (made_by_type_name name) 0
    type_name-alike (typed.Named specifiers d t) s s' h = two T (specifiers-alike specifiers s h.0 h.1) (homeless-alike d t h.0 s' h.2 h.3)

    pub specifiers-alike : (all : TypedSpecifiers) (s s' : Scopes) → AreSpecifiers T all s s' → IsAlike T (made_by_specifiers all) 0
    specifiers-alike (typed.Specified list t) s s' h = listed-alike list s s' h.0

    listed-alike : (list : TypedSpecifierList) (s s' : Scopes) → AreListed T list s s' → IsAlike T (made_by_specifier_list list) 0
    listed-alike typed.NoSpecifier s s' h = none T
    listed-alike (typed.AndSpecifier all one) s s' h = two T (listed-alike all s h.0 h.1) (specifier-alike one h.0 s' h.2)

    specifier-alike : (one : TypedSpecifier) (s s' : Scopes) → IsSpecifier T one s s' → IsAlike T (made_by_specifier one) 0
    specifier-alike (typed.Keyword word) s s' h = none T
    specifier-alike (typed.Typedef name t) s s' h = none T
    specifier-alike (typed.Tagged which at name t) s s' h = none T
    specifier-alike (typed.Aggregate which at name brace members t) s s' h = members-alike members h.0 h.1 h.3
    specifier-alike (typed.Enum at name) s s' h = none T
    specifier-alike (typed.Enumeration at name brace all comma) s s' h = enumerators-alike all (enumerating name s) h.0 h.1

    members-alike : (all : TypedMembers) (s s' : Scopes) → AreMembers T all s s' → IsAlike T (made_by_members all) 0
    members-alike typed.NoMember s s' h = none T
    members-alike (typed.AndMember all specifiers d) s s' h =
        two T (two T (members-alike all s h.0 h.2) (specifiers-alike specifiers h.0 h.1 h.3)) (row-alike (specified_type specifiers) d h.1 s' h.4)

    row-alike : (base : TypeId) (all : TypedMemberDeclarators) (s s' : Scopes) → AreMemberDeclarators T base all s s' → IsAlike T (made_by_member_declarators all) 0
    row-alike base typed.NoDeclarator s s' h = none T
    row-alike base (typed.AndDeclarator all (typed.Declares form t)) s s' h =
        two T (row-alike base all s h.0 h.1) (alike-as T 0 (homeless T (home_of_form form) t h.3) (form-alike form t h.0 s' h.2))

    enumerators-alike : (all : TypedEnumerators) (s s' : Scopes) → AreEnumerators T all s s' → IsAlike T (made_by_enumerators all) 0
    enumerators-alike typed.NoEnumerator s s' h = none T
    enumerators-alike (typed.AndEnumerator all name value) s s' h = enumerators-alike all s h.0 h.1
    enumerators-alike (typed.AndValued all name at e value) s s' h = two T (enumerators-alike all s h.0 h.2) (value-alike e h.0 h.1 h.3)

    -- besides, the bytes of what its own name declares
    pub form-alike : (form : TypedForm) (t : TypeId) (s s' : Scopes) → IsForm T form s s' → IsAlike T (made_by_form form t) (own_bytes T (home_of_form form) t)
    form-alike (typed.Form stars core parts) t s s' h =
        alike-as T (own_bytes T (home_of_core core) t) (core_own T (own_bytes T (home_of_core core) t) 0)
        (both T (both T (stars_alike T stars) (core-alike core t s h.0 h.1)) (parts-alike parts h.0 s' h.2))

    core-alike : (core : TypedCore) (t : TypeId) (s s' : Scopes) → IsCore T core s s' → IsAlike T (made_by_core core t) (own_bytes T (home_of_core core) t)
    core-alike (typed.Names name home.None) t s s' h = alone T (_) refl
    core-alike (typed.Names name (home.Static n)) t s s' h = record { same = static_own (size_of T t + 16); sized = one-sized T (Name name (home.Static n) t) tt }
      where
        static_own : (n : ℕ) → n + 0 ≡ 0 + 0 + n
        static_own n = omega arith
    core-alike (typed.Names name (home.Local n)) t s s' h = alone T (_) refl
    core-alike (typed.Names name (home.Parameter n)) t s s' h = alone T (_) refl
    core-alike (typed.Names name (home.Known n)) t s s' h = alone T (_) refl
    core-alike typed.Unnamed t s s' h = none T
    core-alike (typed.Nested at form) t s s' h = form-alike form t s s' h

    parts-alike : (parts : TypedParts) (s s' : Scopes) → AreParts T parts s s' → IsAlike T (made_by_parts parts) 0
    parts-alike typed.NoPart s s' h = none T
    parts-alike (typed.AndArray all at words) s s' h = parts-alike all s s' h
    parts-alike (typed.AndSizedArray all at words e size) s s' h = two T (parts-alike all s h.0 h.1) (value-alike e h.0 s' h.2)
    parts-alike (typed.AndFunction all at ps) s s' h = two T (parts-alike all s h.0 h.2) (parameters-alike (is_void_list ps) ps (entering h.0) h.1 h.3)

    parameters-alike : (void : Bool) (all : TypedParameters) (s s' : Scopes) → AreParameters T void all s s' → IsAlike T (made_by_parameters all) 0
    parameters-alike void typed.NoParameter s s' h = none T
    parameters-alike void (typed.AndParameter all specifiers d adjusted t) s s' h =
        two T (two T (two T (parameters-alike void all s h.0 h.3) (specifiers-alike specifiers h.0 h.1 h.4)) (taken-alike d t h.1 h.2 s' h.5 h.9)) (adjusted_alike T adjusted)

    -- what a parameter declares lasts as long as a call
    taken-alike : (d : TypedDeclared) (t : TypeId) (s m s' : Scopes) → IsDeclared T d s m → DeclaresParameter d t m s' → IsAlike T (made_by_declared d t) 0
    taken-alike typed.NotDeclared t s m s' h k = none T
    taken-alike (typed.DeclaredBy form) t s m s' h k = alike-as T 0 (parameter_own T form t t m s' k) (form-alike form t s m h)

    homeless-alike : (d : TypedDeclared) (t : TypeId) (s s' : Scopes) → IsDeclared T d s s' → IsHomelessDeclared d → IsAlike T (made_by_declared d t) 0
    homeless-alike typed.NotDeclared t s s' h k = none T
    homeless-alike (typed.DeclaredBy form) t s s' h k = alike-as T 0 (homeless T (home_of_form form) t k) (form-alike form t s s' h)
