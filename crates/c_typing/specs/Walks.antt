-- Judging, by one recursion over the tree: an expression, and what it holds of declarations. Parts are judged in the order of the text; what
-- each of them makes, and where it stops, is said in `Operations`, `Assignments`, `Specifying` and `Declaring`.
use Rattle.std.specs.Prelude.{ℕ, Bool, true, false, List, [], ◌∷◌, ◌++◌, Option, Some, None}
use Rattle.cc_base.specs.declared.place.Place.{Place}
use Rattle.cc_base.specs.declared.number.TypeId.{TypeId}
use Rattle.cc_base.specs.declared.fault.Fault.TheVariants.{TooLarge}
use Rattle.cc_base.specs.declared.fault.Limit.TheVariants.{Types}
use Rattle.c_types.specs.Table.{shape_at}
use Rattle.c_tree.specs.declared.operator.Assignment.TheVariants as assignment
use Rattle.c_tree.specs.declared.operator.MemberOperator.TheVariants as member
use Rattle.c_tree.specs.Places.{nowhere, specifiers_place}
use Rattle.c_tree.specs.Tree as tree
use Rattle.c_tree.specs.TypedTree as typed
use Rattle.c_tree.specs.TypedTree.{TypedTypeName, TypedSpecifiers, TypedSpecifierList, TypedSpecifier, TypedMembers, TypedMemberDeclarators, TypedEnumerators, TypedDeclarator, TypedForm, TypedCore, TypedParts, TypedParameters, TypedDeclared}
use Rattle.c_tree.specs.TypedParts.{specified_type}
use Rattle.c_typing.specs.declared.naming.Naming.{Naming}
use Rattle.c_typing.specs.declared.naming.Naming.TheVariants as naming
use Rattle.c_typing.specs.Scopes.{Name}
use Rattle.c_typing.specs.Declarators.{Counted, Outermost, Written, Counts, counted, declarator_names, member_names}
use Rattle.c_typing.specs.Refusals.{name_place, is_void_alone}
use Rattle.c_typing.specs.Judging.{Judging, pure, stop, by_known, ◌>>=◌}
use Rattle.c_typing.specs.Operands.{Operand, Value, value}
use Rattle.c_typing.specs.Operations as operations
use Rattle.c_typing.specs.Assignments as assignments
use Rattle.c_typing.specs.Specifying as specifying
use Rattle.c_typing.specs.Declaring as declaring
use Rattle.c_typing.specs.Declaring.{Derived, NotDerived}

-- no tree that the parser gives has this
abbrev never : {A : Type 0} → Judging A
never = stop (TooLarge nowhere Types)

-- the place at which the type of a declarator is named
abbrev pub declared_place : tree.Specifiers → tree.Declared → Place
declared_place specifiers d = name_place (declaring.declared_name d) (specifiers_place specifiers)

abbrev pub listed : TypedSpecifierList → TypeId
listed list = specified_type (specifying.specified list)

unfoldable mutual
  -- an expression; `called` says that it is what a call calls
  pub judge : (called : Bool) → tree.Expr → Judging Operand
  judge called (tree.Name name) = assignments.name called name
  judge called (tree.Integer of number at) = operations.integer of number at
  judge called (tree.Character number at) = operations.character number at
  judge called (tree.String pieces) = assignments.literal pieces
  judge called (tree.Paren at e) = judge called e >>= operations.paren at
  judge called (tree.Index a at b) = do
    x ← judge false a >>= value
    y ← judge false b >>= value
    operations.index x at y
  judge called (tree.Call f at arguments) = do
    x ← judge true f
    g ← value x
    values ← judge_arguments arguments
    assignments.call g at values
  judge called (tree.Member e member.Dot at name) = do
    x ← judge false e
    operations.member x at name
  judge called (tree.Member e member.Arrow at name) = do
    x ← judge false e >>= value
    operations.pointed_member x at name
  judge called (tree.Postfix e step at) = judge false e >>= operations.step_after step at
  judge called (tree.Prefix operator at e) = judge false e >>= operations.prefix operator at
  judge called (tree.SizeOfType at paren name) = judge_type_name name >>= assignments.size_of_type at paren
  judge called (tree.Cast at name e) = do
    to ← judge_type_name name
    x ← judge false e
    assignments.cast at to x
  judge called (tree.Infix operator a at b) = do
    x ← judge false a >>= value
    y ← judge false b >>= value
    operations.infix_of operator x at y
  judge called (tree.Conditional c at a b) = do
    z ← judge false c >>= value
    x ← judge false a >>= value
    y ← judge false b >>= value
    assignments.choice z at x y
  judge called (tree.Assign assignment.Assign a at b) = do
    x ← judge false a
    y ← judge false b
    assignments.assign x at y
  judge called (tree.Assign operator a at b) = do
    x ← judge false a
    y ← judge false b >>= value
    assignments.update_by operator x at y
  judge called (tree.Comma a b) = do
    x ← judge false a >>= value
    y ← judge false b >>= value
    assignments.comma x y
  judge called (tree.Compound at name brace) = never
  judge called (tree.SizeOfCompound at paren name brace) = never

  pub judge_arguments : tree.Arguments → Judging (List Value)
  judge_arguments tree.NoArgument = pure []
  judge_arguments (tree.AndArgument all e) = do
    values ← judge_arguments all
    v ← judge false e >>= value
    pure (values ++ v ∷ [])

  pub judge_type_name : tree.TypeName → Judging TypedTypeName
  judge_type_name (tree.Named specifiers d) = do
    list ← judge_list specifiers
    one ← judge_declared naming.None (declared_place specifiers d) d
    t ← declaring.declared_makes (declared_place specifiers d) Written one (listed list)
    pure (typed.Named (specifying.specified list) one t)

  pub judge_list : tree.Specifiers → Judging TypedSpecifierList
  judge_list tree.NoSpecifier = pure typed.NoSpecifier
  judge_list (tree.AndSpecifier all specifier) = do
    list ← judge_list all
    one ← judge_specifier (counted list) specifier
    pure (typed.AndSpecifier list one)

  -- `before` counts the specifiers before it
  pub judge_specifier : (before : Counted) → tree.Specifier → Judging TypedSpecifier
  judge_specifier before (tree.Keyword word) = specifying.word before word
  judge_specifier before (tree.Typedef name) = specifying.typedef_name before name
  judge_specifier before (tree.Tagged which at name) = specifying.tagged before which at name
  judge_specifier before (tree.Aggregate which at name brace members) = do
    t ← specifying.begun which at name
    rows ← judge_members members
    specifying.ended before which at name brace t rows
  judge_specifier before (tree.Enum at name) = specifying.enum_tag before at name
  judge_specifier before (tree.Enumeration at name brace all comma) = do
    begun ← specifying.enumeration_begun name
    list ← judge_enumerators all
    specifying.enumeration before at name brace list comma

  pub judge_members : tree.Members → Judging TypedMembers
  judge_members tree.NoMember = pure typed.NoMember
  judge_members (tree.AndMember all specifiers declarators) = do
    rows ← judge_members all
    list ← judge_list specifiers
    row ← judge_member_declarators (listed list) (member_names rows) declarators
    pure (typed.AndMember rows (specifying.specified list) row)

  -- `names` are those of the rows before
  pub judge_member_declarators : TypeId → (names : List Name) → tree.MemberDeclarators → Judging TypedMemberDeclarators
  judge_member_declarators base names tree.NoDeclarator = pure typed.NoDeclarator
  judge_member_declarators base names (tree.AndDeclarator all d) = do
    row ← judge_member_declarators base names all
    form ← judge_form naming.None (name_place (declaring.declarator_name d) nowhere) d
    declaring.member_named (names ++ declarator_names row) row form base (declaring.declarator_name d)
  judge_member_declarators base names (tree.AndBitField all d) = never
  judge_member_declarators base names (tree.AndUnnamedBitField all) = never

  pub judge_enumerators : tree.Enumerators → Judging TypedEnumerators
  judge_enumerators tree.NoEnumerator = pure typed.NoEnumerator
  judge_enumerators (tree.AndEnumerator all name) = do
    list ← judge_enumerators all
    specifying.enumerator list name
  judge_enumerators (tree.AndValued all name at e) = do
    list ← judge_enumerators all
    v ← judge false e >>= value
    specifying.valued_enumerator list name at v

  -- what stands in a declarator, whose name is to be this and whose type is named at the place
  pub judge_form : Naming → Place → tree.Declarator → Judging TypedForm
  judge_form which at (tree.Declares stars core parts) = do
    list ← declaring.stars_with_nodes at stars
    one ← judge_core which at core
    all ← judge_parts at parts
    pure (typed.Form list one all)

  pub judge_core : Naming → Place → tree.Core → Judging TypedCore
  judge_core which at (tree.Names name) = do
    home ← declaring.home_as at which
    pure (typed.Names name home)
  judge_core which at tree.Unnamed = pure typed.Unnamed
  judge_core which at (tree.Nested paren d) = do
    form ← judge_form which at d
    pure (typed.Nested paren form)

  pub judge_parts : Place → tree.Parts → Judging TypedParts
  judge_parts at tree.NoPart = pure typed.NoPart
  judge_parts at (tree.AndArray all bracket words) = do
    parts ← judge_parts at all
    pure (typed.AndArray parts bracket words)
  judge_parts at (tree.AndSizedArray all bracket words e) = do
    parts ← judge_parts at all
    v ← judge false e >>= value
    declaring.sized parts bracket words v
  judge_parts at (tree.AndFunction all paren parameters) = do
    parts ← judge_parts at all
    in_prototype ← declaring.entered
    list ← declaring.stopping_outside (judge_parameters (is_void_alone parameters) parameters)
    whole ← declaring.left at list
    pure (typed.AndFunction parts paren whole)

  -- `void` says that the list is `(void)`
  pub judge_parameters : (void : Bool) → tree.Parameters → Judging TypedParameters
  judge_parameters void tree.NoParameter = pure typed.NoParameter
  judge_parameters void (tree.AndParameter all specifiers d) = do
    list ← judge_parameters void all
    own ← judge_list specifiers
    one ← judge_declared naming.Parameter (declared_place specifiers d) d
    declaring.parameter void (declared_place specifiers d) (λ base. declaring.adjusted_at (declaring.derived_by_declared d) base (declaring.typedef_place specifiers)) list (specifying.specified own) one

  pub judge_declared : Naming → Place → tree.Declared → Judging TypedDeclared
  judge_declared which at tree.NotDeclared = pure typed.NotDeclared
  judge_declared which at (tree.DeclaredBy d) = do
    form ← judge_form which at d
    pure (typed.DeclaredBy form)

-- parameters in a scope of their own
unfoldable pub judge_prototype : Place → tree.Parameters → Judging TypedParameters
judge_prototype at parameters = do
  in_prototype ← declaring.entered
  list ← declaring.stopping_outside (judge_parameters (is_void_alone parameters) parameters)
  declaring.left at list

-- Specifiers that no declarator follows (C99 6.7.2.3)
abbrev pub judge_alone_list : tree.Specifiers → Judging TypedSpecifierList
judge_alone_list (tree.AndSpecifier tree.NoSpecifier (tree.Tagged which at name)) = do
  one ← specifying.tagged_alone which at name
  pure (typed.AndSpecifier typed.NoSpecifier one)
judge_alone_list specifiers = judge_list specifiers

-- an expression whose value is taken
unfoldable pub judge_value : tree.Expr → Judging Value
judge_value e = judge false e >>= value

unfoldable pub judge_specifiers : tree.Specifiers → Judging TypedSpecifiers
judge_specifiers specifiers = do
  list ← judge_list specifiers
  pure (specifying.specified list)

unfoldable pub judge_specifiers_of : (alone : Bool) → tree.Specifiers → Judging TypedSpecifiers
judge_specifiers_of false specifiers = judge_specifiers specifiers
judge_specifiers_of true specifiers = do
  list ← judge_alone_list specifiers
  pure (specifying.specified list)

-- A declarator behind specifiers of the type `base`: its name is to be this, unless it is a function. `size` is what an initialiser gives to
-- the array part that stands nearest to the name.
abbrev pub outermost_of : Option ℕ → Outermost
outermost_of None = Written
outermost_of (Some count) = Counts count

unfoldable pub judge_declarator_at : Place → Naming → TypeId → Option ℕ → tree.Declarator → Judging TypedDeclarator
judge_declarator_at at which base size d = do
  form ← by_known (λ s. judge_form (declaring.unless_function (declaring.is_function_by (declaring.derived_by d NotDerived) (shape_at s.table base)) which) at d)
  t ← declaring.form_makes at (outermost_of size) form base
  pure (typed.Declares form t)

abbrev pub judge_declarator : Naming → TypedSpecifiers → Option ℕ → tree.Declarator → Judging TypedDeclarator
judge_declarator which base size d = judge_declarator_at (name_place (declaring.declarator_name d) nowhere) which (specified_type base) size d
