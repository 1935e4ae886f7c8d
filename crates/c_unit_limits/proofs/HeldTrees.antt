-- Each expression that is judged holds no more than 256 values, and so do those in it; what is known is kept: by one recursion over the tree.
use Rattle.std.proofs.Common.{ℕ, ◌+◌, max, Bool, true, false, List, []}
use Rattle.cc_base.specs.declared.fault.Fault.TheVariants.{TooLarge}
use Rattle.cc_base.specs.declared.fault.Limit.TheVariants.{Types}
use Rattle.cc_base.specs.declared.number.TypeId.{TypeId}
use Rattle.cc_base.specs.declared.place.Place.{Place}
use Rattle.c_tree.specs.declared.operator.Assignment.{Assignment}
use Rattle.c_tree.specs.declared.operator.Assignment.TheVariants as assignment
use Rattle.c_tree.specs.declared.operator.MemberOperator.TheVariants as member
use Rattle.c_tree.specs.Places.{nowhere}
use Rattle.c_tree.specs.Tree as tree
use Rattle.c_typing.specs.declared.naming.Naming.{Naming}
use Rattle.c_typing.specs.declared.naming.Naming.TheVariants as naming
use Rattle.c_typing.specs.Assignments.{update_by}
use Rattle.c_typing.specs.Declarators.{Counted, counted, Written}
use Rattle.c_typing.specs.Declaring.{declarator_name}
use Rattle.c_typing.specs.Judging.{Judging, ◌>>=◌}
use Rattle.c_typing.specs.Operands.{Operand, value}
use Rattle.c_typing.specs.Refusals.{is_void_alone}
use Rattle.c_typing.specs.Scopes.{Name}
use Rattle.c_typing.specs.Walks.{declared_place, judge, judge_arguments, judge_type_name, judge_list, judge_specifier, judge_members, judge_member_declarators, judge_enumerators, judge_form, judge_core, judge_parts, judge_parameters, judge_declared}
use Rattle.c_unit_typing.specs.Holding.{expr_holds, arguments_holds, type_name_holds, specifiers_holds, specifier_holds, members_holds, member_declarators_holds, enumerators_holds, declarator_holds, core_holds, parts_holds, parameters_holds, declared_holds}
use Rattle.c_unit_limits.specs.Literals.{expr_literals, arguments_literals, type_name_literals, specifiers_literals, specifier_literals, members_literals, member_declarators_literals, enumerators_literals, declarator_literals, core_literals, parts_literals, parameters_literals, declared_literals}
use Rattle.c_unit_limits.proofs.Kept.{pure-kept, bind-kept}
use Rattle.c_unit_limits.proofs.KeptTypes.{entered-kept, left-kept}
use Rattle.c_unit_limits.proofs.KeptConstructs.{value-kept, integer-fit, character-fit, paren-fit, step_after-fit, prefix-fit, index-fit, infix-fit, member-fit, pointed-fit}
use Rattle.c_unit_limits.proofs.KeptAssignments.{assign-fit, update-fit, choice-fit, comma-fit, cast-fit, size_of_type-fit, call-fit, name-fit}
use Rattle.c_unit_limits.proofs.KeptDeclarators.{word-kept, typedef_name-kept, tagged-kept, begun-kept, ended-kept, enum_tag-kept, enumerator-kept, valued-kept, enumeration_begun-kept, enumeration-kept, home_as-kept, stars-kept, sized-kept, declared_makes-kept, member_named-kept, parameter-kept}
use Rattle.c_unit_limits.proofs.HeldSteps.{IsHeld, bind-held, kept-held, first-held, last-held, stop-held, IsWhole, bind-whole, then-whole, after-whole, fit-whole, literal-whole, expr-whole, expr-alone, outside-held}

-- the value of an expression
value_held : {p : Judging Operand} {n w : ℕ} → IsHeld p n w → IsHeld (p >>= value) n w
value_held h = first-held h (λ x. value-kept x)

update_held : (operator : Assignment) (a : tree.Expr) (at : Place) (b : tree.Expr) → IsHeld (judge false a) (expr_holds a) (expr_literals a) → IsHeld (judge false b) (expr_holds b) (expr_literals b)
    → IsWhole (judge false a >>= (λ x. (judge false b >>= value) >>= (λ y. update_by operator x at y))) (max (expr_holds a) (expr_holds b)) (expr_literals a + expr_literals b)
update_held operator a at b ja jb = bind-whole ja (λ x. then-whole (value_held jb) (λ y. update-fit operator x at y))

mutual
  unfolding judge judge_arguments judge_type_name judge_list judge_specifier judge_members judge_member_declarators judge_enumerators judge_form judge_core judge_parts judge_parameters judge_declared

  pub expr-held : (e : tree.Expr) (called : Bool) → IsHeld (judge called e) (expr_holds e) (expr_literals e)
  expr-held (tree.Name word) called = expr-alone called (tree.Name word) (fit-whole (name-fit called word))
  expr-held (tree.Integer of n at) called = expr-alone called (tree.Integer of n at) (fit-whole (integer-fit of n at))
  expr-held (tree.Character n at) called = expr-alone called (tree.Character n at) (fit-whole (character-fit n at))
  expr-held (tree.String pieces) called = expr-alone called (tree.String pieces) (literal-whole pieces)
  expr-held (tree.Paren at e) called = expr-whole called (tree.Paren at e) (then-whole (expr-held e called) (λ x. paren-fit at x))
  expr-held (tree.Index a at b) called = expr-whole called (tree.Index a at b)
      (bind-whole (value_held (expr-held a false)) (λ x. then-whole (value_held (expr-held b false)) (λ y. index-fit x at y)))
  expr-held (tree.Call f at all) called = expr-whole called (tree.Call f at all)
      (bind-whole (expr-held f true) (λ x. after-whole (value-kept x) (λ g. then-whole (arguments-held all) (λ values. call-fit g at values))))
  expr-held (tree.Member e member.Dot at name) called = expr-whole called (tree.Member e member.Dot at name)
      (then-whole (expr-held e false) (λ x. member-fit x at name))
  expr-held (tree.Member e member.Arrow at name) called = expr-whole called (tree.Member e member.Arrow at name)
      (then-whole (value_held (expr-held e false)) (λ x. pointed-fit x at name))
  expr-held (tree.Postfix e operator at) called = expr-whole called (tree.Postfix e operator at)
      (then-whole (expr-held e false) (λ x. step_after-fit operator at x))
  expr-held (tree.Prefix operator at e) called = expr-whole called (tree.Prefix operator at e) (then-whole (expr-held e false) (λ x. prefix-fit operator at x))
  expr-held (tree.SizeOfType at paren name) called = expr-whole called (tree.SizeOfType at paren name)
      (then-whole (type_name-held name) (λ t. size_of_type-fit at paren t))
  expr-held (tree.Cast at name e) called = expr-whole called (tree.Cast at name e)
      (bind-whole (type_name-held name) (λ to. then-whole (expr-held e false) (λ x. cast-fit at to x)))
  expr-held (tree.Infix operator a at b) called = expr-whole called (tree.Infix operator a at b)
      (bind-whole (value_held (expr-held a false)) (λ x. then-whole (value_held (expr-held b false)) (λ y. infix-fit operator x at y)))
  expr-held (tree.Conditional c at a b) called = expr-whole called (tree.Conditional c at a b)
      (bind-whole (value_held (expr-held c false)) (λ z.
      bind-whole (value_held (expr-held a false)) (λ x. then-whole (value_held (expr-held b false)) (λ y. choice-fit z at x y))))
  expr-held (tree.Assign assignment.Assign a at b) called = expr-whole called (tree.Assign assignment.Assign a at b)
      (bind-whole (expr-held a false) (λ x. then-whole (expr-held b false) (λ y. assign-fit x at y)))
  expr-held (tree.Assign operator a at b) called = expr-whole called (tree.Assign operator a at b)
      (update_held operator a at b (expr-held a false) (expr-held b false))
  expr-held (tree.Comma a b) called = expr-whole called (tree.Comma a b)
      (bind-whole (value_held (expr-held a false)) (λ x. then-whole (value_held (expr-held b false)) (λ y. comma-fit x y)))
  expr-held (tree.Compound at name brace) called = stop-held (TooLarge nowhere Types) (_) (_)
  expr-held (tree.SizeOfCompound at paren name brace) called = stop-held (TooLarge nowhere Types) (_) (_)

  arguments-held : (all : tree.Arguments) → IsHeld (judge_arguments all) (arguments_holds all) (arguments_literals all)
  arguments-held tree.NoArgument = kept-held (pure-kept [])
  arguments-held (tree.AndArgument all e) = bind-held (arguments-held all) (λ values. first-held (value_held (expr-held e false)) (λ v. pure-kept (_)))

  type_name-held : (name : tree.TypeName) → IsHeld (judge_type_name name) (type_name_holds name) (type_name_literals name)
  type_name-held (tree.Named specifiers d) =
      bind-held (specifiers-held specifiers) (λ list. first-held (declared-held d naming.None (declared_place specifiers d)) (λ one.
      bind-kept (declared_makes-kept (declared_place specifiers d) Written one (_)) (λ t. pure-kept (_))))

  pub specifiers-held : (all : tree.Specifiers) → IsHeld (judge_list all) (specifiers_holds all) (specifiers_literals all)
  specifiers-held tree.NoSpecifier = kept-held (pure-kept (_))
  specifiers-held (tree.AndSpecifier all one) =
      bind-held (specifiers-held all) (λ list. first-held (specifier-held one (counted list)) (λ s. pure-kept (_)))

  specifier-held : (one : tree.Specifier) (before : Counted) → IsHeld (judge_specifier before one) (specifier_holds one) (specifier_literals one)
  specifier-held (tree.Keyword w) before = kept-held (word-kept before w)
  specifier-held (tree.Typedef name) before = kept-held (typedef_name-kept before name)
  specifier-held (tree.Tagged which at name) before = kept-held (tagged-kept before which at name)
  specifier-held (tree.Aggregate which at name brace members) before =
      last-held (begun-kept which at name) (λ t. first-held (members-held members) (λ rows. ended-kept before which at name brace t rows))
  specifier-held (tree.Enum at name) before = kept-held (enum_tag-kept before at name)
  specifier-held (tree.Enumeration at name brace all comma) before =
      last-held (enumeration_begun-kept name) (λ begun. first-held (enumerators-held all) (λ list. enumeration-kept before at name brace list comma))

  members-held : (all : tree.Members) → IsHeld (judge_members all) (members_holds all) (members_literals all)
  members-held tree.NoMember = kept-held (pure-kept (_))
  members-held (tree.AndMember all specifiers declarators) =
      bind-held (members-held all) (λ rows. bind-held (specifiers-held specifiers) (λ list.
      first-held (member_declarators-held declarators (_) (_)) (λ row. pure-kept (_))))

  member_declarators-held : (all : tree.MemberDeclarators) (base : TypeId) (names : List Name) → IsHeld (judge_member_declarators base names all) (member_declarators_holds all) (member_declarators_literals all)
  member_declarators-held tree.NoDeclarator base names = kept-held (pure-kept (_))
  member_declarators-held (tree.AndDeclarator all d) base names =
      bind-held (member_declarators-held all base names) (λ row. first-held (declarator-held d naming.None (_)) (λ form.
      member_named-kept (_) row form base (declarator_name d)))
  member_declarators-held (tree.AndBitField all d) base names = stop-held (TooLarge nowhere Types) (_) (_)
  member_declarators-held (tree.AndUnnamedBitField all) base names = stop-held (TooLarge nowhere Types) (_) (_)

  enumerators-held : (all : tree.Enumerators) → IsHeld (judge_enumerators all) (enumerators_holds all) (enumerators_literals all)
  enumerators-held tree.NoEnumerator = kept-held (pure-kept (_))
  enumerators-held (tree.AndEnumerator all name) = first-held (enumerators-held all) (λ list. enumerator-kept list name)
  enumerators-held (tree.AndValued all name at e) =
      bind-held (enumerators-held all) (λ list. first-held (value_held (expr-held e false)) (λ v. valued-kept list name at v))

  pub declarator-held : (d : tree.Declarator) (which : Naming) (at : Place) → IsHeld (judge_form which at d) (declarator_holds d) (declarator_literals d)
  declarator-held (tree.Declares stars core parts) which at =
      last-held (stars-kept at stars) (λ list. bind-held (core-held core which at) (λ one. first-held (parts-held parts at) (λ all. pure-kept (_))))

  core-held : (core : tree.Core) (which : Naming) (at : Place) → IsHeld (judge_core which at core) (core_holds core) (core_literals core)
  core-held (tree.Names name) which at = kept-held (bind-kept (home_as-kept at which) (λ home. pure-kept (_)))
  core-held tree.Unnamed which at = kept-held (pure-kept (_))
  core-held (tree.Nested paren d) which at = first-held (declarator-held d which at) (λ form. pure-kept (_))

  parts-held : (all : tree.Parts) (at : Place) → IsHeld (judge_parts at all) (parts_holds all) (parts_literals all)
  parts-held tree.NoPart at = kept-held (pure-kept (_))
  parts-held (tree.AndArray all bracket words) at = first-held (parts-held all at) (λ parts. pure-kept (_))
  parts-held (tree.AndSizedArray all bracket words e) at =
      bind-held (parts-held all at) (λ parts. first-held (value_held (expr-held e false)) (λ v. sized-kept parts bracket words v))
  parts-held (tree.AndFunction all paren parameters) at =
      bind-held (parts-held all at) (λ parts. last-held entered-kept (λ inside. first-held (outside-held (parameters-held parameters (is_void_alone parameters))) (λ list.
      bind-kept (left-kept at list) (λ whole. pure-kept (_)))))

  pub parameters-held : (all : tree.Parameters) (void : Bool) → IsHeld (judge_parameters void all) (parameters_holds all) (parameters_literals all)
  parameters-held tree.NoParameter void = kept-held (pure-kept (_))
  parameters-held (tree.AndParameter all specifiers d) void =
      bind-held (parameters-held all void) (λ list. bind-held (specifiers-held specifiers) (λ own.
      first-held (declared-held d naming.Parameter (declared_place specifiers d)) (λ one. parameter-kept void (declared_place specifiers d) (_) list (_) one)))

  declared-held : (d : tree.Declared) (which : Naming) (at : Place) → IsHeld (judge_declared which at d) (declared_holds d) (declared_literals d)
  declared-held tree.NotDeclared which at = kept-held (pure-kept (_))
  declared-held (tree.DeclaredBy d) which at = first-held (declarator-held d which at) (λ form. pure-kept (_))
