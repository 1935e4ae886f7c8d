-- What an expression and the declarators in it make is paid for, by one recursion over the tree. A place has a thing to spare: its address.
use Rattle.std.proofs.Common.{◌≤◌, true, false, List, [], ◌∷◌, Option, Some, None, length, arith}
use Rattle.cc_base.specs.declared.number.TypeId.{TypeId}
use Rattle.c_tree.specs.declared.typed_word.Adjusted.{Adjusted}
use Rattle.c_tree.specs.declared.typed_word.TypedStar.{TypedStar}
use Rattle.c_tree.specs.Erasure.{erased_stars, erased, erased_place, erased_arguments, erased_type_name, erased_specifiers, erased_specifier_list, erased_specifier, erased_members, erased_member_declarators, erased_enumerators, erased_declarator, erased_form, erased_core, erased_parts, erased_parameters, erased_declared}
use Rattle.c_tree.specs.Spelling.{stars_spelling, expr_spelling, before_argument, type_name_spelling, specifiers_spelling, specifier_spelling, members_spelling, before_declarator, before_enumerator, declarator_spelling, core_spelling, parts_spelling, before_parameter, declared_spelling}
use Rattle.c_tree.specs.TypedTree as typed
use Rattle.c_tree.specs.TypedTree.{TypedExpr, TypedPlace, TypedArguments, TypedTypeName, TypedSpecifiers, TypedSpecifierList, TypedSpecifier, TypedMembers, TypedMemberDeclarators, TypedEnumerators, TypedDeclarator, TypedForm, TypedCore, TypedParts, TypedParameters, TypedDeclared}
use Rattle.c_tree.specs.TypedParts.{made_by, made_by_place, made_by_arguments, made_by_type_name, made_by_specifiers, made_by_specifier_list, made_by_specifier, made_by_members, made_by_member_declarators, made_by_enumerators, made_by_declarator, made_by_stars, made_by_adjusted, made_by_form, made_by_core, made_by_parts, made_by_parameters, made_by_declared}
use Rattle.c_tree_sizes.proofs.Commas.{arguments-end, row-ends, enumerators-end, parameters-end}
use Rattle.c_tree_sizes.proofs.Paying.{IsPaid, nothing, one, literal, less, then, three, more, token, ended, ahead, followed, fits, with_one, at_most_one, first_one}

stars-paid : (stars : List TypedStar) → IsPaid 0 (made_by_stars stars) (stars_spelling (erased_stars stars))
stars-paid [] = nothing
stars-paid (s ∷ stars) = first_one (ahead _ (stars-paid stars))

adjusted-one : (o : Option Adjusted) → length (made_by_adjusted o) ≤ 1
adjusted-one None = omega arith
adjusted-one (Some adjusted) = omega arith

mutual
  pub expr-paid : (e : TypedExpr) → IsPaid 0 (made_by e) (expr_spelling (erased e))
  expr-paid (typed.Integer of value at t) = nothing
  expr-paid (typed.Character value at t) = nothing
  expr-paid (typed.Enumerator name value t) = nothing
  expr-paid (typed.FunctionName name number n t) = one
  expr-paid (typed.RuntimeName name runtime t) = nothing
  expr-paid (typed.Paren at e) = more (followed _ (expr-paid e))
  expr-paid (typed.Read p) = less (place-paid p)
  expr-paid (typed.Unread p) = less (place-paid p)
  expr-paid (typed.Decay p n t) = with_one _ (place-paid p)
  expr-paid (typed.Convert which at t e) = expr-paid e
  expr-paid (typed.Cast which at to e) = more (then (type_name-paid to) (more (expr-paid e)))
  expr-paid (typed.AddressOf at p n t) = with_one _ (more (place-paid p))
  expr-paid (typed.AddressOfElement at p t) = more (less (place-paid p))
  expr-paid (typed.AddressOfFunction at e) = more (expr-paid e)
  expr-paid (typed.FunctionAt at e) = more (expr-paid e)
  expr-paid (typed.Prefix operator at e t) = more (expr-paid e)
  expr-paid (typed.SizeOfPlace at p size t) = more (less (place-paid p))
  expr-paid (typed.SizeOfValue at e size t) = more (expr-paid e)
  expr-paid (typed.SizeOfType at paren name size t) = more (more (followed _ (type_name-paid name)))
  expr-paid (typed.StepBefore operator at p) = more (less (place-paid p))
  expr-paid (typed.StepAfter p operator at) = followed _ (less (place-paid p))
  expr-paid (typed.Arithmetic operator a at b t) = then (expr-paid a) (more (expr-paid b))
  expr-paid (typed.Moved operator which a at b t) = then (expr-paid a) (more (expr-paid b))
  expr-paid (typed.Difference a at b t) = then (expr-paid a) (more (expr-paid b))
  expr-paid (typed.Compared operator a at b t) = then (expr-paid a) (more (expr-paid b))
  expr-paid (typed.Logical operator a at b t) = then (expr-paid a) (more (expr-paid b))
  expr-paid (typed.Conditional c at a b t) = three (expr-paid c) (more (expr-paid a)) (more (expr-paid b))
  expr-paid (typed.PointerConditional c at a b n t) = with_one _ (three (expr-paid c) (more (expr-paid a)) (token (expr-paid b)))
  expr-paid (typed.Comma a b) = then (expr-paid a) (more (expr-paid b))
  expr-paid (typed.Assign p at e) = then (less (place-paid p)) (more (expr-paid e))
  expr-paid (typed.AssignWith operator p at e t) = then (less (place-paid p)) (more (expr-paid e))
  expr-paid (typed.Call f at all t) = then (expr-paid f) (more (fits (arguments-paid all) (arguments-end _ (erased_arguments all))))
  expr-paid (typed.CallRuntime runtime f at all t) = then (expr-paid f) (more (fits (arguments-paid all) (arguments-end _ (erased_arguments all))))
  expr-paid (typed.Allocate runtime f at all n t) =
      with_one _ (then (expr-paid f) (token (fits (arguments-paid all) (arguments-end _ (erased_arguments all)))))
  expr-paid (typed.AllocateFor runtime f at all t) = then (expr-paid f) (more (fits (arguments-paid all) (arguments-end _ (erased_arguments all))))

  pub place-paid : (p : TypedPlace) → IsPaid 1 (made_by_place p) (expr_spelling (erased_place p))
  place-paid (typed.Variable name home t) = token nothing
  place-paid (typed.String pieces home t) = literal pieces
  place-paid (typed.ParenPlace at p) = more (followed _ (place-paid p))
  place-paid (typed.Target at e t) = token (expr-paid e)
  place-paid (typed.Element which a at b t) = then (expr-paid a) (token (followed _ (expr-paid b)))
  place-paid (typed.Member p at name i n t) = then (less (place-paid p)) (token one)
  place-paid (typed.MemberAt e at name i n t) = then (expr-paid e) (token one)
  place-paid (typed.StructAssign p at q) = with_one _ (then (less (place-paid p)) (token (place-paid q)))
  place-paid (typed.StructConditional c at p q) = three (expr-paid c) (more (less (place-paid p))) (more (place-paid q))
  place-paid (typed.StructComma e p) = then (expr-paid e) (more (place-paid p))

  arguments-paid : (all : TypedArguments) → IsPaid 0 (made_by_arguments all) (before_argument (erased_arguments all))
  arguments-paid typed.NoArgument = nothing
  arguments-paid (typed.AndArgument all e) = then (arguments-paid all) (followed _ (expr-paid e))

  type_name-paid : (name : TypedTypeName) → IsPaid 0 (made_by_type_name name) (type_name_spelling (erased_type_name name))
  type_name-paid (typed.Named specifiers declared t) = then (specifiers-paid specifiers) (declared-paid declared t)

  pub specifiers-paid : (all : TypedSpecifiers) → IsPaid 0 (made_by_specifiers all) (specifiers_spelling (erased_specifiers all))
  specifiers-paid (typed.Specified list t) = list-paid list

  list-paid : (all : TypedSpecifierList) → IsPaid 0 (made_by_specifier_list all) (specifiers_spelling (erased_specifier_list all))
  list-paid typed.NoSpecifier = nothing
  list-paid (typed.AndSpecifier all s) = then (list-paid all) (specifier-paid s)

  specifier-paid : (s : TypedSpecifier) → IsPaid 0 (made_by_specifier s) (specifier_spelling (erased_specifier s))
  specifier-paid (typed.Keyword word) = nothing
  specifier-paid (typed.Typedef name t) = nothing
  specifier-paid (typed.Tagged kind at name t) = nothing
  specifier-paid (typed.Aggregate kind at name brace members t) = more (ahead _ (more (followed _ (members-paid members))))
  specifier-paid (typed.Enum at name) = nothing
  specifier-paid (typed.Enumeration at name brace all true) = more (ahead _ (more (followed _ (enumerators-paid all))))
  specifier-paid (typed.Enumeration at name brace all false) =
      more (ahead _ (more (fits (enumerators-paid all) (enumerators-end _ (erased_enumerators all)))))

  members-paid : (all : TypedMembers) → IsPaid 0 (made_by_members all) (members_spelling (erased_members all))
  members-paid typed.NoMember = nothing
  members-paid (typed.AndMember all specifiers row) =
      three (members-paid all) (specifiers-paid specifiers) (fits (row-paid row) (row-ends _ (erased_member_declarators row)))

  row-paid : (all : TypedMemberDeclarators) → IsPaid 0 (made_by_member_declarators all) (before_declarator (erased_member_declarators all))
  row-paid typed.NoDeclarator = nothing
  row-paid (typed.AndDeclarator all d) = then (row-paid all) (followed _ (declarator-paid d))

  enumerators-paid : (all : TypedEnumerators) → IsPaid 0 (made_by_enumerators all) (before_enumerator (erased_enumerators all))
  enumerators-paid typed.NoEnumerator = nothing
  enumerators-paid (typed.AndEnumerator all name value) = followed _ (enumerators-paid all)
  enumerators-paid (typed.AndValued all name at e value) = then (enumerators-paid all) (more (more (followed _ (expr-paid e))))

  pub declarator-paid : (d : TypedDeclarator) → IsPaid 0 (made_by_declarator d) (declarator_spelling (erased_declarator d))
  declarator-paid (typed.Declares form t) = form-paid form t

  form-paid : (form : TypedForm) (t : TypeId) → IsPaid 0 (made_by_form form t) (declarator_spelling (erased_form form))
  form-paid (typed.Form stars core parts) t = three (stars-paid stars) (core-paid core t) (parts-paid parts)

  core-paid : (core : TypedCore) (t : TypeId) → IsPaid 0 (made_by_core core t) (core_spelling (erased_core core))
  core-paid (typed.Names name home) t = one
  core-paid typed.Unnamed t = nothing
  core-paid (typed.Nested at form) t = more (followed _ (form-paid form t))

  parts-paid : (all : TypedParts) → IsPaid 0 (made_by_parts all) (parts_spelling (erased_parts all))
  parts-paid typed.NoPart = nothing
  parts-paid (typed.AndArray all at words) = followed _ (parts-paid all)
  parts-paid (typed.AndSizedArray all at words e size) = then (parts-paid all) (more (ahead _ (followed _ (expr-paid e))))
  parts-paid (typed.AndFunction all at parameters) =
      then (parts-paid all) (more (fits (parameters-paid parameters) (parameters-end _ (erased_parameters parameters))))

  -- the comma, or the parenthesis, of a parameter pays for the pointer that it stands for
  parameters-paid : (all : TypedParameters) → IsPaid 0 (made_by_parameters all) (before_parameter (erased_parameters all))
  parameters-paid typed.NoParameter = nothing
  parameters-paid (typed.AndParameter all specifiers declared adjusted t) =
      at_most_one _ (three (parameters-paid all) (specifiers-paid specifiers) (ended _ (declared-paid declared t))) (adjusted-one adjusted)

  declared-paid : (d : TypedDeclared) (t : TypeId) → IsPaid 0 (made_by_declared d t) (declared_spelling (erased_declared d))
  declared-paid typed.NotDeclared t = nothing
  declared-paid (typed.DeclaredBy form) t = form-paid form t
