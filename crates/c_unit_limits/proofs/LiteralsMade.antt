-- The string literals of a typed tree are those of the tree that it is made of.
use Rattle.std.proofs.Common.{◌≡◌, ℕ, ◌+◌, List, [], ◌∷◌, ◌++◌, Option, Some, None, refl, ap, ◌∙◌, arith}
use Rattle.cc_base.specs.declared.number.TypeId.{TypeId}
use Rattle.c_tree.specs.declared.typed_word.Adjusted.{Adjusted}
use Rattle.c_tree.specs.declared.typed_word.TypedStar.{TypedStar}
use Rattle.c_tree.specs.Erasure.{erased, erased_place, erased_arguments, erased_type_name, erased_specifiers, erased_specifier_list, erased_specifier, erased_members, erased_member_declarators, erased_enumerators, erased_declarator, erased_form, erased_core, erased_parts, erased_parameters, erased_declared}
use Rattle.c_tree.specs.TypedTree as typed
use Rattle.c_tree.specs.TypedTree.{TypedExpr, TypedPlace, TypedArguments, TypedTypeName, TypedSpecifiers, TypedSpecifierList, TypedSpecifier, TypedMembers, TypedMemberDeclarators, TypedEnumerators, TypedDeclarator, TypedForm, TypedCore, TypedParts, TypedParameters, TypedDeclared}
use Rattle.c_tree.specs.TypedParts.{Made, Address, made_by, made_by_place, made_by_arguments, made_by_type_name, made_by_specifiers, made_by_specifier_list, made_by_specifier, made_by_members, made_by_member_declarators, made_by_enumerators, made_by_declarator, made_by_stars, made_by_adjusted, made_by_form, made_by_core, made_by_parts, made_by_parameters, made_by_declared}
use Rattle.c_unit_limits.specs.Literals.{expr_literals, arguments_literals, type_name_literals, specifiers_literals, specifier_literals, members_literals, member_declarators_literals, enumerators_literals, declarator_literals, core_literals, parts_literals, parameters_literals, declared_literals, literals_made}
use Rattle.c_typing.specs.Assignments.{literal_cost}

pub literals-append : (xs ys : List Made) → literals_made (xs ++ ys) ≡ literals_made xs + literals_made ys
literals-append [] ys = none (literals_made ys)
  where
    none : (n : ℕ) → n ≡ 0 + n
    none n = omega arith
literals-append (x ∷ xs) ys = ap (λ (n : ℕ). literal_cost x + n) (literals-append xs ys) ∙ apart (literal_cost x) (literals_made xs) (literals_made ys)
  where
    apart : (a b c : ℕ) → a + (b + c) ≡ a + b + c
    apart a b c = omega arith

pub two-literals : (xs ys : List Made) (a b : ℕ) → literals_made xs ≡ a → literals_made ys ≡ b → literals_made (xs ++ ys) ≡ a + b
two-literals xs ys a b p q = literals-append xs ys ∙ (λ i. p i + q i)

pub three-literals : (xs ys zs : List Made) (a b c : ℕ) → literals_made xs ≡ a → literals_made ys ≡ b → literals_made zs ≡ c
    → literals_made (xs ++ ys ++ zs) ≡ a + (b + c)
three-literals xs ys zs a b c p q r = two-literals (xs ++ ys) zs (a + b) c (two-literals xs ys a b p q) r ∙ apart
  where
    apart : a + b + c ≡ a + (b + c)
    apart = omega arith

-- what is no literal adds nothing
pub other-last : (xs ys : List Made) (a : ℕ) → literals_made xs ≡ a → literals_made ys ≡ 0 → literals_made (xs ++ ys) ≡ a
other-last xs ys a p q = two-literals xs ys a 0 p q ∙ none
  where
    none : a + 0 ≡ a
    none = omega arith

pub other-first : (xs ys : List Made) (a : ℕ) → literals_made xs ≡ 0 → literals_made ys ≡ a → literals_made (xs ++ ys) ≡ a
other-first xs ys a p q = two-literals xs ys 0 a p q ∙ none
  where
    none : 0 + a ≡ a
    none = omega arith

stars_none : (stars : List TypedStar) → literals_made (made_by_stars stars) ≡ 0
stars_none [] = refl
stars_none (s ∷ stars) = ap (λ (n : ℕ). 0 + n) (stars_none stars)

adjusted_none : (o : Option Adjusted) → literals_made (made_by_adjusted o) ≡ 0
adjusted_none None = refl
adjusted_none (Some adjusted) = refl

alone : (n : ℕ) → n + 0 ≡ n
alone n = omega arith

mutual
  pub expr-literals : (e : TypedExpr) → literals_made (made_by e) ≡ expr_literals (erased e)
  expr-literals (typed.Integer of value at t) = refl
  expr-literals (typed.Character value at t) = refl
  expr-literals (typed.Enumerator name value t) = refl
  expr-literals (typed.FunctionName name number n t) = refl
  expr-literals (typed.RuntimeName name runtime t) = refl
  expr-literals (typed.Paren at e) = expr-literals e
  expr-literals (typed.Read p) = place-literals p
  expr-literals (typed.Unread p) = place-literals p
  expr-literals (typed.Decay p n t) = other-last (made_by_place p) (Address n ∷ []) (_) (place-literals p) refl
  expr-literals (typed.Convert which at t e) = expr-literals e
  expr-literals (typed.Cast which at to e) = two-literals (made_by_type_name to) (made_by e) (_) (_) (type_name-literals to) (expr-literals e)
  expr-literals (typed.AddressOf at p n t) = other-last (made_by_place p) (Address n ∷ []) (_) (place-literals p) refl
  expr-literals (typed.AddressOfElement at p t) = place-literals p
  expr-literals (typed.AddressOfFunction at e) = expr-literals e
  expr-literals (typed.FunctionAt at e) = expr-literals e
  expr-literals (typed.Prefix operator at e t) = expr-literals e
  expr-literals (typed.SizeOfPlace at p size t) = place-literals p
  expr-literals (typed.SizeOfValue at e size t) = expr-literals e
  expr-literals (typed.SizeOfType at paren name size t) = type_name-literals name
  expr-literals (typed.StepBefore operator at p) = place-literals p
  expr-literals (typed.StepAfter p operator at) = place-literals p
  expr-literals (typed.Arithmetic operator a at b t) = two-literals (made_by a) (made_by b) (_) (_) (expr-literals a) (expr-literals b)
  expr-literals (typed.Moved operator which a at b t) = two-literals (made_by a) (made_by b) (_) (_) (expr-literals a) (expr-literals b)
  expr-literals (typed.Difference a at b t) = two-literals (made_by a) (made_by b) (_) (_) (expr-literals a) (expr-literals b)
  expr-literals (typed.Compared operator a at b t) = two-literals (made_by a) (made_by b) (_) (_) (expr-literals a) (expr-literals b)
  expr-literals (typed.Logical operator a at b t) = two-literals (made_by a) (made_by b) (_) (_) (expr-literals a) (expr-literals b)
  expr-literals (typed.Conditional c at a b t) = three-literals (made_by c) (made_by a) (made_by b) (_) (_) (_) (expr-literals c) (expr-literals a) (expr-literals b)
  expr-literals (typed.PointerConditional c at a b n t) =
      other-last (made_by c ++ made_by a ++ made_by b) (Address n ∷ []) (_)
      (three-literals (made_by c) (made_by a) (made_by b) (_) (_) (_) (expr-literals c) (expr-literals a) (expr-literals b)) refl
  expr-literals (typed.Comma a b) = two-literals (made_by a) (made_by b) (_) (_) (expr-literals a) (expr-literals b)
  expr-literals (typed.Assign p at e) = two-literals (made_by_place p) (made_by e) (_) (_) (place-literals p) (expr-literals e)
  expr-literals (typed.AssignWith operator p at e t) = two-literals (made_by_place p) (made_by e) (_) (_) (place-literals p) (expr-literals e)
  expr-literals (typed.Call f at all t) = two-literals (made_by f) (made_by_arguments all) (_) (_) (expr-literals f) (arguments-literals all)
  expr-literals (typed.CallRuntime runtime f at all t) = two-literals (made_by f) (made_by_arguments all) (_) (_) (expr-literals f) (arguments-literals all)
  expr-literals (typed.Allocate runtime f at all n t) =
      other-last (made_by f ++ made_by_arguments all) (Address n ∷ []) (_)
      (two-literals (made_by f) (made_by_arguments all) (_) (_) (expr-literals f) (arguments-literals all)) refl
  expr-literals (typed.AllocateFor runtime f at all t) = two-literals (made_by f) (made_by_arguments all) (_) (_) (expr-literals f) (arguments-literals all)

  pub place-literals : (p : TypedPlace) → literals_made (made_by_place p) ≡ expr_literals (erased_place p)
  place-literals (typed.Variable name home t) = refl
  place-literals (typed.String pieces home t) = alone (_)
  place-literals (typed.ParenPlace at p) = place-literals p
  place-literals (typed.Target at e t) = expr-literals e
  place-literals (typed.Element which a at b t) = two-literals (made_by a) (made_by b) (_) (_) (expr-literals a) (expr-literals b)
  place-literals (typed.Member p at name i n t) = other-last (made_by_place p) (Address n ∷ []) (_) (place-literals p) refl
  place-literals (typed.MemberAt e at name i n t) = other-last (made_by e) (Address n ∷ []) (_) (expr-literals e) refl
  place-literals (typed.StructAssign p at q) =
      other-last (made_by_place p ++ made_by_place q) (_) (_) (two-literals (made_by_place p) (made_by_place q) (_) (_) (place-literals p) (place-literals q)) refl
  place-literals (typed.StructConditional c at p q) =
      three-literals (made_by c) (made_by_place p) (made_by_place q) (_) (_) (_) (expr-literals c) (place-literals p) (place-literals q)
  place-literals (typed.StructComma e p) = two-literals (made_by e) (made_by_place p) (_) (_) (expr-literals e) (place-literals p)

  arguments-literals : (all : TypedArguments) → literals_made (made_by_arguments all) ≡ arguments_literals (erased_arguments all)
  arguments-literals typed.NoArgument = refl
  arguments-literals (typed.AndArgument all e) = two-literals (made_by_arguments all) (made_by e) (_) (_) (arguments-literals all) (expr-literals e)

  type_name-literals : (name : TypedTypeName) → literals_made (made_by_type_name name) ≡ type_name_literals (erased_type_name name)
  type_name-literals (typed.Named specifiers declared t) =
      two-literals (made_by_specifiers specifiers) (made_by_declared declared t) (_) (_) (specifiers-literals specifiers) (declared-literals declared t)

  pub specifiers-literals : (all : TypedSpecifiers) → literals_made (made_by_specifiers all) ≡ specifiers_literals (erased_specifiers all)
  specifiers-literals (typed.Specified list t) = list-literals list

  list-literals : (all : TypedSpecifierList) → literals_made (made_by_specifier_list all) ≡ specifiers_literals (erased_specifier_list all)
  list-literals typed.NoSpecifier = refl
  list-literals (typed.AndSpecifier all s) = two-literals (made_by_specifier_list all) (made_by_specifier s) (_) (_) (list-literals all) (specifier-literals s)

  specifier-literals : (s : TypedSpecifier) → literals_made (made_by_specifier s) ≡ specifier_literals (erased_specifier s)
  specifier-literals (typed.Keyword word) = refl
  specifier-literals (typed.Typedef name t) = refl
  specifier-literals (typed.Tagged kind at name t) = refl
  specifier-literals (typed.Aggregate kind at name brace members t) = members-literals members
  specifier-literals (typed.Enum at name) = refl
  specifier-literals (typed.Enumeration at name brace all comma) = enumerators-literals all

  members-literals : (all : TypedMembers) → literals_made (made_by_members all) ≡ members_literals (erased_members all)
  members-literals typed.NoMember = refl
  members-literals (typed.AndMember all specifiers declarators) =
      three-literals (made_by_members all) (made_by_specifiers specifiers) (made_by_member_declarators declarators) (_) (_) (_)
      (members-literals all) (specifiers-literals specifiers) (row-literals declarators)

  row-literals : (all : TypedMemberDeclarators) → literals_made (made_by_member_declarators all) ≡ member_declarators_literals (erased_member_declarators all)
  row-literals typed.NoDeclarator = refl
  row-literals (typed.AndDeclarator all d) = two-literals (made_by_member_declarators all) (made_by_declarator d) (_) (_) (row-literals all) (declarator-literals d)

  enumerators-literals : (all : TypedEnumerators) → literals_made (made_by_enumerators all) ≡ enumerators_literals (erased_enumerators all)
  enumerators-literals typed.NoEnumerator = refl
  enumerators-literals (typed.AndEnumerator all name value) = enumerators-literals all
  enumerators-literals (typed.AndValued all name at e value) = two-literals (made_by_enumerators all) (made_by e) (_) (_) (enumerators-literals all) (expr-literals e)

  pub declarator-literals : (d : TypedDeclarator) → literals_made (made_by_declarator d) ≡ declarator_literals (erased_declarator d)
  declarator-literals (typed.Declares form t) = form-literals form t

  form-literals : (form : TypedForm) (t : TypeId) → literals_made (made_by_form form t) ≡ declarator_literals (erased_form form)
  form-literals (typed.Form stars core parts) t =
      two-literals (made_by_stars stars ++ made_by_core core t) (made_by_parts parts) (_) (_)
      (other-first (made_by_stars stars) (made_by_core core t) (_) (stars_none stars) (core-literals core t)) (parts-literals parts)

  core-literals : (core : TypedCore) (t : TypeId) → literals_made (made_by_core core t) ≡ core_literals (erased_core core)
  core-literals (typed.Names name home) t = refl
  core-literals typed.Unnamed t = refl
  core-literals (typed.Nested at form) t = form-literals form t

  parts-literals : (all : TypedParts) → literals_made (made_by_parts all) ≡ parts_literals (erased_parts all)
  parts-literals typed.NoPart = refl
  parts-literals (typed.AndArray all at words) = parts-literals all
  parts-literals (typed.AndSizedArray all at words e size) = two-literals (made_by_parts all) (made_by e) (_) (_) (parts-literals all) (expr-literals e)
  parts-literals (typed.AndFunction all at parameters) =
      two-literals (made_by_parts all) (made_by_parameters parameters) (_) (_) (parts-literals all) (parameters-literals parameters)

  parameters-literals : (all : TypedParameters) → literals_made (made_by_parameters all) ≡ parameters_literals (erased_parameters all)
  parameters-literals typed.NoParameter = refl
  parameters-literals (typed.AndParameter all specifiers declared adjusted t) =
      other-last (made_by_parameters all ++ made_by_specifiers specifiers ++ made_by_declared declared t) (made_by_adjusted adjusted) (_)
      (three-literals (made_by_parameters all) (made_by_specifiers specifiers) (made_by_declared declared t) (_) (_) (_)
      (parameters-literals all) (specifiers-literals specifiers) (declared-literals declared t)) (adjusted_none adjusted)

  declared-literals : (d : TypedDeclared) (t : TypeId) → literals_made (made_by_declared d t) ≡ declared_literals (erased_declared d)
  declared-literals typed.NotDeclared t = refl
  declared-literals (typed.DeclaredBy form) t = form-literals form t
