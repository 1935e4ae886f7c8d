-- Each expression, type name, list of specifiers and declarator has one typed tree over a table, by one recursion over the tree.
use Rattle.c_types.specs.Table.{Table}
use Rattle.c_tree.specs.declared.operator.MemberOperator.TheVariants as member
use Rattle.c_tree.specs.Tree as tree
use Rattle.c_typing_unique.proofs.DeclaratorSteps.{IsFormUnique, IsCoreUnique, IsDeclaredUnique, ArePartsUnique, AreParametersUnique, form-unique, names-unique, unnamed-unique, nested-unique, not-declared-unique, declared-unique}
use Rattle.c_typing_unique.proofs.ExprSteps.{AreUnique, IsNameUnique, step-unique, name-step, integer-step, character-step, string-step, paren-step, infix-step, index-step, call-step, dot-step, arrow-step}
use Rattle.c_typing_unique.proofs.MixedSteps.{postfix-step, prefix-step, size-of-type-step, cast-step, conditional-step, assign-step, comma-step}
use Rattle.c_typing_unique.proofs.PartSteps.{no-part-unique, array-unique, sized-array-unique, function-unique, no-parameter-unique, parameter-unique, type-name-unique}
use Rattle.c_typing_unique.proofs.Reading.{IsUnique}
use Rattle.c_typing_unique.proofs.Shapes.{IsDistinct}
use Rattle.c_typing_unique.proofs.MemberSteps.{no-declarator-unique, row-unique, bit-field-unique, unnamed-bit-field-unique, no-member-unique, members-unique, no-enumerator-unique, enumerator-unique, valued-unique}
use Rattle.c_typing_unique.proofs.SpecifierSteps.{IsListUnique, IsSpecifierUnique, AreMembersUnique, AreEnumeratorsUnique, IsRowUnique, no-argument-unique, argument-unique, no-specifier-unique, list-unique, specifiers-unique, keyword-unique, enum-unique, typedef-unique, tagged-unique, aggregate-unique, enumeration-unique}

module _ (T : Table) (D : IsDistinct T) where
  mutual
    pub expr-one : (x : tree.Expr) → IsUnique T x
    expr-one (tree.Name name) = step-unique T (tree.Name name) (name-step T D name)
    expr-one (tree.Integer of value at) = step-unique T (tree.Integer of value at) (integer-step T D of value at)
    expr-one (tree.Character value at) = step-unique T (tree.Character value at) (character-step T D value at)
    expr-one (tree.String pieces) = step-unique T (tree.String pieces) (string-step T D pieces)
    expr-one (tree.Paren at x) = step-unique T (tree.Paren at x) (paren-step T D at x (expr-one x))
    expr-one (tree.Index x at y) = step-unique T (tree.Index x at y) (index-step T D x at y (expr-one x) (expr-one y))
    expr-one (tree.Call x at xs) = step-unique T (tree.Call x at xs) (call-step T D x at xs (expr-one x) (arguments-one xs))
    expr-one (tree.Member x member.Dot at name) = step-unique T (tree.Member x member.Dot at name) (dot-step T D x at name (expr-one x))
    expr-one (tree.Member x member.Arrow at name) = step-unique T (tree.Member x member.Arrow at name) (arrow-step T D x at name (expr-one x))
    expr-one (tree.Postfix x operator at) = step-unique T (tree.Postfix x operator at) (postfix-step T D x operator at (expr-one x))
    expr-one (tree.Prefix operator at x) = step-unique T (tree.Prefix operator at x) (prefix-step T D operator at x (expr-one x))
    expr-one (tree.SizeOfType at paren name) = step-unique T (tree.SizeOfType at paren name) (size-of-type-step T D at paren name (type-name-one name))
    expr-one (tree.Cast at name x) = step-unique T (tree.Cast at name x) (cast-step T D at name x (type-name-one name) (expr-one x))
    expr-one (tree.Infix operator x at y) = step-unique T (tree.Infix operator x at y) (infix-step T D operator x at y (expr-one x) (expr-one y))
    expr-one (tree.Conditional x at y z) = step-unique T (tree.Conditional x at y z) (conditional-step T D x at y z (expr-one x) (expr-one y) (expr-one z))
    expr-one (tree.Assign operator x at y) = step-unique T (tree.Assign operator x at y) (assign-step T D operator x at y (expr-one x) (expr-one y))
    expr-one (tree.Comma x y) = step-unique T (tree.Comma x y) (comma-step T D x y (expr-one x) (expr-one y))
    expr-one (tree.Compound at name brace) = step-unique T (tree.Compound at name brace) (λ y z a b d h. absurd h)
    expr-one (tree.SizeOfCompound at paren name brace) = step-unique T (tree.SizeOfCompound at paren name brace) (λ y z a b d h. absurd h)

    pub arguments-one : (x : tree.Arguments) → AreUnique T x
    arguments-one tree.NoArgument = no-argument-unique T D
    arguments-one (tree.AndArgument xs x) = argument-unique T D xs x (arguments-one xs) (expr-one x)

    pub type-name-one : (x : tree.TypeName) → IsNameUnique T x
    type-name-one (tree.Named specifiers one) = type-name-unique T D specifiers one (specifiers-unique T D specifiers (list-one specifiers)) (declared-one one)

    pub list-one : (x : tree.Specifiers) → IsListUnique T x
    list-one tree.NoSpecifier = no-specifier-unique T D
    list-one (tree.AndSpecifier all one) = list-unique T D all one (list-one all) (specifier-one one)

    pub specifier-one : (x : tree.Specifier) → IsSpecifierUnique T x
    specifier-one (tree.Keyword word) = keyword-unique T D word
    specifier-one (tree.Typedef name) = typedef-unique T D name
    specifier-one (tree.Tagged which at name) = tagged-unique T D which at name
    specifier-one (tree.Aggregate which at name brace all) = aggregate-unique T D which at name brace all (members-one all)
    specifier-one (tree.Enum at name) = enum-unique T D at name
    specifier-one (tree.Enumeration at name brace all comma) = enumeration-unique T D at name brace all comma (enumerators-one all)

    pub members-one : (x : tree.Members) → AreMembersUnique T x
    members-one tree.NoMember = no-member-unique T D
    members-one (tree.AndMember all specifiers declarators) =
        members-unique T D all specifiers declarators (members-one all) (specifiers-unique T D specifiers (list-one specifiers)) (row-one declarators)

    pub row-one : (x : tree.MemberDeclarators) → IsRowUnique T x
    row-one tree.NoDeclarator = no-declarator-unique T D
    row-one (tree.AndDeclarator all d) = row-unique T D all d (row-one all) (form-one d)
    row-one (tree.AndBitField all d) = bit-field-unique T D all d
    row-one (tree.AndUnnamedBitField all) = unnamed-bit-field-unique T D all

    pub enumerators-one : (x : tree.Enumerators) → AreEnumeratorsUnique T x
    enumerators-one tree.NoEnumerator = no-enumerator-unique T D
    enumerators-one (tree.AndEnumerator all name) = enumerator-unique T D all name (enumerators-one all)
    enumerators-one (tree.AndValued all name at x) = valued-unique T D all name at x (enumerators-one all) (expr-one x)

    pub form-one : (x : tree.Declarator) → IsFormUnique T x
    form-one (tree.Declares stars core parts) = form-unique T D stars core parts (core-one core) (parts-one parts)

    pub core-one : (x : tree.Core) → IsCoreUnique T x
    core-one (tree.Names name) = names-unique T D name
    core-one tree.Unnamed = unnamed-unique T D
    core-one (tree.Nested at d) = nested-unique T D at d (form-one d)

    pub parts-one : (x : tree.Parts) → ArePartsUnique T x
    parts-one tree.NoPart = no-part-unique T D
    parts-one (tree.AndArray all at words) = array-unique T D all at words (parts-one all)
    parts-one (tree.AndSizedArray all at words e) = sized-array-unique T D all at words e (parts-one all) (expr-one e)
    parts-one (tree.AndFunction all at parameters) = function-unique T D all at parameters (parts-one all) (parameters-one parameters)

    pub parameters-one : (x : tree.Parameters) → AreParametersUnique T x
    parameters-one tree.NoParameter = no-parameter-unique T D
    parameters-one (tree.AndParameter all specifiers one) =
        parameter-unique T D all specifiers one (parameters-one all) (specifiers-unique T D specifiers (list-one specifiers)) (declared-one one)

    pub declared-one : (x : tree.Declared) → IsDeclaredUnique T x
    declared-one tree.NotDeclared = not-declared-unique T D
    declared-one (tree.DeclaredBy d) = declared-unique T D d (form-one d)
