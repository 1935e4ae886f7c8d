-- What is well typed is given: one recursion over the tree. No function has more than 127 parameters.
use Rattle.c_types.specs.Table.{Table}
use Rattle.c_tree.specs.declared.operator.MemberOperator.TheVariants as member_operator
use Rattle.c_tree.specs.Tree as tree
use Rattle.c_typing.specs.Settled.{IsBasic}
use Rattle.c_typing_given.proofs.AssignmentsGiven.{assign-given}
use Rattle.c_typing_given.proofs.CallsGiven.{AreGiven, no-argument-given, argument-given, call-given}
use Rattle.c_typing_given.proofs.CastsGiven.{size-of-type-given, cast-given}
use Rattle.c_typing_given.proofs.NamesGiven.{name-given, literal-given}
use Rattle.c_typing_given.proofs.SequencesGiven.{comma-given, conditional-given}
use Rattle.cc_base.specs.declared.number.TypeId.{TypeId}
use Rattle.std.specs.Prelude.{◌≤◌, List, length}
use Rattle.c_types.specs.declared.shape.TypeShape.TheVariants.{Function}
use Rattle.c_types.specs.Table.{HasShape}
use Rattle.c_typing_given.specs.Given.{IsGiven, IsNameGiven}
use Rattle.c_typing_given.proofs.AddressesGiven.{arrow-given}
use Rattle.c_typing_given.proofs.EnumeratorsGiven.{AreEnumeratorsGiven, no-enumerator-given, enumerator-given, valued-given, enumeration-given}
use Rattle.c_typing_given.proofs.ExprsGiven.{prefix-given, compound-given, sized-compound-given}
use Rattle.c_typing_given.proofs.FormsGiven.{IsFormGiven, IsCoreGiven, ArePartsGiven, IsDeclaredGiven, form-given, names-given, unnamed-given, nested-given, no-part-given, array-part-given, sized-part-given, not-declared-given, declared-by-given}
use Rattle.c_typing_given.proofs.OperatorsGiven.{integer-given, character-given, index-given, infix-given, paren-given}
use Rattle.c_typing_given.proofs.AggregatesGiven.{aggregate-whole-given}
use Rattle.c_typing_given.proofs.MembersGiven.{AreMembersGiven, IsRowGiven, no-member-given, members-given, no-declarator-given, row-given, bit-field-given, unnamed-bit-field-given}
use Rattle.c_typing_given.proofs.ParametersGiven.{AreParametersGiven, no-parameter-given, parameter-given}
use Rattle.c_typing_given.proofs.PrototypesGiven.{function-part-given}
use Rattle.c_typing_given.proofs.PlacesGiven.{postfix-given, dot-given}
use Rattle.c_typing_given.proofs.SpecifiersGiven.{AreListGiven, IsSpecifierGiven, no-specifier-given, list-given, keyword-given, typedef-given, enum-given}
use Rattle.c_typing_given.proofs.TagsGiven.{tagged-given}
use Rattle.c_typing_given.proofs.TypeNamesGiven.{type-name-given}

module _ (T : Table) (basic : IsBasic T) (few : (t : TypeId) (parameters : List TypeId) (result : TypeId) → HasShape T t (Function parameters result) → length parameters ≤ 127) where
  mutual
    pub expr-given : (x : tree.Expr) → IsGiven T x
    expr-given (tree.Name name) = name-given T basic name
    expr-given (tree.Integer of value at) = integer-given T basic of value at
    expr-given (tree.Character value at) = character-given T basic value at
    expr-given (tree.String pieces) = literal-given T basic pieces
    expr-given (tree.Paren at x) = paren-given T basic at x (expr-given x)
    expr-given (tree.Index x at y) = index-given T basic x at y (expr-given x) (expr-given y)
    expr-given (tree.Call x at xs) = call-given T basic x at xs (expr-given x) (arguments-given xs)
    expr-given (tree.Member x member_operator.Dot at name) = dot-given T basic x at name (expr-given x)
    expr-given (tree.Member x member_operator.Arrow at name) = arrow-given T basic x at name (expr-given x)
    expr-given (tree.Postfix x operator at) = postfix-given T basic x operator at (expr-given x)
    expr-given (tree.Prefix operator at x) = prefix-given T basic operator at x (expr-given x)
    expr-given (tree.SizeOfType at paren name) = size-of-type-given T basic at paren name (any-name-given name)
    expr-given (tree.Cast at name x) = cast-given T basic at name x (any-name-given name) (expr-given x)
    expr-given (tree.Infix operator x at y) = infix-given T basic operator x at y (expr-given x) (expr-given y)
    expr-given (tree.Conditional x at y z) = conditional-given T basic x at y z (expr-given x) (expr-given y) (expr-given z)
    expr-given (tree.Assign operator x at y) = assign-given T basic operator x at y (expr-given x) (expr-given y)
    expr-given (tree.Comma x y) = comma-given T basic x y (expr-given x) (expr-given y)
    expr-given (tree.Compound at name brace) = compound-given T basic at name brace
    expr-given (tree.SizeOfCompound at paren name brace) = sized-compound-given T basic at paren name brace

    pub arguments-given : (xs : tree.Arguments) → AreGiven T basic xs
    arguments-given tree.NoArgument = no-argument-given T basic
    arguments-given (tree.AndArgument xs x) = argument-given T basic xs x (arguments-given xs) (expr-given x)

    pub any-name-given : (name : tree.TypeName) → IsNameGiven T name
    any-name-given (tree.Named specifiers d) = type-name-given T basic few specifiers d (all-specifiers-given specifiers) (any-declared-given d)

    pub all-specifiers-given : (xs : tree.Specifiers) → AreListGiven T basic xs
    all-specifiers-given tree.NoSpecifier = no-specifier-given T basic
    all-specifiers-given (tree.AndSpecifier all x) = list-given T basic all x (all-specifiers-given all) (any-specifier-given x)

    pub any-specifier-given : (x : tree.Specifier) → IsSpecifierGiven T basic x
    any-specifier-given (tree.Keyword w) = keyword-given T basic w
    any-specifier-given (tree.Typedef name) = typedef-given T basic name
    any-specifier-given (tree.Tagged which at name) = tagged-given T basic which at name
    any-specifier-given (tree.Aggregate which at name brace members) =
        aggregate-whole-given T basic few which at name brace members (all-members-given members)
    any-specifier-given (tree.Enum at name) = enum-given T basic at name
    any-specifier-given (tree.Enumeration at name brace all comma) = enumeration-given T basic at name brace all comma (all-enumerators-given all)

    pub all-members-given : (xs : tree.Members) → AreMembersGiven T basic few xs
    all-members-given tree.NoMember = no-member-given T basic few
    all-members-given (tree.AndMember all specifiers declarators) =
        members-given T basic few all specifiers declarators (all-members-given all) (all-specifiers-given specifiers) (any-row-given declarators)

    pub any-row-given : (xs : tree.MemberDeclarators) → IsRowGiven T basic few xs
    any-row-given tree.NoDeclarator = no-declarator-given T basic few
    any-row-given (tree.AndDeclarator all d) = row-given T basic few all d (any-row-given all) (any-form-given d)
    any-row-given (tree.AndBitField all d) = bit-field-given T basic few all d
    any-row-given (tree.AndUnnamedBitField all) = unnamed-bit-field-given T basic few all

    pub all-enumerators-given : (xs : tree.Enumerators) → AreEnumeratorsGiven T basic xs
    all-enumerators-given tree.NoEnumerator = no-enumerator-given T basic
    all-enumerators-given (tree.AndEnumerator all name) = enumerator-given T basic all name (all-enumerators-given all)
    all-enumerators-given (tree.AndValued all name at x) = valued-given T basic all name at x (all-enumerators-given all) (expr-given x)

    pub any-form-given : (d : tree.Declarator) → IsFormGiven T basic d
    any-form-given (tree.Declares stars core parts) = form-given T basic stars core parts (any-core-given core) (all-parts-given parts)

    pub any-core-given : (c : tree.Core) → IsCoreGiven T basic c
    any-core-given (tree.Names name) = names-given T basic name
    any-core-given tree.Unnamed = unnamed-given T basic
    any-core-given (tree.Nested at d) = nested-given T basic at d (any-form-given d)

    pub all-parts-given : (xs : tree.Parts) → ArePartsGiven T basic xs
    all-parts-given tree.NoPart = no-part-given T basic
    all-parts-given (tree.AndArray all at words) = array-part-given T basic all at words (all-parts-given all)
    all-parts-given (tree.AndSizedArray all at words e) = sized-part-given T basic all at words e (all-parts-given all) (expr-given e)
    all-parts-given (tree.AndFunction all at parameters) =
        function-part-given T basic few all at parameters (all-parts-given all) (all-parameters-given parameters)

    pub all-parameters-given : (xs : tree.Parameters) → AreParametersGiven T basic few xs
    all-parameters-given tree.NoParameter = no-parameter-given T basic few
    all-parameters-given (tree.AndParameter all specifiers d) =
        parameter-given T basic few all specifiers d (all-parameters-given all) (all-specifiers-given specifiers) (any-declared-given d)

    pub any-declared-given : (d : tree.Declared) → IsDeclaredGiven T basic d
    any-declared-given tree.NotDeclared = not-declared-given T basic
    any-declared-given (tree.DeclaredBy d) = declared-by-given T basic d (any-form-given d)
