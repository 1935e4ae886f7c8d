-- The grammar as a property of trees (C99 6.5 to 6.9).
use Rattle.std.specs.Prelude.{ℕ, suc, Bool, true, false, ⊤, ◌≡◌, ◌≤◌, ◌<◌, ◌&&◌, ◌⊎◌, List, [], ◌∷◌, length, Option, Some, None}
use Rattle.std.specs.List.{All}
-- The extended language has the constructs that are refused as unsupported: a further `long` in one specifier list, bit-fields,
-- designators, and compound literals. Of the last three the tree has their first token alone.
pub use Rattle.parse_rules.specs.Grammars.{Language, Supported, Extended, IsExtended}
use Rattle.c_tree.specs.declared.leaf.Star.{Star}
use Rattle.c_tree.specs.Operators.{precedence, operand_level, comma_level, assignment_level, conditional_level, logical_or_level, cast_level, unary_level, postfix_level}
use Rattle.c_tree.specs.Tree as tree
use Rattle.c_tree.specs.Words.{TypeNames, is_type_name, Scope, AtFile, InBlock, InType, may_specify, has_type, is_long, has_long, has_typedef, are_qualifiers, are_array_words}

-- How tightly an expression holds together (C99 6.5).
abbrev pub level : tree.Expr → ℕ
level (tree.Name name) = postfix_level
level (tree.Integer type value place) = postfix_level
level (tree.Character value place) = postfix_level
level (tree.String pieces) = postfix_level
level (tree.Paren at e) = postfix_level
level (tree.Index e at index) = postfix_level
level (tree.Call e at arguments) = postfix_level
level (tree.Member e op at name) = postfix_level
level (tree.Postfix e step at) = postfix_level
level (tree.Prefix op at e) = unary_level
level (tree.SizeOfType at paren type) = unary_level
level (tree.Cast at type e) = cast_level
level (tree.Infix op left at right) = precedence op
level (tree.Conditional test at then_ else_) = conditional_level
level (tree.Assign op left at right) = assignment_level
level (tree.Comma left right) = comma_level
level (tree.Compound at type brace) = cast_level
level (tree.SizeOfCompound at paren type brace) = unary_level

-- Whether a declarator has a name: it must, it must not (in a type name), or it may (in a parameter).
pub data Naming : Type 0 where
  WithName : Naming
  WithoutName : Naming
  WithOrWithout : Naming

abbrev pub MayName : Naming → Type 0
MayName WithName = ⊤
MayName WithoutName = ⊥
MayName WithOrWithout = ⊤

abbrev pub MayOmitName : Naming → Type 0
MayOmitName WithName = ⊥
MayOmitName WithoutName = ⊤
MayOmitName WithOrWithout = ⊤

abbrev pub HasQualifiers : Star → Type 0
HasQualifiers star = are_qualifiers star.qualifiers ≡ true

-- a declarator without a name has a star or a part
abbrev pub IsSome : List Star → tree.Core → tree.Parts → Type 0
IsSome [] tree.Unnamed tree.NoPart = ⊥
IsSome stars core parts = ⊤

abbrev pub is_no_argument : tree.Arguments → Bool
is_no_argument tree.NoArgument = true
is_no_argument arguments = false

abbrev pub is_no_declarator : tree.MemberDeclarators → Bool
is_no_declarator tree.NoDeclarator = true
is_no_declarator declarators = false

abbrev pub is_no_enumerator : tree.Enumerators → Bool
is_no_enumerator tree.NoEnumerator = true
is_no_enumerator enumerators = false

abbrev pub is_no_item : tree.Items → Bool
is_no_item tree.NoItem = true
is_no_item items = false

abbrev mutual
  -- each child stands at a level that needs no parentheses there, and a name is no typedef name
  pub IsExpr : Language → TypeNames → tree.Expr → Type 0
  IsExpr lang names (tree.Name name) = is_type_name names name.bytes ≡ false
  IsExpr lang names (tree.Integer type value place) = ⊤
  IsExpr lang names (tree.Character value place) = ⊤
  IsExpr lang names (tree.String pieces) = 0 < length pieces
  IsExpr lang names (tree.Paren at e) = IsExpr lang names e
  IsExpr lang names (tree.Index e at index) = IsExpr lang names e × (postfix_level ≤ level e) × IsExpr lang names index
  IsExpr lang names (tree.Call e at arguments) = IsExpr lang names e × (postfix_level ≤ level e) × AreArguments lang names arguments
  IsExpr lang names (tree.Member e op at name) = IsExpr lang names e × (postfix_level ≤ level e)
  IsExpr lang names (tree.Postfix e step at) = IsExpr lang names e × (postfix_level ≤ level e)
  IsExpr lang names (tree.Prefix op at e) = IsExpr lang names e × (operand_level op ≤ level e)
  IsExpr lang names (tree.SizeOfType at paren type) = IsTypeName lang names type
  IsExpr lang names (tree.Cast at type e) = IsTypeName lang names type × IsExpr lang names e × (cast_level ≤ level e)
  IsExpr lang names (tree.Infix op left at right) = IsExpr lang names left × (precedence op ≤ level left) × IsExpr lang names right × (suc (precedence op) ≤ level right)
  IsExpr lang names (tree.Conditional test at then_ else_) =
      IsExpr lang names test × (logical_or_level ≤ level test) × IsExpr lang names then_ × IsExpr lang names else_ × (conditional_level ≤ level else_)
  IsExpr lang names (tree.Assign op left at right) = IsExpr lang names left × (unary_level ≤ level left) × IsExpr lang names right × (assignment_level ≤ level right)
  IsExpr lang names (tree.Comma left right) = IsExpr lang names left × IsExpr lang names right × (assignment_level ≤ level right)
  IsExpr lang names (tree.Compound at type brace) = IsExtended lang × IsTypeName lang names type
  IsExpr lang names (tree.SizeOfCompound at paren type brace) = IsExtended lang × IsTypeName lang names type

  pub AreArguments : Language → TypeNames → tree.Arguments → Type 0
  AreArguments lang names tree.NoArgument = ⊤
  AreArguments lang names (tree.AndArgument arguments e) = AreArguments lang names arguments × IsExpr lang names e × (assignment_level ≤ level e)

  pub IsTypeName : Language → TypeNames → tree.TypeName → Type 0
  IsTypeName lang names (tree.Named specifiers declared) =
      AreSpecifiers lang names InType specifiers × (has_type specifiers ≡ true) × IsDeclared lang names WithoutName declared

  -- each word may stand there, and `long` stands once at most
  pub AreSpecifiers : Language → TypeNames → Scope → tree.Specifiers → Type 0
  AreSpecifiers lang names scope tree.NoSpecifier = ⊤
  AreSpecifiers lang names scope (tree.AndSpecifier specifiers specifier) =
      AreSpecifiers lang names scope specifiers × IsSpecifier lang names scope specifier
      × (IsExtended lang ⊎ ((is_long specifier && has_long specifiers) ≡ false))

  pub IsSpecifier : Language → TypeNames → Scope → tree.Specifier → Type 0
  IsSpecifier lang names scope (tree.Keyword word) = may_specify scope word.keyword ≡ true
  IsSpecifier lang names scope (tree.Typedef name) = is_type_name names name.bytes ≡ true
  IsSpecifier lang names scope (tree.Tagged kind at tag) = ⊤
  IsSpecifier lang names scope (tree.Aggregate kind at tag brace members) = AreMembers lang names members
  IsSpecifier lang names scope (tree.Enum at tag) = ⊤
  IsSpecifier lang names scope (tree.Enumeration at tag brace enumerators comma) =
      AreEnumerators lang names enumerators × (is_no_enumerator enumerators ≡ false)

  pub AreMembers : Language → TypeNames → tree.Members → Type 0
  AreMembers lang names tree.NoMember = ⊤
  AreMembers lang names (tree.AndMember members specifiers declarators) =
      AreMembers lang names members × AreSpecifiers lang names InType specifiers × (has_type specifiers ≡ true)
      × AreMemberDeclarators lang names declarators × (is_no_declarator declarators ≡ false)

  pub AreMemberDeclarators : Language → TypeNames → tree.MemberDeclarators → Type 0
  AreMemberDeclarators lang names tree.NoDeclarator = ⊤
  AreMemberDeclarators lang names (tree.AndDeclarator declarators d) = AreMemberDeclarators lang names declarators × IsDeclarator lang names WithName d
  AreMemberDeclarators lang names (tree.AndBitField declarators d) =
      IsExtended lang × AreMemberDeclarators lang names declarators × IsDeclarator lang names WithName d
  AreMemberDeclarators lang names (tree.AndUnnamedBitField declarators) = IsExtended lang × AreMemberDeclarators lang names declarators

  pub AreEnumerators : Language → TypeNames → tree.Enumerators → Type 0
  AreEnumerators lang names tree.NoEnumerator = ⊤
  AreEnumerators lang names (tree.AndEnumerator enumerators name) = AreEnumerators lang names enumerators × (is_type_name names name.bytes ≡ false)
  AreEnumerators lang names (tree.AndValued enumerators name at e) =
      AreEnumerators lang names enumerators × (is_type_name names name.bytes ≡ false) × IsExpr lang names e × (conditional_level ≤ level e)

  pub IsDeclarator : Language → TypeNames → Naming → tree.Declarator → Type 0
  IsDeclarator lang names naming (tree.Declares stars core parts) =
      All HasQualifiers stars × IsCore lang names naming core × AreParts lang names parts × IsSome stars core parts

  pub IsCore : Language → TypeNames → Naming → tree.Core → Type 0
  IsCore lang names naming (tree.Names name) = MayName naming × (is_type_name names name.bytes ≡ false)
  IsCore lang names naming tree.Unnamed = MayOmitName naming
  IsCore lang names naming (tree.Nested at d) = IsDeclarator lang names naming d

  pub AreParts : Language → TypeNames → tree.Parts → Type 0
  AreParts lang names tree.NoPart = ⊤
  AreParts lang names (tree.AndArray parts at words) = AreParts lang names parts × (are_qualifiers words ≡ true)
  AreParts lang names (tree.AndSizedArray parts at words e) =
      AreParts lang names parts × (are_array_words words ≡ true) × IsExpr lang names e × (assignment_level ≤ level e)
  AreParts lang names (tree.AndFunction parts at parameters) = AreParts lang names parts × AreParameters lang names parameters

  pub AreParameters : Language → TypeNames → tree.Parameters → Type 0
  AreParameters lang names tree.NoParameter = ⊤
  AreParameters lang names (tree.AndParameter parameters specifiers declared) =
      AreParameters lang names parameters × AreSpecifiers lang names InBlock specifiers × (has_type specifiers ≡ true) × IsDeclared lang names WithOrWithout declared

  pub IsDeclared : Language → TypeNames → Naming → tree.Declared → Type 0
  IsDeclared lang names naming tree.NotDeclared = ⊤
  IsDeclared lang names naming (tree.DeclaredBy d) = IsDeclarator lang names naming d

abbrev mutual
  pub IsInitialiser : Language → TypeNames → tree.Initialiser → Type 0
  IsInitialiser lang names (tree.Value e) = IsExpr lang names e × (assignment_level ≤ level e)
  IsInitialiser lang names (tree.Listed brace items comma) = AreItems lang names items × (is_no_item items ≡ false)

  pub AreItems : Language → TypeNames → tree.Items → Type 0
  AreItems lang names tree.NoItem = ⊤
  AreItems lang names (tree.AndItem items initialiser) = AreItems lang names items × IsInitialiser lang names initialiser
  AreItems lang names (tree.AndMemberDesignator items at) = IsExtended lang × AreItems lang names items
  AreItems lang names (tree.AndIndexDesignator items at) = IsExtended lang × AreItems lang names items

-- The typedef names in force: those of the declarations before, each from the end of its declarator on.

abbrev mutual
  pub declared_name : tree.Declarator → Option (List ℕ)
  declared_name (tree.Declares stars core parts) = core_name core

  pub core_name : tree.Core → Option (List ℕ)
  core_name (tree.Names name) = Some name.bytes
  core_name tree.Unnamed = None
  core_name (tree.Nested at d) = declared_name d

abbrev pub with_name : TypeNames → Option (List ℕ) → TypeNames
with_name names None = names
with_name names (Some name) = name ∷ names

abbrev pub names_after : (is_typedef : Bool) → TypeNames → tree.Declarator → TypeNames
names_after true names d = with_name names (declared_name d)
names_after false names d = names

abbrev pub names_after_all : (is_typedef : Bool) → TypeNames → tree.InitDeclarators → TypeNames
names_after_all is_typedef names tree.NoInitDeclarator = names
names_after_all is_typedef names (tree.AndPlain declarators d) = names_after is_typedef (names_after_all is_typedef names declarators) d
names_after_all is_typedef names (tree.AndInitialised declarators d at initialiser) = names_after is_typedef (names_after_all is_typedef names declarators) d

abbrev pub names_after_declaration : TypeNames → tree.Declaration → TypeNames
names_after_declaration names (tree.Declare specifiers declarators) = names_after_all (has_typedef specifiers) names declarators

abbrev pub type_names : tree.TranslationUnit → TypeNames
type_names tree.NoExternal = []
type_names (tree.AndExternal unit d) = names_after_declaration (type_names unit) d
type_names (tree.AndFunctionBody unit specifiers d brace items) = names_after (has_typedef specifiers) (type_names unit) d

abbrev pub AreInitDeclarators : Language → TypeNames → (is_typedef : Bool) → tree.InitDeclarators → Type 0
AreInitDeclarators lang names is_typedef tree.NoInitDeclarator = ⊤
AreInitDeclarators lang names is_typedef (tree.AndPlain declarators d) =
    AreInitDeclarators lang names is_typedef declarators × IsDeclarator lang (names_after_all is_typedef names declarators) WithName d
AreInitDeclarators lang names is_typedef (tree.AndInitialised declarators d at initialiser) =
    AreInitDeclarators lang names is_typedef declarators × IsDeclarator lang (names_after_all is_typedef names declarators) WithName d
    × IsInitialiser lang (names_after is_typedef (names_after_all is_typedef names declarators) d) initialiser

abbrev pub IsDeclaration : Language → TypeNames → Scope → tree.Declaration → Type 0
IsDeclaration lang names scope (tree.Declare specifiers declarators) =
    AreSpecifiers lang names scope specifiers × (has_type specifiers ≡ true) × AreInitDeclarators lang names (has_typedef specifiers) declarators

abbrev pub IsOptional : Language → TypeNames → Option tree.Expr → Type 0
IsOptional lang names None = ⊤
IsOptional lang names (Some e) = IsExpr lang names e

-- the statement ends with an `if` that has no `else`, so an `else` after it would belong to that
abbrev pub is_open : tree.Statement → Bool
is_open (tree.Block brace items) = false
is_open (tree.Express e) = false
is_open tree.Empty = false
is_open (tree.If at paren test s) = true
is_open (tree.IfElse at paren test s other) = is_open other
is_open (tree.Switch at paren e brace items) = false
is_open (tree.While at paren test s) = is_open s
is_open (tree.DoWhile s at paren test) = false
is_open (tree.For at paren first test step s) = is_open s
is_open (tree.ForDeclaration at paren first test step s) = is_open s
is_open (tree.Break at) = false
is_open (tree.Continue at) = false
is_open (tree.Return at e) = false

-- the last item is a label, so a statement has to follow
abbrev pub ends_in_label : tree.BlockItems → Bool
ends_in_label tree.NoBlockItem = false
ends_in_label (tree.AndStatement items s) = false
ends_in_label (tree.AndDeclaration items d) = false
ends_in_label (tree.AndCase items at e) = true
ends_in_label (tree.AndDefault items at) = true

abbrev mutual
  pub IsStatement : Language → TypeNames → tree.Statement → Type 0
  IsStatement lang names (tree.Block brace items) = AreBlockItems lang names false items × (ends_in_label items ≡ false)
  IsStatement lang names (tree.Express e) = IsExpr lang names e
  IsStatement lang names tree.Empty = ⊤
  IsStatement lang names (tree.If at paren test s) = IsExpr lang names test × IsStatement lang names s
  IsStatement lang names (tree.IfElse at paren test s other) =
      IsExpr lang names test × IsStatement lang names s × (is_open s ≡ false) × IsStatement lang names other
  IsStatement lang names (tree.Switch at paren e brace items) = IsExpr lang names e × AreBlockItems lang names true items × (ends_in_label items ≡ false)
  IsStatement lang names (tree.While at paren test s) = IsExpr lang names test × IsStatement lang names s
  IsStatement lang names (tree.DoWhile s at paren test) = IsStatement lang names s × IsExpr lang names test
  IsStatement lang names (tree.For at paren first test step s) =
      IsOptional lang names first × IsOptional lang names test × IsOptional lang names step × IsStatement lang names s
  IsStatement lang names (tree.ForDeclaration at paren first test step s) =
      IsDeclaration lang names InBlock first × IsOptional lang names test × IsOptional lang names step × IsStatement lang names s
  IsStatement lang names (tree.Break at) = ⊤
  IsStatement lang names (tree.Continue at) = ⊤
  IsStatement lang names (tree.Return at e) = IsOptional lang names e

  -- labels stand only where has_labels says so; after a label comes a label or a statement
  pub AreBlockItems : Language → TypeNames → (has_labels : Bool) → tree.BlockItems → Type 0
  AreBlockItems lang names has_labels tree.NoBlockItem = ⊤
  AreBlockItems lang names has_labels (tree.AndStatement items s) = AreBlockItems lang names has_labels items × IsStatement lang names s
  AreBlockItems lang names has_labels (tree.AndDeclaration items d) =
      AreBlockItems lang names has_labels items × (ends_in_label items ≡ false) × IsDeclaration lang names InBlock d
  AreBlockItems lang names has_labels (tree.AndCase items at e) =
      AreBlockItems lang names has_labels items × (has_labels ≡ true) × IsExpr lang names e × (conditional_level ≤ level e)
  AreBlockItems lang names has_labels (tree.AndDefault items at) = AreBlockItems lang names has_labels items × (has_labels ≡ true)

abbrev pub IsUnit : Language → tree.TranslationUnit → Type 0
IsUnit lang tree.NoExternal = ⊤
IsUnit lang (tree.AndExternal unit d) = IsUnit lang unit × IsDeclaration lang (type_names unit) AtFile d
IsUnit lang (tree.AndFunctionBody unit specifiers d brace items) =
    IsUnit lang unit × AreSpecifiers lang (type_names unit) AtFile specifiers × (has_type specifiers ≡ true) × IsDeclarator lang (type_names unit) WithName d
    × AreBlockItems lang (names_after (has_typedef specifiers) (type_names unit) d) false items × (ends_in_label items ≡ false)
