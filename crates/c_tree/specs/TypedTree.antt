-- The typed tree of a unit as plain data: the tree with the type of each expression, with what each name stands for, and with what C does
-- without being told. Pointer types have their nodes in them; a constructor that makes a node names it. A list has its last element apart.
use Rattle.std.specs.Prelude.{ℕ, ℤ, Bool, List, Option}
use Rattle.cc_base.specs.declared.place.Place.{Place}
use Rattle.cc_base.specs.declared.number.NodeId.{NodeId}
use Rattle.cc_base.specs.declared.number.TypeId.{TypeId}
use Rattle.c_lexer.specs.declared.number.IntegerType.{IntegerType}
use Rattle.c_tree.specs.declared.leaf.Identifier.{Identifier}
use Rattle.c_tree.specs.declared.leaf.StringPiece.{StringPiece}
use Rattle.c_tree.specs.declared.leaf.Word.{Word}
use Rattle.c_tree.specs.declared.operator.AggregateKind.{AggregateKind}
use Rattle.c_tree.specs.declared.operator.Assignment.{Assignment}
use Rattle.c_tree.specs.declared.operator.Binary.{Binary}
use Rattle.c_tree.specs.declared.operator.Step.{Step}
use Rattle.c_tree.specs.declared.operator.Unary.{Unary}
use Rattle.c_tree.specs.declared.typed_word.Adjusted.{Adjusted}
use Rattle.c_tree.specs.declared.typed_word.Conversion.{Conversion}
use Rattle.c_tree.specs.declared.typed_word.Home.{Home}
use Rattle.c_tree.specs.declared.typed_word.Runtime.{Runtime}
use Rattle.c_tree.specs.declared.typed_word.Side.{Side}
use Rattle.c_tree.specs.declared.typed_word.TypedStar.{TypedStar}

mutual
  -- An expression that has a value. A place whose value or address is taken is one by `Read`, `Unread` or `Decay`.
  pub data TypedExpr : Type 0 where
    -- an integer constant and its type
    Integer : IntegerType → ℕ → Place → TypeId → TypedExpr
    -- a character constant, which is an int
    Character : ℤ → Place → TypeId → TypedExpr
    -- an enumeration constant and its value
    Enumerator : Identifier → ℤ → TypeId → TypedExpr
    -- the address of the function that the unit defines under this number, counted from 0; silent (C99 6.3.2.1)
    FunctionName : Identifier → ℕ → NodeId → TypeId → TypedExpr
    -- a runtime function, where it is called: no value, so that its type is `void`
    RuntimeName : Identifier → Runtime → TypeId → TypedExpr
    Paren : Place → TypedExpr → TypedExpr
    -- the value of a scalar place; silent (C99 6.3.2.1)
    Read : TypedPlace → TypedExpr
    -- a struct or union that is evaluated and not read; silent
    Unread : TypedPlace → TypedExpr
    -- the address of an array's first element; silent (C99 6.3.2.1)
    Decay : TypedPlace → NodeId → TypeId → TypedExpr
    -- a conversion to the type, with the place where it is checked; silent (C99 6.3)
    Convert : Conversion → Place → TypeId → TypedExpr → TypedExpr
    -- `(` type name `)` e
    Cast : Conversion → Place → TypedTypeName → TypedExpr → TypedExpr
    -- `&` of a place, which is a part of its own
    AddressOf : Place → TypedPlace → NodeId → TypeId → TypedExpr
    -- `&*p`, which is p, and `&p[i]`, which is p + i (C99 6.5.3.2)
    AddressOfElement : Place → TypedPlace → TypeId → TypedExpr
    -- `&` of a function, and `*` of a pointer to one: the pointer itself (C99 6.5.3.2)
    AddressOfFunction : Place → TypedExpr → TypedExpr
    FunctionAt : Place → TypedExpr → TypedExpr
    -- `+`, `-`, `~` and `!`
    Prefix : Unary → Place → TypedExpr → TypeId → TypedExpr
    -- `sizeof`, with its value: of a place, of an expression that has a value, of a type name
    SizeOfPlace : Place → TypedPlace → ℕ → TypeId → TypedExpr
    SizeOfValue : Place → TypedExpr → ℕ → TypeId → TypedExpr
    SizeOfType : Place → Place → TypedTypeName → ℕ → TypeId → TypedExpr
    -- `++` and `--` before their operand, and after it
    StepBefore : Step → Place → TypedPlace → TypedExpr
    StepAfter : TypedPlace → Step → Place → TypedExpr
    -- an operator on integers, comparisons among them
    Arithmetic : Binary → TypedExpr → Place → TypedExpr → TypeId → TypedExpr
    -- a pointer plus or minus an integer
    Moved : Binary → Side → TypedExpr → Place → TypedExpr → TypeId → TypedExpr
    -- the difference of two pointers
    Difference : TypedExpr → Place → TypedExpr → TypeId → TypedExpr
    -- a comparison of two pointers
    Compared : Binary → TypedExpr → Place → TypedExpr → TypeId → TypedExpr
    -- `&&` and `||`
    Logical : Binary → TypedExpr → Place → TypedExpr → TypeId → TypedExpr
    -- `?:` of integers or of `void`, and of pointers
    Conditional : TypedExpr → Place → TypedExpr → TypedExpr → TypeId → TypedExpr
    PointerConditional : TypedExpr → Place → TypedExpr → TypedExpr → NodeId → TypeId → TypedExpr
    Comma : TypedExpr → TypedExpr → TypedExpr
    Assign : TypedPlace → Place → TypedExpr → TypedExpr
    -- a compound assignment, with the type in which it is computed
    AssignWith : Assignment → TypedPlace → Place → TypedExpr → TypeId → TypedExpr
    -- a call through a pointer to a function, and of a runtime function
    Call : TypedExpr → Place → TypedArguments → TypeId → TypedExpr
    CallRuntime : Runtime → TypedExpr → Place → TypedArguments → TypeId → TypedExpr
    -- a call of `malloc` or `calloc`: its block is made for `void`, or for what the pointer type points to that takes the call over
    Allocate : Runtime → TypedExpr → Place → TypedArguments → NodeId → TypeId → TypedExpr
    AllocateFor : Runtime → TypedExpr → Place → TypedArguments → TypeId → TypedExpr

  -- An expression that designates an object or a part of one. An object is named by the node of its home.
  pub data TypedPlace : Type 0 where
    Variable : Identifier → NodeId → TypeId → TypedPlace
    -- adjacent string literals; the home is the literal's
    String : List StringPiece → NodeId → TypeId → TypedPlace
    ParenPlace : Place → TypedPlace → TypedPlace
    -- `*` e
    Target : Place → TypedExpr → TypeId → TypedPlace
    -- e `[` e `]`
    Element : Side → TypedExpr → Place → TypedExpr → TypeId → TypedPlace
    -- e `.` name, e `->` name, with the number of the member, the node of its place and its type
    Member : TypedPlace → Place → Identifier → ℕ → NodeId → TypeId → TypedPlace
    MemberAt : TypedExpr → Place → Identifier → ℕ → NodeId → TypeId → TypedPlace
    -- structs and unions that are values: they may be read in parts, not written
    StructAssign : TypedPlace → Place → TypedPlace → TypedPlace
    StructConditional : TypedExpr → Place → TypedPlace → TypedPlace → TypedPlace
    StructComma : TypedExpr → TypedPlace → TypedPlace

  pub data TypedArguments : Type 0 where
    NoArgument : TypedArguments
    AndArgument : TypedArguments → TypedExpr → TypedArguments

  pub data TypedTypeName : Type 0 where
    Named : TypedSpecifiers → TypedDeclared → TypeId → TypedTypeName

  -- a list of specifiers, and the type that they name together
  pub data TypedSpecifiers : Type 0 where
    Specified : TypedSpecifierList → TypeId → TypedSpecifiers

  pub data TypedSpecifierList : Type 0 where
    NoSpecifier : TypedSpecifierList
    AndSpecifier : TypedSpecifierList → TypedSpecifier → TypedSpecifierList

  pub data TypedSpecifier : Type 0 where
    Keyword : Word → TypedSpecifier
    Typedef : Identifier → TypeId → TypedSpecifier
    Tagged : AggregateKind → Place → Identifier → TypeId → TypedSpecifier
    Aggregate : AggregateKind → Place → Option Identifier → Place → TypedMembers → TypeId → TypedSpecifier
    Enum : Place → Identifier → TypedSpecifier
    Enumeration : Place → Option Identifier → Place → TypedEnumerators → Bool → TypedSpecifier

  pub data TypedMembers : Type 0 where
    NoMember : TypedMembers
    AndMember : TypedMembers → TypedSpecifiers → TypedMemberDeclarators → TypedMembers

  pub data TypedMemberDeclarators : Type 0 where
    NoDeclarator : TypedMemberDeclarators
    AndDeclarator : TypedMemberDeclarators → TypedDeclarator → TypedMemberDeclarators

  -- enumerators with their values
  pub data TypedEnumerators : Type 0 where
    NoEnumerator : TypedEnumerators
    AndEnumerator : TypedEnumerators → Identifier → ℤ → TypedEnumerators
    AndValued : TypedEnumerators → Identifier → Place → TypedExpr → ℤ → TypedEnumerators

  -- a declarator, and the type that it gives to its name
  pub data TypedDeclarator : Type 0 where
    Declares : TypedForm → TypeId → TypedDeclarator

  -- stars, then a name, nothing or a form in parentheses, then array and function parts
  pub data TypedForm : Type 0 where
    Form : List TypedStar → TypedCore → TypedParts → TypedForm

  pub data TypedCore : Type 0 where
    Names : Identifier → Home → TypedCore
    Unnamed : TypedCore
    Nested : Place → TypedForm → TypedCore

  pub data TypedParts : Type 0 where
    NoPart : TypedParts
    -- an array part without a size
    AndArray : TypedParts → Place → List Word → TypedParts
    -- an array part with the value of its size
    AndSizedArray : TypedParts → Place → List Word → TypedExpr → ℕ → TypedParts
    AndFunction : TypedParts → Place → TypedParameters → TypedParts

  -- parameters, each with its type as the function has it; where that is a pointer made of an array or a function (C99 6.7.5.3), its node and place
  pub data TypedParameters : Type 0 where
    NoParameter : TypedParameters
    AndParameter : TypedParameters → TypedSpecifiers → TypedDeclared → Option Adjusted → TypeId → TypedParameters

  pub data TypedDeclared : Type 0 where
    NotDeclared : TypedDeclared
    DeclaredBy : TypedForm → TypedDeclared

-- Initialisers (C99 6.7.8).
mutual
  pub data TypedInitialiser : Type 0 where
    -- a value, converted to the type of what it initialises
    Value : TypedExpr → TypedInitialiser
    -- a struct or union that is copied, with the place of the `=` or of the item's first token
    Copied : TypedPlace → Place → TypedInitialiser
    -- a string literal that initialises an array of char, with its bytes as far as they fit
    Text : List StringPiece → List ℕ → TypedInitialiser
    -- what is listed in braces, after the whole of the type is set to zero
    Listed : Place → TypedItems → Bool → TypeId → TypedInitialiser

  -- items with the offset of what each initialises in what is listed, and its type
  pub data TypedItems : Type 0 where
    NoItem : TypedItems
    AndItem : TypedItems → ℕ → TypeId → TypedInitialiser → TypedItems

pub data TypedInitDeclarators : Type 0 where
  NoInitDeclarator : TypedInitDeclarators
  AndPlain : TypedInitDeclarators → TypedDeclarator → TypedInitDeclarators
  AndInitialised : TypedInitDeclarators → TypedDeclarator → Place → TypedInitialiser → TypedInitDeclarators

pub data TypedDeclaration : Type 0 where
  Declare : TypedSpecifiers → TypedInitDeclarators → TypedDeclaration

-- Statements (C99 6.8). A condition is a scalar.
mutual
  pub data TypedStatement : Type 0 where
    Block : Place → TypedBlockItems → TypedStatement
    Express : TypedExpr → TypedStatement
    Empty : TypedStatement
    If : Place → Place → TypedExpr → TypedStatement → TypedStatement
    IfElse : Place → Place → TypedExpr → TypedStatement → TypedStatement → TypedStatement
    Switch : Place → Place → TypedExpr → Place → TypedBlockItems → TypedStatement
    While : Place → Place → TypedExpr → TypedStatement → TypedStatement
    DoWhile : TypedStatement → Place → Place → TypedExpr → TypedStatement
    For : Place → Place → Option TypedExpr → Option TypedExpr → Option TypedExpr → TypedStatement → TypedStatement
    ForDeclaration : Place → Place → TypedDeclaration → Option TypedExpr → Option TypedExpr → TypedStatement → TypedStatement
    Break : Place → TypedStatement
    Continue : Place → TypedStatement
    -- the value is converted to the result's type
    Return : Place → Option TypedExpr → TypedStatement

  pub data TypedBlockItems : Type 0 where
    NoBlockItem : TypedBlockItems
    AndStatement : TypedBlockItems → TypedStatement → TypedBlockItems
    AndDeclaration : TypedBlockItems → TypedDeclaration → TypedBlockItems
    -- `case`, with its value converted to the type of the `switch`
    AndCase : TypedBlockItems → Place → TypedExpr → ℤ → TypedBlockItems
    AndDefault : TypedBlockItems → Place → TypedBlockItems

pub data TypedTranslationUnit : Type 0 where
  NoExternal : TypedTranslationUnit
  AndExternal : TypedTranslationUnit → TypedDeclaration → TypedTranslationUnit
  AndFunctionBody : TypedTranslationUnit → TypedSpecifiers → TypedDeclarator → Place → TypedBlockItems → TypedTranslationUnit
