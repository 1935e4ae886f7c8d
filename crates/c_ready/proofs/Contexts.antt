-- What a walk over a unit stands in: the stage of its parts, the last list of names with linkage, and whether the part stands outside functions.
-- All that is said of a stage is said of the walk's.
use Rattle.std.proofs.Common.{ℕ, Bool, false, List, [], Option}
use Rattle.cc_base.specs.declared.place.Place.{Place}
use Rattle.cc_base.specs.declared.number.NodeId.{NodeId}
use Rattle.cc_base.specs.declared.number.TypeId.{TypeId}
use Rattle.c_types.specs.Table.{Table}
use Rattle.c_tree.specs.declared.leaf.Identifier.{Identifier}
use Rattle.c_tree.specs.declared.operator.Assignment.{Assignment}
use Rattle.c_tree.specs.declared.typed_word.Conversion.{Conversion}
use Rattle.c_tree.specs.declared.typed_word.Home.{Home}
use Rattle.c_tree.specs.TypedTree.{TypedExpr, TypedPlace, TypedArguments, TypedTypeName, TypedSpecifiers, TypedSpecifierList, TypedSpecifier, TypedMembers, TypedMemberDeclarators, TypedEnumerators, TypedDeclarator, TypedForm, TypedCore, TypedParts, TypedParameters, TypedDeclared, TypedInitialiser, TypedItems, TypedInitDeclarators, TypedDeclaration, TypedStatement, TypedBlockItems}
use Rattle.c_tree.specs.TypedParts.{DefinedFunction}
use Rattle.c_typing.specs.declared.declared.Declared.{Declared}
use Rattle.c_typing.specs.Scopes.{Name}
use Rattle.c_unit_typing.specs.Units.{Around}
use Rattle.c_ready.specs.Ready
use Rattle.c_ready.specs.Ready.{Stage, Named}

pub record Context : Type 0 where
  pub table : Table
  pub nodes : ℕ
  pub variables : List Named
  pub statics : List Named
  pub literals : List Named
  pub functions : List DefinedFunction
  pub declarators : List TypedDeclarator
  pub linked : List (Name × Declared)
  pub runs : Bool
  pub calls : Bool
  pub file : Bool

abbrev pub stage : Context → Stage
stage k = record {
  table = k.table;
  nodes = k.nodes;
  variables = k.variables;
  statics = k.statics;
  literals = k.literals;
  functions = k.functions;
  declarators = k.declarators;
  runs = k.runs;
  calls = k.calls;
}

-- outside functions, with the last list of names with linkage
abbrev pub context_of : Stage → List (Name × Declared) → Context
context_of s linked = record {
  table = s.table;
  nodes = s.nodes;
  variables = s.variables;
  statics = s.statics;
  literals = s.literals;
  functions = s.functions;
  declarators = s.declarators;
  linked = linked;
  runs = s.runs;
  calls = s.calls;
  file = false;
}

abbrev pub unread : Context → Context
unread k = record k { variables = []; runs = false; calls = false; file = false }

abbrev pub before_main : Context → Context
before_main k = record k { variables = []; calls = false; file = false }

abbrev pub IsObjectOf : Bool → Context → NodeId → TypeId → Type 0
IsObjectOf b k h t = Ready.IsObjectOf b (stage k) h t

abbrev pub IsNode : Context → NodeId → Type 0
IsNode k a = Ready.IsNode (stage k) a

abbrev pub IsWhole : Context → TypeId → Type 0
IsWhole k a = Ready.IsWhole (stage k) a

abbrev pub IsPointerToWhole : Context → TypeId → Type 0
IsPointerToWhole k a = Ready.IsPointerToWhole (stage k) a

abbrev pub IsStepped : Context → TypeId → Type 0
IsStepped k a = Ready.IsStepped (stage k) a

abbrev pub IsReady : Context → TypedExpr → Type 0
IsReady k a = Ready.IsReady (stage k) a

abbrev pub IsReadyPlace : Context → TypedPlace → Type 0
IsReadyPlace k a = Ready.IsReadyPlace (stage k) a

abbrev pub AreReady : Context → TypedArguments → Type 0
AreReady k a = Ready.AreReady (stage k) a

abbrev pub IsObjectDeclared : Context → NodeId → TypeId → Type 0
IsObjectDeclared k a b = Ready.IsObjectDeclared (stage k) a b

abbrev pub IsFunctionDeclared : Context → Name → TypeId → Type 0
IsFunctionDeclared k a b = Ready.IsFunctionDeclared (stage k) a b

abbrev pub IsStaticNamed : Context → NodeId → TypeId → Type 0
IsStaticNamed k a b = Ready.IsStaticNamed (stage k) a b

abbrev pub IsFunctionNamed : Context → Identifier → ℕ → NodeId → TypeId → Type 0
IsFunctionNamed k a b c d = Ready.IsFunctionNamed (stage k) a b c d

abbrev pub Fits : Context → Conversion → TypeId → TypeId → Type 0
Fits k a b c = Ready.Fits (stage k) a b c

abbrev pub IsMember : Context → TypeId → ℕ → NodeId → TypeId → Type 0
IsMember k a b c d = Ready.IsMember (stage k) a b c d

abbrev pub IsStored : Context → TypeId → TypedExpr → Type 0
IsStored k a b = Ready.IsStored (stage k) a b

abbrev pub IsUpdated : Context → Assignment → TypedPlace → Place → TypedExpr → TypeId → Type 0
IsUpdated k a b c d e = Ready.IsUpdated (stage k) a b c d e

abbrev pub IsPointerUpdated : Context → Assignment → TypedPlace → TypedExpr → TypeId → Type 0
IsPointerUpdated k a b c d = Ready.IsPointerUpdated (stage k) a b c d

abbrev pub MayCall : Context → Type 0
MayCall k = Ready.MayCall (stage k)

abbrev pub IsLiteral : Context → NodeId → TypeId → Type 0
IsLiteral k a b = Ready.IsLiteral (stage k) a b

abbrev pub IsReadyTypeName : Context → TypedTypeName → Type 0
IsReadyTypeName k a = Ready.IsReadyTypeName (stage k) a

abbrev pub AreReadySpecifiers : Context → TypedSpecifiers → Type 0
AreReadySpecifiers k a = Ready.AreReadySpecifiers (stage k) a

abbrev pub AreReadyListed : Context → TypedSpecifierList → Type 0
AreReadyListed k a = Ready.AreReadyListed (stage k) a

abbrev pub IsReadySpecifier : Context → TypedSpecifier → Type 0
IsReadySpecifier k a = Ready.IsReadySpecifier (stage k) a

abbrev pub AreReadyMembers : Context → TypedMembers → Type 0
AreReadyMembers k a = Ready.AreReadyMembers (stage k) a

abbrev pub AreReadyMemberDeclarators : Context → TypedMemberDeclarators → Type 0
AreReadyMemberDeclarators k a = Ready.AreReadyMemberDeclarators (stage k) a

abbrev pub AreReadyEnumerators : Context → TypedEnumerators → Type 0
AreReadyEnumerators k a = Ready.AreReadyEnumerators (stage k) a

abbrev pub IsReadyForm : Context → TypedForm → Type 0
IsReadyForm k a = Ready.IsReadyForm (stage k) a

abbrev pub IsReadyCore : Context → TypedCore → Type 0
IsReadyCore k a = Ready.IsReadyCore (stage k) a

abbrev pub AreReadyParts : Context → TypedParts → Type 0
AreReadyParts k a = Ready.AreReadyParts (stage k) a

abbrev pub AreReadyParameters : Context → TypedParameters → Type 0
AreReadyParameters k a = Ready.AreReadyParameters (stage k) a

abbrev pub IsReadyDeclared : Context → TypedDeclared → Type 0
IsReadyDeclared k a = Ready.IsReadyDeclared (stage k) a

abbrev pub IsReadyInitialiser : Context → TypeId → TypedInitialiser → Type 0
IsReadyInitialiser k a b = Ready.IsReadyInitialiser (stage k) a b

abbrev pub AreReadyItems : Context → Bool → TypeId → TypedItems → Type 0
AreReadyItems k a b c = Ready.AreReadyItems (stage k) a b c

abbrev pub IsReadyHome : Context → Home → TypeId → Type 0
IsReadyHome k a b = Ready.IsReadyHome (stage k) a b

abbrev pub IsReadyOptional : Context → Option TypedExpr → Type 0
IsReadyOptional k a = Ready.IsReadyOptional (stage k) a

abbrev pub IsReadyTest : Context → TypedExpr → Type 0
IsReadyTest k a = Ready.IsReadyTest (stage k) a

abbrev pub IsReadyTestOrNone : Context → Option TypedExpr → Type 0
IsReadyTestOrNone k a = Ready.IsReadyTestOrNone (stage k) a

abbrev pub IsReadyReturn : Context → TypeId → Option TypedExpr → Type 0
IsReadyReturn k a b = Ready.IsReadyReturn (stage k) a b

abbrev pub AreReadyDeclarators : Context → Context → TypedInitDeclarators → Type 0
AreReadyDeclarators k static a = Ready.AreReadyDeclarators (stage k) (stage static) a

abbrev pub IsReadyDeclaration : Context → Context → TypedDeclaration → Type 0
IsReadyDeclaration k static a = Ready.IsReadyDeclaration (stage k) (stage static) a

abbrev pub IsReadyStatement : Context → Context → Around → TypedStatement → Type 0
IsReadyStatement k static a b = Ready.IsReadyStatement (stage k) (stage static) a b

abbrev pub AreReadyBlockItems : Context → Context → Around → Option TypeId → TypedBlockItems → Type 0
AreReadyBlockItems k static a b c = Ready.AreReadyBlockItems (stage k) (stage static) a b c
