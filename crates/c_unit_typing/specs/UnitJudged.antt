-- What laws say of what the judging of units gives: it is well typed from what is known before to what is known after, it erases to the
-- tree that was judged, its nodes are numbered in the order of the text, and all is known again.
use Rattle.std.specs.Prelude.{◌≡◌, ◌≤◌, ◌<◌, Bool, true, false, Option, None, Some, IsTrue}
use Rattle.std.specs.List.{All}
use Rattle.cc_base.specs.declared.number.TypeId.{TypeId}
use Rattle.cc_base.specs.declared.place.Place.{Place}
use Rattle.c_types.specs.Table.{Table, IsType, shape_at, is_aggregate_shape}
use Rattle.c_tree.specs.Erasure.{erased, erased_initialiser, erased_items, erased_init_declarators, erased_optional, erased_declaration, erased_statement, erased_block_items, erased_unit}
use Rattle.c_tree.specs.Tree as tree
use Rattle.c_tree.specs.TypedTree.{TypedExpr, TypedInitialiser, TypedItems, TypedInitDeclarators, TypedDeclaration, TypedStatement, TypedBlockItems, TypedSpecifiers, TypedTranslationUnit}
use Rattle.c_tree.specs.TypedParts.{type_of, specified_type, made_by_init_declarators, made_by_declaration, made_by_statement, made_by_block_items, made_by_unit}
use Rattle.integers.specs.Arithmetic.{IntegerType}
use Rattle.c_typing.specs.declared.declared.Declared.{Declared}
use Rattle.c_typing.specs.declared.declared.Declared.TheVariants as declared
use Rattle.c_typing.specs.Extensions.{IsExtended}
use Rattle.c_typing.specs.Judging as judging
use Rattle.c_typing.specs.Judging.{State}
use Rattle.c_typing.specs.Rules.{IsPromoted}
use Rattle.c_typing.specs.Scopes.{Name, entry_of}
use Rattle.c_typing.specs.Settled.{IsThere, IsKnown, GoesOn}
use Rattle.c_typing.specs.Shapes.{integer_at}
use Rattle.c_typing.specs.Typing.{IsTyped}
use Rattle.c_typing_laws.specs.Numbers.{AreNumberedFrom}
use Rattle.c_type_order.specs.Uses.{IsUsed}
use Rattle.c_unit_typing.specs.Initialisers.{IsInitialiser, AreItems, is_among}
use Rattle.c_unit_typing.specs.Units.{Known, Around, IsTestedOrNone, is_one_of, storage_of, AreDeclarators, IsDeclaration, IsStatement, AreDifferent, labels_of, defaults_in, IsUnitTyped}
use Rattle.c_unit_typing.specs.TypesUsed.{used_by_init_declarators, used_by_declaration, used_by_statement, used_by_block_items, used_by_unit}
use Rattle.c_unit_typing.specs.UnitJudging.{UnitState, Gives, known_of}
use Rattle.c_unit_typing.specs.UnitRefusals.{AreItemsSoFar}

-- what is known of types and names
abbrev pub state_of : UnitState → State
state_of s = judging.known s.table s.seen

-- the home of an object with linkage was given out, and lasts as long as the program
abbrev pub IsHomeKnown : UnitState → Declared → Type 0
IsHomeKnown s (declared.Object t n) = (n.0 < s.seen.node) × IsTrue (is_among s.linkage.statics n)
IsHomeKnown s what = Unit {0}

abbrev pub IsLinkedKnown : UnitState → Declared → Type 0
IsLinkedKnown s what = IsThere s.table what × IsHomeKnown s what

-- what is known between any two parts of a unit: the types of all that has linkage are in the table, and its homes are known
pub record IsUnitKnown (s : UnitState) : Type 0 where
  pub known : IsKnown (state_of s)
  pub linked : All (λ (e : Name × Declared). IsLinkedKnown s e.1) s.linkage.linked

-- the types go on, what has linkage or is defined stays so, and all is known again
pub record UnitGoesOn (before after : UnitState) : Type 0 where
  pub goes : GoesOn (state_of before) (state_of after)
  pub known : IsUnitKnown after
  pub linked : (name : Name) (what : Declared) → entry_of before.linkage.linked name ≡ Some what → entry_of after.linkage.linked name ≡ Some what
  pub defined : (name : Name) → is_one_of before.linkage.defined name ≡ true → is_one_of after.linkage.defined name ≡ true

-- an initialiser of an object of the type t; what is linked stays as it is
pub record IsInitialiserJudged (i : tree.Initialiser) (at : Place) (t : TypeId) (one : TypedInitialiser) (s r : UnitState) : Type 0 where
  pub typed : IsInitialiser r.table one at t s.seen.scopes r.seen.scopes
  pub erases : erased_initialiser one ≡ i
  pub linkage : r.linkage ≡ s.linkage
  pub goes : GoesOn (state_of s) (state_of r)

-- the items in the braces of an initialiser of the type t; `text` says that a literal by itself initialises the whole
pub record AreItemsJudged (all : tree.Items) (text : Bool) (t : TypeId) (list : TypedItems) (s r : UnitState) : Type 0 where
  pub typed : AreItems r.table list text t s.seen.scopes r.seen.scopes
  pub erases : erased_items list ≡ all
  pub linkage : r.linkage ≡ s.linkage
  pub goes : GoesOn (state_of s) (state_of r)

-- so it is over each table that goes on from this one: what is judged later adds types
abbrev pub OverLater : Table → (Table → Type 0) → Type 0
OverLater table P = (later : Table) → IsExtended table later → P later

-- an expression of a statement, or none, of which so much is said
pub record IsOptionJudged (P : Table → Option TypedExpr → Known → Known → Type 0) (e : Option tree.Expr) (v : Option TypedExpr) (s r : UnitState) : Type 0 where
  pub typed : OverLater r.table (λ T. P T v (known_of s) (known_of r))
  pub erases : erased_optional v ≡ e
  pub linkage : r.linkage ≡ s.linkage
  pub goes : GoesOn (state_of s) (state_of r)

-- what a function may give: no struct
pub record IsResult (table : Table) (t : TypeId) : Type 0 where
  pub there : IsType table t
  pub no_struct : is_aggregate_shape (shape_at table t) ≡ false

-- a condition that passes its test, or none; nothing else becomes of the statement
pub record IsTestPassed (c : Option TypedExpr) (k k' : Known) (one whole : TypedStatement) (s r : UnitState) : Type 0 where
  pub typed : OverLater s.table (λ T. IsTestedOrNone T c k k')
  pub same : Gives one s ≡ Gives whole r

-- what a `switch` is on: a promoted integer
pub record IsSwitchJudged (at : Place) (e : tree.Expr) (c : TypedExpr) (s r : UnitState) : Type 0 where
  pub typed : OverLater r.table (λ T. IsTyped T c s.seen.scopes r.seen.scopes × IsPromoted T at c (type_of c))
  pub erases : erased c ≡ e
  pub linkage : r.linkage ≡ s.linkage
  pub goes : GoesOn (state_of s) (state_of r)

-- what a `switch` is on, if one is around: its type is in the table
abbrev pub IsSwitchThere : Table → Option TypeId → Type 0
IsSwitchThere table None = Unit {0}
IsSwitchThere table (Some t) = IsType table t

-- it is on an integer
abbrev pub IsOnInteger : Table → Option TypeId → Type 0
IsOnInteger table None = Unit {0}
IsOnInteger table (Some t) = (k : IntegerType) × (integer_at table t ≡ Some k)

-- declarators behind specifiers of this storage and type
pub record AreDeclaratorsJudged (file : Bool) (base : TypedSpecifiers) (all : tree.InitDeclarators) (list : TypedInitDeclarators) (s r : UnitState) : Type 0 where
  pub typed : OverLater r.table (λ T. AreDeclarators T file (storage_of base) (specified_type base) list (known_of s) (known_of r))
  pub erases : erased_init_declarators list ≡ all
  pub numbers : AreNumberedFrom (made_by_init_declarators list) (state_of s) (state_of r)
  pub types : IsUsed (λ U. used_by_init_declarators U list) s.table r.table
  pub goes : UnitGoesOn s r

pub record IsDeclarationJudged (file : Bool) (d : tree.Declaration) (one : TypedDeclaration) (s r : UnitState) : Type 0 where
  pub typed : OverLater r.table (λ T. IsDeclaration T file one (known_of s) (known_of r))
  pub erases : erased_declaration one ≡ d
  pub numbers : AreNumberedFrom (made_by_declaration one) (state_of s) (state_of r)
  pub types : IsUsed (λ U. used_by_declaration U one) s.table r.table
  pub goes : UnitGoesOn s r

pub record IsStatementJudged (a : Around) (t : tree.Statement) (one : TypedStatement) (s r : UnitState) : Type 0 where
  pub typed : OverLater r.table (λ T. IsStatement T a one (known_of s) (known_of r))
  pub erases : erased_statement one ≡ t
  pub numbers : AreNumberedFrom (made_by_statement one) (state_of s) (state_of r)
  pub types : IsUsed (λ U. used_by_statement U one) s.table r.table
  pub goes : UnitGoesOn s r

-- what a block holds, where its `switch` may be on no integer; no two of its labels are alike
pub record AreBlockItemsJudged (a : Around) (on : Option TypeId) (all : tree.BlockItems) (list : TypedBlockItems) (s r : UnitState) : Type 0 where
  pub typed : OverLater r.table (λ T. AreItemsSoFar T a on list (known_of s) (known_of r))
  pub labels : AreDifferent (labels_of list)
  pub defaults : defaults_in list ≤ 1
  pub erases : erased_block_items list ≡ all
  pub numbers : AreNumberedFrom (made_by_block_items list) (state_of s) (state_of r)
  pub types : IsUsed (λ U. used_by_block_items U list) s.table r.table
  pub goes : UnitGoesOn s r

-- a unit
pub record IsUnitJudged (u : tree.TranslationUnit) (whole : TypedTranslationUnit) (s r : UnitState) : Type 0 where
  pub typed : OverLater r.table (λ T. IsUnitTyped T whole (known_of s) (known_of r))
  pub erases : erased_unit whole ≡ u
  pub numbers : AreNumberedFrom (made_by_unit whole) (state_of s) (state_of r)
  pub types : IsUsed (λ U. used_by_unit U whole) s.table r.table
  pub goes : UnitGoesOn s r
