-- Units written out on which a fact of readiness is easily false, by computation.
use Rattle.std.proofs.Common.{◌≡◌, ◌≢◌, ℕ, suc, ◌<◌, ◌≤◌, length, List, [], ◌∷◌, ◌++◌, Some, None, refl, inl, inr, codes, lit<, arith}
use Rattle.std.proofs.lemmas.List.Elements.{All-nil, All-cons, All-contains}
use Rattle.cc_base.specs.declared.place.Place.{Place}
use Rattle.cc_base.specs.declared.number.NodeId.{NodeId}
use Rattle.cc_base.specs.declared.number.TypeId.{TypeId}
use Rattle.integers.specs.Arithmetic.{int, unsigned_long}
use Rattle.c_types.specs.declared.shape.TypeShape.TheVariants.{Pointer, Function, Struct}
use Rattle.c_types.specs.Table.{Table, members_at}
use Rattle.c_types.specs.Calls.{basic_table, basic_entry}
use Rattle.c_types.specs.Layouts.{layout_of}
use Rattle.c_types.specs.Sameness.{IsSameType, is_same_type}
use Rattle.c_lexer.specs.declared.number.IntegerType.TheVariants as constant
use Rattle.c_lexer.specs.declared.word.Keyword.{Keyword}
use Rattle.c_lexer.specs.declared.word.Keyword.TheVariants as keyword
use Rattle.c_tree.specs.declared.leaf.Identifier.{Identifier}
use Rattle.c_tree.specs.declared.operator.AggregateKind.TheVariants as aggregate
use Rattle.c_tree.specs.declared.typed_word.Conversion.TheVariants as conversion
use Rattle.c_tree.specs.declared.typed_word.Home.{Home}
use Rattle.c_tree.specs.declared.typed_word.Home.TheVariants as home
use Rattle.c_tree.specs.TypedTree as typed
use Rattle.c_tree.specs.TypedTree.{TypedExpr, TypedPlace, TypedTypeName, TypedSpecifiers, TypedSpecifierList, TypedDeclarator, TypedForm, TypedParameters, TypedBlockItems, TypedTranslationUnit}
use Rattle.c_tree.specs.TypedParts.{DefinedFunction, static_initialisers, made_by_unit, nodes_made}
use Rattle.c_unit_typing.proofs.TypedRow
use Rattle.c_ready.specs.Ready.{Named, Stage, unread, body_stage, static_stage, variables_named, homes_of, member_nodes, IsReady, IsReadyPlace, IsReadyReturn, IsReadyUnit, IsMember, IsWritten}
use Rattle.c_ready.proofs.ReadyUnit.{well-typed-ready}

abbrev type : ℕ → TypeId
type n = record { 0 = n }

abbrev node : ℕ → NodeId
node n = record { 0 = n }

abbrev at : ℕ → Place
at col = record { line = 1; col = col }

abbrev name : List ℕ → Identifier
name bytes = record { bytes = bytes; place = at 1 }

abbrev words : List Keyword → TypedSpecifierList
words [] = typed.NoSpecifier
words (word ∷ rest) = typed.AndSpecifier (words rest) (typed.Keyword (record { keyword = word; place = at 1 }))

-- `struct S;struct S *q;struct S{int x;};static int x;extern int *p;int *p=&x;` and then
-- `int main(void){static int s;extern int x;int g(void);g();return q->x;}int g(void){return 0;}`

-- `int(void)`, `struct S`, the type of `q`, those of both declarations of `p`, of `&x`, and of `g` where it is called
abbrev table : Table
table =
    basic_table ++ basic_entry (Function [] (type 5)) ∷ record { shape = Struct 0; members = type 5 ∷ [] } ∷ basic_entry
    (Pointer (node 0) (type 10))
    ∷ basic_entry (Pointer (node 3) (type 5)) ∷ basic_entry (Pointer (node 5) (type 5)) ∷ basic_entry (Pointer (node 6) (type 5))
    ∷ basic_entry (Pointer (node 8) (type 9)) ∷ []

abbrev pointed : ℕ → Home → List ℕ → TypedForm
pointed n h bytes =
    typed.Form (record { star = record { place = at 1; qualifiers = [] }; node = node n } ∷ []) (typed.Names (name bytes) h) typed.NoPart

abbrev plain : Home → List ℕ → TypedForm
plain h bytes = typed.Form [] (typed.Names (name bytes) h) typed.NoPart

abbrev voids : TypedParameters
voids = typed.AndParameter typed.NoParameter (typed.Specified (words (keyword.Void ∷ [])) (type 0)) typed.NotDeclared None (type 0)

abbrev without_parameters : List ℕ → TypedForm
without_parameters bytes = typed.Form [] (typed.Names (name bytes) home.None) (typed.AndFunction typed.NoPart (at 1) voids)

abbrev ints : List Keyword → TypedSpecifiers
ints rest = typed.Specified (words (keyword.Int ∷ rest)) (type 5)

abbrev one : TypedForm → ℕ → typed.TypedInitDeclarators
one form t = typed.AndPlain typed.NoInitDeclarator (typed.Declares form (type t))

abbrev struct : TypedSpecifiers
struct = typed.Specified (typed.AndSpecifier typed.NoSpecifier (typed.Aggregate aggregate.Struct (at 1) (Some (name (codes "S"))) (at 1)
    (typed.AndMember typed.NoMember (ints []) (typed.AndDeclarator typed.NoDeclarator (typed.Declares (plain home.None (codes "x")) (type 5))))
    (type 10))) (type 10)

abbrev tagged : TypedSpecifiers
tagged = typed.Specified (typed.AndSpecifier typed.NoSpecifier (typed.Tagged aggregate.Struct (at 1) (name (codes "S")) (type 10))) (type 10)

abbrev x_place : TypedPlace
x_place = typed.Variable (name (codes "x")) (node 2) (type 5)

-- `&x`, as a value for `p`
abbrev address : TypedExpr
address = typed.Convert conversion.PointerToPointer (at 1) (type 13) (typed.AddressOf (at 1) x_place (node 6) (type 14))

abbrev g_called : TypedExpr
g_called = typed.FunctionName (name (codes "g")) 1 (node 8) (type 15)

abbrev member : ℕ → TypedPlace
member i = typed.MemberAt (typed.Read (typed.Variable (name (codes "q")) (node 1) (type 11))) (at 1) (name (codes "x")) i (node 9) (type 5)

abbrev main_body : TypedBlockItems
main_body = typed.AndStatement (typed.AndStatement (typed.AndDeclaration (typed.AndDeclaration (typed.AndDeclaration typed.NoBlockItem
    (typed.Declare (ints (keyword.Static ∷ [])) (one (plain (home.Static (node 7)) (codes "s")) 5)))
    (typed.Declare (ints (keyword.Extern ∷ [])) (one (plain (home.Known (node 2)) (codes "x")) 5)))
    (typed.Declare (ints []) (one (without_parameters (codes "g")) 9)))
    (typed.Express (typed.Call g_called (at 1) typed.NoArgument (type 5))))
    (typed.Return (at 1) (Some (typed.Read (member 0))))

abbrev g_body : TypedBlockItems
g_body = typed.AndStatement typed.NoBlockItem (typed.Return (at 1) (Some (typed.Integer constant.Int 0 (at 1) (type 5))))

abbrev main_function : DefinedFunction
main_function = record { declarator = typed.Declares (without_parameters (codes "main")) (type 9); body = main_body }

abbrev g_function : DefinedFunction
g_function = record { declarator = typed.Declares (without_parameters (codes "g")) (type 9); body = g_body }

abbrev unit : TypedTranslationUnit
unit =
    typed.AndFunctionBody
    (typed.AndFunctionBody
    (typed.AndExternal (typed.AndExternal (typed.AndExternal (typed.AndExternal (typed.AndExternal (typed.AndExternal typed.NoExternal
    (typed.Declare tagged typed.NoInitDeclarator)) (typed.Declare tagged (one (pointed 0 (home.Static (node 1)) (codes "q")) 11)))
    (typed.Declare struct typed.NoInitDeclarator)) (typed.Declare (ints (keyword.Static ∷ [])) (one (plain (home.Static (node 2)) (codes "x")) 5)))
    (typed.Declare (ints (keyword.Extern ∷ [])) (one (pointed 3 (home.Static (node 4)) (codes "p")) 12)))
    (typed.Declare (ints []) (typed.AndInitialised typed.NoInitDeclarator (typed.Declares (pointed 5 (home.Known (node 4)) (codes "p")) (type 13))
    (at 1) (typed.Value address))))
    (ints []) (typed.Declares (without_parameters (codes "main")) (type 9)) (at 1) main_body)
    (ints []) (typed.Declares (without_parameters (codes "g")) (type 9)) (at 1) g_body

abbrev static : Stage
static = static_stage table unit

abbrev inside : Stage
inside = body_stage static main_function

-- ten nodes are made; the objects are `q`, `x`, `p` and `s`, which all live as long as the program
nodes-counted : static.nodes ≡ 10
nodes-counted = refl

objects-first : static.statics ≡ (node 1, type 11) ∷ (node 2, type 5) ∷ (node 4, type 12) ∷ (node 7, type 5) ∷ []
objects-first = refl

no-variable : variables_named main_function ≡ []
no-variable = refl

homes : homes_of unit ≡ 1 ∷ 2 ∷ 4 ∷ 7 ∷ []
homes = refl

-- the node of `q->x` is none of them
members : member_nodes unit ≡ 9 ∷ []
members = refl

-- `extern int x;` in the block is a declaration of the file's `x`, the second of its declarators
x-ready : IsReadyPlace inside x_place
x-ready = (
  lit< tt,
  (lit< tt, refl),
  inr (record {
    first = type 5;
    made = (1, lit< tt, refl);
    alike = inl refl;
    declared = (typed.Declares (plain (home.Static (node 2)) (codes "x")) (type 5), (1, lit< tt, refl), refl, refl);
    begun = (typed.Declares (plain (home.Static (node 2)) (codes "x")) (type 5), (1, lit< tt, refl), refl, refl);
  }),
)

-- a static local is no variable of its function
s-ready : IsReadyPlace inside (typed.Variable (name (codes "s")) (node 7) (type 5))
s-ready = (
  lit< tt,
  (lit< tt, refl),
  inr (record {
    first = type 5;
    made = (3, lit< tt, refl);
    alike = inl refl;
    declared = (typed.Declares (plain (home.Static (node 7)) (codes "s")) (type 5), (5, lit< tt, refl), refl, refl);
    begun = (typed.Declares (plain (home.Static (node 7)) (codes "s")) (type 5), (5, lit< tt, refl), refl, refl);
  }),
)

-- the function that is declared in the block is the unit's second
g-ready : IsReady inside g_called
g-ready = (
  lit< tt,
  record {
    function = type 9;
    type = (lit< tt, refl);
    defined = g_function;
    there = refl;
    named = refl;
    first = type 9;
    alike = (inl refl, inl refl);
    declared = (typed.Declares (without_parameters (codes "g")) (type 9), (7, lit< tt, refl), (name (codes "g"), refl, refl), refl);
  },
)

-- the struct is complete at last, and has a member number 0
x-member : IsMember inside (type 10) 0 (node 9) (type 5)
x-member = record { complete = (lit< tt, refl); aggregate = refl; there = lit< tt; type = refl; part = (lit< tt, refl); node = lit< tt }

-- a member of a higher number is not there
no-member : (i : ℕ) (n : NodeId) (t : TypeId) → IsMember inside (type 10) (suc i) n t → ⊥
no-member i n t m = let below : suc i < 1 = m.there in omega (arith, below)

-- and none lies past the last
none-past : length (members_at table (type 10)) ≤ 0 → ⊥
none-past h = omega (arith, h)

-- it was written with its member
x-written : IsWritten unit (type 10)
x-written = record {
  kind = aggregate.Struct;
  place = at 1;
  name = Some (name (codes "S"));
  brace = at 1;
  members = typed.AndMember typed.NoMember (ints []) (typed.AndDeclarator typed.NoDeclarator (typed.Declares (plain home.None (codes "x")) (type 5)));
  there = (0, lit< tt, refl);
}

-- `struct S;struct S *q;` writes no struct: only one that is complete was written
none-written : IsWritten (typed.AndExternal (typed.AndExternal typed.NoExternal (typed.Declare tagged typed.NoInitDeclarator))
    (typed.Declare tagged (one (pointed 0 (home.Static (node 1)) (codes "q")) 11))) (type 10) → ⊥
none-written w = let none : w.there.0 < 0 = w.there.1 in omega (arith, none)

-- `int *p=&x;` initialises the object that `extern int *p;` made
p-initialised : static_initialisers unit ≡ record { home = node 4; type = type 13; place = at 1; initialiser = typed.Value address } ∷ []
p-initialised = refl

-- the types that the two declarations of `p` name are one type with two numbers
p-alike : IsSameType table (type 12) (type 13)
unfolding is_same_type
p-alike = refl

-- `p`, named with the type of its second declaration, is the object that the first one made, whose type has another number
p-ready : IsReadyPlace static (typed.Variable (name (codes "p")) (node 4) (type 13))
p-ready = (
  lit< tt,
  (lit< tt, refl),
  inr (record {
    first = type 12;
    made = (2, lit< tt, refl);
    alike = inr p-alike;
    declared = (typed.Declares (pointed 5 (home.Known (node 4)) (codes "p")) (type 13), (3, lit< tt, refl), refl, refl);
    begun = (typed.Declares (pointed 3 (home.Static (node 4)) (codes "p")) (type 12), (2, lit< tt, refl), refl, refl);
  }),
)

abbrev IsOther : Named → Type 0
IsOther o = o.0.0 ≢ 3

-- node 3 is that of the first pointer type of `p`: no object has it, of any type
no-object : (t : TypeId) → IsReadyPlace inside (typed.Variable (name (codes "p")) (node 3) t) → ⊥
no-object t r = elim r.2 [
  | inl local ↦ let none : local.0 < 0 = local.1 in omega (arith, none)
  | inr kept ↦ All-contains IsOther inside.statics (node 3, kept.first)
      (All-cons IsOther (node 1, type 11) ((node 2, type 5) ∷ (node 4, type 12) ∷ (node 7, type 5) ∷ []) (omega arith)
      (All-cons IsOther (node 2, type 5) ((node 4, type 12) ∷ (node 7, type 5) ∷ []) (omega arith)
      (All-cons IsOther (node 4, type 12) ((node 7, type 5) ∷ []) (omega arith)
      (All-cons IsOther (node 7, type 5) [] (omega arith) (All-nil IsOther))))) kept.made refl
]

-- `int main(void){return sizeof(int(*)(int a,int b[sizeof a]));}`: a parameter of a prototype is no object, and is named where nothing runs

-- `int(void)`, the type of `b`, that of the function, and the pointer to it
abbrev sized_table : Table
sized_table =
    basic_table ++ basic_entry (Function [] (type 5)) ∷ basic_entry (Pointer (node 3) (type 5))
    ∷ basic_entry (Function (type 5 ∷ type 10 ∷ []) (type 5)) ∷ basic_entry (Pointer (node 0) (type 11)) ∷ []

abbrev a_place : TypedPlace
a_place = typed.Variable (name (codes "a")) (node 1) (type 5)

abbrev b_form : TypedForm
b_form = typed.Form [] (typed.Names (name (codes "b")) (home.Parameter (node 2)))
    (typed.AndSizedArray typed.NoPart (at 1) [] (typed.SizeOfPlace (at 1) a_place 4 (type 8)) 4)

abbrev a_and_b : TypedParameters
a_and_b =
    typed.AndParameter
    (typed.AndParameter typed.NoParameter (ints []) (typed.DeclaredBy (plain (home.Parameter (node 1)) (codes "a"))) None (type 5))
    (ints []) (typed.DeclaredBy b_form) (Some (record { node = node 3; place = at 1 })) (type 10)

abbrev to_function : TypedTypeName
to_function = typed.Named (ints []) (typed.DeclaredBy (typed.Form []
    (typed.Nested (at 1) (typed.Form (record { star = record { place = at 1; qualifiers = [] }; node = node 0 } ∷ []) typed.Unnamed typed.NoPart))
    (typed.AndFunction typed.NoPart (at 1) a_and_b))) (type 12)

abbrev sized : TypedExpr
sized = typed.SizeOfType (at 1) (at 1) to_function 8 (type 8)

-- the size, as an int
abbrev returned : TypedExpr
returned = typed.Convert conversion.IntegerToInteger (at 1) (type 5) sized

abbrev sized_body : TypedBlockItems
sized_body = typed.AndStatement typed.NoBlockItem (typed.Return (at 1) (Some returned))

abbrev sized_main : TypedDeclarator
sized_main = typed.Declares (without_parameters (codes "main")) (type 9)

abbrev sized_unit : TypedTranslationUnit
sized_unit = typed.AndFunctionBody typed.NoExternal (ints []) sized_main (at 1) sized_body

abbrev sized_inside : Stage
sized_inside = body_stage (static_stage sized_table sized_unit) (record { declarator = sized_main; body = sized_body })

-- four nodes are made: of the `*`, of `a`, of `b`, and of the pointer that `b` is
sized-nodes : nodes_made (made_by_unit sized_unit) ≡ node 0 ∷ node 1 ∷ node 2 ∷ node 3 ∷ []
sized-nodes = refl

-- there is no object
sized-homes : homes_of sized_unit ≡ []
sized-homes = refl

-- `a` is named where nothing runs
a-unread : IsReadyPlace (unread sized_inside) a_place
a-unread = (lit< tt, (lit< tt, refl))

-- where something runs it would not be ready, since it is no object
a-unready : IsReady sized_inside (typed.Read a_place) → ⊥
a-unready r = elim r.0.2 [
  | inl local ↦ let none : local.0 < 0 = local.1 in omega (arith, none)
  | inr kept ↦ let none : kept.made.0 < 0 = kept.made.1 in omega (arith, none)
]

-- the whole of `sizeof` is ready, with the size of `b` in its type name
sized-ready : IsReady sized_inside sized
unfolding layout_of
sized-ready = (
  (
    (tt, tt),
    (
      (tt, tt),
      (
        tt,
        (
          (tt, (tt, tt), (tt, tt), lit< tt),
          (tt, tt),
          (tt, (tt, (a-unread, (lit< tt, refl), refl, (lit< tt, refl)))),
          lit< tt,
        ),
      ),
    ),
    lit< tt,
  ),
  (lit< tt, refl),
  refl,
  (lit< tt, refl),
)

-- and so is what `main` returns
returned-ready : IsReadyReturn sized_inside (type 5) (Some returned)
returned-ready = ((sized-ready, ((unsigned_long, (lit< tt, refl)), (int, (lit< tt, refl)))), (refl, lit< tt, refl))

-- the unit of `TypedRow` is well typed, so it is ready
row-ready : IsReadyUnit TypedRow.table TypedRow.unit
row-ready = well-typed-ready TypedRow.table TypedRow.unit TypedRow.unit-typed
