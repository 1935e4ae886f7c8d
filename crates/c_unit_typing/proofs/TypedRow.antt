-- A whole unit, written out: `int main(void){int *p;p=0;return *p;}` is well typed, and its typed tree erases to it.
use Rattle.std.proofs.Common.{◌≡◌, ℕ, false, List, [], ◌∷◌, ◌++◌, Some, None, refl, inr, codes, lit<, arith}
use Rattle.std.proofs.lemmas.Slice.Eq.{bytes_eq-Decides}
use Rattle.std.proofs.lemmas.Bool.Decides.{not_from_Decides}
use Rattle.std.proofs.lemmas.List.Elements.{All-nil, All-cons}
use Rattle.cc_base.specs.declared.place.Place.{Place}
use Rattle.cc_base.specs.declared.number.NodeId.{NodeId}
use Rattle.cc_base.specs.declared.number.TypeId.{TypeId}
use Rattle.c_types.specs.declared.shape.TypeShape.TheVariants.{Pointer, Function}
use Rattle.c_types.specs.Table.{Table, IsType, IsComplete}
use Rattle.c_types.specs.Calls.{IsAddable, basic_table, basic_entry}
use Rattle.c_lexer.specs.declared.number.IntegerType.TheVariants as constant
use Rattle.c_lexer.specs.declared.word.Keyword.TheVariants as keyword
use Rattle.c_tree.specs.declared.leaf.Identifier.{Identifier}
use Rattle.c_tree.specs.declared.leaf.Star.{Star}
use Rattle.c_tree.specs.declared.leaf.Word.{Word}
use Rattle.c_tree.specs.declared.operator.Assignment.TheVariants as assignment
use Rattle.c_tree.specs.declared.operator.Unary.TheVariants as unary
use Rattle.c_tree.specs.declared.typed_word.Conversion.TheVariants as conversion
use Rattle.c_tree.specs.declared.typed_word.Home.TheVariants as home
use Rattle.c_tree.specs.declared.typed_word.Runtime.TheVariants.{Malloc, Calloc, Free, Getchar, Putchar, Exit}
use Rattle.c_tree.specs.Tree as tree
use Rattle.c_tree.specs.TypedTree as typed
use Rattle.c_tree.specs.TypedTree.{TypedExpr, TypedPlace, TypedSpecifiers, TypedForm, TypedParameters, TypedBlockItems, TypedTranslationUnit}
use Rattle.c_tree.specs.Erasure.{erased_unit}
use Rattle.runtime_calls.specs.Prototypes.{IsNoName}
use Rattle.c_typing.specs.declared.declared.Declared.TheVariants as declared
use Rattle.c_typing.specs.Judging.{State, Gives, type_with}
use Rattle.c_typing.specs.Scopes.{Level, Scopes, file_scope}
use Rattle.c_typing.specs.Settled.{IsKnown}
use Rattle.c_typing.specs.Declarators.{Written}
use Rattle.c_typing.specs.Typing.{IsTyped, AreSpecifiers}
use Rattle.c_unit_typing.specs.Units.{Known, Unstored, AsTypedef, IsDeclarator, IsDefinition}
use Rattle.c_unit_typing.specs.WellTyped.{IsWellTyped}
use Rattle.c_typing_laws.proofs.FirstState.{first-known}
use Rattle.c_typing_laws.proofs.KnownStates.{type_with-known}
use Rattle.c_unit_typing.proofs.BasicTable.{basic-formed}

abbrev type : ℕ → TypeId
type n = record { 0 = n }

abbrev node : ℕ → NodeId
node n = record { 0 = n }

abbrev at : ℕ → Place
at col = record { line = 1; col = col }

-- `void`, the integer types, `int(void)` and `int *`
abbrev pub table : Table
table = basic_table ++ basic_entry (Function [] (type 5)) ∷ basic_entry (Pointer (node 0) (type 5)) ∷ []

abbrev main_at : ℕ → Identifier
main_at col = record { bytes = codes "main"; place = at col }

abbrev p_at : ℕ → Identifier
p_at col = record { bytes = codes "p"; place = at col }

abbrev int_at : ℕ → Word
int_at col = record { keyword = keyword.Int; place = at col }

abbrev void_at : ℕ → Word
void_at col = record { keyword = keyword.Void; place = at col }

abbrev star_at : ℕ → Star
star_at col = record { place = at col; qualifiers = [] }

-- the typed tree

abbrev ints : ℕ → TypedSpecifiers
ints col = typed.Specified (typed.AndSpecifier typed.NoSpecifier (typed.Keyword (int_at col))) (type 5)

abbrev voids : TypedSpecifiers
voids = typed.Specified (typed.AndSpecifier typed.NoSpecifier (typed.Keyword (void_at 10))) (type 0)

abbrev parameters : TypedParameters
parameters = typed.AndParameter typed.NoParameter voids typed.NotDeclared None (type 0)

abbrev main_form : TypedForm
main_form = typed.Form [] (typed.Names (main_at 5) home.None) (typed.AndFunction typed.NoPart (at 9) parameters)

abbrev p_form : TypedForm
p_form = typed.Form (record { star = star_at 20; node = node 0 } ∷ []) (typed.Names (p_at 21) (home.Local (node 1))) typed.NoPart

abbrev p_place : ℕ → TypedPlace
p_place col = typed.Variable (p_at col) (node 1) (type 10)

abbrev clearing : TypedExpr
clearing = typed.Assign (p_place 23) (at 24) (typed.Convert conversion.NullToPointer (at 24) (type 10) (typed.Integer constant.Int 0 (at 25) (type 5)))

abbrev reading : TypedExpr
reading = typed.Read (typed.Target (at 34) (typed.Read (p_place 35)) (type 5))

abbrev body : TypedBlockItems
body = typed.AndStatement (typed.AndStatement (typed.AndDeclaration typed.NoBlockItem
    (typed.Declare (ints 16) (typed.AndPlain typed.NoInitDeclarator (typed.Declares p_form (type 10)))))
    (typed.Express clearing)) (typed.Return (at 27) (Some reading))

abbrev pub unit : TypedTranslationUnit
unit = typed.AndFunctionBody typed.NoExternal (ints 1) (typed.Declares main_form (type 9)) (at 15) body

-- the tree that it erases to

abbrev untyped_ints : ℕ → tree.Specifiers
untyped_ints col = tree.AndSpecifier tree.NoSpecifier (tree.Keyword (int_at col))

pub unit-erased : erased_unit unit ≡ tree.AndFunctionBody tree.NoExternal (untyped_ints 1)
    (tree.Declares [] (tree.Names (main_at 5)) (tree.AndFunction tree.NoPart (at 9)
    (tree.AndParameter tree.NoParameter (tree.AndSpecifier tree.NoSpecifier (tree.Keyword (void_at 10))) tree.NotDeclared)))
    (at 15)
    (tree.AndStatement (tree.AndStatement (tree.AndDeclaration tree.NoBlockItem
    (tree.Declare (untyped_ints 16) (tree.AndPlain tree.NoInitDeclarator (tree.Declares (star_at 20 ∷ []) (tree.Names (p_at 21)) tree.NoPart))))
    (tree.Express (tree.Assign assignment.Assign (tree.Name (p_at 23)) (at 24) (tree.Integer constant.Int 0 (at 25)))))
    (tree.Return (at 27) (Some (tree.Prefix unary.Dereference (at 34) (tree.Name (p_at 35))))))
unit-erased = refl

-- what is known on the way

abbrev file_level : Level
file_level = record { names = (codes "main", declared.Function (type 9)) ∷ []; tags = [] }

abbrev p_level : Level
p_level = record { names = (codes "p", declared.Object (type 10) (node 1)) ∷ []; tags = [] }

abbrev empty : Level
empty = record { names = []; tags = [] }

abbrev scopes : List Level → Scopes
scopes levels = record { levels = levels; defined = codes "main" ∷ []; members = [] }

abbrev before : Known
before = record { scopes = scopes (empty ∷ []); linked = []; defined = []; statics = [] }

abbrev with_main : Known
with_main = record before { scopes = scopes (file_level ∷ []); linked = (codes "main", declared.Function (type 9)) ∷ [] }

abbrev inside : Known
inside = record with_main { scopes = scopes (file_level ∷ empty ∷ []); defined = codes "main" ∷ [] }

abbrev with_p : Known
with_p = record inside { scopes = scopes (file_level ∷ p_level ∷ []) }

abbrev after : Known
after = record inside { scopes = scopes (file_level ∷ []) }

ints-typed : (col : ℕ) (s : Scopes) → AreSpecifiers table (ints col) s s
ints-typed col s = ((s, refl, refl), record { allowed = refl; there = lit< tt; type = (lit< tt, refl) })

voids-typed : (s : Scopes) → AreSpecifiers table voids s s
voids-typed s = ((s, refl, refl), record { allowed = refl; there = lit< tt; type = (lit< tt, refl) })

not_typedef : Unstored ≡ AsTypedef → ⊥
not_typedef e = cc (e)

main-own : IsNoName (codes "main")
main-own Malloc h = not_from_Decides _ (bytes_eq-Decides (codes "malloc") (codes "main")) refl h
main-own Calloc h = not_from_Decides _ (bytes_eq-Decides (codes "calloc") (codes "main")) refl h
main-own Free h = not_from_Decides _ (bytes_eq-Decides (codes "free") (codes "main")) refl h
main-own Getchar h = not_from_Decides _ (bytes_eq-Decides (codes "getchar") (codes "main")) refl h
main-own Putchar h = not_from_Decides _ (bytes_eq-Decides (codes "putchar") (codes "main")) refl h
main-own Exit h = not_from_Decides _ (bytes_eq-Decides (codes "exit") (codes "main")) refl h

abbrev prototype : Scopes
prototype = scopes (empty ∷ empty ∷ [])

clearing-typed : IsTyped table clearing with_p.scopes with_p.scopes
clearing-typed = (
  with_p.scopes,
  (refl, refl, lit< tt),
  ((refl, (lit< tt, refl)), refl),
  record {
    scalar = refl;
    assigned = record { plain = refl; made = refl };
    lvalue = refl;
  },
)

reading-typed : IsTyped table reading with_p.scopes with_p.scopes
reading-typed = ((((refl, refl, lit< tt), refl), record { pointer = record { plain = refl; type = (node 0, (lit< tt, refl)) }; complete = refl }), refl)

p-declared : IsDeclarator table false Unstored (type 5) Written p_form (type 10) inside with_p
p-declared = record {
  name = p_at 21;
  inside = inside.scopes;
  named = refl;
  parts = (inside.scopes, refl, refl);
  type = (type 10, type 10, (type 10, (lit< tt, refl), refl), refl, refl);
  declares = (with_p.scopes, record { complete = refl; fresh = record { fresh = refl; after = refl } }, refl);
}

main-defined : IsDefinition table (ints 1) main_form (type 9) body before after
main-defined = record {
  name = main_at 5;
  named = refl;
  parameters = parameters;
  written = refl;
  types = [];
  result = type 5;
  shape = (lit< tt, refl);
  before = before.scopes;
  specified = ints-typed 1 before.scopes;
  no_typedef = not_typedef;
  declared = with_main;
  declares = record {
    name = main_at 5;
    inside = before.scopes;
    named = refl;
    parts = (before.scopes, refl, (before.scopes, prototype, refl, (prototype, prototype, prototype, refl, voids-typed prototype, refl, refl, (refl, refl), (lit< tt, refl), refl), refl));
    type = (type 5, type 9, refl, (type 9, record { gives = refl; shape = (lit< tt, refl) }, refl), refl);
    declares = record { here_agrees = tt; linked_agrees = tt; runtime_agrees = λ function h. absurd (main-own function h); after = refl };
  };
  inside = prototype;
  listed = (prototype, prototype, prototype, refl, voids-typed prototype, refl, refl, (refl, refl), (lit< tt, refl), refl);
  once = refl;
  own = main-own;
  after = with_p;
  statements = (
    with_p,
    (
      with_p,
      (inside, refl, (inside.scopes, ints-typed 16 inside.scopes, (inside, refl, p-declared))),
      (with_p.scopes, clearing-typed, refl, refl),
    ),
    (with_p.scopes, reading-typed, record { plain = refl; made = refl }, refl),
  );
  defaults = omega arith;
  leaves = refl;
}

-- the table is the one that judging makes: the two types are added behind the basic ones, one after another

abbrev first : State
first = record { table = basic_table; seen = file_scope [] }

abbrev with_function : State
with_function = record first { table = basic_table ++ basic_entry (Function [] (type 5)) ∷ [] }

abbrev with_pointer : State
with_pointer = record first { table = table }

function-added : type_with (at 1) (Function [] (type 5)) first ≡ Gives (type 9) with_function
unfolding type_with
function-added = refl

pointer-added : type_with (at 1) (Pointer (node 0) (type 5)) with_function ≡ Gives (type 10) with_pointer
unfolding type_with
pointer-added = refl

table-known : IsKnown with_pointer
table-known =
    let basic = first-known [] first basic-formed refl refl in
    let function : IsAddable basic_table (Function [] (type 5)) = record { proper = tt; named = All-cons (IsType basic_table) (type 5) [] (lit< tt) (All-nil (IsType basic_table)); parts = tt } in
    let known = type_with-known (at 1) (Function [] (type 5)) (type 9) first with_function basic function (All-nil (IsComplete basic_table)) refl function-added in
    let pointer : IsAddable with_function.table (Pointer (node 0) (type 5)) = record { proper = tt; named = All-cons (IsType with_function.table) (type 5) [] (lit< tt) (All-nil (IsType with_function.table)); parts = tt } in
    type_with-known (at 1) (Pointer (node 0) (type 5)) (type 10) with_function with_pointer known pointer (All-nil (IsComplete with_function.table)) refl pointer-added

pub unit-typed : IsWellTyped table unit
unit-typed = record {
  after = after;
  typed = (before, refl, main-defined);
  numbered = refl;
  types = (10, inr (refl, refl), (11, inr (refl, refl), refl));
  basic = table-known.basic;
  structs = record { closed = table-known.numbered.closed; given = table-known.numbered.given; own = table-known.numbered.own };
  main = record {
    main = record { declarator = typed.Declares main_form (type 9); body = body };
    there = (0, lit< tt, refl);
    named = refl;
    result = type 5;
    gives = (lit< tt, refl);
    shape = (lit< tt, refl);
  };
}
