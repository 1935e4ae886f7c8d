-- What is well typed is ready: the whole.
use Rattle.std.specs.List.{All, Contains}
use Rattle.std.proofs.Common.{◌≡◌, ℕ, true, false, not, List, [], ◌∷◌, ◌++◌, length, Option, Some, None, refl, ap, sym, subst, ◌∙◌, true≢false, inl, inr}
use Rattle.std.proofs.lemmas.List.Elements.{All-nil, All-cons, All-push, All-weaker}
use Rattle.std.proofs.lemmas.Option.{none-some}
use Rattle.cc_base.specs.declared.number.TypeId.{TypeId}
use Rattle.c_types.specs.declared.shape.TypeShape.{TypeShape}
use Rattle.c_types.specs.declared.shape.TypeShape.TheVariants.{Void, Integer, Pointer, Array, Function, Struct, Union}
use Rattle.c_types.specs.Table.{Table, IsComplete, shape_at, members_at, entry_at, is_complete, is_complete_entry, is_empty}
use Rattle.c_types.specs.Sound.{IsWellFormed}
use Rattle.c_tree.specs.declared.leaf.Identifier.{Identifier}
use Rattle.c_tree.specs.declared.typed_word.Home.{Home}
use Rattle.c_tree.specs.declared.typed_word.Home.TheVariants as home
use Rattle.c_tree.specs.TypedTree as typed
use Rattle.c_tree.specs.TypedTree.{TypedTranslationUnit}
use Rattle.c_tree.specs.TypedParts.{declared_type, name_of, DefinedFunction, home_of_form, name_of_form, functions_of}
use Rattle.c_typing.specs.Declarators.{name_bytes}
use Rattle.c_typing.specs.declared.declared.Declared.{Declared}
use Rattle.c_typing.specs.declared.declared.Declared.TheVariants as declared
use Rattle.c_typing.specs.Shapes.{is_function_shape}
use Rattle.c_typing.specs.Scopes as scopes
use Rattle.c_typing.specs.Scopes.{Scopes, entry_of, members_named, is_complete_at, is_complete_shape_at, innermost, empty_level}
use Rattle.c_typing.specs.Rules.{number_of_shape}
use Rattle.c_typing.specs.declared.declared.Tag.{Tag}
use Rattle.c_unit_typing.specs.Units as units
use Rattle.c_unit_typing.specs.Units.{with_scopes, Storage, AsTypedef, AsExtern, AsStatic, AsAutomatic, Unstored, AgreesWith, unless_linked, IsLinked, IsFunctionDeclared, IsOrdinaryDeclared, IsNameDeclared, leaving_known, storage_of, IsUnitTyped, going_on}
use Rattle.c_unit_typing.specs.WellTyped.{known_before}
use Rattle.c_ready.specs.Ready.{IsAlike, static_stage}
use Rattle.c_ready.proofs.Contexts.{Context, context_of}
use Rattle.c_ready.proofs.Walked.{IsTagOf, IsLevelOf}
use Rattle.c_ready.proofs.ReadyParts.{Known, AreDefinitions}
use Rattle.c_ready.proofs.ReadyUnits.{In, Last, IsLinkedSeen, grown-same}
use Rattle.c_ready.proofs.ReadyNames.{entry-new}
use Rattle.c_ready.proofs.ReadyStatements.{declaration-step, items-step}
use Rattle.c_ready.proofs.ReadyFunctions.{AreExternalsMade, AreExternalsReady, unit-going, definition-going, fixed-file, fixed-block, block_of, file_of, result-in}
use Rattle.c_ready.proofs.Basics.{no_true, not_true, at-index, no-empty}

-- The last list

-- the unit's structs have as many members as the text gives them
abbrev pub IsClosed : Table → Scopes → Type 0
IsClosed T s = (t : TypeId) (n : ℕ) → number_of_shape (shape_at T t) ≡ Some n → length (members_named s n) ≡ length (members_at T t)

closed-followed : (T : Table) (s : Scopes) → IsClosed T s → (t : TypeId) → is_complete_at T s t ≡ true → IsComplete T t
closed-followed T s c t h = by (shape_at T t) refl h
  where
    by : (x : TypeShape) → shape_at T t ≡ x → is_complete_shape_at s (is_complete (entry_at T t)) x ≡ true → is_complete (entry_at T t) ≡ true
    by (Struct n) e g = subst (λ (x : TypeShape). is_complete_entry x (members_at T t) ≡ true) (sym e)
        (ap not (no-empty (members_named s n) (members_at T t) (c t n (ap number_of_shape e)) (not_true (is_empty (members_named s n)) g)))
    by (Union n) e g = subst (λ (x : TypeShape). is_complete_entry x (members_at T t) ≡ true) (sym e)
        (ap not (no-empty (members_named s n) (members_at T t) (c t n (ap number_of_shape e)) (not_true (is_empty (members_named s n)) g)))
    by Void e g = g
    by (Integer bytes signed) e g = g
    by (Pointer n u) e g = g
    by (Array u n) e g = g
    by (Function ps r) e g = g

-- Definitions have linkage

abbrev pub IsDefinedIn : Table → List (scopes.Name × Declared) → DefinedFunction → Type 0
IsDefinedIn T linked d =
    (first : TypeId) × (entry_of linked (name_bytes (name_of d.declarator)) ≡ Some (declared.Function first))
    × IsAlike T first (declared_type d.declarator)

linked-function : (T : Table) (name : scopes.Name) (t : TypeId) (m m' : units.Known) → IsLinked T name (declared.Function t) m m'
    → (first : TypeId) × (entry_of m'.linked name ≡ Some (declared.Function first)) × IsAlike T first t
linked-function T name t m m' h = by (entry_of m.linked name) refl h.linked_agrees (ap (λ (q : units.Known). q.linked) h.after)
  where
    by : (b : Option Declared) → entry_of m.linked name ≡ b → AgreesWith T b (declared.Function t)
        → m'.linked ≡ unless_linked (entry_of m.linked name) name (declared.Function t) m.linked
        → (first : TypeId) × (entry_of m'.linked name ≡ Some (declared.Function first)) × IsAlike T first t
    by None e g l = (
      t,
      ap (λ (es : List (scopes.Name × Declared)). entry_of es name)
          (l ∙ ap (λ (o : Option Declared). unless_linked o name (declared.Function t) m.linked) e) ∙ entry-new m.linked name (declared.Function t) e,
      inl refl,
    )
    by (Some (declared.Function first)) e g l = (
      first,
      ap (λ (es : List (scopes.Name × Declared)). entry_of es name)
          (l ∙ ap (λ (o : Option Declared). unless_linked o name (declared.Function t) m.linked) e) ∙ e,
      inr g,
    )
    by (Some (declared.Object u n)) e g l = absurd g
    by (Some (declared.Typedef u)) e g l = absurd g
    by (Some (declared.Enumerator z)) e g l = absurd g

function-linked : (T : Table) (h : Home) (name : scopes.Name) (t : TypeId) (m m' : units.Known) → IsFunctionDeclared T h name t m m'
    → IsLinked T name (declared.Function t) m m'
function-linked T home.None name t m m' h = h
function-linked T (home.Static n) name t m m' h = absurd h
function-linked T (home.Local n) name t m m' h = absurd h
function-linked T (home.Parameter n) name t m m' h = absurd h
function-linked T (home.Known n) name t m m' h = absurd h

ordinary-function : (T : Table) (x : TypeShape) (types : List TypeId) (result : TypeId) (storage : Storage) (h : Home) (name : scopes.Name)
    (t : TypeId) (m m' : units.Known) → x ≡ Function types result
    → IsOrdinaryDeclared (is_function_shape x) T true storage h name t m m' → IsLinked T name (declared.Function t) m m'
ordinary-function T (Function ps r) types result storage h name t m m' e g = function-linked T h name t m m' g
ordinary-function T Void types result storage h name t m m' e g = no_true (ap is_function_shape e)
ordinary-function T (Integer bytes signed) types result storage h name t m m' e g = no_true (ap is_function_shape e)
ordinary-function T (Pointer n u) types result storage h name t m m' e g = no_true (ap is_function_shape e)
ordinary-function T (Array u n) types result storage h name t m m' e g = no_true (ap is_function_shape e)
ordinary-function T (Struct n) types result storage h name t m m' e g = no_true (ap is_function_shape e)
ordinary-function T (Union n) types result storage h name t m m' e g = no_true (ap is_function_shape e)

name-function : (T : Table) (storage : Storage) → (storage ≡ AsTypedef → ⊥)
    → (types : List TypeId) (result : TypeId) (h : Home) (name : scopes.Name) (t : TypeId) (m m' : units.Known) → shape_at T t ≡ Function types result
    → IsNameDeclared T true storage h name t m m' → IsLinked T name (declared.Function t) m m'
name-function T AsTypedef no_typedef types result h name t m m' e g = absurd (no_typedef refl)
name-function T AsExtern no_typedef types result h name t m m' e g = ordinary-function T (shape_at T t) types result AsExtern h name t m m' e g
name-function T AsStatic no_typedef types result h name t m m' e g = ordinary-function T (shape_at T t) types result AsStatic h name t m m' e g
name-function T AsAutomatic no_typedef types result h name t m m' e g = ordinary-function T (shape_at T t) types result AsAutomatic h name t m m' e g
name-function T Unstored no_typedef types result h name t m m' e g = ordinary-function T (shape_at T t) types result Unstored h name t m m' e g

-- a stage without functions, in which parts are gone through for what grows alone
abbrev bare_stage : Table → Context
bare_stage T =
    record {
      table = T;
      nodes = 0;
      variables = [];
      statics = [];
      literals = [];
      functions = [];
      declarators = [];
      linked = [];
      runs = true;
      calls = true;
      file = false;
    }

no_functions : (T : Table) → AreDefinitions (bare_stage T)
no_functions T i d h = absurd (none-some d h)

grown-defined : (T : Table) (l l' : List (scopes.Name × Declared))
    → ((name : scopes.Name) (x : Declared) → entry_of l name ≡ Some x → entry_of l' name ≡ Some x) → (d : DefinedFunction) → IsDefinedIn T l d
    → IsDefinedIn T l' d
grown-defined T l l' g d h = (h.0, g (name_bytes (name_of d.declarator)) (declared.Function h.0) h.1, h.2)

module _ (T : Table) (w : IsWellFormed T) where
  pub unit-defined : (u : TypedTranslationUnit) (m m' : units.Known) → IsUnitTyped T u m m' → All (IsDefinedIn T m'.linked) (functions_of u)
  unit-defined typed.NoExternal m m' h = All-nil (IsDefinedIn T m'.linked)
  unit-defined (typed.AndExternal u d) m m' h =
      let g = declaration-step (file_of (bare_stage T)) (fixed-file (bare_stage T) w (no_functions T)) true (λ e. absurd (true≢false e)) d h.0 m'
      h.2 in
      All-weaker (IsDefinedIn T h.0.linked) (IsDefinedIn T m'.linked) (grown-defined T h.0.linked m'.linked g.grown.linked) (functions_of u)
      (unit-defined u m h.0 h.1)
  unit-defined (typed.AndFunctionBody u specifiers (typed.Declares form t) brace body) m m' h =
      let d : DefinedFunction = record { declarator = typed.Declares form t; body = body } in
      let whole = definition-going (bare_stage T) w (no_functions T) specifiers form t body h.0 m' h.2 in
      let k = file_of (bare_stage T) in
      let f = h.2 in
      let linked = name-function T (storage_of specifiers) f.no_typedef f.types f.result (home_of_form form) f.declares.name.bytes t
      (with_scopes (with_scopes h.0 f.before) f.declares.inside) f.declared f.shape.1 f.declares.declares in
      let own = linked-function T f.declares.name.bytes t (with_scopes (with_scopes h.0 f.before) f.declares.inside) f.declared linked in
      let start : units.Known = record f.declared
      { scopes = going_on (innermost f.inside.levels) f.declared.scopes; defined = f.declared.defined ++ f.name.bytes ∷ [] } in
      let inside = items-step (block_of (bare_stage T)) (fixed-block (bare_stage T) w (no_functions T))
      (record { result = f.result; in_loop = false; breakable = false }) None body start f.after (result-in T w t f.result f.types f.shape, refl)
      f.statements in
      let ends = grown-same (leaving_known f.after) m' f.leaves in
      let here_ : IsDefinedIn T m'.linked d = (
        own.0,
        ends.linked (name_bytes (name_of_form form)) (declared.Function own.0)
            (inside.grown.linked (name_bytes (name_of_form form)) (declared.Function own.0)
            (subst (λ (o : Option Identifier). entry_of f.declared.linked (name_bytes o) ≡ Some (declared.Function own.0)) (sym f.declares.named)
            own.1)),
        own.2,
      ) in
      All-push (IsDefinedIn T m'.linked) (functions_of u) d
      (All-weaker (IsDefinedIn T h.0.linked) (IsDefinedIn T m'.linked) (grown-defined T h.0.linked m'.linked whole.grown.linked) (functions_of u)
      (unit-defined u m h.0 h.1)) here_

-- The whole

module _ (T : Table) (w : IsWellFormed T) (u : TypedTranslationUnit) (after : units.Known)
    (typed_ : IsUnitTyped T u (known_before u) after)
    (closed : IsClosed T after.scopes) where
  abbrev base : Context
  base = context_of (static_stage T u) after.linked

  definitions : AreDefinitions base
  definitions i d h = at-index (IsDefinedIn T after.linked) (functions_of u) (unit-defined T w u _ after typed_) i d h

  pub whole-ready : AreExternalsMade base u → AreExternalsReady base u
  whole-ready made =
      let k = file_of base in
      let g = unit-going base w definitions u _ after typed_ in
      let begun : In k (known_before u) = record {
        names =
            All-cons (IsLevelOf k.table (Known k)) scopes.empty_level []
            (record {
              names = All-nil (λ (e : scopes.Name × Declared). Known k e.0 e.1);
              tags = All-nil
                  (λ (e : scopes.Name × Tag). IsTagOf k.table e.1);
            }) (All-nil (IsLevelOf k.table (Known k)));
        defined = refl;
        linked = All-nil (λ (e : scopes.Name × Declared). IsLinkedSeen k e.0 e.1);
        statics = All-nil (λ n. (t : TypeId) × Contains k.statics (n, t));
      } in
      let last : Last k after = record {
        followed = closed-followed T after.scopes closed;
        lengths = λ t n h x. closed t n h;
        linked = λ name x h. h;
      } in
      (g.ready begun last made).0
