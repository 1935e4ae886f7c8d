-- The home of what a declarator declares: which one it is, and that it is new.
use Rattle.std.proofs.Common.{◌≡◌, ◌≤◌, ◌<◌, ◌+◌, ℕ, Bool, true, false, List, [], ◌∷◌, ◌++◌, Option, Some, None, refl, ap, sym, arith}
use Rattle.std.specs.List.{All}
use Rattle.std.proofs.lemmas.List.Elements.{All-head, All-tail, All-nil}
use Rattle.cc_base.specs.declared.number.NodeId.{NodeId}
use Rattle.cc_base.specs.declared.number.TypeId.{TypeId}
use Rattle.c_types.specs.Table.{Table, shape_at}
use Rattle.c_tree.specs.declared.typed_word.Home.{Home}
use Rattle.c_tree.specs.declared.typed_word.Home.TheVariants as home
use Rattle.c_tree.specs.TypedTree as typed
use Rattle.c_tree.specs.TypedTree.{TypedForm, TypedCore}
use Rattle.c_tree.specs.TypedParts.{Name, made_by_stars, made_by_form, made_by_core, made_by_parts, home_of_form, home_of_core}
use Rattle.c_typing.specs.Assignments.{literal_cost}
use Rattle.c_typing.specs.declared.declared.Declared.{Declared}
use Rattle.c_typing.specs.declared.declared.Declared.TheVariants as declared
use Rattle.c_typing.specs.declared.naming.Naming.TheVariants as naming
use Rattle.c_typing.specs.Declaring.{unless_function}
use Rattle.c_typing.specs.Scopes as scopes
use Rattle.c_typing.specs.Scopes.{Level, here, innermost, entry_of}
use Rattle.c_typing.specs.Shapes.{is_function_shape}
use Rattle.c_typing_laws.specs.Judged.{IsHomeAs}
use Rattle.c_typing_unique.specs.Points.{Numbers}
use Rattle.c_typing_unique.proofs.Numbering.{two-parts}
use Rattle.c_typing_unique.proofs.Shapes.{no_true}
use Rattle.c_typing_given.specs.Spending.{total}
use Rattle.c_typing_given.proofs.Settling.{numbers-end}
use Rattle.c_unit_typing.specs.DeclarationJudging.{first_home, naming_for}
use Rattle.c_unit_typing.specs.Units.{Known, Storage, Unstored, AsTypedef, AsExtern, AsStatic, AsAutomatic, IsLinkedHome, IsOrdinaryDeclared, IsObjectDeclared, IsFunctionDeclared, IsTypedefDeclared, IsNameDeclared}
use Rattle.c_unit_typing.proofs.DeclaredNames.{is_typedef}
use Rattle.c_unit_typing.proofs.NameSteps.{entry-there}
use Rattle.c_unit_given.proofs.UnitGiven.{IsHomeBelow, AreHomesBelow, object_cost}
use Rattle.c_unit_given.proofs.NamesGiven.{home_cost}
use Rattle.c_typing_given.proofs.Spent.{total-append}
use Rattle.c_unit_given.proofs.UnitRoom.{literals-objects}

-- Which home

first_as : (first : Option Declared) (h : Home) (node : NodeId) → IsLinkedHome first h node → IsHomeAs (first_home first) h
first_as (Some (declared.Object t n)) (home.Known m) node l = ap home.Known (sym l.0)
first_as None (home.Static n) node l = (n, refl)
first_as first h node l = absurd l

module _ (T : Table) (k k' : Known) (name : scopes.Name) (t : TypeId) where
  typedef_as : (f file : Bool) (h : Home) → IsTypedefDeclared file h name t k k' → IsHomeAs (unless_function f naming.None) h
  typedef_as true file home.None d = refl
  typedef_as false file home.None d = refl
  typedef_as f file (home.Static n) d = absurd d
  typedef_as f file (home.Local n) d = absurd d
  typedef_as f file (home.Parameter n) d = absurd d
  typedef_as f file (home.Known n) d = absurd d

  function_as : (h : Home) → IsFunctionDeclared T h name t k k' → h ≡ home.None
  function_as home.None d = refl
  function_as (home.Static n) d = absurd d
  function_as (home.Local n) d = absurd d
  function_as (home.Parameter n) d = absurd d
  function_as (home.Known n) d = absurd d

  object_as : (file : Bool) (storage : Storage) (h : Home) → is_typedef storage ≡ false → IsObjectDeclared T file storage h name t k k' → IsHomeAs (naming_for file storage (entry_of k.linked name)) h
  object_as file AsTypedef h n d = no_true (sym n)
  object_as true Unstored h n d = first_as (entry_of k.linked name) h d.node d.home
  object_as true AsExtern h n d = first_as (entry_of k.linked name) h d.node d.home
  object_as true AsStatic h n d = first_as (entry_of k.linked name) h d.node d.home
  object_as true AsAutomatic h n d = first_as (entry_of k.linked name) h d.node d.home
  object_as false AsExtern h n d = first_as (entry_of k.linked name) h d.node d.home
  object_as false AsStatic (home.Static m) n d = (m, refl)
  object_as false Unstored (home.Local m) n d = (m, refl)
  object_as false AsAutomatic (home.Local m) n d = (m, refl)
  object_as false storage h n d = absurd d

  ordinary_as : (f : Bool) (file : Bool) (storage : Storage) (h : Home) → is_typedef storage ≡ false → IsOrdinaryDeclared f T file storage h name t k k'
      → IsHomeAs (unless_function f (naming_for file storage (entry_of k.linked name))) h
  ordinary_as true file storage h n d = function_as h d
  ordinary_as false file storage h n d = object_as file storage h n d

  pub home-as : (file : Bool) (storage : Storage) (h : Home) → IsNameDeclared T file storage h name t k k'
      → IsHomeAs (unless_function (is_function_shape (shape_at T t)) (naming_for file storage (entry_of k.linked name))) h
  home-as file AsTypedef h d = typedef_as (is_function_shape (shape_at T t)) file h d
  home-as file Unstored h d = ordinary_as (is_function_shape (shape_at T t)) file Unstored h refl d
  home-as file AsExtern h d = ordinary_as (is_function_shape (shape_at T t)) file AsExtern h refl d
  home-as file AsStatic h d = ordinary_as (is_function_shape (shape_at T t)) file AsStatic h refl d
  home-as file AsAutomatic h d = ordinary_as (is_function_shape (shape_at T t)) file AsAutomatic h refl d

-- A new home

-- a home that was made is numbered between two nodes
abbrev pub IsMadeBetween : ℕ → ℕ → Home → Type 0
IsMadeBetween a b (home.Static m) = (a ≤ m.0) × (m.0 < b)
IsMadeBetween a b (home.Local m) = (a ≤ m.0) × (m.0 < b)
IsMadeBetween a b (home.Parameter m) = (a ≤ m.0) × (m.0 < b)
IsMadeBetween a b h = Unit {0}

wider : (a b c d : ℕ) (h : Home) → c ≤ a → b ≤ d → IsMadeBetween a b h → IsMadeBetween c d h
wider a b c d (home.Static m) p q h = let l = h.0 in let r = h.1 in (omega (arith, p, l), omega (arith, q, r))
wider a b c d (home.Local m) p q h = let l = h.0 in let r = h.1 in (omega (arith, p, l), omega (arith, q, r))
wider a b c d home.None p q h = tt
wider a b c d (home.Parameter m) p q h = let l = h.0 in let r = h.1 in (omega (arith, p, l), omega (arith, q, r))
wider a b c d (home.Known m) p q h = tt

named_between : (name : _) (h : Home) (t : TypeId) (a b : ℕ) → Numbers (Name name h t ∷ []) a b → IsMadeBetween a b h
named_between name (home.Static m) t a b n = let e = n.0 in let f = n.1 in (omega (arith, e), omega (arith, e, f))
named_between name (home.Local m) t a b n = let e = n.0 in let f = n.1 in (omega (arith, e), omega (arith, e, f))
named_between name home.None t a b n = tt
named_between name (home.Parameter m) t a b n = let e = n.0 in let f = n.1 in (omega (arith, e), omega (arith, e, f))
named_between name (home.Known m) t a b n = tt

mutual
  pub form-between : (form : TypedForm) (t : TypeId) (a b : ℕ) → Numbers (made_by_form form t) a b → IsMadeBetween a b (home_of_form form)
  form-between (typed.Form stars core parts) t a b n =
      let last = two-parts (made_by_stars stars ++ made_by_core core t) (made_by_parts parts) a b n in
      let first = two-parts (made_by_stars stars) (made_by_core core t) a last.0 last.1 in
      let low = numbers-end (made_by_stars stars) a first.0 first.1 in
      let high = numbers-end (made_by_parts parts) last.0 b last.2 in
      wider first.0 last.0 a b (home_of_core core) (omega (arith, low)) (omega (arith, high)) (core-between core t first.0 last.0 first.2)

  core-between : (core : TypedCore) (t : TypeId) (a b : ℕ) → Numbers (made_by_core core t) a b → IsMadeBetween a b (home_of_core core)
  core-between (typed.Names name h) t a b n = named_between name h t a b n
  core-between typed.Unnamed t a b n = tt
  core-between (typed.Nested at form) t a b n = form-between form t a b n

-- What the home costs

module _ (T : Table) where
  named_cost : (name : _) (h : Home) (t : TypeId) → total literal_cost (Name name h t ∷ []) + home_cost T h t ≤ total (object_cost T) (Name name h t ∷ [])
  named_cost name (home.Static m) t = omega arith
  named_cost name (home.Local m) t = omega arith
  named_cost name home.None t = omega arith
  named_cost name (home.Parameter m) t = omega arith
  named_cost name (home.Known m) t = omega arith

  mutual
    pub form-cost : (form : TypedForm) (t : TypeId) → total literal_cost (made_by_form form t) + home_cost T (home_of_form form) t ≤ total (object_cost T) (made_by_form form t)
    form-cost (typed.Form stars core parts) t =
        let s = made_by_stars stars in
        let c = made_by_core core t in
        let p = made_by_parts parts in
        let h = core-cost core t in
        let i = literals-objects T s in
        let j = literals-objects T p in
        omega (arith, h, i, j, total-append literal_cost (s ++ c) p, total-append literal_cost s c, total-append (object_cost T) (s ++ c) p, total-append (object_cost T) s c)

    core-cost : (core : TypedCore) (t : TypeId) → total literal_cost (made_by_core core t) + home_cost T (home_of_core core) t ≤ total (object_cost T) (made_by_core core t)
    core-cost (typed.Names name h) t = named_cost name h t
    core-cost typed.Unnamed t = omega arith
    core-cost (typed.Nested at form) t = form-cost form t

-- Homes of the innermost scope

innermost_below : (n : ℕ) (ls : List Level) → AreHomesBelow n ls → All (λ (e : scopes.Name × Declared). IsHomeBelow n e.1) (innermost ls).names
innermost_below n [] h = All-nil (λ (e : scopes.Name × Declared). IsHomeBelow n e.1)
innermost_below n (l ∷ []) h = All-head (λ (i : Level). All (λ (e : scopes.Name × Declared). IsHomeBelow n e.1) i.names) l [] h
innermost_below n (l ∷ (m ∷ ls)) h = innermost_below n (m ∷ ls) (All-tail (λ (i : Level). All (λ (e : scopes.Name × Declared). IsHomeBelow n e.1) i.names) l (m ∷ ls) h)

pub here-below : (n : ℕ) (ls : List Level) (name : scopes.Name) (what : Declared) → AreHomesBelow n ls → here ls name ≡ Some what → IsHomeBelow n what
here-below n ls name what h q = entry-there (IsHomeBelow n) (innermost ls).names (innermost_below n ls h) name what q
