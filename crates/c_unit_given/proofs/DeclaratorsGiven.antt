-- Declarators that declare a name are given.
use Rattle.std.proofs.Common.{◌≡◌, ◌≤◌, ◌<◌, ℕ, Bool, true, false, List, length, Option, Some, refl, ap, sym, subst, ◌∙◌, arith}
use Rattle.cc_base.specs.declared.number.NodeId.{NodeId}
use Rattle.cc_base.specs.declared.number.TypeId.{TypeId}
use Rattle.c_types.specs.Table.{Table, IsType, IsComplete, shape_at}
use Rattle.c_tree.specs.declared.leaf.Identifier.{Identifier}
use Rattle.c_tree.specs.declared.typed_word.Home.{Home}
use Rattle.c_tree.specs.declared.typed_word.Home.TheVariants as home
use Rattle.c_tree.specs.Erasure.{erased_form}
use Rattle.c_tree.specs.TypedTree as typed
use Rattle.c_tree.specs.TypedTree.{TypedSpecifiers, TypedForm}
use Rattle.c_tree.specs.TypedParts.{Made, made_by_form, specified_type, name_of_form, home_of_form}
use Rattle.c_typing.specs.declared.declared.Declared.TheVariants as declared
use Rattle.c_typing.specs.declared.naming.Naming.{Naming}
use Rattle.c_typing.specs.Declarators.{Written, name_bytes}
use Rattle.c_typing.specs.Declaring.{declarator_name, unless_function}
use Rattle.c_typing.specs.Extensions.{IsExtended}
use Rattle.c_typing.specs.Scopes.{Scopes}
use Rattle.c_typing.specs.Settled.{IsBasic}
use Rattle.c_typing.specs.Shapes.{is_function_shape}
use Rattle.c_typing.specs.Tests.{first_broken}
use Rattle.c_typing.specs.Walks.{judge_declarator, outermost_of}
use Rattle.c_typing_laws.specs.Judged.{IsHomeOf}
use Rattle.c_typing_laws.proofs.JudgedDeclarators.{form_name}
use Rattle.c_typing_unique.specs.Points.{Point, Numbers}
use Rattle.c_typing_exact.specs.Passing.{Passes}
use Rattle.c_unit_typing.specs.Holding.{declarator_holds}
use Rattle.c_type_order.specs.TypesUsed.{AreUses, used_by_declarator}
use Rattle.c_unit_rules_alike.proofs.DeclarationRules.{declared-over}
use Rattle.c_unit_rules_alike.proofs.NamesThere.{name-there}
use Rattle.c_unit_typing.specs.DeclarationJudging.{naming_for, linked_first, declare, named, judge_named, is_linked_object}
use Rattle.c_unit_typing.specs.Units.{Known, Storage, with_scopes, storage_of, is_one_of, IsNameDeclared, IsDeclarator}
use Rattle.c_unit_typing.specs.UnitJudged.{state_of}
use Rattle.c_unit_typing.specs.UnitJudging.{UnitState, Gives, known_of, known, by_known, pure, lifted, ◌>>=◌}
use Rattle.c_unit_typing.specs.UnitRefusals.{declared_tests}
use Rattle.c_unit_typing.proofs.JudgedDeclarators.{form-known, one-judged}
use Rattle.c_unit_given.proofs.UnitGiven.{HasUnitRoom, IsUnitHere, IsUnitGivenAs, IsRun, HasType, AreScopesKept, AreDeclaratorsGiven}
use Rattle.c_unit_given.proofs.DeclaratorHomes.{home-as, IsMadeBetween, form-between, form-cost, here-below}
use Rattle.c_unit_given.proofs.NameRules.{IsObjectHome, IsNotBefore, name-passes}
use Rattle.c_unit_given.proofs.NamesDeclared.{declare-given}
use Rattle.c_unit_given.proofs.NamesGiven.{IsMadeBelow}
use Rattle.c_unit_given.proofs.Runs.{then-is, obeying-is, lifted-is, lift-reached}
use Rattle.c_unit_given.proofs.UnitRoom.{part-room}

-- an initialiser stands behind the declarator: it declares an object, which no initialiser defined before
abbrev pub IsInitialisable : Bool → Bool → Storage → TypedForm → Known → Type 0
IsInitialisable initialised file storage form k =
    initialised ≡ true → IsObjectHome (home_of_form form) × (is_linked_object file storage ≡ true → is_one_of k.defined (name_bytes (name_of_form form)) ≡ false)

below_of : (T : Table) (a b : ℕ) (h : Home) → IsMadeBetween a b h → IsMadeBelow T b h
below_of T a b (home.Static m) h = h.1
below_of T a b (home.Local m) h = h.1
below_of T a b home.None h = tt
below_of T a b (home.Parameter m) h = tt
below_of T a b (home.Known m) h = tt

not_before : (a b l : ℕ) (h : Home) (m : NodeId) → IsMadeBetween a b h → m.0 < a → IsNotBefore h m
not_before a b l h m between low n q e =
    let new = subst (IsMadeBetween a b) q between in
    let above = new.0 in
    let same : m.0 ≡ n.0 = ap (λ (i : NodeId). i.0) e in
    omega (arith, above, same, low)

module _ (T : Table) (basic : IsBasic T) (scopes : AreScopesKept T) (decls : AreDeclaratorsGiven T) where
  -- a declarator whose name may be initialised
  abbrev pub IsDeclaring : Bool → Storage → TypeId → Bool → Option ℕ → TypedForm → TypeId → Known → Known → Type 0
  IsDeclaring file storage base initialised size form t k k' =
      IsDeclarator T file storage base (outermost_of size) form t k k' × IsInitialisable initialised file storage form k

  abbrev pub IsWholeIf : Bool → TypeId → Table → Type 0
  IsWholeIf initialised t J = IsType J t × (initialised ≡ true → IsComplete J t)

  module _ (file : Bool) (base : TypedSpecifiers) (initialised : Bool) (size : Option ℕ) (form : TypedForm) (t : TypeId) (s : UnitState) (k : Known) (n count : ℕ) (here : IsUnitHere T s)
      (c : IsType s.table (specified_type base)) (h : IsDeclaring file (storage_of base) (specified_type base) initialised size form t (known_of s) k)
      (numbers : Numbers (made_by_form form t) s.seen.node n) (uses : AreUses (used_by_declarator T Written (typed.Declares form t)) (length s.table) count)
      (room : HasUnitRoom T (made_by_form form t) s) (holds : declarator_holds (erased_form form) ≤ 256) where
    d : IsDeclarator T file (storage_of base) (specified_type base) (outermost_of size) form t (known_of s) k
    d = h.0

    written : declarator_name (erased_form form) ≡ Some h.0.name
    written = form_name form ∙ h.0.named

    abbrev which : Naming
    which = naming_for file (storage_of base) (linked_first s.linkage.linked (declarator_name (erased_form form)))

    home_of_name : IsHomeOf (unless_function (is_function_shape (shape_at T t)) which) (name_of_form form) (home_of_form form)
    home_of_name =
        subst (λ (o : Option Identifier). IsHomeOf (unless_function (is_function_shape (shape_at T t)) which) o (home_of_form form)) (sym h.0.named)
        (subst (λ (o : Option Identifier). IsHomeOf (unless_function (is_function_shape (shape_at T t)) (naming_for file (storage_of base) (linked_first s.linkage.linked o))) (Some h.0.name) (home_of_form form))
        (sym written) (home-as T (with_scopes (known_of s) h.0.inside) k h.0.name.bytes t file (storage_of base) (home_of_form form) h.0.declares))

    declarator_given : IsUnitGivenAs T (IsWholeIf initialised t) (made_by_form form t) (judge_named file base initialised size (erased_form form) s) (typed.Declares form t) s k n count
    unfolding judge_named named
    declarator_given =
        let name : Identifier = h.0.name in
        let made : List Made = made_by_form form t in
        let it : Home = home_of_form form in
        let b : Point = record { scopes = h.0.inside; node = n } in
        let kept = scopes.form form s.seen.scopes h.0.inside h.0.parts in
        let one = decls.declarator which base size form t home_of_name holds (state_of s) b count here.here c (h.0.parts, h.0.type) numbers uses (part-room T made s room) in
        let m : UnitState = known one.after.table one.after.seen s.linkage in
        let reach = lift-reached T made s one.after b count here one.reached kept in
        let gives = lifted-is (judge_declarator which base size (erased_form form)) (typed.Declares form t) s one.after one.gives in
        let there = (form-known which base size (erased_form form) form t s m here.unit c gives).judged.there in
        let declares : IsNameDeclared T file (storage_of base) it name.bytes t (known_of m) k =
        subst (λ (l : Known). IsNameDeclared T file (storage_of base) it name.bytes t l k) (sym reach.known) h.0.declares in
        let between = form-between form t s.seen.node n numbers in
        let inner : one.after.seen.scopes ≡ h.0.inside = ap (λ (p : Point). p.scopes) one.reached.point in
        let homes = subst (λ (q : Scopes). Rattle.c_unit_given.proofs.UnitGiven.AreHomesBelow s.seen.node q.levels) (sym inner) (kept.homes s.seen.node here.homes) in
        let once : initialised ≡ true → is_linked_object file (storage_of base) ≡ true → is_one_of s.linkage.defined name.bytes ≡ false =
        λ q l. ap (λ (o : Option Identifier). is_one_of s.linkage.defined (name_bytes o)) (sym h.0.named) ∙ (h.1 q).1 l in
        let passes =
        name-passes T (known_of m) name.bytes file (storage_of base) initialised t name.place it k declares (λ q. (h.1 q).0)
        (λ u l q. not_before s.seen.node n 0 it l between (here-below s.seen.node m.seen.scopes.levels name.bytes (declared.Object u l) homes q)) once in
        let pass : Passes (declared_tests m.table (known_of m) file (storage_of base) initialised name.bytes t name.place) =
        ap first_broken (declared-over m.table T reach.here.here.first reach.here.here.known.basic (known_of m) file (storage_of base) initialised name.bytes t name.place
        (name-there m reach.here.unit name.bytes) there) ∙ passes in
        let spent = one.reached.way.spent in
        let cost = form-cost T form t in
        let bytes = spent.globals in
        let limit = room.globals in
        let last =
        declare-given T name t m k reach.here there file (storage_of base) it declares (subst (λ (i : ℕ). IsMadeBelow T i it) (sym reach.node) (below_of T s.seen.node n it between))
        (omega (arith, cost, bytes, limit)) in
        let r : UnitState = last.after in
        let finish : judge_named file base initialised size (erased_form form) s ≡ Gives (typed.Declares form t) r =
        then-is (by_known (λ q. lifted (judge_declarator (naming_for file (storage_of base) (linked_first q.linkage.linked (declarator_name (erased_form form)))) base size (erased_form form))))
        (named file (storage_of base) initialised (declarator_name (erased_form form))) (typed.Declares form t) s m (Gives (typed.Declares form t) r) gives
        (ap (λ (o : Option Identifier). named file (storage_of base) initialised o (typed.Declares form t) m) written
        ∙ obeying-is (λ (q : UnitState). declared_tests q.table (known_of q) file (storage_of base) initialised name.bytes t name.place)
        (declare file (storage_of base) name t it >>= (λ what. pure (typed.Declares form t))) m (Gives (typed.Declares form t) r) pass
        (then-is (declare file (storage_of base) name t it) (λ what. pure (typed.Declares form t)) last.what m r (Gives (typed.Declares form t) r) last.gives refl)) in
        let judged = one-judged file base initialised size (erased_form form) (typed.Declares form t) s r here.unit c finish in
        let nodes = last.node in
        let globals = last.globals in
        let cells = last.cells in
        let moved = spent.cells in
        let counted = spent.nodes in
        record {
          after = r;
          gives = finish;
          reached = record {
            here = last.here;
            grown = subst (IsExtended s.table) (sym last.table) reach.grown;
            known = last.known;
            node = last.node ∙ reach.node;
            types = ap length last.table ∙ reach.types;
            outer = last.outer ∙ reach.outer;
            spent = record { nodes = omega (arith, nodes, counted); globals = omega (arith, globals, bytes, cost); cells = omega (arith, cells, moved) };
          };
          gains = (judged.there, judged.complete);
        }

  pub declarator-run : (file : Bool) (base : TypedSpecifiers) (initialised : Bool) (size : Option ℕ) (form : TypedForm) (t : TypeId) → declarator_holds (erased_form form) ≤ 256
      → IsRun T (HasType (specified_type base)) (IsWholeIf initialised t) (IsDeclaring file (storage_of base) (specified_type base) initialised size form t) (made_by_form form t)
      (used_by_declarator T Written (typed.Declares form t)) (judge_named file base initialised size (erased_form form)) (typed.Declares form t)
  declarator-run file base initialised size form t holds s k n count here c h numbers uses room =
      declarator_given file base initialised size form t s k n count here c h numbers uses room holds
