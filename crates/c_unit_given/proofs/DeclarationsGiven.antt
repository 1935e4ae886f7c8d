-- Declarations are given.
use Rattle.std.proofs.Common.{◌≡◌, ◌≤◌, ℕ, max, Bool, true, false, ◌++◌, Option, Some, None, refl, ap, sym, subst, ◌∙◌, if◌then◌else◌, arith}
use Rattle.cc_base.specs.declared.number.TypeId.{TypeId}
use Rattle.cc_base.specs.declared.place.Place.{Place}
use Rattle.c_types.specs.Table.{Table}
use Rattle.c_tree.specs.declared.leaf.Identifier.{Identifier}
use Rattle.c_tree.specs.Erasure.{erased_form, erased_initialiser, erased_init_declarators}
use Rattle.c_tree.specs.Tree as tree
use Rattle.c_tree.specs.TypedTree as typed
use Rattle.c_tree.specs.TypedTree.{TypedSpecifiers, TypedForm, TypedInitialiser, TypedInitDeclarators}
use Rattle.c_tree.specs.TypedParts.{made_by_form, made_by_initialiser, made_by_init_declarators, specified_type, name_of_form, home_of_form}
use Rattle.c_typing.specs.Walks.{outermost_of}
use Rattle.c_typing.specs.Declarators.{Written, name_bytes}
use Rattle.c_typing.specs.Declaring.{declarator_name}
use Rattle.c_typing.specs.Scopes.{Scopes, entry_of}
use Rattle.c_typing.specs.Settled.{IsBasic}
use Rattle.c_typing_laws.proofs.JudgedDeclarators.{form_name}
use Rattle.c_typing_unique.specs.Points.{Point, Numbers}
use Rattle.c_typing_unique.proofs.Numbering.{two-parts}
use Rattle.c_typing_unique.proofs.Shapes.{no_true}
use Rattle.c_typing_exact.proofs.SameParts.{distinct}
use Rattle.c_unit_typing.specs.Holding.{declarator_holds, initialiser_holds, init_declarators_holds}
use Rattle.c_type_order.specs.TypesUsed.{used_by_declarator}
use Rattle.c_unit_rules_alike.proofs.InitialiserRules.{makes_chars-over}
use Rattle.c_unit_typing.specs.DeclarationJudging.{defining, is_linked_by, judge_named, judge_init_declarators}
use Rattle.c_unit_typing.specs.InitialiserJudging.{judge_initialiser}
use Rattle.c_unit_typing.specs.Initialisers.{IsInitialiser, is_char_array, makes_chars}
use Rattle.c_unit_typing.specs.Linkage.{with_name}
use Rattle.c_unit_typing.specs.Units.{Known, with_scopes, storage_of, IsDeclarator, IsInitialised, AreDeclarators}
use Rattle.c_unit_typing.specs.UnitJudging.{UnitState, UnitJudging, Gives, known_of, by_known, pure, ◌>>=◌}
use Rattle.c_unit_typing.specs.UnitRefusals.{size_written, is_lasting}
use Rattle.c_unit_typing.proofs.WrittenSizes.{IsTextAsWritten}
use Rattle.c_unit_given.proofs.UnitGiven.{AreSizesWritten, IsRun, Nothing, And, HasType, AreScopesKept, AreExpressionsGiven, AreDeclaratorsGiven}
use Rattle.c_unit_typing.specs.TypesUsed.{used_by_initialiser, used_by_init_declarators}
use Rattle.c_unit_given.proofs.DeclaratorsGiven.{IsDeclaring, IsWholeIf, declarator-run}
use Rattle.c_unit_given.proofs.DefinedNames.{defining_known, defines, object-home, named-once, named-constant}
use Rattle.c_unit_given.proofs.InitialiserTrees.{initialiser-run}
use Rattle.c_unit_given.proofs.Runs.{then-is, Then, run-then, run-last, run-as, run-none, run-three, type-kept, both-kept}
use Rattle.c_unit_given.proofs.Texts.{text-flag}

pub left-held : (a b n : ℕ) → max a b ≤ n → a ≤ n
left-held a b n h = omega (arith, h)

pub right-held : (a b n : ℕ) → max a b ≤ n → b ≤ n
right-held a b n h = omega (arith, h)

module _ (T : Table) (basic : IsBasic T) (exprs : AreExpressionsGiven T) (scopes : AreScopesKept T) (decls : AreDeclaratorsGiven T) (sizes : AreSizesWritten T) where
  abbrev pub AreDeclaratorsRun : TypedInitDeclarators → Type 0
  AreDeclaratorsRun list =
      (file : Bool) (base : TypedSpecifiers) → init_declarators_holds (erased_init_declarators list) ≤ 256
      → IsRun T (HasType (specified_type base)) Nothing (AreDeclarators T file (storage_of base) (specified_type base) list) (made_by_init_declarators list) (used_by_init_declarators T list)
      (judge_init_declarators file base (erased_init_declarators list)) list

  no_declarator_run : AreDeclaratorsRun typed.NoInitDeclarator
  unfolding judge_init_declarators
  no_declarator_run file base holds =
      run-none T (HasType (specified_type base)) Nothing (judge_init_declarators file base tree.NoInitDeclarator) typed.NoInitDeclarator (λ s here w. (refl, tt))

  plain_declarator_run : (all : TypedInitDeclarators) (form : TypedForm) (t : TypeId) → AreDeclaratorsRun all → AreDeclaratorsRun (typed.AndPlain all (typed.Declares form t))
  unfolding judge_init_declarators
  plain_declarator_run all form t p file base holds =
      let u = specified_type base in
      let N = HasType u in
      let P = AreDeclarators T file (storage_of base) u all in
      let Q = IsDeclaring T basic scopes decls file (storage_of base) u false None form t in
      let R : Known → Known → Type 0 = λ k k'. IsDeclarator T file (storage_of base) u Written form t k k' in
      let a = init_declarators_holds (erased_init_declarators all) in
      let b = declarator_holds (erased_form form) in
      let give : typed.TypedDeclarator → UnitJudging TypedInitDeclarators = λ one. pure (typed.AndPlain all one) in
      let d = typed.Declares form t in
      let one = declarator-run T basic scopes decls file base false None form t (right-held a b 256 holds) in
      let last =
      run-last T (And N Nothing) (IsWholeIf T basic scopes decls false t) Nothing (both-kept N Nothing (type-kept u) (λ J U x w h. tt)) R (made_by_form form t) (used_by_declarator T Written d)
      (judge_named file base false None (erased_form form)) give d (typed.AndPlain all d)
      (run-as T N (And N Nothing) (IsWholeIf T basic scopes decls false t) (IsWholeIf T basic scopes decls false t) Q R (made_by_form form t) (used_by_declarator T Written d)
      (judge_named file base false None (erased_form form)) d (λ J w. w.0) (λ J w. w) (λ k k' w. (w, λ q. no_true q)) one)
      (λ r here w v. (refl, tt)) in
      run-then T N Nothing Nothing (type-kept u) P R (made_by_init_declarators all) (made_by_form form t) (used_by_init_declarators T all) (used_by_declarator T Written d)
      (judge_init_declarators file base (erased_init_declarators all)) (λ list. judge_named file base false None (erased_form form) >>= (λ w. pure (typed.AndPlain list w))) all (typed.AndPlain all d)
      (p file base (left-held a b 256 holds)) last

  -- the initialiser, after which the name is defined
  abbrev IsValued : TypedForm → TypeId → Place → TypedInitialiser → Known → Known → Type 0
  IsValued form t at i n k' = (s : Scopes) × IsInitialiser T i at t n.scopes s × IsInitialised T (home_of_form form) (with_scopes n s) (name_bytes (name_of_form form)) i k'

  module _ (file : Bool) (base : TypedSpecifiers) (form : TypedForm) (t : TypeId) (at : Place) (i : TypedInitialiser) (all : TypedInitDeclarators) (name : Identifier)
      (named : name_of_form form ≡ Some name) (holds : initialiser_holds (erased_initialiser i) ≤ 256) where
    abbrev d : typed.TypedDeclarator
    d = typed.Declares form t

    abbrev IsConstantIf : Known → Known → Type 0
    IsConstantIf n k' = IsValued form t at i n k' × (is_lasting file (storage_of base) ≡ true → Rattle.c_unit_typing.specs.Initialisers.is_constant_initialiser T n.statics i ≡ true)

    value_run : IsRun T (IsWholeIf T basic scopes decls true t) Nothing IsConstantIf (made_by_initialiser i) (used_by_initialiser T i)
        (judge_initialiser (is_lasting file (storage_of base)) (erased_initialiser i) at (Some t) false
        >>= (λ value. defining (declarator_name (erased_form form)) d >>= (λ again. pure (typed.AndInitialised all d at value))))
        (typed.AndInitialised all d at i)
    unfolding defining
    value_run s k' n count here c h numbers uses room =
        let one =
        initialiser-run T basic exprs scopes i (is_lasting file (storage_of base)) at t false (item i) holds s (with_scopes (known_of s) h.0.0) n count here (c.1 refl)
        ((h.0.0, h.0.1, refl), h.1) numbers uses room in
        let r : UnitState = one.after in
        let it = home_of_form form in
        let after : UnitState = record r {
          linkage = record r.linkage { defined = if is_linked_by (entry_of r.linkage.linked name.bytes) it then with_name name.bytes r.linkage.defined else r.linkage.defined };
        } in
        let written : declarator_name (erased_form form) ≡ Some name = form_name form ∙ named in
        record {
          after = after;
          gives = then-is (judge_initialiser (is_lasting file (storage_of base)) (erased_initialiser i) at (Some t) false)
              (λ value. defining (declarator_name (erased_form form)) d >>= (λ again. pure (typed.AndInitialised all d at value))) i s r (Gives (typed.AndInitialised all d at i) after) one.gives
              (ap (λ (o : Option Identifier). (defining o d >>= (λ again. pure (typed.AndInitialised all d at i))) r) written);
          reached = record {
            here = record {
              here = one.reached.here.here;
              unit = record { known = one.reached.here.unit.known; linked = one.reached.here.unit.linked };
              open_ = one.reached.here.open_;
              homes = one.reached.here.homes;
            };
            grown = one.reached.grown;
            known = ap (defining_known it name.bytes) one.reached.known
                ∙ defines T it (with_scopes (known_of s) h.0.0) name.bytes i k'
                (subst (λ (o : Option Identifier). IsInitialised T it (with_scopes (known_of s) h.0.0) (name_bytes o) i k') named h.0.2);
            node = one.reached.node;
            types = one.reached.types;
            outer = one.reached.outer;
            spent = record { nodes = one.reached.spent.nodes; globals = one.reached.spent.globals; cells = one.reached.spent.cells };
          };
          gains = tt;
        }
      where
        item : (j : TypedInitialiser) → Rattle.c_unit_typing.specs.Initialisers.IsItemFor false j
        item (typed.Value e) = tt
        item (typed.Copied p q) = tt
        item (typed.Text pieces bytes) = tt
        item (typed.Listed brace items comma u) = tt

  text_written : (i : TypedInitialiser) (at : Place) (t : TypeId) (a b : Point) → IsInitialiser T i at t a.scopes b.scopes → Numbers (made_by_initialiser i) a.node b.node → is_char_array T t ≡ true
      → IsTextAsWritten i
  text_written (typed.Listed brace items comma u) at t a b h n q = sym (text-flag T (distinct T basic) t items a b q h.1 n)
  text_written (typed.Value e) at t a b h n q = tt
  text_written (typed.Copied p seat) at t a b h n q = tt
  text_written (typed.Text pieces bytes) at t a b h n q = tt

  initialised_declarator_run : (all : TypedInitDeclarators) (form : TypedForm) (t : TypeId) (at : Place) (i : TypedInitialiser) → AreDeclaratorsRun all
      → AreDeclaratorsRun (typed.AndInitialised all (typed.Declares form t) at i)
  unfolding judge_init_declarators
  initialised_declarator_run all form t at i p file base holds s k' n count here c h numbers uses room =
      let u = specified_type base in
      let x : tree.Declarator = erased_form form in
      let j : tree.Initialiser = erased_initialiser i in
      let d : typed.TypedDeclarator = typed.Declares form t in
      let one_tree : TypedInitDeclarators = typed.AndInitialised all d at i in
      let size : Option ℕ = size_written (makes_chars T u x) j in
      let W = IsWholeIf T basic scopes decls true t in
      let N = HasType u in
      let N0 = And N Nothing in
      let P1 = AreDeclarators T file (storage_of base) u all in
      let P2 = IsDeclaring T basic scopes decls file (storage_of base) u true size form t in
      let P3 = IsConstantIf file base form t at i all h.4.name h.4.named (rest_held holds) in
      let xs = made_by_init_declarators all in
      let ys = made_by_form form t in
      let zs = made_by_initialiser i in
      let us = used_by_init_declarators T all in
      let vs = used_by_declarator T Written d in
      let ws = used_by_initialiser T i in
      let cut = two-parts (xs ++ ys) zs s.seen.node n numbers in
      let a : Point = record { scopes = h.1.scopes; node = cut.0 } in
      let b : Point = record { scopes = h.2; node = n } in
      let decl : IsDeclarator T file (storage_of base) u (outermost_of size) form t h.0 h.1 =
      record {
        name = h.4.name;
        inside = h.4.inside;
        named = h.4.named;
        parts = h.4.parts;
        type = sizes h.4.inside form u t i at h.1.scopes h.2 h.5 (text_written i at t a b h.5 cut.2) h.4.type;
        declares = h.4.declares;
      } in
      let value : IsInitialised T (home_of_form form) (with_scopes h.1 h.2) h.4.name.bytes i k' =
      subst (λ (o : Option Identifier). IsInitialised T (home_of_form form) (with_scopes h.1 h.2) (name_bytes o) i k') h.4.named h.6 in
      let before : Known = with_scopes h.0 h.4.inside in
      let run = declarator-run T basic scopes decls file base true size form t (middle_held holds) in
      let values = value_run file base form t at i all h.4.name h.4.named (rest_held holds) in
      let tail : typed.TypedDeclarator → UnitJudging TypedInitDeclarators = λ one. judge_initialiser (is_lasting file (storage_of base)) j at (Some (Rattle.c_tree.specs.TypedParts.declared_type one)) false
      >>= (λ v. defining (declarator_name x) one >>= (λ again. pure (typed.AndInitialised all one at v))) in
      let named_run : IsRun T N0 W P2 ys vs (by_known (λ q. judge_named file base true (size_written (makes_chars q.table u x) j) x)) d =
      λ q l m o there w g f e r.
      let one = run q l m o there w.0 g f e r in
      record {
        after = one.after;
        gives = ap (λ (y : Bool). judge_named file base true (size_written y j) x q) (makes_chars-over q.table T there.here.first there.here.known.basic u x w.0) ∙ one.gives;
        reached = one.reached;
        gains = one.gains;
      } in
      let last : IsRun T N0 Nothing (Then P2 P3) (ys ++ zs) (vs ++ ws) (by_known (λ q. judge_named file base true (size_written (makes_chars q.table u x) j) x) >>= tail) one_tree =
      run-then T N0 W Nothing (both-kept N Nothing (type-kept u) (λ J U q w e. tt)) P2 P3 ys zs vs ws (by_known (λ q. judge_named file base true (size_written (makes_chars q.table u x) j) x)) tail d one_tree named_run
      (run-as T W (And N0 W) Nothing Nothing P3 P3 zs ws (tail d) one_tree (λ J w. w.1) (λ J w. w) (λ e f w. w) values) in
      let whole =
      run-three T N Nothing (Then P1 (Then P2 P3)) xs ys zs us vs ws (judge_init_declarators file base (erased_init_declarators one_tree)) one_tree
      (run-then T N Nothing Nothing (type-kept u) P1 (Then P2 P3) xs (ys ++ zs) us (vs ++ ws) (judge_init_declarators file base (erased_init_declarators all))
      (λ list. by_known (λ q. judge_named file base true (size_written (makes_chars q.table u x) j) x) >>= (λ one. judge_initialiser (is_lasting file (storage_of base)) j at (Some (Rattle.c_tree.specs.TypedParts.declared_type one)) false
      >>= (λ v. defining (declarator_name x) one >>= (λ again. pure (typed.AndInitialised list one at v))))) all one_tree (p file base (first_held holds)) last) in
      whole s k' n count here c (
        h.0,
        h.3,
        (
          h.1,
          (
            decl,
            λ q. (
              object-home T (home_of_form form) (with_scopes h.1 h.2) h.4.name.bytes i k' value,
              λ l. ap (λ (o : Option Identifier). Rattle.c_unit_typing.specs.Units.is_one_of h.0.defined (name_bytes o)) h.4.named
                  ∙ named-once T h.4.name.bytes t before h.1 (home_of_form form) (with_scopes h.1 h.2) i k' refl refl value file (storage_of base) h.4.declares l,
            ),
          ),
          ((h.2, h.5, h.6), named-constant T h.4.name.bytes t before h.1 file (storage_of base) (home_of_form form) (with_scopes h.1 h.2) i k' h.4.declares value),
        ),
      )
      numbers uses room
    where
      first_held : init_declarators_holds (erased_init_declarators (typed.AndInitialised all (typed.Declares form t) at i)) ≤ 256 → init_declarators_holds (erased_init_declarators all) ≤ 256
      first_held q = left-held (init_declarators_holds (erased_init_declarators all)) (max (declarator_holds (erased_form form)) (initialiser_holds (erased_initialiser i))) 256 q

      middle_held : init_declarators_holds (erased_init_declarators (typed.AndInitialised all (typed.Declares form t) at i)) ≤ 256 → declarator_holds (erased_form form) ≤ 256
      middle_held q =
          left-held (declarator_holds (erased_form form)) (initialiser_holds (erased_initialiser i)) 256
          (right-held (init_declarators_holds (erased_init_declarators all)) (max (declarator_holds (erased_form form)) (initialiser_holds (erased_initialiser i))) 256 q)

      rest_held : init_declarators_holds (erased_init_declarators (typed.AndInitialised all (typed.Declares form t) at i)) ≤ 256 → initialiser_holds (erased_initialiser i) ≤ 256
      rest_held q =
          right-held (declarator_holds (erased_form form)) (initialiser_holds (erased_initialiser i)) 256
          (right-held (init_declarators_holds (erased_init_declarators all)) (max (declarator_holds (erased_form form)) (initialiser_holds (erased_initialiser i))) 256 q)

  -- initialised declarators that are well typed are given
  pub declarators-run : (list : TypedInitDeclarators) → AreDeclaratorsRun list
  declarators-run typed.NoInitDeclarator = no_declarator_run
  declarators-run (typed.AndPlain all (typed.Declares form t)) = plain_declarator_run all form t (declarators-run all)
  declarators-run (typed.AndInitialised all (typed.Declares form t) at i) = initialised_declarator_run all form t at i (declarators-run all)
