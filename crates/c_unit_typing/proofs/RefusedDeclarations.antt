-- What judging refuses of declarations breaks the rule that is named.
use Rattle.std.proofs.Common.{◌≡◌, ℕ, Bool, true, false, ◌&&◌, Option, Some, None, refl, ap, sym, subst, ◌⊎◌, inl, inr}
use Rattle.cc_base.specs.declared.place.Place.{Place}
use Rattle.cc_base.specs.declared.number.TypeId.{TypeId}
use Rattle.cc_base.specs.declared.fault.Fault.TheVariants.{Refused}
use Rattle.cc_base.specs.declared.fault.Rule.{Rule}
use Rattle.c_types.specs.declared.shape.TypeShape.{TypeShape}
use Rattle.c_types.specs.Table.{Table, IsType, IsComplete}
use Rattle.c_tree.specs.Erasure.{erased_form, erased_specifiers, erased_init_declarators}
use Rattle.c_tree.specs.Tree as tree
use Rattle.c_tree.specs.TypedTree as typed
use Rattle.c_tree.specs.TypedTree.{TypedSpecifiers, TypedForm, TypedDeclarator, TypedInitDeclarators}
use Rattle.c_tree.specs.TypedParts.{specified_type, declared_type}
use Rattle.c_typing.specs.Declaring.{declarator_name}
use Rattle.c_typing.specs.Extensions.{IsExtended}
use Rattle.c_typing.specs.Refusals.{RefusesSpecifiers}
use Rattle.c_typing.specs.Scopes.{Scopes}
use Rattle.c_typing.specs.Settled.{IsKnown}
use Rattle.c_typing.specs.Typing.{AreSpecifiers}
use Rattle.c_typing.specs.Walks.{judge_specifiers_of, outermost_of}
use Rattle.c_typing_laws.specs.Judged.{SpecifiersFail}
use Rattle.c_typing_laws.proofs.ExtensionLaws.{no_true, still_in}
use Rattle.c_typing_laws.proofs.KeptTrees.{specifiers-kept}
use Rattle.c_typing_laws.proofs.RefusedWhole.{specifiers_of-refuses}
use Rattle.c_typing_laws.proofs.TableGrowth.{extended_trans}
use Rattle.c_unit_typing.specs.DeclarationJudging.{defining, judge_named, judge_init_declarators, is_none, judge_declaration}
use Rattle.c_unit_typing.specs.InitialiserJudging.{judge_initialiser}
use Rattle.c_unit_typing.specs.Initialisers.{is_one_array, is_char_shape, makes_chars}
use Rattle.c_unit_typing.specs.Units.{Known, storage_of, with_scopes, AreDeclarators, IsDeclarator}
use Rattle.c_unit_typing.specs.UnitJudged.{state_of, IsUnitKnown, AreDeclaratorsJudged}
use Rattle.c_unit_typing.specs.UnitJudging.{UnitState, Stops, known_of, next, pure, lifted}
use Rattle.c_unit_typing.specs.UnitRefusals.{size_written, is_lasting, RefusesInitialiser, RefusesName, RefusesDeclarators, RefusesDeclaration}
use Rattle.c_unit_typing.proofs.JudgedDeclarations.{base-judged, declarators-judged}
use Rattle.c_unit_typing.proofs.JudgedDeclarators.{IsOneJudged, one-judged}
use Rattle.c_unit_typing.proofs.JudgedTests.{scopes-alone}
use Rattle.c_unit_typing.proofs.NameSteps.{some-same}
use Rattle.c_unit_typing.proofs.RefusedInitialisers.{asked_at, initialiser-stopped}
use Rattle.c_unit_typing.proofs.RefusedNames.{one-stopped, defining-never}
use Rattle.c_unit_typing.proofs.UnitStops.{never-stops, IsStopped, stopped-after, stopped-as, stopped-step, lifted-stops}

module _ (p : Place) (t : Rule) where
  -- a declarator behind others is refused
  behind_list : (file : Bool) (base : TypedSpecifiers) (all : tree.InitDeclarators) (list : TypedInitDeclarators) (s m r : UnitState) → AreDeclaratorsJudged file base all list s m
      → (Q : Table → Known → Type 0) → IsStopped (λ T. Q T (known_of m)) m r
      → IsStopped (λ T. (l : TypedInitDeclarators) × (k : Known) × AreDeclarators T file (storage_of base) (specified_type base) l (known_of s) k × (erased_init_declarators l ≡ all) × Q T k) m r
  behind_list file base all list s m r j Q h =
      stopped-as p t (λ T. Q T (known_of m))
      (λ T. (l : TypedInitDeclarators) × (k : Known) × AreDeclarators T file (storage_of base) (specified_type base) l (known_of s) k × (erased_init_declarators l ≡ all) × Q T k) m r
      (λ x f. (list, known_of m, j.typed r.table x, j.erases, f)) h

  -- the size that is written, over a later table
  written_later : (T U : Table) (x : IsExtended T U) (base : TypeId) (d : tree.Declarator) (i : tree.Initialiser) → IsType T base
      → size_written (makes_chars U base d) i ≡ size_written (makes_chars T base d) i
  written_later T U x base d i b = ap (λ (y : TypeShape). size_written (is_one_array d && is_char_shape y) i) (x.shapes base b)

  -- the initialiser of a declarator is refused
  value_refused : (file : Bool) (base : TypedSpecifiers) (d : tree.Declarator) (at : Place) (i : tree.Initialiser) (size : Option ℕ) (one : TypedDeclarator) (s m r : UnitState)
      → IsOneJudged file (storage_of base) (specified_type base) true size d one s m
      → IsStopped (λ T. RefusesInitialiser T (asked_at (is_lasting file (storage_of base)) m) i at (Some (declared_type one)) false m.seen.scopes (Refused p t)) m r
      → IsStopped (λ T. (form : TypedForm) × (u : TypeId) × (n : Known) × IsDeclarator T file (storage_of base) (specified_type base) (outermost_of size) form u (known_of s) n
      × (erased_form form ≡ d)
      × RefusesInitialiser T (record { constant = is_lasting file (storage_of base); homes = n.statics }) i at (Some u) false n.scopes (Refused p t)) m r
  value_refused file base d at i size (typed.Declares form u) s m r j h =
      stopped-as p t (λ T. RefusesInitialiser T (asked_at (is_lasting file (storage_of base)) m) i at (Some u) false m.seen.scopes (Refused p t))
      (λ T. (form : TypedForm) × (u : TypeId) × (n : Known) × IsDeclarator T file (storage_of base) (specified_type base) (outermost_of size) form u (known_of s) n
      × (erased_form form ≡ d)
      × RefusesInitialiser T (record { constant = is_lasting file (storage_of base); homes = n.statics }) i at (Some u) false n.scopes (Refused p t)) m r
      (λ x f. (form, u, known_of m, j.typed r.table x, j.erases, f)) h

  pub declarators-stopped : (all : tree.InitDeclarators) (file : Bool) (base : TypedSpecifiers) (s r : UnitState) → IsUnitKnown s → IsType s.table (specified_type base)
      → judge_init_declarators file base all s ≡ Stops (Refused p t) r
      → IsStopped (λ T. RefusesDeclarators T file (storage_of base) (specified_type base) all (known_of s) (Refused p t)) s r
  unfolding judge_init_declarators
  declarators-stopped tree.NoInitDeclarator file base s r k b h = never-stops typed.NoInitDeclarator (Refused p t) s r h
  declarators-stopped (tree.AndPlain all d) file base s r k b h =
      let P : Table → Type 0 = λ T. RefusesDeclarators T file (storage_of base) (specified_type base) (tree.AndPlain all d) (known_of s) (Refused p t) in
      stopped-step p t (judge_init_declarators file base all s) (λ before. λ m. next (judge_named file base false None d m) (λ one. pure (typed.AndPlain before one))) P s r
      (λ q. stopped-as p t (λ T. RefusesDeclarators T file (storage_of base) (specified_type base) all (known_of s) (Refused p t)) P s r (λ x f. inl f) (declarators-stopped all file base s r k b q))
      (λ before m q g.
      let j = declarators-judged all file base before s m k b q in
      let x = j.goes.goes.extends in
      stopped-after p t P s m r x
      (stopped-step p t (judge_named file base false None d m) (λ one. pure (typed.AndPlain before one)) P m r
      (λ y. stopped-as p t
      (λ T. (l : TypedInitDeclarators) × (c : Known) × AreDeclarators T file (storage_of base) (specified_type base) l (known_of s) c × (erased_init_declarators l ≡ all)
      × RefusesName T file (storage_of base) (specified_type base) (outermost_of None) false d c (Refused p t)) P m r (λ z f. inr f)
      (behind_list file base all before s m r j (λ T c. RefusesName T file (storage_of base) (specified_type base) (outermost_of None) false d c (Refused p t))
      (one-stopped p t file base false None d m r j.goes.known (still_in s.table m.table x (specified_type base) b) y)))
      (λ one n y z. never-stops (typed.AndPlain before one) (Refused p t) n r z) g)) h
  declarators-stopped (tree.AndInitialised all d at i) file base s r k b h =
      let P : Table → Type 0 = λ T. RefusesDeclarators T file (storage_of base) (specified_type base) (tree.AndInitialised all d at i) (known_of s) (Refused p t) in
      let size : UnitState → Option ℕ = λ m. size_written (makes_chars m.table (specified_type base) d) i in
      let lasts = is_lasting file (storage_of base) in
      stopped-step p t (judge_init_declarators file base all s) (λ before. λ m. next (judge_named file base true (size m) d m) (λ one. λ n.
      next (judge_initialiser lasts i at (Some (declared_type one)) false n) (λ value. λ q. next (defining (declarator_name d) one q) (λ again. pure (typed.AndInitialised before one at value))))) P s r
      (λ q. stopped-as p t (λ T. RefusesDeclarators T file (storage_of base) (specified_type base) all (known_of s) (Refused p t)) P s r (λ x f. inl f) (declarators-stopped all file base s r k b q))
      (λ before m q g.
      let j = declarators-judged all file base before s m k b q in
      let x = j.goes.goes.extends in
      let there = still_in s.table m.table x (specified_type base) b in
      let N : Option ℕ → Table → Known → Type 0 = λ o T c. RefusesName T file (storage_of base) (specified_type base) (outermost_of o) true d c (Refused p t) in
      let V : Option ℕ → Table → Known → Type 0 = λ o T c. (form : TypedForm) × (u : TypeId) × (n : Known)
      × IsDeclarator T file (storage_of base) (specified_type base) (outermost_of o) form u c n × (erased_form form ≡ d)
      × RefusesInitialiser T (record { constant = lasts; homes = n.statics }) i at (Some u) false n.scopes (Refused p t) in
      -- it is refused behind the list, where the size is that of the table before
      let put : (Q : Table → Known → Type 0) → ((T : Table) (c : Known) → Q T c → N (size m) T c ⊎ V (size m) T c) → IsStopped (λ T. Q T (known_of m)) m r → IsStopped P m r =
      λ Q f w.
      stopped-as p t
      (λ T. (l : TypedInitDeclarators) × (c : Known) × AreDeclarators T file (storage_of base) (specified_type base) l (known_of s) c × (erased_init_declarators l ≡ all) × Q T c) P m r
      (λ y v. inr (v.0, v.1, v.2, v.3, subst (λ (o : Option ℕ). N o r.table v.1 ⊎ V o r.table v.1) (sym (written_later m.table r.table y (specified_type base) d i there)) (f r.table v.1 v.4)))
      (behind_list file base all before s m r j Q w) in
      stopped-after p t P s m r x
      (stopped-step p t (judge_named file base true (size m) d m) (λ one. λ n.
      next (judge_initialiser lasts i at (Some (declared_type one)) false n) (λ value. λ q2. next (defining (declarator_name d) one q2) (λ again. pure (typed.AndInitialised before one at value)))) P m r
      (λ y. put (N (size m)) (λ T c v. inl v) (one-stopped p t file base true (size m) d m r j.goes.known there y))
      (λ one n y w.
      let o = one-judged file base true (size m) d one m n j.goes.known there y in
      let from_m = o.goes.goes.extends in
      stopped-after p t P m n r from_m
      (stopped-step p t (judge_initialiser lasts i at (Some (declared_type one)) false n) (λ value. λ q2. next (defining (declarator_name d) one q2) (λ again. pure (typed.AndInitialised before one at value))) P n r
      (λ z.
      let stopped = value_refused file base d at i (size m) one m n r o
      (initialiser-stopped p t i lasts at (Some (declared_type one)) false n r o.goes.known.known
      (λ u e. subst (IsComplete n.table) (some-same (declared_type one) u e) (o.complete refl)) z) in
      let whole : IsStopped P m r = put (V (size m)) (λ T c v. inr v) (record { fails = stopped.fails; extends = extended_trans m.table n.table r.table from_m stopped.extends }) in
      record { fails = whole.fails; extends = stopped.extends })
      (λ value q2 z v. stopped-step p t (defining (declarator_name d) one q2) (λ again. pure (typed.AndInitialised before one at value)) P n r
      (λ z2. absurd (defining-never (declarator_name d) one q2 p t r z2)) (λ again q3 z2 v2. never-stops (typed.AndInitialised before one at value) (Refused p t) q3 r v2) v) w)) g)) h

  -- Declarations

  base_stopped : (alone : Bool) (all : tree.Specifiers) (s r : UnitState) → IsKnown (state_of s) → lifted (judge_specifiers_of alone all) s ≡ Stops (Refused p t) r
      → IsStopped (λ T. SpecifiersFail alone T all s.seen.scopes (Refused p t)) s r
  base_stopped alone all s r k h =
      let i = specifiers_of-refuses p t alone all (state_of s) (state_of r) k (lifted-stops (judge_specifiers_of alone all) (Refused p t) s r h) in
      record { fails = i.fails; extends = i.extends }

  pub base-stopped : (all : tree.Specifiers) (s r : UnitState) → IsKnown (state_of s) → lifted (judge_specifiers_of false all) s ≡ Stops (Refused p t) r
      → IsStopped (λ T. RefusesSpecifiers T all s.seen.scopes (Refused p t)) s r
  base-stopped all s r k h = base_stopped false all s r k h

  -- what stands behind specifiers is refused
  declared_stopped : (file : Bool) (specifiers : tree.Specifiers) (all : tree.InitDeclarators) (s r : UnitState) → is_none all ≡ false → IsUnitKnown s
      → next (lifted (judge_specifiers_of false specifiers) s) (λ base. λ m. next (judge_init_declarators file base all m) (λ list. pure (typed.Declare base list))) ≡ Stops (Refused p t) r
      → IsStopped (λ T. RefusesDeclaration T file (tree.Declare specifiers all) (known_of s) (Refused p t)) s r
  declared_stopped file specifiers all s r n k h =
      let Q : Table → Type 0 = λ T. RefusesSpecifiers T specifiers s.seen.scopes (Refused p t)
      ⊎ ((u : TypedSpecifiers) × (c : Scopes) × AreSpecifiers T u s.seen.scopes c × (erased_specifiers u ≡ specifiers)
      × RefusesDeclarators T file (storage_of u) (specified_type u) all (with_scopes (known_of s) c) (Refused p t)) in
      stopped-as p t Q (λ T. RefusesDeclaration T file (tree.Declare specifiers all) (known_of s) (Refused p t)) s r (λ x f. by_list all n r.table f)
      (stopped-step p t (lifted (judge_specifiers_of false specifiers) s) (λ base. λ m. next (judge_init_declarators file base all m) (λ list. pure (typed.Declare base list))) Q s r
      (λ q. stopped-as p t (λ T. RefusesSpecifiers T specifiers s.seen.scopes (Refused p t)) Q s r (λ x f. inl f) (base-stopped specifiers s r k.known q))
      (λ base m q g.
      let j = base-judged false specifiers base s m k q in
      stopped-after p t Q s m r j.judged.goes.extends
      (stopped-step p t (judge_init_declarators file base all m) (λ list. pure (typed.Declare base list)) Q m r
      (λ y. stopped-as p t (λ T. RefusesDeclarators T file (storage_of base) (specified_type base) all (known_of m) (Refused p t)) Q m r
      (λ x f. inr (
        base,
        m.seen.scopes,
        specifiers-kept m.table r.table x j.judged.goes.known.basic base s.seen.scopes m.seen.scopes j.judged.typed,
        j.judged.erases,
        subst (λ (c : Known). RefusesDeclarators r.table file (storage_of base) (specified_type base) all c (Refused p t)) (scopes-alone s m j.linkage) f,
      )) (declarators-stopped all file base m r j.goes.known j.judged.there y))
      (λ list q2 y z. never-stops (typed.Declare base list) (Refused p t) q2 r z) g)) h)
    where
      by_list : (list : tree.InitDeclarators) → is_none list ≡ false → (T : Table)
          → (RefusesSpecifiers T specifiers s.seen.scopes (Refused p t)
          ⊎ ((u : TypedSpecifiers) × (c : Scopes) × AreSpecifiers T u s.seen.scopes c × (erased_specifiers u ≡ specifiers)
          × RefusesDeclarators T file (storage_of u) (specified_type u) list (with_scopes (known_of s) c) (Refused p t)))
          → RefusesDeclaration T file (tree.Declare specifiers list) (known_of s) (Refused p t)
      by_list tree.NoInitDeclarator n T f = no_true (sym n)
      by_list (tree.AndPlain all d) n T f = f
      by_list (tree.AndInitialised all d at i) n T f = f

  alone_stopped : (file : Bool) (specifiers : tree.Specifiers) (s r : UnitState) → IsUnitKnown s
      → next (lifted (judge_specifiers_of true specifiers) s) (λ base. λ m. next (judge_init_declarators file base tree.NoInitDeclarator m) (λ list. pure (typed.Declare base list))) ≡ Stops (Refused p t) r
      → IsStopped (λ T. RefusesDeclaration T file (tree.Declare specifiers tree.NoInitDeclarator) (known_of s) (Refused p t)) s r
  unfolding judge_init_declarators
  alone_stopped file specifiers s r k h =
      let P : Table → Type 0 = λ T. RefusesDeclaration T file (tree.Declare specifiers tree.NoInitDeclarator) (known_of s) (Refused p t) in
      stopped-step p t (lifted (judge_specifiers_of true specifiers) s) (λ base. λ m. next (judge_init_declarators file base tree.NoInitDeclarator m) (λ list. pure (typed.Declare base list))) P s r
      (λ q. stopped-as p t (λ T. SpecifiersFail true T specifiers s.seen.scopes (Refused p t)) P s r (λ x f. f) (base_stopped true specifiers s r k.known q))
      (λ base m q g. never-stops (typed.Declare base typed.NoInitDeclarator) (Refused p t) m r g) h

  pub declaration-stopped : (file : Bool) (d : tree.Declaration) (s r : UnitState) → IsUnitKnown s → judge_declaration file d s ≡ Stops (Refused p t) r
      → IsStopped (λ T. RefusesDeclaration T file d (known_of s) (Refused p t)) s r
  unfolding judge_declaration
  declaration-stopped file (tree.Declare specifiers tree.NoInitDeclarator) s r k h = alone_stopped file specifiers s r k h
  declaration-stopped file (tree.Declare specifiers (tree.AndPlain all d)) s r k h = declared_stopped file specifiers (tree.AndPlain all d) s r refl k h
  declaration-stopped file (tree.Declare specifiers (tree.AndInitialised all d at i)) s r k h = declared_stopped file specifiers (tree.AndInitialised all d at i) s r refl k h
