-- What judging gives for declarations is well typed and erases to what was judged.
use Rattle.std.proofs.Common.{◌≡◌, ℕ, ◌≤◌, Bool, true, false, ◌&&◌, [], ◌∷◌, ◌++◌, Option, Some, None, refl, ap, sym, subst, ◌∙◌, inl, inr, if◌then◌else◌, arith}
use Rattle.cc_base.specs.declared.place.Place.{Place}
use Rattle.cc_base.specs.declared.number.NodeId.{NodeId}
use Rattle.cc_base.specs.declared.number.TypeId.{TypeId}
use Rattle.c_types.specs.declared.shape.TypeShape.{TypeShape}
use Rattle.c_types.specs.Table.{Table, IsType, IsComplete}
use Rattle.c_tree.specs.declared.leaf.Identifier.{Identifier}
use Rattle.c_tree.specs.declared.typed_word.Home.{Home}
use Rattle.c_tree.specs.Erasure.{erased_form, erased_declarator, erased_initialiser, erased_init_declarators}
use Rattle.c_tree.specs.Tree as tree
use Rattle.c_tree.specs.TypedTree as typed
use Rattle.c_tree.specs.TypedTree.{TypedSpecifiers, TypedForm, TypedDeclarator, TypedInitialiser, TypedInitDeclarators, TypedDeclaration}
use Rattle.c_tree.specs.TypedParts.{specified_type, declared_type, home_of, home_of_form, name_of, name_of_form, made_by_specifiers, made_by_declarator, made_by_initialiser, made_by_init_declarators}
use Rattle.c_typing.specs.Declarators
use Rattle.c_typing.specs.Declarators.{FormMakes, name_bytes}
use Rattle.c_typing.specs.Declaring.{declarator_name}
use Rattle.c_typing.specs.Extensions.{IsExtended}
use Rattle.c_typing.specs.Scopes.{Name, Scopes, entry_of, tag_here}
use Rattle.c_typing.specs.Settled.{IsBasic}
use Rattle.c_typing.specs.Typing.{AreSpecifiers, AreAlone}
use Rattle.c_typing.specs.Walks.{judge_specifiers_of, outermost_of}
use Rattle.c_typing_laws.specs.Judged.{AreSpecifiersJudged}
use Rattle.c_typing_laws.specs.Numbers.{AreNumberedFrom}
use Rattle.c_typing_laws.proofs.ExtensionLaws.{no_true, still_in, extended_refl}
use Rattle.c_typing_laws.proofs.JudgedWhole.{specifiers_of-judged}
use Rattle.c_typing_laws.proofs.KeptDeclarators.{tagged-kept}
use Rattle.c_typing_laws.proofs.KeptTrees.{specifiers-kept}
use Rattle.c_typing_laws.proofs.NumberedWhole.{specifiers-numbers}
use Rattle.c_typing_laws.proofs.TableGrowth.{extended_trans}
use Rattle.c_type_order.specs.TypesUsed.{used_by_specifiers, used_by_declarator}
use Rattle.c_type_order.specs.Uses.{IsUsed}
use Rattle.c_type_order.proofs.Uses.{used-none, then_used, used-still}
use Rattle.c_type_order.proofs.UsedWhole.{SpecifiersUsed, specifiers_of-used, DeclaratorUsed}
use Rattle.c_unit_typing.specs.DeclarationJudging.{is_linked_by, defining, judge_named, judge_init_declarators, is_none, judge_declaration}
use Rattle.c_unit_typing.specs.InitialiserJudging.{judge_initialiser}
use Rattle.c_unit_typing.specs.Initialisers.{is_char_array, is_char_shape, is_one_array, makes_chars, size_given, is_constant_initialiser, IsInitialiser}
use Rattle.c_unit_typing.specs.Linkage.{Linkage, with_name}
use Rattle.c_unit_typing.specs.Units.{Known, is_one_of, is_linked_home, storage_of, with_scopes, IsDefinedOnce, IsStaticInitialised, IsInitialised, IsDeclarator, AreDeclarators, IsDeclaration}
use Rattle.c_unit_typing.specs.UnitJudged.{state_of, IsUnitKnown, UnitGoesOn, IsInitialiserJudged, AreDeclaratorsJudged, IsDeclarationJudged}
use Rattle.c_unit_typing.specs.UnitJudging.{UnitState, Gives, known_of, next, pure, lifted}
use Rattle.c_unit_typing.specs.UnitRefusals.{is_lasting, size_written}
use Rattle.c_unit_typing.proofs.ConstantInitialisers.{initialiser-constant, initialiser_constant-kept}
use Rattle.c_unit_typing.proofs.JudgedDeclarators.{form_in, IsOneJudged, one-judged}
use Rattle.c_unit_typing.proofs.JudgedInitialisers.{initialiser-judged}
use Rattle.c_unit_typing.proofs.DeclaredNames.{IsHomeAt, IsLastingHome}
use Rattle.c_unit_typing.proofs.JudgedTests.{scopes-alone}
use Rattle.c_unit_typing.proofs.KeptInitialisers.{initialiser-kept, complete-kept, is_chars-same}
use Rattle.c_unit_typing.proofs.NameSteps.{name-kept}
use Rattle.c_unit_typing.proofs.NumberedInitialisers.{initialiser-made}
use Rattle.c_unit_typing.proofs.UnitOutcomes.{bind-gives, given-same, gives-state, lifted-gives}
use Rattle.c_unit_typing.proofs.UnitStates.{numbers-on, numbers-none, numbers-before, numbers-rise, all-linked_known, linkage-stays, unit-stays, unit-on}
use Rattle.c_unit_typing.proofs.WrittenSizes.{IsTextAsWritten, size-given, text-as-written}
use Rattle.c_unit_typing.specs.TypesUsed.{used_by_initialiser, used_by_init_declarators}
use Rattle.c_unit_typing.proofs.TypesOfInitialisers.{initialiser-types}

-- A name that is defined by its initialiser

abbrev defined_state : UnitState → Bool → Name → UnitState
defined_state s b name = record s { linkage = record s.linkage { defined = if b then with_name name s.linkage.defined else s.linkage.defined } }

stays_below : (n : ℕ) → n ≤ n
stays_below n = omega arith

pub defined-goes : (b : Bool) (name : Name) (s : UnitState) → IsUnitKnown s → UnitGoesOn s (defined_state s b name)
defined-goes b name s k = record {
  goes = record { extends = extended_refl s.table; known = k.known };
  known = record {
    known = k.known;
    linked = all-linked_known s (defined_state s b name) s.linkage.linked (extended_refl s.table) (stays_below s.seen.node) (λ n h. h) k.linked;
  };
  linked = λ other what q. q;
  defined = λ other q. by b other q;
}
  where
    by : (f : Bool) (other : Name) → is_one_of s.linkage.defined other ≡ true → is_one_of (if f then with_name name s.linkage.defined else s.linkage.defined) other ≡ true
    by true other q = name-kept s.linkage.defined name other q
    by false other q = q

defining-gives : (name : Identifier) (one again : TypedDeclarator) (s r : UnitState) → defining (Some name) one s ≡ Gives again r
    → r ≡ defined_state s (is_linked_by (entry_of s.linkage.linked name.bytes) (home_of one)) name.bytes
unfolding defining
defining-gives name one again s r h = sym (gives-state one again (defined_state s (is_linked_by (entry_of s.linkage.linked name.bytes) (home_of one)) name.bytes) r h)

defined_once : (b : Bool) (name : Name) (s : UnitState) → (b ≡ true → is_one_of s.linkage.defined name ≡ false) → IsDefinedOnce b name (known_of s) (known_of (defined_state s b name))
defined_once true name s once =
    (once refl, ap (λ (f : Bool). record (known_of s) { defined = if f then s.linkage.defined else s.linkage.defined ++ name ∷ [] }) (once refl))
defined_once false name s once = refl

-- what an initialiser defines, by the home of its object
module _ (T : Table) (name : Name) (one : TypedInitialiser) (s : UnitState) where
  static_defined : (n : NodeId) → is_constant_initialiser T s.linkage.statics one ≡ true
      → (is_linked_home (entry_of s.linkage.linked name) n ≡ true → is_one_of s.linkage.defined name ≡ false)
      → IsStaticInitialised T (known_of s) n name one (known_of (defined_state s (is_linked_home (entry_of s.linkage.linked name) n) name))
  static_defined n constant once = (constant, defined_once (is_linked_home (entry_of s.linkage.linked name) n) name s once)

  initialised_by : (lasts : Bool) (h : Home) → IsLastingHome lasts h → (lasts ≡ true → is_constant_initialiser T s.linkage.statics one ≡ true)
      → ((n : NodeId) → IsHomeAt h n → is_linked_home (entry_of s.linkage.linked name) n ≡ true → is_one_of s.linkage.defined name ≡ false)
      → IsInitialised T h (known_of s) name one (known_of (defined_state s (is_linked_by (entry_of s.linkage.linked name) h) name))
  initialised_by true h at constant once =
      let n = at.0 in
      let P : Home → Type 0 = λ w. IsInitialised T w (known_of s) name one (known_of (defined_state s (is_linked_by (entry_of s.linkage.linked name) w) name)) in
      elim at.1 [
        | inl e ↦ subst P (sym e) (static_defined n (constant refl) (once n (inl e)))
        | inr e ↦ subst P (sym e) (static_defined n (constant refl) (once n (inr e)))
      ]
  initialised_by false h at constant once =
      subst (λ (w : Home). IsInitialised T w (known_of s) name one (known_of (defined_state s (is_linked_by (entry_of s.linkage.linked name) w) name))) (sym at.1) refl

-- Declarators with an initialiser

module _ (file : Bool) (base : TypedSpecifiers) (i : tree.Initialiser) (at : Place) (d : tree.Declarator) (s m q r : UnitState) (one : TypedDeclarator) (v : TypedInitialiser)
    (again : TypedDeclarator) (k : IsUnitKnown s) (b : IsType s.table (specified_type base))
    (j : IsOneJudged file (storage_of base) (specified_type base) true (size_written (makes_chars s.table (specified_type base) d) i) d one s m)
    (given : judge_initialiser (is_lasting file (storage_of base)) i at (Some (declared_type one)) false m ≡ Gives v q)
    (last : defining (declarator_name d) one q ≡ Gives again r) where
  value : IsInitialiserJudged i at (declared_type one) v m q
  value = initialiser-judged i (is_lasting file (storage_of base)) at (declared_type one) false v m q j.goes.known.known (j.complete refl) given

  value_numbers : AreNumberedFrom (made_by_initialiser v) (state_of m) (state_of q)
  value_numbers = initialiser-made i (is_lasting file (storage_of base)) at (declared_type one) false v m q j.goes.known.known (j.complete refl) given

  value_types : IsUsed (λ U. used_by_initialiser U v) m.table q.table
  value_types = initialiser-types i (is_lasting file (storage_of base)) at (declared_type one) false v m q j.goes.known.known (j.complete refl) given

  value_goes : UnitGoesOn m q
  value_goes = linkage-stays m q j.goes.known value.goes value.linkage (numbers-rise (made_by_initialiser v) (state_of m) (state_of q) value_numbers)

  flag : Bool
  flag = is_linked_by (entry_of q.linkage.linked j.name.bytes) (home_of one)

  after : r ≡ defined_state q (is_linked_by (entry_of q.linkage.linked j.name.bytes) (home_of one)) j.name.bytes
  after = defining-gives j.name one again q r (ap (λ (o : Option Identifier). defining o one q) (sym j.written) ∙ last)

  -- the size that is written serves as the one that is given
  sized : (T : Table) → IsExtended q.table T → (form : TypedForm) (t : TypeId) → one ≡ typed.Declares form t → IsDeclarator T file (storage_of base) (specified_type base)
      (outermost_of (size_written (makes_chars s.table (specified_type base) d) i)) form t (known_of s) (known_of m)
      → IsDeclarator T file (storage_of base) (specified_type base) (outermost_of (size_given (is_char_array T t) v)) form t (known_of s) (known_of m)
  sized T x form t e g =
      let whole : IsComplete m.table t = subst (λ (w : TypedDeclarator). IsComplete m.table (declared_type w)) e (j.complete refl) in
      let from_s : IsExtended s.table T = extended_trans s.table q.table T (extended_trans s.table m.table q.table j.goes.goes.extends value.goes.extends) x in
      let from_m : IsExtended m.table T = extended_trans m.table q.table T value.goes.extends x in
      let whole_q = complete-kept m.table q.table value.goes.extends j.goes.known.known.basic t whole in
      let typed_v : IsInitialiser T v at t m.seen.scopes q.seen.scopes =
      initialiser-kept q.table T x value.goes.known.basic v at t m.seen.scopes q.seen.scopes whole_q
      (subst (λ (w : TypedDeclarator). IsInitialiser q.table v at (declared_type w) m.seen.scopes q.seen.scopes) e value.typed) in
      let written : tree.Declarator = d in
      let erases : erased_form form ≡ d = subst (λ (w : TypedDeclarator). erased_declarator w ≡ d) e j.erases in
      let chars : makes_chars s.table (specified_type base) d ≡ makes_chars T (specified_type base) (erased_form form) =
      ap (λ (y : TypeShape). is_one_array d && is_char_shape y) (sym (from_s.shapes (specified_type base) b)) ∙ ap (makes_chars T (specified_type base)) (sym erases) in
      let type_here : FormMakes T g.inside form (outermost_of (size_written (makes_chars T (specified_type base) (erased_form form)) (erased_initialiser v))) (specified_type base) t =
      subst (λ (w : tree.Initialiser). FormMakes T g.inside form (outermost_of (size_written (makes_chars T (specified_type base) (erased_form form)) w)) (specified_type base) t) (sym value.erases)
      (subst (λ (f : Bool). FormMakes T g.inside form (outermost_of (size_written f i)) (specified_type base) t) chars g.type) in
      let as_written : is_char_array m.table t ≡ true → IsTextAsWritten v = λ y. text-as-written (is_lasting file (storage_of base)) i at t v m q j.goes.known.known whole y
      (ap (λ (w : TypedDeclarator). judge_initialiser (is_lasting file (storage_of base)) i at (Some (declared_type w)) false m) (sym e) ∙ given) in
      record {
        name = g.name;
        inside = g.inside;
        named = g.named;
        parts = g.parts;
        type = size-given T g.inside form (specified_type base) t v at m.seen.scopes q.seen.scopes typed_v
            (λ y. as_written (sym (is_chars-same m.table T from_m j.goes.known.known.basic t whole) ∙ y)) type_here;
        declares = g.declares;
      }

  -- what the initialiser makes of the name
  defines : (T : Table) → IsExtended q.table T → IsInitialised T (home_of one) (known_of q) j.name.bytes v (known_of r)
  defines T x =
      subst (λ (c : Known). IsInitialised T (home_of one) (known_of q) j.name.bytes v c) (ap known_of (sym after))
      (initialised_by T j.name.bytes v q (is_lasting file (storage_of base)) (home_of one) (j.lasting refl)
      (λ e. ap (λ (l : Linkage). is_constant_initialiser T l.statics v) value.linkage
      ∙ initialiser_constant-kept q.table T x value.goes.known.basic m.linkage.statics v at (declared_type one) m.seen.scopes q.seen.scopes value.typed
      (initialiser-constant i at (declared_type one) false v m q j.goes.known.known (j.complete refl)
      (ap (λ (f : Bool). judge_initialiser f i at (Some (declared_type one)) false m) (sym e) ∙ given)))
      (λ n seat f. ap (λ (l : Linkage). is_one_of l.defined j.name.bytes) value.linkage
      ∙ j.once n refl seat (ap (λ (l : Linkage). is_linked_home (entry_of l.linked j.name.bytes) n) (sym value.linkage) ∙ f)))

  module _ (all : tree.InitDeclarators) (list : TypedInitDeclarators) (s0 : UnitState) (l : AreDeclaratorsJudged file base all list s0 s) where
    and_initialised : (w : TypedDeclarator) → one ≡ w → AreDeclaratorsJudged file base (tree.AndInitialised all d at i) (typed.AndInitialised list w at v) s0 r
    and_initialised (typed.Declares form t) e = record {
      typed = λ T x.
          let from_q : IsExtended q.table T = subst (λ (U : Table). IsExtended U T) (ap (λ (w : UnitState). w.table) after) x in
          let from_m : IsExtended m.table T = extended_trans m.table q.table T value.goes.extends from_q in
          let from_s : IsExtended s.table T = extended_trans s.table m.table T j.goes.goes.extends from_m in
          let whole : IsComplete m.table t = subst (λ (w : TypedDeclarator). IsComplete m.table (declared_type w)) e (j.complete refl) in (
            known_of s,
            known_of m,
            q.seen.scopes,
            l.typed T from_s,
            sized T from_q form t e
                (subst (λ (w : TypedDeclarator). IsDeclarator T file (storage_of base) (specified_type base) (outermost_of (size_written (makes_chars s.table (specified_type base) d) i)) (form_in w) (declared_type w) (known_of s) (known_of m)) e
                (j.typed T from_m)),
            initialiser-kept q.table T from_q value.goes.known.basic v at t m.seen.scopes q.seen.scopes (complete-kept m.table q.table value.goes.extends j.goes.known.known.basic t whole)
                (subst (λ (w : TypedDeclarator). IsInitialiser q.table v at (declared_type w) m.seen.scopes q.seen.scopes) e value.typed),
            subst (λ (c : Known). IsInitialised T (home_of_form form) c (name_bytes (name_of_form form)) v (known_of r)) (scopes-alone m q value.linkage)
                (subst (λ (o : Option Identifier). IsInitialised T (home_of_form form) (known_of q) (name_bytes o) v (known_of r))
                (sym (subst (λ (w : TypedDeclarator). name_of w ≡ Some j.name) e j.named))
                (subst (λ (w : TypedDeclarator). IsInitialised T (home_of w) (known_of q) j.name.bytes v (known_of r)) e (defines T from_q))),
          );
      erases =
          let same : erased_declarator (typed.Declares form t) ≡ d = subst (λ (w : TypedDeclarator). erased_declarator w ≡ d) e j.erases in
          λ z. tree.AndInitialised (l.erases z) (same z) at (value.erases z);
      numbers =
          let made = subst (λ (w : TypedDeclarator). AreNumberedFrom (made_by_declarator w) (state_of s) (state_of m)) e j.numbers in
          numbers-before (made_by_init_declarators list ++ made_by_declarator (typed.Declares form t) ++ made_by_initialiser v) (state_of s0) (state_of q) (state_of r)
          (numbers-on (made_by_init_declarators list ++ made_by_declarator (typed.Declares form t)) (made_by_initialiser v) (state_of s0) (state_of m) (state_of q)
          (numbers-on (made_by_init_declarators list) (made_by_declarator (typed.Declares form t)) (state_of s0) (state_of s) (state_of m) l.numbers made) value_numbers)
          (ap (λ (w : UnitState). w.seen.node) after);
      types =
          let made = subst (λ (w : TypedDeclarator). DeclaratorUsed w s.table m.table) e j.types in
          used-still (λ U. used_by_init_declarators U list ++ used_by_declarator U Declarators.Written (typed.Declares form t) ++ used_by_initialiser U v) s0.table q.table r.table
          (ap (λ (w : UnitState). w.table) after)
          (then_used (λ U. used_by_init_declarators U list ++ used_by_declarator U Declarators.Written (typed.Declares form t)) (λ U. used_by_initialiser U v) s0.table m.table q.table
          (then_used (λ U. used_by_init_declarators U list) (λ U. used_by_declarator U Declarators.Written (typed.Declares form t)) s0.table s.table m.table l.types made) value_types);
      goes = unit-on s0 s r l.goes (unit-on s m r j.goes (unit-on m q r value_goes
          (subst (λ (w : UnitState). UnitGoesOn q w) (sym after) (defined-goes (is_linked_by (entry_of q.linkage.linked j.name.bytes) (home_of one)) j.name.bytes q value_goes.known))));
    }

and_plain : (file : Bool) (base : TypedSpecifiers) (all : tree.InitDeclarators) (d : tree.Declarator) (list : TypedInitDeclarators) (one : TypedDeclarator) (s0 s r : UnitState)
    → AreDeclaratorsJudged file base all list s0 s → IsOneJudged file (storage_of base) (specified_type base) false None d one s r
    → AreDeclaratorsJudged file base (tree.AndPlain all d) (typed.AndPlain list one) s0 r
and_plain file base all d list (typed.Declares form t) s0 s r l j = record {
  typed = λ T x. (known_of s, l.typed T (extended_trans s.table r.table T j.goes.goes.extends x), j.typed T x);
  erases = λ z. tree.AndPlain (l.erases z) (j.erases z);
  numbers = numbers-on (made_by_init_declarators list) (made_by_declarator (typed.Declares form t)) (state_of s0) (state_of s) (state_of r) l.numbers j.numbers;
  types = then_used (λ U. used_by_init_declarators U list) (λ U. used_by_declarator U Declarators.Written (typed.Declares form t)) s0.table s.table r.table l.types j.types;
  goes = unit-on s0 s r l.goes j.goes;
}

pub declarators-judged : (all : tree.InitDeclarators) (file : Bool) (base : TypedSpecifiers) (list : TypedInitDeclarators) (s r : UnitState) → IsUnitKnown s
    → IsType s.table (specified_type base) → judge_init_declarators file base all s ≡ Gives list r → AreDeclaratorsJudged file base all list s r
unfolding judge_init_declarators
declarators-judged tree.NoInitDeclarator file base list s r k b h =
    given-same (λ (v : TypedInitDeclarators) (q : UnitState). AreDeclaratorsJudged file base tree.NoInitDeclarator v s q) typed.NoInitDeclarator list s r h
    (record { typed = λ T x. refl; erases = refl; numbers = numbers-none (state_of s) (state_of s) refl; types = used-none s.table; goes = unit-stays s k })
declarators-judged (tree.AndPlain all d) file base list s r k b h =
    let e1 = bind-gives (judge_init_declarators file base all s) (λ before. λ m. next (judge_named file base false None d m) (λ one. pure (typed.AndPlain before one))) list r h in
    let l = declarators-judged all file base e1.0 s e1.1 k b e1.2 in
    let e2 = bind-gives (judge_named file base false None d e1.1) (λ one. pure (typed.AndPlain e1.0 one)) list r e1.3 in
    let j = one-judged file base false None d e2.0 e1.1 e2.1 l.goes.known (still_in s.table e1.1.table l.goes.goes.extends (specified_type base) b) e2.2 in
    given-same (λ (v : TypedInitDeclarators) (q : UnitState). AreDeclaratorsJudged file base (tree.AndPlain all d) v s q) (typed.AndPlain e1.0 e2.0) list e2.1 r e2.3
    (and_plain file base all d e1.0 e2.0 s e1.1 e2.1 l j)
declarators-judged (tree.AndInitialised all d at i) file base list s r k b h =
    let size : UnitState → Option ℕ = λ m. size_written (makes_chars m.table (specified_type base) d) i in
    let lasts = is_lasting file (storage_of base) in
    let e1 = bind-gives (judge_init_declarators file base all s) (λ before. λ m. next (judge_named file base true (size m) d m) (λ one. λ n.
    next (judge_initialiser lasts i at (Some (declared_type one)) false n) (λ value. λ q. next (defining (declarator_name d) one q) (λ again. pure (typed.AndInitialised before one at value))))) list r h in
    let m = e1.1 in
    let l = declarators-judged all file base e1.0 s m k b e1.2 in
    let there = still_in s.table m.table l.goes.goes.extends (specified_type base) b in
    let e2 = bind-gives (judge_named file base true (size m) d m) (λ one. λ n.
    next (judge_initialiser lasts i at (Some (declared_type one)) false n) (λ value. λ q. next (defining (declarator_name d) one q) (λ again. pure (typed.AndInitialised e1.0 one at value)))) list r e1.3 in
    let j = one-judged file base true (size m) d e2.0 m e2.1 l.goes.known there e2.2 in
    let e3 = bind-gives (judge_initialiser lasts i at (Some (declared_type e2.0)) false e2.1) (λ value. λ q. next (defining (declarator_name d) e2.0 q) (λ again. pure (typed.AndInitialised e1.0 e2.0 at value))) list r e2.3 in
    let e4 = bind-gives (defining (declarator_name d) e2.0 e3.1) (λ again. pure (typed.AndInitialised e1.0 e2.0 at e3.0)) list r e3.3 in
    given-same (λ (v : TypedInitDeclarators) (q : UnitState). AreDeclaratorsJudged file base (tree.AndInitialised all d at i) v s q) (typed.AndInitialised e1.0 e2.0 at e3.0) list e4.1 r e4.3
    (and_initialised file base i at d m e2.1 e3.1 e4.1 e2.0 e3.0 e4.0 l.goes.known there j e3.2 e4.2 all e1.0 s l e2.0 refl)

-- Declarations

module _ (T U : Table) (x : IsExtended T U) (b : IsBasic T) where
  pub alone-kept : (all : TypedSpecifiers) (s s' : Scopes) → AreAlone T all s s' → AreAlone U all s s'
  alone-kept (typed.Specified (typed.AndSpecifier typed.NoSpecifier (typed.Tagged which at name t)) u) s s' h =
      (tagged-kept T U x b (tag_here s.levels name.bytes) which name t s s' h.0, h.1)
  alone-kept (typed.Specified typed.NoSpecifier u) s s' h = specifiers-kept T U x b (typed.Specified typed.NoSpecifier u) s s' h
  alone-kept (typed.Specified (typed.AndSpecifier (typed.AndSpecifier all other) one) u) s s' h =
      specifiers-kept T U x b (typed.Specified (typed.AndSpecifier (typed.AndSpecifier all other) one) u) s s' h
  alone-kept (typed.Specified (typed.AndSpecifier typed.NoSpecifier one) u) s s' h =
      specifiers-kept T U x b (typed.Specified (typed.AndSpecifier typed.NoSpecifier one) u) s s' h

-- specifiers of a declaration
pub record AreBaseJudged (alone : Bool) (all : tree.Specifiers) (base : TypedSpecifiers) (s m : UnitState) : Type 0 where
  pub judged : AreSpecifiersJudged alone all base (state_of s) (state_of m)
  pub linkage : m.linkage ≡ s.linkage
  pub numbers : AreNumberedFrom (made_by_specifiers base) (state_of s) (state_of m)
  pub types : SpecifiersUsed base s.table m.table
  pub goes : UnitGoesOn s m

pub base-judged : (alone : Bool) (all : tree.Specifiers) (base : TypedSpecifiers) (s m : UnitState) → IsUnitKnown s → lifted (judge_specifiers_of alone all) s ≡ Gives base m
    → AreBaseJudged alone all base s m
base-judged alone all base s m k h =
    let l = lifted-gives (judge_specifiers_of alone all) base s m h in
    let j = specifiers_of-judged alone all base (state_of s) (state_of m) k.known l.0 in
    let n = specifiers-numbers alone all base (state_of s) (state_of m) k.known l.0 in
    record {
      judged = j;
      linkage = l.1;
      numbers = n;
      types = specifiers_of-used alone all base (state_of s) (state_of m) k.known l.0;
      goes = linkage-stays s m k j.goes l.1 (numbers-rise (made_by_specifiers base) (state_of s) (state_of m) n);
    }

declaration_typed : (T : Table) (file : Bool) (base : TypedSpecifiers) (list : TypedInitDeclarators) (k k' : Known) (s : Scopes) → is_none (erased_init_declarators list) ≡ false
    → AreSpecifiers T base k.scopes s → AreDeclarators T file (storage_of base) (specified_type base) list (with_scopes k s) k' → IsDeclaration T file (typed.Declare base list) k k'
declaration_typed T file base typed.NoInitDeclarator k k' s n a d = no_true (sym n)
declaration_typed T file base (typed.AndPlain all one) k k' s n a d = (s, a, d)
declaration_typed T file base (typed.AndInitialised all one at i) k k' s n a d = (s, a, d)

module _ (file : Bool) (specifiers : tree.Specifiers) (base : TypedSpecifiers) (s m r : UnitState) where
  declared_alone : AreBaseJudged true specifiers base s m → (list : TypedInitDeclarators) → judge_init_declarators file base tree.NoInitDeclarator m ≡ Gives list r
      → IsDeclarationJudged file (tree.Declare specifiers tree.NoInitDeclarator) (typed.Declare base list) s r
  unfolding judge_init_declarators
  declared_alone b list h =
      given-same (λ (v : TypedInitDeclarators) (q : UnitState). IsDeclarationJudged file (tree.Declare specifiers tree.NoInitDeclarator) (typed.Declare base v) s q) typed.NoInitDeclarator list m r h (record {
        typed = λ T x. (
          m.seen.scopes,
          alone-kept m.table T x b.judged.goes.known.basic base s.seen.scopes m.seen.scopes b.judged.typed,
          scopes-alone s m b.linkage,
        );
        erases = ap (λ (w : tree.Specifiers). tree.Declare w tree.NoInitDeclarator) b.judged.erases;
        numbers = numbers-on (made_by_specifiers base) [] (state_of s) (state_of m) (state_of m) b.numbers (numbers-none (state_of m) (state_of m) refl);
        types = then_used (λ U. used_by_specifiers U base) (λ U. []) s.table m.table m.table b.types (used-none m.table);
        goes = b.goes;
      })

  declared_with : AreBaseJudged false specifiers base s m → (all : tree.InitDeclarators) → is_none all ≡ false → (list : TypedInitDeclarators)
      → judge_init_declarators file base all m ≡ Gives list r → IsDeclarationJudged file (tree.Declare specifiers all) (typed.Declare base list) s r
  declared_with b all n list h =
      let l = declarators-judged all file base list m r b.goes.known b.judged.there h in
      record {
        typed = λ T x.
            declaration_typed T file base list (known_of s) (known_of r) m.seen.scopes (ap is_none l.erases ∙ n)
            (specifiers-kept m.table T (extended_trans m.table r.table T l.goes.goes.extends x) b.judged.goes.known.basic base s.seen.scopes m.seen.scopes b.judged.typed)
            (subst (λ (c : Known). AreDeclarators T file (storage_of base) (specified_type base) list c (known_of r)) (scopes-alone s m b.linkage) (l.typed T x));
        erases = λ z. tree.Declare (b.judged.erases z) (l.erases z);
        numbers = numbers-on (made_by_specifiers base) (made_by_init_declarators list) (state_of s) (state_of m) (state_of r) b.numbers l.numbers;
        types = then_used (λ U. used_by_specifiers U base) (λ U. used_by_init_declarators U list) s.table m.table r.table b.types l.types;
        goes = unit-on s m r b.goes l.goes;
      }

pub declaration-judged : (file : Bool) (d : tree.Declaration) (one : TypedDeclaration) (s r : UnitState) → IsUnitKnown s → judge_declaration file d s ≡ Gives one r
    → IsDeclarationJudged file d one s r
unfolding judge_declaration
declaration-judged file (tree.Declare specifiers tree.NoInitDeclarator) one s r k h =
    let e1 = bind-gives (lifted (judge_specifiers_of true specifiers) s) (λ base. λ m. next (judge_init_declarators file base tree.NoInitDeclarator m) (λ list. pure (typed.Declare base list))) one r h in
    let e2 = bind-gives (judge_init_declarators file e1.0 tree.NoInitDeclarator e1.1) (λ list. pure (typed.Declare e1.0 list)) one r e1.3 in
    given-same (λ (v : TypedDeclaration) (q : UnitState). IsDeclarationJudged file (tree.Declare specifiers tree.NoInitDeclarator) v s q) (typed.Declare e1.0 e2.0) one e2.1 r e2.3
    (declared_alone file specifiers e1.0 s e1.1 e2.1 (base-judged true specifiers e1.0 s e1.1 k e1.2) e2.0 e2.2)
declaration-judged file (tree.Declare specifiers (tree.AndPlain all d)) one s r k h =
    let list : tree.InitDeclarators = tree.AndPlain all d in
    let e1 = bind-gives (lifted (judge_specifiers_of false specifiers) s) (λ base. λ m. next (judge_init_declarators file base list m) (λ v. pure (typed.Declare base v))) one r h in
    let e2 = bind-gives (judge_init_declarators file e1.0 list e1.1) (λ v. pure (typed.Declare e1.0 v)) one r e1.3 in
    given-same (λ (v : TypedDeclaration) (q : UnitState). IsDeclarationJudged file (tree.Declare specifiers list) v s q) (typed.Declare e1.0 e2.0) one e2.1 r e2.3
    (declared_with file specifiers e1.0 s e1.1 e2.1 (base-judged false specifiers e1.0 s e1.1 k e1.2) list refl e2.0 e2.2)
declaration-judged file (tree.Declare specifiers (tree.AndInitialised all d at i)) one s r k h =
    let list : tree.InitDeclarators = tree.AndInitialised all d at i in
    let e1 = bind-gives (lifted (judge_specifiers_of false specifiers) s) (λ base. λ m. next (judge_init_declarators file base list m) (λ v. pure (typed.Declare base v))) one r h in
    let e2 = bind-gives (judge_init_declarators file e1.0 list e1.1) (λ v. pure (typed.Declare e1.0 v)) one r e1.3 in
    given-same (λ (v : TypedDeclaration) (q : UnitState). IsDeclarationJudged file (tree.Declare specifiers list) v s q) (typed.Declare e1.0 e2.0) one e2.1 r e2.3
    (declared_with file specifiers e1.0 s e1.1 e2.1 (base-judged false specifiers e1.0 s e1.1 k e1.2) list refl e2.0 e2.2)
