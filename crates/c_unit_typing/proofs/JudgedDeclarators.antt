-- What judging gives for a declarator behind specifiers is well typed, erases to what was judged, and declares its name.
use Rattle.std.proofs.Common.{◌≡◌, ℕ, Bool, true, false, List, Option, Some, None, refl, ap, sym, subst, ◌∙◌, arith}
use Rattle.cc_base.specs.declared.number.NodeId.{NodeId}
use Rattle.cc_base.specs.declared.number.TypeId.{TypeId}
use Rattle.cc_base.specs.declared.fault.Fault.TheVariants.{TooLarge}
use Rattle.cc_base.specs.declared.fault.Limit.TheVariants.{Types}
use Rattle.c_types.specs.Table.{Table, IsType, IsComplete, shape_at}
use Rattle.c_tree.specs.declared.leaf.Identifier.{Identifier}
use Rattle.c_tree.specs.Erasure.{erased_declarator}
use Rattle.c_tree.specs.Places.{nowhere}
use Rattle.c_tree.specs.Tree as tree
use Rattle.c_tree.specs.TypedTree as typed
use Rattle.c_tree.specs.TypedTree.{TypedSpecifiers, TypedForm, TypedDeclarator}
use Rattle.c_tree.specs.TypedParts.{specified_type, declared_type, home_of, home_of_form, name_of, name_of_form, made_by_declarator}
use Rattle.c_typing.specs.Declarators
use Rattle.c_typing.specs.declared.declared.Declared.TheVariants as declared
use Rattle.c_typing.specs.declared.naming.Naming.{Naming}
use Rattle.c_typing.specs.Declarators.{Outermost, FormMakes}
use Rattle.c_typing.specs.Declaring.{declarator_name, unless_function}
use Rattle.c_typing.specs.Extensions.{IsExtended}
use Rattle.c_typing.specs.Refusals.{name_place}
use Rattle.c_typing.specs.Scopes.{Name, entry_of}
use Rattle.c_typing.specs.Shapes.{is_function_shape}
use Rattle.c_typing.specs.Tests.{first_broken}
use Rattle.c_typing.specs.Typing.{IsForm}
use Rattle.c_typing.specs.Walks
use Rattle.c_typing.specs.Walks.{judge_declarator, outermost_of}
use Rattle.c_typing_laws.specs.Judged.{IsHomeAs, IsHomeOf, IsDeclaratorJudged}
use Rattle.c_typing_laws.specs.Numbers.{AreNumberedFrom}
use Rattle.c_typing_laws.proofs.JudgedDeclarators.{form_name}
use Rattle.c_typing_laws.proofs.JudgedWhole.{declarator-at}
use Rattle.c_typing_laws.proofs.KeptDeclarators.{form_makes-kept}
use Rattle.c_typing_laws.proofs.KeptTrees.{form-kept}
use Rattle.c_typing_laws.proofs.NumberedWhole.{declarator-numbers}
use Rattle.c_type_order.specs.TypesUsed.{used_by_declarator}
use Rattle.c_type_order.proofs.Uses.{used-still}
use Rattle.c_type_order.proofs.UsedWhole.{DeclaratorUsed, declarator-used}
use Rattle.c_unit_typing.specs.DeclarationJudging.{naming_for, linked_first, declare, named, judge_named}
use Rattle.c_unit_typing.specs.Linkage.{Linkage}
use Rattle.c_unit_typing.specs.Units.{Known, Storage, is_one_of, is_linked_home, storage_of, IsNameDeclared, IsDeclarator}
use Rattle.c_unit_typing.specs.UnitJudged.{state_of, IsUnitKnown, UnitGoesOn, OverLater}
use Rattle.c_unit_typing.specs.UnitJudging.{UnitState, Gives, known_of, next, pure, lifted}
use Rattle.c_unit_typing.specs.UnitRefusals.{declared_tests, is_lasting}
use Rattle.c_unit_typing.proofs.HomeNumbers.{home-between}
use Rattle.c_unit_typing.proofs.DeclaredNames.{IsHomeAt, IsLastingHome, IsNamedAs}
use Rattle.c_unit_typing.proofs.JudgedNames.{IsNewHome, declare-judged}
use Rattle.c_unit_typing.proofs.JudgedTests.{scopes-alone}
use Rattle.c_unit_typing.proofs.NameSteps.{linked-there}
use Rattle.c_unit_typing.proofs.UnitOutcomes.{never-gives, bind-gives, unless-gives, given-same, lifted-gives}
use Rattle.c_unit_typing.proofs.UnitStates.{numbers-rise, numbers-before, linkage-stays, unit-on}

abbrev pub form_in : TypedDeclarator → TypedForm
form_in (typed.Declares form t) = form

pub outermost_same : (size : Option ℕ) → Walks.outermost_of size ≡ outermost_of size
outermost_same None = refl
outermost_same (Some count) = refl

-- the declarator, whose type is made with what an initialiser gives as its size
pub record IsOneJudged (file : Bool) (storage : Storage) (base : TypeId) (initialised : Bool) (size : Option ℕ) (d : tree.Declarator) (one : TypedDeclarator) (s r : UnitState) : Type 0 where
  pub name : Identifier
  pub written : declarator_name d ≡ Some name
  pub named : name_of one ≡ Some name
  pub typed : OverLater r.table (λ T. IsDeclarator T file storage base (outermost_of size) (form_in one) (declared_type one) (known_of s) (known_of r))
  pub erases : erased_declarator one ≡ d
  pub there : IsType r.table (declared_type one)
  pub numbers : AreNumberedFrom (made_by_declarator one) (state_of s) (state_of r)
  pub types : DeclaratorUsed one s.table r.table
  pub goes : UnitGoesOn s r
  pub complete : initialised ≡ true → IsComplete r.table (declared_type one)
  pub lasting : initialised ≡ true → IsLastingHome (is_lasting file storage) (home_of one)
  pub once : (n : NodeId) → initialised ≡ true → IsHomeAt (home_of one) n → is_linked_home (entry_of r.linkage.linked name.bytes) n ≡ true
      → is_one_of r.linkage.defined name.bytes ≡ false

-- what is judged of a declarator before its name is declared
pub record IsFormKnown (which : Naming) (base : TypeId) (size : Option ℕ) (d : tree.Declarator) (form : TypedForm) (t : TypeId) (s m : UnitState) : Type 0 where
  pub judged : IsDeclaratorJudged which (Walks.outermost_of size) base d (typed.Declares form t) (state_of s) (state_of m)
  pub linkage : m.linkage ≡ s.linkage
  pub numbers : AreNumberedFrom (made_by_declarator (typed.Declares form t)) (state_of s) (state_of m)
  pub types : DeclaratorUsed (typed.Declares form t) s.table m.table
  pub goes : UnitGoesOn s m

pub form-known : (which : Naming) (base : TypedSpecifiers) (size : Option ℕ) (d : tree.Declarator) (form : TypedForm) (t : TypeId) (s m : UnitState) → IsUnitKnown s
    → IsType s.table (specified_type base) → lifted (judge_declarator which base size d) s ≡ Gives (typed.Declares form t) m
    → IsFormKnown which (specified_type base) size d form t s m
form-known which base size d form t s m k b h =
    let at = name_place (declarator_name d) nowhere in
    let l = lifted-gives (judge_declarator which base size d) (typed.Declares form t) s m h in
    let j = declarator-at at which (specified_type base) size d (typed.Declares form t) (state_of s) (state_of m) k.known b l.0 in
    let n = declarator-numbers at which (specified_type base) size d (typed.Declares form t) (state_of s) (state_of m) k.known l.0 in
    record {
      judged = j;
      linkage = l.1;
      numbers = n;
      types = declarator-used at which (specified_type base) size d (typed.Declares form t) (state_of s) (state_of m) k.known l.0;
      goes = linkage-stays s m k j.goes l.1 (numbers-rise (made_by_declarator (typed.Declares form t)) (state_of s) (state_of m) n);
    }

module _ (which : Naming) (base : TypeId) (size : Option ℕ) (d : tree.Declarator) (form : TypedForm) (t : TypeId) (s m : UnitState) (k : IsUnitKnown s)
    (j : IsFormKnown which base size d form t s m) where
  pub named-form : (o : Option Identifier) → declarator_name d ≡ o → name_of_form form ≡ o
  named-form o q = sym (form_name form) ∙ ap declarator_name j.judged.erases ∙ q

  -- the home that it makes is new
  pub new-home : (name : Name) → IsNewHome m name (home_of_form form)
  new-home name n at =
      let between = home-between (typed.Declares form t) n (state_of s) (state_of m) at j.numbers in
      let low = between.0 in (
        between.1,
        λ u w q.
            let there = linked-there s k name (declared.Object u w) (ap (λ (l : Linkage). entry_of l.linked name) (sym j.linkage) ∙ q) in
            let below = there.1.0 in
            omega (arith, low, below),
      )

  pub form-later : (T : Table) → IsExtended m.table T → IsForm T form s.seen.scopes m.seen.scopes
  form-later T x = form-kept m.table T x j.judged.goes.known.basic form s.seen.scopes m.seen.scopes j.judged.typed

  pub makes-later : (T : Table) → IsExtended m.table T → FormMakes T m.seen.scopes form (outermost_of size) base t
  makes-later T x = subst (λ (o : Outermost). FormMakes T m.seen.scopes form o base t) (outermost_same size)
      (form_makes-kept m.table T x j.judged.goes.known.basic m.seen.scopes form (Walks.outermost_of size) base t j.judged.makes)

module _ (file : Bool) (storage : Storage) (base : TypeId) (initialised : Bool) (size : Option ℕ) (d : tree.Declarator) (form : TypedForm) (t : TypeId) (s m : UnitState) (k : IsUnitKnown s)
    (j : IsFormKnown (naming_for file storage (linked_first s.linkage.linked (declarator_name d))) base size d form t s m) where
  home-kind : (name : Identifier) → declarator_name d ≡ Some name
      → IsHomeAs (unless_function (is_function_shape (shape_at m.table t)) (naming_for file storage (entry_of m.linkage.linked name.bytes))) (home_of_form form)
  home-kind name q =
      let which : Option Identifier → Linkage → Naming = λ o l. unless_function (is_function_shape (shape_at m.table t)) (naming_for file storage (linked_first l.linked o)) in
      subst (λ (l : Linkage). IsHomeAs (which (Some name) l) (home_of_form form)) (sym j.linkage)
      (subst (λ (o : Option Identifier). IsHomeOf (which o s.linkage) o (home_of_form form)) q
      (subst (λ (o : Option Identifier). IsHomeOf (which (declarator_name d) s.linkage) o (home_of_form form))
      (named-form _ base size d form t s m k j (declarator_name d) refl) j.judged.home))

  one-named : (name : Identifier) (r : UnitState) → declarator_name d ≡ Some name → IsNamedAs file storage initialised name.bytes t (home_of_form form) m r
      → IsOneJudged file storage base initialised size d (typed.Declares form t) s r
  one-named name r q n =
      let made = named-form _ base size d form t s m k j (Some name) q in
      record {
        name = name;
        written = q;
        named = made;
        typed = λ T x.
            let from_m : IsExtended m.table T = subst (λ (U : Table). IsExtended U T) n.table x in
            record {
              name = name;
              inside = m.seen.scopes;
              named = made;
              parts = form-later _ base size d form t s m k j T from_m;
              type = makes-later _ base size d form t s m k j T from_m;
              declares = subst (λ (c : Known). IsNameDeclared T file storage (home_of_form form) name.bytes t c (known_of r)) (scopes-alone s m j.linkage) (n.typed T from_m);
            };
        erases = j.judged.erases;
        there = subst (λ (U : Table). IsType U t) (sym n.table) j.judged.there;
        numbers = numbers-before (made_by_declarator (typed.Declares form t)) (state_of s) (state_of m) (state_of r) j.numbers n.node;
        types = used-still (λ U. used_by_declarator U Declarators.Written (typed.Declares form t)) s.table m.table r.table n.table j.types;
        goes = unit-on s m r j.goes n.goes;
        complete = λ i. subst (λ (U : Table). IsComplete U t) (sym n.table) (n.complete i);
        lasting = n.lasting;
        once = λ l i at f. ap (λ (names : List Name). is_one_of names name.bytes) n.defined ∙ n.once l i at f;
      }

  named-judged : (o : Option Identifier) (one : TypedDeclarator) (r : UnitState) → declarator_name d ≡ o → named file storage initialised o (typed.Declares form t) m ≡ Gives one r
      → IsOneJudged file storage base initialised size d one s r
  unfolding named
  named-judged None one r q h = never-gives one (TooLarge nowhere Types) m r h
  named-judged (Some name) one r q h =
      let go = unless-gives (first_broken (declared_tests m.table (known_of m) file storage initialised name.bytes t name.place))
      (λ (w : UnitState). next (declare file storage name t (home_of_form form) w) (λ what. pure (typed.Declares form t))) m one r h in
      let two = bind-gives (declare file storage name t (home_of_form form) m) (λ what. pure (typed.Declares form t)) one r go.1 in
      given-same (λ (v : TypedDeclarator) (w : UnitState). IsOneJudged file storage base initialised size d v s w) (typed.Declares form t) one two.1 r two.3
      (one-named name two.1 q
      (declare-judged file storage initialised name t (home_of_form form) two.0 m two.1 j.goes.known j.judged.there (new-home _ base size d form t s m k j name.bytes)
      (home-kind name q) go.0 two.2))

-- a declarator that is judged
pub one-judged : (file : Bool) (base : TypedSpecifiers) (initialised : Bool) (size : Option ℕ) (d : tree.Declarator) (one : TypedDeclarator) (s r : UnitState) → IsUnitKnown s
    → IsType s.table (specified_type base) → judge_named file base initialised size d s ≡ Gives one r
    → IsOneJudged file (storage_of base) (specified_type base) initialised size d one s r
unfolding judge_named
one-judged file base initialised size d one s r k b h =
    let which : Naming = naming_for file (storage_of base) (linked_first s.linkage.linked (declarator_name d)) in
    let first = bind-gives (lifted (judge_declarator which base size d) s) (named file (storage_of base) initialised (declarator_name d)) one r h in
    by first.0 first.1 first.2 first.3
  where
    by : (made : TypedDeclarator) (m : UnitState)
        → lifted (judge_declarator (naming_for file (storage_of base) (linked_first s.linkage.linked (declarator_name d))) base size d) s ≡ Gives made m
        → named file (storage_of base) initialised (declarator_name d) made m ≡ Gives one r → IsOneJudged file (storage_of base) (specified_type base) initialised size d one s r
    by (typed.Declares form t) m g w =
        let j = form-known (naming_for file (storage_of base) (linked_first s.linkage.linked (declarator_name d))) base size d form t s m k b g in
        named-judged file (storage_of base) (specified_type base) initialised size d form t s m k j (declarator_name d) one r refl w
