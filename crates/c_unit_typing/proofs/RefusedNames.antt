-- What judging refuses of declarators breaks the rule that is named.
use Rattle.std.proofs.Common.{◌≡◌, ℕ, ◌+◌, nat_le, Bool, true, false, Option, Some, None, refl, ap, sym, subst, ◌∙◌, ◌⊎◌, inl, inr, if◌then◌else◌}
use Rattle.cc_base.specs.declared.place.Place.{Place}
use Rattle.cc_base.specs.declared.number.NodeId.{NodeId}
use Rattle.cc_base.specs.declared.number.TypeId.{TypeId}
use Rattle.cc_base.specs.declared.fault.Fault.TheVariants.{Refused, TooLarge}
use Rattle.cc_base.specs.declared.fault.Limit.TheVariants.{Types, Globals}
use Rattle.cc_base.specs.declared.fault.Rule.{Rule}
use Rattle.c_types.specs.Table.{Table, IsType, shape_at}
use Rattle.c_tree.specs.declared.leaf.Identifier.{Identifier}
use Rattle.c_tree.specs.declared.typed_word.Home.{Home}
use Rattle.c_tree.specs.declared.typed_word.Home.TheVariants as home
use Rattle.c_tree.specs.Erasure.{erased_form}
use Rattle.c_tree.specs.Places.{nowhere}
use Rattle.c_tree.specs.Tree as tree
use Rattle.c_tree.specs.TypedTree as typed
use Rattle.c_tree.specs.TypedTree.{TypedSpecifiers, TypedForm, TypedDeclarator}
use Rattle.c_tree.specs.TypedParts.{specified_type, home_of_form, name_of_form}
use Rattle.c_typing.specs.declared.declared.Declared.{Declared}
use Rattle.c_typing.specs.declared.declared.Declared.TheVariants as declared
use Rattle.c_typing.specs.declared.naming.Naming.{Naming}
use Rattle.c_typing.specs.Assignments.{count_global}
use Rattle.c_typing.specs.Declarators.{Outermost}
use Rattle.c_typing.specs.Declaring.{declarator_name}
use Rattle.c_typing.specs.Judging as judging
use Rattle.c_typing.specs.Judging.{State}
use Rattle.c_typing.specs.Refusals.{Fails, FormFails, RefusesDeclarator, name_place}
use Rattle.c_typing.specs.Scopes.{Scopes, here}
use Rattle.c_typing.specs.Settled.{IsKnown}
use Rattle.c_typing.specs.Shapes.{is_function_shape}
use Rattle.c_typing.specs.Typing.{IsForm}
use Rattle.c_typing.specs.Walks
use Rattle.c_typing.specs.Walks.{judge_declarator, outermost_of}
use Rattle.c_typing_laws.proofs.ExtensionLaws.{extended_refl}
use Rattle.c_typing_laws.proofs.JudgedDeclarators.{form_name}
use Rattle.c_typing_laws.proofs.Outcomes
use Rattle.c_typing_laws.proofs.RefusedWhole.{declarator-refuses}
use Rattle.c_unit_typing.specs.DeclarationJudging.{naming_for, linked_first, is_linked_object, complete_size, new_in, new_name, linked_name, object_name, count_object, lasting, new_static, declare_object, declare_by, declare, defining, named, judge_named}
use Rattle.c_unit_typing.specs.Units.{Known, Storage, Unstored, AsTypedef, AsExtern, AsStatic, AsAutomatic, storage_of}
use Rattle.c_unit_typing.specs.UnitJudged.{state_of, IsUnitKnown}
use Rattle.c_unit_typing.specs.UnitJudging.{UnitState, Gives, Stops, known_of, next, pure, lifted}
use Rattle.c_unit_typing.specs.UnitRefusals.{declared_tests, RefusesName}
use Rattle.c_unit_typing.proofs.JudgedDeclarators.{IsFormKnown, form-known, named-form, form-later, makes-later, outermost_same}
use Rattle.c_unit_typing.proofs.JudgedTests.{scopes-alone}
use Rattle.c_unit_typing.proofs.UnitStops.{never-stops, NeverRefused, gives-unrefused, large-unrefused, next-unrefused, lifted-unrefused, IsStopped, stopped-after, stopped-as, stopped-step, stopped-rules, lifted-stops}

-- Declaring a name refuses nothing: its rules are tried before

pub new-never : (name : Identifier) (what : Declared) (s : UnitState) → NeverRefused (new_name name what s)
unfolding new_name
new-never name what s = by (here s.seen.scopes.levels name.bytes)
  where
    by : (o : Option Declared) → NeverRefused (new_in name what o s)
    by None = gives-unrefused what _
    by (Some other) = large-unrefused Declared name.place Types s

pub linked-never : (name : Identifier) (what : Declared) (s : UnitState) → NeverRefused (linked_name name what s)
unfolding linked_name
linked-never name what s = gives-unrefused what _

object_never : (linked : Bool) (name : Identifier) (what : Declared) (s : UnitState) → NeverRefused (object_name linked name what s)
unfolding object_name
object_never true name what s = linked-never name what s
object_never false name what s = new-never name what s

global_never : (at : Place) (bytes : ℕ) (s : State) → Outcomes.NeverRefuses (count_global at bytes s)
unfolding count_global
global_never at bytes s = by (nat_le (s.seen.globals + (bytes + 16)) 4194304)
  where
    by : (b : Bool) → Outcomes.NeverRefuses (if b then judging.Gives bytes (record s { seen = record s.seen { globals = s.seen.globals + (bytes + 16) } }) else judging.Stops (TooLarge at Globals) s)
    by true = Outcomes.gives-never bytes (record s { seen = record s.seen { globals = s.seen.globals + (bytes + 16) } })
    by false = Outcomes.large-never ℕ at Globals s

counted_never : (at : Place) (o : Option ℕ) (s : UnitState) → NeverRefused (count_object at o s)
unfolding count_object
counted_never at None s = large-unrefused ℕ at Types s
counted_never at (Some bytes) s = lifted-unrefused (count_global at bytes) s (global_never at bytes (state_of s))

lasting_never : (n : NodeId) (s : UnitState) → NeverRefused (lasting n s)
unfolding lasting
lasting_never n s = gives-unrefused n _

static_never : (name : Identifier) (n : NodeId) (t : TypeId) (s : UnitState) → NeverRefused (new_static name n t s)
unfolding new_static
static_never name n t s =
    next-unrefused (count_object name.place (complete_size s.table t) s) (λ bytes. lasting n) (counted_never name.place (complete_size s.table t) s) (λ bytes m g. lasting_never n m)

declared_never : (linked : Bool) (name : Identifier) (t : TypeId) (h : Home) (s : UnitState) → NeverRefused (declare_object linked name t h s)
unfolding declare_object
declared_never linked name t (home.Static n) s =
    next-unrefused (new_static name n t s) (λ made. object_name linked name (declared.Object t n)) (static_never name n t s) (λ made m g. object_never linked name (declared.Object t n) m)
declared_never linked name t (home.Known n) s = object_never linked name (declared.Object t n) s
declared_never linked name t (home.Local n) s = new-never name (declared.Object t n) s
declared_never linked name t home.None s = large-unrefused Declared name.place Types s
declared_never linked name t (home.Parameter n) s = large-unrefused Declared name.place Types s

by_never : (function linked : Bool) (name : Identifier) (t : TypeId) (h : Home) (s : UnitState) → NeverRefused (declare_by function linked name t h s)
unfolding declare_by
by_never true linked name t h s = linked-never name (declared.Function t) s
by_never false linked name t h s = declared_never linked name t h s

declare_never : (file : Bool) (storage : Storage) (name : Identifier) (t : TypeId) (h : Home) (s : UnitState) → NeverRefused (declare file storage name t h s)
unfolding declare
declare_never file AsTypedef name t h s = new-never name (declared.Typedef t) s
declare_never file Unstored name t h s = by_never (is_function_shape (shape_at s.table t)) (is_linked_object file Unstored) name t h s
declare_never file AsExtern name t h s = by_never (is_function_shape (shape_at s.table t)) (is_linked_object file AsExtern) name t h s
declare_never file AsStatic name t h s = by_never (is_function_shape (shape_at s.table t)) (is_linked_object file AsStatic) name t h s
declare_never file AsAutomatic name t h s = by_never (is_function_shape (shape_at s.table t)) (is_linked_object file AsAutomatic) name t h s

pub defining-never : (o : Option Identifier) (one : TypedDeclarator) (s : UnitState) → NeverRefused (defining o one s)
unfolding defining
defining-never None one s = gives-unrefused one s
defining-never (Some name) one s = gives-unrefused one _

-- Declarators

module _ (p : Place) (t : Rule) where
  -- what a declarator makes of its type, or what stands in it, is refused
  pub form-stopped : (which : Naming) (base : TypedSpecifiers) (size : Option ℕ) (d : tree.Declarator) (s r : UnitState) → IsKnown (state_of s) → IsType s.table (specified_type base)
      → lifted (judge_declarator which base size d) s ≡ Stops (Refused p t) r
      → IsStopped (λ T. RefusesDeclarator T d s.seen.scopes (Refused p t)
      ⊎ ((form : TypedForm) × (m : Scopes) × IsForm T form s.seen.scopes m × (erased_form form ≡ d)
      × FormFails T m form (outermost_of size) (specified_type base) (name_place (name_of_form form) nowhere) (Refused p t))) s r
  form-stopped which base size d s r k b h =
      let i = declarator-refuses p t which (specified_type base) size d (state_of s) (state_of r) k b (lifted-stops (judge_declarator which base size d) (Refused p t) s r h) in
      record {
        fails = elim i.fails [
          | inl f ↦ inl f
          | inr f ↦
              let named : declarator_name d ≡ name_of_form f.0 = ap declarator_name (sym f.3) ∙ form_name f.0 in
              inr (
                f.0,
                f.1,
                f.2,
                f.3,
                subst (λ (o : Outermost). FormFails r.table f.1 f.0 o (specified_type base) (name_place (name_of_form f.0) nowhere) (Refused p t)) (outermost_same size)
                    (subst (λ (o : Option Identifier). FormFails r.table f.1 f.0 (Walks.outermost_of size) (specified_type base) (name_place o nowhere) (Refused p t)) named f.4),
              )
        ];
        extends = i.extends;
      }

  named_stopped : (file : Bool) (storage : Storage) (base : TypedSpecifiers) (initialised : Bool) (size : Option ℕ) (d : tree.Declarator) (which : Naming) (form : TypedForm) (u : TypeId) (s m r : UnitState)
      → IsUnitKnown s → IsFormKnown which (specified_type base) size d form u s m → (o : Option Identifier) → declarator_name d ≡ o
      → named file storage initialised o (typed.Declares form u) m ≡ Stops (Refused p t) r
      → IsStopped (λ T. RefusesName T file storage (specified_type base) (outermost_of size) initialised d (known_of s) (Refused p t)) m r
  unfolding named
  named_stopped file storage base initialised size d which form u s m r k j None q h = absurd (large-unrefused TypedDeclarator nowhere Types m p t r h)
  named_stopped file storage base initialised size d which form u s m r k j (Some name) q h =
      let P : Table → Type 0 = λ T. RefusesName T file storage (specified_type base) (outermost_of size) initialised d (known_of s) (Refused p t) in
      stopped-rules p t (λ w. declared_tests w.table (known_of w) file storage initialised name.bytes u name.place)
      (λ (w : UnitState). next (declare file storage name u (home_of_form form) w) (λ what. pure (typed.Declares form u))) P m r
      (λ f. inr (
        form,
        m.seen.scopes,
        form-later which (specified_type base) size d form u s m k j m.table (extended_refl m.table),
        j.judged.erases,
        inr (
          name,
          u,
          named-form which (specified_type base) size d form u s m k j (Some name) q,
          makes-later which (specified_type base) size d form u s m k j m.table (extended_refl m.table),
          subst (λ (c : Known). Fails (declared_tests m.table c file storage initialised name.bytes u name.place) (Refused p t)) (scopes-alone s m j.linkage) f,
        ),
      ))
      (λ n y. stopped-step p t (declare file storage name u (home_of_form form) m) (λ what. pure (typed.Declares form u)) P m r
      (λ z. absurd (declare_never file storage name u (home_of_form form) m p t r z)) (λ what q2 z g. never-stops (typed.Declares form u) (Refused p t) q2 r g) y) h

  pub one-stopped : (file : Bool) (base : TypedSpecifiers) (initialised : Bool) (size : Option ℕ) (d : tree.Declarator) (s r : UnitState) → IsUnitKnown s → IsType s.table (specified_type base)
      → judge_named file base initialised size d s ≡ Stops (Refused p t) r
      → IsStopped (λ T. RefusesName T file (storage_of base) (specified_type base) (outermost_of size) initialised d (known_of s) (Refused p t)) s r
  unfolding judge_named
  one-stopped file base initialised size d s r k b h =
      let which : Naming = naming_for file (storage_of base) (linked_first s.linkage.linked (declarator_name d)) in
      let P : Table → Type 0 = λ T. RefusesName T file (storage_of base) (specified_type base) (outermost_of size) initialised d (known_of s) (Refused p t) in
      stopped-step p t (lifted (judge_declarator which base size d) s) (named file (storage_of base) initialised (declarator_name d)) P s r
      (λ q. stopped-as p t (λ T. RefusesDeclarator T d s.seen.scopes (Refused p t)
      ⊎ ((form : TypedForm) × (m : Scopes) × IsForm T form s.seen.scopes m × (erased_form form ≡ d)
      × FormFails T m form (outermost_of size) (specified_type base) (name_place (name_of_form form) nowhere) (Refused p t))) P s r
      (λ x f. elim f [ inl g ↦ inl g | inr g ↦ inr (g.0, g.1, g.2, g.3, inl g.4) ]) (form-stopped which base size d s r k.known b q))
      (λ made m q g. by made m which q g) h
    where
      by : (made : TypedDeclarator) (m : UnitState) (which : Naming) → lifted (judge_declarator which base size d) s ≡ Gives made m
          → named file (storage_of base) initialised (declarator_name d) made m ≡ Stops (Refused p t) r
          → IsStopped (λ T. RefusesName T file (storage_of base) (specified_type base) (outermost_of size) initialised d (known_of s) (Refused p t)) s r
      by (typed.Declares form u) m which q g =
          let j = form-known which base size d form u s m k b q in
          stopped-after p t (λ T. RefusesName T file (storage_of base) (specified_type base) (outermost_of size) initialised d (known_of s) (Refused p t)) s m r j.judged.goes.extends
          (named_stopped file (storage_of base) base initialised size d which form u s m r k j (declarator_name d) refl g)
