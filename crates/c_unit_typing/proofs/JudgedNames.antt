-- What judging gives for the name of a declarator: it is declared as the rules say.
use Rattle.std.proofs.Common.{◌≡◌, ◌<◌, Bool, true, false, not, ◌&&◌, ◌||◌, List, [], ◌∷◌, Option, Some, None, refl, ap, sym, subst, ◌∙◌, ◌⊎◌, inl, inr}
use Rattle.cc_base.specs.declared.number.NodeId.{NodeId}
use Rattle.cc_base.specs.declared.number.TypeId.{TypeId}
use Rattle.cc_base.specs.declared.fault.Fault.TheVariants.{Refused}
use Rattle.cc_base.specs.declared.fault.Rule.TheVariants as rule
use Rattle.c_types.specs.Table.{IsType, shape_at}
use Rattle.c_tree.specs.declared.leaf.Identifier.{Identifier}
use Rattle.c_tree.specs.declared.typed_word.Home.{Home}
use Rattle.c_tree.specs.declared.typed_word.Home.TheVariants as home
use Rattle.c_typing.specs.declared.declared.Declared.{Declared}
use Rattle.c_typing.specs.declared.declared.Declared.TheVariants as declared
use Rattle.c_typing.specs.declared.naming.Naming.{Naming}
use Rattle.c_typing.specs.declared.naming.Naming.TheVariants as naming
use Rattle.c_typing.specs.Declaring.{unless_function}
use Rattle.c_typing.specs.Scopes.{Name, here, entry_of, is_complete_at}
use Rattle.c_typing.specs.Shapes.{is_function_shape}
use Rattle.c_typing.specs.Tests.{Test, first_broken, broken_at}
use Rattle.c_typing_laws.specs.Judged.{IsHomeAs}
use Rattle.c_typing_laws.proofs.ConstructLaws.{three_unbroken, not_false, or_left, or_right}
use Rattle.c_typing_laws.proofs.ExtensionLaws.{no_true}
use Rattle.c_unit_typing.specs.DeclarationJudging.{first_home, naming_for, is_linked_object, new_name, linked_name, object_name, new_static, declare_object, declare_by, declare}
use Rattle.c_unit_typing.specs.Units.{Storage, Unstored, AsTypedef, AsExtern, AsStatic, AsAutomatic}
use Rattle.c_unit_typing.specs.UnitJudged.{IsUnitKnown}
use Rattle.c_unit_typing.specs.UnitJudging.{UnitState, Gives, known_of}
use Rattle.c_unit_typing.specs.UnitRefusals.{conflicts, is_object, has_linkage, is_redeclared, is_taken_by_runtime, declared_tests}
use Rattle.c_unit_typing.proofs.NameSteps.{named_state, linked_state, new-name-gives, linked-name-gives, static-gives}
use Rattle.c_unit_typing.proofs.UnitOutcomes.{bind-gives}
use Rattle.c_unit_typing.proofs.DeclaredNames.{is_typedef, zero_home, as_made, linkage_of_function, linkage_of_object, IsNotAgain, not-again, typedef-own, IsNamedAs, typedef-named, function-named, known-named, first-named, static-named, local-named}

abbrev again_by : (file : Bool) → Storage → (initialised : Bool) → Identifier → UnitState → Declared → Bool
again_by file storage initialised name s what =
    is_redeclared s.table (known_of s) (has_linkage file storage what) (initialised && is_object what) name.bytes what

abbrev tests_of : (file : Bool) → Storage → (initialised : Bool) → Identifier → TypeId → UnitState → Declared → List Test
tests_of file storage initialised name t s what =
    broken_at rule.Redeclared name.place (again_by file storage initialised name s what || is_taken_by_runtime s.table file name.bytes what)
    ∷ broken_at rule.Incomplete name.place (is_object what && not (is_complete_at s.table s.seen.scopes t))
    ∷ broken_at rule.Mismatch name.place (initialised && not (is_object what))
    ∷ []

unbroken : (file : Bool) (storage : Storage) (initialised : Bool) (name : Identifier) (t : TypeId) (s : UnitState) (what : Declared)
    → first_broken (tests_of file storage initialised name t s what) ≡ None
    → (again_by file storage initialised name s what ≡ false) × ((is_object what && not (is_complete_at s.table s.seen.scopes t)) ≡ false)
    × ((initialised && not (is_object what)) ≡ false) × (is_taken_by_runtime s.table file name.bytes what ≡ false)
unbroken file storage initialised name t s what h =
    let again = again_by file storage initialised name s what in
    let taken = is_taken_by_runtime s.table file name.bytes what in
    let all = three_unbroken (again || taken) (is_object what && not (is_complete_at s.table s.seen.scopes t)) (initialised && not (is_object what))
    (Refused name.place rule.Redeclared) (Refused name.place rule.Incomplete) (Refused name.place rule.Mismatch) h in
    (or_left again taken all.0, all.1, all.2, or_right again taken all.0)

and-true : (b : Bool) → (b && true) ≡ b
and-true true = refl
and-true false = refl

declare-is : (file : Bool) (storage : Storage) (name : Identifier) (t : TypeId) (h : Home) (s : UnitState) → is_typedef storage ≡ false
    → declare file storage name t h s ≡ declare_by (is_function_shape (shape_at s.table t)) (is_linked_object file storage) name t h s
unfolding declare
declare-is file AsTypedef name t h s n = no_true (sym n)
declare-is file Unstored name t h s n = refl
declare-is file AsExtern name t h s n = refl
declare-is file AsStatic name t h s n = refl
declare-is file AsAutomatic name t h s n = refl

naming-is : (file : Bool) (storage : Storage) (first : Option Declared) → is_typedef storage ≡ false → is_linked_object file storage ≡ true
    → naming_for file storage first ≡ first_home first
naming-is file AsTypedef first n l = no_true (sym n)
naming-is true Unstored first n l = refl
naming-is true AsExtern first n l = refl
naming-is true AsStatic first n l = refl
naming-is true AsAutomatic first n l = refl
naming-is false AsExtern first n l = refl
naming-is false Unstored first n l = no_true l
naming-is false AsStatic first n l = no_true l
naming-is false AsAutomatic first n l = no_true l

-- an object of a block has no linkage
block-storage : (file : Bool) (storage : Storage) → is_typedef storage ≡ false → is_linked_object file storage ≡ false
    → (file ≡ false) × ((storage ≡ AsStatic) ⊎ ((storage ≡ Unstored) ⊎ (storage ≡ AsAutomatic)))
block-storage file AsTypedef n l = no_true (sym n)
block-storage true storage n l = no_true (sym l)
block-storage false AsExtern n l = no_true (sym l)
block-storage false Unstored n l = (refl, inr (inl refl))
block-storage false AsStatic n l = (refl, inl refl)
block-storage false AsAutomatic n l = (refl, inr (inr refl))

-- a new home comes after those of what has linkage
abbrev pub IsNewHome : UnitState → Name → Home → Type 0
IsNewHome s name h = (n : NodeId) → h ≡ home.Static n → (n.0 < s.seen.node) × ((u : TypeId) (m : NodeId) → entry_of s.linkage.linked name ≡ Some (declared.Object u m) → m.0 < n.0)

module _ (file : Bool) (storage : Storage) (initialised : Bool) (name : Identifier) (t : TypeId) (h : Home) (b : Declared) (s r : UnitState) (k : IsUnitKnown s) (there : IsType s.table t)
    (new : IsNewHome s name.bytes h) where
  linked-judged : is_typedef storage ≡ false → is_function_shape (shape_at s.table t) ≡ false → is_complete_at s.table s.seen.scopes t ≡ true → is_linked_object file storage ≡ true
      → IsNotAgain s.table (known_of s) initialised name.bytes (declared.Object t zero_home) → (first : Option Declared) → entry_of s.linkage.linked name.bytes ≡ first
      → IsHomeAs (first_home first) h → declare_object true name t h s ≡ Gives b r → IsNamedAs file storage initialised name.bytes t h s r
  unfolding declare_object object_name
  linked-judged is shape complete linked again (Some (declared.Object u n)) q at g =
      let made = linked-name-gives name (declared.Object t n) b s r (ap (λ (w : Home). declare_object true name t w s) (sym at) ∙ g) in
      subst (λ (w : Home). IsNamedAs file storage initialised name.bytes t w s r) (sym at)
      (known-named file storage initialised name t s k there is shape complete linked again u n r q made)
  linked-judged is shape complete linked again None q at g =
      let n = at.0 in
      let here_new = new n at.1 in
      let one = bind-gives (new_static name n t s) (λ m. linked_name name (declared.Object t n)) b r (ap (λ (w : Home). declare_object true name t w s) (sym at.1) ∙ g) in
      let counted = static-gives name n one.0 t s one.1 one.2 in
      let made = linked-name-gives name (declared.Object t n) b one.1 r one.3 in
      subst (λ (w : Home). IsNamedAs file storage initialised name.bytes t w s r) (sym at.1)
      (first-named file storage initialised name t s k there is shape complete linked again counted.0 n r here_new.0 q
      (made ∙ ap (λ (w : UnitState). linked_state w name.bytes (declared.Object t n)) counted.1))
  linked-judged is shape complete linked again (Some (declared.Function u)) q at g =
      no_true (sym (ap (λ (o : Option Declared). conflicts s.table o (declared.Object t zero_home)) (sym q) ∙ again.linked_same))
  linked-judged is shape complete linked again (Some (declared.Typedef u)) q at g =
      no_true (sym (ap (λ (o : Option Declared). conflicts s.table o (declared.Object t zero_home)) (sym q) ∙ again.linked_same))
  linked-judged is shape complete linked again (Some (declared.Enumerator u)) q at g =
      no_true (sym (ap (λ (o : Option Declared). conflicts s.table o (declared.Object t zero_home)) (sym q) ∙ again.linked_same))

  block_static-judged : is_typedef storage ≡ false → is_function_shape (shape_at s.table t) ≡ false → is_complete_at s.table s.seen.scopes t ≡ true → file ≡ false → storage ≡ AsStatic
      → (n : NodeId) → h ≡ home.Static n → declare_object false name t h s ≡ Gives b r → IsNamedAs file storage initialised name.bytes t h s r
  unfolding declare_object object_name
  block_static-judged is shape complete block static n at g =
      let one = bind-gives (new_static name n t s) (λ m. new_name name (declared.Object t n)) b r (ap (λ (w : Home). declare_object false name t w s) (sym at) ∙ g) in
      let counted = static-gives name n one.0 t s one.1 one.2 in
      let made = new-name-gives name (declared.Object t n) b one.1 r one.3 in
      subst (λ (w : Home). IsNamedAs file storage initialised name.bytes t w s r) (sym at)
      (static-named file storage initialised name t s k there is shape complete counted.0 n r block static (new n at).1
      (ap (λ (w : UnitState). here w.seen.scopes.levels name.bytes) (sym counted.1) ∙ made.0)
      (made.1 ∙ ap (λ (w : UnitState). named_state w name.bytes (declared.Object t n)) counted.1))

  block_local-judged : is_typedef storage ≡ false → is_function_shape (shape_at s.table t) ≡ false → is_complete_at s.table s.seen.scopes t ≡ true → file ≡ false
      → (storage ≡ Unstored) ⊎ (storage ≡ AsAutomatic) → (n : NodeId) → h ≡ home.Local n → declare_object false name t h s ≡ Gives b r
      → IsNamedAs file storage initialised name.bytes t h s r
  unfolding declare_object
  block_local-judged is shape complete block local n at g =
      let made = new-name-gives name (declared.Object t n) b s r (ap (λ (w : Home). declare_object false name t w s) (sym at) ∙ g) in
      subst (λ (w : Home). IsNamedAs file storage initialised name.bytes t w s r) (sym at)
      (local-named file storage initialised name t s k there is shape complete n r block local made.0 made.1)

  object-judged : (l : Bool) → is_linked_object file storage ≡ l → is_typedef storage ≡ false → is_function_shape (shape_at s.table t) ≡ false → is_complete_at s.table s.seen.scopes t ≡ true
      → IsHomeAs (naming_for file storage (entry_of s.linkage.linked name.bytes)) h
      → is_redeclared s.table (known_of s) (has_linkage file storage (declared.Object t zero_home)) initialised name.bytes (declared.Object t zero_home) ≡ false
      → declare_object l name t h s ≡ Gives b r → IsNamedAs file storage initialised name.bytes t h s r
  object-judged true l is shape complete at free g =
      let again = not-again s.table (known_of s) initialised name.bytes (declared.Object t zero_home)
      (ap (λ (f : Bool). is_redeclared s.table (known_of s) f initialised name.bytes (declared.Object t zero_home)) (sym (linkage_of_object file storage t zero_home l)) ∙ free) in
      linked-judged is shape complete l again (entry_of s.linkage.linked name.bytes) refl
      (subst (λ (w : Naming). IsHomeAs w h) (naming-is file storage (entry_of s.linkage.linked name.bytes) is l) at) g
  object-judged false l is shape complete at free g =
      let block = block-storage file storage is l in
      let naming_at : (w : Storage) → storage ≡ w → IsHomeAs (naming_for false w (entry_of s.linkage.linked name.bytes)) h =
      λ w e. subst (λ (v : Storage). IsHomeAs (naming_for false v (entry_of s.linkage.linked name.bytes)) h) e
      (subst (λ (f : Bool). IsHomeAs (naming_for f storage (entry_of s.linkage.linked name.bytes)) h) block.0 at) in
      elim block.1 [
        | inl e ↦ let w = naming_at AsStatic e in block_static-judged is shape complete block.0 e w.0 w.1 g
        | inr c ↦ elim c [
          | inl e ↦ let w = naming_at Unstored e in block_local-judged is shape complete block.0 (inl e) w.0 w.1 g
          | inr e ↦ let w = naming_at AsAutomatic e in block_local-judged is shape complete block.0 (inr e) w.0 w.1 g
        ]
      ]

  ordinary-judged : (f : Bool) → is_function_shape (shape_at s.table t) ≡ f → is_typedef storage ≡ false
      → IsHomeAs (unless_function f (naming_for file storage (entry_of s.linkage.linked name.bytes))) h
      → first_broken (tests_of file storage initialised name t s (as_made s.table t f)) ≡ None
      → declare_by f (is_linked_object file storage) name t h s ≡ Gives b r → IsNamedAs file storage initialised name.bytes t h s r
  unfolding declare_by
  ordinary-judged true shape is at broken g =
      let free = unbroken file storage initialised name t s (declared.Function t) broken in
      let again = not-again s.table (known_of s) (initialised && false) name.bytes (declared.Function t)
      (ap (λ (f : Bool). is_redeclared s.table (known_of s) f (initialised && false) name.bytes (declared.Function t)) (sym (linkage_of_function file storage t)) ∙ free.0) in
      subst (λ (w : Home). IsNamedAs file storage initialised name.bytes t w s r) (sym at)
      (function-named file storage initialised name t s k there r is shape free.2 again (linked-name-gives name (declared.Function t) b s r g))
  ordinary-judged false shape is at broken g =
      let free = unbroken file storage initialised name t s (declared.Object t zero_home) broken in
      object-judged (is_linked_object file storage) refl is shape (not_false (is_complete_at s.table s.seen.scopes t) free.1) at
      (ap (λ (i : Bool). is_redeclared s.table (known_of s) (has_linkage file storage (declared.Object t zero_home)) i name.bytes (declared.Object t zero_home)) (sym (and-true initialised)) ∙ free.0) g

typedef_home : (f : Bool) (h : Home) → IsHomeAs (unless_function f naming.None) h → h ≡ home.None
typedef_home true h e = e
typedef_home false h e = e

-- the name of a declarator is declared as judged
pub declare-judged : (file : Bool) (storage : Storage) (initialised : Bool) (name : Identifier) (t : TypeId) (h : Home) (b : Declared) (s r : UnitState) → IsUnitKnown s → IsType s.table t
    → IsNewHome s name.bytes h → IsHomeAs (unless_function (is_function_shape (shape_at s.table t)) (naming_for file storage (entry_of s.linkage.linked name.bytes))) h
    → first_broken (declared_tests s.table (known_of s) file storage initialised name.bytes t name.place) ≡ None → declare file storage name t h s ≡ Gives b r
    → IsNamedAs file storage initialised name.bytes t h s r
unfolding declare
declare-judged file AsTypedef initialised name t h b s r k there new at broken g =
    let free = unbroken file AsTypedef initialised name t s (declared.Typedef t) broken in
    let made = new-name-gives name (declared.Typedef t) b s r g in
    subst (λ (w : Home). IsNamedAs file AsTypedef initialised name.bytes t w s r) (sym (typedef_home (is_function_shape (shape_at s.table t)) h at))
    (typedef-named file AsTypedef initialised name t s k there r refl free.2 (typedef-own s.table file name.bytes t free.3) made.0 made.1)
declare-judged file storage initialised name t h b s r k there new at broken g =
    ordinary-judged file storage initialised name t h b s r k there new (is_function_shape (shape_at s.table t)) refl refl at broken g
