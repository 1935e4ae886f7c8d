-- The name of what is declared: an object is of a complete type, and no pointers are counted.
use Rattle.std.proofs.Common.{◌≡◌, ℕ, Bool, true, false, not, ◌&&◌, Option, Some, None, refl, sym, subst, if◌then◌else◌}
use Rattle.std.proofs.lemmas.Option.{none-some}
use Rattle.cc_base.specs.declared.number.NodeId.{NodeId}
use Rattle.cc_base.specs.declared.number.TypeId.{TypeId}
use Rattle.cc_base.specs.declared.fault.Fault.TheVariants.{TooLarge}
use Rattle.cc_base.specs.declared.fault.Limit.TheVariants.{Types}
use Rattle.c_types.specs.Table.{IsType, IsComplete, shape_at}
use Rattle.c_tree.specs.declared.leaf.Identifier.{Identifier}
use Rattle.c_tree.specs.declared.typed_word.Home.{Home}
use Rattle.c_tree.specs.declared.typed_word.Home.TheVariants as home
use Rattle.c_tree.specs.Places.{nowhere}
use Rattle.c_tree.specs.Tree as tree
use Rattle.c_tree.specs.TypedTree.{TypedSpecifiers, TypedDeclarator}
use Rattle.c_tree.specs.TypedParts.{specified_type, declared_type, home_of, made_by_declarator}
use Rattle.c_typing.specs.declared.declared.Declared.{Declared}
use Rattle.c_typing.specs.declared.declared.Declared.TheVariants as declared
use Rattle.c_typing.specs.declared.naming.Naming.{Naming}
use Rattle.c_typing.specs.Declaring.{declarator_name}
use Rattle.c_typing.specs.Refusals.{name_place}
use Rattle.c_typing.specs.Scopes.{Name, here, is_complete_at}
use Rattle.c_typing.specs.Scopes as scopes
use Rattle.c_typing.specs.Settled.{IsFollowed}
use Rattle.c_typing.specs.Shapes.{is_function_shape}
use Rattle.c_typing.specs.Tests.{first_broken}
use Rattle.c_typing.specs.Walks.{judge_declarator}
use Rattle.c_typing_laws.proofs.ConstructLaws.{not_false}
use Rattle.c_typing_laws.proofs.JudgedWhole.{declarator-at}
use Rattle.c_cells_kept.specs.Counted.{IsObjectWhole, Stays}
use Rattle.c_cells_kept.proofs.CellsMoved.{stays-refl, stays-on, made-to}
use Rattle.c_cells_kept.proofs.CountedWhole.{declarator-moves}
use Rattle.c_cells_kept.proofs.WholeScopes.{constant_stays}
use Rattle.c_unit_typing.specs.DeclarationJudging.{naming_for, linked_first, is_linked_object, new_static, new_name, linked_name, object_name, declare_object, declare_by, declare, named, judge_named}
use Rattle.c_unit_typing.specs.UnitJudged.{state_of, IsUnitKnown}
use Rattle.c_unit_typing.specs.UnitJudging.{UnitState, Gives, known_of, next, pure, lifted}
use Rattle.c_unit_typing.specs.UnitRefusals.{declared_tests, declared_as, is_object}
use Rattle.c_unit_typing.specs.Units.{Storage, AsTypedef, storage_of, unless_here}
use Rattle.c_unit_typing.proofs.NameSteps.{new-name-gives, linked-name-gives, static-gives}
use Rattle.c_unit_typing.proofs.UnitOutcomes.{never-gives, bind-gives, unless-gives, gives-value, gives-state, lifted-gives}
use Rattle.c_unit_limits.proofs.CellsSteps.{UnitMoves, UnitStays}

pub stays-then : (s m r : UnitState) → UnitStays s m → UnitStays m r → UnitStays s r
stays-then s m r p q = record { stays = stays-on (state_of s) (state_of m) (state_of r) p.stays q.stays }

pub new-name-stays : (name : Identifier) (what b : Declared) (s r : UnitState) → IsObjectWhole s.table what → new_name name what s ≡ Gives b r → UnitStays s r
new-name-stays name what b s r c h =
    subst (UnitStays s) (sym (new-name-gives name what b s r h).1)
    (record { stays = constant_stays name.bytes what (state_of s) (state_of s) c (stays-refl (state_of s)) })

pub linked_by : (s : UnitState) (name : Name) (what : Declared) (o : Option Declared) → IsObjectWhole s.table what
    → Stays (state_of s) (record { table = s.table; seen = scopes.with_scopes s.seen (unless_here o name what s.seen.scopes) })
linked_by s name what None c = constant_stays name what (state_of s) (state_of s) c (stays-refl (state_of s))
linked_by s name what (Some first) c = stays-refl (state_of s)

pub linked-name-stays : (name : Identifier) (what b : Declared) (s r : UnitState) → IsObjectWhole s.table what → linked_name name what s ≡ Gives b r → UnitStays s r
linked-name-stays name what b s r c h =
    subst (UnitStays s) (sym (linked-name-gives name what b s r h)) (record { stays = linked_by s name.bytes what (here s.seen.scopes.levels name.bytes) c })

object_name_stays : (linked : Bool) (name : Identifier) (what b : Declared) (s r : UnitState) → IsObjectWhole s.table what → object_name linked name what s ≡ Gives b r → UnitStays s r
unfolding object_name
object_name_stays true name what b s r c h = linked-name-stays name what b s r c h
object_name_stays false name what b s r c h = new-name-stays name what b s r c h

record IsStaticKept (s r : UnitState) : Type 0 where
  table : r.table ≡ s.table
  stays : UnitStays s r

static_stays : (name : Identifier) (n m : NodeId) (t : TypeId) (s r : UnitState) → new_static name n t s ≡ Gives m r → IsStaticKept s r
static_stays name n m t s r h =
    let made = static-gives name n m t s r h in
    subst (IsStaticKept s) (sym made.1) (record { table = refl; stays = record { stays = stays-refl (state_of s) } })

object_stays : (linked : Bool) (name : Identifier) (t : TypeId) (h : Home) (b : Declared) (s r : UnitState) → IsComplete s.table t → declare_object linked name t h s ≡ Gives b r
    → UnitStays s r
unfolding declare_object
object_stays linked name t (home.Static n) b s r c g =
    let one = bind-gives (new_static name n t s) (λ made. object_name linked name (declared.Object t n)) b r g in
    let first = static_stays name n one.0 t s one.1 one.2 in
    stays-then s one.1 r first.stays
    (object_name_stays linked name (declared.Object t n) b one.1 r (subst (λ (T : _). IsComplete T t) (sym first.table) c) one.3)
object_stays linked name t (home.Known n) b s r c g = object_name_stays linked name (declared.Object t n) b s r c g
object_stays linked name t (home.Local n) b s r c g = new-name-stays name (declared.Object t n) b s r c g
object_stays linked name t (home.Parameter n) b s r c g = never-gives b (TooLarge name.place Types) s r g
object_stays linked name t home.None b s r c g = never-gives b (TooLarge name.place Types) s r g

-- by the rule that an object is of a complete type

second_unbroken : {A : Type 0} (a b : Bool) (f g : A) (rest : Option A) → (if a then Some f else (if b then Some g else rest)) ≡ None → b ≡ false
second_unbroken true b f g rest h = absurd (none-some f (sym h))
second_unbroken false true f g rest h = absurd (none-some g (sym h))
second_unbroken false false f g rest h = refl

ordinary_stays : (f : Bool) (linked : Bool) (name : Identifier) (t : TypeId) (h : Home) (b : Declared) (s r : UnitState)
    → (is_object (if f then declared.Function t else declared.Object t (record { 0 = 0 })) && not (is_complete_at s.table s.seen.scopes t)) ≡ false
    → IsFollowed s.table s.seen.scopes → declare_by f linked name t h s ≡ Gives b r → UnitStays s r
unfolding declare_by
ordinary_stays true linked name t h b s r c followed g = linked-name-stays name (declared.Function t) b s r tt g
ordinary_stays false linked name t h b s r c followed g =
    object_stays linked name t h b s r (followed t (not_false (is_complete_at s.table s.seen.scopes t) c)) g

declare_stays : (file : Bool) (storage : Storage) (name : Identifier) (t : TypeId) (h : Home) (b : Declared) (s r : UnitState)
    → (is_object (declared_as s.table storage t) && not (is_complete_at s.table s.seen.scopes t)) ≡ false
    → IsFollowed s.table s.seen.scopes → declare file storage name t h s ≡ Gives b r → UnitStays s r
unfolding declare
declare_stays file AsTypedef name t h b s r c followed g = new-name-stays name (declared.Typedef t) b s r tt g
declare_stays file storage name t h b s r c followed g =
    ordinary_stays (is_function_shape (shape_at s.table t)) (is_linked_object file storage) name t h b s r c followed g

record IsNamedKept (made one : TypedDeclarator) (s r : UnitState) : Type 0 where
  same : made ≡ one
  stays : UnitStays s r

named_stays : (file : Bool) (storage : Storage) (initialised : Bool) (o : Option Identifier) (made one : TypedDeclarator) (s r : UnitState) → IsFollowed s.table s.seen.scopes
    → named file storage initialised o made s ≡ Gives one r → IsNamedKept made one s r
unfolding named
named_stays file storage initialised None made one s r followed h = never-gives one (TooLarge nowhere Types) s r h
named_stays file storage initialised (Some name) made one s r followed h =
    let go = unless-gives (first_broken (declared_tests s.table (known_of s) file storage initialised name.bytes (declared_type made) name.place))
    (λ (w : UnitState). next (declare file storage name (declared_type made) (home_of made) w) (λ what. pure made)) s one r h in
    let two = bind-gives (declare file storage name (declared_type made) (home_of made) s) (λ what. pure made) one r go.1 in
    let c = declare_stays file storage name (declared_type made) (home_of made) two.0 s two.1 (second_unbroken _ _ _ _ _ go.0) followed two.2 in
    record { same = gives-value made one two.1 r two.3; stays = subst (UnitStays s) (gives-state made one two.1 r two.3) c }

-- a declarator behind specifiers
pub one-moves : (file : Bool) (base : TypedSpecifiers) (initialised : Bool) (size : Option ℕ) (d : tree.Declarator) (one : TypedDeclarator) (s r : UnitState) → IsUnitKnown s
    → IsType s.table (specified_type base) → judge_named file base initialised size d s ≡ Gives one r → UnitMoves (made_by_declarator one) s r
unfolding judge_named
one-moves file base initialised size d one s r k b h =
    let which : Naming = naming_for file (storage_of base) (linked_first s.linkage.linked (declarator_name d)) in
    let at = name_place (declarator_name d) nowhere in
    let first = bind-gives (lifted (judge_declarator which base size d) s) (named file (storage_of base) initialised (declarator_name d)) one r h in
    let l = lifted-gives (judge_declarator which base size d) first.0 s first.1 first.2 in
    let j = declarator-at at which (specified_type base) size d first.0 (state_of s) (state_of first.1) k.known b l.0 in
    let n = named_stays file (storage_of base) initialised (declarator_name d) first.0 one first.1 r j.goes.known.followed first.3 in
    subst (λ (v : TypedDeclarator). UnitMoves (made_by_declarator v) s r) n.same
    (record {
      moves = made-to (made_by_declarator first.0) (state_of s) (state_of first.1) (state_of r) n.stays.stays
          (declarator-moves at which (specified_type base) size d first.0 (state_of s) (state_of first.1) k.known l.0);
    })
