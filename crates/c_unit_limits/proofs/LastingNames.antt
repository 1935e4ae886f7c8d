-- The bytes of an object that lasts are counted where its name is declared.
use Rattle.std.proofs.Common.{◌≡◌, ℕ, ◌+◌, Bool, true, false, Option, Some, None, refl, ap, sym, subst, ◌∙◌, if◌then◌else◌, arith}
use Rattle.std.proofs.lemmas.Option.{none-some}
use Rattle.cc_base.specs.declared.place.Place.{Place}
use Rattle.cc_base.specs.declared.number.NodeId.{NodeId}
use Rattle.cc_base.specs.declared.number.TypeId.{TypeId}
use Rattle.cc_base.specs.declared.fault.Fault.TheVariants.{TooLarge}
use Rattle.cc_base.specs.declared.fault.Limit.TheVariants.{Types}
use Rattle.c_types.specs.declared.layout.Layout.{Layout}
use Rattle.c_types.specs.Layouts.{size_of}
use Rattle.c_types.specs.Sound.{IsWellFormed}
use Rattle.c_types.specs.Table.{Table, IsType, IsComplete, shape_at, entry_at, is_complete}
use Rattle.c_tree.specs.declared.leaf.Identifier.{Identifier}
use Rattle.c_tree.specs.declared.typed_word.Home.{Home}
use Rattle.c_tree.specs.declared.typed_word.Home.TheVariants as home
use Rattle.c_tree.specs.Places.{nowhere}
use Rattle.c_tree.specs.Tree as tree
use Rattle.c_tree.specs.TypedTree as typed
use Rattle.c_tree.specs.TypedTree.{TypedSpecifiers, TypedDeclarator}
use Rattle.c_tree.specs.TypedParts.{specified_type, declared_type, home_of, made_by_declarator}
use Rattle.c_typing.specs.declared.declared.Declared.{Declared}
use Rattle.c_typing.specs.declared.declared.Declared.TheVariants as declared
use Rattle.c_typing.specs.declared.naming.Naming.{Naming}
use Rattle.c_typing.specs.Assignments.{count_global}
use Rattle.c_typing.specs.Declaring.{declarator_name}
use Rattle.c_typing.specs.Extensions.{IsExtended}
use Rattle.c_typing.specs.Judging.{Outcome}
use Rattle.c_typing.specs.Refusals.{name_place}
use Rattle.c_typing.specs.Scopes.{Name, Scopes}
use Rattle.c_typing.specs.Shapes.{is_function_shape}
use Rattle.c_typing.specs.Tests.{first_broken}
use Rattle.c_typing.specs.Typing.{IsForm}
use Rattle.c_typing.specs.Walks.{judge_declarator}
use Rattle.c_typing_laws.proofs.JudgedWhole.{declarator-at}
use Rattle.c_unit_typing.specs.DeclarationJudging.{naming_for, linked_first, is_linked_object, complete_size, count_object, lasting, new_static, new_name, linked_name, object_name, declare_object, declare_by, declare, named, judge_named}
use Rattle.c_unit_typing.specs.Initialisers.{with_home}
use Rattle.c_unit_typing.specs.UnitJudged.{state_of, IsUnitKnown}
use Rattle.c_unit_typing.specs.UnitJudging.{UnitState, Gives, known_of, next, pure, lifted}
use Rattle.c_unit_typing.specs.UnitRefusals.{declared_tests}
use Rattle.c_unit_typing.specs.Units.{Known, Storage, AsTypedef, storage_of, with_scopes, IsFunctionDeclared, IsTypedefDeclared, IsOrdinaryDeclared, IsNameDeclared}
use Rattle.c_unit_typing.proofs.JudgedDeclarators.{form_in, one-judged}
use Rattle.c_unit_typing.proofs.NameSteps.{some-same, new-name-gives, linked-name-gives, static-gives}
use Rattle.c_unit_typing.proofs.UnitOutcomes.{never-gives, bind-gives, unless-gives, gives-value, gives-state, lifted-gives}
use Rattle.c_unit_limits.specs.Literals.{literals_made, statics_made, own_bytes}
use Rattle.c_unit_limits.proofs.CountedLiterals.{declarator-counted}
use Rattle.c_unit_limits.proofs.HeldSteps.{Holds, count_global-held}
use Rattle.c_unit_limits.proofs.LastingSteps.{Lasts}
use Rattle.c_unit_limits.proofs.StaticsMade.{form-alike}

nothing_more : (n : ℕ) → n ≡ n + 0
nothing_more n = omega arith

-- A new object that lasts: its type is complete, so it keeps its size

counted_size : (at : Place) (o : Option ℕ) (n : ℕ) (s r : UnitState) → count_object at o s ≡ Gives n r
    → (bytes : ℕ) × (o ≡ Some bytes) × (r.seen.globals ≡ s.seen.globals + (bytes + 16))
unfolding count_object
counted_size at None n s r h = never-gives n (TooLarge at Types) s r h
counted_size at (Some bytes) n s r h = (
  bytes,
  refl,
  (subst (λ (m : Outcome ℕ). Holds m 0 (bytes + 16) (state_of s)) (lifted-gives (count_global at bytes) n s r h).0 ((count_global-held at bytes).holds (state_of s))).2,
)

complete_sized : (T : Table) (t : TypeId) (bytes : ℕ) → complete_size T t ≡ Some bytes → IsComplete T t × (size_of T t ≡ bytes)
complete_sized T t bytes h = by (is_complete (entry_at T t)) refl h
  where
    by : (b : Bool) → is_complete (entry_at T t) ≡ b → (if b then Some (size_of T t) else None) ≡ Some bytes → IsComplete T t × (size_of T t ≡ bytes)
    by true q g = (q, some-same (size_of T t) bytes g)
    by false q g = absurd (none-some bytes g)

record IsStaticCounted (t : TypeId) (s r : UnitState) : Type 0 where
  table : r.table ≡ s.table
  complete : IsComplete s.table t
  counts : r.seen.globals ≡ s.seen.globals + (size_of s.table t + 16)

static_counted : (name : Identifier) (n m : NodeId) (t : TypeId) (s r : UnitState) → new_static name n t s ≡ Gives m r → IsStaticCounted t s r
unfolding new_static lasting
static_counted name n m t s r h =
    let one = bind-gives (count_object name.place (complete_size s.table t) s) (λ bytes. lasting n) m r h in
    let c = counted_size name.place (complete_size s.table t) one.0 s one.1 one.2 in
    let size = complete_sized s.table t c.0 c.1 in
    let after = gives-state n m (record one.1 { linkage = record one.1.linkage { statics = with_home n one.1.linkage.statics } }) r one.3 in
    record {
      table = ap (λ (q : UnitState). q.table) (static-gives name n m t s r h).1;
      complete = size.0;
      counts = ap (λ (q : UnitState). q.seen.globals) (sym after) ∙ (c.2 ∙ ap (λ (k : ℕ). s.seen.globals + (k + 16)) (sym size.1));
    }

-- The name of what is declared counts nothing

pub record IsSame (s r : UnitState) : Type 0 where
  pub table : r.table ≡ s.table
  pub globals : r.seen.globals ≡ s.seen.globals

pub new-name-same : (name : Identifier) (what b : Declared) (s r : UnitState) → new_name name what s ≡ Gives b r → IsSame s r
new-name-same name what b s r h =
    let made = (new-name-gives name what b s r h).1 in
    record { table = ap (λ (q : UnitState). q.table) made; globals = ap (λ (q : UnitState). q.seen.globals) made }

pub linked-name-same : (name : Identifier) (what b : Declared) (s r : UnitState) → linked_name name what s ≡ Gives b r → IsSame s r
linked-name-same name what b s r h =
    let made = linked-name-gives name what b s r h in
    record { table = ap (λ (q : UnitState). q.table) made; globals = ap (λ (q : UnitState). q.seen.globals) made }

object_name_same : (linked : Bool) (name : Identifier) (what b : Declared) (s r : UnitState) → object_name linked name what s ≡ Gives b r → IsSame s r
unfolding object_name
object_name_same true name what b s r h = linked-name-same name what b s r h
object_name_same false name what b s r h = new-name-same name what b s r h

-- Objects

-- where its type was complete, an object of the type counts the same in each table that goes on
record IsOwnCounted (h : Home) (t : TypeId) (s r : UnitState) : Type 0 where
  table : r.table ≡ s.table
  counts : (T : Table) → IsExtended s.table T → r.seen.globals ≡ s.seen.globals + own_bytes T h t

object_counted : (linked : Bool) (name : Identifier) (t : TypeId) (h : Home) (b : Declared) (s r : UnitState) → declare_object linked name t h s ≡ Gives b r → IsOwnCounted h t s r
unfolding declare_object
object_counted linked name t (home.Static n) b s r g =
    let one = bind-gives (new_static name n t s) (λ made. object_name linked name (declared.Object t n)) b r g in
    let c = static_counted name n one.0 t s one.1 one.2 in
    let m = object_name_same linked name (declared.Object t n) b one.1 r one.3 in
    record {
      table = m.table ∙ c.table;
      counts = λ T x. m.globals ∙ (c.counts ∙ ap (λ (l : Layout). s.seen.globals + (l.size + 16)) (sym (x.layouts t c.complete)));
    }
object_counted linked name t (home.Known n) b s r g =
    let m = object_name_same linked name (declared.Object t n) b s r g in
    record { table = m.table; counts = λ T x. m.globals ∙ nothing_more s.seen.globals }
object_counted linked name t (home.Local n) b s r g =
    let m = new-name-same name (declared.Object t n) b s r g in
    record { table = m.table; counts = λ T x. m.globals ∙ nothing_more s.seen.globals }
object_counted linked name t (home.Parameter n) b s r g = never-gives b (TooLarge name.place Types) s r g
object_counted linked name t home.None b s r g = never-gives b (TooLarge name.place Types) s r g

-- Typedefs and functions have no home

typedef_own : (T : Table) (file : Bool) (h : Home) (name : Name) (t : TypeId) (k k' : Known) → IsTypedefDeclared file h name t k k' → own_bytes T h t ≡ 0
typedef_own T file home.None name t k k' d = refl
typedef_own T file (home.Static n) name t k k' d = absurd d
typedef_own T file (home.Known n) name t k k' d = absurd d
typedef_own T file (home.Local n) name t k k' d = absurd d
typedef_own T file (home.Parameter n) name t k k' d = absurd d

function_own : (T : Table) (h : Home) (name : Name) (t : TypeId) (k k' : Known) → IsFunctionDeclared T h name t k k' → own_bytes T h t ≡ 0
function_own T home.None name t k k' d = refl
function_own T (home.Static n) name t k k' d = absurd d
function_own T (home.Known n) name t k k' d = absurd d
function_own T (home.Local n) name t k k' d = absurd d
function_own T (home.Parameter n) name t k k' d = absurd d

none_counted : (s r : UnitState) (n : ℕ) → r.seen.globals ≡ s.seen.globals → n ≡ 0 → r.seen.globals ≡ s.seen.globals + n
none_counted s r n e z = omega (arith, e, z)

-- what is well typed over a later table says what home it has
record IsNameCounted (file : Bool) (storage : Storage) (h : Home) (t : TypeId) (s r : UnitState) : Type 0 where
  table : r.table ≡ s.table
  counts : (T : Table) → IsExtended s.table T → (name : Name) (k k' : Known) → IsNameDeclared T file storage h name t k k' → r.seen.globals ≡ s.seen.globals + own_bytes T h t

record IsOrdinaryCounted (file : Bool) (storage : Storage) (h : Home) (t : TypeId) (s r : UnitState) : Type 0 where
  table : r.table ≡ s.table
  counts : (T : Table) → IsExtended s.table T → (name : Name) (k k' : Known) → IsOrdinaryDeclared (is_function_shape (shape_at T t)) T file storage h name t k k'
      → r.seen.globals ≡ s.seen.globals + own_bytes T h t

ordinary_counted : (f : Bool) (file : Bool) (storage : Storage) (linked : Bool) (name : Identifier) (t : TypeId) (h : Home) (b : Declared) (s r : UnitState) → IsType s.table t
    → is_function_shape (shape_at s.table t) ≡ f → declare_by f linked name t h s ≡ Gives b r → IsOrdinaryCounted file storage h t s r
unfolding declare_by
ordinary_counted true file storage linked name t h b s r there shape g =
    let m = linked-name-same name (declared.Function t) b s r g in
    record {
      table = m.table;
      counts = λ T x other k k' d. none_counted s r (own_bytes T h t) m.globals
          (function_own T h other t k k' (subst (λ (y : Bool). IsOrdinaryDeclared y T file storage h other t k k') (ap is_function_shape (x.shapes t there) ∙ shape) d));
    }
ordinary_counted false file storage linked name t h b s r there shape g =
    let c = object_counted linked name t h b s r g in
    record { table = c.table; counts = λ T x other k k' d. c.counts T x }

name_counted : (file : Bool) (storage : Storage) (name : Identifier) (t : TypeId) (h : Home) (b : Declared) (s r : UnitState) → IsType s.table t
    → declare file storage name t h s ≡ Gives b r → IsNameCounted file storage h t s r
unfolding declare
name_counted file AsTypedef name t h b s r there g =
    let m = new-name-same name (declared.Typedef t) b s r g in
    record { table = m.table; counts = λ T x other k k' d. none_counted s r (own_bytes T h t) m.globals (typedef_own T file h other t k k' d) }
name_counted file storage name t h b s r there g =
    let c = ordinary_counted (is_function_shape (shape_at s.table t)) file storage (is_linked_object file storage) name t h b s r there refl g in
    record { table = c.table; counts = c.counts }

-- Declarators

record IsNamedCounted (file : Bool) (storage : Storage) (made one : TypedDeclarator) (s r : UnitState) : Type 0 where
  same : made ≡ one
  counted : IsNameCounted file storage (home_of made) (declared_type made) s r

named_counted : (file : Bool) (storage : Storage) (initialised : Bool) (o : Option Identifier) (made one : TypedDeclarator) (s r : UnitState) → IsType s.table (declared_type made)
    → named file storage initialised o made s ≡ Gives one r → IsNamedCounted file storage made one s r
unfolding named
named_counted file storage initialised None made one s r there h = never-gives one (TooLarge nowhere Types) s r h
named_counted file storage initialised (Some name) made one s r there h =
    let go = unless-gives (first_broken (declared_tests s.table (known_of s) file storage initialised name.bytes (declared_type made) name.place))
    (λ (w : UnitState). next (declare file storage name (declared_type made) (home_of made) w) (λ what. pure made)) s one r h in
    let two = bind-gives (declare file storage name (declared_type made) (home_of made) s) (λ what. pure made) one r go.1 in
    let c = name_counted file storage name (declared_type made) (home_of made) two.0 s two.1 there two.2 in
    record {
      same = gives-value made one two.1 r two.3;
      counted = subst (λ (q : UnitState). IsNameCounted file storage (home_of made) (declared_type made) s q) (gives-state made one two.1 r two.3) c;
    }

pub declarator-alike : (T : Table) → IsWellFormed T → (one : TypedDeclarator) (s s' : Scopes) → IsForm T (form_in one) s s'
    → statics_made T (made_by_declarator one) ≡ literals_made (made_by_declarator one) + own_bytes T (home_of one) (declared_type one)
declarator-alike T w (typed.Declares form t) s s' h = (form-alike T w form t s s' h).same

whole_form : (one : TypedDeclarator) → typed.Declares (form_in one) (declared_type one) ≡ one
whole_form (typed.Declares form t) = refl

summed : (a b c l o m : ℕ) → b ≡ a + l → c ≡ b + o → m ≡ l + o → c ≡ a + m
summed a b c l o m p q e = omega (arith, p, q, e)

-- a declarator behind specifiers: its literals, and the object that it declares
pub one-lasts : (file : Bool) (base : TypedSpecifiers) (initialised : Bool) (size : Option ℕ) (d : tree.Declarator) (one : TypedDeclarator) (s r : UnitState) → IsUnitKnown s
    → IsType s.table (specified_type base) → judge_named file base initialised size d s ≡ Gives one r → Lasts (made_by_declarator one) s r
unfolding judge_named
one-lasts file base initialised size d one s r k b h =
    let which : Naming = naming_for file (storage_of base) (linked_first s.linkage.linked (declarator_name d)) in
    let first = bind-gives (lifted (judge_declarator which base size d) s) (named file (storage_of base) initialised (declarator_name d)) one r h in
    let made = first.0 in
    let m = first.1 in
    let l = lifted-gives (judge_declarator which base size d) made s m first.2 in
    let there = (declarator-at (name_place (declarator_name d) nowhere) which (specified_type base) size d made (state_of s) (state_of m) k.known b l.0).there in
    let n = named_counted file (storage_of base) initialised (declarator_name d) made one m r there first.3 in
    let j = one-judged file base initialised size d one s r k b h in
    let literals = declarator-counted which base size d made (state_of s) (state_of m) k.known b l.0 in
    record {
      counts = λ T x w.
          let form = j.typed T x in
          let from_m : IsExtended m.table T = subst (λ (U : Table). IsExtended U T) n.counted.table x in
          let declares = subst (λ (v : TypedDeclarator). IsNameDeclared T file (storage_of base) (home_of v) form.name.bytes (declared_type v) (with_scopes (known_of s) form.inside) (known_of r)) (whole_form one ∙ sym n.same) form.declares in
          let own = n.counted.counts T from_m form.name.bytes (with_scopes (known_of s) form.inside) (known_of r) declares in
          summed s.seen.globals m.seen.globals r.seen.globals (literals_made (made_by_declarator made)) (own_bytes T (home_of made) (declared_type made))
          (statics_made T (made_by_declarator one)) literals own
          (declarator-alike T w one s.seen.scopes form.inside form.parts
          ∙ ap (λ (v : TypedDeclarator). literals_made (made_by_declarator v) + own_bytes T (home_of v) (declared_type v)) (sym n.same));
    }
