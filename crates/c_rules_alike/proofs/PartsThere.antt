-- The parts that judging gives, their values, and what is given of them to a type, are well typed, and their types are in the table.
use Rattle.std.proofs.Common.{◌≡◌, ◌==◌, Bool, true, false, List, [], ◌∷◌, ◌++◌, map, Option, None, Some, refl, ap, sym, subst, ◌∙◌, inl, inr, if◌then◌else◌}
use Rattle.std.proofs.lemmas.Bool.Decides.{Decides-eqb}
use Rattle.std.proofs.lemmas.Option.{none-some}
use Rattle.cc_base.specs.declared.place.Place.{Place}
use Rattle.cc_base.specs.declared.number.TypeId.{TypeId}
use Rattle.c_types.specs.Table.{Table, IsType}
use Rattle.c_tree.specs.declared.leaf.Identifier.{Identifier}
use Rattle.c_tree.specs.declared.typed_word.Conversion.{Conversion}
use Rattle.c_tree.specs.declared.typed_word.Conversion.TheVariants as conversion
use Rattle.c_tree.specs.Places.{expr_place}
use Rattle.c_tree.specs.Tree as tree
use Rattle.c_tree.specs.TypedTree as typed
use Rattle.c_tree.specs.TypedTree.{TypedExpr}
use Rattle.c_tree.specs.TypedParts.{type_of}
use Rattle.c_typing.specs.declared.declared.Tag.{Tag}
use Rattle.c_typing.specs.Assignments.{part_type}
use Rattle.c_typing.specs.Conversions.{bare, is_droppable, implicit, converting, converting_by, is_pointer_to_complete, takes_over, IsAssignedBy}
use Rattle.c_typing.specs.Extensions.{IsExtended}
use Rattle.c_typing.specs.Judging.{State, Gives, pure}
use Rattle.c_typing.specs.Operands.{Value, made_for, raw_value, value_of, side_of, given_allocation, given, argument_of}
use Rattle.c_typing.specs.Refusals.{IsElaborated, AreElaborated}
use Rattle.c_typing.specs.Rules.{runtime_named}
use Rattle.c_typing.specs.Scopes.{Name, Scopes, tag_here}
use Rattle.c_typing.specs.Settled.{IsBasic, IsKnown, IsPartTyped, AreValuesOf}
use Rattle.c_typing.specs.Tests.{Elaborated, AsPlace, AsValue, AsAllocation, Argument, has_some}
use Rattle.c_typing.specs.Typing.{IsTyped, tag_named_here}
use Rattle.c_typing_laws.proofs.ExtensionLaws.{no_true, still_in}
use Rattle.c_typing_laws.proofs.JudgedAssignments.{IsGiven, given-gives}
use Rattle.c_typing_laws.proofs.JudgedTrees.{value_done}
use Rattle.c_typing_laws.proofs.KeptConstants.{same_type, scalar_in}
use Rattle.c_typing_laws.proofs.KeptTrees.{value-kept, place-kept}
use Rattle.c_typing_laws.proofs.KnownScopes.{tag_here-there}
use Rattle.c_typing_laws.proofs.Outcomes.{bind-gives, gives-value}
use Rattle.c_typing_laws.proofs.TypesThere as there
use Rattle.c_typing_laws.proofs.ValuesTaken.{value_of-gives, given-same}
use Rattle.c_typing_laws.specs.Judged.{IsChecked, IsCheckedFor, BecomesBy}
use Rattle.c_rules_alike.specs.PartsThere.{IsPartThere, AreArgumentsThere, IsTagThereIf}

part_typed : (T : Table) (e : tree.Expr) (p : Elaborated) (s s' : Scopes) → IsElaborated T e p s s' → IsPartTyped T p s s'
part_typed T e (AsPlace p) s s' h = h.0
part_typed T e (AsValue v) s s' h = h.0
part_typed T e (AsAllocation v) s s' h = h.0

-- a part as its own rules leave it
pub elaborated-there : (T : Table) → IsBasic T → (e : tree.Expr) (p : Elaborated) (s s' : Scopes) → IsElaborated T e p s s' → IsPartThere T p
elaborated-there T b e p s s' h = record { before = s; after = s'; typed = part_typed T e p s s' h; type = there.part-there T b e p s s' h }

-- Values

dropped_in : (T : Table) (b : IsBasic T) (v : TypedExpr) (s s' : Scopes) → IsTyped T v s s' → is_droppable v ≡ true → IsType T (type_of v)
dropped_in T b (typed.Unread p) s s' h d = there.place-there T b p s s' h.0
dropped_in T b v s s' h d = there.value-there T b v s s' h d

runtime_in : (T : Table) (v : TypedExpr) (s s' : Scopes) → IsTyped T v s s' → has_some (runtime_named v) ≡ true → IsType T (type_of v)
runtime_in T (typed.RuntimeName name function t) s s' h r = h.1.type.0
runtime_in T (typed.Paren at e) s s' h r = runtime_in T e s s' h.0 r
runtime_in T v s s' h r = no_true r

value_part : (T : Table) (v : TypedExpr) (s s' : Scopes) → IsTyped T v s s' → IsType T (type_of v) → IsPartThere T (AsValue v)
value_part T v s s' h t = record { before = s; after = s'; typed = h; type = t }

side_part : (T : Table) (v : TypedExpr) (s s' : Scopes) → IsTyped T v s s' → IsType T (type_of v) → IsPartThere T (side_of v)
side_part T (typed.Unread p) s s' h t = record { before = s; after = s'; typed = h.0; type = t }
side_part T v s s' h t = value_part T v s s' h t

pub value-there : (T : Table) → IsBasic T → (v : TypedExpr) (s s' : Scopes) → IsTyped T v s s' → is_droppable v ≡ true → IsPartThere T (AsValue v)
value-there T b v s s' h d = value_part T v s s' h (dropped_in T b v s s' h d)

pub side-there : (T : Table) → IsBasic T → (v : TypedExpr) (s s' : Scopes) → IsTyped T v s s' → is_droppable v ≡ true → IsPartThere T (side_of v)
side-there T b v s s' h d = side_part T v s s' h (dropped_in T b v s s' h d)

-- the value of a part, and its side
module _ (e : tree.Expr) (at : Place) (p : Elaborated) (v : TypedExpr) (s0 : Scopes) (s r : State) (k : IsKnown s) (el : IsElaborated s.table e p s0 s.seen.scopes)
    (h : value_of at p s ≡ Gives v r) where
  taken_in : IsTyped r.table v s0 r.seen.scopes × IsType r.table (type_of v)
  taken_in =
      let got = value_of-gives e at p v s0 s r k el h in
      let b = got.1.goes.known.basic in
      let w = got.0.typed in
      (w, elim (value_done e at p v s0 s r k el h).0 [ inl d ↦ dropped_in r.table b v s0 r.seen.scopes w d | inr q ↦ runtime_in r.table v s0 r.seen.scopes w q ])

  pub taken-there : IsPartThere r.table (AsValue v)
  taken-there = value_part r.table v s0 r.seen.scopes taken_in.0 taken_in.1

  pub taken_side-there : IsPartThere r.table (side_of v)
  taken_side-there = side_part r.table v s0 r.seen.scopes taken_in.0 taken_in.1

gives_part : (y z : Elaborated) (s r : State) → Gives y s ≡ Gives z r → IsPartThere s.table y → IsPartThere r.table z
gives_part y z s r h p = given-same (λ (w : Elaborated) (m : State). IsPartThere m.table w) y z s r h p

-- what is given of a part to a type
pub given-there : (e : tree.Expr) (t : TypeId) (at : Place) (p y : Elaborated) (s0 : Scopes) (s r : State) → IsKnown s → IsType s.table t
    → IsElaborated s.table e p s0 s.seen.scopes → given t at p s ≡ Gives y r → IsPartThere r.table y
unfolding given given_allocation value_of
given-there e t at (AsAllocation w) y s0 s r k there el h = by (is_pointer_to_complete s.table s.seen.scopes t) h
  where
    by : (b : Bool) → given_allocation t at w b s ≡ Gives y r → IsPartThere r.table y
    by true q =
        let got = given-gives e t at (AsAllocation w) y s0 s r k there el h in
        let same = gives-value (AsAllocation (made_for t w)) y s r q in
        let over = subst (λ (z : Elaborated). IsGiven r.table t e z s0 r.seen.scopes) (sym same) got.0 in
        subst (IsPartThere r.table) same (record { before = s0; after = r.seen.scopes; typed = over.typed; type = got.1.goes.known.basic.void.0 })
    by false q =
        let one = bind-gives (raw_value at w s) (λ u. pure (AsValue u)) y r q in
        gives_part (AsValue one.0) y one.1 r one.3 (taken-there e at (AsAllocation w) one.0 s0 s one.1 k el one.2)
given-there e t at (AsValue w) y s0 s r k there el h =
    let one = bind-gives (value_of at (AsValue w) s) (λ u. pure (side_of u)) y r h in
    gives_part (side_of one.0) y one.1 r one.3 (taken_side-there e at (AsValue w) one.0 s0 s one.1 k el one.2)
given-there e t at (AsPlace p) y s0 s r k there el h =
    let one = bind-gives (value_of at (AsPlace p) s) (λ u. pure (side_of u)) y r h in
    gives_part (side_of one.0) y one.1 r one.3 (taken_side-there e at (AsPlace p) one.0 s0 s one.1 k el one.2)

-- What a unit asks of its expressions

pub converting-type : (w : Conversion) (at : Place) (t : TypeId) (e : TypedExpr) → type_of (converting w at t e) ≡ t
converting-type conversion.IntegerToInteger at t e = by ((type_of e).0 == t.0) refl
  where
    by : (c : Bool) → ((type_of e).0 == t.0) ≡ c → type_of (if c then e else typed.Convert conversion.IntegerToInteger at t e) ≡ t
    by true h = same_type (type_of e) t ((Decides-eqb (type_of e).0 t.0).0 h)
    by false h = refl
converting-type w at t e = refl

made_type : (o : Option Conversion) (at : Place) (t : TypeId) (e v : TypedExpr) → converting_by o at t e ≡ Some v → type_of v ≡ t
made_type None at t e v h = absurd (none-some v h)
made_type (Some w) at t e v h = ap type_of (some_same (converting w at t e) v h) ∙ converting-type w at t e
  where
    some_same : (a c : TypedExpr) → Some a ≡ Some c → c ≡ a
    some_same a c p = cc

assigned_type : (c : Bool) (T : Table) (at : Place) (t : TypeId) (v : TypedExpr) → IsAssignedBy c T at t v → type_of v ≡ t
assigned_type true T at t v h = h.type
assigned_type false T at t v h = made_type (implicit T (bare v) t) at t (bare v) v h.made

becomes_type : (init : Bool) (T : Table) (s : Scopes) (at : Place) (t : TypeId) (v : TypedExpr) → BecomesBy init T s at t v → type_of v ≡ t
becomes_type true T s at t v h = assigned_type (takes_over T s t v) T at t v h
becomes_type false T s at t v h = made_type (implicit T (bare v) t) at t (bare v) v h.made

-- the value of an expression
pub checked-there : (e : tree.Expr) (v : TypedExpr) (s r : State) → IsChecked e v s r → IsPartThere r.table (AsValue v)
checked-there e v s r j = value-there r.table j.goes.known.basic v s.seen.scopes r.seen.scopes j.typed j.droppable

-- its value where it becomes one of a type
pub checked_for-there : (t : TypeId) (at : Place) (init : Bool) (e : tree.Expr) (v : TypedExpr) (s r : State) → IsCheckedFor t at init e v s r
    → IsPartThere r.table (AsValue v)
checked_for-there t at init e v s r j = value_part r.table v s.seen.scopes r.seen.scopes j.typed (elim j.becomes [
  | inl u ↦ dropped_in r.table j.goes.known.basic v s.seen.scopes r.seen.scopes j.typed (ap is_droppable u.unread)
  | inr c ↦ subst (IsType r.table) (sym (becomes_type init r.table r.seen.scopes at t v c.1)) (scalar_in r.table t c.0)
])

-- Arguments

parts_last : (T : Table) (list : List Argument) (a : Argument) → AreArgumentsThere T list → IsPartThere T a.part → AreArgumentsThere T (list ++ a ∷ [])
parts_last T [] a h p = (p, tt)
parts_last T (c ∷ list) a h p = (h.0, parts_last T list a h.1 p)

values_last : (T : Table) (values : List Value) (v : Value) → AreArgumentsThere T (map argument_of values) → IsPartThere T (AsValue v.expr)
    → AreArgumentsThere T (map argument_of (values ++ v ∷ []))
values_last T [] v h p = (p, tt)
values_last T (w ∷ values) v h p = (h.0, values_last T values v h.1 p)

pub elaborated_list-there : (T : Table) → IsBasic T → (all : tree.Arguments) (list : List Argument) (s s' : Scopes) → AreElaborated T all list s s'
    → AreArgumentsThere T list
elaborated_list-there T b tree.NoArgument list s s' h = subst (AreArgumentsThere T) (sym h.0) tt
elaborated_list-there T b (tree.AndArgument all e) list s s' h =
    subst (AreArgumentsThere T) (sym h.5)
    (parts_last T h.0 (record { part = h.2; place = expr_place e }) (elaborated_list-there T b all h.0 s h.1 h.3) (elaborated-there T b e h.2 h.1 s' h.4))

pub values-there : (T : Table) → IsBasic T → (all : tree.Arguments) (values : List Value) (s s' : Scopes) → AreValuesOf T all values s s'
    → AreArgumentsThere T (map argument_of values)
values-there T b tree.NoArgument values s s' h = subst (λ (l : List Value). AreArgumentsThere T (map argument_of l)) (sym h.0) tt
values-there T b (tree.AndArgument all e) values s s' h =
    subst (λ (l : List Value). AreArgumentsThere T (map argument_of l)) (sym h.7)
    (values_last T h.0 h.2 (values-there T b all h.0 s h.1 h.3) (value-there T b h.2.expr h.1 s' h.4.typed h.6))

-- Over a later table

typed_later : (J T : Table) (x : IsExtended J T) (b : IsBasic J) (p : Elaborated) (s s' : Scopes) → IsPartTyped J p s s' → IsPartTyped T p s s'
typed_later J T x b (AsPlace p) s s' h = place-kept J T x b p s s' h
typed_later J T x b (AsValue v) s s' h = value-kept J T x b v s s' h
typed_later J T x b (AsAllocation v) s s' h = value-kept J T x b v s s' h

pub part_there-kept : (J T : Table) → IsExtended J T → IsBasic J → (p : Elaborated) → IsPartThere J p → IsPartThere T p
part_there-kept J T x b p h =
    record { before = h.before; after = h.after; typed = typed_later J T x b p h.before h.after h.typed; type = still_in J T x (part_type p) h.type }

-- Tags

found_there : (s : State) → IsKnown s → (name : Name) (o : Option Tag) → tag_here s.seen.scopes.levels name ≡ o → IsTagThereIf s.table o
found_there s k name None h = tt
found_there s k name (Some what) h = tag_here-there s.table s.seen.scopes.levels k.levels name what h

-- the tag that the innermost scope has
pub tag_here-in : (s : State) → IsKnown s → (name : Option Identifier) → IsTagThereIf s.table (tag_named_here s.seen.scopes name)
tag_here-in s k None = tt
tag_here-in s k (Some name) = found_there s k name.bytes (tag_here s.seen.scopes.levels name.bytes) refl
