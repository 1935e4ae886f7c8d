-- What is counted from one state to another: part by part, and by the steps that count nothing.
use Rattle.std.proofs.Common.{◌≡◌, ℕ, ◌+◌, ◌<◌, ◌≤◌, Bool, true, false, ◌&&◌, List, [], ◌∷◌, ◌++◌, length, Option, Some, None, refl, ap, sym, subst, ◌∙◌, nat_lt, nat_le, if◌then◌else◌, arith}
use Rattle.std.specs.List.{All, list_all}
use Rattle.std.proofs.lemmas.Bool.Decides.{nat_tests}
use Rattle.std.proofs.lemmas.List.Elements.{All-nil, All-cons, All-weaker}
use Rattle.cc_base.specs.declared.place.Place.{Place}
use Rattle.cc_base.specs.declared.number.NodeId.{NodeId}
use Rattle.cc_base.specs.declared.number.TypeId.{TypeId}
use Rattle.cc_base.specs.declared.fault.Fault.TheVariants.{TooLarge}
use Rattle.cc_base.specs.declared.fault.Limit.TheVariants.{Types, Object}
use Rattle.c_types.specs.Calls.{IsAddable, IsNew, basic_entry, new_layout}
use Rattle.c_types.specs.Table.{Table, IsType, IsComplete, parts_of_shape, is_complete, entry_at}
use Rattle.c_types.specs.declared.shape.TypeShape.{TypeShape}
use Rattle.c_types.specs.declared.shape.TypeShape.TheVariants.{Pointer, Array, Function}
use Rattle.c_tree.specs.declared.operator.AggregateKind.{AggregateKind}
use Rattle.c_tree.specs.declared.operator.AggregateKind.TheVariants as kind
use Rattle.c_tree.specs.TypedParts.{Made, Address}
use Rattle.c_typing.specs.Extensions.{IsExtended}
use Rattle.c_typing.specs.Judging.{State, Gives, Stops, ◌>>=◌, pure, new_node, type_among, there_or_added, type_with, pointer_type, Pointing, new_pointer}
use Rattle.c_typing.specs.Scopes.{Name, Level}
use Rattle.c_typing.specs.Typing.{shape_of_kind}
use Rattle.c_typing.specs.declared.declared.Declared.{Declared}
use Rattle.c_typing.specs.declared.declared.Declared.TheVariants as declared
use Rattle.c_typing.proofs.TypeSearch.{type-absent}
use Rattle.c_typing_laws.proofs.ExtensionLaws.{and_left, and_right, extended_refl}
use Rattle.c_typing_laws.proofs.KnownStates.{basic_after, pointer_addable}
use Rattle.c_typing_laws.proofs.Outcomes.{bind-gives, gives-state, never-gives, new_node-gives}
use Rattle.c_typing_laws.proofs.TableGrowth.{added_extends, extended_trans}
use Rattle.c_cells_kept.specs.Counted.{copied_by, copied, IsObjectWhole, IsLevelWhole, AreWhole, Stays, Moves}

-- Objects of complete types, over a later table

module _ (T U : Table) (x : IsExtended T U) where
  pub complete_later : (t : TypeId) → IsComplete T t → IsComplete U t
  complete_later t h = ap is_complete (x.complete t h) ∙ h

  object_later : (what : Declared) → IsObjectWhole T what → IsObjectWhole U what
  object_later (declared.Object t home) h = complete_later t h
  object_later (declared.Typedef t) h = tt
  object_later (declared.Function t) h = tt
  object_later (declared.Enumerator value) h = tt

  pub whole-later : (ls : List Level) → AreWhole T ls → AreWhole U ls
  whole-later ls h =
      All-weaker (IsLevelWhole T) (IsLevelWhole U)
      (λ l own. record { names = All-weaker (λ (e : Name × Declared). IsObjectWhole T e.1) (λ (e : Name × Declared). IsObjectWhole U e.1) (λ e. object_later e.1) l.names own.names }) ls h

-- Parts one after another

pub copied-append : (U : Table) (xs ys : List Made) → copied U (xs ++ ys) ≡ copied U xs + copied U ys
copied-append U [] ys = none (copied U ys)
  where
    none : (n : ℕ) → n ≡ 0 + n
    none n = omega arith
copied-append U (x ∷ xs) ys = ap (λ (n : ℕ). copied_by U x + n) (copied-append U xs ys) ∙ apart (copied_by U x) (copied U xs) (copied U ys)
  where
    apart : (a b c : ℕ) → a + (b + c) ≡ a + b + c
    apart a b c = omega arith

pub stays-refl : (s : State) → Stays s s
stays-refl s ready = (extended_refl s.table, ready, refl)

pub stays-same : (s r : State) → s ≡ r → Stays s r
stays-same s r e = subst (Stays s) e (stays-refl s)

pub stays-on : (s m r : State) → Stays s m → Stays m r → Stays s r
stays-on s m r p q ready =
    let a = p ready in
    let b = q a.1 in
    (extended_trans s.table m.table r.table a.0 b.0, b.1, b.2 ∙ a.2)

pub two-made : (xs ys : List Made) (s m r : State) → Moves xs s m → Moves ys m r → Moves (xs ++ ys) s r
two-made xs ys s m r p q ready =
    let a = p ready in
    let b = q a.1 in (
      extended_trans s.table m.table r.table a.0 b.0,
      b.1,
      λ U x.
          let f = a.2 U (extended_trans m.table r.table U b.0 x) in
          let g = b.2 U x in
          let e = copied-append U xs ys in
          omega (arith, f, g, e),
    )

pub made-as : (xs ys : List Made) (s r : State) → xs ≡ ys → Moves ys s r → Moves xs s r
made-as xs ys s r e h = subst (λ (zs : List Made). Moves zs s r) (sym e) h

-- nothing is counted after it, and nothing before it
pub made-to : (xs : List Made) (s m r : State) → Stays m r → Moves xs s m → Moves xs s r
made-to xs s m r q p ready =
    let a = p ready in
    let b = q a.1 in
    (extended_trans s.table m.table r.table a.0 b.0, b.1, λ U x. b.2 ∙ a.2 U (extended_trans m.table r.table U b.0 x))

pub made-from : (xs : List Made) (s m r : State) → Stays s m → Moves xs m r → Moves xs s r
made-from xs s m r p q ready =
    let a = p ready in
    let b = q a.1 in
    (extended_trans s.table m.table r.table a.0 b.0, b.1, λ U x. b.2 U x ∙ ap (λ (n : ℕ). n + copied U xs) a.2)

-- where no assignment is made
pub made-none : (xs : List Made) (s r : State) → ((U : Table) → copied U xs ≡ 0) → Stays s r → Moves xs s r
made-none xs s r none p ready =
    let a = p ready in (
      a.0,
      a.1,
      λ U x.
          let e = a.2 in
          let z = none U in
          omega (arith, e, z),
    )

pub moves-none : (s : State) → Moves [] s s
moves-none s = made-none [] s s (λ U. refl) (stays-refl s)

-- Nodes and types

pub node-stays : (at : Place) (n : NodeId) (s r : State) → new_node at s ≡ Gives n r → Stays s r
node-stays at n s r h =
    let after : State = record s { seen = record s.seen { node = s.seen.node + 1 } } in
    let here : Stays s after = stays-refl s in
    subst (Stays s) (sym (new_node-gives at n s r h).1) here

pub address-made : (at : Place) (n : NodeId) (s r : State) → new_node at s ≡ Gives n r → Moves (Address n ∷ []) s r
address-made at n s r h = made-none (Address n ∷ []) s r (λ U. refl) (node-stays at n s r h)

pub lt_from : (a b : ℕ) → nat_lt a b ≡ true → a < b
lt_from a b h = grind (arith, nat_tests)

pub le_from : (a b : ℕ) → nat_le a b ≡ true → a ≤ b
le_from a b h = grind (arith, nat_tests)

-- the shape may stand in the table
abbrev pub MayStand : Table → TypeShape → Type 0
MayStand T x = IsAddable T x × All (IsComplete T) (parts_of_shape x [])

module _ (at : Place) (x : TypeShape) (t : TypeId) (s r : State) (may : MayStand s.table x) where
  added : (room small : Bool) → nat_lt (length s.table) 16384 ≡ room → nat_le (new_layout s.table x).size 1048576 ≡ small → IsNew s.table x
      → (if room
      then (if small then Gives (record { 0 = length s.table }) (record s { table = s.table ++ basic_entry x ∷ [] }) else Stops (TooLarge at Object) s)
      else Stops (TooLarge at Types) s) ≡ Gives t r → Stays s r
  added true true p q new h =
      let after : State = record s { table = s.table ++ basic_entry x ∷ [] } in
      let here : Stays s after = λ ready.
      let grows = added_extends s.table x ready.0.formed may.1 in (
        grows,
        (
          basic_after s.table x ready.0 may.0 may.1 new (lt_from (length s.table) 16384 p) (le_from (new_layout s.table x).size 1048576 q) grows,
          whole-later s.table (s.table ++ basic_entry x ∷ []) grows s.seen.scopes.levels ready.1,
        ),
        refl,
      ) in
      subst (Stays s) (gives-state (record { 0 = length s.table }) t after r h) here
  added true false p q new h = never-gives t (TooLarge at Object) s r h
  added false small p q new h = never-gives t (TooLarge at Types) s r h

  there_or_fresh : (o : Option TypeId) → type_among 0 s.table x ≡ o → there_or_added at x s o ≡ Gives t r → Stays s r
  there_or_fresh (Some u) q h = stays-same s r (gives-state u t s r h)
  there_or_fresh None q h = added (nat_lt (length s.table) 16384) (nat_le (new_layout s.table x).size 1048576) refl refl (type-absent s.table x q) h

  pub type_with-stays : type_with at x s ≡ Gives t r → Stays s r
  unfolding type_with
  type_with-stays h = there_or_fresh (type_among 0 s.table x) refl h

pub pointer-stays : (at : Place) (n : NodeId) (to t : TypeId) (s r : State) → pointer_type at n to s ≡ Gives t r → Stays s r
unfolding pointer_type
pointer-stays at n to t s r h = by (nat_lt to.0 (length s.table)) refl h
  where
    by : (b : Bool) → nat_lt to.0 (length s.table) ≡ b → (if b then type_with at (Pointer n to) s else Stops (TooLarge at Types) s) ≡ Gives t r → Stays s r
    by true p g = type_with-stays at (Pointer n to) t s r (pointer_addable s.table n to (lt_from to.0 (length s.table) p), All-nil (IsComplete s.table)) g
    by false p g = never-gives t (TooLarge at Types) s r g

pub new_pointer-made : (at : Place) (to : TypeId) (made : Pointing) (s r : State) → new_pointer at to s ≡ Gives made r → Moves (Address made.node ∷ []) s r
unfolding new_pointer
new_pointer-made at to made s r h =
    let one = bind-gives (new_node at s) (λ n. pointer_type at n to >>= (λ t. pure (pointing n t))) made r h in
    let two = bind-gives (pointer_type at one.0 to one.1) (λ t. pure (pointing one.0 t)) made r one.3 in
    let state = gives-state (pointing one.0 two.0) made two.1 r two.3 in
    made-none (Address made.node ∷ []) s r (λ U. refl)
    (subst (Stays s) state (stays-on s one.1 two.1 (node-stays at one.0 s one.1 one.2) (pointer-stays at one.0 to two.0 one.1 two.1 two.2)))
  where
    pointing : NodeId → TypeId → Pointing
    pointing n t = record { node = n; type = t }

-- Shapes that may stand

pub array_may : (T : Table) (t : TypeId) (count : ℕ) → (nat_lt t.0 (length T) && (is_complete (entry_at T t) && nat_lt 0 count)) ≡ true → MayStand T (Array t count)
array_may T t count h =
    let rest = and_right (nat_lt t.0 (length T)) (is_complete (entry_at T t) && nat_lt 0 count) h in
    let own : IsComplete T t = and_left (is_complete (entry_at T t)) (nat_lt 0 count) rest in (
      record {
        proper = lt_from 0 count (and_right (is_complete (entry_at T t)) (nat_lt 0 count) rest);
        named = All-cons (IsType T) t [] (lt_from t.0 (length T) (and_left (nat_lt t.0 (length T)) (is_complete (entry_at T t) && nat_lt 0 count) h)) (All-nil (IsType T));
        parts = own;
      },
      All-cons (IsComplete T) t [] own (All-nil (IsComplete T)),
    )

all_types : (T : Table) (ts : List TypeId) → list_all (λ (t : TypeId). nat_lt t.0 (length T)) ts ≡ true → All (IsType T) ts
all_types T [] h = All-nil (IsType T)
all_types T (t ∷ ts) h =
    All-cons (IsType T) t ts (lt_from t.0 (length T) (and_left (nat_lt t.0 (length T)) (list_all (λ (u : TypeId). nat_lt u.0 (length T)) ts) h))
    (all_types T ts (and_right (nat_lt t.0 (length T)) (list_all (λ (u : TypeId). nat_lt u.0 (length T)) ts) h))

pub function_may : (T : Table) (parameters : List TypeId) (result : TypeId) → list_all (λ (t : TypeId). nat_lt t.0 (length T)) (result ∷ parameters) ≡ true
    → MayStand T (Function parameters result)
function_may T parameters result h = (record { proper = tt; named = all_types T (result ∷ parameters) h; parts = tt }, All-nil (IsComplete T))

pub kind_may : (T : Table) (which : AggregateKind) (n : ℕ) → MayStand T (shape_of_kind which n)
kind_may T kind.Struct n = (record { proper = tt; named = All-nil (IsType T); parts = tt }, All-nil (IsComplete T))
kind_may T kind.Union n = (record { proper = tt; named = All-nil (IsType T); parts = tt }, All-nil (IsComplete T))
