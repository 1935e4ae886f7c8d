-- What is known of the types stays known where one is looked for or added.
use Rattle.std.proofs.Common.{◌≡◌, ℕ, ◌+◌, ◌<◌, ◌≤◌, Bool, true, false, List, [], ◌∷◌, ◌++◌, length, Option, Some, None, refl, ap, sym, subst, ◌∙◌, inl, inr, nat_lt, nat_le, if◌then◌else◌, arith}
use Rattle.std.specs.List.{All, Contains}
use Rattle.std.proofs.lemmas.Bool.Decides.{eqb_tells, nat_tests}
use Rattle.std.proofs.lemmas.List.Elements.{All-nil, All-cons, All-contains}
use Rattle.cc_base.specs.declared.place.Place.{Place}
use Rattle.cc_base.specs.declared.number.NodeId.{NodeId}
use Rattle.cc_base.specs.declared.number.TypeId.{TypeId}
use Rattle.cc_base.specs.declared.fault.Fault.TheVariants.{TooLarge}
use Rattle.cc_base.specs.declared.fault.Limit.TheVariants.{Types, Object}
use Rattle.c_types.specs.declared.shape.TypeShape.{TypeShape}
use Rattle.c_types.specs.declared.shape.TypeShape.TheVariants.{Void, Integer, Pointer, Array, Function, Struct, Union}
use Rattle.c_types.specs.Table.{Table, Entry, HasShape, IsType, IsComplete, entry_at, shape_at, named_by, is_complete, is_complete_entry, is_aggregate_shape, parts_of_shape, members_at}
use Rattle.c_types.specs.Calls.{IsNew, IsAddable, basic_entry, new_layout}
use Rattle.c_types.proofs.Adding.{appends, formed_added}
use Rattle.c_types.proofs.Growth.{Changes}
use Rattle.c_typing.specs.Extensions.{IsExtended, IsTypeWith}
use Rattle.c_typing.specs.Judging.{State, Gives, Stops, ◌>>=◌, pure, new_node, type_among, there_or_added, type_with, pointer_type, Pointing, new_pointer}
use Rattle.c_typing.specs.Rules.{number_of_shape}
use Rattle.c_typing.specs.Scopes.{Scopes, Seen, is_complete_shape_at}
use Rattle.c_typing.specs.Settled.{IsBasic, IsFollowed, AreNumbered, IsKnown, GoesOn, GoesOnThere}
use Rattle.c_typing_laws.proofs.ExtensionLaws.{no_true, still_in, extended_refl}
use Rattle.c_typing_laws.proofs.KnownScopes.{levels-kept, no-number, numbered-from}
use Rattle.c_typing_laws.proofs.TableGrowth.{type_with-law, extended_trans}
use Rattle.c_typing.proofs.TypeSearch.{type-absent}
use Rattle.c_typing_laws.proofs.Outcomes.{gives-value, gives-state, never-gives, bind-gives, new_node-gives, NeverRefuses, gives-never, large-never, next-never, new_node-never}

-- what is no struct or union is complete wherever it is in the table
complete_by : (s : Scopes) (x : TypeShape) (ms : List TypeId) → is_aggregate_shape x ≡ false → is_complete_shape_at s (is_complete_entry x ms) x ≡ true
    → is_complete_entry x ms ≡ true
complete_by s Void ms p h = h
complete_by s (Integer bytes signed) ms p h = h
complete_by s (Pointer n t) ms p h = h
complete_by s (Array t n) ms p h = h
complete_by s (Function ps r) ms p h = h
complete_by s (Struct n) ms p h = no_true (sym p)
complete_by s (Union n) ms p h = no_true (sym p)

module _ (T : Table) (x : TypeShape) (b : IsBasic T) (a : IsAddable T x) (parts : All (IsComplete T) (parts_of_shape x [])) (new : IsNew T x)
    (room : length T < 16384) (small : (new_layout T x).size ≤ 1048576) where
  U : Table
  U = T ++ basic_entry x ∷ []

  change : Changes T (T ++ basic_entry x ∷ []) (record { 0 = length T }) (basic_entry x)
  change = appends T (basic_entry x) parts

  entry_last : (t : TypeId) → t.0 ≡ length T → entry_at (T ++ basic_entry x ∷ []) t ≡ basic_entry x
  entry_last t h = ap (λ (n : ℕ). entry_at (T ++ basic_entry x ∷ []) (record { 0 = n })) h ∙ change.here

  built_after : (t u : TypeId) → Contains (named_by (shape_at (T ++ basic_entry x ∷ []) t)) u → u.0 < t.0
  built_after t u c = elim (eqb_tells t.0 (length T)) [
    | inl s ↦
        let there : u.0 < length T = All-contains (IsType T) (named_by x) u a.named
        (subst (λ (e : Entry). Contains (named_by e.shape) u) (entry_last t s.1) c) in
        let last = s.1 in
        omega (arith, there, last)
    | inr n ↦ b.built t u (subst (λ (e : Entry). Contains (named_by e.shape) u) (change.other t n.1) c)
  ]

  pub basic_after : IsExtended T (T ++ basic_entry x ∷ []) → IsBasic (T ++ basic_entry x ∷ [])
  basic_after e = record {
    formed = formed_added T x b.formed new a room small;
    built = built_after;
    void = (still_in T (T ++ basic_entry x ∷ []) e (_) b.void.0, e.shapes (_) b.void.0 ∙ b.void.1);
    integers = λ k size. (still_in T (T ++ basic_entry x ∷ []) e (_) (b.integers k size).0, e.shapes (_) (b.integers k size).0 ∙ (b.integers k size).1);
  }

  pub followed_after : (s : Scopes) → is_aggregate_shape x ≡ false → IsFollowed T s → IsFollowed (T ++ basic_entry x ∷ []) s
  followed_after s p f t h = elim (eqb_tells t.0 (length T)) [
    | inl q ↦
        let own = entry_last t q.1 in
        subst (λ (e : Entry). is_complete e ≡ true) (sym own)
        (complete_by s x [] p (subst (λ (e : Entry). is_complete_shape_at s (is_complete e) e.shape ≡ true) own h))
    | inr n ↦
        let same = change.other t n.1 in
        subst (λ (e : Entry). is_complete e ≡ true) (sym same) (f t (subst (λ (e : Entry). is_complete_shape_at s (is_complete e) e.shape ≡ true) same h))
  ]

  pub numbered_after : (s : Scopes) → is_aggregate_shape x ≡ false → AreNumbered T s → AreNumbered (T ++ basic_entry x ∷ []) s
  numbered_after s p h = numbered-from T (T ++ basic_entry x ∷ []) s before keeps h
    where
      keeps : (t : TypeId) (n : ℕ) → number_of_shape (shape_at (T ++ basic_entry x ∷ []) t) ≡ Some n → members_at (T ++ basic_entry x ∷ []) t ≡ members_at T t
      keeps t n q = elim (eqb_tells t.0 (length T)) [
        | inl l ↦ no-number x n p (subst (λ (e : Entry). number_of_shape e.shape ≡ Some n) (entry_last t l.1) q)
        | inr m ↦ ap (λ (e : Entry). e.members) (change.other t m.1)
      ]

      before : (t : TypeId) (n : ℕ) → number_of_shape (shape_at (T ++ basic_entry x ∷ []) t) ≡ Some n → number_of_shape (shape_at T t) ≡ Some n
      before t n q = elim (eqb_tells t.0 (length T)) [
        | inl l ↦ no-number x n p (subst (λ (e : Entry). number_of_shape e.shape ≡ Some n) (entry_last t l.1) q)
        | inr m ↦ subst (λ (e : Entry). number_of_shape e.shape ≡ Some n) (change.other t m.1) q
      ]

lt_from : (a b : ℕ) → nat_lt a b ≡ true → a < b
lt_from a b h = grind (arith, nat_tests)

le_from : (a b : ℕ) → nat_le a b ≡ true → a ≤ b
le_from a b h = grind (arith, nat_tests)

module _ (at : Place) (x : TypeShape) (t : TypeId) (s r : State) (k : IsKnown s) (a : IsAddable s.table x)
    (parts : All (IsComplete s.table) (parts_of_shape x [])) (plain : is_aggregate_shape x ≡ false) where
  fresh : (room small : Bool) → nat_lt (length s.table) 16384 ≡ room → nat_le (new_layout s.table x).size 1048576 ≡ small → IsNew s.table x
      → (if room
      then (if small then Gives (record { 0 = length s.table }) (record s { table = s.table ++ basic_entry x ∷ [] }) else Stops (TooLarge at Object) s)
      else Stops (TooLarge at Types) s) ≡ Gives t r → IsExtended s.table r.table → IsKnown r
  fresh true true p q new h e =
      let after : State = record s { table = s.table ++ basic_entry x ∷ [] } in
      let same : after ≡ r = gives-state (record { 0 = length s.table }) t after r h in
      let grows : IsExtended s.table after.table = subst (λ (v : State). IsExtended s.table v.table) (sym same) e in
      let there : IsKnown after = record {
        basic = basic_after s.table x k.basic a parts new (lt_from (length s.table) 16384 p) (le_from (new_layout s.table x).size 1048576 q) grows;
        followed = followed_after s.table x k.basic a parts new (lt_from (length s.table) 16384 p) (le_from (new_layout s.table x).size 1048576 q) s.seen.scopes plain k.followed;
        levels = levels-kept s.table after.table grows s.seen.scopes.levels k.levels;
        numbered = numbered_after s.table x k.basic a parts new (lt_from (length s.table) 16384 p) (le_from (new_layout s.table x).size 1048576 q) s.seen.scopes plain k.numbered;
      } in
      subst IsKnown same there
  fresh true false p q new h e = never-gives t (TooLarge at Object) s r h
  fresh false small p q new h e = never-gives t (TooLarge at Types) s r h

  there_or_fresh : (o : Option TypeId) → type_among 0 s.table x ≡ o → there_or_added at x s o ≡ Gives t r → IsExtended s.table r.table → IsKnown r
  there_or_fresh (Some u) q h e = subst IsKnown (gives-state u t s r h) k
  there_or_fresh None q h e =
      fresh (nat_lt (length s.table) 16384) (nat_le (new_layout s.table x).size 1048576) refl refl (type-absent s.table x q) h e

  pub type_with-found : type_with at x s ≡ Gives t r → IsTypeWith x t s r
  type_with-found h = type_with-law at x t s r k.basic.formed parts h

  pub type_with-known : type_with at x s ≡ Gives t r → IsKnown r
  unfolding type_with
  type_with-known h = there_or_fresh (type_among 0 s.table x) refl h (type_with-found h).extends

  pub type_with-there : type_with at x s ≡ Gives t r → GoesOnThere s r
  type_with-there h = record {
    goes = record { extends = (type_with-found h).extends; known = type_with-known h };
    scopes = ap (λ (v : Seen). v.scopes) (type_with-found h).seen;
  }

pub type_with-never : (at : Place) (x : TypeShape) (s : State) → NeverRefuses (type_with at x s)
unfolding type_with
type_with-never at x s = by (type_among 0 s.table x)
  where
    added : (room small : Bool) → NeverRefuses {A = TypeId} (if room
        then (if small then Gives (record { 0 = length s.table }) (record s { table = s.table ++ basic_entry x ∷ [] }) else Stops (TooLarge at Object) s)
        else Stops (TooLarge at Types) s)
    added true true = gives-never (record { 0 = length s.table }) (record s { table = s.table ++ basic_entry x ∷ [] })
    added true false = large-never TypeId at Object s
    added false small = large-never TypeId at Types s

    by : (o : Option TypeId) → NeverRefuses (there_or_added at x s o)
    by (Some u) = gives-never u s
    by None = added (nat_lt (length s.table) 16384) (nat_le (new_layout s.table x).size 1048576)

pub stays : (s : State) → IsKnown s → GoesOnThere s s
stays s k = record { goes = record { extends = extended_refl s.table; known = k }; scopes = refl }

pub goes-on : (s m r : State) → GoesOn s m → GoesOn m r → GoesOn s r
goes-on s m r p q = record { extends = extended_trans s.table m.table r.table p.extends q.extends; known = q.known }

pub there-on : (s m r : State) → GoesOnThere s m → GoesOnThere m r → GoesOnThere s r
there-on s m r p q = record { goes = goes-on s m r p.goes q.goes; scopes = q.scopes ∙ p.scopes }

-- Pointer types

pub pointer_addable : (T : Table) (n : NodeId) (to : TypeId) → IsType T to → IsAddable T (Pointer n to)
pointer_addable T n to h = record { proper = tt; named = All-cons (IsType T) to [] h (All-nil (IsType T)); parts = tt }

pub pointer_type-gives : (at : Place) (n : NodeId) (to t : TypeId) (s r : State) → IsKnown s → pointer_type at n to s ≡ Gives t r
    → HasShape r.table t (Pointer n to) × GoesOnThere s r
unfolding pointer_type
pointer_type-gives at n to t s r k h = by (nat_lt to.0 (length s.table)) refl h
  where
    by : (b : Bool) → nat_lt to.0 (length s.table) ≡ b → (if b then type_with at (Pointer n to) s else Stops (TooLarge at Types) s) ≡ Gives t r
        → HasShape r.table t (Pointer n to) × GoesOnThere s r
    by true p q =
        let a = pointer_addable s.table n to (lt_from to.0 (length s.table) p) in (
          (type_with-found at (Pointer n to) t s r k a (All-nil (IsComplete s.table)) refl q).shape,
          type_with-there at (Pointer n to) t s r k a (All-nil (IsComplete s.table)) refl q,
        )
    by false p q = never-gives t (TooLarge at Types) s r q

pub pointer_type-never : (at : Place) (n : NodeId) (to : TypeId) (s : State) → NeverRefuses (pointer_type at n to s)
unfolding pointer_type
pointer_type-never at n to s = by (nat_lt to.0 (length s.table))
  where
    by : (b : Bool) → NeverRefuses (if b then type_with at (Pointer n to) s else Stops (TooLarge at Types) s)
    by true = type_with-never at (Pointer n to) s
    by false = large-never TypeId at Types s

-- a node makes nothing else known
pub node-there : (at : Place) (n : NodeId) (s r : State) → IsKnown s → new_node at s ≡ Gives n r → GoesOnThere s r
node-there at n s r k h =
    let after : State = record s { seen = record s.seen { node = s.seen.node + 1 } } in
    let here : GoesOnThere s after = record {
      goes = record { extends = extended_refl s.table; known = record { basic = k.basic; followed = k.followed; levels = k.levels; numbered = k.numbered } };
      scopes = refl;
    } in
    subst (GoesOnThere s) (sym (new_node-gives at n s r h).1) here

abbrev pointing : NodeId → TypeId → Pointing
pointing n t = record { node = n; type = t }

pub new_pointer-gives : (at : Place) (to : TypeId) (made : Pointing) (s r : State) → IsKnown s → new_pointer at to s ≡ Gives made r
    → HasShape r.table made.type (Pointer made.node to) × GoesOnThere s r
unfolding new_pointer
new_pointer-gives at to made s r k h =
    let one = bind-gives (new_node at s) (λ n. pointer_type at n to >>= (λ t. pure (pointing n t))) made r h in
    let first = node-there at one.0 s one.1 k one.2 in
    let two = bind-gives (pointer_type at one.0 to one.1) (λ t. pure (pointing one.0 t)) made r one.3 in
    let second = pointer_type-gives at one.0 to two.0 one.1 two.1 first.goes.known two.2 in
    let value = gives-value (pointing one.0 two.0) made two.1 r two.3 in
    let state = gives-state (pointing one.0 two.0) made two.1 r two.3 in (
      subst (λ (v : State). HasShape v.table made.type (Pointer made.node to)) state
          (subst (λ (p : Pointing). HasShape two.1.table p.type (Pointer p.node to)) value second.0),
      subst (GoesOnThere s) state (there-on s one.1 two.1 first second.1),
    )

pub new_pointer-never : (at : Place) (to : TypeId) (s : State) → NeverRefuses (new_pointer at to s)
unfolding new_pointer
new_pointer-never at to s =
    next-never (new_node at s) (λ n. pointer_type at n to >>= (λ t. pure (pointing n t))) (new_node-never at s)
    (λ n m. next-never (pointer_type at n to m) (λ t. pure (pointing n t)) (pointer_type-never at n to m) (λ t q. gives-never (pointing n t) q))
