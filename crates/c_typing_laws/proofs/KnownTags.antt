-- What is known where structs and unions are declared, begun and ended.
use Rattle.std.proofs.Common.{◌≡◌, ℕ, zero, suc, ◌+◌, ◌<◌, ◌≤◌, Bool, true, false, not, List, [], ◌∷◌, ◌++◌, length, Option, Some, None, refl, ap, sym, subst, ◌∙◌, inl, inr, ◌⊎◌, nat_lt, nat_le, if◌then◌else◌, arith}
use Rattle.std.specs.List.{All}
use Rattle.std.proofs.lemmas.Bool.Decides.{eqb_tells, nat_tests}
use Rattle.std.proofs.lemmas.List.{length-append}
use Rattle.std.proofs.lemmas.List.Elements.{All-nil}
use Rattle.cc_base.specs.declared.place.Place.{Place}
use Rattle.cc_base.specs.declared.number.TypeId.{TypeId}
use Rattle.cc_base.specs.declared.fault.Fault.TheVariants.{TooLarge}
use Rattle.cc_base.specs.declared.fault.Limit.TheVariants.{Types, Object}
use Rattle.c_types.specs.declared.shape.TypeShape.{TypeShape}
use Rattle.c_types.specs.declared.shape.TypeShape.TheVariants.{Void, Integer, Pointer, Array, Function, Struct, Union}
use Rattle.c_types.specs.Table.{Table, Entry, HasShape, IsType, IsComplete, entry_at, shape_at, is_complete, is_aggregate_shape, parts_of_shape, is_empty}
use Rattle.c_types.specs.Calls.{IsNew, IsAddable, basic_entry, new_layout}
use Rattle.c_types.proofs.Adding.{appends}
use Rattle.c_types.proofs.Growth.{Changes}
use Rattle.c_tree.specs.declared.leaf.Identifier.{Identifier}
use Rattle.c_tree.specs.declared.operator.AggregateKind.{AggregateKind}
use Rattle.c_tree.specs.declared.operator.AggregateKind.TheVariants as kind
use Rattle.c_typing.specs.declared.declared.Tag.{Tag}
use Rattle.c_typing.specs.declared.declared.Tag.TheVariants as tag
use Rattle.c_typing.specs.Extensions.{IsExtended}
use Rattle.c_typing.specs.Judging.{State, Judging, Gives, Stops, next, ◌>>=◌, type_among, there_or_added, type_with}
use Rattle.c_typing.specs.Operations.{numbered}
use Rattle.c_typing.specs.Rules.{number_of_shape}
use Rattle.c_typing.specs.Scopes.{Name, Scopes, members_named, is_complete_shape_at, with_scopes}
use Rattle.c_typing.specs.Settled.{IsBasic, IsFollowed, IsLevelThere, IsTagThere, AreNumbered, IsKnown, GoesOn}
use Rattle.c_typing.specs.Specifying.{in_scopes, new_aggregate}
use Rattle.c_typing.specs.Typing.{shape_of_kind, counting_aggregate, tagging, IsNewAggregate}
use Rattle.c_typing_laws.proofs.ExtensionLaws.{no_true}
use Rattle.c_typing_laws.proofs.JudgedMembers.{numbered-gives}
use Rattle.c_typing_laws.proofs.KnownScopes.{levels-kept, tagged-there}
use Rattle.c_typing_laws.proofs.KnownStates.{basic_after}
use Rattle.c_typing_laws.proofs.Outcomes.{bind-gives, gives-value, gives-state, never-gives}
use Rattle.c_typing_laws.proofs.TableGrowth.{added_extends}
use Rattle.c_typing.proofs.TypeSearch.{type-found, type-absent}

lt_from : (a b : ℕ) → nat_lt a b ≡ true → a < b
lt_from a b h = grind (arith, nat_tests)

le_from : (a b : ℕ) → nat_le a b ≡ true → a ≤ b
le_from a b h = grind (arith, nat_tests)

-- Members of numbers

-- a struct without members so far has no names of members
abbrev with_members : List (List Name) → Scopes
with_members ms = record { levels = []; defined = []; members = ms }

counting_names : (ms : List (List Name)) (n : ℕ) → members_named (with_members (ms ++ [] ∷ [])) n ≡ members_named (with_members ms) n
counting_names [] zero = refl
counting_names [] (suc n) = refl
counting_names (m ∷ ms) zero = refl
counting_names (m ∷ ms) (suc n) = counting_names ms n

past_names : (ms : List (List Name)) (n : ℕ) → n ≡ length ms → members_named (with_members ms) n ≡ []
past_names [] zero h = refl
past_names [] (suc n) h = refl
past_names (m ∷ ms) zero h = absurd (omega (arith, h))
past_names (m ∷ ms) (suc n) h = past_names ms n (omega (arith, h))

same_complete : (c d : Scopes) → ((n : ℕ) → members_named d n ≡ members_named c n) → (w : Bool) (x : TypeShape)
    → is_complete_shape_at d w x ≡ is_complete_shape_at c w x
same_complete c d same w (Struct n) = ap (λ l. not (is_empty l)) (same n)
same_complete c d same w (Union n) = ap (λ l. not (is_empty l)) (same n)
same_complete c d same w Void = refl
same_complete c d same w (Integer bytes signed) = refl
same_complete c d same w (Pointer m t) = refl
same_complete c d same w (Array t m) = refl
same_complete c d same w (Function ps r) = refl

-- Shapes of structs and unions

pub kind_number : (which : AggregateKind) (n : ℕ) → number_of_shape (shape_of_kind which n) ≡ Some n
kind_number kind.Struct n = refl
kind_number kind.Union n = refl

pub kind_aggregate : (which : AggregateKind) (n : ℕ) → is_aggregate_shape (shape_of_kind which n) ≡ true
kind_aggregate kind.Struct n = refl
kind_aggregate kind.Union n = refl

kind_addable : (T : Table) (which : AggregateKind) (n : ℕ) → IsAddable T (shape_of_kind which n)
kind_addable T kind.Struct n = record { proper = tt; named = All-nil (IsType T); parts = tt }
kind_addable T kind.Union n = record { proper = tt; named = All-nil (IsType T); parts = tt }

kind_parts : (T : Table) (which : AggregateKind) (n : ℕ) → All (IsComplete T) (parts_of_shape (shape_of_kind which n) [])
kind_parts T kind.Struct n = All-nil (IsComplete T)
kind_parts T kind.Union n = All-nil (IsComplete T)

kind_complete : (c : Scopes) (w : Bool) (which : AggregateKind) (n : ℕ) → is_complete_shape_at c w (shape_of_kind which n) ≡ not (is_empty (members_named c n))
kind_complete c w kind.Struct n = refl
kind_complete c w kind.Union n = refl

some_same : {A : Type 0} (a b : A) → Some a ≡ Some b → a ≡ b
some_same a b h = cc

same_type : (t u : TypeId) → t.0 ≡ u.0 → t ≡ u
same_type t u s = ap (λ (n : ℕ). record { 0 = n }) s

-- A new one: the table has one type more, and the scopes count one more
module _ (T : Table) (which : AggregateKind) (c d : Scopes) (more : d.members ≡ c.members ++ [] ∷ []) (k : IsBasic T) (followed : IsFollowed T c)
    (numbered : AreNumbered T c) (new : IsNew T (shape_of_kind which (length c.members))) (room : length T < 16384)
    (small : (new_layout T (shape_of_kind which (length c.members))).size ≤ 1048576) where
  x : TypeShape
  x = shape_of_kind which (length c.members)

  change : Changes T (T ++ basic_entry (shape_of_kind which (length c.members)) ∷ []) (record { 0 = length T }) (basic_entry (shape_of_kind which (length c.members)))
  change = appends T (basic_entry (shape_of_kind which (length c.members))) (kind_parts T which (length c.members))

  entry_last : (t : TypeId) → t.0 ≡ length T → entry_at (T ++ basic_entry (shape_of_kind which (length c.members)) ∷ []) t ≡ basic_entry (shape_of_kind which (length c.members))
  entry_last t h = ap (λ (n : ℕ). entry_at (T ++ basic_entry (shape_of_kind which (length c.members)) ∷ []) (record { 0 = n })) h ∙ change.here

  pub grown : IsExtended T (T ++ basic_entry (shape_of_kind which (length c.members)) ∷ [])
  grown = added_extends T (shape_of_kind which (length c.members)) k.formed (kind_parts T which (length c.members))

  pub new-basic : IsBasic (T ++ basic_entry (shape_of_kind which (length c.members)) ∷ [])
  new-basic = basic_after T (shape_of_kind which (length c.members)) k (kind_addable T which (length c.members)) (kind_parts T which (length c.members)) new room small grown

  pub new-shape : HasShape (T ++ basic_entry (shape_of_kind which (length c.members)) ∷ []) (record { 0 = length T }) (shape_of_kind which (length c.members))
  new-shape = (omega (arith, length-append T (basic_entry (shape_of_kind which (length c.members)) ∷ [])), ap (λ (e : Entry). e.shape) change.here)

  names_same : (n : ℕ) → members_named d n ≡ members_named c n
  names_same n = ap (λ (ms : List (List Name)). members_named (with_members ms) n) more ∙ counting_names c.members n

  pub new-followed : IsFollowed (T ++ basic_entry (shape_of_kind which (length c.members)) ∷ []) d
  new-followed t h = elim (eqb_tells t.0 (length T)) [
    | inl q ↦
        let own = entry_last t q.1 in
        let here : is_complete_shape_at d (is_complete (basic_entry (shape_of_kind which (length c.members)))) (shape_of_kind which (length c.members)) ≡ true =
        subst (λ (e : Entry). is_complete_shape_at d (is_complete e) e.shape ≡ true) own h in
        let empty : members_named d (length c.members) ≡ [] = names_same (length c.members) ∙ past_names c.members (length c.members) refl in
        no_true (sym (kind_complete d (is_complete (basic_entry (shape_of_kind which (length c.members)))) which (length c.members)
        ∙ ap (λ (l : List Name). not (is_empty l)) empty) ∙ here)
    | inr m ↦
        let same = change.other t m.1 in
        subst (λ (e : Entry). is_complete e ≡ true) (sym same)
        (followed t (sym (same_complete c d names_same (is_complete (entry_at T t)) (shape_at T t))
        ∙ subst (λ (e : Entry). is_complete_shape_at d (is_complete e) e.shape ≡ true) same h))
  ]

  -- a numbered type of the longer table is the new one, or was numbered before
  number_by : (t : TypeId) (n : ℕ) → number_of_shape (shape_at (T ++ basic_entry (shape_of_kind which (length c.members)) ∷ []) t) ≡ Some n
      → ((t.0 ≡ length T) × (n ≡ length c.members)) ⊎ (number_of_shape (shape_at T t) ≡ Some n)
  number_by t n h = elim (eqb_tells t.0 (length T)) [
    | inl q ↦
        let own : number_of_shape (shape_of_kind which (length c.members)) ≡ Some n =
        subst (λ (e : Entry). number_of_shape e.shape ≡ Some n) (entry_last t q.1) h in
        inl (q.1, sym (some_same (length c.members) n (sym (kind_number which (length c.members)) ∙ own)))
    | inr m ↦ inr (subst (λ (e : Entry). number_of_shape e.shape ≡ Some n) (change.other t m.1) h)
  ]

  longer : length d.members ≡ length c.members + 1
  longer = ap (λ (ms : List (List Name)). length ms) more ∙ length-append c.members ([] ∷ [])

  pub new-numbered : AreNumbered (T ++ basic_entry (shape_of_kind which (length c.members)) ∷ []) d
  new-numbered = record {
    closed = λ t n h. elim (eqb_tells t.0 (length T)) [
      | inl q ↦
          let own : number_of_shape (shape_of_kind which (length c.members)) ≡ Some n =
          subst (λ (e : Entry). number_of_shape e.shape ≡ Some n) (entry_last t q.1) h in
          let number = sym (some_same (length c.members) n (sym (kind_number which (length c.members)) ∙ own)) in
          ap (λ (l : List Name). length l) (names_same n ∙ past_names c.members n number) ∙ ap (λ (e : Entry). length e.members) (sym (entry_last t q.1))
      | inr m ↦
          ap (λ (l : List Name). length l) (names_same n)
          ∙ (numbered.closed t n (subst (λ (e : Entry). number_of_shape e.shape ≡ Some n) (change.other t m.1) h)
          ∙ ap (λ (e : Entry). length e.members) (sym (change.other t m.1)))
    ];
    given = λ t n h. elim (number_by t n h) [
      | inl q ↦ let l = longer in let e = q.1 in omega (arith, l, e)
      | inr q ↦ let l = longer in let b : n < length c.members = numbered.given t n q in omega (arith, l, b)
    ];
    own = λ t u n h g. elim (number_by t n h) [
      | inl p ↦ elim (number_by u n g) [
        | inl q ↦ same_type t u (p.0 ∙ sym q.0)
        | inr q ↦ let e = p.1 in let b : n < length c.members = numbered.given u n q in absurd (omega (arith, e, b))
      ]
      | inr p ↦ elim (number_by u n g) [
        | inl q ↦ let e = q.1 in let b : n < length c.members = numbered.given t n p in absurd (omega (arith, e, b))
        | inr q ↦ numbered.own t u n p q
      ]
    ];
  }

-- the tag of a new one
tagged_levels : (T : Table) (name : Option Identifier) (what : Tag) (c : Scopes) → IsTagThere T what → All (IsLevelThere T) c.levels
    → All (IsLevelThere T) (tagging name what c).levels
tagged_levels T None what c t h = h
tagged_levels T (Some name) what c t h = tagged-there T name.bytes what c.levels t h

tagged_members : (name : Option Identifier) (what : Tag) (c : Scopes) → (tagging name what c).members ≡ c.members
tagged_members None what c = refl
tagged_members (Some name) what c = refl

-- a struct or union is declared, and all is known again
pub record IsAggregateNew (which : AggregateKind) (name : Option Identifier) (t : TypeId) (s r : State) : Type 0 where
  pub declared : IsNewAggregate r.table which name t s.seen.scopes r.seen.scopes
  pub goes : GoesOn s r

module _ (which : AggregateKind) (at : Place) (name : Option Identifier) (t : TypeId) (s r : State) (k : IsKnown s) where
  made : TypeId → State → State
  made u m = record m { seen = with_scopes m.seen (tagging name (tag.Aggregate which u) (counting_aggregate m.seen.scopes)) }

  after : IsNew s.table (shape_of_kind which (length s.seen.scopes.members)) → length s.table < 16384
      → (new_layout s.table (shape_of_kind which (length s.seen.scopes.members))).size ≤ 1048576
      → IsAggregateNew which name (record { 0 = length s.table }) s
      (made (record { 0 = length s.table }) (record s { table = s.table ++ basic_entry (shape_of_kind which (length s.seen.scopes.members)) ∷ [] }))
  unfolding made
  after new room small =
      let T = s.table in
      let c = s.seen.scopes in
      let u : TypeId = record { 0 = length s.table } in
      let d : Scopes = tagging name (tag.Aggregate which u) (counting_aggregate s.seen.scopes) in
      let more : d.members ≡ s.seen.scopes.members ++ [] ∷ [] = tagged_members name (tag.Aggregate which u) (counting_aggregate s.seen.scopes) in
      let shape = new-shape T which c d more k.basic k.followed k.numbered new room small in
      let grows = grown T which c d more k.basic k.followed k.numbered new room small in
      record {
        declared = record { shape = shape; after = refl };
        goes = record {
          extends = grows;
          known = record {
            basic = new-basic T which c d more k.basic k.followed k.numbered new room small;
            followed = new-followed T which c d more k.basic k.followed k.numbered new room small;
            levels = tagged_levels (T ++ basic_entry (shape_of_kind which (length c.members)) ∷ []) name (tag.Aggregate which u) (counting_aggregate s.seen.scopes)
                (length c.members, shape) (levels-kept T (T ++ basic_entry (shape_of_kind which (length c.members)) ∷ []) grows c.levels k.levels);
            numbered = new-numbered T which c d more k.basic k.followed k.numbered new room small;
          };
        };
      }

  tagged_then : TypeId → Judging TypeId
  tagged_then u = in_scopes (λ (c : Scopes). tagging name (tag.Aggregate which u) (counting_aggregate c)) u

  added : (room small : Bool) → nat_lt (length s.table) 16384 ≡ room
      → nat_le (new_layout s.table (shape_of_kind which (length s.seen.scopes.members))).size 1048576 ≡ small
      → IsNew s.table (shape_of_kind which (length s.seen.scopes.members))
      → next (if room
      then (if small
      then Gives (record { 0 = length s.table }) (record s { table = s.table ++ basic_entry (shape_of_kind which (length s.seen.scopes.members)) ∷ [] })
      else Stops (TooLarge at Object) s)
      else Stops (TooLarge at Types) s) tagged_then ≡ Gives t r → IsAggregateNew which name t s r
  unfolding made tagged_then
  added true true p q new h =
      let u : TypeId = record { 0 = length s.table } in
      let m : State = record s { table = s.table ++ basic_entry (shape_of_kind which (length s.seen.scopes.members)) ∷ [] } in
      subst (λ (v : State). IsAggregateNew which name t s v) (gives-state u t (made u m) r h)
      (subst (λ (v : TypeId). IsAggregateNew which name v s (made u m)) (gives-value u t (made u m) r h)
      (after new (lt_from (length s.table) 16384 p) (le_from (new_layout s.table (shape_of_kind which (length s.seen.scopes.members))).size 1048576 q)))
  added true false p q new h = never-gives t (TooLarge at Object) s r h
  added false small p q new h = never-gives t (TooLarge at Types) s r h

  found_or_added : (o : Option TypeId) → type_among 0 s.table (shape_of_kind which (length s.seen.scopes.members)) ≡ o
      → next (there_or_added at (shape_of_kind which (length s.seen.scopes.members)) s o) tagged_then ≡ Gives t r → IsAggregateNew which name t s r
  found_or_added (Some u) p h =
      let found = type-found s.table (shape_of_kind which (length s.seen.scopes.members)) u p in
      let below : length s.seen.scopes.members < length s.seen.scopes.members =
      k.numbered.given u (length s.seen.scopes.members) (ap number_of_shape found.1 ∙ kind_number which (length s.seen.scopes.members)) in
      absurd (omega (arith, below))
  found_or_added None p h =
      added (nat_lt (length s.table) 16384) (nat_le (new_layout s.table (shape_of_kind which (length s.seen.scopes.members))).size 1048576) refl refl
      (type-absent s.table (shape_of_kind which (length s.seen.scopes.members)) p) h

  -- what is given where a struct or union is declared
  pub new_aggregate-judged : new_aggregate which at name s ≡ Gives t r → IsAggregateNew which name t s r
  unfolding new_aggregate type_with tagged_then
  new_aggregate-judged h =
      let one = bind-gives (numbered at (Some (length s.seen.scopes.members)) s)
      (λ number. type_with at (shape_of_kind which number) >>= (λ u. in_scopes (λ (c : Scopes). tagging name (tag.Aggregate which u) (counting_aggregate c)) u)) t r h in
      let first = numbered-gives at (Some (length s.seen.scopes.members)) one.0 s one.1 one.2 in
      let same : one.0 ≡ length s.seen.scopes.members = sym (some_same (length s.seen.scopes.members) one.0 first.0) in
      found_or_added (type_among 0 s.table (shape_of_kind which (length s.seen.scopes.members))) refl
      (subst (λ (n : ℕ). next (type_with at (shape_of_kind which n) s) tagged_then ≡ Gives t r) same
      (subst (λ (q : State). next (type_with at (shape_of_kind which one.0) q) tagged_then ≡ Gives t r) first.1 one.3))
