-- A struct or union gets its members: the table of the whole text goes on from the table with them.
use Rattle.std.proofs.Common.{◌≡◌, ◌≢◌, ◌≤◌, ◌<◌, ℕ, Bool, true, false, not, ◌&&◌, List, [], ◌∷◌, length, slice_set, Option, Some, None, refl, ap, sym, subst, ◌∙◌, inl, inr, nat_lt, arith}
use Rattle.std.specs.List.{All, list_all}
use Rattle.std.proofs.lemmas.Bool.Decides.{eqb_tells}
use Rattle.std.proofs.lemmas.List.{length-set}
use Rattle.std.proofs.lemmas.List.Elements.{All-nil, All-cons, All-head, All-tail}
use Rattle.cc_base.specs.declared.place.Place.{Place}
use Rattle.cc_base.specs.declared.number.TypeId.{TypeId}
use Rattle.c_types.specs.declared.layout.Layout.{Layout}
use Rattle.c_types.specs.declared.shape.TypeShape.{TypeShape}
use Rattle.c_types.specs.declared.shape.TypeShape.TheVariants.{Void, Integer, Pointer, Array, Function, Struct, Union}
use Rattle.c_types.specs.Table.{Table, Entry, IsType, IsComplete, entry_at, shape_at, members_at, is_complete, is_complete_entry, is_aggregate_shape, is_empty}
use Rattle.c_types.specs.Calls.{with_members, defined_layout}
use Rattle.c_types.specs.Sound.{IsWellFormed}
use Rattle.c_types.proofs.Defining.{defines}
use Rattle.c_types.proofs.Growth.{Changes}
use Rattle.c_typing.specs.Declarators.{member_names, member_types}
use Rattle.c_typing.specs.Extensions.{IsExtended}
use Rattle.c_typing.specs.Judging.{State, Gives, by_known}
use Rattle.c_typing.specs.Rules.{number_of_shape}
use Rattle.c_typing.specs.Scopes.{Name, Scopes, Seen, members_named, is_complete_at, is_complete_shape_at, with_scopes}
use Rattle.c_typing.specs.Settled.{IsBasic}
use Rattle.c_typing.specs.Specifying.{in_scopes, is_definable, defined, completing, completed}
use Rattle.c_tree.specs.TypedTree.{TypedMembers}
use Rattle.c_typing_laws.proofs.ExtensionLaws.{no_true}
use Rattle.c_typing_unique.proofs.Shapes.{some-same}
use Rattle.c_typing_given.specs.Spending.{IsSmall}
use Rattle.c_typing_given.proofs.MemberNames.{set-here, set-still}
use Rattle.c_typing_given.proofs.MemberSteps.{IsWhole}
use Rattle.c_typing_given.proofs.PointersGiven.{and-both}
use Rattle.c_typing_given.proofs.Settling.{naming}
use Rattle.c_typing_given.proofs.Steps.{then-is}
use Rattle.c_typing_given.proofs.TypeGiven.{own-layout, changed-first, same_id, lt_true, le_true}

-- Shapes of structs and unions

aggregate_of : (x : TypeShape) (n : ℕ) → number_of_shape x ≡ Some n → is_aggregate_shape x ≡ true
aggregate_of (Struct m) n h = refl
aggregate_of (Union m) n h = refl
aggregate_of Void n h = absurd (let e : ◌≡◌ {A = Option ℕ} None (Some n) = h in cc)
aggregate_of (Integer bytes signed) n h = absurd (let e : ◌≡◌ {A = Option ℕ} None (Some n) = h in cc)
aggregate_of (Pointer m t) n h = absurd (let e : ◌≡◌ {A = Option ℕ} None (Some n) = h in cc)
aggregate_of (Array t m) n h = absurd (let e : ◌≡◌ {A = Option ℕ} None (Some n) = h in cc)
aggregate_of (Function ps r) n h = absurd (let e : ◌≡◌ {A = Option ℕ} None (Some n) = h in cc)

filled : (ms : List TypeId) → 0 < length ms → not (is_empty ms) ≡ true
filled [] h = absurd (omega (arith, h))
filled (m ∷ ms) h = refl

aggregate_whole : (x : TypeShape) (ms : List TypeId) → is_aggregate_shape x ≡ true → 0 < length ms → is_complete_entry x ms ≡ true
aggregate_whole (Struct n) ms a h = filled ms h
aggregate_whole (Union n) ms a h = filled ms h
aggregate_whole Void ms a h = no_true a
aggregate_whole (Integer bytes signed) ms a h = no_true a
aggregate_whole (Pointer m t) ms a h = no_true a
aggregate_whole (Array t m) ms a h = no_true a
aggregate_whole (Function ps r) ms a h = no_true a

not_off : (b : Bool) → not b ≡ false → b ≡ true
not_off true h = refl
not_off false h = no_true (sym h)

-- a struct that is not complete has no names of members
shape_open : (c : Scopes) (w : Bool) (x : TypeShape) (n : ℕ) → number_of_shape x ≡ Some n → is_complete_shape_at c w x ≡ false → is_empty (members_named c n) ≡ true
shape_open c w (Struct m) n h k = ap (λ (i : ℕ). is_empty (members_named c i)) (sym (some-same m n h)) ∙ not_off (is_empty (members_named c m)) k
shape_open c w (Union m) n h k = ap (λ (i : ℕ). is_empty (members_named c i)) (sym (some-same m n h)) ∙ not_off (is_empty (members_named c m)) k
shape_open c w Void n h k = absurd (let e : ◌≡◌ {A = Option ℕ} None (Some n) = h in cc)
shape_open c w (Integer bytes signed) n h k = absurd (let e : ◌≡◌ {A = Option ℕ} None (Some n) = h in cc)
shape_open c w (Pointer m t) n h k = absurd (let e : ◌≡◌ {A = Option ℕ} None (Some n) = h in cc)
shape_open c w (Array t m) n h k = absurd (let e : ◌≡◌ {A = Option ℕ} None (Some n) = h in cc)
shape_open c w (Function ps r) n h k = absurd (let e : ◌≡◌ {A = Option ℕ} None (Some n) = h in cc)

-- so it has no members in the table
pub members-open : (s : State) (t : TypeId) (n : ℕ) → IsSmall s → number_of_shape (shape_at s.table t) ≡ Some n → is_complete_at s.table s.seen.scopes t ≡ false
    → members_at s.table t ≡ []
members-open s t n small number open_ = by (members_at s.table t) refl
  where
    by : (ms : List TypeId) → members_at s.table t ≡ ms → members_at s.table t ≡ []
    by [] q = q
    by (m ∷ ms) q =
        let full : IsComplete s.table t =
        aggregate_whole (shape_at s.table t) (members_at s.table t) (aggregate_of (shape_at s.table t) n number) (let l = ap (λ (all : List TypeId). length all) q in omega (arith, l)) in
        no_true (sym (small.finished t n number full) ∙ shape_open s.seen.scopes (is_complete (entry_at s.table t)) (shape_at s.table t) n number open_)

-- What can be defined

pub record IsOpen (J : Table) (t : TypeId) (n : ℕ) (ms : List TypeId) : Type 0 where
  pub there : IsType J t
  pub number : number_of_shape (shape_at J t) ≡ Some n
  pub open_ : members_at J t ≡ []
  pub some : 0 < length ms
  pub whole : All (IsWhole J) ms

all_whole : (J : Table) (ms : List TypeId) → All (IsWhole J) ms → list_all (λ (m : TypeId). nat_lt m.0 (length J) && is_complete (entry_at J m)) ms ≡ true
all_whole J [] h = refl
all_whole J (m ∷ ms) h =
    let own = All-head (IsWhole J) m ms h in
    and-both (nat_lt m.0 (length J) && is_complete (entry_at J m)) (list_all (λ (u : TypeId). nat_lt u.0 (length J) && is_complete (entry_at J u)) ms)
    (and-both (nat_lt m.0 (length J)) (is_complete (entry_at J m)) (lt_true m.0 (length J) own.0) own.1) (all_whole J ms (All-tail (IsWhole J) m ms h))

all_complete : (J : Table) (ms : List TypeId) → All (IsWhole J) ms → All (IsComplete J) ms
all_complete J [] h = All-nil (IsComplete J)
all_complete J (m ∷ ms) h = All-cons (IsComplete J) m ms (All-head (IsWhole J) m ms h).1 (all_complete J ms (All-tail (IsWhole J) m ms h))

definable : (J : Table) (t : TypeId) (n : ℕ) (ms : List TypeId) → IsOpen J t n ms → is_definable J t ms ≡ true
definable J t n ms h =
    let all = list_all (λ (m : TypeId). nat_lt m.0 (length J) && is_complete (entry_at J m)) ms in
    and-both (nat_lt t.0 (length J)) (is_aggregate_shape (shape_at J t) && (is_empty (members_at J t) && (not (is_empty ms) && all))) (lt_true t.0 (length J) h.there)
    (and-both (is_aggregate_shape (shape_at J t)) (is_empty (members_at J t) && (not (is_empty ms) && all)) (aggregate_of (shape_at J t) n h.number)
    (and-both (is_empty (members_at J t)) (not (is_empty ms) && all) (ap (λ (l : List TypeId). is_empty l) h.open_)
    (and-both (not (is_empty ms)) all (filled ms h.some) (all_whole J ms h.whole))))

module _ (T : Table) (basic : IsBasic T) (J : Table) (w : IsWellFormed J) (first : IsExtended J T) (t : TypeId) (n : ℕ) (ms : List TypeId) (h : IsOpen J t n ms)
    (types : members_at T t ≡ ms) where
  change : Changes J (with_members J t ms) t (record { shape = shape_at J t; members = ms })
  change = defines J t ms w h.there (aggregate_of (shape_at J t) n h.number) h.open_ h.some (all_complete J ms h.whole)

  same_length : length (with_members J t ms) ≡ length J
  same_length = length-set J t.0 (record { shape = shape_at J t; members = ms })

  shorter : length (with_members J t ms) ≤ length T
  shorter = let l = same_length in let m = first.longer in omega (arith, l, m)

  whole_entry : is_complete (record { shape = shape_at J t; members = ms }) ≡ true → entry_at T t ≡ record { shape = shape_at J t; members = ms }
  whole_entry k = (λ i. record { shape = first.shapes t h.there i; members = types i })

  old_type : (u : TypeId) → IsType (with_members J t ms) u → u.0 ≢ t.0 → IsType J u
  old_type u k m = let l = same_length in omega (arith, l, k)

  full : is_complete (record { shape = shape_at J t; members = ms }) ≡ true
  full = aggregate_whole (shape_at J t) ms (aggregate_of (shape_at J t) n h.number) h.some

  pub defined-first : IsExtended (with_members J t ms) T
  defined-first =
      changed-first T basic J (with_members J t ms) t (record { shape = shape_at J t; members = ms }) w first change shorter (first.shapes t h.there) whole_entry old_type

  defined_small : (defined_layout J t ms).size ≤ 1048576
  defined_small =
      let same =
      own-layout T basic J (with_members J t ms) t (record { shape = shape_at J t; members = ms }) w first change shorter (first.shapes t h.there) whole_entry old_type full in
      subst (λ (l : Layout). l.size ≤ 1048576) same (basic.formed.sized t (ap is_complete (whole_entry full) ∙ full)).most

  pub defined-length : length (with_members J t ms) ≡ length J
  defined-length = same_length

  pub defined-number : number_of_shape (shape_at (with_members J t ms) t) ≡ Some n
  defined-number = ap (λ (e : Entry). number_of_shape e.shape) change.here ∙ h.number

  pub defined-is : (at : Place) (seen : Seen) → defined at t ms (record { table = J; seen = seen }) ≡ Gives t (record { table = with_members J t ms; seen = seen })
  unfolding defined
  defined-is at seen = rw (definable J t n ms h, le_true (defined_layout J t ms).size 1048576 defined_small) refl

  -- what has its members in the table is complete
  pub defined-finished : (all : List (List Name)) (names : List Name) → n < length all → is_empty names ≡ false
      → ((u : TypeId) (m : ℕ) → number_of_shape (shape_at J u) ≡ Some m → IsComplete J u → is_empty (members_named (naming all) m) ≡ false)
      → (u : TypeId) (m : ℕ) → number_of_shape (shape_at (with_members J t ms) u) ≡ Some m → IsComplete (with_members J t ms) u
      → is_empty (members_named (naming (slice_set all n names)) m) ≡ false
  defined-finished all names below some old u m number whole = elim (eqb_tells u.0 t.0) [
    | inl q ↦
        let same : u ≡ t = same_id u t q.1 in
        let numbers : n ≡ m = some-same n m (sym defined-number ∙ (ap (λ (v : TypeId). number_of_shape (shape_at (with_members J t ms) v)) (sym same) ∙ number)) in
        subst (λ (i : ℕ). is_empty (members_named (naming (slice_set all n names)) i) ≡ false) numbers (set-here all n names below some)
    | inr q ↦
        let other : entry_at (with_members J t ms) u ≡ entry_at J u = change.other u q.1 in
        set-still all m n names some
        (old u m (sym (ap (λ (e : Entry). number_of_shape e.shape) other) ∙ number) (sym (ap is_complete other) ∙ whole))
  ]

-- the state after it
abbrev pub finished : TypeId → List TypeId → ℕ → List Name → State → State
finished t ms n names s = record {
  table = with_members s.table t ms;
  seen = with_scopes s.seen (record s.seen.scopes { members = slice_set s.seen.scopes.members n names });
}

pub completed-is : (at : Place) (members : TypedMembers) (t : TypeId) (n : ℕ) (s : State)
    → defined at t (member_types members) s ≡ Gives t (record s { table = with_members s.table t (member_types members) })
    → number_of_shape (shape_at (with_members s.table t (member_types members)) t) ≡ Some n
    → completed at members (Some t) s ≡ Gives t (finished t (member_types members) n (member_names members) s)
unfolding completed
completed-is at members t n s h number =
    let k : State = record s { table = with_members s.table t (member_types members) } in
    then-is (defined at t (member_types members))
    (λ u. by_known (λ (q : State). in_scopes (completing (number_of_shape (shape_at q.table u)) (member_names members)) u)) t s k
    (Gives t (finished t (member_types members) n (member_names members) s)) h
    (ap (λ (o : Option ℕ). in_scopes (completing o (member_names members)) t k) number)
