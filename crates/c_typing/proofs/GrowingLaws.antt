-- Each change of what is known that the code makes is one by which it grows.
use Rattle.std.proofs.Common.{◌≡◌, ◌<◌, ◌+◌, ℕ, ℤ, Bool, true, false, nat_lt, nat_le, List, [], ◌∷◌, ◌++◌, length, Option, Some, None, Result, Ok, Err, OnOk, OnErr, refl, ap, sym, subst, ◌∙◌, inl, inr, true≢false, if◌then◌else◌, slice_set, arith}
use Rattle.std.proofs.lemmas.Bool.Decides.{leb_tells, eqb_tells, nat_tests}
use Rattle.std.proofs.lemmas.Grind.{get_or-set_at}
use Rattle.std.proofs.lemmas.List.{get_or_past, get_or_append_left, get_or-set_other, length-append, length-set}
use Rattle.cc_base.specs.declared.fault.Fault.TheVariants.{TooLarge}
use Rattle.cc_base.specs.declared.fault.Limit.TheVariants.{Types, Object}
use Rattle.cc_base.specs.declared.number.NodeId.{NodeId}
use Rattle.cc_base.specs.declared.number.TypeId.{TypeId}
use Rattle.cc_base.specs.declared.place.Place.{Place}
use Rattle.c_types.specs.declared.shape.TypeShape.{TypeShape}
use Rattle.c_types.specs.Calls.{basic_entry, new_layout, with_members}
use Rattle.c_types.specs.Table.{Table, Entry, IsType, entry_at, shape_at, is_complete, void_entry}
use Rattle.c_typing.specs.declared.declared.Declared.TheVariants as declared
use Rattle.c_typing.specs.declared.declared.Tag.{Tag}
use Rattle.c_typing.specs.Declaring.{once_left}
use Rattle.c_typing.specs.Growing.{AreStillOpen, Gained, HasMoreTypes, HasGrown, Grows, GrowsAny}
use Rattle.c_typing.specs.Judging.{State, Outcome, Gives, Stops, known, type_among, there_or_added, type_with}
use Rattle.c_typing.specs.Scopes.{Name, Scopes, Seen, with_scopes, declaring, declaring_tag, setting_tag, entering, leaving}
use Rattle.c_typing.specs.Typing.{counting_aggregate}
use Rattle.c_typing.proofs.OpenScopes.{both-open, still-open, declaring-open, declaring_tag-open, setting_tag-open, left-open, entered-many}

-- Counts

pub node-grown : (any : Bool) (first : State) (table : Table) (a : Seen) → HasGrown any first (known table a)
    → HasGrown any first (known table (record a { node = a.node + 1 }))
node-grown any first table a h =
    record { scopes = h.scopes; types = h.types; node = let n = h.node in omega (arith, n); globals = h.globals; cells = h.cells }

pub globals-grown : (any : Bool) (first : State) (table : Table) (a : Seen) (n : ℕ) → HasGrown any first (known table a)
    → HasGrown any first (known table (record a { globals = a.globals + n }))
globals-grown any first table a n h =
    record { scopes = h.scopes; types = h.types; node = h.node; globals = let g = h.globals in omega (arith, g); cells = h.cells }

pub cells-grown : (any : Bool) (first : State) (table : Table) (a : Seen) (n : ℕ) → HasGrown any first (known table a)
    → HasGrown any first (known table (record a { cells = a.cells + n }))
cells-grown any first table a n h =
    record { scopes = h.scopes; types = h.types; node = h.node; globals = h.globals; cells = let c = h.cells in omega (arith, c) }

-- Scopes

scopes_grown : (any : Bool) (first : State) (table : Table) (a : Seen) (c : Scopes) → AreStillOpen any a.scopes c → HasGrown any first (known table a)
    → HasGrown any first (known table (with_scopes a c))
scopes_grown any first table a c open_ h =
    record { scopes = both-open any first.seen.scopes a.scopes c h.scopes open_; types = h.types; node = h.node; globals = h.globals; cells = h.cells }

pub members-grown : (any : Bool) (first : State) (table : Table) (a : Seen) (number : ℕ) (names : List Name) → HasGrown any first (known table a)
    → HasGrown any first (known table (with_scopes a (record a.scopes { members = slice_set a.scopes.members number names })))
members-grown any first table a number names =
    scopes_grown any first table a (_) (still-open any a.scopes (record a.scopes { members = slice_set a.scopes.members number names }) refl refl
    (let l = length-set a.scopes.members number names in omega (arith, l)))

-- what grows in one step
pub ruleset grown = (node-grown, globals-grown, cells-grown, members-grown)

-- The same where others follow: `a` is what a scope holds before a change, `r` what it holds after it

pub node-grows : (table : Table) (a r : Seen) → r ≡ record a { node = a.node + 1 } → Grows (known table a) (known table r)
node-grows table a r e any first h = subst (λ (x : Seen). HasGrown any first (known table x)) (sym e) (node-grown any first table a h)

module _ (table : Table) (a r : Seen) where
  changed : (c : Scopes) → ((any : Bool) → AreStillOpen any a.scopes c) → r ≡ with_scopes a c → Grows (known table a) (known table r)
  changed c open_ e any first h = subst (λ (x : Seen). HasGrown any first (known table x)) (sym e) (scopes_grown any first table a c (open_ any) h)

  pub aggregate-grows : r ≡ with_scopes a (counting_aggregate a.scopes) → Grows (known table a) (known table r)
  aggregate-grows =
      changed (counting_aggregate a.scopes)
      (λ any. still-open any a.scopes (counting_aggregate a.scopes) refl refl (let l = length-append a.scopes.members ([] ∷ []) in omega (arith, l)))

  pub tag-grows : (name : Name) (what : Tag) → r ≡ with_scopes a (declaring_tag name what a.scopes) → Grows (known table a) (known table r)
  tag-grows name what = changed (declaring_tag name what a.scopes) (λ any. declaring_tag-open any name what a.scopes)

  pub set_tag-grows : (name : Name) (what : Tag) → r ≡ with_scopes a (setting_tag name what a.scopes) → Grows (known table a) (known table r)
  set_tag-grows name what = changed (setting_tag name what a.scopes) (λ any. setting_tag-open any name what a.scopes)

  gained : (any : Bool) (z : ℤ) → Gained any (declared.Enumerator z)
  gained true z = tt
  gained false z = tt

  pub enumerator-grows : (name : Name) (z : ℤ) → r ≡ with_scopes a (declaring name (declared.Enumerator z) a.scopes) → Grows (known table a) (known table r)
  enumerator-grows name z =
      changed (declaring name (declared.Enumerator z) a.scopes) (λ any. declaring-open any name (declared.Enumerator z) (gained any z) a.scopes)

  pub object-grows : (name : Name) (t : TypeId) (n : NodeId) → r ≡ with_scopes a (declaring name (declared.Object t n) a.scopes)
      → GrowsAny (known table a) (known table r)
  object-grows name t n e first h =
      subst (λ (x : Seen). HasGrown true first (known table x)) (sym e)
      (scopes_grown true first table a (_) (declaring-open true name (declared.Object t n) tt a.scopes) h)

-- where a change is made, or what there was is left
pub either-grows : (A E : Type 0) (result : Result A E) (table : Table) (a b c : Seen) → OnOk result (b ≡ c) → OnErr result (b ≡ a)
    → Grows (known table a) (known table c) → Grows (known table a) (known table b)
either-grows A E (Ok x) table a b c made left g any first h = subst (λ (y : Seen). HasGrown any first (known table y)) (sym made) (g any first h)
either-grows A E (Err e) table a b c made left g any first h = subst (λ (y : Seen). HasGrown any first (known table y)) (sym left) h

-- Types

more_both : (T U V : Table) → HasMoreTypes T U → HasMoreTypes U V → HasMoreTypes T V
more_both T U V g h = record {
  longer = let a = g.longer in let b = h.longer in omega (arith, a, b);
  shapes = λ t is. h.shapes t (let a = g.longer in omega (arith, a, is)) ∙ g.shapes t is;
  complete = λ t is. h.complete t (ap is_complete (g.complete t is) ∙ is) ∙ g.complete t is;
}

added_more : (T : Table) (e : Entry) → HasMoreTypes T (T ++ e ∷ [])
added_more T e = record {
  longer = let l = length-append T (e ∷ []) in omega (arith, l);
  shapes = λ t is. ap (λ (d : Entry). d.shape) (get_or_append_left T (e ∷ []) void_entry t.0 is);
  complete = λ t is. elim (leb_tells (length T) t.0) [
    | inl past ↦ absurd (true≢false (sym is ∙ ap is_complete (get_or_past T t.0 void_entry past.1)))
    | inr below ↦ get_or_append_left T (e ∷ []) void_entry t.0 below.1
  ];
}

pub types-grown : (any : Bool) (first : State) (table later : Table) (seen : Seen)
    → HasMoreTypes table later → HasGrown any first (known table seen) → HasGrown any first (known later seen)
types-grown any first table later seen more h =
    record { scopes = h.scopes; types = more_both first.table table later h.types more; node = h.node; globals = h.globals; cells = h.cells }

state_in : {A : Type 0} → Outcome A → State
state_in (Gives a s) = s
state_in (Stops f s) = s

outcome_grows : (at : Place) (x : TypeShape) (s : State) (o : Option TypeId) (any : Bool) (first : State) → HasGrown any first s
    → HasGrown any first (state_in (there_or_added at x s o))
unfolding state_in
outcome_grows at x s (Some t) any first h = h
outcome_grows at x s None any first h = by (nat_lt (length s.table) 16384) (nat_le (new_layout s.table x).size 1048576)
  where
    by : (room small : Bool)
        → HasGrown any first (state_in {A = TypeId} (if room then (if small then Gives (record { 0 = length s.table }) (record s { table = s.table ++ basic_entry x ∷ [] })
        else Stops (TooLarge at Object) s) else Stops (TooLarge at Types) s))
    by true true = types-grown any first s.table (s.table ++ basic_entry x ∷ []) s.seen (added_more s.table (basic_entry x)) h
    by true false = h
    by false small = h

-- a type with a shape
pub type_with-grows : (at : Place) (x : TypeShape) (t : TypeId) (s r : State) → type_with at x s ≡ Gives t r → Grows s r
unfolding type_with state_in
type_with-grows at x t s r h any first k =
    subst (λ (q : State). HasGrown any first q) (ap state_in h) (outcome_grows at x s (type_among 0 s.table x) any first k)

-- members of a type that has none
pub defined-more : (T : Table) (t : TypeId) (members : List TypeId) → IsType T t → is_complete (entry_at T t) ≡ false
    → HasMoreTypes T (with_members T t members)
defined-more T t members there none = record {
  longer = let l = length-set T t.0 (record { shape = shape_at T t; members = members }) in omega (arith, l);
  shapes = λ u is. elim (eqb_tells u.0 t.0) [
    | inl q ↦ ap (λ (e : Entry). e.shape) (get_or-set_at T t.0 u.0 (record { shape = shape_at T t; members = members }) void_entry q.1 there)
        ∙ ap (λ (n : ℕ). shape_at T (record { 0 = n })) (sym q.1)
    | inr n ↦ ap (λ (e : Entry). e.shape) (get_or-set_other T t.0 u.0 (record { shape = shape_at T t; members = members }) void_entry n.1)
  ];
  complete = λ u is. elim (eqb_tells u.0 t.0) [
    | inl q ↦ absurd (true≢false (sym is ∙ (ap (λ (n : ℕ). is_complete (entry_at T (record { 0 = n }))) q.1 ∙ none)))
    | inr n ↦ get_or-set_other T t.0 u.0 (record { shape = shape_at T t; members = members }) void_entry n.1
  ];
}

-- Scopes of their own

pub grown-same : (any : Bool) (s : State) → HasGrown any s s
grown-same any s = record {
  scopes = still-open any s.seen.scopes s.seen.scopes refl refl (omega arith);
  types = record { longer = omega arith; shapes = λ t is. refl; complete = λ t is. refl };
  node = omega arith;
  globals = omega arith;
  cells = omega arith;
}

abbrev inside : Table → Seen → State
inside T a = known T (with_scopes a (entering a.scopes))

-- what was judged in a scope of its own has left it
left-grown : (any : Bool) (first : State) (T U : Table) (a q : Seen) → GrowsAny (inside T a) (known U q) → HasGrown any first (known T a)
    → HasGrown any first (known U (with_scopes q (leaving q.scopes)))
left-grown any first T U a q g h =
    let k = g (inside T a) (grown-same true (inside T a)) in
    let same = still-open any a.scopes (leaving q.scopes) (left-open true a.scopes q.scopes k.scopes) k.scopes.defined k.scopes.aggregates in
    record {
      scopes = both-open any first.seen.scopes a.scopes (leaving q.scopes) h.scopes same;
      types = more_both first.table T U h.types k.types;
      node = let b = h.node in let c = k.node in omega (arith, b, c);
      globals = let b = h.globals in let c = k.globals in omega (arith, b, c);
      cells = let b = h.cells in let c = k.cells in omega (arith, b, c);
    }

-- the scope that was entered is not the file's
deep : (T U : Table) (a q : Seen) → 0 < length a.scopes.levels → GrowsAny (inside T a) (known U q) → nat_lt 1 (length q.scopes.levels) ≡ true
deep T U a q some g = entered-many true a.scopes q.scopes some (g (inside T a) (grown-same true (inside T a))).scopes

-- so it has where it stopped
stopped-grown : (any : Bool) (first : State) (T : Table) (a : Seen) (q : State) → 0 < length a.scopes.levels → GrowsAny (inside T a) q
    → HasGrown any first (known T a) → HasGrown any first (once_left q)
stopped-grown any first T a q some g h = by (nat_lt 1 (length q.seen.scopes.levels)) (deep T q.table a q.seen some g)
  where
    by : (b : Bool) → b ≡ true → HasGrown any first (if b then record q { seen = with_scopes q.seen (leaving q.seen.scopes) } else q)
    by true e = left-grown any first T q.table a q.seen g h
    by false e = absurd (true≢false (sym e))

-- the same by the scopes of the code: `e` is what was entered, `r` what is left
pub left-behind : (any : Bool) (first : State) (T U : Table) (a e q r : Seen) → e ≡ with_scopes a (entering a.scopes)
    → GrowsAny (known T e) (known U q) → r ≡ with_scopes q (leaving q.scopes) → HasGrown any first (known T a) → HasGrown any first (known U r)
left-behind any first T U a e q r entered g left h =
    subst (λ (x : Seen). HasGrown any first (known U x)) (sym left)
    (left-grown any first T U a q (subst (λ (x : Seen). GrowsAny (known T x) (known U q)) entered g) h)

pub stopped-behind : (any : Bool) (first : State) (T U : Table) (a e r : Seen) (q : State) → 0 < length a.scopes.levels
    → e ≡ with_scopes a (entering a.scopes) → GrowsAny (known T e) q → known U r ≡ once_left q → HasGrown any first (known T a) → HasGrown any first (known U r)
stopped-behind any first T U a e r q some entered grew left h =
    subst (λ (x : State). HasGrown any first x) (sym left) (stopped-grown any first T a q some (subst (λ (x : Seen). GrowsAny (known T x) q) entered grew) h)

pub deep-inside : (T U : Table) (a e q : Seen) → 0 < length a.scopes.levels → e ≡ with_scopes a (entering a.scopes)
    → GrowsAny (known T e) (known U q) → 1 < length q.scopes.levels
deep-inside T U a e q some entered g =
    let many = deep T U a q some (subst (λ (x : Seen). GrowsAny (known T x) (known U q)) entered g) in grind (arith, nat_tests, many)
