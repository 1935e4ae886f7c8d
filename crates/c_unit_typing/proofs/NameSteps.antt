-- What is known after a name is declared.
use Rattle.std.proofs.Common.{◌≡◌, ℕ, ◌+◌, ◌≤◌, ◌==◌, nat_le, Bool, true, false, ◌||◌, List, [], ◌∷◌, ◌++◌, Option, Some, None, refl, ap, sym, subst, ◌∙◌, bytes_eq, if◌then◌else◌, arith}
use Rattle.std.specs.List.{All, list_any}
use Rattle.std.proofs.lemmas.Bool.Decides.{nat_tests}
use Rattle.std.proofs.lemmas.List.Elements.{All-head, All-tail, All-push}
use Rattle.std.proofs.lemmas.Option.{none-some}
use Rattle.std.proofs.lemmas.Slice.Eq.{bytes_eq-Decides}
use Rattle.cc_base.specs.declared.place.Place.{Place}
use Rattle.cc_base.specs.declared.number.NodeId.{NodeId}
use Rattle.cc_base.specs.declared.number.TypeId.{TypeId}
use Rattle.cc_base.specs.declared.fault.Fault.TheVariants.{TooLarge}
use Rattle.cc_base.specs.declared.fault.Limit.TheVariants.{Types, Globals}
use Rattle.c_types.specs.Table.{Table}
use Rattle.c_tree.specs.declared.leaf.Identifier.{Identifier}
use Rattle.c_typing.specs.declared.declared.Declared.{Declared}
use Rattle.c_typing.specs.Assignments.{count_global}
use Rattle.c_typing.specs.Judging as judging
use Rattle.c_typing.specs.Judging.{State}
use Rattle.c_typing.specs.Scopes as scopes
use Rattle.c_typing.specs.Scopes.{Name, Level, Scopes, here, innermost, entry_of, empty_level, declaring}
use Rattle.c_typing.specs.Settled.{IsThere, IsLevelThere, IsKnown}
use Rattle.c_typing_laws.proofs.ExtensionLaws.{extended_refl}
use Rattle.c_typing_laws.proofs.KnownScopes.{empty-there, declared-there}
use Rattle.c_typing_laws.proofs.Outcomes
use Rattle.c_unit_typing.specs.DeclarationJudging.{complete_size, new_in, new_name, linked_name, count_object, lasting, new_static}
use Rattle.c_unit_typing.specs.Initialisers.{is_among, with_home}
use Rattle.c_unit_typing.specs.Linkage.{with_name}
use Rattle.c_unit_typing.specs.Units.{is_one_of, unless_here, unless_linked}
use Rattle.c_unit_typing.specs.UnitJudged.{state_of, IsLinkedKnown, IsUnitKnown, UnitGoesOn}
use Rattle.c_unit_typing.specs.UnitJudging.{UnitState, Gives, known}
use Rattle.c_unit_typing.proofs.UnitOutcomes.{never-gives, bind-gives, gives-state, lifted-gives}
use Rattle.c_unit_typing.proofs.UnitStates.{all-linked_known, linkage-stays}

-- Entries

pub some-same : {A : Type 0} (a b : A) → Some a ≡ Some b → a ≡ b
some-same a b h = cc

entry_by : {A : Type 0} (P : A → Type 0) (x : A) (rest : Option A) (what : A) (b : Bool) → P x → (rest ≡ Some what → P what)
    → (if b then Some x else rest) ≡ Some what → P what
entry_by P x rest what true own more p = subst P (some-same x what p) own
entry_by P x rest what false own more p = more p

pub entry-there : {A : Type 0} (P : A → Type 0) (es : List (Name × A)) → All (λ (e : Name × A). P e.1) es → (name : Name) (what : A)
    → entry_of es name ≡ Some what → P what
entry-there P [] h name what q = absurd (none-some what q)
entry-there {A = A} P (e ∷ es) h name what q =
    entry_by P e.1 (entry_of es name) what (bytes_eq name e.0) (All-head (λ (d : Name × A). P d.1) e es h)
    (λ p. entry-there P es (All-tail (λ (d : Name × A). P d.1) e es h) name what p) q

innermost_there : (T : Table) (ls : List Level) → All (IsLevelThere T) ls → IsLevelThere T (innermost ls)
innermost_there T [] h = empty-there T
innermost_there T (l ∷ []) h = All-head (IsLevelThere T) l [] h
innermost_there T (l ∷ (m ∷ ls)) h = innermost_there T (m ∷ ls) (All-tail (IsLevelThere T) l (m ∷ ls) h)

-- the type of what the innermost scope declares is in the table
pub here-there : (s : UnitState) → IsUnitKnown s → (name : Name) (what : Declared) → here s.seen.scopes.levels name ≡ Some what → IsThere s.table what
here-there s k name what q =
    entry-there (IsThere s.table) (innermost s.seen.scopes.levels).names (innermost_there s.table s.seen.scopes.levels k.known.levels).names name what q

pub linked-there : (s : UnitState) → IsUnitKnown s → (name : Name) (what : Declared) → entry_of s.linkage.linked name ≡ Some what → IsLinkedKnown s what
linked-there s k name what q = entry-there (IsLinkedKnown s) s.linkage.linked k.linked name what q

either_entry : {A : Type 0} (b : Bool) (x : A) (o p : Option A) (what : A) → (o ≡ Some what → p ≡ Some what) → (if b then Some x else o) ≡ Some what
    → (if b then Some x else p) ≡ Some what
either_entry true x o p what f h = h
either_entry false x o p what f h = f h

neither_entry : {A : Type 0} (b : Bool) (x : A) (o p : Option A) (what : A) → (o ≡ None → p ≡ Some what) → (if b then Some x else o) ≡ None
    → (if b then Some x else p) ≡ Some what
neither_entry true x o p what f h = absurd (none-some x (sym h))
neither_entry false x o p what f h = f h

pub entry-added : {A : Type 0} (es : List (Name × A)) (k name : Name) (v what : A) → entry_of es name ≡ Some what → entry_of (es ++ (k, v) ∷ []) name ≡ Some what
entry-added [] k name v what h = absurd (none-some what h)
entry-added {A = A} (e ∷ es) k name v what h =
    either_entry (bytes_eq name e.0) e.1 (entry_of es name) (entry_of (es ++ (k, v) ∷ []) name) what (entry-added es k name v what) h

pub entry-own : {A : Type 0} (es : List (Name × A)) (name : Name) (v : A) → entry_of es name ≡ None → entry_of (es ++ (name, v) ∷ []) name ≡ Some v
entry-own [] name v h = ap (λ (b : Bool). if b then Some v else None) ((bytes_eq-Decides name name).1 refl)
entry-own {A = A} (e ∷ es) name v h =
    neither_entry (bytes_eq name e.0) e.1 (entry_of es name) (entry_of (es ++ (name, v) ∷ []) name) v (entry-own es name v) h

or_more : (a b c : Bool) → (b ≡ true → c ≡ true) → (a || b) ≡ true → (a || c) ≡ true
or_more true b c f h = refl
or_more false b c f h = f h

any_added : {A : Type 0} (test : A → Bool) (xs : List A) (y : A) → list_any test xs ≡ true → list_any test (xs ++ y ∷ []) ≡ true
any_added test [] y h = absurd (let e : false ≡ true = h in cc)
any_added test (x ∷ xs) y h = or_more (test x) (list_any test xs) (list_any test (xs ++ y ∷ [])) (any_added test xs y) h

or_true : (a b : Bool) → b ≡ true → (a || b) ≡ true
or_true true b h = refl
or_true false b h = h

any_last : {A : Type 0} (test : A → Bool) (xs : List A) (y : A) → test y ≡ true → list_any test (xs ++ y ∷ []) ≡ true
any_last test [] y h = ap (λ (b : Bool). b || false) h
any_last test (x ∷ xs) y h = or_true (test x) (list_any test (xs ++ y ∷ [])) (any_last test xs y h)

self_number : (n : ℕ) → (n == n) ≡ true
self_number n = grind (arith, nat_tests)

pub home-kept : (homes : List NodeId) (n m : NodeId) → is_among homes m ≡ true → is_among (with_home n homes) m ≡ true
home-kept homes n m h = by (is_among homes n)
  where
    by : (b : Bool) → is_among (if b then homes else homes ++ n ∷ []) m ≡ true
    by true = h
    by false = any_added (λ (each : NodeId). each.0 == m.0) homes n h

pub home-own : (homes : List NodeId) (n : NodeId) → is_among (with_home n homes) n ≡ true
home-own homes n = by (is_among homes n) refl
  where
    by : (b : Bool) → is_among homes n ≡ b → is_among (if b then homes else homes ++ n ∷ []) n ≡ true
    by true h = h
    by false h = any_last (λ (each : NodeId). each.0 == n.0) homes n (self_number n.0)

pub name-kept : (names : List Name) (k name : Name) → is_one_of names name ≡ true → is_one_of (with_name k names) name ≡ true
name-kept names k name h = by (is_one_of names k)
  where
    by : (b : Bool) → is_one_of (if b then names else names ++ k ∷ []) name ≡ true
    by true = h
    by false = any_added (λ each. bytes_eq name each) names k h

pub name-own : (names : List Name) (name : Name) → is_one_of (with_name name names) name ≡ true
name-own names name = by (is_one_of names name) refl
  where
    by : (b : Bool) → is_one_of names name ≡ b → is_one_of (if b then names else names ++ name ∷ []) name ≡ true
    by true h = h
    by false h = any_last (λ each. bytes_eq name each) names name ((bytes_eq-Decides name name).1 refl)

-- States

abbrev pub named_state : UnitState → Name → Declared → UnitState
named_state s name what = record s { seen = scopes.with_scopes s.seen (declaring name what s.seen.scopes) }

abbrev pub linked_state : UnitState → Name → Declared → UnitState
linked_state s name what = record s {
  seen = scopes.with_scopes s.seen (unless_here (here s.seen.scopes.levels name) name what s.seen.scopes);
  linkage = record s.linkage { linked = unless_linked (entry_of s.linkage.linked name) name what s.linkage.linked };
}

abbrev pub static_state : UnitState → ℕ → NodeId → UnitState
static_state s globals n = record s { seen = record s.seen { globals = globals }; linkage = record s.linkage { statics = with_home n s.linkage.statics } }

declared_known : (T : Table) (name : Name) (what : Declared) (s : UnitState) → IsKnown (state_of s) → IsThere s.table what
    → IsKnown (state_of (named_state s name what))
declared_known T name what s k h = record {
  basic = k.basic;
  followed = k.followed;
  levels = declared-there s.table name what s.seen.scopes.levels h k.levels;
  numbered = record { closed = k.numbered.closed; given = k.numbered.given; own = k.numbered.own };
}

stays_below : (n : ℕ) → n ≤ n
stays_below n = omega arith

pub named-goes : (name : Name) (what : Declared) (s : UnitState) → IsUnitKnown s → IsThere s.table what → UnitGoesOn s (named_state s name what)
named-goes name what s k h =
    linkage-stays s (named_state s name what) k (record { extends = extended_refl s.table; known = declared_known s.table name what s k.known h }) refl (stays_below s.seen.node)

unless_known : (o : Option Declared) (name : Name) (what : Declared) (s : UnitState) → IsKnown (state_of s) → IsThere s.table what
    → IsKnown (judging.known s.table (scopes.with_scopes s.seen (unless_here o name what s.seen.scopes)))
unless_known None name what s k h = declared_known s.table name what s k h
unless_known (Some first) name what s k h = record { basic = k.basic; followed = k.followed; levels = k.levels; numbered = k.numbered }

unless_all : (P : Declared → Type 0) (o : Option Declared) (name : Name) (what : Declared) (all : List (Name × Declared)) → P what → All (λ (e : Name × Declared). P e.1) all
    → All (λ (e : Name × Declared). P e.1) (unless_linked o name what all)
unless_all P None name what all own h = All-push (λ (e : Name × Declared). P e.1) all (name, what) h own
unless_all P (Some first) name what all own h = h

unless_entry : (o : Option Declared) (k name : Name) (v what : Declared) (all : List (Name × Declared)) → entry_of all name ≡ Some what
    → entry_of (unless_linked o k v all) name ≡ Some what
unless_entry None k name v what all h = entry-added all k name v what h
unless_entry (Some first) k name v what all h = h

pub linked-goes : (name : Name) (what : Declared) (s : UnitState) → IsUnitKnown s → IsLinkedKnown s what → UnitGoesOn s (linked_state s name what)
linked-goes name what s k h =
    let r : UnitState = linked_state s name what in
    let same = all-linked_known s r (unless_linked (entry_of s.linkage.linked name) name what s.linkage.linked) (extended_refl s.table) (stays_below s.seen.node) (λ n q. q)
    (unless_all (IsLinkedKnown s) (entry_of s.linkage.linked name) name what s.linkage.linked h k.linked) in
    let all_known = unless_known (here s.seen.scopes.levels name) name what s k.known h.0 in
    record {
      goes = record { extends = extended_refl s.table; known = all_known };
      known = record { known = all_known; linked = same };
      linked = λ other v q. unless_entry (entry_of s.linkage.linked name) name other what v s.linkage.linked q;
      defined = λ other q. q;
    }

-- what is linked first is found again
pub linked-found : (name : Name) (what : Declared) (all : List (Name × Declared)) (o : Option Declared) → entry_of all name ≡ o → (first : Declared) × (entry_of (unless_linked o name what all) name ≡ Some first)
linked-found name what all None h = (what, entry-own all name what h)
linked-found name what all (Some first) h = (first, h)

pub static-goes : (globals : ℕ) (n : NodeId) (s : UnitState) → IsUnitKnown s → UnitGoesOn s (static_state s globals n)
static-goes globals n s k =
    let r : UnitState = static_state s globals n in
    let all_known : IsKnown (state_of r) = record { basic = k.known.basic; followed = k.known.followed; levels = k.known.levels; numbered = k.known.numbered } in
    record {
      goes = record { extends = extended_refl s.table; known = all_known };
      known = record {
        known = all_known;
        linked = all-linked_known s r s.linkage.linked (extended_refl s.table) (stays_below s.seen.node) (home-kept s.linkage.statics n) k.linked;
      };
      linked = λ name what q. q;
      defined = λ name q. q;
    }

-- Judging

pub new-name-gives : (name : Identifier) (what b : Declared) (s r : UnitState) → new_name name what s ≡ Gives b r
    → (here s.seen.scopes.levels name.bytes ≡ None) × (r ≡ named_state s name.bytes what)
unfolding new_name
new-name-gives name what b s r h = by (here s.seen.scopes.levels name.bytes) h
  where
    by : (o : Option Declared) → new_in name what o s ≡ Gives b r → (o ≡ None) × (r ≡ named_state s name.bytes what)
    by None g = (refl, sym (gives-state what b (named_state s name.bytes what) r g))
    by (Some other) g = never-gives b (TooLarge name.place Types) s r g

pub linked-name-gives : (name : Identifier) (what b : Declared) (s r : UnitState) → linked_name name what s ≡ Gives b r → r ≡ linked_state s name.bytes what
unfolding linked_name
linked-name-gives name what b s r h = sym (gives-state what b (linked_state s name.bytes what) r h)

global-gives : (at : Place) (bytes n : ℕ) (s r : State) → count_global at bytes s ≡ judging.Gives n r → (g : ℕ) × (r ≡ record s { seen = record s.seen { globals = g } })
unfolding count_global
global-gives at bytes n s r h = by (nat_le (s.seen.globals + (bytes + 16)) 4194304) h
  where
    after : State
    after = record s { seen = record s.seen { globals = s.seen.globals + (bytes + 16) } }

    by : (b : Bool) → (if b then judging.Gives bytes (record s { seen = record s.seen { globals = s.seen.globals + (bytes + 16) } }) else judging.Stops (TooLarge at Globals) s) ≡ judging.Gives n r
        → (g : ℕ) × (r ≡ record s { seen = record s.seen { globals = g } })
    by true g = (s.seen.globals + (bytes + 16), sym (Outcomes.gives-state bytes n after r g))
    by false g = Outcomes.never-gives n (TooLarge at Globals) s r g

counted-gives : (at : Place) (o : Option ℕ) (n : ℕ) (s r : UnitState) → count_object at o s ≡ Gives n r → (g : ℕ) × (r ≡ record s { seen = record s.seen { globals = g } })
unfolding count_object
counted-gives at None n s r h = never-gives n (TooLarge at Types) s r h
counted-gives at (Some bytes) n s r h =
    let l = lifted-gives (count_global at bytes) n s r h in
    let c = global-gives at bytes n (state_of s) (state_of r) l.0 in
    let state = c.1 in
    let links = l.1 in
    (c.0, λ i. known (state i).table (state i).seen (links i))

pub static-gives : (name : Identifier) (n m : NodeId) (t : TypeId) (s r : UnitState) → new_static name n t s ≡ Gives m r → (g : ℕ) × (r ≡ static_state s g n)
unfolding new_static lasting
static-gives name n m t s r h =
    let one = bind-gives (count_object name.place (complete_size s.table t) s) (λ bytes. lasting n) m r h in
    let c = counted-gives name.place (complete_size s.table t) one.0 s one.1 one.2 in (
      c.0,
      sym (gives-state n m (record one.1 { linkage = record one.1.linkage { statics = with_home n one.1.linkage.statics } }) r one.3)
          ∙ ap (λ (q : UnitState). record q { linkage = record q.linkage { statics = with_home n q.linkage.statics } }) c.1,
    )
