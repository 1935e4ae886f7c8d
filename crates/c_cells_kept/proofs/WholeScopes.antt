-- Objects that are declared are of complete types: where scopes change, and where a struct or union gets its members.
use Rattle.std.proofs.Common.{◌≡◌, ℕ, ◌<◌, true, not, ◌&&◌, List, [], ◌∷◌, length, Option, Some, None, refl, subst, nat_lt, nat_le, arith}
use Rattle.std.specs.List.{All, list_all}
use Rattle.std.proofs.lemmas.List.Elements.{All-nil, All-cons, All-head, All-tail, All-push}
use Rattle.cc_base.specs.declared.number.NodeId.{NodeId}
use Rattle.cc_base.specs.declared.number.TypeId.{TypeId}
use Rattle.c_types.specs.Calls.{with_members, defined_layout}
use Rattle.c_types.specs.Table.{Table, IsComplete, entry_at, shape_at, members_at, is_aggregate_shape, is_complete, is_empty}
use Rattle.c_tree.specs.declared.leaf.Identifier.{Identifier}
use Rattle.c_typing.specs.Judging.{State}
use Rattle.c_typing.specs.Scopes.{Name, Level, Scopes, empty_level, at_innermost, without_innermost, with_name, with_tag, with_tag_set, with_scopes, declaring, entering, leaving}
use Rattle.c_typing.specs.Specifying.{is_definable, completing}
use Rattle.c_typing.specs.Typing.{tagging, tag_named_here, enumerating, enumerated, counting_aggregate}
use Rattle.c_typing.specs.declared.declared.Declared.{Declared}
use Rattle.c_typing.specs.declared.declared.Declared.TheVariants as declared
use Rattle.c_typing.specs.declared.declared.Tag.{Tag}
use Rattle.c_typing.specs.declared.declared.Tag.TheVariants as tag
use Rattle.c_typing_laws.proofs.ExtensionLaws.{no_true, and_left, and_right}
use Rattle.c_typing_laws.proofs.KnownMembers.{grown, defined-basic}
use Rattle.c_cells_kept.specs.Counted.{IsObjectWhole, IsLevelWhole, AreWhole, Stays}
use Rattle.c_cells_kept.proofs.CellsMoved.{lt_from, le_from, whole-later}

-- Scopes

changed_whole : (T : Table) (f : Level → Level) → ((l : Level) → IsLevelWhole T l → IsLevelWhole T (f l)) → (ls : List Level) → AreWhole T ls → AreWhole T (at_innermost f ls)
changed_whole T f more [] h = h
changed_whole T f more (l ∷ []) h = All-cons (IsLevelWhole T) (f l) [] (more l (All-head (IsLevelWhole T) l [] h)) (All-nil (IsLevelWhole T))
changed_whole T f more (l ∷ (m ∷ ls)) h =
    All-cons (IsLevelWhole T) l (at_innermost f (m ∷ ls)) (All-head (IsLevelWhole T) l (m ∷ ls) h)
    (changed_whole T f more (m ∷ ls) (All-tail (IsLevelWhole T) l (m ∷ ls) h))

pub declared-whole : (T : Table) (name : Name) (what : Declared) (ls : List Level) → IsObjectWhole T what → AreWhole T ls → AreWhole T (at_innermost (with_name name what) ls)
declared-whole T name what ls c h =
    changed_whole T (with_name name what)
    (λ l own. record { names = All-push (λ (e : Name × Declared). IsObjectWhole T e.1) l.names (name, what) own.names c }) ls h

tagging_whole : (T : Table) (name : Option Identifier) (what : Tag) (c : Scopes) → AreWhole T c.levels → AreWhole T (tagging name what c).levels
tagging_whole T None what c h = h
tagging_whole T (Some name) what c h = changed_whole T (with_tag name.bytes what) (λ l own. record { names = own.names }) c.levels h

empty_whole : (T : Table) → IsLevelWhole T empty_level
empty_whole T = record { names = All-nil (λ (e : Name × Declared). IsObjectWhole T e.1) }

left_whole : (T : Table) (ls : List Level) → AreWhole T ls → AreWhole T (without_innermost ls)
left_whole T [] h = h
left_whole T (l ∷ []) h = All-nil (IsLevelWhole T)
left_whole T (l ∷ (m ∷ ls)) h =
    All-cons (IsLevelWhole T) l (without_innermost (m ∷ ls)) (All-head (IsLevelWhole T) l (m ∷ ls) h) (left_whole T (m ∷ ls) (All-tail (IsLevelWhole T) l (m ∷ ls) h))

unless_found : Option Identifier → Scopes → Option Tag → Scopes
unless_found name s None = tagging name tag.Enumerating s
unless_found name s (Some found) = s

begun_whole : (T : Table) (name : Option Identifier) (c : Scopes) (o : Option Tag) → AreWhole T c.levels → AreWhole T (unless_found name c o).levels
unfolding unless_found
begun_whole T name c (Some found) h = h
begun_whole T name c None h = tagging_whole T name tag.Enumerating c h

enumerating_is : (name : Option Identifier) (c : Scopes) → unless_found name c (tag_named_here c name) ≡ enumerating name c
unfolding unless_found
enumerating_is name c = refl

enumerated_whole : (T : Table) (name : Option Identifier) (c : Scopes) → AreWhole T c.levels → AreWhole T (enumerated name c).levels
enumerated_whole T None c h = h
enumerated_whole T (Some name) c h = changed_whole T (with_tag_set name.bytes tag.Enumeration) (λ l own. record { names = own.names }) c.levels h

completing_whole : (T : Table) (o : Option ℕ) (names : List Name) (c : Scopes) → AreWhole T c.levels → AreWhole T (completing o names c).levels
completing_whole T None names c h = h
completing_whole T (Some number) names c h = h

-- Steps that change the scopes, from a state on

pub scoped : (d : Scopes) (n s : State) → (AreWhole s.table s.seen.scopes.levels → AreWhole s.table d.levels) → Stays n s → Stays n (record s { seen = with_scopes s.seen d })
scoped d n s more e ready = let a = e ready in (a.0, (a.1.0, more a.1.1), a.2)

pub tagging_stays : (name : Option Identifier) (what : Tag) (n s : State) → Stays n s
    → Stays n (record s { seen = with_scopes s.seen (tagging name what (counting_aggregate s.seen.scopes)) })
tagging_stays name what n s e =
    scoped (tagging name what (counting_aggregate s.seen.scopes)) n s (tagging_whole s.table name what (counting_aggregate s.seen.scopes)) e

pub completing_stays : (o : Option ℕ) (names : List Name) (n s : State) → Stays n s → Stays n (record s { seen = with_scopes s.seen (completing o names s.seen.scopes) })
completing_stays o names n s e = scoped (completing o names s.seen.scopes) n s (completing_whole s.table o names s.seen.scopes) e

pub entered_stays : (n s : State) → Stays n s → Stays n (record s { seen = with_scopes s.seen (entering s.seen.scopes) })
entered_stays n s e =
    scoped (entering s.seen.scopes) n s (λ h. All-push (IsLevelWhole s.table) s.seen.scopes.levels empty_level h (empty_whole s.table)) e

pub left_stays : (n s : State) → Stays n s → Stays n (record s { seen = with_scopes s.seen (leaving s.seen.scopes) })
left_stays n s e = scoped (leaving s.seen.scopes) n s (left_whole s.table s.seen.scopes.levels) e

pub enumerating_stays : (name : Option Identifier) (n s : State) → Stays n s → Stays n (record s { seen = with_scopes s.seen (enumerating name s.seen.scopes) })
enumerating_stays name n s e =
    subst (λ (d : Scopes). Stays n (record s { seen = with_scopes s.seen d })) (enumerating_is name s.seen.scopes)
    (scoped (unless_found name s.seen.scopes (tag_named_here s.seen.scopes name)) n s
    (begun_whole s.table name s.seen.scopes (tag_named_here s.seen.scopes name)) e)

pub enumerated_stays : (name : Option Identifier) (n s : State) → Stays n s → Stays n (record s { seen = with_scopes s.seen (enumerated name s.seen.scopes) })
enumerated_stays name n s e = scoped (enumerated name s.seen.scopes) n s (enumerated_whole s.table name s.seen.scopes) e

pub declared_stays : (name : Name) (t : TypeId) (home : NodeId) (n s : State) → IsComplete s.table t → Stays n s
    → Stays n (record s { seen = with_scopes s.seen (declaring name (declared.Object t home) s.seen.scopes) })
declared_stays name t home n s c e =
    scoped (declaring name (declared.Object t home) s.seen.scopes) n s (declared-whole s.table name (declared.Object t home) s.seen.scopes.levels c) e

pub constant_stays : (name : Name) (what : Declared) (n s : State) → IsObjectWhole s.table what → Stays n s
    → Stays n (record s { seen = with_scopes s.seen (declaring name what s.seen.scopes) })
constant_stays name what n s c e = scoped (declaring name what s.seen.scopes) n s (declared-whole s.table name what s.seen.scopes.levels c) e

-- Members

empty_is : (xs : List TypeId) → is_empty xs ≡ true → xs ≡ []
empty_is [] h = refl
empty_is (x ∷ xs) h = no_true h

some_in : (xs : List TypeId) → not (is_empty xs) ≡ true → 0 < length xs
some_in [] h = no_true h
some_in (x ∷ xs) h = omega arith

all_complete : (T : Table) (ms : List TypeId) → list_all (λ (m : TypeId). nat_lt m.0 (length T) && is_complete (entry_at T m)) ms ≡ true → All (IsComplete T) ms
all_complete T [] h = All-nil (IsComplete T)
all_complete T (m ∷ ms) h =
    let rest = list_all (λ (v : TypeId). nat_lt v.0 (length T) && is_complete (entry_at T v)) ms in
    All-cons (IsComplete T) m ms (and_right (nat_lt m.0 (length T)) (is_complete (entry_at T m)) (and_left (nat_lt m.0 (length T) && is_complete (entry_at T m)) rest h))
    (all_complete T ms (and_right (nat_lt m.0 (length T) && is_complete (entry_at T m)) rest h))

pub members_stay : (s : State) (t : TypeId) (ms : List TypeId) → is_definable s.table t ms ≡ true → nat_le (defined_layout s.table t ms).size 1048576 ≡ true
    → Stays s (record s { table = with_members s.table t ms })
members_stay s t ms p q ready =
    let T = s.table in
    let whole = list_all (λ (m : TypeId). nat_lt m.0 (length T) && is_complete (entry_at T m)) ms in
    let filled = not (is_empty ms) && whole in
    let unset = is_empty (members_at T t) && filled in
    let shaped = is_aggregate_shape (shape_at T t) && unset in
    let one = and_right (nat_lt t.0 (length T)) shaped p in
    let two = and_right (is_aggregate_shape (shape_at T t)) unset one in
    let three = and_right (is_empty (members_at T t)) filled two in
    let there = lt_from t.0 (length T) (and_left (nat_lt t.0 (length T)) shaped p) in
    let aggregate = and_left (is_aggregate_shape (shape_at T t)) unset one in
    let open_ = empty_is (members_at T t) (and_left (is_empty (members_at T t)) filled two) in
    let some = some_in ms (and_left (not (is_empty ms)) whole three) in
    let full = all_complete T ms (and_right (not (is_empty ms)) whole three) in
    let most = le_from (defined_layout T t ms).size 1048576 q in
    let grows = grown T t ms ready.0 there aggregate open_ some full most in
    (grows, (defined-basic T t ms ready.0 there aggregate open_ some full most, whole-later T (with_members T t ms) grows s.seen.scopes.levels ready.1), refl)
