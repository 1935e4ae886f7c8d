-- What is declared in scopes has its type in the table: where it is looked for, where scopes change, and where the table goes on.
use Rattle.std.proofs.Common.{◌≡◌, ℕ, Bool, true, false, List, [], ◌∷◌, ◌++◌, Option, Some, None, sym, subst, ◌∙◌, bytes_eq, if◌then◌else◌, length, ap}
use Rattle.std.specs.List.{All}
use Rattle.std.proofs.lemmas.Option.{none-some}
use Rattle.std.proofs.lemmas.List.Elements.{All-nil, All-cons, All-head, All-tail, All-push, All-weaker}
use Rattle.cc_base.specs.declared.number.NodeId.{NodeId}
use Rattle.cc_base.specs.declared.number.TypeId.{TypeId}
use Rattle.c_types.specs.declared.shape.TypeShape.{TypeShape}
use Rattle.c_types.specs.declared.shape.TypeShape.TheVariants.{Void, Integer, Pointer, Array, Function, Struct, Union}
use Rattle.c_types.specs.Table.{Table, IsType, shape_at, is_aggregate_shape, members_at}
use Rattle.c_typing.specs.declared.declared.Declared.{Declared}
use Rattle.c_typing.specs.declared.declared.Declared.TheVariants as declared
use Rattle.c_typing.specs.declared.declared.Tag.{Tag}
use Rattle.c_typing.specs.declared.declared.Tag.TheVariants as tag
use Rattle.c_typing.specs.Extensions.{IsExtended}
use Rattle.c_typing.specs.Judging.{State}
use Rattle.c_typing.specs.Rules.{number_of_shape}
use Rattle.c_typing.specs.Scopes.{Name, Level, Scopes, entry_of, or_outer, name_in, tag_in, at_innermost, innermost, without_innermost, tag_here, empty_level, with_name, with_tag, with_tag_set}
use Rattle.c_typing.specs.Settled.{IsThere, IsTagThere, IsLevelThere, AreNumbered, IsKnown}
use Rattle.named_lists.proofs.EntryLaws.{entries-with}
use Rattle.c_typing_laws.proofs.ExtensionLaws.{no_true, still_in}

some_same : {A : Type 0} (a b : A) → Some a ≡ Some b → a ≡ b
some_same a b h = cc

-- Looked for

entry_by : {A : Type 0} (P : A → Type 0) (x : A) (rest : Option A) (what : A) (b : Bool) → P x → (rest ≡ Some what → P what)
    → (if b then Some x else rest) ≡ Some what → P what
entry_by P x rest what true own more p = subst P (some_same x what p) own
entry_by P x rest what false own more p = more p

entry-there : {A : Type 0} (P : A → Type 0) (es : List (Name × A)) → All (λ (e : Name × A). P e.1) es → (name : Name) (what : A)
    → entry_of es name ≡ Some what → P what
entry-there P [] h name what q = absurd (none-some what q)
entry-there {A = A} P (e ∷ es) h name what q =
    entry_by P e.1 (entry_of es name) what (bytes_eq name e.0) (All-head (λ (d : Name × A). P d.1) e es h)
    (λ p. entry-there P es (All-tail (λ (d : Name × A). P d.1) e es h) name what p) q

outer_by : {A : Type 0} (P : A → Type 0) (inner outer : Option A) (what : A) → (inner ≡ Some what → P what) → (outer ≡ Some what → P what)
    → or_outer inner outer ≡ Some what → P what
outer_by P (Some x) outer what f g h = f h
outer_by P None outer what f g h = g h

pub empty-there : (T : Table) → IsLevelThere T empty_level
empty-there T = record { names = All-nil (λ (e : Name × Declared). IsThere T e.1); tags = All-nil (λ (e : Name × Tag). IsTagThere T e.1) }

pub name-there : (T : Table) (ls : List Level) → All (IsLevelThere T) ls → (name : Name) (what : Declared) → name_in ls name ≡ Some what → IsThere T what
name-there T [] h name what q = absurd (none-some what q)
name-there T (l ∷ ls) h name what q =
    outer_by (IsThere T) (name_in ls name) (entry_of l.names name) what (λ p. name-there T ls (All-tail (IsLevelThere T) l ls h) name what p)
    (λ p. entry-there (IsThere T) l.names (All-head (IsLevelThere T) l ls h).names name what p) q

pub tag-there : (T : Table) (ls : List Level) → All (IsLevelThere T) ls → (name : Name) (what : Tag) → tag_in ls name ≡ Some what → IsTagThere T what
tag-there T [] h name what q = absurd (none-some what q)
tag-there T (l ∷ ls) h name what q =
    outer_by (IsTagThere T) (tag_in ls name) (entry_of l.tags name) what (λ p. tag-there T ls (All-tail (IsLevelThere T) l ls h) name what p)
    (λ p. entry-there (IsTagThere T) l.tags (All-head (IsLevelThere T) l ls h).tags name what p) q

innermost_there : (T : Table) (ls : List Level) → All (IsLevelThere T) ls → IsLevelThere T (innermost ls)
innermost_there T [] h = empty-there T
innermost_there T (l ∷ []) h = All-head (IsLevelThere T) l [] h
innermost_there T (l ∷ (m ∷ ls)) h = innermost_there T (m ∷ ls) (All-tail (IsLevelThere T) l (m ∷ ls) h)

pub tag_here-there : (T : Table) (ls : List Level) → All (IsLevelThere T) ls → (name : Name) (what : Tag) → tag_here ls name ≡ Some what → IsTagThere T what
tag_here-there T ls h name what q = entry-there (IsTagThere T) (innermost ls).tags (innermost_there T ls h).tags name what q

-- the type of an object that a name stands for
pub object-there : (s : State) → IsKnown s → (name : Name) (t : TypeId) (home : NodeId) → name_in s.seen.scopes.levels name ≡ Some (declared.Object t home)
    → IsType s.table t
object-there s k name t home h = name-there s.table s.seen.scopes.levels k.levels name (declared.Object t home) h

pub typedef-there : (s : State) → IsKnown s → (name : Name) (t : TypeId) → name_in s.seen.scopes.levels name ≡ Some (declared.Typedef t) → IsType s.table t
typedef-there s k name t h = name-there s.table s.seen.scopes.levels k.levels name (declared.Typedef t) h

-- Scopes that change

changed_there : (T : Table) (f : Level → Level) → ((l : Level) → IsLevelThere T l → IsLevelThere T (f l)) → (ls : List Level) → All (IsLevelThere T) ls
    → All (IsLevelThere T) (at_innermost f ls)
changed_there T f more [] h = h
changed_there T f more (l ∷ []) h = All-cons (IsLevelThere T) (f l) [] (more l (All-head (IsLevelThere T) l [] h)) (All-nil (IsLevelThere T))
changed_there T f more (l ∷ (m ∷ ls)) h =
    All-cons (IsLevelThere T) l (at_innermost f (m ∷ ls)) (All-head (IsLevelThere T) l (m ∷ ls) h)
    (changed_there T f more (m ∷ ls) (All-tail (IsLevelThere T) l (m ∷ ls) h))

pub declared-there : (T : Table) (name : Name) (what : Declared) (ls : List Level) → IsThere T what → All (IsLevelThere T) ls
    → All (IsLevelThere T) (at_innermost (with_name name what) ls)
declared-there T name what ls t h =
    changed_there T (with_name name what)
    (λ l own. record { names = All-push (λ (e : Name × Declared). IsThere T e.1) l.names (name, what) own.names t; tags = own.tags }) ls h

pub tagged-there : (T : Table) (name : Name) (what : Tag) (ls : List Level) → IsTagThere T what → All (IsLevelThere T) ls
    → All (IsLevelThere T) (at_innermost (with_tag name what) ls)
tagged-there T name what ls t h =
    changed_there T (with_tag name what)
    (λ l own. record { names = own.names; tags = All-push (λ (e : Name × Tag). IsTagThere T e.1) l.tags (name, what) own.tags t }) ls h

pub tag_set-there : (T : Table) (name : Name) (what : Tag) (ls : List Level) → IsTagThere T what → All (IsLevelThere T) ls
    → All (IsLevelThere T) (at_innermost (with_tag_set name what) ls)
tag_set-there T name what ls t h =
    changed_there T (with_tag_set name what) (λ l own. record { names = own.names; tags = entries-with (λ (n : Name) (x : Tag). IsTagThere T x) name what l.tags (λ n. t) own.tags }) ls h

pub entered-there : (T : Table) (ls : List Level) → All (IsLevelThere T) ls → All (IsLevelThere T) (ls ++ empty_level ∷ [])
entered-there T ls h = All-push (IsLevelThere T) ls empty_level h (empty-there T)

pub left-there : (T : Table) (ls : List Level) → All (IsLevelThere T) ls → All (IsLevelThere T) (without_innermost ls)
left-there T [] h = h
left-there T (l ∷ []) h = All-nil (IsLevelThere T)
left-there T (l ∷ (m ∷ ls)) h =
    All-cons (IsLevelThere T) l (without_innermost (m ∷ ls)) (All-head (IsLevelThere T) l (m ∷ ls) h)
    (left-there T (m ∷ ls) (All-tail (IsLevelThere T) l (m ∷ ls) h))

-- A table that goes on

module _ (T U : Table) (x : IsExtended T U) where
  there_kept : (what : Declared) → IsThere T what → IsThere U what
  there_kept (declared.Typedef t) h = still_in T U x t h
  there_kept (declared.Object t home) h = still_in T U x t h
  there_kept (declared.Function t) h = still_in T U x t h
  there_kept (declared.Enumerator value) h = tt

  tag_kept : (what : Tag) → IsTagThere T what → IsTagThere U what
  tag_kept (tag.Aggregate which t) h = (h.0, (still_in T U x t h.1.0, x.shapes t h.1.0 ∙ h.1.1))
  tag_kept tag.Enumeration h = tt
  tag_kept tag.Enumerating h = tt

  level_kept : (l : Level) → IsLevelThere T l → IsLevelThere U l
  level_kept l h = record {
    names = All-weaker (λ (e : Name × Declared). IsThere T e.1) (λ (e : Name × Declared). IsThere U e.1) (λ e. there_kept e.1) l.names h.names;
    tags = All-weaker (λ (e : Name × Tag). IsTagThere T e.1) (λ (e : Name × Tag). IsTagThere U e.1) (λ e. tag_kept e.1) l.tags h.tags;
  }

  pub levels-kept : (ls : List Level) → All (IsLevelThere T) ls → All (IsLevelThere U) ls
  levels-kept ls h = All-weaker (IsLevelThere T) (IsLevelThere U) level_kept ls h

-- Numbers of structs and unions

pub no-number : {P : Type 0} (x : TypeShape) (n : ℕ) → is_aggregate_shape x ≡ false → number_of_shape x ≡ Some n → P
no-number Void n p h = absurd (none-some n h)
no-number (Integer bytes signed) n p h = absurd (none-some n h)
no-number (Pointer m t) n p h = absurd (none-some n h)
no-number (Array t m) n p h = absurd (none-some n h)
no-number (Function ps r) n p h = absurd (none-some n h)
no-number (Struct m) n p h = no_true (sym p)
no-number (Union m) n p h = no_true (sym p)

-- a table whose numbered types were numbered before
pub numbered-from : (T U : Table) (s : Scopes) → ((t : TypeId) (n : ℕ) → number_of_shape (shape_at U t) ≡ Some n → number_of_shape (shape_at T t) ≡ Some n)
    → ((t : TypeId) (n : ℕ) → number_of_shape (shape_at U t) ≡ Some n → members_at U t ≡ members_at T t) → AreNumbered T s → AreNumbered U s
numbered-from T U s before keeps h = record {
  closed = λ t n p. h.closed t n (before t n p) ∙ ap (λ (ms : List TypeId). length ms) (sym (keeps t n p));
  given = λ t n p. h.given t n (before t n p);
  own = λ t u n p q. h.own t u n (before t n p) (before u n q);
}
