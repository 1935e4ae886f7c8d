-- A part that declares no object leaves the outer scopes as they are, and no name but of an enumerator is new: what is true of all that is declared
-- stays true.
use Rattle.std.specs.List.{All}
use Rattle.std.proofs.Common.{length, ◌≡◌, ◌≢◌, ℕ, zero, suc, ℤ, Bool, true, false, not, List, [], ◌∷◌, ◌++◌, Option, Some, None, refl, ap, sym, subst, ◌∙◌, slice_set, if◌then◌else◌, bytes_eq}
use Rattle.std.proofs.lemmas.List.Elements.{All-nil, All-cons, All-head, All-tail, All-push}
use Rattle.std.proofs.lemmas.Option.{none-some}
use Rattle.cc_base.specs.declared.number.TypeId.{TypeId}
use Rattle.c_types.specs.Table.{Table, shape_at, entry_at, is_complete, HasShape, is_aggregate_shape, is_empty}
use Rattle.c_types.specs.declared.shape.TypeShape.{TypeShape}
use Rattle.c_types.specs.declared.shape.TypeShape.TheVariants.{Void, Integer, Pointer, Array, Function, Struct, Union}
use Rattle.c_tree.specs.declared.leaf.Identifier.{Identifier}
use Rattle.c_tree.specs.declared.operator.AggregateKind.{AggregateKind}
use Rattle.c_tree.specs.declared.typed_word.Home.TheVariants as home
use Rattle.c_tree.specs.TypedTree as typed
use Rattle.c_tree.specs.TypedTree.{TypedExpr, TypedPlace, TypedArguments, TypedTypeName, TypedSpecifiers, TypedSpecifierList, TypedSpecifier, TypedMembers, TypedMemberDeclarators, TypedEnumerators, TypedForm, TypedCore, TypedParts, TypedParameters, TypedDeclared}
use Rattle.c_tree.specs.TypedParts.{specified_type, is_void_list}
use Rattle.c_tree.specs.declared.operator.AggregateKind.TheVariants as kind
use Rattle.c_typing.specs.declared.declared.Declared.{Declared}
use Rattle.c_typing.specs.declared.declared.Declared.TheVariants as declared
use Rattle.c_typing.specs.declared.declared.Tag.{Tag}
use Rattle.c_typing.specs.declared.declared.Tag.TheVariants as tag
use Rattle.c_typing.specs.Declarators.{member_names}
use Rattle.c_typing.specs.Rules.{number_of_shape}
use Rattle.c_typing.specs.Scopes.{Name, Level, Scopes, empty_level, at_innermost, without_innermost, with_name, with_tag, with_tag_set, tag_in, tag_here, entry_of, name_in, or_outer, entering, leaving, members_named, is_complete_shape_at, innermost}
use Rattle.c_typing.specs.Typing.{IsTyped, IsPlace, AreTyped, IsTypeName, AreSpecifiers, AreAlone, AreListed, IsSpecifier, AreMembers, AreMemberDeclarators, AreEnumerators, IsForm, IsCore, AreParts, AreParameters, IsDeclared, IsNewEnumerator, IsNewAggregate, IsTagged, BeginsAggregate, EndsAggregate, DeclaresParameter, tagging, counting_aggregate, tag_named_here, enumerating, EndsEnumeration, shape_of_kind}
use Rattle.c_ready.specs.Ready.{is_of_kind}
use Rattle.named_lists.proofs.EntryLaws.{entries-with}
use Rattle.c_ready.proofs.Basics.{some-same, no_true, bytes-same}

-- What is declared

-- a tag names a struct or a union where it says so
abbrev pub IsTagOf : Table → Tag → Type 0
IsTagOf T (tag.Aggregate which t) = is_of_kind which (shape_at T t) ≡ true
IsTagOf T tag.Enumeration = Unit {0}
IsTagOf T tag.Enumerating = Unit {0}

pub record IsLevelOf (T : Table) (Q : Name → Declared → Type 0) (level : Level) : Type 0 where
  pub names : All (λ (e : Name × Declared). Q e.0 e.1) level.names
  pub tags : All (λ (e : Name × Tag). IsTagOf T e.1) level.tags

abbrev pub AreDeclared : Table → (Name → Declared → Type 0) → List Level → Type 0
AreDeclared T Q levels = All (IsLevelOf T Q) levels

-- the outer scopes stay; members that are known stay
pub record IsOuter (s s' : Scopes) : Type 0 where
  pub outer : without_innermost s'.levels ≡ without_innermost s.levels
  pub defined : s'.defined ≡ s.defined
  pub members : (n : ℕ) → is_empty (members_named s n) ≡ false → members_named s' n ≡ members_named s n

pub record IsWalked (T : Table) (Q : Name → Declared → Type 0) (s s' : Scopes) : Type 0 where
  pub stays : IsOuter s s'
  pub names : AreDeclared T Q s.levels → AreDeclared T Q s'.levels

-- Levels

pub outer-same : (f : Level → Level) (ls : List Level) → without_innermost (at_innermost f ls) ≡ without_innermost ls
outer-same f [] = refl
outer-same f (l ∷ []) = refl
outer-same f (l ∷ (m ∷ [])) = refl
outer-same f (l ∷ (m ∷ (k ∷ ls))) = ap (λ (x : List Level). l ∷ x) (outer-same f (m ∷ (k ∷ ls)))

pub outer-of : (ls : List Level) (l : Level) → without_innermost (ls ++ l ∷ []) ≡ ls
outer-of [] l = refl
outer-of (m ∷ []) l = refl
outer-of (m ∷ (k ∷ ls)) l = ap (λ (x : List Level). m ∷ x) (outer-of (k ∷ ls) l)

pub changed-of : (T : Table) (Q : Name → Declared → Type 0) (f : Level → Level) → ((l : Level) → IsLevelOf T Q l → IsLevelOf T Q (f l))
    → (ls : List Level) → AreDeclared T Q ls → AreDeclared T Q (at_innermost f ls)
changed-of T Q f more [] h = h
changed-of T Q f more (l ∷ []) h = All-cons (IsLevelOf T Q) (f l) [] (more l (All-head (IsLevelOf T Q) l [] h)) (All-nil (IsLevelOf T Q))
changed-of T Q f more (l ∷ (m ∷ ls)) h =
    All-cons (IsLevelOf T Q) l (at_innermost f (m ∷ ls)) (All-head (IsLevelOf T Q) l (m ∷ ls) h)
    (changed-of T Q f more (m ∷ ls) (All-tail (IsLevelOf T Q) l (m ∷ ls) h))

pub level-more : (T : Table) (Q : Name → Declared → Type 0) (name : Name) (what : Declared) (l : Level) → Q name what → IsLevelOf T Q l
    → IsLevelOf T Q (with_name name what l)
level-more T Q name what l q own = record { names = All-push (λ (e : Name × Declared). Q e.0 e.1) l.names (name, what) own.names q; tags = own.tags }

pub declared-of : (T : Table) (Q : Name → Declared → Type 0) (name : Name) (what : Declared) (ls : List Level) → Q name what → AreDeclared T Q ls
    → AreDeclared T Q (at_innermost (with_name name what) ls)
declared-of T Q name what ls q h = changed-of T Q (with_name name what) (λ l own. level-more T Q name what l q own) ls h

pub entered-of : (T : Table) (Q : Name → Declared → Type 0) (ls : List Level) → AreDeclared T Q ls → AreDeclared T Q (ls ++ empty_level ∷ [])
entered-of T Q ls h =
    All-push (IsLevelOf T Q) ls empty_level h
    (record { names = All-nil (λ (e : Name × Declared). Q e.0 e.1); tags = All-nil (λ (e : Name × Tag). IsTagOf T e.1) })

pub left-of : (T : Table) (Q : Name → Declared → Type 0) (ls : List Level) → AreDeclared T Q ls → AreDeclared T Q (without_innermost ls)
left-of T Q [] h = h
left-of T Q (l ∷ []) h = All-nil (IsLevelOf T Q)
left-of T Q (l ∷ (m ∷ ls)) h =
    All-cons (IsLevelOf T Q) l (without_innermost (m ∷ ls)) (All-head (IsLevelOf T Q) l (m ∷ ls) h)
    (left-of T Q (m ∷ ls) (All-tail (IsLevelOf T Q) l (m ∷ ls) h))

pub innermost-of : (T : Table) (Q : Name → Declared → Type 0) (ls : List Level) → AreDeclared T Q ls → IsLevelOf T Q (innermost ls)
innermost-of T Q [] h = record { names = All-nil (λ (e : Name × Declared). Q e.0 e.1); tags = All-nil (λ (e : Name × Tag). IsTagOf T e.1) }
innermost-of T Q (l ∷ []) h = All-head (IsLevelOf T Q) l [] h
innermost-of T Q (l ∷ (m ∷ ls)) h = innermost-of T Q (m ∷ ls) (All-tail (IsLevelOf T Q) l (m ∷ ls) h)

-- what a name stands for was declared

-- what an entry of a level says
pub entry-from : {A : Type 0} (R : Name → A → Type 0) (name : Name) (x : A) (es : List (Name × A)) → All (λ (e : Name × A). R e.0 e.1) es
    → entry_of es name ≡ Some x → R name x
entry-from R name x [] h g = absurd (none-some x g)
entry-from {A} R name x (e ∷ es) h g =
    by (bytes_eq name e.0) (bytes-same name e.0) (All-head (λ (d : Name × A). R d.0 d.1) e es h)
    (entry-from R name x es (All-tail (λ (d : Name × A). R d.0 d.1) e es h)) g
  where
    by : (b : Bool) → (b ≡ true → name ≡ e.0) → R e.0 e.1 → (entry_of es name ≡ Some x → R name x)
        → (if b then Some e.1 else entry_of es name) ≡ Some x → R name x
    by true same q more g = subst (λ (d : A). R name d) (some-same e.1 x g) (subst (λ (n : Name). R n e.1) (sym (same refl)) q)
    by false same q more g = more g

either-from : {A : Type 0} (P : Type 0) (x : A) (inner outer : Option A) → (inner ≡ Some x → P) → (outer ≡ Some x → P)
    → or_outer inner outer ≡ Some x → P
either-from P x (Some y) outer f g h = f h
either-from P x None outer f g h = g h

module _ (T : Table) (Q : Name → Declared → Type 0) (name : Name) where
  pub seen-of : (what : Declared) (ls : List Level) → AreDeclared T Q ls → name_in ls name ≡ Some what → Q name what
  seen-of what [] h g = absurd (none-some what g)
  seen-of what (l ∷ ls) h g =
      either-from (Q name what) what (name_in ls name) (entry_of l.names name) (seen-of what ls (All-tail (IsLevelOf T Q) l ls h))
      (entry-from Q name what l.names (All-head (IsLevelOf T Q) l ls h).names) g

  tag-of : (found : Tag) (l : Level) → IsLevelOf T Q l → entry_of l.tags name ≡ Some found → IsTagOf T found
  tag-of found l h g = entry-from (λ (n : Name) (x : Tag). IsTagOf T x) name found l.tags h.tags g

  -- so was a tag
  pub tag-seen : (found : Tag) (ls : List Level) → AreDeclared T Q ls → tag_in ls name ≡ Some found → IsTagOf T found
  tag-seen found [] h g = absurd (none-some found g)
  tag-seen found (l ∷ ls) h g =
      either-from (IsTagOf T found) found (tag_in ls name) (entry_of l.tags name) (tag-seen found ls (All-tail (IsLevelOf T Q) l ls h))
      (tag-of found l (All-head (IsLevelOf T Q) l ls h)) g

  pub tag-seen-here : (found : Tag) (ls : List Level) → AreDeclared T Q ls → tag_here ls name ≡ Some found → IsTagOf T found
  tag-seen-here found ls h g = tag-of found (innermost ls) (innermost-of T Q ls h) g

-- Members

abbrev naming : List (List Name) → Scopes
naming ms = record { levels = []; defined = []; members = ms }

set_names : (ms : List (List Name)) (n k : ℕ) (names : List Name) → n ≢ k
    → members_named (naming (slice_set ms k names)) n ≡ members_named (naming ms) n
set_names [] n k names h = refl
set_names (m ∷ ms) zero zero names h = absurd (h refl)
set_names (m ∷ ms) zero (suc k) names h = refl
set_names (m ∷ ms) (suc n) zero names h = refl
set_names (m ∷ ms) (suc n) (suc k) names h = set_names ms n k names (λ e. h (ap suc e))

counting_names : (ms : List (List Name)) (n : ℕ) → members_named (naming (ms ++ [] ∷ [])) n ≡ members_named (naming ms) n
counting_names [] zero = refl
counting_names [] (suc n) = refl
counting_names (m ∷ ms) zero = refl
counting_names (m ∷ ms) (suc n) = counting_names ms n

not_false : (b : Bool) → not b ≡ false → b ≡ true
not_false true h = refl
not_false false h = no_true (sym h)

open_names : (s : Scopes) (n : ℕ) (x : TypeShape) (w : Bool) → number_of_shape x ≡ Some n → is_complete_shape_at s w x ≡ false
    → is_empty (members_named s n) ≡ true
open_names s n (Struct k) w h c =
    subst (λ (m : ℕ). is_empty (members_named s m) ≡ true) (some-same k n h) (not_false (is_empty (members_named s k)) c)
open_names s n (Union k) w h c =
    subst (λ (m : ℕ). is_empty (members_named s m) ≡ true) (some-same k n h) (not_false (is_empty (members_named s k)) c)
open_names s n Void w h c = absurd (none-some n h)
open_names s n (Integer bytes signed) w h c = absurd (none-some n h)
open_names s n (Pointer k u) w h c = absurd (none-some n h)
open_names s n (Array u k) w h c = absurd (none-some n h)
open_names s n (Function ps r) w h c = absurd (none-some n h)

ended_names : (T : Table) (members : TypedMembers) (t : TypeId) (s s' : Scopes) (h : EndsAggregate T members t s s') (n : ℕ)
    → is_empty (members_named s n) ≡ false
    → members_named (naming (slice_set s.members h.number (member_names members))) n ≡ members_named s n
ended_names T members t s s' h n x =
    set_names s.members n h.number (member_names members)
    (λ e. no_true (sym x ∙ (ap (λ (m : ℕ). is_empty (members_named s m)) e ∙ open_names s h.number (shape_at T t) (is_complete (entry_at T t))
    h.declared h.unfinished)))

pub same-outer : (s s' : Scopes) → s' ≡ s → IsOuter s s'
same-outer s s' h = record {
  outer = ap (λ (q : Scopes). without_innermost q.levels) h;
  defined = ap (λ (q : Scopes). q.defined) h;
  members = λ n x. ap (λ (q : Scopes). members_named q n) h;
}

no_list_is : {A : Type 0} (xs ys : List A) → xs ≡ ys → is_empty ys ≡ false → is_empty xs ≡ false
no_list_is xs ys h x = ap (λ zs. is_empty zs) h ∙ x

pub both-outer : {a b c : Scopes} → IsOuter a b → IsOuter b c → IsOuter a c
both-outer {a} {b} {c} p q = record {
  outer = q.outer ∙ p.outer;
  defined = q.defined ∙ p.defined;
  members = λ n x. q.members n (no_list_is (members_named b n) (members_named a n) (p.members n x) x) ∙ p.members n x;
}

module _ (T : Table) (Q : Name → Declared → Type 0) (values : (name : Name) (z : ℤ) → Q name (declared.Enumerator z)) where
  pub same : (s s' : Scopes) → s' ≡ s → IsWalked T Q s s'
  same s s' h = record { stays = same-outer s s' h; names = λ d. subst (λ (q : Scopes). AreDeclared T Q q.levels) (sym h) d }

  pub both : {a b c : Scopes} → IsWalked T Q a b → IsWalked T Q b c → IsWalked T Q a c
  both p q = record { stays = both-outer p.stays q.stays; names = λ d. q.names (p.names d) }

  innermost-kept : (f : Level → Level) → ((l : Level) → IsLevelOf T Q l → IsLevelOf T Q (f l)) → (s s' : Scopes)
      → s' ≡ record s { levels = at_innermost f s.levels } → IsWalked T Q s s'
  innermost-kept f more s s' h = both (record {
    stays = record { outer = outer-same f s.levels; defined = refl; members = λ n x. refl };
    names = λ d. changed-of T Q f more s.levels d;
  }) (same (record s { levels = at_innermost f s.levels }) s' h)

  -- the scope of a prototype was entered and is left
  pub left-kept : (m n s' : Scopes) → IsOuter (entering m) n → s' ≡ leaving n → IsWalked T Q m s'
  left-kept m n s' o h = both (record {
    stays =
        record {
          outer = ap (λ (ls : List Level). without_innermost ls) (o.outer ∙ outer-of m.levels empty_level);
          defined = o.defined;
          members = o.members;
        };
    names = λ d. subst (λ (ls : List Level). AreDeclared T Q ls) (sym (o.outer ∙ outer-of m.levels empty_level)) d;
  }) (same (leaving n) s' h)

  -- Tags and enumerators

  tagging-kept : (name : Option Identifier) (what : Tag) (s : Scopes) → IsTagOf T what → IsWalked T Q s (tagging name what s)
  tagging-kept None what s q = same s s refl
  tagging-kept (Some name) what s q =
      innermost-kept (with_tag name.bytes what)
      (λ l own. record { names = own.names; tags = All-push (λ (e : Name × Tag). IsTagOf T e.1) l.tags (name.bytes, what) own.tags q })
      s (tagging (Some name) what s) refl

  kind-aggregate : (which : AggregateKind) (n : ℕ) (t : TypeId) → HasShape T t (shape_of_kind which n) → is_of_kind which (shape_at T t) ≡ true
  kind-aggregate kind.Struct n t h = ap (is_of_kind kind.Struct) h.1
  kind-aggregate kind.Union n t h = ap (is_of_kind kind.Union) h.1

  of-kind : (which : AggregateKind) (x : TypeShape) → is_of_kind which x ≡ true → is_aggregate_shape x ≡ true
  of-kind kind.Struct (Struct n) h = refl
  of-kind kind.Union (Union n) h = refl
  of-kind kind.Struct Void h = no_true h
  of-kind kind.Struct (Integer a s) h = no_true h
  of-kind kind.Struct (Pointer n t) h = no_true h
  of-kind kind.Struct (Array t n) h = no_true h
  of-kind kind.Struct (Function ps r) h = no_true h
  of-kind kind.Struct (Union n) h = no_true h
  of-kind kind.Union Void h = no_true h
  of-kind kind.Union (Integer a s) h = no_true h
  of-kind kind.Union (Pointer n t) h = no_true h
  of-kind kind.Union (Array t n) h = no_true h
  of-kind kind.Union (Function ps r) h = no_true h
  of-kind kind.Union (Struct n) h = no_true h

  counting-kept : (s : Scopes) → IsWalked T Q s (counting_aggregate s)
  counting-kept s = record {
    stays = record { outer = refl; defined = refl; members = λ n x. counting_names s.members n };
    names = λ d. d;
  }

  new-kept : (which : AggregateKind) (name : Option Identifier) (t : TypeId) (s s' : Scopes) → IsNewAggregate T which name t s s' → IsWalked T Q s s'
  new-kept which name t s s' h =
      both (counting-kept s)
      (both (tagging-kept name (tag.Aggregate which t) (counting_aggregate s) (kind-aggregate which (length s.members) t h.shape))
      (same (tagging name (tag.Aggregate which t) (counting_aggregate s)) s' h.after))

  pub tagged-kept : (o : Option Tag) (which : AggregateKind) (name : Identifier) (t : TypeId) (s s' : Scopes) → IsTagged T o which name t s s'
      → IsWalked T Q s s'
  tagged-kept (Some found) which name t s s' h = same s s' h.1
  tagged-kept None which name t s s' h = new-kept which (Some name) t s s' h

  pub begun-kept : (o : Option Tag) (which : AggregateKind) (name : Option Identifier) (t : TypeId) (s s' : Scopes)
      → BeginsAggregate T o which name t s s' → IsWalked T Q s s'
  begun-kept (Some found) which name t s s' h = same s s' h.2
  begun-kept None which name t s s' h = new-kept which name t s s' h

  pub ended-kept : (members : TypedMembers) (t : TypeId) (s s' : Scopes) → EndsAggregate T members t s s' → IsWalked T Q s s'
  ended-kept members t s s' h = both (record {
    stays = record { outer = refl; defined = refl; members = λ n x. ended_names T members t s s' h n x };
    names = λ d. d;
  }) (same (record s { members = slice_set s.members h.number (member_names members) }) s' h.after)

  pub enumerating-kept : (name : Option Identifier) (s : Scopes) → IsWalked T Q s (enumerating name s)
  enumerating-kept None s = same s s refl
  enumerating-kept (Some name) s = by (tag_named_here s (Some name)) refl
    where
      by : (o : Option Tag) → tag_named_here s (Some name) ≡ o → IsWalked T Q s (enumerating (Some name) s)
      by None h = rw h (tagging-kept (Some name) tag.Enumerating s tt)
      by (Some found) h = rw h (same s s refl)

  pub enumerated-kept : (name : Option Identifier) (s s' : Scopes) → EndsEnumeration name s s' → IsWalked T Q s s'
  enumerated-kept None s s' h = same s s' h.after
  enumerated-kept (Some name) s s' h =
      innermost-kept (with_tag_set name.bytes tag.Enumeration)
      (λ l own. record { names = own.names; tags = entries-with (λ (n : Name) (x : Tag). IsTagOf T x) name.bytes tag.Enumeration l.tags (λ n. tt) own.tags })
      s s' h.after

  pub enumerator-kept : (name : Name) (value : ℤ) (s s' : Scopes) → IsNewEnumerator name value s s' → IsWalked T Q s s'
  enumerator-kept name value s s' h =
      innermost-kept (with_name name (declared.Enumerator value))
      (λ l own. level-more T Q name (declared.Enumerator value) l (values name value) own) s s' h.after

  -- a tag that a specifier names is that of a struct or a union
  tagged-is : (o : Option Tag) (which : AggregateKind) (name : Identifier) (t : TypeId) (s s' : Scopes)
      → ((found : Tag) → o ≡ Some found → IsTagOf T found) → IsTagged T o which name t s s'
      → is_of_kind which (shape_at T t) ≡ true
  tagged-is (Some found) which name t s s' seen h = subst (IsTagOf T) h.0 (seen found refl)
  tagged-is None which name t s s' seen h = kind-aggregate which (length s.members) t h.shape

  pub tagged-aggregate : (which : AggregateKind) (name : Identifier) (t : TypeId) (s s' : Scopes) → AreDeclared T Q s.levels
      → IsTagged T (tag_in s.levels name.bytes) which name t s s'
      → is_aggregate_shape (shape_at T t) ≡ true
  tagged-aggregate which name t s s' d h =
      of-kind which (shape_at T t) (tagged-is (tag_in s.levels name.bytes) which name t s s'
      (λ found q. tag-seen T Q name.bytes found s.levels d q) h)

  pub alone-aggregate : (which : AggregateKind) (name : Identifier) (t : TypeId) (s s' : Scopes) → AreDeclared T Q s.levels
      → IsTagged T (tag_here s.levels name.bytes) which name t s s'
      → is_aggregate_shape (shape_at T t) ≡ true
  alone-aggregate which name t s s' d h =
      of-kind which (shape_at T t) (tagged-is (tag_here s.levels name.bytes) which name t s s'
      (λ found q. tag-seen-here T Q name.bytes found s.levels d q) h)

  -- what `struct` or `union` with members names is as the keyword says
  begun-is : (o : Option Tag) (which : AggregateKind) (name : Option Identifier) (t : TypeId) (s s' : Scopes)
      → ((found : Tag) → o ≡ Some found → IsTagOf T found) → BeginsAggregate T o which name t s s' → is_of_kind which (shape_at T t) ≡ true
  begun-is (Some found) which name t s s' seen h = subst (IsTagOf T) h.0 (seen found refl)
  begun-is None which name t s s' seen h = kind-aggregate which (length s.members) t h.shape

  pub begun-kind : (name : Option Identifier) (which : AggregateKind) (t : TypeId) (s s' : Scopes) → AreDeclared T Q s.levels
      → BeginsAggregate T (tag_named_here s name) which name t s s' → is_of_kind which (shape_at T t) ≡ true
  begun-kind None which t s s' d h = begun-is None which None t s s' (λ found q. absurd (none-some found q)) h
  begun-kind (Some name) which t s s' d h =
      begun-is (tag_here s.levels name.bytes) which (Some name) t s s' (λ found q. tag-seen-here T Q name.bytes found s.levels d q) h

  -- Parameters

  inside-outer : (f : Level → Level) (s s' : Scopes) → s' ≡ record s { levels = at_innermost f s.levels } → IsOuter s s'
  inside-outer f s s' h =
      both-outer (record { outer = outer-same f s.levels; defined = refl; members = λ n x. refl })
      (same-outer (record s { levels = at_innermost f s.levels }) s' h)

  parameter_form-outer : (form : TypedForm) (t : TypeId) (s s' : Scopes) → DeclaresParameter (typed.DeclaredBy form) t s s' → IsOuter s s'
  parameter_form-outer (typed.Form stars (typed.Names name (home.Parameter n)) parts) t s s' h =
      inside-outer (with_name name.bytes (declared.Object t n)) s s' h.after
  parameter_form-outer (typed.Form stars (typed.Names name other) parts) t s s' h = absurd h
  parameter_form-outer (typed.Form stars typed.Unnamed parts) t s s' h = same-outer s s' h
  parameter_form-outer (typed.Form stars (typed.Nested at form) parts) t s s' h = parameter_form-outer form t s s' h

  pub parameter-outer : (d : TypedDeclared) (t : TypeId) (s s' : Scopes) → DeclaresParameter d t s s' → IsOuter s s'
  parameter-outer typed.NotDeclared t s s' h = same-outer s s' h
  parameter-outer (typed.DeclaredBy form) t s s' h = parameter_form-outer form t s s' h

  -- Typed parts

  module _ where
    mutual
      pub value-kept : (e : TypedExpr) (s s' : Scopes) → IsTyped T e s s' → IsWalked T Q s s'
      value-kept (typed.Integer of value at t) s s' h = same s s' h.0
      value-kept (typed.Character value at t) s s' h = same s s' h.0
      value-kept (typed.Enumerator name value t) s s' h = same s s' h.0
      value-kept (typed.FunctionName name number n t) s s' h = same s s' h.0
      value-kept (typed.RuntimeName name function t) s s' h = same s s' h.0
      value-kept (typed.Paren at e) s s' h = value-kept e s s' h.0
      value-kept (typed.Convert which at t e) s s' h = value-kept e s s' h.0
      value-kept (typed.AddressOfFunction at e) s s' h = value-kept e s s' h.0
      value-kept (typed.FunctionAt at e) s s' h = value-kept e s s' h.0
      value-kept (typed.Prefix operator at e t) s s' h = value-kept e s s' h.0
      value-kept (typed.SizeOfValue at e size t) s s' h = value-kept e s s' h.0
      value-kept (typed.Read p) s s' h = place-kept p s s' h.0
      value-kept (typed.Unread p) s s' h = place-kept p s s' h.0
      value-kept (typed.Decay p n t) s s' h = place-kept p s s' h.0
      value-kept (typed.AddressOf at p n t) s s' h = place-kept p s s' h.0
      value-kept (typed.AddressOfElement at p t) s s' h = place-kept p s s' h.0
      value-kept (typed.SizeOfPlace at p size t) s s' h = place-kept p s s' h.0
      value-kept (typed.StepBefore operator at p) s s' h = place-kept p s s' h.0
      value-kept (typed.StepAfter p operator at) s s' h = place-kept p s s' h.0
      value-kept (typed.Cast which at to e) s s' h = both (type_name-kept to s h.0 h.1) (value-kept e h.0 s' h.2)
      value-kept (typed.SizeOfType at paren name size t) s s' h = type_name-kept name s s' h.0
      value-kept (typed.Arithmetic operator a at b t) s s' h = both (value-kept a s h.0 h.1) (value-kept b h.0 s' h.2)
      value-kept (typed.Moved operator which a at b t) s s' h = both (value-kept a s h.0 h.1) (value-kept b h.0 s' h.2)
      value-kept (typed.Difference a at b t) s s' h = both (value-kept a s h.0 h.1) (value-kept b h.0 s' h.2)
      value-kept (typed.Compared operator a at b t) s s' h = both (value-kept a s h.0 h.1) (value-kept b h.0 s' h.2)
      value-kept (typed.Logical operator a at b t) s s' h = both (value-kept a s h.0 h.1) (value-kept b h.0 s' h.2)
      value-kept (typed.Comma a b) s s' h = both (value-kept a s h.0 h.1) (value-kept b h.0 s' h.2)
      value-kept (typed.Conditional c at a b t) s s' h = both (value-kept c s h.0 h.2) (both (value-kept a h.0 h.1 h.3) (value-kept b h.1 s' h.4))
      value-kept (typed.PointerConditional c at a b node t) s s' h =
          both (value-kept c s h.0 h.2) (both (value-kept a h.0 h.1 h.3) (value-kept b h.1 s' h.4))
      value-kept (typed.Assign p at e) s s' h = both (place-kept p s h.0 h.1) (value-kept e h.0 s' h.2)
      value-kept (typed.AssignWith operator p at e t) s s' h = both (place-kept p s h.0 h.1) (value-kept e h.0 s' h.2)
      value-kept (typed.Call f at arguments t) s s' h = both (value-kept f s h.0 h.1) (arguments-kept arguments h.0 s' h.2)
      value-kept (typed.CallRuntime function f at arguments t) s s' h = both (value-kept f s h.0 h.1) (arguments-kept arguments h.0 s' h.2)
      value-kept (typed.Allocate function f at arguments node t) s s' h = both (value-kept f s h.0 h.1) (arguments-kept arguments h.0 s' h.2)
      value-kept (typed.AllocateFor function f at arguments t) s s' h = both (value-kept f s h.0 h.1) (arguments-kept arguments h.0 s' h.2)

      pub place-kept : (p : TypedPlace) (s s' : Scopes) → IsPlace T p s s' → IsWalked T Q s s'
      place-kept (typed.Variable name home t) s s' h = same s s' h.0
      place-kept (typed.String pieces home t) s s' h = same s s' h.0
      place-kept (typed.ParenPlace at p) s s' h = place-kept p s s' h
      place-kept (typed.Target at e t) s s' h = value-kept e s s' h.0
      place-kept (typed.Element which a at b t) s s' h = both (value-kept a s h.0 h.1) (value-kept b h.0 s' h.2)
      place-kept (typed.Member p at name i n t) s s' h = place-kept p s s' h.0
      place-kept (typed.MemberAt e at name i n t) s s' h = value-kept e s s' h.0
      place-kept (typed.StructAssign p at q) s s' h = both (place-kept p s h.0 h.1) (place-kept q h.0 s' h.2)
      place-kept (typed.StructConditional c at p q) s s' h = both (value-kept c s h.0 h.2) (both (place-kept p h.0 h.1 h.3) (place-kept q h.1 s' h.4))
      place-kept (typed.StructComma e p) s s' h = both (value-kept e s h.0 h.1) (place-kept p h.0 s' h.2)

      pub arguments-kept : (all : TypedArguments) (s s' : Scopes) → AreTyped T all s s' → IsWalked T Q s s'
      arguments-kept typed.NoArgument s s' h = same s s' h
      arguments-kept (typed.AndArgument all e) s s' h = both (arguments-kept all s h.0 h.1) (value-kept e h.0 s' h.2)

      pub type_name-kept : (name : TypedTypeName) (s s' : Scopes) → IsTypeName T name s s' → IsWalked T Q s s'
      type_name-kept (typed.Named specifiers d t) s s' h = both (specifiers-kept specifiers s h.0 h.1) (declared-kept d h.0 s' h.2)

      pub specifiers-kept : (all : TypedSpecifiers) (s s' : Scopes) → AreSpecifiers T all s s' → IsWalked T Q s s'
      specifiers-kept (typed.Specified list t) s s' h = listed-kept list s s' h.0

      pub listed-kept : (list : TypedSpecifierList) (s s' : Scopes) → AreListed T list s s' → IsWalked T Q s s'
      listed-kept typed.NoSpecifier s s' h = same s s' h
      listed-kept (typed.AndSpecifier all one) s s' h = both (listed-kept all s h.0 h.1) (specifier-kept one h.0 s' h.2)

      pub specifier-kept : (one : TypedSpecifier) (s s' : Scopes) → IsSpecifier T one s s' → IsWalked T Q s s'
      specifier-kept (typed.Keyword word) s s' h = same s s' h
      specifier-kept (typed.Typedef name t) s s' h = same s s' h.0
      specifier-kept (typed.Tagged which at name t) s s' h = tagged-kept (tag_in s.levels name.bytes) which name t s s' h
      specifier-kept (typed.Aggregate which at name brace members t) s s' h =
          both (begun-kept (tag_named_here s name) which name t s h.0 h.2)
          (both (members-kept members h.0 h.1 h.3) (ended-kept members t h.1 s' h.4))
      specifier-kept (typed.Enum at name) s s' h = same s s' h.0
      specifier-kept (typed.Enumeration at name brace all comma) s s' h =
          both (enumerating-kept name s) (both (enumerators-kept all (enumerating name s) h.0 h.1) (enumerated-kept name h.0 s' h.2))

      pub members-kept : (all : TypedMembers) (s s' : Scopes) → AreMembers T all s s' → IsWalked T Q s s'
      members-kept typed.NoMember s s' h = same s s' h
      members-kept (typed.AndMember all specifiers d) s s' h =
          both (members-kept all s h.0 h.2)
          (both (specifiers-kept specifiers h.0 h.1 h.3) (member_declarators-kept (specified_type specifiers) d h.1 s' h.4))

      pub member_declarators-kept : (base : TypeId) (all : TypedMemberDeclarators) (s s' : Scopes) → AreMemberDeclarators T base all s s'
          → IsWalked T Q s s'
      member_declarators-kept base typed.NoDeclarator s s' h = same s s' h
      member_declarators-kept base (typed.AndDeclarator all (typed.Declares form t)) s s' h =
          both (member_declarators-kept base all s h.0 h.1) (form-kept form h.0 s' h.2)

      pub enumerators-kept : (all : TypedEnumerators) (s s' : Scopes) → AreEnumerators T all s s' → IsWalked T Q s s'
      enumerators-kept typed.NoEnumerator s s' h = same s s' h
      enumerators-kept (typed.AndEnumerator all name value) s s' h =
          both (enumerators-kept all s h.0 h.1) (enumerator-kept name.bytes value h.0 s' h.3)
      enumerators-kept (typed.AndValued all name at e value) s s' h =
          both (enumerators-kept all s h.0 h.2) (both (value-kept e h.0 h.1 h.3) (enumerator-kept name.bytes value h.1 s' h.5))

      pub form-kept : (form : TypedForm) (s s' : Scopes) → IsForm T form s s' → IsWalked T Q s s'
      form-kept (typed.Form stars core parts) s s' h = both (core-kept core s h.0 h.1) (parts-kept parts h.0 s' h.2)

      pub core-kept : (core : TypedCore) (s s' : Scopes) → IsCore T core s s' → IsWalked T Q s s'
      core-kept (typed.Names name home) s s' h = same s s' h
      core-kept typed.Unnamed s s' h = same s s' h
      core-kept (typed.Nested at form) s s' h = form-kept form s s' h

      pub parts-kept : (parts : TypedParts) (s s' : Scopes) → AreParts T parts s s' → IsWalked T Q s s'
      parts-kept typed.NoPart s s' h = same s s' h
      parts-kept (typed.AndArray all at words) s s' h = parts-kept all s s' h
      parts-kept (typed.AndSizedArray all at words e size) s s' h = both (parts-kept all s h.0 h.1) (value-kept e h.0 s' h.2)
      parts-kept (typed.AndFunction all at ps) s s' h =
          both (parts-kept all s h.0 h.2) (left-kept h.0 h.1 s' (parameters-outer (is_void_list ps) ps (entering h.0) h.1 h.3) h.4)

      -- the parameters are declared in the scope of their list
      pub parameters-outer : (void : Bool) (all : TypedParameters) (s s' : Scopes) → AreParameters T void all s s' → IsOuter s s'
      parameters-outer void typed.NoParameter s s' h = same-outer s s' h
      parameters-outer void (typed.AndParameter all specifiers d adjusted t) s s' h =
          both-outer (parameters-outer void all s h.0 h.3)
          (both-outer (specifiers-kept specifiers h.0 h.1 h.4).stays
          (both-outer (declared-kept d h.1 h.2 h.5).stays (parameter-outer d t h.2 s' h.9)))

      pub declared-kept : (d : TypedDeclared) (s s' : Scopes) → IsDeclared T d s s' → IsWalked T Q s s'
      declared-kept typed.NotDeclared s s' h = same s s' h
      declared-kept (typed.DeclaredBy form) s s' h = form-kept form s s' h

    pub alone-kept : (all : TypedSpecifiers) (s s' : Scopes) → AreAlone T all s s' → IsWalked T Q s s'
    alone-kept (typed.Specified (typed.AndSpecifier typed.NoSpecifier (typed.Tagged which at name t)) u) s s' h =
        tagged-kept (tag_here s.levels name.bytes) which name t s s' h.0
    alone-kept (typed.Specified typed.NoSpecifier u) s s' h = specifiers-kept (typed.Specified typed.NoSpecifier u) s s' h
    alone-kept (typed.Specified (typed.AndSpecifier (typed.AndSpecifier all other) one) u) s s' h =
        specifiers-kept (typed.Specified (typed.AndSpecifier (typed.AndSpecifier all other) one) u) s s' h
    alone-kept (typed.Specified (typed.AndSpecifier typed.NoSpecifier one) u) s s' h =
        specifiers-kept (typed.Specified (typed.AndSpecifier typed.NoSpecifier one) u) s s' h
