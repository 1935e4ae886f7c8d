-- What is well typed is ready: expressions and declarators, over the final table and without scopes.
use Rattle.std.specs.List.{All, Contains}
use Rattle.std.proofs.Common.{◌≡◌, ◌⊎◌, ℕ, zero, suc, ◌<◌, ℤ, Bool, true, false, not, List, [], ◌∷◌, ◌++◌, map, length, slice_get, Option, Some, None, refl, ap, sym, subst, ◌∙◌, true≢false, inl, inr, arith, bytes_eq, get_or, slice_index_or}
use Rattle.std.proofs.lemmas.List.Elements.{All-head, All-tail, All-weaker}
use Rattle.std.proofs.lemmas.List.Quantifiers.{position-Some}
use Rattle.std.proofs.lemmas.Option.{none-some}
use Rattle.std.proofs.lemmas.List.{length-append}
use Rattle.cc_base.specs.declared.place.Place.{Place}
use Rattle.cc_base.specs.declared.number.NodeId.{NodeId}
use Rattle.cc_base.specs.declared.number.TypeId.{TypeId}
use Rattle.c_types.specs.declared.shape.TypeShape.{TypeShape}
use Rattle.c_types.specs.declared.shape.TypeShape.TheVariants.{Void, Integer, Pointer, Array, Function, Struct, Union}
use Rattle.c_types.specs.Table.{Table, IsType, IsAggregate, IsComplete, shape_at, members_at, entry_at, is_complete, is_complete_entry, is_aggregate_shape, parts_of_shape, descend, is_empty}
use Rattle.c_types.specs.Sound.{IsWellFormed}
use Rattle.c_types.specs.Sameness.{IsSameType, same_shape, same_step, is_same_type}
use Rattle.c_tree.specs.declared.leaf.Identifier.{Identifier}
use Rattle.c_tree.specs.declared.operator.Assignment.{Assignment}
use Rattle.c_tree.specs.declared.typed_word.Home.TheVariants as home
use Rattle.c_tree.specs.declared.typed_word.Side.{Side}
use Rattle.c_tree.specs.declared.typed_word.Side.TheVariants as side
use Rattle.c_tree.specs.TypedTree as typed
use Rattle.c_tree.specs.TypedTree.{TypedExpr, TypedPlace, TypedArguments, TypedSpecifiers, TypedMembers, TypedMemberDeclarators, TypedForm, TypedCore, TypedParts, TypedParameters, TypedDeclared}
use Rattle.c_tree.specs.TypedParts.{type_of, specified_type, declared_type, pointer_side, name_of, DefinedFunction, Made, Name, Literal, Address, Copy, made_by_form, made_by_parts, made_by_declared, made_by_stars, is_void_list}
use Rattle.c_tree.specs.TypedParts as made
use Rattle.c_tree.specs.declared.typed_word.TypedStar.{TypedStar}
use Rattle.c_tree.specs.declared.leaf.Word.{Word}
use Rattle.c_typing.specs.declared.declared.Declared.{Declared}
use Rattle.c_typing.specs.declared.declared.Declared.TheVariants as declared
use Rattle.c_typing.specs.Shapes.{IsScalar, is_scalar_shape, is_void_shape}
use Rattle.c_typing.specs.Scopes as scopes
use Rattle.c_typing.specs.Scopes.{Level, Scopes, entry_of, place_among, members_named, is_complete_at, is_complete_shape_at}
use Rattle.c_typing.specs.Integers.{assigning}
use Rattle.c_typing.specs.Conversions.{IsPlain}
use Rattle.c_typing.specs.Declarators.{member_names, member_types, declarator_names, declarator_types, name_bytes, Outermost, Written, Counts, Points, StarsMake, MakesArray, MakesFunction, nearest, PartsMake, outside, FormMakes, CoreMakes, DeclaredMakes}
use Rattle.c_typing.specs.Rules.{number_of_shape, HasMember, is_steppable_shape, IsPointer, other_side, listed_arguments, IsUpdate, IsIntegerUpdate, IsPointerUpdate, IsFunctionName}
use Rattle.c_typing.specs.Typing.{AreSpecifiers, IsTakenType, DeclaresParameter, EndsAggregate}
use Rattle.c_ready.specs.Ready.{IsAlike}
use Rattle.c_ready.proofs.Contexts.{IsFunctionDeclared, Context, unread, IsNode, IsWhole, IsObjectOf, IsFunctionNamed, IsPointerToWhole, IsMember, IsStepped, IsUpdated, MayCall, IsLiteral}
use Rattle.c_ready.proofs.Walked.{IsLevelOf, AreDeclared, IsOuter, IsWalked, declared-of, seen-of}
use Rattle.c_ready.proofs.Suits.{Suits, whole-in, is_in, scalar-in, shaped-pointer, shaped-integer, plain-suits, operand-suits, whole-at}
use Rattle.c_ready.proofs.Basics.{no_true, not_true, eq_from, bytes-same, all-left, all-right, no-empty}

-- What is known of names

abbrev pub defined_in : Context → List scopes.Name
defined_in k = map (λ (f : DefinedFunction). name_bytes (name_of f.declarator)) k.functions

pub record IsFunctionSeen (k : Context) (name : scopes.Name) (t : TypeId) : Type 0 where
  pub told : IsFunctionDeclared k name t
  pub first : TypeId
  pub linked : entry_of k.linked name ≡ Some (declared.Function first)
  pub alike : IsAlike k.table first t

-- each definition is of what has linkage
abbrev pub AreDefinitions : Context → Type 0
AreDefinitions k = (i : ℕ) (d : DefinedFunction) → slice_get k.functions i ≡ Some d
    → (first : TypeId) × (entry_of k.linked (name_bytes (name_of d.declarator)) ≡ Some (declared.Function first))
    × IsAlike k.table first (declared_type d.declarator)

abbrev pub Known : Context → scopes.Name → Declared → Type 0
Known k name (declared.Object t h) = IsObjectOf k.runs k h t
Known k name (declared.Function t) = IsFunctionSeen k name t
Known k name (declared.Typedef t) = Unit {0}
Known k name (declared.Enumerator z) = Unit {0}

abbrev pub values : (k : Context) (name : scopes.Name) (z : ℤ) → Known k name (declared.Enumerator z)
values k name z = tt

-- between two points of the text: what is known of the names at the first, and of types at the second
pub record At (k : Context) (s s' : Scopes) : Type 0 where
  pub names : AreDeclared k.table (Known k) s.levels
  pub defined : s.defined ≡ defined_in k
  pub followed : (t : TypeId) → is_complete_at k.table s' t ≡ true → IsComplete k.table t
  pub lengths : (t : TypeId) (n : ℕ) → number_of_shape (shape_at k.table t) ≡ Some n → is_empty (members_named s' n) ≡ false
      → length (members_named s' n) ≡ length (members_at k.table t)
  pub calls : MayCall k
  pub definitions : AreDefinitions k

pub nonempty-same : (a b : List scopes.Name) → a ≡ b → is_empty b ≡ false → is_empty a ≡ false
nonempty-same a b h x = ap (λ (xs : List scopes.Name). is_empty xs) h ∙ x

pub shape-later : (m s' : Scopes) → IsOuter m s' → (w : Bool) (x : TypeShape) → is_complete_shape_at m w x ≡ true → is_complete_shape_at s' w x ≡ true
shape-later m s' o w (Struct n) h =
    ap not (nonempty-same (members_named s' n) (members_named m n) (o.members n (not_true (is_empty (members_named m n)) h))
    (not_true (is_empty (members_named m n)) h))
shape-later m s' o w (Union n) h =
    ap not (nonempty-same (members_named s' n) (members_named m n) (o.members n (not_true (is_empty (members_named m n)) h))
    (not_true (is_empty (members_named m n)) h))
shape-later m s' o w Void h = h
shape-later m s' o w (Integer bytes signed) h = h
shape-later m s' o w (Pointer n t) h = h
shape-later m s' o w (Array t n) h = h
shape-later m s' o w (Function ps r) h = h

pub at-left : (k : Context) (s m s' : Scopes) → IsOuter m s' → At k s s' → At k s m
at-left k s m s' o a = record {
  names = a.names;
  defined = a.defined;
  followed = λ t h. a.followed t (shape-later m s' o (is_complete (entry_at k.table t)) (shape_at k.table t) h);
  lengths = λ t n h x. ap (λ (xs : List scopes.Name). length xs) (sym (o.members n x))
      ∙ a.lengths t n h (nonempty-same (members_named s' n) (members_named m n) (o.members n x) x);
  calls = a.calls;
  definitions = a.definitions;
}

pub at-right : (k : Context) (s m s' : Scopes) → IsWalked k.table (Known k) s m → At k s s' → At k m s'
at-right k s m s' w a =
    record {
      names = w.names a.names;
      defined = w.stays.defined ∙ a.defined;
      followed = a.followed;
      lengths = a.lengths;
      calls = a.calls;
      definitions = a.definitions;
    }

object-unread : (k : Context) (b : Bool) (h : NodeId) (t : TypeId) → IsObjectOf b k h t → IsObjectOf false (unread k) h t
object-unread k true h t o = (o.0, o.1)
object-unread k false h t o = o

known-unread : (k : Context) (name : scopes.Name) (what : Declared) → Known k name what → Known (unread k) name what
known-unread k name (declared.Object t h) o = object-unread k k.runs h t o
known-unread k name (declared.Function t) o = record { told = o.told; first = o.first; linked = o.linked; alike = o.alike }
known-unread k name (declared.Typedef t) o = tt
known-unread k name (declared.Enumerator z) o = tt

levels-unread : (k : Context) (ls : List Level) → AreDeclared k.table (Known k) ls → AreDeclared k.table (Known (unread k)) ls
levels-unread k ls h =
    All-weaker (IsLevelOf k.table (Known k)) (IsLevelOf k.table (Known (unread k)))
    (λ l own. record {
      names =
          All-weaker (λ (e : scopes.Name × Declared). Known k e.0 e.1) (λ (e : scopes.Name × Declared). Known (unread k) e.0 e.1)
          (λ e q. known-unread k e.0 e.1 q) l.names own.names;
      tags = own.tags;
    }) ls h

pub at-unread : (k : Context) (s s' : Scopes) → At k s s' → At (unread k) s s'
at-unread k s s' a =
    record {
      names = levels-unread k s.levels a.names;
      defined = a.defined;
      followed = a.followed;
      lengths = a.lengths;
      calls = inr refl;
      definitions = a.definitions;
    }

-- Functions

defined_at : (fs : List DefinedFunction) (i : ℕ) → i < length (map (λ (f : DefinedFunction). name_bytes (name_of f.declarator)) fs)
    → (d : DefinedFunction) × (slice_get fs i ≡ Some d) ×
    (get_or (map (λ (f : DefinedFunction). name_bytes (name_of f.declarator)) fs) i [] ≡ name_bytes (name_of d.declarator))
defined_at [] i h = absurd (omega (arith, h))
defined_at (f ∷ fs) zero h = (f, refl, refl)
defined_at (f ∷ fs) (suc i) h = defined_at fs i (omega (arith, h))

function_type : Option Declared → TypeId → TypeId
function_type (Some (declared.Function t)) u = t
function_type other u = u

same_function : (t u : TypeId) → Some (declared.Function t) ≡ Some (declared.Function u) → t ≡ u
unfolding function_type
same_function t u h = ap (λ (x : Option Declared). function_type x t) h

pub function-named : (k : Context) (s s' : Scopes) (name : Identifier) (number : ℕ) (n : NodeId) (t : TypeId) → At k s s'
    → IsFunctionName k.table s name number n t → IsFunctionNamed k name number n t
function-named k s s' name number n t a h =
    let seen = seen-of k.table (Known k) name.bytes (declared.Function h.function) s.levels a.names h.known in
    let at = position-Some (bytes_eq name.bytes) (defined_in k) number []
    (subst (λ (ns : List scopes.Name). place_among ns name.bytes ≡ Some number) a.defined h.defined) in
    let d = defined_at k.functions number at.0 in
    let named : name_bytes (name_of d.0.declarator) ≡ name.bytes = sym (bytes-same name.bytes (get_or (defined_in k) number []) at.1 ∙ d.2) in
    let own = a.definitions number d.0 d.1 in
    let first = same_function seen.first own.0 (sym seen.linked ∙ (ap (λ (x : scopes.Name). entry_of k.linked x) (sym named) ∙ own.1)) in
    record {
      function = h.function;
      type = h.type;
      defined = d.0;
      there = d.1;
      named = named;
      first = seen.first;
      alike = (seen.alike, subst (λ (x : TypeId). IsAlike k.table x (declared_type d.0.declarator)) (sym first) own.2);
      declared = seen.told;
    }

-- Members

number-aggregate : (x : TypeShape) (n : ℕ) → number_of_shape x ≡ Some n → is_aggregate_shape x ≡ true
number-aggregate (Struct m) n h = refl
number-aggregate (Union m) n h = refl
number-aggregate Void n h = absurd (none-some n h)
number-aggregate (Integer bytes signed) n h = absurd (none-some n h)
number-aggregate (Pointer m t) n h = absurd (none-some n h)
number-aggregate (Array t m) n h = absurd (none-some n h)
number-aggregate (Function ps r) n h = absurd (none-some n h)

pub parts-aggregate : (P : TypeId → Type 0) (x : TypeShape) (ms : List TypeId) (n : ℕ) → number_of_shape x ≡ Some n → All P (parts_of_shape x ms)
    → All P ms
parts-aggregate P (Struct m) ms n e h = h
parts-aggregate P (Union m) ms n e h = h
parts-aggregate P Void ms n e h = absurd (none-some n e)
parts-aggregate P (Integer bytes signed) ms n e h = absurd (none-some n e)
parts-aggregate P (Pointer m t) ms n e h = absurd (none-some n e)
parts-aggregate P (Array t m) ms n e h = absurd (none-some n e)
parts-aggregate P (Function ps r) ms n e h = absurd (none-some n e)

some_list : {A : Type 0} (xs : List A) (i : ℕ) → i < length xs → is_empty xs ≡ false
some_list [] i h = absurd (omega (arith, h))
some_list (x ∷ xs) i h = refl

pub at_or : (P : TypeId → Type 0) (ms : List TypeId) (i : ℕ) (t : TypeId) → All P ms → P t → P (slice_index_or ms i t)
at_or P [] i t h d = d
at_or P (m ∷ ms) zero t h d = All-head P m ms h
at_or P (m ∷ ms) (suc i) t h d = at_or P ms i t (All-tail P m ms h) d

pub member-ready : (k : Context) → IsWellFormed k.table → (s s' : Scopes) → At k s s'
    → (whole : TypeId) (name : Identifier) (i : ℕ) (n : NodeId) (t : TypeId)
    → HasMember k.table s' whole name i t → IsNode k n → IsMember k whole i n t
member-ready k w s s' a whole name i n t h node =
    let names = members_named s' h.number in
    let at = position-Some (bytes_eq name.bytes) names i [] h.named in
    let same = a.lengths whole h.number h.declared (some_list names i at.0) in
    let part = subst (IsComplete k.table) (sym h.type)
    (at_or (IsComplete k.table) (members_at k.table whole) i whole
    (parts-aggregate (IsComplete k.table) (shape_at k.table whole) (members_at k.table whole) h.number h.declared (w.each whole).parts)
    h.known) in
    let below = at.0 in
    record {
      complete = (whole-in k.table whole h.known, h.known);
      aggregate = number-aggregate (shape_at k.table whole) h.number h.declared;
      there = omega (arith, same, below);
      type = h.type;
      part = (whole-in k.table t part, part);
      node = node;
    }

-- Structs of one type are one

same_struct : (f : TypeId → TypeId → Bool) (x y : TypeShape) → is_aggregate_shape x ≡ true → same_shape f x y ≡ true
    → (y ≡ x) × (is_aggregate_shape y ≡ true)
same_struct f (Struct a) (Struct b) p h = (ap Struct (sym (eq_from a b h)), refl)
same_struct f (Union a) (Union b) p h = (ap Union (sym (eq_from a b h)), refl)
same_struct f Void y p h = no_true p
same_struct f (Integer bytes signed) y p h = no_true p
same_struct f (Pointer n t) y p h = no_true p
same_struct f (Array t n) y p h = no_true p
same_struct f (Function ps r) y p h = no_true p
same_struct f x y p h = no_true h

pub aggregate-in : (T : Table) (t : TypeId) → is_aggregate_shape (shape_at T t) ≡ true → IsType T t
aggregate-in T t h = is_in T t (by (shape_at T t) h)
  where
    by : (x : TypeShape) → is_aggregate_shape x ≡ true → is_void_shape x ≡ false
    by (Struct n) g = refl
    by (Union n) g = refl
    by Void g = no_true g
    by (Integer bytes signed) g = refl
    by (Pointer n u) g = refl
    by (Array u n) g = refl
    by (Function ps r) g = refl

pub one-struct : (T : Table) → IsWellFormed T → (t u : TypeId) → is_aggregate_shape (shape_at T t) ≡ true → IsSameType T t u → t ≡ u
unfolding is_same_type
one-struct T w t u a h =
    let s = same_struct (descend (same_step T) (λ v. false) (length T)) (shape_at T t) (shape_at T u) a h in
    w.distinct t u (aggregate-in T t a) (aggregate-in T u s.1, s.0)

same_struct_back : (f : TypeId → TypeId → Bool) (x y : TypeShape) → is_aggregate_shape y ≡ true → same_shape f x y ≡ true
    → (y ≡ x) × (is_aggregate_shape x ≡ true)
same_struct_back f (Struct a) (Struct b) p h = (ap Struct (sym (eq_from a b h)), refl)
same_struct_back f (Union a) (Union b) p h = (ap Union (sym (eq_from a b h)), refl)
same_struct_back f x Void p h = no_true p
same_struct_back f x (Integer bytes signed) p h = no_true p
same_struct_back f x (Pointer n t) p h = no_true p
same_struct_back f x (Array t n) p h = no_true p
same_struct_back f x (Function ps r) p h = no_true p
same_struct_back f x y p h = no_true h

pub one-struct-back : (T : Table) → IsWellFormed T → (t u : TypeId) → is_aggregate_shape (shape_at T u) ≡ true → IsSameType T t u → u ≡ t
unfolding is_same_type
one-struct-back T w t u a h =
    let s = same_struct_back (descend (same_step T) (λ v. false) (length T)) (shape_at T t) (shape_at T u) a h in
    sym (w.distinct t u (aggregate-in T t s.1) (aggregate-in T u a, s.0))

-- completeness of what is the same

same_complete : (f : TypeId → TypeId → Bool) (x y : TypeShape) (ms ns : List TypeId) → is_aggregate_shape x ≡ false → same_shape f x y ≡ true
    → is_complete_entry x ms ≡ true → is_complete_entry y ns ≡ true
same_complete f (Integer a s) (Integer b r) ms ns a' h c = refl
same_complete f (Pointer n t) (Pointer m u) ms ns a' h c = refl
same_complete f (Array t a) (Array u b) ms ns a' h c = refl
same_complete f (Struct a) y ms ns a' h c = no_true (sym a')
same_complete f (Union a) y ms ns a' h c = no_true (sym a')
same_complete f Void y ms ns a' h c = no_true c
same_complete f (Function ps r) y ms ns a' h c = no_true c
same_complete f x y ms ns a' h c = no_true h

pub same-whole : (T : Table) → IsWellFormed T → (t u : TypeId) → IsSameType T t u → IsComplete T t → IsComplete T u
unfolding is_same_type
same-whole T w t u h c = by (is_aggregate_shape (shape_at T t)) refl
  where
    by : (b : Bool) → is_aggregate_shape (shape_at T t) ≡ b → IsComplete T u
    by true a = subst (IsComplete T) (one-struct T w t u a h) c
    by false a = same_complete (descend (same_step T) (λ v. false) (length T)) (shape_at T t) (shape_at T u) (members_at T t) (members_at T u) a h c

-- Steps

pub steps : (k : Context) (s : Scopes) → ((t : TypeId) → is_complete_at k.table s t ≡ true → IsComplete k.table t) → (t : TypeId) (x : TypeShape)
    → shape_at k.table t ≡ x
    → is_steppable_shape k.table s x ≡ true → IsStepped k t
steps k s f t (Integer bytes signed) e h = inl (record { bytes = bytes; signed = signed }, shaped-integer k.table t bytes signed e)
steps k s f t (Pointer n u) e h = inr (n, u, shaped-pointer k.table t n u e, whole-at k s f u h)
steps k s f t Void e h = no_true h
steps k s f t (Array u n) e h = no_true h
steps k s f t (Function ps r) e h = no_true h
steps k s f t (Struct n) e h = no_true h
steps k s f t (Union n) e h = no_true h

pub pointer-whole : (k : Context) (s : Scopes) → ((t : TypeId) → is_complete_at k.table s t ≡ true → IsComplete k.table t)
    → (e : TypedExpr) (to : TypeId) → IsPointer k.table to e
    → is_complete_at k.table s to ≡ true → IsPointerToWhole k (type_of e)
pointer-whole k s f e to p c = (p.type.0, to, p.type.1, whole-at k s f to c)

-- What is made

abbrev pub IsMade : Context → Made → Type 0
IsMade k (made.Written place n) = IsNode k n
IsMade k (Name name (home.Local n) t) = IsNode k n × (k.runs ≡ true → k.file ≡ false → Contains k.variables (n, t))
IsMade k (Name name (home.Static n) t) = IsNode k n × Contains k.statics (n, t)
IsMade k (Name name (home.Known n) t) = Unit {0}
IsMade k (Name name (home.Parameter n) t) = IsNode k n
IsMade k (Name name home.None t) = Unit {0}
IsMade k (Literal pieces h t) = IsLiteral k h t
IsMade k (Address n) = IsNode k n
IsMade k (Copy t) = Unit {0}

abbrev pub AreMade : Context → List Made → Type 0
AreMade k made = All (IsMade k) made

made-unread : (k : Context) (m : Made) → IsMade k m → IsMade (unread k) m
made-unread k (made.Written place n) h = h
made-unread k (Name name (home.Local n) t) h = (h.0, (λ q r. no_true q))
made-unread k (Name name (home.Static n) t) h = h
made-unread k (Name name (home.Known n) t) h = h
made-unread k (Name name (home.Parameter n) t) h = h
made-unread k (Name name home.None t) h = h
made-unread k (Literal pieces home t) h = h
made-unread k (Address n) h = h
made-unread k (Copy t) h = h

pub ml : (k : Context) (xs ys : List Made) → AreMade k (xs ++ ys) → AreMade k xs
ml k xs ys h = all-left (IsMade k) xs ys h

pub mr : (k : Context) (xs ys : List Made) → AreMade k (xs ++ ys) → AreMade k ys
mr k xs ys h = all-right (IsMade k) xs ys h

pub mu : (k : Context) (xs : List Made) → AreMade k xs → AreMade (unread k) xs
mu k xs h = All-weaker (IsMade k) (IsMade (unread k)) (made-unread k) xs h

pub last-node : (k : Context) (xs : List Made) (n : NodeId) → AreMade k (xs ++ Address n ∷ []) → IsNode k n
last-node k xs n h = All-head (IsMade k) (Address n) [] (mr k xs (Address n ∷ []) h)

-- Sides

pub side-suits : (k : Context) (which : Side) (a b : TypedExpr) → IsPlain (pointer_side which a b) → IsPlain (other_side which a b)
    → Suits k a × Suits k b
side-suits k side.Left a b p q = (plain-suits k a p, plain-suits k b q)
side-suits k side.Right a b p q = (plain-suits k a q, plain-suits k b p)

pub listed-left : (k : Context) (all : TypedArguments) (e : TypedExpr) → All (Suits k) (listed_arguments (typed.AndArgument all e))
    → All (Suits k) (listed_arguments all) × Suits k e
listed-left k all e h =
    (all-left (Suits k) (listed_arguments all) (e ∷ []) h, All-head (Suits k) e [] (all-right (Suits k) (listed_arguments all) (e ∷ []) h))

pub updated-ready : (k : Context) (s : Scopes) → ((t : TypeId) → is_complete_at k.table s t ≡ true → IsComplete k.table t)
    → (operator : Assignment) (p : TypedPlace) (at : Place) (e : TypedExpr) (t : TypeId)
    → IsUpdate k.table s operator p at e t → Suits k e × IsUpdated k operator p at e t
updated-ready k s f operator p at e t h = by h.updated
  where
    by : IsIntegerUpdate k.table (assigning operator) p at e t ⊎ IsPointerUpdate k.table s (assigning operator) p e t
        → Suits k e × IsUpdated k operator p at e t
    by (inl g) = (operand-suits k at _ g.right e g.converted g.second, (h.compound, h.lvalue, inl g))
    by (inr g) = (
      plain-suits k e g.integer.plain,
      (h.compound, h.lvalue, inr (g.allowed, (g.pointer.0, g.to, g.pointer.1, whole-at k s f g.to g.complete), (g.kind, g.integer), g.type)),
    )

-- Declarators

pub at-names : (k : Context) (s m s' : Scopes) → AreDeclared k.table (Known k) m.levels → IsOuter s m → At k s s' → At k m s'
at-names k s m s' names o a =
    record {
      names = names;
      defined = o.defined ∙ a.defined;
      followed = a.followed;
      lengths = a.lengths;
      calls = a.calls;
      definitions = a.definitions;
    }

scalar_complete : (x : TypeShape) (ms : List TypeId) → is_scalar_shape x ≡ true → is_complete_entry x ms ≡ true
scalar_complete (Integer bytes signed) ms h = refl
scalar_complete (Pointer n t) ms h = refl
scalar_complete Void ms h = no_true h
scalar_complete (Array t n) ms h = no_true h
scalar_complete (Function ps r) ms h = no_true h
scalar_complete (Struct n) ms h = no_true h
scalar_complete (Union n) ms h = no_true h

pub scalar-whole : (k : Context) (t : TypeId) → IsScalar k.table t → IsWhole k t
scalar-whole k t h = (scalar-in k.table t h, scalar_complete (shape_at k.table t) (members_at k.table t) h)

pub specified-in : (T : Table) (all : TypedSpecifiers) (s s' : Scopes) → AreSpecifiers T all s s' → IsType T (specified_type all)
specified-in T (typed.Specified list t) s s' h = h.1.there

stars-in : (T : Table) (stars : List TypedStar) (base t : TypeId) → IsType T base → StarsMake T stars base t → IsType T t
stars-in T [] base t b h = subst (IsType T) (sym h) b
stars-in T (star ∷ stars) base t b h = stars-in T stars h.0 t h.1.0 h.2

array-in : (T : Table) (s : Scopes) (o : Outermost) (words : List Word) (count : Option ℕ) (base t : TypeId) → MakesArray T s o words count base t
    → IsType T t
array-in T s (Points n) words count base t h = h.1.0
array-in T s Written words (Some count) base t h = h.1.1.0
array-in T s (Counts c) words (Some count) base t h = h.1.1.0
array-in T s (Counts c) words None base t h = h.1.1.0
array-in T s Written words None base t h = absurd h

function-in : (T : Table) (o : Outermost) (ps : TypedParameters) (base t : TypeId) → MakesFunction T o ps base t → IsType T t
function-in T (Points n) ps base t h = h.2.0
function-in T Written ps base t h = h.shape.0
function-in T (Counts c) ps base t h = h.shape.0

parts-in : (T : Table) (s : Scopes) (parts : TypedParts) (o : Outermost) (base t : TypeId) → IsType T base → PartsMake T s parts o base t → IsType T t
parts-in T s typed.NoPart o base t b h = subst (IsType T) (sym h) b
parts-in T s (typed.AndArray all at words) o base t b h = parts-in T s all o h.0 t (array-in T s (nearest all o) words None base h.0 h.1) h.2
parts-in T s (typed.AndSizedArray all at words e size) o base t b h =
    parts-in T s all o h.0 t (array-in T s (nearest all o) words (Some size) base h.0 h.1) h.2
parts-in T s (typed.AndFunction all at ps) o base t b h = parts-in T s all o h.0 t (function-in T (nearest all o) ps base h.0 h.1) h.2

mutual
  pub form-in : (T : Table) (s : Scopes) (form : TypedForm) (o : Outermost) (base t : TypeId) → IsType T base → FormMakes T s form o base t
      → IsType T t
  form-in T s (typed.Form stars core parts) o base t b h =
      core-in T s core o h.1 t (parts-in T s parts (outside core o) h.0 h.1 (stars-in T stars base h.0 b h.2) h.3) h.4

  core-in : (T : Table) (s : Scopes) (core : TypedCore) (o : Outermost) (base t : TypeId) → IsType T base → CoreMakes T s core o base t → IsType T t
  core-in T s (typed.Names name home) o base t b h = subst (IsType T) (sym h) b
  core-in T s typed.Unnamed o base t b h = subst (IsType T) (sym h) b
  core-in T s (typed.Nested at form) o base t b h = form-in T s form o base t b h

pub declared-in : (T : Table) (s : Scopes) (d : TypedDeclared) (o : Outermost) (base t : TypeId) → IsType T base → DeclaredMakes T s d o base t
    → IsType T t
declared-in T s typed.NotDeclared o base t b h = subst (IsType T) (sym h) b
declared-in T s (typed.DeclaredBy form) o base t b h = form-in T s form o base t b h

-- a list `(void)` names nothing
abbrev pub HasNoNames : TypedParameters → Type 0
HasNoNames typed.NoParameter = Unit {0}
HasNoNames (typed.AndParameter all specifiers d adjusted t) = HasNoNames all × (d ≡ typed.NotDeclared)

pub void-names : (all : TypedParameters) → is_void_list all ≡ true → HasNoNames all
void-names typed.NoParameter h = no_true h
void-names (typed.AndParameter typed.NoParameter (typed.Specified list t) typed.NotDeclared adjusted u) h = (tt, refl)
void-names (typed.AndParameter all specifiers d adjusted u) h = no_true h

pub object-known : (k : Context) (b : Bool) → b ≡ false → (h : NodeId) (t : TypeId) → IsNode k h → IsWhole k t → IsObjectOf b k h t
object-known k true q h t n w = absurd (true≢false q)
object-known k false q h t n w = (n, w)

pub taken-in : (void : Bool) (T : Table) (s : Scopes) (t : TypeId) → IsTakenType void T s t → IsType T t
taken-in true T s t h = h.0
taken-in false T s t h = scalar-in T t h

form-named : (k : Context) → k.runs ≡ false → (form : TypedForm) (t : TypeId) (s s' : Scopes) → DeclaresParameter (typed.DeclaredBy form) t s s'
    → AreMade k (made_by_form form t) → IsWhole k t
    → AreDeclared k.table (Known k) s.levels → AreDeclared k.table (Known k) s'.levels
form-named k u (typed.Form stars (typed.Names name (home.Parameter n)) parts) t s s' h m w d =
    let made = mr k (made_by_stars stars) (Name name (home.Parameter n) t ∷ [])
    (ml k (made_by_stars stars ++ (Name name (home.Parameter n) t ∷ [])) (made_by_parts parts) m) in
    let node = All-head (IsMade k) (Name name (home.Parameter n) t) [] made in
    subst (λ (q : Scopes). AreDeclared k.table (Known k) q.levels) (sym h.after)
    (declared-of k.table (Known k) name.bytes (declared.Object t n) s.levels (object-known k k.runs u n t node w) d)
form-named k u (typed.Form stars (typed.Names name other) parts) t s s' h m w d = absurd h
form-named k u (typed.Form stars typed.Unnamed parts) t s s' h m w d = subst (λ (q : Scopes). AreDeclared k.table (Known k) q.levels) (sym h) d
form-named k u (typed.Form stars (typed.Nested at form) parts) t s s' h m w d =
    form-named k u form t s s' h
    (mr k (made_by_stars stars) (made_by_form form t) (ml k (made_by_stars stars ++ made_by_form form t) (made_by_parts parts) m)) w d

pub parameter-named : (k : Context) → k.runs ≡ false → (void : Bool) (d : TypedDeclared) → (void ≡ true → d ≡ typed.NotDeclared)
    → (t : TypeId) (n s s' : Scopes) → IsTakenType void k.table n t
    → DeclaresParameter d t s s' → AreMade k (made_by_declared d t) → AreDeclared k.table (Known k) s.levels → AreDeclared k.table (Known k) s'.levels
parameter-named k u void typed.NotDeclared none t n s s' taken h m d = subst (λ (q : Scopes). AreDeclared k.table (Known k) q.levels) (sym h) d
parameter-named k u false (typed.DeclaredBy form) none t n s s' taken h m d = form-named k u form t s s' h m (scalar-whole k t taken) d
parameter-named k u true (typed.DeclaredBy form) none t n s s' taken h m d = absurd (no_declared form (none refl))
  where
    no_declared : (f : TypedForm) → typed.DeclaredBy f ≡ typed.NotDeclared → ⊥
    no_declared f e = no_true (ap (λ (x : TypedDeclared). elim x as (λ y. Bool) [ typed.NotDeclared ↦ true | typed.DeclaredBy g ↦ false ]) e)

-- a struct that ends has members

names-types : (ds : TypedMemberDeclarators) → length (declarator_names ds) ≡ length (declarator_types ds)
names-types typed.NoDeclarator = refl
names-types (typed.AndDeclarator all d) =
    let one = names-types all in
    let a = length-append (declarator_names all) (name_bytes (name_of d) ∷ []) in
    let b = length-append (declarator_types all) (declared_type d ∷ []) in
    omega (arith, one, a, b)

pub members-types : (ms : TypedMembers) → length (member_names ms) ≡ length (member_types ms)
members-types typed.NoMember = refl
members-types (typed.AndMember all specifiers ds) =
    let one = members-types all in
    let two = names-types ds in
    let a = length-append (member_names all) (declarator_names ds) in
    let b = length-append (member_types all) (declarator_types ds) in
    omega (arith, one, two, a, b)

aggregate_complete : (x : TypeShape) (n : ℕ) (ms : List TypeId) → number_of_shape x ≡ Some n → is_empty ms ≡ false → is_complete_entry x ms ≡ true
aggregate_complete (Struct m) n ms h e = ap not e
aggregate_complete (Union m) n ms h e = ap not e
aggregate_complete Void n ms h e = absurd (none-some n h)
aggregate_complete (Integer bytes signed) n ms h e = absurd (none-some n h)
aggregate_complete (Pointer m t) n ms h e = absurd (none-some n h)
aggregate_complete (Array t m) n ms h e = absurd (none-some n h)
aggregate_complete (Function ps r) n ms h e = absurd (none-some n h)

pub ended-whole : (k : Context) (ms : TypedMembers) (t : TypeId) (s s' : Scopes) → EndsAggregate k.table ms t s s'
    → IsWhole k t × IsAggregate k.table t
ended-whole k ms t s s' h =
    let c = aggregate_complete (shape_at k.table t) h.number (members_at k.table t) h.declared
    (ap (λ (xs : List TypeId). is_empty xs) h.types ∙ no-empty (member_names ms) (member_types ms) (members-types ms) h.some) in
    ((whole-in k.table t c, c), number-aggregate (shape_at k.table t) h.number h.declared)
