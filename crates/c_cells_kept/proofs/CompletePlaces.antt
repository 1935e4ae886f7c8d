-- A place that is well typed is of a complete type, where the objects that are declared are.
use Rattle.std.proofs.Common.{◌≡◌, ℕ, suc, Bool, true, false, ◌==◌, List, [], ◌∷◌, length, Option, Some, None, refl, ap, sym, subst, zero, if◌then◌else◌, bytes_eq, slice_index_or, arith}
use Rattle.std.proofs.lemmas.Bool.Decides.{nat_tests}
use Rattle.std.specs.List.{All}
use Rattle.std.proofs.lemmas.Option.{none-some}
use Rattle.std.proofs.lemmas.List.Elements.{All-head, All-tail}
use Rattle.cc_base.specs.declared.number.TypeId.{TypeId}
use Rattle.c_types.specs.Layouts.{member_at}
use Rattle.c_types.specs.Sound.{IsWellFormed}
use Rattle.c_types.specs.Table.{Table, IsComplete, shape_at, members_at, is_aggregate_shape, is_complete_entry, parts_of_shape, descend}
use Rattle.c_types.specs.declared.shape.TypeShape.{TypeShape}
use Rattle.c_types.specs.declared.shape.TypeShape.TheVariants.{Void, Integer, Pointer, Array, Function, Struct, Union}
use Rattle.c_types.specs.Sameness.{same_shape, same_step, is_same_type}
use Rattle.c_tree.specs.TypedTree as typed
use Rattle.c_tree.specs.TypedTree.{TypedPlace}
use Rattle.c_tree.specs.TypedParts.{place_type}
use Rattle.c_typing.specs.Rules.{AreOneStruct, number_of_shape}
use Rattle.c_typing.specs.Scopes.{Name, Level, Scopes, entry_of, or_outer, name_in}
use Rattle.c_typing.specs.Settled.{IsFollowed, AreNumbered}
use Rattle.c_typing.specs.Typing.{IsPlace}
use Rattle.c_typing.specs.declared.declared.Declared.{Declared}
use Rattle.c_typing.specs.declared.declared.Declared.TheVariants as declared
use Rattle.c_typing_laws.proofs.ExtensionLaws.{no_true}
use Rattle.c_cells_kept.specs.Counted.{IsObjectWhole, IsLevelWhole, AreWhole}

-- Objects

same_declared : (a b : Declared) → Some a ≡ Some b → a ≡ b
same_declared a b h = cc

found_whole : (T : Table) (x what : Declared) (rest : Option Declared) (b : Bool) → IsObjectWhole T x → (rest ≡ Some what → IsObjectWhole T what)
    → (if b then Some x else rest) ≡ Some what → IsObjectWhole T what
found_whole T x what rest true own more g = subst (IsObjectWhole T) (same_declared x what g) own
found_whole T x what rest false own more g = more g

entry_whole : (T : Table) (es : List (Name × Declared)) → All (λ (e : Name × Declared). IsObjectWhole T e.1) es → (name : Name) (what : Declared)
    → entry_of es name ≡ Some what → IsObjectWhole T what
entry_whole T [] h name what q = absurd (none-some what q)
entry_whole T (e ∷ es) h name what q =
    found_whole T e.1 what (entry_of es name) (bytes_eq name e.0) (All-head (λ (d : Name × Declared). IsObjectWhole T d.1) e es h)
    (λ g. entry_whole T es (All-tail (λ (d : Name × Declared). IsObjectWhole T d.1) e es h) name what g) q

outer_whole : (T : Table) (inner outer : Option Declared) (what : Declared) → (inner ≡ Some what → IsObjectWhole T what) → (outer ≡ Some what → IsObjectWhole T what)
    → or_outer inner outer ≡ Some what → IsObjectWhole T what
outer_whole T (Some x) outer what f g h = f h
outer_whole T None outer what f g h = g h

pub name-whole : (T : Table) (ls : List Level) → AreWhole T ls → (name : Name) (what : Declared) → name_in ls name ≡ Some what → IsObjectWhole T what
name-whole T [] h name what q = absurd (none-some what q)
name-whole T (l ∷ ls) h name what q =
    outer_whole T (name_in ls name) (entry_of l.names name) what (λ g. name-whole T ls (All-tail (IsLevelWhole T) l ls h) name what g)
    (λ g. entry_whole T l.names (All-head (IsLevelWhole T) l ls h).names name what g) q

-- Members

parts_of_aggregate : (P : TypeId → Type 0) (x : TypeShape) (ms : List TypeId) (n : ℕ) → number_of_shape x ≡ Some n → All P (parts_of_shape x ms) → All P ms
parts_of_aggregate P (Struct k) ms n e h = h
parts_of_aggregate P (Union k) ms n e h = h
parts_of_aggregate P Void ms n e h = absurd (none-some n e)
parts_of_aggregate P (Integer bytes signed) ms n e h = absurd (none-some n e)
parts_of_aggregate P (Pointer k t) ms n e h = absurd (none-some n e)
parts_of_aggregate P (Array t k) ms n e h = absurd (none-some n e)
parts_of_aggregate P (Function ps r) ms n e h = absurd (none-some n e)

at_or : (P : TypeId → Type 0) (ms : List TypeId) (i : ℕ) (t : TypeId) → All P ms → P t → P (slice_index_or ms i t)
at_or P [] i t h d = d
at_or P (m ∷ ms) zero t h d = All-head P m ms h
at_or P (m ∷ ms) (suc i) t h d = at_or P ms i t (All-tail P m ms h) d

member_whole : (T : Table) → IsWellFormed T → (t : TypeId) (n i : ℕ) → number_of_shape (shape_at T t) ≡ Some n → IsComplete T t → IsComplete T (member_at T t i)
member_whole T w t n i e c =
    at_or (IsComplete T) (members_at T t) i t (parts_of_aggregate (IsComplete T) (shape_at T t) (members_at T t) n e (w.each t).parts) c

-- Structs of one type are one

eq_from : (a b : ℕ) → (a == b) ≡ true → a ≡ b
eq_from a b h = grind (arith, nat_tests)

same_number : (f : TypeId → TypeId → Bool) (x y : TypeShape) → is_aggregate_shape x ≡ true → same_shape f x y ≡ true
    → (n : ℕ) × (number_of_shape x ≡ Some n) × (number_of_shape y ≡ Some n)
same_number f (Struct a) (Struct b) p h = (a, refl, ap Some (sym (eq_from a b h)))
same_number f (Union a) (Union b) p h = (a, refl, ap Some (sym (eq_from a b h)))
same_number f (Struct a) Void p h = no_true h
same_number f (Struct a) (Integer bytes signed) p h = no_true h
same_number f (Struct a) (Pointer k t) p h = no_true h
same_number f (Struct a) (Array t k) p h = no_true h
same_number f (Struct a) (Function ps r) p h = no_true h
same_number f (Struct a) (Union b) p h = no_true h
same_number f (Union a) Void p h = no_true h
same_number f (Union a) (Integer bytes signed) p h = no_true h
same_number f (Union a) (Pointer k t) p h = no_true h
same_number f (Union a) (Array t k) p h = no_true h
same_number f (Union a) (Function ps r) p h = no_true h
same_number f (Union a) (Struct b) p h = no_true h
same_number f Void y p h = no_true p
same_number f (Integer bytes signed) y p h = no_true p
same_number f (Pointer k t) y p h = no_true p
same_number f (Array t k) y p h = no_true p
same_number f (Function ps r) y p h = no_true p

one_type : (T : Table) (c : Scopes) → AreNumbered T c → (p q : TypedPlace) → AreOneStruct T p q → place_type p ≡ place_type q
unfolding is_same_type
one_type T c numbered p q h =
    let s = same_number (descend (same_step T) (λ v. false) (length T)) (shape_at T (place_type p)) (shape_at T (place_type q)) h.aggregate h.same in
    numbered.own (place_type p) (place_type q) s.0 s.1 s.2

string_whole : (x : TypeShape) (ms : List TypeId) (t : TypeId) (n : ℕ) → x ≡ Array t n → is_complete_entry x ms ≡ true
string_whole x ms t n h = ap (λ (y : TypeShape). is_complete_entry y ms) h

module _ (T : Table) (c : Scopes) (w : IsWellFormed T) (followed : IsFollowed T c) (numbered : AreNumbered T c) (objects : AreWhole T c.levels) where
  pub place-whole : (p : TypedPlace) (s : Scopes) → IsPlace T p s c → IsComplete T (place_type p)
  place-whole (typed.Variable name home t) s h =
      name-whole T c.levels objects name.bytes (declared.Object t home) (subst (λ (d : Scopes). name_in d.levels name.bytes ≡ Some (declared.Object t home)) (sym h.0) h.1)
  place-whole (typed.String pieces home t) s h = string_whole (shape_at T t) (members_at T t) h.1.element _ h.1.shape.1
  place-whole (typed.ParenPlace at p) s h = place-whole p s h
  place-whole (typed.Target at e t) s h = followed t h.1.complete
  place-whole (typed.Element which a at b t) s h = followed t h.3.complete
  place-whole (typed.Member p at name i n t) s h =
      subst (IsComplete T) (sym h.1.type) (member_whole T w (place_type p) h.1.number i h.1.declared h.1.known)
  place-whole (typed.MemberAt e at name i n t) s h =
      subst (IsComplete T) (sym h.1.member.type) (member_whole T w h.1.whole h.1.member.number i h.1.member.declared h.1.member.known)
  place-whole (typed.StructAssign p at q) s h =
      subst (IsComplete T) (sym (one_type T c numbered p q h.3.types)) (place-whole q h.0 h.2)
  place-whole (typed.StructConditional d at p q) s h =
      subst (IsComplete T) (sym (one_type T c numbered p q h.6)) (place-whole q h.1 h.4)
  place-whole (typed.StructComma e p) s h = place-whole p h.0 h.2
