-- Lists of rules of which none is broken, and what types that are the same have in common.
use Rattle.std.proofs.Common.{◌≡◌, Bool, true, false, not, ◌&&◌, ◌||◌, List, [], ◌∷◌, ◌++◌, length, Some, None, if◌then◌else◌, refl, ap, sym}
use Rattle.std.proofs.lemmas.Option.{none-some}
use Rattle.std.proofs.lemmas.Bool.Decides.{Decides-eqb}
use Rattle.cc_base.specs.declared.place.Place.{Place}
use Rattle.cc_base.specs.declared.number.TypeId.{TypeId}
use Rattle.cc_base.specs.declared.fault.Fault.TheVariants.{Refused}
use Rattle.cc_base.specs.declared.fault.Rule.{Rule}
use Rattle.c_types.specs.declared.shape.TypeShape.{TypeShape}
use Rattle.c_types.specs.declared.shape.TypeShape.TheVariants.{Void, Integer, Pointer, Array, Function, Struct, Union}
use Rattle.c_types.specs.Table.{Table, shape_at, members_at, is_complete_entry, descend, is_empty}
use Rattle.c_types.specs.Sameness.{is_same_type, same_step, same_shape}
use Rattle.c_typing.specs.Scopes.{Scopes, is_complete_at, is_complete_shape_at, members_named}
use Rattle.c_typing.specs.Tests.{Test, broken_at, first_broken}
use Rattle.c_typing_unique.proofs.Shapes.{no_true}
use Rattle.c_typing_exact.specs.Passing.{Passes}

pub passes_one : (r : Rule) (p : Place) (b : Bool) → b ≡ false → Passes (broken_at r p b ∷ [])
passes_one r p false h = refl
passes_one r p true h = no_true (sym h)

pub passes_and : (r : Rule) (p : Place) (b : Bool) (rest : List Test) → b ≡ false → Passes rest → Passes (broken_at r p b ∷ rest)
passes_and r p false rest h k = k
passes_and r p true rest h k = no_true (sym h)

append_by : (t : Test) (all rest : List Test) (b : Bool) → (if b then Some (Refused t.place t.rule) else first_broken all) ≡ None
    → (first_broken all ≡ None → first_broken rest ≡ None)
    → (if b then Some (Refused t.place t.rule) else first_broken rest) ≡ None
append_by t all rest true g k = absurd (none-some (Refused t.place t.rule) (sym g))
append_by t all rest false g k = k g

pub passes_append : (all rest : List Test) → Passes all → Passes rest → Passes (all ++ rest)
passes_append [] rest h k = k
passes_append (t ∷ ts) rest h k = append_by t ts (ts ++ rest) t.broken h (λ g. passes_append ts rest g k)

pub and_off : (a b : Bool) → b ≡ false → (a && b) ≡ false
and_off true b h = h
and_off false b h = refl

pub or_off : (a b : Bool) → a ≡ false → b ≡ false → (a || b) ≡ false
or_off true b h k = h
or_off false b h k = k

pub or_on : (a b : Bool) → b ≡ true → (a || b) ≡ true
or_on true b h = refl
or_on false b h = h

pub off : (b : Bool) → b ≡ true → not b ≡ false
off true h = refl
off false h = no_true h

-- types that are the same are complete at the same points

same_complete : (f : TypeId → TypeId → Bool) (T : Table) (s : Scopes) (t u : TypeId) (x y : TypeShape) → same_shape f x y ≡ true
    → is_complete_shape_at s (is_complete_entry x (members_at T t)) x ≡ is_complete_shape_at s (is_complete_entry y (members_at T u)) y
same_complete f T s t u Void Void h = refl
same_complete f T s t u (Integer a m) (Integer b n) h = refl
same_complete f T s t u (Pointer n v) (Pointer m w) h = refl
same_complete f T s t u (Array v a) (Array w b) h = refl
same_complete f T s t u (Function ps r) (Function qs q) h = refl
same_complete f T s t u (Struct a) (Struct b) h = ap (λ n. not (is_empty (members_named s n))) ((Decides-eqb a b).0 h)
same_complete f T s t u (Union a) (Union b) h = ap (λ n. not (is_empty (members_named s n))) ((Decides-eqb a b).0 h)
same_complete f T s t u x y h = no_true h

pub same-complete : (T : Table) (s : Scopes) (t u : TypeId) → is_same_type T t u ≡ true → is_complete_at T s t ≡ is_complete_at T s u
unfolding is_same_type
same-complete T s t u h = same_complete (descend (same_step T) (λ v. false) (length T)) T s t u (shape_at T t) (shape_at T u) h
