-- What is known of temporaries that each have their own column.
use Rattle.std.proofs.lemmas.Bool.Decides.{nat_tests}
use Rattle.std.proofs.Common.{inl, inr, ◌≡◌, refl, ap, sym, subst, ◌∙◌, ℕ, ◌+◌, ◌*◌, ◌≤◌, arith, Bool, true, false, if◌then◌else◌, Option, Some, None, List, [], ◌∷◌, nat_eq}
use Rattle.cc_base.specs.declared.number.TypeId.{TypeId}
use Rattle.cc_base.specs.declared.number.NodeId.{NodeId}
use Rattle.cc_base.specs.declared.kind.Kind.{Kind}
use Rattle.cc_base.specs.declared.kind.Kind.TheVariants.{Safe, Seq, Rtti, Wild}
use Rattle.sim_relation.specs.Ground.{word_number}
use Rattle.c_types.specs.declared.shape.TypeShape.{TypeShape}
use Rattle.c_types.specs.declared.shape.TypeShape.TheVariants as shape
use Rattle.c_types.specs.Table.{shape_at}
use Rattle.c_types.specs.Sound.{IsWellFormed, IsProper}
use Rattle.integers.specs.Arithmetic.{IntegerType}
use Rattle.cil_form.specs.declared.number.Temp.{Temp}
use Rattle.cil_form.specs.declared.number.Temp.TheVariants as temp
use Rattle.cil_form.specs.declared.number.Work.TheVariants.{First, Second}
use Rattle.cil_form.specs.State.{is_same}
use Rattle.cil_form.specs.Typing as shaped
use Rattle.cil_form.specs.Typing.{Context, Typing, HeldType, IntegerOf, PointerTo, PlaceOf, with_held, IsInteger}
use Rattle.sim_relation.specs.Points.{Known, Exact}
use Rattle.cure_rules.specs.Known as known
use Rattle.cure_rules.specs.Known.{World, known_at, known_of, with_known, Leaves, IsPlainInteger, IsExactly, IsLowly}
use Rattle.cure_scope.specs.declared.scope.Scope.{Scope}
use Rattle.cure_scope.specs.Scopes.{fixed_column, fixed_slots, world_of}
use Rattle.cure_instrs.specs.Cured.{IsIn, node_at, kind_in}

same-number : (m n : ℕ) → nat_eq m n ≡ true → n ≡ m
same-number m n e = grind (arith, nat_tests, e)

pub same_column : (t u : Temp) → is_same t u ≡ true → fixed_column u ≡ fixed_column t
same_column (temp.Value m) (temp.Value n) e = ap (λ z. 412 + 3 * z) (same-number m n e)
same_column (temp.Switch m) (temp.Switch n) e = ap (λ z. 1180 + 3 * z) (same-number m n e)
same_column (temp.Work First) (temp.Work First) e = refl
same_column (temp.Work Second) (temp.Work Second) e = refl
same_column (temp.Work First) (temp.Work Second) e = cc
same_column (temp.Work Second) (temp.Work First) e = cc
same_column (temp.Value m) (temp.Switch n) e = cc
same_column (temp.Value m) (temp.Work w) e = cc
same_column (temp.Switch m) (temp.Value n) e = cc
same_column (temp.Switch m) (temp.Work w) e = cc
same_column (temp.Work w) (temp.Value n) e = cc
same_column (temp.Work w) (temp.Switch n) e = cc

kept-at : (a b : ℕ) (held x : Option HeldType) (h : HeldType) (y : Known) (is : Bool) → (is ≡ true → b ≡ a)
    → (if is then x else held) ≡ Some h → known_at a (Some h) ≡ Some y → (if is then known_at b x else known_at a held) ≡ Some y
kept-at a b held x h y true same e f = ap (known_at b) e ∙ ap (λ c. known_at c (Some h)) (same refl) ∙ f
kept-at a b held x h y false same e f = ap (known_at a) e ∙ f

from-held : (p : ℕ) (types after : Typing) (into : Temp) (x : Option HeldType) → shaped.Includes (with_held into x types) after
    → (t : Temp) (y : Known) (h : Option HeldType) → after t ≡ h → known_at (fixed_column t) h ≡ Some y
    → with_known into (known_at (fixed_column into) x) (known_of (fixed_slots p) types) t ≡ Some y
from-held p types after into x more t y None e f = cc
from-held p types after into x more t y (Some h) e f =
    kept-at (fixed_column t) (fixed_column into) (types t) x h y (is_same t into) (same_column t into) (more t h e) f

-- what is known behind an instruction that writes a temporary
pub leaves_held : (p : ℕ) (types after : Typing) (into : Temp) (x : Option HeldType) → shaped.Includes (with_held into x types) after
    → Leaves (known_of (fixed_slots p) types) into (known_at (fixed_column into) x) (known_of (fixed_slots p) after)
leaves_held p types after into x more t y e = from-held p types after into x more t y (after t) refl e

-- what is known behind one that writes none
pub includes_held : (p : ℕ) (types after : Typing) → shaped.Includes types after → known.Includes (known_of (fixed_slots p) types) (known_of (fixed_slots p) after)
includes_held p types after more t y e = go (after t) refl e
  where
    go : (h : Option HeldType) → after t ≡ h → known_at (fixed_column t) h ≡ Some y → known_at (fixed_column t) (types t) ≡ Some y
    go None f g = cc
    go (Some h) f g = ap (known_at (fixed_column t)) (more t h f) ∙ g

-- integers

pub is_plain : (w : World) (k : Context) (t : TypeId) (i : IntegerType) → IsIn w k → IsInteger k t i → IsPlainInteger w t i
is_plain w k t i is h =
    let e : shape_at w.whole.table t ≡ shape.Integer i.bytes i.signed = ap (λ z. shape_at z t) (sym is.table) ∙ h.1 in
    (e, subst IsProper e (is.formed.each t).proper)

pub is_exactly : (p : ℕ) (types : Typing) (t : Temp) (i : IntegerType) → shaped.Holds types t (IntegerOf i)
    → IsExactly (known_of (fixed_slots p) types) t i (fixed_column t)
is_exactly p types t i h = (record { type = IntegerOf i; place = Some (fixed_column t); form = Exact; sure = [] }, ap (known_at (fixed_column t)) h.1, refl, refl, refl)

pub is_lowly : (p : ℕ) (types : Typing) (t : Temp) (i : IntegerType) → shaped.Holds types t (IntegerOf i)
    → IsLowly (known_of (fixed_slots p) types) t i (fixed_column t)
is_lowly p types t i h = (record { type = IntegerOf i; place = Some (fixed_column t); form = Exact; sure = [] }, ap (known_at (fixed_column t)) h.1, refl, refl)

-- pointers

-- a pointer type of the code is one of the world, and its node's kind is that of the type
pub kind_same : (w : World) (k : Context) (t : TypeId) (n : NodeId) (u : TypeId) → IsIn w k → shaped.IsPointer k t n u
    → known.IsPointer w t n u × (kind_in w.whole t ≡ w.whole.kind n)
kind_same w k t n u is h =
    let e : shape_at w.whole.table t ≡ shape.Pointer n u = ap (λ z. shape_at z t) (sym is.table) ∙ h.1 in
    (e, ap (λ z. w.whole.kind (node_at z)) e)

pub few_words : (kind : Kind) → word_number kind ≤ 3
few_words Safe = omega arith
few_words Seq = omega arith
few_words Rtti = omega arith
few_words Wild = omega arith

pub takes : (k : Scope) (into : Temp) (kind : NodeId → Kind) (n : NodeId) → shaped.IsTemp into → known.Takes (world_of k) into (word_number (kind n))
takes k into kind n is = (is, few_words (kind n))

address-held : (p : ℕ) (types : Typing) (t : Temp) (n : NodeId) (u : TypeId) → shaped.HoldsAddress types t n u
    → known.IsAddress (known_of (fixed_slots p) types) t n u (fixed_column t) []
address-held p types t n u (inl h) =
    (record { type = PointerTo n u; place = Some (fixed_column t); form = Exact; sure = [] }, ap (known_at (fixed_column t)) h.1, inl refl, refl, refl)
address-held p types t n u (inr h) =
    (record { type = PlaceOf n u; place = Some (fixed_column t); form = Exact; sure = [] }, ap (known_at (fixed_column t)) h.1, inr refl, refl, refl)

pub is_address : (p : ℕ) (types : Typing) (t : Temp) (n : NodeId) (u : TypeId) → shaped.HoldsAddress types t n u
    → known.IsAddress (known_of (fixed_slots p) types) t n u (fixed_column t) []
is_address p types t n u h = address-held p types t n u h

pub points : (p : ℕ) (types : Typing) (t : Temp) (n : NodeId) (u : TypeId) → shaped.Holds types t (PointerTo n u)
    → known.Points (known_of (fixed_slots p) types) t n u (fixed_column t) []
points p types t n u h = (record { type = PointerTo n u; place = Some (fixed_column t); form = Exact; sure = [] }, ap (known_at (fixed_column t)) h.1, refl, refl, refl)
