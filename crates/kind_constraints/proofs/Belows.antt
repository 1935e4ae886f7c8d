-- Which types have a pointee below them, by the first types that are physically equal.
use Rattle.std.specs.Prelude.{◌↔◌, IsTrue}
use Rattle.std.proofs.Common.{◌≡◌, Bool, true, false, List, Some, refl, ap, sym, subst, ◌∙◌}
use Rattle.std.specs.Bool.{Decides}
use Rattle.std.specs.List.{Contains, list_any}
use Rattle.std.proofs.lemmas.Bool.Decides.{Decides-eqb}
use Rattle.cc_base.specs.declared.number.TypeId.{TypeId}
use Rattle.cc_base.specs.declared.place.Place.{Place}
use Rattle.cc_base.specs.contracts.number.TypeIdPartialEq.TheImpl as types
use Rattle.kind_sites.specs.declared.site.Site.{Site}
use Rattle.kind_sites.specs.declared.site.Site.TheVariants as site
use Rattle.c_types.specs.Table.{Table, IsType}
use Rattle.c_types.specs.Equality.{physically_equal, strictly_below}
use Rattle.kind_sites.specs.Solutions.{HasBelow}
use Rattle.c_types.specs.Sound.{IsWellFormed}
use Rattle.type_laws.proofs.Relations.{equal_equiv}
use Rattle.phys_types.specs.Firsts.{IsFirstEqual, AreFirstEquals}
use Rattle.phys_types.proofs.FirstEquals.{first_typed}
use Rattle.constraint_laws.proofs.Below.{below-alike, has-below-alike}
use Rattle.constraint_laws.proofs.Solved.{any-true, true-any}
use Rattle.kind_constraints.specs.Adding.{OfSome}
use Rattle.kind_constraints.specs.Pieces.{IsPointee, IsFirstOf, ArePointees, first_in, pointee_of, union_place_of}

abbrev pub type_eq : TypeId → TypeId → Bool
type_eq = types.ghosts.eq

pub same_id : (x y : TypeId) → type_eq x y ≡ true → x ≡ y
same_id x y h = let a = (Decides-eqb x.0 y.0).0 h in λ i. record { 0 = a i }

pub pointee_told : (sites : List Site) (t : TypeId) → OfSome sites (λ s t. pointee_of s ≡ Some t) t → IsPointee sites t
pointee_told sites t (s, c, e) = by s c e
  where
    by : (s : Site) → Contains sites s → pointee_of s ≡ Some t → IsPointee sites t
    by (site.Pointee n u) c e = (n, subst (λ x. Contains sites (site.Pointee n x)) (let z : u ≡ t = cc (e) in z) c)
    by (site.Flow from x to y place) c e = absurd (cc (e))
    by (site.Arith n place) c e = absurd (cc (e))
    by (site.Integer n place) c e = absurd (cc (e))
    by (site.Linked a b) c e = absurd (cc (e))
    by (site.Same x y) c e = absurd (cc (e))
    by (site.Home n x) c e = absurd (cc (e))
    by (site.Union x place) c e = absurd (cc (e))

pub told_pointee : (sites : List Site) (t : TypeId) → IsPointee sites t → OfSome sites (λ s t. pointee_of s ≡ Some t) t
told_pointee sites t (n, c) = (site.Pointee n t, c, refl)

-- the first of the types like each pointee
pub first_told : (firsts : List TypeId) (sites : List Site) (q : TypeId) → OfSome sites (IsFirstOf firsts) q → (t : TypeId) × IsPointee sites t × (q ≡ first_in firsts t)
first_told firsts sites q (s, c, (t, e, f)) = (t, pointee_told sites t (s, c, e), f)

pub told_first : (firsts : List TypeId) (sites : List Site) (q : TypeId) → (t : TypeId) × IsPointee sites t × (q ≡ first_in firsts t) → OfSome sites (IsFirstOf firsts) q
told_first firsts sites q (t, (n, c), f) = (site.Pointee n t, c, (t, refl, f))

module _ (table : Table) (w : IsWellFormed table) (sites : List Site) (firsts : List TypeId) (equal : AreFirstEquals table firsts)
    (typed : (t : TypeId) → IsPointee sites t → IsType table t) where
  turned : (x y : TypeId) → physically_equal table x y ≡ true → physically_equal table y x ≡ true
  turned x y h = (equal_equiv table).symm y x ∙ h

  -- a type has a pointee below it where one of the first types does lie below it
  pub below_told : (pointees : List TypeId) → ArePointees firsts sites pointees → (t : TypeId) → IsTrue (list_any (λ q. strictly_below table q t) pointees) ↔ HasBelow table sites t
  below_told pointees each t = (
    λ h.
        let r = true-any (λ q. strictly_below table q t) pointees h in
        let p = (each r.0).0 r.1 in
        let g : IsFirstEqual table p.0 r.0 = subst (IsFirstEqual table p.0) (sym p.2) (equal.first p.0 (record { 0 = 0 }) (typed p.0 p.1)) in
        record { node = p.1.0; pointee = p.0; site = p.1.1; below = below-alike table w r.0 t p.0 t r.2 (turned p.0 r.0 g.equal) ((equal_equiv table).refl t) },
    λ b.
        let g = equal.first b.pointee (record { 0 = 0 }) (typed b.pointee (b.node, b.site)) in
        any-true (λ q. strictly_below table q t) pointees (first_in firsts b.pointee)
        ((each (first_in firsts b.pointee)).1 (b.pointee, (b.node, b.site), refl))
        (below-alike table w b.pointee t (first_in firsts b.pointee) t b.below g.equal ((equal_equiv table).refl t)),
  )

  -- and where the first type that is equal to it has one
  pub first_below : (t f : TypeId) → IsFirstEqual table t f → (b : Bool) → IsTrue b ↔ HasBelow table sites f → IsTrue b ↔ HasBelow table sites t
  first_below t f e b h = (
    λ k. has-below-alike table w sites f t (turned t f e.equal) (h.0 k),
    λ k. h.1 (has-below-alike table w sites t f e.equal k),
  )

  -- the types that are kept are types of the table
  pub pointees_typed : (pointees : List TypeId) → ArePointees firsts sites pointees → (q : TypeId) → Contains pointees q → IsType table q
  pointees_typed pointees each q c =
      let p = (each q).0 c in
      subst (IsType table) (sym p.2) (first_typed table firsts equal p.0 (record { 0 = 0 }) (typed p.0 p.1))

-- the unions that sites tell of, with their places
pub place_told : (sites : List Site) (x : TypeId × Place) → OfSome sites (λ s x. union_place_of s ≡ Some x) x → Contains sites (site.Union x.0 x.1)
place_told sites x (s, c, e) = by s c e
  where
    by : (s : Site) → Contains sites s → union_place_of s ≡ Some x → Contains sites (site.Union x.0 x.1)
    by (site.Union v place) c e = let z : (v, place) ≡ x = cc (e) in subst (λ (y : TypeId × Place). Contains sites (site.Union y.0 y.1)) z c
    by (site.Pointee n u) c e = absurd (cc (e))
    by (site.Flow from a to b place) c e = absurd (cc (e))
    by (site.Arith n place) c e = absurd (cc (e))
    by (site.Integer n place) c e = absurd (cc (e))
    by (site.Linked a b) c e = absurd (cc (e))
    by (site.Same a b) c e = absurd (cc (e))
    by (site.Home n a) c e = absurd (cc (e))

pub told_place : (sites : List Site) (x : TypeId × Place) → Contains sites (site.Union x.0 x.1) → OfSome sites (λ s x. union_place_of s ≡ Some x) x
told_place sites x c = (site.Union x.0 x.1, c, refl)

pub decided_id : (x y : TypeId) → Decides (type_eq x y) (x ≡ y)
decided_id x y = (same_id x y, λ e. (Decides-eqb x.0 y.0).1 (ap (λ (t : TypeId). t.0) e))

pub own_id : (x : TypeId) → type_eq x x ≡ true
own_id x = (Decides-eqb x.0 x.0).1 refl

pub among : (xs : List TypeId) (v : TypeId) → list_any (λ y. type_eq y v) xs ≡ true → Contains xs v
among xs v h = let r = true-any (λ y. type_eq y v) xs h in subst (Contains xs) (same_id r.0 v r.2) r.1

pub not_among : (xs : List TypeId) (v : TypeId) → list_any (λ y. type_eq y v) xs ≡ false → Contains xs v → ⊥
not_among xs v h c = cc (h, any-true (λ y. type_eq y v) xs v c (own_id v))
