-- What the curer asks of an instruction follows from its shape, from the kinds and from the limits of programs.
use Rattle.std.proofs.Common.{◌≡◌, ◌⊎◌, inl, inr, ◌∙◌, ℕ, zero, suc, ◌+◌, ◌*◌, ◌<◌, ◌≤◌, Bool, true, false, List, [], ◌∷◌, map, length, slice_get, Option, Some, refl, ap, sym, subst, ⊎_elim, arith}
use Rattle.std.specs.Prelude.{IsSome, slice_index_or}
use Rattle.std.specs.List.{All, Contains}
use Rattle.std.proofs.lemmas.List.Elements.{All-contains}
use Rattle.std.proofs.lemmas.Option.{slice_get-get_or}
use Rattle.cc_base.specs.declared.kind.Kind.{Kind}
use Rattle.cc_base.specs.declared.kind.Kind.TheVariants.{Safe, Seq, Rtti, Wild}
use Rattle.cc_base.specs.declared.number.NodeId.{NodeId}
use Rattle.cc_base.specs.declared.number.TypeId.{TypeId}
use Rattle.c_types.specs.declared.flow_class.FlowClass.{FlowClass}
use Rattle.c_types.specs.declared.shape.TypeShape.{TypeShape}
use Rattle.c_types.specs.declared.shape.TypeShape.TheVariants as shape
use Rattle.kind_sites.specs.declared.site.Site.TheVariants as site
use Rattle.c_types.specs.Table.{Table, IsType, IsComplete, shape_at, members_at, is_complete, is_function, is_union_shape, is_complete_entry, named_by, void_entry}
use Rattle.c_types.specs.Cells.{holds_pointer, Cell, raw, pointer, mixed, incomplete}
use Rattle.c_types.specs.Equality.{cells_of, physically_equal}
use Rattle.c_types.specs.Flows.{CellsAgree, flow_class}
use Rattle.kind_sites.specs.Solutions.{SpreadsWild, IsUnionAllowed, IsPointeeAllowed, allows}
use Rattle.c_types.specs.Sound.{IsWellFormed, IsProper}
use Rattle.c_types.proofs.Lists.{contains_head}
use Rattle.type_laws.proofs.Sizes.{equal_counts}
use Rattle.integers.specs.Arithmetic.{IntegerType}
use Rattle.src_mem.specs.Memory.{Planned}
use Rattle.src_mem.specs.State.{Setting, Defined, wrong}
use Rattle.src_mem.specs.Operations.{node_of_shape, pointee_of_shape}
use Rattle.src_mem.proofs.Right.{no_function}
use Rattle.facts_kept.proofs.Agree.{class-cells}
use Rattle.facts_kept.proofs.Complete.{cells-whole, complete-cell, complete-data, complete-some}
use Rattle.facts_kept.proofs.Flow.{equal-data}
use Rattle.facts_kept.proofs.PartsSpread.{member-fits}
use Rattle.facts_kept.proofs.Places.{spread}
use Rattle.cil_form.specs.declared.number.Temp.{Temp}
use Rattle.cil_form.specs.declared.number.Object.{Object}
use Rattle.cil_form.specs.declared.number.Object.TheVariants as object
use Rattle.cil_form.specs.declared.instr.Set.{Set}
use Rattle.cil_form.specs.declared.instr.Set.TheVariants as set
use Rattle.cil_form.specs.declared.instr.Calculate.{Calculate}
use Rattle.cil_form.specs.declared.instr.Calculate.TheVariants as calculate
use Rattle.cil_form.specs.declared.instr.Point.{Point}
use Rattle.cil_form.specs.declared.instr.Point.TheVariants as point
use Rattle.cil_form.specs.declared.instr.Convert.{Convert}
use Rattle.cil_form.specs.declared.instr.Convert.TheVariants as convert
use Rattle.cil_form.specs.declared.instr.Target.TheVariants as target
use Rattle.cil_form.specs.declared.instr.Access.{Access}
use Rattle.cil_form.specs.declared.instr.Access.TheVariants as access
use Rattle.cil_form.specs.declared.instr.Allocate.{Allocate}
use Rattle.cil_form.specs.declared.instr.Allocate.TheVariants as allocate
use Rattle.cil_form.specs.declared.instr.Call.{Call}
use Rattle.cil_form.specs.declared.instr.Instr.{Instr}
use Rattle.cil_form.specs.declared.instr.Instr.TheVariants as instr
use Rattle.cil_form.specs.State.{Around}
use Rattle.cil_form.specs.Sites.{AreAmong, sites_of_convert, sites_of_access}
use Rattle.cil_form.specs.Told.{AreAsked}
use Rattle.cil_form.specs.Typing as typing
use Rattle.cil_form.specs.Typing.{Context, HeldType, IntegerOf, PointerTo, PlaceOf, Typing, IsInteger, IsPointer, IsScalar, IsObject, IsPart, IsTemp, HoldsScalar, HoldsInteger, HoldsAddress, IsTarget, IsShapedSet, IsShapedCalculate, IsShapedPoint, IsShapedConvert, IsShapedAccess, IsShapedAllocate, IsShapedCall, IsShaped, held_shape, no_types}
use Rattle.cil_facts.specs.Held.{IsSolvedFor}
use Rattle.cil_facts.proofs.Accesses.{place-allowed}
use Rattle.sim_relation.specs.Ground.{word_number}
use Rattle.cure_rules.specs.Known.{World, words_by, words_in}
use Rattle.cure_rules.specs.Accesses as accesses
use Rattle.cure_instrs.specs.Lines.{HasInteger, AgreeOn}
use Rattle.cure_instrs.specs.Cured.{IsHome, node_at, kind_in, CanSet, CanCalculate, IsAsked, HasPointer, IsPointerAt, CanReach}
use Rattle.cure_points.specs.Lines.{IsSmallReach, IsIntegerHeld, CanMove, HavePointers}
use Rattle.cure_calls.specs.Lines.{FitsRow, IsFunctionAt, HasFunction, CanCall, CanReturn}
use Rattle.cure_blocks.specs.Cured.{IsNumbered, AreConverted, AreTypes, CanConvert, CanAllocate}
use Rattle.cure_blocks.specs.Rows.{pointee_at}
use Rattle.cure_objects.specs.Cured.{HasPlan, CanPlace}
use Rattle.cure_objects.specs.Copies.{IsWild, AreCopied, CanCopy, CanCopyPart}
use Rattle.cure_ready.specs.Curable.{IsCurable, CanPoint, CanAccess, CanBeCured}
use Rattle.cure_ready.proofs.Parts.{member-complete, part-fits, part-spreads}
use Rattle.cure_ready.proofs.PartStarts.{all_safe, all_allowed}
use Rattle.cure_ready.proofs.Sizes.{small-reach}

-- what code may name, over the table of the curer's world
abbrev seen : Context → World → Context
seen k w = record k { table = w.whole.table }

-- a run under the curer's kinds, of functions of which the types alone count
abbrev defined : TypeId → Defined
defined v = record { type = v; variables = [] }

abbrev setting_of : Context → World → Setting
setting_of k w = record { table = w.whole.table; kind = w.whole.kind; functions = map defined k.functions }

abbrev around : Context → World → Around
around k w = record { setting = setting_of k w; depth = 0; first = 0; call = λ f depth arguments. wrong }

mapped : (vs : List TypeId) (f : ℕ) (v : TypeId) → slice_get vs f ≡ Some v → slice_get (map defined vs) f ≡ Some (defined v)
mapped [] f v e = absurd (cc (e))
mapped (u ∷ vs) zero v e = let it : u ≡ v = cc (e) in ap (λ z. Some (defined z)) it
mapped (u ∷ vs) (suc f) v e = mapped vs f v e

-- Kinds

plain-home : (x : Kind) → (x ≡ Safe) ⊎ (x ≡ Wild) → IsHome x
plain-home x h = ⊎_elim (λ e. subst IsHome (sym e) tt) (λ e. subst IsHome (sym e) tt) h

numbered : (x : Kind) → (x ≡ Seq) ⊎ (x ≡ Wild) → IsNumbered x
numbered x h = ⊎_elim (λ e. subst IsNumbered (sym e) tt) (λ e. subst IsNumbered (sym e) tt) h

agree-on : (a b : Kind) → (a ≡ Wild → b ≡ Wild) → AgreeOn a b
agree-on Wild b h = subst (AgreeOn Wild) (sym (h refl)) tt
agree-on Safe b h = tt
agree-on Seq b h = tt
agree-on Rtti b h = tt

copied : (holds : Bool) (a b : Kind) → ((a ≡ Wild) → b ≡ Wild) → ((b ≡ Wild) → a ≡ Wild) → AreCopied holds a b
copied false a b h g = tt
copied true Wild b h g = subst IsWild (sym (h refl)) tt
copied true Safe Wild h g = let e = g refl in absurd (cc (e))
copied true Safe Safe h g = tt
copied true Safe Seq h g = tt
copied true Safe Rtti h g = tt
copied true Seq Wild h g = let e = g refl in absurd (cc (e))
copied true Seq Safe h g = tt
copied true Seq Seq h g = tt
copied true Seq Rtti h g = tt
copied true Rtti Wild h g = let e = g refl in absurd (cc (e))
copied true Rtti Safe h g = tt
copied true Rtti Seq h g = tt
copied true Rtti Rtti h g = tt

allowed-converted : (a b : Kind) (class : FlowClass) (below : Bool) → allows a b class below ≡ true → AreConverted a b
allowed-converted Wild Wild class below h = tt
allowed-converted Wild Safe class below h = absurd (cc (h))
allowed-converted Wild Seq class below h = absurd (cc (h))
allowed-converted Wild Rtti class below h = absurd (cc (h))
allowed-converted Seq Wild class below h = absurd (cc (h))
allowed-converted Seq Safe class below h = tt
allowed-converted Seq Seq class below h = tt
allowed-converted Seq Rtti class below h = tt
allowed-converted Safe Wild class below h = absurd (cc (h))
allowed-converted Safe Safe class below h = tt
allowed-converted Safe Seq class below h = absurd (cc (h))
allowed-converted Safe Rtti class below h = tt
allowed-converted Rtti Wild class below h = absurd (cc (h))
allowed-converted Rtti Safe class below h = tt
allowed-converted Rtti Seq class below h = absurd (cc (h))
allowed-converted Rtti Rtti class below h = tt

-- Types

type-there : (xs : Table) (n : ℕ) → is_complete (slice_index_or xs n void_entry) ≡ true → n < length xs
type-there [] n h = absurd (cc (h))
type-there (x ∷ xs) zero h = omega arith
type-there (x ∷ xs) (suc n) h = let l = type-there xs n h in omega (arith, l)

hole : (table : Table) (c : Cell) (v : TypeId) → CellsAgree table (λ n. Safe) c (incomplete v) → c ≡ incomplete v
hole table raw v h = absurd h
hole table (pointer n t i) v h = absurd h
hole table (mixed u i) v h = absurd h
hole table (incomplete u) v h = ap incomplete h

-- what is physically equal to a complete type is complete
alike-complete : (table : Table) → IsWellFormed table → (t u : TypeId) → IsComplete table t → physically_equal table t u ≡ true → IsComplete table u
alike-complete table sound t u c equal =
    complete-cell table sound u data_type (slice_index_or (cells_of table u) 0 raw) first
    (λ v g.
    let x = class-cells (all_safe table) sound t u (complete-data table sound t c) data_type (record { equal = equal; kinds = λ p q h. refl }) 0
    (slice_index_or (cells_of table u) 0 raw) first in
    cells-whole table sound t c 0 v (x.1 ∙ ap Some (hole table x.0 v (subst (λ z. CellsAgree table (λ n. Safe) x.0 z) g x.2))))
  where
    data_type : is_function table u ≡ false
    data_type = equal-data table sound t u (complete-data table sound t c) equal

    first : slice_get (cells_of table u) 0 ≡ Some (slice_index_or (cells_of table u) 0 raw)
    first =
        let n = equal_counts table sound t u equal in
        let s = (complete-some table sound t c).0 in
        slice_get-get_or (cells_of table u) 0 raw (omega (arith, n, s))

-- Words

words-few : (kind : NodeId → Kind) (s : TypeShape) → words_by kind s ≤ 3
words-few kind shape.Void = omega arith
words-few kind (shape.Integer bytes signed) = omega arith
words-few kind (shape.Pointer n u) = by (kind n)
  where
    by : (k : Kind) → word_number k ≤ 3
    by Safe = omega arith
    by Seq = omega arith
    by Rtti = omega arith
    by Wild = omega arith
words-few kind (shape.Array u n) = omega arith
words-few kind (shape.Function ps q) = omega arith
words-few kind (shape.Struct tag) = omega arith
words-few kind (shape.Union tag) = omega arith

fits : (w : World) (ps : List TypeId) (n j : ℕ) → ((i : ℕ) (t : TypeId) → slice_get ps i ≡ Some t → n + i < 256) → j + 3 * length ps ≤ 381
    → FitsRow w n ps j
unfolding FitsRow
fits w [] n j h l = tt
fits w (t ∷ ts) n j h l =
    let words = words-few w.whole.kind (shape_at w.whole.table t) in
    let z = h 0 t refl in (
      omega (arith, z),
      omega (arith, words, l),
      fits w ts (suc n) (j + words_in w.whole t) (λ i u e. let y = h (suc i) u e in omega (arith, y)) (omega (arith, words, l)),
    )

module _ (k : Context) (w : World) (r : IsCurable (seen k w) w) (types after : Typing) (asked : AreAsked k.sites types) where
  solved : IsSolvedFor (seen k w) (setting_of k w)
  solved = record {
    table = refl;
    well_formed = r.inside.formed;
    solution = r.solution;
    made = r.made;
    told = r.told;
    tells = r.tells;
    functions = λ f v e. (defined v, mapped k.functions f v e, refl, r.functions f v e);
  }

  pointee-of : (t : TypeId) (n : NodeId) (u : TypeId) → shape_at w.whole.table t ≡ shape.Pointer n u
      → IsPointeeAllowed w.whole.table w.whole.kind n u
  pointee-of t n u e = r.solution.each (site.Pointee n u) (r.tells.pointers t n u e)

  home-of : (o : Object) (home : NodeId) (t : TypeId) → IsObject (seen k w) o home t → IsHome (w.whole.kind home)
  home-of o home t h =
      let s = r.solution.each (site.Home home h.0) (r.objects o (record { type = h.0; node = home }) h.1).0 in
      plain-home (w.whole.kind home) s.plain

  integer-at : (t : TypeId) (i : IntegerType) → IsInteger (seen k w) t i → HasInteger w.whole t
  unfolding HasInteger
  integer-at t i h = (i, h.0, h.1, subst IsProper h.1 (r.inside.formed.each t).proper)

  pointer-at : (t : TypeId) (n : NodeId) (u : TypeId) → IsPointer (seen k w) t n u → HasPointer w.whole t
  unfolding HasPointer
  pointer-at t n u h = (n, u, h.0, h.1)

  scalar-at : (t : TypeId) → IsScalar (seen k w) t → HasInteger w.whole t ⊎ HasPointer w.whole t
  scalar-at t h = by (shape_at w.whole.table t) refl h.1
    where
      by : (s : TypeShape) → shape_at w.whole.table t ≡ s → IsSome (held_shape s) → HasInteger w.whole t ⊎ HasPointer w.whole t
      by (shape.Integer bytes signed) e f = inl (integer-at t (record { bytes = bytes; signed = signed }) (h.0, e))
      by (shape.Pointer n u) e f = inr (pointer-at t n u (h.0, e))
      by shape.Void e f = absurd (cc (f))
      by (shape.Array u n) e f = absurd (cc (f))
      by (shape.Function ps q) e f = absurd (cc (f))
      by (shape.Struct tag) e f = absurd (cc (f))
      by (shape.Union tag) e f = absurd (cc (f))

  scalar-data : (t : TypeId) → IsScalar (seen k w) t → is_function w.whole.table t ≡ false
  scalar-data t h = by (shape_at w.whole.table t) refl h.1
    where
      by : (s : TypeShape) → shape_at w.whole.table t ≡ s → IsSome (held_shape s) → is_function w.whole.table t ≡ false
      by (shape.Integer bytes signed) e f = no_function w.whole.table t (shape.Integer bytes signed) e refl
      by (shape.Pointer n u) e f = no_function w.whole.table t (shape.Pointer n u) e refl
      by shape.Void e f = absurd (cc (f))
      by (shape.Array u n) e f = absurd (cc (f))
      by (shape.Function ps q) e f = absurd (cc (f))
      by (shape.Struct tag) e f = absurd (cc (f))
      by (shape.Union tag) e f = absurd (cc (f))

  -- what a shape names is in the table
  named : (t : TypeId) (n : NodeId) (u : TypeId) → shape_at w.whole.table t ≡ shape.Pointer n u → IsType w.whole.table u
  named t n u e =
      let all = subst (λ s. All (IsType w.whole.table) (named_by s)) e (r.inside.formed.each t).named in
      All-contains (IsType w.whole.table) (u ∷ []) u all (contains_head u [])

  held-some : (a : Temp) (x : Option HeldType) → HoldsScalar types a → types a ≡ x → IsSome x
  held-some a x h e = subst (λ (z : Option HeldType). IsSome z) (sym h.1.1 ∙ e) refl

  integer-held : (a : Temp) (x : Option HeldType) → HoldsInteger types a → types a ≡ x → IsIntegerHeld x
  integer-held a x h e = subst IsIntegerHeld (sym h.1.1 ∙ e) tt

  -- Constants and operators

  function-there : (u v : TypeId) → physically_equal w.whole.table u v ≡ true → is_function w.whole.table v ≡ true → is_function w.whole.table u ≡ true
  function-there u v equal function = by (is_function w.whole.table u) refl
    where
      by : (b : Bool) → is_function w.whole.table u ≡ b → is_function w.whole.table u ≡ true
      by true e = e
      by false e = let d = equal-data w.whole.table r.inside.formed u v e equal in absurd (cc (d, function))

  can-set : (i : Set) → IsShapedSet i (seen k w) types after → CanSet i w.whole
  can-set (set.Integer into z t) s = tt
  can-set (set.Null into t) s = tt
  can-set (set.Function into f t) s =
      let allowed = pointee-of t s.0 s.1 s.3.1 in
      subst (λ x. IsHome (w.whole.kind (node_at x))) (sym s.3.1)
      (plain-home (w.whole.kind s.0) (allowed.function (function-there s.1 s.2 s.5 (r.functions f.0 s.2 s.4))))
  can-set (set.Object into o home t) s = home-of o home t s.0
  can-set (set.Copy into source) s = tt

  can-calculate : (i : Calculate) → IsShapedCalculate i (seen k w) types after → (x : Option HeldType) → IsAsked i types x
      → CanCalculate i w.whole x
  can-calculate (calculate.Negate into a t) s x e = integer-at t s.0 s.1
  can-calculate (calculate.Complement into a t) s x e = integer-at t s.0 s.1
  can-calculate (calculate.Binary into operator a b t at) s x e = integer-at t s.0 s.1
  can-calculate (calculate.Truth into a) s x e = held-some a x s.0 e
  can-calculate (calculate.Not into a) s x e = held-some a x s.0 e

  -- Pointers

  can-move : (t : TypeId) (n : NodeId) (u : TypeId) → IsPointer (seen k w) t n u → IsComplete w.whole.table u → (x : Option HeldType)
      → IsIntegerHeld x → CanMove w t x
  unfolding CanMove IsPointerAt
  can-move t n u h complete x held = (
    pointer-at t n u h,
    held,
    λ m v e.
        let f = h.1 in
        let same : u ≡ v = cc (e, f) in
        subst (λ y. IsSmallReach w (w.whole.kind m) y) same (small-reach w r.inside.formed r.sizes (w.whole.kind m) u complete),
  )

  have-pointers : (t s : TypeId) → HasPointer w.whole t → HasPointer w.whole s → HavePointers w.whole t s
  unfolding HavePointers
  have-pointers t s p q = (p, q)

  can-point : (i : Point) → IsShapedPoint i (seen k w) types after → CanPoint i w types
  can-point (point.Move into p n way t at) s = λ x e. can-move t s.0 s.1 s.2 s.3.1 x (integer-held n x s.5 e)
  can-point (point.Difference into a t b v at) s = have-pointers t v (pointer-at t s.0 s.2 s.4) (pointer-at v s.1 s.3 s.5)
  can-point (point.Compare into which a t b v at) s = have-pointers t v (pointer-at t s.0 s.2 s.4) (pointer-at v s.1 s.3 s.5)
  can-point (point.IsNull into p t different) s = λ x e. subst (λ (z : Option HeldType). IsSome z) (sym s.3.1 ∙ e) refl
  can-point (point.Member into source outer t i inner u at) s = (
    s.2.0,
    s.2.1,
    s.3,
    s.4,
    let f = member-fits (all_safe w.whole.table) r.inside.formed (all_allowed w.whole.table) t i s.4 s.2.1 s.3
        (member-complete (all_safe w.whole.table) r.inside.formed t i s.3 s.4) in omega (arith, f),
  )
  can-point (point.Decay into source outer array check inner element at) s = tt
  can-point (point.Address into source outer inner t) s = tt

  can-convert : (i : Convert) → IsShapedConvert i (seen k w) types after → AreAmong k.sites (sites_of_convert w.whole.table i)
      → CanConvert i w.whole
  can-convert (convert.Integer into source t) s a = tt
  can-convert (convert.FromPointer into source t v) s a = tt
  can-convert (convert.ToPointer into source t at) s a =
      let known = subst (λ x. Contains k.sites (site.Integer (node_of_shape x) at)) s.2.1 a.0 in
      subst (λ x. IsNumbered (w.whole.kind (node_at x))) (sym s.2.1)
      (numbered (w.whole.kind s.0) (r.solution.each (site.Integer s.0 at) known))
  can-convert (convert.Pointer into source t v at) s a =
      subst (λ x. AreTypes w.whole.table (pointee_at x) (pointee_at (shape_at w.whole.table v)) × AreConverted (w.whole.kind (node_at x)) (kind_in w.whole v))
      (sym s.4.1)
      (subst (λ y. AreTypes w.whole.table s.2 (pointee_at y) × AreConverted (w.whole.kind s.0) (w.whole.kind (node_at y))) (sym s.5.1)
      ((named t s.0 s.2 s.4.1, named v s.1 s.3 s.5.1), converted))
    where
      first : Contains k.sites (site.Flow s.0 s.2 (node_of_shape (shape_at w.whole.table v)) (pointee_of_shape (shape_at w.whole.table v)) at)
      first = subst (λ x. Contains k.sites (site.Flow (node_of_shape x) (pointee_of_shape x) (node_of_shape (shape_at w.whole.table v))
          (pointee_of_shape (shape_at w.whole.table v)) at)) s.4.1 a.0

      known : Contains k.sites (site.Flow s.0 s.2 s.1 s.3 at)
      known = subst (λ y. Contains k.sites (site.Flow s.0 s.2 (node_of_shape y) (pointee_of_shape y) at)) s.5.1 first

      converted : AreConverted (w.whole.kind s.0) (w.whole.kind s.1)
      converted =
          let flow = r.solution.each (site.Flow s.0 s.2 s.1 s.3 at) known in
          allowed-converted (w.whole.kind s.0) (w.whole.kind s.1) (flow_class w.whole.table s.2 s.3) flow.below flow.allowed

  -- Memory

  can-reach : (n : NodeId) (t : TypeId) → IsScalar (seen k w) t → SpreadsWild w.whole.table w.whole.kind n t → CanReach w.whole n t
  unfolding CanReach IsPointerAt
  can-reach n t h spreads = (
    scalar-at t h,
    λ m u e.
        agree-on (w.whole.kind n) (w.whole.kind m)
        (λ wild. spread (setting_of k w) r.inside.formed [] n m t u e (scalar-data t h) spreads wild),
  )

  spreads-held : (source : Temp) (n : NodeId) (t : TypeId) → is_function w.whole.table t ≡ false → HoldsAddress types source n t
      → SpreadsWild w.whole.table w.whole.kind n t
  spreads-held source n t data_type h =
      ⊎_elim (λ i. let s = r.solution.each (site.Pointee n t) (asked source (PointerTo n t) i.1) in s.spreads)
      (λ i. (place-allowed (seen k w) (around k w) solved n t data_type (asked source (PlaceOf n t) i.1)).0) h

  object-complete : (o : Object) (home : NodeId) (u : TypeId) → IsObject (seen k w) o home u → IsComplete w.whole.table u
  object-complete o home u h =
      let c = (r.objects o (record { type = h.0; node = home }) h.1).1.1 in
      ⊎_elim (λ same. subst (IsComplete w.whole.table) same c) (λ d. alike-complete w.whole.table r.inside.formed h.0 u c d.0) h.2

  can-place : (o : Object) (home : NodeId) (u : TypeId) (offset : ℕ) (t : TypeId) → IsObject (seen k w) o home u
      → IsPart w.whole.table u offset t → CanPlace w.whole u offset
  unfolding CanPlace
  can-place o home u offset t h part = (
    type-there w.whole.table u.0 (object-complete o home u h),
    object-complete o home u h,
    let f = part-fits (all_safe w.whole.table) r.inside.formed (all_allowed w.whole.table) u offset t part (object-complete o home u h) in
        omega (arith, f),
  )

  union-allowed : (v : TypeId) (tag : ℕ) → shape_at w.whole.table v ≡ shape.Union tag → IsUnionAllowed w.whole.table w.whole.kind v
  union-allowed v tag e = by (members_at w.whole.table v) refl
    where
      none : (u : TypeId) → Contains [] u → ⊥
      none u h = let n = h.1 in omega (arith, n)

      by : (ms : List TypeId) → members_at w.whole.table v ≡ ms → IsUnionAllowed w.whole.table w.whole.kind v
      by [] f = λ plain u m h. absurd (none u (subst (λ xs. Contains xs u) f h))
      by (x ∷ xs) f =
          let known = r.told.unions v (ap is_union_shape e)
          (ap (λ s. is_complete_entry s (members_at w.whole.table v)) e ∙ ap (λ ms. is_complete_entry (shape.Union tag) ms) f) in
          r.solution.each (site.Union v known.0) known.1

  part-reached : (o : Object) (home : NodeId) (u : TypeId) (offset : ℕ) (t : TypeId) → IsObject (seen k w) o home u
      → IsPart w.whole.table u offset t → IsScalar (seen k w) t → CanReach w.whole home t
  part-reached o home u offset t h part scalar =
      let complete = object-complete o home u h in
      let data_type = complete-data w.whole.table r.inside.formed u complete in
      let s = place-allowed (seen k w) (around k w) solved home u data_type (r.tells.objects o home u h) in
      can-reach home t scalar (part-spreads (setting_of k w) r.inside.formed union-allowed home u offset t part complete s.0)

  same-plan : (o : Object) → typing.plan_of (seen k w) o ≡ accesses.plan_of w o
  same-plan (object.Static n) = ap (λ xs. slice_get xs n.0) r.inside.statics
  same-plan (object.Variable n) = ap (λ xs. slice_get xs n.0) r.inside.variables

  has-plan : (o : Object) → IsSome (typing.plan_of (seen k w) o) → HasPlan w o
  unfolding HasPlan
  has-plan o h = (
    subst (λ (z : Option Planned). IsSome z) (same-plan o) h,
    λ x e. let s = r.solution.each (site.Home x.node x.type) (r.objects o x (same-plan o ∙ e)).0 in plain-home (w.whole.kind x.node) s.plain,
  )

  both : (holds : Bool) (to n : NodeId) → Contains k.sites (site.Linked to n) → AreCopied holds (w.whole.kind n) (w.whole.kind to)
  both holds to n h = let l = r.solution.each (site.Linked to n) h in copied holds (w.whole.kind n) (w.whole.kind to) l.1 l.0

  can-copy : (to n : NodeId) (t : TypeId) → IsType w.whole.table t → Contains k.sites (site.Linked to n) → CanCopy w.whole to n t
  unfolding CanCopy
  can-copy to n t h known = (h, both (holds_pointer w.whole.table t) to n known)

  can-copy-part : (home : NodeId) (u : TypeId) (offset : ℕ) (n : NodeId) (t : TypeId) → IsType w.whole.table t → CanPlace w.whole u offset
      → IsHome (w.whole.kind home) → Contains k.sites (site.Linked home n) → CanCopyPart w.whole home u offset n t
  unfolding CanCopyPart
  can-copy-part home u offset n t h place is_home known = (h, (place, (is_home, both (holds_pointer w.whole.table t) home n known)))

  -- what a home of a scalar holds
  pub home-reached : (home : NodeId) (t : TypeId) → Contains k.sites (site.Home home t) → IsScalar (seen k w) t → CanReach w.whole home t
  home-reached home t known h = let s = r.solution.each (site.Home home t) known in can-reach home t h s.spreads

  can-access : (i : Access) → IsShapedAccess i (seen k w) types after → AreAmong k.sites (sites_of_access i) → CanAccess i w
  can-access (access.Load into source n t at) s a = can-reach n t s.1 (spreads-held source n t (scalar-data t s.1) s.2)
  can-access (access.Store (target.Pointer p n) v t at assignment) s a =
      can-reach n t s.1.0 (spreads-held p n t (scalar-data t s.1.0) s.0.1)
  can-access (access.Store (target.Part o home u offset) v t at assignment) s a = (
    can-place o home u offset t s.0.0 s.0.1,
    (home-of o home u s.0.0, part-reached o home u offset t s.0.0 s.0.1 s.1.0),
  )
  can-access (access.Clear o) s a = has-plan o s.0
  can-access (access.Copy (target.Pointer p to) to_place source n source_place t assignment) s a = can-copy to n t s.1.0 a.0
  can-access (access.Copy (target.Part o home u offset) to_place source n source_place t assignment) s a =
      can-copy-part home u offset n t s.1.0 (can-place o home u offset t s.3.0 s.3.1) (home-of o home u s.3.0) a.0

  can-allocate : (i : Allocate) → IsShapedAllocate i (seen k w) types after → CanAllocate i w.whole
  can-allocate (allocate.Malloc into n node t at) s = s.1.0
  can-allocate (allocate.Calloc into m n node t at) s = s.1.0

  -- Calls

  has-function : (u : TypeId) (parameters : List TypeId) (result : TypeId) → IsType w.whole.table u
      → shape_at w.whole.table u ≡ shape.Function parameters result → HasFunction w.whole u
  unfolding HasFunction
  has-function u parameters result l e = (parameters, result, l, e)

  can-call : (i : Call) → IsShapedCall i (seen k w) types after → CanCall w i.ty i.first
  unfolding CanCall IsPointerAt IsFunctionAt
  can-call i s = (
    r.number s.7,
    pointer-at i.ty s.0 s.1 s.4,
    λ m u e.
        let f = s.4.1 in
        let same : s.1 ≡ u = cc (e, f) in
        let shaped = subst (λ y. shape_at w.whole.table y ≡ shape.Function s.2 s.3) same s.5 in (
          has-function u s.2 s.3 (named i.ty m u e) shaped,
          λ parameters result g.
              let alike : s.2 ≡ parameters = cc (shaped, g) in
              subst (λ ps. FitsRow w i.first ps 0) alike
              (fits w s.2 i.first 0 (λ n t h. (s.9 n t h).1) (let l = r.few s.1 s.2 s.3 s.5 in omega (arith, l))),
        ),
  )

  can-return : (t : TypeId) → k.result ≡ Some t → IsScalar (seen k w) t → CanReturn w t
  unfolding CanReturn
  can-return t e h = (r.number (subst (λ (z : Option TypeId). IsSome z) (sym e) refl), scalar-at t h)

  seen-cured : (i : Instr) → IsShaped i (seen k w) types after → CanBeCured i w types
  seen-cured (instr.Set i) s = can-set i s
  seen-cured (instr.Calculate i) s = can-calculate i s
  seen-cured (instr.Point i) s = can-point i s.0
  seen-cured (instr.Convert i) s = can-convert i s.0 s.1
  seen-cured (instr.Access i) s = can-access i s.0 s.1
  seen-cured (instr.Allocate i) s = can-allocate i s.0
  seen-cured (instr.Call i) s = can-call i s
  seen-cured (instr.Runtime i) s = tt
  seen-cured (instr.If' t shape code shape' other) s = λ x e. held-some t x s.0 e
  seen-cured (instr.Block' shape code) s = tt
  seen-cured (instr.Loop' shape code) s = tt
  seen-cured (instr.Break n) s = tt
  seen-cured instr.Return s = tt
  seen-cured (instr.ReturnValue v t at) s = can-return t s.0 s.1.0

-- over the table that the context has, which is the curer's
pub can-cure : (k : Context) (w : World) (i : Instr) (types after : Typing) → IsCurable k w → AreAsked k.sites types → IsShaped i k types after
    → CanBeCured i w types
can-cure k w i types after r asked s =
    seen-cured k w (subst (λ T. IsCurable (record k { table = T }) w) r.inside.table r) types after asked i
    (subst (λ T. IsShaped i (record k { table = T }) types after) r.inside.table s)

-- a scalar may be stored into its home
pub can-store : (k : Context) (w : World) → IsCurable k w → (home : NodeId) (t : TypeId) → Contains k.sites (site.Home home t) → IsScalar k t
    → CanReach w.whole home t
can-store k w r home t known h =
    home-reached k w (subst (λ T. IsCurable (record k { table = T }) w) r.inside.table r) no_types no_types (λ u x e. absurd (cc (e))) home t known
    (subst (λ T. IsScalar (record k { table = T }) t) r.inside.table h)
