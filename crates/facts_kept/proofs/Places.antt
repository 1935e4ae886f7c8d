-- Values of pointers to types of one class; places; what a load gives.
use Rattle.std.proofs.Common.{◌≡◌, ◌≢◌, ℕ, ◌+◌, ◌≤◌, Bool, true, false, List, [], length, slice_get, Option, Some, None, refl, ap, sym, subst, ◌∙◌, ⊎_elim, arith}
use Rattle.cc_base.specs.declared.number.TypeId.{TypeId}
use Rattle.cc_base.specs.declared.number.NodeId.{NodeId}
use Rattle.cc_base.specs.declared.kind.Kind.{Kind}
use Rattle.cc_base.specs.declared.kind.Kind.TheVariants.{Safe, Seq, Rtti, Wild}
use Rattle.c_types.specs.declared.shape.TypeShape.TheVariants as shape
use Rattle.kind_sites.specs.declared.site.Site.{Site}
use Rattle.c_types.specs.declared.flow_class.FlowClass.TheVariants.{Equal}
use Rattle.c_types.specs.Table.{IsComplete, shape_at, is_function}
use Rattle.c_types.specs.Layouts.{size_of}
use Rattle.c_types.specs.Cells.{Cell, raw, pointer, mixed, incomplete}
use Rattle.c_types.specs.Equality.{cells_of}
use Rattle.c_types.specs.Flows.{IsOfOneClass, CellsAgree}
use Rattle.c_types.specs.Contents.{at_place}
use Rattle.kind_sites.specs.Solutions.{SpreadsWild}
use Rattle.c_types.specs.Sound.{IsWellFormed}
use Rattle.type_laws.proofs.Pointers.{class_turned, class_twice, covers_own, covers_twice}
use Rattle.src_mem.specs.Outlines.{Outline, Life}
use Rattle.src_mem.specs.Pointers.{Location, Pointer, Null, Number, At, Function, distance}
use Rattle.src_mem.specs.Memory.{Object, Memory, pointer_or_null}
use Rattle.src_mem.specs.State.{Setting}
use Rattle.src_mem.specs.Facts.{IsPlace, HoldType, IsSequenceAt, IsValueOf, IsMade, Reaches, IsHeld, IsSoundObject}
use Rattle.src_mem.proofs.Right.{pointer_cells_are}
use Rattle.facts_kept.proofs.Agree.{pointer-there}
use Rattle.facts_kept.proofs.Flow.{begins-data}
use Rattle.facts_kept.proofs.Complete.{complete-some, function-empty}
use Rattle.facts_kept.proofs.Holds.{in-bounds, class-covers, class-data, covered-holds, seq-stands, seq-holds}
use Rattle.facts_kept.specs.Kept.{AllHold, asked_of}
use Rattle.facts_kept.proofs.Convert.{safe-at, typed-typed, safe-function, Both, Alike, filled-alike, made-alike, both-or-void, both-complete, seq-complete, shifted-alike}

module _ (w : Setting) (sound : IsWellFormed w.table) (outlines : List Outline) where
  -- A pointer that is a value of its kind to t is one to each type of one class.
  seq-class : (t u : TypeId) (l : Location) → IsOfOneClass w.table w.kind t u → IsSequenceAt w outlines t l → IsSequenceAt w outlines u l
  unfolding Both Alike
  seq-class t u l one s = by (is_function w.table t) refl
    where
      void : cells_of w.table t ≡ [] → cells_of w.table u ≡ [] → IsSequenceAt w outlines u l
      void et eu =
          let nt : IsComplete w.table t → Prim.⊥ =
          (λ c. let x = (complete-some w.table sound t c).0 in let y : length (cells_of w.table t) ≡ 0 = ap length et in omega (arith, x, y)) in
          let nu : IsComplete w.table u → Prim.⊥ =
          (λ c. let x = (complete-some w.table sound u c).0 in let y : length (cells_of w.table u) ≡ 0 = ap length eu in omega (arith, x, y)) in
          record {
            object = s.object;
            located = s.located;
            typed = s.typed;
            least = s.least;
            most = s.most;
            made = class_twice w.table w.kind sound l.made t u s.made one;
            filled = λ c. absurd (nu c);
            blank = λ c. absurd (nu c);
            shifted = λ c. absurd (nu c);
            unmoved = λ c. (eu, (s.unmoved nt).1);
          }

      full : is_function w.table u ≡ false → Both w sound outlines t u → IsSequenceAt w outlines u l
      full fu b =
          let ct = seq-complete w sound outlines t l s b.0 in let cu = both-complete w sound outlines t u fu b ct in record {
            object = s.object;
            located = s.located;
            typed = s.typed;
            least = s.least;
            most = s.most;
            made = class_twice w.table w.kind sound l.made t u s.made one;
            filled = λ c. filled-alike w sound outlines t u b.2 s.object.cells l.part.low l.part.high (s.filled ct);
            blank = λ c e. made-alike w sound outlines t u b.2 s.object.node (s.blank ct e);
            shifted =
                λ c. shifted-alike w sound outlines t u b (complete-some w.table sound t ct).1 (complete-some w.table sound u cu).1 (distance l)
                (s.shifted ct);
            unmoved = λ c. absurd (c cu);
          }

      by : (b : Bool) → is_function w.table t ≡ b → IsSequenceAt w outlines u l
      by true ft = void (function-empty w.table sound t ft) (function-empty w.table sound u (function (is_function w.table u) refl))
        where
          function : (b : Bool) → is_function w.table u ≡ b → b ≡ true
          function true e = refl
          function false e = absurd (let x = class-data w sound t u e one in cc (x, ft))
      by false ft =
          let fu = class-data w sound u t ft (class_turned w.table w.kind t u one) in
          ⊎_elim (λ b. full fu b) (λ e. void e.0 e.1) (both-or-void w sound outlines t u Equal refl one.kinds ft fu one.equal)

  pub value-class : (k : Kind) (t u : TypeId) (p : Pointer) → IsOfOneClass w.table w.kind t u → IsValueOf w outlines k t p
      → IsValueOf w outlines k u p
  value-class k t u Null one h = tt
  value-class Safe t u (Number n) one h = absurd h
  value-class Rtti t u (Number n) one h = absurd h
  value-class Seq t u (Number n) one h = h
  value-class Wild t u (Number n) one h = h
  value-class Safe t u (At l) one h = safe-at w sound outlines t u l (class-covers w sound t u h.data_type one) h
  value-class Rtti t u (At l) one h =
      typed-typed w sound outlines t u l
      (covers_twice w.table w.kind sound l.made t u h.covers (class-covers w sound t u (begins-data w.table l.made t h.covers.begins).1 one)) h
  value-class Seq t u (At l) one h = seq-class t u l one h
  value-class Wild t u (At l) one h = h
  value-class Safe t u (Function f) one h = safe-function w sound outlines t u f h.type one h
  value-class Rtti t u (Function f) one h = absurd h
  value-class Seq t u (Function f) one h = absurd h
  value-class Wild t u (Function f) one h = h

  -- a WILD value is one to each type
  pub wild-any : (t u : TypeId) (p : Pointer) → IsValueOf w outlines Wild t p → IsValueOf w outlines Wild u p
  wild-any t u Null h = tt
  wild-any t u (Number n) h = h
  wild-any t u (At l) h = h
  wild-any t u (Function f) h = h

  -- What is held, and asked for, is a place.
  held_at : (lives : List Life) (depth : ℕ) (memory : Memory) (k : Kind) (t : TypeId) (p : Pointer) → is_function w.table t ≡ false
      → IsValueOf w outlines k t p → Reaches lives depth p
      → AllHold w memory (asked_of (size_of w.table t) k p) → IsPlace w outlines lives depth k t p
  held_at lives depth memory Safe t Null ft h r c = absurd (let x = c.0 in cc (x))
  held_at lives depth memory Safe t (Number n) ft h r c = absurd h
  held_at lives depth memory Safe t (At l) ft h r c =
      record {
        location = l;
        is = refl;
        reaches = r;
        place = record { object = h.object; at = h.at; located = h.located; typed = h.typed; stands = h.stands; holds = h.holds };
      }
  held_at lives depth memory Safe t (Function f) ft h r c = absurd (let x = h.type in cc (x, ft))
  held_at lives depth memory Rtti t Null ft h r c = absurd (let x = c.0 in cc (x))
  held_at lives depth memory Rtti t (Number n) ft h r c = absurd h
  held_at lives depth memory Rtti t (At l) ft h r c = record {
    location = l;
    is = refl;
    reaches = r;
    place = record {
      object = h.object;
      at = h.at;
      located = h.located;
      typed = h.typed;
      stands = h.stands;
      holds = covered-holds w sound l.made t h.covers h.object.cells h.at l.part.high h.holds;
    };
  }
  held_at lives depth memory Rtti t (Function f) ft h r c = absurd h
  held_at lives depth memory Seq t Null ft h r c = absurd (let x = c.0 in cc (x))
  held_at lives depth memory Seq t (Number n) ft h r c = absurd (let x = c.0 in cc (x))
  held_at lives depth memory Seq t (At l) ft h r c =
      let b = in-bounds l.part.low l.part.high l.offset (size_of w.table t) c.0 in
      record {
        location = l;
        is = refl;
        reaches = r;
        place = record {
          object = h.object;
          at = b.0;
          located = h.located;
          typed = h.typed;
          stands = seq-stands w sound outlines t l h b.0 b.1 b.2 (let x = b.3 in omega (arith, x));
          holds = seq-holds w sound outlines t l h t ft (covers_own w.table w.kind t ft) b.0 b.1 b.2 b.3;
        };
      }
  held_at lives depth memory Seq t (Function f) ft h r c = absurd h
  held_at lives depth memory Wild t Null ft h r c = absurd (let x = c.0 in cc (x))
  held_at lives depth memory Wild t (Number n) ft h r c = absurd (let x = c.0 in cc (x))
  held_at lives depth memory Wild t (At l) ft h r c = record { location = l; is = refl; reaches = r; place = h }
  held_at lives depth memory Wild t (Function f) ft h r c = absurd (let x = c.0 in cc (x))

  pub held-place : (lives : List Life) (depth : ℕ) (memory : Memory) (k : Kind) (t : TypeId) (p : Pointer) → is_function w.table t ≡ false
      → IsHeld w outlines lives depth k t p
      → AllHold w memory (asked_of (size_of w.table t) k p) → IsPlace w outlines lives depth k t p
  held-place lives depth memory k t p ft h c = held_at lives depth memory k t p ft h.value h.reaches c

  -- the pointer that stands at a place, as the type says
  pub record Stands (k : Kind) (u : TypeId) (cells : List Cell) (at : ℕ) : Type 0 where
    pub node : NodeId
    pub to : TypeId
    pub found : slice_get cells at ≡ Some (pointer node to 0)
    pub kind : w.kind node ≡ k
    pub class : IsOfOneClass w.table w.kind to u

  pub stands-pointer : (t u : TypeId) (m : NodeId) (cells : List Cell) (at high : ℕ) → shape_at w.table t ≡ shape.Pointer m u
      → HoldType w cells at high t → Stands (w.kind m) u cells at
  stands-pointer t u m cells at high e h =
      let x = h.agree 0 (pointer m u 0) (ap (λ cs. slice_get cs 0) (pointer_cells_are w.table t m u e)) in
      by x.0 (let z : at + 0 ≡ at = omega arith in ap (slice_get cells) (sym z) ∙ x.1) x.2
    where
      by : (c : Cell) → slice_get cells at ≡ Some c → CellsAgree w.table w.kind c (pointer m u 0) → Stands (w.kind m) u cells at
      by raw f a = absurd a
      by (pointer n v j) f a = record { node = n; to = v; found = f ∙ ap (λ i. Some (pointer n v i)) a.0; kind = a.1; class = a.2 }
      by (mixed v j) f a = absurd a
      by (incomplete v) f a = absurd a

  pub reaches-more : (lives : List Life) (d e : ℕ) (p : Pointer) → d ≤ e → Reaches lives d p → Reaches lives e p
  reaches-more lives d e Null l h = tt
  reaches-more lives d e (Number n) l h = tt
  reaches-more lives d e (At k) l h = record { life = h.life; found = h.found; live = h.live; older = let x = h.older in omega (arith, x, l) }
  reaches-more lives d e (Function f) l h = tt

  -- A load from a typed object: what is stored there is a value of the pointer type.
  pub loaded-typed : (sites : List Site) (lives : List Life) (depth : ℕ) (t u : TypeId) (m : NodeId) (o : Object) (at high : ℕ)
      → shape_at w.table t ≡ shape.Pointer m u → IsSoundObject w sites outlines lives o → w.kind o.node ≢ Wild → o.depth ≤ depth
      → HoldType w o.cells at high t
      → IsHeld w outlines lives depth (w.kind m) u (pointer_or_null (o.pointers at)) × IsMade sites (pointer_or_null (o.pointers at))
  loaded-typed sites lives depth t u m o at high e s untagged d h = by (o.pointers at) refl
    where
      by : (x : Option Pointer) → o.pointers at ≡ x
          → IsHeld w outlines lives depth (w.kind m) u (pointer_or_null x) × IsMade sites (pointer_or_null x)
      by None f = (record { value = tt; reaches = tt }, tt)
      by (Some p) f =
          let x = s.typed untagged at p f in
          let y = stands-pointer t u m o.cells at high e h in
          let same : pointer x.node x.to 0 ≡ pointer y.node y.to 0 = (let a = x.begins in let b = y.found in cc (a, b)) in
          let n : x.node ≡ y.node = cc (same) in let v : x.to ≡ y.to = cc (same) in
          let k : w.kind x.node ≡ w.kind m = ap w.kind n ∙ y.kind in (
            record {
              value =
                  subst (λ c. IsValueOf w outlines c u p) k
                  (value-class (w.kind x.node) x.to u p (subst (λ c. IsOfOneClass w.table w.kind c u) (sym v) y.class) x.value);
              reaches = reaches-more lives o.depth depth p d (s.reaches at p f);
            },
            s.made at p f,
          )

  -- A load from a tagged object, through a pointer whose type spreads WILD.
  pub loaded-tagged : (sites : List Site) (lives : List Life) (depth : ℕ) (u : TypeId) (k : Kind) (o : Object) (at : ℕ) → k ≡ Wild
      → IsSoundObject w sites outlines lives o → w.kind o.node ≡ Wild → o.depth ≤ depth
      → IsHeld w outlines lives depth k u (pointer_or_null (o.pointers at)) × IsMade sites (pointer_or_null (o.pointers at))
  loaded-tagged sites lives depth u k o at e s tagged d = by (o.pointers at) refl
    where
      by : (x : Option Pointer) → o.pointers at ≡ x → IsHeld w outlines lives depth k u (pointer_or_null x) × IsMade sites (pointer_or_null x)
      by None f = (record { value = tt; reaches = tt }, tt)
      by (Some p) f = (
        record {
          value = subst (λ c. IsValueOf w outlines c u p) (sym e) ((s.tagged tagged at p f).value u);
          reaches = reaches-more lives o.depth depth p d (s.reaches at p f);
        },
        s.made at p f,
      )

  -- behind a WILD pointer (or in a WILD home) to a pointer type, that is a WILD pointer
  pub spread : (n m : NodeId) (t u : TypeId) → shape_at w.table t ≡ shape.Pointer m u → is_function w.table t ≡ false → SpreadsWild w.table w.kind n t
      → w.kind n ≡ Wild → w.kind m ≡ Wild
  spread n m t u e ft s k =
      s k (record { node = m; to = u })
      (at_place t 0 (record { node = m; to = u })
      (pointer-there w.table t ft 0 m u (ap (λ cs. slice_get cs 0) (pointer_cells_are w.table t m u e))))
