-- More objects, and the end of a call: what was true stays true.
use Rattle.std.proofs.Common.{◌≡◌, ◌≢◌, ℕ, zero, suc, ◌+◌, ◌<◌, ◌≤◌, ◌⊎◌, Bool, true, false, not, List, [], ◌∷◌, ◌++◌, map, length, replicate, slice_get, slice_index, Some, refl, ap, sym, subst, ◌∙◌, ⊎_elim, arith, if◌then◌else◌}
use Rattle.std.specs.Prelude.{◌==◌}
use Rattle.std.proofs.lemmas.Bool.Decides.{nat_tests}
use Rattle.std.proofs.lemmas.Option.{slice_get_within}
use Rattle.std.proofs.lemmas.List.{length-replicate}
use Rattle.cc_base.specs.declared.number.TypeId.{TypeId}
use Rattle.cc_base.specs.declared.number.NodeId.{NodeId}
use Rattle.cc_base.specs.declared.kind.Kind.{Kind}
use Rattle.cc_base.specs.declared.kind.Kind.TheVariants.{Safe, Seq, Rtti, Wild}
use Rattle.flat_mem.proofs.ByteLaws.{number-zeros}
use Rattle.c_types.specs.Cells.{Cell, AreOrdered}
use Rattle.src_mem.specs.Pointers.{Location, Pointer, Null, Number, At, Function}
use Rattle.src_mem.specs.Memory.{Object, Memory, zero_object, depth_of_object}
use Rattle.src_mem.specs.Primitives.{ended}
use Rattle.kind_sites.specs.declared.site.Site.{Site}
use Rattle.src_mem.specs.State.{Setting}
use Rattle.src_mem.specs.Checks.{holds, IsNotOfFrame}
use Rattle.c_types.proofs.OrderedPointers.{get_front, Which, old, new, which}
use Rattle.facts_kept.proofs.Lists.{map-both}
use Rattle.src_mem.specs.Outlines.{AreNoDeeper, Outline, outline, AreOutlines, Life, life}
use Rattle.src_mem.proofs.Outlines.{mapped-from, get-mapped}
use Rattle.src_mem.specs.Facts.{AreSound, IsLocated, IsValueOf, Reaches, IsHeld, IsSoundObject}

grown : {A : Type 0} (xs ys : List A) (k : ℕ) (x : A) → slice_get xs k ≡ Some x → slice_get (xs ++ ys) k ≡ Some x
grown xs ys k x e = get_front xs ys k (slice_get_within xs k x e) ∙ e

-- values
module _ (w : Setting) (xs ys : List Outline) where
  located-grown : (l : Location) (o : Outline) → IsLocated xs l o → IsLocated (xs ++ ys) l o
  located-grown l o s = record { found = grown xs ys l.object o s.found; ordered = s.ordered; inside = s.inside }

  pub value-grown : (k : Kind) (t : TypeId) (p : Pointer) → IsValueOf w xs k t p → IsValueOf w (xs ++ ys) k t p
  value-grown k t Null h = tt
  value-grown Safe t (Number n) h = absurd h
  value-grown Rtti t (Number n) h = absurd h
  value-grown Seq t (Number n) h = h
  value-grown Wild t (Number n) h = h
  value-grown Safe t (At l) s =
      record {
        object = s.object;
        at = s.at;
        located = located-grown l s.object s.located;
        typed = s.typed;
        stands = s.stands;
        data_type = s.data_type;
        holds = s.holds;
        covers = s.covers;
      }
  value-grown Rtti t (At l) s =
      record {
        object = s.object;
        at = s.at;
        located = located-grown l s.object s.located;
        typed = s.typed;
        stands = s.stands;
        holds = s.holds;
        covers = s.covers;
      }
  value-grown Seq t (At l) s =
      record {
        object = s.object;
        located = located-grown l s.object s.located;
        typed = s.typed;
        made = s.made;
        least = s.least;
        most = s.most;
        filled = s.filled;
        blank = s.blank;
        shifted = s.shifted;
        unmoved = s.unmoved;
      }
  value-grown Wild t (At l) s =
      record {
        object = s.object;
        found = grown xs ys l.object s.object s.found;
        tagged = s.tagged;
        low = s.low;
        high = s.high;
        least = s.least;
        most = s.most;
      }
  value-grown Safe t (Function f) h = record { function = h.function; found = h.found; type = h.type; class = h.class }
  value-grown Rtti t (Function f) h = absurd h
  value-grown Seq t (Function f) h = absurd h
  value-grown Wild t (Function f) h = h

pub reaches-grown : (xs ys : List Life) (depth : ℕ) (p : Pointer) → Reaches xs depth p → Reaches (xs ++ ys) depth p
reaches-grown xs ys depth Null h = tt
reaches-grown xs ys depth (Number n) h = tt
reaches-grown xs ys depth (At l) h = record { life = h.life; found = grown xs ys l.object h.life h.found; live = h.live; older = h.older }
reaches-grown xs ys depth (Function f) h = tt

pub held-grown : (w : Setting) (xs ys : List Outline) (ls ms : List Life) (depth : ℕ) (k : Kind) (t : TypeId) (p : Pointer)
    → IsHeld w xs ls depth k t p → IsHeld w (xs ++ ys) (ls ++ ms) depth k t p
held-grown w xs ys ls ms depth k t p h = record { value = value-grown w xs ys k t p h.value; reaches = reaches-grown ls ms depth p h.reaches }

object-grown : (w : Setting) (sites : List Site) (xs ys : List Outline) (ls ms : List Life) (o : Object) → IsSoundObject w sites xs ls o
    → IsSoundObject w sites (xs ++ ys) (ls ++ ms) o
object-grown w sites xs ys ls ms o s = record {
  sized = s.sized;
  bytes = s.bytes;
  typed =
      λ a k p e. let x =
      s.typed a k p e in record { node = x.node; to = x.to; begins = x.begins; value = value-grown w xs ys (w.kind x.node) x.to p x.value };
  tagged =
      λ a k p e. let x = s.tagged a k p e in record { aligned = x.aligned; inside = x.inside; value = λ t. value-grown w xs ys Wild t p (x.value t) };
  under = s.under;
  zeros = s.zeros;
  reaches = λ k p e. reaches-grown ls ms o.depth p (s.reaches k p e);
  made = s.made;
}

-- new objects, each sound among all
pub memory-grown : (w : Setting) (sites : List Site) (objects more : List Object) → AreSound w sites objects
    → ((j : ℕ) (o : Object) → slice_get more j ≡ Some o → IsSoundObject w sites (map outline (objects ++ more)) (map life (objects ++ more)) o)
    → AreSound w sites (objects ++ more)
memory-grown w sites objects more s each = record { each = λ k o e l. by k o l (which objects more k o e) }
  where
    by : (k : ℕ) (o : Object) → o.live ≡ true → Which objects more k o
        → IsSoundObject w sites (map outline (objects ++ more)) (map life (objects ++ more)) o
    by k o l (old e h) =
        subst (λ xs. IsSoundObject w sites xs (map life (objects ++ more)) o) (sym (map-both outline objects more))
        (subst (λ ls. IsSoundObject w sites (map outline objects ++ map outline more) ls o) (sym (map-both life objects more))
        (object-grown w sites (map outline objects) (map outline more) (map life objects) (map life more) o (s.each k o e l)))
    by k o l (new j f e) = each j o e

zeros-at : (n i : ℕ) → slice_index (replicate n 0) i ≡ 0
zeros-at zero i = refl
zeros-at (suc n) zero = refl
zeros-at (suc n) (suc i) = zeros-at n i

-- an object of zeros, of whatever cells
pub zero-sound : (w : Setting) (sites : List Site) (outlines : List Outline) (lives : List Life) (depth : ℕ) (node : NodeId) (size : ℕ)
    (cells : List Cell)
    → IsSoundObject w sites outlines lives (zero_object depth node size cells)
zero-sound w sites outlines lives depth node size cells = record {
  sized = length-replicate size 0;
  bytes = record { below = λ i. subst (λ b. b < 256) (sym (zeros-at size i)) (omega arith) };
  typed = λ a k p e. absurd (cc (e));
  tagged = λ a k p e. absurd (cc (e));
  under = λ k p e. absurd (cc (e));
  zeros = λ a k n t e. number-zeros 8 (replicate size 0) k (λ i h. zeros-at size (k + i));
  reaches = λ k p e. absurd (cc (e));
  made = λ k p e. absurd (cc (e));
}

-- outlines of new objects
pub outlines-grown : (w : Setting) (xs ys : List Outline) → AreOutlines w xs → AreOutlines w ys → AreOutlines w (xs ++ ys)
outlines-grown w xs ys a b = record { ordered = λ k o e u. ordered k o u (which xs ys k o e); celled = λ k o e. celled k o (which xs ys k o e) }
  where
    ordered : (k : ℕ) (o : Outline) → w.kind o.node ≢ Wild → Which xs ys k o → AreOrdered o.cells
    ordered k o u (old e h) = a.ordered k o e u
    ordered k o u (new j f e) = b.ordered j o e u

    celled : (k : ℕ) (o : Outline) → Which xs ys k o → length o.cells ≡ o.size
    celled k o (old e h) = a.celled k o e
    celled k o (new j f e) = b.celled j o e

-- The end of a call

outline-ended : (depth : ℕ) (o : Object) → outline (ended depth o) ≡ outline o
outline-ended depth o = by (o.depth == depth)
  where
    by : (b : Bool) → outline (if b then record o { live = false } else o) ≡ outline o
    by true = refl
    by false = refl

pub outlines-ended : (depth : ℕ) (objects : List Object) → map outline (map (ended depth) objects) ≡ map outline objects
outlines-ended depth [] = refl
outlines-ended depth (o ∷ objects) =
    ap (λ x. x ∷ map outline (map (ended depth) objects)) (outline-ended depth o) ∙ ap (λ xs. outline o ∷ xs) (outlines-ended depth objects)

pub life-ended : (depth : ℕ) (o : Object) → o.depth < depth → life (ended depth o) ≡ life o
life-ended depth o h = by (o.depth == depth) refl
  where
    by : (b : Bool) → (o.depth == depth) ≡ b → life (if b then record o { live = false } else o) ≡ life o
    by true e = absurd (let f : o.depth ≡ depth = grind (arith, nat_tests) in omega (arith, f, h))
    by false e = refl

pub reaches-ended : (objects : List Object) (depth e : ℕ) (p : Pointer) → e < depth → Reaches (map life objects) e p
    → Reaches (map life (map (ended depth) objects)) e p
reaches-ended objects depth e Null l h = tt
reaches-ended objects depth e (Number n) l h = tt
reaches-ended objects depth e (At k) l h =
    let x = mapped-from life objects k.object h.life h.found in
    let d : x.0.depth ≡ h.life.depth = ap (λ (y : Life). y.depth) x.2 in
    let o = h.older in
    record {
      life = h.life;
      found =
          get-mapped life (map (ended depth) objects) k.object (ended depth x.0) (get-mapped (ended depth) objects k.object x.0 x.1) ∙ ap Some
          (life-ended depth x.0 (omega (arith, d, o, l)) ∙ x.2);
      live = h.live;
      older = h.older;
    }
reaches-ended objects depth e (Function f) l h = tt

pub memory-ended : (w : Setting) (sites : List Site) (objects : List Object) (depth : ℕ) → AreNoDeeper (map life objects) depth
    → AreSound w sites objects → AreSound w sites (map (ended depth) objects)
memory-ended w sites objects depth deep s = record { each = λ k o e l. by k o l (mapped-from (ended depth) objects k o e) }
  where
    -- a living object was there, and is older
    kept : (o : Object) → (ended depth o).live ≡ true → (b : Bool) → (o.depth == depth) ≡ b
        → (o.live ≡ true) × (o.depth ≢ depth) × (ended depth o ≡ o)
    kept o l true f = absurd (let g : (ended depth o).live ≡ false = ap (λ b. (if b then record o { live = false } else o).live) f in cc (l, g))
    kept o l false f =
        let g : ended depth o ≡ o = ap (λ b. if b then record o { live = false } else o) f in
        (ap (λ (x : Object). x.live) (sym g) ∙ l, (λ h. let z : o.depth ≡ depth = h in absurd (grind (arith, nat_tests))), g)

    object : (o : Object) → o.depth < depth → IsSoundObject w sites (map outline objects) (map life objects) o
        → IsSoundObject w sites (map outline objects) (map life (map (ended depth) objects)) o
    object o d x =
        record {
          sized = x.sized;
          bytes = x.bytes;
          typed = x.typed;
          tagged = x.tagged;
          under = x.under;
          zeros = x.zeros;
          made = x.made;
          reaches = λ k p e. reaches-ended objects depth o.depth p d (x.reaches k p e);
        }

    by : (k : ℕ) (o : Object) → o.live ≡ true → (x : Object) × (slice_get objects k ≡ Some x) × (ended depth x ≡ o)
        → IsSoundObject w sites (map outline (map (ended depth) objects)) (map life (map (ended depth) objects)) o
    by k o l x =
        let y = kept x.0 (ap (λ (z : Object). z.live) x.2 ∙ l) (x.0.depth == depth) refl in
        let m = deep.each k (life x.0) (get-mapped life objects k x.0 x.1) y.0 in
        let d : x.0.depth < depth = less x.0.depth depth m y.1 in
        subst (λ xs. IsSoundObject w sites xs (map life (map (ended depth) objects)) o) (sym (outlines-ended depth objects))
        (subst (IsSoundObject w sites (map outline objects) (map life (map (ended depth) objects))) (sym y.2 ∙ x.2)
        (object x.0 d (s.each k x.0 x.1 y.0)))
      where
        less : (a b : ℕ) → a ≤ b → a ≢ b → a < b
        less a b h n = ⊎_elim (λ l. l) (λ e. absurd (n e)) (case a b h)
          where
            case : (a b : ℕ) → a ≤ b → (a < b) ⊎ (a ≡ b)
            case a b h = grind arith

-- what is returned outlives the call
pub returned-held : (w : Setting) (memory : Memory) (depth : ℕ) (k : Kind) (t : TypeId) (p : Pointer)
    → IsHeld w (map outline memory.objects) (map life memory.objects) (suc depth) k t p
    → holds w memory (IsNotOfFrame (suc depth) p) ≡ true
    → IsHeld w (map outline (map (ended (suc depth)) memory.objects)) (map life (map (ended (suc depth)) memory.objects)) depth k t p
returned-held w memory depth k t p h c = record {
  value = subst (λ xs. IsValueOf w xs k t p) (sym (outlines-ended (suc depth) memory.objects)) h.value;
  reaches = reaches-ended memory.objects (suc depth) depth p (omega arith) (older p h.reaches c);
}
  where
    older : (p : Pointer) → Reaches (map life memory.objects) (suc depth) p → holds w memory (IsNotOfFrame (suc depth) p) ≡ true
        → Reaches (map life memory.objects) depth p
    older Null r c = tt
    older (Number n) r c = tt
    older (At l) r c = record {
      life = r.life;
      found = r.found;
      live = r.live;
      older = less r.life.depth r.older (not-same (let x = mapped-from life memory.objects l.object r.life r.found in
          let d : x.0.depth ≡ r.life.depth = ap (λ (y : Life). y.depth) x.2 in
          ap (λ n. not (n == suc depth)) (sym d) ∙ ap (λ o. not (depth_of_object o == suc depth)) (sym x.1) ∙ c));
    }
      where
        not-same : {a : ℕ} → not (a == suc depth) ≡ true → a ≢ suc depth
        not-same {a} h e = grind (arith, nat_tests)

        less : (a : ℕ) → a ≤ suc depth → a ≢ suc depth → a ≤ depth
        less a h n = ⊎_elim (λ l. l) (λ e. absurd (n e)) (case a depth h)
          where
            case : (a d : ℕ) → a ≤ suc d → (a ≤ d) ⊎ (a ≡ suc d)
            case a d h = grind arith
    older (Function f) r c = tt
