-- What a call of some depth sees of a later memory: its objects are there, with their outlines; those no deeper live as they did.
use Rattle.std.proofs.Common.{◌≡◌, ℕ, suc, ◌≤◌, List, [], ◌∷◌, ◌++◌, map, slice_get, Some, refl, ap, sym, subst, ◌∙◌, arith}
use Rattle.cc_base.specs.declared.number.TypeId.{TypeId}
use Rattle.cc_base.specs.declared.kind.Kind.{Kind}
use Rattle.src_mem.specs.Pointers.{Pointer, Null, Number, At, Function}
use Rattle.src_mem.specs.Memory.{Object}
use Rattle.src_mem.specs.Primitives.{ended}
use Rattle.src_mem.specs.State.{Setting}
use Rattle.c_types.proofs.OrderedPointers.{get_front}
use Rattle.facts_kept.proofs.Lists.{map-both}
use Rattle.src_mem.specs.Outlines.{outline, Life, life}
use Rattle.std.proofs.lemmas.Option.{slice_get_within}
use Rattle.src_mem.specs.Facts.{IsValueOf, Reaches, IsHeld}
use Rattle.src_mem.proofs.Outlines.{mapped-from, get-mapped}
use Rattle.facts_kept.specs.Kept.{IsLater}
use Rattle.facts_kept.proofs.Growth.{value-grown, outlines-ended, life-ended}

pub held-later : (w : Setting) (depth : ℕ) (old new : List Object) (k : Kind) (t : TypeId) (p : Pointer) → IsLater depth old new
    → IsHeld w (map outline old) (map life old) depth k t p → IsHeld w (map outline new) (map life new) depth k t p
held-later w depth old new k t p l h = record {
  value = subst (λ xs. IsValueOf w xs k t p) (sym l.outlines) (value-grown w (map outline old) l.more k t p h.value);
  reaches = reach p h.reaches;
}
  where
    reach : (p : Pointer) → Reaches (map life old) depth p → Reaches (map life new) depth p
    reach Null r = tt
    reach (Number n) r = tt
    reach (At a) r = record { life = r.life; found = l.lives a.object r.life r.found r.older; live = r.live; older = r.older }
    reach (Function f) r = tt

append-none : {A : Type 0} (xs : List A) → xs ≡ xs ++ []
append-none [] = refl
append-none (x ∷ xs) = ap (λ l. x ∷ l) (append-none xs)

together : {A : Type 0} (xs ys zs : List A) → (xs ++ ys) ++ zs ≡ xs ++ (ys ++ zs)
together [] ys zs = refl
together (x ∷ xs) ys zs = ap (λ l. x ∷ l) (together xs ys zs)

-- a store
pub later-same : (depth : ℕ) (old new : List Object) → map outline new ≡ map outline old → map life new ≡ map life old → IsLater depth old new
later-same depth old new a b = record { more = []; outlines = a ∙ append-none (map outline old); lives = λ k x e h. ap (λ xs. slice_get xs k) b ∙ e }

pub later-twice : (depth deeper : ℕ) (a b c : List Object) → depth ≤ deeper → IsLater depth a b → IsLater deeper b c → IsLater depth a c
later-twice depth deeper a b c l x y = record {
  more = x.more ++ y.more;
  outlines = y.outlines ∙ ap (λ xs. xs ++ y.more) x.outlines ∙ together (map outline a) x.more y.more;
  lives = λ k z e h. y.lives k z (x.lives k z e h) (omega (arith, h, l));
}

-- blocks, and the variables of a call
pub later-grown : (depth : ℕ) (old more : List Object) → IsLater depth old (old ++ more)
later-grown depth old more = record {
  more = map outline more;
  outlines = map-both outline old more;
  lives =
      λ k x e h. ap (λ xs. slice_get xs k) (map-both life old more) ∙ get_front (map life old) (map life more) k
      (slice_get_within (map life old) k x e) ∙ e;
}

-- the end of a call that is deeper
pub later-ended : (depth : ℕ) (old : List Object) → IsLater depth old (map (ended (suc depth)) old)
later-ended depth old = record {
  more = [];
  outlines = outlines-ended (suc depth) old ∙ append-none (map outline old);
  lives = λ k x e h. lives k x e h;
}
  where
    lives : (k : ℕ) (x : Life) → slice_get (map life old) k ≡ Some x → x.depth ≤ depth → slice_get (map life (map (ended (suc depth)) old)) k ≡ Some x
    lives k x e h =
        let o = mapped-from life old k x e in
        let d : o.0.depth ≡ x.depth = ap (λ (y : Life). y.depth) o.2 in
        get-mapped life (map (ended (suc depth)) old) k (ended (suc depth) o.0) (get-mapped (ended (suc depth)) old k o.0 o.1) ∙ ap Some
        (life-ended (suc depth) o.0 (omega (arith, d, h)) ∙ o.2)
