-- What stands somewhere in a type, through members and elements, has cells that agree (for static initialisers).
use Rattle.std.proofs.Common.{◌≡◌, ℕ, zero, suc, ◌+◌, ◌*◌, ◌<◌, ◌≤◌, true, List, [], ◌∷◌, map, max, length, slice_get, Some, refl, ap, sym, subst, ◌∙◌, arith}
use Rattle.std.specs.Prelude.{slice_index_or, take}
use Rattle.std.specs.List.{All, fold, repeat}
use Rattle.std.proofs.lemmas.Option.{slice_get_within, slice_get-get_or}
use Rattle.std.proofs.lemmas.List.Elements.{All-contains}
use Rattle.std.proofs.Math.Nat.{mul-le-mul_right}
use Rattle.cc_base.specs.declared.number.TypeId.{TypeId}
use Rattle.c_types.specs.declared.shape.TypeShape.{TypeShape}
use Rattle.c_types.specs.declared.shape.TypeShape.TheVariants.{Void, Integer, Pointer, Array, Function, Struct, Union}
use Rattle.c_types.specs.declared.layout.Layout.{Layout}
use Rattle.c_types.specs.Table.{IsComplete, IsAggregate, shape_at, members_at, parts_of_shape, is_aggregate_shape}
use Rattle.c_types.specs.Layouts.{size_of, layout_of, layout_of_shape, union_layout, greatest_size, greatest_align, offset_of, offset_of_shape, member_at}
use Rattle.c_types.specs.Cells.{Cell, raw, pointer, mixed, incomplete, cells_of_shape}
use Rattle.c_types.specs.Equality.{cells_of, physically_equal}
use Rattle.c_types.specs.Contents.{HoldsMixed}
use Rattle.kind_sites.specs.Solutions.{IsUnionAllowed}
use Rattle.c_types.specs.Sound.{IsWellFormed}
use Rattle.c_types.proofs.Cells.{cells_are}
use Rattle.c_types.proofs.Descent.{layout_is}
use Rattle.c_types.proofs.Ends.{rounded_up}
use Rattle.src_mem.specs.State.{Setting}
use Rattle.c_types.specs.Flows.{CellsAgree}
use Rattle.c_types.proofs.OrderedPointers.{get_front, get_back}
use Rattle.facts_kept.proofs.Agree.{agree-own, agree-twice}
use Rattle.facts_kept.proofs.Complete.{complete-some}
use Rattle.facts_kept.proofs.Blocks.{rep-length}
use Rattle.facts_kept.proofs.Members.{sub-struct}
use Rattle.facts_kept.specs.Kept.{IsSub}
use Rattle.facts_kept.proofs.Unions.{sub-union}

-- the greatest size is one
start : (ls : List Layout) (a : ℕ) → a ≤ fold (λ s (m : Layout). max s m.size) a ls
start [] a = omega arith
start (l ∷ ls) a = let h = start ls (max a l.size) in omega (arith, h)

pub at-most : (f : TypeId → Layout) (ms : List TypeId) (a i : ℕ) (z : TypeId) → i < length ms
    → (f (slice_index_or ms i z)).size ≤ fold (λ s (m : Layout). max s m.size) a (map f ms)
at-most f [] a i z h = absurd (omega (arith, h))
at-most f (m ∷ ms) a zero z h = let k = start (map f ms) (max a (f m).size) in omega (arith, k)
at-most f (m ∷ ms) a (suc i) z h = at-most f ms (max a (f m).size) i z (omega (arith, h))

repeat-at : (n : ℕ) (xs : List Cell) (i j : ℕ) (d : Cell) → i < n → slice_get xs j ≡ Some d → slice_get (repeat n xs) (i * length xs + j) ≡ Some d
repeat-at zero xs i j d h e = absurd (omega (arith, h))
repeat-at (suc n) xs zero j d h e =
    let z : 0 * length xs + j ≡ j = nothing (length xs) j in ap (slice_get (repeat (suc n) xs)) z ∙ get_front xs (repeat n xs) j
    (slice_get_within xs j d e) ∙ e
  where
    nothing : (m j : ℕ) → 0 * m + j ≡ j
    nothing m j = omega arith
repeat-at (suc n) xs (suc i) j d h e =
    let z : suc i * length xs + j ≡ length xs + (i * length xs + j) = step i (length xs) j in
    ap (slice_get (repeat (suc n) xs)) z ∙ get_back xs (repeat n xs) (i * length xs + j) ∙ repeat-at n xs i j d (omega (arith, h)) e
  where
    step : (i m j : ℕ) → suc i * m + j ≡ m + (i * m + j)
    step i m j = grind arith

module _ (w : Setting) (sound : IsWellFormed w.table) where
  pub sub-twice : (t v x : TypeId) (a b : ℕ) → IsSub w t a v → IsSub w v b x → IsSub w t (a + b) x
  sub-twice t v x a b p q = record {
    room = let r = p.room in let s = q.room in omega (arith, r, s);
    agree = λ j d e.
        let y = q.agree j d e in let z = p.agree (b + j) y.0 y.1 in
        let f : a + (b + j) ≡ a + b + j = omega arith in
        (z.0, ap (slice_get (cells_of w.table t)) (sym f) ∙ z.1, agree-twice w sound z.0 y.0 d z.2 y.2);
  }

  -- an element of an array
  pub sub-element : (t e : TypeId) (n i : ℕ) → shape_at w.table t ≡ Array e n → i < n → IsSub w t (i * size_of w.table e) e
  sub-element t e n i s h = record {
    room = subst (λ k. i * k + length (cells_of w.table e) ≤ length (cells_of w.table t)) size (room (length (cells_of w.table e)) long);
    agree =
        λ j d f. (
          d,
          ap (λ k. slice_get (cells_of w.table t) (i * k + j)) (sym size) ∙ ap (λ cs. slice_get cs (i * length (cells_of w.table e) + j)) cells
              ∙ repeat-at n (cells_of w.table e) i j d h f,
          agree-own w sound d,
        );
  }
    where
      part : IsComplete w.table e
      part =
          All-contains (IsComplete w.table) (e ∷ []) e
          (subst (λ s. All (IsComplete w.table) (parts_of_shape s (members_at w.table t))) s (sound.each t).parts) (0, omega arith, refl)

      size : length (cells_of w.table e) ≡ size_of w.table e
      size = (complete-some w.table sound e part).1

      cells : cells_of w.table t ≡ repeat n (cells_of w.table e)
      cells =
          cells_are w.table sound.order.0 sound.order.1 (physically_equal w.table) t ∙ ap
          (λ s. cells_of_shape w.table (physically_equal w.table) (cells_of w.table) t s (members_at w.table t)) s

      long : length (cells_of w.table t) ≡ n * length (cells_of w.table e)
      long = ap length cells ∙ rep-length n (cells_of w.table e)

      room : (m : ℕ) → length (cells_of w.table t) ≡ n * m → i * m + m ≤ length (cells_of w.table t)
      room m l = let k : suc i * m ≤ n * m = mul-le-mul_right m h in let z : suc i * m ≡ m + i * m = step i m in omega (arith, k, z, l)
        where
          step : (i m : ℕ) → suc i * m ≡ m + i * m
          step i m = grind arith

  -- a member, of a type that holds no mixed union
  agree-mixed : (c : Cell) (v : TypeId) (j : ℕ) → CellsAgree w.table w.kind c (mixed v j) → c ≡ mixed v j
  agree-mixed raw v j h = absurd h
  agree-mixed (pointer n t i) v j h = absurd h
  agree-mixed (mixed u i) v j h = ap (λ x. mixed x i) h.0 ∙ ap (mixed v) h.1
  agree-mixed (incomplete t) v j h = absurd h

  pub plain-sub : (t v : TypeId) (a : ℕ) → IsSub w t a v → ((x : TypeId) → HoldsMixed w.table t x → Prim.⊥) → (x : TypeId) → HoldsMixed w.table v x
      → Prim.⊥
  plain-sub t v a s plain x h = let y = s.agree h.0 (mixed x h.1) h.2 in plain x (a + h.0, h.1, y.1 ∙ ap Some (agree-mixed y.0 x h.1 y.2))

  module _ (allowed : (t : TypeId) (tag : ℕ) → shape_at w.table t ≡ Union tag → IsUnionAllowed w.table w.kind t) where
    pub sub-member : (t : TypeId) (i : ℕ) → IsAggregate w.table t → i < length (members_at w.table t)
        → ((x : TypeId) → HoldsMixed w.table t x → Prim.⊥) → IsSub w t (offset_of w.table t i) (member_at w.table t i)
    sub-member t i a h plain = by (shape_at w.table t) refl a
      where
        of-union : (tag : ℕ) → shape_at w.table t ≡ Union tag → IsSub w t (offset_of w.table t i) (member_at w.table t i)
        of-union tag e =
            let z : offset_of w.table t i ≡ 0 = ap
            (λ s. offset_of_shape s (map (layout_of w.table) (take i (members_at w.table t))) (layout_of w.table (member_at w.table t i))) e in
            let s : size_of w.table t ≡ (union_layout (map (layout_of w.table) (members_at w.table t))).size =
            ap (λ (l : Layout). l.size) (layout_is w.table sound.order.0 sound.order.1 t) ∙ ap
            (λ x. (layout_of_shape (layout_of w.table) x (members_at w.table t)).size) e in
            let m = at-most (layout_of w.table) (members_at w.table t) 0 i t h in
            let r = rounded_up (greatest_size (map (layout_of w.table) (members_at w.table t)))
            (greatest_align (map (layout_of w.table) (members_at w.table t))) in
            subst (λ k. IsSub w t k (member_at w.table t i)) (sym z)
            (sub-union w sound t tag i (member_at w.table t i) e (slice_get-get_or (members_at w.table t) i t h) (plain t) (allowed t tag e)
            (omega (arith, s, m, r)))

        by : (s : TypeShape) → shape_at w.table t ≡ s → is_aggregate_shape s ≡ true → IsSub w t (offset_of w.table t i) (member_at w.table t i)
        by (Struct tag) e f = sub-struct w sound t tag i e h
        by (Union tag) e f = of-union tag e
        by Void e f = absurd (cc (f))
        by (Integer b s) e f = absurd (cc (f))
        by (Pointer n u) e f = absurd (cc (f))
        by (Array u n) e f = absurd (cc (f))
        by (Function ps r) e f = absurd (cc (f))
